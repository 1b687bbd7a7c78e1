use Rattle.sk_mesh.proofs.Beginnings.{IsPrefix-trans}
use Rattle.sk_mesh.proofs.outlet.Outlet.beside.Goals as goal

pub returns-clause-longer : goal.returns-clause-longer
returns-clause-longer c =
    rw (← c.inlet.view_is) (IsPrefix-trans _ _ _ c.slots_beside-self-inside.ensures.consumer.2 c.slots_beside.ensures.looked.2)
