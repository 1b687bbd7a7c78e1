use Rattle.std.proofs.Common.{set}
use Rattle.sk_mesh.proofs.Writes.{account}
use Rattle.sk_mesh.proofs.Besides.{Beside, beside}
use Rattle.sk_mesh.proofs.ends.Ends.beside.Goals as goal

pub returns-clause-mine : goal.returns-clause-mine
returns-clause-mine c =
    let x' = c.look.new.mine in let y' = c.look.new.theirs in
    let n = c.self.inside.number in let m = c.other.inside.number in
    let d : Beside c.args.self.now c.args.other.now (account n (set c.self.inside.pairs.items m x')) (account m (set c.other.inside.pairs.items n y')) =
    beside n m c.self.inside.pairs.items c.other.inside.pairs.items _ _ c.index_mut.result.now x' c.index_mut-2.result.now y' c.self.view_is c.other.view_is c.requires
    c.index_mut.ensures.value c.index_mut-2.ensures.value c.look.ensures.mine c.look.ensures.theirs c.look.ensures.there c.look.ensures.back in
    d.mine

pub returns-clause-theirs : goal.returns-clause-theirs
returns-clause-theirs c =
    let x' = c.look.new.mine in let y' = c.look.new.theirs in
    let n = c.self.inside.number in let m = c.other.inside.number in
    let d : Beside c.args.self.now c.args.other.now (account n (set c.self.inside.pairs.items m x')) (account m (set c.other.inside.pairs.items n y')) =
    beside n m c.self.inside.pairs.items c.other.inside.pairs.items _ _ c.index_mut.result.now x' c.index_mut-2.result.now y' c.self.view_is c.other.view_is c.requires
    c.index_mut.ensures.value c.index_mut-2.ensures.value c.look.ensures.mine c.look.ensures.theirs c.look.ensures.there c.look.ensures.back in
    d.theirs

pub returns-clause-agrees : goal.returns-clause-agrees
returns-clause-agrees c =
    let x' = c.look.new.mine in let y' = c.look.new.theirs in
    let n = c.self.inside.number in let m = c.other.inside.number in
    let d : Beside c.args.self.now c.args.other.now (account n (set c.self.inside.pairs.items m x')) (account m (set c.other.inside.pairs.items n y')) =
    beside n m c.self.inside.pairs.items c.other.inside.pairs.items _ _ c.index_mut.result.now x' c.index_mut-2.result.now y' c.self.view_is c.other.view_is c.requires
    c.index_mut.ensures.value c.index_mut-2.ensures.value c.look.ensures.mine c.look.ensures.theirs c.look.ensures.there c.look.ensures.back in
    d.agrees

pub returns-clause-knows : goal.returns-clause-knows
returns-clause-knows c =
    let x' = c.look.new.mine in let y' = c.look.new.theirs in
    let n = c.self.inside.number in let m = c.other.inside.number in
    let d : Beside c.args.self.now c.args.other.now (account n (set c.self.inside.pairs.items m x')) (account m (set c.other.inside.pairs.items n y')) =
    beside n m c.self.inside.pairs.items c.other.inside.pairs.items _ _ c.index_mut.result.now x' c.index_mut-2.result.now y' c.self.view_is c.other.view_is c.requires
    c.index_mut.ensures.value c.index_mut-2.ensures.value c.look.ensures.mine c.look.ensures.theirs c.look.ensures.there c.look.ensures.back in
    d.knows

pub returns-clause-in_order : goal.returns-clause-in_order
returns-clause-in_order c =
    let x' = c.look.new.mine in let y' = c.look.new.theirs in
    let n = c.self.inside.number in let m = c.other.inside.number in
    let d : Beside c.args.self.now c.args.other.now (account n (set c.self.inside.pairs.items m x')) (account m (set c.other.inside.pairs.items n y')) =
    beside n m c.self.inside.pairs.items c.other.inside.pairs.items _ _ c.index_mut.result.now x' c.index_mut-2.result.now y' c.self.view_is c.other.view_is c.requires
    c.index_mut.ensures.value c.index_mut-2.ensures.value c.look.ensures.mine c.look.ensures.theirs c.look.ensures.there c.look.ensures.back in
    d.in_order
