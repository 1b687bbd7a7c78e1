use Rattle.sk_script.proofs.ServiceLaws.{labels_fit}
use Rattle.sk_script.proofs.service.read_full_spec.Goals as goal

pub with_labels-requires : goal.with_labels-requires
with_labels-requires c = labels_fit _ _ _ c.in_ok-labels.ensures
