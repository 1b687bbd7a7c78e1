use Rattle.sk_script.proofs.ServiceLaws.{no_text}
use Rattle.sk_script.proofs.service.no_text.Goals as goal

pub unreachable-requires : goal.unreachable-requires
unreachable-requires c = let none = rw (c.as_bytes.ensures.value, no_text, c.in-None.is) at c.in_ok-text.ensures.reads in absurd cc
