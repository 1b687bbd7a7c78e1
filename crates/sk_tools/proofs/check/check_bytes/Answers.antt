use Rattle.sk_tools.proofs.check.check_bytes.Goals as goal

pub returns-in-Ok-clause-said : goal.returns-in-Ok-clause-said
returns-in-Ok-clause-said g c = rw c.in-Ok.ensures.read c.write_config.ensures.said
