use Rattle.sk_timesync.proofs.tests.play.Goals as goal

pub make-requires : goal.make-requires
make-requires g c = λ peer within. rw c.loop-note.invariant (c.requires peer within)
