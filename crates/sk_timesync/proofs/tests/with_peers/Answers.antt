use Rattle.std.proofs.Common.{◌≡◌, ◌<◌, ◌+◌, [], ◌∷◌, arith, inl, inr}
use Rattle.std.proofs.lemmas.Bool.{cases_lt}
use Rattle.std.proofs.lemmas.List.Elements.{All-push, All-weaker, Contains-append_left, Contains-push}
use Rattle.sk_timesync.specs.Notes.{numbers}
use Rattle.sk_timesync.proofs.tests.with_peers.Goals as goal

pub loop-peer-preserved : goal.loop-peer-preserved
loop-peer-preserved c =
    let below = All-weaker (λ number. number < c.loop-peer.peer) (λ number. number < c.loop-peer.peer + 1) (λ x h. omega (arith, h)) (numbers c.loop-peer.steps) c.loop-peer.invariant.1 in (
      c.in_ok-add_peer.ensures.fresh,
      rw c.in_ok-add_peer.ensures.numbers (All-push (λ number. number < c.loop-peer.peer + 1) (numbers c.loop-peer.steps) c.loop-peer.peer below (omega arith)),
      λ number within. rw c.in_ok-add_peer.ensures.numbers (elim (cases_lt number c.loop-peer.peer) [
        | inl before ↦ Contains-append_left (numbers c.loop-peer.steps) (c.loop-peer.peer ∷ []) number (c.loop-peer.invariant.2 number before)
        | inr last ↦ let same : number ≡ c.loop-peer.peer = omega arith in rw same (Contains-push (numbers c.loop-peer.steps) c.loop-peer.peer)
      ]),
    )
