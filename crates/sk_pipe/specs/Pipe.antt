-- What `pipe` writes, as a function of the bytes taken.
use Rattle.std.specs.Prelude.{ℕ, zero, suc, ◌+◌, ◌*◌, Bool, true, false, not, ◌&&◌, ◌||◌, nat_lt, nat_le, is_some, Option, Some, None, List, [], ◌∷◌, ◌++◌, if◌then◌else◌}
use Rattle.std.specs.List.{list_any}
use Rattle.sk_msg.specs.declared.role.Role.TheVariants.{Participant}
use Rattle.sk_msg.specs.declared.content.Content.{Content}
use Rattle.sk_msg.specs.declared.content.Content.TheVariants.{Hello, Leave, NextStep}
use Rattle.sk_wire.specs.Grammar.{spelling}
use Rattle.sk_wire.specs.Parts.{messages, fault}
use Rattle.sk_msg.specs.Roles.{is_synchronised_role}
use Rattle.sk_pipe.specs.declared.peer.PeerEnding.{PeerEnding}
use Rattle.sk_pipe.specs.declared.peer.PeerEnding.TheVariants.{Left, Broken}

-- ## The peer's messages

-- a kind that `pipe` passes over: all but Hello, Leave and NextStep
abbrev pub is_passed_over : Content → Bool
is_passed_over (Hello name role address) = false
is_passed_over Leave = false
is_passed_over (NextStep at duration) = false
is_passed_over _ = true

abbrev pub is_hello : Content → Bool
is_hello (Hello name role address) = true
is_hello _ = false

-- the Hello of an unsynchronised peer
abbrev pub is_unsynchronised_hello : Content → Bool
is_unsynchronised_hello (Hello name role address) = not (is_synchronised_role role)
is_unsynchronised_hello _ = false

abbrev pub is_leave : Content → Bool
is_leave Leave = true
is_leave _ = false

-- a NextStep at t or later
abbrev pub announces : ℕ → Content → Bool
announces t (NextStep at duration) = nat_le t at
announces t _ = false

-- behind these messages this one is out of order: a first one that isn't Hello, a second Hello, a NextStep of an
-- unsynchronised peer, a NextStep that doesn't rise
abbrev pub is_out_of_order : List Content → Content → Bool
is_out_of_order before (Hello name role address) = list_any is_hello before
is_out_of_order before Leave = not (list_any is_hello before)
is_out_of_order before (NextStep at duration) =
    not (list_any is_hello before) || list_any is_unsynchronised_hello before || list_any (announces at) before
is_out_of_order before _ = false

-- behind those before, without those passed over: up to and with Leave, or up to and without the first out of order
abbrev pub orderly : List Content → List Content → List Content
orderly before [] = before
orderly before (m ∷ ms) =
    if is_passed_over m then orderly before ms
    else if is_out_of_order before m then before
    else if is_leave m then before ++ m ∷ []
    else orderly (before ++ m ∷ []) ms

-- what ended them: a Leave in order, or a message out of order
abbrev pub end_among : List Content → List Content → Option PeerEnding
end_among before [] = None
end_among before (m ∷ ms) =
    if is_passed_over m then end_among before ms
    else if is_out_of_order before m then Some Broken
    else if is_leave m then Some Left
    else end_among (before ++ m ∷ []) ms

-- or bytes that are no message, where nothing else did
abbrev pub or_fault : Option PeerEnding → Bool → Option PeerEnding
or_fault (Some ending) bad = Some ending
or_fault None bad = if bad then Some Broken else None

-- of the bytes taken: the messages that count, and what ended them
abbrev pub heard : List ℕ → List Content
heard b = orderly [] (messages b)

abbrev pub end_of : List ℕ → Option PeerEnding
end_of b = or_fault (end_among [] (messages b)) (is_some (fault b))

-- ## What is written

-- the step at t may be taken: Hello was got, and the peer is unsynchronised, has left, or has announced t or later
abbrev pub may_begin : List Content → ℕ → Bool
may_begin ms t = list_any is_hello ms && (list_any is_unsynchronised_hello ms || list_any is_leave ms || list_any (announces t) ms)

-- how many numbers below n pass the test
abbrev pub count_below : (ℕ → Bool) → ℕ → ℕ
count_below test zero = 0
count_below test (suc n) = count_below test n + (if test n then 1 else 0)

-- how many whole numbers i with i * step below the duration have a step that may be taken; such an i is below the duration
abbrev pub steps_begun : ℕ → ℕ → List Content → ℕ
steps_begun step duration ms = count_below (λ i. nat_lt (i * step) duration && may_begin ms (i * step)) duration

-- a synchronised, autonomous participant of this name
unfoldable pub hello : List ℕ → List ℕ
hello name = spelling (Hello name (Participant false true) [])

unfoldable pub next_step : ℕ → ℕ → List ℕ
next_step at step = spelling (NextStep at step)

unfoldable pub leave : List ℕ
leave = spelling Leave

-- NextStep at i * step for i from 0 to n
abbrev pub announcements : ℕ → ℕ → List ℕ
announcements step zero = next_step 0 step
announcements step (suc i) = announcements step i ++ next_step (suc i * step) step

-- after n steps: Hello, the announcements, and Leave where the next time isn't below the duration
abbrev pub output : List ℕ → ℕ → ℕ → ℕ → List ℕ
output name step duration n = hello name ++ announcements step n ++ (if nat_lt (n * step) duration then [] else leave)

abbrev pub pipe_out : List ℕ → ℕ → ℕ → List ℕ → List ℕ
pipe_out name step duration b = output name step duration (steps_begun step duration (heard b))
