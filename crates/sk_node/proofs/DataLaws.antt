-- What actions on publishers, clients and servers come to.
use Rattle.std.specs.Prelude.{◌≡◌, ◌<◌, refl, ℕ, ◌+◌, ◌^◌, Bool, true, false, not, List, IsTrue, nat_le, if◌then◌else◌}
use Rattle.std.proofs.Common.{ap, sym, ◌∙◌, arith}
use Rattle.std.proofs.lemmas.Bool.{and_from, le-leb, true≢false}
use Rattle.sk_msg.specs.Rules.{is_call}
use Rattle.sk_msg.specs.declared.content.Content.{Content}
use Rattle.sk_msg.specs.declared.content.Content.TheVariants as contents
use Rattle.sk_msg.specs.declared.head.Head.{Head}
use Rattle.sk_pubsub.specs.Publishing.{Publishing, published}
use Rattle.sk_rpc.specs.OpenCalls.{call_of, has_call, without}
use Rattle.sk_rpc.specs.declared.open_call.OpenCall.{OpenCall}
use Rattle.sk_law.specs.declared.memory.ServiceState.{ServiceState}
use Rattle.sk_law.specs.declared.memory.ServiceState.TheVariants as states
use Rattle.sk_law.specs.Outcomes.{Outcome, refused, sends}
use Rattle.sk_node.specs.Acting.{outcome_by, publishes, calls, submits}
use Rattle.sk_node.specs.declared.services.Answer.{Answer}

-- the next number of a client is one that a call may have
pub next_is : (made number : ℕ) → made < 2 ^ 63 → number ≡ made + 1 → IsTrue (is_call number)
unfolding is_call
next_is made number few e = and_from (nat_le 1 number) (nat_le number (2 ^ 63)) (le-leb 1 number (omega arith)) (le-leb number (2 ^ 63) (omega arith))

passes : (found : Bool) (a c : Outcome) → found ≡ true → c ≡ (if not found then a else c)
passes true a c e = refl
passes false a c e = absurd (true≢false (sym e))

fails : (found : Bool) (a c : Outcome) → found ≡ false → a ≡ (if not found then a else c)
fails false a c e = refl
fails true a c e = absurd (true≢false e)

pub publish_sent : (to : List ℕ) (head : Head) (last told payload : List ℕ) (m : Content) (at : ServiceState) (p new : Publishing) (r : Answer) →
    at ≡ states.Publisher p → last ≡ payload → told ≡ payload → m ≡ contents.Publish head told → new ≡ published last p → ((at : ServiceState) → outcome_by r at ≡ sends to m at) →
    outcome_by r (states.Publisher new) ≡ publishes to head payload at
publish_sent to head last told payload m at p new r e l t is n sent =
    sent (states.Publisher new)
    ∙ ap (λ x. sends to x (states.Publisher new)) (is ∙ ap (contents.Publish head) t)
    ∙ ap (λ x. sends to (contents.Publish head payload) (states.Publisher x)) (n ∙ ap (λ x. published x p) l)
    ∙ ap (publishes to head payload) (sym e)

pub call_sent : (found : Bool) (to : List ℕ) (head : Head) (told payload : List ℕ) (m : Content) (at : ServiceState) (made new number : ℕ) (r : Answer) →
    at ≡ states.Client made → found ≡ true → told ≡ payload → m ≡ contents.Call head number told → number ≡ made + 1 → new ≡ made + 1 → ((at : ServiceState) → outcome_by r at ≡ sends to m at) →
    outcome_by r (states.Client new) ≡ calls found to head payload at
call_sent found to head told payload m at made new number r e f t is k n sent =
    sent (states.Client new)
    ∙ ap (λ x. sends to x (states.Client new)) (is ∙ ap (contents.Call head number) t ∙ ap (λ x. contents.Call head x payload) k)
    ∙ ap (λ x. sends to (contents.Call head (made + 1) payload) (states.Client x)) n
    ∙ passes found (refused 3 (states.Client made)) (sends to (contents.Call head (made + 1) payload) (states.Client (made + 1))) f
    ∙ ap (calls found to head payload) (sym e)

pub call_not : (found : Bool) (to : List ℕ) (head : Head) (payload : List ℕ) (at : ServiceState) (made : ℕ) (r : Answer) →
    at ≡ states.Client made → found ≡ false → ((at : ServiceState) → outcome_by r at ≡ refused 3 at) → outcome_by r (states.Client made) ≡ calls found to head payload at
call_not found to head payload at made r e f is =
    is (states.Client made)
    ∙ fails found (refused 3 (states.Client made)) (sends to (contents.Call head (made + 1) payload) (states.Client (made + 1))) f
    ∙ ap (calls found to head payload) (sym e)

pub submit_not : (to : List ℕ) (head : Head) (peer client call : ℕ) (payload : List ℕ) (at : ServiceState) (open_calls new : List OpenCall) (r : Answer) →
    at ≡ states.Server open_calls → new ≡ open_calls → has_call (call_of peer client call) open_calls ≡ false → ((at : ServiceState) → outcome_by r at ≡ refused 4 at) →
    outcome_by r (states.Server new) ≡ submits to head peer client call payload at
submit_not to head peer client call payload at open_calls new r e n h is =
    is (states.Server new)
    ∙ ap (λ x. refused 4 (states.Server x)) n
    ∙ fails (has_call (call_of peer client call) open_calls) (refused 4 (states.Server open_calls))
    (sends to (contents.Reply head client call payload) (states.Server (without (call_of peer client call) open_calls))) h
    ∙ ap (submits to head peer client call payload) (sym e)
