-- What is put to a peer keeps the order of its link: so announcements to it rise, and marked messages have the last one's stamp.
use Rattle.std.specs.Prelude.{◌≡◌, ◌<◌, refl, ℕ, ◌==◌, Bool, true, false, not, ◌&&◌, ◌||◌, List, ◌∷◌, ◌++◌, Some, None, slice_get, if◌then◌else◌}
use Rattle.std.specs.List.{cons_option}
use Rattle.std.proofs.lemmas.Bool.{and_parts}
use Rattle.std.proofs.lemmas.Bool.Decides.{nat_tests}
use Rattle.std.proofs.Common.{ap, sym, ◌∙◌, arith}
use Rattle.sk_msg.specs.declared.content.Content.{Content}
use Rattle.sk_msg.specs.declared.content.Content.TheVariants as contents
use Rattle.sk_msg.specs.declared.entry.Entry.{Entry}
use Rattle.sk_msg.specs.declared.entry.Entry.TheVariants.{Put}
use Rattle.sk_msg.specs.declared.head.Head.{Head}
use Rattle.sk_msg.specs.declared.service.ServiceKind.{ServiceKind}
use Rattle.sk_msg.specs.declared.service.ServiceKind.TheVariants as kinds
use Rattle.sk_law.specs.declared.made.Made.{Made}
use Rattle.sk_law.specs.declared.said.Said.{Said}
use Rattle.sk_law.specs.declared.setup.Setup.{Setup}
use Rattle.sk_law.specs.Past.{Past}
use Rattle.sk_law.specs.Readings.{put}
use Rattle.sk_law.specs.Order.{said_of, is_above, is_at, has_kind, is_sendable, opens, follows, may_say}
use Rattle.sk_law.specs.Links.{own_name, is_peer}
use Rattle.sk_law.specs.Lawful.{Lawful}
use Rattle.sk_law.specs.Setups.{IsSetup}
use Rattle.sk_law_world.specs.Announced.{AnnouncedRise, StampIsAnnounced}
use Rattle.sk_law_world.proofs.Tellings.{put-append}
use Rattle.sk_law_world.proofs.Orders.{puts_in_order}

put_here : (es before after : List Entry) (q : ℕ) (m : Content) → es ≡ before ++ Put q m ∷ after → put es q ≡ put before q ++ m ∷ put after q
put_here es before after q m e =
    ap (λ xs. put xs q) e ∙ put-append before (Put q m ∷ after) q
    ∙ ap (λ b. put before q ++ cons_option (if b then Some m else None) (put after q)) (let t : (q == q) ≡ true = grind (arith, nat_tests) in t)

-- what isn't the Hello follows it
behind_hello : (name : List ℕ) (s : Said) (m : Content) → opens false name m ≡ false → may_say false name s m ≡ true → follows s m ≡ true
unfolding may_say
behind_hello name s m other h = on s.hello h
  where
    on : (b : Bool) → (if b then not s.left && follows s m else opens false name m) ≡ true → follows s m ≡ true
    on true e = (and_parts (not s.left) (follows s m) e).1
    on false e = let k = sym other ∙ e in absurd cc

followed : (S : Setup) (past : Past) (made : List Made) → Lawful S past made → IsSetup S → (q : ℕ) → is_peer S q ≡ true → (before : List Entry) (m : Content) (after : List Entry) →
    past.journal ≡ before ++ Put q m ∷ after → opens false (own_name S) m ≡ false → follows (said_of (put before q)) m ≡ true
followed S past made law setup q peer before m after e other =
    behind_hello (own_name S) (said_of (put before q)) m other
    ((puts_in_order S past made law setup q peer).order (put before q) m (put after q) (put_here past.journal before after q m e))

pub rise : AnnouncedRise
rise S past made law setup q peer before at size after e =
    let f = followed S past made law setup q peer before (contents.NextStep at size) after e refl in
    let s : Said = said_of (put before q) in
    let g = and_parts s.ended (s.synchronised && is_above s.announced at) f in
    (and_parts s.synchronised (is_above s.announced at) g.1).1

or_last : (a b : Bool) → (a || b) ≡ true → a ≡ false → b ≡ true
or_last true b h e = absurd cc
or_last false b h e = h

sent_then : (s : Said) (kind : ServiceKind) (head : Head) → (s.ended && is_sendable s kind head) ≡ true → 0 < head.mark → is_at s.announced head.stamp ≡ true
sent_then s kind head h marked =
    let f = (and_parts s.ended (is_sendable s kind head) h).1 in
    let g = (and_parts (has_kind kind (slice_get s.services head.service)) (head.mark == 0 || is_at s.announced head.stamp) f).1 in
    or_last (head.mark == 0) (is_at s.announced head.stamp) g (let t : (head.mark == 0) ≡ false = grind (arith, nat_tests) in t)

pub stamped : StampIsAnnounced
stamped S past made law setup q peer before (contents.Can head frame) after e = λ marked. sent_then (said_of (put before q)) kinds.Can head (followed S past made law setup q peer before (contents.Can head frame) after e refl) marked
stamped S past made law setup q peer before (contents.Eth head payload) after e = λ marked. sent_then (said_of (put before q)) kinds.Ethernet head (followed S past made law setup q peer before (contents.Eth head payload) after e refl) marked
stamped S past made law setup q peer before (contents.Lin head frame) after e = λ marked. sent_then (said_of (put before q)) kinds.Lin head (followed S past made law setup q peer before (contents.Lin head frame) after e refl) marked
stamped S past made law setup q peer before (contents.LinResponse head response) after e = λ marked. sent_then (said_of (put before q)) kinds.Lin head (followed S past made law setup q peer before (contents.LinResponse head response) after e refl) marked
stamped S past made law setup q peer before (contents.Publish head payload) after e = λ marked. sent_then (said_of (put before q)) kinds.Publisher head (followed S past made law setup q peer before (contents.Publish head payload) after e refl) marked
stamped S past made law setup q peer before (contents.Call head call payload) after e = λ marked. sent_then (said_of (put before q)) kinds.Client head (followed S past made law setup q peer before (contents.Call head call payload) after e refl) marked
stamped S past made law setup q peer before (contents.Reply head client call payload) after e = λ marked. sent_then (said_of (put before q)) kinds.Server head (followed S past made law setup q peer before (contents.Reply head client call payload) after e refl) marked
stamped S past made law setup q peer before (contents.Hello name role address) after e = tt
stamped S past made law setup q peer before contents.Leave after e = tt
stamped S past made law setup q peer before (contents.NextStep at size) after e = tt
stamped S past made law setup q peer before (contents.ServiceAdd service) after e = tt
stamped S past made law setup q peer before contents.ServicesEnd after e = tt
stamped S past made law setup q peer before (contents.Status state until) after e = tt
stamped S past made law setup q peer before (contents.Workflow required) after e = tt
stamped S past made law setup q peer before contents.Abort after e = tt
stamped S past made law setup q peer before (contents.Refuse reason) after e = tt
