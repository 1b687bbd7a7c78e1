-- What was said on a link, and whether what comes next is in order.
use Rattle.std.specs.Prelude.{◌≡◌, refl, ℕ, Bool, true, false, not, ◌&&◌, ◌||◌, List, [], ◌∷◌, ◌++◌, Option, Some, None, if◌then◌else◌}
use Rattle.std.specs.List.{filter_map, cons_option, list_any, last_or}
use Rattle.std.specs.Option.{option_or}
use Rattle.std.proofs.lemmas.List.Folds.{list_any-append}
use Rattle.std.proofs.lemmas.List.Elements.{filter_map-append}
use Rattle.std.proofs.Common.{ap, sym, ◌∙◌, subst, append_assoc, append-nil, ⊎_elim}
use Rattle.sk_msg.specs.declared.content.Content.{Content}
use Rattle.sk_msg.specs.declared.content.Content.TheVariants as contents
use Rattle.sk_msg.specs.declared.head.Head.{Head}
use Rattle.sk_msg.specs.declared.service.Service.{Service}
use Rattle.sk_msg.specs.declared.service.ServiceKind.{ServiceKind}
use Rattle.sk_msg.specs.declared.service.ServiceKind.TheVariants as kinds
use Rattle.sk_msg.specs.declared.state.State.{State}
use Rattle.sk_law.specs.declared.said.Said.{Said}
use Rattle.sk_law.specs.Order.{is_hello, has_hello, is_services_end, is_leave, says_synchronised, says_coordinated, service_in, time_in, state_in, said_of, said_after, is_sendable, opens, follows, may_say}
use Rattle.sk_law_world.proofs.Lists.{split}

-- it comes in order behind the Hello
abbrev pub fits : Said → Content → Bool
fits s m = not s.left && follows s m

-- the kind of service that sends a data message
abbrev pub sent_by : Content → Option ServiceKind
sent_by (contents.Can head frame) = Some kinds.Can
sent_by (contents.Eth head payload) = Some kinds.Ethernet
sent_by (contents.Lin head frame) = Some kinds.Lin
sent_by (contents.LinResponse head response) = Some kinds.Lin
sent_by (contents.Publish head payload) = Some kinds.Publisher
sent_by (contents.Call head call payload) = Some kinds.Client
sent_by (contents.Reply head client call payload) = Some kinds.Server
sent_by _ = None

abbrev pub sendable : Said → Option ServiceKind → Option Head → Bool
sendable s (Some kind) (Some head) = is_sendable s kind head
sendable s _ _ = false

-- ## One message more

or_no : (b : Bool) → (b || false) ≡ b
or_no true = refl
or_no false = refl

or_yes : (b : Bool) → (b || true) ≡ true
or_yes true = refl
or_yes false = refl

any_add : (test : Content → Bool) (ms : List Content) (m : Content) → list_any test (ms ++ m ∷ []) ≡ (list_any test ms || test m)
any_add test ms m = list_any-append test ms (m ∷ []) ∙ ap (λ b. list_any test ms || b) (or_no (test m))

last_add : {X : Type 0} (o : Option X) (f : Content → Option X) (ms : List Content) (m : Content) → last_or o (filter_map f (ms ++ m ∷ [])) ≡ option_or (f m) (last_or o (filter_map f ms))
last_add {X} o f [] m = one (f m)
  where
    one : (x : Option X) → last_or o (cons_option x []) ≡ option_or x o
    one None = refl
    one (Some x) = refl
last_add {X} o f (y ∷ ms) m = by (f y) (λ p. last_add p f ms m)
  where
    by : (x : Option X) → ((p : Option X) → last_or p (filter_map f (ms ++ m ∷ [])) ≡ option_or (f m) (last_or p (filter_map f ms))) →
        last_or o (cons_option x (filter_map f (ms ++ m ∷ []))) ≡ option_or (f m) (last_or o (cons_option x (filter_map f ms)))
    by None h = h o
    by (Some x) h = h (Some x)

abbrev said : Bool → Bool → Bool → List Service → Bool → Option ℕ → Option State → Bool → Said
said hello coordinated synchronised services ended announced status left = record {
  hello = hello;
  coordinated = coordinated;
  synchronised = synchronised;
  services = services;
  ended = ended;
  announced = announced;
  status = status;
  left = left;
}

said_eq : {a a' b b' c c' : Bool} {d d' : List Service} {e e' : Bool} {f f' : Option ℕ} {g g' : Option State} {h h' : Bool} →
    a ≡ a' → b ≡ b' → c ≡ c' → d ≡ d' → e ≡ e' → f ≡ f' → g ≡ g' → h ≡ h' → said a b c d e f g h ≡ said a' b' c' d' e' f' g' h'
said_eq {a} {a'} {b} {b'} {c} {c'} {d} {d'} {e} {e'} {f} {f'} {g} {g'} {h} {h'} p q r s t u v w =
    ap (λ x. said x b c d e f g h) p ∙ ap (λ x. said a' x c d e f g h) q ∙ ap (λ x. said a' b' x d e f g h) r ∙ ap (λ x. said a' b' c' x e f g h) s
    ∙ ap (λ x. said a' b' c' d' x f g h) t ∙ ap (λ x. said a' b' c' d' e' x g h) u ∙ ap (λ x. said a' b' c' d' e' f' x h) v ∙ ap (λ x. said a' b' c' d' e' f' g' x) w

abbrev longer : Said → Content → Said
longer s m = said (s.hello || is_hello m) (s.coordinated || says_coordinated m) (s.synchronised || says_synchronised m) (s.services ++ cons_option (service_in m) [])
    (s.ended || is_services_end m) (option_or (time_in m) s.announced) (option_or (state_in m) s.status) (s.left || is_leave m)

said_longer : (ms : List Content) (m : Content) → said_of (ms ++ m ∷ []) ≡ longer (said_of ms) m
said_longer ms m = said_eq (any_add is_hello ms m) (any_add says_coordinated ms m) (any_add says_synchronised ms m) (filter_map-append service_in ms (m ∷ []))
    (any_add is_services_end ms m) (last_add None time_in ms m) (last_add None state_in ms m) (any_add is_leave ms m)

longer_is : (s : Said) (m : Content) → longer s m ≡ said_after s m
longer_is s (contents.Hello name role address) = said_eq (or_yes s.hello) refl refl (append-nil s.services) (or_no s.ended) refl refl (or_no s.left)
longer_is s (contents.Leave) = said_eq (or_no s.hello) (or_no s.coordinated) (or_no s.synchronised) (append-nil s.services) (or_no s.ended) refl refl (or_yes s.left)
longer_is s (contents.NextStep at size) = said_eq (or_no s.hello) (or_no s.coordinated) (or_no s.synchronised) (append-nil s.services) (or_no s.ended) refl refl (or_no s.left)
longer_is s (contents.ServiceAdd service) = said_eq (or_no s.hello) (or_no s.coordinated) (or_no s.synchronised) refl (or_no s.ended) refl refl (or_no s.left)
longer_is s (contents.ServicesEnd) = said_eq (or_no s.hello) (or_no s.coordinated) (or_no s.synchronised) (append-nil s.services) (or_yes s.ended) refl refl (or_no s.left)
longer_is s (contents.Status state until) = said_eq (or_no s.hello) (or_no s.coordinated) (or_no s.synchronised) (append-nil s.services) (or_no s.ended) refl refl (or_no s.left)
longer_is s (contents.Workflow required) = said_eq (or_no s.hello) (or_no s.coordinated) (or_no s.synchronised) (append-nil s.services) (or_no s.ended) refl refl (or_no s.left)
longer_is s (contents.Abort) = said_eq (or_no s.hello) (or_no s.coordinated) (or_no s.synchronised) (append-nil s.services) (or_no s.ended) refl refl (or_no s.left)
longer_is s (contents.Can head frame) = said_eq (or_no s.hello) (or_no s.coordinated) (or_no s.synchronised) (append-nil s.services) (or_no s.ended) refl refl (or_no s.left)
longer_is s (contents.Eth head payload) = said_eq (or_no s.hello) (or_no s.coordinated) (or_no s.synchronised) (append-nil s.services) (or_no s.ended) refl refl (or_no s.left)
longer_is s (contents.Lin head frame) = said_eq (or_no s.hello) (or_no s.coordinated) (or_no s.synchronised) (append-nil s.services) (or_no s.ended) refl refl (or_no s.left)
longer_is s (contents.LinResponse head response) = said_eq (or_no s.hello) (or_no s.coordinated) (or_no s.synchronised) (append-nil s.services) (or_no s.ended) refl refl (or_no s.left)
longer_is s (contents.Publish head payload) = said_eq (or_no s.hello) (or_no s.coordinated) (or_no s.synchronised) (append-nil s.services) (or_no s.ended) refl refl (or_no s.left)
longer_is s (contents.Call head call payload) = said_eq (or_no s.hello) (or_no s.coordinated) (or_no s.synchronised) (append-nil s.services) (or_no s.ended) refl refl (or_no s.left)
longer_is s (contents.Reply head client call payload) = said_eq (or_no s.hello) (or_no s.coordinated) (or_no s.synchronised) (append-nil s.services) (or_no s.ended) refl refl (or_no s.left)
longer_is s (contents.Refuse reason) = said_eq (or_no s.hello) (or_no s.coordinated) (or_no s.synchronised) (append-nil s.services) (or_no s.ended) refl refl (or_no s.left)

pub said_add : (ms : List Content) (m : Content) → said_of (ms ++ m ∷ []) ≡ said_after (said_of ms) m
said_add ms m = said_longer ms m ∙ longer_is (said_of ms) m

-- behind the Hello
pub may_say_is : (name : List ℕ) (ms : List Content) (m : Content) → has_hello ms ≡ true → may_say false name (said_of ms) m ≡ fits (said_of ms) m
unfolding may_say
may_say_is name ms m h = ap (λ b. if b then fits (said_of ms) m else opens false name m) h

-- ## In order

abbrev pub IsOrderly : List ℕ → List Content → Type 0
IsOrderly name ms = (front : List Content) (m : Content) (rest : List Content) → ms ≡ front ++ m ∷ rest → may_say false name (said_of front) m ≡ true

pub orderly_add : (name : List ℕ) (ms : List Content) (m : Content) → IsOrderly name ms → may_say false name (said_of ms) m ≡ true → IsOrderly name (ms ++ m ∷ [])
orderly_add name ms m h may front x rest e = ⊎_elim
    (λ (a : (more : List Content) × (ms ≡ front ++ x ∷ more)). let r : may_say false name (said_of front) x ≡ true = h front x a.0 a.1 in r)
    (λ (a : (more : List Content) × (front ≡ ms ++ more) × (m ∷ [] ≡ more ++ x ∷ rest)).
    let r : may_say false name (said_of front) x ≡ true = last a.0 a.1 a.2 in r)
    (split ms (m ∷ []) front x rest e)
  where
    last : (more : List Content) → front ≡ ms ++ more → m ∷ [] ≡ more ++ x ∷ rest → may_say false name (said_of front) x ≡ true
    last [] f g = let same : m ≡ x = cc in ap (λ z. may_say false name (said_of z) x) (f ∙ append-nil ms) ∙ ap (may_say false name (said_of ms)) (sym same) ∙ may
    last (y ∷ []) f g = absurd cc
    last (y ∷ z ∷ more) f g = absurd cc

-- these come in order, and then that was said
abbrev pub Runs : Said → List Content → Said → Type 0
Runs s [] e = s ≡ e
Runs s (m ∷ ms) e = (fits s m ≡ true) × Runs (said_after s m) ms e

hello_after : (s : Said) (m : Content) → s.hello ≡ true → (said_after s m).hello ≡ true
hello_after s (contents.Hello name role address) h = refl
hello_after s contents.Leave h = h
hello_after s (contents.NextStep at size) h = h
hello_after s (contents.ServiceAdd service) h = h
hello_after s contents.ServicesEnd h = h
hello_after s (contents.Status state until) h = h
hello_after s (contents.Workflow required) h = h
hello_after s contents.Abort h = h
hello_after s (contents.Refuse reason) h = h
hello_after s (contents.Can head' frame) h = h
hello_after s (contents.Eth head' payload) h = h
hello_after s (contents.Lin head' frame) h = h
hello_after s (contents.LinResponse head' response) h = h
hello_after s (contents.Publish head' payload) h = h
hello_after s (contents.Call head' call payload) h = h
hello_after s (contents.Reply head' client call payload) h = h

pub orderly_run : (name : List ℕ) (ms more : List Content) (e : Said) → IsOrderly name ms → has_hello ms ≡ true → Runs (said_of ms) more e → IsOrderly name (ms ++ more) × (said_of (ms ++ more) ≡ e)
orderly_run name ms [] e h met runs = (subst (IsOrderly name) (sym (append-nil ms)) h, ap said_of (append-nil ms) ∙ runs)
orderly_run name ms (m ∷ more) e h met runs =
    let r = orderly_run name (ms ++ m ∷ []) more e (orderly_add name ms m h (may_say_is name ms m met ∙ runs.0))
    (ap (λ (s : Said). s.hello) (said_add ms m) ∙ hello_after (said_of ms) m met) (subst (λ s. Runs s more e) (sym (said_add ms m)) runs.1) in
    subst (λ x. IsOrderly name x × (said_of x ≡ e)) (append_assoc ms (m ∷ []) more) r
