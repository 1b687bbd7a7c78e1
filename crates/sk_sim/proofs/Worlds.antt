-- Those who stand still make a lawful world, in which all that was put was got.
use Rattle.std.proofs.Common.{◌≡◌, ◌≢◌, ℕ, zero, suc, ◌<◌, ◌==◌, nat_lt, Bool, true, false, not, ◌&&◌, ◌||◌, IsTrue, List, [], ◌∷◌, ◌++◌, length, map, Option, Some, None, refl, sym, ◌∙◌, ap, arith, append_assoc, append-nil, inl, inr, if◌then◌else◌}
use Rattle.std.specs.List.{slice_get, list_all, cons_option}
use Rattle.std.proofs.lemmas.Bool.{cases_Bool, false_from_ne_true, and_parts, and_from, ltb-true, lt-ltb, eqb-true, eq-eqb, ne_eqb}
use Rattle.std.proofs.lemmas.Option.{same_Some, none-some, slice_get_within}
use Rattle.std.proofs.lemmas.List.Elements.{filter_map-append}
use Rattle.std.proofs.lemmas.List.Folds.{list_all-append}
use Rattle.sk_msg.specs.declared.entry.Entry.{Entry}
use Rattle.sk_msg.specs.declared.entry.Entry.TheVariants.{Gone}
use Rattle.sk_law.specs.declared.setup.Setup.{Setup}
use Rattle.sk_law.specs.Setups.{IsSetup}
use Rattle.sk_law.specs.Lawful.{Lawful}
use Rattle.sk_law.specs.Order.{has_left}
use Rattle.sk_law.specs.Readings.{got, put, gones, gone_of, is_gone, is_gone_entry}
use Rattle.sk_law.specs.Links.{is_peer, is_tool, is_open, from, own_name}
use Rattle.sk_law.specs.World.{Member, IsWorld, are_sorted}
use Rattle.sk_law_world.specs.Heard.{AreAgreed, NoneOutOfOrder, PutsAreInOrder}
use Rattle.sk_mesh.specs.Places.{Place, size}
use Rattle.sk_sim.specs.Cards.{Card, waits_at}
use Rattle.sk_sim.specs.Rounds.{AllStill}
use Rattle.sk_sim.proofs.Lists.{slice_get-some}
use Rattle.sk_sim.proofs.Leaving.{found, left_all}

-- its card
abbrev pub card : Place → List ℕ → Member → Card
card place counts m = record { place = place; setup = m.setup; past = m.past; counts = counts }

-- what is known of the one of number i
pub record Sits (names : List (List ℕ)) (cs : List Card) (i : ℕ) (m : Member) : Type 0 where
  pub place : Place
  pub counts : List ℕ
  pub at : slice_get cs i ≡ Some (card place counts m)
  pub ways : size place ≡ length names
  pub named : m.setup.names ≡ names
  pub number : m.setup.number ≡ i
  pub setup : IsSetup m.setup
  pub lawful : Lawful m.setup m.past m.made
  pub tools : m.past.memory.tools ≡ []
  pub refused : (p : ℕ) → list_all (λ reason. reason == 8) (gones m.past.journal p) ≡ true
  pub unlost : (p : ℕ) → is_peer m.setup p ≡ false → gones m.past.journal p ≡ []
  pub alone : put m.past.journal i ≡ []

-- all of them, where none had anything to do
pub record Stands (names : List (List ℕ)) (cs : List Card) (members : List Member) : Type 0 where
  pub sorted : IsTrue (are_sorted names)
  pub count : length members ≡ length names
  pub cards : length cs ≡ length names
  pub each : (i : ℕ) (m : Member) → slice_get members i ≡ Some m → Sits names cs i m
  pub required : (i j : ℕ) (m o : Member) → slice_get members i ≡ Some m → slice_get members j ≡ Some o →
      m.setup.coordinated ≡ true → o.setup.coordinated ≡ true → m.setup.required ≡ o.setup.required
  pub still : AllStill cs

-- ## The world

all_same : {X Y Z : Type 0} (f : X → Z) (z : Z) (xs : List X) (ys : List Y) → length xs ≡ length ys → ((i : ℕ) (x : X) → slice_get xs i ≡ Some x → f x ≡ z) → map f xs ≡ map (λ (y : Y). z) ys
all_same f z [] [] e h = refl
all_same f z [] (y ∷ ys) e h = absurd (omega arith)
all_same f z (x ∷ xs) [] e h = absurd (omega arith)
all_same {Z} f z (x ∷ xs) (y ∷ ys) e h = ap (λ (w : Z). w ∷ map f xs) (h 0 x refl) ∙ ap (λ l. z ∷ l) (all_same f z xs ys (omega arith) (λ i. h (suc i)))

pub world_of : {names : List (List ℕ)} {cs : List Card} {members : List Member} → Stands names cs members → IsWorld names members
world_of {names} {cs} {members} h = record {
  sorted = h.sorted;
  all = all_same (λ (m : Member). m.setup.names) names members names h.count (λ i m at. (h.each i m at).named);
  numbered = λ p m at. (h.each p m at).number;
  setups = λ p m at. (h.each p m at).setup;
  lawful = λ p m at. (h.each p m at).lawful;
  linked = λ p q sender receiver at_p at_q other.
      let s = h.each p sender at_p in let r = h.each q receiver at_q in
      let l = (h.still q (card r.place r.counts receiver) r.at).linked p (card s.place s.counts sender) other s.at in
      let w = waits_at (card s.place s.counts sender) q in
      (l.ring ++ w, sym (append_assoc (got receiver.past.journal p) l.ring w) ∙ l.is);
}

-- ## Who is required

-- as the first one says that is coordinated
abbrev pub needed : List Member → Option (List (List ℕ))
needed [] = None
needed (m ∷ ms) = if m.setup.coordinated then m.setup.required else needed ms

needed_by : (ms : List Member) → ((i j : ℕ) (m o : Member) → slice_get ms i ≡ Some m → slice_get ms j ≡ Some o → m.setup.coordinated ≡ true → o.setup.coordinated ≡ true → m.setup.required ≡ o.setup.required)
    → (p : ℕ) (m : Member) → slice_get ms p ≡ Some m → m.setup.coordinated ≡ true → m.setup.required ≡ needed ms
needed_by [] same p m at coordinated = absurd (none-some m at)
needed_by (x ∷ xs) same zero m at coordinated =
    let yes : x.setup.coordinated ≡ true = ap (λ (o : Member). o.setup.coordinated) (same_Some x m at) ∙ coordinated in
    ap (λ (o : Member). o.setup.required) (sym (same_Some x m at)) ∙ ap (λ b. if b then x.setup.required else needed xs) (sym yes)
needed_by (x ∷ xs) same (suc k) m at coordinated = elim (cases_Bool x.setup.coordinated) [
  | inl here ↦ same (suc k) 0 m x at refl coordinated here ∙ ap (λ b. if b then x.setup.required else needed xs) (sym here)
  | inr other ↦ needed_by xs (λ i j. same (suc i) (suc j)) k m at coordinated ∙ ap (λ b. if b then x.setup.required else needed xs) (sym other)
]

pub agreed_of : {names : List (List ℕ)} {cs : List Card} {members : List Member} → Stands names cs members → AreAgreed (needed members) members
agreed_of {names} {cs} {members} h = record {
  same = needed_by members h.required;
  alone = λ p m at coordinated none. (h.each p m at).tools;
}

-- ## No link is gone

shown : (before after : List Entry) (q reason : ℕ) → gones (before ++ Gone q reason ∷ after) q ≡ gones before q ++ reason ∷ gones after q
shown before after q reason =
    filter_map-append (gone_of q) before (Gone q reason ∷ after) ∙ ap (λ b. gones before q ++ cons_option (if b then Some reason else None) (gones after q)) (eq-eqb q q refl)

eight : (before after : List Entry) (q reason : ℕ) → list_all (λ r. r == 8) (gones (before ++ Gone q reason ∷ after) q) ≡ true → reason ≡ 8
eight before after q reason all =
    let cut : (list_all (λ r. r == 8) (gones before q) && ((reason == 8) && list_all (λ r. r == 8) (gones after q))) ≡ true =
    sym (list_all-append (λ r. r == 8) (gones before q) (reason ∷ gones after q)) ∙ (ap (λ l. list_all (λ r. r == 8) l) (sym (shown before after q reason)) ∙ all) in
    eqb-true reason 8 (and_parts (reason == 8) (list_all (λ r. r == 8) (gones after q)) (and_parts (list_all (λ r. r == 8) (gones before q)) _ cut).1).0

some_gone : (before after : List Entry) (q reason : ℕ) → gones (before ++ Gone q reason ∷ after) q ≡ [] → ⊥
some_gone before after q reason none = behind (gones before q) (sym (shown before after q reason) ∙ none)
  where
    behind : (xs : List ℕ) → xs ++ reason ∷ gones after q ≡ [] → ⊥
    behind [] e = absurd (cc)
    behind (x ∷ xs) e = absurd (cc)

-- a peer has the number of another name
peer_is : (S : Setup) (q : ℕ) → is_peer S q ≡ true → (q < length S.names) × (q ≢ S.number)
peer_is S q h =
    let b = and_parts (nat_lt q (length S.names)) (not (q == S.number)) h in
    (ltb-true q (length S.names) b.0, λ e. no_more (q == S.number) (eq-eqb q S.number e) b.1)
  where
    no_more : (b : Bool) → b ≡ true → not b ≡ true → ⊥
    no_more true e f = absurd (cc)
    no_more false e f = absurd (cc)

is_peer_at : (S : Setup) (q : ℕ) → q < length S.names → q ≢ S.number → is_peer S q ≡ true
is_peer_at S q low other = and_from (nat_lt q (length S.names)) (not (q == S.number)) (lt-ltb q (length S.names) low) (ap not (ne_eqb q S.number other))

pub no_gone : {names : List (List ℕ)} {cs : List Card} {members : List Member} → Stands names cs members → NoneOutOfOrder
    → (p : ℕ) (m : Member) (q reason : ℕ) (before after : List Entry) → slice_get members p ≡ Some m → m.past.journal ≡ before ++ Gone q reason ∷ after → ⊥
no_gone {names} {cs} {members} h heard p m q reason before after at is =
    let s = h.each p m at in
    let why : reason ≡ 8 = eight before after q reason (ap (λ es. list_all (λ r. r == 8) (gones es q)) (sym is) ∙ s.refused q) in
    elim (cases_Bool (is_peer m.setup q)) [
      | inl peer ↦
          let low = peer_is m.setup q peer in
          let n : length m.setup.names ≡ length names = ap length s.named in
          let c = h.count in let l = low.0 in
          let other = slice_get-some members q (omega arith) in
          (heard names members (world_of h) (needed members) (agreed_of h) q p other.0 m other.1 at (λ e. low.1 (e ∙ sym s.number))).1
          before after (is ∙ ap (λ r. before ++ Gone q r ∷ after) why)
      | inr none ↦ some_gone before after q reason (ap (λ es. gones es q) (sym is) ∙ s.unlost q none)
    ]

-- ## All was got

-- a journal that has no Gone
gone_is : (q : ℕ) (e : Entry) → is_gone_entry q e ≡ true → (reason : ℕ) × (e ≡ Gone q reason)
gone_is q (Gone p reason) h = (reason, ap (λ r. Gone r reason) (eqb-true p q h))
gone_is q e h = absurd (cc)

none_gone : (es : List Entry) (q : ℕ) → ((before after : List Entry) (reason : ℕ) → es ≡ before ++ Gone q reason ∷ after → ⊥) → is_gone es q ≡ false
none_gone es q none = false_from_ne_true (is_gone es q) (λ e.
    let f = found (is_gone_entry q) es e in
    let g = gone_is q f.1 f.4 in
    none f.0 f.2 g.0 (f.3 ∙ ap (λ x. f.0 ++ x ∷ f.2) g.1))

pub all_got : {names : List (List ℕ)} {cs : List Card} {members : List Member} → Stands names cs members → NoneOutOfOrder → PutsAreInOrder
    → (p q : ℕ) (sender receiver : Member) → slice_get members p ≡ Some sender → slice_get members q ≡ Some receiver → p ≢ q → got receiver.past.journal p ≡ put sender.past.journal q
all_got {names} {cs} {members} h heard orders p q sender receiver at_p at_q other =
    let s = h.each p sender at_p in let r = h.each q receiver at_q in
    let low_p = slice_get_within members p sender at_p in let low_q = slice_get_within members q receiver at_q in
    let n_s : length sender.setup.names ≡ length names = ap length s.named in
    let n_r : length receiver.setup.names ≡ length names = ap length r.named in
    let c = h.count in
    let there : is_peer receiver.setup p ≡ true = is_peer_at receiver.setup p (omega arith) (λ e. other (e ∙ r.number)) in
    let here : is_peer sender.setup q ≡ true = is_peer_at sender.setup q (omega arith) (λ e. other (sym (e ∙ s.number))) in
    let w = waits_at (card s.place s.counts sender) q in
    let in_order = (heard names members (world_of h) (needed members) (agreed_of h) p q sender receiver at_p at_q other).0 in
    elim (cases_Bool (is_open receiver.setup receiver.past p)) [
      | inl open_is ↦
          let all : got receiver.past.journal p ++ w ≡ put sender.past.journal q =
          (h.still q (card r.place r.counts receiver) r.at).drained p (card s.place s.counts sender) other s.at open_is in
          elim ((h.still p (card s.place s.counts sender) s.at).blocked q (card r.place r.counts receiver) (λ e. other (sym e)) r.at) [
            | inl none ↦ sym (append-nil (got receiver.past.journal p)) ∙ (ap (λ l. got receiver.past.journal p ++ l) (sym none) ∙ all)
            | inr full ↦ absurd (full (sym all))
          ]
      | inr shut ↦ left_all (own_name sender.setup) (got receiver.past.journal p) (put sender.past.journal q)
          ((world_of h).linked p q sender receiver at_p at_q other)
          (ap has_left (sym in_order) ∙ away (is_peer receiver.setup p) (is_tool receiver.setup receiver.past p) (is_gone receiver.past.journal p) (has_left (from receiver.setup receiver.past p)) shut there
          (none_gone receiver.past.journal p (λ before after reason is. no_gone h heard q receiver p reason before after at_q is)))
          (orders sender.setup sender.past sender.made s.lawful s.setup q here).order
    ]
  where
    away : (peer tool gone left : Bool) → ((peer || tool) && (not gone && not left)) ≡ false → peer ≡ true → gone ≡ false → left ≡ true
    away true tool false true e f g = refl
    away true tool false false e f g = absurd (cc)
    away true tool true left e f g = absurd (cc)
    away false tool gone left e f g = absurd (cc)
