-- What a run of several seats comes to.
use Rattle.std.proofs.Common.{◌≡◌, ℕ, ◌<◌, ◌==◌, Bool, true, false, List, [], ◌∷◌, length, Some, Result, Ok, Err, IfOk, OnOk, refl, sym, ◌∙◌, ap, subst, arith}
use Rattle.std.specs.Prelude.{position}
use Rattle.std.specs.List.{slice_get, list_all, list_any}
use Rattle.std.specs.Str.{bytes_eq}
use Rattle.sk_msg.specs.declared.entry.Entry.{Entry}
use Rattle.sk_sim.specs.Parts.{is_stray}
use Rattle.std.proofs.lemmas.Option.{same_Some}
use Rattle.std.proofs.lemmas.List.{length-map}
use Rattle.sk_law.specs.declared.setup.Setup.{Setup}
use Rattle.sk_law.specs.Past.{Past}
use Rattle.sk_law.specs.Setups.{IsSetup}
use Rattle.sk_law.specs.Lawful.{Lawful, starts}
use Rattle.sk_law.specs.Links.{is_peer}
use Rattle.sk_law.specs.Readings.{put, gones}
use Rattle.sk_law.specs.World.{Member}
use Rattle.sk_law_world.specs.Safety.{WorldIsSafe}
use Rattle.sk_law_world.specs.Barrier.{ReadyWereTold, AllReadyBeforeRunning, GoesOn}
use Rattle.sk_law_world.specs.Heard.{NoneOutOfOrder, PutsAreInOrder}
use Rattle.sk_mesh.specs.Places.{size, IsMesh}
use Rattle.sk_node.specs.declared.app.App as App
use Rattle.sk_sim.specs.declared.seat.Seat.{Seat}
use Rattle.sk_sim.specs.Cards.{Card}
use Rattle.sk_sim.specs.Views.{View, view, views, cards, cards_in, places, NoneFailed, AreUnturned, IsUnturned}
use Rattle.sk_sim.specs.Rounds.{AllStill, AllFinished, WentOn, AllWentOn}
use Rattle.sk_sim.specs.Runs.{names_in, AreAlike, IsMember, IsRun}
use Rattle.sk_sim.proofs.Seeing.{place_at, card_in, view_at}
use Rattle.sk_sim.proofs.Lists.{slice_get-from_map, slice_get-some, position_within}
use Rattle.sk_sim.proofs.Untouched.{made_untouched}
use Rattle.sk_sim.proofs.Members.{members, member_of, members_count}
use Rattle.sk_sim.proofs.Worlds.{Sits, Stands, card, world_of, no_gone, all_got}
use Rattle.sk_sim.proofs.Itself.{none_to_itself}
use Rattle.sk_sim.proofs.Finishing.{finished_of, all_finished}

-- what ties a card to its rings
pub record IsHeld (c : Card) : Type 0 where
  pub own : c.place.number ≡ c.setup.number
  pub ways : size c.place ≡ length c.setup.names
  pub tools : c.past.memory.tools ≡ []
  pub refused : (p : ℕ) → list_all (λ reason. reason == 8) (gones c.past.journal p) ≡ true
  pub unlost : (p : ℕ) → is_peer c.setup p ≡ false → gones c.past.journal p ≡ []

-- from where nobody had taken a turn all went on to where nobody had anything to do
pub record HaveRun {O : Type 0} (vs ws : List (View O)) : Type 0 where
  pub mesh : IsMesh (places (cards_in vs))
  pub unturned : AreUnturned vs
  pub alike : AreAlike vs
  pub placed : places (cards_in ws) ≡ places (cards_in vs)
  pub went : AllWentOn vs ws
  pub still : AllStill (cards_in ws)
  pub held : (i : ℕ) (w : View O) → slice_get ws i ≡ Some w → IsHeld w.card
  pub sound : (i : ℕ) (w : View O) → slice_get ws i ≡ Some w → w.failed ≡ false

lawful_then : {O : Type 0} (v w : View O) → IsUnturned v → (h : WentOn v w) → Lawful w.card.setup w.card.past h.goes.made
lawful_then v w u h =
    let first : Lawful v.card.setup v.card.past [] = subst (λ (past : Past). Lawful v.card.setup past []) (sym u.past) starts in
    subst (λ (S : Setup). Lawful S w.card.past h.goes.made) (sym h.goes.setup) (h.goes.lawful [] first)

places_count : {O : Type 0} (us : List (View O)) → length (places (cards_in us)) ≡ length us
places_count {O} us = length-map (cards_in us) (λ (c : Card). c.place) ∙ length-map us (λ (u : View O). u.card)

-- where one of them sits
place_of : {O : Type 0} (vs ws : List (View O)) → HaveRun vs ws → (i : ℕ) (w : View O) → slice_get ws i ≡ Some w → (w.card.place.number ≡ i) × (size w.card.place ≡ length vs)
place_of vs ws h i w at =
    let p = h.mesh.placed i w.card.place (ap (λ l. slice_get l i) (sym h.placed) ∙ place_at (cards_in ws) i w.card (card_in ws i w at)) in
    (p.0, p.1 ∙ places_count vs)

-- each has a name
names_count : {O : Type 0} (vs ws : List (View O)) → HaveRun vs ws → length vs ≡ length (names_in vs)
names_count [] ws h = refl
names_count (v ∷ vs) [] h = let e = h.went.count in absurd (omega arith)
names_count (v ∷ vs) (w ∷ ws) h =
    sym (place_of (v ∷ vs) (w ∷ ws) h 0 w refl).1 ∙ ((h.held 0 w refl).ways ∙ ap (λ (S : Setup). length S.names) (h.went.each 0 v w refl refl).goes.setup)

module _ {O : Type 0} (vs ws : List (View O)) (h : HaveRun vs ws) where
  sits : (i : ℕ) (m : Member) → slice_get (members vs ws h.went.each) i ≡ Some m → Sits (names_in vs) (cards_in ws) i m
  sits i m at =
      let o = member_of vs ws h.went.each i m at in
      let goes = o.went.goes in
      let c = o.now.card in
      let b = h.held i o.now o.at_now in
      let u = h.unturned i o.was o.at_was in
      let p = place_of vs ws h i o.now o.at_now in
      let number : c.setup.number ≡ i = sym b.own ∙ p.0 in
      let setup : IsSetup c.setup = subst (λ (S : Setup). IsSetup S) (sym goes.setup) u.setup in
      let lawful : Lawful c.setup c.past goes.made = lawful_then o.was o.now u o.went in
      subst (λ (x : Member). Sits (names_in vs) (cards_in ws) i x) (sym o.is) (record {
        place = c.place;
        counts = c.counts;
        at = card_in ws i o.now o.at_now;
        ways = p.1 ∙ names_count vs ws h;
        named = ap (λ (S : Setup). S.names) goes.setup ∙ h.alike.names i o.was o.at_was;
        number = number;
        setup = setup;
        lawful = lawful;
        tools = b.tools;
        refused = b.refused;
        unlost = b.unlost;
        alone = subst (λ k. put c.past.journal k ≡ []) number (none_to_itself c.setup c.past goes.made lawful setup);
      })

  setup_of : (i : ℕ) (m : Member) → slice_get (members vs ws h.went.each) i ≡ Some m → (v : View O) × (slice_get vs i ≡ Some v) × (m.setup ≡ v.card.setup)
  setup_of i m at = let o = member_of vs ws h.went.each i m at in (o.was, o.at_was, ap (λ (x : Member). x.setup) o.is ∙ o.went.goes.setup)

  stands : Stands (names_in vs) (cards_in ws) (members vs ws h.went.each)
  stands = record {
    sorted = h.alike.sorted;
    count = members_count vs ws h.went.each h.went.count ∙ names_count vs ws h;
    cards = length-map ws (λ (w : View O). w.card) ∙ (h.went.count ∙ names_count vs ws h);
    each = sits;
    required = λ i j m o at_i at_j m_is o_is.
        let v = setup_of i m at_i in let w = setup_of j o at_j in
        ap (λ (S : Setup). S.required) v.2
        ∙ (h.alike.required i j v.0 w.0 v.1 w.1 (ap (λ (S : Setup). S.coordinated) (sym v.2) ∙ m_is) (ap (λ (S : Setup). S.coordinated) (sym w.2) ∙ o_is)
        ∙ ap (λ (S : Setup). S.required) (sym w.2));
    still = h.still;
  }

  is_member : (i : ℕ) (v w : View O) (m : Member) → slice_get vs i ≡ Some v → slice_get ws i ≡ Some w → slice_get (members vs ws h.went.each) i ≡ Some m → IsMember v w m
  is_member i v w m at_v at_w at =
      let o = member_of vs ws h.went.each i m at in
      let goes = o.went.goes in
      let here : IsMember o.was o.now m = subst (λ (x : Member). IsMember o.was o.now x) (sym o.is)
      (let u = h.unturned i o.was o.at_was in let f = made_untouched o.was.card.setup in record {
        setup = goes.setup;
        kept = goes.setup;
        place = goes.place;
        sound = h.sound i o.now o.at_now;
        past = refl;
        made = goes.calls;
        told = goes.told;
        origin = o.went.origin;
        unasked = goes.untouched.asked ∙ (ap (λ (p : Past). p.memory.asked) u.past ∙ f.0);
        alone = goes.untouched.tools ∙ (ap (λ (p : Past). p.memory.tools) u.past ∙ f.1);
        fitting = goes.untouched.strays ∙ (ap (λ (p : Past). list_any is_stray p.journal) u.past ∙ f.2);
      }) in
      subst (λ (x : View O). IsMember x w m) (same_Some o.was v (sym o.at_was ∙ at_v)) (subst (λ (x : View O). IsMember o.was x m) (same_Some o.now w (sym o.at_now ∙ at_w)) here)

  -- each required name is that of one of them
  there : ReadyWereTold → (q : ℕ) (m : Member) → slice_get (members vs ws h.went.each) q ≡ Some m → (before after : List Entry) (needed : List (List ℕ)) → GoesOn m.setup m.past before after needed →
      (i : ℕ) (name : List ℕ) → slice_get needed i ≡ Some name → (p : ℕ) × (other : Member) × (position (bytes_eq name) m.setup.names ≡ Some p) × (slice_get (members vs ws h.went.each) p ≡ Some other)
  there told q m at before after needed goes i name at_i =
      let world = world_of stands in
      let t = told m.setup m.past m.made (world.lawful q m at) before after needed goes i name at_i in
      let low : t.0 < length m.setup.names = position_within (bytes_eq name) m.setup.names t.0 t.1 in
      let named : m.setup.names ≡ names_in vs = names_at q m at in
      let n : length (members vs ws h.went.each) ≡ length (names_in vs) = members_count vs ws h.went.each h.went.count ∙ names_count vs ws h in
      let o = slice_get-some (members vs ws h.went.each) t.0 (let e : length m.setup.names ≡ length (names_in vs) = ap length named in omega arith) in
      (t.0, o.0, t.1, o.1)
    where
      names_at : (k : ℕ) (x : Member) → slice_get (members vs ws h.went.each) k ≡ Some x → x.setup.names ≡ names_in vs
      names_at k x at_k = let s = setup_of k x at_k in ap (λ (S : Setup). S.names) s.2 ∙ h.alike.names k s.0 s.1

  pub run : (ended : Bool) → (ended ≡ true → AllFinished (cards_in ws)) → (ended ≡ false → AllFinished (cards_in ws) → ⊥)
      → WorldIsSafe → ReadyWereTold → AllReadyBeforeRunning → NoneOutOfOrder → PutsAreInOrder → IsRun ended vs ws
  run ended all not_all safe told ready heard orders =
      let names = names_in vs in
      let ms = members vs ws h.went.each in
      let st = stands in
      let world = world_of st in record {
        members = ms;
        count = (h.went.count, members_count vs ws h.went.each h.went.count);
        each = is_member;
        world = world;
        safe = safe names ms world;
        ready = λ q m at_q before after needed goes. record { there = there told q m at_q before after needed goes; told = ready names ms world q m at_q before after needed goes };
        linked = no_gone st heard;
        all_got = all_got st heard orders;
        quiet = λ p m at. let s = st.each p m at in (h.still p (card s.place s.counts m) s.at).quiet;
        finished = λ e. finished_of st (all e);
        unfinished = λ e done. not_all e (all_finished st (all_got st heard orders) done);
      }

-- what the type of a seat keeps
module _ {A : Type 0} {G : App.Ghosts A} where
  held_by : (ss : List (Seat A G)) → NoneFailed (views ss) → (i : ℕ) (w : View G.Origin) → slice_get (views ss) i ≡ Some w → IsHeld w.card
  held_by ss fine i w at =
      let s = slice_get-from_map (λ (t : Seat A G). view t) ss i w at in
      let k = s.0.tied (fine i (view s.0) (view_at ss i s.0 s.1)) in
      subst (λ (x : View G.Origin). IsHeld x.card) s.2 (record { own = k.own; ways = k.ways; tools = k.alone; refused = k.refused; unlost = k.unlost })

  -- the run of these seats
  pub run_of : (old new : List (Seat A G)) (ended : Bool) → IsMesh (places (cards old)) → AreUnturned (views old) → AreAlike (views old)
      → places (cards new) ≡ places (cards old) → NoneFailed (views new) → AllWentOn (views old) (views new) → AllStill (cards new)
      → (ended ≡ true → AllFinished (cards new)) → (ended ≡ false → AllFinished (cards new) → ⊥)
      → WorldIsSafe → ReadyWereTold → AllReadyBeforeRunning → NoneOutOfOrder → PutsAreInOrder → IsRun ended (views old) (views new)
  run_of old new ended mesh unturned alike placed fine went still all not_all =
      run (views old) (views new) (record { mesh = mesh; unturned = unturned; alike = alike; placed = placed; went = went; still = still; held = held_by new fine; sound = fine }) ended all not_all

pub none_failed : {O : Type 0} (vs : List (View O)) → AreUnturned vs → NoneFailed vs
none_failed vs h i v at = (h i v at).sound

-- where they answered at all
pub run_where : {A : Type 0} {G : App.Ghosts A} {E : Type 0} (old new : List (Seat A G)) (answer : Result Bool E) → IsMesh (places (cards old)) → AreUnturned (views old) → AreAlike (views old)
    → OnOk answer (places (cards new) ≡ places (cards old)) → OnOk answer (NoneFailed (views new)) → OnOk answer (AllWentOn (views old) (views new)) → OnOk answer (AllStill (cards new))
    → IfOk answer (λ ended. ended ≡ true → AllFinished (cards new)) → IfOk answer (λ ended. ended ≡ false → AllFinished (cards new) → ⊥)
    → WorldIsSafe → ReadyWereTold → AllReadyBeforeRunning → NoneOutOfOrder → PutsAreInOrder → IfOk answer (λ ended. IsRun ended (views old) (views new))
run_where old new (Ok ended) mesh unturned alike placed fine went still all not_all safe told ready heard orders =
    run_of old new ended mesh unturned alike placed fine went still all not_all safe told ready heard orders
run_where old new (Err e) mesh unturned alike placed fine went still all not_all safe told ready heard orders = tt
