-- From the run of seats to the run of a scenario.
use Rattle.std.proofs.Common.{◌≡◌, ℕ, suc, ◌<◌, Bool, true, List, [], ◌∷◌, ◌++◌, length, map, refl, sym, ◌∙◌, ap, subst, arith, Some, Result, Ok, Err, IfErr}
use Rattle.std.specs.List.{slice_get, list_all}
use Rattle.std.specs.Result.{IsErrAnd}
use Rattle.std.proofs.lemmas.List.{length-map}
use Rattle.std.proofs.lemmas.Option.{slice_get_within}
use Rattle.sk_msg.specs.declared.entry.Entry.{Entry}
use Rattle.sk_law.specs.declared.made.Made.{Made}
use Rattle.sk_law.specs.declared.setup.Setup.{Setup}
use Rattle.sk_law.specs.World.{Member, IsWorld}
use Rattle.sk_node.specs.Lists.{Lists}
use Rattle.sk_script.specs.Scenarios.{PartValue, ScenarioValue, names_of, is_scenario}
use Rattle.sk_sim.specs.declared.simulation.SimFault.{SimFault}
use Rattle.sk_sim.specs.declared.simulation.SimFault.TheVariants.{WantOfMemory}
use Rattle.sk_sim.specs.Cards.{Card}
use Rattle.sk_sim.specs.Views.{View, cards_in}
use Rattle.sk_sim.specs.Runs.{IsMember, IsRun}
use Rattle.sk_sim.specs.Played.{HasPlayed}
use Rattle.sk_sim.specs.Scripts.{Origin, script_by}
use Rattle.sk_sim.specs.Simulations.{AreSeats, Plays, IsSimulation, IsStall}
use Rattle.sk_sim.proofs.Lists.{slice_get-some, slice_get-from_map}
use Rattle.sk_sim.proofs.Apps.{HavePlayed}
use Rattle.sk_sim.proofs.Causes.{IsScripted, scripted_abort_has_cause, closed_has_no_error}
use Rattle.sk_sim.proofs.Following.{follows_script}
use Rattle.sk_sim.proofs.Seating.{names_are}

-- each journal is that of the member at its place
journals_of_members : (cs : List Card) (ms : List Member) → length cs ≡ length ms
    → ((i : ℕ) (c : Card) (m : Member) → slice_get cs i ≡ Some c → slice_get ms i ≡ Some m → m.past ≡ c.past) → map (λ (c : Card). c.past.journal) cs ≡ map (λ (m : Member). m.past.journal) ms
journals_of_members [] [] count each = refl
journals_of_members [] (m ∷ ms) count each = absurd (omega arith)
journals_of_members (c ∷ cs) [] count each = absurd (omega arith)
journals_of_members (c ∷ cs) (m ∷ ms) count each =
    ap (λ l. c.past.journal ∷ l) (journals_of_members cs ms (omega arith) (λ i d n at_d at_n. each (suc i) d n at_d at_n))
    ∙ ap (λ l. l ∷ map (λ (n : Member). n.past.journal) ms) (ap (λ p. p.journal) (sym (each 0 c m refl refl)))

-- who stood at this place at first and at the end
record Stood {O : Type 0} (vs ws : List (View O)) (i : ℕ) (m : Member) : Type 0 where
  was : View O
  now : View O
  at_was : slice_get vs i ≡ Some was
  at_now : slice_get ws i ≡ Some now
  member : IsMember was now m

module _ (S : ScenarioValue) (ended : Bool) (vs ws : List (View Origin)) (of : AreSeats S vs) (run : IsRun ended vs ws) where
  stood : (i : ℕ) (m : Member) → slice_get run.members i ≡ Some m → Stood vs ws i m
  stood i m at =
      let low = slice_get_within run.members i m at in
      let v = slice_get-some vs i (subst (λ k. i < k) run.count.1 low) in
      let w = slice_get-some ws i (subst (λ k. i < k) (run.count.1 ∙ sym run.count.0) low) in
      record { was = v.0; now = w.0; at_was = v.1; at_now = w.1; member = run.each i v.0 w.0 m v.1 w.1 at }

  -- as many participants as members
  counted : length run.members ≡ length S.participants
  counted = run.count.1 ∙ of.count

  -- the calls of each played the script of its participant
  played : HavePlayed ws → (i : ℕ) (part : PartValue) (m : Member) → slice_get S.participants i ≡ Some part → slice_get run.members i ≡ Some m → HasPlayed (script_by part) m.made
  played have i part m at_part at =
      let s = stood i m at in let k = s.member in let seat = of.each i s.was s.at_was in
      let calls : s.now.lists.made ≡ m.made = k.made ∙ ap (λ (l : Lists). l.made ++ m.made) seat.lists in
      let its = ap (λ (o : Origin). slice_get o.scenario.participants o.number) (k.origin ∙ seat.origin) ∙ at_part in
      subst (λ l. HasPlayed (script_by part) l) calls (have i s.now s.at_now part its)

  plays : HavePlayed ws → (i : ℕ) (part : PartValue) (m : Member) → slice_get S.participants i ≡ Some part → slice_get run.members i ≡ Some m → Plays S i part m
  plays have i part m at_part at =
      let s = stood i m at in let k = s.member in let seat = of.each i s.was s.at_was in record {
        setup = k.setup ∙ seat.setup part at_part;
        follows = follows_script m.setup m.past m.made (script_by part) (run.world.lawful i m at) (played have i part m at_part at) k.unasked k.fitting;
        alone = k.alone;
        fitting = k.fitting;
      }

  -- each did what its script says, and nobody else asked anything of it
  scripted : HavePlayed ws → (i : ℕ) (m : Member) → slice_get run.members i ≡ Some m → IsScripted S run.members i m
  scripted have i m at =
      let s = stood i m at in let k = s.member in let seat = of.each i s.was s.at_was in
      let part = slice_get-some S.participants i (subst (λ n. i < n) counted (slice_get_within run.members i m at)) in record {
        part = part.0;
        is_its = part.1;
        played = played have i part.0 m part.1 at;
        names = ap (λ (x : Setup). length x.names) (k.setup ∙ seat.setup part.0 part.1) ∙ (length-map S.participants (λ (x : PartValue). x.name) ∙ sym counted);
        number = run.world.numbered i m at;
        lawful = run.world.lawful i m at;
        unasked = k.unasked;
        alone = k.alone;
        linked = λ before q reason after e. run.linked i m q reason before after at e;
      }

  journals : map (λ (c : Card). c.past.journal) (cards_in ws) ≡ map (λ (m : Member). m.past.journal) run.members
  journals = journals_of_members (cards_in ws) run.members (length-map ws (λ (w : View Origin). w.card) ∙ (run.count.0 ∙ sym run.count.1)) each
    where
      each : (i : ℕ) (c : Card) (m : Member) → slice_get (cards_in ws) i ≡ Some c → slice_get run.members i ≡ Some m → m.past ≡ c.past
      each i c m at_c at =
          let w = slice_get-from_map (λ (t : View Origin). t.card) ws i c at_c in
          let v = slice_get-some vs i (subst (λ k. i < k) run.count.1 (slice_get_within run.members i m at)) in
          (run.each i v.0 w.0 m v.1 w.1 at).past ∙ ap (λ (x : Card). x.past) w.2

  simulated : is_scenario S ≡ true → HavePlayed ws → (names : List (List ℕ)) (ended_in : List (List Entry)) → names ≡ names_of S.participants → ended_in ≡ map (λ (c : Card). c.past.journal) (cards_in ws)
      → IsSimulation ended S names ended_in
  simulated valid have names ended_in named closed = record {
    members = run.members;
    count = counted;
    named = named;
    journals_are = closed ∙ journals;
    each = plays have;
    world = subst (λ l. IsWorld l run.members) (names_are S vs of ∙ sym named) run.world;
    safe = run.safe;
    ready = run.ready;
    linked = run.linked;
    all_got = run.all_got;
    quiet = run.quiet;
    caused = scripted_abort_has_cause S valid run.members (scripted have) run.all_got;
    closed = closed_has_no_error S valid run.members (scripted have);
    finished = run.finished;
    unfinished = run.unfinished;
  }

  -- the run of the scenario's participants, that was said to have ended so
  pub simulation : is_scenario S ≡ true → HavePlayed ws → (said : Bool) → ended ≡ said → (names : List (List ℕ)) (ended_in : List (List Entry)) → names ≡ names_of S.participants
      → ended_in ≡ map (λ (c : Card). c.past.journal) (cards_in ws) → IsSimulation said S names ended_in
  simulation valid have said same names ended_in named closed = subst (λ b. IsSimulation b S names ended_in) same (simulated valid have names ended_in named closed)

-- want of memory is no stall
pub no_stall : {X : Type 0} (S : ScenarioValue) (answer : Result X SimFault) → IsErrAnd answer (λ fault. fault ≡ WantOfMemory) → IfErr answer (λ fault. IsStall S fault)
no_stall S (Ok x) h = tt
no_stall S (Err fault) h = subst (λ e. IsStall S e) (sym h) tt
