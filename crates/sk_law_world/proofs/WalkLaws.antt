-- Each lawful journal has entered a state, so its states are a walk.
use Rattle.std.specs.Prelude.{◌≡◌, ◌≤◌, refl, Bool, true, false, List, [], ◌∷◌, map, flat_map, length, None}
use Rattle.std.proofs.lemmas.List.Elements.{filter_map-append}
use Rattle.std.proofs.Common.{ap, sym, ◌∙◌, subst, length-append, arith, ⊎_elim}
use Rattle.sk_msg.specs.declared.state.State.{State}
use Rattle.sk_msg.specs.declared.state.State.TheVariants.{Invalid, ServicesCreated}
use Rattle.sk_msg.specs.declared.entry.Entry.{Entry}
use Rattle.sk_msg.specs.declared.entry.Entry.TheVariants.{Got, Put}
use Rattle.sk_law.specs.declared.made.Made.{Made}
use Rattle.sk_law.specs.declared.setup.Setup.{Setup}
use Rattle.sk_law.specs.Past.{Past}
use Rattle.sk_law.specs.Readings.{state_of, state_in, states}
use Rattle.sk_law.specs.Links.{peers}
use Rattle.sk_law.specs.Services.{new_states}
use Rattle.sk_law_world.specs.Once.{StatesWalk}
use Rattle.sk_law.specs.Blocks.{making, introduction, judge_limits}
use Rattle.sk_law.specs.Lawful.{Lawful, starts, goes_on}
use Rattle.sk_law_world.proofs.Built.{state-enter}
use Rattle.sk_law_world.proofs.BlocksBuilt.{built_making}
use Rattle.sk_law_world.proofs.Meetings.{lawful_built}
use Rattle.sk_law_world.proofs.Growth as growth
use Rattle.sk_law_world.proofs.Growth.{Adds, Calm}
use Rattle.sk_law_world.proofs.Onces.{HasGot, is_quiet, quiet, cases, messages_of}
use Rattle.sk_law_world.proofs.Walks.{built_path, walk_of, last_of}

-- ## Some state

some_state : (es : List Entry) → last_of Invalid (states es) ≡ state_of es → state_of es ≡ ServicesCreated → 1 ≤ length (states es)
some_state es last is = on (states es) refl
  where
    on : (path : List State) → states es ≡ path → 1 ≤ length path
    on [] e = let f = sym is ∙ sym last ∙ ap (last_of Invalid) e in absurd cc
    on (s ∷ path) e = omega arith

pub making_state : (S : Setup) → state_of (making S).journal ≡ ServicesCreated
unfolding making
making_state S = state-enter S ServicesCreated 0 (record {
  journal = flat_map (λ p. map (λ m. Put p m) (introduction S)) (peers S);
  memory = record { called = false; asked = false; pause = None; tools = []; services = new_states S.services; ready_awaited = false };
})

any : Entry → Bool
any e = true

all_kinds : Calm any
unfolding any
all_kinds = record { put = λ q m. refl; entered = λ s. refl; judged = λ s. refl; done = λ n. refl; end = λ n. refl; ask = λ c v. refl; stray = λ n. refl; did = λ s c m. refl; fault = λ n. refl }

more_states : (kinds : Entry → Bool) (was now : Past) → Adds kinds was now → length (states was.journal) ≤ length (states now.journal)
more_states kinds was now a =
    let e = ap (λ es. length (states es)) a.is in let f = ap length (filter_map-append state_in was.journal a.new) in
    let g = length-append (states was.journal) (states a.new) in omega arith

pub has_state : (S : Setup) (past : Past) (made : List Made) → Lawful S past made → 1 ≤ length (states past.journal)
unfolding any
has_state S past made starts = some_state (making S).journal (built_path S (making S) (built_making S)).last (making_state S)
has_state S past made (goes_on was now before more law h) =
    let first = has_state S was before law in
    let last = more_states is_quiet now (judge_limits S now) (growth.limits quiet S now) in
    let middle : length (states was.journal) ≤ length (states now.journal) = ⊎_elim
    (λ (g : HasGot S was more now).
    let r : length (states was.journal) ≤ length (states now.journal) =
    subst (λ (x : Past). length (states was.journal) ≤ length (states x.journal)) (sym g.is)
    (more_states any was _ (growth.both (growth.one any was (Got g.p g.m) refl)
    (growth.rest_of_got all_kinds (λ p k r. refl) (λ p r. refl) S g.p g.m more was (messages_of S was more now g)))) in r)
    (λ (a : Adds is_quiet was now). let r : length (states was.journal) ≤ length (states now.journal) = more_states is_quiet was now a in r)
    (cases S was more now h) in
    omega arith

pub walks : StatesWalk
walks S past made law = let h = built_path S past (lawful_built S past made law) in
    walk_of (states past.journal) h.path (has_state S past made law)
