-- Calls in which a script is carried out have played it, one call after another.
use Rattle.std.specs.Prelude.{OnOk, OnErr, is_err, filter, if◌then◌else◌, IsTrue}
use Rattle.std.proofs.Common.{◌≡◌, ℕ, Bool, true, false, not, ◌&&◌, List, [], ◌∷◌, ◌++◌, map, take, refl, sym, ◌∙◌, ap, subst, append_assoc, append-nil, Some, Result, Ok, Err}
use Rattle.std.specs.List.{fold, filter_map, list_all, slice_get}
use Rattle.std.proofs.Math.Bool.{and-true}
use Rattle.std.proofs.Math.Logic.{∥∥₁_map}
use Rattle.std.proofs.lemmas.Bool.{and_parts, and_right, both_ways}
use Rattle.std.proofs.lemmas.Option.{same_Some}
use Rattle.std.proofs.lemmas.List.Elements.{filter_map-append}
use Rattle.std.proofs.lemmas.List.Folds.{list_all-append}
use Rattle.std.proofs.lemmas.List.Sums.{fold-append}
use Rattle.sk_msg.specs.declared.action.Action.{Action}
use Rattle.sk_msg.specs.declared.content.Content.{Content}
use Rattle.sk_law.specs.declared.made.Call.{Call}
use Rattle.sk_law.specs.declared.made.Call.TheVariants as calls
use Rattle.sk_law.specs.declared.made.Heard.{Heard}
use Rattle.sk_law.specs.declared.made.Heard.TheVariants as hearings
use Rattle.sk_law.specs.declared.made.Made.{Made}
use Rattle.sk_law.specs.declared.visible.Visible.{Visible}
use Rattle.sk_law.specs.Outbox.{Outbox}
use Rattle.sk_law.specs.Script.{View, Delivery, Script, AsksFor, delivered, is_message}
use Rattle.sk_law.specs.Visible.{shown, sort, is_between}
use Rattle.sk_machine.specs.Machines.{MachineValue, first_values}
use Rattle.sk_machine.specs.Playing.{PartScript, Played, ready, script, script_of, values_after}
use Rattle.sk_node.specs.Calls.{item}
use Rattle.sk_script.specs.Scenarios.{PartValue, ScenarioValue}
use Rattle.sk_sim.specs.Played.{handed_in, handed, begun_at, last_begun, view_behind, view_called, views_from, views_called, is_unstarted, asked_for, PlayedFrom, HasPlayed}
use Rattle.sk_sim.specs.Playing.{RunningValue, part_of, first_running, readied, start_asks, started, seen_at, step_plays, step_asks, played_on, stepped, offered, values_behind, IsPlaying, IsScripted}

-- ## One call more

-- behind calls that have played a script, one that asks for what it says
played_more : (s : Script) (before made : List Made) (one : Made) → PlayedFrom s before made → AsksFor one (asked_for s (before ++ made) one.call) → PlayedFrom s before (made ++ one ∷ [])
played_more s before [] one h asks = (subst (λ (l : List Made). AsksFor one (asked_for s l one.call)) (append-nil before) asks, tt)
played_more s before (x ∷ made) one h asks =
    (h.0, played_more s (before ++ x ∷ []) made one h.1 (subst (λ (l : List Made). AsksFor one (asked_for s l one.call)) (sym (append_assoc before (x ∷ []) made)) asks))

views_more : (before made : List Made) (one : Made) → views_from before (made ++ one ∷ []) ≡ views_from before made ++ view_called (before ++ made) one.call
views_more before [] one = append-nil (view_called before one.call) ∙ ap (λ (l : List Made). view_called l one.call) (sym (append-nil before))
views_more before (x ∷ made) one =
    ap (λ (l : List View). view_called before x.call ++ l) (views_more (before ++ x ∷ []) made one)
    ∙ sym (append_assoc (view_called before x.call) (views_from (before ++ x ∷ []) made) (view_called ((before ++ x ∷ []) ++ made) one.call))
    ∙ ap (λ (l : List Made). (view_called before x.call ++ views_from (before ++ x ∷ []) made) ++ view_called l one.call) (append_assoc before (x ∷ []) made)

handed_more : (made : List Made) (one : Made) → handed (made ++ one ∷ []) ≡ handed made ++ handed (one ∷ [])
handed_more made one = filter_map-append (λ (x : Made). handed_in x.call) made (one ∷ [])

last_more : (made : List Made) (one : Made) → last_begun (made ++ one ∷ []) ≡ begun_at (last_begun made) one.call
last_more made one = fold-append (λ (last : ℕ) (x : Made). begun_at last x.call) 0 made (one ∷ [])

unstarted_more : (made : List Made) (one : Made) → is_unstarted (made ++ one ∷ []) ≡ (is_unstarted made && (is_message one.call && true))
unstarted_more made one = list_all-append (λ (x : Made). is_message x.call) made (one ∷ [])

-- messages alone are no steps
unviewed : (before : List Made) (call : Call) → is_message call ≡ true → view_called before call ≡ []
unviewed before calls.Ready e = refl
unviewed before (calls.Step n t) e = absurd (both_ways (is_message (calls.Step n t)) refl e)
unviewed before (calls.Message p place r m) e = refl

no_views : (before made : List Made) → is_unstarted made ≡ true → views_from before made ≡ []
no_views before [] e = refl
no_views before (x ∷ made) e =
    let b = and_parts (is_message x.call) (is_unstarted made) e in
    ap (λ (l : List View). l ++ views_from (before ++ x ∷ []) made) (unviewed before x.call b.0) ∙ no_views (before ++ x ∷ []) made b.1

-- an outbox that was offered these asks for them
asks_by : (call : Call) (out : Outbox) (all : List Action) → out ≡ offered all → AsksFor (item call out) all
asks_by call out all e = (ap (λ (o : Outbox). o.actions) e, ap (λ (o : Outbox). o.over) e)

asks_as : (one : Made) (all other : List Action) → all ≡ other → AsksFor one all → AsksFor one other
asks_as one all other e h = subst (λ (l : List Action). AsksFor one l) e h

-- ## The ready list

un_not : (u b : Bool) → b ≡ not u → u ≡ not b
un_not true b e = sym (ap not e)
un_not false b e = sym (ap not e)

-- the script with the ready list carried out
record IsStarted (part : PartScript) (first : List ℕ) (now : RunningValue) (made : List Made) : Type 0 where
  part_is : now.machine.part ≡ part
  values_are : now.machine.values ≡ values_after part first (views_called made)
  visible_is : now.visible ≡ sort (filter_map shown (handed made))
  last_is : now.last ≡ last_begun made
  started_is : now.started ≡ true

-- with the ready list carried out now
abbrev starts_now : RunningValue → RunningValue
starts_now r = record r { machine = record { part = r.machine.part; values = (readied r).values }; started = true }

module _ (part : PartScript) (first : List ℕ) (r : RunningValue) (made : List Made) (h : IsPlaying part first r made) where
  -- what the ready list does where it wasn't carried out
  readied_is : r.started ≡ false → readied r ≡ ready part first
  readied_is e =
      ap (λ (p : PartScript). ready p r.machine.values) h.part_is
      ∙ ap (λ (l : List ℕ). ready part l) (h.values_are ∙ ap (λ (b : Bool). values_behind b part first (views_called made)) e)

  unstarted : r.started ≡ false → is_unstarted made ≡ true
  unstarted e = un_not (is_unstarted made) r.started h.started_is ∙ ap not e

  is_started : IsStarted part first (started r) made
  is_started = on r.started refl
    where
      on : (b : Bool) → r.started ≡ b → IsStarted part first (started r) made
      on true e = subst (λ (s : RunningValue). IsStarted part first s made) (sym (ap (λ (c : Bool). if c then r else starts_now r) e)) (record {
        part_is = h.part_is;
        values_are = h.values_are ∙ ap (λ (b : Bool). values_behind b part first (views_called made)) e;
        visible_is = h.visible_is;
        last_is = h.last_is;
        started_is = e;
      })
      on false e = subst (λ (s : RunningValue). IsStarted part first s made) (sym (ap (λ (c : Bool). if c then r else starts_now r) e)) (record {
        part_is = h.part_is;
        values_are = ap (λ (p : Played). p.values) (readied_is e) ∙ ap (λ (l : List View). values_after part first l) (sym (no_views [] made (unstarted e)));
        visible_is = h.visible_is;
        last_is = h.last_is;
        started_is = refl;
      })

  start_asks_are : start_asks r ≡ asked_for (script_of part first) made calls.Ready
  start_asks_are = on r.started refl
    where
      on : (b : Bool) → r.started ≡ b → start_asks r ≡ asked_for (script_of part first) made calls.Ready
      on true e =
          let begun : is_unstarted made ≡ false = un_not (is_unstarted made) r.started h.started_is ∙ ap not e in
          ap (λ (c : Bool). if c then [] else (readied r).actions) e
          ∙ sym (ap (λ (c : Bool). if c then (ready part first).actions else []) begun)
      on false e =
          ap (λ (c : Bool). if c then [] else (readied r).actions) e
          ∙ ap (λ (p : Played). p.actions) (readied_is e)
          ∙ sym (ap (λ (c : Bool). if c then (ready part first).actions else []) (unstarted e))

-- ## Each kind of call

-- the script has been played in these calls, and is as they left it
record Plays (part : PartScript) (first : List ℕ) (now : RunningValue) (made : List Made) : Type 0 where
  played : HasPlayed (script_of part first) made
  running : IsPlaying part first now made

module _ (part : PartScript) (first : List ℕ) (s : RunningValue) (made : List Made) (h : IsStarted part first s made) where
  step_plays_are : (at : ℕ) → step_plays s at ≡ script part (values_after part first (views_called made)) at (view_behind made at).seen
  step_plays_are at =
      let seen : seen_at s at ≡ (view_behind made at).seen =
      ap (λ (l : List Visible). map delivered (filter (is_between s.last at) l)) h.visible_is
      ∙ ap (λ (t : ℕ). map delivered (filter (is_between t at) (sort (filter_map shown (handed made))))) h.last_is in
      ap (λ (p : PartScript). script p s.machine.values at (seen_at s at)) h.part_is
      ∙ ap (λ (l : List ℕ). script part l at (seen_at s at)) h.values_are
      ∙ ap (λ (l : List Delivery). script part (values_after part first (views_called made)) at l) seen

  -- behind the ready handler
  ready_goes : (out : Outbox) → IsPlaying part first s (made ++ item calls.Ready out ∷ [])
  ready_goes out = let one = item calls.Ready out in record {
    part_is = h.part_is;
    values_are = h.values_are
        ∙ ap (λ (l : List View). values_after part first l) (sym (views_more [] made one ∙ append-nil (views_called made)))
        ∙ sym (ap (λ (b : Bool). values_behind b part first (views_called (made ++ one ∷ []))) h.started_is);
    visible_is = h.visible_is ∙ ap (λ (l : List Heard). sort (filter_map shown l)) (sym (handed_more made one ∙ append-nil (handed made)));
    last_is = h.last_is ∙ sym (last_more made one);
    started_is = h.started_is ∙ sym (ap not (unstarted_more made one ∙ and_right (is_unstarted made) false refl));
  }

  -- behind a step
  step_goes : (number at : ℕ) (out : Outbox) → IsPlaying part first (played_on s at) (made ++ item (calls.Step number at) out ∷ [])
  step_goes number at out = let one = item (calls.Step number at) out in record {
    part_is = h.part_is;
    values_are = ap (λ (p : Played). p.values) (step_plays_are at)
        ∙ sym (fold-append (λ (values : List ℕ) (step : View). (script part values step.at step.seen).values) (ready part first).values (views_called made) (view_behind made at ∷ []))
        ∙ ap (λ (l : List View). values_after part first l) (sym (views_more [] made one))
        ∙ sym (ap (λ (b : Bool). values_behind b part first (views_called (made ++ one ∷ []))) h.started_is);
    visible_is = h.visible_is ∙ ap (λ (l : List Heard). sort (filter_map shown l)) (sym (handed_more made one ∙ append-nil (handed made)));
    last_is = sym (last_more made one);
    started_is = h.started_is ∙ sym (ap not (unstarted_more made one ∙ and_right (is_unstarted made) false refl));
  }

module _ (part : PartScript) (first : List ℕ) (r : RunningValue) (made : List Made) (h : Plays part first r made) where
  ready_plays : (out : Outbox) → out ≡ offered (start_asks r) → Plays part first (started r) (made ++ item calls.Ready out ∷ [])
  ready_plays out e = record {
    played = played_more (script_of part first) [] made (item calls.Ready out) h.played
        (asks_as (item calls.Ready out) (start_asks r) _ (start_asks_are part first r made h.running) (asks_by calls.Ready out (start_asks r) e));
    running = ready_goes part first (started r) made (is_started part first r made h.running) out;
  }

  step_is_played : (number at : ℕ) (out : Outbox) → out ≡ offered (step_asks r at) → Plays part first (stepped r at) (made ++ item (calls.Step number at) out ∷ [])
  step_is_played number at out e =
      let begun = is_started part first r made h.running in record {
        played = played_more (script_of part first) [] made (item (calls.Step number at) out) h.played
            (asks_as (item (calls.Step number at) out) (step_asks r at) _ (ap (λ (p : Played). p.actions) (step_plays_are part first (started r) made begun at))
            (asks_by (calls.Step number at) out (step_asks r at) e));
        running = step_goes part first (started r) made begun number at out;
      }

-- behind a message
message_goes : (part : PartScript) (first : List ℕ) (r : RunningValue) (made : List Made) (p place service : ℕ) (m : Content) → IsPlaying part first r made
    → IsPlaying part first (record r { visible = sort (filter_map shown (handed made ++ hearings.Message p place service m ∷ [])) }) (made ++ item (calls.Message p place service m) (offered []) ∷ [])
message_goes part first r made p place service m h = let one = item (calls.Message p place service m) (offered []) in record {
  part_is = h.part_is;
  values_are = h.values_are ∙ ap (λ (l : List View). values_behind r.started part first l) (sym (views_more [] made one ∙ append-nil (views_called made)));
  visible_is = ap (λ (l : List Heard). sort (filter_map shown l)) (sym (handed_more made one));
  last_is = h.last_is ∙ sym (last_more made one);
  started_is = h.started_is ∙ sym (ap not (unstarted_more made one ∙ and-true (is_unstarted made)));
}

-- ## The app

module _ (S : ScenarioValue) (number : ℕ) where
  plays_of : (r : RunningValue) (made : List Made) → IsScripted S number false r made → (part : PartValue) → slice_get S.participants number ≡ Some part →
      Plays (part_of part) (first_values part.vars) r made
  plays_of r made h part at = record { played = h.played part at; running = h.running refl part at }

  scripted_by : (r : RunningValue) (made : List Made) → ((part : PartValue) → slice_get S.participants number ≡ Some part → Plays (part_of part) (first_values part.vars) r made) →
      IsScripted S number false r made
  scripted_by r made h = record { played = λ part at. (h part at).played; running = λ e part at. (h part at).running }

  -- memory was refused: the calls are as they were, and of the script nothing is known
  scripted_no_more : (failed : Bool) (was now : RunningValue) (made : List Made) → IsScripted S number failed was made → IsScripted S number true now made
  scripted_no_more failed was now made h = record { played = h.played; running = λ e. absurd (both_ways true e refl) }

  -- before the first call
  pub new_scripted : (part : PartValue) (now : RunningValue) (made : List Made) → slice_get S.participants number ≡ Some part → now ≡ first_running part → made ≡ [] → IsScripted S number false now made
  new_scripted part now made at is none = record {
    played = λ other there. subst (λ (l : List Made). HasPlayed (script_of (part_of other) (first_values other.vars)) l) (sym none) tt;
    running = λ e other there.
        subst (λ (l : List Made). IsPlaying (part_of other) (first_values other.vars) now l) (sym none)
        (subst (λ (s : RunningValue). IsPlaying (part_of other) (first_values other.vars) s []) (sym (is ∙ ap first_running (same_Some part other (sym at ∙ there)))) (record {
          part_is = refl;
          values_are = refl;
          visible_is = refl;
          last_is = refl;
          started_is = refl;
        }));
  }

  module _ {T E : Type 0} (was now : RunningValue) (made all : List Made) (h : ∥ IsScripted S number false was made ∥₁) where
    -- behind the ready handler, whatever it answers
    pub ready_scripted : (out : Outbox) (answer : Result T E) → OnOk answer (all ≡ made ++ item calls.Ready out ∷ []) → OnOk answer (out ≡ offered (start_asks was)) →
        OnOk answer (now ≡ started was) → OnErr answer (all ≡ made) → ∥ IsScripted S number (is_err answer) now all ∥₁
    ready_scripted out (Ok x) more asks is same = ∥∥₁_map h (λ scripted.
        subst (λ (l : List Made). IsScripted S number false now l) (sym more)
        (subst (λ (s : RunningValue). IsScripted S number false s (made ++ item calls.Ready out ∷ [])) (sym is)
        (scripted_by (started was) (made ++ item calls.Ready out ∷ []) (λ part at. ready_plays (part_of part) (first_values part.vars) was made (plays_of was made scripted part at) out asks))))
    ready_scripted out (Err x) more asks is same = ∥∥₁_map h (λ scripted.
        subst (λ (l : List Made). IsScripted S number true now l) (sym same) (scripted_no_more false was now made scripted))

    -- behind a step, whatever it answers
    pub step_scripted : (count at : ℕ) (out : Outbox) (answer : Result T E) → OnOk answer (all ≡ made ++ item (calls.Step count at) out ∷ []) → OnOk answer (out ≡ offered (step_asks was at)) →
        OnOk answer (now ≡ stepped was at) → OnErr answer (all ≡ made) → ∥ IsScripted S number (is_err answer) now all ∥₁
    step_scripted count t out (Ok x) more asks is same = ∥∥₁_map h (λ scripted.
        subst (λ (l : List Made). IsScripted S number false now l) (sym more)
        (subst (λ (s : RunningValue). IsScripted S number false s (made ++ item (calls.Step count t) out ∷ [])) (sym is)
        (scripted_by (stepped was t) (made ++ item (calls.Step count t) out ∷ []) (λ part at. step_is_played (part_of part) (first_values part.vars) was made (plays_of was made scripted part at) count t out asks))))
    step_scripted count t out (Err x) more asks is same = ∥∥₁_map h (λ scripted.
        subst (λ (l : List Made). IsScripted S number true now l) (sym same) (scripted_no_more false was now made scripted))

  -- behind a message
  pub message_scripted : (failed : Bool) (was now : RunningValue) (made all : List Made) (p place service : ℕ) (m : Content) → ∥ IsScripted S number failed was made ∥₁ →
      all ≡ made ++ item (calls.Message p place service m) (offered []) ∷ [] →
      ((heard : List Heard) → was.visible ≡ sort (filter_map shown heard) → now ≡ record was { visible = sort (filter_map shown (heard ++ hearings.Message p place service m ∷ [])) }) →
      ∥ IsScripted S number failed now all ∥₁
  message_scripted failed was now made all p place service m h more noted = ∥∥₁_map h (λ scripted. let one = item (calls.Message p place service m) (offered []) in
      subst (λ (l : List Made). IsScripted S number failed now l) (sym more) (record {
        played = λ part at. played_more (script_of (part_of part) (first_values part.vars)) [] made one (scripted.played part at) (refl, refl);
        running = λ e part at. (let before = scripted.running e part at in
            subst (λ (s : RunningValue). IsPlaying (part_of part) (first_values part.vars) s (made ++ one ∷ [])) (sym (noted (handed made) before.visible_is))
            (message_goes (part_of part) (first_values part.vars) was made p place service m before));
      }))

  -- where nothing came of a call
  pub same_scripted : (failed : Bool) (was now : RunningValue) (made all : List Made) → ∥ IsScripted S number failed was made ∥₁ → all ≡ made → now ≡ was → ∥ IsScripted S number failed now all ∥₁
  same_scripted failed was now made all h none is = ∥∥₁_map h (λ scripted.
      subst (λ (l : List Made). IsScripted S number failed now l) (sym none) (subst (λ (s : RunningValue). IsScripted S number failed s made) (sym is) scripted))
