-- Before the first entry.
use Rattle.std.specs.Prelude.{◌≡◌, refl, ℕ, zero, suc, ◌+◌, ◌<◌, ◌≤◌, ◌^◌, min, Bool, true, false, List, [], ◌∷◌, replicate, IsTrue, length, drop, Option, Some, None, slice_index_or, slice_set, IfSome, if◌then◌else◌}
use Rattle.std.specs.List.{fold, flat_map}
use Rattle.std.specs.Option.{option_map, option_or}
use Rattle.std.proofs.Common.{ap, sym, ◌∙◌, subst, arith, length-set}
use Rattle.std.proofs.lemmas.List.{length-replicate, get_or-replicate}
use Rattle.std.proofs.lemmas.Bool.{eq-eqb}
use Rattle.sk_msg.specs.declared.service.Service.{Service}
use Rattle.sk_msg.specs.declared.service.ServiceKind.{ServiceKind}
use Rattle.sk_msg.specs.declared.service.ServiceKind.TheVariants as kinds
use Rattle.sk_msg.specs.declared.state.State.{State}
use Rattle.sk_msg.specs.declared.state.State.TheVariants.{Invalid}
use Rattle.sk_msg.specs.Rules.{is_step_size}
use Rattle.sk_pubsub.specs.Announcing.{Announcing, announced_by, nothing_announced}
use Rattle.sk_system.specs.View.{View}
use Rattle.sk_law.specs.declared.memory.ServiceState.{ServiceState}
use Rattle.sk_law.specs.declared.setup.Setup.{Setup}
use Rattle.sk_law.specs.Order.{said_of}
use Rattle.sk_law.specs.Links.{peers}
use Rattle.sk_law.specs.declared.line.Line.{Line}
use Rattle.sk_law.specs.declared.tally.Tally.{Tally}
use Rattle.sk_law.specs.Tallies.{tally_of}
use Rattle.sk_law.specs.Counted.{are_calls, calls_made}
use Rattle.sk_law.specs.Services.{new_state_of, new_states}
use Rattle.sk_law.specs.Tied.{Tied, Served, no_line, known_of, numbered, own_among, with_required, limit_in}
use Rattle.sk_law.proofs.Serving.{are_at, calls_at}
use Rattle.sk_law.proofs.Ties.{a_line, not_same, changed_at}
use Rattle.sk_law.proofs.Hearing.{known-required}

untils-none : (ps : List ℕ) → flat_map (λ (p : ℕ). let xs : List ℕ = [] in xs) ps ≡ []
untils-none [] = refl
untils-none (p ∷ ps) = untils-none ps

limit-none : (S : Setup) → S.duration ≡ limit_in S []
limit-none S = on S.coordinated
  where
    on : (c : Bool) → S.duration ≡ fold min S.duration (if c then flat_map (λ (p : ℕ). let xs : List ℕ = [] in xs) (peers S) else [])
    on true = ap (fold min S.duration) (sym (untils-none (peers S)))
    on false = refl

or-nothing : {X : Type 0} (o : Option X) → o ≡ option_or o None
or-nothing None = refl
or-nothing (Some x) = refl

pub tied-new : (S : Setup) (tally : Tally) (lines : List Line) (out : List ℕ) (view : View) (awaited : Option Bool) → S.number < length S.names → length S.names ≤ 32 →
    IfSome S.step (λ size. IsTrue (is_step_size size)) → S.duration ≤ 2 ^ 61 →
    tally ≡ tally_of [] → lines ≡ replicate (length S.names) no_line → out ≡ replicate (length S.names) 0 →
    view ≡ with_required (option_map (numbered S.names) S.required) (record { required = None; known = slice_set (replicate (length S.names) None) S.number (Some Invalid) }) →
    awaited ≡ option_map (own_among S) S.required →
    Tied S [] out [] tally lines view awaited S.duration
tied-new S tally lines out view awaited own few sized duration counts line outs views awaits =
    record {
      own = own;
      few = few;
      few_tools = omega arith;
      sized = sized;
      duration = duration;
      early = tt;
      open_early = tt;
      tally_is = counts;
      all_lines = ap length line ∙ length-replicate n no_line ∙ plus_none n;
      all_out = ap length outs ∙ length-replicate n 0 ∙ plus_none n;
      line = λ p lt. ap (λ ls. slice_index_or ls p no_line) line ∙ get_or-replicate n p no_line no_line (omega arith)
          ∙ ap (λ k. a_line false (drop k []) 0 (said_of [])) (sym (ap (λ xs. slice_index_or xs p 0) outs ∙ get_or-replicate n p 0 0 (omega arith)));
      within = λ p lt. subst (λ k. k ≤ 0) (sym (ap (λ xs. slice_index_or xs p 0) outs ∙ get_or-replicate n p 0 0 (omega arith))) (omega arith);
      no_gone = λ p le. refl;
      no_got = λ p le. refl;
      all_known = ap length knowns ∙ length-set none S.number (Some Invalid) ∙ long;
      known = λ p lt. ap (λ ks. slice_index_or ks p None) knowns ∙ changed_at none S.number (Some Invalid) None (λ r s. r < n → s ≡ known_of S [] Invalid r) (subst (λ k. S.number < k) (sym long) own)
          (λ l. ap (λ b. if b then Some Invalid else None) (sym (eq-eqb S.number S.number refl)))
          (λ r ne l. get_or-replicate n r None None l ∙ ap (λ b. if b then Some Invalid else None) (sym (not_same r S.number ne))) p lt;
      required = ap (λ (v : View). v.required) views ∙ need S.required ∙ ap (option_map (numbered S.names)) (or-nothing S.required);
      awaited_is = awaits ∙ ap (option_map (own_among S)) (or-nothing S.required);
      limit_is = limit-none S;
    }
  where
    n : ℕ
    n = length S.names

    none : List (Option State)
    none = replicate (length S.names) None

    long : length none ≡ length S.names
    long = length-replicate (length S.names) None

    plus_none : (k : ℕ) → k ≡ k + 0
    plus_none k = omega arith

    first : View
    first = record { required = None; known = slice_set none S.number (Some Invalid) }

    knowns : view.known ≡ slice_set none S.number (Some Invalid)
    knowns = ap (λ (v : View). v.known) views ∙ known-required (option_map (numbered S.names) S.required) first

    need : (o : Option (List (List ℕ))) → (with_required (option_map (numbered S.names) o) first).required ≡ option_map (numbered S.names) o
    need None = refl
    need (Some names) = refl

-- ## The own services

calls-new : (services : List Service) (s : ℕ) → calls_at (new_states services) s ≡ 0
calls-new [] s = refl
calls-new (x ∷ services) zero = on x.kind
  where
    on : (kind : ServiceKind) → calls_made (new_state_of x kind) ≡ 0
    on kinds.Can = refl
    on kinds.Ethernet = refl
    on kinds.Lin = refl
    on kinds.Publisher = refl
    on kinds.Subscriber = refl
    on kinds.Server = refl
    on kinds.Client = refl
calls-new (x ∷ services) (suc s) = calls-new services s

are-new : (services : List Service) (s : ℕ) → are_at (new_states services) s ≡ true
are-new [] s = refl
are-new (x ∷ services) zero = on x.kind
  where
    on : (kind : ServiceKind) → are_calls (new_state_of x kind) ≡ true
    on kinds.Can = refl
    on kinds.Ethernet = refl
    on kinds.Lin = refl
    on kinds.Publisher = refl
    on kinds.Subscriber = refl
    on kinds.Server = refl
    on kinds.Client = refl
are-new (x ∷ services) (suc s) = are-new services s

pub served-new : (S : Setup) (services : List ServiceState) (index : Announcing) → index ≡ nothing_announced S.services → services ≡ new_states S.services →
    Served S [] services [] index
served-new S services index indexed new =
    record {
      own_is = ap (λ (a : Announcing). a.own) indexed;
      announced = λ p. ap (λ (a : Announcing). announced_by a p) indexed;
      called = λ s. ap (λ xs. are_at xs s) new ∙ are-new S.services s;
      counted = λ s. subst (λ n. n ≤ 0) (sym (ap (λ xs. calls_at xs s) new ∙ calls-new S.services s)) (omega arith);
      marked = tt;
    }
