-- How the items of a list make the whole of it.
use Rattle.std.proofs.Common.{◌≡◌, ℕ, ◌+◌, ◌<◌, List, [], ◌∷◌, ◌++◌, length, get_or, drop, Ok, Err, sym, subst}
use Rattle.std.specs.Prelude.{Result}
use Rattle.serde_json.specs.Data.{Data}
use Rattle.serde_json.specs.View.{view, items_view}
use Rattle.serde_json.specs.declared.value.Value.{Value}
use Rattle.sk_config.specs.Paths.{index_at}
use Rattle.sk_rules.specs.Outcome.{◌>>=◌}
use Rattle.sk_rules.specs.Fields.{items_read}
use Rattle.sk_rules.specs.declared.fault.ScenarioFault.{ScenarioFault}
use Rattle.sk_rules.proofs.JsonLaws.{items_from}

module _ {A : Type 0} (read : List ℕ → List A → Data → Result A ScenarioFault) (path : List ℕ) (vs : List Value) (earlier : List A) (index : ℕ) (v : Value) (place : List ℕ)
    (within : index < length vs) (is : v ≡ get_or vs index v) (stands : place ≡ index_at path index)
    (so_far : items_read read path earlier index (items_view (drop index vs)) ≡ items_read read path [] 0 (items_view vs)) where
  here : (read place earlier (view v) >>= λ value. items_read read path (earlier ++ value ∷ []) (index + 1) (items_view (drop (index + 1) vs))) ≡ items_read read path [] 0 (items_view vs)
  here =
      subst (λ p. (read p earlier (view v) >>= λ value. items_read read path (earlier ++ value ∷ []) (index + 1) (items_view (drop (index + 1) vs))) ≡ items_read read path [] 0 (items_view vs)) (sym stands)
      (subst (λ ds. items_read read path earlier index ds ≡ items_read read path [] 0 (items_view vs)) (items_from vs index v within is) so_far)

  -- one more was read
  pub items_more : (value : A) → read place earlier (view v) ≡ Ok value
      → items_read read path (earlier ++ value ∷ []) (index + 1) (items_view (drop (index + 1) vs)) ≡ items_read read path [] 0 (items_view vs)
  items_more value fine =
      subst (λ r. (r >>= λ value. items_read read path (earlier ++ value ∷ []) (index + 1) (items_view (drop (index + 1) vs))) ≡ items_read read path [] 0 (items_view vs)) fine here

  -- the next one is refused, and so is the whole
  pub items_refused : (fault : ScenarioFault) → read place earlier (view v) ≡ Err fault → items_read read path [] 0 (items_view vs) ≡ Err fault
  items_refused fault wrong =
      sym (subst (λ r. (r >>= λ value. items_read read path (earlier ++ value ∷ []) (index + 1) (items_view (drop (index + 1) vs))) ≡ items_read read path [] 0 (items_view vs)) wrong here)
