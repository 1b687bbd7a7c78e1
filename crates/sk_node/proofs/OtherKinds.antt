-- An action on a service of another kind is refused.
use Rattle.std.specs.Prelude.{◌≡◌, ◌⊎◌, refl, ℕ, Bool, List}
use Rattle.std.proofs.Common.{inl, inr, sym, subst}
use Rattle.sk_can.specs.Can.{Can}
use Rattle.sk_lin.specs.Lin.{Lin}
use Rattle.sk_pubsub.specs.Publishing.{Publishing}
use Rattle.sk_rpc.specs.declared.open_call.OpenCall.{OpenCall}
use Rattle.sk_law.specs.declared.memory.ServiceState.{ServiceState}
use Rattle.sk_law.specs.declared.memory.ServiceState.TheVariants as states
use Rattle.sk_law.specs.Outcomes.{Outcome, refused, on_can, on_ethernet, on_lin, on_publisher, on_client, on_server}

-- it is at this, with some value
abbrev pub Is : {X : Type 0} → (X → ServiceState) → ServiceState → Type 0
Is {X} make at = (x : X) × (at ≡ make x)

pub not_can : (at : ServiceState) (act : Can → Outcome) →
    Is states.Ethernet at ⊎ (Is states.Lin at ⊎ (Is states.Publisher at ⊎ ((at ≡ states.Subscriber) ⊎ (Is states.Server at ⊎ Is states.Client at)))) →
    refused 1 at ≡ on_can at act
not_can at act (inl p) = subst (λ s. refused 1 s ≡ on_can s act) (sym p.1) refl
not_can at act (inr (inl p)) = subst (λ s. refused 1 s ≡ on_can s act) (sym p.1) refl
not_can at act (inr (inr (inl p))) = subst (λ s. refused 1 s ≡ on_can s act) (sym p.1) refl
not_can at act (inr (inr (inr (inl e)))) = subst (λ s. refused 1 s ≡ on_can s act) (sym e) refl
not_can at act (inr (inr (inr (inr (inl p))))) = subst (λ s. refused 1 s ≡ on_can s act) (sym p.1) refl
not_can at act (inr (inr (inr (inr (inr p))))) = subst (λ s. refused 1 s ≡ on_can s act) (sym p.1) refl

pub not_ethernet : (at : ServiceState) (act : Bool → Outcome) →
    Is states.Can at ⊎ (Is states.Lin at ⊎ (Is states.Publisher at ⊎ ((at ≡ states.Subscriber) ⊎ (Is states.Server at ⊎ Is states.Client at)))) →
    refused 1 at ≡ on_ethernet at act
not_ethernet at act (inl p) = subst (λ s. refused 1 s ≡ on_ethernet s act) (sym p.1) refl
not_ethernet at act (inr (inl p)) = subst (λ s. refused 1 s ≡ on_ethernet s act) (sym p.1) refl
not_ethernet at act (inr (inr (inl p))) = subst (λ s. refused 1 s ≡ on_ethernet s act) (sym p.1) refl
not_ethernet at act (inr (inr (inr (inl e)))) = subst (λ s. refused 1 s ≡ on_ethernet s act) (sym e) refl
not_ethernet at act (inr (inr (inr (inr (inl p))))) = subst (λ s. refused 1 s ≡ on_ethernet s act) (sym p.1) refl
not_ethernet at act (inr (inr (inr (inr (inr p))))) = subst (λ s. refused 1 s ≡ on_ethernet s act) (sym p.1) refl

pub not_lin : (at : ServiceState) (act : Lin → Outcome) →
    Is states.Can at ⊎ (Is states.Ethernet at ⊎ (Is states.Publisher at ⊎ ((at ≡ states.Subscriber) ⊎ (Is states.Server at ⊎ Is states.Client at)))) →
    refused 1 at ≡ on_lin at act
not_lin at act (inl p) = subst (λ s. refused 1 s ≡ on_lin s act) (sym p.1) refl
not_lin at act (inr (inl p)) = subst (λ s. refused 1 s ≡ on_lin s act) (sym p.1) refl
not_lin at act (inr (inr (inl p))) = subst (λ s. refused 1 s ≡ on_lin s act) (sym p.1) refl
not_lin at act (inr (inr (inr (inl e)))) = subst (λ s. refused 1 s ≡ on_lin s act) (sym e) refl
not_lin at act (inr (inr (inr (inr (inl p))))) = subst (λ s. refused 1 s ≡ on_lin s act) (sym p.1) refl
not_lin at act (inr (inr (inr (inr (inr p))))) = subst (λ s. refused 1 s ≡ on_lin s act) (sym p.1) refl

pub not_publisher : (at : ServiceState) (act : Publishing → Outcome) →
    Is states.Can at ⊎ (Is states.Ethernet at ⊎ (Is states.Lin at ⊎ ((at ≡ states.Subscriber) ⊎ (Is states.Server at ⊎ Is states.Client at)))) →
    refused 1 at ≡ on_publisher at act
not_publisher at act (inl p) = subst (λ s. refused 1 s ≡ on_publisher s act) (sym p.1) refl
not_publisher at act (inr (inl p)) = subst (λ s. refused 1 s ≡ on_publisher s act) (sym p.1) refl
not_publisher at act (inr (inr (inl p))) = subst (λ s. refused 1 s ≡ on_publisher s act) (sym p.1) refl
not_publisher at act (inr (inr (inr (inl e)))) = subst (λ s. refused 1 s ≡ on_publisher s act) (sym e) refl
not_publisher at act (inr (inr (inr (inr (inl p))))) = subst (λ s. refused 1 s ≡ on_publisher s act) (sym p.1) refl
not_publisher at act (inr (inr (inr (inr (inr p))))) = subst (λ s. refused 1 s ≡ on_publisher s act) (sym p.1) refl

pub not_client : (at : ServiceState) (act : ℕ → Outcome) →
    Is states.Can at ⊎ (Is states.Ethernet at ⊎ (Is states.Lin at ⊎ (Is states.Publisher at ⊎ ((at ≡ states.Subscriber) ⊎ Is states.Server at)))) →
    refused 1 at ≡ on_client at act
not_client at act (inl p) = subst (λ s. refused 1 s ≡ on_client s act) (sym p.1) refl
not_client at act (inr (inl p)) = subst (λ s. refused 1 s ≡ on_client s act) (sym p.1) refl
not_client at act (inr (inr (inl p))) = subst (λ s. refused 1 s ≡ on_client s act) (sym p.1) refl
not_client at act (inr (inr (inr (inl p)))) = subst (λ s. refused 1 s ≡ on_client s act) (sym p.1) refl
not_client at act (inr (inr (inr (inr (inl e))))) = subst (λ s. refused 1 s ≡ on_client s act) (sym e) refl
not_client at act (inr (inr (inr (inr (inr p))))) = subst (λ s. refused 1 s ≡ on_client s act) (sym p.1) refl

pub not_server : (at : ServiceState) (act : List OpenCall → Outcome) →
    Is states.Can at ⊎ (Is states.Ethernet at ⊎ (Is states.Lin at ⊎ (Is states.Publisher at ⊎ ((at ≡ states.Subscriber) ⊎ Is states.Client at)))) →
    refused 1 at ≡ on_server at act
not_server at act (inl p) = subst (λ s. refused 1 s ≡ on_server s act) (sym p.1) refl
not_server at act (inr (inl p)) = subst (λ s. refused 1 s ≡ on_server s act) (sym p.1) refl
not_server at act (inr (inr (inl p))) = subst (λ s. refused 1 s ≡ on_server s act) (sym p.1) refl
not_server at act (inr (inr (inr (inl p)))) = subst (λ s. refused 1 s ≡ on_server s act) (sym p.1) refl
not_server at act (inr (inr (inr (inr (inl e))))) = subst (λ s. refused 1 s ≡ on_server s act) (sym e) refl
not_server at act (inr (inr (inr (inr (inr p))))) = subst (λ s. refused 1 s ≡ on_server s act) (sym p.1) refl
