-- What tools take from the kinds that they don't look at.
use Rattle.std.proofs.Common.{◌≡◌, ◌⊎◌, inl, inr, ℕ, List, refl}
use Rattle.sk_msg.specs.declared.content.Content.{Content}
use Rattle.sk_msg.specs.declared.content.Content.TheVariants.{Hello, Leave, NextStep, ServiceAdd, ServicesEnd, Status, Workflow, Abort, Can, Eth, Lin, LinResponse, Publish, Call, Reply, Refuse}
use Rattle.sk_msg.specs.declared.state.State.{State}
use Rattle.sk_system.specs.Notice.{Nothing, notice_of}

pub other_kinds : (content : Content) → (content ≡ Leave → ⊥) → ((state : State) (until : ℕ) → content ≡ Status state until → ⊥)
    → (notice_of content ≡ Nothing) ⊎ ((names : List (List ℕ)) × (content ≡ Workflow names))
other_kinds Leave a b = absurd (a refl)
other_kinds (Status state until) a b = absurd (b state until refl)
other_kinds (Workflow names) a b = inr (names, refl)
other_kinds (Hello n r t) a b = inl refl
other_kinds (NextStep t d) a b = inl refl
other_kinds (ServiceAdd s) a b = inl refl
other_kinds ServicesEnd a b = inl refl
other_kinds Abort a b = inl refl
other_kinds (Can h f) a b = inl refl
other_kinds (Eth h d) a b = inl refl
other_kinds (Lin h f) a b = inl refl
other_kinds (LinResponse h r) a b = inl refl
other_kinds (Publish h d) a b = inl refl
other_kinds (Call h n d) a b = inl refl
other_kinds (Reply h k n d) a b = inl refl
other_kinds (Refuse r) a b = inl refl
