use Rattle.std.proofs.Common.{◌≡◌, ◌⊎◌, ℕ, false, [], length, inl, inr}
use Rattle.sk_base.specs.Ranges.{is_payload}
use Rattle.sk_base.specs.declared.fault.BytesFault.TheVariants.{TooLong, WantOfMemory}
use Rattle.sk_script.proofs.generator.no_bytes.Goals as goal

-- no bytes aren't too many
never : (n : ℕ) → (TooLong n ≡ WantOfMemory) ⊎ ((TooLong n ≡ TooLong (length {A = ℕ} [])) × (is_payload [] ≡ false)) → ⊥
unfolding is_payload
never n (inl same) = absurd cc
never n (inr (same, long)) = absurd cc

pub unreachable-requires : goal.unreachable-requires
unreachable-requires c = absurd (never c.in-Err-TooLong.field-0-0 (rw (c.in-Err-TooLong.is, c.in-Err-TooLong.field-0-is) at c.new.ensures.only))
