-- What a net in memory keeps, as the words of its trait.
use Rattle.std.specs.Prelude.{ℕ, Bool, true, false, List, [], map, slice_get}
use Rattle.std.specs.Option.{option_map_or}
use Rattle.sk_base.specs.Talk.{Said}
use Rattle.sk_base.specs.Calls.{Called, NobodyWaited, Refused}
use Rattle.sk_base.specs.Memory.{talk_of}
use Rattle.sk_base.specs.declared.memory.net.Kept as net
use Rattle.sk_base.specs.declared.memory.net.Kept.TheVariants as net_kept
use Rattle.sk_base.specs.declared.memory.net.Opened.{Opened}

-- what one kept call says
abbrev pub called_of : net.Kept → Called
called_of net_kept.NobodyWaited = NobodyWaited
called_of (net_kept.Refused address) = Refused address

-- all that was asked of the net
abbrev pub calls_of : List net.Kept → List Called
calls_of log = map called_of log

-- of the link of this number, where it was opened
abbrev pub of_link : {B : Type 0} → (Opened → B) → B → List Opened → ℕ → B
of_link of none links number = option_map_or of (slice_get links number) none

-- whether the link of this number is open
abbrev pub is_open_at : List Opened → ℕ → Bool
is_open_at links number = of_link (λ opened. opened.is_open) false links number

-- whether there ever was one of this number
abbrev pub was_opened_at : List Opened → ℕ → Bool
was_opened_at links number = of_link (λ opened. true) false links number

-- how many of its calls failed
abbrev pub faults_at : List Opened → ℕ → ℕ
faults_at links number = of_link (λ opened. opened.link.calls.faults) 0 links number

-- what was said on it
abbrev pub talk_at : List Opened → ℕ → List Said
talk_at links number = of_link (λ opened. talk_of opened.link.log.items) [] links number
