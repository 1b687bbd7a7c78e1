-- What may be asked of each peer.
use Rattle.std.specs.Prelude.{ℕ, Bool, not, ◌&&◌, ◌||◌, ◌==◌, List, slice_index_or}
use Rattle.std.specs.List.{list_any, list_all, range_with_len}
use Rattle.sk_law.specs.declared.said.Said.{Said}
use Rattle.sk_law.specs.Links.{has_announced}
use Rattle.sk_law.specs.Rows.{has_stopped}
use Rattle.sk_law.specs.declared.journal.links.Question.{Question}
use Rattle.sk_law.specs.declared.journal.links.Question.TheVariants.{Hello, ServicesEnd, Announced, Done}
use Rattle.sk_law.specs.declared.line.Line.{Line}
use Rattle.sk_law.specs.Tied.{no_line}

-- of one that is gone or not, and has said this, the answer is yes
abbrev pub answers : Question → Bool → Said → Bool
answers Hello gone s = s.hello
answers ServicesEnd gone s = s.ended
answers (Announced at) gone s = not s.synchronised || (not (not gone && not s.left) || has_announced at s.announced)
answers Done gone s = not s.synchronised || (s.left || has_stopped s.status)

-- of the line at a number
abbrev pub line_answers : Question → List Line → ℕ → Bool
line_answers question lines p = answers question (slice_index_or lines p no_line).gone (slice_index_or lines p no_line).said

-- it has neither left nor gone
abbrev pub line_is_here : List Line → ℕ → Bool
line_is_here lines p = not (slice_index_or lines p no_line).gone && not (slice_index_or lines p no_line).said.left

-- of each number below a limit but the own one
abbrev pub all_answer : Question → List Line → ℕ → ℕ → Bool
all_answer question lines own limit = list_all (λ p. p == own || line_answers question lines p) (range_with_len 0 limit)

-- of so many numbers from one on, one is here
abbrev pub some_here : List Line → ℕ → ℕ → Bool
some_here lines from count = list_any (line_is_here lines) (range_with_len from count)
