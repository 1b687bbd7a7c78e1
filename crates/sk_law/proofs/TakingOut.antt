-- A message is taken out.
use Rattle.std.specs.Prelude.{◌≡◌, refl, ℕ, ◌+◌, ◌<◌, ◌≤◌, Bool, List, [], ◌∷◌, zero, suc, IfNone, slice_get, length, drop, Option, Some, None, slice_index_or, slice_set}
use Rattle.std.proofs.Common.{ap, sym, ◌∙◌, subst, arith, length-set, get_or-set_same, get_or-set_other}
use Rattle.std.proofs.lemmas.Option.{slice_get_within}
use Rattle.sk_msg.specs.declared.content.Content.{Content}
use Rattle.sk_msg.specs.declared.entry.Entry.{Entry}
use Rattle.sk_system.specs.View.{View}
use Rattle.sk_law.specs.declared.setup.Setup.{Setup}
use Rattle.sk_law.specs.Readings.{put, put_to}
use Rattle.sk_law.specs.declared.line.Line.{Line}
use Rattle.sk_law.specs.declared.tally.Tally.{Tally}
use Rattle.sk_law.specs.Tied.{Tied, all_of, taken_in, no_line, line_of}
use Rattle.sk_law.proofs.Ties.{changed_at}
use Rattle.sk_law.proofs.Counting.{few-of}

-- the first that waits is the next one that was put
pub waits-next : (k : ℕ) (ms rest : List Content) (m : Content) → drop k ms ≡ m ∷ rest → slice_get ms k ≡ Some m
waits-next zero (x ∷ ms) rest m e = let h : x ≡ m = cc in ap Some h
waits-next zero [] rest m e = absurd (let no : [] ≡ m ∷ rest = e in cc)
waits-next (suc k) (x ∷ ms) rest m e = waits-next k ms rest m e
waits-next (suc k) [] rest m e = absurd (let no : [] ≡ m ∷ rest = e in cc)

-- and behind it stand the others
waits-rest : (k : ℕ) (ms rest : List Content) (m : Content) → drop k ms ≡ m ∷ rest → drop (suc k) ms ≡ rest
waits-rest zero (x ∷ ms) rest m e = let h : ms ≡ rest = cc in h
waits-rest zero [] rest m e = absurd (let no : [] ≡ m ∷ rest = e in cc)
waits-rest (suc k) (x ∷ ms) rest m e = waits-rest k ms rest m e
waits-rest (suc k) [] rest m e = absurd (let no : [] ≡ m ∷ rest = e in cc)

-- nothing waits
pub waits-none : (k : ℕ) (ms : List Content) → k ≤ length ms → drop k ms ≡ [] → k ≡ length ms
waits-none zero [] le e = refl
waits-none zero (x ∷ ms) le e = absurd (let no : x ∷ ms ≡ [] = e in cc)
waits-none (suc k) [] le e = absurd (omega arith)
waits-none (suc k) (x ∷ ms) le e = ap suc (waits-none k ms (omega arith) e)

pub tied-out : {S : Setup} {tools : List (List ℕ)} {out : List ℕ} {es : List Entry} {tally : Tally} {lines : List Line} {view : View} {awaited : Option Bool} {limit : ℕ}
    (q : ℕ) (m : Content) (rest : List Content) → Tied S tools out es tally lines view awaited limit → q < all_of S tools →
    (slice_index_or lines q no_line).waiting ≡ m ∷ rest →
    Tied S tools (slice_set out q (slice_index_or out q 0 + 1)) es tally (slice_set lines q (record (slice_index_or lines q no_line) { waiting = rest })) view awaited limit
tied-out {S} {tools} {out} {es} {tally} {lines} {view} {awaited} {limit} q m rest h small first =
    let k : ℕ = slice_index_or out q 0 in
    let next : drop k (put es q) ≡ m ∷ rest = sym (ap (λ (l : Line). l.waiting) (h.line q small)) ∙ first in
    let there : k < length (put es q) = slice_get_within (put es q) k m (waits-next k (put es q) rest m next) in
    let here : q < length out = subst (λ n. q < n) (sym h.all_out) small in
    record {
      own = h.own;
      few = h.few;
      few_tools = h.few_tools;
      sized = h.sized;
      duration = h.duration;
      early = h.early;
      open_early = h.open_early;
      tally_is = h.tally_is;
      all_lines = length-set lines q new ∙ h.all_lines;
      all_out = length-set out q (k + 1) ∙ h.all_out;
      line = λ p lt. changed_at lines q new no_line (λ r l. r < all_of S tools → l ≡ line_of (taken_in S tools es) (slice_set out q (k + 1)) es r)
          (subst (λ n. q < n) (sym h.all_lines) small)
          (λ l. ap (λ (x : Line). record x { waiting = rest }) (h.line q small)
          ∙ ap (a_rest (line_of (taken_in S tools es) out es q)) (sym (ap (λ n. drop n (put es q)) (get_or-set_same out q (k + 1) 0 here ∙ (let one : k + 1 ≡ suc k = omega arith in one)) ∙ waits-rest k (put es q) rest m next)))
          (λ r ne l. h.line r l ∙ ap (λ n. a_rest (line_of (taken_in S tools es) out es r) (drop n (put es r))) (sym (get_or-set_other out q r (k + 1) 0 ne))) p lt;
      within = λ p lt. changed_at out q (k + 1) 0 (λ r n. r < all_of S tools → n ≤ length (put es r)) here (λ l. omega arith) (λ r ne l. h.within r l) p lt;
      no_gone = h.no_gone;
      no_got = h.no_got;
      all_known = h.all_known;
      known = h.known;
      required = h.required;
      awaited_is = h.awaited_is;
      limit_is = h.limit_is;
    }
  where
    new : Line
    new = record (slice_index_or lines q no_line) { waiting = rest }

    a_rest : Line → List Content → Line
    a_rest line ws = record line { waiting = ws }

-- so few were put
pub few-put : (es : List Entry) (q : ℕ) → length (put es q) ≤ length es
few-put es q = few-of (put_to q) es

-- what a clause says of None
pub on_none : {X P : Type 0} (r : Option X) → P → IfNone r P
on_none None p = p
on_none (Some x) p = tt
