-- Equal texts are those of equal worlds.
use Rattle.std.proofs.Common.{◌≡◌, ℕ, ◌+◌, Bool, true, false, eqb, List, [], ◌∷◌, ◌++◌, length, get_or, refl, sym, ap, ◌∙◌, append_assoc, arith}
use Rattle.std.specs.Prelude.{not, ◌&&◌, ◌≤◌, suc, cond, Some, None, codes, decimal, IsTrue, All, is_none, position, ltb, leb}
use Rattle.std.specs.Str.{is_utf8}
use Rattle.std.specs.List.{flat_map, position_or_len}
use Rattle.std.proofs.lemmas.Bool.{and_parts, or_parts, and_from, both_ways, ltb-false, not_from_false, not-true, ne_eqb}
use Rattle.std.proofs.lemmas.List.{append_cancel_left}
use Rattle.std.proofs.lemmas.List.Elements.{All-head, All-tail}
use Rattle.sk_base.specs.Ranges.{is_name, is_text, is_control}
use Rattle.sk_msg.specs.declared.entry.Entry.{Entry}
use Rattle.sk_text.specs.Kept.{IsEntry, IsWorld}
use Rattle.sk_text.specs.Lines.{line, entry_line, world_line, participant_line, participant_lines, journal_head, journals_lines, world_text}
use Rattle.sk_text.proofs.Cuts.{lacks, cut, are_words, is_word, same_line, decimal_word}
use Rattle.sk_text.proofs.Spelled.{OneSpelling}
use Rattle.sk_text.proofs.EntryLaws.{first_word, other_words, line_words, entry_words, same_entry, is_start, entry_start}

-- ---- a name has no newline

abbrev is_newline : ℕ → Bool
is_newline byte = eqb byte 10

lacks_step : (passes : Bool) (n k : ℕ) (more : Bool) → suc n ≤ cond (not passes) (1 + k) 0 → (n ≤ k → more ≡ true) → (not passes && more) ≡ true
lacks_step true n k more h f = absurd (omega arith)
lacks_step false n k more h f = f (omega arith)

none_pass : (test : ℕ → Bool) (xs : List ℕ) → length xs ≤ position_or_len test xs → lacks test xs ≡ true
none_pass test [] h = refl
none_pass test (x ∷ xs) h = lacks_step (test x) (length xs) (position_or_len test xs) (lacks test xs) h (none_pass test xs)

-- what fails one test fails another
lacks_other : (test other : ℕ → Bool) → ((x : ℕ) → test x ≡ false → other x ≡ false) → (xs : List ℕ) → lacks test xs ≡ true → lacks other xs ≡ true
lacks_other test other fails [] h = refl
lacks_other test other fails (x ∷ xs) h =
    let both = and_parts (not (test x)) (lacks test xs) h in
    and_from (not (other x)) (lacks other xs) (not_from_false (other x) (fails x (not-true (test x) both.0))) (lacks_other test other fails xs both.1)

no_newline : (x : ℕ) → is_control x ≡ false → is_newline x ≡ false
no_newline x h =
    let low = ltb-false x 32 (or_parts (ltb x 32) (eqb x 127) h).0 in
    ne_eqb x 10 (λ e. omega arith)

none_at : (found : Bool) (place : ℕ) → is_none (cond found (Some place) None) ≡ true → found ≡ false
none_at true place h = absurd cc
none_at false place h = refl

text_line : (text : List ℕ) → is_text text ≡ true → lacks is_newline text ≡ true
unfolding is_text
text_line text h =
    let ruled = and_parts (is_utf8 text) (leb (length text) 64 && is_none (position is_control text)) h in
    let none = and_parts (leb (length text) 64) (is_none (position is_control text)) ruled.1 in
    let place = position_or_len is_control text in
    let far = ltb-false place (length text) (none_at (ltb place (length text)) place none.1) in
    lacks_other is_control is_newline no_newline text (none_pass is_control text far)

name_line : (name : List ℕ) → is_name name ≡ true → lacks is_newline name ≡ true
unfolding is_name
name_line name h = text_line name (and_parts (ltb 0 (length name)) (is_text name) h).1

-- ---- the lines of the participants

-- the line in front of others, cut behind the number and behind the name
participant_then : (n : ℕ) (name behind : List ℕ)
    → participant_line n name ++ behind ≡ codes "participant " ++ (decimal n ++ 32 ∷ (name ++ 10 ∷ behind))
unfolding participant_line
participant_then n name behind =
    let numbered = append_assoc (decimal n) (32 ∷ (name ++ 10 ∷ [])) behind in
    let named = ap (λ (x : List ℕ). decimal n ++ 32 ∷ x) (append_assoc name (10 ∷ []) behind) in
    ap (λ (x : List ℕ). codes "participant " ++ x) (numbered ∙ named)

-- no line of a participant follows
abbrev IsPast : List ℕ → Type 0
IsPast behind = eqb (get_or behind 0 0) 112 ≡ false

participant_start : (n : ℕ) (name behind : List ℕ) → eqb (get_or (participant_line n name ++ behind) 0 0) 112 ≡ true
unfolding participant_line
participant_start n name behind = refl

-- what is past the participants doesn't begin with one
not_participant : (n : ℕ) (name more behind past : List ℕ) → IsPast past → past ≡ (participant_line n name ++ more) ++ behind → ⊥
not_participant n name more behind past h e =
    let same = ap (λ (x : List ℕ). eqb (get_or x 0 0) 112) (e ∙ append_assoc (participant_line n name) more behind) in
    both_ways (eqb (get_or past 0 0) 112) h (same ∙ participant_start n name (more ++ behind))

abbrev IsNamed : List ℕ → Type 0
IsNamed name = IsTrue (is_name name)

behind_one : (b : ℕ) (xs ys : List ℕ) → b ∷ xs ≡ b ∷ ys → xs ≡ ys
behind_one b xs ys e = cc

same_names : (n : ℕ) (xs ys : List (List ℕ)) (r s : List ℕ) → All IsNamed xs → All IsNamed ys → IsPast r → IsPast s
    → participant_lines n xs ++ r ≡ participant_lines n ys ++ s → (xs ≡ ys) × (r ≡ s)
same_names n [] [] r s hx hy hr hs e = (refl, e)
same_names n [] (y ∷ ys) r s hx hy hr hs e = absurd (not_participant n y (participant_lines (n + 1) ys) s r hr e)
same_names n (x ∷ xs) [] r s hx hy hr hs e = absurd (not_participant n x (participant_lines (n + 1) xs) r s hs (sym e))
same_names n (x ∷ xs) (y ∷ ys) r s hx hy hr hs e =
    let behind_x : List ℕ = participant_lines (n + 1) xs ++ r in
    let behind_y : List ℕ = participant_lines (n + 1) ys ++ s in
    let there = append_assoc (participant_line n x) (participant_lines (n + 1) xs) r ∙ participant_then n x behind_x in
    let here = append_assoc (participant_line n y) (participant_lines (n + 1) ys) s ∙ participant_then n y behind_y in
    let rest_x : List ℕ = 32 ∷ (x ++ 10 ∷ behind_x) in
    let rest_y : List ℕ = 32 ∷ (y ++ 10 ∷ behind_y) in
    let numbered = append_cancel_left (codes "participant ") (decimal n ++ rest_x) (decimal n ++ rest_y) (sym there ∙ e ∙ here) in
    let spaced = append_cancel_left (decimal n) rest_x rest_y numbered in
    let line_x = name_line x (All-head IsNamed x xs hx) in
    let line_y = name_line y (All-head IsNamed y ys hy) in
    let c = cut is_newline x y 10 10 behind_x behind_y line_x line_y refl refl (behind_one 32 (x ++ 10 ∷ behind_x) (y ++ 10 ∷ behind_y) spaced) in
    let more = same_names (n + 1) xs ys r s (All-tail IsNamed x xs hx) (All-tail IsNamed y ys hy) hr hs c.behind in
    let first : x ≡ y = c.front in
    let rest : xs ≡ ys = more.0 in
    (cc, more.1)

-- ---- the lines of a journal

-- no line of an entry follows
abbrev IsNext : List ℕ → Type 0
IsNext behind = is_start (get_or behind 0 0) ≡ false

not_entry : (entry : Entry) (more behind next : List ℕ) → IsNext next → next ≡ (entry_line entry ++ more) ++ behind → ⊥
not_entry entry more behind next h e =
    let same = ap (λ (x : List ℕ). is_start (get_or x 0 0)) (e ∙ append_assoc (entry_line entry) more behind) in
    both_ways (is_start (get_or next 0 0)) h (same ∙ entry_start entry (more ++ behind))

-- an entry's line in front of others, as a line of words
entry_then : (entry : Entry) (more behind : List ℕ) → (entry_line entry ++ more) ++ behind ≡ line (first_word entry ∷ other_words entry) ++ (more ++ behind)
entry_then entry more behind = append_assoc (entry_line entry) more behind ∙ ap (λ (x : List ℕ). x ++ (more ++ behind)) (line_words entry)

abbrev lines_of : List Entry → List ℕ
lines_of entries = flat_map entry_line entries

module _ (law : OneSpelling) where
  same_entries : (xs ys : List Entry) (r s : List ℕ) → All IsEntry xs → All IsEntry ys → IsNext r → IsNext s
      → lines_of xs ++ r ≡ lines_of ys ++ s → (xs ≡ ys) × (r ≡ s)
  same_entries [] [] r s hx hy hr hs e = (refl, e)
  same_entries [] (y ∷ ys) r s hx hy hr hs e = absurd (not_entry y (lines_of ys) s r hr e)
  same_entries (x ∷ xs) [] r s hx hy hr hs e = absurd (not_entry x (lines_of xs) r s hs (sym e))
  same_entries (x ∷ xs) (y ∷ ys) r s hx hy hr hs e =
      let split = same_line (first_word x) (first_word y) (other_words x) (other_words y) (lines_of xs ++ r) (lines_of ys ++ s) (entry_words x) (entry_words y)
      (sym (entry_then x (lines_of xs) r) ∙ e ∙ entry_then y (lines_of ys) s) in
      let words : first_word x ∷ other_words x ≡ first_word y ∷ other_words y = split.0 in
      let firsts : first_word x ≡ first_word y = cc in
      let others : other_words x ≡ other_words y = cc in
      let first : x ≡ y = same_entry law x y (All-head IsEntry x xs hx) (All-head IsEntry y ys hy) firsts others in
      let more = same_entries xs ys r s (All-tail IsEntry x xs hx) (All-tail IsEntry y ys hy) hr hs split.1 in
      let rest : xs ≡ ys = more.0 in
      (cc, more.1)

-- ---- the journals

journals_next : (n : ℕ) (journals : List (List Entry)) → IsNext (journals_lines n journals)
unfolding journal_head
journals_next n [] = refl
journals_next n (journal ∷ journals) = refl

journals_past : (n : ℕ) (journals : List (List Entry)) → IsPast (journals_lines n journals)
unfolding journal_head
journals_past n [] = refl
journals_past n (journal ∷ journals) = refl

head_words : (word : List ℕ) (n count : ℕ) → is_word word ≡ true → are_words (word ∷ decimal n ∷ decimal count ∷ []) ≡ true
head_words word n count h =
    and_from (is_word word) (are_words (decimal n ∷ decimal count ∷ [])) h
    (and_from (is_word (decimal n)) (are_words (decimal count ∷ [])) (decimal_word n)
    (and_from (is_word (decimal count)) (are_words []) (decimal_word count) refl))

-- a journal's head in front of others is a line of three words
head_then : (n count : ℕ) (entries behind : List ℕ)
    → (journal_head n count ++ entries) ++ behind ≡ line (codes "journal" ∷ decimal n ∷ decimal count ∷ []) ++ (entries ++ behind)
unfolding journal_head
head_then n count entries behind = append_assoc (line (codes "journal" ∷ decimal n ∷ decimal count ∷ [])) entries behind

not_nothing : (n count : ℕ) (entries behind : List ℕ) → [] ≡ (journal_head n count ++ entries) ++ behind → ⊥
unfolding journal_head
not_nothing n count entries behind e = cc

module _ (law : OneSpelling) where
  same_journals : (n : ℕ) (xs ys : List (List Entry)) → All (All IsEntry) xs → All (All IsEntry) ys → journals_lines n xs ≡ journals_lines n ys → xs ≡ ys
  same_journals n [] [] hx hy e = refl
  same_journals n [] (y ∷ ys) hx hy e = absurd (not_nothing n (length y) (lines_of y) (journals_lines (n + 1) ys) e)
  same_journals n (x ∷ xs) [] hx hy e = absurd (not_nothing n (length x) (lines_of x) (journals_lines (n + 1) xs) (sym e))
  same_journals n (x ∷ xs) (y ∷ ys) hx hy e =
      let there = head_then n (length x) (lines_of x) (journals_lines (n + 1) xs) in
      let here = head_then n (length y) (lines_of y) (journals_lines (n + 1) ys) in
      let c = same_line (codes "journal") (codes "journal") (decimal n ∷ decimal (length x) ∷ []) (decimal n ∷ decimal (length y) ∷ [])
      (lines_of x ++ journals_lines (n + 1) xs) (lines_of y ++ journals_lines (n + 1) ys)
      (head_words (codes "journal") n (length x) refl) (head_words (codes "journal") n (length y) refl) (sym there ∙ e ∙ here) in
      let d = same_entries law x y (journals_lines (n + 1) xs) (journals_lines (n + 1) ys)
      (All-head (All IsEntry) x xs hx) (All-head (All IsEntry) y ys hy) (journals_next (n + 1) xs) (journals_next (n + 1) ys) c.1 in
      let first : x ≡ y = d.0 in
      let rest : xs ≡ ys = same_journals (n + 1) xs ys (All-tail (All IsEntry) x xs hx) (All-tail (All IsEntry) y ys hy) d.1 in
      cc

-- ---- worlds

count_words : (count : ℕ) → are_words (codes "world" ∷ decimal count ∷ []) ≡ true
count_words count = and_from (is_word (decimal count)) (are_words []) (decimal_word count) refl

-- the first line in front of others
count_then : (count : ℕ) (names behind : List ℕ) → (world_line count ++ names) ++ behind ≡ line (codes "world" ∷ decimal count ∷ []) ++ (names ++ behind)
unfolding world_line
count_then count names behind = append_assoc (line (codes "world" ∷ decimal count ∷ [])) names behind

pub same_worlds : OneSpelling → (names other_names : List (List ℕ)) (journals other_journals : List (List Entry))
    → IsWorld names journals → IsWorld other_names other_journals
    → world_text names journals ≡ world_text other_names other_journals → (names ≡ other_names) × (journals ≡ other_journals)
same_worlds law names other_names journals other_journals here there e =
    let c = same_line (codes "world") (codes "world") (decimal (length names) ∷ []) (decimal (length other_names) ∷ [])
    (participant_lines 0 names ++ journals_lines 0 journals) (participant_lines 0 other_names ++ journals_lines 0 other_journals)
    (count_words (length names)) (count_words (length other_names))
    (sym (count_then (length names) (participant_lines 0 names) (journals_lines 0 journals)) ∙ e
    ∙ count_then (length other_names) (participant_lines 0 other_names) (journals_lines 0 other_journals)) in
    let d = same_names 0 names other_names (journals_lines 0 journals) (journals_lines 0 other_journals) here.named there.named
    (journals_past 0 journals) (journals_past 0 other_journals) c.1 in
    (d.0, same_journals law 0 journals other_journals here.kept there.kept d.1)
