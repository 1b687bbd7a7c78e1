-- What is got out of order is lost at once; so two journals that run in a circle are no lawful world.
use Rattle.std.specs.Prelude.{◌≡◌, refl, ℕ, Bool, true, false, List, [], ◌∷◌, ◌++◌, take, drop, if◌then◌else◌}
use Rattle.std.proofs.lemmas.List.{append_cancel_left, append-nil}
use Rattle.std.proofs.Common.{ap, sym, ◌∙◌, subst, append_assoc}
use Rattle.sk_msg.specs.declared.command.Command.TheVariants.{Abort}
use Rattle.sk_msg.specs.declared.content.Content.{Content}
use Rattle.sk_msg.specs.declared.content.Content.TheVariants as contents
use Rattle.sk_msg.specs.declared.entry.Entry.{Entry}
use Rattle.sk_msg.specs.declared.entry.Entry.TheVariants.{Got, Gone}
use Rattle.sk_msg.specs.declared.state.State.TheVariants.{Error}
use Rattle.sk_law.specs.declared.made.Made.{Made}
use Rattle.sk_law.specs.declared.memory.Memory.{Memory}
use Rattle.sk_law.specs.declared.setup.Setup.{Setup}
use Rattle.sk_law.specs.Past.{Past, add}
use Rattle.sk_law.specs.Growing.{Adds, BlocksAdd}
use Rattle.sk_law.specs.Links.{is_peer, comes_in_order}
use Rattle.sk_law.specs.Blocks.{enter_if, get, heed, lose, judge_limits, with_completed}
use Rattle.sk_law.specs.Lawful.{Lawful, Happens, gets, loses, completes, asks, adds, moves, readies, begins, counts, gives_up, note_asked, Leads, here, further}
use Rattle.sk_law_world.specs.Once.{HandedOnce}
use Rattle.sk_law_examples.specs.Acausal.{late, late_journal, NoSuchWorld}
use Rattle.sk_law_examples.proofs.Computes.{computes}

-- ## Entries are only added

same : (past now : Past) → now.journal ≡ past.journal → Adds past now
same past now e = record { front = ([], append-nil past.journal ∙ sym e) }

both : {a b c : Past} → Adds a b → Adds b c → Adds a c
both {a} {b} {c} f g = record { front = (f.front.0 ++ g.front.0, sym (append_assoc a.journal f.front.0 g.front.0) ∙ ap (λ es. es ++ g.front.0) f.front.1 ∙ g.front.1) }

happens_adds : BlocksAdd → (S : Setup) (past : Past) (made : List Made) (now : Past) → Happens S past made now → Adds past now
happens_adds law S past made now (gets p m more linked are filled) = law.gets S p m made past
happens_adds law S past made now (loses p reason linked loss) = law.loses S p reason past
happens_adds law S past made now (completes number) = both (same past (with_completed number past) refl) (law.completes S number (with_completed number past))
happens_adds law S past made now (asks command) = both (same past (note_asked past) refl) (law.asks S command (note_asked past))
happens_adds law S past made now (adds name few) = law.adds_tool S name past
happens_adds law S past made now (moves to e) = law.enters S to 0 past
happens_adds law S past made now (readies first e call filled) = law.calls_back S past first
happens_adds law S past made now (begins first e call filled) = law.steps S first past
happens_adds law S past made now (counts count e) = law.counts S count past
happens_adds law S past made now (gives_up e) = law.asks S Abort past

leads_adds : BlocksAdd → (S : Setup) (past : Past) (made : List Made) (now : Past) → Leads S past made now → Adds past now
leads_adds law S past made now here = same past past refl
leads_adds law S past made now (further was next before more leads h) =
    both (leads_adds law S past before was leads) (both (happens_adds law S was more next h) (law.limits S next))

-- what stands behind the Gone
lost_adds : BlocksAdd → (S : Setup) (p reason : ℕ) (past : Past) → Adds (add (Gone p reason) past) (lose S p reason past)
unfolding lose
lost_adds law S p reason past = on (is_peer S p)
  where
    on : (peer : Bool) → Adds (add (Gone p reason) past) (if peer then enter_if S Error (add (Gone p reason) past) else add (Gone p reason) past)
    on true = law.enters_if S Error (add (Gone p reason) past)
    on false = same (add (Gone p reason) past) (add (Gone p reason) past) refl

-- ## A circle

-- behind a Got that was out of order stands the Gone of its sender
lost_next : BlocksAdd → HandedOnce → (S : Setup) (past : Past) (made : List Made) → Lawful S past made → (before : List Entry) (p : ℕ) (m : Content) (after : List Entry) → past.journal ≡ before ++ Got p m ∷ after →
    ((memory : Memory) → comes_in_order S (record { journal = before; memory = memory }) p m ≡ false) → (rest : List Entry) × (after ≡ Gone p 8 ∷ rest)
unfolding get
lost_next blocks once S past made law before p m after e unordered =
    let h = once S past made law before p m after e in
    let out : comes_in_order S h.at p m ≡ false = ap (λ es. comes_in_order S (record { journal = es; memory = h.at.memory }) p m) h.is ∙ unordered h.at.memory in
    let got : Past = add (Got p m) h.at in
    let refused : get S p m h.meanwhile h.at ≡ lose S p 8 got = ap (λ c. if c then heed S p m h.meanwhile got else lose S p 8 got) out in
    let behind : Adds (add (Gone p 8) got) (get S p m h.meanwhile h.at) = subst (λ (x : Past). Adds (add (Gone p 8) got) x) (sym refused) (lost_adds blocks S p 8 got) in
    let grown : Adds (add (Gone p 8) got) past =
    both behind (both (blocks.limits S (get S p m h.meanwhile h.at)) (leads_adds blocks S (judge_limits S (get S p m h.meanwhile h.at)) h.rest past h.leads)) in
    let whole : before ++ Got p m ∷ after ≡ before ++ Got p m ∷ Gone p 8 ∷ grown.front.0 =
    sym e ∙ sym grown.front.1 ∙ append_assoc (h.at.journal ++ Got p m ∷ []) (Gone p 8 ∷ []) grown.front.0 ∙ append_assoc h.at.journal (Got p m ∷ []) (Gone p 8 ∷ grown.front.0) ∙ ap (λ es. es ++ Got p m ∷ Gone p 8 ∷ grown.front.0) h.is in
    let same : Got p m ∷ after ≡ Got p m ∷ Gone p 8 ∷ grown.front.0 = append_cancel_left before (Got p m ∷ after) (Got p m ∷ Gone p 8 ∷ grown.front.0) whole in
    (grown.front.0, (let k : after ≡ Gone p 8 ∷ grown.front.0 = cc in k))

-- B isn't ready yet where A announces
unordered : (memory : Memory) → comes_in_order late (record { journal = take 14 late_journal; memory = memory }) 0 (contents.NextStep 0 1000000) ≡ false
unfolding computes
unordered memory = refl

late_is_refused : BlocksAdd → HandedOnce → (past : Past) (made : List Made) → Lawful late past made → past.journal ≡ late_journal → ⊥
late_is_refused blocks once past made law e =
    let r = lost_next blocks once late past made law (take 14 late_journal) 0 (contents.NextStep 0 1000000) (drop 15 late_journal) e unordered in
    let no : drop 15 late_journal ≡ Gone 0 8 ∷ r.0 = r.1 in absurd cc

pub no_such_world : BlocksAdd → HandedOnce → NoSuchWorld
no_such_world blocks once names [] w setups journals = absurd cc
no_such_world blocks once names (a ∷ []) w setups journals = absurd cc
no_such_world blocks once names (a ∷ b ∷ c ∷ more) w setups journals = absurd cc
no_such_world blocks once names (a ∷ b ∷ []) w setups journals =
    let setup : b.setup ≡ late = cc in
    let journal : b.past.journal ≡ late_journal = cc in
    late_is_refused blocks once b.past b.made (subst (λ S. Lawful S b.past b.made) setup (w.lawful 1 b refl)) journal
