-- Each entry of a lawful journal meets its rule.
use Rattle.std.specs.Prelude.{◌≡◌, refl, ◌+◌, List, [], ◌∷◌, ◌++◌, length, ◌⊎◌}
use Rattle.std.proofs.Common.{ap, sym, ◌∙◌, subst, ⊎_elim, inl, inr}
use Rattle.sk_msg.specs.declared.command.Command.TheVariants.{Abort}
use Rattle.sk_msg.specs.declared.entry.Entry.{Entry}
use Rattle.sk_law.specs.declared.made.Made.{Made}
use Rattle.sk_law.specs.declared.setup.Setup.{Setup}
use Rattle.sk_law.specs.declared.memory.Memory.{Memory}
use Rattle.sk_law.specs.Past.{Past}
use Rattle.sk_law.specs.Readings.{got}
use Rattle.sk_law.specs.Receivers.{receivers}
use Rattle.sk_law.specs.Rows.{Ready, Step}
use Rattle.sk_law_world.specs.Meets.{Meets, EachMeets, LawfulMeets}
use Rattle.sk_law.specs.Blocks.{with_completed}
use Rattle.sk_law.specs.Lawful.{Lawful, Happens, note_asked, starts, goes_on, gets, loses, completes, asks, adds, moves, readies, begins, counts, gives_up}
use Rattle.sk_law_world.proofs.RowLaws.{row-edge, row-step, row-alive}
use Rattle.sk_law_world.proofs.Built as built
use Rattle.sk_law_world.proofs.Built.{Built, built_enter_until}
use Rattle.sk_law_world.proofs.BlocksBuilt.{MayCall, are_messages, called_alive, built_making, built_get, built_lose, built_complete, built_ask, built_add_tool, built_callback, built_take_step, built_count_down, built_judge_limits}

pub built_happens : (S : Setup) (past : Past) (made : List Made) (now : Past) → Happens S past made now → Built S past → Built S now
built_happens S past made now (gets p m made' linked are filled) b =
    built_get p m made' past linked (are_messages p (length (got past.journal p) + 1) m made' (receivers S past p m) are)
    (called_alive S past p (length (got past.journal p) + 1) m made' are) b
built_happens S past made now (loses p reason linked loss) b = built_lose p reason past b
built_happens S past made now (completes number) b = built_complete number (with_completed number past) (built.remembers past (with_completed number past).memory (built.all_of past.memory.tools) b)
built_happens S past made now (asks command) b = built_ask command (note_asked past) (built.remembers past (note_asked past).memory (built.all_of past.memory.tools) b)
built_happens S past made now (adds name few) b = built_add_tool name past b
built_happens S past made now (moves to e) b = built_enter_until to 0 past (record { edge = row-edge S past to e; by_row = λ row. e; cause = inr (inl e) }) b
built_happens S past made now (readies one e call filled) b = built_callback past one (row-alive S past Ready e) (subst (MayCall S past) (sym call) tt) b
built_happens S past made now (begins one e call filled) b =
    built_take_step one past (row-alive S past Step e) (subst (MayCall S past) (sym call) (record { running = (row-step S past e).0; may = (row-step S past e).1; number = refl; time = refl })) b
built_happens S past made now (counts count e) b = built_count_down count past b
built_happens S past made now (gives_up e) b = built_ask Abort past b

pub lawful_built : (S : Setup) (past : Past) (made : List Made) → Lawful S past made → Built S past
lawful_built S past made starts = built_making S
lawful_built S past made (goes_on before now calls' more law happens) =
    built_judge_limits now (built_happens S before more now happens (lawful_built S before calls' law))

-- where the last entry of a list stands in another list
pub last_or_before : (es : List Entry) (x : Entry) (before : List Entry) (e : Entry) (after : List Entry) → es ++ x ∷ [] ≡ before ++ e ∷ after →
    ((es ≡ before) × (x ≡ e)) ⊎ ((rest : List Entry) × (es ≡ before ++ e ∷ rest))
last_or_before [] x [] e after h = inl (refl, (let same : x ≡ e = cc in same))
last_or_before [] x (y ∷ []) e after h = absurd cc
last_or_before [] x (y ∷ z ∷ before) e after h = absurd cc
last_or_before (y ∷ es) x [] e after h = inr (es, (let same : y ≡ e = cc in ap (λ z. z ∷ es) same))
last_or_before (y ∷ es) x (z ∷ before) e after h =
    let first : y ≡ z = cc in let rest : es ++ x ∷ [] ≡ before ++ e ∷ after = cc in
    let Goal : Type 0 = ((y ∷ es ≡ z ∷ before) × (x ≡ e)) ⊎ ((rest : List Entry) × (y ∷ es ≡ z ∷ (before ++ e ∷ rest))) in
    ⊎_elim
    (λ (a : (es ≡ before) × (x ≡ e)). let g : Goal = inl (ap (λ w. w ∷ es) first ∙ ap (λ w. z ∷ w) a.0, a.1) in g)
    (λ (a : (rest : List Entry) × (es ≡ before ++ e ∷ rest)). let g : Goal = inr (a.0, ap (λ w. w ∷ es) first ∙ ap (λ w. z ∷ w) a.1) in g)
    (last_or_before es x before e after rest)

pub not_empty : (before : List Entry) (e : Entry) (after : List Entry) → [] ≡ before ++ e ∷ after → ⊥
not_empty [] e after h = cc
not_empty (x ∷ before) e after h = cc

-- a journal that is built so meets the rule at each entry
pub built_meets : (S : Setup) (past : Past) → Built S past → EachMeets S past.journal
built_meets S past (built.empty memory) before e after h = absurd (not_empty before e after h)
built_meets S past (built.remembers was memory more b) before e after h = built_meets S was b before e after h
built_meets S past (built.adds was x b meets) before e after h = ⊎_elim
    (λ (a : (was.journal ≡ before) × (x ≡ e)).
    let g : (memory : Memory) × Meets S (record { journal = before; memory = memory }) e =
    (was.memory, subst (λ y. Meets S (record { journal = before; memory = was.memory }) y) a.1 (subst (λ es. Meets S (record { journal = es; memory = was.memory }) x) a.0 meets)) in g)
    (λ (a : (rest : List Entry) × (was.journal ≡ before ++ e ∷ rest)). built_meets S was b before e a.0 a.1)
    (last_or_before was.journal x before e after h)

pub lawful_meets : LawfulMeets
lawful_meets S past made law = built_meets S past (lawful_built S past made law)
