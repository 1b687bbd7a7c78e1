-- A turn of a seat.
use Rattle.std.specs.Prelude.{◌≡◌, refl, ℕ, zero, suc, ◌+◌, ◌-◌, ◌<◌, ◌≤◌, Bool, true, false, ◌||◌, ◌&&◌, ◌==◌, not, nat_le, List, [], ◌∷◌, ◌++◌, length, drop, Option, Some, None, option_to_list, if◌then◌else◌}
use Rattle.std.specs.List.{list_all, range_with_len}
use Rattle.std.proofs.Common.{ap, sym, ◌∙◌, subst, arith, inl, inr, append-nil, length-append}
use Rattle.std.proofs.lemmas.Bool.{cases_eq, eq-eqb}
use Rattle.std.proofs.lemmas.List.{append_cancel_left, length-drop}
use Rattle.std.proofs.Math.Seq.{drop-append_seam}
use Rattle.std.proofs.Math.ListN.{drop_of_length-le}
use mathlib.Core.List.{IsPrefix}
use Rattle.sk_msg.specs.declared.content.Content.{Content}
use Rattle.sk_msg.specs.declared.state.State.{State}
use Rattle.sk_msg.specs.declared.state.State.TheVariants.{Shutdown}
use Rattle.sk_msg.specs.States.{is_state}
use Rattle.sk_law.specs.declared.setup.Setup.{Setup}
use Rattle.sk_law.specs.Past.{Past}
use Rattle.sk_law.specs.Kept.{Kept, grown}
use Rattle.sk_law.specs.Ends.{left}
use Rattle.sk_law.specs.Links.{is_open}
use Rattle.sk_law.specs.Readings.{got, put, gones, state_of}
use Rattle.sk_node.specs.Known.{Known, IsSound}
use Rattle.sk_node.specs.Lists.{Lists, Tells}
use Rattle.sk_node.specs.Peers.{HearsNothing}
use Rattle.sk_node.specs.Turning.{IsTurned, IsEnded, is_finished, is_out, is_all_out, are_all_away, RowWent, CountsDown as Counts, Acts as Does}
use Rattle.sk_node.specs.Turning.{moves, readies, begins, counts as counts_row, gives_up}
use Rattle.sk_law.specs.Rows as law
use Rattle.sk_law.specs.Rows.{is_quiet}
use Rattle.sk_law.specs.declared.made.Call.TheVariants as calls
use Rattle.sk_law.specs.declared.made.Made.{Made}
use Rattle.sk_law.specs.Lawful.{Lawful}
use Rattle.sk_law.specs.Blocks.{with_pause}
use Rattle.sk_law.specs.Bounded.{PutsBounded}
use Rattle.sk_sim.proofs.Calls.{puts_none, puts_one}
use Rattle.sk_law.specs.Told.{heard as heard_of, notices}
use Rattle.sk_node.specs.declared.rows.Turned.{Turned}
use Rattle.sk_node.specs.declared.rows.Turned.TheVariants.{Entries, Counted, Quiet, Finished}
use Rattle.sk_mesh.specs.Places.{Account, Place, place, size, IsPeer}
use Rattle.sk_mesh.specs.Ends.{pushed, popped, waiting, room, Looks}
use Rattle.sk_sim.specs.declared.wired.Wired.{Wired}
use Rattle.sk_sim.specs.Wiring.{IsTied, waits, waits_of, held_at, out_of}
use Rattle.sk_sim.specs.Cards.{Card, card_of, count_at, counts, waits_at, pushed_total, got_total, total}
use Rattle.sk_sim.specs.Parts.{Goes, IsUntouched, PutsFew, Pushes, TakesAll}
use Rattle.sk_sim.specs.Answers.{Acts, Turns, Says, MovesNone, Rests, answer_of, has_none}
use Rattle.sk_sim.proofs.Counting.{count_is, counts_same, total_more}
use Rattle.sk_sim.proofs.Going.{goes_none, goes_both, tells_none}
use Rattle.sk_sim.proofs.Untouched.{untouched_none, acted_untouched}
use Rattle.sk_sim.proofs.Incoming.{goes_on, same_part, tied_on, heard_more}

-- ## The participant's turn

row_untouched : (one : law.Row) (a b : Kept) (was now : Lists) → RowWent one a b was now → IsUntouched a.past b.past
row_untouched one a b was now r =
    subst (λ (k : Kept). IsUntouched a.past k.past) (sym r.went.whole) (acted_untouched a.setup a.past one r.went.made r.went.past r.acts)

pub acts_of : PutsBounded → (did : Turned) (a : Wired) (node : Known) (was now : Lists) → IsTied a → IsTurned did a.node node was now →
    HearsNothing a.node.kept.setup a.node.kept.past node.kept.past → (did ≡ Finished → IsEnded a.node.kept) → IsSound node →
    Acts did a (record a { node = node }) was now
acts_of bounded did a node was now t turned hears ended good = on did turned ended
  where
    got_is : (p : ℕ) → got node.kept.past.journal p ≡ popped a.ends p
    got_is p = (hears.same p).got_is ∙ t.got_is p

    refused : (p : ℕ) → list_all (λ reason. reason == 8) (gones node.kept.past.journal p) ≡ true
    refused p = ap (list_all (λ reason. reason == 8)) ((hears.same p).gones_is) ∙ t.refused p

    still : (d : Turned) → (node ≡ a.node) → (now ≡ was) → IsTurned d a.node node was now → (d ≡ Finished → IsEnded a.node.kept) → Acts d a (record a { node = node }) was now
    still d same lists turned_ ended_ = record {
      goes = subst (λ (k : Known). Goes (card_of a) (card_of (record a { node = k })) was now) (sym same)
          (subst (λ (l : Lists). Goes (card_of a) (card_of a) was l) (sym lists) (goes_none (card_of a) was));
      tied = subst (λ (k : Known). IsTied (record a { node = k })) (sym same) t;
      puts = subst (λ (k : Known). PutsFew 1 a.node.kept.setup a.node.kept.past k.kept.past) (sym same) (puts_none 1 a.node.kept.setup a.node.kept.past);
      ends = refl;
      held = refl;
      turned = turned_;
      ended = ended_;
    }

    on : (d : Turned) → IsTurned d a.node node was now → (d ≡ Finished → IsEnded a.node.kept) → Acts d a (record a { node = node }) was now
    on (Entries n) x e = record {
      goes = goes_on a node a.ends was now x.0.row.went x.1 (row_untouched x.0.one a.node.kept node.kept was now x.0.row) refl (λ q. refl);
      tied = tied_on a node a.ends t (same_part a.node node was now x.0.row.went x.1) good refl (λ q. refl) got_is ((hears.same a.ends.number).got_is ∙ t.silent) refused (λ p other. (hears.same p).gones_is ∙ t.unlost p other);
      puts = puts_one bounded a.node.kept node.kept was now x.0.row.went t.services;
      ends = refl;
      held = refl;
      turned = x;
      ended = e;
    }
    on Counted x e = record {
      goes = goes_on a node a.ends was now x.0.row.went x.1 (row_untouched (law.Count x.0.count) a.node.kept node.kept was now x.0.row) refl (λ q. refl);
      tied = tied_on a node a.ends t (same_part a.node node was now x.0.row.went x.1) good refl (λ q. refl) got_is ((hears.same a.ends.number).got_is ∙ t.silent) refused (λ p other. (hears.same p).gones_is ∙ t.unlost p other);
      puts = puts_one bounded a.node.kept node.kept was now x.0.row.went t.services;
      ends = refl;
      held = refl;
      turned = x;
      ended = e;
    }
    on Quiet x e = still Quiet x.1 x.0.lists x e
    on Finished x e = still Finished x.1 x.0.lists x e

-- ## What waits

-- so much is left of what was put
pub waits_is : (a : Wired) → IsTied a → (q : ℕ) → waits_at (card_of a) q ≡ waits a q
waits_is a t q =
    ap (λ n. drop n (put a.node.kept.past.journal q)) (count_is a.ends q)
    ∙ (ap (λ l. drop (length (pushed a.ends q)) l) (t.put_is q) ∙ drop-append_seam (pushed a.ends q) (waits a q))

pub goes_pushed : (moved : Bool) (a b : Wired) (was : Lists) (n : ℕ) → Pushes moved a b n → Goes (card_of a) (card_of b) was was
goes_pushed moved a b was n h = record {
  made = [];
  calls = sym (append-nil was.made);
  told = subst (λ (p : Past). Tells a.node.kept.past.journal p.journal was was) (sym h.node.1) (tells_none a.node.kept.past.journal was);
  place = h.place;
  setup = h.node.0;
  grows = ([], append-nil a.node.kept.past.journal ∙ ap (λ (p : Past). p.journal) (sym h.node.1));
  lawful = λ earlier l. subst (λ (p : Past). Lawful a.node.kept.setup p (earlier ++ [])) (sym h.node.1)
      (subst (λ made. Lawful a.node.kept.setup a.node.kept.past made) (sym (append-nil earlier)) l);
  untouched = subst (λ (p : Past). IsUntouched a.node.kept.past p) (sym h.node.1) (untouched_none a.node.kept.past);
  lower = (let e : left b.node.kept.past ≡ left a.node.kept.past = ap left h.node.1 in omega arith);
  more = λ q. let i = count_is a.ends q in let j = count_is b.ends q in let m = h.more q in omega arith;
}

-- a look at the rings changes nothing of it
pub looked_card : (a : Wired) (ends : Account) (p : ℕ) → Looks a.ends ends p → card_of (record a { ends = ends }) ≡ card_of a
looked_card a ends p l = rw (l.place, counts_same a.ends ends l.place l.pushed) refl

pub looked_tied : (a : Wired) (ends : Account) (p : ℕ) → Looks a.ends ends p → IsTied a → IsTied (record a { ends = ends })
looked_tied a ends p l t = record {
  sound = t.sound;
  own = ap (λ (w : Place). w.number) l.place ∙ t.own;
  within = t.within;
  ways = ap size l.place ∙ t.ways;
  least = subst (λ (w : Place). size w ≤ 32) (sym l.place) t.least;
  out_is = t.out_is ∙ ap size (sym l.place);
  held_is = t.held_is ∙ ap size (sym l.place);
  alone = t.alone;
  got_is = λ q. t.got_is q ∙ sym (l.popped q);
  silent = ap (λ (w : Place). got a.node.kept.past.journal w.number) l.place ∙ t.silent;
  put_is = λ q. t.put_is q ∙ ap (λ x. x ++ waits a q) (sym (l.pushed q));
  taken = t.taken;
  refused = t.refused;
  unlost = t.unlost;
  services = t.services;
  short = t.short;
  roomy = subst (λ (w : Place). (q : ℕ) → IsPeer w q → 0 < room w q) (sym l.place) t.roomy;
}

pub card_still : (a b : Wired) (n : ℕ) → Pushes false a b n → card_of b ≡ card_of a
card_still a b n h = rw (h.place, h.node.0, h.node.1, counts_same a.ends b.ends h.place (h.still refl)) refl

waits_still : (a b : Wired) (n : ℕ) → Pushes false a b n → (q : ℕ) → waits b q ≡ waits a q
waits_still a b n h q =
    append_cancel_left (pushed a.ends q) (waits b q) (waits a q) (ap (λ l. l ++ waits b q) (sym (h.still refl q)) ∙ h.all q)

-- ## The answer

-- the four parts, and what they answered
pub record Went (m1 m2 m3 : Bool) (did : Turned) (added : ℕ) (empty : Bool) (a b c d e : Wired) (was mid now : Lists) : Type 0 where
  pub first : Pushes m1 a b (size (place a.ends))
  pub takes : TakesAll m2 b c was mid (size (place b.ends))
  pub acts : Acts did c d mid now
  pub again : Pushes m3 d e (size (place d.ends))
  pub tied_a : IsTied a
  pub tied_b : IsTied b
  pub tied_e : IsTied e
  pub added_is : added ≡ length e.node.kept.past.journal - length a.node.kept.past.journal
  pub empty_is : empty ≡ has_none d.held.items

prefix_length : {X : Type 0} (xs ys : List X) → IsPrefix xs ys → length xs ≤ length ys
prefix_length xs ys h = let e : length ys ≡ length xs + length h.0 = ap length (sym h.1) ∙ length-append xs h.0 in omega arith

pub sent_of : (a b : Card) (was now : Lists) → Goes a b was now → pushed_total a ≤ pushed_total b
sent_of a b was now g =
    subst (λ (w : Place). total (λ q. count_at a q) (size a.place) ≤ total (λ q. count_at b q) (size w)) (sym g.place)
    (total_more (λ q. count_at a q) (λ q. count_at b q) (size a.place) g.more)

all_at : (f : ℕ → Bool) (a n : ℕ) → ((p : ℕ) → p < a + n → f p ≡ true) → list_all f (range_with_len a n) ≡ true
all_at f a zero h = refl
all_at f a (suc n) h = ap (λ b. b && list_all f (range_with_len (a + 1) n)) (h a (omega arith)) ∙ all_at f (a + 1) n (λ p low. h p (omega arith))

is_shut : (s : State) → s ≡ Shutdown → is_state Shutdown s ≡ true
unfolding is_state
is_shut s e = ap (λ x. is_state Shutdown x) e

nothing_left : (held : Option Content) (xs : List Content) (k : ℕ) → k ≤ length xs → option_to_list held ++ drop k xs ≡ [] → k ≡ length xs
nothing_left None xs k low e = let l : length (drop k xs) ≡ length xs - k = length-drop k xs in let z : length (drop k xs) ≡ 0 = ap length e in omega arith
nothing_left (Some m) xs k low e = absurd (let no : m ∷ drop k xs ≡ [] = e in cc)

-- it is finished as its participant says
finished_by : (c : Wired) → IsTied c → state_of c.node.kept.past.journal ≡ Shutdown →
    ((p : ℕ) → p < size (place c.ends) → is_open c.node.kept.setup c.node.kept.past p ≡ false) → ((q : ℕ) → q < size (place c.ends) → waits c q ≡ []) → is_finished c.node.kept ≡ true
unfolding is_finished
finished_by c t state away empty =
    ap (λ b. b && (is_all_out c.node.kept && are_all_away c.node.kept.setup c.node.kept.past)) (is_shut (state_of c.node.kept.past.journal) state)
    ∙ (ap (λ b. b && are_all_away c.node.kept.setup c.node.kept.past) outs ∙ aways)
  where
    out_one : (p : ℕ) → p < size (place c.ends) → is_out c.node.kept p ≡ true
    out_one p small =
        let e : out_of c.node.kept p ≡ length (put c.node.kept.past.journal p) = nothing_left (held_at c.held.items p) (put c.node.kept.past.journal p) (out_of c.node.kept p) (t.taken p) (empty p small) in
        ap (λ b. nat_le (length c.node.kept.out) p || b) (eq-eqb (out_of c.node.kept p) (length (put c.node.kept.past.journal p)) e) ∙ or_end (nat_le (length c.node.kept.out) p)
      where
        or_end : (b : Bool) → (b || true) ≡ true
        or_end true = refl
        or_end false = refl

    outs : is_all_out c.node.kept ≡ true
    outs = all_at (is_out c.node.kept) 0 (length c.node.kept.setup.names + length c.node.kept.past.memory.tools) (λ p low. out_one p (let n : length c.node.kept.past.memory.tools ≡ 0 = ap length t.alone in let v = t.ways in omega arith))

    aways : are_all_away c.node.kept.setup c.node.kept.past ≡ true
    aways = all_at (λ p. not (is_open c.node.kept.setup c.node.kept.past p)) 0 (length c.node.kept.setup.names) (λ p low. ap not (away p (let w = t.ways in omega arith)))

-- none is held back
none_held : (held : List (Option Content)) (q : ℕ) → has_none held ≡ true → held_at held q ≡ None
none_held [] q h = refl
none_held (None ∷ held) zero h = refl
none_held (None ∷ held) (suc q) h = none_held held q h
none_held (Some m ∷ held) q h = absurd (let no : false ≡ true = h in cc)

-- one is
some_held : (held : List (Option Content)) → has_none held ≡ false → (q : ℕ) × (m : Content) × (q < length held) × (held_at held q ≡ Some m)
some_held [] h = absurd (let no : true ≡ false = h in cc)
some_held (None ∷ held) h = let r = some_held held h in (suc r.0, r.1, (let l = r.2 in omega arith), r.3)
some_held (Some m ∷ held) h = (0, m, omega arith, refl)

-- all of one peer was taken out, and none of its messages is held back
no_waits : (d : Wired) (q : ℕ) → held_at d.held.items q ≡ None → out_of d.node.kept q ≡ length (put d.node.kept.past.journal q) → waits d q ≡ []
no_waits d q none all =
    ap (λ o. option_to_list o ++ drop (out_of d.node.kept q) (put d.node.kept.past.journal q)) none
    ∙ drop_of_length-le (put d.node.kept.past.journal q) (omega arith)

-- a pause count alone went down: the app wasn't called
uncalled : (S : Setup) (past : Past) (r : law.Row) (made : List Made) (now : Past) → Does S past r made now → (count : ℕ) → r ≡ law.Count count → made ≡ []
uncalled S past r made now (moves to) count e = refl
uncalled S past r made now (readies one call filled) count e = absurd (let no : law.Ready ≡ law.Count count = e in cc)
uncalled S past r made now (begins one call filled) count e = absurd (let no : law.Step ≡ law.Count count = e in cc)
uncalled S past r made now (counts_row n) count e = refl
uncalled S past r made now gives_up count e = refl

-- the ready handler alone was called
ready_called : (S : Setup) (past : Past) (r : law.Row) (made : List Made) (now : Past) → Does S past r made now → r ≡ law.Ready →
    (one : Made) × (one.call ≡ calls.Ready) × (made ≡ one ∷ [])
ready_called S past r made now (moves to) e = absurd (let no : law.Move to ≡ law.Ready = e in cc)
ready_called S past r made now (readies one call filled) e = (one, call, refl)
ready_called S past r made now (begins one call filled) e = absurd (let no : law.Step ≡ law.Ready = e in cc)
ready_called S past r made now (counts_row n) e = absurd (let no : law.Count n ≡ law.Ready = e in cc)
ready_called S past r made now gives_up e = absurd (let no : law.GiveUp ≡ law.Ready = e in cc)

-- a pause count says nothing of the links
paused_open : (S : Setup) (past : Past) (count : Option ℕ) (p : ℕ) → is_open S (with_pause count past) p ≡ is_open S past p
paused_open S past count p = refl

same_lists : (a b : Lists) → b.heard ≡ a.heard → b.made ≡ a.made → b.notified ≡ a.notified → b ≡ a
same_lists a b h m n =
    ap (λ x. record { heard = x; made = b.made; notified = b.notified }) h
    ∙ (ap (λ x. record { heard = a.heard; made = x; notified = b.notified }) m ∙ ap (λ x. record { heard = a.heard; made = a.made; notified = x }) n)

counted_card : (a b : Wired) (past : Past) → b.node.kept ≡ grown past a.node.kept → b.ends ≡ a.ends → card_of b ≡ record (card_of a) { past = past }
counted_card a b past e f =
    ap (λ (k : Kept). record { place = place b.ends; setup = k.setup; past = k.past; counts = counts b.ends }) e
    ∙ ap (λ (x : Account). record { place = place x; setup = a.node.kept.setup; past = past; counts = counts x }) f

counted_lists : (a b : Kept) (was now : Lists) → (x : Counts a b was now) → now ≡ was
counted_lists a b was now x =
    let t = x.row.went.told in
    let same : b.past.journal ≡ a.past.journal = ap (λ (k : Kept). k.past.journal) x.after in
    let m : t.more ≡ [] = append_cancel_left (heard_of a.past.journal) t.more [] (sym t.heard_in ∙ (ap heard_of same ∙ sym (append-nil (heard_of a.past.journal)))) in
    let n : t.notes ≡ [] = append_cancel_left (notices a.past.journal) t.notes [] (sym t.notices_in ∙ (ap notices same ∙ sym (append-nil (notices a.past.journal)))) in
    let c : x.row.went.made ≡ [] = uncalled a.setup a.past (law.Count x.count) x.row.went.made x.row.went.past x.row.acts x.count refl in
    same_lists was now
    (t.heard_is ∙ (ap (λ l. was.heard ++ l) m ∙ append-nil was.heard))
    (x.row.went.calls ∙ (ap (λ l. was.made ++ l) c ∙ append-nil was.made))
    (t.notified_is ∙ (ap (λ l. was.notified ++ l) n ∙ append-nil was.notified))

pub turn_says : (m1 m2 m3 : Bool) (did : Turned) (added : ℕ) (empty : Bool) (a b c d e : Wired) (was mid now : Lists) →
    Went m1 m2 m3 did added empty a b c d e was mid now → Turns (answer_of did (m1 || (m2 || m3)) added empty) a e was now
turn_says m1 m2 m3 did added empty a b c d e was mid now w = record {
  goes = all;
  tied = w.tied_e;
  steps = record {
    pushed = m1;
    taken = m2;
    again = m3;
    empty = empty;
    did = did;
    added = added;
    first = b;
    second = c;
    third = d;
    between = mid;
    pushes = w.first;
    takes = w.takes;
    acts = w.acts;
    ends = w.again;
    empty_is = w.empty_is;
    answer = refl;
  };
  says = on m1 m2 m3 did refl refl refl refl;
}
  where
    g1 : Goes (card_of a) (card_of b) was was
    g1 = goes_pushed m1 a b was (size (place a.ends)) w.first

    g4 : Goes (card_of d) (card_of e) now now
    g4 = goes_pushed m3 d e now (size (place d.ends)) w.again

    to_c : Goes (card_of a) (card_of c) was mid
    to_c = goes_both (card_of a) (card_of b) (card_of c) was was mid g1 w.takes.goes

    to_d : Goes (card_of a) (card_of d) was now
    to_d = goes_both (card_of a) (card_of c) (card_of d) was mid now to_c w.acts.goes

    all : Goes (card_of a) (card_of e) was now
    all = goes_both (card_of a) (card_of d) (card_of e) was now now to_d g4

    from_b : Goes (card_of b) (card_of e) was now
    from_b = goes_both (card_of b) (card_of c) (card_of e) was mid now w.takes.goes (goes_both (card_of c) (card_of d) (card_of e) mid now now w.acts.goes g4)

    from_c : Goes (card_of c) (card_of e) mid now
    from_c = goes_both (card_of c) (card_of d) (card_of e) mid now now w.acts.goes g4

    more : length e.node.kept.past.journal ≡ length a.node.kept.past.journal + added
    more = let l = prefix_length a.node.kept.past.journal e.node.kept.past.journal all.grows in let x = w.added_is in omega arith

    -- nothing was moved before the participant's turn
    same_b : m1 ≡ false → card_of b ≡ card_of a
    same_b i = card_still a b (size (place a.ends)) (subst (λ x. Pushes x a b (size (place a.ends))) i w.first)

    same_e : m3 ≡ false → card_of e ≡ card_of d
    same_e i = card_still d e (size (place d.ends)) (subst (λ x. Pushes x d e (size (place d.ends))) i w.again)

    same_c : m2 ≡ false → card_of c ≡ card_of b
    same_c i =
        let s = (w.takes.still i).0 in
        let l : place c.ends ≡ place b.ends = w.takes.goes.place in
        rw (l, s, counts_same b.ends c.ends l w.takes.pushed_is) refl

    waits_b : m1 ≡ false → (q : ℕ) → waits b q ≡ waits a q
    waits_b i q = waits_still a b (size (place a.ends)) (subst (λ x. Pushes x a b (size (place a.ends))) i w.first) q

    waits_c : m2 ≡ false → (q : ℕ) → waits c q ≡ waits b q
    waits_c i q =
        ap (λ (k : Known). waits_of k.kept (held_at c.held.items q) q) ((w.takes.still i).0)
        ∙ ap (λ (l : List (Option Content)). waits_of b.node.kept (held_at l q) q) w.takes.held

    rests : m1 ≡ false → m2 ≡ false → m3 ≡ false → card_of d ≡ card_of c → now ≡ mid → is_quiet c.node.kept.setup c.node.kept.past ≡ true → Rests (card_of a) (card_of e) was now
    rests i j k same lists quiet =
        let to : card_of c ≡ card_of a = same_c j ∙ same_b i in record {
          same = same_e k ∙ (same ∙ to);
          lists = lists ∙ (w.takes.still j).1;
          quiet = ap (λ (x : Card). is_quiet x.setup x.past) (sym to) ∙ quiet;
        }

    number_b : b.ends.number ≡ a.ends.number
    number_b = ap (λ (l : Place). l.number) w.first.place

    number_d : d.ends.number ≡ a.ends.number
    number_d = ap (λ (l : Place). l.number) to_d.place

    -- nothing was known to be there to move, and nothing is
    moves_none : m1 ≡ false → m2 ≡ false → m3 ≡ false → ((p : ℕ) → is_open e.node.kept.setup e.node.kept.past p ≡ is_open a.node.kept.setup a.node.kept.past p) → MovesNone a e
    moves_none i j k opens =
        let f : Pushes false a b (size (place a.ends)) = subst (λ x. Pushes x a b (size (place a.ends))) i w.first in record {
          before = record {
            drained = λ p peer linked.
                sym (f.waiting p)
                ∙ ((w.takes.still j).2 p (subst (λ (l : Place). p < size l) (sym f.place) peer.0) (λ at. peer.1 (at ∙ number_b))
                (ap (λ (x : Card). is_open x.setup x.past p) (same_b i) ∙ linked)).0;
            blocked = λ q peer. elim (f.tried refl q peer.0 peer.1) [ inl none ↦ inl (waits_is a w.tied_a q ∙ none) | inr full ↦ inr full ];
          };
          after = record {
            drained = λ p peer linked.
                w.again.waiting p
                ∙ (ap (λ (x : Account). waiting x p) w.acts.ends
                ∙ ((w.takes.still j).2 p (subst (λ (l : Place). p < size l) (from_b.place) peer.0) (λ at. peer.1 (at ∙ ap (λ (l : Place). l.number) (sym from_b.place)))
                (ap (λ (x : Card). is_open x.setup x.past p) (same_b i) ∙ (sym (opens p) ∙ linked))).1);
            blocked = λ q peer. elim (w.again.done q (subst (λ (l : Place). q < size l) w.again.place peer.0) (λ at. peer.1 (at ∙ ap (λ (l : Place). l.number) (sym w.again.place)))) [
              | inl none ↦ inl (waits_is e w.tied_e q ∙ none)
              | inr full ↦ inr full
            ];
          };
        }

    -- what waits where nothing was moved
    waits_d : m1 ≡ false → m2 ≡ false → d.node ≡ c.node → (q : ℕ) → waits d q ≡ waits_at (card_of a) q
    waits_d i j same q =
        ap (λ (k : Known). waits_of k.kept (held_at d.held.items q) q) same
        ∙ (ap (λ (l : List (Option Content)). waits_of c.node.kept (held_at l q) q) w.acts.held
        ∙ (waits_c j q ∙ (waits_b i q ∙ sym (waits_is a w.tied_a q))))

    finished_parts : m1 ≡ false → m2 ≡ false → m3 ≡ false → did ≡ Finished → Rests (card_of a) (card_of e) was now
    finished_parts i j k l =
        let x = subst (λ u. IsTurned u c.node d.node mid now) l w.acts.turned in
        rests i j k (rw (x.1, w.acts.ends) refl) x.0.lists x.0.quiet

    at_end : (y : Bool) → empty ≡ y → m1 ≡ false → m2 ≡ false → m3 ≡ false → did ≡ Finished → Says (if y then Finished else Quiet) a e was now
    at_end true at i j k l =
        let x = subst (λ u. IsTurned u c.node d.node mid now) l w.acts.turned in
        let to : card_of c ≡ card_of a = same_c j ∙ same_b i in
        let h = w.acts.ended l in (
          moves_none i j k (λ p. ap (λ (u : Card). is_open u.setup u.past p) (finished_parts i j k l).same),
          finished_parts i j k l,
          record {
            state_is = ap (λ (u : Card). state_of u.past.journal) (sym to) ∙ h.state_is;
            away = λ p low. ap (λ (u : Card). is_open u.setup u.past p) (sym to) ∙ h.away p (let v = w.takes.tied.ways in let u : size (place c.ends) ≡ size (place a.ends) = ap (λ (u : Card). size u.place) to in omega arith);
            empty = λ q low. sym (waits_d i j x.1 q) ∙ no_waits d q (none_held d.held.items q (sym w.empty_is ∙ at))
                (subst (λ (u : Known). out_of u.kept q ≡ length (put u.kept.past.journal q)) (sym x.1) (h.out_is q (let v = w.takes.tied.out_is in let u : size (place c.ends) ≡ size (place a.ends) = ap (λ (u : Card). size u.place) to in omega arith)));
          },
        )
    at_end false at i j k l =
        let x = subst (λ u. IsTurned u c.node d.node mid now) l w.acts.turned in
        let s = some_held d.held.items (sym w.empty_is ∙ at) in (
          moves_none i j k (λ p. ap (λ (u : Card). is_open u.setup u.past p) (finished_parts i j k l).same),
          finished_parts i j k l,
          λ f.
              let low : s.0 < size (place a.ends) = (let v = w.acts.tied.held_is in let p : size (place d.ends) ≡ size (place c.ends) = ap (λ (u : Account). size (place u)) w.acts.ends in let u : size (place c.ends) ≡ size (place a.ends) = ap (λ (u : Card). size u.place) (same_c j ∙ same_b i) in let k2 = s.2 in omega arith) in
              let none : waits d s.0 ≡ [] = waits_d i j x.1 s.0 ∙ f.empty s.0 low in
              let no : s.1 ∷ drop (out_of d.node.kept s.0) (put d.node.kept.past.journal s.0) ≡ [] = ap (λ o. option_to_list o ++ drop (out_of d.node.kept s.0) (put d.node.kept.past.journal s.0)) (sym s.3) ∙ none in cc,
        )

    on : (x y z : Bool) (t : Turned) → m1 ≡ x → m2 ≡ y → m3 ≡ z → did ≡ t → Says (answer_of t (x || (y || z)) added empty) a e was now
    on true y z t i j k l =
        let less : pushed_total (card_of a) < pushed_total (card_of e) = (let s = w.first.progress i in let f = sent_of (card_of b) (card_of e) was now from_b in omega arith) in
        record { count = more; cause = inr (inl less); less = inr (inl less) }
    on false true z t i j k l =
        let less : got_total (card_of a) < got_total (card_of e) = (let s = w.takes.progress j in let f = heard_more (card_of a) (card_of b) was was g1 in let g = heard_more (card_of c) (card_of e) mid now from_c in omega arith) in
        record { count = more; cause = inr (inr (inl less)); less = inr (inr less) }
    on false false true t i j k l =
        let less : pushed_total (card_of a) < pushed_total (card_of e) = (let s = w.again.progress k in let f = sent_of (card_of a) (card_of d) was now to_d in omega arith) in
        record { count = more; cause = inr (inl less); less = inr (inl less) }
    on false false false (Entries n) i j k l =
        let x = subst (λ u. IsTurned u c.node d.node mid now) l w.acts.turned in
        let fall : left e.node.kept.past < left a.node.kept.past = (let s = x.0.less in let f = to_c.lower in let g = g4.lower in omega arith) in
        record {
          count = more;
          cause = elim (cases_eq n 0) [
            | inl none ↦
                let r = ready_called c.node.kept.setup c.node.kept.past x.0.one x.0.row.went.made x.0.row.went.past x.0.row.acts (x.0.some none) in
                inr (inr (inr (record {
                  one = r.0;
                  call_is = r.1;
                  calls_are = x.0.row.went.calls ∙ (ap (λ ms. mid.made ++ ms) r.2 ∙ ap (λ (ls : Lists). ls.made ++ r.0 ∷ []) (w.takes.still j).1);
                })))
            | inr some ↦ inl (
                let g = prefix_length c.node.kept.past.journal d.node.kept.past.journal w.acts.goes.grows in
                let y = x.0.entries in
                let p = prefix_length a.node.kept.past.journal c.node.kept.past.journal to_c.grows in
                let q = prefix_length d.node.kept.past.journal e.node.kept.past.journal g4.grows in omega arith)
          ];
          less = inl fall;
        }
    on false false false Counted i j k l =
        let x = (subst (λ u. IsTurned u c.node d.node mid now) l w.acts.turned).0 in
        let to : card_of c ≡ card_of a = same_c j ∙ same_b i in
        let after_is : card_of e ≡ record (card_of a) { past = with_pause (Some (x.count - 1)) a.node.kept.past } = same_e k ∙ (counted_card c d (with_pause (Some (x.count - 1)) c.node.kept.past) x.after w.acts.ends ∙ ap (λ (u : Card). record u { past = with_pause (Some (x.count - 1)) u.past }) to) in (
          moves_none i j k (λ p. ap (λ (u : Card). is_open u.setup u.past p) after_is ∙ paused_open a.node.kept.setup a.node.kept.past (Some (x.count - 1)) p),
          record {
            count = x.count;
            before = ap (λ (u : Card). u.past.memory.pause) (sym to) ∙ x.before;
            after = after_is;
            more = x.more;
            less = (let s = x.less in let f = to_c.lower in let g = g4.lower in omega arith);
            lists = counted_lists c.node.kept d.node.kept mid now x ∙ (w.takes.still j).1;
          },
        )
    on false false false Quiet i j k l =
        let x = subst (λ u. IsTurned u c.node d.node mid now) l w.acts.turned in
        let to : card_of c ≡ card_of a = same_c j ∙ same_b i in
        let r = rests i j k (rw (x.1, w.acts.ends) refl) x.0.lists x.0.quiet in (
          moves_none i j k (λ p. ap (λ (u : Card). is_open u.setup u.past p) r.same),
          r,
          λ f.
              let yes : is_finished c.node.kept ≡ true =
              finished_by c w.takes.tied (ap (λ (u : Card). state_of u.past.journal) to ∙ f.state_is)
              (λ p low. ap (λ (u : Card). is_open u.setup u.past p) to ∙ f.away p (subst (λ (u : Place). p < size u) (ap (λ (u : Card). u.place) to) low))
              (λ q low. waits_c j q ∙ (waits_b i q ∙ (sym (waits_is a w.tied_a q) ∙ f.empty q (subst (λ (u : Place). q < size u) (ap (λ (u : Card). u.place) to) low)))) in
              let no : true ≡ false = sym yes ∙ x.0.finished_is in cc,
        )
    on false false false Finished i j k l = at_end empty refl i j k l
