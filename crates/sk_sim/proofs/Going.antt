-- What goes on is put together.
use Rattle.std.specs.Prelude.{◌≡◌, refl, List, [], ◌++◌}
use Rattle.std.proofs.Common.{ap, sym, ◌∙◌, subst, arith, append-nil, append_assoc}
use mathlib.Core.List.{IsPrefix}
use Rattle.sk_msg.specs.declared.entry.Entry.{Entry}
use Rattle.sk_law.specs.declared.setup.Setup.{Setup}
use Rattle.sk_law.specs.Lawful.{Lawful}
use Rattle.sk_law.specs.Told.{heard, notices}
use Rattle.sk_node.specs.Lists.{Lists, Tells}
use Rattle.sk_sim.specs.Cards.{Card}
use Rattle.sk_sim.specs.Parts.{Goes}
use Rattle.sk_sim.proofs.Untouched.{untouched_none, untouched_both}

pub prefix_both : {X : Type 0} (a b c : List X) → IsPrefix a b → IsPrefix b c → IsPrefix a c
prefix_both a b c h i = (h.0 ++ i.0, sym (append_assoc a h.0 i.0) ∙ (ap (λ x. x ++ i.0) h.1 ∙ i.1))

pub tells_none : (es : List Entry) (was : Lists) → Tells es es was was
tells_none es was = record {
  more = [];
  heard_in = sym (append-nil (heard es));
  heard_is = sym (append-nil was.heard);
  notes = [];
  notices_in = sym (append-nil (notices es));
  notified_is = sym (append-nil was.notified);
}

glued : {X : Type 0} (a x y b c : List X) → b ≡ a ++ x → c ≡ b ++ y → c ≡ a ++ (x ++ y)
glued a x y b c e f = f ∙ (ap (λ z. z ++ y) e ∙ append_assoc a x y)

tells_both : (a b c : List Entry) (was middle now : Lists) → Tells a b was middle → Tells b c middle now → Tells a c was now
tells_both a b c was middle now h i = record {
  more = h.more ++ i.more;
  heard_in = glued (heard a) h.more i.more (heard b) (heard c) h.heard_in i.heard_in;
  heard_is = glued was.heard h.more i.more middle.heard now.heard h.heard_is i.heard_is;
  notes = h.notes ++ i.notes;
  notices_in = glued (notices a) h.notes i.notes (notices b) (notices c) h.notices_in i.notices_in;
  notified_is = glued was.notified h.notes i.notes middle.notified now.notified h.notified_is i.notified_is;
}

-- nothing happened
pub goes_none : (a : Card) (was : Lists) → Goes a a was was
goes_none a was = record {
  made = [];
  calls = sym (append-nil was.made);
  told = tells_none a.past.journal was;
  place = refl;
  setup = refl;
  grows = ([], append-nil a.past.journal);
  lawful = λ earlier h. subst (λ made. Lawful a.setup a.past made) (sym (append-nil earlier)) h;
  untouched = untouched_none a.past;
  lower = omega arith;
  more = λ q. omega arith;
}

-- one thing after the other
pub goes_both : (a b c : Card) (was middle now : Lists) → Goes a b was middle → Goes b c middle now → Goes a c was now
goes_both a b c was middle now h i = record {
  made = h.made ++ i.made;
  calls = glued was.made h.made i.made middle.made now.made h.calls i.calls;
  told = tells_both a.past.journal b.past.journal c.past.journal was middle now h.told i.told;
  place = i.place ∙ h.place;
  setup = i.setup ∙ h.setup;
  grows = prefix_both a.past.journal b.past.journal c.past.journal h.grows i.grows;
  lawful = λ earlier l.
      subst (λ made. Lawful a.setup c.past made) (append_assoc earlier h.made i.made)
      (subst (λ (S : Setup). Lawful S c.past ((earlier ++ h.made) ++ i.made)) h.setup
      (i.lawful (earlier ++ h.made) (subst (λ (S : Setup). Lawful S b.past (earlier ++ h.made)) (sym h.setup) (h.lawful earlier l))));
  untouched = untouched_both a.past b.past c.past h.untouched i.untouched;
  lower = let x = h.lower in let y = i.lower in omega arith;
  more = λ q. let x = h.more q in let y = i.more q in omega arith;
}

-- the same to an equal card
pub goes_to : (a b c : Card) (was now : Lists) → c ≡ b → Goes a b was now → Goes a c was now
goes_to a b c was now e h = subst (λ (x : Card). Goes a x was now) (sym e) h
