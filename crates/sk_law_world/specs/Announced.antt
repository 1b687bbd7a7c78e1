-- Laws of what a lawful journal announces and sends.
use Rattle.std.specs.Prelude.{◌≡◌, ◌<◌, ◌≤◌, ◌*◌, ℕ, IsTrue, IfSome, List, ◌∷◌, ◌++◌, Some}
use Rattle.std.specs.List.{count_by}
use Rattle.sk_msg.specs.declared.content.Content.{Content}
use Rattle.sk_msg.specs.declared.content.Content.TheVariants.{NextStep}
use Rattle.sk_msg.specs.declared.entry.Entry.{Entry}
use Rattle.sk_msg.specs.declared.entry.Entry.TheVariants.{Put}
use Rattle.sk_law.specs.declared.made.Made.{Made}
use Rattle.sk_law.specs.declared.setup.Setup.{Setup}
use Rattle.sk_law.specs.Past.{Past}
use Rattle.sk_law.specs.Readings.{is_begin, put}
use Rattle.sk_law.specs.Order.{is_above, is_at, announced_of}
use Rattle.sk_law.specs.Links.{is_peer}
use Rattle.sk_msg.specs.Heads.{head_of}
use Rattle.sk_law.specs.Lawful.{Lawful}
use Rattle.sk_law.specs.Setups.{IsSetup}

-- the time announced is the step size times the number of steps that were begun
abbrev pub AnnouncedAreMultiples : Type 0
AnnouncedAreMultiples = (S : Setup) (past : Past) (made : List Made) → Lawful S past made →
    (before : List Entry) (q at size : ℕ) (after : List Entry) → past.journal ≡ before ++ Put q (NextStep at size) ∷ after →
    (S.step ≡ Some size) × (at ≡ count_by is_begin before * size)

-- later announcements are never below earlier ones
abbrev pub AnnouncedNeverFall : Type 0
AnnouncedNeverFall = (S : Setup) (past : Past) (made : List Made) → Lawful S past made →
    (before : List Entry) (p at size : ℕ) (between : List Entry) (q then length : ℕ) (after : List Entry) →
    past.journal ≡ before ++ Put p (NextStep at size) ∷ (between ++ Put q (NextStep then length) ∷ after) → at ≤ then

-- what is put in a step, behind an announcement, isn't stamped below it
abbrev pub SentAfterAnnounced : Type 0
SentAfterAnnounced = (S : Setup) (past : Past) (made : List Made) → Lawful S past made →
    (before : List Entry) (p at size : ℕ) (between : List Entry) (q : ℕ) (m : Content) (after : List Entry) →
    past.journal ≡ before ++ Put p (NextStep at size) ∷ (between ++ Put q m ∷ after) →
    IfSome (head_of m) (λ s. 0 < s.mark → at ≤ s.stamp)

-- to one peer each announcement is above the one before
abbrev pub AnnouncedRise : Type 0
AnnouncedRise = (S : Setup) (past : Past) (made : List Made) → Lawful S past made → IsSetup S → (q : ℕ) → IsTrue (is_peer S q) →
    (before : List Entry) (at size : ℕ) (after : List Entry) → past.journal ≡ before ++ Put q (NextStep at size) ∷ after →
    IsTrue (is_above (announced_of (put before q)) at)

-- a marked message to a peer has the stamp of the last announcement to it
abbrev pub StampIsAnnounced : Type 0
StampIsAnnounced = (S : Setup) (past : Past) (made : List Made) → Lawful S past made → IsSetup S → (q : ℕ) → IsTrue (is_peer S q) →
    (before : List Entry) (m : Content) (after : List Entry) → past.journal ≡ before ++ Put q m ∷ after →
    IfSome (head_of m) (λ head. 0 < head.mark → IsTrue (is_at (announced_of (put before q)) head.stamp))
