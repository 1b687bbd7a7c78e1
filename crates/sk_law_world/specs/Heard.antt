-- In a lawful world whose participants agree on the required names whatever is got of a participant comes in order.
use Rattle.std.specs.Prelude.{◌≡◌, ◌≢◌, ℕ, true, false, IsTrue, List, [], ◌∷◌, ◌++◌, Option, Some, None, slice_get}
use Rattle.sk_msg.specs.declared.content.Content.{Content}
use Rattle.sk_msg.specs.declared.entry.Entry.{Entry}
use Rattle.sk_msg.specs.declared.entry.Entry.TheVariants.{Gone}
use Rattle.sk_law.specs.declared.made.Made.{Made}
use Rattle.sk_law.specs.declared.setup.Setup.{Setup}
use Rattle.sk_law.specs.Past.{Past}
use Rattle.sk_law.specs.Readings.{got, put, is_gone}
use Rattle.sk_law.specs.Order.{may_say, said_of}
use Rattle.sk_law.specs.Links.{own_name, is_peer, from}
use Rattle.sk_law.specs.Lawful.{Lawful}
use Rattle.sk_law.specs.Setups.{IsSetup}
use Rattle.sk_law.specs.World.{Member, IsWorld}

-- all who are coordinated require the same names; or none of them requires any, and they have no tools
pub record AreAgreed (required : Option (List (List ℕ))) (members : List Member) : Type 0 where
  pub same : (p : ℕ) (m : Member) → slice_get members p ≡ Some m → m.setup.coordinated ≡ true → m.setup.required ≡ required
  pub alone : (p : ℕ) (m : Member) → slice_get members p ≡ Some m → m.setup.coordinated ≡ true → required ≡ None → m.past.memory.tools ≡ []

-- the law: what came in order is all that was got, and nobody is gone for what was out of order
abbrev pub NoneOutOfOrder : Type 0
NoneOutOfOrder = (names : List (List ℕ)) (members : List Member) → IsWorld names members → (required : Option (List (List ℕ))) → AreAgreed required members →
    (p q : ℕ) (sender receiver : Member) → slice_get members p ≡ Some sender → slice_get members q ≡ Some receiver → (p ≢ q) →
    (from receiver.setup receiver.past p ≡ got receiver.past.journal p)
    × ((before after : List Entry) → receiver.past.journal ≡ before ++ Gone p 8 ∷ after → ⊥)

-- of one participant: what is put to a peer comes in the order of a link, and nothing is put to it behind its Gone
pub record ArePutInOrder (S : Setup) (es : List Entry) (q : ℕ) : Type 0 where
  pub order : (front : List Content) (m : Content) (rest : List Content) → put es q ≡ front ++ m ∷ rest → IsTrue (may_say false (own_name S) (said_of front) m)
  pub silent : (front rest : List Entry) → es ≡ front ++ rest → IsTrue (is_gone front q) → put rest q ≡ []

-- the law of one journal
abbrev pub PutsAreInOrder : Type 0
PutsAreInOrder = (S : Setup) (past : Past) (made : List Made) → Lawful S past made → IsSetup S → (q : ℕ) → IsTrue (is_peer S q) → ArePutInOrder S past.journal q
