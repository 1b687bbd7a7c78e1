-- The types of fields, and how fields follow one another. A field says how a value is spelled, which values fit, and what
-- the first fault is; beside it stands the plain program that reads it. Numbers are little-endian.
use Rattle.std.specs.Prelude.{◌≡◌, ◌⊎◌, ◌<◌, ◌^◌, ℕ, zero, suc, Bool, true, false, ◌&&◌, List, [], ◌∷◌, ◌++◌, length, take, drop, Option, Some, None, Ok, Err, nat_lt, if◌then◌else◌}
use Rattle.std.specs.Int.{Width, w8, byte_len, to_le_bytes, from_le_bytes}
use Rattle.std.specs.List.{flat_map}
use Rattle.sk_msg.specs.Each.{any, each_after}
use Rattle.sk_wire.specs.declared.fault.BodyFault.{BodyFault}
use Rattle.sk_wire.specs.Reading.{Reading, ◌>>=◌, cut, bad}

pub record Field (A : Type 0) : Type 1 where
  pub spelling : A → List ℕ
  pub fits : A → Bool
  -- the first fault in the field, where these bytes are what the body has from it on
  pub faults : List ℕ → BodyFault → Type 0
  -- the plain program: the value at the front of these bytes and what is behind it, or that fault
  pub at : List ℕ → Reading A

-- the field stands at the front of the bytes, with this value and these bytes behind it
abbrev pub IsFieldAt : {A : Type 0} → Field A → List ℕ → A → List ℕ → Type 0
IsFieldAt field bytes x behind = (field.fits x ≡ true) × (bytes ≡ field.spelling x ++ behind)

-- the field needs more bytes than the body has left
abbrev pub IsCut : List ℕ → BodyFault → Type 0
IsCut bytes fault = fault ≡ cut bytes

-- the field is out of its range, or breaks a rule
abbrev pub IsBad : List ℕ → BodyFault → Type 0
IsBad bytes fault = fault ≡ bad bytes

abbrev pub limit_of : Width → ℕ
limit_of w = 256 ^ byte_len w

-- a number of this width stands at the front
abbrev pub Numbered : Width → List ℕ → ℕ → List ℕ → Type 0
Numbered w bytes n behind = (n < limit_of w) × (bytes ≡ to_le_bytes w n ++ behind)

-- a length stands at the front, and behind it fewer bytes than it says
abbrev pub IsCutBehind : Width → List ℕ → Type 0
IsCutBehind w bytes = (n : ℕ) × (behind : List ℕ) × Numbered w bytes n behind × (length behind < n)

-- a length and so many bytes
abbrev pub spelled_counted : Width → List ℕ → List ℕ
spelled_counted w bytes = to_le_bytes w (length bytes) ++ bytes

-- ## A number of a width that keeps a rule

abbrev pub number_at : Width → List ℕ → Reading ℕ
number_at w bytes =
    if nat_lt (length bytes) (byte_len w) then Err (cut bytes)
    else Ok (from_le_bytes w (take (byte_len w) bytes), drop (byte_len w) bytes)

abbrev pub number : Width → (ℕ → Bool) → Field ℕ
number w rule = record {
  spelling = to_le_bytes w;
  fits = rule;
  faults = λ bytes fault.
      (IsCut bytes fault × (length bytes < byte_len w))
      ⊎ (IsBad bytes fault × ((n : ℕ) × (behind : List ℕ) × Numbered w bytes n behind × (rule n ≡ false)));
  at = λ bytes. number_at w bytes >>= λ n. if rule n.0 then Ok n else Err (bad bytes);
}

-- ## A length, and so many bytes that keep a rule

abbrev pub counted_at : Width → List ℕ → Reading (List ℕ)
counted_at w bytes =
    number_at w bytes >>= λ n. if nat_lt (length n.1) n.0 then Err (cut bytes) else Ok (take n.0 n.1, drop n.0 n.1)

abbrev pub counted : Width → (List ℕ → Bool) → Field (List ℕ)
counted w rule = record {
  spelling = spelled_counted w;
  fits = rule;
  faults = λ bytes fault.
      (IsCut bytes fault × ((length bytes < byte_len w) ⊎ IsCutBehind w bytes))
      ⊎ (IsBad bytes fault × ((text : List ℕ) × (behind : List ℕ) × (length text < limit_of w) × (bytes ≡ spelled_counted w text ++ behind) × (rule text ≡ false)));
  at = λ bytes. counted_at w bytes >>= λ text. if rule text.0 then Ok text else Err (bad bytes);
}

-- ## A choice, as one byte

abbrev pub chosen : {A : Type 0} → BodyFault → List ℕ → Option A → Reading A
chosen fault behind (Some x) = Ok (x, behind)
chosen fault behind None = Err fault

abbrev pub choice : {A : Type 0} → (A → ℕ) → (ℕ → Option A) → Field A
choice code value = record {
  spelling = λ x. to_le_bytes w8 (code x);
  fits = any;
  faults = λ bytes fault.
      (IsCut bytes fault × (length bytes < 1))
      ⊎ (IsBad bytes fault × ((n : ℕ) × (behind : List ℕ) × Numbered w8 bytes n behind × (value n ≡ None)));
  at = λ bytes. number_at w8 bytes >>= λ n. chosen (bad bytes) n.1 (value n.0);
}

-- ## No field, and one field behind another

abbrev pub nothing : Field (Unit {0})
nothing = record { spelling = λ _. []; fits = λ _. true; faults = λ _ _. ⊥; at = λ bytes. Ok (tt, bytes) }

-- the rule of the second may look at the value of the first
infixr 9 ◌&◌
abbrev pub ◌&◌ : {A B : Type 0} → Field A → (A → Field B) → Field (A × B)
◌&◌ {A = A} first second = record {
  spelling = λ x. first.spelling x.0 ++ (second x.0).spelling x.1;
  fits = λ x. first.fits x.0 && (second x.0).fits x.1;
  faults = λ bytes fault.
      first.faults bytes fault
      ⊎ ((x : A) × (behind : List ℕ) × IsFieldAt first bytes x behind × (second x).faults behind fault);
  at = λ bytes. first.at bytes >>= λ x. (second x.0).at x.1 >>= λ y. Ok ((x.0, y.0), y.1);
}

-- ## A field held in another form, and a field with one more rule

abbrev pub held : {A B : Type 0} → (A → B) → (B → A) → Field A → Field B
held made parts field = record {
  spelling = λ y. field.spelling (parts y);
  fits = λ y. field.fits (parts y);
  faults = field.faults;
  at = λ bytes. field.at bytes >>= λ x. Ok (made x.0, x.1);
}

-- the rule is judged where the field stands
abbrev pub such_that : {A : Type 0} → (A → Bool) → Field A → Field A
such_that {A = A} rule field = record {
  spelling = field.spelling;
  fits = λ x. field.fits x && rule x;
  faults = λ bytes fault.
      field.faults bytes fault
      ⊎ (IsBad bytes fault × ((x : A) × (behind : List ℕ) × IsFieldAt field bytes x behind × (rule x ≡ false)));
  at = λ bytes. field.at bytes >>= λ x. if rule x.0 then Ok x else Err (bad bytes);
}

-- ## A list: a count of one byte, and so many items

-- each item is read by a field that may look at the items before it
abbrev pub items_at : {A : Type 0} → (List A → Field A) → ℕ → List A → List ℕ → Reading (List A)
items_at item zero before bytes = Ok ([], bytes)
items_at item (suc n) before bytes =
    (item before).at bytes >>= λ x. items_at item n (before ++ x.0 ∷ []) x.1 >>= λ xs. Ok (x.0 ∷ xs.0, xs.1)

-- the first fault in so many items
abbrev pub items_faults : {A : Type 0} → (List A → Field A) → ℕ → List A → List ℕ → BodyFault → Type 0
items_faults item zero before bytes fault = ⊥
items_faults {A = A} item (suc n) before bytes fault =
    (item before).faults bytes fault
    ⊎ ((x : A) × (behind : List ℕ) × IsFieldAt (item before) bytes x behind × items_faults item n (before ++ x ∷ []) behind fault)

abbrev pub list : {A : Type 0} → (ℕ → Bool) → (List A → Field A) → Field (List A)
list many item = record {
  spelling = λ xs. to_le_bytes w8 (length xs) ++ flat_map (item []).spelling xs;
  fits = λ xs. many (length xs) && each_after (λ before x. (item before).fits x) [] xs;
  faults = λ bytes fault.
      (IsCut bytes fault × (length bytes < 1))
      ⊎ ((n : ℕ) × (behind : List ℕ) × Numbered w8 bytes n behind
      × ((IsBad bytes fault × (many n ≡ false)) ⊎ ((many n ≡ true) × items_faults item n [] behind fault)));
  at = λ bytes. number_at w8 bytes >>= λ n. if many n.0 then items_at item n.0 [] n.1 else Err (bad bytes);
}
