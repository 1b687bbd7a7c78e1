-- Laws of the table over any events.
use Rattle.std.proofs.Common.{◌≡◌, ◌<◌, ◌∙◌, ℕ, Bool, true, false, not, List, [], ◌∷◌, ◌++◌, length, Option, Some, None, is_none, refl, sym, ap, subst, inl, inr, arith, length-append}
use Rattle.std.specs.Prelude.{Contains, ◌⊎◌, ◌||◌, count_by, if◌then◌else◌}
use Rattle.std.specs.List.{IsDistinct}
use Rattle.std.specs.Str.{bytes_eq}
use Rattle.std.proofs.lemmas.Bool.{or_parts, or_from, both_ways, not-true, true_from_ne_false, cases_order}
use Rattle.std.proofs.lemmas.List.{append_assoc}
use Rattle.std.proofs.lemmas.List.Folds.{list_any-append}
use Rattle.std.proofs.lemmas.List.Elements.{Contains-append_left, Contains-push, Contains-push_cases}
use Rattle.sk_registry.specs.declared.joined.Joined.{Joined}
use Rattle.sk_registry.specs.declared.refused.JoinRefused.{JoinRefused}
use Rattle.sk_registry.specs.Table.{is_named, has_name, without, refusal, IsTable, IsBefore}
use Rattle.sk_registry.specs.Events.{RegistryEvent, Join, Leave, after, after_events, table_after, has_left, Joining, index, told, IsToldOf}
use Rattle.sk_registry.proofs.Members.{filter-at, split_at, none_in_nothing, is_first, is_later, Contains-filter, Contains-from_filter, later_part}
use Rattle.sk_registry.proofs.TableLaws.{same_bytes, free, table-push, table-without, has-member, count-one, without-last}

-- ## What holds at every moment

after-keeps : (table : List Joined) (event : RegistryEvent) → IsTable table → IsTable (after table event)
after-keeps table (Leave name) kept = table-without name table kept
after-keeps table (Join who) kept = split (refusal table who.name) refl
  where
    split : (reason : Option JoinRefused) → refusal table who.name ≡ reason → IsTable (if is_none reason then table ++ who ∷ [] else table)
    split None accepted = table-push table who kept (free table who.name accepted)
    split (Some reason) refused = kept

pub events-keep : (table : List Joined) (events : List RegistryEvent) → IsTable table → IsTable (after_events table events)
events-keep table [] kept = kept
events-keep table (event ∷ events) kept = events-keep (after table event) events (after-keeps table event kept)

pub nobody_yet : IsTable []
unfolding IsDistinct
nobody_yet = record { distinct = tt; few = omega arith }

pub is_table : (events : List RegistryEvent) → IsTable (table_after events)
is_table events = events-keep [] events nobody_yet

pub after_events-append : (table : List Joined) (xs ys : List RegistryEvent) → after_events table (xs ++ ys) ≡ after_events (after_events table xs) ys
after_events-append table [] ys = refl
after_events-append table (x ∷ xs) ys = after_events-append (after table x) xs ys

-- ## Who is in the table

-- a join keeps all that are there
join-keeps : (table : List Joined) (other who : Joined) → Contains table who → Contains (after table (Join other)) who
join-keeps table other who here = split (is_none (refusal table other.name))
  where
    split : (b : Bool) → Contains (if b then table ++ other ∷ [] else table) who
    split true = Contains-append_left table (other ∷ []) who here
    split false = here

-- whose name doesn't leave stays
stays : (table : List Joined) (events : List RegistryEvent) (who : Joined) → Contains table who → has_left events who.name ≡ false → Contains (after_events table events) who
stays table [] who here stayed = here
stays table (Join other ∷ events) who here stayed =
    stays (after table (Join other)) events who (join-keeps table other who here) stayed
stays table (Leave name ∷ events) who here stayed =
    let parts = or_parts _ _ stayed in
    stays (without name table) events who (Contains-filter (λ j. not (is_named name j)) table who here (ap not parts.0)) parts.1

pub joins-last : (table : List Joined) (who : Joined) → refusal table who.name ≡ None → after table (Join who) ≡ table ++ who ∷ []
joins-last table who accepted = ap (λ (reason : Option JoinRefused). if is_none reason then table ++ who ∷ [] else table) accepted

-- who leaves right after joining leaves the table as it was
pub undoes : (table : List Joined) (who : Joined) → refusal table who.name ≡ None → after (after table (Join who)) (Leave who.name) ≡ table
undoes table who accepted = ap (without who.name) (joins-last table who accepted) ∙ without-last table who (free table who.name accepted).fresh

pub is_there : (events before since : List RegistryEvent) (who : Joined) → events ≡ before ++ Join who ∷ since → refusal (table_after before) who.name ≡ None
    → has_left since who.name ≡ false → Contains (table_after events) who
is_there events before since who among accepted stayed =
    let last : Contains (after (table_after before) (Join who)) who = rw (joins-last (table_after before) who accepted) (Contains-push (table_after before) who) in
    rw (among, after_events-append [] before (Join who ∷ since)) (stays (after (table_after before) (Join who)) since who last stayed)

-- one of these events brought this one in
record BroughtIn (table : List Joined) (events : List RegistryEvent) (who : Joined) : Type 0 where
  before : List RegistryEvent
  since : List RegistryEvent
  among : events ≡ before ++ Join who ∷ since
  accepted : refusal (after_events table before) who.name ≡ None
  stayed : has_left since who.name ≡ false

-- whoever is there in the end was there from the start and never left, or was brought in
from_where : (table : List Joined) (events : List RegistryEvent) (who : Joined) → Contains (after_events table events) who
    → (Contains table who × (has_left events who.name ≡ false)) ⊎ BroughtIn table events who
from_where table [] who here = inl (here, refl)
from_where table (event ∷ events) who here = elim (from_where (after table event) events who here) [
  | inl stayed ↦ at_first event stayed.0 stayed.1
  | inr came ↦ inr (record { before = event ∷ came.before; since = came.since; among = ap (λ (es : List RegistryEvent). event ∷ es) came.among; accepted = came.accepted; stayed = came.stayed })
]
  where
    joined : (other : Joined) (reason : Option JoinRefused) → refusal table other.name ≡ reason → has_left events who.name ≡ false
        → Contains (if is_none reason then table ++ other ∷ [] else table) who
        → (Contains table who × (has_left (Join other ∷ events) who.name ≡ false)) ⊎ BroughtIn table (Join other ∷ events) who
    joined other (Some reason) refused stayed in_table = inl (in_table, stayed)
    joined other None accepted stayed in_table = elim (Contains-push_cases table other who in_table) [
      | inl earlier ↦ inl (earlier, stayed)
      | inr is_it ↦ inr (record {
        before = [];
        since = events;
        among = ap (λ (j : Joined). Join j ∷ events) is_it;
        accepted = subst (λ (j : Joined). refusal table j.name ≡ None) is_it accepted;
        stayed = stayed;
      })
    ]

    at_first : (first : RegistryEvent) → Contains (after table first) who → has_left events who.name ≡ false
        → (Contains table who × (has_left (first ∷ events) who.name ≡ false)) ⊎ BroughtIn table (first ∷ events) who
    at_first (Join other) in_table stayed = joined other (refusal table other.name) refl stayed in_table
    at_first (Leave name) in_table stayed =
        let kept = Contains-from_filter (λ j. not (is_named name j)) table who in_table in
        inl (kept.0, or_from _ _ (not-true (is_named name who) kept.1) stayed)

pub by_one : (events : List RegistryEvent) (who : Joined) → Contains (table_after events) who → (joining : Joining events) × (joining.who ≡ who)
by_one events who here = elim (from_where [] events who here) [
  | inl stayed ↦ absurd (none_in_nothing who stayed.0)
  | inr came ↦ (record { before = came.before; who = who; since = came.since; among = came.among; accepted = came.accepted; stayed = came.stayed }, refl)
]

-- ## Of two joinings

record Between {events : List RegistryEvent} (earlier later : Joining events) : Type 0 where
  between : List RegistryEvent
  is : later.before ≡ earlier.before ++ Join earlier.who ∷ between
  stayed : has_left between earlier.who.name ≡ false
  stayed_on : has_left later.since earlier.who.name ≡ false

between_them : {events : List RegistryEvent} (earlier later : Joining events) → index earlier < index later → Between earlier later
between_them earlier later below =
    let parts = later_part earlier.before later.before (Join earlier.who) (Join later.who) earlier.since later.since (sym earlier.among ∙ later.among) below in
    let all : has_left (parts.0 ++ Join later.who ∷ later.since) earlier.who.name ≡ false = rw (← parts.2) earlier.stayed in
    let both = or_parts _ _ (sym (list_any-append _ parts.0 (Join later.who ∷ later.since)) ∙ all) in
    record { between = parts.0; is = parts.1; stayed = both.0; stayed_on = both.1 }

pub of_earlier : {events : List RegistryEvent} (earlier later : Joining events) → index earlier < index later → IsToldOf later earlier
of_earlier earlier later below =
    let b = between_them earlier later below in
    record {
      row = record { before = earlier.before; who = earlier.who; since = b.between; among = b.is; accepted = earlier.accepted; stayed = b.stayed };
      same_index = refl;
      same_one = refl;
    }

pub in_list : {events : List RegistryEvent} (one other : Joining events) → IsToldOf one other → Contains (told one) other.who
in_list one other of_it =
    let row = of_it.row in
    subst (Contains (told one)) of_it.same_one (is_there one.before row.before row.since row.who row.among row.accepted row.stayed)

pub told_earlier : {events : List RegistryEvent} (earlier later : Joining events) → index earlier < index later → Contains (told later) earlier.who
told_earlier earlier later below =
    let b = between_them earlier later below in
    is_there later.before earlier.before b.between earlier.who b.is earlier.accepted b.stayed

pub once : {events : List RegistryEvent} (earlier later : Joining events) → index earlier < index later → count_by (is_named earlier.who.name) (told later) ≡ 1
once earlier later below =
    count-one (told later) earlier.who.name (is_table later.before).distinct (has-member (told later) earlier.who (told_earlier earlier later below))

pub not_of_later : {events : List RegistryEvent} (earlier later : Joining events) → index earlier < index later → IsToldOf earlier later → ⊥
not_of_later earlier later below of_it =
    let row = of_it.row in
    let same = of_it.same_index in
    omega (arith, ap length row.among, length-append row.before (Join row.who ∷ row.since))

-- a name that is taken isn't accepted
other_names : {events : List RegistryEvent} (earlier later : Joining events) → index earlier < index later → earlier.who.name ≡ later.who.name → ⊥
other_names earlier later below same =
    both_ways (has_name (told later) earlier.who.name)
    (ap (has_name (told later)) same ∙ (free (told later) later.who.name later.accepted).fresh)
    (has-member (told later) earlier.who (told_earlier earlier later below))

pub no_other : {events : List RegistryEvent} (one other : Joining events) → one.who.name ≡ other.who.name → index one ≡ index other
no_other one other same = elim (cases_order (index one) (index other)) [
  | inl equal ↦ equal
  | inr apart ↦ elim apart [
    | inl below ↦ absurd (other_names one other below same)
    | inr above ↦ absurd (other_names other one above (sym same))
  ]
]

-- ## Their order

before-push : (table : List Joined) (one other who : Joined) → IsBefore table one other → IsBefore (table ++ who ∷ []) one other
before-push table one other who b = record {
  front = b.front;
  middle = b.middle;
  back = b.back ++ who ∷ [];
  order = ap (λ (t : List Joined). t ++ who ∷ []) b.order ∙ simp append_assoc;
}

before-without : (table : List Joined) (one other : Joined) (name : List ℕ) → IsBefore table one other → bytes_eq name one.name ≡ false → bytes_eq name other.name ≡ false
    → IsBefore (without name table) one other
before-without table one other name b not_one not_other = record {
  front = without name b.front;
  middle = without name b.middle;
  back = without name b.back;
  order =
      ap (without name) b.order ∙ filter-at (λ j. not (is_named name j)) b.front one (b.middle ++ other ∷ b.back) (ap not not_one)
      ∙ ap (λ (rest : List Joined). without name b.front ++ one ∷ rest) (filter-at (λ j. not (is_named name j)) b.middle other b.back (ap not not_other));
}

before-join : (table : List Joined) (one other who : Joined) → IsBefore table one other → IsBefore (after table (Join who)) one other
before-join table one other who b = split (is_none (refusal table who.name))
  where
    split : (free : Bool) → IsBefore (if free then table ++ who ∷ [] else table) one other
    split true = before-push table one other who b
    split false = b

order-stays : (table : List Joined) (events : List RegistryEvent) (one other : Joined) → IsBefore table one other → has_left events one.name ≡ false → has_left events other.name ≡ false
    → IsBefore (after_events table events) one other
order-stays table [] one other b one_stays other_stays = b
order-stays table (Join who ∷ events) one other b one_stays other_stays =
    order-stays (after table (Join who)) events one other (before-join table one other who b) one_stays other_stays
order-stays table (Leave name ∷ events) one other b one_stays other_stays =
    let of_one = or_parts _ _ one_stays in
    let of_other = or_parts _ _ other_stays in
    order-stays (without name table) events one other (before-without table one other name b of_one.0 of_other.0) of_one.1 of_other.1

pub in_order : {events : List RegistryEvent} (earlier later : Joining events) → index earlier < index later → IsBefore (table_after events) earlier.who later.who
in_order {events} earlier later below =
    let parts = split_at (told later) earlier.who (told_earlier earlier later below) in
    let joined = joins-last (told later) later.who later.accepted in
    let at_once : IsBefore (after (told later) (Join later.who)) earlier.who later.who = record {
      front = parts.0;
      middle = parts.1;
      back = [];
      order = joined ∙ ap (λ (t : List Joined). t ++ later.who ∷ []) parts.2 ∙ append_assoc parts.0 (earlier.who ∷ parts.1) (later.who ∷ []);
    } in
    rw (later.among, after_events-append [] later.before (Join later.who ∷ later.since))
    (order-stays (after (told later) (Join later.who)) later.since earlier.who later.who at_once (between_them earlier later below).stayed_on later.stayed)

-- ## Of those that were there before

-- one of a name that the table has
member : (table : List Joined) (name : List ℕ) → has_name table name ≡ true → (who : Joined) × Contains table who × (who.name ≡ name)
member [] name has = absurd cc
member (j ∷ table) name has = split (bytes_eq name j.name) refl has (member table name)
  where
    split : (b : Bool) → bytes_eq name j.name ≡ b → (b || has_name table name) ≡ true
        → (has_name table name ≡ true → (who : Joined) × Contains table who × (who.name ≡ name)) → (who : Joined) × Contains (j ∷ table) who × (who.name ≡ name)
    split true is h later = (j, is_first j table, sym (same_bytes name j.name is))
    split false is h later = let rest = later h in (rest.0, is_later j table rest.0 rest.1, rest.2)

-- a name that doesn't leave stays
name-stays : (table : List Joined) (events : List RegistryEvent) (name : List ℕ) → has_name table name ≡ true → has_left events name ≡ false → has_name (after_events table events) name ≡ true
name-stays table events name has stayed =
    let one = member table name has in
    let there = stays table events one.0 one.1 (ap (has_left events) one.2 ∙ stayed) in
    ap (has_name (after_events table events)) (sym one.2) ∙ has-member (after_events table events) one.0 there

-- whoever of the later's name the earlier was told of left before the later came
pub former : {events : List RegistryEvent} (earlier later : Joining events) (between : List RegistryEvent) → later.before ≡ earlier.before ++ Join earlier.who ∷ between
    → has_name (told earlier) later.who.name ≡ true → has_left between later.who.name ≡ true
former earlier later between is has =
    let since = Join earlier.who ∷ between in
    true_from_ne_false (has_left between later.who.name) (λ stayed.
    let there = name-stays (told earlier) since later.who.name has stayed in
    let same : told later ≡ after_events (told earlier) since = ap (after_events []) is ∙ after_events-append [] earlier.before since in
    both_ways (has_name (told later) later.who.name) (free (told later) later.who.name later.accepted).fresh (ap (λ (table : List Joined). has_name table later.who.name) same ∙ there))
