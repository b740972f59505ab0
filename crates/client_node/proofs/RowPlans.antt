-- A plan of a row's slots is one that the devices take on.
use Rattle.std.proofs.Common.{◌≡◌, ◌⊎◌, inl, inr, ⊎_elim, ℕ, ◌+◌, ◌<◌, ◌≤◌, Bool, true, false, List, [], ◌∷◌, ◌++◌, length, map, Option, Some, None, refl, sym, ◌∙◌, ap, subst, eqb-true, append_assoc}
use Rattle.std.specs.Prelude.{◌&&◌, ◌||◌, ◌==◌, not}
use Rattle.std.specs.Ordering.{nat_cmp}
use Rattle.std.specs.Cmp.{nat_cmp_total, eq_by_cmp_equiv}
use Rattle.std.specs.declared.cmp.Ordering.TheVariants.{Less, Equal}
use Rattle.std.specs.List.{list_any, AllByRecursion}
use Rattle.std.specs.List.Sorted.{IsStrictlySortedBy}
use Rattle.vault.specs.Limit.{payload_most}
use Rattle.held_value.specs.declared.local_name.LocalName.{LocalName}
use Rattle.held_value.specs.declared.slots.Slots.{Slots}
use Rattle.slot_store.specs.declared.held.RowSlots.{RowSlots}
use Rattle.slot_store.specs.Data.{SlotData, slots_of}
use Rattle.slot_store.proofs.Keys.{equal_is}
use Rattle.plan_log.specs.declared.plan.RowChange.{RowChange}
use Rattle.plan_log.specs.Journal.{AtWork, Idle, Intended, Committed}
use Rattle.plan_log.specs.Spelling.{IsPlan as IsPlanNumber, HasCommit, commit_payload}
use Rattle.client_tables.specs.declared.change.Change.{Change}
use Rattle.client_tables.specs.declared.plan.RowPlan.{RowPlan}
use Rattle.client_tables.specs.Change.{after}
use Rattle.client_tables.specs.Drops.{names_in as tree_names, pair_cmp, pair_of}
use Rattle.client_tables.specs.Plan.{IsPlan as IsRowPlan, IsBrought, AreKnown}
use Rattle.client_journal.specs.declared.plan.Plan.{Plan as Begun}
use Rattle.client_journal.specs.Devs.{ClientDevs, local_in}
use Rattle.client_journal.specs.Names.{same_name, is_among, Has, names_in, names_of_main, names_of_shadow, names_of_out}
use Rattle.client_journal.specs.NamedSlots.{NamedSlots, IsNamed, IsAtRest, IsNotCommitted, AreDifferent, names_before, names_behind, names_if}
use Rattle.client_journal.specs.Plan.{IsPlan, Keeps, commit_for, chunk_most, changes_most}
use Rattle.client_journal.specs.Redone.{redone, redone_by}
use Rattle.step_tables.specs.ClientMoves.{ClientDisk}
use Rattle.journal_laws.specs.Holds.{Stands, slots_or_empty}
use Rattle.journal_laws.proofs.Plans.{named_in}

-- where nothing is committed the devices stand for what is held
pub redone_rests : (work : AtWork) (held : SlotData) → IsNotCommitted work → redone_by work held ≡ held
redone_rests Idle held n = refl
redone_rests (Intended intend) held n = refl
redone_rests (Committed commit) held n = absurd n

-- ---- names

and_left : (a b : Bool) → (a && b) ≡ true → a ≡ true
and_left true b e = refl
and_left false b e = e

and_second : (a b : Bool) → (a && b) ≡ true → b ≡ true
and_second true b e = e
and_second false b e = absurd cc

same_pair : (n : ℕ) → nat_cmp n n ≡ Equal
same_pair n = equal_is (nat_cmp n n) ((eq_by_cmp_equiv nat_cmp_total).refl n)

same_pairs : (a b : LocalName) → same_name a b ≡ true → pair_cmp (pair_of a) (pair_of b) ≡ Equal
same_pairs a b is =
    let plan : a.plan ≡ b.plan = eqb-true a.plan b.plan (and_left (a.plan == b.plan) (a.ordinal == b.ordinal) is) in
    let ordinal : a.ordinal ≡ b.ordinal = eqb-true a.ordinal b.ordinal (and_second (a.plan == b.plan) (a.ordinal == b.ordinal) is) in
    rw (plan, ordinal, same_pair, same_pair) refl

not_same : (a b : LocalName) → pair_cmp (pair_of a) (pair_of b) ≡ Less → same_name a b ≡ false
not_same a b less = pick (same_name a b) refl
  where
    pick : (v : Bool) → same_name a b ≡ v → same_name a b ≡ false
    pick true is = let equal = same_pairs a b is in absurd cc
    pick false is = is

both_false : (a b : Bool) → a ≡ false → b ≡ false → (a || b) ≡ false
both_false a b x y = rw (x, y) refl

none_among : (name : LocalName) (names : List LocalName) → AllByRecursion (λ pair. pair_cmp (pair_of name) pair ≡ Less) (map pair_of names) → is_among names name ≡ false
none_among name [] a = refl
none_among name (q ∷ names) a =
    both_false (same_name name q) (is_among names name) (not_same name q a.0) (none_among name names a.1)

-- names that rise are different
pub rising_different : (names : List LocalName) → IsStrictlySortedBy pair_cmp (map pair_of names) → AreDifferent names
unfolding IsStrictlySortedBy
rising_different [] s = tt
rising_different (name ∷ names) s = (none_among name names s.0, rising_different names s.1)

append_same : (a b c d : List LocalName) → a ++ b ++ c ++ d ≡ a ++ (b ++ (c ++ d))
append_same a b c d = simp append_assoc

pub names_same : (slots : Slots) → tree_names slots ≡ names_in slots
names_same slots = append_same (names_of_main slots.main) (names_of_shadow slots.shadow) (names_of_out slots.out) (names_of_shadow slots.conflict)

if_same : (o : Option RowSlots) → names_if o ≡ names_in (slots_or_empty o)
if_same None = refl
if_same (Some stored) = refl

and_right : (a b : Bool) → (a && not b) ≡ true → b ≡ true → ⊥
and_right true true e is = cc
and_right true false e is = cc
and_right false b e is = cc

and_both : (a b : Bool) → a ≡ true → (b ≡ true → ⊥) → (a && not b) ≡ true
and_both true true is n = absurd (n refl)
and_both true false is n = refl
and_both false b is n = absurd cc

-- ---- a plan

-- what is asked of a plan beside its names
pub record IsLimited (plan : Begun) : Type 0 where
  pub spelled : (number : ℕ) → IsPlanNumber number → HasCommit (commit_for number plan)
  pub short : (number : ℕ) → IsPlanNumber number → length (commit_payload (commit_for number plan)) ≤ payload_most
  pub chunks : AllByRecursion (λ bytes. length bytes ≤ chunk_most) plan.brought
  pub few : length plan.brought + length plan.drops ≤ changes_most

module _ (c : ℕ) (meaning : LocalName → List ℕ) (d : ClientDevs) (disk : ClientDisk) (st : Stands c meaning d disk) (rest : IsAtRest d) (table : ℕ) (row : List ℕ) (slots behind : Slots) (here : slots ≡ slots_or_empty (slots_of d.held table row))
    (change : Change) (given : List (List ℕ)) (made : RowPlan) (is : IsRowPlan slots change given made) (some : change.slots ≡ Some behind) (known : AreKnown slots (length given) (tree_names behind)) where
  abbrev held_names : List LocalName
  held_names = names_in slots

  -- the names of the row's slots were numbered
  numbered : (name : LocalName) → Has held_names name → name.plan ≡ 0 → ⊥
  numbered = subst (λ (s : Slots). (name : LocalName) → Has (names_in s) name → name.plan ≡ 0 → ⊥) (sym here) (st.held.numbered table row)

  known_now : (name : LocalName) → Has (names_in behind) name → Has held_names name ⊎ IsBrought (length given) name
  known_now name has =
      ⊎_elim (λ k. inl (subst (λ (l : List LocalName). Has l name) (names_same slots) k)) (λ b. inr b)
      (known name (subst (λ (l : List LocalName). Has l name) (sym (names_same behind)) has))

  behind_is : after slots change ≡ behind
  behind_is = rw some refl

  drops_are : (name : LocalName) → is_among made.drops name ≡ (is_among held_names name && not (is_among (names_in behind) name))
  drops_are name = is.drops name ∙ rw (names_same, behind_is, names_same) refl

  before_is : (plan : Begun) → plan.table ≡ table → plan.row ≡ Some (record { row = row; slots = behind }) → names_before d.held plan.table plan.row ≡ held_names
  before_is plan at put = rw (at, put) (if_same (slots_of d.held table row) ∙ ap names_in (sym here))

  module _ (plan : Begun) (at : plan.table ≡ table) (put : plan.row ≡ Some (record { row = row; slots = behind })) (brings : plan.brought ≡ given) (dropping : plan.drops ≡ made.drops) (all : (ordinal : ℕ) → ordinal < length given → Has (names_in behind) (record { plan = 0; ordinal = ordinal }))
      (limits : IsLimited plan) where
    names_are : names_behind plan.row ≡ names_in behind
    names_are = ap names_behind put

    has_behind : (name : LocalName) → Has (names_behind plan.row) name → Has (names_in behind) name
    has_behind name has = subst (λ (l : List LocalName). Has l name) names_are has

    has_before : (name : LocalName) → Has held_names name → Has (names_before d.held plan.table plan.row) name
    has_before name has = subst (λ (l : List LocalName). Has l name) (sym (before_is plan at put)) has

    was_before : (name : LocalName) → Has (names_before d.held plan.table plan.row) name → Has held_names name
    was_before name has = subst (λ (l : List LocalName). Has l name) (before_is plan at put) has

    drop_is : (name : LocalName) → Has plan.drops name → (is_among held_names name && not (is_among (names_in behind) name)) ≡ true
    drop_is name has = sym (drops_are name) ∙ subst (λ (l : List LocalName). Has l name) dropping has

    there_now : (name : LocalName) → Has held_names name → (bytes : List ℕ) × (local_in d.chunks name ≡ Some bytes)
    there_now name has =
        let named : IsNamed d.held name = named_in d.held table row name (subst (λ (s : Slots). Has (names_in s) name) here has) in
        (meaning name, st.named.there name (subst (λ (h : SlotData). IsNamed h name) (sym (redone_rests d.journal.at_work d.held rest.not_committed)) named))

    pub row_plan_is : IsPlan d plan
    row_plan_is = record {
      brought = λ name has zero. ⊎_elim (λ k. absurd (numbered name k zero)) (λ b. subst (λ (l : List (List ℕ)). name.ordinal < length l) (sym brings) b.1) (known_now name (has_behind name has));
      all_brought = λ ordinal less. subst (λ (l : List LocalName). Has l (record { plan = 0; ordinal = ordinal })) (sym names_are) (all ordinal (subst (λ (l : List (List ℕ)). ordinal < length l) brings less));
      kept = λ name k. has_before name (⊎_elim (λ h. h) (λ b. absurd (k.kept b.0)) (known_now name (has_behind name k.named)));
      dropped = λ name has. let both = drop_is name has in (has_before name (and_left (is_among held_names name) (not (is_among (names_in behind) name)) both), λ k. and_right (is_among held_names name) (is_among (names_in behind) name) both (has_behind name k.named));
      all_dropped = λ name has n.
          let was = was_before name has in
          subst (λ (l : List LocalName). Has l name) (sym dropping)
          (drops_are name ∙ and_both (is_among held_names name) (is_among (names_in behind) name) was (λ there. n (record { named = subst (λ (l : List LocalName). Has l name) (sym names_are) there; kept = numbered name was })));
      different = subst (λ (l : List LocalName). AreDifferent l) (sym dropping) (rising_different made.drops is.rising);
      there = λ name has. there_now name (and_left (is_among held_names name) (not (is_among (names_in behind) name)) (drop_is name has));
      spelled = limits.spelled;
      short = limits.short;
      chunks = limits.chunks;
      few = limits.few;
    }
