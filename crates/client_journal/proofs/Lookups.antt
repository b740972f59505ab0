-- Look-ups in what the devices hold, behind a change.
use Rattle.std.proofs.Common.{◌≡◌, inl, inr, ⊎_elim, ◌⊎◌, ℕ, Bool, true, false, cond, List, [], ◌∷◌, Some, None, refl, sym, ◌∙◌, ap, subst, arith}
use Rattle.std.specs.Prelude.{◌==◌, ◌&&◌, ◌||◌, max}
use Rattle.std.specs.declared.cmp.Ordering.{Ordering}
use Rattle.std.specs.declared.cmp.Ordering.TheVariants.{Less, Equal, Greater}
use Rattle.std.specs.Ordering.{is_eq, match_ordering, nat_cmp, ordering_then}
use Rattle.std.specs.Cmp.{IsTotalOrder, nat_cmp_total, eq_by_cmp_equiv}
use Rattle.std.proofs.lemmas.Cmp.{then_total, on_total}
use Rattle.std.proofs.lemmas.Bool.Decides.{nat_tests}
use Rattle.std.specs.BTreeMap.{insert_entry, is_at}
use Rattle.std.proofs.lemmas.Map.Lookups.{exact_unsigned}
use Rattle.stab_base.specs.declared.chunk_name.ChunkName.{ChunkName}
use Rattle.held_value.specs.declared.local_name.LocalName.{LocalName}
use Rattle.spare_map.specs.Late.{without}
use Rattle.spare_map.proofs.Changes.{lookup-changed}
use Rattle.chunk_store.specs.Payload.{name_cmp}
use Rattle.slot_store.specs.declared.held.RowKey.{RowKey}
use Rattle.slot_store.specs.declared.held.RowSlots.{RowSlots}
use Rattle.slot_store.specs.declared.held.TableRecord.{TableRecord}
use Rattle.slot_store.specs.Data.{SlotData, key_cmp, key_at, key_of, with_slots, with_record, slots_of, record_of}
use Rattle.slot_store.proofs.Keys.{key_cmp_total, one_key, equal_is}
use Rattle.client_journal.specs.Names.{same_name, is_among, Has}
use Rattle.client_journal.specs.Devs.{chunk_of, local_in}

-- ---- local names

name_cmp_total : IsTotalOrder name_cmp
name_cmp_total = then_total (on_total (λ (name : ChunkName). name.version) nat_cmp_total) (on_total (λ (name : ChunkName). name.ordinal) nat_cmp_total)

both_equal : (o p : Ordering) → is_eq (ordering_then o p) ≡ true → (o ≡ Equal) × (p ≡ Equal)
both_equal Less p h = absurd cc
both_equal Equal Less h = absurd cc
both_equal Equal Equal h = (refl, refl)
both_equal Equal Greater h = absurd cc
both_equal Greater p h = absurd cc

abbrev local_at : ℕ → ℕ → LocalName
local_at plan ordinal = record { plan = plan; ordinal = ordinal }

pub one_local : (a b : LocalName) → is_at (name_cmp (chunk_of a)) (chunk_of b) ≡ true → a ≡ b
one_local a b is =
    let e = both_equal (nat_cmp a.plan b.plan) (nat_cmp a.ordinal b.ordinal) is in
    ap (λ (n : ℕ). local_at n a.ordinal) (exact_unsigned a.plan b.plan e.0) ∙ ap (local_at b.plan) (exact_unsigned a.ordinal b.ordinal e.1)

pub name_itself : (a : ChunkName) → is_at (name_cmp a) a ≡ true
name_itself a = (eq_by_cmp_equiv name_cmp_total).refl a

-- two names are one, or told apart
pub cases_local : (a b : LocalName) → (a ≡ b) ⊎ (a ≡ b → ⊥)
cases_local a b = split (is_at (name_cmp (chunk_of a)) (chunk_of b)) refl
  where
    split : (t : Bool) → is_at (name_cmp (chunk_of a)) (chunk_of b) ≡ t → (a ≡ b) ⊎ (a ≡ b → ⊥)
    split true is = inl (one_local a b is)
    split false is = inr (λ same. let e : is_at (name_cmp (chunk_of a)) (chunk_of a) ≡ false = subst (λ (q : LocalName). is_at (name_cmp (chunk_of a)) (chunk_of q) ≡ false) (sym same) is in absurd (let h = name_itself (chunk_of a) in cc))

pub apart_local : (a b : LocalName) → (a ≡ b → ⊥) → is_at (name_cmp (chunk_of a)) (chunk_of b) ≡ false
apart_local a b other = split (is_at (name_cmp (chunk_of a)) (chunk_of b)) refl
  where
    split : (t : Bool) → is_at (name_cmp (chunk_of a)) (chunk_of b) ≡ t → is_at (name_cmp (chunk_of a)) (chunk_of b) ≡ false
    split true is = absurd (other (one_local a b is))
    split false is = is

-- ---- lists of local names

same_itself : (a : LocalName) → same_name a a ≡ true
same_itself a = let p : (a.plan == a.plan) ≡ true = grind (arith, nat_tests) in let o : (a.ordinal == a.ordinal) ≡ true = grind (arith, nat_tests) in ap (λ (t : Bool). t && (a.ordinal == a.ordinal)) p ∙ o

both_true : (a b : Bool) → a && b ≡ true → (a ≡ true) × (b ≡ true)
both_true true true h = (refl, refl)
both_true true false h = absurd cc
both_true false b h = absurd cc

same_one : (a b : LocalName) → same_name a b ≡ true → a ≡ b
same_one a b is =
    let e = both_true (a.plan == b.plan) (a.ordinal == b.ordinal) is in
    let x = e.0 in
    let y = e.1 in
    let p : a.plan ≡ b.plan = grind (arith, nat_tests) in
    let o : a.ordinal ≡ b.ordinal = grind (arith, nat_tests) in
    ap (λ (n : ℕ). local_at n a.ordinal) p ∙ ap (local_at b.plan) o

either_true : (a b : Bool) → a || b ≡ true → (a ≡ true) ⊎ (b ≡ true)
either_true true b h = inl refl
either_true false b h = inr h

true_either : (a b : Bool) → (a ≡ true) ⊎ (b ≡ true) → a || b ≡ true
true_either true b h = refl
true_either false b h = ⊎_elim (λ no. absurd cc) (λ is. is) h

pub has_cases : (n q : LocalName) (ns : List LocalName) → Has (n ∷ ns) q → (q ≡ n) ⊎ Has ns q
has_cases n q ns h = ⊎_elim (λ is. inl (same_one q n is)) inr (either_true (same_name q n) (is_among ns q) h)

pub has_head : (n q : LocalName) (ns : List LocalName) → q ≡ n → Has (n ∷ ns) q
has_head n q ns same = true_either (same_name q n) (is_among ns q) (inl (subst (λ (x : LocalName). same_name q x ≡ true) same (same_itself q)))

pub has_tail : (n q : LocalName) (ns : List LocalName) → Has ns q → Has (n ∷ ns) q
has_tail n q ns h = true_either (same_name q n) (is_among ns q) (inr h)

pub has_or_not : (ns : List LocalName) (q : LocalName) → Has ns q ⊎ (Has ns q → ⊥)
has_or_not ns q = split (is_among ns q)
  where
    split : (t : Bool) → (t ≡ true) ⊎ (t ≡ true → ⊥)
    split true = inl refl
    split false = inr (λ is. absurd cc)

-- ---- chunks

module _ (chunks : List (ChunkName × List ℕ)) (name : LocalName) where
  pub local_put : (bytes : List ℕ) → local_in (insert_entry name_cmp chunks (chunk_of name) bytes) name ≡ Some bytes
  local_put bytes = lookup-changed name_cmp name_cmp_total chunks (chunk_of name) (Some bytes) (chunk_of name) ∙ ap (λ (t : Bool). cond t (Some bytes) (local_in chunks name)) (name_itself (chunk_of name))

  pub local_put_other : (bytes : List ℕ) (q : LocalName) → (name ≡ q → ⊥) → local_in (insert_entry name_cmp chunks (chunk_of name) bytes) q ≡ local_in chunks q
  local_put_other bytes q other = lookup-changed name_cmp name_cmp_total chunks (chunk_of name) (Some bytes) (chunk_of q) ∙ ap (λ (t : Bool). cond t (Some bytes) (local_in chunks q)) (apart_local name q other)

  pub local_dropped : local_in (without name_cmp chunks (chunk_of name)) name ≡ None
  local_dropped = lookup-changed name_cmp name_cmp_total chunks (chunk_of name) None (chunk_of name) ∙ ap (λ (t : Bool). cond t None (local_in chunks name)) (name_itself (chunk_of name))

  pub local_dropped_other : (q : LocalName) → (name ≡ q → ⊥) → local_in (without name_cmp chunks (chunk_of name)) q ≡ local_in chunks q
  local_dropped_other q other = lookup-changed name_cmp name_cmp_total chunks (chunk_of name) None (chunk_of q) ∙ ap (λ (t : Bool). cond t None (local_in chunks q)) (apart_local name q other)

-- ---- slots and records

pub key_itself : (a : RowKey) → is_at (key_cmp a) a ≡ true
key_itself a = (eq_by_cmp_equiv key_cmp_total).refl a

pub cases_key : (a b : RowKey) → (a ≡ b) ⊎ (is_at (key_cmp a) b ≡ false)
cases_key a b = split (is_at (key_cmp a) b) refl
  where
    split : (t : Bool) → is_at (key_cmp a) b ≡ t → (a ≡ b) ⊎ (is_at (key_cmp a) b ≡ false)
    split true is = inl (one_key a b (equal_is (key_cmp a b) is))
    split false is = inr is

pub not_itself_key : (a b : RowKey) → is_at (key_cmp a) b ≡ false → a ≡ b → ⊥
not_itself_key a b is same = let e : is_at (key_cmp a) a ≡ false = subst (λ (q : RowKey). is_at (key_cmp a) q ≡ false) (sym same) is in absurd (let h = key_itself a in cc)

module _ (held : SlotData) (stored : RowSlots) where
  pub slots_put : (table : ℕ) (row : List ℕ) → key_of stored ≡ key_at table row → slots_of (with_slots held stored) table row ≡ Some stored
  slots_put table row same =
      lookup-changed key_cmp key_cmp_total held.rows (key_of stored) (Some stored) (key_at table row)
      ∙ ap (λ (t : Bool). cond t (Some stored) (slots_of held table row)) (subst (λ (q : RowKey). is_at (key_cmp (key_of stored)) q ≡ true) same (key_itself (key_of stored)))

  pub slots_put_other : (table : ℕ) (row : List ℕ) → is_at (key_cmp (key_of stored)) (key_at table row) ≡ false → slots_of (with_slots held stored) table row ≡ slots_of held table row
  slots_put_other table row other =
      lookup-changed key_cmp key_cmp_total held.rows (key_of stored) (Some stored) (key_at table row)
      ∙ ap (λ (t : Bool). cond t (Some stored) (slots_of held table row)) other

pub record_put : (held : SlotData) (table : TableRecord) → record_of (with_record held table) table.table ≡ Some table
record_put held table =
    lookup-changed nat_cmp nat_cmp_total held.tables table.table (Some table) table.table
    ∙ ap (λ (t : Bool). cond t (Some table) (record_of held table.table)) ((eq_by_cmp_equiv nat_cmp_total).refl table.table)

-- ---- put twice

insert_twice : {K V : Type 0} (cmp : K → K → Ordering) (k : K) (v : V) → cmp k k ≡ Equal → (es : List (K × V)) → insert_entry cmp (insert_entry cmp es k v) k v ≡ insert_entry cmp es k v
insert_twice {K} {V} cmp k v same [] = ap (λ (o : Ordering). match_ordering {X = List (K × V)} o ((k, v) ∷ (k, v) ∷ []) ((k, v) ∷ []) ((k, v) ∷ (k, v) ∷ [])) same
insert_twice {K} {V} cmp k v same (e ∷ es) = pick (insert_twice cmp k v same es) (cmp k e.0) refl
  where
    pick : insert_entry cmp (insert_entry cmp es k v) k v ≡ insert_entry cmp es k v → (o : Ordering) → cmp k e.0 ≡ o
        → insert_entry cmp (match_ordering o ((k, v) ∷ e ∷ es) ((e.0, v) ∷ es) (e ∷ insert_entry cmp es k v)) k v ≡ match_ordering o ((k, v) ∷ e ∷ es) ((e.0, v) ∷ es) (e ∷ insert_entry cmp es k v)
    pick more Less is = ap (λ (o : Ordering). match_ordering {X = List (K × V)} o ((k, v) ∷ (k, v) ∷ e ∷ es) ((k, v) ∷ e ∷ es) ((k, v) ∷ insert_entry cmp (e ∷ es) k v)) same
    pick more Equal is = ap (λ (o : Ordering). match_ordering {X = List (K × V)} o ((k, v) ∷ (e.0, v) ∷ es) ((e.0, v) ∷ es) ((e.0, v) ∷ insert_entry cmp es k v)) is
    pick more Greater is =
        ap (λ (o : Ordering). match_ordering {X = List (K × V)} o ((k, v) ∷ e ∷ insert_entry cmp es k v) ((e.0, v) ∷ insert_entry cmp es k v) (e ∷ insert_entry cmp (insert_entry cmp es k v) k v)) is
        ∙ ap (λ (l : List (K × V)). e ∷ l) more

key_equal : (a : RowKey) → key_cmp a a ≡ Equal
key_equal a = equal_is (key_cmp a a) (key_itself a)

nat_equal : (a : ℕ) → nat_cmp a a ≡ Equal
nat_equal a = equal_is (nat_cmp a a) ((eq_by_cmp_equiv nat_cmp_total).refl a)

pub slots_twice : (held : SlotData) (stored : RowSlots) → with_slots (with_slots held stored) stored ≡ with_slots held stored
slots_twice held stored =
    let rows : insert_entry key_cmp (insert_entry key_cmp held.rows (key_of stored) stored) (key_of stored) stored ≡ insert_entry key_cmp held.rows (key_of stored) stored = insert_twice key_cmp (key_of stored) stored (key_equal (key_of stored)) held.rows in
    let last : max (max held.last stored.last) stored.last ≡ max held.last stored.last = omega arith in
    cc

pub record_twice : (held : SlotData) (table : TableRecord) → with_record (with_record held table) table ≡ with_record held table
record_twice held table =
    let tables : insert_entry nat_cmp (insert_entry nat_cmp held.tables table.table table) table.table table ≡ insert_entry nat_cmp held.tables table.table table = insert_twice nat_cmp table.table table (nat_equal table.table) held.tables in
    cc
