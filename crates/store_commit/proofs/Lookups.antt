-- Look-ups in what the devices hold, behind a change.
use Rattle.std.proofs.Common.{◌≡◌, inl, inr, ⊎_elim, ◌⊎◌, ℕ, Bool, true, false, cond, List, [], ◌∷◌, Some, None, refl, sym, ◌∙◌, ap, subst}
use Rattle.std.specs.declared.cmp.Ordering.{Ordering}
use Rattle.std.specs.declared.cmp.Ordering.TheVariants.{Less, Equal, Greater}
use Rattle.std.specs.Ordering.{is_eq, nat_cmp, ordering_then}
use Rattle.std.specs.Cmp.{IsTotalOrder, nat_cmp_total, eq_by_cmp_equiv}
use Rattle.std.proofs.lemmas.Cmp.{then_total, on_total}
use Rattle.std.specs.BTreeMap.{insert_entry, is_at}
use Rattle.std.proofs.lemmas.Map.Lookups.{exact_unsigned, exact_bytes}
use Rattle.stab_base.specs.declared.chunk_name.ChunkName.{ChunkName}
use Rattle.spare_map.specs.Late.{without}
use Rattle.spare_map.proofs.Changes.{lookup-changed}
use Rattle.chunk_store.specs.Payload.{name_cmp}
use Rattle.chunk_store.specs.Standing.{chunk_in}
use Rattle.row_store.specs.declared.stored.StoredRow.{StoredRow}
use Rattle.row_store.specs.Data.{TableData, id_cmp, with_row, row_of}
use Rattle.row_store.proofs.Versions.{id_cmp_total}
use Rattle.store_commit.specs.NamedChunks.{Among}

-- ---- names and ids

name_cmp_total : IsTotalOrder name_cmp
name_cmp_total = then_total (on_total (λ (name : ChunkName). name.version) nat_cmp_total) (on_total (λ (name : ChunkName). name.ordinal) nat_cmp_total)

both_equal : (o p : Ordering) → is_eq (ordering_then o p) ≡ true → (o ≡ Equal) × (p ≡ Equal)
both_equal Less p h = absurd cc
both_equal Equal Less h = absurd cc
both_equal Equal Equal h = (refl, refl)
both_equal Equal Greater h = absurd cc
both_equal Greater p h = absurd cc

equal_is : (o : Ordering) → is_eq o ≡ true → o ≡ Equal
equal_is Less h = absurd cc
equal_is Equal h = refl
equal_is Greater h = absurd cc

abbrev name_at : ℕ → ℕ → ChunkName
name_at version ordinal = record { version = version; ordinal = ordinal }

pub one_name : (a b : ChunkName) → is_at (name_cmp a) b ≡ true → a ≡ b
one_name a b at =
    let e = both_equal (nat_cmp a.version b.version) (nat_cmp a.ordinal b.ordinal) at in
    ap (λ (n : ℕ). name_at n a.ordinal) (exact_unsigned a.version b.version e.0) ∙ ap (name_at b.version) (exact_unsigned a.ordinal b.ordinal e.1)

pub name_itself : (a : ChunkName) → is_at (name_cmp a) a ≡ true
name_itself a = (eq_by_cmp_equiv name_cmp_total).refl a

pub id_itself : (a : List ℕ) → is_at (id_cmp a) a ≡ true
id_itself a = (eq_by_cmp_equiv id_cmp_total).refl a

-- two names are one, or told apart
pub cases_name : (a b : ChunkName) → (a ≡ b) ⊎ (is_at (name_cmp a) b ≡ false)
cases_name a b = split (is_at (name_cmp a) b) refl
  where
    split : (t : Bool) → is_at (name_cmp a) b ≡ t → (a ≡ b) ⊎ (is_at (name_cmp a) b ≡ false)
    split true at = inl (one_name a b at)
    split false at = inr at

pub cases_id : (a b : List ℕ) → (a ≡ b) ⊎ (is_at (id_cmp a) b ≡ false)
cases_id a b = split (is_at (id_cmp a) b) refl
  where
    split : (t : Bool) → is_at (id_cmp a) b ≡ t → (a ≡ b) ⊎ (is_at (id_cmp a) b ≡ false)
    split true at = inl (exact_bytes a b (equal_is (id_cmp a b) at))
    split false at = inr at

pub apart_name : (a b : ChunkName) → (a ≡ b → ⊥) → is_at (name_cmp a) b ≡ false
apart_name a b other = ⊎_elim (λ same. absurd (other same)) (λ at. at) (cases_name a b)

pub apart_id : (a b : List ℕ) → (a ≡ b → ⊥) → is_at (id_cmp a) b ≡ false
apart_id a b other = ⊎_elim (λ same. absurd (other same)) (λ at. at) (cases_id a b)

pub not_itself_name : (a b : ChunkName) → is_at (name_cmp a) b ≡ false → a ≡ b → ⊥
not_itself_name a b at same = let e : is_at (name_cmp a) a ≡ false = subst (λ (q : ChunkName). is_at (name_cmp a) q ≡ false) (sym same) at in absurd (let h = name_itself a in cc)

pub not_itself_id : (a b : List ℕ) → is_at (id_cmp a) b ≡ false → a ≡ b → ⊥
not_itself_id a b at same = let e : is_at (id_cmp a) a ≡ false = subst (λ (q : List ℕ). is_at (id_cmp a) q ≡ false) (sym same) at in absurd (let h = id_itself a in cc)

-- it is among them, or isn't
pub cases_among : (name : ChunkName) (names : List ChunkName) → Among name names ⊎ (Among name names → ⊥)
cases_among name [] = inr (λ none. none)
cases_among name (n ∷ names) = pick (cases_name name n) (cases_among name names)
  where
    pick : (name ≡ n) ⊎ (is_at (name_cmp name) n ≡ false) → Among name names ⊎ (Among name names → ⊥) → Among name (n ∷ names) ⊎ (Among name (n ∷ names) → ⊥)
    pick (inl same) more = inl (inl same)
    pick (inr other) (inl among) = inl (inr among)
    pick (inr other) (inr none) = inr (λ either. ⊎_elim (not_itself_name name n other) none either)

-- ---- chunks

module _ (chunks : List (ChunkName × List ℕ)) (name : ChunkName) where
  pub chunk_put : (bytes : List ℕ) → chunk_in (insert_entry name_cmp chunks name bytes) name ≡ Some bytes
  chunk_put bytes = lookup-changed name_cmp name_cmp_total chunks name (Some bytes) name ∙ ap (λ (t : Bool). cond t (Some bytes) (chunk_in chunks name)) (name_itself name)

  pub chunk_put_other : (bytes : List ℕ) (q : ChunkName) → (name ≡ q → ⊥) → chunk_in (insert_entry name_cmp chunks name bytes) q ≡ chunk_in chunks q
  chunk_put_other bytes q other = lookup-changed name_cmp name_cmp_total chunks name (Some bytes) q ∙ ap (λ (t : Bool). cond t (Some bytes) (chunk_in chunks q)) (apart_name name q other)

  pub chunk_dropped : chunk_in (without name_cmp chunks name) name ≡ None
  chunk_dropped = lookup-changed name_cmp name_cmp_total chunks name None name ∙ ap (λ (t : Bool). cond t None (chunk_in chunks name)) (name_itself name)

  pub chunk_dropped_other : (q : ChunkName) → (name ≡ q → ⊥) → chunk_in (without name_cmp chunks name) q ≡ chunk_in chunks q
  chunk_dropped_other q other = lookup-changed name_cmp name_cmp_total chunks name None q ∙ ap (λ (t : Bool). cond t None (chunk_in chunks q)) (apart_name name q other)

-- ---- rows

module _ (held : TableData) (stored : StoredRow) where
  pub row_put : (row : List ℕ) → stored.row ≡ row → row_of (with_row held stored) row ≡ Some stored
  row_put row same =
      lookup-changed id_cmp id_cmp_total held.rows stored.row (Some stored) row
      ∙ ap (λ (t : Bool). cond t (Some stored) (row_of held row)) (subst (λ (q : List ℕ). is_at (id_cmp stored.row) q ≡ true) same (id_itself stored.row))

  pub row_put_other : (row : List ℕ) → is_at (id_cmp stored.row) row ≡ false → row_of (with_row held stored) row ≡ row_of held row
  row_put_other row other =
      lookup-changed id_cmp id_cmp_total held.rows stored.row (Some stored) row
      ∙ ap (λ (t : Bool). cond t (Some stored) (row_of held row)) other
