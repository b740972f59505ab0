-- The keys of rows, and what each row that is held keeps.
use Rattle.std.proofs.Common.{◌≡◌, ℕ, ◌≤◌, Bool, true, false, cond, List, [], ◌∷◌, length, Option, Some, None, refl, sym, ◌∙◌, ap, subst, arith}
use Rattle.std.specs.Prelude.{max, fold}
use Rattle.std.specs.declared.cmp.Ordering.{Ordering}
use Rattle.std.specs.declared.cmp.Ordering.TheVariants.{Less, Equal, Greater}
use Rattle.std.specs.Ordering.{is_eq, match_ordering, nat_cmp, ordering_then}
use Rattle.std.specs.Cmp.{IsTotalOrder, nat_cmp_total}
use Rattle.std.specs.BTreeMap.{insert_entry, is_at}
use Rattle.std.specs.Map.{lookup}
use Rattle.std.proofs.lemmas.Cmp.{then_total, on_total, nat_list_cmp_total}
use Rattle.std.proofs.lemmas.Map.Lookups.{exact_unsigned, exact_bytes}
use Rattle.stab_base.specs.declared.limits.TheConstants.{NUMBER_MAX}
use Rattle.slot_store.specs.declared.held.RowKey.{RowKey}
use Rattle.slot_store.specs.declared.held.RowSlots.{RowSlots}
use Rattle.slot_store.specs.Reading.{Said, SaysRow, SaysTable, SaysNothing, said_by}
use Rattle.slot_store.specs.Data.{SlotData, id_cmp, key_cmp, key_at, key_of, step, nothing_held, data_of}
use Rattle.slot_store.proofs.Again.{IsLimited, row_limited, row_said}

pub id_cmp_total : IsTotalOrder id_cmp
id_cmp_total = nat_list_cmp_total

pub key_cmp_total : IsTotalOrder key_cmp
key_cmp_total = then_total (on_total (λ (key : RowKey). key.table) nat_cmp_total) (on_total (λ (key : RowKey). key.row) id_cmp_total)

both_equal : (o p : Ordering) → ordering_then o p ≡ Equal → (o ≡ Equal) × (p ≡ Equal)
both_equal Less p h = absurd cc
both_equal Equal p h = (refl, h)
both_equal Greater p h = absurd cc

pub equal_is : (o : Ordering) → is_eq o ≡ true → o ≡ Equal
equal_is Less h = absurd cc
equal_is Equal h = refl
equal_is Greater h = absurd cc

-- keys that compare equal are one
pub one_key : (a b : RowKey) → key_cmp a b ≡ Equal → a ≡ b
one_key a b at =
    let e = both_equal (nat_cmp a.table b.table) (id_cmp a.row b.row) at in
    ap (λ (n : ℕ). key_at n a.row) (exact_unsigned a.table b.table e.0) ∙ ap (key_at b.table) (exact_bytes a.row b.row e.1)

-- ---- what each row that is held keeps

pub record Stands (place : RowKey) (row : RowSlots) : Type 0 where
  pub key : place ≡ key_of row
  pub limits : IsLimited row

abbrev pub AllStand : List (RowKey × RowSlots) → Type 0
AllStand [] = Unit {0}
AllStand (e ∷ es) = Stands e.0 e.1 × AllStand es

stand_insert : (es : List (RowKey × RowSlots)) (row : RowSlots) → AllStand es → IsLimited row → AllStand (insert_entry key_cmp es (key_of row) row)
stand_insert [] row h l = (record { key = refl; limits = l }, tt)
stand_insert (e ∷ es) row h l =
    (elim (key_cmp (key_of row) e.0) as (λ (r : Ordering). key_cmp (key_of row) e.0 ≡ r → AllStand (match_ordering r ((key_of row, row) ∷ e ∷ es) ((e.0, row) ∷ es) (e ∷ insert_entry key_cmp es
    (key_of row) row))) [
      | Less ↦ λ at. (record { key = refl; limits = l }, h)
      | Equal ↦ λ at. (record { key = sym (one_key (key_of row) e.0 at); limits = l }, h.1)
      | Greater ↦ λ at. (h.0, stand_insert es row h.1 l)
    ]) refl

pub record Kept (held : SlotData) : Type 0 where
  pub rows : AllStand held.rows
  pub last : held.last ≤ NUMBER_MAX

kept_step : (held : SlotData) (payload : List ℕ) (said : Said) → said_by payload ≡ said → Kept held → Kept (step held said)
kept_step held payload (SaysRow row) is h =
    let l = row_limited payload row (row_said payload row is) in
    let most = l.last in
    let before = h.last in
    record { rows = stand_insert held.rows row h.rows l; last = omega arith }
kept_step held payload (SaysTable table) is h = record { rows = h.rows; last = h.last }
kept_step held payload SaysNothing is h = h

kept_from : (held : SlotData) (ps : List (List ℕ)) → Kept held → Kept (fold (λ (held : SlotData) (payload : List ℕ). step held (said_by payload)) held ps)
kept_from held [] h = h
kept_from held (p ∷ ps) h = kept_from (step held (said_by p)) ps (kept_step held p (said_by p) refl h)

pub all_kept : (ps : List (List ℕ)) → Kept (data_of ps)
unfolding data_of
all_kept ps = kept_from nothing_held ps (record { rows = tt; last = omega arith })

-- a row that is found has the key that was looked for
pub stands_at : (es : List (RowKey × RowSlots)) (q : RowKey) (row : RowSlots) → AllStand es → lookup (is_at (key_cmp q)) es ≡ Some row → Stands q row
stands_at [] q row h is = absurd cc
stands_at (e ∷ es) q row h is = here (is_at (key_cmp q) e.0) (lookup (is_at (key_cmp q)) es) refl (stands_at es q row h.1) is
  where
    here : (b : Bool) (rest : Option RowSlots) → is_at (key_cmp q) e.0 ≡ b → (rest ≡ Some row → Stands q row) → cond b (Some e.1) rest ≡ Some row → Stands q row
    here true rest at later is =
        let same : e.1 ≡ row = cc in
        let key : q ≡ e.0 = one_key q e.0 (equal_is (key_cmp q e.0) at) in
        subst (Stands q) same (record { key = key ∙ h.0.key; limits = h.0.limits })
    here false rest at later is = later is
