-- A table that isn't closed isn't behind a plan of a row.
use Rattle.std.proofs.Common.{◌≡◌, ℕ, Bool, true, false, cond, Option, Some, None, refl, sym, ap, ◌∙◌}
use Rattle.std.specs.Prelude.{◌==◌}
use Rattle.std.proofs.lemmas.Bool.{eqb-true}
use Rattle.row_value.specs.declared.schema.Schema.{Schema}
use Rattle.step_tables.specs.ClientMoves.{TableDisk, TableChange, Opens, Closes, RowPut, Plan, ClientDisk, table_at, with_table, put_row, put_position, row_put, table_put}
use Rattle.step_tables.specs.ClientMoves.{opened_table, open_table, close_table, applied_by, planned_in, seen}
use Rattle.step_tables.proofs.Lists.{lookup-insert_nat}
use Rattle.world_tables.specs.World.{is_closed_in}

module _ (t : ℕ) where
  abbrev shut : ClientDisk → Bool
  shut d = is_closed_in (table_at d t)

  with_kept : (d : ClientDisk) (n : ℕ) (f : TableDisk → TableDisk) → ((x : TableDisk) → (f x).closed ≡ x.closed) → shut (with_table d n (table_at d n) f) ≡ shut d
  with_kept d n f kept = by (table_at d n) refl
    where
      by : (o : Option TableDisk) → table_at d n ≡ o → shut (with_table d n o f) ≡ shut d
      by None at = refl
      by (Some x) at = ap is_closed_in (lookup-insert_nat d.tables n (f x) t) ∙ same (n == t) refl
        where
          same : (b : Bool) → (n == t) ≡ b → is_closed_in (cond b (Some (f x)) (table_at d t)) ≡ shut d
          same true is = kept x ∙ sym (ap is_closed_in (ap (λ (k : ℕ). table_at d k) (sym (eqb-true n t is)) ∙ at))
          same false is = refl

  pub put_kept : (d : ClientDisk) (last table : ℕ) (put : RowPut) → shut (row_put d last table (Some put)) ≡ shut d
  put_kept d last table put = with_kept (record d { last = last }) table (put_row put) (λ x. refl)

  rows_kept : (d : ClientDisk) (last table : ℕ) (row : Option RowPut) → shut (row_put d last table row) ≡ shut d
  rows_kept d last table None = refl
  rows_kept d last table (Some put) = put_kept d last table put

  position_kept : (d : ClientDisk) (table : ℕ) (position : Option ℕ) → shut (table_put d table position) ≡ shut d
  position_kept d table None = refl
  position_kept d table (Some n) = with_kept d table (put_position n) (λ x. refl)

  module _ (d : ClientDisk) (p : Plan) where
    opens : (schema : Schema) (o : Option TableDisk) → table_at d p.table ≡ o → shut (open_table d p.table schema o) ≡ false → shut d ≡ false
    opens schema (Some x) at is = is
    opens schema None at is = pick (p.table == t) refl (sym (ap is_closed_in (lookup-insert_nat d.tables p.table (opened_table schema) t)) ∙ is)
      where
        pick : (b : Bool) → (p.table == t) ≡ b → is_closed_in (cond b (Some (opened_table schema)) (table_at d t)) ≡ false → shut d ≡ false
        pick true same free = ap is_closed_in (ap (λ (k : ℕ). table_at d k) (sym (eqb-true p.table t same)) ∙ at)
        pick false same free = free

    closes : (o : Option TableDisk) → shut (with_table d p.table o close_table) ≡ false → shut d ≡ false
    closes None is = is
    closes (Some x) is = pick (p.table == t) (sym (ap is_closed_in (lookup-insert_nat d.tables p.table (close_table x) t)) ∙ is)
      where
        pick : (b : Bool) → is_closed_in (cond b (Some (close_table x)) (table_at d t)) ≡ false → shut d ≡ false
        pick true free = absurd cc
        pick false free = free

    alters : (change : Option TableChange) → shut (applied_by p d change) ≡ false → shut d ≡ false
    alters None is = sym (position_kept (row_put d p.last p.table p.row) p.table p.position ∙ rows_kept d p.last p.table p.row) ∙ is
    alters (Some (Opens schema)) is = opens schema (table_at d p.table) refl is
    alters (Some Closes) is = closes (table_at d p.table) is

  -- a plan at work opens no table again
  pub open_before : (d : ClientDisk) → shut (seen d) ≡ false → shut d ≡ false
  open_before d is = by d.plan is
    where
      by : (o : Option Plan) → shut (planned_in d o) ≡ false → shut d ≡ false
      by None free = free
      by (Some p) free = alters d p p.alters free
