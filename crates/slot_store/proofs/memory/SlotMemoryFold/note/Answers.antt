use Rattle.std.proofs.Common.{◌≡◌, ◌≤◌, ℕ, List, length, Result, Ok, Err, refl, sym, ◌∙◌, ap, subst, arith}
use Rattle.std.specs.Prelude.{OnOk, max}
use Rattle.std.specs.BTreeMap.{insert_entry}
use Rattle.std.specs.Ordering.{nat_cmp}
use Rattle.std.proofs.lemmas.Result.{on_ok_weaker}
use Rattle.stab_base.specs.Codec.{IsBytes}
use Rattle.spare_map.specs.Late.{entries_of}
use Rattle.slot_store.specs.declared.change.RowChange.{RowChange}
use Rattle.slot_store.specs.declared.change.TableChange.{TableChange}
use Rattle.slot_store.specs.Reading.{said_by}
use Rattle.slot_store.specs.Data.{key_cmp, key_at}
use Rattle.slot_store.specs.Memory.{IsPut, schema_part}
use Rattle.slot_store.proofs.Again.{only_table, record_len}
use Rattle.slot_store.proofs.Shapes.{row_shape, table_shape, nothing_shape}
use Rattle.slot_store.proofs.Notes.{noted_row, noted_table, noted_nothing}
use Rattle.slot_store.proofs.memory.SlotMemoryFold.note.Goals as goal

on_ok_two : {T E : Type 0} (r : Result T E) (P Q R : Type 0) → (P → Q → R) → OnOk r P → OnOk r Q → OnOk r R
on_ok_two (Ok x) P Q R to p q = to p q
on_ok_two (Err e) P Q R to p q = tt

pub returns-in-Row-clause-noted : goal.returns-in-Row-clause-noted
returns-in-Row-clause-noted c =
    let p = c.args.payload.now in
    let old = c.args.self.now in
    let t = row_shape (said_by p) c.in-Row.row (sym c.requires ∙ c.in-Row.is) in
    on_ok_two c.put_row.result _ _ _ (λ places last list at fit.
    noted_row list p old c.put_row.new.self fit t.0 t.1 c.args.index (sym at)
    (places ∙ ap (λ (r : RowChange). insert_entry key_cmp (entries_of key_cmp old.places) (key_at r.table r.row) c.args.index) (sym t.2))
    (last ∙ ap (λ (r : RowChange). max old.last r.last) (sym t.2)) (ap (λ s. entries_of nat_cmp s) c.put_row.ensures.records) (ap (λ v. v.items) c.put_row.ensures.schemas))
    c.put_row.ensures.places c.put_row.ensures.last

pub put_table-requires : goal.put_table-requires
put_table-requires c =
    let p = c.args.payload.now in
    let fits : IsBytes p = λ i. omega (arith, c.type_inv.payload i) in
    let t = table_shape (said_by p) c.in-Table.table (sym c.requires ∙ c.in-Table.is) in
    omega (arith, ap length (only_table p t.0 fits t.1).1, record_len t.0)

pub returns-in-Table-clause-noted : goal.returns-in-Table-clause-noted
returns-in-Table-clause-noted c =
    let p = c.args.payload.now in
    let old = c.args.self.now in
    let fits : IsBytes p = λ i. omega (arith, c.type_inv.payload i) in
    let t = table_shape (said_by p) c.in-Table.table (sym c.requires ∙ c.in-Table.is) in
    on_ok_weaker c.put_table.result (λ put list at fit.
    noted_table list p old c.put_table.new.self fit t.0 t.1 fits put.0 put.1 (subst (λ (r : TableChange). IsPut old c.put_table.new.self r (schema_part p) put.0 put.1) (sym t.2) put.2)
    c.put_table.ensures.others
    (ap (λ s. entries_of key_cmp s) c.put_table.ensures.places) c.put_table.ensures.last) c.put_table.ensures.put

pub returns-in-Nothing-clause-noted : goal.returns-in-Nothing-clause-noted
returns-in-Nothing-clause-noted c list at fit =
    noted_nothing list c.args.payload.now c.args.self.now c.args.self.now fit (nothing_shape (said_by c.args.payload.now) (sym c.requires ∙ c.in-Nothing.is)) refl
