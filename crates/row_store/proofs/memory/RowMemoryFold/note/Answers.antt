use Rattle.std.proofs.Common.{ℕ, List, Result, Ok, Err, refl, sym, ◌∙◌, ap}
use Rattle.std.specs.Prelude.{OnOk}
use Rattle.std.specs.BTreeMap.{insert_entry}
use Rattle.std.specs.Ordering.{nat_cmp}
use Rattle.std.proofs.lemmas.Result.{on_ok_weaker}
use Rattle.spare_map.specs.Late.{entries_of}
use Rattle.row_store.specs.declared.memory.Place.{Place}
use Rattle.row_store.specs.Reading.{said_by}
use Rattle.row_store.specs.Data.{id_cmp, version_cmp}
use Rattle.row_store.proofs.Shapes.{row_shape, table_shape, sub_shape, nothing_shape}
use Rattle.row_store.proofs.Notes.{noted_row, noted_table, noted_sub, noted_nothing}
use Rattle.row_store.proofs.memory.RowMemoryFold.note.Goals as goal

on_ok_two : {T E : Type 0} (r : Result T E) (P Q R : Type 0) → (P → Q → R) → OnOk r P → OnOk r Q → OnOk r R
on_ok_two (Ok x) P Q R to p q = to p q
on_ok_two (Err e) P Q R to p q = tt

pub returns-in-Row-clause-noted : goal.returns-in-Row-clause-noted
returns-in-Row-clause-noted c =
    let p = c.args.payload.now in
    let old = c.args.self.now in
    let row = c.in-Row.row in
    let place : Place = record { version = row.version; index = c.args.index } in
    let t = row_shape (said_by p) row (sym c.requires ∙ c.in-Row.is) in
    on_ok_two c.put_row.result _ _ _ (λ places versions list at fit.
    noted_row list p old c.put_row.new.self fit t.0 t.1 place t.2 (sym at) (places ∙ ap (λ (id : List ℕ). insert_entry id_cmp (entries_of id_cmp old.places) id place) t.3) versions (ap (λ v. v.items) c.put_row.ensures.table) (ap (λ s. entries_of nat_cmp s) c.put_row.ensures.subs)) c.put_row.ensures.places c.put_row.ensures.versions

pub returns-in-Table-clause-noted : goal.returns-in-Table-clause-noted
returns-in-Table-clause-noted c =
    let p = c.args.payload.now in
    let t = table_shape (said_by p) (sym c.requires ∙ c.in-Table.is) in
    on_ok_weaker c.put_table.result (λ table list at fit.
    noted_table list p c.args.self.now c.put_table.new.self fit t.0 t.1 t.2 (ap (λ s. entries_of id_cmp s) c.put_table.ensures.places) (ap (λ s. entries_of version_cmp s) c.put_table.ensures.versions) table (ap (λ s. entries_of nat_cmp s) c.put_table.ensures.subs)) c.put_table.ensures.table

pub returns-in-Sub-clause-noted : goal.returns-in-Sub-clause-noted
returns-in-Sub-clause-noted c =
    let p = c.args.payload.now in
    on_ok_weaker c.put_sub.result (λ subs list at fit.
    noted_sub list p c.args.self.now c.put_sub.new.self fit c.in-Sub.change (sub_shape (said_by p) c.in-Sub.change (sym c.requires ∙ c.in-Sub.is)) (ap (λ s. entries_of id_cmp s) c.put_sub.ensures.places) (ap (λ s. entries_of version_cmp s) c.put_sub.ensures.versions) (ap (λ v. v.items) c.put_sub.ensures.table) subs) c.put_sub.ensures.subs

pub returns-in-Nothing-clause-noted : goal.returns-in-Nothing-clause-noted
returns-in-Nothing-clause-noted c list at fit =
    noted_nothing list c.args.payload.now c.args.self.now c.args.self.now fit (nothing_shape (said_by c.args.payload.now) (sym c.requires ∙ c.in-Nothing.is)) refl
