use Rattle.std.proofs.Common.{◌≡◌, ◌∷◌, [], sym, subst}
use Rattle.row_value.specs.declared.schema.Schema.{Schema}
use Rattle.value_codec.specs.SchemaSpelling.{HasSchemaSpelling}
use Rattle.vault.specs.Limit.{payload_most}
use Rattle.row_store.specs.Spelling.{table_payload}
use Rattle.std.specs.Prelude.{◌≤◌, length}
use Rattle.store_commit.specs.Devs.{PutTable}
use Rattle.store_commit.specs.Standing.{writes_of, IsReady}
use Rattle.new_rows.specs.NewRow.{object_schema}
use Rattle.new_rows.proofs.NewRows.{schema_spelled, schema_short, table_put}
use Rattle.new_rows.proofs.table.put_table.Goals as goal

pub begin_table-requires-clause-ready : goal.begin_table-requires-clause-ready
begin_table-requires-clause-ready g c up = subst (IsReady g.D.Disk.state c.args.table.now) (sym c.requires.idle) c.requires.ready

pub begin_table-requires-clause-spelled : goal.begin_table-requires-clause-spelled
begin_table-requires-clause-spelled g c = subst HasSchemaSpelling (sym c.in_ok-schema.ensures) schema_spelled

pub begin_table-requires-clause-short : goal.begin_table-requires-clause-short
begin_table-requires-clause-short g c = subst (λ (schema : Schema). length (table_payload schema 2) ≤ payload_most) (sym c.in_ok-schema.ensures) (schema_short 2)

pub work-requires : goal.work-requires
work-requires g c = record { ready = λ up. c.in_ok-begin_table.ensures.takes.ready }

pub returns : goal.returns
returns g c =
    let t = c.in_ok-begin_table.ensures.takes in
    let taken : writes_of c.begin_table.new.self ≡ PutTable object_schema 2 ∷ [] = subst (λ (schema : Schema). writes_of c.begin_table.new.self ≡ PutTable schema 2 ∷ []) c.in_ok-schema.ensures t.taken in
    table_put g.D.Disk.state g.D.Disk.images c.args.table.now c.begin_table.new.self c.work.new.self _ 2 c.requires.empty (t.same (λ is. cc)) taken (c.in_ok-work.ensures.works t.up)
