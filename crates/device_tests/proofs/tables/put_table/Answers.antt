use Rattle.std.proofs.Common.{◌≡◌, ◌∷◌, [], List, ℕ, length, sym, ap, subst, arith, length-append}
use Rattle.value_codec.specs.SchemaSpelling.{schema_spelling}
use Rattle.store_commit.specs.Standing.{IsReady}
use Rattle.device_tests.proofs.Stands.{table_there}
use Rattle.device_tests.proofs.tables.put_table.Goals as goal

pub begin_table-requires-clause-ready : goal.begin_table-requires-clause-ready
begin_table-requires-clause-ready g c up = subst (IsReady g.D.Disk.state c.args.table.now) (sym c.requires.idle) c.requires.ready

pub begin_table-requires-clause-short : goal.begin_table-requires-clause-short
begin_table-requires-clause-short g c =
    let spelled = schema_spelling c.in_ok-schema.schema in
    let state : List ℕ = 2 ∷ [] in
    omega (arith, ap length c.in_ok-schema.ensures.found.1, length-append spelled state)

pub work-requires : goal.work-requires
work-requires g c = record { ready = λ up. c.in_ok-begin_table.ensures.takes.ready }

pub returns : goal.returns
returns g c =
    let t = c.in_ok-begin_table.ensures.takes in
    table_there g.D.Disk.state g.D.Disk.images c.args.table.now c.begin_table.new.self c.work.new.self _ c.in_ok-schema.schema 2 c.requires.empty (t.same (λ is. cc)) t.taken (c.in_ok-work.ensures.works t.up)
