use Rattle.std.proofs.Common.{◌≡◌, ◌+◌, ◌∷◌, [], List, ℕ, length, ap, subst, arith, length-append}
use Rattle.disk_trait.specs.Fuse.{behind}
use Rattle.value_codec.specs.SchemaSpelling.{schema_spelling}
use Rattle.row_store.specs.Spelling.{table_payload}
use Rattle.row_store.specs.Standing.{HasRoom}
use Rattle.device_tests.proofs.rows.stop_table.Goals as goal

pub put_table-requires-clause-short : goal.put_table-requires-clause-short
put_table-requires-clause-short g c =
    let spelled = schema_spelling c.in_ok-table.table in
    let state : List ℕ = c.args.state ∷ [] in
    omega (arith, ap length c.in_ok-table.ensures.found.1, length-append spelled state)

pub put_table-requires-clause-room : goal.put_table-requires-clause-room
put_table-requires-clause-room g c up =
    let spelled = schema_spelling c.in_ok-table.table in
    let state : List ℕ = c.args.state ∷ [] in
    let n = 2 + length c.args.schema.now in
    let same : n ≡ length (table_payload c.in_ok-table.table c.args.state) = omega (arith, ap length c.in_ok-table.ensures.found.1, length-append spelled state) in
    subst (HasRoom (behind g.D.Disk.state) c.stop_after.new.self 0 1) same (c.stop_after.ensures.stops.stays.room 0 1 n (c.in_ok-open_write.ensures.opens.room 0 1 n c.in_ok-reserve.ensures.reserves.room))
