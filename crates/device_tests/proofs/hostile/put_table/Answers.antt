use Rattle.std.proofs.Common.{◌≡◌, ◌∙◌, ◌+◌, ◌∷◌, [], List, ℕ, length, ap, subst, arith, length-append}
use Rattle.disk_trait.specs.Fuse.{behind, inner_of}
use Rattle.vault.specs.Standing.{IsUp}
use Rattle.value_codec.specs.SchemaSpelling.{schema_spelling}
use Rattle.row_store.specs.Data.{with_table}
use Rattle.row_store.specs.Spelling.{table_payload}
use Rattle.row_store.specs.Standing.{held, vault_of, HasRoom}
use Rattle.device_tests.proofs.Stands.{rows_looked}
use Rattle.device_tests.proofs.hostile.put_table.Goals as goal

pub put_table-requires-clause-short : goal.put_table-requires-clause-short
put_table-requires-clause-short g c =
    let spelled = schema_spelling c.in_ok-table.table in
    let state : List ℕ = 2 ∷ [] in
    omega (arith, ap length c.in_ok-table.ensures.found.1, length-append spelled state)

pub put_table-requires-clause-room : goal.put_table-requires-clause-room
put_table-requires-clause-room g c up =
    let spelled = schema_spelling c.in_ok-table.table in
    let state : List ℕ = 2 ∷ [] in
    let same : 22 ≡ length (table_payload c.in_ok-table.table 2) = omega (arith, ap length c.in_ok-table.ensures.found.1, length-append spelled state) in
    subst (HasRoom (behind g.D.Disk.state) c.open_write.new.self 0 1) same (c.in_ok-open_write.ensures.opens.room 0 1 22 c.in_ok-reserve.ensures.reserves.room)

pub returns : goal.returns
returns g c =
    let state = behind g.D.Disk.state in
    let start = c.open_write.new.self in
    let up : IsUp (vault_of start) = c.in_ok-open_write.ensures.opens.opened.vault.looked.up in
    let sound = c.restart.ensures.restarts.sound start.inner (held state start) (with_table (held state start) c.in_ok-table.table 2) (c.put_table.ensures.puts.any_moment up) in
    rows_looked state (λ f. g.D.Disk.images (inner_of f)) c.restart.new.self c.look.new.self _ c.in_ok-look.ensures.looks sound
