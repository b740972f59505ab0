use Rattle.std.proofs.Common.{◌≡◌, ◌∙◌, length, subst}
use Rattle.disk_trait.specs.Fuse.{behind, inner_of}
use Rattle.vault.specs.Standing.{IsUp}
use Rattle.row_store.specs.Data.{with_row}
use Rattle.row_store.specs.Spelling.{row_payload}
use Rattle.row_store.specs.Standing.{held, vault_of, HasRoom}
use Rattle.device_tests.proofs.Stands.{rows_looked}
use Rattle.device_tests.proofs.updates.stop_row.Goals as goal

pub put_row-requires-clause-room : goal.put_row-requires-clause-room
put_row-requires-clause-room g c up =
    let n = c.in-Some.size in
    let same : n ≡ length (row_payload c.args.stored) = c.in-Some.ensures.0 in
    let state = behind g.D.Disk.state in
    subst (HasRoom state c.stop_after.new.self 0 1) same (c.stop_after.ensures.stops.stays.room 0 1 n (c.in_ok-open_write.ensures.opens.room 0 1 n c.in_ok-reserve.ensures.reserves.room))

pub returns : goal.returns
returns g c =
    let state = behind g.D.Disk.state in
    let start = c.stop_after.new.self in
    let up : IsUp (vault_of start) = c.stop_after.ensures.stops.stays.down ∙ c.in_ok-open_write.ensures.opens.opened.vault.looked.up in
    let sound = c.restart.ensures.restarts.sound start.inner (held state start) (with_row (held state start) c.args.stored) (c.put_row.ensures.puts.any_moment up) in
    rows_looked state (λ f. g.D.Disk.images (inner_of f)) c.restart.new.self c.look.new.self c.look.result c.look.ensures.looks sound
