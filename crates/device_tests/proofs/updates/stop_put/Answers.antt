use Rattle.std.proofs.Common.{◌∙◌, ◌+◌, length}
use Rattle.std.specs.BTreeMap.{insert_entry}
use Rattle.disk_trait.specs.Fuse.{behind, inner_of}
use Rattle.vault.specs.Standing.{IsUp}
use Rattle.chunk_store.specs.Payload.{name_cmp}
use Rattle.chunk_store.specs.Standing.{chunks, vault_of}
use Rattle.device_tests.proofs.Stands.{chunks_looked}
use Rattle.device_tests.proofs.updates.stop_put.Goals as goal

pub put-requires-clause-room : goal.put-requires-clause-room
put-requires-clause-room g c up =
    let n = 13 + length c.args.bytes.now in
    c.stop_after.ensures.stays.room 0 1 n (c.in_ok-open_write.ensures.room 0 1 n c.in_ok-reserve.ensures.room)

pub returns : goal.returns
returns g c =
    let state = behind g.D.Disk.state in
    let start = c.stop_after.new.self in
    let up : IsUp (vault_of start) = c.stop_after.ensures.stays.down ∙ c.in_ok-open_write.ensures.opened.vault.looked.up in
    let sound = c.restart.ensures.restarts.sound start.inner (chunks state start) (insert_entry name_cmp (chunks state start) c.args.name c.args.bytes.now) (c.put.ensures.any_moment up) in
    chunks_looked state (λ f. g.D.Disk.images (inner_of f)) c.restart.new.self c.look.new.self c.look.result c.look.ensures sound
