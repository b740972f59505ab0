use Rattle.std.proofs.Common.{◌≡◌, ◌+◌, ◌++◌, ◌∷◌, [], length, refl, ◌∙◌, ap, arith}
use Rattle.std.specs.BTreeMap.{insert_entry}
use Rattle.vault.specs.Standing.{payloads}
use Rattle.vault.proofs.Devices.{appends_as}
use Rattle.chunk_store.specs.Payload.{name_cmp, chunks_of, step}
use Rattle.chunk_store.specs.Fault.{fault_of}
use Rattle.chunk_store.specs.Standing.{vault_of}
use Rattle.chunk_store.specs.Index.{IsIndex, HasSpare}
use Rattle.chunk_store.proofs.Faults.{apart}
use Rattle.chunk_store.proofs.Notes.{chunks_of-push}
use Rattle.chunk_store.proofs.device.ChunkDev.put.Goals as goal

pub returns : goal.returns
returns g c =
    let old = c.args.self.now in
    let ps = payloads g.D.Disk.state (vault_of old) in
    let p = c.write_put.new.payload.items in
    let after = insert_entry name_cmp (chunks_of ps) c.args.name c.args.bytes.now in
    let grown : chunks_of (ps ++ p ∷ []) ≡ after = chunks_of-push ps p ∙ ap (step (chunks_of ps)) c.write_put.ensures.change in
    rw c.told.ensures (appends_as g.D.Disk.state g.D.Disk.images IsIndex HasSpare chunks_of fault_of apart old.inner (record old.inner { payload = c.write_put.new.payload }) c.append.new.self old _ refl refl (omega (arith, c.write_put.ensures.capacity)) c.if-is_down.ensures
    (13 + length c.args.bytes.now) after c.append.result c.write_put.ensures.len grown c.append.ensures.appends)
