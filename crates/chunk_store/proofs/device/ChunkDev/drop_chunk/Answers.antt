use Rattle.std.proofs.Common.{◌≡◌, ◌+◌, ◌++◌, ◌∷◌, [], length, refl, ◌∙◌, ap, arith}
use Rattle.spare_map.specs.Late.{without}
use Rattle.vault.specs.Standing.{payloads}
use Rattle.vault.proofs.Devices.{appends_as}
use Rattle.chunk_store.specs.Payload.{name_cmp, chunks_of, step}
use Rattle.chunk_store.specs.Fault.{fault_of}
use Rattle.chunk_store.specs.Standing.{vault_of}
use Rattle.chunk_store.specs.Index.{IsIndex, HasSpare}
use Rattle.chunk_store.proofs.Faults.{apart}
use Rattle.chunk_store.proofs.Notes.{chunks_of-push}
use Rattle.chunk_store.proofs.Within.{chunk_within}
use Rattle.chunk_store.proofs.device.ChunkDev.drop_chunk.Goals as goal

pub returns : goal.returns
returns g c =
    let old = c.args.self.now in
    let ps = payloads g.D.Disk.state (vault_of old) in
    let p = c.write_drop.new.payload.items in
    let after = without name_cmp (chunks_of ps) c.args.name in
    let grown : chunks_of (ps ++ p ∷ []) ≡ after = chunks_of-push ps p ∙ ap (step (chunks_of ps)) c.write_drop.ensures.change in
    rw c.told.ensures (appends_as g.D.Disk.state g.D.Disk.images IsIndex HasSpare chunks_of fault_of apart old.inner (record old.inner { payload = c.write_drop.new.payload }) c.append.new.self old _ refl refl (omega (arith, c.write_drop.ensures.capacity)) c.if-is_down.ensures
    (13) after c.append.result c.write_drop.ensures.len grown c.append.ensures.appends)

pub write_drop-requires-clause-version : goal.write_drop-requires-clause-version
write_drop-requires-clause-version g c = chunk_within c.args.name (payloads g.D.Disk.state (vault_of c.args.self.now)) (c.requires.there c.if-is_down.ensures)
