use Rattle.std.proofs.Common.{◌≡◌, drop}
use Rattle.chunk_store.specs.Standing.{chunks, chunk_in}
use Rattle.store_commit.specs.There.{kept, lens_from}
use Rattle.store_commit.proofs.there.has_lens.Given as goal

abbrev pub invariant-loop-place : goal.invariant-loop-place
invariant-loop-place g l =
    lens_from (kept (chunk_in (chunks g.D.Disk.state l.dev))) l.size l.object.len l.place (drop l.place l.pieces)
    ≡ lens_from (kept (chunk_in (chunks g.D.Disk.state l.dev))) l.size l.object.len 0 l.pieces
