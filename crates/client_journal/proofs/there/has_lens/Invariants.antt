use Rattle.std.proofs.Common.{◌≡◌, drop}
use Rattle.chunk_store.specs.Standing.{chunks}
use Rattle.client_journal.specs.Devs.{local_in}
use Rattle.client_journal.specs.There.{lens_from}
use Rattle.client_journal.proofs.there.has_lens.Given as goal

abbrev pub invariant-loop-place : goal.invariant-loop-place
invariant-loop-place g l =
    lens_from (local_in (chunks g.D.Disk.state l.dev)) l.size l.object.len l.place (drop l.place l.pieces)
    ≡ lens_from (local_in (chunks g.D.Disk.state l.dev)) l.size l.object.len 0 l.pieces
