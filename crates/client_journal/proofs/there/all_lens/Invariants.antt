use Rattle.std.proofs.Common.{◌≡◌, drop}
use Rattle.std.specs.List.{list_all}
use Rattle.chunk_store.specs.Standing.{chunks}
use Rattle.client_journal.specs.Devs.{local_in}
use Rattle.client_journal.specs.There.{has_lens}
use Rattle.client_journal.proofs.there.all_lens.Given as goal

abbrev pub invariant-loop-object : goal.invariant-loop-object
invariant-loop-object g l =
    list_all (has_lens (local_in (chunks g.D.Disk.state l.dev)) l.size) (drop l.object-index l.objects)
    ≡ list_all (has_lens (local_in (chunks g.D.Disk.state l.dev)) l.size) l.objects
