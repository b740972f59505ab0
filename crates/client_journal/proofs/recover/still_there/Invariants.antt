use Rattle.std.proofs.Common.{take}
use Rattle.std.specs.BTreeSet.{keys}
use Rattle.chunk_store.specs.Standing.{chunks}
use Rattle.client_journal.specs.Recover.{AreStillThere}
use Rattle.client_journal.proofs.recover.still_there.Given as goal

abbrev pub invariant-loop-name : goal.invariant-loop-name
invariant-loop-name g l = AreStillThere (chunks g.D.Disk.state l.device) (take l.name-index l.old) (keys l.found)
