use Rattle.std.proofs.Common.{take}
use Rattle.client_journal.specs.Standing.{devs}
use Rattle.held_contents.specs.Reading.{stands_in, with_bytes}
use Rattle.held_contents.proofs.Readings.{HasRead}
use Rattle.held_contents.proofs.reading.read_object.Given as goal

abbrev pub invariant-loop-piece : goal.invariant-loop-piece
invariant-loop-piece g l = HasRead g.D.Disk.state g.D.Disk.images l.fn.devs l.devs l.read (with_bytes (stands_in (devs g.D.Disk.state l.fn.devs).chunks) (take l.piece-index l.pieces))
