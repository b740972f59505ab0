use Rattle.std.proofs.Common.{take}
use Rattle.client_journal.specs.Standing.{devs}
use Rattle.held_contents.specs.Reading.{stands_in, objects_with_bytes}
use Rattle.held_contents.proofs.Readings.{HasRead}
use Rattle.held_contents.proofs.reading.read_objects.Given as goal

abbrev pub invariant-loop-object : goal.invariant-loop-object
invariant-loop-object g l = HasRead g.D.Disk.state g.D.Disk.images l.fn.devs l.devs l.read (objects_with_bytes (stands_in (devs g.D.Disk.state l.fn.devs).chunks) (take l.object-index l.objects))
