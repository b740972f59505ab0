use Rattle.std.proofs.Common.{map, take}
use Rattle.client_journal.specs.Standing.{devs}
use Rattle.journal_laws.specs.Whole.{whole_object}
use Rattle.held_contents.specs.Reading.{stands_in}
use Rattle.held_contents.proofs.Readings.{HasRead}
use Rattle.held_contents.proofs.reading.whole_objects.Given as goal

abbrev pub invariant-loop-object : goal.invariant-loop-object
invariant-loop-object g l = HasRead g.D.Disk.state g.D.Disk.images l.fn.devs l.devs l.read (map (whole_object (stands_in (devs g.D.Disk.state l.fn.devs).chunks)) (take l.object-index l.objects))
