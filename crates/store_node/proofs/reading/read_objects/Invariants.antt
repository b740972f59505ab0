use Rattle.std.proofs.Common.{◌≡◌, take, Ok}
use Rattle.store_commit.specs.Standing.{devs}
use Rattle.store_node.specs.Reading.{held_by, Only}
use Rattle.store_node.proofs.reading.read_objects.Given as goal

abbrev pub invariant-loop-object : goal.invariant-loop-object
invariant-loop-object g l =
    Only {T = Unit {0}} g.D.Disk.state g.D.Disk.images l.initial.table l.table (Ok tt)
    × (l.held ≡ held_by (devs g.D.Disk.state l.initial.table) (take l.object-index l.objects))
