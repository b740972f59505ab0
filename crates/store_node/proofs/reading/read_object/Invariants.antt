use Rattle.std.proofs.Common.{◌≡◌, take, Ok}
use Rattle.store_commit.specs.Standing.{devs}
use Rattle.store_node.specs.Reading.{named_in, Only}
use Rattle.store_node.proofs.reading.read_object.Given as goal

abbrev pub invariant-loop-piece : goal.invariant-loop-piece
invariant-loop-piece g l =
    Only {T = Unit {0}} g.D.Disk.state g.D.Disk.images l.initial.table l.table (Ok tt)
    × (l.named ≡ named_in (devs g.D.Disk.state l.initial.table) (take l.piece-index l.pieces))
