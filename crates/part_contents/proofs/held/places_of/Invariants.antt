use Rattle.std.proofs.Common.{take}
use Rattle.part_contents.specs.Held.{ArePlaces}
use Rattle.part_contents.proofs.held.places_of.Given as goal

abbrev pub invariant-loop-place : goal.invariant-loop-place
invariant-loop-place l = ArePlaces (take l.place l.held) l.places
