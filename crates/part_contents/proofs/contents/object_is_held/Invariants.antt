use Rattle.std.proofs.Common.{◌≡◌, List, drop}
use Rattle.std.specs.Prelude.{zip, replicate}
use Rattle.std.specs.List.{list_all}
use Rattle.assemblies.specs.Travel.{is_sent}
use Rattle.step_tables.specs.Chunks.{cut}
use Rattle.part_tables.specs.ClientParts.{Held, is_as_long}
use Rattle.part_contents.specs.Held.{AreLens}
use Rattle.part_contents.specs.Contents.{object_is_held}
use Rattle.part_contents.proofs.contents.object_is_held.Given as goal

abbrev pub invariant-loop-place : goal.invariant-loop-place
invariant-loop-place l = (held : List Held) → AreLens held l.lens
    → list_all (is_as_long (is_sent l.sent) held) (zip (drop l.place l.object.pieces) (drop l.place (cut l.chunk (replicate l.object.len 0))))
    ≡ object_is_held (is_sent l.sent) held l.chunk l.object
