use Rattle.std.proofs.Common.{◌≡◌, ◌++◌, drop}
use Rattle.assemblies.specs.Travel.{is_sent}
use Rattle.assemblies.specs.Parts.{objects_joined}
use Rattle.part_tables.specs.ClientParts.{bytes_of}
use Rattle.part_contents.proofs.contents.objects_joined.Given as goal

abbrev pub invariant-loop-object : goal.invariant-loop-object
invariant-loop-object l =
    l.made ++ objects_joined (bytes_of l.held) (is_sent l.sent) (drop l.object-index l.objects) l.rest ≡ objects_joined (bytes_of l.held) (is_sent l.sent) l.objects l.chunks
