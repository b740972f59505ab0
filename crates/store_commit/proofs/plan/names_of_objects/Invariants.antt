use Rattle.std.proofs.Common.{◌≡◌, ◌++◌, length, take, map}
use Rattle.value_codec.specs.Spelling.{pieces_of}
use Rattle.store_commit.specs.NamedChunks.{names_in}
use Rattle.store_commit.specs.Agenda.{named_object, puts, drops}
use Rattle.store_commit.specs.Standing.{write_of}
use Rattle.store_commit.proofs.plan.names_of_objects.Given as goal

abbrev pub invariant-loop-object : goal.invariant-loop-object
invariant-loop-object l = l.names.items ≡ names_in (pieces_of (take l.object-index l.objects))
