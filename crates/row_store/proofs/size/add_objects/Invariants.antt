use Rattle.std.proofs.Common.{◌≡◌, ◌≤◌, ◌+◌, length, take}
use Rattle.std.specs.List.{flat_map}
use Rattle.vault.specs.Limit.{payload_most}
use Rattle.value_codec.specs.Spelling.{object_spelling}
use Rattle.row_store.proofs.size.add_objects.Given as goal

abbrev pub invariant-loop-object : goal.invariant-loop-object
invariant-loop-object l = record { sum : l.sum ≡ l.len + length (flat_map object_spelling (take l.object-index l.objects)); most : l.sum ≤ payload_most }
