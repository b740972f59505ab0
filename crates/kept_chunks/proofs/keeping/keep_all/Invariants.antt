use Rattle.std.proofs.Common.{◌≡◌, ℕ, ◌≤◌, List, ◌++◌, length, drop}
use Rattle.std.specs.Vec.Iter.{into_iter_items}
use Rattle.held_value.specs.declared.local_name.LocalName.{LocalName}
use Rattle.client_journal.specs.There.{HasNames}
use Rattle.kept_chunks.specs.Anew.{AreBroughtAnew}
use Rattle.kept_chunks.specs.Steps.{KeepsSoFar}
use Rattle.kept_chunks.proofs.keeping.keep_all.Given as goal

abbrev pub invariant-loop-bytes : goal.invariant-loop-bytes
invariant-loop-bytes l =
    (done : List (List ℕ)) × (done ++ into_iter_items l.bytes-iterator ≡ l.fn.brought) × (length l.keeping.brought ≤ length done)
    × ((content : List LocalName) → HasNames content l.fn.taken → KeepsSoFar l.held content done l.keeping)
    × (length l.keeping.locals.items ≡ length done) × (l.left ≡ drop (length done) l.names) × AreBroughtAnew l.names l.keeping.locals.items
