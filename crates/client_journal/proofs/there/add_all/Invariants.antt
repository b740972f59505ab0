use Rattle.std.proofs.Common.{◌++◌, List, take}
use Rattle.held_value.specs.declared.local_name.LocalName.{LocalName}
use Rattle.client_journal.specs.There.{HasNames}
use Rattle.client_journal.proofs.there.add_all.Given as goal

abbrev pub invariant-loop-name : goal.invariant-loop-name
invariant-loop-name l = (before : List LocalName) → HasNames before l.initial.named → HasNames (before ++ take l.name-index l.names) l.named
