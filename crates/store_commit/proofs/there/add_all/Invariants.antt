use Rattle.std.proofs.Common.{◌++◌, List, take}
use Rattle.stab_base.specs.declared.chunk_name.ChunkName.{ChunkName}
use Rattle.store_commit.specs.Update.{HasNames}
use Rattle.store_commit.proofs.there.add_all.Given as goal

abbrev pub invariant-loop-name : goal.invariant-loop-name
invariant-loop-name l = (before : List ChunkName) → HasNames before l.initial.named → HasNames (before ++ take l.name-index l.names) l.named
