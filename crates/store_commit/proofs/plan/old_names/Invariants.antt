use Rattle.std.proofs.Common.{◌≡◌, List, ◌++◌, drop}
use Rattle.std.specs.Prelude.{is_some}
use Rattle.stab_base.specs.declared.chunk_name.ChunkName.{ChunkName}
use Rattle.chunk_store.specs.Standing.{chunks, chunk_in}
use Rattle.store_commit.specs.Update.{HasNames, unmet}
use Rattle.store_commit.proofs.plan.old_names.Given as goal

abbrev pub invariant-loop-name : goal.invariant-loop-name
invariant-loop-name g l =
    (seen : List ChunkName) × HasNames seen l.met
    × (l.old.items ++ unmet (λ name. is_some (chunk_in (chunks g.D.Disk.state l.dev) name)) seen (drop l.name-index l.names)
    ≡ unmet (λ name. is_some (chunk_in (chunks g.D.Disk.state l.dev) name)) l.kept l.names)
