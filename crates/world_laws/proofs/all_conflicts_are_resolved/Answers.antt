use Rattle.std.proofs.Common.{ℕ, List}
use Rattle.conflicts.specs.declared.stored.Stored.{Stored}
use Rattle.table_model.specs.declared.event.Event.TheVariants as events
use Rattle.world_tables.specs.World.{Lucks, start, step, other_lucks}
use Rattle.world_tables.specs.Turns.{Happening, world_from}
use Rattle.world_laws.proofs.Behind.{schemes, kept_behind}
use Rattle.world_laws.proofs.Resolutions.{IsDoneSo, all_so}
use Rattle.world_laws.proofs.all_conflicts_are_resolved.Goals as goal

done_so : (run : List Happening) (c table : ℕ) (by : Stored) (how : Lucks)
    → IsDoneSo (schemes run) (world_from start run) (kept_behind run).0 (kept_behind run).1 c table by (step (world_from start run) (events.ResolveAll c table by) how)
done_so run c table by how = all_so (schemes run) (world_from start run) (kept_behind run).0 (kept_behind run).1 c table by how.shape how.shapes how.calls (other_lucks how.calls)

pub returns-clause-first : goal.returns-clause-first
returns-clause-first k = λ run c table by how. (done_so run c table by how).first

pub returns-clause-all : goal.returns-clause-all
returns-clause-all k = λ run c table by how number is. ((done_so run c table by how).all number is).0

pub returns-clause-count : goal.returns-clause-count
returns-clause-count k = λ run c table by how number is. ((done_so run c table by how).all number is).1
