use Rattle.std.proofs.Common.{◌∙◌, sym, true≢false}
use Rattle.simba_top.specs.Faults.{Led, IsOnDisks}
use Rattle.simba_top.proofs.Endings.{stopped_map}
use Rattle.simba_top.proofs.Sounds.{on_disks}
use Rattle.simba_top.proofs.run.ended.Goals as goal
use Rattle.simba_top.proofs.run.ended.Goals.{in-Memory, in_default}

pub returns-then-matches-clause-ends : goal.returns-then-matches-clause-ends
returns-then-matches-clause-ends g c = λ output input left before e.
    elim c.match-matches.branch [
      | in-Memory w ↦ (c.args.run.count, rw w.in-Memory.is at e)
      | in_default w ↦ absurd (true≢false (sym c.if-matches.true ∙ w.matches-is))
    ]

pub returns-clause-ends : goal.returns-clause-ends
returns-clause-ends g c = λ output input left before e.
    stopped_map output (Led g.D.Disk.state c.args.run.world) (IsOnDisks g.D.Disk.state (g.P.Depot.returned c.close.new.depot))
    (on_disks g.D.Disk.state c.args.run.world (g.P.Depot.returned c.close.new.depot) c.close.ensures.told c.close.ensures.rows) c.end-result.result input left before (g.K.Sink.holds c.end-result.new.sink)
    (c.end-result.ensures.ends output input left before e)
