use Rattle.node_steps.specs.Holds.{Holds}
use Rattle.simba_top.proofs.Reporting.{HaveTold}
use Rattle.simba_top.proofs.turn.Run.table_reports.Given as goal

abbrev pub invariant-loop-table : goal.invariant-loop-table
invariant-loop-table g l = HaveTold (λ w. Holds g.D.Disk.state w l.fn.self.world.wire.nodes) l.table l.tables
