use Rattle.std.proofs.Common.{arith}
use Rattle.world_tables.specs.World.{World}
use Rattle.node_steps.specs.Holds.{Holds}
use Rattle.simba_top.proofs.Reporting.{none_told, more_told, all_told}
use Rattle.simba_top.proofs.turn.Run.table_reports.Goals as goal

pub loop-table-init : goal.loop-table-init
loop-table-init g c = none_told (λ (w : World). Holds g.D.Disk.state w c.args.self.now.world.wire.nodes) c.new-tables.result c.new-tables.ensures

pub loop-table-preserved : goal.loop-table-preserved
loop-table-preserved g c =
    let more = c.loop-table-test.true in
    more_told (λ (w : World). Holds g.D.Disk.state w c.args.self.now.world.wire.nodes) c.loop-table.table c.loop-table.tables c.add.new.tables c.in_ok-table_report.field-0
    c.loop-table.invariant (omega (arith, more)) c.in_ok-table_report.ensures.told c.in_ok-add.ensures.told c.in_ok-add.ensures.named

pub returns-clause-told : goal.returns-clause-told
returns-clause-told g c =
    all_told (λ (w : World). Holds g.D.Disk.state w c.args.self.now.world.wire.nodes) c.loop-table.table c.loop-table.tables c.loop-table.invariant c.loop-table-test.false
