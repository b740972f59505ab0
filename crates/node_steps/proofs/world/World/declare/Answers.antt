use Rattle.std.proofs.Common.{sym, ◌∙◌}
use Rattle.world_tables.specs.Passed.{first_part}
use Rattle.node_steps.proofs.Declared.{stays_declared, nothing_at}
use Rattle.node_steps.proofs.Rows.{none_left, over_first, stay_over}
use Rattle.node_steps.proofs.world.World.declare.Goals as goal

pub returns-then-has-clause-done : goal.returns-then-has-clause-done
returns-then-has-clause-done g c w event declares reached h out =
    let tables = c.args.self.now.store.tables in
    stays_declared g.D.Disk.state g.D.Disk.images w event c.args.table c.args.schema.now c.args.state declares c.silent.result c.silent.ensures (g.P.Depot.state c.args.depot.now).is_out c.args.self.now h out
    (sym c.if-has.true ∙ c.has.ensures.held w h.store)
    (λ lucks. stay_over g.D.Disk.state g.D.Disk.images w reached event lucks c.args.self.now c.args.self.now (over_first g.D.Disk.state g.D.Disk.images w (first_part w event lucks) tables tables
    (none_left g.D.Disk.state g.D.Disk.images g.met.D.Disk.only_now w c.args.self.now.store h.store)))

pub add_table-requires-clause-absent : goal.add_table-requires-clause-absent
add_table-requires-clause-absent g c =
    nothing_at _ (sym c.has.ensures.there ∙ c.if-has.false)
