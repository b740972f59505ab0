use Rattle.stab_base.specs.declared.node.Node.TheVariants as nodes
use Rattle.step_tables.specs.Travels.{message_of}
use Rattle.wire_steps.proofs.Coming.{takes_so, store_takes_nothing, idle_carry, idle_comes, idle_ends}
use Rattle.wire_steps.proofs.world.World.bring_to_store.Goals as goal

pub bring-requires : goal.bring-requires
bring-requires g c =
    let x = c.requires.brought in
    let table = c.table_of-table.result in
    let nothing = store_takes_nothing x.v.world c.args.store table c.takes_at.result (c.takes_at.ensures x.v.world x.held.nodes) c.if-not-takes_at.true in
    record {
      carried = idle_carry g.D.Disk.state c.args.self.now c.args.from (nodes.Store c.args.store) c.args.part x table (c.table_of-table.ensures x.p.part x.part_is)
          (message_of c.any_of.result) c.any_of.ensures nothing;
    }

pub returns-then-not-takes_at-clause-done : goal.returns-then-not-takes_at-clause-done
returns-then-not-takes_at-clause-done g c x =
    let table = c.table_of-table.result in
    let of = c.table_of-table.ensures x.p.part x.part_is in
    let m = message_of c.any_of.result in
    let nothing = store_takes_nothing x.v.world c.args.store table c.takes_at.result (c.takes_at.ensures x.v.world x.held.nodes) c.if-not-takes_at.true in
    idle_comes g.D.Disk.state c.args.self.now c.args.from (nodes.Store c.args.store) c.args.part x table of m c.any_of.ensures nothing g.D.Disk.images c.bring.new.self c.bring.result
    (c.bring.ensures.done (idle_carry g.D.Disk.state c.args.self.now c.args.from (nodes.Store c.args.store) c.args.part x table of m c.any_of.ensures nothing))

pub returns-then-not-takes_at-clause-ends : goal.returns-then-not-takes_at-clause-ends
returns-then-not-takes_at-clause-ends g c x =
    let table = c.table_of-table.result in
    let of = c.table_of-table.ensures x.p.part x.part_is in
    let m = message_of c.any_of.result in
    let nothing = store_takes_nothing x.v.world c.args.store table c.takes_at.result (c.takes_at.ensures x.v.world x.held.nodes) c.if-not-takes_at.true in
    idle_ends g.D.Disk.state c.args.self.now c.args.from (nodes.Store c.args.store) c.args.part x table of m c.any_of.ensures nothing g.D.Disk.images c.bring.new.self c.bring.result
    (c.bring.ensures.ends (idle_carry g.D.Disk.state c.args.self.now c.args.from (nodes.Store c.args.store) c.args.part x table of m c.any_of.ensures nothing))

pub returns-then-not-takes_at-clause-limit : goal.returns-then-not-takes_at-clause-limit
returns-then-not-takes_at-clause-limit g c x n below =
    let table = c.table_of-table.result in
    let nothing = store_takes_nothing x.v.world c.args.store table c.takes_at.result (c.takes_at.ensures x.v.world x.held.nodes) c.if-not-takes_at.true in
    c.bring.ensures.limit (idle_carry g.D.Disk.state c.args.self.now c.args.from (nodes.Store c.args.store) c.args.part x table (c.table_of-table.ensures x.p.part x.part_is)
    (message_of c.any_of.result) c.any_of.ensures nothing) n below

pub bring_to_table-requires : goal.bring_to_table-requires
bring_to_table-requires g c =
    let x = c.requires.brought in
    let takes = takes_so x.v.world c.args.store c.table_of-table.result c.takes_at.result (c.takes_at.ensures x.v.world x.held.nodes) c.if-not-takes_at.false in
    record { brought = record { brought = x; table_is = c.table_of-table.ensures x.p.part x.part_is; takes = takes } }

pub returns-clause-done : goal.returns-clause-done
returns-clause-done g c x =
    let takes = takes_so x.v.world c.args.store c.table_of-table.result c.takes_at.result (c.takes_at.ensures x.v.world x.held.nodes) c.if-not-takes_at.false in
    c.bring_to_table.ensures.done (record { brought = x; table_is = c.table_of-table.ensures x.p.part x.part_is; takes = takes })

pub returns-clause-ends : goal.returns-clause-ends
returns-clause-ends g c x =
    let takes = takes_so x.v.world c.args.store c.table_of-table.result c.takes_at.result (c.takes_at.ensures x.v.world x.held.nodes) c.if-not-takes_at.false in
    c.bring_to_table.ensures.ends (record { brought = x; table_is = c.table_of-table.ensures x.p.part x.part_is; takes = takes })

pub returns-clause-limit : goal.returns-clause-limit
returns-clause-limit g c x n below =
    let takes = takes_so x.v.world c.args.store c.table_of-table.result c.takes_at.result (c.takes_at.ensures x.v.world x.held.nodes) c.if-not-takes_at.false in
    c.bring_to_table.ensures.limit (record { brought = x; table_is = c.table_of-table.ensures x.p.part x.part_is; takes = takes }) n below
