use Rattle.std.proofs.Common.{◌∙◌, inl, sym}
use Rattle.stab_base.specs.declared.node.Node.TheVariants as nodes
use Rattle.step_tables.specs.Travels.{message_of}
use Rattle.wire_steps.proofs.Answered.{limited_later, plans_later}
use Rattle.wire_steps.proofs.Coming.{idle_carry, idle_comes, idle_ends}
use Rattle.wire_steps.proofs.world.World.bring_to_client.Goals as goal

pub bring-requires : goal.bring-requires
bring-requires g c =
    let x = c.requires.brought in
    record {
      carried = idle_carry g.D.Disk.state c.args.self.now c.args.from (nodes.Client c.args.client) c.args.part x c.table_of-table.result (c.table_of-table.ensures x.p.part x.part_is) (message_of c.any_of.result)
          c.any_of.ensures (inl (sym (c.is_client_ready.ensures x.v.world x.held.nodes) ∙ c.if-not-is_client_ready.true));
    }

pub returns-then-not-is_client_ready-clause-done : goal.returns-then-not-is_client_ready-clause-done
returns-then-not-is_client_ready-clause-done g c x =
    idle_comes g.D.Disk.state c.args.self.now c.args.from (nodes.Client c.args.client) c.args.part x c.table_of-table.result (c.table_of-table.ensures x.p.part x.part_is) (message_of c.any_of.result)
    c.any_of.ensures (inl (sym (c.is_client_ready.ensures x.v.world x.held.nodes) ∙ c.if-not-is_client_ready.true)) g.D.Disk.images c.bring.new.self c.bring.result
    (c.bring.ensures.done (idle_carry g.D.Disk.state c.args.self.now c.args.from (nodes.Client c.args.client) c.args.part x c.table_of-table.result (c.table_of-table.ensures x.p.part x.part_is) (message_of c.any_of.result)
    c.any_of.ensures (inl (sym (c.is_client_ready.ensures x.v.world x.held.nodes) ∙ c.if-not-is_client_ready.true))))

pub returns-then-not-is_client_ready-clause-ends : goal.returns-then-not-is_client_ready-clause-ends
returns-then-not-is_client_ready-clause-ends g c x =
    idle_ends g.D.Disk.state c.args.self.now c.args.from (nodes.Client c.args.client) c.args.part x c.table_of-table.result (c.table_of-table.ensures x.p.part x.part_is) (message_of c.any_of.result)
    c.any_of.ensures (inl (sym (c.is_client_ready.ensures x.v.world x.held.nodes) ∙ c.if-not-is_client_ready.true)) g.D.Disk.images c.bring.new.self c.bring.result
    (c.bring.ensures.ends (idle_carry g.D.Disk.state c.args.self.now c.args.from (nodes.Client c.args.client) c.args.part x c.table_of-table.result (c.table_of-table.ensures x.p.part x.part_is) (message_of c.any_of.result)
    c.any_of.ensures (inl (sym (c.is_client_ready.ensures x.v.world x.held.nodes) ∙ c.if-not-is_client_ready.true))))

pub returns-then-not-is_client_ready-clause-limit : goal.returns-then-not-is_client_ready-clause-limit
returns-then-not-is_client_ready-clause-limit g c x n below =
    limited_later _ x.v.world c.bring.result (limited_later n x.v.world c.bring.result (c.bring.ensures.limit (idle_carry g.D.Disk.state c.args.self.now c.args.from (nodes.Client c.args.client) c.args.part x c.table_of-table.result (c.table_of-table.ensures x.p.part x.part_is)
    (message_of c.any_of.result) c.any_of.ensures (inl (sym (c.is_client_ready.ensures x.v.world x.held.nodes) ∙ c.if-not-is_client_ready.true))) n below))

pub bring_to_ready-requires : goal.bring_to_ready-requires
bring_to_ready-requires g c =
    let x = c.requires.brought in
    record { brought = record { brought = x; table_is = c.table_of-table.ensures x.p.part x.part_is; ready = sym (c.is_client_ready.ensures x.v.world x.held.nodes) ∙ c.if-not-is_client_ready.false } }

pub returns-clause-done : goal.returns-clause-done
returns-clause-done g c x =
    c.bring_to_ready.ensures.done
    (record { brought = x; table_is = c.table_of-table.ensures x.p.part x.part_is; ready = sym (c.is_client_ready.ensures x.v.world x.held.nodes) ∙ c.if-not-is_client_ready.false })

pub returns-clause-ends : goal.returns-clause-ends
returns-clause-ends g c x =
    c.bring_to_ready.ensures.ends
    (record { brought = x; table_is = c.table_of-table.ensures x.p.part x.part_is; ready = sym (c.is_client_ready.ensures x.v.world x.held.nodes) ∙ c.if-not-is_client_ready.false })

pub returns-clause-limit : goal.returns-clause-limit
returns-clause-limit g c x n below =
    c.bring_to_ready.ensures.limit
    (record { brought = x; table_is = c.table_of-table.ensures x.p.part x.part_is; ready = sym (c.is_client_ready.ensures x.v.world x.held.nodes) ∙ c.if-not-is_client_ready.false }) n below

pub returns-then-not-is_client_ready-clause-plans : goal.returns-then-not-is_client_ready-clause-plans
returns-then-not-is_client_ready-clause-plans g c n below =
    plans_later g.D.Disk.state _ c.bring.new.self.nodes (plans_later g.D.Disk.state _ c.bring.new.self.nodes (c.bring.ensures.plans n below))
