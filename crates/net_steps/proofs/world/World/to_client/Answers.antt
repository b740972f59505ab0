use Rattle.stab_base.specs.declared.node.Node.TheVariants as nodes
use Rattle.message_parts.specs.Parts.{part_of}
use Rattle.gated_tables.specs.Net.{to_client}
use Rattle.net_steps.proofs.Coming.{coming_as}
use Rattle.net_steps.proofs.Delivered.{comes_by}
use Rattle.net_steps.proofs.world.World.to_client.Goals as goal

pub bring_client-requires : goal.bring_client-requires
bring_client-requires g c =
    record {
      coming = (
        c.args.number,
        c.args.way.from,
        coming_as g.D.Disk.state (g.P.Depot.state c.args.depot.now).is_out c.args.number c.args.way.from (nodes.Client c.args.client) c.args.self.now c.args.way.part _ c.in-Some.is
            c.requires.coming,
      );
    }

pub returns-in-Some-clause-comes : goal.returns-in-Some-clause-comes
returns-in-Some-clause-comes g c x =
    comes_by g.D.Disk.state g.D.Disk.images x.n (λ lucks. to_client x.n c.args.client x.one lucks (part_of x.one.message)) c.bring_client.result
    (g.P.Depot.state c.bring_client.new.depot).is_out c.args.self.now c.bring_client.new.self
    (c.bring_client.ensures.delivers c.args.number c.args.way.from
    (coming_as g.D.Disk.state (g.P.Depot.state c.args.depot.now).is_out c.args.number c.args.way.from (nodes.Client c.args.client) c.args.self.now c.args.way.part _ c.in-Some.is x))

pub tell_client-requires : goal.tell_client-requires
tell_client-requires g c =
    let is_out = (g.P.Depot.state c.args.depot.now).is_out in
    record {
      coming = (c.args.way.from, coming_as g.D.Disk.state is_out c.args.number c.args.way.from (nodes.Client c.args.client) c.args.self.now c.args.way.part _ c.in-None.is c.requires.coming);
    }

pub returns-in-None-clause-comes : goal.returns-in-None-clause-comes
returns-in-None-clause-comes g c x =
    let is_out = (g.P.Depot.state c.args.depot.now).is_out in
    c.tell_client.ensures.comes c.args.way.from (coming_as g.D.Disk.state is_out c.args.number c.args.way.from (nodes.Client c.args.client) c.args.self.now c.args.way.part _ c.in-None.is x)
