use Rattle.std.proofs.Common.{sym, ◌∙◌}
use Rattle.std.proofs.lemmas.Result.{err_from_is_err_and}
use Rattle.stab_base.specs.declared.node.Node.TheVariants as nodes
use Rattle.message_parts.specs.Parts.{part_of}
use Rattle.world_tables.specs.World.{Lucks}
use Rattle.gated_tables.specs.Net.{to_store}
use Rattle.net_steps.proofs.Coming.{coming_as}
use Rattle.net_steps.proofs.Delivered.{comes_by, memory_delivers}
use Rattle.net_steps.proofs.world.World.to_store.Goals as goal

pub take_part-requires : goal.take_part-requires
take_part-requires g c =
    let is_out = (g.P.Depot.state c.args.depot.now).is_out in
    let y = c.requires.coming in
    record {
      coming = (
        c.args.number,
        coming_as g.D.Disk.state is_out c.args.number c.args.way.from (nodes.Store c.args.store) c.args.self.now c.args.way.part _ c.in-Some.is y,
        c.in_ok-asked-in-Some.ensures y.n.wire y.n.sent y.one (record { wire = y.here.held.wire; sent = y.here.held.sent }) y.stands
            (record { from = sym y.from_is; to = c.requires.to ∙ sym y.to_is; part = y.part_is }),
      );
    }

pub tell_store-requires : goal.tell_store-requires
tell_store-requires g c =
    let is_out = (g.P.Depot.state c.args.depot.now).is_out in
    record { coming = coming_as g.D.Disk.state is_out c.args.number c.args.way.from (nodes.Store c.args.store) c.args.self.now c.args.way.part _ c.in-None.is c.requires.coming }

pub returns-in_err-asked-in-Some-clause-comes : goal.returns-in_err-asked-in-Some-clause-comes
returns-in_err-asked-in-Some-clause-comes g c x =
    let is_out = (g.P.Depot.state c.args.depot.now).is_out in
    let f = λ (lucks : Lucks). to_store x.n c.args.store x.one lucks (part_of x.one.message) in
    let p = err_from_is_err_and c.from_residual.result c.from_residual.ensures.1 in
    rw p.1 (comes_by g.D.Disk.state g.D.Disk.images x.n f _ is_out c.args.self.now c.args.self.now
    (memory_delivers g.D.Disk.state g.D.Disk.images x.n f p.0 p.2 is_out c.args.self.now c.args.self.now (λ m below. below)))

pub returns-in_ok-asked-in-Some-clause-comes : goal.returns-in_ok-asked-in-Some-clause-comes
returns-in_ok-asked-in-Some-clause-comes g c x =
    let is_out = (g.P.Depot.state c.args.depot.now).is_out in
    let is_after = (g.P.Depot.state c.take_part.new.depot).is_out in
    comes_by g.D.Disk.state g.D.Disk.images x.n (λ lucks. to_store x.n c.args.store x.one lucks (part_of x.one.message)) c.take_part.result is_after c.args.self.now c.take_part.new.self
    (c.take_part.ensures.delivers c.args.number
    (coming_as g.D.Disk.state is_out c.args.number c.args.way.from (nodes.Store c.args.store) c.args.self.now c.args.way.part _ c.in-Some.is x)
    (c.in_ok-asked-in-Some.ensures x.n.wire x.n.sent x.one (record { wire = x.here.held.wire; sent = x.here.held.sent }) x.stands
    (record { from = sym x.from_is; to = c.requires.to ∙ sym x.to_is; part = x.part_is })))

pub returns-in-None-clause-comes : goal.returns-in-None-clause-comes
returns-in-None-clause-comes g c x =
    let is_out = (g.P.Depot.state c.args.depot.now).is_out in
    c.tell_store.ensures.comes (coming_as g.D.Disk.state is_out c.args.number c.args.way.from (nodes.Store c.args.store) c.args.self.now c.args.way.part _ c.in-None.is x)
