use Rattle.std.proofs.Common.{sym, ◌∙◌, subst}
use Rattle.node_steps.specs.Holds.{Holds as NodesHold}
use Rattle.net_steps.specs.Through.{restarted_if}
use Rattle.net_steps.proofs.Relinked.{some_of, has_device, lacks_device, cut_down, uncut, still_down}
use Rattle.net_steps.proofs.world.World.cut_off.Goals as goal

pub returns-then-not-was_down-clause-nodes : goal.returns-then-not-was_down-clause-nodes
returns-then-not-was_down-clause-nodes g c m devices held there =
    subst (λ (b : _). NodesHold g.D.Disk.state (restarted_if b c.args.client m).wire.world c.args.self.now.wire.nodes) (sym c.if-not-was_down.true) held

pub returns-then-not-contains_key-clause-nodes : goal.returns-then-not-contains_key-clause-nodes
returns-then-not-contains_key-clause-nodes g c m devices held there =
    subst (λ (b : _). NodesHold g.D.Disk.state (restarted_if b c.args.client m).wire.world c.args.self.now.wire.nodes) (sym c.if-not-was_down.false)
    (uncut g.D.Disk.state m c.args.client (lacks_device _ _ (devices c.args.client) (sym c.contains_key.ensures ∙ c.if-not-contains_key.true)) c.args.self.now.wire.nodes held)

pub returns-clause-held : goal.returns-clause-held
returns-clause-held g c n h there down =
    let d = has_device _ _ (h.devices c.args.client) (sym c.contains_key.ensures ∙ c.if-not-contains_key.false) in
    let node = some_of _ (there d.0 d.1) in
    still_down g.D.Disk.state n c.args.client c.args.self.now h (down c.if-not-was_down.false) c.set_link.new.self (c.set_link.ensures.held n.wire node.0 h.wire node.1)

pub returns-clause-nodes : goal.returns-clause-nodes
returns-clause-nodes g c m devices held there =
    let d = has_device _ _ (devices c.args.client) (sym c.contains_key.ensures ∙ c.if-not-contains_key.false) in
    let node = some_of _ (there d.0 d.1) in
    subst (λ (b : _). NodesHold g.D.Disk.state (restarted_if b c.args.client m).wire.world c.set_link.new.self.nodes) (sym c.if-not-was_down.false)
    (cut_down g.D.Disk.state m c.args.client d.0 d.1 c.set_link.new.self.nodes (c.set_link.ensures.nodes m.wire.world node.0 held node.1))
