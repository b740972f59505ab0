use Rattle.std.proofs.Common.{◌≡◌, Bool, [], subst}
use Rattle.std.specs.Prelude.{MatchBool}
use Rattle.disk_trait.specs.Fuse.{inner_of}
use Rattle.client_journal.specs.Standing.{writes_of}
use Rattle.client_node.proofs.Forgotten.{client_calm}
use Rattle.client_node.proofs.node.ClientNode.forget_calm.Goals as goal

pub returns-then-idle-clause-kept : goal.returns-then-idle-clause-kept
returns-then-idle-clause-kept g c calm s t =
    let devices = c.args.self.now.devs in
    let none = subst (λ (b : Bool). MatchBool b (writes_of devices ≡ []) (writes_of devices ≡ [] → ⊥)) c.if-idle.true c.idle.ensures in
    client_calm g.D.Disk.state g.D.Disk.images (λ f image left. g.met.D.Disk.only_now (inner_of f) image left) c.args.self.now c.requires c.forget_conflicts.new.self none c.args.table c.args.calm.now calm
    c.forget_conflicts.ensures.outs c.forget_conflicts.ensures.ready c.forget_conflicts.ensures.conflicts s t
