use Rattle.std.proofs.Common.{false, ◌∷◌, ap, ◌∙◌}
use Rattle.std.proofs.lemmas.Result.{on_ok_weaker}
use Rattle.std.specs.FinSet as set
use Rattle.disk_trait.specs.Fuse.{inner_of}
use Rattle.store_host.specs.declared.store.StoreState.{StoreState}
use Rattle.store_host.proofs.Lefts.{none_still}
use Rattle.store_host.proofs.Joined.{joined, joined_faults, joined_still, down_is}
use Rattle.store_host.proofs.host.StoreHost.declare_store.Goals as goal

pub returns-clause-declared : goal.returns-clause-declared
returns-clause-declared g c w h =
    let old = c.args.self.now in
    let n = c.args.number in
    let ring = c.in_ok-join_node.ensures.ok in
    let s : StoreState = record { tables = c.new.result; is_down = c.any_down-is_down.result; is_late = false } in
    on_ok_weaker c.renew_all.result
    (λ said. joined g.D.Disk.state w old h n c.settle_all.new.tables (c.settle_all.ensures (n ∷ w.stores) (ring ∙ ap (λ r. set.insert r n) h.ring)) c.join_node.new.self ring s
    (c.any_down-is_down.ensures.down ∙ down_is g.D.Disk.state w old h n c.any_down-is_down.ensures.ordered) c.insert.new.self c.renew_all.new.stores c.in_ok-insert.ensures.updates.0 said)
    c.renew_all.ensures.renewed

pub returns-clause-counted : goal.returns-clause-counted
returns-clause-counted g c =
    let k = c.requires.held in
    let n = c.args.number in
    on_ok_weaker c.renew_all.result
    (λ said. joined_faults g.D.Disk.state k.0 c.args.self.now k.1 n c.settle_all.new.tables (c.settle_all.ensures (n ∷ k.0.stores) (c.in_ok-join_node.ensures.ok ∙ ap (λ r. set.insert r n) k.1.ring)))
    c.renew_all.ensures.renewed

pub returns-clause-left : goal.returns-clause-left
returns-clause-left g c w h =
    let n = c.args.number in
    on_ok_weaker c.renew_all.result
    (λ said. joined_still g.D.Disk.state w c.args.self.now h n c.settle_all.new.tables (c.settle_all.ensures (n ∷ w.stores) (c.in_ok-join_node.ensures.ok ∙ ap (λ r. set.insert r n) h.ring)) g.D.Disk.images
    (none_still g.D.Disk.state g.D.Disk.images (λ d image left. g.met.D.Disk.only_now (inner_of d) image left) w c.args.self.now.tables h.tables))
    c.renew_all.ensures.renewed
