use Rattle.std.proofs.Common.{◌≡◌, List, sym, ◌∙◌, ap, subst}
use Rattle.std.specs.Prelude.{IfOk}
use Rattle.row_store.specs.declared.stored.Sub.{Sub}
use Rattle.store_host.specs.Calls.{subs_at}
use Rattle.store_host.proofs.Maps.{found, not_found, found_node}
use Rattle.store_host.proofs.Moving.{found_up}
use Rattle.store_host.proofs.Serving.{up_table}
use Rattle.store_host.proofs.host.StoreHost.subs.Goals as goal

pub subs-requires-clause-node : goal.subs-requires-clause-node
subs-requires-clause-node g c =
    let n = c.requires.held in
    found_node g.D.Disk.state c.args.self.now.tables c.args.table c.in-Some.hosted.now (n.0, n.1.tables) c.in-Some.ensures.value

pub subs-requires-clause-up : goal.subs-requires-clause-up
subs-requires-clause-up g c =
    let n = c.requires.held in
    found_up c.args.self.now.tables c.args.table c.in-Some.hosted.now (up_table g.D.Disk.state n.0 c.args.self.now n.1 c.args.table c.requires.up) c.in-Some.ensures.value

pub returns-in-Some-clause-subs : goal.returns-in-Some-clause-subs
returns-in-Some-clause-subs g c w h =
    let f = found g.D.Disk.state w c.args.self.now.tables c.args.table c.in-Some.hosted.now h.tables c.in-Some.ensures.value in
    subst (λ o. IfOk c.subs.result (λ (subs : List Sub). subs ≡ subs_at o)) (sym f.1) (c.subs.ensures.subs f.0.store f.2.node)

pub returns-in-None-clause-subs : goal.returns-in-None-clause-subs
returns-in-None-clause-subs g c w h = c.new.ensures ∙ sym (ap subs_at (not_found g.D.Disk.state w c.args.self.now.tables c.args.table h.tables c.in-None.ensures.value))
