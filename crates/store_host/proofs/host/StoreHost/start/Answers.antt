use Rattle.std.proofs.Common.{true, sym, subst}
use Rattle.store_host.specs.Holds.{HoldsParts, AreLeft}
use Rattle.store_host.specs.declared.host.StoreHost.{StoreHost}
use Rattle.world_tables.specs.World.{tables_of}
use Rattle.store_host.specs.Calls.{restart_moves}
use Rattle.store_host.proofs.Stores.{start_done, start_failed, start_parts, there_declared}
use Rattle.store_host.proofs.Froms.{restart_from}
use Rattle.store_host.proofs.Lefts.{still_left, read_falls}
use Rattle.store_host.proofs.host.StoreHost.start.Goals as goal

pub returns-in-Ok-clause-started : goal.returns-in-Ok-clause-started
returns-in-Ok-clause-started g c w h =
    let old = c.args.self.now in
    let a = c.in-Ok.ensures.started w h in
    let k = start_done g.D.Disk.state w old h c.args.store c.restart.new.self.tables c.restart.new.self.outs a.0 (there_declared g.D.Disk.state w old h c.args.store c.requires.declared) a.1
    c.restart.new.self c.rise.new.self c.in-Ok.ensures.same c.rise.ensures.same c.rise.ensures.stores in
    (a.0, k.0, k.1)

pub fall-requires : goal.fall-requires
fall-requires g c =
    let n = c.requires.held in
    let a = c.in-Err-Disk.ensures.refused n.0 n.1 (let is = c.in-Err-Disk.field-0-is in cc) in (
      (restart_moves (tables_of n.0 c.args.store) a.0 n.0).world,
      subst (λ (host : StoreHost g.row.D.Denot). HoldsParts g.D.Disk.state (restart_moves (tables_of n.0 c.args.store) a.0 n.0).world c.args.store host) (sym c.in-Err-Disk.ensures.same)
          (start_parts g.D.Disk.state n.0 c.args.self.now n.1 c.args.store c.restart.new.self.tables c.restart.new.self.outs a.0 true a.1),
    )

pub returns-in-Err-Disk-clause-failed : goal.returns-in-Err-Disk-clause-failed
returns-in-Err-Disk-clause-failed g c w h failed =
    let old = c.args.self.now in
    let a = c.in-Err-Disk.ensures.refused w h (let is = c.in-Err-Disk.field-0-is in cc) in
    let k = start_failed g.D.Disk.state w old h c.args.store c.restart.new.self.tables c.restart.new.self.outs a.0 (there_declared g.D.Disk.state w old h c.args.store c.requires.declared) c.restart.new.self c.fall.new.self
    c.in-Err-Disk.ensures.same a.1 c.fall.ensures.fallen in
    (a.0, k.0, k.1)

pub returns-in-Ok-clause-left : goal.returns-in-Ok-clause-left
returns-in-Ok-clause-left g c w h =
    let old = c.args.self.now in
    subst (λ (host : StoreHost g.row.D.Denot). AreLeft g.D.Disk.state g.D.Disk.images w old.tables host.tables) (sym c.rise.ensures.same)
    (still_left g.D.Disk.state g.D.Disk.images w old.tables c.restart.new.self.tables (c.in-Ok.ensures.left w h))

pub returns-in-Err-clause-left : goal.returns-in-Err-clause-left
returns-in-Err-clause-left g c w h = still_left g.D.Disk.state g.D.Disk.images w c.args.self.now.tables c.restart.new.self.tables (c.in-Err.ensures.left w h)

pub returns-in-Err-Disk-clause-left : goal.returns-in-Err-Disk-clause-left
returns-in-Err-Disk-clause-left g c w h =
    let old = c.args.self.now in
    let mid = c.restart.new.self in
    let a = c.in-Err-Disk.ensures.refused w h (let is = c.in-Err-Disk.field-0-is in cc) in
    let v = (restart_moves (tables_of w c.args.store) a.0 w).world in
    read_falls g.D.Disk.state g.D.Disk.images w v old.tables mid.tables c.fall.new.self.tables h.tables a.1.held
    (c.fall.ensures.left v (subst (λ (host : StoreHost g.row.D.Denot). HoldsParts g.D.Disk.state v c.args.store host) (sym c.in-Err-Disk.ensures.same)
    (start_parts g.D.Disk.state w old h c.args.store mid.tables mid.outs a.0 true a.1)))
    (restart_from (tables_of w c.args.store) a.0 w) (c.in-Err-Disk.ensures.left w h)
