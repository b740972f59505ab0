use Rattle.std.proofs.Common.{ℕ, Option, subst}
use Rattle.store_host.specs.Calls.{HasLuck}
use Rattle.world_tables.specs.World.{table_crashes, crash_luck, first_luck, other_lucks, busy_table}
use Rattle.store_host.proofs.Stores.{crash_parts, crash_falls, up_declared}
use Rattle.store_host.proofs.Froms.{crash_from}
use Rattle.store_host.proofs.Lefts.{work_falls}
use Rattle.store_host.proofs.Crashed.{luck_then, luck_later}
use Rattle.store_host.proofs.host.StoreHost.crash.Goals as goal

pub fall-requires : goal.fall-requires
fall-requires g c =
    let old = c.args.self.now in
    let n = c.requires.held in
    (_, crash_parts g.D.Disk.state n.0 old n.1 c.args.store c.busy_table-busy.result (c.busy_table-busy.ensures n.0 n.1) c.crash_busy.new.tables c.args.calls (c.crash_busy.ensures.crashed n.0 n.1.tables))

pub returns-clause-crashed : goal.returns-clause-crashed
returns-clause-crashed g c w h =
    let old = c.args.self.now in
    let a = c.crash_busy.ensures.crashed w h.tables in (
      a.0,
      crash_falls g.D.Disk.state w old h c.args.store c.busy_table-busy.result (c.busy_table-busy.ensures w h) c.fall.new.self (up_declared g.D.Disk.state w old h c.args.store c.requires.up) c.crash_busy.new.tables c.args.calls a
          c.fall.ensures.fallen,
      subst (λ (o : Option ℕ). HasLuck g.D.Disk.state o old.tables c.fall.new.self.tables a.0) (c.busy_table-busy.ensures w h)
          (luck_then g.D.Disk.state c.busy_table-busy.result old.tables c.crash_busy.new.tables c.fall.new.self.tables a.0 a.2 c.fall.ensures.counted),
    )

pub returns-clause-later : goal.returns-clause-later
returns-clause-later g c =
    let n = c.requires.held in
    let a = returns-clause-crashed g c n.0 n.1 in
    luck_later g.D.Disk.state (busy_table n.0 c.args.store) c.args.self.now.tables c.fall.new.self.tables a.0 a.2

pub returns-clause-left : goal.returns-clause-left
returns-clause-left g c w h =
    let old = c.args.self.now in
    let a = c.crash_busy.ensures.crashed w h.tables in
    let luck = crash_luck c.args.calls (other_lucks a.0) (first_luck a.0) in
    let v = (table_crashes luck c.busy_table-busy.result w).world in
    work_falls g.D.Disk.state g.D.Disk.images w v old.tables c.crash_busy.new.tables c.fall.new.self.tables h.tables a.1.held
    (c.fall.ensures.left v (crash_parts g.D.Disk.state w old h c.args.store c.busy_table-busy.result (c.busy_table-busy.ensures w h) c.crash_busy.new.tables c.args.calls a))
    (crash_from luck c.busy_table-busy.result w) (c.crash_busy.ensures.left w h.tables)
