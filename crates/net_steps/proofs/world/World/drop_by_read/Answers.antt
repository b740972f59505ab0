use Rattle.std.proofs.Common.{refl}
use Rattle.step_tables.specs.Facts as facts
use Rattle.world_tables.specs.World.{no_lucks}
use Rattle.gated_tables.specs.Net.{asks_drop, device_at, to_give, unless_away}
use Rattle.net_steps.proofs.Requested.{asks_as, give_closed, give_open, still_asks}
use Rattle.net_steps.proofs.world.World.drop_by_read.Goals as goal

pub drop_opened-requires : goal.drop_opened-requires
drop_opened-requires g c = record { here = c.requires.here }

pub returns-then-not-is_open : goal.returns-then-not-is_open
returns-then-not-is_open g c is_out n node x at is =
    still_asks g.D.Disk.state g.D.Disk.images n g.met.D.Disk.only_now is_out c.args.client c.args.self.now x (λ lucks. to_give n c.args.client c.args.table lucks node) no_lucks refl
    (facts.Refuses facts.NoTable) refl (give_closed n c.args.client c.args.table no_lucks node c.args.is_open is c.if-not-is_open.true)
    c.only.result c.only.ensures.lines c.only.ensures.memory

pub returns : goal.returns
returns g c is_out n node x at is =
    asks_as g.D.Disk.state g.D.Disk.images n (λ lucks. to_give n c.args.client c.args.table lucks node)
    (λ lucks. unless_away n c.args.client lucks node (asks_drop n c.args.client c.args.table (device_at n c.args.client)))
    (λ lucks. give_open n c.args.client c.args.table lucks node c.args.is_open is c.if-not-is_open.false)
    c.drop_opened.result is_out c.args.self.now c.drop_opened.new.self (c.drop_opened.ensures is_out n node x at)
