use Rattle.std.proofs.Common.{◌≡◌, Some, None}
use Rattle.part_store.specs.Calls.{row_of}
use Rattle.wire_tables.specs.Wire.{gathered_at}
use Rattle.wire_steps.specs.Delivering.{IsViewFor}
use Rattle.wire_steps.proofs.Viewed.{table_up}
use Rattle.wire_steps.proofs.Seen.{unread}
use Rattle.wire_steps.proofs.world.World.view.Goals as goal

pub returns-in-None-clause-seen : goal.returns-in-None-clause-seen
returns-in-None-clause-seen g c v p r h ready part_is =
    let gathers = h.memory.gathers c.args.table (table_up v.world c.args.table ready) in
    unread g.D.Disk.state g.D.Disk.images g.met.D.Disk.only_now v c.args.self.now h (IsViewFor v c.args.table p) c.nothing_seen.result
    (λ hosted there needs. let bad : None ≡ Some (row_of p) = c.in-None.ensures (gathered_at v c.args.table) p gathers part_is needs in absurd cc)
