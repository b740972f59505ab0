use Rattle.std.proofs.Common.{◌≡◌, ℕ, ◌<◌, List, Some, None, sym, subst, arith}
use Rattle.part_client.specs.Calls.{row_of}
use Rattle.part_client.specs.declared.held.RowHeld.{RowHeld}
use Rattle.part_client.specs.Held.{IsHeldOf}
use Rattle.world_tables.specs.World.{client_falls}
use Rattle.wire_tables.specs.Wire.{arriving_at}
use Rattle.wire_steps.specs.Delivering.{IsHeldFor, IsOpenedAt}
use Rattle.wire_steps.proofs.Viewed.{client_up}
use Rattle.wire_steps.proofs.Seen.{sees_weaker, unread}
use Rattle.wire_steps.proofs.world.World.held.Goals as goal

pub returns-in-Some-clause-seen : goal.returns-in-Some-clause-seen
returns-in-Some-clause-seen g c v p r h ready part_is =
    let keeps = h.memory.arrives c.args.client (client_up v.world c.args.client ready) in
    sees_weaker g.D.Disk.state g.D.Disk.images v (client_falls c.args.client v.world)
    (λ (held : RowHeld). (0 < held.chunk) × ((it : IsOpenedAt v c.args.client c.args.table) → IsHeldOf it.opened c.in-Some.row held))
    (IsHeldFor v c.args.client c.args.table p) c.args.self.now c.read_held.new.self
    (λ held k. record {
      chunk = k.0;
      held = λ it needs.
          let both : Some c.in-Some.row ≡ Some (row_of p) = c.in-Some.ensures (arriving_at v c.args.client) p keeps part_is needs in
          let same : c.in-Some.row ≡ row_of p = cc in
          subst (λ (row : List ℕ). IsHeldOf it.opened row held) same (k.1 it);
    })
    c.read_held.result (c.read_held.ensures.seen v r h ready)

pub returns-in-None-clause-seen : goal.returns-in-None-clause-seen
returns-in-None-clause-seen g c v p r h ready part_is =
    let keeps = h.memory.arrives c.args.client (client_up v.world c.args.client ready) in
    unread g.D.Disk.state g.D.Disk.images g.met.D.Disk.only_now v c.args.self.now h (IsHeldFor v c.args.client c.args.table p) c.nothing_held.result (record {
      chunk = subst (λ (n : ℕ). 0 < n) (sym c.nothing_held.ensures) (omega arith);
      held = λ it needs.
          let bad : None ≡ Some (row_of p) = c.in-None.ensures (arriving_at v c.args.client) p keeps part_is needs in absurd cc;
    })
