use Rattle.std.proofs.Common.{◌≡◌, ℕ, true, sym, ◌∙◌, ap, subst}
use Rattle.stab_base.specs.declared.node.Node.TheVariants as nodes
use Rattle.world_tables.specs.World.{is_down}
use Rattle.store_host.specs.Holds.{is_up_at}
use Rattle.node_steps.proofs.Found.{down_ready, up_ready}
use Rattle.node_steps.proofs.Showing.{up_for}
use Rattle.node_steps.proofs.world.World.is_table_ready.Goals as goal

pub returns-then-is_down : goal.returns-then-is_down
returns-then-is_down g c w h =
    down_ready g.D.Disk.state w c.args.self.now h c.args.table
    (sym c.if-is_down.true ∙ (c.is_down.ensures.held w h ∙ ap (λ (n : ℕ). is_down w (nodes.Store n)) (c.owner.ensures.held w h)))

pub is_table_idle-requires : goal.is_table_idle-requires
is_table_idle-requires g c = record {
  up = up_for c.args.self.now.store c.args.table
      (subst (λ (n : ℕ). is_up_at c.args.self.now.store n ≡ true) c.owner.ensures.there (c.is_down.ensures.up c.if-is_down.false));
}

pub returns : goal.returns
returns g c w h =
    up_ready g.D.Disk.state w c.args.self.now h c.args.table c.is_table_idle.result (c.is_table_idle.ensures w h)
    (sym c.if-is_down.false ∙ (c.is_down.ensures.held w h ∙ ap (λ (n : ℕ). is_down w (nodes.Store n)) (c.owner.ensures.held w h)))
