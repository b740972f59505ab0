use Rattle.std.proofs.Common.{◌≡◌, ℕ, true, sym, ◌∙◌, subst}
use Rattle.stab_base.specs.declared.node.Node.TheVariants as nodes
use Rattle.world_tables.specs.World.{answered, unless_down, names_answer, names_on, chunk_in, schema_at}
use Rattle.store_host.specs.Holds.{is_up_at}
use Rattle.node_steps.specs.Calls.{Comes}
use Rattle.node_steps.proofs.Done.{down_refused, up_goes_on, stays}
use Rattle.node_steps.proofs.Showing.{up_for}
use Rattle.node_steps.proofs.world.World.chunks_there.Goals as goal

pub names-requires-clause-up : goal.names-requires-clause-up
names-requires-clause-up g c =
    up_for c.args.self.now.store c.args.table
    (subst (λ (n : ℕ). is_up_at c.args.self.now.store n ≡ true) c.owner.ensures.there (c.is_down.ensures.up c.if-is_down.false))

pub returns-then-is_down-clause-done : goal.returns-then-is_down-clause-done
returns-then-is_down-clause-done g c w hosted h at =
    let s = answered w (names_answer (names_on (chunk_in (schema_at w c.args.table)) hosted.store.disk)) in
    subst (λ (n : ℕ). Comes g.D.Disk.state w (λ lucks. unless_down w (nodes.Store n) s) c.refuse.result c.args.self.now) (c.owner.ensures.held w hosted h.store at)
    (down_refused g.D.Disk.state w (nodes.Store c.owner.result) (λ lucks. s) c.refuse.result c.args.self.now h
    (sym c.if-is_down.true ∙ c.is_down.ensures.held w h) c.refuse.ensures.lines)

pub returns-clause-done : goal.returns-clause-done
returns-clause-done g c w hosted h at =
    let a = names_answer (names_on (chunk_in (schema_at w c.args.table)) hosted.store.disk) in
    subst (λ (n : ℕ). Comes g.D.Disk.state w (λ lucks. unless_down w (nodes.Store n) (answered w a)) c.names.result c.args.self.now) (c.owner.ensures.held w hosted h.store at)
    (up_goes_on g.D.Disk.state w (nodes.Store c.owner.result) (λ lucks. answered w a) c.names.result c.args.self.now
    (sym c.if-is_down.false ∙ c.is_down.ensures.held w h) (stays g.D.Disk.state w c.args.self.now h a c.names.result (c.names.ensures.lines w hosted h at)))
