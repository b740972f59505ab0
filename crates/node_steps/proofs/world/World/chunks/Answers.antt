use Rattle.std.proofs.Common.{sym, ◌∙◌, refl}
use Rattle.world_tables.specs.World.{chunk_names}
use Rattle.node_steps.proofs.Showing.{comes_there, comes_not_there, there_now}
use Rattle.node_steps.proofs.world.World.chunks.Goals as goal

pub returns-then-has-clause-done : goal.returns-then-has-clause-done
returns-then-has-clause-done g c w h =
    comes_there g.D.Disk.state w c.args.table (λ lucks o. chunk_names w c.args.table o) c.chunks_there.result _ (sym c.if-has.true ∙ c.has.ensures.held w h.store)
    (λ hosted at. c.chunks_there.ensures.done w hosted h at)

pub chunks_there-requires-clause-there : goal.chunks_there-requires-clause-there
chunks_there-requires-clause-there g c =
    there_now _ (sym c.if-has.true ∙ c.has.ensures.there)

pub returns-clause-done : goal.returns-clause-done
returns-clause-done g c w h =
    comes_not_there g.D.Disk.state w c.args.self.now h c.args.table (λ lucks o. chunk_names w c.args.table o) (λ lucks. refl) c.only.result (sym c.if-has.false ∙ c.has.ensures.held w h.store)
    c.only.ensures.lines
