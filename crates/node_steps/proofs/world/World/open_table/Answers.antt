use Rattle.std.proofs.Common.{refl, sym, ◌∙◌, ap}
use Rattle.step_tables.specs.ClientMoves.{Alter, Opens}
use Rattle.step_tables.specs.Facts as facts
use Rattle.world_tables.specs.World.{answered, opens, call, schema_at}
use Rattle.node_steps.specs.Calls.{by_lucks}
use Rattle.node_steps.proofs.Clients.{plans_more}
use Rattle.node_steps.proofs.Counted.{only_counted}
use Rattle.node_steps.proofs.Declared.{to_open}
use Rattle.node_steps.proofs.Done.{comes_as, stays}
use Rattle.node_steps.proofs.world.World.open_table.Goals as goal

pub open_known-requires-clause-held : goal.open_known-requires-clause-held
open_known-requires-clause-held g c = let k = c.requires.held in (k.0, k.1)

pub open_known-requires-clause-opens : goal.open_known-requires-clause-opens
open_known-requires-clause-opens g c =
    let k = c.requires.held in
    to_open c.args.table c.in-Some.schema (k.2.made c.args.table c.in-Some.schema (sym (sym c.in-Some.is ∙ c.in_ok-schema.ensures.known k.0 k.1)))

pub returns-in-Some-clause-done : goal.returns-in-Some-clause-done
returns-in-Some-clause-done g c w h =
    comes_as g.D.Disk.state w (by_lucks (λ shape lucks. opens w c.args.client c.args.table shape lucks (schema_at w c.args.table)))
    (by_lucks (call w c.args.client (Alter c.args.table (Opens c.in-Some.schema)))) c.open_known.result c.open_known.new.self
    (λ lucks. ap (opens w c.args.client c.args.table lucks.shape lucks.calls) (sym (sym c.in-Some.is ∙ c.in_ok-schema.ensures.known w h))) (c.open_known.ensures.done w h)

pub returns-in-None-clause-done : goal.returns-in-None-clause-done
returns-in-None-clause-done g c w h =
    comes_as g.D.Disk.state w (by_lucks (λ shape lucks. opens w c.args.client c.args.table shape lucks (schema_at w c.args.table))) (λ lucks. answered w facts.Done) c.only.result c.args.self.now
    (λ lucks. ap (opens w c.args.client c.args.table lucks.shape lucks.calls) (sym (sym c.in-None.is ∙ c.in_ok-schema.ensures.known w h)))
    (stays g.D.Disk.state w c.args.self.now h facts.Done c.only.result c.only.ensures.lines)

pub returns-in-None-clause-counted : goal.returns-in-None-clause-counted
returns-in-None-clause-counted g c =
    only_counted g.D.Disk.state c.only.result _ c.args.self.now c.args.self.now refl refl refl c.only.ensures.lines

pub returns-in-None-clause-plans : goal.returns-in-None-clause-plans
returns-in-None-clause-plans g c n plans =
    plans_more g.D.Disk.state c.args.self.now c.args.self.now n refl plans
