use Rattle.std.proofs.Common.{◌∙◌, Some, refl, sym, ap}
use Rattle.std.proofs.lemmas.Result.{err_from_is_err_and}
use Rattle.step_tables.specs.Facts as facts
use Rattle.world_tables.specs.World.{no_lucks, schema_at}
use Rattle.gated_tables.specs.Net.{asks_create, device_at}
use Rattle.net_steps.proofs.Requested.{asks_as, memory_asks, still_asks}
use Rattle.net_steps.proofs.world.World.create_declared.Goals as goal

pub send_create-requires : goal.send_create-requires
send_create-requires g c =
    let k = c.requires.here in
    record { here = (k.0, k.1, k.2, sym (c.in_ok-schema.ensures k.1.wire k.2.held.wire) ∙ c.in-Some.is, k.3) }

pub returns-in_err-schema : goal.returns-in_err-schema
returns-in_err-schema g c is_out n x =
    let p = err_from_is_err_and c.from_residual.result c.from_residual.ensures.1 in
    rw p.1 (memory_asks g.D.Disk.state g.D.Disk.images n (λ lucks. asks_create n c.args.client c.args.table (device_at n c.args.client) (schema_at n.wire.world c.args.table)) p.0 p.2 is_out c.args.self.now)

pub returns-in-Some : goal.returns-in-Some
returns-in-Some g c is_out n x =
    let asks = asks_create n c.args.client c.args.table (device_at n c.args.client) in
    asks_as g.D.Disk.state g.D.Disk.images n (λ lucks. asks (schema_at n.wire.world c.args.table)) (λ lucks. asks (Some c.in-Some.schema))
    (λ lucks. ap asks (sym (c.in_ok-schema.ensures n.wire x.held.wire) ∙ c.in-Some.is)) c.send_create.result is_out c.args.self.now c.send_create.new.self (c.send_create.ensures is_out n x)

pub returns-in-None : goal.returns-in-None
returns-in-None g c is_out n x =
    let asks = asks_create n c.args.client c.args.table (device_at n c.args.client) in
    still_asks g.D.Disk.state g.D.Disk.images n g.met.D.Disk.only_now is_out c.args.client c.args.self.now x (λ lucks. asks (schema_at n.wire.world c.args.table)) no_lucks refl facts.Done refl
    (ap asks (sym (c.in_ok-schema.ensures n.wire x.held.wire) ∙ c.in-None.is)) c.only.result c.only.ensures.lines c.only.ensures.memory
