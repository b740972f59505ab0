use Rattle.table_model.specs.declared.line.Answer.TheVariants as told
use Rattle.step_tables.specs.Lines.{answer_of}
use Rattle.world_tables.specs.World.{schema_at}
use Rattle.gated_tables.specs.Net.{asks_create, device_at, unless_away}
use Rattle.net_steps.proofs.Requested.{asks_as, still_asks}
use Rattle.net_steps.proofs.world.World.create_up.Goals as goal

pub away-requires : goal.away-requires
away-requires g c = let k = c.requires.here in record { here = (k.0, k.1, k.2) }

pub create_declared-requires : goal.create_declared-requires
create_declared-requires g c = record { here = c.requires.here }

pub returns-in-Some : goal.returns-in-Some
returns-in-Some g c is_out n node x at =
    let asks = asks_create n c.args.client c.args.table (device_at n c.args.client) (schema_at n.wire.world c.args.table) in
    let k = c.in-Some.ensures is_out n x in
    still_asks g.D.Disk.state g.D.Disk.images n g.met.D.Disk.only_now is_out c.args.client c.args.self.now x (λ lucks. unless_away n c.args.client lucks node asks) k.0 k.1
    (answer_of (told.Refused c.in-Some.refusal)) k.2 (k.3 node asks at) c.only.result c.only.ensures.lines c.only.ensures.memory

pub returns-in-None : goal.returns-in-None
returns-in-None g c is_out n node x at =
    let asks = asks_create n c.args.client c.args.table (device_at n c.args.client) (schema_at n.wire.world c.args.table) in
    asks_as g.D.Disk.state g.D.Disk.images n (λ lucks. unless_away n c.args.client lucks node asks) (λ lucks. asks) (λ lucks. c.in-None.ensures is_out n x lucks node asks at)
    c.create_declared.result is_out c.args.self.now c.create_declared.new.self (c.create_declared.ensures is_out n x)
