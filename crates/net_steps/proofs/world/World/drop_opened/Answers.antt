use Rattle.table_model.specs.declared.line.Answer.TheVariants as told
use Rattle.step_tables.specs.Lines.{answer_of}
use Rattle.gated_tables.specs.Net.{asks_drop, device_at, unless_away}
use Rattle.net_steps.proofs.Requested.{asks_as, still_asks}
use Rattle.net_steps.proofs.world.World.drop_opened.Goals as goal

pub away-requires : goal.away-requires
away-requires g c = let k = c.requires.here in record { here = (k.0, k.1, k.2) }

pub send_drop-requires : goal.send_drop-requires
send_drop-requires g c = record { here = c.requires.here }

pub returns-in-Some : goal.returns-in-Some
returns-in-Some g c is_out n node x at =
    let asks = asks_drop n c.args.client c.args.table (device_at n c.args.client) in
    let k = c.in-Some.ensures is_out n x in
    still_asks g.D.Disk.state g.D.Disk.images n g.met.D.Disk.only_now is_out c.args.client c.args.self.now x (λ lucks. unless_away n c.args.client lucks node asks) k.0 k.1
    (answer_of (told.Refused c.in-Some.refusal)) k.2 (k.3 node asks at) c.only.result c.only.ensures.lines c.only.ensures.memory

pub returns-in-None : goal.returns-in-None
returns-in-None g c is_out n node x at =
    let asks = asks_drop n c.args.client c.args.table (device_at n c.args.client) in
    asks_as g.D.Disk.state g.D.Disk.images n (λ lucks. unless_away n c.args.client lucks node asks) (λ lucks. asks) (λ lucks. c.in-None.ensures is_out n x lucks node asks at)
    c.send_drop.result is_out c.args.self.now c.send_drop.new.self (c.send_drop.ensures is_out n x)
