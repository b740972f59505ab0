use Rattle.std.proofs.Common.{ℕ, sym, ap}
use Rattle.table_model.specs.declared.message.Message.TheVariants as messages
use Rattle.gated_tables.specs.Net.{asks_drop, asks_for, device_at}
use Rattle.net_steps.proofs.Requested.{asks_as, drop_short}
use Rattle.net_steps.proofs.world.World.send_drop.Goals as goal

pub ask_for-requires-clause-short : goal.ask_for-requires-clause-short
ask_for-requires-clause-short g c =
    let k = c.requires.here in drop_short g.D.Disk.state k.1 c.args.self.now k.2.held c.args.client c.way_of-to.result.1 c.args.table k.3

pub ask_for-requires-clause-here : goal.ask_for-requires-clause-here
ask_for-requires-clause-here g c = let k = c.requires.here in (k.0, k.1, k.2)

pub returns : goal.returns
returns g c is_out n x =
    let o = device_at n c.args.client in
    let way = c.way_of-to.ensures n x.held in
    asks_as g.D.Disk.state g.D.Disk.images n (λ lucks. asks_drop n c.args.client c.args.table o)
    (λ lucks. asks_for n c.args.client c.args.table o (messages.DropTable (record { client = c.args.client; token = c.way_of-to.result.1; table = c.args.table })))
    (λ lucks. ap (λ (token : ℕ). asks_for n c.args.client c.args.table o (messages.DropTable (record { client = c.args.client; token = token; table = c.args.table }))) (sym way.1))
    c.ask_for.result is_out c.args.self.now c.ask_for.new.self (c.ask_for.ensures is_out n c.args.table x way.0)
