use Rattle.net_steps.proofs.Altered.{alters_built, altered, up_stood}
use Rattle.net_steps.proofs.world.World.alter_client.Goals as goal

pub go_through-requires-clause-built : goal.go_through-requires-clause-built
go_through-requires-clause-built g c = alters_built c.args.client c.args.event.now c.requires.alters

pub go_through-requires-clause-held : goal.go_through-requires-clause-held
go_through-requires-clause-held g c =
    let k = c.requires.here in
    (k.0, up_stood g.D.Disk.state (g.P.Depot.state c.args.depot.now).is_out c.args.client k.0 c.args.self.now k.1)

pub returns-clause-comes : goal.returns-clause-comes
returns-clause-comes g c n x =
    let is_out = (g.P.Depot.state c.args.depot.now).is_out in
    let is_after = (g.P.Depot.state c.go_through.new.depot).is_out in
    let s = up_stood g.D.Disk.state is_out c.args.client n c.args.self.now x in
    let k = c.go_through.ensures in
    altered g.D.Disk.state g.D.Disk.images n c.args.client c.args.event.now c.requires.alters is_out is_after c.args.self.now c.go_through.new.self s k.rest c.go_through.result
    (k.done n s) (k.over n s) (λ m below. k.limit n m s below) (λ m below. k.plans n m s below) (k.left n s)
