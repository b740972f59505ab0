use Rattle.std.proofs.Common.{subst}
use Rattle.step_tables.specs.ClientMoves.{ClientMove}
use Rattle.world_tables.specs.World.{call}
use Rattle.journal_host.specs.Calls.{Comes}
use Rattle.client_events.proofs.AsksNone.{none_asked, some_asked, next_asked}
use Rattle.client_events.proofs.events.pull.Goals as goal

pub call-requires : goal.call-requires
call-requires g c = c.requires.clients

pub returns-then-len-eq0-clause-called : goal.returns-then-len-eq0-clause-called
returns-then-len-eq0-clause-called g c w h is =
    subst (λ (move : ClientMove). Comes g.D.Disk.state c.args.clients.now c.call.new.clients (call w c.args.client move) c.call.result)
    (next_asked c.args.table c.args.tears c.args.asks (none_asked c.args.asks c.len.result c.len.ensures c.if-len-eq0.true) c.requires.none) (c.call.ensures.called w h is)

pub ask_whole-requires-clause-some : goal.ask_whole-requires-clause-some
ask_whole-requires-clause-some g c = some_asked c.args.asks c.len.result c.len.ensures c.if-len-eq0.false
