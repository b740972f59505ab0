use Rattle.std.proofs.Common.{◌≡◌, Some, sym, ◌∙◌}
use Rattle.journal_host.proofs.Shut.{shut_in, shut_none, reads_looks, looks_none, if_ok}
use Rattle.journal_host.specs.Asks.{asked_by}
use Rattle.journal_host.specs.Steps.{IsShut}
use Rattle.client_node.specs.Closed.{closed_in}
use Rattle.step_tables.specs.ClientMoves.{table_at, seen}
use Rattle.journal_host.proofs.hosted.is_shut.Goals as goal

pub returns-in-Some-clause-shut : goal.returns-in-Some-clause-shut
returns-in-Some-clause-shut g c s t =
    if_ok (λ closed. closed ≡ closed_in (table_at (seen s.disk) c.in-Some.table)) (IsShut s (asked_by (Some s) c.args.request.now))
    (λ closed is. shut_in s (Some s) c.args.request.now c.in-Some.table (sym c.table.ensures ∙ c.in-Some.is) closed is) c.has_closed.result (c.has_closed.ensures.held s t)

pub returns-in-Some-clause-looks : goal.returns-in-Some-clause-looks
returns-in-Some-clause-looks g c s t = reads_looks g.D.Disk.state g.D.Disk.images s c.args.node.now c.has_closed.new.self c.has_closed.result (c.has_closed.ensures.reads s t)

pub returns-in-Some-clause-plans : goal.returns-in-Some-clause-plans
returns-in-Some-clause-plans g c n below = c.has_closed.ensures.plans n below

pub returns-in-None-clause-shut : goal.returns-in-None-clause-shut
returns-in-None-clause-shut g c s t = shut_none s (Some s) c.args.request.now (sym c.table.ensures ∙ c.in-None.is)

pub returns-in-None-clause-looks : goal.returns-in-None-clause-looks
returns-in-None-clause-looks g c s t = looks_none g.D.Disk.state s c.args.node.now _ t

pub returns-in-None-clause-plans : goal.returns-in-None-clause-plans
returns-in-None-clause-plans g c n below = below
