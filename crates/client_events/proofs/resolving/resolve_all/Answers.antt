use Rattle.std.proofs.Common.{ℕ, suc, ◌+◌, length, List, Ok, sym, ap, ◌∙◌, subst, arith}
use Rattle.std.specs.Prelude.{IfOk, IfErr}
use Rattle.std.proofs.lemmas.Result.{err_from_is_err_and}
use Rattle.table_model.specs.declared.line.Answer.{Answer}
use Rattle.table_model.specs.declared.line.RowPair.{RowPair}
use Rattle.step_tables.specs.ClientMoves.{ResolveAll}
use Rattle.world_tables.specs.World.{client_at, client_pairs}
use Rattle.journal_host.specs.Moves.{call_alone}
use Rattle.journal_host.specs.Holds.{HavePlansBelow}
use Rattle.client_events.specs.Resolves.{IsCauseAbove}
use Rattle.client_events.proofs.Wholes.{are_clients}
use Rattle.client_events.proofs.Each.{Resolved, all_back, some_ready, resolved_event, refused_all, spent_all, spent_first, cause_both, number_isnt, number_is, not_number, plans_to}
use Rattle.client_events.proofs.resolving.resolve_all.Goals as goal

pub resolve_each-requires : goal.resolve_each-requires
resolve_each-requires g c =
    let a = c.requires in
    are_clients g.D.Disk.state c.args.clients.now c.resolvable.new.self (call_alone a.0 c.args.client (ResolveAll c.args.table c.args.by)) (Ok c.in_ok-found.found) (c.in_ok-found.ensures.called a.0 a.1)

pub returns-in_err-found-clause-spent : goal.returns-in_err-found-clause-spent
returns-in_err-found-clause-spent g c w n h below =
    let p = err_from_is_err_and c.from_residual.result c.from_residual.ensures.1 in
    rw (p.1, p.2) (spent_first n (length (client_pairs (client_at w c.args.client) c.args.table)) (client_at w c.args.client) _ (c.in_err-found.ensures.spent w n h below))

pub returns-in_err-found-clause-cause : goal.returns-in_err-found-clause-cause
returns-in_err-found-clause-cause g c =
    let p = err_from_is_err_and c.from_residual.result c.from_residual.ensures.1 in
    rw (p.1, p.2) c.in_err-found.ensures.cause

pub returns-in_err-found-clause-plans : goal.returns-in_err-found-clause-plans
returns-in_err-found-clause-plans g c w n h below =
    let rows : ℕ = length (client_pairs (client_at w c.args.client) c.args.table) in
    plans_to g.D.Disk.state (suc n) (suc rows + n) c.resolvable.new.self.clients (omega arith) (c.resolvable.ensures.plans n below)

pub returns-in-Some-clause-called : goal.returns-in-Some-clause-called
returns-in-Some-clause-called g c w h =
    let is = number_is c.in_ok-found.found c.in-Some.count c.in-Some.ensures in
    let k = c.in_ok-found.ensures.called w h in
    let r = some_ready g.D.Disk.state w c.args.clients.now c.resolvable.new.self c.args.client c.args.table c.args.by c.in_ok-found.found k c.in-Some.count is in
    resolved_event g.D.Disk.state w c.args.clients.now c.resolvable.new.self c.args.client c.args.table c.args.by c.in_ok-found.found k c.in-Some.count is c.resolve_each.new.clients c.resolve_each.result
    (subst (λ (ps : List RowPair). IfOk c.resolve_each.result (Resolved g.D.Disk.state w c.resolvable.new.self c.resolve_each.new.clients c.args.client c.args.table c.args.by ps c.in-Some.count))
    (c.in_ok-found.ensures.pairs w c.in-Some.count h (ap (λ (a : Answer). Ok a) is))
    (c.resolve_each.ensures.resolved w r.0 (all_back g.D.Disk.state w c.args.clients.now c.resolvable.new.self c.args.client c.args.table c.args.by c.in_ok-found.found k c.in-Some.count is) r.1))

pub returns-in-Some-clause-spent : goal.returns-in-Some-clause-spent
returns-in-Some-clause-spent g c w n h below =
    let is = number_is c.in_ok-found.found c.in-Some.count c.in-Some.ensures in
    let k = c.in_ok-found.ensures.called w h in
    spent_all g.D.Disk.state w c.args.clients.now c.resolvable.new.self c.args.client c.args.table c.args.by c.in_ok-found.found k c.in-Some.count is n c.resolve_each.result
    (λ last r. subst (λ (ps : List RowPair). IfErr c.resolve_each.result (IsCauseAbove (suc n) last (length ps)))
    (c.in_ok-found.ensures.pairs w c.in-Some.count h (ap (λ (a : Answer). Ok a) is))
    (c.resolve_each.ensures.spent w (suc n) last (all_back g.D.Disk.state w c.args.clients.now c.resolvable.new.self c.args.client c.args.table c.args.by c.in_ok-found.found k c.in-Some.count is) r
    (c.resolvable.ensures.plans n below)))

pub returns-in-Some-clause-cause : goal.returns-in-Some-clause-cause
returns-in-Some-clause-cause g c =
    let is = number_is c.in_ok-found.found c.in-Some.count c.in-Some.ensures in
    cause_both g.D.Disk.state c.args.client c.args.clients.now.clients c.resolvable.new.self.clients c.resolve_each.new.clients.clients c.in_ok-found.found c.resolve_each.result
    (λ bad. number_isnt c.in-Some.count (sym (ap (λ (a : Answer). Ok a) is) ∙ bad)) c.in_ok-found.ensures.cause c.resolve_each.ensures.cause

pub returns-in-Some-clause-plans : goal.returns-in-Some-clause-plans
returns-in-Some-clause-plans g c w n h below =
    let is = number_is c.in_ok-found.found c.in-Some.count c.in-Some.ensures in
    let rows : ℕ = length (client_pairs (client_at w c.args.client) c.args.table) in
    plans_to g.D.Disk.state (rows + suc n) (suc rows + n) c.resolve_each.new.clients.clients (omega arith)
    (subst (λ (ps : List RowPair). HavePlansBelow g.D.Disk.state (length ps + suc n) c.resolve_each.new.clients.clients)
    (c.in_ok-found.ensures.pairs w c.in-Some.count h (ap (λ (a : Answer). Ok a) is)) (c.resolve_each.ensures.plans (suc n) (c.resolvable.ensures.plans n below)))

pub returns-in-None-clause-called : goal.returns-in-None-clause-called
returns-in-None-clause-called g c w h =
    refused_all g.D.Disk.state w c.args.clients.now c.resolvable.new.self c.args.client c.args.table c.args.by c.in_ok-found.found (c.in_ok-found.ensures.called w h)
    (not_number c.in_ok-found.found c.in-None.ensures)

pub returns-in-None-clause-cause : goal.returns-in-None-clause-cause
returns-in-None-clause-cause g c = c.in_ok-found.ensures.cause

pub returns-in-None-clause-plans : goal.returns-in-None-clause-plans
returns-in-None-clause-plans g c w n h below =
    let rows : ℕ = length (client_pairs (client_at w c.args.client) c.args.table) in
    plans_to g.D.Disk.state (suc n) (suc rows + n) c.resolvable.new.self.clients (omega arith) (c.resolvable.ensures.plans n below)
