use Rattle.std.proofs.Common.{◌≡◌, List, sym, ◌∙◌, subst, rules}
use Rattle.std.proofs.lemmas.List.{nil_from_length}
use Rattle.std.proofs.lemmas.Result.{err_from_is_err_and}
use Rattle.table_model.specs.declared.line.Answer.TheVariants as answers
use Rattle.table_model.specs.declared.line.RowPair.{RowPair}
use Rattle.client_events.proofs.Each.{Resolving, resolving_first, resolving_next, resolved_badly, resolved_all, spent_behind, plans_behind, plans_all}
use Rattle.client_events.proofs.resolving.resolve_each.Goals as goal

pub loop-pair-init : goal.loop-pair-init
loop-pair-init g c =
    let same : c.into_iter-pair-iterator.result.rest.items ≡ c.args.pairs = search rules in
    subst (λ (rest : List RowPair). Resolving g.D.Disk.state c.args.clients.now c.args.clients.now c.args.client c.args.table c.args.by c.args.pairs rest) (sym same)
    (resolving_first g.D.Disk.state c.args.clients.now c.args.client c.args.table c.args.by c.args.pairs c.requires)

pub resolve_one-requires : goal.resolve_one-requires
resolve_one-requires g c = c.loop-pair.invariant.some

pub loop-pair-preserved : goal.loop-pair-preserved
loop-pair-preserved g c =
    let x = subst (λ (l : List RowPair). Resolving g.D.Disk.state c.args.clients.now c.loop-pair.clients c.args.client c.args.table c.args.by c.args.pairs l) c.in-Some.ensures.steps.0 c.loop-pair.invariant in
    resolving_next g.D.Disk.state c.args.clients.now c.args.client c.args.table c.args.by c.args.pairs c.loop-pair.clients c.resolve_one.new.clients c.in-Some.pair c.next.new.self.rest.items c.in_ok-done.done
    x (sym c.is_fault.ensures ∙ c.if-is_fault.false) c.in_ok-done.ensures.held c.in_ok-done.ensures.cause c.resolve_one.ensures.plans c.in_ok-done.ensures.resolved

pub loop-pair-preserved-else-is_fault : goal.loop-pair-preserved-else-is_fault
loop-pair-preserved-else-is_fault g c =
    let x = subst (λ (l : List RowPair). Resolving g.D.Disk.state c.args.clients.now c.loop-pair.clients c.args.client c.args.table c.args.by c.args.pairs l) c.in-Some.ensures.steps.0 c.loop-pair.invariant in
    resolving_next g.D.Disk.state c.args.clients.now c.args.client c.args.table c.args.by c.args.pairs c.loop-pair.clients c.resolve_one.new.clients c.in-Some.pair c.next.new.self.rest.items c.in_ok-done.done
    x (sym c.is_fault.ensures ∙ c.if-is_fault.false) c.in_ok-done.ensures.held c.in_ok-done.ensures.cause c.resolve_one.ensures.plans c.in_ok-done.ensures.resolved

pub loop-pair-preserved-else-is_fault-2 : goal.loop-pair-preserved-else-is_fault-2
loop-pair-preserved-else-is_fault-2 g c =
    let x = subst (λ (l : List RowPair). Resolving g.D.Disk.state c.args.clients.now c.loop-pair.clients c.args.client c.args.table c.args.by c.args.pairs l) c.in-Some.ensures.steps.0 c.loop-pair.invariant in
    resolving_next g.D.Disk.state c.args.clients.now c.args.client c.args.table c.args.by c.args.pairs c.loop-pair.clients c.resolve_one.new.clients c.in-Some.pair c.next.new.self.rest.items c.in_ok-done.done
    x (sym c.is_fault.ensures ∙ c.if-is_fault.false) c.in_ok-done.ensures.held c.in_ok-done.ensures.cause c.resolve_one.ensures.plans c.in_ok-done.ensures.resolved

pub loop-pair-preserved-else-is_fault-3 : goal.loop-pair-preserved-else-is_fault-3
loop-pair-preserved-else-is_fault-3 g c =
    let x = subst (λ (l : List RowPair). Resolving g.D.Disk.state c.args.clients.now c.loop-pair.clients c.args.client c.args.table c.args.by c.args.pairs l) c.in-Some.ensures.steps.0 c.loop-pair.invariant in
    resolving_next g.D.Disk.state c.args.clients.now c.args.client c.args.table c.args.by c.args.pairs c.loop-pair.clients c.resolve_one.new.clients c.in-Some.pair c.next.new.self.rest.items c.in_ok-done.done
    x (sym c.is_fault.ensures ∙ c.if-is_fault.false) c.in_ok-done.ensures.held c.in_ok-done.ensures.cause c.resolve_one.ensures.plans c.in_ok-done.ensures.resolved

pub loop-pair-preserved-else-is_fault-4 : goal.loop-pair-preserved-else-is_fault-4
loop-pair-preserved-else-is_fault-4 g c =
    let x = subst (λ (l : List RowPair). Resolving g.D.Disk.state c.args.clients.now c.loop-pair.clients c.args.client c.args.table c.args.by c.args.pairs l) c.in-Some.ensures.steps.0 c.loop-pair.invariant in
    resolving_next g.D.Disk.state c.args.clients.now c.args.client c.args.table c.args.by c.args.pairs c.loop-pair.clients c.resolve_one.new.clients c.in-Some.pair c.next.new.self.rest.items c.in_ok-done.done
    x (sym c.is_fault.ensures ∙ c.if-is_fault.false) c.in_ok-done.ensures.held c.in_ok-done.ensures.cause c.resolve_one.ensures.plans c.in_ok-done.ensures.resolved

pub loop-pair-preserved-else-is_fault-5 : goal.loop-pair-preserved-else-is_fault-5
loop-pair-preserved-else-is_fault-5 g c =
    let x = subst (λ (l : List RowPair). Resolving g.D.Disk.state c.args.clients.now c.loop-pair.clients c.args.client c.args.table c.args.by c.args.pairs l) c.in-Some.ensures.steps.0 c.loop-pair.invariant in
    resolving_next g.D.Disk.state c.args.clients.now c.args.client c.args.table c.args.by c.args.pairs c.loop-pair.clients c.resolve_one.new.clients c.in-Some.pair c.next.new.self.rest.items c.in_ok-done.done
    x (sym c.is_fault.ensures ∙ c.if-is_fault.false) c.in_ok-done.ensures.held c.in_ok-done.ensures.cause c.resolve_one.ensures.plans c.in_ok-done.ensures.resolved

pub loop-pair-preserved-else-is_fault-6 : goal.loop-pair-preserved-else-is_fault-6
loop-pair-preserved-else-is_fault-6 g c =
    let x = subst (λ (l : List RowPair). Resolving g.D.Disk.state c.args.clients.now c.loop-pair.clients c.args.client c.args.table c.args.by c.args.pairs l) c.in-Some.ensures.steps.0 c.loop-pair.invariant in
    resolving_next g.D.Disk.state c.args.clients.now c.args.client c.args.table c.args.by c.args.pairs c.loop-pair.clients c.resolve_one.new.clients c.in-Some.pair c.next.new.self.rest.items c.in_ok-done.done
    x (sym c.is_fault.ensures ∙ c.if-is_fault.false) c.in_ok-done.ensures.held c.in_ok-done.ensures.cause c.resolve_one.ensures.plans c.in_ok-done.ensures.resolved

pub loop-pair-preserved-else-is_fault-7 : goal.loop-pair-preserved-else-is_fault-7
loop-pair-preserved-else-is_fault-7 g c =
    let x = subst (λ (l : List RowPair). Resolving g.D.Disk.state c.args.clients.now c.loop-pair.clients c.args.client c.args.table c.args.by c.args.pairs l) c.in-Some.ensures.steps.0 c.loop-pair.invariant in
    resolving_next g.D.Disk.state c.args.clients.now c.args.client c.args.table c.args.by c.args.pairs c.loop-pair.clients c.resolve_one.new.clients c.in-Some.pair c.next.new.self.rest.items c.in_ok-done.done
    x (sym c.is_fault.ensures ∙ c.if-is_fault.false) c.in_ok-done.ensures.held c.in_ok-done.ensures.cause c.resolve_one.ensures.plans c.in_ok-done.ensures.resolved

pub loop-pair-preserved-else-is_fault-8 : goal.loop-pair-preserved-else-is_fault-8
loop-pair-preserved-else-is_fault-8 g c =
    let x = subst (λ (l : List RowPair). Resolving g.D.Disk.state c.args.clients.now c.loop-pair.clients c.args.client c.args.table c.args.by c.args.pairs l) c.in-Some.ensures.steps.0 c.loop-pair.invariant in
    resolving_next g.D.Disk.state c.args.clients.now c.args.client c.args.table c.args.by c.args.pairs c.loop-pair.clients c.resolve_one.new.clients c.in-Some.pair c.next.new.self.rest.items c.in_ok-done.done
    x (sym c.is_fault.ensures ∙ c.if-is_fault.false) c.in_ok-done.ensures.held c.in_ok-done.ensures.cause c.resolve_one.ensures.plans c.in_ok-done.ensures.resolved

pub loop-pair-preserved-else-is_fault-9 : goal.loop-pair-preserved-else-is_fault-9
loop-pair-preserved-else-is_fault-9 g c =
    let x = subst (λ (l : List RowPair). Resolving g.D.Disk.state c.args.clients.now c.loop-pair.clients c.args.client c.args.table c.args.by c.args.pairs l) c.in-Some.ensures.steps.0 c.loop-pair.invariant in
    resolving_next g.D.Disk.state c.args.clients.now c.args.client c.args.table c.args.by c.args.pairs c.loop-pair.clients c.resolve_one.new.clients c.in-Some.pair c.next.new.self.rest.items c.in_ok-done.done
    x (sym c.is_fault.ensures ∙ c.if-is_fault.false) c.in_ok-done.ensures.held c.in_ok-done.ensures.cause c.resolve_one.ensures.plans c.in_ok-done.ensures.resolved

pub loop-pair-preserved-else-is_fault-10 : goal.loop-pair-preserved-else-is_fault-10
loop-pair-preserved-else-is_fault-10 g c =
    let x = subst (λ (l : List RowPair). Resolving g.D.Disk.state c.args.clients.now c.loop-pair.clients c.args.client c.args.table c.args.by c.args.pairs l) c.in-Some.ensures.steps.0 c.loop-pair.invariant in
    resolving_next g.D.Disk.state c.args.clients.now c.args.client c.args.table c.args.by c.args.pairs c.loop-pair.clients c.resolve_one.new.clients c.in-Some.pair c.next.new.self.rest.items c.in_ok-done.done
    x (sym c.is_fault.ensures ∙ c.if-is_fault.false) c.in_ok-done.ensures.held c.in_ok-done.ensures.cause c.resolve_one.ensures.plans c.in_ok-done.ensures.resolved

pub loop-pair-preserved-else-is_fault-11 : goal.loop-pair-preserved-else-is_fault-11
loop-pair-preserved-else-is_fault-11 g c =
    let x = subst (λ (l : List RowPair). Resolving g.D.Disk.state c.args.clients.now c.loop-pair.clients c.args.client c.args.table c.args.by c.args.pairs l) c.in-Some.ensures.steps.0 c.loop-pair.invariant in
    resolving_next g.D.Disk.state c.args.clients.now c.args.client c.args.table c.args.by c.args.pairs c.loop-pair.clients c.resolve_one.new.clients c.in-Some.pair c.next.new.self.rest.items c.in_ok-done.done
    x (sym c.is_fault.ensures ∙ c.if-is_fault.false) c.in_ok-done.ensures.held c.in_ok-done.ensures.cause c.resolve_one.ensures.plans c.in_ok-done.ensures.resolved

pub loop-pair-preserved-else-is_fault-12 : goal.loop-pair-preserved-else-is_fault-12
loop-pair-preserved-else-is_fault-12 g c =
    let x = subst (λ (l : List RowPair). Resolving g.D.Disk.state c.args.clients.now c.loop-pair.clients c.args.client c.args.table c.args.by c.args.pairs l) c.in-Some.ensures.steps.0 c.loop-pair.invariant in
    resolving_next g.D.Disk.state c.args.clients.now c.args.client c.args.table c.args.by c.args.pairs c.loop-pair.clients c.resolve_one.new.clients c.in-Some.pair c.next.new.self.rest.items c.in_ok-done.done
    x (sym c.is_fault.ensures ∙ c.if-is_fault.false) c.in_ok-done.ensures.held c.in_ok-done.ensures.cause c.resolve_one.ensures.plans c.in_ok-done.ensures.resolved

pub returns-in_err-done-clause-spent : goal.returns-in_err-done-clause-spent
returns-in_err-done-clause-spent g c w n last h r below =
    let p = err_from_is_err_and c.from_residual.result c.from_residual.ensures.1 in
    let x = subst (λ (l : List RowPair). Resolving g.D.Disk.state c.args.clients.now c.loop-pair.clients c.args.client c.args.table c.args.by c.args.pairs l) c.in-Some.ensures.steps.0 c.loop-pair.invariant in
    rw (p.1, p.2) (spent_behind g.D.Disk.state c.args.clients.now c.args.client c.args.table c.args.by c.args.pairs c.loop-pair.clients c.in-Some.pair c.next.new.self.rest.items x _
    c.in_err-done.ensures.spent w n last h r below)

pub returns-in_err-done-clause-plans : goal.returns-in_err-done-clause-plans
returns-in_err-done-clause-plans g c n below =
    let x = subst (λ (l : List RowPair). Resolving g.D.Disk.state c.args.clients.now c.loop-pair.clients c.args.client c.args.table c.args.by c.args.pairs l) c.in-Some.ensures.steps.0 c.loop-pair.invariant in
    plans_behind g.D.Disk.state c.args.clients.now c.args.client c.args.table c.args.by c.args.pairs c.loop-pair.clients c.resolve_one.new.clients c.in-Some.pair c.next.new.self.rest.items answers.Done
    x c.resolve_one.ensures.plans n below

pub returns-then-is_fault-clause-resolved : goal.returns-then-is_fault-clause-resolved
returns-then-is_fault-clause-resolved g c w last h r =
    let x = subst (λ (l : List RowPair). Resolving g.D.Disk.state c.args.clients.now c.loop-pair.clients c.args.client c.args.table c.args.by c.args.pairs l) c.in-Some.ensures.steps.0 c.loop-pair.invariant in
    resolved_badly g.D.Disk.state c.args.clients.now c.args.client c.args.table c.args.by c.args.pairs c.loop-pair.clients c.resolve_one.new.clients c.in-Some.pair c.next.new.self.rest.items c.in_ok-done.done
    x (sym c.is_fault.ensures ∙ c.if-is_fault.true) c.in_ok-done.ensures.resolved w last c.args.count h r

pub returns-then-is_fault-clause-plans : goal.returns-then-is_fault-clause-plans
returns-then-is_fault-clause-plans g c n below =
    let x = subst (λ (l : List RowPair). Resolving g.D.Disk.state c.args.clients.now c.loop-pair.clients c.args.client c.args.table c.args.by c.args.pairs l) c.in-Some.ensures.steps.0 c.loop-pair.invariant in
    plans_behind g.D.Disk.state c.args.clients.now c.args.client c.args.table c.args.by c.args.pairs c.loop-pair.clients c.resolve_one.new.clients c.in-Some.pair c.next.new.self.rest.items c.in_ok-done.done
    x c.resolve_one.ensures.plans n below

pub returns-clause-resolved : goal.returns-clause-resolved
returns-clause-resolved g c w last h r =
    resolved_all g.D.Disk.state c.args.clients.now c.args.client c.args.table c.args.by c.args.pairs c.loop-pair.clients
    (subst (λ (l : List RowPair). Resolving g.D.Disk.state c.args.clients.now c.loop-pair.clients c.args.client c.args.table c.args.by c.args.pairs l)
    (nil_from_length _ (sym c.loop-pair.pair-iterator.rest.ok.0 ∙ c.in-None.ensures.steps.0)) c.loop-pair.invariant) w last c.args.count h r

pub returns-clause-plans : goal.returns-clause-plans
returns-clause-plans g c n below =
    plans_all g.D.Disk.state c.args.clients.now c.args.client c.args.table c.args.by c.args.pairs c.loop-pair.clients c.loop-pair.pair-iterator.rest.items c.loop-pair.invariant n below
