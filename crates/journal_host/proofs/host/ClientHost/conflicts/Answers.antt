use Rattle.std.proofs.Common.{refl}
use Rattle.table_model.specs.declared.line.Answer.TheVariants as answers
use Rattle.table_model.specs.declared.line.Refusal.TheVariants as refusals
use Rattle.journal_host.proofs.Clients.{some_there, found_node, client_cause, plans_more, plans_stay_more, none_failed}
use Rattle.journal_host.proofs.Listed.{client_lists, list_stays, list_spent, nowhere_lists}
use Rattle.journal_host.proofs.host.ClientHost.conflicts.Goals as goal

pub list-requires : goal.list-requires
list-requires g c = found_node g.D.Disk.state c.args.self.now c.args.client c.in-Some.node.now c.requires.clients c.in-Some.ensures.value

pub returns-in-Some-clause-called : goal.returns-in-Some-clause-called
returns-in-Some-clause-called g c w h =
    client_lists g.D.Disk.state w c.args.self.now (record c.args.self.now { clients = c.get_mut.follows.lender c.list.new.node; outs = c.list.new.outs }) c.args.client c.in-Some.node.now
    c.list.new.node h c.in-Some.ensures.value
    ((c.get_mut.follows.holds c.list.new.node).3 (some_there _ _ c.in-Some.ensures.value)).0 c.args.table c.list.ensures.listed.phases c.list.result c.list.new.pairs c.args.pairs.now c.requires.none c.list.ensures.down c.list.ensures.listed.listed

pub returns-in-Some-clause-spent : goal.returns-in-Some-clause-spent
returns-in-Some-clause-spent g c w n h below =
    list_spent g.D.Disk.state w c.args.self.now (record c.args.self.now { clients = c.get_mut.follows.lender c.list.new.node; outs = c.list.new.outs }) c.args.client c.in-Some.node.now
    c.list.new.node h c.in-Some.ensures.value
    ((c.get_mut.follows.holds c.list.new.node).3 (some_there _ _ c.in-Some.ensures.value)).0 c.args.table c.list.ensures.listed.phases c.list.result n below c.list.ensures.listed.spent

pub returns-in-Some-clause-kept : goal.returns-in-Some-clause-kept
returns-in-Some-clause-kept g c w h =
    list_stays g.D.Disk.state w c.args.self.now (record c.args.self.now { clients = c.get_mut.follows.lender c.list.new.node; outs = c.list.new.outs }) c.args.client c.in-Some.node.now
    c.list.new.node h c.in-Some.ensures.value
    ((c.get_mut.follows.holds c.list.new.node).3 (some_there _ _ c.in-Some.ensures.value)).0 c.args.table c.list.ensures.listed.phases c.list.result c.list.ensures.listed.ends.kept

pub returns-in-Some-clause-cause : goal.returns-in-Some-clause-cause
returns-in-Some-clause-cause g c =
    client_cause g.D.Disk.state c.args.self.now.clients (c.get_mut.follows.lender c.list.new.node) c.args.client c.in-Some.node.now c.list.new.node c.in-Some.ensures.value
    ((c.get_mut.follows.holds c.list.new.node).3 (some_there _ _ c.in-Some.ensures.value)).0 c.list.result c.list.ensures.listed.ends.cause

pub returns-in-Some-clause-plans : goal.returns-in-Some-clause-plans
returns-in-Some-clause-plans g c n below =
    plans_more g.D.Disk.state c.args.self.now.clients (c.get_mut.follows.lender c.list.new.node) c.args.client c.list.new.node
    ((c.get_mut.follows.holds c.list.new.node).3 (some_there _ _ c.in-Some.ensures.value)).0 c.in-Some.node.now c.in-Some.ensures.value n below (c.list.ensures.listed.ends.plans n)

pub returns-in-None-clause-called : goal.returns-in-None-clause-called
returns-in-None-clause-called g c w h =
    let k = nowhere_lists g.D.Disk.state w c.args.self.now _ c.args.client c.args.table h c.in-None.ensures.value c.get_mut.follows.holds-at-none refl in
    (k.0, k.1, k.2 c.args.pairs.now c.requires.none)

pub returns-in-None-clause-spent : goal.returns-in-None-clause-spent
returns-in-None-clause-spent g c w n h below = tt

pub returns-in-None-clause-kept : goal.returns-in-None-clause-kept
returns-in-None-clause-kept g c w h = tt

pub returns-in-None-clause-cause : goal.returns-in-None-clause-cause
returns-in-None-clause-cause g c = none_failed g.D.Disk.state c.args.client c.args.self.now.clients _ c.get_mut.follows.holds-at-none (answers.Refused refusals.NoTable) (λ bad. absurd cc)

pub returns-in-None-clause-plans : goal.returns-in-None-clause-plans
returns-in-None-clause-plans g c n below = plans_stay_more g.D.Disk.state c.args.self.now.clients _ c.get_mut.follows.holds-at-none n below
