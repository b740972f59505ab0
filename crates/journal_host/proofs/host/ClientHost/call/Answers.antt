use Rattle.std.proofs.Common.{refl}
use Rattle.table_model.specs.declared.line.Answer.TheVariants as answers
use Rattle.table_model.specs.declared.line.Refusal.TheVariants as refusals
use Rattle.world_tables.specs.World.{client_at}
use Rattle.journal_host.specs.Asks.{asked_by}
use Rattle.journal_host.proofs.Clients.{some_there, found_node, client_called, client_dropped, client_spent, client_kept, client_pairs_asked, client_cause, plans_more, plans_stay_more, nowhere, nowhere_unfit, none_failed}
use Rattle.journal_host.proofs.host.ClientHost.call.Goals as goal

pub call-requires : goal.call-requires
call-requires g c = record { node = found_node g.D.Disk.state c.args.self.now c.args.client c.in-Some.node.now c.requires.clients c.in-Some.ensures.value; may = c.requires.may }

pub returns-in-Some-clause-called : goal.returns-in-Some-clause-called
returns-in-Some-clause-called g c w h fits =
    client_called g.D.Disk.state w c.args.self.now (record c.args.self.now { clients = c.get_mut.follows.lender c.call.new.node; outs = c.call.new.outs }) c.args.client c.in-Some.node.now
    c.call.new.node h c.in-Some.ensures.value
    ((c.get_mut.follows.holds c.call.new.node).3 (some_there _ _ c.in-Some.ensures.value)).0 c.args.request c.call.result c.call.ensures.asked.phases c.call.ensures.down c.call.ensures.asked.made fits

pub returns-in-Some-clause-dropped : goal.returns-in-Some-clause-dropped
returns-in-Some-clause-dropped g c w h unfit =
    client_dropped g.D.Disk.state w c.args.self.now (record c.args.self.now { clients = c.get_mut.follows.lender c.call.new.node; outs = c.call.new.outs }) c.args.client c.in-Some.node.now
    c.call.new.node h c.in-Some.ensures.value
    ((c.get_mut.follows.holds c.call.new.node).3 (some_there _ _ c.in-Some.ensures.value)).0 c.args.request c.call.result c.call.ensures.asked.phases c.call.ensures.down c.call.ensures.asked.dropped unfit

pub returns-in-Some-clause-spent : goal.returns-in-Some-clause-spent
returns-in-Some-clause-spent g c w n h below fits =
    client_spent g.D.Disk.state w c.args.self.now (record c.args.self.now { clients = c.get_mut.follows.lender c.call.new.node; outs = c.call.new.outs }) c.args.client c.in-Some.node.now
    c.call.new.node h c.in-Some.ensures.value
    ((c.get_mut.follows.holds c.call.new.node).3 (some_there _ _ c.in-Some.ensures.value)).0 c.args.request c.call.result c.call.ensures.asked.phases c.call.ensures.down n below c.call.ensures.asked.spent fits

pub returns-in-Some-clause-kept : goal.returns-in-Some-clause-kept
returns-in-Some-clause-kept g c w h =
    client_kept g.D.Disk.state w c.args.self.now (record c.args.self.now { clients = c.get_mut.follows.lender c.call.new.node; outs = c.call.new.outs }) c.args.client c.in-Some.node.now
    c.call.new.node h c.in-Some.ensures.value
    ((c.get_mut.follows.holds c.call.new.node).3 (some_there _ _ c.in-Some.ensures.value)).0 c.args.request c.call.result c.call.ensures.asked.phases c.call.ensures.down c.call.ensures.asked.ends.kept

pub returns-in-Some-clause-cause : goal.returns-in-Some-clause-cause
returns-in-Some-clause-cause g c =
    client_cause g.D.Disk.state c.args.self.now.clients (c.get_mut.follows.lender c.call.new.node) c.args.client c.in-Some.node.now c.call.new.node c.in-Some.ensures.value
    ((c.get_mut.follows.holds c.call.new.node).3 (some_there _ _ c.in-Some.ensures.value)).0 c.call.result c.call.ensures.asked.ends.cause

pub returns-in-None-clause-called : goal.returns-in-None-clause-called
returns-in-None-clause-called g c w h fits = nowhere g.D.Disk.state w c.args.self.now _ c.args.client h c.in-None.ensures.value c.get_mut.follows.holds-at-none refl (asked_by (client_at w c.args.client) c.args.request)

pub returns-in-None-clause-dropped : goal.returns-in-None-clause-dropped
returns-in-None-clause-dropped g c w h unfit = absurd (nowhere_unfit g.D.Disk.state w c.args.self.now c.args.self.now c.args.client h c.in-None.ensures.value refl refl c.args.request unfit)

pub returns-in-None-clause-spent : goal.returns-in-None-clause-spent
returns-in-None-clause-spent g c w n h below fits = tt

pub returns-in-None-clause-kept : goal.returns-in-None-clause-kept
returns-in-None-clause-kept g c w h = tt

pub returns-in-None-clause-cause : goal.returns-in-None-clause-cause
returns-in-None-clause-cause g c = none_failed g.D.Disk.state c.args.client c.args.self.now.clients _ c.get_mut.follows.holds-at-none (answers.Refused refusals.NoTable) (λ bad. absurd cc)

pub returns-in-Some-clause-plans : goal.returns-in-Some-clause-plans
returns-in-Some-clause-plans g c n below =
    plans_more g.D.Disk.state c.args.self.now.clients (c.get_mut.follows.lender c.call.new.node) c.args.client c.call.new.node
    ((c.get_mut.follows.holds c.call.new.node).3 (some_there _ _ c.in-Some.ensures.value)).0 c.in-Some.node.now c.in-Some.ensures.value n below (c.call.ensures.asked.ends.plans n)

pub returns-in-None-clause-plans : goal.returns-in-None-clause-plans
returns-in-None-clause-plans g c n below = plans_stay_more g.D.Disk.state c.args.self.now.clients _ c.get_mut.follows.holds-at-none n below

pub returns-in-Some-clause-pairs : goal.returns-in-Some-clause-pairs
returns-in-Some-clause-pairs g c w count h is =
    client_pairs_asked g.D.Disk.state w c.args.self.now (record c.args.self.now { clients = c.get_mut.follows.lender c.call.new.node; outs = c.call.new.outs }) c.args.client c.in-Some.node.now
    c.call.new.node h c.in-Some.ensures.value
    ((c.get_mut.follows.holds c.call.new.node).3 (some_there _ _ c.in-Some.ensures.value)).0 c.args.request c.call.new.pairs c.call.result c.call.ensures.asked.pairs count is

pub returns-in-None-clause-pairs : goal.returns-in-None-clause-pairs
returns-in-None-clause-pairs g c w count h is = absurd cc
