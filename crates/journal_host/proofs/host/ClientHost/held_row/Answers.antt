use Rattle.std.proofs.Common.{refl}
use Rattle.journal_host.specs.Calls.{held_by}
use Rattle.journal_host.proofs.Clients.{some_there, found, found_node, move_cause, plans_more, plans_stay_more}
use Rattle.journal_host.proofs.RowsHeld.{node_up, looks_cause, row_kept, row_fallen, found_there, found_nowhere, nowhere_stays, nowhere_cause}
use Rattle.journal_host.proofs.host.ClientHost.held_row.Goals as goal

pub open_row-requires : goal.open_row-requires
open_row-requires g c =
    let n = c.requires.clients in
    record {
      node = found_node g.D.Disk.state c.args.self.now c.args.client c.in-Some.node.now c.requires.clients c.in-Some.ensures.value;
      up = node_up g.D.Disk.state n.0 c.args.self.now c.args.client c.in-Some.node.now n.1 c.in-Some.ensures.value (c.requires.up n.0 n.1);
    }

pub returns-in-Some-clause-held : goal.returns-in-Some-clause-held
returns-in-Some-clause-held g c w h = found_there g.D.Disk.state w c.args.self.now c.args.client h (λ s. held_by s c.args.table c.args.row.now) c.in-Some.node.now c.in-Some.ensures.value c.open_row.result c.open_row.ensures.held

pub returns-in-Some-clause-kept : goal.returns-in-Some-clause-kept
returns-in-Some-clause-kept g c w h =
    row_kept g.D.Disk.state w c.args.self.now (record c.args.self.now { clients = c.get_mut.follows.lender c.open_row.new.node }) c.args.client c.in-Some.node.now c.open_row.new.node h c.in-Some.ensures.value
    ((c.get_mut.follows.holds c.open_row.new.node).3 (some_there _ _ c.in-Some.ensures.value)).0 refl c.open_row.result c.open_row.ensures.looks c.open_row.ensures.phases

pub returns-in-Some-clause-fallen : goal.returns-in-Some-clause-fallen
returns-in-Some-clause-fallen g c w h =
    row_fallen g.D.Disk.state w c.args.self.now (record c.args.self.now { clients = c.get_mut.follows.lender c.open_row.new.node }) c.args.client c.in-Some.node.now c.open_row.new.node h c.in-Some.ensures.value
    ((c.get_mut.follows.holds c.open_row.new.node).3 (some_there _ _ c.in-Some.ensures.value)).0 refl c.open_row.result c.open_row.ensures.looks c.open_row.ensures.phases

pub returns-in-Some-clause-cause : goal.returns-in-Some-clause-cause
returns-in-Some-clause-cause g c =
    let n = c.requires.clients in
    let there = found g.D.Disk.state n.0 c.args.self.now.clients c.args.client n.1.there c.in-Some.node.now c.in-Some.ensures.value in
    move_cause g.D.Disk.state c.args.self.now.clients (c.get_mut.follows.lender c.open_row.new.node) c.args.client c.in-Some.node.now c.open_row.new.node c.in-Some.ensures.value
    ((c.get_mut.follows.holds c.open_row.new.node).3 (some_there _ _ c.in-Some.ensures.value)).0 c.open_row.result
    (looks_cause g.D.Disk.state there.0 c.in-Some.node.now c.open_row.new.node c.open_row.result (c.open_row.ensures.looks there.0 there.2.client))

pub returns-in-Some-clause-plans : goal.returns-in-Some-clause-plans
returns-in-Some-clause-plans g c n below =
    let w = c.requires.clients in
    let there = found g.D.Disk.state w.0 c.args.self.now.clients c.args.client w.1.there c.in-Some.node.now c.in-Some.ensures.value in
    plans_more g.D.Disk.state c.args.self.now.clients (c.get_mut.follows.lender c.open_row.new.node) c.args.client c.open_row.new.node
    ((c.get_mut.follows.holds c.open_row.new.node).3 (some_there _ _ c.in-Some.ensures.value)).0 c.in-Some.node.now c.in-Some.ensures.value n below ((c.open_row.ensures.looks there.0 there.2.client).plans n)

pub returns-in-None-clause-held : goal.returns-in-None-clause-held
returns-in-None-clause-held g c w h = found_nowhere g.D.Disk.state w c.args.self.now c.args.client h (λ s. held_by s c.args.table c.args.row.now) c.in-None.ensures.value

pub returns-in-None-clause-kept : goal.returns-in-None-clause-kept
returns-in-None-clause-kept g c w h n = nowhere_stays g.D.Disk.state w c.args.self.now _ c.args.client h c.in-None.ensures.value c.get_mut.follows.holds-at-none refl

pub returns-in-None-clause-fallen : goal.returns-in-None-clause-fallen
returns-in-None-clause-fallen g c w h bad = absurd cc

pub returns-in-None-clause-cause : goal.returns-in-None-clause-cause
returns-in-None-clause-cause g c = nowhere_cause g.D.Disk.state c.args.client c.args.self.now.clients _ c.get_mut.follows.holds-at-none _

pub returns-in-None-clause-plans : goal.returns-in-None-clause-plans
returns-in-None-clause-plans g c n below = plans_stay_more g.D.Disk.state c.args.self.now.clients _ c.get_mut.follows.holds-at-none n below
