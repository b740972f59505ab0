use Rattle.std.proofs.Common.{◌≡◌, Bool, List, Result, Ok, length, sym, subst, ap, ◌∙◌}
use Rattle.std.proofs.lemmas.Result.{err_from_is_err_and}
use Rattle.std.specs.Prelude.{IfOk, OnOk, IsErrOf}
use Rattle.disk_trait.specs.Fuse.{behind, inner_of}
use Rattle.table_model.specs.declared.line.RowPair.{RowPair}
use Rattle.client_journal.specs.Devs.{ClientDevs}
use Rattle.client_journal.specs.Plan.{plan_at_work}
use Rattle.client_journal.specs.Standing.{devs, writes_of}
use Rattle.step_tables.specs.ClientMoves.{ResolveAll, table_at, seen}
use Rattle.step_tables.specs.Facts as facts
use Rattle.client_node.specs.declared.fault.CallFault.{CallFault}
use Rattle.client_node.specs.declared.fault.CallFault.TheVariants as call_faults
use Rattle.client_node.specs.Answers.{IsAnswered}
use Rattle.client_node.specs.declared.node.ClientNode.{ClientNode}
use Rattle.client_node.specs.Does.{Does}
use Rattle.client_node.specs.Listing.{counted, AreCalm, AreContended}
use Rattle.client_node.specs.Node.{IsClient}
use Rattle.client_node.specs.Looks.{Looks}
use Rattle.client_node.specs.Phases.{is_open}
use Rattle.client_node.proofs.AllListed.{lists_all}
use Rattle.client_node.proofs.Answering.{does_node}
use Rattle.client_node.proofs.Asked.{stands_now, steady_now}
use Rattle.client_node.proofs.Contended.{same_ok}
use Rattle.client_node.proofs.Forgotten.{does_after}
use Rattle.client_node.proofs.Opened.{record_numbered}
use Rattle.client_node.proofs.Rooms.{devices_up, node_ready}
use Rattle.client_node.proofs.node.ClientNode.resolvable.Goals as goal

pub list_all-found-requires-clause-up : goal.list_all-found-requires-clause-up
list_all-found-requires-clause-up g c = let n = c.requires.node in devices_up g.D.Disk.state c.args.self.now n.0.disk n.0.agenda n.1

pub list_all-found-requires-clause-ready : goal.list_all-found-requires-clause-ready
list_all-found-requires-clause-ready g c = let n = c.requires.node in node_ready g.D.Disk.state c.args.self.now n.0.disk n.0.agenda n.1 c.requires.up

pub list_all-found-requires-clause-numbered : goal.list_all-found-requires-clause-numbered
list_all-found-requires-clause-numbered g c =
    let n = c.requires.node in
    let old = c.args.self.now in
    record_numbered old.number (devs (λ f. behind g.D.Disk.state f) old.devs) n.0.disk (stands_now g.D.Disk.state g.D.Disk.images old n.0.disk n.0.agenda n.1 c.requires.up) old.waiting
    (steady_now g.D.Disk.state g.D.Disk.images old n.0.disk n.0.agenda n.1 c.requires.up) c.args.table

pub returns-in_err-pairs-clause-does : goal.returns-in_err-pairs-clause-does
returns-in_err-pairs-clause-does g c s t =
    let p = err_from_is_err_and c.from_residual.result c.from_residual.ensures.1 in
    let old = c.args.self.now in
    let call = c.list_all-found in
    let settled = c.in_err-pairs.ensures in
    let same = sym settled.same in
    let k = subst (λ (r : Result (List RowPair) CallFault). Looks (λ f. behind g.D.Disk.state f) (λ f. g.D.Disk.images (inner_of f)) old.devs call.new.devs r) same call.ensures.looks in
    let stands = stands_now g.D.Disk.state g.D.Disk.images old s.disk s.agenda t c.requires.up in
    let steady = steady_now g.D.Disk.state g.D.Disk.images old s.disk s.agenda t c.requires.up in
    let plan = plan_at_work (devs (λ f. behind g.D.Disk.state f) old.devs) (writes_of old.devs) in
    let there = table_at (seen s.disk) c.args.table in
    rw (p.1, p.2)
    (lists_all g.D.Disk.state g.D.Disk.images (λ f image left. g.met.D.Disk.only_now (inner_of f) image left) old s.disk c.args.table c.args.by _ call.new.devs k (λ last. subst (λ (r : Result (List RowPair) CallFault). IsErrOf r (call_faults.Spent last) → ⊥) same (call.ensures.unspent last)) c.settle.new.self settled.disk settled.other
    s.agenda t c.requires.up
    (λ tasks are. subst (λ (r : Result (List RowPair) CallFault). IsAnswered (λ pairs. facts.Number (length pairs)) (counted (is_open old c.args.table) plan tasks c.args.by there) r) same
    (subst (λ (b : Bool). IsAnswered (λ (pairs : List RowPair). facts.Number (length pairs)) (counted b plan tasks c.args.by there) call.result) c.contains-is_open.ensures (call.ensures.answered old.number s.disk tasks stands steady are))))

pub forget_calm-requires : goal.forget_calm-requires
forget_calm-requires g c = ap (λ (n : ClientNode g.row.D.Denot). n.is_up) (c.in_ok-pairs.ensures.other (λ no. cc)) ∙ c.requires.up

pub returns-clause-does : goal.returns-clause-does
returns-clause-does g c s t =
    let st = g.D.Disk.state in
    let im = g.D.Disk.images in
    let old = c.args.self.now in
    let call = c.list_all-found in
    let settled = c.in_ok-pairs.ensures in
    let node = c.settle.new.self in
    let is = settled.other (λ no. cc) in
    let same = sym settled.same in
    let k = subst (λ (r : Result (List RowPair) CallFault). Looks (λ f. behind st f) (λ f. im (inner_of f)) old.devs call.new.devs r) same call.ensures.looks in
    let stands = stands_now st im old s.disk s.agenda t c.requires.up in
    let steady = steady_now st im old s.disk s.agenda t c.requires.up in
    let plan = plan_at_work (devs (λ f. behind st f) old.devs) (writes_of old.devs) in
    let there = table_at (seen s.disk) c.args.table in
    let does = lists_all st im (λ f image left. g.met.D.Disk.only_now (inner_of f) image left) old s.disk c.args.table c.args.by (Ok c.in_ok-pairs.pairs) call.new.devs k (λ last. subst (λ (r : Result (List RowPair) CallFault). IsErrOf r (call_faults.Spent last) → ⊥) same (call.ensures.unspent last)) node settled.disk settled.other
    s.agenda t c.requires.up
    (λ tasks are. subst (λ (r : Result (List RowPair) CallFault). IsAnswered (λ pairs. facts.Number (length pairs)) (counted (is_open old c.args.table) plan tasks c.args.by there) r) same
    (subst (λ (b : Bool). IsAnswered (λ (pairs : List RowPair). facts.Number (length pairs)) (counted b plan tasks c.args.by there) call.result) c.contains-is_open.ensures (call.ensures.answered old.number s.disk tasks stands steady are))) in
    let looks = subst (λ (r : Result (List RowPair) CallFault). OnOk r (devs (λ f. behind st f) call.new.devs ≡ devs (λ f. behind st f) old.devs)) same (same_ok (λ f. behind st f) (λ f. im (inner_of f)) old.devs call.new.devs call.result call.ensures.looks) in
    let calm = subst (λ (r : Result (List RowPair) CallFault). OnOk r (AreCalm (devs (λ f. behind st f) old.devs) c.args.table c.new-calm.result.items → AreCalm (devs (λ f. behind st f) old.devs) c.args.table call.new.calm.items)) same call.ensures.calm in
    let none = calm (subst (AreCalm (devs (λ f. behind st f) old.devs) c.args.table) (sym c.new-calm.ensures.items) tt) in
    let are = subst (λ (d : ClientDevs). AreCalm d c.args.table call.new.calm.items) (sym (ap (λ (n : ClientNode g.row.D.Denot). devs (λ f. behind st f) n.devs) is ∙ looks)) none in
    let keeps = c.forget_calm.ensures.kept (rw c.as_slice.ensures.value are) in
    let told = c.forget_calm.ensures.same in
    subst (λ (n : ClientNode g.row.D.Denot). Does st im s (ResolveAll c.args.table c.args.by) (λ (pairs : List RowPair). facts.Number (length pairs)) old n (Ok c.in_ok-pairs.pairs)) (sym told)
    (does_after st im old node c.forget_calm.new.self.waiting s (ResolveAll c.args.table c.args.by) (λ (pairs : List RowPair). facts.Number (length pairs)) c.in_ok-pairs.pairs does (λ a b. subst (λ (n : ClientNode g.row.D.Denot). IsClient st n a) told (keeps a b)))

pub returns-clause-pairs : goal.returns-clause-pairs
returns-clause-pairs g c s t =
    let old = c.args.self.now in
    let call = c.list_all-found in
    subst (λ (r : Result (List RowPair) CallFault). IfOk r (AreContended s.disk c.args.table)) (sym c.in_ok-pairs.ensures.same)
    (call.ensures.pairs old.number s.disk (stands_now g.D.Disk.state g.D.Disk.images old s.disk s.agenda t c.requires.up) (steady_now g.D.Disk.state g.D.Disk.images old s.disk s.agenda t c.requires.up))

pub returns-in_err-pairs-clause-node : goal.returns-in_err-pairs-clause-node
returns-in_err-pairs-clause-node g c = let n = c.requires.node in does_node g.D.Disk.state g.D.Disk.images n.0 (ResolveAll c.args.table c.args.by) (λ pairs. facts.Number (length pairs)) c.args.self.now _ _ (returns-in_err-pairs-clause-does g c n.0 n.1)

pub returns-clause-node : goal.returns-clause-node
returns-clause-node g c = let n = c.requires.node in does_node g.D.Disk.state g.D.Disk.images n.0 (ResolveAll c.args.table c.args.by) (λ pairs. facts.Number (length pairs)) c.args.self.now _ _ (returns-clause-does g c n.0 n.1)

pub returns-clause-declared : goal.returns-clause-declared
returns-clause-declared g c = ap (λ (n : ClientNode g.row.D.Denot). n.is_declared) (c.forget_calm.ensures.same ∙ ap (λ (n : ClientNode g.row.D.Denot). record n { waiting = c.forget_calm.new.self.waiting }) (c.in_ok-pairs.ensures.other (λ no. cc)))
