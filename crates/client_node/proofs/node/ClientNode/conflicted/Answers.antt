use Rattle.std.proofs.Common.{◌≡◌, Bool, List, Ok, Result, sym, subst, ap, ◌∙◌}
use Rattle.std.proofs.lemmas.Result.{err_from_is_err_and}
use Rattle.std.specs.Prelude.{OnOk}
use Rattle.disk_trait.specs.Fuse.{behind, inner_of}
use Rattle.table_model.specs.declared.line.RowPair.{RowPair}
use Rattle.client_journal.specs.Devs.{ClientDevs}
use Rattle.client_journal.specs.Standing.{devs}
use Rattle.step_tables.specs.ClientMoves.{Client, Conflicts, table_at, seen}
use Rattle.step_tables.specs.Facts as facts
use Rattle.client_node.specs.declared.fault.CallFault.{CallFault}
use Rattle.client_node.specs.declared.node.ClientNode.{ClientNode}
use Rattle.client_node.specs.Answers.{IsAnswered}
use Rattle.client_node.specs.Does.{Does}
use Rattle.client_node.specs.Listing.{listed, AreCalm}
use Rattle.client_node.specs.Node.{IsClient}
use Rattle.client_node.specs.Phases.{is_open}
use Rattle.client_node.proofs.Answering.{does_node}
use Rattle.client_node.proofs.Asked.{stands_now, steady_now}
use Rattle.client_node.proofs.Contended.{lists_settled, same_ok}
use Rattle.client_node.proofs.Forgotten.{does_after}
use Rattle.client_node.proofs.Opened.{record_numbered}
use Rattle.client_node.proofs.Rooms.{devices_up, node_ready}
use Rattle.client_node.proofs.node.ClientNode.conflicted.Goals as goal

pub list-found-requires-clause-up : goal.list-found-requires-clause-up
list-found-requires-clause-up g c = let n = c.requires.node in devices_up g.D.Disk.state c.args.self.now n.0.disk n.0.agenda n.1

pub list-found-requires-clause-ready : goal.list-found-requires-clause-ready
list-found-requires-clause-ready g c = let n = c.requires.node in node_ready g.D.Disk.state c.args.self.now n.0.disk n.0.agenda n.1 c.requires.up

pub list-found-requires-clause-numbered : goal.list-found-requires-clause-numbered
list-found-requires-clause-numbered g c =
    let n = c.requires.node in
    let old = c.args.self.now in
    record_numbered old.number (devs (λ f. behind g.D.Disk.state f) old.devs) n.0.disk (stands_now g.D.Disk.state g.D.Disk.images old n.0.disk n.0.agenda n.1 c.requires.up) old.waiting
    (steady_now g.D.Disk.state g.D.Disk.images old n.0.disk n.0.agenda n.1 c.requires.up) c.args.table

pub returns-in_err-pairs-clause-does : goal.returns-in_err-pairs-clause-does
returns-in_err-pairs-clause-does g c s t =
    let st = g.D.Disk.state in
    let im = g.D.Disk.images in
    let p = err_from_is_err_and c.from_residual.result c.from_residual.ensures.1 in
    let old = c.args.self.now in
    let call = c.list-found in
    let k = c.in_err-pairs.ensures in
    let here = call.ensures.answered old.number s.disk (stands_now st im old s.disk s.agenda t c.requires.up) (steady_now st im old s.disk s.agenda t c.requires.up) in
    let phased = subst (λ (b : Bool). IsAnswered (λ (pairs : List RowPair). facts.Pairs pairs) (listed b (table_at (seen s.disk) c.args.table)) call.result) c.contains-is_open.ensures here in
    rw (p.1, p.2)
    (lists_settled st im (λ f image left. g.met.D.Disk.only_now (inner_of f) image left) old s.disk c.args.table call.result call.new.devs call.ensures.looks call.ensures.refused s.agenda t c.requires.up phased _ k.same
    c.settle.new.self k.disk k.other)

pub forget_calm-requires : goal.forget_calm-requires
forget_calm-requires g c = ap (λ (n : ClientNode g.row.D.Denot). n.is_up) (c.in_ok-pairs.ensures.other (λ no. cc)) ∙ c.requires.up

pub returns-clause-does : goal.returns-clause-does
returns-clause-does g c s t =
    let st = g.D.Disk.state in
    let im = g.D.Disk.images in
    let old = c.args.self.now in
    let call = c.list-found in
    let k = c.in_ok-pairs.ensures in
    let settled = c.settle.new.self in
    let is = k.other (λ no. cc) in
    let here = call.ensures.answered old.number s.disk (stands_now st im old s.disk s.agenda t c.requires.up) (steady_now st im old s.disk s.agenda t c.requires.up) in
    let phased = subst (λ (b : Bool). IsAnswered (λ (pairs : List RowPair). facts.Pairs pairs) (listed b (table_at (seen s.disk) c.args.table)) call.result) c.contains-is_open.ensures here in
    let does = lists_settled st im (λ f image left. g.met.D.Disk.only_now (inner_of f) image left) old s.disk c.args.table call.result call.new.devs call.ensures.looks call.ensures.refused s.agenda t c.requires.up phased (Ok c.in_ok-pairs.pairs) k.same settled k.disk k.other in
    let looks = subst (λ (r : Result (List RowPair) CallFault). OnOk r (devs (λ f. behind st f) call.new.devs ≡ devs (λ f. behind st f) old.devs)) (sym k.same) (same_ok (λ f. behind st f) (λ f. im (inner_of f)) old.devs call.new.devs call.result call.ensures.looks) in
    let calm = subst (λ (r : Result (List RowPair) CallFault). OnOk r (AreCalm (devs (λ f. behind st f) old.devs) c.args.table c.new-calm.result.items → AreCalm (devs (λ f. behind st f) old.devs) c.args.table call.new.calm.items)) (sym k.same) call.ensures.calm in
    let none = calm (subst (AreCalm (devs (λ f. behind st f) old.devs) c.args.table) (sym c.new-calm.ensures.items) tt) in
    let there = subst (λ (d : ClientDevs). AreCalm d c.args.table call.new.calm.items) (sym (ap (λ (n : ClientNode g.row.D.Denot). devs (λ f. behind st f) n.devs) is ∙ looks)) none in
    let keeps = c.forget_calm.ensures.kept (rw c.as_slice.ensures.value there) in
    let same = c.forget_calm.ensures.same in
    let new = c.forget_calm.new.self in
    subst (λ (n : ClientNode g.row.D.Denot). Does st im s (Conflicts c.args.table) (λ (pairs : List RowPair). facts.Pairs pairs) old n (Ok c.in_ok-pairs.pairs)) (sym same)
    (does_after st im old settled new.waiting s (Conflicts c.args.table) (λ (pairs : List RowPair). facts.Pairs pairs) c.in_ok-pairs.pairs does (λ a b. subst (λ (n : ClientNode g.row.D.Denot). IsClient st n a) same (keeps a b)))

pub returns-in_err-pairs-clause-node : goal.returns-in_err-pairs-clause-node
returns-in_err-pairs-clause-node g c = let n = c.requires.node in does_node g.D.Disk.state g.D.Disk.images n.0 (Conflicts c.args.table) (λ pairs. facts.Pairs pairs) c.args.self.now _ _ (returns-in_err-pairs-clause-does g c n.0 n.1)

pub returns-clause-node : goal.returns-clause-node
returns-clause-node g c = let n = c.requires.node in does_node g.D.Disk.state g.D.Disk.images n.0 (Conflicts c.args.table) (λ pairs. facts.Pairs pairs) c.args.self.now _ _ (returns-clause-does g c n.0 n.1)

pub returns-clause-declared : goal.returns-clause-declared
returns-clause-declared g c = ap (λ (n : ClientNode g.row.D.Denot). n.is_declared) (c.forget_calm.ensures.same ∙ ap (λ (n : ClientNode g.row.D.Denot). record n { waiting = c.forget_calm.new.self.waiting }) (c.in_ok-pairs.ensures.other (λ no. cc)))
