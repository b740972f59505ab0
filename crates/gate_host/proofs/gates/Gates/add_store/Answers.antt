use Rattle.std.proofs.Common.{List, ◌∷◌, sym, subst}
use Rattle.std.proofs.lemmas.Result.{on_ok_weaker}
use Rattle.gateway_core.specs.declared.directory.NamedTable.{NamedTable}
use Rattle.gate_host.specs.Holds.{AreDeclared}
use Rattle.gate_host.proofs.Declared.{one_store}
use Rattle.gate_host.proofs.Standing.{moved_held}
use Rattle.gate_host.proofs.gates.Gates.add_store.Goals as goal

pub returns : goal.returns
returns c stores schemas gates h =
    let s = c.args.self.now in
    let more = c.args.store ∷ stores in
    let d = one_store stores schemas s.ring s.tables.items h.declared c.args.store c.join_node.new.self c.in_ok-join_node.ensures.ok in
    on_ok_weaker c.place_all.result
    (λ each. moved_held stores more schemas schemas gates s (record s { gates = c.place_all.new.gates; ring = c.join_node.new.self }) h d each)
    (c.place_all.ensures more schemas (subst (λ (l : List NamedTable). AreDeclared more schemas c.join_node.new.self l) (sym c.as_slice.ensures.value) d))
