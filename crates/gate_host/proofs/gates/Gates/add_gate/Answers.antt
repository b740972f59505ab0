use Rattle.std.proofs.Common.{List, sym, subst}
use Rattle.gateway_core.specs.declared.directory.NamedTable.{NamedTable}
use Rattle.gate_host.specs.Holds.{AreDeclared}
use Rattle.gate_host.proofs.Standing.{none_there, not_found, added_held}
use Rattle.gate_host.proofs.gates.Gates.add_gate.Goals as goal

pub returns-clause-held : goal.returns-clause-held
returns-clause-held c stores schemas gates h =
    let s = c.args.self.now in
    let n = c.args.gate in
    let d = subst (λ (l : List NamedTable). AreDeclared stores schemas s.ring l) (sym c.as_slice.ensures.value) h.declared in
    added_held stores schemas gates s h c.insert.new.self n c.in_ok-gateway.gateway c.in_ok-insert.ensures.updates.0 (not_found stores schemas gates s h n (none_there _ c.if-contains_key.ensures))
    (c.in_ok-gateway.ensures stores schemas d)
