use Rattle.std.proofs.Common.{Bool, List, sym, ap, ◌∙◌, subst}
use Rattle.std.specs.Prelude.{◌==◌, if◌then◌else◌}
use Rattle.std.specs.List.{list_any}
use Rattle.std.specs.Ordering.{nat_cmp}
use Rattle.std.specs.BTreeMap.{insert_entry}
use Rattle.std.proofs.lemmas.Result.{on_ok_weaker}
use Rattle.gateway_core.specs.declared.directory.NamedTable.{NamedTable}
use Rattle.gate_host.specs.Holds.{AreDeclared, HoldsGates}
use Rattle.gate_host.proofs.Declared.{named_there, one_more}
use Rattle.gate_host.proofs.Standing.{moved_held}
use Rattle.gate_host.proofs.gates.Gates.add_table.Goals as goal

pub returns-then-has_table : goal.returns-then-has_table
returns-then-has_table c stores schemas gates h =
    let s = c.args.self.now in
    let more = insert_entry nat_cmp schemas c.args.table c.args.schema.now in
    let there = named_there stores schemas s.ring s.tables.items h.declared c.args.table in
    let said = ap (λ (l : List NamedTable). list_any (λ (named : NamedTable). named.table == c.args.table) l) c.as_slice.ensures.value in
    subst (λ (b : Bool). HoldsGates stores (if b then schemas else more) gates s) (c.if-has_table.ensures ∙ (said ∙ there)) h

pub returns : goal.returns
returns c stores schemas gates h =
    let s = c.args.self.now in
    let more = insert_entry nat_cmp schemas c.args.table c.args.schema.now in
    let new = record s { gates = c.place_all.new.gates; tables = c.push.new.self } in
    let there = named_there stores schemas s.ring s.tables.items h.declared c.args.table in
    let said = ap (λ (l : List NamedTable). list_any (λ (named : NamedTable). named.table == c.args.table) l) c.as_slice.ensures.value in
    let d = subst (λ (l : List NamedTable). AreDeclared stores more s.ring l) (sym c.in_ok-push.ensures.items)
    (one_more stores schemas s.ring s.tables.items h.declared c.args.table c.args.schema.now c.in_ok-named.named c.in_ok-named.ensures) in
    on_ok_weaker c.place_all.result
    (λ each.
    subst (λ (b : Bool). HoldsGates stores (if b then schemas else more) gates new) (c.if-has_table.ensures ∙ (said ∙ there))
    (moved_held stores stores schemas more gates s new h d each))
    (c.place_all.ensures stores more (subst (λ (l : List NamedTable). AreDeclared stores more s.ring l) (sym c.as_slice-2.ensures.value) d))
