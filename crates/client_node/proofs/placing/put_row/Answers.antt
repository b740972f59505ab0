use Rattle.std.proofs.Common.{ℕ, ◌<◌, map, Err, sym, subst}
use Rattle.std.specs.Prelude.{◌^◌}
use Rattle.std.proofs.lemmas.Result.{err_from_is_err_and}
use Rattle.client_journal.specs.Standing.{devs}
use Rattle.step_tables.specs.Travels.{send_of}
use Rattle.client_node.specs.declared.fault.CallFault.TheVariants as call
use Rattle.client_node.proofs.Serving.{looks_none}
use Rattle.client_node.proofs.Pulled.{placed_result}
use Rattle.client_node.proofs.placing.put_row.Goals as goal

pub returns-in_err-next-clause-looks : goal.returns-in_err-next-clause-looks
returns-in_err-next-clause-looks g c =
    let p = err_from_is_err_and c.from_residual.result c.from_residual.ensures.1 in
    rw (p.1, p.2) (looks_none g.D.Disk.state g.D.Disk.images g.met.D.Disk.only_now c.args.devs.now c.requires.up c.requires.ready (Err call.Memory) (λ no. cc))

pub plan_row-requires-clause-whole : goal.plan_row-requires-clause-whole
plan_row-requires-clause-whole g c = c.requires.next.row

pub plan_row-requires-clause-few : goal.plan_row-requires-clause-few
plan_row-requires-clause-few g c = subst (λ (n : ℕ). n < 2 ^ 64) (sym c.of_64_bits-position.ensures.same) c.of_64_bits-position.ensures.few

pub returns-clause-readies : goal.returns-clause-readies
returns-clause-readies g c =
    placed_result (devs g.D.Disk.state c.args.devs.now) c.args.client c.args.pulled.now c.args.opened.now c.requires.opened c.args.header.now c.requires.header c.requires.next c.args.slots.now c.requires.held c.requires.newer c.of_64_bits-position.result c.of_64_bits-position.ensures.same
    (map send_of c.in_ok-next.next.items) c.in_ok-next.ensures c.plan_row.result c.plan_row.ensures.plans
