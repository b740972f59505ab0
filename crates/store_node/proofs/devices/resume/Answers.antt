use Rattle.std.proofs.Common.{ap, ◌∙◌}
use Rattle.std.proofs.lemmas.Result.{err_from_is_err_and}
use Rattle.store_commit.specs.Devs.{Devs}
use Rattle.store_node.specs.Devices.{state_in}
use Rattle.store_node.proofs.Making.{not_resumed, memory_only}
use Rattle.store_node.proofs.devices.resume.Goals as goal

pub returns-in_err-recovery : goal.returns-in_err-recovery
returns-in_err-recovery g c =
    let p = err_from_is_err_and c.from_residual.result c.from_residual.ensures.1 in
    rw (p.1, p.2) (record { begins = c.in_err-recovery.ensures; stage = tt })

pub table_state-requires : goal.table_state-requires
table_state-requires g c up = let r = c.in_ok-recovery.ensures.ready in record { chunks = r.chunk_looked; rows = r.row_looked; log = r.log_looked }

pub returns-in_err-found : goal.returns-in_err-found
returns-in_err-found g c =
    let s = g.D.Disk.state in
    let images = g.D.Disk.images in
    let p = err_from_is_err_and c.from_residual-in_err-found.result c.from_residual-in_err-found.ensures.1 in
    let k = c.in_err-found.ensures in
    let b = c.in_ok-recovery.ensures in
    rw (p.1, p.2, memory_only s images c.begin_start.new.table c.in_err-found.field-0.0 b.up k.down k.only)
    (record { begins = not_resumed s images c.args.table.now c.begin_start.new.table c.in_ok-recovery.recovery b; stage = tt })

pub returns : goal.returns
returns g c =
    let b = c.in_ok-recovery.ensures in
    record { begins = b; stage = c.state_in.ensures ∙ (ap state_in c.in_ok-found.ensures.table ∙ ap (λ (d : Devs). state_in d.held.table) b.same) }
