use Rattle.std.proofs.Common.{[], ◌∙◌, sym}
use Rattle.std.proofs.lemmas.Result.{err_from_is_err_and}
use Rattle.store_node.proofs.Making.{ready_up, memory_only, record_short, record_there}
use Rattle.store_node.proofs.devices.put_missing.Goals as goal

pub table_state-requires : goal.table_state-requires
table_state-requires g c up = let r = c.requires.rests in record { chunks = r.chunk_looked; rows = r.row_looked; log = r.log_looked }

pub returns-in_err-found : goal.returns-in_err-found
returns-in_err-found g c =
    let s = g.D.Disk.state in
    let p = err_from_is_err_and c.from_residual.result c.from_residual.ensures.1 in
    let k = c.in_err-found.ensures in
    rw (p.1, p.2, memory_only s g.D.Disk.images c.args.table.now c.in_err-found.field-0.0 (ready_up s g.D.Disk.images c.args.table.now [] c.requires.rests) k.down k.only) (record_short s g.D.Disk.images g.met.D.Disk.only_now c.args.schema.now c.args.state c.args.table.now c.requires.rests)

pub returns-then-is_put : goal.returns-then-is_put
returns-then-is_put g c =
    record_there g.D.Disk.state g.D.Disk.images g.met.D.Disk.only_now c.args.schema.now c.args.state c.args.table.now c.requires.rests c.requires.idle (sym c.in_ok-found.ensures.table ∙ c.is_put.ensures.0 c.if-is_put.true)
