use Rattle.std.proofs.Common.{ℕ, [], List, Option, sym, ◌∙◌, ap}
use Rattle.std.specs.Prelude.{unwrap_or}
use Rattle.std.proofs.lemmas.Result.{err_from_is_err_and}
use Rattle.store_node.proofs.Onlys.{only_named, only_err}
use Rattle.store_node.proofs.reading.read_chunk.Goals as goal

pub returns-in_err-bytes-clause-reads : goal.returns-in_err-bytes-clause-reads
returns-in_err-bytes-clause-reads g c =
    let p = err_from_is_err_and c.from_residual.result c.from_residual.ensures.1 in
    rw (p.1, p.2) (only_err g.D.Disk.state g.D.Disk.images g.met.D.Disk.only_now c.args.table.now c.chunk.new.self c.in_err-bytes.field-0.0 (record { asks = c.in_err-bytes.ensures.asks; scanned = c.in_err-bytes.ensures.scanned }))

pub returns-in-Some-clause-reads : goal.returns-in-Some-clause-reads
returns-in-Some-clause-reads g c = only_named g.D.Disk.state g.D.Disk.images g.met.D.Disk.only_now c.args.table.now c.chunk.new.self c.in_ok-bytes.field-0 c.in-Some.bytes (record { asks = c.in_ok-bytes.ensures.asks; scanned = c.in_ok-bytes.ensures.scanned })

pub returns-in-None-clause-reads : goal.returns-in-None-clause-reads
returns-in-None-clause-reads g c = only_named g.D.Disk.state g.D.Disk.images g.met.D.Disk.only_now c.args.table.now c.chunk.new.self c.in_ok-bytes.field-0 c.new.result (record { asks = c.in_ok-bytes.ensures.asks; scanned = c.in_ok-bytes.ensures.scanned })

pub returns-in-Some-clause-bytes : goal.returns-in-Some-clause-bytes
returns-in-Some-clause-bytes g c = sym (ap (λ (o : Option (List ℕ)). unwrap_or o []) (c.in_ok-bytes.ensures.chunk ∙ c.in-Some.is))

pub returns-in-None-clause-bytes : goal.returns-in-None-clause-bytes
returns-in-None-clause-bytes g c = c.new.ensures ∙ sym (ap (λ (o : Option (List ℕ)). unwrap_or o []) (c.in_ok-bytes.ensures.chunk ∙ c.in-None.is))
