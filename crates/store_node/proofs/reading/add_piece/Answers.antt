use Rattle.std.proofs.Common.{ℕ, ◌++◌, ◌∷◌, [], List, sym, ◌∙◌, ap, append-nil}
use Rattle.std.proofs.lemmas.Result.{err_from_is_err_and}
use Rattle.store_commit.specs.Standing.{devs}
use Rattle.row_value.specs.declared.pieces.Piece.{Piece}
use Rattle.store_node.specs.Reading.{named_in}
use Rattle.store_node.proofs.Onlys.{only_none, only_named, only_short, only_err}
use Rattle.store_node.proofs.reading.add_piece.Goals as goal

pub returns-in_err-bytes-in-Keep-clause-reads : goal.returns-in_err-bytes-in-Keep-clause-reads
returns-in_err-bytes-in-Keep-clause-reads g c =
    let p = err_from_is_err_and c.from_residual.result c.from_residual.ensures.1 in
    rw (p.1, p.2) (only_err g.D.Disk.state g.D.Disk.images g.met.D.Disk.only_now c.args.table.now c.read_chunk.new.table c.in_err-bytes-in-Keep.field-0.0 c.in_err-bytes-in-Keep.ensures.reads)

pub returns-in_err-add-in-Keep-clause-reads : goal.returns-in_err-add-in-Keep-clause-reads
returns-in_err-add-in-Keep-clause-reads g c =
    let p = err_from_is_err_and c.from_residual-in_err-add-in-Keep.result c.from_residual-in_err-add-in-Keep.ensures.1 in
    rw (p.1, p.2) (only_short g.D.Disk.state g.D.Disk.images g.met.D.Disk.only_now c.args.table.now c.read_chunk.new.table c.in_ok-bytes-in-Keep.bytes c.in_ok-bytes-in-Keep.ensures.reads)

pub returns-in_ok-add-in-Keep-clause-reads : goal.returns-in_ok-add-in-Keep-clause-reads
returns-in_ok-add-in-Keep-clause-reads g c = only_named g.D.Disk.state g.D.Disk.images g.met.D.Disk.only_now c.args.table.now c.read_chunk.new.table c.in_ok-bytes-in-Keep.bytes tt c.in_ok-bytes-in-Keep.ensures.reads

pub returns-in_ok-add-in-Keep-clause-named : goal.returns-in_ok-add-in-Keep-clause-named
returns-in_ok-add-in-Keep-clause-named g c =
    c.in_ok-add-in-Keep.ensures ∙ (ap (λ (bytes : List ℕ). c.args.named.now ++ (c.in-Keep.name, bytes) ∷ []) c.in_ok-bytes-in-Keep.ensures.bytes
    ∙ ap (λ (p : Piece). c.args.named.now ++ named_in (devs g.D.Disk.state c.args.table.now) (p ∷ [])) (sym c.in-Keep.is))

pub returns-in-Fresh-clause-reads : goal.returns-in-Fresh-clause-reads
returns-in-Fresh-clause-reads g c = only_none g.D.Disk.state g.D.Disk.images g.met.D.Disk.only_now c.args.table.now tt c.requires.up c.requires.looked

pub returns-in-Fresh-clause-named : goal.returns-in-Fresh-clause-named
returns-in-Fresh-clause-named g c = sym (ap (λ (p : Piece). c.args.named.now ++ named_in (devs g.D.Disk.state c.args.table.now) (p ∷ [])) c.in-Fresh.is ∙ append-nil c.args.named.now)
