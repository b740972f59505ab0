use Rattle.std.proofs.Common.{◌∙◌, ℕ, List, get_or, None, ap, refl}
use Rattle.std.proofs.lemmas.List.{take_all}
use Rattle.std.proofs.lemmas.Result.{err_from_is_err_and}
use Rattle.held_value.specs.declared.content.HeldPiece.{HeldPiece}
use Rattle.client_journal.specs.Standing.{devs}
use Rattle.held_contents.specs.Reading.{stands_in, with_bytes}
use Rattle.held_contents.proofs.Readings.{begins, ends, goes_more, still_looked, still_chunks, fails}
use Rattle.held_contents.proofs.reading.read_object.Goals as goal

pub loop-piece-init : goal.loop-piece-init
loop-piece-init g c = begins g.D.Disk.state g.D.Disk.images g.met.D.Disk.only_now c.args.devs.now c.new-read.result c.requires.up c.requires.looked c.new-read.ensures

pub read_piece-requires : goal.read_piece-requires
read_piece-requires g c = λ up. still_looked g.D.Disk.state g.D.Disk.images c.args.devs.now c.loop-piece.devs c.loop-piece.read _ c.loop-piece.invariant c.requires.looked

pub returns-in_err-read_piece-clause-asks : goal.returns-in_err-read_piece-clause-asks
returns-in_err-read_piece-clause-asks g c =
    let p = err_from_is_err_and c.from_residual.result c.from_residual.ensures.1 in
    rw (p.1, p.2)
    (fails g.D.Disk.state g.D.Disk.images c.args.devs.now c.loop-piece.devs c.loop-piece.read _ c.loop-piece.invariant g.met.D.Disk.only_now c.read_piece.new.devs c.in_err-read_piece.field-0.0 c.in_err-read_piece.ensures.asks)

pub loop-piece-preserved : goal.loop-piece-preserved
loop-piece-preserved g c =
    let e : HeldPiece = record { local = record { plan = 0; ordinal = 0 }; name = None } in
    let x : HeldPiece = get_or c.args.pieces.now c.loop-piece.piece-index e in
    goes_more g.D.Disk.state g.D.Disk.images g.met.D.Disk.only_now c.args.devs.now (λ (p : HeldPiece). (p, stands_in (devs g.D.Disk.state c.args.devs.now).chunks p.local)) (λ (p : HeldPiece). (p, stands_in (devs g.D.Disk.state c.loop-piece.devs).chunks p.local))
    c.args.pieces.now c.loop-piece.piece-index x e c.loop-piece.devs c.read_piece.new.devs c.loop-piece.read c.read_piece.new.read c.loop-piece-test.true refl c.loop-piece.invariant c.in_ok-read_piece.ensures.asks c.in_ok-read_piece.ensures.adds
    (ap (λ (b : List ℕ). (x, b)) (still_chunks g.D.Disk.state g.D.Disk.images c.args.devs.now c.loop-piece.devs c.loop-piece.read _ c.loop-piece.invariant x.local))

pub returns-clause-asks : goal.returns-clause-asks
returns-clause-asks g c = ends g.D.Disk.state g.D.Disk.images g.met.D.Disk.only_now c.args.devs.now c.loop-piece.devs c.loop-piece.read _ c.loop-piece.invariant c.loop-piece.read

pub returns-clause-chunks : goal.returns-clause-chunks
returns-clause-chunks g c = c.loop-piece.invariant.read_is ∙ ap (with_bytes (stands_in (devs g.D.Disk.state c.args.devs.now).chunks)) (take_all c.loop-piece.piece-index c.args.pieces.now c.loop-piece-test.false)
