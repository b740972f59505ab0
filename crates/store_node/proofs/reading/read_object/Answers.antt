use Rattle.std.proofs.Common.{◌≡◌, Result, Ok, Err, refl}
use Rattle.std.proofs.lemmas.Result.{err_from_is_err_and}
use Rattle.store_commit.specs.declared.fault.CommitFault.{CommitFault}
use Rattle.store_commit.specs.Standing.{devs}
use Rattle.row_value.specs.declared.pieces.Piece.TheVariants.{Keep}
use Rattle.store_node.proofs.Onlys.{only_none, only_then, only_named, only_err, only_up, only_looked, only_same}
use Rattle.store_node.proofs.Readers.{pieces_more}
use Rattle.store_node.proofs.reading.read_object.Goals as goal

pub loop-piece-init : goal.loop-piece-init
loop-piece-init g c = (only_none g.D.Disk.state g.D.Disk.images g.met.D.Disk.only_now c.args.table.now tt c.requires.up c.requires.looked, c.new-named.ensures)

pub add_piece-requires-clause-up : goal.add_piece-requires-clause-up
add_piece-requires-clause-up g c = only_up g.D.Disk.state g.D.Disk.images c.args.table.now c.loop-piece.table tt c.loop-piece.invariant.0 c.requires.up

pub add_piece-requires-clause-looked : goal.add_piece-requires-clause-looked
add_piece-requires-clause-looked g c = only_looked g.D.Disk.state g.D.Disk.images c.args.table.now c.loop-piece.table tt c.loop-piece.invariant.0 c.requires.looked

pub returns-in_err-add_piece-clause-reads : goal.returns-in_err-add_piece-clause-reads
returns-in_err-add_piece-clause-reads g c =
    let p = err_from_is_err_and c.from_residual.result c.from_residual.ensures.1 in
    let r : Result (Unit {0}) CommitFault = Err c.in_err-add_piece.field-0.0 in
    let both = only_then g.D.Disk.state g.D.Disk.images g.met.D.Disk.only_now c.args.table.now c.loop-piece.table c.add_piece.new.table tt r c.requires.up c.loop-piece.invariant.0 c.in_err-add_piece.ensures.reads in
    rw (p.1, p.2) (only_err g.D.Disk.state g.D.Disk.images g.met.D.Disk.only_now c.args.table.now c.add_piece.new.table c.in_err-add_piece.field-0.0 both)

pub loop-piece-preserved : goal.loop-piece-preserved
loop-piece-preserved g c =
    let s = g.D.Disk.state in
    let same : devs s c.loop-piece.table ≡ devs s c.args.table.now = only_same g.D.Disk.state g.D.Disk.images c.args.table.now c.loop-piece.table tt c.loop-piece.invariant.0 in (
      only_then g.D.Disk.state g.D.Disk.images g.met.D.Disk.only_now c.args.table.now c.loop-piece.table c.add_piece.new.table tt (Ok tt) c.requires.up c.loop-piece.invariant.0 c.in_ok-add_piece.ensures.reads,
      pieces_more (devs s c.args.table.now) c.args.pieces.now c.loop-piece.piece-index c.loop-piece.named c.add_piece.new.named c.loop-piece-test.true c.loop-piece.invariant.1 (devs s c.loop-piece.table) same _ c.in_ok-add_piece.ensures.named (Keep (record { version = 0; ordinal = 0 })) refl,
    )

pub returns-clause-reads : goal.returns-clause-reads
returns-clause-reads g c = only_named g.D.Disk.state g.D.Disk.images g.met.D.Disk.only_now c.args.table.now c.loop-piece.table tt c.loop-piece.named c.loop-piece.invariant.0
