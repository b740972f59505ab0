use Rattle.std.proofs.Common.{◌++◌, ◌∷◌, [], take, sym, ap, ◌∙◌, arith}
use Rattle.row_value.specs.declared.pieces.Piece.TheVariants.{Fresh}
use Rattle.client_tables.specs.Names.{fresh_from}
use Rattle.client_tables.proofs.Numbering.{fresh_from-take}
use Rattle.client_tables.proofs.names.all_fresh.Goals as goal

pub loop-piece-preserved : goal.loop-piece-preserved
loop-piece-preserved c =
    let more = fresh_from-take c.args.pieces.now c.loop-piece._piece-index (omega arith) in (
      omega arith,
      c.in_ok-push.ensures.ok ∙ ap (λ fs. fs ++ Fresh c.loop-piece.ordinal ∷ []) c.loop-piece.invariant.1
          ∙ ap (λ n. fresh_from 0 (take c.loop-piece._piece-index c.args.pieces.now) ++ Fresh n ∷ []) c.loop-piece.invariant.0 ∙ sym more,
    )
