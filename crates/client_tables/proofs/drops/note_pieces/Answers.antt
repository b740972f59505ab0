use Rattle.std.proofs.Common.{List, take, get_or, sym, subst, arith, None}
use Rattle.held_value.specs.declared.local_name.LocalName.{LocalName}
use Rattle.held_value.specs.declared.content.HeldPiece.{HeldPiece}
use Rattle.client_tables.specs.Drops.{names_of_pieces, Notes}
use Rattle.client_tables.proofs.NameSets.{noted, names-take}
use Rattle.client_tables.proofs.drops.note_pieces.Goals as goal

pub loop-piece-preserved : goal.loop-piece-preserved
loop-piece-preserved c =
    let none : HeldPiece = record { local = record { plan = 0; ordinal = 0 }; name = None } in
    subst (λ (names : List LocalName). Notes c.args.names.now c.insert.new.self names) (sym (names-take c.args.pieces.now c.loop-piece.piece-index none (omega arith)))
    (noted c.args.names.now c.loop-piece.names c.insert.new.self (names_of_pieces (take c.loop-piece.piece-index c.args.pieces.now))
    (get_or c.args.pieces.now c.loop-piece.piece-index none).local c.loop-piece.invariant c.in_ok-insert.ensures.updates)
