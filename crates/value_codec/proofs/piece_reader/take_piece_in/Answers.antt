use Rattle.std.proofs.Common.{◌≡◌, ◌≤◌, ◌^◌, ℕ, Result, Ok, Err, sym, subst}
use Rattle.std.specs.Prelude.{IfOk}
use Rattle.row_value.specs.declared.pieces.Piece.{Piece}
use Rattle.value_codec.specs.declared.spell_fault.SpellFault.{SpellFault}
use Rattle.value_codec.specs.Reading.{after_piece}
use Rattle.value_codec.proofs.piece_reader.take_piece_in.Goals as goal

kept : (fresh : ℕ) (r : Result (Piece × ℕ) SpellFault) → IfOk r (λ x. after_piece fresh x.0 ≡ fresh) → fresh ≤ 2 ^ 32 → IfOk r (λ x. after_piece fresh x.0 ≤ 2 ^ 32)
kept fresh (Ok x) same room = let P : ℕ → Type 0 = λ n. n ≤ 2 ^ 32 in subst P (sym same) room
kept fresh (Err e) same room = tt

pub returns-in-0-clause-room : goal.returns-in-0-clause-room
returns-in-0-clause-room c = λ room. kept c.args.fresh c.take_keep.result (c.take_keep.ensures.kept c.args.fresh) room
