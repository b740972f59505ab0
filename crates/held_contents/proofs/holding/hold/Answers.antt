use Rattle.std.proofs.Common.{List, [], ℕ, subst}
use Rattle.row_value.specs.declared.content.Content.{Content}
use Rattle.held_value.specs.declared.content.HeldPiece.{HeldPiece}
use Rattle.held_contents.specs.declared.holding.HeldNew.{HeldNew}
use Rattle.held_contents.specs.Holding.{IsHeldAgainst, pieces_held}
use Rattle.held_contents.proofs.Pieces.{each_contained}
use Rattle.held_contents.proofs.Objects.{is_whole, lens_held, places_held, once_held, pieces_are, names_in_held, each_brought, small_held, if_ok}
use Rattle.held_contents.proofs.holding.hold.Goals as goal

abbrev IsHeld : ℕ → List (List (HeldPiece × List ℕ)) → Content → HeldNew → Type 0
IsHeld size shown content made = IsHeldAgainst size shown content made.content made.brought

pub returns-clause-held : goal.returns-clause-held
returns-clause-held c =
    if_ok (IsHeld c.args.size c.as_slice.result.now c.args.content.now) _ c.held_new.result
    (λ m k. subst (λ (l : List (List (HeldPiece × List ℕ))). IsHeldAgainst c.args.size l c.args.content.now m.content m.brought) c.as_slice.ensures k) c.held_new.ensures

pub returns-clause-whole : goal.returns-clause-whole
returns-clause-whole c = if_ok (IsHeld c.args.size c.args.shown.now c.args.content.now) _ c.held_new.result (λ m k meaning number are. is_whole c.args.size c.requires.size c.args.shown.now [] meaning number are c.args.content.now m.content m.brought k) (returns-clause-held c)

pub returns-clause-lens : goal.returns-clause-lens
returns-clause-lens c = if_ok (IsHeld c.args.size c.args.shown.now c.args.content.now) _ c.held_new.result (λ m k meaning number are. lens_held c.args.size c.requires.size c.args.shown.now [] meaning number are c.args.content.now m.content m.brought k) (returns-clause-held c)

pub returns-clause-places : goal.returns-clause-places
returns-clause-places c = if_ok (IsHeld c.args.size c.args.shown.now c.args.content.now) _ c.held_new.result (λ m k meaning number are. places_held c.args.size c.requires.size c.args.shown.now [] meaning number are c.args.content.now m.content m.brought k) (returns-clause-held c)

pub returns-clause-pieces : goal.returns-clause-pieces
returns-clause-pieces c = if_ok (IsHeld c.args.size c.args.shown.now c.args.content.now) _ c.held_new.result (λ m k piece there. each_contained _ (pieces_held m.content) piece (pieces_are c.args.size c.requires.size c.args.shown.now c.args.content.now m.content m.brought k) there) (returns-clause-held c)

pub returns-clause-names : goal.returns-clause-names
returns-clause-names c = if_ok (IsHeld c.args.size c.args.shown.now c.args.content.now) _ c.held_new.result (λ m k name has. names_in_held c.args.size c.requires.size c.args.shown.now [] c.args.content.now m.content m.brought k name has) (returns-clause-held c)

pub returns-clause-all_brought : goal.returns-clause-all_brought
returns-clause-all_brought c = if_ok (IsHeld c.args.size c.args.shown.now c.args.content.now) _ c.held_new.result (λ m k ordinal lt. each_brought c.args.size c.requires.size c.args.shown.now [] c.args.content.now m.content m.brought k ordinal lt) (returns-clause-held c)

pub returns-clause-once : goal.returns-clause-once
returns-clause-once c = if_ok (IsHeld c.args.size c.args.shown.now c.args.content.now) _ c.held_new.result (λ m k meaning number are once. once_held c.args.size c.requires.size c.args.shown.now [] meaning number are c.args.content.now m.content m.brought k once) (returns-clause-held c)

pub returns-clause-small : goal.returns-clause-small
returns-clause-small c = if_ok (IsHeld c.args.size c.args.shown.now c.args.content.now) _ c.held_new.result (λ m k. small_held c.args.size c.requires.size c.args.shown.now [] c.args.content.now m.content m.brought k) (returns-clause-held c)
