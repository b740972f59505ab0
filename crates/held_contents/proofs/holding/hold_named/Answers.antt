use Rattle.std.proofs.Common.{List, ℕ, subst}
use Rattle.stab_base.specs.declared.chunk_name.ChunkName.{ChunkName}
use Rattle.row_value.specs.declared.content.Content.{Content}
use Rattle.held_value.specs.declared.content.HeldPiece.{HeldPiece}
use Rattle.held_contents.specs.declared.holding.HeldNew.{HeldNew}
use Rattle.held_contents.specs.Holding.{IsNamedAgainst}
use Rattle.held_contents.proofs.Objects.{is_whole, lens_held, places_held, once_held, known_held, names_in_held, each_brought, small_held, if_ok}
use Rattle.held_contents.proofs.holding.hold_named.Goals as goal

abbrev IsHeld : ℕ → List (List (HeldPiece × List ℕ)) → List (List ChunkName) → Content → HeldNew → Type 0
IsHeld size shown names content made = IsNamedAgainst size shown names content made.content made.brought

pub returns-clause-held : goal.returns-clause-held
returns-clause-held c =
    if_ok (IsHeld c.args.size c.as_slice.result.now c.as_slice-2.result.now c.args.content.now) _ c.held_new.result
    (λ m k. subst (λ (l : List (List (HeldPiece × List ℕ))). IsNamedAgainst c.args.size l c.args.names.now c.args.content.now m.content m.brought) c.as_slice.ensures
    (subst (λ (l : List (List ChunkName)). IsNamedAgainst c.args.size c.as_slice.result.now l c.args.content.now m.content m.brought) c.as_slice-2.ensures k)) c.held_new.ensures

pub returns-clause-known : goal.returns-clause-known
returns-clause-known c = if_ok (IsHeld c.args.size c.args.shown.now c.args.names.now c.args.content.now) _ c.held_new.result
    (λ m k. known_held c.args.size c.requires.size c.args.shown.now c.args.names.now c.args.content.now m.content m.brought c.requires.named k) (returns-clause-held c)

pub returns-clause-whole : goal.returns-clause-whole
returns-clause-whole c = if_ok (IsHeld c.args.size c.args.shown.now c.args.names.now c.args.content.now) _ c.held_new.result (λ m k meaning number are. is_whole c.args.size c.requires.size c.args.shown.now c.args.names.now meaning number are c.args.content.now m.content m.brought k) (returns-clause-held c)

pub returns-clause-lens : goal.returns-clause-lens
returns-clause-lens c = if_ok (IsHeld c.args.size c.args.shown.now c.args.names.now c.args.content.now) _ c.held_new.result (λ m k meaning number are. lens_held c.args.size c.requires.size c.args.shown.now c.args.names.now meaning number are c.args.content.now m.content m.brought k) (returns-clause-held c)

pub returns-clause-places : goal.returns-clause-places
returns-clause-places c = if_ok (IsHeld c.args.size c.args.shown.now c.args.names.now c.args.content.now) _ c.held_new.result (λ m k meaning number are. places_held c.args.size c.requires.size c.args.shown.now c.args.names.now meaning number are c.args.content.now m.content m.brought k) (returns-clause-held c)

pub returns-clause-names : goal.returns-clause-names
returns-clause-names c = if_ok (IsHeld c.args.size c.args.shown.now c.args.names.now c.args.content.now) _ c.held_new.result (λ m k name has. names_in_held c.args.size c.requires.size c.args.shown.now c.args.names.now c.args.content.now m.content m.brought k name has) (returns-clause-held c)

pub returns-clause-all_brought : goal.returns-clause-all_brought
returns-clause-all_brought c = if_ok (IsHeld c.args.size c.args.shown.now c.args.names.now c.args.content.now) _ c.held_new.result (λ m k ordinal lt. each_brought c.args.size c.requires.size c.args.shown.now c.args.names.now c.args.content.now m.content m.brought k ordinal lt) (returns-clause-held c)

pub returns-clause-once : goal.returns-clause-once
returns-clause-once c = if_ok (IsHeld c.args.size c.args.shown.now c.args.names.now c.args.content.now) _ c.held_new.result (λ m k meaning number are once. once_held c.args.size c.requires.size c.args.shown.now c.args.names.now meaning number are c.args.content.now m.content m.brought k once) (returns-clause-held c)

pub returns-clause-small : goal.returns-clause-small
returns-clause-small c = if_ok (IsHeld c.args.size c.args.shown.now c.args.names.now c.args.content.now) _ c.held_new.result (λ m k. small_held c.args.size c.requires.size c.args.shown.now c.args.names.now c.args.content.now m.content m.brought k) (returns-clause-held c)
