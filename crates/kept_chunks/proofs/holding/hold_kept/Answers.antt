use Rattle.std.proofs.Common.{◌≡◌, ℕ, List, ◌++◌, length, ◌∙◌, ap, subst}
use Rattle.held_value.specs.declared.content.HeldPiece.{HeldPiece}
use Rattle.held_contents.specs.declared.holding.HeldNew.{HeldNew}
use Rattle.held_contents.proofs.Objects.{if_ok}
use Rattle.std.specs.List.{AllByRecursion}
use Rattle.client_journal.specs.Names.{names_of}
use Rattle.held_contents.specs.Holding.{names_shown, pieces_held}
use Rattle.kept_chunks.specs.Anew.{AreInOrder, IsAnew}
use Rattle.kept_chunks.specs.Kept.{IsKept, HoldsKept, AreNumbered}
use Rattle.kept_chunks.proofs.Anew.{as_shown, made_in_order}
use Rattle.kept_chunks.proofs.HeldRows.{few_brought, holds_kept}
use Rattle.kept_chunks.proofs.holding.hold_kept.Goals as goal

abbrev Chunks : Type 0
Chunks = List (List (HeldPiece × List ℕ))

all_joined : (slice held inside shown rest more : Chunks) → slice ≡ held → held ≡ inside ++ rest → inside ≡ shown → rest ≡ more → slice ≡ shown ++ more
all_joined slice held inside shown rest more a b d e = a ∙ (b ∙ (ap (λ (l : Chunks). l ++ rest) d ∙ ap (λ (l : Chunks). shown ++ l) e))

pub keep_held-requires : goal.keep_held-requires
keep_held-requires c = few_brought c.args.size c.requires.size c.args.shown c.args.names.now c.args.content.now c.in_ok-made.made.content c.in_ok-made.made.brought c.requires.fit c.in_ok-made.ensures.held

pub returns-clause-kept : goal.returns-clause-kept
returns-clause-kept c =
    let made : HeldNew = c.in_ok-made.made in
    let more : Chunks = c.args.read ++ c.args.conflict in
    let held : c.as_slice.result.now ≡ c.args.shown ++ more = all_joined c.as_slice.result.now c.in_ok-held.held c.shown.inside.items.items c.args.shown c.in_ok-joined.field-0 more c.as_slice.ensures c.in_ok-held.ensures c.shown.view_is c.in_ok-joined.ensures in
    let e = c.in_ok-made.ensures in
    if_ok (IsKept c.as_slice.result.now made) (HoldsKept c.args.size c.args.shown more c.args.content.now c.args.names.now) c.keep_held.result
    (λ kept k.
    holds_kept c.args.size c.requires.size c.args.shown more c.args.content.now c.args.names.now made kept c.requires.fit (subst (λ (l : Chunks). IsKept l made kept) held k) e.held e.known e.whole e.lens e.names e.all_brought e.small)
    c.keep_held.ensures.kept

pub returns-clause-anew : goal.returns-clause-anew
returns-clause-anew c =
    let made : HeldNew = c.in_ok-made.made in
    let e = c.in_ok-made.ensures in
    if_ok (λ kept. AreInOrder 0 (pieces_held made.content) → AllByRecursion (IsAnew c.args.version (names_of made.content)) (pieces_held kept.content))
    (λ kept. AreNumbered c.args.shown → AllByRecursion (IsAnew c.args.version (names_shown c.args.shown)) (pieces_held kept.content)) c.keep_held.result
    (λ kept k numbered.
    as_shown c.args.version (names_shown c.args.shown) (names_of made.content) (length made.brought) (pieces_held kept.content) e.names
    (k (made_in_order c.args.size c.args.shown c.args.names.now c.args.content.now made.content made.brought e.held numbered)))
    c.keep_held.ensures.anew
