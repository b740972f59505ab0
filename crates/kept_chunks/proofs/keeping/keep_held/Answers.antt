use Rattle.std.proofs.Common.{◌≡◌, List, ◌∙◌, ap, subst}
use Rattle.held_value.specs.declared.local_name.LocalName.{LocalName}
use Rattle.client_journal.specs.Names.{names_of_pieces, names_of}
use Rattle.client_journal.specs.There.{HasNames}
use Rattle.held_contents.specs.Holding.{pieces_held}
use Rattle.kept_chunks.specs.Anew.{names_up_to}
use Rattle.kept_chunks.specs.Kept.{content_under, local_for}
use Rattle.kept_chunks.specs.Steps.{KeepsSoFar}
use Rattle.kept_chunks.proofs.Anew.{all_anew}
use Rattle.kept_chunks.proofs.SoFar.{all_kept, names_held}
use Rattle.kept_chunks.proofs.keeping.keep_held.Goals as goal

pub returns-clause-kept : goal.returns-clause-kept
returns-clause-kept c =
    let pieces : names_of_pieces c.deref-2.result.now ≡ names_of c.args.made.content = ap names_of_pieces (c.deref-2.ensures.value ∙ c.in_ok-pieces.ensures) ∙ names_held c.args.made.content in
    let taken : HasNames (names_of c.args.made.content) c.in_ok-taken.taken = subst (λ (l : List LocalName). HasNames l c.in_ok-taken.taken) pieces c.in_ok-taken.ensures in
    let k : KeepsSoFar c.args.held.now (names_of c.args.made.content) c.args.made.brought c.in_ok-keeping.keeping = c.in_ok-keeping.ensures.kept (names_of c.args.made.content) taken in
    all_kept c.args.held.now c.args.made c.in_ok-keeping.keeping c.in_ok-content.content k
    (c.in_ok-content.ensures ∙ ap (λ (l : List LocalName). content_under (local_for l) c.args.made.content) c.deref-4.ensures.value)

pub returns-clause-anew : goal.returns-clause-anew
returns-clause-anew c order =
    let names : c.deref-3.result.now ≡ names_up_to c.args.version (pieces_held c.args.made.content) =
    c.deref-3.ensures.value ∙ (c.in_ok-names.ensures ∙ ap (names_up_to c.args.version) (c.deref.ensures.value ∙ c.in_ok-pieces.ensures)) in
    all_anew c.args.version c.deref-3.result.now c.in_ok-keeping.keeping.locals.items c.args.made.content c.in_ok-content.content names c.in_ok-keeping.ensures.anew
    (c.in_ok-content.ensures ∙ ap (λ (l : List LocalName). content_under (local_for l) c.args.made.content) c.deref-4.ensures.value) order
