use Rattle.std.proofs.Common.{◌≡◌, ℕ, List, take, Some, sym, ◌∙◌, ap, subst}
use Rattle.std.specs.Prelude.{slice_get}
use Rattle.vault.specs.Standing as vaults
use Rattle.vault.proofs.Noting.{one_more, so_many}
use Rattle.vault.proofs.start.note_next.Goals as goal

pub returns-clause-noted : goal.returns-clause-noted
returns-clause-noted g c fit =
    let ps = vaults.payloads g.D.Disk.state c.args.vault.now in
    let i = c.args.index in
    let p = c.deref-2.result.now in
    let at : slice_get ps i ≡ Some p = c.in_ok-get.ensures.payload ∙ ap (λ (q : List ℕ). Some q) (sym c.deref-2.ensures.value) in
    subst (g.F.Fold.fits c.note.new.self) (sym (one_more ps i p at)) (c.in_ok-note.ensures.noted (take i ps) (so_many ps i c.requires.index) fit)
