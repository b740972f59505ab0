use Rattle.std.proofs.Common.{◌≡◌, ◌+◌, ◌++◌, ◌∷◌, [], ℕ, List, length, take, Bool, true, false, refl, sym, ◌∙◌, ap, subst, arith}
use Rattle.std.proofs.lemmas.Result.{IfOk-weaker}
use Rattle.chunk_store.specs.Standing.{chunks, chunk_in}
use Rattle.store_commit.specs.NamedChunks.{names_of}
use Rattle.store_commit.specs.There.{kept, lacks, repeats, shares, exceeds, misfits}
use Rattle.store_commit.proofs.Theres.{wrong_first, wrong_second, wrong_third, wrong_fourth, wrong_last, shares_are}
use Rattle.store_commit.proofs.there.is_not_there.Goals as goal

pub returns-then-lacks : goal.returns-then-lacks
returns-then-lacks g c before has =
    let lacking = lacks (kept (chunk_in (chunks g.D.Disk.state c.args.dev.now))) c.args.table.now c.args.stored.now.content in
    let its = names_of c.args.stored.now.content in
    let misfit = misfits c.args.table.now c.args.stored.now.content in
    let above = exceeds c.args.stored.now.version its in
    wrong_first lacking (repeats [] its) (shares before its) above misfit (sym c.lacks.ensures ∙ c.if-lacks.true)

pub returns-then-twice : goal.returns-then-twice
returns-then-twice g c before has =
    let lacking = lacks (kept (chunk_in (chunks g.D.Disk.state c.args.dev.now))) c.args.table.now c.args.stored.now.content in
    let its = names_of c.args.stored.now.content in
    let misfit = misfits c.args.table.now c.args.stored.now.content in
    let above = exceeds c.args.stored.now.version its in
    let has_them : lacking ≡ false = sym c.lacks.ensures ∙ c.if-lacks.false in
    wrong_second lacking (repeats [] its) (shares before its) above misfit has_them (ap (repeats []) (sym c.requires.names) ∙ (sym c.in_ok-twice.ensures ∙ c.if-twice.true))

pub returns-then-shares : goal.returns-then-shares
returns-then-shares g c before has =
    let lacking = lacks (kept (chunk_in (chunks g.D.Disk.state c.args.dev.now))) c.args.table.now c.args.stored.now.content in
    let its = names_of c.args.stored.now.content in
    let misfit = misfits c.args.table.now c.args.stored.now.content in
    let above = exceeds c.args.stored.now.version its in
    let has_them : lacking ≡ false = sym c.lacks.ensures ∙ c.if-lacks.false in
    let once : repeats [] its ≡ false = ap (repeats []) (sym c.requires.names) ∙ (sym c.in_ok-twice.ensures ∙ c.if-twice.false) in
    wrong_third lacking (repeats [] its) (shares before its) above misfit has_them once (ap (shares before) (sym c.requires.names) ∙ (sym (c.shares.ensures ∙ shares_are c.args.named.now before c.args.names.now has) ∙ c.if-shares.true))

pub returns-then-exceeds : goal.returns-then-exceeds
returns-then-exceeds g c before has =
    let lacking = lacks (kept (chunk_in (chunks g.D.Disk.state c.args.dev.now))) c.args.table.now c.args.stored.now.content in
    let its = names_of c.args.stored.now.content in
    let misfit = misfits c.args.table.now c.args.stored.now.content in
    let above = exceeds c.args.stored.now.version its in
    let has_them : lacking ≡ false = sym c.lacks.ensures ∙ c.if-lacks.false in
    let once : repeats [] its ≡ false = ap (repeats []) (sym c.requires.names) ∙ (sym c.in_ok-twice.ensures ∙ c.if-twice.false) in
    let alone : shares before its ≡ false = ap (shares before) (sym c.requires.names) ∙ (sym (c.shares.ensures ∙ shares_are c.args.named.now before c.args.names.now has) ∙ c.if-shares.false) in
    wrong_fourth lacking (repeats [] its) (shares before its) above misfit has_them once alone (ap (exceeds c.args.stored.now.version) (sym c.requires.names) ∙ (sym c.exceeds.ensures ∙ c.if-exceeds.true))

pub returns : goal.returns
returns g c =
    IfOk-weaker c.misfits.result _ _ (λ x is before has.
    let lacking = lacks (kept (chunk_in (chunks g.D.Disk.state c.args.dev.now))) c.args.table.now c.args.stored.now.content in
    let its = names_of c.args.stored.now.content in
    let misfit = misfits c.args.table.now c.args.stored.now.content in
    let above = exceeds c.args.stored.now.version its in
    let has_them : lacking ≡ false = sym c.lacks.ensures ∙ c.if-lacks.false in
    let once : repeats [] its ≡ false = ap (repeats []) (sym c.requires.names) ∙ (sym c.in_ok-twice.ensures ∙ c.if-twice.false) in
    let alone : shares before its ≡ false = ap (shares before) (sym c.requires.names) ∙ (sym (c.shares.ensures ∙ shares_are c.args.named.now before c.args.names.now has) ∙ c.if-shares.false) in
    wrong_last lacking (repeats [] its) (shares before its) above misfit has_them once alone x (ap (exceeds c.args.stored.now.version) (sym c.requires.names) ∙ (sym c.exceeds.ensures ∙ c.if-exceeds.false)) is) c.misfits.ensures
