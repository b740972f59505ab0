use Rattle.std.proofs.Common.{◌≡◌, [], Bool, true, false, sym, ◌∙◌, ap}
use Rattle.std.proofs.lemmas.Result.{IfOk-weaker}
use Rattle.chunk_store.specs.Standing.{chunks}
use Rattle.client_journal.specs.Names.{names_of}
use Rattle.client_journal.specs.Devs.{local_in}
use Rattle.client_journal.specs.There.{lacks, repeats, misfits}
use Rattle.client_journal.proofs.Theres.{first_of, second_of, last_of}
use Rattle.client_journal.proofs.there.is_wrong.Goals as goal

pub returns-then-lacks : goal.returns-then-lacks
returns-then-lacks g c =
    let lacking = lacks (local_in (chunks g.D.Disk.state c.args.dev.now)) c.args.table.now c.args.content.now in
    first_of lacking (repeats [] (names_of c.args.content.now)) (misfits c.args.table.now c.args.content.now) (sym c.lacks.ensures ∙ c.if-lacks.true)

pub returns-then-twice : goal.returns-then-twice
returns-then-twice g c =
    let lacking = lacks (local_in (chunks g.D.Disk.state c.args.dev.now)) c.args.table.now c.args.content.now in
    let its = c.in_ok-twice.ensures ∙ ap (repeats []) (c.deref.ensures.value ∙ c.in_ok-names.ensures) in
    second_of lacking (repeats [] (names_of c.args.content.now)) (misfits c.args.table.now c.args.content.now) (sym c.lacks.ensures ∙ c.if-lacks.false) (sym its ∙ c.if-twice.true)

pub returns : goal.returns
returns g c =
    let lacking = lacks (local_in (chunks g.D.Disk.state c.args.dev.now)) c.args.table.now c.args.content.now in
    let its = c.in_ok-twice.ensures ∙ ap (repeats []) (c.deref.ensures.value ∙ c.in_ok-names.ensures) in
    IfOk-weaker c.misfits.result _ _ (λ w is. last_of lacking (repeats [] (names_of c.args.content.now)) (misfits c.args.table.now c.args.content.now) (sym c.lacks.ensures ∙ c.if-lacks.false) (sym its ∙ c.if-twice.false) w is) c.misfits.ensures
