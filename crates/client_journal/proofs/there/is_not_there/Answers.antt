use Rattle.std.proofs.Common.{◌≡◌, Bool, true, false, sym, ◌∙◌, ap}
use Rattle.chunk_store.specs.Standing.{chunks}
use Rattle.client_journal.specs.Names.{names_in}
use Rattle.client_journal.specs.Devs.{local_in}
use Rattle.client_journal.specs.There.{is_wrong, any_content, shares, exceeds}
use Rattle.client_journal.proofs.Theres.{first_of, second_of, last_of, shares_are}
use Rattle.client_journal.proofs.there.is_not_there.Goals as goal

pub returns-then-wrong : goal.returns-then-wrong
returns-then-wrong g c before has =
    let slots = c.args.slots.now in
    let any = any_content (is_wrong (local_in (chunks g.D.Disk.state c.args.dev.now)) c.args.table.now) slots in
    first_of any (shares before (names_in slots)) (exceeds c.args.greatest (names_in slots)) (sym c.in_ok-wrong.ensures ∙ c.if-wrong.true)

pub returns-then-shares : goal.returns-then-shares
returns-then-shares g c before has =
    let slots = c.args.slots.now in
    let any = any_content (is_wrong (local_in (chunks g.D.Disk.state c.args.dev.now)) c.args.table.now) slots in
    let shared = sym (c.shares.ensures ∙ (shares_are c.args.named.now before c.args.names.now has ∙ ap (shares before) c.requires.names)) in
    second_of any (shares before (names_in slots)) (exceeds c.args.greatest (names_in slots)) (sym c.in_ok-wrong.ensures ∙ c.if-wrong.false) (shared ∙ c.if-shares.true)

pub returns : goal.returns
returns g c before has =
    let slots = c.args.slots.now in
    let any = any_content (is_wrong (local_in (chunks g.D.Disk.state c.args.dev.now)) c.args.table.now) slots in
    let shared = sym (c.shares.ensures ∙ (shares_are c.args.named.now before c.args.names.now has ∙ ap (shares before) c.requires.names)) in
    last_of any (shares before (names_in slots)) (exceeds c.args.greatest (names_in slots)) (sym c.in_ok-wrong.ensures ∙ c.if-wrong.false) (shared ∙ c.if-shares.false) c.exceeds.result (c.exceeds.ensures ∙ ap (exceeds c.args.greatest) c.requires.names)
