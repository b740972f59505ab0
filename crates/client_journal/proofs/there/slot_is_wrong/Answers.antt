use Rattle.std.proofs.Common.{◌≡◌, Bool, true, false, sym, ◌∙◌, ap}
use Rattle.std.specs.Prelude.{◌||◌}
use Rattle.std.proofs.lemmas.Result.{IfOk-weaker}
use Rattle.held_value.specs.declared.content.HeldContent.{HeldContent}
use Rattle.chunk_store.specs.Standing.{chunks}
use Rattle.client_journal.specs.Devs.{local_in}
use Rattle.client_journal.specs.There.{is_wrong, in_main, in_shadow, in_out}
use Rattle.client_journal.proofs.Theres.{first_of, second_of, last_of, behind_first}
use Rattle.client_journal.proofs.there.slot_is_wrong.Goals as goal

pub returns-then-main : goal.returns-then-main
returns-then-main g c =
    let p : HeldContent → Bool = is_wrong (local_in (chunks g.D.Disk.state c.args.dev.now)) c.args.table.now in
    let s = c.args.slots.now in
    first_of (in_main p s.main) (in_shadow p s.shadow) (in_out p s.out || in_shadow p s.conflict) (sym c.in_ok-main.ensures ∙ c.if-main.true)

pub returns-then-shadow : goal.returns-then-shadow
returns-then-shadow g c =
    let p : HeldContent → Bool = is_wrong (local_in (chunks g.D.Disk.state c.args.dev.now)) c.args.table.now in
    let s = c.args.slots.now in
    second_of (in_main p s.main) (in_shadow p s.shadow) (in_out p s.out || in_shadow p s.conflict) (sym c.in_ok-main.ensures ∙ c.if-main.false) (sym c.in_ok-shadow.ensures ∙ c.if-shadow.true)

pub returns-then-out : goal.returns-then-out
returns-then-out g c =
    let p : HeldContent → Bool = is_wrong (local_in (chunks g.D.Disk.state c.args.dev.now)) c.args.table.now in
    let s = c.args.slots.now in
    behind_first (in_main p s.main) (in_shadow p s.shadow) (in_out p s.out || in_shadow p s.conflict) (sym c.in_ok-main.ensures ∙ c.if-main.false) true
    (second_of (in_shadow p s.shadow) (in_out p s.out) (in_shadow p s.conflict) (sym c.in_ok-shadow.ensures ∙ c.if-shadow.false) (sym c.in_ok-out.ensures ∙ c.if-out.true))

pub returns : goal.returns
returns g c =
    let p : HeldContent → Bool = is_wrong (local_in (chunks g.D.Disk.state c.args.dev.now)) c.args.table.now in
    let s = c.args.slots.now in
    IfOk-weaker c.shadow_is_wrong-2.result _ _ (λ w is.
    behind_first (in_main p s.main) (in_shadow p s.shadow) (in_out p s.out || in_shadow p s.conflict) (sym c.in_ok-main.ensures ∙ c.if-main.false) w
    (last_of (in_shadow p s.shadow) (in_out p s.out) (in_shadow p s.conflict) (sym c.in_ok-shadow.ensures ∙ c.if-shadow.false) (sym c.in_ok-out.ensures ∙ c.if-out.false) w is)) c.shadow_is_wrong-2.ensures
