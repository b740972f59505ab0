use Rattle.std.proofs.Common.{◌≡◌, inr, List, ℕ, Err, refl, sym, ◌∙◌, ap, subst}
use Rattle.std.specs.Prelude.{filter, not}
use Rattle.std.specs.BTreeSet.{contains}
use Rattle.std.proofs.lemmas.Result.{err_from_is_err_and}
use Rattle.slot_store.specs.Data.{key_cmp, key_at, AreRowsOf}
use Rattle.client_journal.specs.declared.fault.JournalFault.TheVariants.{Memory}
use Rattle.client_journal.specs.Redone.{redone}
use Rattle.client_journal.specs.There.{shown}
use Rattle.client_journal.specs.Standing.{devs}
use Rattle.client_journal.proofs.ShownRows.{rows_shown, asks_other, asks_err}
use Rattle.client_journal.proofs.devs.Journal.shown_rows_of.Goals as goal

pub returns-in_err-rows-clause-asks : goal.returns-in_err-rows-clause-asks
returns-in_err-rows-clause-asks g c =
    let p = err_from_is_err_and c.from_residual.result c.from_residual.ensures.1 in
    rw (p.1, p.2) (asks_err g.D.Disk.state g.D.Disk.images c.args.self.now c.rows_of.new.self c.in_err-rows.field-0.0 c.in_err-rows.ensures.asks)

pub returns-in_err-shown-clause-asks : goal.returns-in_err-shown-clause-asks
returns-in_err-shown-clause-asks g c =
    let p = err_from_is_err_and c.from_residual-in_err-shown.result c.from_residual-in_err-shown.ensures.1 in
    rw (p.1, p.2) (asks_other g.D.Disk.state g.D.Disk.images c.args.self.now c.rows_of.new.self c.in_ok-rows.rows c.in_ok-rows.ensures.asks (Err Memory) (λ is. cc) (λ is. cc) (inr (inr refl)))

pub returns-clause-asks : goal.returns-clause-asks
returns-clause-asks g c = asks_other g.D.Disk.state g.D.Disk.images c.args.self.now c.rows_of.new.self c.in_ok-rows.rows c.in_ok-rows.ensures.asks _ (λ is. cc) (λ is. cc) tt

pub returns-clause-rows : goal.returns-clause-rows
returns-clause-rows g c =
    let held = redone (devs g.D.Disk.state c.args.self.now) in
    let hidden = contains key_cmp c.args.scanned.now.hidden in
    let are = c.from_vec.ensures ∙ (c.in_ok-shown.ensures ∙ ap (λ (l : List (List ℕ)). filter (λ (row : List ℕ). not (hidden (key_at c.args.table row))) l) c.as_slice.ensures) in
    subst (λ (l : List (List ℕ)). AreRowsOf (shown hidden held) c.args.table l) (sym are) (rows_shown hidden held c.args.table c.in_ok-rows.rows c.in_ok-rows.ensures.rows)
