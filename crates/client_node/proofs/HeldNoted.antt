-- Where the rows of the devices that wait are noted, what waits on the disk is.
use Rattle.std.proofs.Common.{◌≡◌, ◌⊎◌, inl, inr, ⊎_elim, ℕ, List, [], Option, Some, None, refl, sym, ◌∙◌, ap, subst}
use Rattle.std.specs.Prelude.{IfSome, IsSome, option_map}
use Rattle.held_value.specs.declared.local_name.LocalName.{LocalName}
use Rattle.plan_log.specs.declared.plan.Commit.{Commit}
use Rattle.plan_log.specs.declared.plan.RowChange.{RowChange}
use Rattle.plan_log.specs.Journal.{AtWork, Idle, Intended, Committed}
use Rattle.plan_log.specs.Spelling.{IsTable}
use Rattle.slot_store.specs.declared.held.RowSlots.{RowSlots}
use Rattle.slot_store.specs.Data.{slots_of}
use Rattle.client_journal.specs.Devs.{ClientDevs}
use Rattle.client_journal.specs.NamedSlots.{IsRow, IsRowOf}
use Rattle.client_journal.specs.Recover.{rolled_of}
use Rattle.client_journal.specs.Redone.{redone_by}
use Rattle.client_journal.proofs.Applied.{row_or_not}
use Rattle.client_journal.proofs.Behind.{other_slots}
use Rattle.step_tables.specs.ClientMoves.{Slots, TableDisk, RowPut, Plan, ClientDisk, slots_at, slots_in, table_at}
use Rattle.journal_laws.specs.Holds.{Stands, StandsPlan, StandsPut, slots_or_empty}
use Rattle.journal_laws.specs.Whole.{whole_slots}
use Rattle.client_node.specs.declared.waiting.Waiting.{Waiting}
use Rattle.client_node.specs.Noting.{IsRedoneNoted, AreAllNoted}
use Rattle.client_node.specs.Steady.{IsNoted, IsSteadyTable, IsSteadyPlan, IsSteady}
use Rattle.client_node.specs.Waiting.{IsNotedTwice}
use Rattle.client_node.proofs.NotedPlans.{noted_whole}

module _ (c : ℕ) (meaning : LocalName → List ℕ) (d : ClientDevs) (disk : ClientDisk) (s : Stands c meaning d disk) (before : Waiting) (h : IsSteady before disk) (w : Waiting) (all : AreAllNoted d w) where
  -- the row of a commit at work is noted, whatever its slots are
  row_redone : (commit : Commit) (change : RowChange) → d.journal.at_work ≡ Committed commit → commit.row ≡ Some change → IsNotedTwice w commit.table change.row
  row_redone commit change work is =
      subst (λ (o : Option RowChange). IfSome (option_map (λ (change : RowChange). change.row) o) (IsNotedTwice w commit.table)) is (subst (λ (a : AtWork). IsRedoneNoted w (rolled_of a)) work all.redone)

  noted_redone : (commit : Commit) (o : Option RowChange) (table : ℕ) (row : List ℕ) (slots : Slots) → d.journal.at_work ≡ Committed commit → commit.row ≡ o → IsRow commit.table o table row → IsNoted before table row slots → IsNoted w table row slots
  noted_redone commit None table row slots work is its k = absurd its.1
  noted_redone commit (Some change) table row slots work is its k =
      let both : IsNotedTwice w table row = subst (λ (t : ℕ). IsNotedTwice w t row) its.0 (subst (λ (r : List ℕ). IsNotedTwice w commit.table r) its.1 (row_redone commit change work is)) in
      record { sent = λ some. both.out; ready = λ some. both.ready; conflict = λ some. both.conflict; sized = k.sized }

  -- another row has the slots that it had
  noted_other : (table : ℕ) (row : List ℕ) (slots : Slots) → IsTable table → slots ≡ whole_slots meaning (slots_or_empty (slots_of d.held table row)) → slots_of (redone_by d.journal.at_work d.held) table row ≡ slots_of d.held table row → IsNoted w table row slots
  noted_other table row slots numbered is same =
      subst (IsNoted w table row) (ap (λ (o : Option RowSlots). whole_slots meaning (slots_or_empty o)) same ∙ sym is)
      (noted_whole w meaning table row (slots_or_empty (slots_of (redone_by d.journal.at_work d.held) table row)) (all.each table numbered row))

  noted_row : (work : AtWork) → d.journal.at_work ≡ work → (table : ℕ) (row : List ℕ) (slots : Slots) → IsTable table → slots ≡ whole_slots meaning (slots_or_empty (slots_of d.held table row)) → IsNoted before table row slots → IsNoted w table row slots
  noted_row Idle work table row slots numbered is k = noted_other table row slots numbered is (ap (λ (a : AtWork). slots_of (redone_by a d.held) table row) work)
  noted_row (Intended intend) work table row slots numbered is k = noted_other table row slots numbered is (ap (λ (a : AtWork). slots_of (redone_by a d.held) table row) work)
  noted_row (Committed commit) work table row slots numbered is k =
      ⊎_elim (λ its. noted_redone commit commit.row table row slots work refl its k)
      (λ apart. noted_other table row slots numbered is (ap (λ (a : AtWork). slots_of (redone_by a d.held) table row) work ∙ other_slots commit d.held table row apart)) (row_or_not commit.table commit.row table row)

  noted_table : (table : ℕ) (o : Option TableDisk) → table_at disk table ≡ o → IfSome o (IsSteadyTable before table) → IfSome o (IsSteadyTable w table)
  noted_table table None is k = tt
  noted_table table (Some t) is k = record {
    numbered = k.numbered;
    spelled = k.spelled;
    short = k.short;
    rising = k.rising;
    noted = λ row. noted_row d.journal.at_work refl table row (slots_at t row) k.numbered (ap (λ (o : Option TableDisk). slots_in o row) (sym is) ∙ sym (s.held.rows table row)) (k.noted row);
  }

  -- ---- the plan at work

  noted_put : (commit : Commit) (p : Plan) (change : Option RowChange) (put : Option RowPut) → d.journal.at_work ≡ Committed commit → commit.row ≡ change → commit.table ≡ p.table → StandsPut meaning change put → IfSome put (λ x. IsNoted before p.table x.row x.slots)
      → IfSome put (λ x. IsNoted w p.table x.row x.slots)
  noted_put commit p None None work is of k noted = tt
  noted_put commit p None (Some put) work is of k noted = absurd k
  noted_put commit p (Some change) None work is of k noted = absurd k
  noted_put commit p (Some change) (Some put) work is of k noted = noted_redone commit (Some change) p.table put.row put.slots work is (of, k.row) noted

  noted_plan : (work : AtWork) (o : Option Plan) → d.journal.at_work ≡ work → StandsPlan meaning c disk work o → IfSome o (IsSteadyPlan before) → IfSome o (IsSteadyPlan w)
  noted_plan work None is k steady = tt
  noted_plan Idle (Some p) is k steady = absurd k
  noted_plan (Intended intend) (Some p) is k steady = absurd k
  noted_plan (Committed commit) (Some p) is k steady = record { few = steady.few; alters = steady.alters; noted = noted_put commit p commit.row p.row is refl k.0.table k.0.row steady.noted }

  pub steady_held : IsSteady w disk
  steady_held = record {
    few = h.few;
    rising = h.rising;
    each = λ table. noted_table table (table_at disk table) refl (h.each table);
    plan = noted_plan d.journal.at_work disk.plan refl s.plan h.plan;
  }
