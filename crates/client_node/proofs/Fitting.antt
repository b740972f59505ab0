-- Rows that fit their tables: now, and behind each write of a plan and of a start.
use Rattle.std.proofs.Common.{◌≡◌, ℕ, ◌+◌, ◌<◌, ◌≤◌, Bool, true, false, List, [], ◌∷◌, Option, Some, None, sym, ap, subst, arith}
use Rattle.std.specs.Prelude.{IfSome, if◌then◌else◌}
use Rattle.held_value.specs.declared.local_name.LocalName.{LocalName}
use Rattle.slot_store.specs.declared.held.RowSlots.{RowSlots}
use Rattle.slot_store.specs.Data.{SlotData, slots_of, record_of}
use Rattle.plan_log.specs.declared.plan.Commit.{Commit}
use Rattle.plan_log.specs.Spelling.{IsPlan as IsPlanNumber}
use Rattle.client_journal.specs.declared.plan.Plan.{Plan as Begun}
use Rattle.client_journal.specs.Agenda.{plan_writes, meaning_with, commit_is_to_come, IsMoment, IsRedoing, Runs}
use Rattle.client_journal.specs.Devs.{ClientDevs, Write, changed_by}
use Rattle.client_journal.specs.Names.{Has, names_in}
use Rattle.client_journal.specs.NamedSlots.{IsAtRest, IsNamed}
use Rattle.client_journal.specs.Plan.{commit_for, intend_for}
use Rattle.client_journal.specs.Redone.{applied, redone}
use Rattle.client_journal.specs.Standing.{MayDoAll}
use Rattle.client_journal.proofs.Applied.{as_held}
use Rattle.step_tables.specs.ClientMoves.{ClientDisk}
use Rattle.journal_laws.specs.Holds.{Stands, slots_or_empty}
use Rattle.plan_limits.specs.Fit.{AreFitRows, AreOlderRows, IsFitChange, KeepsRows}
use Rattle.plan_limits.proofs.Numbers.{others}
use Rattle.plan_limits.proofs.Followed.{rows_followed}
use Rattle.client_node.specs.Node.{StayFit}

-- ---- along writes

pub fit_now : (meaning : LocalName → List ℕ) (d : ClientDevs) (ws : List Write) → StayFit meaning d ws → AreFitRows meaning (redone d)
fit_now meaning d [] f = f
fit_now meaning d (w ∷ ws) f = f.0

fit_either : (meaning : LocalName → List ℕ) (b : Bool) (before after : SlotData) → AreFitRows meaning before → AreFitRows meaning after → AreFitRows meaning (if b then before else after)
fit_either meaning true before after f g = f
fit_either meaning false before after f g = g

module _ (meaning : LocalName → List ℕ) (before : SlotData) (f : AreFitRows meaning before) where
  -- what is read changes at the commit alone
  module _ (commit : Commit) (g : AreFitRows meaning (applied commit before)) where
    fit_at : (d : ClientDevs) (ws : List Write) → IsMoment meaning before commit ws d → AreFitRows meaning (redone d)
    fit_at d ws m = subst (λ (h : SlotData). AreFitRows meaning h) (sym m.held) (fit_either meaning (commit_is_to_come ws) before (applied commit before) f g)

    pub plan_stays_fit : (d : ClientDevs) (ws : List Write) → Runs (IsMoment meaning before commit) d ws → StayFit meaning d ws
    plan_stays_fit d [] r = fit_at d [] r
    plan_stays_fit d (w ∷ ws) r = (fit_at d (w ∷ ws) r.0, plan_stays_fit (changed_by d w) ws r.1)

  -- and behind the writes of a start all is read as before
  pub start_stays_fit : (d : ClientDevs) (ws : List Write) → Runs (IsRedoing meaning before) d ws → StayFit meaning d ws
  start_stays_fit d [] r = subst (λ (h : SlotData). AreFitRows meaning h) (sym r.held) f
  start_stays_fit d (w ∷ ws) r = (subst (λ (h : SlotData). AreFitRows meaning h) (sym r.0.held) f, start_stays_fit (changed_by d w) ws r.1)

-- ---- a plan that is taken on

-- the number of a plan whose writes may be done is one
pub plan_number : (d : ClientDevs) (held : SlotData) (number : ℕ) (plan : Begun) (brought : List (List ℕ)) → MayDoAll d (plan_writes held (intend_for number plan) brought (commit_for number plan)) → IsPlanNumber number
plan_number d held number plan [] may = may.0.0.plan
plan_number d held number plan (bytes ∷ brought) may = may.0.0.plan

module _ (c : ℕ) (meaning : LocalName → List ℕ) (d : ClientDevs) (disk : ClientDisk) (stands : Stands c meaning d disk) (rest : IsAtRest d) where
  -- what is read is what is held
  pub fit_held : AreFitRows meaning (redone d) → AreFitRows meaning d.held
  fit_held f = subst (λ (h : SlotData). AreFitRows meaning h) (as_held d.journal.at_work d.held rest.not_committed) f

  module _ (number : ℕ) (newest : d.journal.greatest < number) where
    -- each name in a slot was numbered by a plan before
    pub rows_are_older : AreOlderRows number d.held
    rows_are_older = record {
      each = λ table row stored is name has.
          let numbered : (name : LocalName) → Has (names_in stored.slots) name → name.plan ≡ 0 → ⊥ =
          subst (λ (o : Option RowSlots). (name : LocalName) → Has (names_in (slots_or_empty o)) name → name.plan ≡ 0 → ⊥) is (stands.held.numbered table row) in
          let here : IsNamed d.held name = record { table = table; row = row; stored = stored; there = is; among = has } in
          let most : name.plan ≤ d.journal.greatest = stands.named.below name (subst (λ (h : SlotData). IsNamed h name) (sym (as_held d.journal.at_work d.held rest.not_committed)) here) in
          (numbered name has, omega (arith, most, newest));
    }

    module _ (fit : AreFitRows meaning (redone d)) (plan : Begun) where
      -- rows whose slots don't change are as fit under what the names stand for once the brought chunks have theirs
      pub rows_fit_before : AreFitRows (meaning_with meaning number plan.brought) d.held
      rows_fit_before = record {
        each = λ table row stored is. others meaning (record_of d.held table) number plan.brought stored.slots ((fit_held fit).each table row stored is) (rows_are_older.each table row stored is);
      }

      pub rows_fit_behind : IfSome plan.new_record (KeepsRows d.held plan) → IsPlanNumber number → IfSome plan.row (IsFitChange meaning number plan.brought (record_of d.held plan.table)) → AreFitRows (meaning_with meaning number plan.brought) (applied (commit_for number plan) d.held)
      rows_fit_behind keeps is change = rows_followed meaning d.held number plan (fit_held fit) rows_are_older is change keeps
