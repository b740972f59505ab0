-- What a move makes of a client whose link is up or down, and what its devices know of a table.
use Rattle.std.proofs.Common.{◌≡◌, ℕ, Bool, true, false, List, [], ◌∷◌, Option, Some, None, refl, sym, ◌∙◌, ap, subst}
use Rattle.std.specs.Prelude.{not, ◌&&◌, if◌then◌else◌, is_some}
use Rattle.std.specs.Ordering.{nat_cmp}
use Rattle.std.specs.Map.{lookup}
use Rattle.std.specs.BTreeMap.{is_at}
use Rattle.slot_store.specs.declared.held.TableRecord.{TableRecord}
use Rattle.held_value.specs.declared.slots.Slots.{Slots as HeldSlots}
use Rattle.client_journal.specs.Devs.{ClientDevs}
use Rattle.client_journal.specs.Redone.{redone}
use Rattle.step_tables.specs.Facts.{Answer}
use Rattle.step_tables.specs.Facts as facts
use Rattle.step_tables.specs.ClientMoves.{TableDisk, ClientDisk, ClientTask, ClientStep, quiet, is_before_link, table_at, slots_at, slots_in, seen}
use Rattle.journal_laws.specs.Holds.{StandsTable, IsRecordOf, HoldsTables}
use Rattle.journal_laws.specs.Whole.{whole_slots}
use Rattle.journal_laws.proofs.Seen.{seen_held}
use Rattle.client_node.specs.Node.{StandsFor}
use Rattle.client_node.specs.Answers.{record_at, held_at}

-- the step of a move that needs the link
abbrev pub linked_by : Bool → ClientDisk → Option (List ClientTask) → ClientStep → ClientStep
linked_by up disk agenda step = if not up && not (is_before_link step.answer) then quiet disk agenda (facts.Refuses facts.Offline) else step

-- what is refused before the link is looked at is refused all the same
pub before_link : (up : Bool) (disk : ClientDisk) (agenda : Option (List ClientTask)) (step : ClientStep) → is_before_link step.answer ≡ true → linked_by up disk agenda step ≡ step
before_link true disk agenda step is = refl
before_link false disk agenda step is = rw is refl

pub link_up : (up : Bool) (disk : ClientDisk) (agenda : Option (List ClientTask)) (step : ClientStep) → up ≡ true → linked_by up disk agenda step ≡ step
link_up up disk agenda step is = rw is refl

pub link_down : (up : Bool) (disk : ClientDisk) (agenda : Option (List ClientTask)) (step : ClientStep) → up ≡ false → is_before_link step.answer ≡ false → linked_by up disk agenda step ≡ quiet disk agenda (facts.Refuses facts.Offline)
link_down up disk agenda step down is = rw (down, is) refl

-- ---- tables

module _ (c : ℕ) (d : ClientDevs) (disk : ClientDisk) (st : StandsFor c d disk) (table : ℕ) where
  held_tables : HoldsTables st.0 (redone d) (seen disk).last (seen disk).tables
  held_tables = seen_held c st.0 d disk st.1

  -- a table that the devices know is opened, and one that they don't know isn't
  pub opened_is : (found : TableRecord) → record_at d table ≡ Some found → (opened : TableDisk) × (table_at (seen disk) table ≡ Some opened) × IsRecordOf found opened
  opened_is found is = pick (table_at (seen disk) table) refl (subst (λ (o : Option TableRecord). StandsTable o (table_at (seen disk) table)) is (held_tables.records table))
    where
      pick : (o : Option TableDisk) → table_at (seen disk) table ≡ o → StandsTable (Some found) o → (opened : TableDisk) × (table_at (seen disk) table ≡ Some opened) × IsRecordOf found opened
      pick None at s = absurd s
      pick (Some opened) at s = (opened, at, s)

  pub unopened_is : record_at d table ≡ None → table_at (seen disk) table ≡ None
  unopened_is is = pick (table_at (seen disk) table) refl (subst (λ (o : Option TableRecord). StandsTable o (table_at (seen disk) table)) is (held_tables.records table))
    where
      pick : (o : Option TableDisk) → table_at (seen disk) table ≡ o → StandsTable None o → table_at (seen disk) table ≡ None
      pick None at s = at
      pick (Some opened) at s = absurd s

  pub is_opened : (o : Option TableRecord) → record_at d table ≡ o → is_some o ≡ is_some (table_at (seen disk) table)
  is_opened None is = sym (ap (λ (o : Option TableDisk). is_some o) (unopened_is is))
  is_opened (Some found) is = sym (ap (λ (o : Option TableDisk). is_some o) (opened_is found is).1)

  -- and a row's slots, whole
  pub slots_are : (row : List ℕ) → whole_slots st.0 (held_at d table row) ≡ slots_in (table_at (seen disk) table) row
  slots_are row = held_tables.rows table row
