-- A plan that opens or closes its table keeps its rows: there are none, or their schema stays.
use Rattle.std.proofs.Common.{◌≡◌, ◌⊎◌, inl, inr, ℕ, List, Option, Some, None, refl, sym, ◌∙◌, ap, subst}
use Rattle.std.specs.Prelude.{IfSome, option_map}
use Rattle.held_value.specs.declared.local_name.LocalName.{LocalName}
use Rattle.held_value.specs.declared.slots.Main.{Main as HeldMain}
use Rattle.held_value.specs.declared.slots.Out.{Out as HeldOut}
use Rattle.held_value.specs.declared.slots.Shadow.{Shadow as HeldShadow}
use Rattle.held_value.specs.declared.slots.Slots.{Slots as HeldSlots}
use Rattle.slot_store.specs.declared.held.RowSlots.{RowSlots}
use Rattle.slot_store.specs.declared.held.TableRecord.{TableRecord}
use Rattle.slot_store.specs.Data.{slots_of, record_of}
use Rattle.plan_log.specs.declared.plan.RecordChange.{RecordChange}
use Rattle.plan_log.specs.declared.plan.RowChange.{RowChange}
use Rattle.client_journal.specs.declared.plan.Plan.{Plan as Begun}
use Rattle.client_journal.specs.Agenda.{meaning_with}
use Rattle.client_journal.specs.Devs.{ClientDevs}
use Rattle.client_journal.specs.Plan.{commit_for, numbered_row}
use Rattle.step_tables.specs.ClientMoves.{Slots, TableDisk, TableChange, Opens, Closes, RowPut, Plan, ClientDisk, no_slots, table_at, slots_in, opened_table}
use Rattle.journal_laws.specs.Holds.{empty, slots_or_empty, StandsTable, StandsPut, StandsChange, IsTableFor, IsPlanOf, IsPlanAt, Stands}
use Rattle.journal_laws.specs.Whole.{whole_slots, whole_main, whole_shadow, whole_out}
use Rattle.plan_limits.specs.Fit.{HasSchema, AreEmpty, KeepsRows}

none_mapped : {X Y : Type 0} (f : X → Y) (o : Option X) → option_map f o ≡ None → o ≡ None
none_mapped f None is = refl
none_mapped f (Some x) is = absurd cc

four_none : (m : Option HeldMain) (s : Option HeldShadow) (o : Option HeldOut) (k : Option HeldShadow) → m ≡ None → s ≡ None → o ≡ None → k ≡ None → record { main = m; shadow = s; out = o; conflict = k } ≡ empty
four_none m s o k mn sn on kn = rw (mn, sn, on, kn) refl

-- slots that are empty whole are empty
bare : (meaning : LocalName → List ℕ) (s : HeldSlots) → whole_slots meaning s ≡ no_slots → s ≡ empty
bare meaning s is = four_none s.main s.shadow s.out s.conflict
    (none_mapped (whole_main meaning) s.main (ap (λ (x : Slots). x.main) is))
    (none_mapped (whole_shadow meaning) s.shadow (ap (λ (x : Slots). x.shadow) is))
    (none_mapped (whole_out meaning) s.out (ap (λ (x : Slots). x.out) is))
    (none_mapped (whole_shadow meaning) s.conflict (ap (λ (x : Slots). x.conflict) is))

no_put : (meaning : LocalName → List ℕ) (number : ℕ) (o : Option RowChange) → StandsPut meaning (option_map (numbered_row number) o) None → o ≡ None
no_put meaning number None s = refl
no_put meaning number (Some change) s = absurd s

module _ (c : ℕ) (meaning : LocalName → List ℕ) (d : ClientDevs) (disk : ClientDisk) (stands : Stands c meaning d disk) (number : ℕ) (plan : Begun) (p : Plan) (of : IsPlanOf (meaning_with meaning number plan.brought) c (commit_for number plan) p)
    (at : IsPlanAt disk plan.new_record p) where
  -- what isn't on the disk isn't held
  none_held : ((row : List ℕ) → slots_in (table_at disk p.table) row ≡ no_slots) → AreEmpty d.held plan.table
  none_held none row stored is =
      bare meaning stored.slots
      (ap (λ (o : Option RowSlots). whole_slots meaning (slots_or_empty o)) (sym is)
      ∙ (stands.held.rows plan.table row ∙ (ap (λ (q : ℕ). slots_in (table_at disk q) row) of.table ∙ none row)))

  same_schema : (change : RecordChange) (t : TableDisk) → change.schema ≡ t.schema → (o : Option TableRecord) → StandsTable o (Some t) → HasSchema change.schema o
  same_schema change t for None s = absurd s
  same_schema change t for (Some old) s = s.schema ∙ sym for

  by_table : (change : RecordChange) (a : TableChange) (there : Option TableDisk) → table_at disk p.table ≡ there → IsTableFor (Some change) there (Some a) → HasSchema change.schema (record_of d.held plan.table) ⊎ AreEmpty d.held plan.table
  by_table change (Opens schema) None there for = inr (none_held (λ row. ap (λ (o : Option TableDisk). slots_in o row) there))
  by_table change (Opens schema) (Some t) there for = inr (none_held (λ row. ap (λ (o : Option TableDisk). slots_in o row) there ∙ ap (λ (x : TableDisk). slots_in (Some x) row) for))
  by_table change Closes None there for = absurd for
  by_table change Closes (Some t) there for =
      inl (same_schema change t for (record_of d.held plan.table)
      (subst (λ (o : Option TableDisk). StandsTable (record_of d.held plan.table) o) (ap (table_at disk) of.table ∙ there) (stands.held.records plan.table)))

  by_change : (change : RecordChange) → plan.new_record ≡ Some change → (o : Option TableChange) → p.alters ≡ o → StandsChange (Some change) p o → KeepsRows d.held plan change
  by_change change new None is s = absurd s
  by_change change new (Some a) is s = record {
    no_row = no_put (meaning_with meaning number plan.brought) number plan.row (subst (λ (o : Option RowPut). StandsPut (meaning_with meaning number plan.brought) (option_map (numbered_row number) plan.row) o) s.1 of.row);
    kept = by_table change a (table_at disk p.table) refl
        (subst (λ (r : Option RecordChange). IsTableFor r (table_at disk p.table) (Some a)) new (subst (λ (o : Option TableChange). IsTableFor plan.new_record (table_at disk p.table) o) is at.opened));
  }

  pub keeps_rows : IfSome plan.new_record (KeepsRows d.held plan)
  keeps_rows = pick plan.new_record refl of.alters
    where
      pick : (r : Option RecordChange) → plan.new_record ≡ r → StandsChange r p p.alters → IfSome r (KeepsRows d.held plan)
      pick None new s = tt
      pick (Some change) new s = by_change change new p.alters refl s
