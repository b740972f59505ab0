-- A plan of a row's change is a plan of the step table.
use Rattle.std.proofs.Common.{◌≡◌, ⊎_elim, ℕ, ◌<◌, List, Option, Some, None, refl, sym, ◌∙◌, ap, subst, arith}
use Rattle.std.specs.Prelude.{option_map}
use Rattle.held_value.specs.declared.local_name.LocalName.{LocalName}
use Rattle.held_value.specs.declared.slots.Slots.{Slots as HeldSlots}
use Rattle.slot_store.specs.declared.held.RowSlots.{RowSlots}
use Rattle.slot_store.specs.Data.{SlotData, slots_of}
use Rattle.plan_log.specs.declared.plan.RowChange.{RowChange}
use Rattle.plan_log.specs.declared.plan.RecordChange.{RecordChange}
use Rattle.client_journal.specs.declared.plan.Plan.{Plan as Begun}
use Rattle.client_journal.specs.Names.{Has, names_in}
use Rattle.client_journal.specs.Devs.{ClientDevs}
use Rattle.client_journal.specs.Redone.{redone}
use Rattle.client_journal.specs.NamedSlots.{IsNamed, IsAtRest, names_if, names_before, names_behind}
use Rattle.client_journal.specs.Agenda.{Commits, meaning_with}
use Rattle.client_journal.specs.Plan.{IsPlan, numbered_row, numbered_slots, commit_for, intend_for}
use Rattle.client_journal.proofs.Applied.{as_held}
use Rattle.client_journal.proofs.Numbers.{plan_commits}
use Rattle.step_tables.specs.ClientMoves.{RowPut, Plan, TableChange, ClientDisk, slots_in, table_at}
use Rattle.journal_laws.specs.Whole.{whole_slots, AreHeld, AreNumbered}
use Rattle.journal_laws.specs.Holds.{slots_or_empty, Say, StandsPut, StandsChange, IsPlanOf, Stands}
use Rattle.journal_laws.specs.Moves.{Plans, plan_meaning}
use Rattle.journal_laws.proofs.Alike.{slots_alike, held_alike}
use Rattle.journal_laws.proofs.Brought.{kept_is}
use Rattle.journal_laws.proofs.Numbered.{slots_same, held_same}
use Rattle.journal_laws.proofs.Plans.{named_in}

module _ (c : ℕ) (meaning : LocalName → List ℕ) (d : ClientDevs) (disk : ClientDisk) (number : ℕ) (st : Stands c meaning d disk) (rest : IsAtRest d) (newest : d.journal.greatest < number) where
  -- a name in what is held is of an older plan
  older : (q : ℕ) (r : List ℕ) (name : LocalName) → Has (names_in (slots_or_empty (slots_of d.held q r))) name → name.plan < number
  older q r name has =
      let a : IsNamed (redone d) name = subst (λ (s : SlotData). IsNamed s name) (sym (as_held d.journal.at_work d.held rest.not_committed)) (named_in d.held q r name has) in
      let most = st.named.below name a in
      omega (arith, most, newest)

  same : (brought : List (List ℕ)) (q : ℕ) (r : List ℕ) (name : LocalName) → Has (names_in (slots_or_empty (slots_of d.held q r))) name → plan_meaning meaning number brought name ≡ meaning name
  same brought q r name has = kept_is meaning number brought name (st.held.numbered q r name has) (older q r name has)

  -- the slots that a plan changes are those of the disk, whole
  pub before_whole : (brought : List (List ℕ)) (q : ℕ) (r : List ℕ) → whole_slots (plan_meaning meaning number brought) (slots_or_empty (slots_of d.held q r)) ≡ slots_in (table_at disk q) r
  before_whole brought q r = slots_alike meaning (plan_meaning meaning number brought) (slots_or_empty (slots_of d.held q r)) (same brought q r) ∙ st.held.rows q r

  pub before_held : (brought : List (List ℕ)) (q : ℕ) (r : List ℕ) → AreHeld (plan_meaning meaning number brought) (slots_or_empty (slots_of d.held q r))
  before_held brought q r = held_alike meaning (plan_meaning meaning number brought) (slots_or_empty (slots_of d.held q r)) (same brought q r) (st.held.held_all q r)

  module _ (plan : Begun) (p : Plan) (j : IsPlan d plan) where
    abbrev means : LocalName → List ℕ
    means = meaning_with meaning number plan.brought

    commits : Commits d (intend_for number plan) plan.brought (commit_for number plan)
    commits = plan_commits number meaning d plan st.named rest.not_committed newest j

    before_named : (table : ℕ) (change : RowChange) (name : LocalName) → Has (names_before d.held table (Some change)) name → name.plan ≡ 0 → ⊥
    before_named table change name has = st.held.numbered table change.row name (pick (slots_of d.held table change.row) has)
      where
        pick : (o : Option RowSlots) → Has (names_if o) name → Has (names_in (slots_or_empty o)) name
        pick None h = absurd cc
        pick (Some stored) h = h

    -- the new slots have no name of plan 0
    numbered_behind : (change : RowChange) → plan.row ≡ Some change → AreNumbered (numbered_slots number change.slots)
    numbered_behind change is name has zero_ =
        let row_is : (commit_for number plan).row ≡ Some (numbered_row number change) = ap (option_map (numbered_row number)) is in
        ⊎_elim
        (λ kept. before_named plan.table (numbered_row number change) name (subst (λ (o : Option RowChange). Has (names_before d.held plan.table o) name) row_is kept) zero_)
        (λ new. let at = new.plan_is in absurd (omega (arith, newest)))
        (commits.kept_or_new name (subst (λ (o : Option RowChange). Has (names_behind o) name) (sym row_is) has))

    module _ (table : plan.table ≡ p.table) (last : plan.last ≡ p.last) (position : plan.position ≡ p.position) where
      -- no table is opened or closed
      none_altered : plan.new_record ≡ None → p.alters ≡ None → StandsChange plan.new_record p p.alters
      none_altered no_record none =
          subst (λ (r : Option RecordChange). StandsChange r p p.alters) (sym no_record) (subst (λ (o : Option TableChange). StandsChange None p o) (sym none) tt)

      pub row_plan_of : plan.new_record ≡ None → (row : List ℕ) (slots : HeldSlots) → plan.row ≡ Some (record { row = row; slots = slots }) → AreHeld (plan_meaning meaning number plan.brought) slots
          → Plans (plan_meaning meaning number plan.brought) c row slots plan.tells p → IsPlanOf means c (commit_for number plan) p
      row_plan_of no_record row slots is held k =
          let change : RowChange = record { row = row; slots = slots } in
          let put : RowPut = record { row = row; slots = whole_slots (plan_meaning meaning number plan.brought) slots } in
          let s : StandsPut means (Some (numbered_row number change)) (Some put) = record {
            row = refl;
            slots = slots_same means number slots;
            held = held_same means number slots held;
            numbered = numbered_behind change is;
          } in
          record {
            last = last;
            table = table;
            row = subst (λ (o : Option RowChange). StandsPut means (option_map (numbered_row number) o) p.row) (sym is)
                (subst (λ (o : Option RowPut). StandsPut means (Some (numbered_row number change)) o) (sym k.put) s);
            position = position;
            alters = none_altered no_record k.alters;
            tells = k.tells;
          }

      pub plain_plan_of : StandsChange plan.new_record p p.alters → plan.row ≡ None → p.row ≡ None → Say c p.table p.row plan.tells p.facts → IsPlanOf means c (commit_for number plan) p
      plain_plan_of altered is none says = record {
        last = last;
        table = table;
        row = subst (λ (o : Option RowChange). StandsPut means (option_map (numbered_row number) o) p.row) (sym is) (subst (λ (o : Option RowPut). StandsPut means None o) (sym none) tt);
        position = position;
        alters = altered;
        tells = says;
      }
