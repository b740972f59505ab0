-- A prepared plan of a row's slots is one of the step table, and the devices take it on.
use Rattle.std.proofs.Common.{◌≡◌, ◌⊎◌, inl, inr, ⊎_elim, ℕ, ◌+◌, ◌<◌, ◌≤◌, Bool, true, false, List, [], ◌∷◌, ◌++◌, length, Option, Some, None, refl, sym, ◌∙◌, ap, subst, arith}
use Rattle.std.specs.Prelude.{map, IfSome, IsSome, option_map, option_to_list, ◌&&◌, not, unwrap_or}
use Rattle.std.specs.List.{AllByRecursion}
use Rattle.std.proofs.Common.{length-append}
use Rattle.disk_trait.specs.Calls.{DiskState}
use Rattle.stab_base.specs.declared.limits.TheConstants.{NUMBER_MAX}
use Rattle.row_value.specs.declared.schema.Schema.{Schema}
use Rattle.row_value.specs.declared.schema.Scheme.{Scheme}
use Rattle.value_codec.specs.SchemaSpelling.{HasSchemaSpelling}
use Rattle.field_codec.specs.Forms.{IsOption}
use Rattle.held_value.specs.declared.local_name.LocalName.{LocalName}
use Rattle.held_value.specs.declared.slots.Slots.{Slots as HeldSlots}
use Rattle.held_value.specs.declared.tell.Tell.{Tell}
use Rattle.held_value.specs.declared.tell.Tell.TheVariants as tell
use Rattle.held_codec.specs.Spelling.{HasTell}
use Rattle.slot_store.specs.declared.held.RowSlots.{RowSlots}
use Rattle.slot_store.specs.declared.held.TableRecord.{TableRecord}
use Rattle.slot_store.specs.Data.{SlotData, slots_of, record_of}
use Rattle.plan_log.specs.declared.plan.RowChange.{RowChange}
use Rattle.plan_log.specs.Journal.{AtWork, Idle, Intended, Committed}
use Rattle.plan_log.specs.Spelling.{IsTable, IsPosition}
use Rattle.client_tables.specs.declared.change.Change.{Change}
use Rattle.client_tables.specs.declared.plan.RowPlan.{RowPlan}
use Rattle.client_tables.specs.Change.{after}
use Rattle.client_tables.specs.Drops.{names_in as tree_names}
use Rattle.client_tables.specs.Kept.{SlotEvent, change_of, slots_behind}
use Rattle.client_tables.specs.Plan.{IsPlan as IsRowPlanOf, AreKnown, brought_by}
use Rattle.client_journal.specs.declared.devs.Journal.{Journal}
use Rattle.client_journal.specs.declared.plan.Plan.{Plan as Begun}
use Rattle.client_journal.specs.Agenda.{meaning_with}
use Rattle.client_journal.specs.Devs.{ClientDevs}
use Rattle.client_journal.specs.Names.{Has, is_among, names_in}
use Rattle.client_journal.specs.NamedSlots.{IsAtRest, IsNotCommitted, AreDifferent}
use Rattle.client_journal.specs.Plan.{IsPlan, commit_for, chunk_most}
use Rattle.client_journal.specs.Redone.{redone}
use Rattle.client_journal.specs.Standing.{devs}
use Rattle.step_tables.specs.Facts.{Fact, ClientFact}
use Rattle.step_tables.specs.Facts as facts
use Rattle.step_tables.specs.ClientMoves.{TableDisk, TableChange, RowPut, Plan, ClientDisk, Slots, table_at, slots_at, slots_in, seen, planned_in, told}
use Rattle.step_tables.specs.Lines.{fact_of}
use Rattle.step_tables.specs.Messages.{Send}
use Rattle.step_tables.specs.Travels.{send_of}
use Rattle.journal_laws.specs.Holds.{Stands, StandsPlan, StandsTable, IsRecordOf, IsPlanOf, IsPlanAt, IsTableFor, Say, slots_or_empty, empty, fact_in, fact_alone}
use Rattle.journal_laws.specs.Moves.{Plans, PlansChange, HoldsEvent, plan_meaning}
use Rattle.journal_laws.specs.Whole.{whole_slots, AreHeld}
use Rattle.journal_laws.proofs.Becomes.{before_whole, before_held, row_plan_of}
use Rattle.journal_laws.proofs.Plans.{named_in}
use Rattle.journal_laws.proofs.Stays.{stays}
use Rattle.held_contents.specs.Holding.{brought_name}
use Rattle.plan_limits.specs.Fit.{IsFitRow, AreFitRows, IsFitEvent, IsFitChange, AreOlder, AreOlderOrNew}
use Rattle.plan_limits.specs.Short.{IsRowPlan, IsShort, AreFewTells}
use Rattle.plan_limits.proofs.Commits.{row_short}
use Rattle.plan_limits.proofs.Numbers.{planned as fit_planned}
use Rattle.plan_limits.proofs.Rows.{behind_fit, few_told}
use Rattle.client_node.specs.declared.planning.Planned.{Planned}
use Rattle.client_node.specs.declared.waiting.Waiting.{Waiting}
use Rattle.client_node.specs.Answers.{record_at, held_at}
use Rattle.client_node.specs.Begins.{next_number}
use Rattle.client_node.specs.Node.{StandsFor}
use Rattle.client_node.specs.Readied.{IsPlanFor, IsOfRow, IsReadied, IsIdleAt, IsIdle}
use Rattle.client_node.specs.Tells.{told_fact, facts_told, with_position}
use Rattle.client_node.specs.Steady.{IsSteady, IsSteadyAlter, IsSteadyTable}
use Rattle.client_node.proofs.RowPlans.{redone_rests, names_same, rising_different, row_plan_is, IsLimited}

-- ---- what is told

-- a tell that says something by itself
abbrev pub IsPlain : Tell → Type 0
IsPlain (tell.Wrote number read) = ⊥
IsPlain other = Unit {0}

some_fact : (a b : ClientFact) → Some a ≡ Some b → a ≡ b
some_fact a b e = cc

one_told : (c table : ℕ) (put : RowPut) (t : Tell) (f : ClientFact) → IsPlain t → fact_in c table (Some put) t ≡ Some f → told_fact c table put.row t ≡ Some (facts.Client f)
one_told c table put (tell.Wrote number read) f plain is = absurd plain
one_told c table put (tell.Acked number version) f plain is = ap (λ (x : ClientFact). Some (facts.Client x)) (some_fact (facts.Acked c number table put.row version) f is)
one_told c table put (tell.Refused number latest) f plain is = ap (λ (x : ClientFact). Some (facts.Client x)) (some_fact (facts.Refused c number table put.row latest) f is)
one_told c table put (tell.Conflict number version) f plain is = ap (λ (x : ClientFact). Some (facts.Client x)) (some_fact (facts.Conflict c number table put.row version) f is)
one_told c table put (tell.Resolved number version) f plain is = ap (λ (x : ClientFact). Some (facts.Client x)) (some_fact (facts.Resolved c number table put.row version) f is)
one_told c table put (tell.New version) f plain is = ap (λ (x : ClientFact). Some (facts.Client x)) (some_fact (facts.New c table put.row version) f is)
one_told c table put (tell.Position position) f plain is = ap (λ (x : ClientFact). Some (facts.Client x)) (some_fact (facts.Position c table position) f is)
one_told c table put tell.Opened f plain is = absurd cc
one_told c table put tell.Dropped f plain is = absurd cc

abbrev somes : List ClientFact → List (Option ClientFact)
somes some = map (λ (fact : ClientFact). Some fact) some

first_same : (a b : Option ClientFact) (xs ys : List (Option ClientFact)) → a ∷ xs ≡ b ∷ ys → a ≡ b
first_same a b xs ys e = cc

rest_same : (a b : Option ClientFact) (xs ys : List (Option ClientFact)) → a ∷ xs ≡ b ∷ ys → xs ≡ ys
rest_same a b xs ys e = cc

-- what plain tells say is told
pub all_told : (c table : ℕ) (put : RowPut) (tells : List Tell) (some : List ClientFact) → AllByRecursion IsPlain tells → Say c table (Some put) tells some → facts_told c table put.row tells ≡ map facts.Client some
all_told c table put [] [] plain says = refl
all_told c table put [] (f ∷ some) plain says = absurd cc
all_told c table put (t ∷ tells) [] plain says = absurd cc
all_told c table put (t ∷ tells) (f ∷ some) plain says =
    let one = one_told c table put t f plain.0 (first_same (fact_in c table (Some put) t) (Some f) (map (fact_in c table (Some put)) tells) (somes some) says) in
    let more = all_told c table put tells some plain.1 (rest_same (fact_in c table (Some put) t) (Some f) (map (fact_in c table (Some put)) tells) (somes some) says) in
    ap (λ (o : Option Fact). option_to_list o ++ facts_told c table put.row tells) one ∙ ap (λ (l : List Fact). facts.Client f ∷ l) more

plain_position : (tells : List Tell) (position : Option ℕ) → AllByRecursion IsPlain tells → AllByRecursion IsPlain (with_position tells position)
plain_position tells None plain = plain
plain_position [] (Some position) plain = (tt, tt)
plain_position (t ∷ tells) (Some position) plain = (plain.0, plain_position tells (Some position) plain.1)

spelled_position : (tells : List Tell) (position : Option ℕ) → IsOption IsPosition position → AllByRecursion HasTell tells → AllByRecursion HasTell (with_position tells position)
spelled_position tells None is all = all
spelled_position [] (Some position) is all = (is, tt)
spelled_position (t ∷ tells) (Some position) is all = (all.0, spelled_position tells (Some position) is all.1)

few_position : (tells : List Tell) (position : Option ℕ) → length tells ≤ 2 → length (with_position tells position) ≤ 3
few_position tells None few = omega (arith, few)
few_position tells (Some position) few = let len = length-append tells (tell.Position position ∷ []) in rw len (omega (arith, few))

-- ---- where nothing is at work

no_plan : (meaning : LocalName → List ℕ) (c : ℕ) (disk : ClientDisk) (work : AtWork) (o : Option Plan) → IsNotCommitted work → StandsPlan meaning c disk work o → o ≡ None
no_plan meaning c disk work None n s = refl
no_plan meaning c disk Idle (Some p) n s = absurd s
no_plan meaning c disk (Intended intend) (Some p) n s = absurd s
no_plan meaning c disk (Committed commit) (Some p) n s = absurd n

module _ (c : ℕ) (d : ClientDevs) (disk : ClientDisk) (s : StandsFor c d disk) (rest : IsAtRest d) where
  abbrev meaning : LocalName → List ℕ
  meaning = s.0

  abbrev number : ℕ
  number = d.journal.greatest + 1

  pub as_held : redone d ≡ d.held
  as_held = redone_rests d.journal.at_work d.held rest.not_committed

  pub plan_none : disk.plan ≡ None
  plan_none = no_plan meaning c disk d.journal.at_work disk.plan rest.not_committed s.1.plan

  pub seen_is : seen disk ≡ disk
  seen_is = ap (planned_in disk) plan_none

  pub newest : d.journal.greatest < number
  newest = omega arith

  -- the last number of the devices is the disk's
  pub last_is : (redone d).last ≡ disk.last
  last_is = ap (λ (h : SlotData). h.last) as_held ∙ s.1.held.last_is

  -- a table that the devices know is opened
  pub opened_now : (table : ℕ) (found : TableRecord) → record_at d table ≡ Some found → (t : TableDisk) × (table_at disk table ≡ Some t) × IsRecordOf found t
  opened_now table found is = pick (table_at disk table) refl (subst (λ (o : Option TableRecord). StandsTable o (table_at disk table)) (ap (λ (h : SlotData). record_of h table) (sym as_held) ∙ is) (s.1.held.records table))
    where
      pick : (o : Option TableDisk) → table_at disk table ≡ o → StandsTable (Some found) o → (t : TableDisk) × (table_at disk table ≡ Some t) × IsRecordOf found t
      pick None at k = absurd k
      pick (Some t) at k = (t, at, k)

  -- and one that they don't know isn't
  pub closed_now : (table : ℕ) → record_at d table ≡ None → table_at disk table ≡ None
  closed_now table is = pick (table_at disk table) refl (subst (λ (o : Option TableRecord). StandsTable o (table_at disk table)) (ap (λ (h : SlotData). record_of h table) (sym as_held) ∙ is) (s.1.held.records table))
    where
      pick : (o : Option TableDisk) → table_at disk table ≡ o → StandsTable None o → table_at disk table ≡ None
      pick None at k = at
      pick (Some t) at k = absurd k

  module _ (table : ℕ) (row : List ℕ) where
    abbrev slots : HeldSlots
    slots = held_at d table row

    pub slots_here : slots ≡ slots_or_empty (slots_of d.held table row)
    slots_here = ap (λ (h : SlotData). slots_or_empty (slots_of h table row)) as_held

    -- the slots of the row are those of the disk, whole
    pub whole_now : (brought : List (List ℕ)) → whole_slots (plan_meaning meaning number brought) slots ≡ slots_in (table_at disk table) row
    whole_now brought = ap (whole_slots (plan_meaning meaning number brought)) slots_here ∙ before_whole c meaning d disk number s.1 rest newest brought table row

    pub whole_here : whole_slots meaning slots ≡ slots_in (table_at disk table) row
    whole_here = ap (whole_slots meaning) slots_here ∙ s.1.held.rows table row

    pub held_now : (brought : List (List ℕ)) → AreHeld (plan_meaning meaning number brought) slots
    held_now brought = subst (λ (x : HeldSlots). AreHeld (plan_meaning meaning number brought) x) (sym slots_here) (before_held c meaning d disk number s.1 rest newest brought table row)

    -- its names are of plans before the next
    pub older_now : AreOlder number (names_in slots)
    older_now name has =
        let zero = s.1.held.numbered table row name (subst (λ (x : HeldSlots). Has (names_in x) name) slots_here has) in
        let most = s.1.named.below name (named_in (redone d) table row name has) in
        (zero, omega (arith, most))

    module _ (found : TableRecord) (opened : record_at d table ≡ Some found) where
      -- they fit
      pub fit_here : IsFitRow meaning (Some found) slots
      fit_here = pick (slots_of (redone d) table row) refl
        where
          pick : (o : Option RowSlots) → slots_of (redone d) table row ≡ o → IsFitRow meaning (Some found) (slots_or_empty o)
          pick None at = record { whole = record { right = refl }; spelled = (tt, (tt, (tt, tt))); pieces = tt }
          pick (Some stored) at = subst (λ (o : Option TableRecord). IsFitRow meaning o stored.slots) opened (s.2.each table row stored at)

      pub fit_now : (brought : List (List ℕ)) → IsFitRow (plan_meaning meaning number brought) (Some found) slots
      fit_now brought = fit_planned meaning (Some found) number brought slots fit_here older_now

      module _ (w : Waiting) (steady : IsSteady w disk) where
        abbrev opened_as : (t : TableDisk) × (table_at disk table ≡ Some t) × IsRecordOf found t
        opened_as = opened_now table found opened

        pub steady_here : IsSteadyTable w table opened_as.0
        steady_here = subst (λ (o : Option TableDisk). IfSome o (IsSteadyTable w table)) opened_as.1 (steady.each table)

        pub schema_spelled : HasSchemaSpelling found.schema
        schema_spelled = subst (λ (x : Schema). HasSchemaSpelling x) (sym opened_as.2.schema) steady_here.spelled

        -- a prepared plan of an event
        module _ (scheme : Scheme) (event : SlotEvent) (given : List (List ℕ)) (fits : IsFitEvent (plan_meaning meaning number given) (Some found) slots event) (holds : HoldsEvent (plan_meaning meaning number given) slots event)
            (known : AreKnown slots (length given) (tree_names (slots_behind scheme slots event))) (made : RowPlan) (is : IsRowPlanOf slots (change_of scheme slots event) given made) (position : Option ℕ) (place : IsOption IsPosition position) (last : ℕ) (least : disk.last ≤ last) (most : last ≤ NUMBER_MAX) (planned : Planned)
            (o : IsPlanFor table row last position made planned.plan) (len : length row ≡ 16) (brings : (ordinal : ℕ) → ordinal < length given → Has (names_in o.behind) (brought_name ordinal)) (small : AllByRecursion (λ bytes. length bytes ≤ chunk_most) given) where
          abbrev behind : HeldSlots
          behind = o.behind

          abbrev change : Change
          change = change_of scheme slots event

          means : LocalName → List ℕ
          means = plan_meaning meaning number given

          some : change.slots ≡ Some behind
          some = ap (λ (x : Change). x.slots) (sym is.change) ∙ o.changes

          behind_is : slots_behind scheme slots event ≡ behind
          behind_is = ap (λ (x : Option HeldSlots). unwrap_or x slots) some

          brought_is : planned.plan.brought ≡ given
          brought_is = o.brought ∙ (is.chunks ∙ ap (λ (x : Option HeldSlots). brought_by x given) some)

          fit_behind : IsFitRow (plan_meaning meaning number given) (Some found) behind
          fit_behind = subst (IsFitRow (plan_meaning meaning number given) (Some found)) behind_is (behind_fit (plan_meaning meaning number given) (Some found) scheme slots event (fit_now given) fits)

          known_behind : AreKnown slots (length given) (tree_names behind)
          known_behind = subst (λ (x : HeldSlots). AreKnown slots (length given) (tree_names x)) behind_is known

          held_behind : AreHeld (plan_meaning meaning number given) behind
          held_behind = subst (AreHeld (plan_meaning meaning number given)) behind_is (stays (plan_meaning meaning number given) scheme slots event (held_now given) holds)

          named_before : (name : LocalName) → Has planned.plan.drops name → Has (names_in slots) name
          named_before name has =
              let among : is_among made.drops name ≡ true = subst (λ (l : List LocalName). is_among l name ≡ true) o.drops has in
              let both : (is_among (names_in slots) name && not (is_among (names_in (after slots change)) name)) ≡ true =
              sym (is.drops name ∙ rw (names_same, names_same) refl) ∙ among in
              and_first (is_among (names_in slots) name) (not (is_among (names_in (after slots change)) name)) both
            where
              and_first : (a b : Bool) → (a && b) ≡ true → a ≡ true
              and_first true b e = refl
              and_first false b e = e

          few : AreFewTells planned.plan.tells
          few =
              let t = few_told (plan_meaning meaning number given) (Some found) scheme slots event (fit_now given) fits in
              let tells : planned.plan.tells ≡ with_position change.tells position = o.tells ∙ ap (λ (x : Change). with_position x.tells position) is.change in
              subst AreFewTells (sym tells) (record { few = few_position change.tells position t.0; spelled = spelled_position change.tells position place t.1 })

          is_row_plan : IsRowPlan row slots behind planned.plan
          is_row_plan = record {
            table = subst IsTable (sym o.table_is) steady_here.numbered;
            last = subst (λ (n : ℕ). n ≤ NUMBER_MAX) (sym o.last_is) most;
            id = len;
            row = o.row_is;
            position = subst (λ (x : Option ℕ). IsOption IsPosition x) (sym o.position_is) place;
            new_record = o.new_record;
            brought = λ ordinal less. brings ordinal (subst (λ (l : List (List ℕ)). ordinal < length l) brought_is less);
            drops = named_before;
            different = subst AreDifferent (sym o.drops) (rising_different made.drops is.rising);
            tells = few;
          }

          short : IsShort planned.plan
          short = row_short meaning (plan_meaning meaning number given) found row slots behind planned.plan schema_spelled fit_here fit_behind is_row_plan

          limits : IsLimited planned.plan
          limits = record {
            spelled = short.spelled;
            short = short.short;
            chunks = subst (AllByRecursion (λ bytes. length bytes ≤ chunk_most)) (sym brought_is) small;
            few = short.few;
          }

          pub is_plan : IsPlan d planned.plan
          is_plan = row_plan_is c meaning d disk s.1 rest table row slots behind slots_here change given made is some known_behind planned.plan o.table_is o.row_is brought_is o.drops brings limits

          -- the slots that it puts are fit
          fit_change : IsFitChange meaning number planned.plan.brought (record_of d.held planned.plan.table) (record { row = row; slots = behind })
          fit_change = record {
            fit = subst (λ (b : List (List ℕ)). IsFitRow (plan_meaning meaning number b) (record_of d.held planned.plan.table) behind) (sym brought_is)
                (subst (λ (x : Option TableRecord). IsFitRow (plan_meaning meaning number given) x behind) (sym (ap (record_of d.held) o.table_is ∙ (ap (λ (h : SlotData). record_of h table) (sym as_held) ∙ opened))) fit_behind);
            names = λ name has. ⊎_elim (λ was. (older_now name (subst (λ (l : List LocalName). Has l name) (names_same slots) was)).1) (λ new. let zero = new.0 in omega (arith, zero)) (known_behind name (subst (λ (l : List LocalName). Has l name) (sym (names_same behind)) has));
          }

          module _ (p : Plan) (p_table : p.table ≡ table) (p_last : p.last ≡ last) (p_position : p.position ≡ position)
              (plans : Plans (plan_meaning meaning number given) c row (after slots change) (with_position change.tells position) p) where
            tells_are : planned.plan.tells ≡ with_position change.tells position
            tells_are = o.tells ∙ ap (λ (x : Change). with_position x.tells position) is.change

            plans_now : Plans (plan_meaning meaning number planned.plan.brought) c row behind planned.plan.tells p
            plans_now =
                subst (λ (b : List (List ℕ)). Plans (plan_meaning meaning number b) c row behind planned.plan.tells p) (sym brought_is)
                (subst (λ (t : List Tell). Plans (plan_meaning meaning number given) c row behind t p) (sym tells_are)
                (subst (λ (x : HeldSlots). Plans (plan_meaning meaning number given) c row x (with_position change.tells position) p) behind_is plans))

            its : IsPlanOf (meaning_with meaning number planned.plan.brought) c (commit_for number planned.plan) p
            its =
                row_plan_of c meaning d disk number s.1 rest newest planned.plan p is_plan (o.table_is ∙ sym p_table) (o.last_is ∙ sym p_last) (o.position_is ∙ sym p_position) o.new_record row behind o.row_is
                (subst (λ (b : List (List ℕ)). AreHeld (plan_meaning meaning number b) behind) (sym brought_is) held_behind) plans_now

            put : RowPut
            put = record { row = row; slots = whole_slots (plan_meaning meaning number given) behind }

            put_is : p.row ≡ Some (record { row = row; slots = whole_slots (plan_meaning meaning number given) behind })
            put_is = plans.put ∙ ap (λ (x : HeldSlots). Some (record { row = row; slots = whole_slots (plan_meaning meaning number given) x })) behind_is

            pub says : Say c table (Some (record { row = row; slots = whole_slots (plan_meaning meaning number given) behind })) (with_position change.tells position) p.facts
            says = subst (λ (x : Option RowPut). Say c table x (with_position change.tells position) p.facts) put_is (subst (λ (n : ℕ). Say c n p.row (with_position change.tells position) p.facts) p_table plans.tells)

            -- what it tells and sends
            pub event_readied : map fact_of planned.facts.items ≡ told p → (sends : List Send) → map send_of planned.messages.items ≡ sends → IsReadied d c meaning disk planned p sends
            event_readied tells sends sends_are = record {
              taken = is_plan;
              its = its;
              at = record { last = subst (λ (n : ℕ). disk.last ≤ n) (sym p_last) least; opened = subst (λ (o : Option TableChange). IsTableFor planned.plan.new_record (table_at disk p.table) o) (sym plans.alters) (subst (λ (n : ℕ). is_opened n) (sym p_table) opened_some) };
              few = subst (λ (n : ℕ). n ≤ NUMBER_MAX) (sym p_last) most;
              tells = tells;
              sends_are = sends_are;
              alters = subst (λ (o : Option TableChange). IsSteadyAlter p.table o) (sym plans.alters) tt;
              fit = subst (λ (r : Option RowChange). IfSome r (IsFitChange meaning number planned.plan.brought (record_of d.held planned.plan.table))) (sym o.row_is) fit_change;
            }
              where
                is_opened : ℕ → Type 0
                is_opened n = IsSome (table_at disk n)

                opened_some : IsSome (table_at disk table)
                opened_some = subst (λ (x : Option TableDisk). IsSome x) (sym opened_as.1) refl

        -- one of an event that tells no write, under the number that is the last
        module _ (scheme : Scheme) (event : SlotEvent) (given : List (List ℕ)) (fits : IsFitEvent (plan_meaning meaning number given) (Some found) slots event) (holds : HoldsEvent (plan_meaning meaning number given) slots event)
            (known : AreKnown slots (length given) (tree_names (slots_behind scheme slots event))) (made : RowPlan) (is : IsRowPlanOf slots (change_of scheme slots event) given made) (position : Option ℕ) (place : IsOption IsPosition position) (sends : List Send) (planned : Planned)
            (o : IsOfRow c table row disk.last position made sends planned) (len : length row ≡ 16) (brings : (ordinal : ℕ) → ordinal < length given → Has (names_in o.behind) (brought_name ordinal)) (small : AllByRecursion (λ bytes. length bytes ≤ chunk_most) given)
            (p : Plan) (p_table : p.table ≡ table) (p_last : p.last ≡ disk.last) (p_position : p.position ≡ position) (plain : AllByRecursion IsPlain (change_of scheme slots event).tells)
            (plans : Plans (plan_meaning meaning number given) c row (after slots (change_of scheme slots event)) (with_position (change_of scheme slots event).tells position) p) where
          abbrev plan_for : IsPlanFor table row disk.last position made planned.plan
          plan_for = record {
            behind = o.behind;
            changes = o.changes;
            table_is = o.table_is;
            last_is = o.last_is;
            row_is = o.row_is;
            position_is = o.position_is;
            new_record = o.new_record;
            brought = o.brought;
            drops = o.drops;
            tells = o.tells;
          }

          pub row_readied : IsReadied d c meaning disk planned p sends
          row_readied =
              let told_are = says scheme event given fits holds known made is position place disk.last (omega arith) steady.few planned plan_for len brings small p p_table p_last p_position plans in
              event_readied scheme event given fits holds known made is position place disk.last (omega arith) steady.few planned plan_for len brings small p p_table p_last p_position plans
              (o.facts_are ∙ (ap (λ (x : Change). facts_told c table row (with_position x.tells position)) is.change
              ∙ all_told c table (record { row = row; slots = whole_slots (plan_meaning meaning number given) o.behind }) (with_position (change_of scheme slots event).tells position) p.facts (plain_position (change_of scheme slots event).tells position plain) told_are))
              sends o.sends_are
