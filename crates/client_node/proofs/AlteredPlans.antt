-- The plan that opens or closes a table, as one of the devices and of the step table.
use Rattle.std.proofs.Common.{◌≡◌, ℕ, ◌+◌, ◌≤◌, Bool, true, false, List, [], ◌∷◌, ◌++◌, length, map, Option, Some, None, refl, sym, ◌∙◌, ap, subst, arith, length-append}
use Rattle.std.specs.Prelude.{◌==◌, not, option_map, if◌then◌else◌, IfSome}
use Rattle.stab_base.specs.declared.limits.TheConstants.{NUMBER_MAX}
use Rattle.row_value.specs.declared.schema.Schema.{Schema}
use Rattle.value_codec.specs.Spelling.{list_spelling}
use Rattle.value_codec.specs.SchemaSpelling.{HasSchemaSpelling, schema_spelling}
use Rattle.vault.specs.Limit.{payload_most}
use Rattle.field_codec.specs.Forms.{four, eight, IsOption, option_spelling, AreEach}
use Rattle.held_codec.specs.Spelling.{local_spelling, HasLocalSpelling, tell_spelling, HasTell}
use Rattle.table_model.specs.declared.line.ClientFact.{ClientFact}
use Rattle.table_model.specs.declared.line.ClientFact.TheVariants as client
use Rattle.held_value.specs.declared.local_name.LocalName.{LocalName}
use Rattle.held_value.specs.declared.tell.Tell.{Tell}
use Rattle.held_value.specs.declared.tell.Tell.TheVariants as tell
use Rattle.slot_store.specs.declared.held.TableRecord.{TableRecord}
use Rattle.slot_store.specs.Data.{record_of}
use Rattle.slot_store.proofs.Again.{four_len}
use Rattle.plan_log.specs.declared.plan.RowChange.{RowChange}
use Rattle.plan_log.specs.declared.plan.RecordChange.{RecordChange}
use Rattle.plan_log.specs.declared.plan.Commit.{Commit}
use Rattle.plan_log.specs.Spelling.{IsTable, IsState, IsPosition, HasRowChange, HasRecordChange, commit_payload, head_spelling, updates_spelling, row_change_spelling, record_change_spelling}
use Rattle.client_journal.specs.Devs.{ClientDevs}
use Rattle.client_journal.specs.Plan.{IsPlan, commit_for, numbered_row}
use Rattle.client_journal.specs.Redone.{redone}
use Rattle.step_tables.specs.Facts as facts
use Rattle.step_tables.specs.Lines.{client_fact_of, fact_of}
use Rattle.step_tables.specs.Travels.{send_of}
use Rattle.step_tables.specs.ClientMoves.{TableDisk, TableChange, Opens, Closes, ClientDisk, Plan, table_at, seen, told_of, alter_plan, may_alter}
use Rattle.journal_laws.specs.Holds.{fact_alone, Say, IsAlteredTo, StandsChange, IsTableFor, MayOpen, MayClose}
use Rattle.journal_laws.proofs.Becomes.{plain_plan_of}
use Rattle.plan_limits.specs.Fit.{IsFitChange}
use Rattle.plan_limits.specs.Short.{IsShort}
use Rattle.plan_limits.proofs.Small.{eight_len, drops_most, tells_most}
use Rattle.client_node.specs.declared.planning.Planned.{Planned}
use Rattle.client_node.specs.declared.waiting.Waiting.{Waiting}
use Rattle.client_node.specs.Altering.{IsOfTable, AltersTo, open_record}
use Rattle.client_node.specs.Answers.{record_at}
use Rattle.client_node.specs.Closed.{closed_in}
use Rattle.client_node.specs.Node.{IsToOpen}
use Rattle.client_node.specs.Readied.{IsIdleAt, IsReadied}
use Rattle.client_node.specs.Steady.{IsShortSchema, IsSteadyAlter}
use Rattle.client_node.proofs.BarePlans.{bare_plan}
use Rattle.client_node.proofs.Closing.{is_closed}
use Rattle.client_node.proofs.Links.{opened_is, unopened_is}
use Rattle.client_node.proofs.RowReady.{newest, last_is, opened_now, closed_now, steady_here}

-- ---- its commit is short

-- a commit that changes a table's record alone has few bytes beside the schema
commit_most : (c : Commit) (new : RecordChange) (told : Tell) → c.row ≡ None → c.position ≡ None → c.new_record ≡ Some new → c.drops ≡ [] → c.tells ≡ told ∷ [] → length (commit_payload c) ≤ length (schema_spelling new.schema) + 128
commit_most c new told row position is drops tells =
    let r : List ℕ = option_spelling row_change_spelling c.row in
    let p : List ℕ = option_spelling eight c.position in
    let s : List ℕ = option_spelling record_change_spelling c.new_record in
    let d : List ℕ = list_spelling local_spelling c.drops in
    let t : List ℕ = list_spelling tell_spelling c.tells in
    let row_len : length r ≡ 1 = ap (λ (o : Option RowChange). length (option_spelling row_change_spelling o)) row in
    let position_len : length p ≡ 1 = ap (λ (o : Option ℕ). length (option_spelling eight o)) position in
    let record_len = ap (λ (o : Option RecordChange). length (option_spelling record_change_spelling o)) is in
    let no_drops : length c.drops ≡ 0 = ap (λ (l : List LocalName). length l) drops in
    let one_tell : length c.tells ≡ 1 = ap (λ (l : List Tell). length l) tells in
    omega (
      arith,
      row_len,
      position_len,
      record_len,
      no_drops,
      one_tell,
      drops_most c.drops,
      tells_most c.tells,
      eight_len c.plan,
      eight_len c.last,
      four_len c.table,
      length-append (eight c.plan) (eight c.last ++ four c.table),
      length-append (eight c.last) (four c.table),
      length-append (head_spelling c) (updates_spelling c ++ (d ++ t)),
      length-append (updates_spelling c) (d ++ t),
      length-append d t,
      length-append r (p ++ s),
      length-append p s,
    )

-- what is to be known of a table's change: its number, its new record, and what is told
pub record IsChangeOf (c table : ℕ) (change : TableChange) (new : RecordChange) (told : Tell) (fact : ClientFact) : Type 0 where
  pub numbered : IsTable table
  pub state : IsState new.state
  pub spelled : HasSchemaSpelling new.schema
  pub short : IsShortSchema new.schema
  pub altered : IsAlteredTo new.state new.schema change
  pub spelled_tell : HasTell told
  pub says : fact_alone c table told ≡ Some (told_of c table change)
  pub fact_is : client_fact_of fact ≡ told_of c table change
  pub steady : IsSteadyAlter table (Some change)

module _ (d : ClientDevs) (c table : ℕ) (change : TableChange) (new : RecordChange) (told : Tell) (fact : ClientFact) (k : IsChangeOf c table change new told fact) (planned : Planned) (o : IsOfTable table (redone d).last new told fact planned)
    (w : Waiting) (disk : ClientDisk) (idle : IsIdleAt d c w disk) where
  abbrev p : Plan
  p = alter_plan c disk table change

  last_here : planned.plan.last ≡ disk.last
  last_here = o.last_is ∙ last_is c d disk idle.stands idle.rests

  short : IsShort planned.plan
  short = record {
    spelled = λ number n. record {
      plan = n;
      last = subst (λ (l : ℕ). l ≤ NUMBER_MAX) (sym last_here) idle.steady.few;
      table = subst IsTable (sym o.table_is) k.numbered;
      row = subst (λ (r : Option RowChange). IsOption HasRowChange (option_map (numbered_row number) r)) (sym o.no_row) tt;
      position = subst (λ (q : Option ℕ). IsOption IsPosition q) (sym o.no_position) tt;
      new_record = subst (λ (r : Option RecordChange). IsOption HasRecordChange r) (sym o.new_record) (k.state, k.spelled);
      drops = subst (λ (names : List LocalName). AreEach HasLocalSpelling names) (sym o.drops) (omega arith, tt);
      tells = subst (λ (l : List Tell). AreEach HasTell l) (sym o.tells) (omega arith, (k.spelled_tell, tt));
    };
    short = λ number n.
        let most = commit_most (commit_for number planned.plan) new told (ap (λ (r : Option RowChange). option_map (numbered_row number) r) o.no_row) o.no_position o.new_record o.drops o.tells in
        let room : length (schema_spelling new.schema) + 128 ≤ payload_most = k.short in
        omega (arith, most, room);
    few = omega (arith, ap length o.drops, ap length o.brought);
  }

  pub altered_readied : IsTableFor (Some new) (table_at disk table) (Some change) → IsReadied d c idle.stands.0 disk planned (alter_plan c disk table change) []
  altered_readied there =
      let is_plan : IsPlan d planned.plan = bare_plan d planned.plan o.no_row o.brought o.drops short in
      let altered : StandsChange planned.plan.new_record p (Some change) = subst (λ (r : Option RecordChange). StandsChange r p (Some change)) (sym o.new_record) (k.altered, refl, refl) in
      let says : Say c table None planned.plan.tells (told_of c table change ∷ []) = subst (λ (l : List Tell). Say c table None l (told_of c table change ∷ [])) (sym o.tells) (ap (λ (x : Option facts.ClientFact). x ∷ []) k.says) in
      record {
        taken = is_plan;
        its = plain_plan_of c idle.stands.0 d disk (d.journal.greatest + 1) idle.stands.1 idle.rests (newest c d disk idle.stands idle.rests) planned.plan p is_plan o.table_is last_here o.no_position altered o.no_row refl says;
        at = record { last = omega arith; opened = subst (λ (r : Option RecordChange). IsTableFor r (table_at disk table) (Some change)) (sym o.new_record) there };
        few = idle.steady.few;
        tells = ap (map fact_of) o.facts_are ∙ ap (λ (f : facts.ClientFact). facts.Client f ∷ []) k.fact_is;
        sends_are = ap (map send_of) o.no_messages;
        alters = k.steady;
        fit = subst (λ (r : Option RowChange). IfSome r (IsFitChange idle.stands.0 (d.journal.greatest + 1) planned.plan.brought (record_of d.held planned.plan.table))) (sym o.no_row) tt;
      }

-- ---- a table is opened

module _ (d : ClientDevs) (c table : ℕ) (schema : Schema) where
  -- it is there
  pub opens_none : (found : TableRecord) → record_at d table ≡ Some found → AltersTo d c table (Opens schema) None
  opens_none found is = record {
    none = λ _ w disk idle. ap (may_alter (Opens schema)) (opened_is c d disk idle.stands table found is).1;
    some = tt;
  }

  module _ (to : IsToOpen (table, schema)) where
    opening : IsChangeOf c table (Opens schema) (record { state = 1; schema = schema }) tell.Opened (client.Opened c table)
    opening = record {
      numbered = to.numbered;
      state = (omega arith, omega arith);
      spelled = to.spelled;
      short = to.short;
      altered = (refl, refl);
      spelled_tell = tt;
      says = refl;
      fact_is = refl;
      steady = (to.numbered, to.spelled, to.short);
    }

    -- it isn't
    pub opens_some : record_at d table ≡ None → (planned : Planned) → IsOfTable table (redone d).last (record { state = 1; schema = schema }) tell.Opened (client.Opened c table) planned → AltersTo d c table (Opens schema) (Some planned)
    opens_some none planned o = record {
      none = λ no. absurd cc;
      some = λ w disk idle. (
        ap (may_alter (Opens schema)) (unopened_is c d disk idle.stands table none),
        altered_readied d c table (Opens schema) (record { state = 1; schema = schema }) tell.Opened (client.Opened c table) opening planned o w disk idle
            (subst (λ (there : Option TableDisk). MayOpen schema there) (sym (closed_now c d disk idle.stands idle.rests table none)) tt),
      );
    }

-- ---- a table is closed

closes_closed : (o : Option TableDisk) → closed_in o ≡ true → may_alter Closes o ≡ false
closes_closed None is = refl
closes_closed (Some t) is = ap not is

closes_open : (t : TableDisk) → closed_in (Some t) ≡ false → may_alter Closes (Some t) ≡ true
closes_open t is = ap not is

-- of a table that isn't closed there is a record
abbrev open_by : TableRecord → Bool → Option TableRecord
open_by found b = if b then None else Some found

same_record : (a b : TableRecord) → Some a ≡ Some b → a ≡ b
same_record a b e = cc

none_open : (found : TableRecord) (b : Bool) → open_by found b ≡ None → b ≡ true
none_open found true none = refl
none_open found false none = absurd cc

some_open : (found opened : TableRecord) (b : Bool) → open_by found b ≡ Some opened → (found ≡ opened) × (b ≡ false)
some_open found opened true some = absurd cc
some_open found opened false some = (same_record found opened some, refl)

module _ (d : ClientDevs) (c table : ℕ) where
  -- it isn't open
  pub closes_none : (o : Option TableRecord) → record_at d table ≡ o → open_record o ≡ None → AltersTo d c table Closes None
  closes_none None is none = record {
    none = λ _ w disk idle. ap (may_alter Closes) (unopened_is c d disk idle.stands table is);
    some = tt;
  }
  closes_none (Some found) is none = record {
    none = λ _ w disk idle. closes_closed (table_at (seen disk) table) (sym (is_closed c d disk idle.stands table (Some found) is) ∙ none_open found (found.state == 2) none);
    some = tt;
  }

  module _ (opened : TableRecord) (is : record_at d table ≡ Some opened) (w : Waiting) (disk : ClientDisk) (idle : IsIdleAt d c w disk) where
    abbrev t : TableDisk
    t = (opened_now c d disk idle.stands idle.rests table opened is).0

    same_schema : opened.schema ≡ t.schema
    same_schema = (opened_now c d disk idle.stands idle.rests table opened is).2.schema

    closing : IsChangeOf c table Closes (record { state = 2; schema = opened.schema }) tell.Dropped (client.Dropped c table)
    closing =
        let steady = steady_here c d disk idle.stands idle.rests table [] opened is w idle.steady in
        record {
          numbered = steady.numbered;
          state = (omega arith, omega arith);
          spelled = subst HasSchemaSpelling (sym same_schema) steady.spelled;
          short = subst (λ (s : Schema). IsShortSchema s) (sym same_schema) steady.short;
          altered = refl;
          spelled_tell = tt;
          says = refl;
          fact_is = refl;
          steady = tt;
        }

    closes_now : (planned : Planned) → IsOfTable table (redone d).last (record { state = 2; schema = opened.schema }) tell.Dropped (client.Dropped c table) planned → IsReadied d c idle.stands.0 disk planned (alter_plan c disk table Closes) []
    closes_now planned o =
        altered_readied d c table Closes (record { state = 2; schema = opened.schema }) tell.Dropped (client.Dropped c table) closing planned o w disk idle
        (subst (λ (there : Option TableDisk). MayClose (Some (record { state = 2; schema = opened.schema })) there) (sym (opened_now c d disk idle.stands idle.rests table opened is).1) same_schema)

    may_close : (opened.state == 2) ≡ false → may_alter Closes (table_at (seen disk) table) ≡ true
    may_close right =
        let at = opened_is c d disk idle.stands table opened is in
        ap (may_alter Closes) at.1 ∙ closes_open at.0 (ap closed_in (sym at.1) ∙ (sym (is_closed c d disk idle.stands table (Some opened) is) ∙ right))

  -- it is
  pub closes_some : (o : Option TableRecord) → record_at d table ≡ o → (opened : TableRecord) → open_record o ≡ Some opened → (planned : Planned)
      → IsOfTable table (redone d).last (record { state = 2; schema = opened.schema }) tell.Dropped (client.Dropped c table) planned → AltersTo d c table Closes (Some planned)
  closes_some None is opened some planned o = absurd cc
  closes_some (Some found) is opened some planned o =
      let here = some_open found opened (found.state == 2) some in
      let at : record_at d table ≡ Some opened = is ∙ ap (λ (x : TableRecord). Some x) here.0 in
      record {
        none = λ no. absurd cc;
        some = λ w disk idle. (may_close opened at w disk idle (ap (λ (x : TableRecord). x.state == 2) (sym here.0) ∙ here.1), closes_now opened at w disk idle planned o);
      }
