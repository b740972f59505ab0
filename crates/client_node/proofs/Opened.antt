-- A row of an opened table: what is known of its table and its slots.
use Rattle.std.proofs.Common.{◌≡◌, ℕ, false, List, [], ◌++◌, Option, Some, None, refl, sym, ◌∙◌, ap, subst, arith}
use Rattle.std.specs.Prelude.{IfSome}
use Rattle.std.specs.List.{AllByRecursion}
use Rattle.value_codec.specs.SchemaSpelling.{HasSchemaSpelling}
use Rattle.held_codec.specs.Spelling.{HasHeldPiece}
use Rattle.held_value.specs.declared.local_name.LocalName.{LocalName}
use Rattle.held_value.specs.declared.content.HeldContent.{HeldContent}
use Rattle.held_value.specs.declared.content.HeldPiece.{HeldPiece}
use Rattle.held_value.specs.declared.slots.Main.{Main}
use Rattle.held_value.specs.declared.slots.Shadow.{Shadow}
use Rattle.held_value.specs.declared.slots.Out.{Out}
use Rattle.held_value.specs.declared.slots.Slots.{Slots}
use Rattle.slot_store.specs.declared.held.RowSlots.{RowSlots}
use Rattle.slot_store.specs.declared.held.TableRecord.{TableRecord}
use Rattle.slot_store.specs.Data.{SlotData, slots_of, record_of}
use Rattle.plan_log.specs.Journal.{AtWork, Idle, Intended, Committed}
use Rattle.plan_log.specs.Spelling.{IsTable}
use Rattle.client_tables.specs.Shown.{shown_content, content_by}
use Rattle.client_journal.specs.Devs.{ClientDevs}
use Rattle.client_journal.specs.Names.{Has, names_of, names_in, names_of_shadow, names_of_out}
use Rattle.client_journal.specs.NamedSlots.{IsAtRest, IsNotCommitted}
use Rattle.client_journal.specs.Redone.{redone}
use Rattle.client_journal.specs.There.{repeats}
use Rattle.step_tables.specs.ClientMoves.{TableDisk, Plan, ClientDisk, planned_in, seen, table_at}
use Rattle.journal_laws.specs.Holds.{StandsPlan, slots_or_empty}
use Rattle.journal_laws.proofs.Alike.{has_front}
use Rattle.journal_laws.proofs.Plans.{named_in}
use Rattle.held_contents.specs.Holding.{AreShown, pieces_shown, names_shown}
use Rattle.held_contents.specs.Reading.{chunks_shown}
use Rattle.plan_limits.specs.Fit.{IsFitContent, IsFitRow, AreOlder}
use Rattle.plan_limits.proofs.New.{are_shown, names_are_shown, shown_spelled, shown_once}
use Rattle.plan_limits.proofs.Rows.{AreFit, each_fit}
use Rattle.client_node.specs.declared.waiting.Waiting.{Waiting}
use Rattle.client_node.specs.Answers.{record_at, held_at}
use Rattle.client_node.specs.Node.{StandsFor}
use Rattle.client_node.specs.Readied.{number_next}
use Rattle.client_node.specs.Steady.{IsSteadyTable, IsSteady}
use Rattle.client_node.proofs.Links.{opened_is}
use Rattle.client_node.proofs.RowPlans.{redone_rests}
use Rattle.client_node.proofs.Steadies.{steady_seen}

-- ---- a table

-- where nothing is committed the disk is read as it is
none_planned : (meaning : LocalName → List ℕ) (c : ℕ) (disk : ClientDisk) (work : AtWork) (o : Option Plan) → IsNotCommitted work → StandsPlan meaning c disk work o → o ≡ None
none_planned meaning c disk Idle None n s = refl
none_planned meaning c disk Idle (Some p) n s = absurd s
none_planned meaning c disk (Intended intend) None n s = refl
none_planned meaning c disk (Intended intend) (Some p) n s = absurd s
none_planned meaning c disk (Committed commit) o n s = absurd n

pub seen_rests : (c : ℕ) (d : ClientDevs) (disk : ClientDisk) → StandsFor c d disk → IsAtRest d → seen disk ≡ disk
seen_rests c d disk st rest = ap (planned_in disk) (none_planned st.0 c disk d.journal.at_work disk.plan rest.not_committed st.1.plan)

module _ (w : Waiting) (disk : ClientDisk) (h : IsSteady w disk) (table : ℕ) where
  -- an opened table keeps what each does
  pub table_steady : (t : TableDisk) → table_at (seen disk) table ≡ Some t → IsSteadyTable w table t
  table_steady t at = subst (λ (o : Option TableDisk). IfSome o (IsSteadyTable w table)) at ((steady_seen w disk h).each table)

-- the record of an opened table has a spelling
pub record_spelled : (c : ℕ) (d : ClientDevs) (disk : ClientDisk) → StandsFor c d disk → (w : Waiting) → IsSteady w disk → (table : ℕ)
    → IfSome (record_at d table) (λ opened. HasSchemaSpelling opened.schema)
record_spelled c d disk st w h table = pick (record_at d table) refl
  where
    pick : (o : Option TableRecord) → record_at d table ≡ o → IfSome o (λ opened. HasSchemaSpelling opened.schema)
    pick None is = tt
    pick (Some found) is =
        let at = opened_is c d disk st table found is in
        subst HasSchemaSpelling (sym at.2.schema) (table_steady w disk h table at.0 at.1).spelled

-- and the table has a number
pub record_numbered : (c : ℕ) (d : ClientDevs) (disk : ClientDisk) → StandsFor c d disk → (w : Waiting) → IsSteady w disk → (table : ℕ) → IfSome (record_at d table) (λ opened. IsTable table)
record_numbered c d disk st w h table = pick (record_at d table) refl
  where
    pick : (o : Option TableRecord) → record_at d table ≡ o → IfSome o (λ opened. IsTable table)
    pick None is = tt
    pick (Some found) is = let at = opened_is c d disk st table found is in (table_steady w disk h table at.0 at.1).numbered

-- ---- a row's slots

module _ (c : ℕ) (d : ClientDevs) (disk : ClientDisk) (st : StandsFor c d disk) (rest : IsAtRest d) (table : ℕ) (row : List ℕ) (slots : Slots) (here : slots ≡ held_at d table row) where
  pub held_is : redone d ≡ d.held
  held_is = redone_rests d.journal.at_work d.held rest.not_committed

  pub here_held : slots ≡ slots_or_empty (slots_of d.held table row)
  here_held = here ∙ ap (λ (s : SlotData). slots_or_empty (slots_of s table row)) held_is

  -- its names were numbered by plans before the next one
  pub names_older : AreOlder (number_next d) (names_in slots)
  names_older name has =
      let there : Has (names_in (slots_or_empty (slots_of (redone d) table row))) name = subst (λ (s : Slots). Has (names_in s) name) here has in
      let was : Has (names_in (slots_or_empty (slots_of d.held table row))) name = subst (λ (s : Slots). Has (names_in s) name) here_held has in
      let below = st.1.named.below name (named_in (redone d) table row name there) in
      (st.1.held.numbered table row name was, omega (arith, below))

  -- and they fit the table
  module _ (opened : TableRecord) (opens : record_at d table ≡ Some opened) where
    pub row_fits : IsFitRow st.0 (Some opened) slots
    row_fits =
        subst (λ (s : Slots). IsFitRow st.0 (Some opened) s) (sym here)
        (subst (λ (o : Option TableRecord). IsFitRow st.0 o (slots_or_empty (slots_of (redone d) table row))) opens (pick (slots_of (redone d) table row) refl))
      where
        pick : (o : Option RowSlots) → slots_of (redone d) table row ≡ o → IsFitRow st.0 (record_of (redone d) table) (slots_or_empty o)
        pick None is = record { whole = record { right = refl }; spelled = (tt, (tt, (tt, tt))); pieces = tt }
        pick (Some stored) is = st.2.each table row stored is

    -- ---- what is shown

    -- the content that is shown is a fit one of the row's
    record IsShown (held : HeldContent) : Type 0 where
      older : AreOlder (number_next d) (names_of held)
      fits : IsFitContent st.0 (Some opened) held
      within : (name : LocalName) → Has (names_of held) name → Has (names_in slots) name

    shown_by : (m : Option Main) (s : Option Shadow) (o : Option Out) (k : Option Shadow) → slots ≡ (record { main = m; shadow = s; out = o; conflict = k })
        → AreFit st.0 (Some opened) (record { main = m; shadow = s; out = o; conflict = k })
        → IfSome (content_by m s) IsShown
    shown_by (Some m) s o k is f =
        let within : (name : LocalName) → Has (names_of m.content) name → Has (names_in slots) name = λ name has. subst (λ (x : Slots). Has (names_in x) name) (sym is)
        (has_front (names_of m.content) (names_of_shadow s ++ (names_of_out o ++ names_of_shadow k)) name has) in
        record { older = λ name has. names_older name (within name has); fits = f.main.2; within = within }
    shown_by None (Some s) o k is f =
        let within : (name : LocalName) → Has (names_of s.content) name → Has (names_in slots) name = λ name has. subst (λ (x : Slots). Has (names_in x) name) (sym is)
        (has_front (names_of s.content) (names_of_out o ++ names_of_shadow k) name has) in
        record { older = λ name has. names_older name (within name has); fits = f.shadow.1; within = within }
    shown_by None None o k is f = tt

    -- the chunks that are shown may be kept by the next plan
    pub record MayKeep (shown : List (List (HeldPiece × List ℕ))) : Type 0 where
      pub are : AreShown st.0 (number_next d) shown
      pub spelled : AllByRecursion HasHeldPiece (pieces_shown shown)
      pub once : repeats [] (names_shown shown) ≡ false
      pub within : (name : LocalName) → Has (names_shown shown) name → Has (names_in slots) name

    may_by : (o : Option HeldContent) → IfSome o IsShown → MayKeep (chunks_shown st.0 o)
    may_by None k = record { are = tt; spelled = tt; once = refl; within = λ name has. absurd cc }
    may_by (Some held) k = record {
      are = are_shown st.0 (number_next d) held k.older;
      spelled = shown_spelled st.0 (Some opened) held k.fits;
      once = shown_once st.0 (Some opened) held k.fits;
      within = λ name has. k.within name (subst (λ (l : List LocalName). Has l name) (names_are_shown st.0 held) has);
    }

    pub may_keep : MayKeep (chunks_shown st.0 (shown_content slots))
    may_keep = may_by (shown_content slots) (shown_by slots.main slots.shadow slots.out slots.conflict refl (each_fit st.0 (Some opened) slots row_fits))
