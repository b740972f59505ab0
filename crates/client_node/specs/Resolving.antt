-- How a phase begins and ends in which a client resolves the conflicts of a table, and how a row's conflict is resolved.
use Rattle.std.specs.Prelude.{◌≡◌, ◌⊎◌, ℕ, ◌+◌, ◌≤◌, ◌==◌, Bool, true, false, List, [], ◌∷◌, Option, Some, None}
use Rattle.std.specs.Prelude.{IsSome, Result, Ok, Err, IfOk}
use Rattle.std.specs.declared.alloc.AllocError.{AllocError}
use Rattle.disk_trait.specs.Calls.{DiskState}
use Rattle.stab_base.specs.declared.limits.TheConstants.{NUMBER_MAX}
use Rattle.row_value.specs.declared.content.Content.{Content}
use Rattle.row_value.specs.declared.fit.FitFault.{FitFault}
use Rattle.row_value.specs.declared.schema.Schema.{Schema}
use Rattle.row_value.specs.Fit.{fit_of}
use Rattle.conflicts.specs.declared.pair.Choice.{Choice}
use Rattle.conflicts.specs.declared.pair.Choice.TheVariants.{Mine, Theirs, New}
use Rattle.conflicts.specs.declared.pair.Pair.{Pair}
use Rattle.conflicts.specs.declared.stored.Stored.{Stored}
use Rattle.conflicts.specs.Fit.{PairFits}
use Rattle.conflicts.specs.Stored.{chosen as chosen_by}
use Rattle.table_model.specs.declared.line.Write.{Write}
use Rattle.table_model.specs.declared.line.ClientFact.TheVariants as client
use Rattle.table_model.specs.declared.line.Fact.{Fact}
use Rattle.table_model.specs.declared.line.Fact.TheVariants as told
use Rattle.held_value.specs.declared.local_name.LocalName.{LocalName}
use Rattle.held_value.specs.declared.slots.Main.{Main}
use Rattle.held_value.specs.declared.slots.Shadow.{Shadow}
use Rattle.slot_store.specs.declared.held.TableRecord.{TableRecord}
use Rattle.client_tables.specs.declared.resolving.HeldChoice.TheVariants as choices
use Rattle.client_tables.specs.Shown.{shown_content}
use Rattle.client_tables.specs.Transitions.{resolved}
use Rattle.client_journal.specs.declared.devs.Journal.{Journal}
use Rattle.client_journal.specs.Devs.{ClientDevs}
use Rattle.client_journal.specs.Redone.{redone}
use Rattle.step_tables.specs.Slots.{Main as TableMain}
use Rattle.step_tables.specs.Slots.{Shadow as TableShadow}
use Rattle.step_tables.specs.ClientMoves.{Slots as TableSlots, Resolve}
use Rattle.journal_laws.specs.Whole.{whole, whole_main, whole_shadow, whole_slots}
use Rattle.held_contents.specs.declared.holding.HeldNew.{HeldNew}
use Rattle.held_contents.specs.Reading.{AreThere, AreThereIf, chunks_shown}
use Rattle.plan_limits.specs.Fit.{HaveWords}
use Rattle.client_node.specs.declared.fault.CallFault.{CallFault}
use Rattle.client_node.specs.declared.fault.CallFault.TheVariants.{NoTable, NoConflict, Moved}
use Rattle.client_node.specs.declared.preparing.OpenedRow.{OpenedRow}
use Rattle.client_node.specs.declared.preparing.Prepared.{Prepared}
use Rattle.client_node.specs.declared.waiting.Waiting.{Waiting}
use Rattle.client_node.specs.Answers.{IsFault}
use Rattle.client_node.specs.Fault.{fit_fault_of}
use Rattle.client_node.specs.Preparing.{HoldsNew, MakesChange, IsSpent, wrote, Prepares}
use Rattle.client_node.specs.Telling.{AreNamesThere}

-- The table isn't opened; or it is, and a phase is open, or none is, so that this fault is told; or a disk has failed,
-- or memory was refused.
abbrev pub IsUnphased : Option TableRecord → CallFault → Bool → CallFault → Type 0
IsUnphased opened fault wrong e =
    ((e ≡ NoTable) × (opened ≡ None)) ⊎ ((IsSome opened × (wrong ≡ true) × (e ≡ fault)) ⊎ IsFault e)

-- ---- a resolution

-- what is told: that the conflict is resolved, and which write stands over the row
abbrev pub resolved_fact : ℕ → OpenedRow → Main → Shadow → Fact
resolved_fact c at main x = told.Client (client.Resolved c main.number at.table at.row x.version)

abbrev pub write_over : ℕ → ℕ → OpenedRow → Shadow → Content → Write
write_over c number at x content = record {
  client = c;
  number = number;
  table = at.table;
  row = at.row;
  read = x.version;
  content = content;
}

abbrev pub resolved_told : ℕ → OpenedRow → Main → Shadow → ℕ → Content → List Fact
resolved_told c at main x number content = resolved_fact c at main x ∷ wrote (write_over c number at x content) ∷ []

-- the client's write is made again
pub record IsMineAgain (d : ClientDevs) (c : ℕ) (at : OpenedRow) (main : Main) (x : Shadow) (made : Prepared)
    : Type 0 where
  pub next : made.number ≡ (redone d).last + 1
  pub few : made.number ≤ NUMBER_MAX
  pub content : Content
  pub whole_is : (meaning : LocalName → List ℕ) → AreThere meaning d main.content → content ≡ whole meaning main.content
  pub makes : MakesChange at.slots (resolved at.slots made.number choices.Mine) [] at.table made.number at.row
      made.planned
  pub facts : made.planned.facts.items ≡ resolved_told c at main x made.number content
  pub messages : made.planned.messages.items ≡ []

-- the Store's row is read
pub record IsTheirsRead (d : ClientDevs) (c : ℕ) (at : OpenedRow) (main : Main) (x : Shadow) (made : Prepared)
    : Type 0 where
  pub none : made.number ≡ 0
  pub makes : MakesChange at.slots (resolved at.slots 0 choices.Theirs) [] at.table (redone d).last at.row made.planned
  pub facts : made.planned.facts.items ≡ resolved_fact c at main x ∷ []
  pub messages : made.planned.messages.items ≡ []

-- another content is written
pub record IsNewOver (d : ClientDevs) (c : ℕ) (at : OpenedRow) (main : Main) (x : Shadow) (content : Content)
    (made : Prepared) : Type 0 where
  pub fits : fit_of at.opened.schema content ≡ Ok tt
  pub next : made.number ≡ (redone d).last + 1
  pub few : made.number ≤ NUMBER_MAX
  pub words : HaveWords content
  pub new : HeldNew
  pub holds : (meaning : LocalName → List ℕ) → AreThereIf meaning d (shown_content at.slots)
      → HoldsNew at.opened.schema.chunk (chunks_shown meaning (shown_content at.slots)) content new
  pub makes : MakesChange at.slots (resolved at.slots made.number (choices.New new.content)) new.brought at.table
      made.number at.row made.planned
  pub facts : made.planned.facts.items ≡ resolved_told c at main x made.number content
  pub messages : made.planned.messages.items ≡ []

abbrev pub IsChosen : Choice → ClientDevs → ℕ → OpenedRow → Main → Shadow → Prepared → Type 0
IsChosen Mine d c at main x made = IsMineAgain d c at main x made
IsChosen Theirs d c at main x made = IsTheirsRead d c at main x made
IsChosen (New content) d c at main x made = IsNewOver d c at main x content made

-- the choice is refused for its content, or for want of numbers
abbrev pub IsUnfitChoice : Choice → Schema → CallFault → Type 0
IsUnfitChoice Mine schema e = ⊥
IsUnfitChoice Theirs schema e = ⊥
IsUnfitChoice (New content) schema e = (fault : FitFault) × (fit_of schema content ≡ Err fault) × (e ≡ fit_fault_of fault)

abbrev pub IsUnchosen : ClientDevs → Choice → OpenedRow → CallFault → Type 0
IsUnchosen d choice at e = IsUnfitChoice choice at.opened.schema e ⊎ IsSpent d e

-- a row in conflict with this version is resolved so
pub record IsResolved (d : ClientDevs) (c : ℕ) (at : OpenedRow) (seen : ℕ) (choice : Choice) (made : Prepared)
    : Type 0 where
  pub main : Main
  pub main_is : at.slots.main ≡ Some main
  pub x : Shadow
  pub conflict_is : at.slots.conflict ≡ Some x
  pub same : x.version ≡ seen
  pub chosen : IsChosen choice d c at main x made

-- or it isn't: it isn't in conflict, or with another version, or it is refused for its content or for want of numbers
pub record IsMoved (at : OpenedRow) (seen : ℕ) (e : CallFault) : Type 0 where
  pub main : Main
  pub main_is : at.slots.main ≡ Some main
  pub x : Shadow
  pub conflict_is : at.slots.conflict ≡ Some x
  pub other : (x.version == seen) ≡ false
  pub fault : e ≡ Moved seen x.version

pub record IsUnfit (d : ClientDevs) (at : OpenedRow) (seen : ℕ) (choice : Choice) (e : CallFault) : Type 0 where
  pub main : Main
  pub main_is : at.slots.main ≡ Some main
  pub x : Shadow
  pub conflict_is : at.slots.conflict ≡ Some x
  pub same : x.version ≡ seen
  pub why : IsUnchosen d choice at e

abbrev pub IsUnresolved : ClientDevs → OpenedRow → ℕ → Choice → CallFault → Type 0
IsUnresolved d at seen choice e =
    ((e ≡ NoConflict) × ((at.slots.main ≡ None) ⊎ (at.slots.conflict ≡ None)))
    ⊎ (IsMoved at seen e ⊎ IsUnfit d at seen choice e)

-- whatever is seen and chosen, the resolution of this row is refused so
abbrev pub IsNoneResolved : {D : Type 0} → (D → DiskState) → Journal D → ℕ → List ℕ → Bool → CallFault → Type 0
IsNoneResolved state old table row is_open e = (c : ℕ) (waiting : Waiting) (phase : ℕ → Bool) (linked : Bool) (seen : ℕ)
    (choice : Choice) → phase table ≡ is_open
    → Prepares state old waiting phase linked c (Resolve table row seen choice) (Err e)

-- ---- a choice that goes by both contents

-- the pair of a row in conflict with these slots of the step table
abbrev pub pair_in : List ℕ → TableMain → TableShadow → Pair
pair_in row main x = record {
  row = row;
  number = main.number;
  version = x.version;
  mine = main.content;
  theirs = x.content;
}

-- what is said of the pair of a row with these slots, if it is in conflict
abbrev pub OnPair : List ℕ → TableSlots → (Pair → Type 0) → Type 0
OnPair row slots P = (main : TableMain) (x : TableShadow) → slots.main ≡ Some main → slots.conflict ≡ Some x
    → P (pair_in row main x)

-- a stored way chooses so
abbrev pub IsChosenBy : Stored → List ℕ → TableSlots → Choice → Type 0
IsChosenBy by row slots choice = OnPair row slots (λ pair. choice ≡ chosen_by by pair)

-- a resolver may answer so
abbrev pub IsAnswerOf : (Pair → Result Choice AllocError → Type 0) → List ℕ → TableSlots → Choice → Type 0
IsAnswerOf answers row slots choice = OnPair row slots (λ pair. answers pair (Ok choice))

-- both contents are rows of this schema
abbrev pub ArePairOf : Schema → List ℕ → TableSlots → Type 0
ArePairOf schema row slots = OnPair row slots (PairFits schema)

-- What is done is done of an answer of the resolver's; or it is refused, whatever might be chosen.
abbrev pub IsByAnswer : {T : Type 0} → (Pair → Result Choice AllocError → Type 0) → List ℕ → TableSlots
    → Result T CallFault → (Choice → Type 0) → Type 0
IsByAnswer answers row slots result P = ((choice : Choice) × IsAnswerOf answers row slots choice × P choice)
    ⊎ (IfOk result (λ value. ⊥) × ((choice : Choice) → P choice))

-- the pair of a row in conflict with this version is read
pub record IsPairRead (d : ClientDevs) (at : OpenedRow) (seen : ℕ) (pair : Pair) : Type 0 where
  pub main : Main
  pub main_is : at.slots.main ≡ Some main
  pub x : Shadow
  pub conflict_is : at.slots.conflict ≡ Some x
  pub same : x.version ≡ seen
  pub pair_is : (meaning : LocalName → List ℕ) → AreNamesThere meaning d at.slots
      → pair ≡ pair_in at.row (whole_main meaning main) (whole_shadow meaning x)

-- or it isn't
abbrev pub IsUnread : OpenedRow → ℕ → CallFault → Type 0
IsUnread at seen e = ((e ≡ NoConflict) × ((at.slots.main ≡ None) ⊎ (at.slots.conflict ≡ None)))
    ⊎ (IsMoved at seen e ⊎ IsFault e)

-- this is said of the pair of the row, and of what is chosen
abbrev pub ChoosesSo : ClientDevs → OpenedRow → (Pair → Choice → Type 0) → Choice → Type 0
ChoosesSo d at P choice = (meaning : LocalName → List ℕ) → AreNamesThere meaning d at.slots
    → OnPair at.row (whole_slots meaning at.slots) (λ pair. P pair choice)

-- a resolver of rows of this schema may be asked about the row's pair
abbrev pub MayBeAsked : ClientDevs → OpenedRow → Schema → Type 0
MayBeAsked d at schema = (meaning : LocalName → List ℕ) × AreNamesThere meaning d at.slots
    × ArePairOf schema at.row (whole_slots meaning at.slots)
