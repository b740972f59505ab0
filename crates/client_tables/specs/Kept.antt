-- What holds of a row's slots, whatever comes.
use Rattle.std.specs.Prelude.{◌≡◌, ◌<◌, ◌≤◌, ◌⊎◌, ℕ, true, List, [], ◌∷◌, Option, Some, None}
use Rattle.row_value.specs.declared.pieces.Piece.{Piece}
use Rattle.row_value.specs.declared.schema.Scheme.{Scheme}
use Rattle.table_model.specs.declared.message.Outcome.{Outcome}
use Rattle.table_model.specs.declared.message.Outcome.TheVariants as outcomes
use Rattle.table_model.specs.declared.message.Yours.{Yours}
use Rattle.held_value.specs.declared.content.HeldContent.{HeldContent}
use Rattle.held_value.specs.declared.slots.Main.{Main}
use Rattle.held_value.specs.declared.slots.Shadow.{Shadow}
use Rattle.held_value.specs.declared.slots.Out.{Out}
use Rattle.held_value.specs.declared.slots.Slots.{Slots}
use Rattle.held_value.specs.declared.tell.Tell.{Tell}
use Rattle.held_value.specs.declared.tell.Tell.TheVariants as tell
use Rattle.client_tables.specs.declared.change.Change.{Change}
use Rattle.client_tables.specs.declared.resolving.HeldChoice.{HeldChoice}
use Rattle.client_tables.specs.Change.{after, version_in}
use Rattle.client_tables.specs.Transitions.{written, written_strong, can_send, sent, answered, is_eventual, taken}
use Rattle.client_tables.specs.Transitions.{resolved}

-- what comes to a row
pub data SlotEvent : Type 0 where
  Write : (number : ℕ) → (content : HeldContent) → SlotEvent
  WriteStrong : (number : ℕ) → (content : HeldContent) → (pieces : List Piece) → SlotEvent
  Send : (pieces : List Piece) → SlotEvent
  Answer : (number : ℕ) → (outcome : Outcome) → SlotEvent
  Row : (yours : Yours) → (row : Shadow) → SlotEvent
  Resolve : (number : ℕ) → (choice : HeldChoice) → SlotEvent

abbrev pub change_of : Scheme → Slots → SlotEvent → Change
change_of scheme slots (Write number content) = written slots number content
change_of scheme slots (WriteStrong number content pieces) = written_strong slots number content pieces
change_of scheme slots (Send pieces) = sent slots pieces
change_of scheme slots (Answer number outcome) = answered slots number outcome
change_of scheme slots (Row yours row) = taken scheme slots yours row
change_of scheme slots (Resolve number choice) = resolved slots number choice

abbrev pub slots_behind : Scheme → Slots → SlotEvent → Slots
slots_behind scheme slots event = after slots (change_of scheme slots event)

-- ---- order

-- the row in conflict is newer than the one that was read
abbrev pub IsAbove : Option Shadow → Option Shadow → Type 0
IsAbove None shadow = Unit {0}
IsAbove (Some row) shadow = version_in shadow < row.version

-- what waits for its answer rests on what was read, or on an earlier version
abbrev pub RestsOn : Option Out → Option Shadow → Type 0
RestsOn None shadow = Unit {0}
RestsOn (Some out) shadow = out.base ≤ version_in shadow

-- in a conflict a write is open and none waits
abbrev pub IsHeldUp : Option Main → Option Out → Option Shadow → Type 0
IsHeldUp main out None = Unit {0}
IsHeldUp None out (Some row) = ⊥
IsHeldUp (Some main) None (Some row) = Unit {0}
IsHeldUp (Some main) (Some out) (Some row) = ⊥

pub record IsInOrder (scheme : Scheme) (slots : Slots) : Type 0 where
  pub above : IsAbove slots.conflict slots.shadow
  pub base : RestsOn slots.out slots.shadow
  pub held_up : IsHeldUp slots.main slots.out slots.conflict
  pub eventual : is_eventual scheme ≡ true → slots.conflict ≡ None

-- ---- when an event may come

-- a write was accepted behind what was read
abbrev pub IsLater : Option Shadow → Outcome → Type 0
IsLater shadow (outcomes.Accepted version) = version_in shadow ≤ version
IsLater shadow (outcomes.Again version) = version_in shadow ≤ version
IsLater shadow (outcomes.Late last) = Unit {0}
IsLater shadow (outcomes.Stale latest) = Unit {0}
IsLater shadow (outcomes.Conflict latest) = Unit {0}
IsLater shadow outcomes.NeedWhole = Unit {0}

-- a row in conflict isn't written, a strong write waits for no other, and what is sent may be
abbrev pub MayCome : Slots → SlotEvent → Type 0
MayCome slots (Write number content) = slots.conflict ≡ None
MayCome slots (WriteStrong number content pieces) = (slots.conflict ≡ None) × (slots.out ≡ None)
MayCome slots (Send pieces) = can_send slots ≡ true
MayCome slots (Answer number outcome) = IsLater slots.shadow outcome
MayCome slots (Row yours row) = Unit {0}
MayCome slots (Resolve number choice) = Unit {0}

-- ---- open writes

-- the write of this number is acknowledged, refused or resolved, or a later one takes its place
abbrev pub Closes : ℕ → List Tell → Type 0
Closes number [] = ⊥
Closes number (tell.Wrote later read ∷ told) = Unit {0}
Closes number (tell.Acked n version ∷ told) = (n ≡ number) ⊎ Closes number told
Closes number (tell.Refused n latest ∷ told) = (n ≡ number) ⊎ Closes number told
Closes number (tell.Conflict n version ∷ told) = Closes number told
Closes number (tell.Resolved n version ∷ told) = (n ≡ number) ⊎ Closes number told
Closes number (tell.New version ∷ told) = Closes number told
Closes number (tell.Position position ∷ told) = Closes number told
Closes number (tell.Opened ∷ told) = Closes number told
Closes number (tell.Dropped ∷ told) = Closes number told

-- the open write stays what is shown, or it is told what became of it
abbrev pub StaysOpen : Option Main → Option Main → List Tell → Type 0
StaysOpen None behind told = Unit {0}
StaysOpen (Some main) behind told = (behind ≡ Some main) ⊎ Closes main.number told

abbrev pub number_is : ℕ → Option Out → Type 0
number_is number None = ⊥
number_is number (Some out) = out.number ≡ number

-- the write that was sent goes on waiting, or it is told what became of it, or the row is in conflict with a write
abbrev pub StaysSent : Option Out → Option Out → Option Shadow → List Tell → Type 0
StaysSent None behind conflict told = Unit {0}
StaysSent (Some out) behind None told = number_is out.number behind ⊎ Closes out.number told
StaysSent (Some out) behind (Some row) told = Unit {0}
