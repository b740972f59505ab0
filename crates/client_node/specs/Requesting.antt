-- The requests of rows that wait, by the slots that the devices hold.
use Rattle.std.specs.Prelude.{◌≡◌, ℕ, ◌+◌, ◌<◌, ◌==◌, ◌++◌, true, false, List, [], ◌∷◌, length, Option, Some, None, option_map}
use Rattle.std.specs.Prelude.{option_to_list, if◌then◌else◌}
use Rattle.std.specs.List.{AllByRecursion, Contains}
use Rattle.std.specs.List.Sorted.{IsStrictlySortedBy}
use Rattle.std.specs.BTreeSet.{BTreeSet, contains}
use Rattle.row_value.specs.declared.content.Content.{Content}
use Rattle.row_value.specs.declared.pieces.Piece.{Piece}
use Rattle.held_value.specs.declared.local_name.LocalName.{LocalName}
use Rattle.held_value.specs.declared.slots.Out.{Out as HeldOut}
use Rattle.held_value.specs.declared.slots.Slots.{Slots as HeldSlots}
use Rattle.slot_store.specs.declared.held.RowKey.{RowKey}
use Rattle.slot_store.specs.Data.{id_cmp, key_cmp, key_at}
use Rattle.client_tables.specs.Transitions.{can_send}
use Rattle.client_journal.specs.Devs.{ClientDevs, Write}
use Rattle.step_tables.specs.Messages.{Send}
use Rattle.step_tables.specs.ClientMoves.{request_for}
use Rattle.journal_laws.specs.Whole.{whole_out}
use Rattle.client_node.specs.Answers.{held_at}
use Rattle.client_node.specs.NotedRows.{AreNotedRows}

-- the request of a write with this number, base and content, the chunks of whose objects these pieces spell
abbrev pub request_with : ℕ → ℕ → List ℕ → ℕ → ℕ → Content → List (List Piece) → Send
request_with c table row number base content pieces = request_for c table row (record {
  number = number;
  read = 0;
  base = base;
  content = content;
  pieces = pieces;
  whole = false;
})

-- the request of a row whose write waits for its answer
abbrev pub asked_again : (LocalName → List ℕ) → ℕ → ClientDevs → ℕ → List ℕ → List Send
asked_again meaning c d table row =
    option_to_list (option_map (λ out. request_for c table row (whole_out meaning out)) (held_at d table row).out)

-- the requests of these rows
abbrev pub all_asked_again : (LocalName → List ℕ) → ℕ → ClientDevs → ℕ → List (List ℕ) → List Send
all_asked_again meaning c d table [] = []
all_asked_again meaning c d table (row ∷ rows) =
    asked_again meaning c d table row ++ all_asked_again meaning c d table rows

-- the first of these rows that has something to send, with its slots
abbrev pub first_ready : ClientDevs → ℕ → List (List ℕ) → Option (List ℕ × HeldSlots)
first_ready d table [] = None
first_ready d table (row ∷ rows) =
    if can_send (held_at d table row) then Some (row, held_at d table row) else first_ready d table rows

-- the write of the first of these rows whose write waits for its answer
abbrev pub or_out : Option HeldOut → Option HeldOut → Option HeldOut
or_out None later = later
or_out (Some out) later = Some out

abbrev pub first_out : ClientDevs → ℕ → List (List ℕ) → Option HeldOut
first_out d table [] = None
first_out d table (row ∷ rows) = or_out (held_at d table row).out (first_out d table rows)

-- the number of that of a table's rows in a set
pub record IsFirstOut (d : ClientDevs) (table : ℕ) (set : BTreeSet RowKey) (found : Option ℕ) : Type 0 where
  pub rows : List (List ℕ)
  pub noted : AreNotedRows set table rows
  pub is : found ≡ option_map (λ out. out.number) (first_out d table rows)

-- none of these rows has a write that waits for its answer
abbrev pub NoneWaits : ClientDevs → ℕ → List (List ℕ) → Type 0
NoneWaits d table rows = AllByRecursion (λ row. (held_at d table row).out ≡ None) rows

-- each of these rows has no write that waits for its answer, while no write of the devices is to be done
abbrev pub ArePassed : ClientDevs → List Write → ℕ → List (List ℕ) → Type 0
ArePassed d ws table rows = AllByRecursion (λ row. (ws ≡ []) × ((held_at d table row).out ≡ None)) rows

-- none of these rows has something to send
abbrev pub NoneSends : ClientDevs → ℕ → List (List ℕ) → Type 0
NoneSends d table rows = AllByRecursion (λ row. can_send (held_at d table row) ≡ false) rows

-- the first row of a table in a set that has something to send, with its slots
pub record IsFirstReady (d : ClientDevs) (table : ℕ) (set : BTreeSet RowKey)
    (found : Option (List ℕ × HeldSlots)) : Type 0 where
  pub rows : List (List ℕ)
  pub noted : AreNotedRows set table rows
  pub is : found ≡ first_ready d table rows
