-- Which entries a table's scheme allows behind a history.
use Rattle.std.specs.Prelude.{◌≡◌, ◌<◌, ◌⊎◌, ℕ, ◌==◌, ◌&&◌, ◌||◌, Bool, not, nat_le, nat_lt, List, All, Any}
use Rattle.std.specs.List.{list_all, list_any}
use Rattle.row_value.specs.declared.schema.Scheme.{Scheme}
use Rattle.row_value.specs.declared.schema.Scheme.TheVariants.{Strong, Causal, Eventual}
use Rattle.table_model.specs.declared.entry.Entry.{Entry}
use Rattle.table_model.specs.History.{current, is_of_row}

-- an entry of the row that the client had read, or one that the same client wrote before
abbrev pub is_read_or_own : Entry → ℕ → Entry → Bool
is_read_or_own entry read before =
    not (is_of_row entry.row before) || nat_le before.version read
    || ((before.client == entry.client) && nat_lt before.number entry.number)

abbrev pub is_entry_at : List ℕ → ℕ → Entry → Bool
is_entry_at row version before = is_of_row row before && (before.version == version)

-- strong: it rests on the row's version, which its client had read. Causal: it rests on the row's version, and what its
-- client hadn't read of the row is its own and earlier. Eventual: it rests on nothing or on an entry of the row
abbrev pub entry_allowed : Scheme → List Entry → Entry → ℕ → Bool
entry_allowed Strong history entry read = (entry.base == read) && (entry.base == current history entry.row)
entry_allowed Causal history entry read =
    (entry.base == current history entry.row) && list_all (is_read_or_own entry read) history
entry_allowed Eventual history entry read = (entry.base == 0) || list_any (is_entry_at entry.row entry.base) history

-- ---- the same, as relations

-- an entry of the row that the client hadn't read is its own, and earlier
abbrev pub IsReadOrOwn : Entry → ℕ → Entry → Type 0
IsReadOrOwn entry read before =
    before.row ≡ entry.row → read < before.version → (before.client ≡ entry.client) × (before.number < entry.number)

abbrev pub IsEntryAt : List ℕ → ℕ → Entry → Type 0
IsEntryAt row version before = (before.row ≡ row) × (before.version ≡ version)

abbrev pub IsAllowed : Scheme → List Entry → Entry → ℕ → Type 0
IsAllowed Strong history entry read = (entry.base ≡ read) × (entry.base ≡ current history entry.row)
IsAllowed Causal history entry read = (entry.base ≡ current history entry.row) × All (IsReadOrOwn entry read) history
IsAllowed Eventual history entry read = (entry.base ≡ 0) ⊎ Any (IsEntryAt entry.row entry.base) history
