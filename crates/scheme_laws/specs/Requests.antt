-- What is known of a history and of a request.
use Rattle.std.specs.Prelude.{◌≡◌, ◌<◌, ◌≤◌, ◌⊎◌, ℕ, List, [], ◌∷◌, All, Any}
use Rattle.row_value.specs.declared.schema.Scheme.{Scheme}
use Rattle.row_value.specs.declared.schema.Scheme.TheVariants.{Strong, Causal, Eventual}
use Rattle.table_model.specs.declared.entry.Entry.{Entry}
use Rattle.table_model.specs.Allowed.{IsEntryAt}

-- versions rise along a history
abbrev pub IsRising : List Entry → Type 0
IsRising [] = Unit {0}
IsRising (entry ∷ history) = All (λ later. entry.version < later.version) history × IsRising history

-- between what the client had read and the base there are its own writes alone, and earlier ones
abbrev pub IsOwnUpToBase : Entry → ℕ → Entry → Type 0
IsOwnUpToBase entry read before =
    before.row ≡ entry.row → read < before.version → before.version ≤ entry.base
    → (before.client ≡ entry.client) × (before.number < entry.number)

-- a request that a client of such a table makes
abbrev pub RestsOn : Scheme → List Entry → Entry → ℕ → Type 0
RestsOn Strong history entry read = entry.base ≡ read
RestsOn Causal history entry read = All (IsOwnUpToBase entry read) history
RestsOn Eventual history entry read = (entry.base ≡ 0) ⊎ Any (IsEntryAt entry.row entry.base) history

-- the client has no write on the row above this number
abbrev pub IsLast : List Entry → Entry → ℕ × ℕ → Type 0
IsLast history entry last =
    All (λ before. before.row ≡ entry.row → before.client ≡ entry.client → before.number ≤ last.0) history
