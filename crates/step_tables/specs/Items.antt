-- Words on the items of a table that the laws of all nodes speak in.
use Rattle.std.specs.Prelude.{◌≡◌, ◌≤◌, ◌⊎◌, ℕ, List}
use Rattle.step_tables.specs.Store.{Stored, current_of}
use Rattle.step_tables.specs.StoreMoves.{version_of}
use Rattle.step_tables.specs.Messages.{Pair, Header}
use Rattle.step_tables.specs.Members.{Among}

-- the version of a row's last item, 0 where there is none
abbrev pub latest : List Stored → List ℕ → ℕ
latest h row = version_of (current_of h row)

-- an item of a client's write on a row, at a version
pub record IsItemOf (h : List Stored) (client number : ℕ) (row : List ℕ) (version : ℕ) (i : Stored) : Type 0 where
  pub stands : Among h i
  pub client_is : i.entry.client ≡ client
  pub number_is : i.entry.number ≡ number
  pub row_is : i.entry.row ≡ row
  pub version_is : i.entry.version ≡ version

-- an item of a row at a version
pub record IsItemAt (h : List Stored) (row : List ℕ) (version : ℕ) (i : Stored) : Type 0 where
  pub stands : Among h i
  pub row_is : i.entry.row ≡ row
  pub version_is : i.entry.version ≡ version

-- a base: 0, or the version of an item of the row
abbrev pub IsBase : List Stored → List ℕ → ℕ → Type 0
IsBase h row base = (base ≡ 0) ⊎ ((i : Stored) × IsItemAt h row base i)

-- a client's last pair on a row, among the items up to a version: it bounds numbers and versions, and is one of them
pub record IsYours (client : ℕ) (h : List Stored) (row : List ℕ) (version : ℕ) (yours : Pair) : Type 0 where
  pub all : (o : Stored) → Among h o → o.entry.client ≡ client → o.entry.row ≡ row → o.entry.version ≤ version
      → (o.entry.number ≤ yours.number) × (o.entry.version ≤ yours.version)
  pub is : ((yours.number ≡ 0) × (yours.version ≡ 0))
      ⊎ ((i : Stored) × IsItemOf h client yours.number row yours.version i × (yours.version ≤ version))

-- an answer to a pull: an item, the only change between its two positions
pub record IsChange (client : ℕ) (h : List Stored) (from to : ℕ) (header : Header) : Type 0 where
  pub item : Stored
  pub is : IsItemAt h header.row header.version item
  pub content : item.content ≡ header.content
  pub to_is : to ≡ header.version
  pub above : from ≤ to
  pub yours : IsYours client h header.row header.version header.yours
  pub others : (row : List ℕ) → latest h row ≤ to → (row ≡ header.row) ⊎ (latest h row ≤ from)
