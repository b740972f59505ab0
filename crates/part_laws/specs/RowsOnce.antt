-- What parts that come to a client one after the other complete, where it has asked for rows whole.
use Rattle.std.specs.Prelude.{◌≡◌, ℕ, false, List, [], ◌∷◌, ◌++◌, Some}
use Rattle.std.specs.List.{find}
use Rattle.step_tables.specs.Members.{Among}
use Rattle.step_tables.specs.Messages.{TornPulled, Header, Message, TornRowResponse}
use Rattle.step_tables.specs.ClientMoves.{TableDisk}
use Rattle.part_tables.specs.Parts.{Part, Fragment, chunks_whole}
use Rattle.part_tables.specs.ClientParts.{is_of_table}
use Rattle.part_tables.specs.Arriving.{Arriving, arrived, is_awaited}
use Rattle.part_laws.specs.Answers.{AreTakenAlike}
use Rattle.part_laws.specs.Arrived.{whole_in}

-- where nothing of the table changes
abbrev pub completed : TableDisk → Arriving → List Part → List Message
completed opened a [] = []
completed opened a (p ∷ parts) =
    whole_in (arrived opened a p).taken ++ completed opened (arrived opened a p).arriving parts

-- it is the row that was asked for
abbrev pub IsOfItsRow : TornPulled → Type 0
IsOfItsRow t = (h : Header) → t.header ≡ Some h → h.row ≡ t.row

-- all chunks of a row, in any order and maybe repeated, and no others
pub record AreAllChunks (size : ℕ) (t : TornPulled) (fragments : List Fragment) : Type 0 where
  pub each : (f : Fragment) → Among fragments f → Among (chunks_whole size t t.header) f
  pub all : (f : Fragment) → Among (chunks_whole size t t.header) f → Among fragments f

-- no answer to a pull waits for one of these chunks
abbrev pub NoneAwaits : Arriving → List Fragment → Type 0
NoneAwaits a fragments =
    (f : Fragment) → Among fragments f → is_awaited f (find (is_of_table f.table) a.pulls) ≡ false

-- one message, which is taken as the row
pub record IsTakenOnce (opened : TableDisk) (t : TornPulled) (messages : List Message) : Type 0 where
  pub message : Message
  pub one : messages ≡ message ∷ []
  pub alike : AreTakenAlike t.table opened message (TornRowResponse t)
