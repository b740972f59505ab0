-- What parts that come to the Store one after the other complete.
use Rattle.std.specs.Prelude.{◌≡◌, ℕ, List, [], ◌∷◌, ◌++◌}
use Rattle.row_value.specs.declared.schema.Scheme.{Scheme}
use Rattle.step_tables.specs.Store.{Stored}
use Rattle.step_tables.specs.Members.{Among}
use Rattle.step_tables.specs.Messages.{Request, Message, SyncRequest}
use Rattle.part_tables.specs.Parts.{Part, Fragment, chunks_up}
use Rattle.part_tables.specs.StoreParts.{Gathering, Taken, Whole, Waits, parted}
use Rattle.part_laws.specs.Gathers.{AreTakenAlike}

abbrev pub whole_in : Taken → List Message
whole_in (Whole message) = message ∷ []
whole_in Waits = []

-- where no item is added
abbrev pub completed : Scheme → ℕ → List Stored → List Gathering → List Part → List Message
completed g size items gs [] = []
completed g size items gs (p ∷ parts) =
    whole_in (parted g size items gs p).taken
    ++ completed g size items (parted g size items gs p).gatherings parts

-- all chunks of a request that travel, in any order and maybe repeated, and no others
pub record AreAllChunks (size : ℕ) (q : Request) (fragments : List Fragment) : Type 0 where
  pub each : (f : Fragment) → Among fragments f → Among (chunks_up size q) f
  pub all : (f : Fragment) → Among (chunks_up size q) f → Among fragments f

-- one message, which is taken as the request
pub record IsTakenOnce (g : Scheme) (size : ℕ) (items : List Stored) (q : Request) (messages : List Message) :
    Type 0 where
  pub message : Message
  pub one : messages ≡ message ∷ []
  pub alike : AreTakenAlike g size items message (SyncRequest q)
