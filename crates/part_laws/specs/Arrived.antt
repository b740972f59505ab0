-- What parts that come to a client one after the other complete.
use Rattle.std.specs.Prelude.{◌≡◌, ℕ, nat_le, true, false, List, [], ◌∷◌, ◌++◌}
use Rattle.assemblies.specs.declared.sent.Sent.TheVariants as sents
use Rattle.assemblies.specs.Travel.{is_sent}
use Rattle.step_tables.specs.Members.{Among}
use Rattle.step_tables.specs.Messages.{Pulled, Header, Message, PullResponse}
use Rattle.step_tables.specs.ClientMoves.{TableDisk, slots_at, top}
use Rattle.part_tables.specs.Parts.{Part, Fragment, spelled_by, kept, chunks_down}
use Rattle.part_tables.specs.ClientParts.{Answering, Taken, Whole, Tears, Waits, held_in, has_held, parted}
use Rattle.part_laws.specs.Answers.{AreTakenAlike}

abbrev pub whole_in : Taken → List Message
whole_in (Whole message) = message ∷ []
whole_in (Tears row) = []
whole_in Waits = []

-- where nothing of the table changes
abbrev pub completed : TableDisk → List Answering → List Part → List Message
completed opened xs [] = []
completed opened xs (p ∷ parts) =
    whole_in (parted opened xs p).taken ++ completed opened (parted opened xs p).answerings parts

-- all chunks of an answer that travel, in any order and maybe repeated, and no others
pub record AreAllChunks (size : ℕ) (p : Pulled) (fragments : List Fragment) : Type 0 where
  pub each : (f : Fragment) → Among fragments f → Among (chunks_down size p p.header) f
  pub all : (f : Fragment) → Among (chunks_down size p p.header) f → Among fragments f

-- the row is newer than the one that the client has read only where it holds each chunk that doesn't travel
abbrev pub IsNotTorn : TableDisk → Pulled → Header → Type 0
IsNotTorn opened p h =
    nat_le h.version (top (slots_at opened h.row).conflict (slots_at opened h.row).shadow) ≡ false
    → has_held (is_sent (sents.Above p.from)) opened.schema.chunk
    (held_in opened.schema.chunk (slots_at opened h.row)) (spelled_by h.content (kept h.names)) ≡ true

-- one message, which is taken as the answer
pub record IsTakenOnce (opened : TableDisk) (p : Pulled) (messages : List Message) : Type 0 where
  pub message : Message
  pub one : messages ≡ message ∷ []
  pub alike : AreTakenAlike p.table opened message (PullResponse p)
