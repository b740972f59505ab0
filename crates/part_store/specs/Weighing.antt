-- What a request by its pieces comes to by what the table has of its row.
use Rattle.std.specs.Prelude.{◌≡◌, ℕ, ◌==◌, nat_lt, ◌||◌, not, Bool, List, ◌∷◌, Option, Some, None}
use Rattle.std.specs.Prelude.{if◌then◌else◌}
use Rattle.row_value.specs.declared.schema.Scheme.{Scheme}
use Rattle.chunker.specs.Sized.{sized}
use Rattle.assemblies.specs.declared.sent.Sent.TheVariants as sents
use Rattle.assemblies.specs.Travel.{is_sent}
use Rattle.assemblies.specs.Gathering.{is_whole}
use Rattle.assemblies.specs.Gathering as gathering
use Rattle.assemblies.specs.Parts.{joined}
use Rattle.step_tables.specs.Messages.{Message, SyncRequest}
use Rattle.step_tables.specs.StoreMoves.{takes}
use Rattle.step_tables.specs.Travels.{message_of}
use Rattle.part_tables.specs.ClientParts.{has_held, bytes_of}
use Rattle.part_tables.specs.Parts.{RequestHead}
use Rattle.part_tables.specs.StoreParts.{Gathering, StoreTaken, Whole, Waits, request_with}
use Rattle.part_store.specs.declared.view.RowView.{RowView}
use Rattle.part_store.specs.declared.weighing.Weighed.{Weighed}
use Rattle.part_store.specs.declared.weighing.Weighed.TheVariants as weighings
use Rattle.part_store.specs.Gathered.{gathering_in}

-- it is answered at once: a repeat, a late one, over another base than the scheme takes, or one that keeps what the row
-- hasn't
abbrev pub answered_by : Scheme → ℕ → RowView → RequestHead → Bool
answered_by g size view head =
    (view.yours.number == head.number) || (nat_lt head.number view.yours.number
    || (not (takes g head.base view.version)
    || not (has_held (is_sent sents.Fresh) size view.chunks.items head.content)))

-- the whole request, none where it waits
abbrev pub made_by : Scheme → ℕ → RowView → Gathering → Option Message
made_by g size view x =
    if answered_by g size view x.head then Some (SyncRequest (request_with x.head (sized x.head.content)))
    else (if is_whole x.slots
    then Some (SyncRequest (request_with x.head (joined (bytes_of view.chunks.items) (is_sent sents.Fresh)
    x.head.content (gathering.chunks_of x.slots))))
    else None)

abbrev pub IsWeighed : Option Message → Gathering → Weighed → Type 0
IsWeighed (Some whole) x (weighings.Whole message) = message_of message ≡ whole
IsWeighed (Some whole) x (weighings.Waits y) = ⊥
IsWeighed None x (weighings.Whole message) = ⊥
IsWeighed None x (weighings.Waits y) = gathering_in y ≡ x

-- what is kept beside the others then
abbrev pub settled : List Gathering → Gathering → Option Message → StoreTaken
settled others x (Some whole) = record { taken = Whole whole; gatherings = others }
settled others x None = record { taken = Waits; gatherings = x ∷ others }
