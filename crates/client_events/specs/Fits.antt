-- What a message brings fits its table.
use Rattle.std.specs.Prelude.{ℕ, Option, Some, None}
use Rattle.step_tables.specs.declared.message.Message.{Message}
use Rattle.step_tables.specs.ClientMoves.{Client}
use Rattle.step_tables.specs.Travels.{message_of}
use Rattle.client_node.specs.Taking.{FitsClient}
use Rattle.world_tables.specs.World.{World, client_at}

abbrev pub FitsThere : Option Client → Message → Type 0
FitsThere None message = Unit {0}
FitsThere (Some s) message = FitsClient s.disk (message_of message)

-- where the client is there
abbrev pub FitsMessage : World → ℕ → Message → Type 0
FitsMessage w c message = FitsThere (client_at w c) message
