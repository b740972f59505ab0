-- What a client with a gateway has in memory beside what a client is: whether its link is up, and its session's token.
use Rattle.std.specs.Prelude.{ℕ, Bool, false, ◌&&◌, Option, Some, None, is_some}
use Rattle.table_model.specs.declared.message.Message.{Message}
use Rattle.table_model.specs.declared.message.Message.TheVariants as messages
use Rattle.part_tables.specs.Parts.{Part, Asks, Responds, Pulls, Answers, BringsUp, BringsDown, AsksTorn, AnswersTorn}

pub record Device : Type 0 where
  pub gate : ℕ
  pub linked : Bool
  pub token : Option ℕ

-- its link begins down
abbrev pub new_device : ℕ → Device
new_device gate = record { gate = gate; linked = false; token = None }

-- it asks and sends where it is registered and its link is up
abbrev pub is_online : Device → Bool
is_online d = d.linked && is_some d.token

-- ---- messages of a client

abbrev pub or_zero : Option ℕ → ℕ
or_zero None = 0
or_zero (Some token) = token

-- a client's message with its token
abbrev pub stamped : ℕ → Message → Message
stamped token (messages.ObjectFragment m) = messages.ObjectFragment (record m { token = token })
stamped token (messages.PullRequest m) = messages.PullRequest (record m { token = token })
stamped token (messages.SyncRequest m) = messages.SyncRequest (record m { token = token })
stamped token (messages.TornRowRequest m) = messages.TornRowRequest (record m { token = token })
stamped token other = other

abbrev pub register : ℕ → Message
register c = messages.RegisterDevice (record { client = c })

-- the client that a part comes from or goes to
abbrev pub part_client : Part → ℕ
part_client (Asks head) = head.client
part_client (Responds response) = response.client
part_client (Pulls pull) = pull.client
part_client (Answers head) = head.client
part_client (BringsUp f) = f.client
part_client (BringsDown f) = f.client
part_client (AsksTorn torn) = torn.client
part_client (AnswersTorn head) = head.client
