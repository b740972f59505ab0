-- The name of each kind of message.
use Rattle.table_model.specs.declared.message_name.MessageName.{MessageName}
use Rattle.table_model.specs.declared.message_name.MessageName.TheVariants as names
use Rattle.step_tables.specs.declared.message.Message.{Message}
use Rattle.step_tables.specs.declared.message.Message.TheVariants as messages

abbrev pub name_of : Message → MessageName
name_of (messages.PullRequest request) = names.PullRequest
name_of (messages.PullResponse response) = names.PullResponse
name_of (messages.SyncRequest request) = names.SyncRequest
name_of (messages.SyncResponse response) = names.SyncResponse
name_of (messages.TornRowRequest request) = names.TornRowRequest
name_of (messages.TornRowResponse response) = names.TornRowResponse
