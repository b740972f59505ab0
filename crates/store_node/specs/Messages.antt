-- Which messages a table takes, and the entry of a request.
use Rattle.std.specs.Prelude.{◌≡◌, ℕ}
use Rattle.table_model.specs.declared.entry.Entry.{Entry}
use Rattle.step_tables.specs.Messages.{table_of}
use Rattle.step_tables.specs.Travels.{message_of}
use Rattle.step_tables.specs.declared.message.Message.{Message}
use Rattle.step_tables.specs.declared.message.SyncRequest.{SyncRequest}

-- a message of this table
abbrev pub IsFor : ℕ → Message → Type 0
IsFor table message = table_of (message_of message) ≡ table

-- the entry of a request at a version
abbrev pub entry_of : SyncRequest → ℕ → Entry
entry_of request version = record {
  row = request.row;
  version = version;
  client = request.client;
  number = request.number;
  base = request.base;
}
