-- The messages of the program as those of the tables by moves.
use Rattle.std.specs.Prelude.{Option, option_map}
use Rattle.stab_base.specs.declared.node.Node.{Node}
use Rattle.step_tables.specs.declared.message.Message.{Message}
use Rattle.step_tables.specs.declared.message.Message.TheVariants as kinds
use Rattle.step_tables.specs.declared.message.Outcome.{Outcome}
use Rattle.step_tables.specs.declared.message.Outcome.TheVariants as outcomes
use Rattle.step_tables.specs.declared.message.PullResponse.{PullResponse}
use Rattle.step_tables.specs.declared.message.RowHeader.{RowHeader}
use Rattle.step_tables.specs.declared.message.TornRowRequest.{TornRowRequest}
use Rattle.step_tables.specs.declared.message.TornRowResponse.{TornRowResponse}
use Rattle.step_tables.specs.Messages.{Send}
use Rattle.step_tables.specs.Messages as messages

abbrev pub outcome_of : Outcome → messages.Outcome
outcome_of (outcomes.Accepted version) = messages.Accepted version
outcome_of (outcomes.Again version) = messages.Again version
outcome_of (outcomes.Late last) = messages.Late last
outcome_of (outcomes.Stale latest) = messages.Stale latest
outcome_of (outcomes.Conflict latest) = messages.Conflict latest
outcome_of outcomes.NeedWhole = messages.NeedWhole

abbrev pub header_of : RowHeader → messages.Header
header_of h = record {
  row = h.row;
  version = h.version;
  yours = record { number = h.yours.number; version = h.yours.version };
  content = h.content;
  names = h.names;
}

abbrev pub pulled_of : PullResponse → messages.Pulled
pulled_of q = record {
  client = q.client;
  table = q.table;
  from = q.from;
  to = q.to;
  latest = q.latest;
  header = option_map header_of q.header;
}

abbrev pub torn_of : TornRowRequest → messages.TornPull
torn_of q = record { client = q.client; table = q.table; row = q.row }

abbrev pub torn_pulled_of : TornRowResponse → messages.TornPulled
torn_pulled_of q =
    record { client = q.client; table = q.table; row = q.row; header = option_map header_of q.header }

abbrev pub message_of : Message → messages.Message
message_of (kinds.SyncRequest q) = messages.SyncRequest (record {
  client = q.client;
  table = q.table;
  row = q.row;
  number = q.number;
  base = q.base;
  content = q.content;
  pieces = q.pieces;
})
message_of (kinds.SyncResponse r) = messages.SyncResponse (record {
  client = r.client;
  table = r.table;
  row = r.row;
  number = r.number;
  outcome = outcome_of r.outcome;
})
message_of (kinds.PullRequest q) =
    messages.PullRequest (record { client = q.client; table = q.table; position = q.position })
message_of (kinds.PullResponse q) = messages.PullResponse (pulled_of q)
message_of (kinds.TornRowRequest q) = messages.TornRowRequest (torn_of q)
message_of (kinds.TornRowResponse q) = messages.TornRowResponse (torn_pulled_of q)

abbrev pub send_of : Option Node × Message → Send
send_of p = record { to = p.0; message = message_of p.1 }
