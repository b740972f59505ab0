-- What parties send to each other, as parts of whole messages.
use Rattle.std.specs.Prelude.{Bool, true, false, Option, Some, None, option_map}
use Rattle.table_model.specs.declared.message.Message.{Message}
use Rattle.table_model.specs.declared.message.Message.TheVariants as kinds
use Rattle.table_model.specs.declared.message.ObjectFragment.{ObjectFragment}
use Rattle.table_model.specs.declared.message.Outcome.{Outcome}
use Rattle.table_model.specs.declared.message.Outcome.TheVariants as outcomes
use Rattle.table_model.specs.declared.message.RowHeader.{RowHeader}
use Rattle.step_tables.specs.Messages as messages
use Rattle.part_tables.specs.Parts.{Part, Asks, Responds, Pulls, Answers, BringsUp, BringsDown, AsksTorn, AnswersTorn}
use Rattle.part_tables.specs.Parts.{RowHead, Fragment, head_of, pulled_head, torn_head}

abbrev pub outcome_of : Outcome → messages.Outcome
outcome_of (outcomes.Accepted version) = messages.Accepted version
outcome_of (outcomes.Again version) = messages.Again version
outcome_of (outcomes.Late last) = messages.Late last
outcome_of (outcomes.Stale latest) = messages.Stale latest
outcome_of (outcomes.Conflict latest) = messages.Conflict latest
outcome_of outcomes.NeedWhole = messages.NeedWhole

abbrev pub row_head_of : RowHeader → RowHead
row_head_of h = record {
  row = h.row;
  version = h.version;
  yours = record { number = h.yours.number; version = h.yours.version };
  content = h.content;
}

abbrev pub fragment_of : ObjectFragment → Fragment
fragment_of f = record {
  client = f.client;
  table = f.table;
  row = f.row;
  key = f.key;
  column = f.column;
  place = f.place;
  bytes = f.bytes;
}

-- a chunk on its way, to the client or to the Store
abbrev pub brings : Bool → Fragment → Part
brings true fragment = BringsDown fragment
brings false fragment = BringsUp fragment

-- the part that a message is, without its token; none where a whole message of the step tables has no such part
abbrev pub part_of : Message → Option Part
part_of (kinds.RegisterDevice m) = None
part_of (kinds.CreateTable m) = None
part_of (kinds.DropTable m) = None
part_of (kinds.SubscribeTable m) = None
part_of (kinds.UnsubscribeTable m) = None
part_of (kinds.Notify m) = None
part_of (kinds.ObjectFragment f) = Some (brings f.down (fragment_of f))
part_of (kinds.PullRequest q) = Some (Pulls (record { client = q.client; table = q.table; position = q.position }))
part_of (kinds.PullResponse p) = Some (Answers (record {
  client = p.client;
  table = p.table;
  from = p.from;
  to = p.to;
  latest = p.latest;
  header = option_map row_head_of p.header;
}))
part_of (kinds.SyncRequest q) = Some (Asks (record {
  client = q.client;
  table = q.table;
  row = q.row;
  number = q.number;
  base = q.base;
  content = q.content;
}))
part_of (kinds.SyncResponse r) = Some (Responds (record {
  client = r.client;
  table = r.table;
  row = r.row;
  number = r.number;
  outcome = outcome_of r.outcome;
}))
part_of (kinds.TornRowRequest q) = Some (AsksTorn (record { client = q.client; table = q.table; row = q.row }))
part_of (kinds.TornRowResponse t) = Some (AnswersTorn (record {
  client = t.client;
  table = t.table;
  row = t.row;
  header = option_map row_head_of t.header;
}))
part_of (kinds.OperationResponse m) = None
part_of (kinds.SaveClientSubscription m) = None
part_of (kinds.RestoreClientSubscriptions m) = None
part_of (kinds.TableVersionUpdateNotification m) = None

-- ---- the message that is sent for a part, whose token is 0

abbrev pub outcome_at : messages.Outcome → Outcome
outcome_at (messages.Accepted version) = outcomes.Accepted version
outcome_at (messages.Again version) = outcomes.Again version
outcome_at (messages.Late last) = outcomes.Late last
outcome_at (messages.Stale latest) = outcomes.Stale latest
outcome_at (messages.Conflict latest) = outcomes.Conflict latest
outcome_at messages.NeedWhole = outcomes.NeedWhole

abbrev pub row_header_at : RowHead → RowHeader
row_header_at h = record {
  row = h.row;
  version = h.version;
  yours = record { number = h.yours.number; version = h.yours.version };
  content = h.content;
}

abbrev pub fragment_at : Bool → Fragment → ObjectFragment
fragment_at down f = record {
  client = f.client;
  token = 0;
  table = f.table;
  row = f.row;
  down = down;
  key = f.key;
  column = f.column;
  place = f.place;
  bytes = f.bytes;
}

abbrev pub message_at : Part → Message
message_at (Asks head) = kinds.SyncRequest (record {
  client = head.client;
  token = 0;
  table = head.table;
  row = head.row;
  number = head.number;
  base = head.base;
  content = head.content;
})
message_at (Responds r) = kinds.SyncResponse (record {
  client = r.client;
  table = r.table;
  row = r.row;
  number = r.number;
  outcome = outcome_at r.outcome;
})
message_at (Pulls q) = kinds.PullRequest (record {
  client = q.client;
  token = 0;
  table = q.table;
  position = q.position;
})
message_at (Answers p) = kinds.PullResponse (record {
  client = p.client;
  table = p.table;
  from = p.from;
  to = p.to;
  latest = p.latest;
  header = option_map row_header_at p.header;
})
message_at (BringsUp f) = kinds.ObjectFragment (fragment_at false f)
message_at (BringsDown f) = kinds.ObjectFragment (fragment_at true f)
message_at (AsksTorn q) = kinds.TornRowRequest (record {
  client = q.client;
  token = 0;
  table = q.table;
  row = q.row;
})
message_at (AnswersTorn t) = kinds.TornRowResponse (record {
  client = t.client;
  table = t.table;
  row = t.row;
  header = option_map row_header_at t.header;
})

-- the first part of a whole message
abbrev pub first_part : messages.Message → Part
first_part (messages.SyncRequest q) = Asks (head_of q)
first_part (messages.SyncResponse r) = Responds r
first_part (messages.PullRequest q) = Pulls q
first_part (messages.PullResponse p) = Answers (pulled_head p)
first_part (messages.TornRowRequest torn) = AsksTorn torn
first_part (messages.TornRowResponse t) = AnswersTorn (torn_head t)
