-- Reading a message's body from left to right, up to the first place at which no spelling goes on.
use Rattle.std.specs.Prelude.{ℕ, ◌==◌, ◌&&◌, nat_le, Bool, true, if◌then◌else◌, List}
use Rattle.std.specs.Int.{w32, w64}
use Rattle.value_codec.specs.Reading.{byte_at, number_at, flag_at, id_at, content_at, kept_content_at, list_at}
use Rattle.row_value.specs.declared.pieces.PieceContent.{PieceContent}
use Rattle.value_codec.specs.SchemaReading.{schema_at}
use Rattle.table_model.specs.declared.message_name.MessageName.{MessageName}
use Rattle.table_model.specs.declared.message_name.MessageName.TheVariants as names
use Rattle.table_model.specs.declared.message.RowHeader.{RowHeader}
use Rattle.table_model.specs.declared.message.TableSubscription.{TableSubscription}
use Rattle.table_model.specs.declared.message.Outcome.{Outcome}
use Rattle.table_model.specs.declared.message.Outcome.TheVariants as outcomes
use Rattle.table_model.specs.declared.message.Message.{Message}
use Rattle.table_model.specs.declared.message.Message.TheVariants as messages
use Rattle.field_codec.specs.Fields.{Reader, then_at, ◌&◌, made_at, byte_if}
use Rattle.sync_msgs.specs.Fields.{client_at, period_if, chunk_bytes_at}
use Rattle.field_codec.specs.Fields.{option_at, option_if}
use Rattle.sync_msgs.specs.Fields.{value_if}
use Rattle.sync_msgs.specs.Spelling.{has_schema}

-- ---- parts of messages

abbrev pub header_of : List ℕ × (ℕ × (ℕ × (ℕ × PieceContent))) → RowHeader
header_of p = record {
  row = p.0;
  version = p.1.0;
  yours = record { number = p.1.1.0; version = p.1.1.1.0 };
  content = p.1.1.1.1;
}

unfoldable pub header_at : Reader RowHeader
header_at bytes = made_at header_of (id_at & number_at w64 & number_at w64 & number_at w64 & kept_content_at) bytes

abbrev pub is_outcome : ℕ → Bool
is_outcome code = nat_le 1 code && nat_le code 6

abbrev pub outcome_of : ℕ → ℕ → Outcome
outcome_of code value =
    if code == 1 then outcomes.Accepted value
    else (if code == 2 then outcomes.Again value
    else (if code == 3 then outcomes.Late value
    else (if code == 4 then outcomes.Stale value
    else (if code == 5 then outcomes.Conflict value else outcomes.NeedWhole))))

unfoldable pub outcome_at : Reader Outcome
outcome_at bytes =
    made_at (λ p. outcome_of p.0 p.1) (then_at (byte_if is_outcome) (λ code. value_if (code == 6))) bytes

unfoldable pub subscription_at : Reader TableSubscription
subscription_at bytes =
    made_at (λ p. record { table = p.0; period = p.1.0; tolerance = p.1.1 })
    (number_at w32 & number_at w32 & number_at w32) bytes

abbrev pub after_subscription : Unit {0} → TableSubscription → Unit {0}
after_subscription s subscription = s

abbrev pub subscription_in : Unit {0} → Reader TableSubscription
subscription_in s bytes = subscription_at bytes

-- ---- the kinds

unfoldable pub register_device_at : Reader Message
register_device_at bytes =
    made_at (λ p. messages.RegisterDevice (record { client = p }))
    client_at bytes

unfoldable pub create_table_at : Reader Message
create_table_at bytes =
    made_at (λ p. messages.CreateTable (record { client = p.0; token = p.1.0; table = p.1.1.0; schema = p.1.1.1 }))
    (client_at & number_at w64 & number_at w32 & schema_at) bytes

unfoldable pub drop_table_at : Reader Message
drop_table_at bytes =
    made_at (λ p. messages.DropTable (record { client = p.0; token = p.1.0; table = p.1.1 }))
    (client_at & number_at w64 & number_at w32) bytes

unfoldable pub subscribe_table_at : Reader Message
subscribe_table_at bytes =
    made_at (λ p. messages.SubscribeTable (record {
      client = p.0;
      token = p.1.0;
      table = p.1.1.0;
      period = p.1.1.1.0;
      tolerance = p.1.1.1.1;
    }))
    (client_at & number_at w64 & number_at w32 & period_if true & number_at w32) bytes

unfoldable pub unsubscribe_table_at : Reader Message
unsubscribe_table_at bytes =
    made_at (λ p. messages.UnsubscribeTable (record { client = p.0; token = p.1.0; table = p.1.1 }))
    (client_at & number_at w64 & number_at w32) bytes

unfoldable pub notify_at : Reader Message
notify_at bytes =
    made_at (λ p. messages.Notify (record { client = p.0; bitmap = p.1 }))
    (client_at & number_at w64) bytes

unfoldable pub object_fragment_at : Reader Message
object_fragment_at bytes =
    made_at (λ p. messages.ObjectFragment (record {
      client = p.0;
      token = p.1.0;
      table = p.1.1.0;
      row = p.1.1.1.0;
      down = p.1.1.1.1.0;
      key = p.1.1.1.1.1.0;
      column = p.1.1.1.1.1.1.0;
      place = p.1.1.1.1.1.1.1.0;
      bytes = p.1.1.1.1.1.1.1.1;
    }))
    (client_at & number_at w64 & number_at w32 & id_at & flag_at & number_at w64 & number_at w32 &
    number_at w32 & chunk_bytes_at) bytes

unfoldable pub pull_request_at : Reader Message
pull_request_at bytes =
    made_at (λ p. messages.PullRequest (record { client = p.0; token = p.1.0; table = p.1.1.0; position = p.1.1.1 }))
    (client_at & number_at w64 & number_at w32 & number_at w64) bytes

unfoldable pub pull_response_at : Reader Message
pull_response_at bytes =
    made_at (λ p. messages.PullResponse (record {
      client = p.0;
      table = p.1.0;
      from = p.1.1.0;
      to = p.1.1.1.0;
      latest = p.1.1.1.1.0;
      header = p.1.1.1.1.1;
    }))
    (client_at & number_at w32 & number_at w64 & number_at w64 & number_at w64 & option_at header_at) bytes

unfoldable pub sync_request_at : Reader Message
sync_request_at bytes =
    made_at (λ p. messages.SyncRequest (record {
      client = p.0;
      token = p.1.0;
      table = p.1.1.0;
      row = p.1.1.1.0;
      number = p.1.1.1.1.0;
      base = p.1.1.1.1.1.0;
      content = p.1.1.1.1.1.1;
    }))
    (client_at & number_at w64 & number_at w32 & id_at & number_at w64 & number_at w64 & content_at) bytes

unfoldable pub sync_response_at : Reader Message
sync_response_at bytes =
    made_at (λ p. messages.SyncResponse (record {
      client = p.0;
      table = p.1.0;
      row = p.1.1.0;
      number = p.1.1.1.0;
      outcome = p.1.1.1.1;
    }))
    (client_at & number_at w32 & id_at & number_at w64 & outcome_at) bytes

unfoldable pub torn_row_request_at : Reader Message
torn_row_request_at bytes =
    made_at (λ p. messages.TornRowRequest (record { client = p.0; token = p.1.0; table = p.1.1.0; row = p.1.1.1 }))
    (client_at & number_at w64 & number_at w32 & id_at) bytes

unfoldable pub torn_row_response_at : Reader Message
torn_row_response_at bytes =
    made_at (λ p. messages.TornRowResponse (record { client = p.0; table = p.1.0; row = p.1.1.0; header = p.1.1.1 }))
    (client_at & number_at w32 & id_at & option_at header_at) bytes

unfoldable pub operation_response_at : Reader Message
operation_response_at bytes =
    made_at (λ p. messages.OperationResponse (record {
      client = p.0;
      table = p.1.0;
      answered = p.1.1.0;
      status = p.1.1.1.0;
      token = p.1.1.1.1.0;
      schema = p.1.1.1.1.1;
    }))
    (client_at & number_at w32 & (then_at byte_at (λ answered. then_at (number_at w32)
    (λ status. number_at w64 & option_if (has_schema answered status) schema_at)))) bytes

unfoldable pub save_client_subscription_at : Reader Message
save_client_subscription_at bytes =
    made_at (λ p. messages.SaveClientSubscription (record {
      client = p.0;
      gate = p.1.0;
      table = p.1.1.0;
      on = p.1.1.1.0;
      period = p.1.1.1.1.0;
      tolerance = p.1.1.1.1.1;
    }))
    (client_at & number_at w32 & number_at w32 & (then_at flag_at (λ on. period_if on & number_at w32))) bytes

unfoldable pub restore_client_subscriptions_at : Reader Message
restore_client_subscriptions_at bytes =
    made_at (λ p. messages.RestoreClientSubscriptions (record {
      client = p.0;
      gate = p.1.0;
      reply = p.1.1.0;
      subscriptions = p.1.1.1;
    }))
    (client_at & number_at w32 & flag_at & list_at after_subscription subscription_in tt) bytes

unfoldable pub table_version_update_notification_at : Reader Message
table_version_update_notification_at bytes =
    made_at (λ p. messages.TableVersionUpdateNotification (record { gate = p.0; table = p.1.0; version = p.1.1 }))
    (number_at w32 & number_at w32 & number_at w64) bytes

-- ---- all of them

abbrev pub message_at : MessageName → Reader Message
message_at names.RegisterDevice bytes = register_device_at bytes
message_at names.CreateTable bytes = create_table_at bytes
message_at names.DropTable bytes = drop_table_at bytes
message_at names.SubscribeTable bytes = subscribe_table_at bytes
message_at names.UnsubscribeTable bytes = unsubscribe_table_at bytes
message_at names.Notify bytes = notify_at bytes
message_at names.ObjectFragment bytes = object_fragment_at bytes
message_at names.PullRequest bytes = pull_request_at bytes
message_at names.PullResponse bytes = pull_response_at bytes
message_at names.SyncRequest bytes = sync_request_at bytes
message_at names.SyncResponse bytes = sync_response_at bytes
message_at names.TornRowRequest bytes = torn_row_request_at bytes
message_at names.TornRowResponse bytes = torn_row_response_at bytes
message_at names.OperationResponse bytes = operation_response_at bytes
message_at names.SaveClientSubscription bytes = save_client_subscription_at bytes
message_at names.RestoreClientSubscriptions bytes = restore_client_subscriptions_at bytes
message_at names.TableVersionUpdateNotification bytes = table_version_update_notification_at bytes
