-- Messages without a list, whose schema is short, have a frame.
use Rattle.std.proofs.Common.{◌≡◌, ◌+◌, ◌≤◌, Bool, true, false, [], length, Option, Some, None, sym, subst, arith}
use Rattle.row_value.specs.declared.schema.Schema.{Schema}
use Rattle.value_codec.specs.SchemaSpelling.{HasSchemaSpelling, schema_spelling}
use Rattle.field_codec.specs.Forms.{four, eight, IsOptionIf, option_spelling}
use Rattle.table_model.specs.declared.message.Message.{Message}
use Rattle.table_model.specs.declared.message.Message.TheVariants as messages
use Rattle.table_model.specs.declared.message.CreateTable.{CreateTable}
use Rattle.table_model.specs.declared.message.OperationResponse.{OperationResponse}
use Rattle.table_model.specs.declared.message.RestoreClientSubscriptions.{RestoreClientSubscriptions}
use Rattle.sync_msgs.specs.Spelling.{IsClient, subscriptions_spelling, has_schema}
use Rattle.message_frames.specs.Frames.{HasFrame}
use Rattle.net_network.specs.Short.{IsFramed, IsShort, HasWidths}

-- a schema that stands where one is to stand
spelled_if : (b : Bool) (o : Option Schema) → IsOptionIf b IsFramed o → IsOptionIf b HasSchemaSpelling o
spelled_if true None h = absurd h
spelled_if true (Some schema) h = h.spelled
spelled_if false None h = tt
spelled_if false (Some schema) h = absurd h

short_if : (b : Bool) (o : Option Schema) → IsOptionIf b IsFramed o → length (option_spelling schema_spelling o) + 127 ≤ 1048576
short_if true None h = absurd h
short_if true (Some schema) h = omega (arith, h.short)
short_if false None h = omega arith
short_if false (Some schema) h = absurd h

response_frame : (m : OperationResponse) → HasWidths (messages.OperationResponse m) → IsClient m.client → IsOptionIf (has_schema m.answered m.status) IsFramed m.schema
    → HasFrame (messages.OperationResponse m)
unfolding four eight
response_frame m w client h = record {
  spelled = (client, (w.0, (w.1, (w.2, (w.3, spelled_if (has_schema m.answered m.status) m.schema h)))));
  room = let short = short_if (has_schema m.answered m.status) m.schema h in omega (arith, short);
}

create_frame : (m : CreateTable) → HasWidths (messages.CreateTable m) → IsClient m.client → IsFramed m.schema → HasFrame (messages.CreateTable m)
unfolding four eight
create_frame m w client h = record { spelled = (client, (w.0, (w.1, h.spelled))); room = let short = h.short in omega (arith, short) }

-- of no subscriptions
bare_restoring : (m : RestoreClientSubscriptions) → HasWidths (messages.RestoreClientSubscriptions m) → IsClient m.client
    → HasFrame (messages.RestoreClientSubscriptions (record m { subscriptions = [] }))
unfolding four eight subscriptions_spelling
bare_restoring m w client = record { spelled = (client, (w, (tt, (omega arith, tt)))); room = omega arith }

pub short_frame : (m : Message) → HasWidths m → IsShort m → HasFrame m
unfolding four eight
short_frame (messages.RegisterDevice m) w h = record { spelled = h; room = omega arith }
short_frame (messages.CreateTable m) w h = create_frame m w h.0 h.1
short_frame (messages.DropTable m) w h = record { spelled = (h, (w.0, w.1)); room = omega arith }
short_frame (messages.OperationResponse m) w h = response_frame m w h.0 h.1
short_frame (messages.RestoreClientSubscriptions m) w h =
    subst (λ o. HasFrame (messages.RestoreClientSubscriptions (record m { subscriptions = o }))) (sym h.1) (bare_restoring m w h.0)
short_frame other w h = absurd h
