-- Each kind of message: its reading gives what is spelled, and tells the first bad place.
use Rattle.std.proofs.Common.{◌≡◌, ℕ, ◌<◌, ◌^◌, Bool, true, List, ◌++◌, Option, refl}
use Rattle.std.specs.Int.{w32, w64}
use Rattle.row_value.specs.declared.schema.Schema.{Schema}
use Rattle.row_value.specs.declared.pieces.PieceContent.{PieceContent}
use Rattle.value_codec.specs.SchemaSpelling.{schema_spelling, HasSchemaSpelling}
use Rattle.value_codec.specs.SchemaReading.{schema_at}
use Rattle.value_codec.specs.Spelling.{flag_spelling}
use Rattle.value_codec.specs.Reading.{byte_at, number_at, flag_at}
use Rattle.table_model.specs.declared.message_name.MessageName.{MessageName}
use Rattle.table_model.specs.declared.message_name.MessageName.TheVariants as names
use Rattle.table_model.specs.MessageNames.{name_of}
use Rattle.table_model.specs.declared.message.RowHeader.{RowHeader}
use Rattle.table_model.specs.declared.message.Outcome.{Outcome}
use Rattle.table_model.specs.declared.message.TableSubscription.{TableSubscription}
use Rattle.table_model.specs.declared.message.Message.{Message}
use Rattle.table_model.specs.declared.message.Message.TheVariants as messages
use Rattle.field_codec.specs.Fields.{Reader, then_at, ◌&◌, option_if}
use Rattle.sync_msgs.specs.Fields.{period_if}
use Rattle.field_codec.specs.Forms.{four, eight, IsOptionIf, option_spelling}
use Rattle.sync_msgs.specs.Spelling.{IsPeriod, has_schema, body_spelling, HasSpelling}
use Rattle.sync_msgs.specs.Reading.{register_device_at, create_table_at, drop_table_at, subscribe_table_at, unsubscribe_table_at, notify_at, object_fragment_at, pull_request_at, pull_response_at}
use Rattle.sync_msgs.specs.Reading.{sync_request_at, sync_response_at, torn_row_request_at, torn_row_response_at, operation_response_at, save_client_subscription_at, restore_client_subscriptions_at}
use Rattle.sync_msgs.specs.Reading.{table_version_update_notification_at, message_at}
use Rattle.field_codec.proofs.Codecs.{Codec, both, depending, made}
use Rattle.field_codec.proofs.Ranges.{one_byte}
use Rattle.field_codec.proofs.FieldCodecs.{four_codec, eight_codec, byte_codec, id_codec, flag_codec, content_codec, schema_codec}
use Rattle.sync_msgs.proofs.FieldCodecs.{client_codec, period_codec, chunk_codec, header_option_codec}
use Rattle.field_codec.proofs.FieldCodecs.{option_if_codec}
use Rattle.sync_msgs.proofs.FieldCodecs.{outcome_codec, subscriptions_codec}

abbrev pub IsNamed : MessageName → Message → Type 0
IsNamed name m = HasSpelling m × (name_of m ≡ name)

-- the end of an answer, whose schema depends on what is answered and how
abbrev IsEnd : ℕ → ℕ × (ℕ × Option Schema) → Type 0
IsEnd answered p = (p.0 < 2 ^ 32) × ((p.1.0 < 2 ^ 64) × IsOptionIf (has_schema answered p.0) HasSchemaSpelling p.1.1)

abbrev end_spelling : ℕ × (ℕ × Option Schema) → List ℕ
end_spelling p = four p.0 ++ (eight p.1.0 ++ option_spelling schema_spelling p.1.1)

abbrev end_at : ℕ → Reader (ℕ × (ℕ × Option Schema))
end_at answered = then_at (number_at w32) (λ status. number_at w64 & option_if (has_schema answered status) schema_at)

end_codec : (answered : ℕ) → Codec (IsEnd answered) end_spelling (end_at answered)
end_codec answered =
    depending (λ (status : ℕ) (p : ℕ × Option Schema). (p.0 < 2 ^ 64) × IsOptionIf (has_schema answered status) HasSchemaSpelling p.1) (λ (status : ℕ) (p : ℕ × Option Schema). eight p.0 ++ option_spelling schema_spelling p.1)
    (λ status. number_at w64 & option_if (has_schema answered status) schema_at) four_codec (λ status. both eight_codec (option_if_codec schema_codec (has_schema answered status)))

answer_codec : Codec (λ (p : ℕ × (ℕ × (ℕ × Option Schema))). (p.0 < 256) × IsEnd p.0 p.1) (λ p. one_byte p.0 ++ end_spelling p.1) (then_at byte_at end_at)
answer_codec = depending IsEnd (λ (answered : ℕ). end_spelling) end_at byte_codec end_codec

-- the terms of a subscription, which depend on whether it is to be kept
abbrev AreTerms : Bool → ℕ × ℕ → Type 0
AreTerms on p = IsPeriod on p.0 × (p.1 < 2 ^ 32)

abbrev terms_spelling : ℕ × ℕ → List ℕ
terms_spelling p = four p.0 ++ four p.1

terms_codec : Codec (λ (p : Bool × (ℕ × ℕ)). Unit {0} × AreTerms p.0 p.1) (λ p. flag_spelling p.0 ++ terms_spelling p.1) (then_at flag_at (λ on. period_if on & number_at w32))
terms_codec = depending AreTerms (λ (on : Bool). terms_spelling) (λ on. period_if on & number_at w32) flag_codec (λ on. both (period_codec on) four_codec)

abbrev made_register_device : ℕ → Message
made_register_device p = messages.RegisterDevice (record { client = p })

register_device_codec : Codec (IsNamed names.RegisterDevice) body_spelling register_device_at
unfolding register_device_at
register_device_codec =
    made made_register_device (IsNamed names.RegisterDevice) body_spelling (λ p h. (h, refl)) (λ p h. refl) back client_codec where
      back : (z : Message) → IsNamed names.RegisterDevice z → (p : ℕ) × HasSpelling (made_register_device p) × (made_register_device p ≡ z)
      back (messages.RegisterDevice m) h = (m.client, h.0, refl)
      back z h = absurd (let e = h.1 in cc)

abbrev made_create_table : ℕ × (ℕ × (ℕ × Schema)) → Message
made_create_table p = messages.CreateTable (record { client = p.0; token = p.1.0; table = p.1.1.0; schema = p.1.1.1 })

create_table_codec : Codec (IsNamed names.CreateTable) body_spelling create_table_at
unfolding create_table_at
create_table_codec =
    made made_create_table (IsNamed names.CreateTable) body_spelling (λ p h. (h, refl)) (λ p h. refl) back (both client_codec (both eight_codec (both four_codec schema_codec))) where
      back : (z : Message) → IsNamed names.CreateTable z → (p : ℕ × (ℕ × (ℕ × Schema))) × HasSpelling (made_create_table p) × (made_create_table p ≡ z)
      back (messages.CreateTable m) h = ((m.client, (m.token, (m.table, m.schema))), h.0, refl)
      back z h = absurd (let e = h.1 in cc)

abbrev made_drop_table : ℕ × (ℕ × ℕ) → Message
made_drop_table p = messages.DropTable (record { client = p.0; token = p.1.0; table = p.1.1 })

drop_table_codec : Codec (IsNamed names.DropTable) body_spelling drop_table_at
unfolding drop_table_at
drop_table_codec =
    made made_drop_table (IsNamed names.DropTable) body_spelling (λ p h. (h, refl)) (λ p h. refl) back (both client_codec (both eight_codec four_codec)) where
      back : (z : Message) → IsNamed names.DropTable z → (p : ℕ × (ℕ × ℕ)) × HasSpelling (made_drop_table p) × (made_drop_table p ≡ z)
      back (messages.DropTable m) h = ((m.client, (m.token, m.table)), h.0, refl)
      back z h = absurd (let e = h.1 in cc)

abbrev made_subscribe_table : ℕ × (ℕ × (ℕ × (ℕ × ℕ))) → Message
made_subscribe_table p = messages.SubscribeTable (record { client = p.0; token = p.1.0; table = p.1.1.0; period = p.1.1.1.0; tolerance = p.1.1.1.1 })

subscribe_table_codec : Codec (IsNamed names.SubscribeTable) body_spelling subscribe_table_at
unfolding subscribe_table_at
subscribe_table_codec =
    made made_subscribe_table (IsNamed names.SubscribeTable) body_spelling (λ p h. (h, refl)) (λ p h. refl) back (both client_codec (both eight_codec (both four_codec (both (period_codec true) four_codec)))) where
      back : (z : Message) → IsNamed names.SubscribeTable z → (p : ℕ × (ℕ × (ℕ × (ℕ × ℕ)))) × HasSpelling (made_subscribe_table p) × (made_subscribe_table p ≡ z)
      back (messages.SubscribeTable m) h = ((m.client, (m.token, (m.table, (m.period, m.tolerance)))), h.0, refl)
      back z h = absurd (let e = h.1 in cc)

abbrev made_unsubscribe_table : ℕ × (ℕ × ℕ) → Message
made_unsubscribe_table p = messages.UnsubscribeTable (record { client = p.0; token = p.1.0; table = p.1.1 })

unsubscribe_table_codec : Codec (IsNamed names.UnsubscribeTable) body_spelling unsubscribe_table_at
unfolding unsubscribe_table_at
unsubscribe_table_codec =
    made made_unsubscribe_table (IsNamed names.UnsubscribeTable) body_spelling (λ p h. (h, refl)) (λ p h. refl) back (both client_codec (both eight_codec four_codec)) where
      back : (z : Message) → IsNamed names.UnsubscribeTable z → (p : ℕ × (ℕ × ℕ)) × HasSpelling (made_unsubscribe_table p) × (made_unsubscribe_table p ≡ z)
      back (messages.UnsubscribeTable m) h = ((m.client, (m.token, m.table)), h.0, refl)
      back z h = absurd (let e = h.1 in cc)

abbrev made_notify : ℕ × ℕ → Message
made_notify p = messages.Notify (record { client = p.0; bitmap = p.1 })

notify_codec : Codec (IsNamed names.Notify) body_spelling notify_at
unfolding notify_at
notify_codec =
    made made_notify (IsNamed names.Notify) body_spelling (λ p h. (h, refl)) (λ p h. refl) back (both client_codec eight_codec) where
      back : (z : Message) → IsNamed names.Notify z → (p : ℕ × ℕ) × HasSpelling (made_notify p) × (made_notify p ≡ z)
      back (messages.Notify m) h = ((m.client, m.bitmap), h.0, refl)
      back z h = absurd (let e = h.1 in cc)

abbrev made_object_fragment : ℕ × (ℕ × (ℕ × (List ℕ × (Bool × (ℕ × (ℕ × (ℕ × List ℕ))))))) → Message
made_object_fragment p = messages.ObjectFragment (record { client = p.0; token = p.1.0; table = p.1.1.0; row = p.1.1.1.0; down = p.1.1.1.1.0; key = p.1.1.1.1.1.0; column = p.1.1.1.1.1.1.0; place = p.1.1.1.1.1.1.1.0; bytes = p.1.1.1.1.1.1.1.1 })

object_fragment_codec : Codec (IsNamed names.ObjectFragment) body_spelling object_fragment_at
unfolding object_fragment_at
object_fragment_codec =
    made made_object_fragment (IsNamed names.ObjectFragment) body_spelling (λ p h. (h, refl)) (λ p h. refl) back (both client_codec (both eight_codec (both four_codec (both id_codec (both flag_codec (both eight_codec (both four_codec (both four_codec chunk_codec)))))))) where
      back : (z : Message) → IsNamed names.ObjectFragment z → (p : ℕ × (ℕ × (ℕ × (List ℕ × (Bool × (ℕ × (ℕ × (ℕ × List ℕ)))))))) × HasSpelling (made_object_fragment p) × (made_object_fragment p ≡ z)
      back (messages.ObjectFragment m) h = ((m.client, (m.token, (m.table, (m.row, (m.down, (m.key, (m.column, (m.place, m.bytes)))))))), h.0, refl)
      back z h = absurd (let e = h.1 in cc)

abbrev made_pull_request : ℕ × (ℕ × (ℕ × ℕ)) → Message
made_pull_request p = messages.PullRequest (record { client = p.0; token = p.1.0; table = p.1.1.0; position = p.1.1.1 })

pull_request_codec : Codec (IsNamed names.PullRequest) body_spelling pull_request_at
unfolding pull_request_at
pull_request_codec =
    made made_pull_request (IsNamed names.PullRequest) body_spelling (λ p h. (h, refl)) (λ p h. refl) back (both client_codec (both eight_codec (both four_codec eight_codec))) where
      back : (z : Message) → IsNamed names.PullRequest z → (p : ℕ × (ℕ × (ℕ × ℕ))) × HasSpelling (made_pull_request p) × (made_pull_request p ≡ z)
      back (messages.PullRequest m) h = ((m.client, (m.token, (m.table, m.position))), h.0, refl)
      back z h = absurd (let e = h.1 in cc)

abbrev made_pull_response : ℕ × (ℕ × (ℕ × (ℕ × (ℕ × Option RowHeader)))) → Message
made_pull_response p = messages.PullResponse (record { client = p.0; table = p.1.0; from = p.1.1.0; to = p.1.1.1.0; latest = p.1.1.1.1.0; header = p.1.1.1.1.1 })

pull_response_codec : Codec (IsNamed names.PullResponse) body_spelling pull_response_at
unfolding pull_response_at
pull_response_codec =
    made made_pull_response (IsNamed names.PullResponse) body_spelling (λ p h. (h, refl)) (λ p h. refl) back (both client_codec (both four_codec (both eight_codec (both eight_codec (both eight_codec header_option_codec))))) where
      back : (z : Message) → IsNamed names.PullResponse z → (p : ℕ × (ℕ × (ℕ × (ℕ × (ℕ × Option RowHeader))))) × HasSpelling (made_pull_response p) × (made_pull_response p ≡ z)
      back (messages.PullResponse m) h = ((m.client, (m.table, (m.from, (m.to, (m.latest, m.header))))), h.0, refl)
      back z h = absurd (let e = h.1 in cc)

abbrev made_sync_request : ℕ × (ℕ × (ℕ × (List ℕ × (ℕ × (ℕ × PieceContent))))) → Message
made_sync_request p = messages.SyncRequest (record { client = p.0; token = p.1.0; table = p.1.1.0; row = p.1.1.1.0; number = p.1.1.1.1.0; base = p.1.1.1.1.1.0; content = p.1.1.1.1.1.1 })

sync_request_codec : Codec (IsNamed names.SyncRequest) body_spelling sync_request_at
unfolding sync_request_at
sync_request_codec =
    made made_sync_request (IsNamed names.SyncRequest) body_spelling (λ p h. (h, refl)) (λ p h. refl) back (both client_codec (both eight_codec (both four_codec (both id_codec (both eight_codec (both eight_codec content_codec)))))) where
      back : (z : Message) → IsNamed names.SyncRequest z → (p : ℕ × (ℕ × (ℕ × (List ℕ × (ℕ × (ℕ × PieceContent)))))) × HasSpelling (made_sync_request p) × (made_sync_request p ≡ z)
      back (messages.SyncRequest m) h = ((m.client, (m.token, (m.table, (m.row, (m.number, (m.base, m.content)))))), h.0, refl)
      back z h = absurd (let e = h.1 in cc)

abbrev made_sync_response : ℕ × (ℕ × (List ℕ × (ℕ × Outcome))) → Message
made_sync_response p = messages.SyncResponse (record { client = p.0; table = p.1.0; row = p.1.1.0; number = p.1.1.1.0; outcome = p.1.1.1.1 })

sync_response_codec : Codec (IsNamed names.SyncResponse) body_spelling sync_response_at
unfolding sync_response_at
sync_response_codec =
    made made_sync_response (IsNamed names.SyncResponse) body_spelling (λ p h. (h, refl)) (λ p h. refl) back (both client_codec (both four_codec (both id_codec (both eight_codec outcome_codec)))) where
      back : (z : Message) → IsNamed names.SyncResponse z → (p : ℕ × (ℕ × (List ℕ × (ℕ × Outcome)))) × HasSpelling (made_sync_response p) × (made_sync_response p ≡ z)
      back (messages.SyncResponse m) h = ((m.client, (m.table, (m.row, (m.number, m.outcome)))), h.0, refl)
      back z h = absurd (let e = h.1 in cc)

abbrev made_torn_row_request : ℕ × (ℕ × (ℕ × List ℕ)) → Message
made_torn_row_request p = messages.TornRowRequest (record { client = p.0; token = p.1.0; table = p.1.1.0; row = p.1.1.1 })

torn_row_request_codec : Codec (IsNamed names.TornRowRequest) body_spelling torn_row_request_at
unfolding torn_row_request_at
torn_row_request_codec =
    made made_torn_row_request (IsNamed names.TornRowRequest) body_spelling (λ p h. (h, refl)) (λ p h. refl) back (both client_codec (both eight_codec (both four_codec id_codec))) where
      back : (z : Message) → IsNamed names.TornRowRequest z → (p : ℕ × (ℕ × (ℕ × List ℕ))) × HasSpelling (made_torn_row_request p) × (made_torn_row_request p ≡ z)
      back (messages.TornRowRequest m) h = ((m.client, (m.token, (m.table, m.row))), h.0, refl)
      back z h = absurd (let e = h.1 in cc)

abbrev made_torn_row_response : ℕ × (ℕ × (List ℕ × Option RowHeader)) → Message
made_torn_row_response p = messages.TornRowResponse (record { client = p.0; table = p.1.0; row = p.1.1.0; header = p.1.1.1 })

torn_row_response_codec : Codec (IsNamed names.TornRowResponse) body_spelling torn_row_response_at
unfolding torn_row_response_at
torn_row_response_codec =
    made made_torn_row_response (IsNamed names.TornRowResponse) body_spelling (λ p h. (h, refl)) (λ p h. refl) back (both client_codec (both four_codec (both id_codec header_option_codec))) where
      back : (z : Message) → IsNamed names.TornRowResponse z → (p : ℕ × (ℕ × (List ℕ × Option RowHeader))) × HasSpelling (made_torn_row_response p) × (made_torn_row_response p ≡ z)
      back (messages.TornRowResponse m) h = ((m.client, (m.table, (m.row, m.header))), h.0, refl)
      back z h = absurd (let e = h.1 in cc)

abbrev made_operation_response : ℕ × (ℕ × (ℕ × (ℕ × (ℕ × Option Schema)))) → Message
made_operation_response p = messages.OperationResponse (record { client = p.0; table = p.1.0; answered = p.1.1.0; status = p.1.1.1.0; token = p.1.1.1.1.0; schema = p.1.1.1.1.1 })

operation_response_codec : Codec (IsNamed names.OperationResponse) body_spelling operation_response_at
unfolding operation_response_at
operation_response_codec =
    made made_operation_response (IsNamed names.OperationResponse) body_spelling (λ p h. (h, refl)) (λ p h. refl) back (both client_codec (both four_codec answer_codec)) where
      back : (z : Message) → IsNamed names.OperationResponse z → (p : ℕ × (ℕ × (ℕ × (ℕ × (ℕ × Option Schema))))) × HasSpelling (made_operation_response p) × (made_operation_response p ≡ z)
      back (messages.OperationResponse m) h = ((m.client, (m.table, (m.answered, (m.status, (m.token, m.schema))))), h.0, refl)
      back z h = absurd (let e = h.1 in cc)

abbrev made_save_client_subscription : ℕ × (ℕ × (ℕ × (Bool × (ℕ × ℕ)))) → Message
made_save_client_subscription p = messages.SaveClientSubscription (record { client = p.0; gate = p.1.0; table = p.1.1.0; on = p.1.1.1.0; period = p.1.1.1.1.0; tolerance = p.1.1.1.1.1 })

save_client_subscription_codec : Codec (IsNamed names.SaveClientSubscription) body_spelling save_client_subscription_at
unfolding save_client_subscription_at
save_client_subscription_codec =
    made made_save_client_subscription (IsNamed names.SaveClientSubscription) body_spelling (λ p h. (h, refl)) (λ p h. refl) back (both client_codec (both four_codec (both four_codec terms_codec))) where
      back : (z : Message) → IsNamed names.SaveClientSubscription z → (p : ℕ × (ℕ × (ℕ × (Bool × (ℕ × ℕ))))) × HasSpelling (made_save_client_subscription p) × (made_save_client_subscription p ≡ z)
      back (messages.SaveClientSubscription m) h = ((m.client, (m.gate, (m.table, (m.on, (m.period, m.tolerance))))), h.0, refl)
      back z h = absurd (let e = h.1 in cc)

abbrev made_restore_client_subscriptions : ℕ × (ℕ × (Bool × List TableSubscription)) → Message
made_restore_client_subscriptions p = messages.RestoreClientSubscriptions (record { client = p.0; gate = p.1.0; reply = p.1.1.0; subscriptions = p.1.1.1 })

restore_client_subscriptions_codec : Codec (IsNamed names.RestoreClientSubscriptions) body_spelling restore_client_subscriptions_at
unfolding restore_client_subscriptions_at
restore_client_subscriptions_codec =
    made made_restore_client_subscriptions (IsNamed names.RestoreClientSubscriptions) body_spelling (λ p h. (h, refl)) (λ p h. refl) back (both client_codec (both four_codec (both flag_codec subscriptions_codec))) where
      back : (z : Message) → IsNamed names.RestoreClientSubscriptions z
          → (p : ℕ × (ℕ × (Bool × List TableSubscription))) × HasSpelling (made_restore_client_subscriptions p) × (made_restore_client_subscriptions p ≡ z)
      back (messages.RestoreClientSubscriptions m) h = ((m.client, (m.gate, (m.reply, m.subscriptions))), h.0, refl)
      back z h = absurd (let e = h.1 in cc)

abbrev made_table_version_update_notification : ℕ × (ℕ × ℕ) → Message
made_table_version_update_notification p = messages.TableVersionUpdateNotification (record { gate = p.0; table = p.1.0; version = p.1.1 })

table_version_update_notification_codec : Codec (IsNamed names.TableVersionUpdateNotification) body_spelling table_version_update_notification_at
unfolding table_version_update_notification_at
table_version_update_notification_codec =
    made made_table_version_update_notification (IsNamed names.TableVersionUpdateNotification) body_spelling (λ p h. (h, refl)) (λ p h. refl) back (both four_codec (both four_codec eight_codec)) where
      back : (z : Message) → IsNamed names.TableVersionUpdateNotification z
          → (p : ℕ × (ℕ × ℕ)) × HasSpelling (made_table_version_update_notification p) × (made_table_version_update_notification p ≡ z)
      back (messages.TableVersionUpdateNotification m) h = ((m.gate, (m.table, m.version)), h.0, refl)
      back z h = absurd (let e = h.1 in cc)

-- ---- all of them

pub message_codec : (name : MessageName) → Codec (IsNamed name) body_spelling (message_at name)
message_codec names.RegisterDevice = register_device_codec
message_codec names.CreateTable = create_table_codec
message_codec names.DropTable = drop_table_codec
message_codec names.SubscribeTable = subscribe_table_codec
message_codec names.UnsubscribeTable = unsubscribe_table_codec
message_codec names.Notify = notify_codec
message_codec names.ObjectFragment = object_fragment_codec
message_codec names.PullRequest = pull_request_codec
message_codec names.PullResponse = pull_response_codec
message_codec names.SyncRequest = sync_request_codec
message_codec names.SyncResponse = sync_response_codec
message_codec names.TornRowRequest = torn_row_request_codec
message_codec names.TornRowResponse = torn_row_response_codec
message_codec names.OperationResponse = operation_response_codec
message_codec names.SaveClientSubscription = save_client_subscription_codec
message_codec names.RestoreClientSubscriptions = restore_client_subscriptions_codec
message_codec names.TableVersionUpdateNotification = table_version_update_notification_codec
