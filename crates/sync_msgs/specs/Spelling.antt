-- Which messages have a spelling, and the one spelling of each: its kind, and the body, which is its fields in order.
use Rattle.std.specs.Prelude.{◌≡◌, ℕ, ◌<◌, ◌^◌, Bool, true, false, ◌==◌, ◌&&◌, ◌||◌, List, [], ◌∷◌, ◌++◌, length}
use Rattle.std.specs.List.{AllByRecursion}
use Rattle.stab_base.specs.Codec.{counted}
use Rattle.value_codec.specs.Spelling.{flag_spelling, list_spelling, content_spelling, HasContentSpelling}
use Rattle.value_codec.specs.Spelling.{HasKeptSpelling}
use Rattle.value_codec.specs.SchemaSpelling.{schema_spelling, HasSchemaSpelling}
use Rattle.field_codec.specs.Forms.{four, eight, IsBetween, IsOption, option_spelling, IsOptionIf}
use Rattle.table_model.specs.declared.message_name.MessageName.{MessageName}
use Rattle.table_model.specs.declared.message_name.MessageName.TheVariants as names
use Rattle.table_model.specs.MessageNames.{name_of}
use Rattle.table_model.specs.declared.message.RowHeader.{RowHeader}
use Rattle.table_model.specs.declared.message.TableSubscription.{TableSubscription}
use Rattle.table_model.specs.declared.message.RegisterDevice.{RegisterDevice}
use Rattle.table_model.specs.declared.message.CreateTable.{CreateTable}
use Rattle.table_model.specs.declared.message.DropTable.{DropTable}
use Rattle.table_model.specs.declared.message.SubscribeTable.{SubscribeTable}
use Rattle.table_model.specs.declared.message.UnsubscribeTable.{UnsubscribeTable}
use Rattle.table_model.specs.declared.message.Notify.{Notify}
use Rattle.table_model.specs.declared.message.ObjectFragment.{ObjectFragment}
use Rattle.table_model.specs.declared.message.PullRequest.{PullRequest}
use Rattle.table_model.specs.declared.message.PullResponse.{PullResponse}
use Rattle.table_model.specs.declared.message.SyncRequest.{SyncRequest}
use Rattle.table_model.specs.declared.message.SyncResponse.{SyncResponse}
use Rattle.table_model.specs.declared.message.TornRowRequest.{TornRowRequest}
use Rattle.table_model.specs.declared.message.TornRowResponse.{TornRowResponse}
use Rattle.table_model.specs.declared.message.OperationResponse.{OperationResponse}
use Rattle.table_model.specs.declared.message.SaveClientSubscription.{SaveClientSubscription}
use Rattle.table_model.specs.declared.message.RestoreClientSubscriptions.{RestoreClientSubscriptions}
use Rattle.table_model.specs.declared.message.TableVersionUpdateNotification.{TableVersionUpdateNotification}
use Rattle.table_model.specs.declared.message.Outcome.{Outcome}
use Rattle.table_model.specs.declared.message.Outcome.TheVariants as outcomes
use Rattle.table_model.specs.declared.message.Message.{Message}
use Rattle.table_model.specs.declared.message.Message.TheVariants as messages

-- ---- fields

abbrev pub IsClient : ℕ → Type 0
IsClient n = IsBetween 1 64 n

-- a period in ticks, which may be 0 where there is no subscription
abbrev pub IsPeriod : Bool → ℕ → Type 0
IsPeriod true n = IsBetween 1 4294967295 n
IsPeriod false n = n < 2 ^ 32

abbrev pub IsChunk : List ℕ → Type 0
IsChunk bytes = IsBetween 1 65536 (length bytes)

unfoldable pub chunk_spelling : List ℕ → List ℕ
chunk_spelling bytes = counted bytes

-- ---- parts of messages

-- a row's id, its version, the client's last write on it, and its content, which has no new chunks
abbrev pub header_spelling : RowHeader → List ℕ
header_spelling h =
    h.row ++ (eight h.version ++ (eight h.yours.number ++ (eight h.yours.version ++ content_spelling h.content)))

abbrev pub HasHeaderSpelling : RowHeader → Type 0
HasHeaderSpelling h =
    (length h.row ≡ 16) × ((h.version < 2 ^ 64) × ((h.yours.number < 2 ^ 64) × ((h.yours.version < 2 ^ 64) ×
    HasKeptSpelling h.content)))

-- a byte, and its value
abbrev pub outcome_spelling : Outcome → List ℕ
outcome_spelling (outcomes.Accepted version) = 1 ∷ eight version
outcome_spelling (outcomes.Again version) = 2 ∷ eight version
outcome_spelling (outcomes.Late last) = 3 ∷ eight last
outcome_spelling (outcomes.Stale latest) = 4 ∷ eight latest
outcome_spelling (outcomes.Conflict latest) = 5 ∷ eight latest
outcome_spelling outcomes.NeedWhole = 6 ∷ eight 0

abbrev pub HasOutcomeSpelling : Outcome → Type 0
HasOutcomeSpelling (outcomes.Accepted version) = version < 2 ^ 64
HasOutcomeSpelling (outcomes.Again version) = version < 2 ^ 64
HasOutcomeSpelling (outcomes.Late last) = last < 2 ^ 64
HasOutcomeSpelling (outcomes.Stale latest) = latest < 2 ^ 64
HasOutcomeSpelling (outcomes.Conflict latest) = latest < 2 ^ 64
HasOutcomeSpelling outcomes.NeedWhole = Unit {0}

abbrev pub subscription_spelling : TableSubscription → List ℕ
subscription_spelling s = four s.table ++ (four s.period ++ four s.tolerance)

abbrev pub HasSubscriptionSpelling : TableSubscription → Type 0
HasSubscriptionSpelling s = (s.table < 2 ^ 32) × ((s.period < 2 ^ 32) × (s.tolerance < 2 ^ 32))

abbrev pub AreSubscriptions : List TableSubscription → Type 0
AreSubscriptions some = (length some < 2 ^ 32) × AllByRecursion HasSubscriptionSpelling some

unfoldable pub subscriptions_spelling : List TableSubscription → List ℕ
subscriptions_spelling some = list_spelling subscription_spelling some

-- the answers to kinds 2 and 4 that are done have a schema
abbrev pub has_schema : ℕ → ℕ → Bool
has_schema answered status = (answered == 2 || answered == 4) && status == 0

-- ---- the kinds: what each field may be, and the fields in order

abbrev pub register_device_spelling : RegisterDevice → List ℕ
register_device_spelling m = four m.client

abbrev pub HasRegisterDevice : RegisterDevice → Type 0
HasRegisterDevice m = IsClient m.client

abbrev pub create_table_spelling : CreateTable → List ℕ
create_table_spelling m = four m.client ++ (eight m.token ++ (four m.table ++ schema_spelling m.schema))

abbrev pub HasCreateTable : CreateTable → Type 0
HasCreateTable m = IsClient m.client × ((m.token < 2 ^ 64) × ((m.table < 2 ^ 32) × HasSchemaSpelling m.schema))

abbrev pub drop_table_spelling : DropTable → List ℕ
drop_table_spelling m = four m.client ++ (eight m.token ++ four m.table)

abbrev pub HasDropTable : DropTable → Type 0
HasDropTable m = IsClient m.client × ((m.token < 2 ^ 64) × (m.table < 2 ^ 32))

abbrev pub subscribe_table_spelling : SubscribeTable → List ℕ
subscribe_table_spelling m = four m.client ++ (eight m.token ++ (four m.table ++ (four m.period ++ four m.tolerance)))

abbrev pub HasSubscribeTable : SubscribeTable → Type 0
HasSubscribeTable m =
    IsClient m.client × ((m.token < 2 ^ 64) × ((m.table < 2 ^ 32) × (IsPeriod true m.period ×
    (m.tolerance < 2 ^ 32))))

abbrev pub unsubscribe_table_spelling : UnsubscribeTable → List ℕ
unsubscribe_table_spelling m = four m.client ++ (eight m.token ++ four m.table)

abbrev pub HasUnsubscribeTable : UnsubscribeTable → Type 0
HasUnsubscribeTable m = IsClient m.client × ((m.token < 2 ^ 64) × (m.table < 2 ^ 32))

abbrev pub notify_spelling : Notify → List ℕ
notify_spelling m = four m.client ++ eight m.bitmap

abbrev pub HasNotify : Notify → Type 0
HasNotify m = IsClient m.client × (m.bitmap < 2 ^ 64)

abbrev pub object_fragment_spelling : ObjectFragment → List ℕ
object_fragment_spelling m =
    four m.client ++ (eight m.token ++ (four m.table ++ (m.row ++ (flag_spelling m.down ++ (eight m.key ++
    (four m.column ++ (four m.place ++ chunk_spelling m.bytes)))))))

abbrev pub HasObjectFragment : ObjectFragment → Type 0
HasObjectFragment m =
    IsClient m.client × ((m.token < 2 ^ 64) × ((m.table < 2 ^ 32) × ((length m.row ≡ 16) × (Unit {0} ×
    ((m.key < 2 ^ 64) × ((m.column < 2 ^ 32) × ((m.place < 2 ^ 32) × IsChunk m.bytes)))))))

abbrev pub pull_request_spelling : PullRequest → List ℕ
pull_request_spelling m = four m.client ++ (eight m.token ++ (four m.table ++ eight m.position))

abbrev pub HasPullRequest : PullRequest → Type 0
HasPullRequest m = IsClient m.client × ((m.token < 2 ^ 64) × ((m.table < 2 ^ 32) × (m.position < 2 ^ 64)))

abbrev pub pull_response_spelling : PullResponse → List ℕ
pull_response_spelling m =
    four m.client ++ (four m.table ++ (eight m.from ++ (eight m.to ++ (eight m.latest ++
    option_spelling header_spelling m.header))))

abbrev pub HasPullResponse : PullResponse → Type 0
HasPullResponse m =
    IsClient m.client × ((m.table < 2 ^ 32) × ((m.from < 2 ^ 64) × ((m.to < 2 ^ 64) × ((m.latest < 2 ^ 64) ×
    IsOption HasHeaderSpelling m.header))))

abbrev pub sync_request_spelling : SyncRequest → List ℕ
sync_request_spelling m =
    four m.client ++ (eight m.token ++ (four m.table ++ (m.row ++ (eight m.number ++ (eight m.base ++
    content_spelling m.content)))))

abbrev pub HasSyncRequest : SyncRequest → Type 0
HasSyncRequest m =
    IsClient m.client × ((m.token < 2 ^ 64) × ((m.table < 2 ^ 32) × ((length m.row ≡ 16) × ((m.number < 2 ^ 64) ×
    ((m.base < 2 ^ 64) × HasContentSpelling m.content)))))

abbrev pub sync_response_spelling : SyncResponse → List ℕ
sync_response_spelling m =
    four m.client ++ (four m.table ++ (m.row ++ (eight m.number ++ outcome_spelling m.outcome)))

abbrev pub HasSyncResponse : SyncResponse → Type 0
HasSyncResponse m =
    IsClient m.client × ((m.table < 2 ^ 32) × ((length m.row ≡ 16) × ((m.number < 2 ^ 64) ×
    HasOutcomeSpelling m.outcome)))

abbrev pub torn_row_request_spelling : TornRowRequest → List ℕ
torn_row_request_spelling m = four m.client ++ (eight m.token ++ (four m.table ++ m.row))

abbrev pub HasTornRowRequest : TornRowRequest → Type 0
HasTornRowRequest m = IsClient m.client × ((m.token < 2 ^ 64) × ((m.table < 2 ^ 32) × (length m.row ≡ 16)))

abbrev pub torn_row_response_spelling : TornRowResponse → List ℕ
torn_row_response_spelling m = four m.client ++ (four m.table ++ (m.row ++ option_spelling header_spelling m.header))

abbrev pub HasTornRowResponse : TornRowResponse → Type 0
HasTornRowResponse m =
    IsClient m.client × ((m.table < 2 ^ 32) × ((length m.row ≡ 16) × IsOption HasHeaderSpelling m.header))

abbrev pub operation_response_spelling : OperationResponse → List ℕ
operation_response_spelling m =
    four m.client ++ (four m.table ++ (m.answered ∷ [] ++ (four m.status ++ (eight m.token ++
    option_spelling schema_spelling m.schema))))

abbrev pub HasOperationResponse : OperationResponse → Type 0
HasOperationResponse m =
    IsClient m.client × ((m.table < 2 ^ 32) × ((m.answered < 256) × ((m.status < 2 ^ 32) × ((m.token < 2 ^ 64) ×
    IsOptionIf (has_schema m.answered m.status) HasSchemaSpelling m.schema))))

abbrev pub save_client_subscription_spelling : SaveClientSubscription → List ℕ
save_client_subscription_spelling m =
    four m.client ++ (four m.gate ++ (four m.table ++ (flag_spelling m.on ++ (four m.period ++ four m.tolerance))))

abbrev pub HasSaveClientSubscription : SaveClientSubscription → Type 0
HasSaveClientSubscription m =
    IsClient m.client × ((m.gate < 2 ^ 32) × ((m.table < 2 ^ 32) × (Unit {0} × (IsPeriod m.on m.period ×
    (m.tolerance < 2 ^ 32)))))

abbrev pub restore_client_subscriptions_spelling : RestoreClientSubscriptions → List ℕ
restore_client_subscriptions_spelling m =
    four m.client ++ (four m.gate ++ (flag_spelling m.reply ++ subscriptions_spelling m.subscriptions))

abbrev pub HasRestoreClientSubscriptions : RestoreClientSubscriptions → Type 0
HasRestoreClientSubscriptions m =
    IsClient m.client × ((m.gate < 2 ^ 32) × (Unit {0} × AreSubscriptions m.subscriptions))

abbrev pub table_version_update_notification_spelling : TableVersionUpdateNotification → List ℕ
table_version_update_notification_spelling m = four m.gate ++ (four m.table ++ eight m.version)

abbrev pub HasTableVersionUpdateNotification : TableVersionUpdateNotification → Type 0
HasTableVersionUpdateNotification m = (m.gate < 2 ^ 32) × ((m.table < 2 ^ 32) × (m.version < 2 ^ 64))

-- ---- all of them

abbrev pub kind_code : MessageName → ℕ
kind_code names.RegisterDevice = 1
kind_code names.CreateTable = 2
kind_code names.DropTable = 3
kind_code names.SubscribeTable = 4
kind_code names.UnsubscribeTable = 5
kind_code names.Notify = 6
kind_code names.ObjectFragment = 7
kind_code names.PullRequest = 8
kind_code names.PullResponse = 9
kind_code names.SyncRequest = 10
kind_code names.SyncResponse = 11
kind_code names.TornRowRequest = 12
kind_code names.TornRowResponse = 13
kind_code names.OperationResponse = 14
kind_code names.SaveClientSubscription = 15
kind_code names.RestoreClientSubscriptions = 16
kind_code names.TableVersionUpdateNotification = 17

abbrev pub kind_of : Message → ℕ
kind_of message = kind_code (name_of message)

abbrev pub body_spelling : Message → List ℕ
body_spelling (messages.RegisterDevice m) = register_device_spelling m
body_spelling (messages.CreateTable m) = create_table_spelling m
body_spelling (messages.DropTable m) = drop_table_spelling m
body_spelling (messages.SubscribeTable m) = subscribe_table_spelling m
body_spelling (messages.UnsubscribeTable m) = unsubscribe_table_spelling m
body_spelling (messages.Notify m) = notify_spelling m
body_spelling (messages.ObjectFragment m) = object_fragment_spelling m
body_spelling (messages.PullRequest m) = pull_request_spelling m
body_spelling (messages.PullResponse m) = pull_response_spelling m
body_spelling (messages.SyncRequest m) = sync_request_spelling m
body_spelling (messages.SyncResponse m) = sync_response_spelling m
body_spelling (messages.TornRowRequest m) = torn_row_request_spelling m
body_spelling (messages.TornRowResponse m) = torn_row_response_spelling m
body_spelling (messages.OperationResponse m) = operation_response_spelling m
body_spelling (messages.SaveClientSubscription m) = save_client_subscription_spelling m
body_spelling (messages.RestoreClientSubscriptions m) = restore_client_subscriptions_spelling m
body_spelling (messages.TableVersionUpdateNotification m) = table_version_update_notification_spelling m

abbrev pub HasSpelling : Message → Type 0
HasSpelling (messages.RegisterDevice m) = HasRegisterDevice m
HasSpelling (messages.CreateTable m) = HasCreateTable m
HasSpelling (messages.DropTable m) = HasDropTable m
HasSpelling (messages.SubscribeTable m) = HasSubscribeTable m
HasSpelling (messages.UnsubscribeTable m) = HasUnsubscribeTable m
HasSpelling (messages.Notify m) = HasNotify m
HasSpelling (messages.ObjectFragment m) = HasObjectFragment m
HasSpelling (messages.PullRequest m) = HasPullRequest m
HasSpelling (messages.PullResponse m) = HasPullResponse m
HasSpelling (messages.SyncRequest m) = HasSyncRequest m
HasSpelling (messages.SyncResponse m) = HasSyncResponse m
HasSpelling (messages.TornRowRequest m) = HasTornRowRequest m
HasSpelling (messages.TornRowResponse m) = HasTornRowResponse m
HasSpelling (messages.OperationResponse m) = HasOperationResponse m
HasSpelling (messages.SaveClientSubscription m) = HasSaveClientSubscription m
HasSpelling (messages.RestoreClientSubscriptions m) = HasRestoreClientSubscriptions m
HasSpelling (messages.TableVersionUpdateNotification m) = HasTableVersionUpdateNotification m

-- a message of this kind that has a spelling
abbrev pub IsOfKind : ℕ → Message → Type 0
IsOfKind kind message = HasSpelling message × (kind_of message ≡ kind)
