-- The name of each kind of message.
use Rattle.table_model.specs.declared.message_name.MessageName.{MessageName}
use Rattle.table_model.specs.declared.message_name.MessageName.TheVariants as names
use Rattle.table_model.specs.declared.message.Message.{Message}
use Rattle.table_model.specs.declared.message.Message.TheVariants as messages

abbrev pub name_of : Message → MessageName
name_of (messages.RegisterDevice m) = names.RegisterDevice
name_of (messages.CreateTable m) = names.CreateTable
name_of (messages.DropTable m) = names.DropTable
name_of (messages.SubscribeTable m) = names.SubscribeTable
name_of (messages.UnsubscribeTable m) = names.UnsubscribeTable
name_of (messages.Notify m) = names.Notify
name_of (messages.ObjectFragment m) = names.ObjectFragment
name_of (messages.PullRequest m) = names.PullRequest
name_of (messages.PullResponse m) = names.PullResponse
name_of (messages.SyncRequest m) = names.SyncRequest
name_of (messages.SyncResponse m) = names.SyncResponse
name_of (messages.TornRowRequest m) = names.TornRowRequest
name_of (messages.TornRowResponse m) = names.TornRowResponse
name_of (messages.OperationResponse m) = names.OperationResponse
name_of (messages.SaveClientSubscription m) = names.SaveClientSubscription
name_of (messages.RestoreClientSubscriptions m) = names.RestoreClientSubscriptions
name_of (messages.TableVersionUpdateNotification m) = names.TableVersionUpdateNotification
