-- The number of a kind stands for one name.
use Rattle.std.proofs.Common.{◌≡◌, ℕ, cond, eqb, refl, sym, ap, ◌∙◌}
use Rattle.table_model.specs.declared.message_name.MessageName.{MessageName}
use Rattle.table_model.specs.declared.message_name.MessageName.TheVariants as names
use Rattle.sync_msgs.specs.Spelling.{kind_code}

name_at : ℕ → MessageName
name_at kind =
    cond (eqb kind 1) names.RegisterDevice
    (cond (eqb kind 2) names.CreateTable
    (cond (eqb kind 3) names.DropTable
    (cond (eqb kind 4) names.SubscribeTable
    (cond (eqb kind 5) names.UnsubscribeTable
    (cond (eqb kind 6) names.Notify
    (cond (eqb kind 7) names.ObjectFragment
    (cond (eqb kind 8) names.PullRequest
    (cond (eqb kind 9) names.PullResponse
    (cond (eqb kind 10) names.SyncRequest
    (cond (eqb kind 11) names.SyncResponse
    (cond (eqb kind 12) names.TornRowRequest
    (cond (eqb kind 13) names.TornRowResponse
    (cond (eqb kind 14) names.OperationResponse
    (cond (eqb kind 15) names.SaveClientSubscription
    (cond (eqb kind 16) names.RestoreClientSubscriptions names.TableVersionUpdateNotification)))))))))))))))

name_back : (name : MessageName) → name_at (kind_code name) ≡ name
unfolding name_at
name_back names.RegisterDevice = refl
name_back names.CreateTable = refl
name_back names.DropTable = refl
name_back names.SubscribeTable = refl
name_back names.UnsubscribeTable = refl
name_back names.Notify = refl
name_back names.ObjectFragment = refl
name_back names.PullRequest = refl
name_back names.PullResponse = refl
name_back names.SyncRequest = refl
name_back names.SyncResponse = refl
name_back names.TornRowRequest = refl
name_back names.TornRowResponse = refl
name_back names.OperationResponse = refl
name_back names.SaveClientSubscription = refl
name_back names.RestoreClientSubscriptions = refl
name_back names.TableVersionUpdateNotification = refl

pub one_name : (a b : MessageName) → kind_code a ≡ kind_code b → a ≡ b
one_name a b e = sym (name_back a) ∙ ap name_at e ∙ name_back b
