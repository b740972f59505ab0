-- Where bytes stop being a message.
use Rattle.std.specs.Prelude.{◌≡◌, ◌≢◌, ℕ, ◌-◌, ◌≤◌, ◌⊎◌, List, length}
use Rattle.value_codec.specs.FirstBad.{IsFirstBad}
use Rattle.table_model.specs.declared.message_name.MessageName.{MessageName}
use Rattle.sync_msgs.specs.declared.codec.MessageFault.{MessageFault}
use Rattle.sync_msgs.specs.declared.codec.MessageFault.TheVariants.{BadMessage, Memory}
use Rattle.sync_msgs.specs.Spelling.{kind_code, body_spelling, IsOfKind}

abbrev pub IsNoKind : ℕ → Type 0
IsNoKind kind = (name : MessageName) → kind_code name ≢ kind

-- the first place at which no body of the kind goes on; 0 where there is no such kind
abbrev pub IsBad : ℕ → List ℕ → ℕ → Type 0
IsBad kind body at =
    (IsNoKind kind × (at ≡ 0)) ⊎ ((at ≤ length body) × IsFirstBad (IsOfKind kind) body_spelling body (length body - at))

abbrev pub IsBadOrMemory : ℕ → List ℕ → MessageFault → Type 0
IsBadOrMemory kind body (BadMessage told at) = (told ≡ kind) × IsBad kind body at
IsBadOrMemory kind body Memory = Unit {0}
