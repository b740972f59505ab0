-- What decoding answers, from what reading gives.
use Rattle.std.proofs.Common.{◌≡◌, ℕ, ◌-◌, List, length, Result, Ok, Err, refl, sym, ap, ◌∙◌, inr}
use Rattle.stab_base.specs.Codec.{IsBytes}
use Rattle.value_codec.specs.declared.spell_fault.SpellFault.{SpellFault}
use Rattle.value_codec.specs.declared.spell_fault.SpellFault.TheVariants.{Bad}
use Rattle.value_codec.specs.Reading.{Gives, whole}
use Rattle.value_codec.proofs.FieldReads.{one_value}
use Rattle.value_codec.proofs.Stops.{moved}
use Rattle.value_codec.proofs.Answering.{whole_found, whole_only, whole_refused}
use Rattle.table_model.specs.declared.message_name.MessageName.{MessageName}
use Rattle.table_model.specs.declared.message.Message.{Message}
use Rattle.table_model.specs.MessageNames.{name_of}
use Rattle.sync_msgs.specs.Spelling.{kind_code, kind_of, body_spelling, HasSpelling, IsOfKind}
use Rattle.sync_msgs.specs.Reading.{message_at}
use Rattle.sync_msgs.specs.Refusing.{IsBad}
use Rattle.sync_msgs.proofs.MessageCodecs.{IsNamed, message_codec}
use Rattle.sync_msgs.proofs.KindNumbers.{one_name}

named_is : (name : MessageName) (kind : ℕ) → kind_code name ≡ kind → (m : Message) → IsNamed name m → IsOfKind kind m
named_is name kind e m h = (h.0, ap kind_code h.1 ∙ e)

is_named : (name : MessageName) (kind : ℕ) → kind_code name ≡ kind → (m : Message) → IsOfKind kind m → IsNamed name m
is_named name kind e m h = (h.0, one_name (name_of m) name (h.1 ∙ sym e))

pub found : (name : MessageName) (kind : ℕ) (body : List ℕ) (m : Message) → kind_code name ≡ kind → IsBytes body → whole (message_at name body) ≡ Ok m → IsOfKind kind m × (body ≡ body_spelling m)
found name kind body m e fits read =
    let t = whole_found (IsNamed name) body_spelling (message_at name) (message_codec name).reads body (Ok m) fits read in
    (named_is name kind e m t.0, t.1)

-- what is spelled there is what was answered
pub only : (name : MessageName) (kind : ℕ) (body : List ℕ) (result : Result Message SpellFault) → kind_code name ≡ kind → Gives body (λ x. x) result (whole (message_at name body))
    → (m : Message) → IsOfKind kind m → body ≡ body_spelling m → Gives {Y = Message} body (λ x. x) result (Ok m)
only name kind body result e given m h told = whole_only (IsNamed name) body_spelling (message_at name) (message_codec name).reads body result given m (is_named name kind e m h) told

pub same : (body : List ℕ) (x m : Message) → Gives {X = Message} {Y = Message} body (λ x. x) (Ok x) (Ok m) → x ≡ m
same body x m e = cc

pub never : (body : List ℕ) (at : ℕ) (m : Message) → Gives {X = Message} {Y = Message} body (λ x. x) (Err (Bad at)) (Ok m) → ⊥
never body at m e = let f = e.1 in absurd cc

pub bad : (name : MessageName) (kind : ℕ) (body : List ℕ) (at : ℕ) → kind_code name ≡ kind → IsBytes body → Gives {X = Message} body (λ x. x) (Err (Bad at)) (whole (message_at name body)) → IsBad kind body at
bad name kind body at e fits given =
    let t = whole_refused (IsNamed name) body_spelling (message_at name) (message_codec name).reads (message_codec name).stops body (Err (Bad at)) fits given in
    inr (t.0, moved (IsNamed name) body_spelling (IsOfKind kind) body_spelling body (length body - at) (λ m h. (m, named_is name kind e m h, refl)) (λ m h. (m, is_named name kind e m h, refl)) t.1)

pub one_message : (x y : Message) → HasSpelling x → HasSpelling y → kind_of x ≡ kind_of y → body_spelling x ≡ body_spelling y → x ≡ y
one_message x y h k e told =
    one_value (IsNamed (name_of x)) body_spelling (message_at (name_of x)) (message_codec (name_of x)).reads x y (h, refl) (k, one_name (name_of y) (name_of x) (sym e)) told
