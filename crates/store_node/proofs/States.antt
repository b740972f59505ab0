-- A table's state as its record has it.
use Rattle.std.proofs.Common.{◌≡◌, ℕ, ◌+◌, ◌≤◌, [], ◌∷◌, length, refl, sym, ◌∙◌, subst, arith, length-append}
use Rattle.vault.specs.Limit.{payload_most}
use Rattle.row_value.specs.declared.schema.Schema.{Schema}
use Rattle.value_codec.specs.SchemaSpelling.{schema_spelling}
use Rattle.row_store.specs.Spelling.{IsState, table_payload}
use Rattle.table_model.specs.declared.table_state.TableState.{TableState}
use Rattle.table_model.specs.declared.table_state.TableState.TheVariants.{Draft, Live, Dropped}
use Rattle.device_laws.specs.Stands.{state_number}
use Rattle.store_node.specs.Devices.{state_of}

-- the state that its number stands for
pub named : (state : TableState) → state_of (state_number state) ≡ state
named Draft = refl
named Live = refl
named Dropped = refl

pub is_state : (state : TableState) → IsState (state_number state)
is_state Draft = record { least = omega arith; most = omega arith }
is_state Live = record { least = omega arith; most = omega arith }
is_state Dropped = record { least = omega arith; most = omega arith }

-- the record is as long in any state
long : (schema : Schema) (n : ℕ) → length (table_payload schema n) ≡ 2 + length (schema_spelling schema)
long schema n = let l = length-append (schema_spelling schema) (n ∷ []) in omega (arith, l)

pub short_in : (schema : Schema) (a b : ℕ) → length (table_payload schema a) ≤ payload_most → length (table_payload schema b) ≤ payload_most
short_in schema a b short = subst (λ (n : ℕ). n ≤ payload_most) (long schema a ∙ sym (long schema b)) short
