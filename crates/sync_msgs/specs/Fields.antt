-- Fields of messages that other spellings don't have.
use Rattle.std.specs.Prelude.{ℕ, Bool, true, false, List, [], ◌∷◌, Ok}
use Rattle.std.specs.Int.{w32, w64}
use Rattle.value_codec.specs.Reading.{◌>>=◌, number_at, exactly_at}
use Rattle.field_codec.specs.Fields.{Reader, then_at, made_at, ranged_at, bytes_at}

abbrev pub client_at : Reader ℕ
client_at bytes = ranged_at 1 64 bytes

-- a period of a subscription, which may be 0 where there is none
abbrev pub period_if : Bool → Reader ℕ
period_if true bytes = ranged_at 1 4294967295 bytes
period_if false bytes = number_at w32 bytes

-- the bytes of a chunk, behind their number
unfoldable pub chunk_bytes_at : Reader (List ℕ)
chunk_bytes_at bytes = made_at (λ p. p.1) (then_at (ranged_at 1 65536) bytes_at) bytes

-- a number of eight bytes that is 0, or any
unfoldable pub value_if : Bool → Reader ℕ
value_if true bytes = do
  rest ← exactly_at (0 ∷ (0 ∷ (0 ∷ (0 ∷ (0 ∷ (0 ∷ (0 ∷ (0 ∷ [])))))))) bytes
  Ok (0, rest)
value_if false bytes = number_at w64 bytes
