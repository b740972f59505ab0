-- What a payload says, read from left to right. A fault is the number of bytes from the place on at which no spelling
-- goes on, or at which a spelling begins whose numbers pass their limits.
use Rattle.std.specs.Prelude.{ℕ, Bool, ◌==◌, ◌&&◌, nat_le, if◌then◌else◌, List, length, Result, Ok, Err}
use Rattle.std.specs.Int.{w32, w64}
use Rattle.stab_base.specs.declared.limits.TheConstants.{NUMBER_MAX}
use Rattle.value_codec.specs.Reading.{◌>>=◌, byte_at, number_at, flag_at, id_at, whole}
use Rattle.value_codec.specs.SchemaReading.{schema_at}
use Rattle.field_codec.specs.Fields.{Reader, ◌&◌, made_at, byte_if, option_at, all_at}
use Rattle.held_codec.specs.Reading.{local_at, slots_at, tell_at}
use Rattle.plan_log.specs.declared.plan.Intend.{Intend}
use Rattle.plan_log.specs.declared.plan.RowChange.{RowChange}
use Rattle.plan_log.specs.declared.plan.RecordChange.{RecordChange}
use Rattle.plan_log.specs.declared.plan.Commit.{Commit}
use Rattle.plan_log.specs.declared.reader.Head.{Head}
use Rattle.plan_log.specs.declared.reader.Updates.{Updates}
use Rattle.plan_log.specs.Spelling.{tables_most}

-- a value that passes a test
abbrev pub checked_at : {X : Type 0} → (X → Bool) → Reader X → Reader X
checked_at test read bytes = do
  x ← read bytes
  if test x.0 then Ok (x.0, x.1) else Err (length bytes)

-- ---- limits

abbrev pub is_plan : ℕ → Bool
is_plan plan = nat_le 1 plan && nat_le plan NUMBER_MAX

abbrev pub is_table : ℕ → Bool
is_table table = nat_le 1 table && nat_le table tables_most

abbrev pub is_intend : Intend → Bool
is_intend intend = is_plan intend.plan && is_table intend.table

abbrev pub is_commit : Commit → Bool
is_commit commit = is_plan commit.plan && (nat_le commit.last NUMBER_MAX && is_table commit.table)

-- ---- intends

unfoldable pub any_intend_at : Reader Intend
any_intend_at bytes =
    made_at (λ p. record {
      plan = p.0;
      table = p.1.0;
      row = p.1.1.0;
      server = p.1.1.1.0;
      chunks = p.1.1.1.1;
    })
    (number_at w64 & number_at w32 & id_at & flag_at & number_at w32) bytes

unfoldable pub intend_at : Reader Intend
intend_at bytes = checked_at is_intend any_intend_at bytes

-- ---- commits

unfoldable pub row_change_at : Reader RowChange
row_change_at bytes = made_at (λ p. record { row = p.0; slots = p.1 }) (id_at & slots_at) bytes

abbrev pub is_state : ℕ → Bool
is_state state = nat_le 1 state && nat_le state 2

unfoldable pub record_change_at : Reader RecordChange
record_change_at bytes = made_at (λ p. record { state = p.0; schema = p.1 }) (byte_if is_state & schema_at) bytes

unfoldable pub head_at : Reader Head
head_at bytes =
    made_at (λ p. record { plan = p.0; last = p.1.0; table = p.1.1 })
    (number_at w64 & number_at w64 & number_at w32) bytes

unfoldable pub updates_at : Reader Updates
updates_at bytes =
    made_at (λ p. record { row = p.0; position = p.1.0; new_record = p.1.1 })
    (option_at row_change_at & option_at (number_at w64) & option_at record_change_at) bytes

unfoldable pub any_commit_at : Reader Commit
any_commit_at bytes =
    made_at (λ p. record {
      plan = p.0.plan;
      last = p.0.last;
      table = p.0.table;
      row = p.1.0.row;
      position = p.1.0.position;
      new_record = p.1.0.new_record;
      drops = p.1.1.0;
      tells = p.1.1.1;
    })
    (head_at & updates_at & all_at local_at & all_at tell_at) bytes

unfoldable pub commit_at : Reader Commit
commit_at bytes = checked_at is_commit any_commit_at bytes

-- ---- ends

unfoldable pub plan_at : Reader ℕ
plan_at bytes = checked_at is_plan (number_at w64) bytes

-- ---- whole payloads

-- the bytes behind this first byte
unfoldable pub tag_at : ℕ → List ℕ → Result (List ℕ) ℕ
tag_at tag payload = do
  first ← byte_at payload
  if first.0 == tag then Ok first.1 else Err (length payload)

unfoldable pub intend_in : List ℕ → Result Intend ℕ
intend_in payload = do
  rest ← tag_at 1 payload
  whole (intend_at rest)

unfoldable pub commit_in : List ℕ → Result Commit ℕ
commit_in payload = do
  rest ← tag_at 2 payload
  whole (commit_at rest)

unfoldable pub done_in : List ℕ → Result ℕ ℕ
done_in payload = do
  rest ← tag_at 3 payload
  whole (plan_at rest)

-- what a payload says; nothing where it is no spelling of an intend, a commit or an end
pub data Said : Type 0 where
  SaysIntend : Intend → Said
  SaysCommit : Commit → Said
  SaysDone : ℕ → Said
  SaysNothing : Said

abbrev pub said_done : Result ℕ ℕ → Said
said_done (Ok plan) = SaysDone plan
said_done (Err left) = SaysNothing

abbrev pub said_commit : Result Commit ℕ → Said → Said
said_commit (Ok commit) other = SaysCommit commit
said_commit (Err left) other = other

abbrev pub said_intend : Result Intend ℕ → Said → Said
said_intend (Ok intend) other = SaysIntend intend
said_intend (Err left) other = other

unfoldable pub said_by : List ℕ → Said
said_by payload = said_intend (intend_in payload) (said_commit (commit_in payload) (said_done (done_in payload)))
