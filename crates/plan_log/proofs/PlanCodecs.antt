-- Intends, commits and ends of plans: each reading gives what is spelled.
use Rattle.std.proofs.Common.{◌≡◌, ℕ, ◌<◌, ◌^◌, Bool, true, cond, leb, List, ◌++◌, length, Option, Ok, Err, refl, subst, arith, inl, inr}
use Rattle.std.specs.Prelude.{◌&&◌}
use Rattle.std.specs.Int.{w64}
use Rattle.std.proofs.lemmas.Bool.{leb-true, le-leb}
use Rattle.stab_base.specs.Codec.{IsBytes}
use Rattle.stab_base.specs.declared.limits.TheConstants.{NUMBER_MAX}
use Rattle.row_value.specs.declared.schema.Schema.{Schema}
use Rattle.value_codec.specs.Reading.{number_at}
use Rattle.value_codec.proofs.FieldReads.{Reads, retold, bind_ok, ok_is, branch, no_fault, gives}
use Rattle.field_codec.specs.Fields.{Reader}
use Rattle.field_codec.specs.Forms.{four, eight, IsOption, option_spelling, AreEach}
use Rattle.field_codec.proofs.Codecs.{Codec, both, made}
use Rattle.field_codec.proofs.Ranges.{Passes, passes, both_are}
use Rattle.field_codec.proofs.FieldCodecs.{four_codec, eight_codec, id_codec, flag_codec, schema_codec, option_codec, list_codec}
use Rattle.held_value.specs.declared.local_name.LocalName.{LocalName}
use Rattle.held_value.specs.declared.slots.Slots.{Slots}
use Rattle.held_value.specs.declared.tell.Tell.{Tell}
use Rattle.held_codec.specs.Spelling.{HasLocalSpelling, HasTell}
use Rattle.held_codec.proofs.HeldCodecs.{local_codec, slots_codec, tell_codec}
use Rattle.plan_log.specs.declared.plan.Intend.{Intend}
use Rattle.plan_log.specs.declared.plan.RowChange.{RowChange}
use Rattle.plan_log.specs.declared.plan.RecordChange.{RecordChange}
use Rattle.plan_log.specs.declared.plan.Commit.{Commit}
use Rattle.plan_log.specs.declared.reader.Head.{Head}
use Rattle.plan_log.specs.declared.reader.Updates.{Updates}
use Rattle.plan_log.specs.Spelling.{IsPlan, tables_most, IsTable, intend_spelling, HasIntend, row_change_spelling, HasRowChange, IsState, record_change_spelling, HasRecordChange, IsPosition}
use Rattle.plan_log.specs.Spelling.{commit_spelling, HasCommit}
use Rattle.plan_log.specs.Reading.{checked_at, is_plan, is_table, is_intend, is_commit, any_intend_at, intend_at, row_change_at, is_state, record_change_at}
use Rattle.plan_log.specs.Reading.{head_at, updates_at, any_commit_at, commit_at, plan_at}

-- ---- a value that passes a test

module _ {X : Type 0} (P : X → Type 0) (spell : X → List ℕ) (read : Reader X) (test : X → Bool) where
  abbrev Tested : X → Type 0
  Tested x = P x × (test x ≡ true)

  checked_takes : Reads P spell read → (bytes : List ℕ) (x : X) (rest : List ℕ) → IsBytes bytes → checked_at test read bytes ≡ Ok (x, rest) → Tested x × (bytes ≡ spell x ++ rest)
  checked_takes r bytes x rest fits e =
      let a = bind_ok (read bytes) (λ a. cond (test a.0) (gives a.0 a.1) (Err (length bytes))) (x, rest) e in
      let t = r.takes bytes a.0.0 a.0.1 fits a.1 in
      elim (branch (test a.0.0) (gives a.0.0 a.0.1) (Err (length bytes)) (x, rest) a.2) [
        | inl y ↦ subst (λ (p : X × List ℕ). Tested p.0 × (bytes ≡ spell p.0 ++ p.1)) (ok_is (a.0.0, a.0.1) (x, rest) y.1) ((t.0, y.0), t.1)
        | inr n ↦ absurd (no_fault (length bytes) (x, rest) n.1)
      ]

  pub checked_reads : Reads P spell read → Reads Tested spell (checked_at test read)
  checked_reads r = record { takes = checked_takes r; again = λ x rest h. rw (r.again x rest h.0, h.1) refl }

-- what was read passed the test
pub checked_is : {X : Type 0} (read : Reader X) (test : X → Bool) (bytes : List ℕ) (x : X) (rest : List ℕ) → checked_at test read bytes ≡ Ok (x, rest) → test x ≡ true
checked_is {X} read test bytes x rest e =
    let a = bind_ok (read bytes) (λ a. cond (test a.0) (gives a.0 a.1) (Err (length bytes))) (x, rest) e in
    elim (branch (test a.0.0) (gives a.0.0 a.0.1) (Err (length bytes)) (x, rest) a.2) [
      | inl y ↦ subst (λ (p : X × List ℕ). test p.0 ≡ true) (ok_is (a.0.0, a.0.1) (x, rest) y.1) y.0
      | inr n ↦ absurd (no_fault (length bytes) (x, rest) n.1)
    ]

-- ---- limits

pub plan_is : (plan : ℕ) → is_plan plan ≡ true → IsPlan plan
plan_is plan e = let t = both_are (leb 1 plan) (leb plan NUMBER_MAX) e in record { least = leb-true _ _ t.0; most = leb-true _ _ t.1 }

is_plan_of : (plan : ℕ) → IsPlan plan → is_plan plan ≡ true
is_plan_of plan h = rw (le-leb 1 plan h.least, le-leb plan NUMBER_MAX h.most) refl

table_is : (table : ℕ) → is_table table ≡ true → IsTable table
table_is table e = let t = both_are (leb 1 table) (leb table tables_most) e in record { least = leb-true _ _ t.0; most = leb-true _ _ t.1 }

is_table_of : (table : ℕ) → IsTable table → is_table table ≡ true
is_table_of table h = rw (le-leb 1 table h.least, le-leb table tables_most h.most) refl

-- ---- intends

abbrev IsAnyIntend : Intend → Type 0
IsAnyIntend x = (x.plan < 2 ^ 64) × ((x.table < 2 ^ 32) × ((length x.row ≡ 16) × (Unit {0} × (x.chunks < 2 ^ 32))))

abbrev IntendParts : Type 0
IntendParts = ℕ × (ℕ × (List ℕ × (Bool × ℕ)))

abbrev intend_of : IntendParts → Intend
intend_of p = record { plan = p.0; table = p.1.0; row = p.1.1.0; server = p.1.1.1.0; chunks = p.1.1.1.1 }

any_intend_codec : Codec IsAnyIntend intend_spelling any_intend_at
unfolding any_intend_at
any_intend_codec =
    made intend_of IsAnyIntend intend_spelling (λ p h. h) (λ p h. refl) (λ z h. ((z.plan, (z.table, (z.row, (z.server, z.chunks)))), h, refl))
    (both eight_codec (both four_codec (both id_codec (both flag_codec four_codec))))

intend_there : (x : Intend) → IsAnyIntend x × (is_intend x ≡ true) → HasIntend x
intend_there x h =
    let t = both_are (is_plan x.plan) (is_table x.table) h.1 in
    record { plan = plan_is x.plan t.0; table = table_is x.table t.1; row = h.0.1.1.0; chunks = h.0.1.1.1.1 }

intend_back : (x : Intend) → HasIntend x → IsAnyIntend x × (is_intend x ≡ true)
intend_back x h = (
  (omega (arith, h.plan.most), (omega (arith, h.table.most), (h.row, (tt, h.chunks)))),
  rw (is_plan_of x.plan h.plan, is_table_of x.table h.table) refl,
)

pub intend_reads : Reads HasIntend intend_spelling intend_at
unfolding intend_at
intend_reads =
    retold (λ x. IsAnyIntend x × (is_intend x ≡ true)) HasIntend intend_spelling (checked_at is_intend any_intend_at)
    (checked_reads IsAnyIntend intend_spelling any_intend_at is_intend any_intend_codec.reads) intend_there intend_back

-- ---- what a commit changes

row_change_codec : Codec HasRowChange row_change_spelling row_change_at
unfolding row_change_at
row_change_codec =
    made (λ (p : List ℕ × Slots). record { row = p.0; slots = p.1 }) HasRowChange row_change_spelling (λ p h. h) (λ p h. refl) (λ z h. ((z.row, z.slots), h, refl))
    (both id_codec slots_codec)

abbrev RecordParts : Type 0
RecordParts = ℕ × Schema

abbrev record_of : RecordParts → RecordChange
record_of p = record { state = p.0; schema = p.1 }

state_is : (state : ℕ) → Passes is_state state → IsState state
state_is state h = let t = both_are (leb 1 state) (leb state 2) h.1 in (leb-true _ _ t.0, leb-true _ _ t.1)

is_state_of : (state : ℕ) → IsState state → Passes is_state state
is_state_of state h = (omega (arith, h.1), rw (le-leb 1 state h.0, le-leb state 2 h.1) refl)

record_change_codec : Codec HasRecordChange record_change_spelling record_change_at
unfolding record_change_at
record_change_codec =
    made record_of HasRecordChange record_change_spelling (λ p h. (state_is p.0 h.0, h.1)) (λ p h. refl) (λ z h. ((z.state, z.schema), (is_state_of z.state h.0, h.1), refl))
    (both (passes is_state 1 (omega arith, refl)) schema_codec)

-- ---- commits

abbrev IsHead : Head → Type 0
IsHead x = (x.plan < 2 ^ 64) × ((x.last < 2 ^ 64) × (x.table < 2 ^ 32))

abbrev spelled_head : Head → List ℕ
spelled_head x = eight x.plan ++ (eight x.last ++ four x.table)

head_codec : Codec IsHead spelled_head head_at
unfolding head_at
head_codec =
    made (λ (p : ℕ × (ℕ × ℕ)). record { plan = p.0; last = p.1.0; table = p.1.1 }) IsHead spelled_head (λ p h. h) (λ p h. refl) (λ z h. ((z.plan, (z.last, z.table)), h, refl))
    (both eight_codec (both eight_codec four_codec))

abbrev AreUpdates : Updates → Type 0
AreUpdates x = IsOption HasRowChange x.row × (IsOption IsPosition x.position × IsOption HasRecordChange x.new_record)

abbrev spelled_updates : Updates → List ℕ
spelled_updates x = option_spelling row_change_spelling x.row ++ (option_spelling eight x.position ++ option_spelling record_change_spelling x.new_record)

abbrev UpdateParts : Type 0
UpdateParts = Option RowChange × (Option ℕ × Option RecordChange)

updates_codec : Codec AreUpdates spelled_updates updates_at
unfolding updates_at
updates_codec =
    made (λ (p : UpdateParts). record { row = p.0; position = p.1.0; new_record = p.1.1 }) AreUpdates spelled_updates (λ p h. h) (λ p h. refl) (λ z h. ((z.row, (z.position, z.new_record)), h, refl))
    (both (option_codec row_change_codec) (both (option_codec eight_codec) (option_codec record_change_codec)))

abbrev head_of : Commit → Head
head_of x = record { plan = x.plan; last = x.last; table = x.table }

abbrev updates_of : Commit → Updates
updates_of x = record { row = x.row; position = x.position; new_record = x.new_record }

abbrev IsAnyCommit : Commit → Type 0
IsAnyCommit x = IsHead (head_of x) × (AreUpdates (updates_of x) × (AreEach HasLocalSpelling x.drops × AreEach HasTell x.tells))

abbrev CommitParts : Type 0
CommitParts = Head × (Updates × (List LocalName × List Tell))

abbrev commit_of : CommitParts → Commit
commit_of p = record {
  plan = p.0.plan;
  last = p.0.last;
  table = p.0.table;
  row = p.1.0.row;
  position = p.1.0.position;
  new_record = p.1.0.new_record;
  drops = p.1.1.0;
  tells = p.1.1.1;
}

any_commit_codec : Codec IsAnyCommit commit_spelling any_commit_at
unfolding any_commit_at
any_commit_codec =
    made commit_of IsAnyCommit commit_spelling (λ p h. h) (λ p h. refl) (λ z h. ((head_of z, (updates_of z, (z.drops, z.tells))), h, refl))
    (both head_codec (both updates_codec (both (list_codec local_codec) (list_codec tell_codec))))

commit_there : (x : Commit) → IsAnyCommit x × (is_commit x ≡ true) → HasCommit x
commit_there x h =
    let t = both_are (is_plan x.plan) (leb x.last NUMBER_MAX && is_table x.table) h.1 in
    let u = both_are (leb x.last NUMBER_MAX) (is_table x.table) t.1 in
    record {
      plan = plan_is x.plan t.0;
      last = leb-true _ _ u.0;
      table = table_is x.table u.1;
      row = h.0.1.0.0;
      position = h.0.1.0.1.0;
      new_record = h.0.1.0.1.1;
      drops = h.0.1.1.0;
      tells = h.0.1.1.1;
    }

commit_back : (x : Commit) → HasCommit x → IsAnyCommit x × (is_commit x ≡ true)
commit_back x h = (
  (
    (omega (arith, h.plan.most), (omega (arith, h.last), omega (arith, h.table.most))),
    ((h.row, (h.position, h.new_record)), (h.drops, h.tells)),
  ),
  rw (is_plan_of x.plan h.plan, le-leb x.last NUMBER_MAX h.last, is_table_of x.table h.table) refl,
)

pub commit_reads : Reads HasCommit commit_spelling commit_at
unfolding commit_at
commit_reads =
    retold (λ x. IsAnyCommit x × (is_commit x ≡ true)) HasCommit commit_spelling (checked_at is_commit any_commit_at)
    (checked_reads IsAnyCommit commit_spelling any_commit_at is_commit any_commit_codec.reads) commit_there commit_back

-- ---- ends

abbrev Small : ℕ → Type 0
Small n = n < 2 ^ 64

plan_there : (x : ℕ) → Small x × (is_plan x ≡ true) → IsPlan x
plan_there x h = plan_is x h.1

plan_back : (x : ℕ) → IsPlan x → Small x × (is_plan x ≡ true)
plan_back x h = (omega (arith, h.most), is_plan_of x h)

pub plan_reads : Reads IsPlan eight plan_at
unfolding plan_at
plan_reads =
    retold (λ x. Small x × (is_plan x ≡ true)) IsPlan eight (checked_at is_plan (number_at w64)) (checked_reads Small eight (number_at w64) is_plan eight_codec.reads) plan_there plan_back
