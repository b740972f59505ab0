-- A plan that was worked out, and is ready to be done.
use Rattle.std.proofs.Common.{◌≡◌, ℕ, ◌+◌, ◌*◌, ◌<◌, ◌≤◌, List, [], ◌∷◌, ◌++◌, length, map, Option, Some, None, refl, sym, ap, subst, arith}
use Rattle.std.specs.Prelude.{sum_by, IsSome, slice_index_or, option_map}
use Rattle.std.specs.List.{AllByRecursion}
use Rattle.std.proofs.lemmas.List.Sums.{sum_by-cons}
use Rattle.disk_trait.specs.Calls.{DiskState}
use Rattle.chunk_store.specs.Standing as chunks
use Rattle.slot_store.specs.Data.{record_of}
use Rattle.slot_store.specs.Standing as slots
use Rattle.plan_log.specs.declared.plan.RowChange.{RowChange}
use Rattle.plan_log.specs.declared.plan.Commit.{Commit}
use Rattle.plan_log.specs.Spelling.{IsPlan as IsPlanNumber, HasRowChange, HasIntend, commit_payload}
use Rattle.field_codec.specs.Forms.{IsOption}
use Rattle.plan_log.specs.Standing as journals
use Rattle.client_journal.specs.declared.devs.Journal.{Journal}
use Rattle.client_journal.specs.declared.made.Made.{Made}
use Rattle.client_journal.specs.declared.plan.Plan.{Plan}
use Rattle.client_journal.specs.declared.task.Task.{Task}
use Rattle.client_journal.specs.Devs.{ClientDevs, PutCommit, PutDone, local_in}
use Rattle.client_journal.specs.Redone.{row_behind, record_for}
use Rattle.client_journal.specs.NamedSlots.{IsNotCommitted}
use Rattle.client_journal.specs.Agenda.{plan_writes, redo_writes, bring_writes, slot_writes, record_writes, drops}
use Rattle.client_journal.specs.Standing.{write_of, devs, IsReady, MayDoAll}
use Rattle.client_journal.specs.Plan.{numbered_row, commit_for, intend_for, id_or, chunk_most, IsPlan, plan_begun, begun_first}
use Rattle.client_journal.specs.Made.{bytes_of_row, bytes_of_record, IsMade, IsOld}
use Rattle.client_journal.proofs.Planned.{row_spelled, row_short, record_spelled, record_short}
use Rattle.client_journal.proofs.Ready.{may_redo, may_plan, redo_needs, plan_needs, ready_for}

pub first_is : (tasks : List Task) (x : Task) → 0 < length tasks → x ≡ slice_index_or tasks 0 x → plan_begun (write_of x) ≡ begun_first (map write_of tasks)
first_is [] x some is = absurd (omega arith)
first_is (t ∷ tasks) x some is = ap (λ (q : Task). plan_begun (write_of q)) is

-- the chunks' bytes
pub bytes_few : (brought : List (List ℕ)) → AllByRecursion (λ (bytes : List ℕ). length bytes ≤ chunk_most) brought → sum_by length brought ≤ 65536 * length brought
bytes_few [] h = omega arith
bytes_few (bytes ∷ brought) h = omega (arith, sum_by-cons (λ (b : List ℕ). length b) bytes brought, bytes_few brought h.1, h.0)

-- what is made of a plan
pub record IsMadeOf (held : ClientDevs) (number : ℕ) (plan : Plan) (made : Made) : Type 0 where
  pub intend : made.intend ≡ intend_for number plan
  pub brought : made.brought.items ≡ plan.brought
  pub commit : made.commit ≡ commit_for number plan
  pub row : made.row ≡ row_behind (commit_for number plan)
  pub table : made.table ≡ record_for (record_of held.held plan.table) (commit_for number plan)

pub writes_are : (d : ClientDevs) (number : ℕ) (plan : Plan) (made : Made) → IsMadeOf d number plan made
    → bring_writes made.intend made.brought.items (PutCommit made.commit ∷ slot_writes made.row (record_writes made.table (drops made.commit.drops ++ PutDone ∷ [])))
    ≡ plan_writes d.held (intend_for number plan) plan.brought (commit_for number plan)
writes_are d number plan made m = rw (m.intend, m.brought, m.commit, m.row, m.table) refl

module _ (d : ClientDevs) (number : ℕ) (plan : Plan) (is_number : IsPlanNumber number) (p : IsPlan d plan) (old : IsOld (record_of d.held plan.table)) where
  abbrev commit : Commit
  commit = commit_for number plan

  pub made_is : (made : Made) → IsMadeOf d number plan made → IsMade made
  made_is made m =
      let spelled = p.spelled number is_number in
      let short = p.short number is_number in
      record {
        spelled = rw m.commit spelled;
        short = rw m.commit short;
        row = rw m.row (row_spelled commit spelled);
        row_short = rw m.row (row_short commit spelled short);
        table = rw m.table (record_spelled commit (record_of d.held plan.table) spelled old);
        table_short = rw m.table (record_short commit (record_of d.held plan.table) short old);
        chunks = rw m.brought p.chunks;
        few = rw (m.brought, m.commit) p.few;
      }

  id_len : (row : Option RowChange) → IsOption HasRowChange (option_map (numbered_row number) row) → length (id_or row) ≡ 16
  id_len None h = refl
  id_len (Some change) h = h.0

  intend_spelled : HasIntend (intend_for number plan)
  intend_spelled =
      let spelled = p.spelled number is_number in
      record {
        plan = is_number;
        table = spelled.table;
        row = id_len plan.row spelled.row;
        chunks = omega (arith, p.few);
      }

  some_there : (o : Option (List ℕ)) (bytes : List ℕ) → o ≡ Some bytes → IsSome o
  some_there (Some x) bytes is = refl
  some_there None bytes is = absurd cc

  may : IsNotCommitted d.journal.at_work → d.journal.greatest < number → MayDoAll d (plan_writes d.held (intend_for number plan) plan.brought commit)
  may not_ newest =
      let spelled = p.spelled number is_number in
      let short = p.short number is_number in
      let o = record_of d.held plan.table in
      may_plan d (intend_for number plan) plan.brought commit (redo_writes d.held commit plan.drops) refl newest is_number.most not_ (λ some. intend_spelled) spelled short p.chunks
      (λ name has. let t = p.there name has in some_there (local_in d.chunks name) t.0 t.1)
      (λ cs there. may_redo (row_behind commit) (record_for o commit) plan.drops _ (row_spelled commit spelled) (row_short commit spelled short) (record_spelled commit o spelled old) (record_short commit o short old) refl p.different there)

  pub prepared : {D : Type 0} (state : D → DiskState) (client : Journal D) → devs state client ≡ d → IsReady state client [] → IsNotCommitted d.journal.at_work → d.journal.greatest < number
      → chunks.HasRoom state client.chunks 1 (length plan.brought + length plan.drops) (13 * (length plan.brought + length plan.drops) + sum_by length plan.brought)
      → slots.HasRoom state client.slots 1 2 (bytes_of_row (row_behind commit) + bytes_of_record (record_for (record_of d.held plan.table) commit))
      → journals.HasRoom state client.journal 1 3 (43 + length (commit_payload commit))
      → IsReady state client (plan_writes d.held (intend_for number plan) plan.brought commit)
  prepared {D} state client same rests not_ newest chunk_room slot_room journal_room =
      let o = record_of d.held plan.table in
      let n = plan_needs (intend_for number plan) plan.brought commit (redo_writes d.held commit plan.drops) (length plan.drops) (13 * length plan.drops) (bytes_of_row (row_behind commit) + bytes_of_record (record_for o commit))
      (redo_needs (row_behind commit) (record_for o commit) plan.drops) in
      let bytes : 13 * (length plan.brought + length plan.drops) + sum_by length plan.brought ≡ 13 * length plan.brought + sum_by length plan.brought + 13 * length plan.drops = omega arith in
      ready_for state client (plan_writes d.held (intend_for number plan) plan.brought commit) _ _ _ 3 (43 + length (commit_payload commit)) rests
      (subst (λ (e : ClientDevs). MayDoAll e (plan_writes d.held (intend_for number plan) plan.brought commit)) (sym same) (may not_ newest)) n
      (subst (λ (b : ℕ). chunks.HasRoom state client.chunks 1 (length plan.brought + length plan.drops) b) bytes chunk_room) slot_room journal_room

  -- the same, of what was made of it
  pub made_ready : {D : Type 0} (state : D → DiskState) (client : Journal D) (made : Made) → IsMadeOf d number plan made → devs state client ≡ d → IsReady state client [] → IsNotCommitted d.journal.at_work → d.journal.greatest < number
      → chunks.HasRoom state client.chunks 1 (length made.brought.items + length made.commit.drops) (13 * (length made.brought.items + length made.commit.drops) + sum_by length made.brought.items)
      → slots.HasRoom state client.slots 1 2 (bytes_of_row made.row + bytes_of_record made.table)
      → journals.HasRoom state client.journal 1 3 (43 + length (commit_payload made.commit))
      → IsReady state client (plan_writes d.held (intend_for number plan) plan.brought commit)
  made_ready {D} state client made m same rests not_ newest chunk_room slot_room journal_room =
      let c : chunks.HasRoom state client.chunks 1 (length plan.brought + length plan.drops) (13 * (length plan.brought + length plan.drops) + sum_by length plan.brought) = rw (← m.brought) (subst (λ (x : Commit). chunks.HasRoom state client.chunks 1 (length made.brought.items + length x.drops) (13 * (length made.brought.items + length x.drops) + sum_by length made.brought.items)) m.commit chunk_room) in
      let r : slots.HasRoom state client.slots 1 2 (bytes_of_row (row_behind commit) + bytes_of_record (record_for (record_of d.held plan.table) commit)) = rw (← m.row, ← m.table) slot_room in
      let j : journals.HasRoom state client.journal 1 3 (43 + length (commit_payload commit)) = subst (λ (x : Commit). journals.HasRoom state client.journal 1 3 (43 + length (commit_payload x))) m.commit journal_room in
      prepared state client same rests not_ newest c r j
