-- What is prepared behind a reading is prepared.
use Rattle.std.proofs.Common.{◌≡◌, ⊎_elim, ℕ, Bool, ◌<◌, List, Option, Result, Ok, Err, sym, ◌∙◌, ap, subst, arith}
use Rattle.std.specs.Prelude.{IfSome}
use Rattle.disk_trait.specs.Calls.{DiskState}
use Rattle.value_codec.specs.SchemaSpelling.{HasSchemaSpelling, IsChunkSize}
use Rattle.slot_store.specs.declared.held.TableRecord.{TableRecord}
use Rattle.client_journal.specs.declared.devs.Journal.{Journal}
use Rattle.client_journal.specs.Devs.{ClientDevs, Write}
use Rattle.client_journal.specs.NamedSlots.{IsAtRest}
use Rattle.client_journal.specs.Plan.{plan_at_work}
use Rattle.client_journal.specs.Redone.{redone}
use Rattle.client_journal.specs.Standing.{devs, writes_of}
use Rattle.step_tables.specs.ClientMoves.{ClientDisk, ClientTask, ClientMove, Shape}
use Rattle.client_node.specs.declared.fault.CallFault.{CallFault}
use Rattle.client_node.specs.declared.preparing.OpenedRow.{OpenedRow}
use Rattle.client_node.specs.declared.preparing.Prepared.{Prepared}
use Rattle.client_node.specs.declared.waiting.Waiting.{Waiting}
use Rattle.client_node.specs.Answers.{record_at}
use Rattle.client_node.specs.Node.{StandsFor}
use Rattle.client_node.specs.Preparing.{IsOpenedRow, IsCalled, IsPrepared, Prepares}
use Rattle.client_node.specs.Readied.{IsIdleAt}
use Rattle.client_node.specs.Sending.{AreTasksOf}

pub some_size : (n : ℕ) → IsChunkSize n → 0 < n
some_size n is = ⊎_elim (λ a. omega (arith, a)) (λ more. ⊎_elim (λ b. omega (arith, b)) (λ e. omega (arith, e)) more) is

-- the row that was opened, of devices that hold the same
pub still_opened : (d e : ClientDevs) (table : ℕ) (row : List ℕ) (at : OpenedRow) → e ≡ d → IsOpenedRow d table row at → IsOpenedRow e at.table at.row at
still_opened d e table row at same is =
    subst (λ (x : ClientDevs). IsOpenedRow x at.table at.row at) (sym same)
    (subst (λ (q : ℕ). IsOpenedRow d q at.row at) (sym is.table_is) (subst (λ (r : List ℕ). IsOpenedRow d table r at) (sym is.row_is) is))

pub opened_spelled : (d : ClientDevs) (table : ℕ) (row : List ℕ) (at : OpenedRow) → IsOpenedRow d table row at → IfSome (record_at d table) (λ opened. HasSchemaSpelling opened.schema)
    → HasSchemaSpelling at.opened.schema
opened_spelled d table row at is spelled = subst (λ (o : Option TableRecord). IfSome o (λ opened. HasSchemaSpelling opened.schema)) is.opened spelled

module _ {D : Type 0} (state : D → DiskState) (old mid : Journal D) (same : devs state mid ≡ devs state old) (agenda : writes_of mid ≡ writes_of old) (waiting : Waiting) (phase : ℕ → Bool) (linked : Bool) (c : ℕ) (move : ClientMove) where
  called_there : (disk : ClientDisk) (tasks : List ClientTask) (shape : Shape) → IsCalled state old waiting c disk tasks shape → IsCalled state mid waiting c disk tasks shape
  called_there disk tasks shape k = record {
    stands = subst (λ (d : ClientDevs). StandsFor c d disk) (sym same) k.stands;
    steady = k.steady;
    rests = λ none. subst IsAtRest (sym same) (k.rests (sym agenda ∙ none));
    tasks_are = subst (λ (ws : List Write). AreTasksOf ws tasks) (sym agenda) k.tasks_are;
    work = k.work ∙ (ap (λ (d : ClientDevs). plan_at_work d (writes_of old)) (sym same) ∙ ap (plan_at_work (devs state mid)) (sym agenda));
  }

  abbrev IsPreparedBy : Prepared → ClientDevs → Type 0
  IsPreparedBy x d = (disk : ClientDisk) → (idle : IsIdleAt d c waiting disk) → IsPrepared d phase linked c move disk idle.stands.0 x

  pub prepares_looked : (r : Result Prepared CallFault) → Prepares state mid waiting phase linked c move r → Prepares state old waiting phase linked c move r
  prepares_looked (Err e) q = record {
    refused = λ disk tasks shape k. q.refused disk tasks shape (called_there disk tasks shape k);
    spent = λ last is. let s = q.spent last is in (s.0, rw (ap (λ (d : ClientDevs). (redone d).last) (sym same)) s.1);
    idle = tt;
    prepared = λ disk idle. tt;
  }
  prepares_looked (Ok x) q = record {
    refused = λ disk tasks shape k. tt;
    spent = λ last is. absurd cc;
    idle = sym agenda ∙ q.idle;
    prepared = subst (IsPreparedBy x) same q.prepared;
  }
