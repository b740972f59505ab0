-- What a table sends is addressed to a node, whoever keeps it.
use Rattle.std.proofs.Common.{◌≡◌, ℕ, Bool, true, false, List, [], ◌∷◌, Option, Some, None, refl, sym, ap, ◌∙◌, subst}
use Rattle.std.specs.Prelude.{◌==◌, ◌&&◌, nat_lt, if◌then◌else◌}
use Rattle.disk_trait.specs.Calls.{DiskState}
use Rattle.stab_base.specs.declared.node.Node.{Node}
use Rattle.stab_base.specs.declared.step.Step.{Step}
use Rattle.stab_base.specs.declared.step.Step.TheVariants as steps
use Rattle.row_value.specs.declared.schema.Scheme.{Scheme}
use Rattle.step_tables.specs.Chunks.{is_spelled}
use Rattle.step_tables.specs.Facts as facts
use Rattle.step_tables.specs.Messages.{Luck, Send, Request, Pair}
use Rattle.step_tables.specs.Messages as messages
use Rattle.step_tables.specs.Store.{Stored, current_of}
use Rattle.step_tables.specs.StoreMoves.{StoreDisk, StoreTask, TableStore, StoreMove, SidePut, Place, placed, Take, Work, Crash, Start, store_step}
use Rattle.step_tables.specs.StoreMoves.{takes, quiet, accepting, item_for, sending, responded, unaccepted, keeps_there, judged, decided, asked, version_of, taken, yours_in}
use Rattle.step_tables.specs.StoreMoves.{worked, crashed, started, recover, recovered, item_at}
use Rattle.store_commit.specs.Devs.{Write}
use Rattle.store_commit.specs.Standing.{writes_of}
use Rattle.store_node.specs.declared.node.TableNode.{TableNode}
use Rattle.store_node.specs.declared.owed.Owed.{Owed}
use Rattle.store_node.specs.declared.owed.Owed.TheVariants as owed
use Rattle.store_node.specs.Due.{sent_at}
use Rattle.store_node.specs.Node.{AreOwed, IsTable}
use Rattle.world_tables.specs.World.{Packet, address, packets_from}
use Rattle.store_host.proofs.Hosting.{crash_facts}

abbrev pub AreAddressed : List Send → Type 0
AreAddressed [] = Unit {0}
AreAddressed (send ∷ sends) = ((node : Node) × (send.to ≡ Some node)) × AreAddressed sends

pub packets_same : (f g : ℕ → ℕ) (from : Node) (sends : List Send) → AreAddressed sends → packets_from f from sends ≡ packets_from g from sends
packets_same f g from [] a = refl
packets_same f g from (send ∷ sends) a =
    let same : address f send.to send.message ≡ address g send.to send.message =
    ap (λ (o : Option Node). address f o send.message) a.0.1 ∙ sym (ap (λ (o : Option Node). address g o send.message) a.0.1) in
    ap (λ (n : Node). record { from = from; to = n; message = send.message } ∷ packets_from f from sends) same
    ∙ ap (λ (ps : List Packet). record { from = from; to = address g send.to send.message; message = send.message } ∷ ps) (packets_same f g from sends a.1)

none_addressed : (sends : List Send) → sends ≡ [] → AreAddressed sends
none_addressed sends none = subst AreAddressed (sym none) tt

-- ---- a message

module _ (g : Scheme) (size table : ℕ) (d : StoreDisk) (from : Node) where
  judged_to : (q : Request) (current : ℕ) → AreAddressed (judged g size table d from q current).sends
  judged_to q current = go (takes g q.base current && keeps_there size d.items q)
    where
      go : (b : Bool) → AreAddressed (if b then quiet d (Some (accepting size table d.items from q (item_for d.items q))) facts.Done
          else sending d (responded from q (unaccepted g q.base current) ∷ [])).sends
      go true = tt
      go false = ((from, refl), tt)

  decided_to : (q : Request) (yours : Pair) → AreAddressed (decided g size table d from q yours).sends
  decided_to q yours = go (yours.number == q.number) (nat_lt q.number yours.number)
    where
      go : (a b : Bool) → AreAddressed (if a then sending d (responded from q (messages.Again yours.version) ∷ [])
          else (if b then sending d (responded from q (messages.Late yours.number) ∷ []) else judged g size table d from q (version_of (current_of d.items q.row)))).sends
      go true b = ((from, refl), tt)
      go false true = ((from, refl), tt)
      go false false = judged_to q (version_of (current_of d.items q.row))

  asked_to : (q : Request) → AreAddressed (asked g size table d from q).sends
  asked_to q = go (is_spelled size q.content q.pieces)
    where
      go : (b : Bool) → AreAddressed (if b then decided g size table d from q (yours_in d.items q.client q.row) else quiet d (Some []) facts.Done).sends
      go true = decided_to q (yours_in d.items q.client q.row)
      go false = tt

  taken_to : (agenda : Option (List StoreTask)) (m : messages.Message) → AreAddressed (taken g size table d agenda from m).sends
  taken_to None m = tt
  taken_to (Some (task ∷ more)) m = tt
  taken_to (Some []) (messages.SyncRequest q) = asked_to q
  taken_to (Some []) (messages.PullRequest q) = ((from, refl), tt)
  taken_to (Some []) (messages.SyncResponse q) = tt
  taken_to (Some []) (messages.PullResponse q) = tt
  taken_to (Some []) (messages.TornRowRequest q) = ((from, refl), tt)
  taken_to (Some []) (messages.TornRowResponse q) = tt

-- ---- a write

owed_to : (table : ℕ) (o : Owed) (step : Step) → AreAddressed (sent_at table o step)
owed_to table (owed.Update to entry) steps.LogClose = ((to, refl), tt)
owed_to table (owed.Update to entry) step = tt
owed_to table owed.Nothing step = tt
owed_to table (owed.Start store) step = tt
owed_to table (owed.Place stage) step = tt

task_to : (table : ℕ) (o : Owed) (ws : List Write) (task : StoreTask) (tasks : List StoreTask) → AreOwed table o ws (task ∷ tasks) → AreAddressed task.sends
task_to table o [] task tasks h = absurd h
task_to table o (w ∷ ws) task tasks h = subst AreAddressed (sym h.1) (owed_to table o _)

crash_to : (d : StoreDisk) (agenda : Option (List StoreTask)) (luck : Luck) → AreAddressed (crashed d agenda luck).sends
crash_to d agenda luck = none_addressed (crashed d agenda luck).sends (crash_facts d agenda luck).1

start_to : (store table : ℕ) (d : StoreDisk) (agenda : Option (List StoreTask)) → AreAddressed (started store table d agenda).sends
start_to store table d (Some agenda) = tt
start_to store table d None = go d.pending
  where
    found : (pending : Stored) (o : Option Stored) → AreAddressed (recovered store table d pending o).sends
    found pending None = tt
    found pending (Some item) = tt

    go : (o : Option Stored) → AreAddressed (recover store table d o).sends
    go None = tt
    go (Some pending) = found pending (item_at pending.entry.version d.items)

placed_to : (table : ℕ) (d : StoreDisk) (agenda : Option (List StoreTask)) (put : SidePut) → AreAddressed (placed table d agenda put).sends
placed_to table d None put = tt
placed_to table d (Some (task ∷ more)) put = tt
placed_to table d (Some []) put = tt

module _ {D : Type 0} (state : D → DiskState) (node : TableNode D) where
  work_to : (d : StoreDisk) (agenda : Option (List StoreTask)) (luck : Luck) → IsTable state node (record { disk = d; agenda = agenda }) → AreAddressed (worked d agenda luck).sends
  work_to d None messages.Done t = tt
  work_to d (Some []) messages.Done t = tt
  work_to d (Some (task ∷ more)) messages.Done t = task_to node.table node.owed (writes_of node.devs) task more t.at.1.owed
  work_to d agenda messages.FailedBefore t = crash_to d agenda messages.FailedBefore
  work_to d agenda messages.FailedAfter t = crash_to d agenda messages.FailedAfter

  -- whatever the table does
  pub step_to : (store : ℕ) (g : Scheme) (size table : ℕ) (s : TableStore) (move : StoreMove) → IsTable state node s → AreAddressed (store_step store g size table s move).sends
  step_to store g size table s (Take from message) t = taken_to g size table s.disk from s.agenda message
  step_to store g size table s (Place put) t = placed_to table s.disk s.agenda put
  step_to store g size table s (Work luck) t = work_to s.disk s.agenda luck t
  step_to store g size table s (Crash luck) t = crash_to s.disk s.agenda luck
  step_to store g size table s Start t = start_to store table s.disk s.agenda
