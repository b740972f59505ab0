-- What a node's start and its declaration promise, from what its devices do.
use Rattle.std.proofs.Common.{◌≡◌, ◌⊎◌, inl, inr, ⊎_elim, ℕ, ◌<◌, ◌++◌, map, Bool, true, false, List, [], Option, Some, None, Ok, Err, refl, sym, ◌∙◌, ap, subst, arith, append-nil}
use Rattle.std.specs.Prelude.{is_some}
use Rattle.disk_trait.specs.Calls.{DiskState}
use Rattle.disk_trait.specs.Fuse.{behind, inner_of}
use Rattle.disk_trait.specs.declared.fuse.FuseDisk.{FuseDisk}
use Rattle.vault.specs.Calls.{IsEither}
use Rattle.stab_base.specs.declared.chunk_name.ChunkName.{ChunkName}
use Rattle.store_commit.specs.declared.devs.TableDevs.{TableDevs}
use Rattle.store_commit.specs.declared.recovery.Recovery.{Recovery}
use Rattle.store_commit.specs.declared.fault.CommitFault.{CommitFault}
use Rattle.store_commit.specs.declared.fault.CommitFault.TheVariants as commits
use Rattle.store_commit.specs.Devs.{Devs, Write}
use Rattle.store_commit.specs.Agenda.{recovery_writes}
use Rattle.row_value.specs.declared.schema.Schema.{Schema}
use Rattle.row_store.specs.Data.{TableData, nothing_held}
use Rattle.table_model.specs.declared.table_state.TableState.{TableState}
use Rattle.store_commit.specs.Standing.{devs, writes_of, nothing, IsReady, DevsLeave}
use Rattle.store_commit.specs.Unset.{HasCause, all_stops}
use Rattle.store_commit.proofs.Moments.{devs_weaker, rows_weaker}
use Rattle.step_tables.specs.Chunks.{rising}
use Rattle.step_tables.specs.Facts.{Fact}
use Rattle.step_tables.specs.Messages.{Send}
use Rattle.step_tables.specs.Store.{Stored}
use Rattle.step_tables.specs.StoreMoves.{StoreDisk, StoreTask, TableStore, new_disk, recover, recovering, reopening}
use Rattle.device_laws.specs.Stands.{Stands, Follows, HasRows}
use Rattle.device_laws.proofs.Empty.{nothing_stands}
use Rattle.device_laws.proofs.NamedDevices.{one_list_left, none_open, open_entry}
use Rattle.device_laws.proofs.Recoveries.{open_follows, closed_follows}
use Rattle.store_node.specs.Devices.{MakesTable, BeginsStart, no_rows, LeavesNoRows, state_in}
use Rattle.store_node.specs.Due.{fact_of, facts_found}
use Rattle.store_node.specs.Fault.{fault_of}
use Rattle.store_node.specs.Gathered.{HasRoom}
use Rattle.store_node.specs.declared.gathered.Gathered.{Gathered}
use Rattle.store_node.specs.declared.told.StoreFact.{StoreFact}
use Rattle.store_node.specs.declared.owed.Owed.TheVariants as owed
use Rattle.store_node.specs.declared.fault.NodeFault.{NodeFault}
use Rattle.store_node.specs.declared.fault.NodeFault.TheVariants as node_faults
use Rattle.store_node.specs.declared.node.TableNode.{TableNode}
use Rattle.store_node.specs.Node.{AreOwed, PutStates, GoesWell, facts_in, sends_in, IsTable, told_by, sent_by, own_faults}
use Rattle.store_node.specs.Node.{HasNoRows, LeavesNone, HoldsNone}
use Rattle.store_node.specs.Calls.{Falls, IsBehind, Makes, Recovers}
use Rattle.store_node.proofs.Following.{own_stays, own_rises}
use Rattle.store_node.proofs.RowsLeft.{rows_of_disk}
use Rattle.store_node.proofs.Falling.{MayHold, fallen, fallen_rows}
use Rattle.store_node.proofs.Starting.{recovering_owed, reopening_owed, recovering_facts, recovering_sends, recovering_well, reopening_well, step_store, step_sends, found_is, found_none, no_room}
use Rattle.store_node.proofs.Stages.{recovering_puts, reopening_puts}
use Rattle.store_node.proofs.States.{named}
use Rattle.store_node.proofs.Working.{IsKept}

-- ---- the node's fault

-- a cause of the devices is one of the node
pub record Caused {D : Type 0} (state : D → DiskState) (old new : TableNode D) (e : CommitFault) : Type 0 where
  pub disk : fault_of e ≡ node_faults.Disk → own_faults state old < own_faults state new
  pub other : (fault_of e ≡ node_faults.Disk → ⊥) → own_faults state new ≡ own_faults state old
  pub only : (fault_of e ≡ node_faults.Disk) ⊎ (fault_of e ≡ node_faults.Memory)

module _ {D : Type 0} (state : D → DiskState) (images : D → ℕ → List ℕ → Type 0) where
  abbrev st : FuseDisk D → DiskState
  st f = behind state f

  abbrev im : FuseDisk D → ℕ → List ℕ → Type 0
  im f = images (inner_of f)

  abbrev at : StoreDisk → Option (List StoreTask) → TableStore
  at disk agenda = record { disk = disk; agenda = agenda }

  pub caused_by : {T : Type 0} (old mid new : TableNode D) (e : CommitFault) → HasCause {T = T} st old.devs mid.devs (Err e) → all_stops st mid.devs ≡ all_stops st old.devs
      → own_faults state new ≡ own_faults state mid → Caused state old new e
  caused_by old mid new e k stops same = pick k.only
    where
      pick : (e ≡ commits.Disk) ⊎ (e ≡ commits.Memory) → Caused state old new e
      pick (inl is) =
          let rises = own_rises state old mid (k.cause.0 is) stops in
          record { disk = λ _. omega (arith, rises, same); other = λ isnt. absurd (isnt (ap fault_of is)); only = inl (ap fault_of is) }
      pick (inr is) =
          let stays = own_stays state old mid (k.cause.1 (λ was. cc)) stops in
          let memory : fault_of e ≡ node_faults.Memory = ap fault_of is in
          record { disk = λ was. absurd cc; other = λ isnt. same ∙ stays; only = inr memory }

  -- ---- on disks that hold none

  pub none_at : (old new : TableNode D) → LeavesNoRows st im old.schema old.state old.devs new.devs → LeavesNone state images old new
  none_at old new k = record {
    any_moment = k.any_moment;
    rows_left = rows_weaker st im old.devs new.devs (IsEither nothing_held (no_rows old.schema old.state).held) (HasNoRows old.schema old.state) k.rows_left
        (λ held either. ⊎_elim (λ is. inl is) (λ is. inr (subst (λ (h : TableData). HasRows old.schema h (new_disk old.state)) (sym is) (nothing_stands old.schema old.state).held)) either);
  }

  module _ (schema : Schema) (stage : TableState) (start : TableDevs (FuseDisk D)) (mid new : TableNode D) (f : Falls state images mid new) (k : LeavesNoRows st im schema stage start mid.devs) where
    none_fallen : LeavesNoRows st im schema stage start new.devs
    none_fallen = record { any_moment = (f.left start nothing (no_rows schema stage) k.any_moment).2; rows_left = (f.rows_left start nothing_held (no_rows schema stage).held k.rows_left).1 }

    none_held : new.schema ≡ schema → new.state ≡ stage → HoldsNone state new
    none_held same first = let left = f.left start nothing (no_rows schema stage) k.any_moment in record { held = rw (same, first) left.0; sound = left.1; synced = f.synced }

  -- ---- a declaration

  module _ (such : Type 0) (old : TableNode D) (disk : StoreDisk) (t : IsTable state old (at disk None)) where
    pub declared_at : (table : TableDevs (FuseDisk D)) → MakesTable st im such old.schema old.state old.devs table (Ok tt) → Makes state images such (at disk None) old (record old { is_declared = true; is_up = true; devs = table; owed = owed.Nothing }) (Ok tt)
    declared_at table k =
        let r = t.at.1 in
        let new : TableNode D = record old { is_declared = true; is_up = true; devs = table; owed = owed.Nothing } in
        record {
          declared = record {
            table = record {
              size = t.size;
              spelled = t.spelled;
              short = t.short;
              at = (
                refl,
                record {
                  declared = refl;
                  up = k.up;
                  fresh = k.fuse.fresh r.fresh;
                  hidden = k.hidden;
                  ready = subst (λ (l : List Write). IsReady st table l) (sym k.idle) k.ready;
                  follows = subst (λ (l : List Write). Follows old.schema (devs st table) l (new_disk old.state) []) (sym k.idle) (subst (λ (d : Devs). Stands old.schema d (new_disk old.state)) (sym k.held) (nothing_stands old.schema old.state));
                  well = (tt, refl);
                  owed = subst (λ (l : List Write). AreOwed old.table owed.Nothing l []) (sym k.idle) tt;
                  stage = refl;
                  stages = tt;
                  fact_room = no_room old.facts;
                  message_room = no_room old.messages;
                  few_facts = omega arith;
                  few_messages = omega arith;
                },
              );
            };
            told = refl;
            sent = refl;
            same = record { store = refl; table = refl; schema = refl };
          };
          refused = tt;
          counted = λ _. own_stays state old new k.cause.cause (k.fuse.stopped r.fresh.unset);
          cause = λ is. absurd cc;
          only = tt;
          none = λ was. none_at old new (k.none was);
          left = λ _. tt;
        }

    -- it isn't, and the disks were restarted
    pub undeclared_at : (mid new : TableNode D) (e : CommitFault) → old.is_declared ≡ false → MakesTable st im such old.schema old.state old.devs mid.devs (Err e) → Falls state images mid new → IsKept old new → new.is_up ≡ false
        → Makes state images such (at disk None) old new (Err (fault_of e))
    undeclared_at mid new e isnt k falls kept down =
        let r = t.at.1 in
        let c = caused_by old mid new e k.cause (k.fuse.stopped r.fresh.unset) falls.counted in
        record {
          declared = tt;
          refused = record {
            table = record {
              size = rw kept.same.schema t.size;
              spelled = rw kept.same.schema t.spelled;
              short = rw kept.same.schema t.short;
              at = (
                down,
                record {
                  up = falls.up;
                  fresh = falls.fresh;
                  idle = falls.idle;
                  synced = λ is. let no = kept.declared ∙ isnt in absurd cc;
                  sound = λ is. let no = kept.declared ∙ isnt in absurd cc;
                  stands = λ is. let no = kept.declared ∙ isnt in absurd cc;
                  fit = rw kept.same.schema r.fit;
                  nothing = λ _. r.nothing isnt ∙ ap new_disk (sym kept.state);
                },
              );
            };
            told = kept.told;
            sent = kept.sent;
            same = kept.same;
          };
          counted = λ is. c.other (λ was. is (ap (λ (f : NodeFault). Err f) was));
          cause = λ is. c.disk cc;
          only = c.only;
          none = λ was. none_at old new (none_fallen old.schema old.state old.devs mid new falls (k.none was));
          left = λ was. none_held old.schema old.state old.devs mid new falls (k.none was) kept.same.schema kept.state;
        }

  -- by what the agenda is: a node that wasn't declared isn't up
  pub declare_done : (such : Type 0) (old : TableNode D) (disk : StoreDisk) (agenda : Option (List StoreTask)) → IsTable state old (at disk agenda) → old.is_declared ≡ false → (table : TableDevs (FuseDisk D)) → MakesTable st im such old.schema old.state old.devs table (Ok tt)
      → Makes state images such (at disk agenda) old (record old { is_declared = true; is_up = true; devs = table; owed = owed.Nothing }) (Ok tt)
  declare_done such old disk None t isnt table k = declared_at such old disk t table k
  declare_done such old disk (Some tasks) t isnt table k = let is = t.at.1.declared in absurd cc

  pub declare_failed : (such : Type 0) (old : TableNode D) (disk : StoreDisk) (agenda : Option (List StoreTask)) → IsTable state old (at disk agenda) → old.is_declared ≡ false → (mid new : TableNode D) (e : CommitFault) → MakesTable st im such old.schema old.state old.devs mid.devs (Err e)
      → Falls state images mid new → IsKept old new → new.is_up ≡ false → Makes state images such (at disk agenda) old new (Err (fault_of e))
  declare_failed such old disk None t isnt mid new e k falls kept down = undeclared_at such old disk t mid new e isnt k falls kept down
  declare_failed such old disk (Some tasks) t isnt mid new e k falls kept down = let is = t.at.1.declared in absurd cc

  -- ---- a start

  module _ (old : TableNode D) (disk : StoreDisk) (t : IsTable state old (at disk None)) (is_declared : old.is_declared ≡ true) (table : TableDevs (FuseDisk D)) (recovery : Recovery) (k : BeginsStart st im old.devs table (Ok recovery))
      (stage : TableState) (stage_is : stage ≡ state_in (devs st old.devs).held.table) where
    stands : Stands old.schema (devs st old.devs) disk
    stands = t.at.1.stands is_declared

    writes : writes_of table ≡ recovery_writes (rising disk.left) (is_some (devs st old.devs).pending)
    writes =
        let w = k.writes in
        w.3 ∙ ap (λ (l : List ChunkName). recovery_writes l (is_some (devs st old.devs).pending)) (one_list_left old.schema (devs st old.devs) disk stands w.0 w.1 w.2)

    -- the node with these facts
    abbrev new : Gathered StoreFact → TableNode D
    new facts = record old { is_up = true; devs = table; owed = owed.Start old.store; facts = facts; state = stage }

    stage_now : stage ≡ disk.state
    stage_now = stage_is ∙ (ap state_in stands.held.table ∙ named disk.state)

    working : (facts : Gathered StoreFact) (tasks : List StoreTask) → Follows old.schema (devs st old.devs) (recovery_writes (rising disk.left) (is_some (devs st old.devs).pending)) disk tasks
        → AreOwed old.table (owed.Start old.store) (recovery_writes (rising disk.left) (is_some (devs st old.devs).pending)) tasks → GoesWell old.schema disk tasks → PutStates (owed.Start old.store) tasks → facts_in tasks ≡ 1 → sends_in tasks ≡ 0 → HasRoom facts 1
        → IsTable state (new facts) (at disk (Some tasks))
    working facts tasks follows owes well puts one none room = record {
      size = t.size;
      spelled = t.spelled;
      short = t.short;
      at = (
        refl,
        record {
          declared = is_declared;
          up = k.up;
          fresh = k.fuse.fresh t.at.1.fresh;
          hidden = k.hidden;
          ready = k.ready;
          follows = subst (λ (l : List Write). Follows old.schema (devs st table) l disk tasks) (sym writes) (subst (λ (d : Devs). Follows old.schema d (recovery_writes (rising disk.left) (is_some (devs st old.devs).pending)) disk tasks) (sym k.same) follows);
          well = well;
          owed = subst (λ (l : List Write). AreOwed old.table (owed.Start old.store) l tasks) (sym writes) owes;
          stage = stage_now;
          stages = puts;
          fact_room = subst (λ (n : ℕ). HasRoom facts n) (sym one) room;
          message_room = subst (λ (n : ℕ). HasRoom old.messages n) (sym none) (no_room old.messages);
          few_facts = omega (arith, one);
          few_messages = omega (arith, none);
        },
      );
    }

    -- with an entry pending, and with none
    open_step : (facts : Gathered StoreFact) (pending : Stored) → disk.pending ≡ Some pending → HasRoom facts 1 → map fact_of facts.items.items ≡ told_by old ++ facts_found old.table recovery
        → IsBehind state old (new facts) (recover old.store old.table disk (Some pending))
    open_step facts pending is room told =
        let d = devs st old.devs in
        let e = open_entry old.schema d disk stands pending is in
        let some : is_some d.pending ≡ true = ap is_some e.1 in
        let owes = subst (λ (b : Bool). AreOwed old.table (owed.Start old.store) (recovery_writes (rising disk.left) b) (recovering old.store old.table disk)) (sym some) (recovering_owed old.store old.table disk) in
        let table_is = working facts (recovering old.store old.table disk) (open_follows old.schema d disk old.store old.table pending stands is) owes (recovering_well old.schema old.store old.table disk t.at.1.fit) (recovering_puts old.store old.table disk) (recovering_facts old.store old.table disk) (recovering_sends old.store old.table disk) room in
        record {
          table = subst (λ (s : TableStore). IsTable state (new facts) s) (sym (step_store old.schema d disk stands old.store old.table pending)) table_is;
          told = told ∙ ap (λ (l : List Fact). told_by old ++ l) (found_is old.schema d disk stands old.store old.table pending is recovery k.answer);
          sent = sym (append-nil (sent_by old)) ∙ ap (λ (l : List Send). sent_by old ++ l) (sym (step_sends old.schema d disk stands old.store old.table pending));
          same = record { store = refl; table = refl; schema = refl };
        }

    closed_step : (facts : Gathered StoreFact) → disk.pending ≡ None → HasRoom facts 1 → map fact_of facts.items.items ≡ told_by old ++ facts_found old.table recovery
        → IsBehind state old (new facts) (recover old.store old.table disk None)
    closed_step facts none room told =
        let d = devs st old.devs in
        let n = none_open old.schema d disk stands none in
        let no : is_some d.pending ≡ false = ap is_some n.0 in
        let owes = subst (λ (b : Bool). AreOwed old.table (owed.Start old.store) (recovery_writes (rising disk.left) b) (reopening old.store old.table)) (sym no) (subst (λ (l : List ChunkName). AreOwed old.table (owed.Start old.store) (recovery_writes (rising l) false) (reopening old.store old.table)) (sym n.1) (reopening_owed old.store old.table)) in
        record {
          table = working facts (reopening old.store old.table) (closed_follows old.schema d disk old.store old.table stands none) owes (reopening_well old.schema old.store old.table disk t.at.1.fit none) (reopening_puts old.store old.table) refl refl room;
          told = told ∙ ap (λ (l : List Fact). told_by old ++ l) (found_none old.schema d disk stands old.store old.table none recovery k.answer);
          sent = sym (append-nil (sent_by old));
          same = record { store = refl; table = refl; schema = refl };
        }

    behind_start : (facts : Gathered StoreFact) → HasRoom facts 1 → map fact_of facts.items.items ≡ told_by old ++ facts_found old.table recovery → IsBehind state old (new facts) (recover old.store old.table disk disk.pending)
    behind_start facts room told = pick disk.pending refl
      where
        pick : (o : Option Stored) → disk.pending ≡ o → IsBehind state old (new facts) (recover old.store old.table disk o)
        pick None is = closed_step facts is room told
        pick (Some pending) is = open_step facts pending is room told

    pub recovered_at : (facts : Gathered StoreFact) → HasRoom facts 1 → map fact_of facts.items.items ≡ told_by old ++ facts_found old.table recovery
        → Recovers state images (at disk None) old (new facts) (Ok tt)
    recovered_at facts room told = record {
      started = behind_start facts room told;
      refused = tt;
      counted = λ _. own_stays state old (new facts) k.cause.cause (k.fuse.stopped t.at.1.fresh.unset);
      cause = λ is. absurd cc;
      only = tt;
      rows_left = rows_of_disk st im old.schema (devs st old.devs) disk stands old.devs table k.rows_left;
    }

  -- it isn't taken on, and the disks were restarted
  pub unrecovered_at : (old : TableNode D) (disk : StoreDisk) (t : IsTable state old (at disk None)) (is_declared : old.is_declared ≡ true) (mid new : TableNode D) (e : CommitFault)
      → BeginsStart st im old.devs mid.devs (Err e) → Falls state images mid new → IsKept old new → new.is_up ≡ false
      → Recovers state images (at disk None) old new (Err (fault_of e))
  unrecovered_at old disk t is_declared mid new e k falls kept down =
      let r = t.at.1 in
      let here = devs st old.devs in
      let stands = r.stands is_declared in
      let may : MayHold old.schema here here disk disk = record { first = stands; second = stands; first_fit = r.fit; second_fit = r.fit } in
      let run : DevsLeave st im k.left.0 mid.devs (IsEither here here) = devs_weaker st im k.left.0 mid.devs (λ d. d ≡ here) (IsEither here here) k.left.1 (λ d is. inl is) in
      let c = caused_by old mid new e k.cause (k.fuse.stopped r.fresh.unset) falls.counted in
      record {
        started = tt;
        refused = record {
          table = ⊎_elim (λ a. a) (λ a. a) (fallen state images old mid new (at disk None) t kept.same (kept.declared ∙ is_declared) down falls k.left.0 here here disk disk may run);
          told = kept.told;
          sent = kept.sent;
          same = kept.same;
        };
        counted = λ is. c.other (λ was. is (ap (λ (f : NodeFault). Err f) was));
        cause = λ is. c.disk cc;
        only = c.only;
        rows_left = fallen_rows state images mid new falls old.schema old.devs here here disk disk may
            (rows_weaker st im old.devs mid.devs (λ held. held ≡ here.held) (IsEither here.held here.held) k.rows_left (λ held is. inl is));
      }
