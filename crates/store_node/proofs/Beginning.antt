-- What a start promises of a node in any of its states.
use Rattle.std.proofs.Common.{◌≡◌, inr, ℕ, ◌++◌, map, true, false, List, [], ◌∷◌, Option, Some, None, Result, Ok, Err, refl, sym, ◌∙◌, ap, append-nil}
use Rattle.std.proofs.lemmas.List.{map-append}
use Rattle.disk_trait.specs.Image.{IsImage}
use Rattle.disk_trait.specs.Calls.{DiskState}
use Rattle.disk_trait.specs.Fuse.{behind, inner_of}
use Rattle.disk_trait.specs.declared.fuse.FuseDisk.{FuseDisk}
use Rattle.stab_base.specs.declared.chunk_name.ChunkName.{ChunkName}
use Rattle.store_commit.specs.declared.devs.TableDevs.{TableDevs}
use Rattle.store_commit.specs.declared.recovery.Recovery.{Recovery}
use Rattle.store_commit.specs.declared.fault.CommitFault.{CommitFault}
use Rattle.store_commit.specs.NamedChunks.{NamedChunks}
use Rattle.store_commit.specs.There.{WholeRows}
use Rattle.store_commit.specs.Standing.{devs, writes_of, AreUp, AreSound, AreSynced}
use Rattle.table_model.specs.declared.table_state.TableState.{TableState}
use Rattle.step_tables.specs.Facts.{Fact}
use Rattle.step_tables.specs.Facts as facts_of
use Rattle.step_tables.specs.StoreMoves.{StoreDisk, StoreTask, TableStore, new_disk}
use Rattle.store_node.specs.Devices.{BeginsStart, state_in}
use Rattle.store_node.specs.Due.{fact_of, facts_found}
use Rattle.store_node.specs.Fault.{fault_of}
use Rattle.store_node.specs.Gathered.{HasRoom}
use Rattle.store_node.specs.declared.gathered.Gathered.{Gathered}
use Rattle.store_node.specs.declared.told.StoreFact.{StoreFact}
use Rattle.store_node.specs.declared.told.StoreFact.TheVariants as told
use Rattle.store_node.specs.declared.owed.Owed.TheVariants as owed
use Rattle.store_node.specs.declared.fault.NodeFault.{NodeFault}
use Rattle.store_node.specs.declared.fault.NodeFault.TheVariants as node_faults
use Rattle.store_node.specs.declared.node.TableNode.{TableNode}
use Rattle.store_node.specs.Node.{IsTable, HoldsNone, LeavesNone, told_by, sent_by}
use Rattle.store_node.specs.Calls.{Falls, Stays, Makes, DeclaresLate, Recovers, Starts}
use Rattle.store_node.proofs.Blanks.{together, still_some, blank_holds}
use Rattle.store_node.proofs.Recovering.{recovered_at, unrecovered_at, none_at}
use Rattle.store_node.proofs.Working.{IsKept, still_rows, down_rows}
use Rattle.store_node.proofs.Whole.{whole_stands}

module _ {D : Type 0} (state : D → DiskState) (images : D → ℕ → List ℕ → Type 0) where
  abbrev st : FuseDisk D → DiskState
  st f = behind state f

  abbrev im : FuseDisk D → ℕ → List ℕ → Type 0
  im f = images (inner_of f)

  abbrev at : StoreDisk → Option (List StoreTask) → TableStore
  at disk agenda = record { disk = disk; agenda = agenda }

  -- what is at rest
  pub record RestsDown (node : TableNode D) : Type 0 where
    pub up : AreUp node.devs
    pub synced : AreSynced st node.devs
    pub sound : AreSound st node.devs
    pub idle : writes_of node.devs ≡ []

  pub rests_down : (node : TableNode D) (disk : StoreDisk) (agenda : Option (List StoreTask)) → IsTable state node (at disk agenda) → node.is_declared ≡ true → node.is_up ≡ false → RestsDown node
  rests_down node disk None t declared down = let r = t.at.1 in record { up = r.up; synced = r.synced declared; sound = r.sound declared; idle = r.idle }
  rests_down node disk (Some tasks) t declared down = let up = t.at.0 in absurd cc

  -- its rows are whole
  pub whole_down : (node : TableNode D) (disk : StoreDisk) (agenda : Option (List StoreTask)) → IsTable state node (at disk agenda) → node.is_declared ≡ true → node.is_up ≡ false
      → (meaning : ChunkName → List ℕ) × NamedChunks meaning (devs st node.devs) × WholeRows meaning (devs st node.devs).held
  whole_down node disk None t declared down = let r = t.at.1 in whole_stands node.schema (devs st node.devs) disk t.size (r.stands declared) r.fit
  whole_down node disk (Some tasks) t declared down = let up = t.at.0 in absurd cc

  -- other facts of a node that is down
  pub facts_at : (node : TableNode D) (facts : Gathered StoreFact) (disk : StoreDisk) → IsTable state node (at disk None) → IsTable state (record node { facts = facts }) (at disk None)
  facts_at node facts disk t =
      let r = t.at.1 in
      record {
        size = t.size;
        spelled = t.spelled;
        short = t.short;
        at = (t.at.0, record { up = r.up; fresh = r.fresh; idle = r.idle; synced = r.synced; sound = r.sound; stands = r.stands; fit = r.fit; nothing = r.nothing });
      }

  still : (node : TableNode D) (facts : Gathered StoreFact) (disk : StoreDisk) → facts.items.items ≡ node.facts.items.items → IsTable state node (at disk None) → Stays state node (record node { facts = facts }) (at disk None)
  still node facts disk same t = record { table = facts_at node facts disk t; told = ap (map fact_of) same; sent = refl; same = record { store = refl; table = refl; schema = refl } }

  pub recover_short : ((disk : FuseDisk D) (image : List ℕ) → images (inner_of disk) (behind state disk).moment image → IsImage (behind state disk).pending image)
      → (node : TableNode D) (facts : Gathered StoreFact) (disk : StoreDisk) (agenda : Option (List StoreTask)) → facts.items.items ≡ node.facts.items.items → IsTable state node (at disk agenda)
      → node.is_declared ≡ true → node.is_up ≡ false
      → Recovers state images (at disk agenda) node (record node { facts = facts }) (Err node_faults.Memory)
  recover_short only_now node facts disk None same t declared down = record {
    started = tt;
    refused = still node facts disk same t;
    counted = λ _. refl;
    cause = λ is. absurd cc;
    only = inr refl;
    rows_left = down_rows state images only_now node disk t.at.1 declared;
  }
  recover_short only_now node facts disk (Some tasks) same t declared down = let up = t.at.0 in absurd cc

  pub recover_done : (old : TableNode D) (reserved facts : Gathered StoreFact) (disk : StoreDisk) (agenda : Option (List StoreTask)) → IsTable state old (at disk agenda) → old.is_declared ≡ true → old.is_up ≡ false
      → (table : TableDevs (FuseDisk D)) (recovery : Recovery) (stage : TableState) → stage ≡ state_in (devs st old.devs).held.table → BeginsStart st im old.devs table (Ok recovery) → HasRoom facts 1 → map fact_of facts.items.items ≡ told_by old ++ facts_found old.table recovery
      → Recovers state images (at disk agenda) old (record old { is_up = true; devs = table; owed = owed.Start old.store; facts = facts; state = stage }) (Ok tt)
  recover_done old reserved facts disk None t declared down table recovery stage stage_is k room told = recovered_at state images old disk t declared table recovery k stage stage_is facts room told
  recover_done old reserved facts disk (Some tasks) t declared down table recovery stage stage_is k room told = let up = t.at.0 in absurd cc

  pub recover_failed : (old : TableNode D) (disk : StoreDisk) (agenda : Option (List StoreTask)) → IsTable state old (at disk agenda) → old.is_declared ≡ true → old.is_up ≡ false → (mid new : TableNode D) (e : CommitFault)
      → BeginsStart st im old.devs mid.devs (Err e) → Falls state images mid new → IsKept old new → new.is_up ≡ false → Recovers state images (at disk agenda) old new (Err (fault_of e))
  recover_failed old disk None t declared down mid new e k falls kept down_now = unrecovered_at state images old disk t declared mid new e k falls kept down_now
  recover_failed old disk (Some tasks) t declared down mid new e k falls kept down_now = let up = t.at.0 in absurd cc

  -- ---- declared late

  pub late_short : ((disk : FuseDisk D) (image : List ℕ) → images (inner_of disk) (behind state disk).moment image → IsImage (behind state disk).pending image)
      → (node : TableNode D) (facts : Gathered StoreFact) (disk : StoreDisk) (agenda : Option (List StoreTask)) → facts.items.items ≡ node.facts.items.items → IsTable state node (at disk agenda) → node.is_declared ≡ false
      → DeclaresLate state images (at disk agenda) node (record node { facts = facts }) (Err node_faults.Memory)
  late_short only_now node facts disk None same t isnt = record {
    declared = tt;
    refused = still node facts disk same t;
    counted = λ _. refl;
    cause = λ is. absurd cc;
    only = inr refl;
    none = none_left;
    left = λ k. record { held = k.held; sound = k.sound; synced = k.synced };
    blank = λ blank. none_left (blank_holds st im only_now node.schema node.state node.devs blank);
  }
    where
      none_left : HoldsNone state node → LeavesNone state images node (record node { facts = facts })
      none_left k = none_at state images node (record node { facts = facts }) (together st im only_now node.schema node.state node.devs node.devs (still_some st im only_now node.schema node.state node.devs t.at.1.up k))
  late_short only_now node facts disk (Some tasks) same t isnt = let is = t.at.1.declared in absurd cc

  pub late_node : (node : TableNode D) (facts : Gathered StoreFact) (disk : StoreDisk) (agenda : Option (List StoreTask)) → IsTable state node (at disk agenda) → node.is_declared ≡ false → IsTable state (record node { facts = facts }) (at disk agenda)
  late_node node facts disk None t isnt = facts_at node facts disk t
  late_node node facts disk (Some tasks) t isnt = let is = t.at.1.declared in absurd cc

  -- more facts of a node with nothing to be done
  more_facts : (node : TableNode D) (facts : Gathered StoreFact) (disk : StoreDisk) → HasRoom facts 0 → IsTable state node (at disk (Some [])) → IsTable state (record node { facts = facts }) (at disk (Some []))
  more_facts node facts disk room t =
      let h = t.at.1 in
      record {
        size = t.size;
        spelled = t.spelled;
        short = t.short;
        at = (
          t.at.0,
          record {
            declared = h.declared;
            up = h.up;
            fresh = h.fresh;
            hidden = h.hidden;
            ready = h.ready;
            follows = h.follows;
            well = h.well;
            owed = h.owed;
            stage = h.stage;
            stages = h.stages;
            fact_room = room;
            message_room = h.message_room;
            few_facts = h.few_facts;
            few_messages = h.few_messages;
          },
        );
      }

  pub late_done : ((disk : FuseDisk D) (image : List ℕ) → images (inner_of disk) (behind state disk).moment image → IsImage (behind state disk).pending image)
      → (node : TableNode D) (reserved facts : Gathered StoreFact) (made : TableNode D) (s : TableStore) → reserved.items.items ≡ node.facts.items.items
      → Makes state images (HoldsNone state node) s (record node { facts = reserved }) made (Ok tt) → made.facts ≡ reserved → facts.items.items ≡ made.facts.items.items ++ told.Recovered made.store made.table ∷ [] → HasRoom facts 0
      → DeclaresLate state images s node (record made { facts = facts }) (Ok tt)
  late_done only_now node reserved facts made s same d kept added room = record {
    declared = record {
      table = more_facts made facts (new_disk node.state) room d.declared.table;
      told = ap (map fact_of) (added ∙ ap (λ l. l ++ told.Recovered made.store made.table ∷ []) (ap (λ (g : Gathered StoreFact). g.items.items) kept ∙ same)) ∙ facts_told;
      sent = d.declared.sent ∙ sym (append-nil (sent_by node));
      same = record { store = d.declared.same.store; table = d.declared.same.table; schema = d.declared.same.schema };
    };
    refused = tt;
    counted = λ is. d.counted (λ was. cc);
    cause = λ is. absurd cc;
    only = tt;
    none = none_left;
    left = λ _. tt;
    blank = λ blank. none_left (blank_holds st im only_now node.schema node.state node.devs blank);
  }
    where
      facts_told : map fact_of (node.facts.items.items ++ told.Recovered made.store made.table ∷ []) ≡ told_by node ++ facts_of.StoreRecovered node.store node.table ∷ []
      facts_told = map-append fact_of node.facts.items.items (told.Recovered made.store made.table ∷ []) ∙ rw (d.declared.same.store, d.declared.same.table) refl

      none_left : HoldsNone state node → LeavesNone state images node (record made { facts = facts })
      none_left was = let k = d.none was in record { any_moment = k.any_moment; rows_left = k.rows_left }

  pub late_failed : ((disk : FuseDisk D) (image : List ℕ) → images (inner_of disk) (behind state disk).moment image → IsImage (behind state disk).pending image)
      → (node : TableNode D) (reserved : Gathered StoreFact) (made : TableNode D) (s : TableStore) (e : NodeFault) → reserved.items.items ≡ node.facts.items.items
      → Makes state images (HoldsNone state node) s (record node { facts = reserved }) made (Err e) → DeclaresLate state images s node made (Err e)
  late_failed only_now node reserved made s e same d = record {
    declared = tt;
    refused = record { table = d.refused.table; told = d.refused.told ∙ ap (map fact_of) same; sent = d.refused.sent; same = record { store = d.refused.same.store; table = d.refused.same.table; schema = d.refused.same.schema } };
    counted = λ is. d.counted (λ was. is was);
    cause = λ is. d.cause is;
    only = d.only;
    none = none_left;
    left = λ was. d.left was;
    blank = λ blank. none_left (blank_holds st im only_now node.schema node.state node.devs blank);
  }
    where
      none_left : HoldsNone state node → LeavesNone state images node made
      none_left was = let k = d.none was in record { any_moment = k.any_moment; rows_left = k.rows_left }

  -- ---- a start

  pub start_up : ((disk : FuseDisk D) (image : List ℕ) → images (inner_of disk) (behind state disk).moment image → IsImage (behind state disk).pending image)
      → (node : TableNode D) (disk : StoreDisk) (agenda : Option (List StoreTask)) → IsTable state node (at disk agenda) → node.is_up ≡ true → Starts state images (at disk agenda) node node (Ok tt)
  start_up only_now node disk None t up = let no = t.at.0 in absurd cc
  start_up only_now node disk (Some tasks) t up = record {
    started = λ _. record { table = t; told = sym (append-nil (told_by node)); sent = sym (append-nil (sent_by node)); same = record { store = refl; table = refl; schema = refl } };
    declared = λ isnt. let is = t.at.1.declared in absurd cc;
    refused = tt;
    counted = λ _. refl;
    cause = λ is. absurd cc;
    only = tt;
    rows_left = λ _. still_rows state images only_now node disk tasks t.at.1;
    none = λ isnt. let is = t.at.1.declared in absurd cc;
    left = λ isnt. let is = t.at.1.declared in absurd cc;
    blank = λ isnt. let is = t.at.1.declared in absurd cc;
  }

  pub start_recovers : (old new : TableNode D) (s : TableStore) (r : Result (Unit {0}) NodeFault) → old.is_declared ≡ true → Recovers state images s old new r → Starts state images s old new r
  start_recovers old new s r is k = record {
    started = λ _. k.started;
    declared = λ isnt. absurd cc;
    refused = k.refused;
    counted = k.counted;
    cause = k.cause;
    only = k.only;
    rows_left = λ _. k.rows_left;
    none = λ isnt. absurd cc;
    left = λ isnt. absurd cc;
    blank = λ isnt. absurd cc;
  }

  pub start_declares : (old new : TableNode D) (s : TableStore) (r : Result (Unit {0}) NodeFault) → old.is_declared ≡ false → DeclaresLate state images s old new r → Starts state images s old new r
  start_declares old new s r isnt k = record {
    started = λ is. absurd cc;
    declared = λ _. k.declared;
    refused = k.refused;
    counted = k.counted;
    cause = k.cause;
    only = k.only;
    rows_left = λ is. absurd cc;
    none = λ _. k.none;
    left = λ _. k.left;
    blank = λ _. k.blank;
  }
