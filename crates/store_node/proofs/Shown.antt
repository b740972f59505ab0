-- What a node shows of a row, from what its devices were asked.
use Rattle.std.proofs.Common.{◌≡◌, ◌⊎◌, inl, inr, ⊎_elim, ℕ, map, true, List, Option, Some, None, Result, Ok, Err, refl, sym, ◌∙◌, ap, subst, arith}
use Rattle.std.specs.Prelude.{IsErrOf, IfOk, option_map}
use Rattle.disk_trait.specs.Calls.{DiskState}
use Rattle.disk_trait.specs.Fuse.{behind, inner_of}
use Rattle.disk_trait.specs.declared.fuse.FuseDisk.{FuseDisk}
use Rattle.vault.specs.Calls.{IsEither}
use Rattle.stab_base.specs.declared.node.Node.{Node}
use Rattle.step_tables.specs.declared.message.Message.{Message}
use Rattle.step_tables.specs.Store.{current_of}
use Rattle.step_tables.specs.StoreMoves.{StoreDisk, StoreTask, TableStore}
use Rattle.store_commit.specs.declared.devs.TableDevs.{TableDevs}
use Rattle.store_commit.specs.declared.fault.CommitFault.{CommitFault}
use Rattle.store_commit.specs.declared.fault.CommitFault.TheVariants as commits
use Rattle.store_commit.specs.Devs.{Devs, Write}
use Rattle.store_commit.specs.Standing.{devs, writes_of, IsReady, DevsLeave, RowsLeave}
use Rattle.store_commit.proofs.Works.{up_or_down}
use Rattle.store_commit.proofs.Moments.{devs_weaker, rows_weaker}
use Rattle.device_laws.specs.Stands.{Stands, Follows}
use Rattle.store_node.specs.Fault.{fault_of}
use Rattle.store_node.specs.Reading.{Only, whole_at, shown_row}
use Rattle.store_node.specs.declared.gathered.Gathered.{Gathered}
use Rattle.store_node.specs.declared.told.StoreFact.{StoreFact}
use Rattle.store_node.specs.declared.fault.NodeFault.{NodeFault}
use Rattle.store_node.specs.declared.fault.NodeFault.TheVariants as node_faults
use Rattle.store_node.specs.declared.node.TableNode.{TableNode}
use Rattle.store_node.specs.declared.showing.WholeRow.{WholeRow}
use Rattle.store_node.specs.declared.showing.ShownRow.{ShownRow}
use Rattle.step_tables.specs.Travels.{send_of}
use Rattle.store_node.specs.Due.{fact_of}
use Rattle.store_node.specs.Node.{AreOwed, IsWorking, IsTable, IsNode, IsSame, own_faults, LeavesEither, LeavesRows}
use Rattle.store_node.specs.Calls.{Fell, Stays, Shows, Gives, IsRowAt}
use Rattle.store_node.proofs.RowsLeft.{rows_of_disk}
use Rattle.store_node.proofs.Falling.{MayHold, fallen, fallen_leaves, fallen_rows, ready_sound}
use Rattle.store_node.proofs.Following.{own_stays, own_rises, follows_now, well_now}
use Rattle.store_node.proofs.Making.{same_hidden, ready_up}
use Rattle.store_node.proofs.Onlys.{ready_stays}
use Rattle.store_node.proofs.Telling.{shown_is, row_is}

pub shows_node : {D : Type 0} (state : D → DiskState) (images : D → ℕ → List ℕ → Type 0) (s : TableStore) (row : List ℕ) (old new : TableNode D) (r : Result (Option ShownRow) NodeFault) → Shows state images s row old new r → IsNode state new
shows_node state images s row old new (Ok x) k = (_, (k.stays (λ is. cc)).table)
shows_node state images s row old new (Err e) k =
    ⊎_elim (λ is. (_, (k.fallen (ap (λ (f : NodeFault). Err f) is)).table)) (λ is. (_, (k.stays (λ was. let same : e ≡ node_faults.Disk = cc in cc)).table)) k.only

pub gives_node : {D : Type 0} (state : D → DiskState) (images : D → ℕ → List ℕ → Type 0) (s : TableStore) (row : List ℕ) (old new : TableNode D) (r : Result (Option WholeRow) NodeFault) → Gives state images s row old new r → IsNode state new
gives_node state images s row old new (Ok x) k = (_, (k.stays (λ is. cc)).table)
gives_node state images s row old new (Err e) k =
    ⊎_elim (λ is. (_, (k.fallen (ap (λ (f : NodeFault). Err f) is)).table)) (λ is. (_, (k.stays (λ was. let same : e ≡ node_faults.Disk = cc in cc)).table)) k.only

-- what a row that is shown keeps, a row that is given does
abbrev shown_result : Result (Option WholeRow) NodeFault → Result (Option ShownRow) NodeFault
shown_result (Ok found) = Ok (option_map shown_row found)
shown_result (Err e) = Err e

same_err : {A B : Type 0} (e f : NodeFault) → IsErrOf {T = A} (Err e) f → IsErrOf {T = B} (Err e) f
same_err e f is = let same : e ≡ f = cc in ap (λ (x : NodeFault). Err x) same

gives : {D : Type 0} (state : D → DiskState) (images : D → ℕ → List ℕ → Type 0) (s : TableStore) (row : List ℕ) (old new : TableNode D) (r : Result (Option WholeRow) NodeFault)
    → Shows state images s row old new (shown_result r) → IfOk r (IsRowAt s.disk.items row (current_of s.disk.items row)) → Gives state images s row old new r
gives state images s row old new (Ok found) k given = record {
  given = given;
  stays = λ _. k.stays (λ is. cc);
  fallen = λ is. absurd cc;
  counted = λ _. k.counted (λ is. cc);
  cause = λ is. absurd cc;
  only = tt;
  any_moment = k.any_moment;
  rows_left = k.rows_left;
}
gives state images s row old new (Err e) k given = record {
  given = tt;
  stays = λ isnt. k.stays (λ is. isnt (same_err {A = Option ShownRow} {B = Option WholeRow} e node_faults.Disk is));
  fallen = λ is. k.fallen (same_err {A = Option WholeRow} {B = Option ShownRow} e node_faults.Disk is);
  counted = λ isnt. k.counted (λ is. isnt (same_err {A = Option ShownRow} {B = Option WholeRow} e node_faults.Disk is));
  cause = λ is. k.cause (same_err {A = Option WholeRow} {B = Option ShownRow} e node_faults.Disk is);
  only = k.only;
  any_moment = k.any_moment;
  rows_left = k.rows_left;
}

module _ {D : Type 0} (state : D → DiskState) (images : D → ℕ → List ℕ → Type 0) where
  abbrev st : FuseDisk D → DiskState
  st f = behind state f

  abbrev im : FuseDisk D → ℕ → List ℕ → Type 0
  im f = images (inner_of f)

  abbrev at : StoreDisk → Option (List StoreTask) → TableStore
  at disk agenda = record { disk = disk; agenda = agenda }

  abbrev with_devs : TableNode D → TableDevs (FuseDisk D) → TableNode D
  with_devs node table = record node { devs = table }

  module _ (old : TableNode D) (disk : StoreDisk) (tasks : List StoreTask) (t : IsTable state old (at disk (Some tasks))) (row : List ℕ) (table : TableDevs (FuseDisk D)) where
    abbrev s : TableStore
    s = at disk (Some tasks)

    h : IsWorking state old disk tasks
    h = t.at.1

    stands : Stands old.schema (devs st old.devs) disk
    stands = follows_now old.schema (devs st old.devs) (writes_of old.devs) disk tasks h.follows

    -- what a crash leaves of devices that were only read
    module _ {T : Type 0} (r : Result T CommitFault) (o : Only st im old.devs table r) where
      leaves_here : DevsLeave st im old.devs table (λ d. d ≡ devs st old.devs)
      leaves_here = o.asks.any_moment (ready_up st im old.devs (writes_of old.devs) h.ready) (ready_sound state images old.devs (writes_of old.devs) h.ready)

      leaves : LeavesEither state images old (with_devs old table) disk disk
      leaves = devs_weaker st im old.devs table (λ d. d ≡ devs st old.devs) (λ d. Stands old.schema d disk ⊎ Stands old.schema d disk) leaves_here (λ d is. inl (subst (λ (x : Devs). Stands old.schema x disk) (sym is) stands))

      rows_are : RowsLeave st im old.devs table (λ held. held ≡ (devs st old.devs).held)
      rows_are = (o.asks.leave (ready_up st im old.devs (writes_of old.devs) h.ready) (ready_sound state images old.devs (writes_of old.devs) h.ready)).rows

      rows_here : LeavesRows state images old (with_devs old table) disk disk
      rows_here = rows_of_disk st im old.schema (devs st old.devs) disk stands old.devs table rows_are

      module _ (not_disk : IsErrOf r commits.Disk → ⊥) where
        ready : IsReady st table (writes_of table)
        ready = subst (λ (l : List Write). IsReady st table l) (sym o.asks.agenda) (ready_stays st im old.devs table (writes_of old.devs) (o.asks.stay not_disk) h.ready)

        working : IsWorking state (with_devs old table) disk tasks
        working = record {
          declared = h.declared;
          up = ready_up st im table (writes_of table) ready;
          fresh = o.asks.fuse.fresh h.fresh;
          hidden = same_hidden st im old.devs table o.scanned h.hidden;
          ready = ready;
          follows = subst (λ (l : List Write). Follows old.schema (devs st table) l disk tasks) (sym o.asks.agenda) (subst (λ (d : Devs). Follows old.schema d (writes_of old.devs) disk tasks) (sym (o.asks.same not_disk)) h.follows);
          well = h.well;
          owed = subst (λ (l : List Write). AreOwed old.table old.owed l tasks) (sym o.asks.agenda) h.owed;
          stage = h.stage;
          stages = h.stages;
          fact_room = h.fact_room;
          message_room = h.message_room;
          few_facts = h.few_facts;
          few_messages = h.few_messages;
        }

        stays_here : Stays state old (with_devs old table) s
        stays_here = record {
          table = record { size = t.size; spelled = t.spelled; short = t.short; at = (t.at.0, working) };
          told = refl;
          sent = refl;
          same = record { store = refl; table = refl; schema = refl };
        }

        counted_here : own_faults state (with_devs old table) ≡ own_faults state old
        counted_here = own_stays state old (with_devs old table) (o.asks.counted not_disk) (o.asks.fuse.stopped h.fresh.unset)

    -- the row was read
    shows_found : (found : Option WholeRow) (x : Option ShownRow) → Only st im old.devs table (Ok found) → found ≡ whole_at (devs st old.devs) row → x ≡ option_map shown_row found → Shows state images s row old (with_devs old table) (Ok x)
    shows_found found x o is made = record {
      shown = made ∙ (ap (option_map shown_row) is ∙ shown_is old.schema (devs st old.devs) disk t.size stands row);
      stays = λ _. stays_here (Ok found) o (λ is. cc);
      fallen = λ is. absurd cc;
      counted = λ _. counted_here (Ok found) o (λ is. cc);
      cause = λ is. absurd cc;
      only = tt;
      any_moment = leaves (Ok found) o;
      rows_left = rows_here (Ok found) o;
    }

    gives_found : (found : Option WholeRow) → Only st im old.devs table (Ok found) → found ≡ whole_at (devs st old.devs) row → Gives state images s row old (with_devs old table) (Ok found)
    gives_found found o is =
        gives state images s row old (with_devs old table) (Ok found) (shows_found found (option_map shown_row found) o is refl)
        (subst (λ (x : Option WholeRow). IsRowAt disk.items row (current_of disk.items row) x) (sym is) (row_is old.schema (devs st old.devs) disk t.size stands row))

    -- memory was refused
    shows_short : {T : Type 0} → Only {T = T} st im old.devs table (Err commits.Memory) → Shows state images s row old (with_devs old table) (Err node_faults.Memory)
    shows_short {T} o =
        let r : Result T CommitFault = Err commits.Memory in
        record {
          shown = tt;
          stays = λ _. stays_here r o (λ is. cc);
          fallen = λ is. absurd cc;
          counted = λ _. counted_here r o (λ is. cc);
          cause = λ is. absurd cc;
          only = inr refl;
          any_moment = leaves r o;
          rows_left = rows_here r o;
        }

    -- a disk has failed
    shows_fallen : {T : Type 0} (new : TableNode D) → Only {T = T} st im old.devs table (Err commits.Disk) → Fell state images (with_devs old table) new → Shows state images s row old new (Err node_faults.Disk)
    shows_fallen {T} new o f =
        let r : Result T CommitFault = Err commits.Disk in
        let mid = with_devs old table in
        let here = devs st old.devs in
        let same : IsSame old new = record { store = f.same.store; table = f.same.table; schema = f.same.schema } in
        let declared : new.is_declared ≡ true = f.declared ∙ h.declared in
        let fit = well_now old.schema disk tasks h.well in
        let may : MayHold old.schema here here disk disk = record { first = stands; second = stands; first_fit = fit; second_fit = fit } in
        let run : DevsLeave st im old.devs table (IsEither here here) = devs_weaker st im old.devs table (λ d. d ≡ here) (IsEither here here) (leaves_here r o) (λ d is. inl is) in
        record {
          shown = tt;
          stays = λ n. absurd (n refl);
          fallen = λ _. record {
            table = ⊎_elim (λ a. a) (λ a. a) (fallen state images old mid new s t same declared f.down f.falls old.devs here here disk disk may run);
            told = ap (λ (g : Gathered StoreFact). map fact_of g.items.items) f.facts;
            sent = ap (λ (g : Gathered (Option Node × Message)). map send_of g.items.items) f.messages;
            same = same;
          };
          counted = λ n. absurd (n refl);
          cause = λ _. let rises = own_rises state old mid (o.asks.disk refl).0 (o.asks.fuse.stopped h.fresh.unset) in let c = f.falls.counted in omega (arith, rises, c);
          only = inl refl;
          any_moment = fallen_leaves state images old mid new s t same declared f.down f.falls old.devs here here disk disk may run;
          rows_left = fallen_rows state images mid new f.falls old.schema old.devs here here disk disk may
              (rows_weaker st im old.devs table (λ held. held ≡ here.held) (IsEither here.held here.held) (rows_are r o) (λ held is. inl is));
        }

    -- what the devices were refused is handed on
    shows_refused : {T : Type 0} (e : CommitFault) (new : TableNode D) → Only {T = T} st im old.devs table (Err e) → (e ≡ commits.Disk → Fell state images (with_devs old table) new) → ((e ≡ commits.Disk → ⊥) → new ≡ with_devs old table)
        → Shows state images s row old new (Err (fault_of e))
    shows_refused {T} e new o fell stays = ⊎_elim down (λ more. ⊎_elim never short more) o.asks.only
      where
        down : e ≡ commits.Disk → Shows state images s row old new (Err (fault_of e))
        down is = subst (λ (f : CommitFault). Shows state images s row old new (Err (fault_of f))) (sym is) (shows_fallen {T = T} new (subst (λ (f : CommitFault). Only {T = T} st im old.devs table (Err f)) is o) (fell is))

        never : e ≡ commits.Down → Shows state images s row old new (Err (fault_of e))
        never is = absurd (up_or_down old.devs (ready_up st im old.devs (writes_of old.devs) h.ready) (o.asks.down.0 (ap (λ (f : CommitFault). Err f) is)))

        short : e ≡ commits.Memory → Shows state images s row old new (Err (fault_of e))
        short is =
            subst (λ (n : TableNode D). Shows state images s row old n (Err (fault_of e))) (sym (stays (λ was. cc)))
            (subst (λ (f : CommitFault). Shows state images s row old (with_devs old table) (Err (fault_of f))) (sym is) (shows_short {T = T} (subst (λ (f : CommitFault). Only {T = T} st im old.devs table (Err f)) is o)))

  -- ---- a node that is up, in any of its states

  module _ (old : TableNode D) (row : List ℕ) (table : TableDevs (FuseDisk D)) (up : old.is_up ≡ true) where
    pub found_shows : (disk : StoreDisk) (agenda : Option (List StoreTask)) → IsTable state old (at disk agenda) → (found : Option WholeRow) (x : Option ShownRow) → Only st im old.devs table (Ok found) → found ≡ whole_at (devs st old.devs) row → x ≡ option_map shown_row found
        → Shows state images (at disk agenda) row old (with_devs old table) (Ok x)
    found_shows disk None t found x o is made = let no_ = t.at.0 in absurd cc
    found_shows disk (Some tasks) t found x o is made = shows_found old disk tasks t row table found x o is made

    pub refused_shows : {T : Type 0} (disk : StoreDisk) (agenda : Option (List StoreTask)) → IsTable state old (at disk agenda) → (e : CommitFault) (new : TableNode D) → Only {T = T} st im old.devs table (Err e) → (e ≡ commits.Disk → Fell state images (with_devs old table) new) → ((e ≡ commits.Disk → ⊥) → new ≡ with_devs old table)
        → Shows state images (at disk agenda) row old new (Err (fault_of e))
    refused_shows {T} disk None t e new o fell stays = let no_ = t.at.0 in absurd cc
    refused_shows {T} disk (Some tasks) t e new o fell stays = shows_refused old disk tasks t row table {T = T} e new o fell stays

    pub found_gives : (disk : StoreDisk) (agenda : Option (List StoreTask)) → IsTable state old (at disk agenda) → (found : Option WholeRow) → Only st im old.devs table (Ok found) → found ≡ whole_at (devs st old.devs) row
        → Gives state images (at disk agenda) row old (with_devs old table) (Ok found)
    found_gives disk None t found o is = let no_ = t.at.0 in absurd cc
    found_gives disk (Some tasks) t found o is = gives_found old disk tasks t row table found o is

    pub refused_gives : {T : Type 0} (disk : StoreDisk) (agenda : Option (List StoreTask)) → IsTable state old (at disk agenda) → (e : CommitFault) (new : TableNode D) → Only {T = T} st im old.devs table (Err e)
        → (e ≡ commits.Disk → Fell state images (with_devs old table) new) → ((e ≡ commits.Disk → ⊥) → new ≡ with_devs old table) → Gives state images (at disk agenda) row old new (Err (fault_of e))
    refused_gives {T} disk agenda t e new o fell stays = gives state images (at disk agenda) row old new (Err (fault_of e)) (refused_shows {T = T} disk agenda t e new o fell stays) tt
