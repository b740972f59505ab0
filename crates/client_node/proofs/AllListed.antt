-- A call that lists the rows in conflict of a table, where they may all be resolved in one way.
use Rattle.std.proofs.Common.{◌≡◌, ◌⊎◌, ⊎_elim, ℕ, Bool, true, false, List, [], ◌∷◌, length, Option, Some, None, Result, Ok, Err, refl, sym, ◌∙◌, ap, subst}
use Rattle.std.specs.Prelude.{not, ◌&&◌, if◌then◌else◌, IfOk, IfErr, IfSome, IsErrOf}
use Rattle.disk_trait.specs.Image.{IsImage}
use Rattle.disk_trait.specs.Calls.{DiskState}
use Rattle.disk_trait.specs.Fuse.{behind, inner_of}
use Rattle.disk_trait.specs.declared.fuse.FuseDisk.{FuseDisk}
use Rattle.row_value.specs.declared.fit.FitFault.{FitFault}
use Rattle.row_value.specs.declared.fit.FitFault.TheVariants as fits
use Rattle.row_value.specs.declared.schema.Schema.{Schema}
use Rattle.conflicts.specs.declared.stored.Stored.{Stored}
use Rattle.table_model.specs.declared.line.RowPair.{RowPair}
use Rattle.slot_store.specs.declared.held.TableRecord.{TableRecord}
use Rattle.client_journal.specs.declared.devs.Journal.{Journal}
use Rattle.client_journal.specs.Devs.{ClientDevs}
use Rattle.client_journal.specs.Plan.{plan_at_work}
use Rattle.client_journal.specs.Standing.{devs, writes_of}
use Rattle.step_tables.specs.Facts.{Answer}
use Rattle.step_tables.specs.Facts as facts
use Rattle.step_tables.specs.ClientMoves.{TableDisk, ClientDisk, ClientTask, Client, ClientStep, Shape, ResolveAll, quiet, all_in, all_fitting, can_resolve, table_at, seen, pairs_of, if_closed, is_before_phase}
use Rattle.client_node.specs.declared.fault.CallFault.{CallFault}
use Rattle.client_node.specs.declared.fault.CallFault.TheVariants as call
use Rattle.client_node.specs.declared.node.ClientNode.{ClientNode}
use Rattle.client_node.specs.Answers.{record_at, IsFault, IsAnswered}
use Rattle.client_node.specs.Calls.{Fell}
use Rattle.client_node.specs.Does.{Does, IsOfNode, step_with}
use Rattle.client_node.specs.Fault.{fit_fault_of}
use Rattle.client_node.specs.Linked.{unless_kept}
use Rattle.client_node.specs.Listing.{listed, counted, counted_if, AreContended}
use Rattle.client_node.specs.Looks.{IsNotDisk, Looks}
use Rattle.client_node.specs.Node.{StandsFor, IsClient}
use Rattle.client_node.specs.Phases.{is_open}
use Rattle.client_node.specs.Sending.{AreTasksOf}
use Rattle.client_node.proofs.Answering.{does_quiet, of_err}
use Rattle.client_node.proofs.Links.{opened_is, unopened_is}
use Rattle.client_node.proofs.Pulls.{no_refusal, same_refusal}
use Rattle.client_node.proofs.Sent.{tasks_of_writes}
use Rattle.client_node.proofs.WriteRefusals.{fit_refusal, fault_not_spent}

abbrev lists : List RowPair → Answer
lists pairs = facts.Pairs pairs

abbrev counts : List RowPair → Answer
counts pairs = facts.Number (length pairs)

-- ---- how many are listed

abbrev pairs_in : Answer → List RowPair
pairs_in (facts.Pairs pairs) = pairs
pairs_in other = []

counts_so : (b : Bool) (plan : ℕ) (t : TableDisk) (r : Result (List RowPair) CallFault) → IsAnswered lists (listed b (Some t)) r → IsAnswered counts (counted_if b plan [] t (Ok tt)) r
counts_so true plan t (Ok pairs) a = ap (λ (answer : Answer). facts.Number (length (pairs_in answer))) a
counts_so false plan t (Ok pairs) a = absurd cc
counts_so true plan t (Err e) a = λ refusal is. let no = a refusal is in absurd cc
counts_so false plan t (Err e) a = a

contended_so : (b : Bool) (o : Option TableDisk) (r : Result (List RowPair) CallFault) → IsAnswered lists (listed b o) r → IfOk r (λ pairs. IfSome o (λ opened. pairs ≡ pairs_of opened.rows))
contended_so b o (Err e) a = tt
contended_so b None (Ok pairs) a = tt
contended_so true (Some t) (Ok pairs) a = sym (ap pairs_in a)
contended_so false (Some t) (Ok pairs) a = absurd cc

-- ---- what is answered

module _ (c : ℕ) (d : ClientDevs) (disk : ClientDisk) (st : StandsFor c d disk) (table : ℕ) (by : Stored) (b : Bool) (plan : ℕ) (tasks : List ClientTask) where
  abbrev there : Option TableDisk
  there = table_at (seen disk) table

  abbrev answer : Answer
  answer = counted b plan tasks by there

  pub all_fault : (e : CallFault) → IsFault e → IsAnswered counts answer (Err e)
  all_fault e fault refusal is = no_refusal e refusal fault is

  pub all_closed : (e : CallFault) → ((e ≡ call.NoTable) × (record_at d table ≡ None)) ⊎ IsFault e → IsAnswered counts answer (Err e)
  all_closed e why refusal is = ⊎_elim
      (λ none. ap (counted b plan tasks by) (unopened_is c d disk st table none.1) ∙ ap facts.Refuses (same_refusal e call.NoTable refusal facts.NoTable none.0 refl is))
      (λ fault. no_refusal e refusal fault is) why

  module _ (found : TableRecord) (opened : record_at d table ≡ Some found) where
    -- of a table that is opened
    fit_at : (r : Result (Unit {0}) FitFault) → can_resolve found.schema by ≡ r → (t : TableDisk) × (there ≡ Some t) × (answer ≡ counted_if b plan tasks t r)
    fit_at r is =
        let at = opened_is c d disk st table found opened in
        (at.0, at.1, ap (counted b plan tasks by) at.1 ∙ ap (counted_if b plan tasks at.0) (ap (λ (s : Schema). can_resolve s by) (sym at.2.schema) ∙ is))

    pub all_unfit : (fault : FitFault) → can_resolve found.schema by ≡ Err fault → (e : CallFault) → e ≡ fit_fault_of fault → IsAnswered counts answer (Err e)
    all_unfit fault is e told refusal of =
        (fit_at (Err fault) is).2 ∙ ap facts.Refuses (same_refusal e (fit_fault_of fault) refusal (facts.Unfit fault) told (fit_refusal fault) of)

    module _ (can : can_resolve found.schema by ≡ Ok tt) where
      pub all_busy : (tasks ≡ [] → ⊥) → (e : CallFault) → e ≡ call.Busy plan → IsAnswered counts answer (Err e)
      all_busy some e told refusal of =
          (fit_at (Ok tt) can).2 ∙ (pick tasks some ∙ ap facts.Refuses (same_refusal e (call.Busy plan) refusal (facts.Busy plan) told refl of))
        where
          pick : (l : List ClientTask) → (l ≡ [] → ⊥) → counted_if b plan l (fit_at (Ok tt) can).0 (Ok tt) ≡ facts.Refuses (facts.Busy plan)
          pick [] some = absurd (some refl)
          pick (task ∷ more) some = refl

      pub all_listed : tasks ≡ [] → (r : Result (List RowPair) CallFault) → IsAnswered lists (listed b there) r → IsAnswered counts answer r
      all_listed none r a =
          let f = fit_at (Ok tt) can in
          let here : counted_if b plan [] f.0 (Ok tt) ≡ answer = sym (f.2 ∙ ap (λ (l : List ClientTask). counted_if b plan l f.0 (Ok tt)) none) in
          subst (λ (x : Answer). IsAnswered counts x r) here (counts_so b plan f.0 r (subst (λ (o : Option TableDisk). IsAnswered lists (listed b o) r) f.1 a))

pub contended : (table : ℕ) (b : Bool) (disk : ClientDisk) (r : Result (List RowPair) CallFault) → IsAnswered lists (listed b (table_at (seen disk) table)) r → IfOk r (AreContended disk table)
contended table b disk r a = contended_so b (table_at (seen disk) table) r a

pub fit_not_disk : (fault : FitFault) → IsNotDisk {T = List RowPair} (Err (fit_fault_of fault))
fit_not_disk (fits.BadCell column) is = cc
fit_not_disk (fits.BadObject column len) is = cc
fit_not_disk (fits.RowTooLarge len) is = cc
fit_not_disk (fits.TooManyChunks count) is = cc

-- no call that lists them runs out of numbers
pub list_unspent : (r : Result (List RowPair) CallFault) → IfErr r (λ e. (e ≡ call.NoTable) ⊎ ((e ≡ call.NotInResolution) ⊎ IsFault e)) → (last : ℕ) → IsErrOf r (call.Spent last) → ⊥
list_unspent (Ok pairs) h last is = cc
list_unspent (Err e) h last is =
    let same : e ≡ call.Spent last = of_err e (call.Spent last) is in
    ⊎_elim (λ none. let no : call.NoTable ≡ call.Spent last = sym none ∙ same in cc)
    (λ more. ⊎_elim (λ closed. let no : call.NotInResolution ≡ call.Spent last = sym closed ∙ same in cc) (λ fault. fault_not_spent e last fault same) more) h

pub unopened_unspent : (e : CallFault) (d : ClientDevs) (table last : ℕ) → ((e ≡ call.NoTable) × (record_at d table ≡ None)) ⊎ IsFault e → e ≡ call.Spent last → ⊥
unopened_unspent e d table last why is = ⊎_elim (λ none. let no : call.NoTable ≡ call.Spent last = sym none.0 ∙ is in cc) (λ fault. fault_not_spent e last fault is) why

-- ---- the call

-- a move that doesn't need the link
no_link : {X : Type 0} (up : Bool) (x y : X) → (if not up && false then x else y) ≡ y
no_link true x y = refl
no_link false x y = refl

module _ (disk : ClientDisk) (tasks : List ClientTask) (table : ℕ) (by : Stored) (shape : Shape) where
  abbrev kept_by : Bool → ClientStep → ClientStep
  kept_by b step = unless_kept (record { disk = disk; agenda = Some tasks }) (if_closed (is_before_phase (ResolveAll table by) step.answer) b) step

module _ (disk : ClientDisk) (table : ℕ) (by : Stored) (shape : Shape) where
  alls_if : (b : Bool) (tasks : List ClientTask) (t : TableDisk) (r : Result (Unit {0}) FitFault) → kept_by disk tasks table by shape b (all_fitting shape disk tasks t r) ≡ quiet disk (Some tasks) (counted_if b shape.plan tasks t r)
  alls_if true tasks t (Err fault) = refl
  alls_if false tasks t (Err fault) = refl
  alls_if true (task ∷ more) t (Ok fine) = refl
  alls_if false (task ∷ more) t (Ok fine) = refl
  alls_if true [] t (Ok fine) = refl
  alls_if false [] t (Ok fine) = refl

  alls_by : (b : Bool) (tasks : List ClientTask) (o : Option TableDisk) → kept_by disk tasks table by shape b (all_in shape disk tasks by o) ≡ quiet disk (Some tasks) (counted b shape.plan tasks by o)
  alls_by true tasks None = refl
  alls_by false tasks None = refl
  alls_by b tasks (Some t) = alls_if b tasks t (can_resolve t.schema by)

module _ {D : Type 0} (state : D → DiskState) (images : D → ℕ → List ℕ → Type 0) (only_now : (disk : FuseDisk D) (image : List ℕ) → images (inner_of disk) (behind state disk).moment image → IsImage (behind state disk).pending image) where
  abbrev im : FuseDisk D → ℕ → List ℕ → Type 0
  im f = images (inner_of f)

  abbrev at : ClientDisk → Option (List ClientTask) → Client
  at disk agenda = record { disk = disk; agenda = agenda }

  module _ (old : ClientNode D) (disk : ClientDisk) (table : ℕ) (by : Stored) (r : Result (List RowPair) CallFault) (client : Journal (FuseDisk D)) (k : Looks (λ f. behind state f) im old.devs client r)
      (unspent : (last : ℕ) → IsErrOf r (call.Spent last) → ⊥) (new : ClientNode D) (fell : IsErrOf r call.Disk → Fell state images (record old { devs = client }) new) (other : (IsErrOf r call.Disk → ⊥) → new ≡ record old { devs = client }) where
    abbrev plan : ℕ
    plan = plan_at_work (devs (λ f. behind state f) old.devs) (writes_of old.devs)

    abbrev answered : List ClientTask → Answer
    answered tasks = counted (is_open old table) plan tasks by (table_at (seen disk) table)

    step_is : (tasks : List ClientTask) (shape : Shape) → IsOfNode state old shape → step_with old shape (at disk (Some tasks)) (ResolveAll table by) ≡ quiet disk (Some tasks) (answered tasks)
    step_is tasks shape of =
        let step : ClientStep = all_in shape disk tasks by (table_at (seen disk) table) in
        ap (unless_kept (at disk (Some tasks)) (if_closed (is_before_phase (ResolveAll table by) step.answer) (is_open old table))) (no_link old.is_linked _ step)
        ∙ (alls_by disk table by shape (is_open old table) tasks (table_at (seen disk) table)
        ∙ ap (λ (n : ℕ). quiet disk (Some tasks) (counted (is_open old table) n tasks by (table_at (seen disk) table))) of.plan)

    pub lists_all : (agenda : Option (List ClientTask)) → IsClient state old (at disk agenda) → old.is_up ≡ true → ((tasks : List ClientTask) → AreTasksOf (writes_of old.devs) tasks → IsAnswered counts (answered tasks) r)
        → Does {T = List RowPair} state images (at disk agenda) (ResolveAll table by) counts old new r
    lists_all None t is_up a = let no = t.at.0 in absurd cc
    lists_all (Some tasks) t is_up a =
        does_quiet state images only_now old disk (Some tasks) t is_up (ResolveAll table by) counts (answered tasks) (λ shape of. step_is tasks shape of) r client k
        (a tasks (tasks_of_writes old.number (devs (λ f. behind state f) old.devs) (writes_of old.devs) disk tasks t.at.1.follows)) unspent new fell other
