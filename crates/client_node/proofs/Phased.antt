-- A phase of a table begins or ends, call by call.
use Rattle.std.proofs.Common.{◌≡◌, ◌⊎◌, inl, inr, ⊎_elim, ℕ, Bool, true, false, List, [], Option, Some, None, Result, Ok, Err, refl, sym, ◌∙◌, ap, subst, append-nil, arith}
use Rattle.std.proofs.lemmas.Bool.Decides.{nat_tests}
use Rattle.std.specs.Prelude.{◌==◌, ◌||◌, cond, not, ◌&&◌, if◌then◌else◌, IsErrOf, IsSome, IfErr, OnOk}
use Rattle.std.specs.Ordering.{nat_cmp}
use Rattle.std.specs.BTreeMap.{is_at}
use Rattle.std.specs.BTreeSet.{BTreeSet, contains, Updates, UpdatesBy}
use Rattle.disk_trait.specs.Image.{IsImage}
use Rattle.disk_trait.specs.Calls.{DiskState}
use Rattle.disk_trait.specs.Fuse.{behind, inner_of}
use Rattle.disk_trait.specs.declared.fuse.FuseDisk.{FuseDisk}
use Rattle.slot_store.specs.declared.held.TableRecord.{TableRecord}
use Rattle.client_journal.specs.declared.devs.Journal.{Journal}
use Rattle.client_journal.specs.Standing.{devs}
use Rattle.step_tables.specs.Facts.{Answer, Refusal}
use Rattle.step_tables.specs.Facts as facts
use Rattle.step_tables.specs.ClientMoves.{TableDisk, ClientDisk, ClientTask, Client, ClientStep, ClientMove, BeginCr, EndCr, Shape, quiet, phase_in, table_at, seen, if_open, if_closed, is_before_phase}
use Rattle.client_node.specs.declared.fault.CallFault.{CallFault}
use Rattle.client_node.specs.declared.fault.CallFault.TheVariants as call
use Rattle.client_node.specs.declared.node.ClientNode.{ClientNode}
use Rattle.client_node.specs.Answers.{record_at, IsFault}
use Rattle.client_node.specs.Calls.{Fell, IsBehind}
use Rattle.client_node.specs.Does.{Does, step_with, refusal_in}
use Rattle.client_node.specs.Linked.{unless_kept}
use Rattle.client_node.specs.Looks.{IsNotDisk, Looks}
use Rattle.client_node.specs.Node.{IsClient, StandsFor, told_by, sent_by}
use Rattle.client_node.specs.Phases.{is_open}
use Rattle.client_node.specs.Resolving.{IsUnphased}
use Rattle.client_node.proofs.Answering.{does_err, does_short, does_ok, stays, shape_now, of_err}
use Rattle.client_node.proofs.Asked.{IsMid, mid_devs, stands_now, call_plans}
use Rattle.client_node.proofs.Links.{opened_is, unopened_is}
use Rattle.client_node.proofs.Pulls.{no_refusal, same_refusal}
use Rattle.client_node.proofs.WriteRefusals.{fault_not_spent}

abbrev at : ClientDisk → List ClientTask → Client
at disk tasks = record { disk = disk; agenda = Some tasks }

-- ---- what the step table makes of these moves

-- a move that doesn't need the link
pub no_link : {X : Type 0} (up : Bool) (x y : X) → (if not up && false then x else y) ≡ y
no_link true x y = refl
no_link false x y = refl

-- the phase is looked at behind the table
open_behind : (b : Bool) → if_open true b ≡ None
open_behind true = refl
open_behind false = refl

closed_behind : (b : Bool) → if_closed true b ≡ None
closed_behind true = refl
closed_behind false = refl

abbrev begin_by : Bool → ClientDisk → List ClientTask → ℕ → Option TableDisk → ClientStep
begin_by b disk tasks table o =
    unless_kept (at disk tasks) (if_open (is_before_phase (BeginCr table) (phase_in disk tasks o).answer) b) (phase_in disk tasks o)

abbrev end_by : Bool → ClientDisk → List ClientTask → ℕ → Option TableDisk → ClientStep
end_by b disk tasks table o =
    unless_kept (at disk tasks) (if_closed (is_before_phase (EndCr table) (phase_in disk tasks o).answer) b) (phase_in disk tasks o)

-- What a move of phases comes to: its table isn't opened, it is refused where the phase is wrong, or it is done.
pub record IsPhaseMove {D : Type 0} (old : ClientNode D) (disk : ClientDisk) (tasks : List ClientTask) (table : ℕ) (move : ClientMove) (fault : CallFault) (wrong : Bool) : Type 0 where
  pub why : Refusal
  pub fault_is : refusal_in fault ≡ Some why
  pub closed : (shape : Shape) → table_at (seen disk) table ≡ None → (step_with old shape (at disk tasks) move).answer ≡ facts.Refuses facts.NoTable
  pub kept : (shape : Shape) (o : TableDisk) → table_at (seen disk) table ≡ Some o → wrong ≡ true → (step_with old shape (at disk tasks) move).answer ≡ facts.Refuses why
  pub done : (shape : Shape) (o : TableDisk) → table_at (seen disk) table ≡ Some o → wrong ≡ false → step_with old shape (at disk tasks) move ≡ quiet disk (Some tasks) facts.Done

module _ {D : Type 0} (old : ClientNode D) (disk : ClientDisk) (tasks : List ClientTask) (table : ℕ) where
  abbrev there : Option TableDisk
  there = table_at (seen disk) table

  begin_steps : (shape : Shape) → step_with old shape (at disk tasks) (BeginCr table) ≡ begin_by (is_open old table) disk tasks table there
  begin_steps shape = ap (unless_kept (at disk tasks) (if_open (is_before_phase (BeginCr table) (phase_in disk tasks there).answer) (is_open old table))) (no_link old.is_linked _ (phase_in disk tasks there))

  end_steps : (shape : Shape) → step_with old shape (at disk tasks) (EndCr table) ≡ end_by (is_open old table) disk tasks table there
  end_steps shape = ap (unless_kept (at disk tasks) (if_closed (is_before_phase (EndCr table) (phase_in disk tasks there).answer) (is_open old table))) (no_link old.is_linked _ (phase_in disk tasks there))

  pub begins : (b : Bool) → b ≡ is_open old table → IsPhaseMove old disk tasks table (BeginCr table) call.InResolution b
  begins b same = record {
    why = facts.InResolution;
    fault_is = refl;
    closed = λ shape none. ap (λ (s : ClientStep). s.answer)
        (begin_steps shape ∙ (ap (begin_by (is_open old table) disk tasks table) none ∙ ap (λ (o : Option Refusal). unless_kept (at disk tasks) o (phase_in disk tasks None)) (open_behind (is_open old table))));
    kept = λ shape o some is. ap (λ (s : ClientStep). s.answer)
        (begin_steps shape ∙ (ap (begin_by (is_open old table) disk tasks table) some ∙ ap (λ (x : Bool). begin_by x disk tasks table (Some o)) (sym same ∙ is)));
    done = λ shape o some is. begin_steps shape ∙ (ap (begin_by (is_open old table) disk tasks table) some ∙ ap (λ (x : Bool). begin_by x disk tasks table (Some o)) (sym same ∙ is));
  }

  not_true : (b : Bool) → not b ≡ true → b ≡ false
  not_true true is = absurd cc
  not_true false is = refl

  not_false : (b : Bool) → not b ≡ false → b ≡ true
  not_false true is = refl
  not_false false is = absurd cc

  pub ends : (b : Bool) → b ≡ is_open old table → IsPhaseMove old disk tasks table (EndCr table) call.NotInResolution (not b)
  ends b same = record {
    why = facts.NotInResolution;
    fault_is = refl;
    closed = λ shape none. ap (λ (s : ClientStep). s.answer)
        (end_steps shape ∙ (ap (end_by (is_open old table) disk tasks table) none ∙ ap (λ (o : Option Refusal). unless_kept (at disk tasks) o (phase_in disk tasks None)) (closed_behind (is_open old table))));
    kept = λ shape o some is. ap (λ (s : ClientStep). s.answer)
        (end_steps shape ∙ (ap (end_by (is_open old table) disk tasks table) some ∙ ap (λ (x : Bool). end_by x disk tasks table (Some o)) (sym same ∙ not_true b is)));
    done = λ shape o some is. end_steps shape ∙ (ap (end_by (is_open old table) disk tasks table) some ∙ ap (λ (x : Bool). end_by x disk tasks table (Some o)) (sym same ∙ not_false b is));
  }

-- ---- the tables of which a phase is open

numbers_more : (k q : ℕ) (b : Bool) → cond (is_at (nat_cmp k) q) true b ≡ (k == q || b)
numbers_more k q b = grind (arith, nat_tests)

numbers_less : (k q : ℕ) (b : Bool) → cond (is_at (nat_cmp k) q) false b ≡ (not (k == q) && b)
numbers_less k q b = grind (arith, nat_tests)

-- with one more, and with one less
pub one_more : (old new : BTreeSet ℕ) (k : ℕ) → Updates nat_cmp old new k true → (q : ℕ) → contains nat_cmp new q ≡ (k == q || contains nat_cmp old q)
one_more old new k u q = u.0 q ∙ numbers_more k q (contains nat_cmp old q)

pub one_less : (old new : BTreeSet ℕ) (k : ℕ) → UpdatesBy nat_cmp (nat_cmp k) old new false → (q : ℕ) → contains nat_cmp new q ≡ (not (k == q) && contains nat_cmp old q)
one_less old new k u q = u.0 q ∙ numbers_less k q (contains nat_cmp old q)

-- ---- what is looked at

module _ (fault : CallFault) (other : fault ≡ call.Disk → ⊥) where
  -- a check of the phase reads no disk
  pub not_disk : (P : Type 0) (r : Result (Unit {0}) CallFault) → IfErr r (λ e. P × (e ≡ fault)) → IsNotDisk r
  not_disk P (Ok x) k is = cc
  not_disk P (Err e) k is = other (sym k.1 ∙ of_err e call.Disk is)

pub unphased : (o : Option TableRecord) (fault : CallFault) (wrong : Bool) → IsSome o → (r : Result (Unit {0}) CallFault) → IfErr r (λ e. (wrong ≡ true) × (e ≡ fault)) → IfErr r (IsUnphased o fault wrong)
unphased o fault wrong some (Ok x) k = tt
unphased o fault wrong some (Err e) k = inr (inl (some, k.0, k.1))

pub turned : (fault : CallFault) (b : Bool) (r : Result (Unit {0}) CallFault) → IfErr r (λ e. (b ≡ false) × (e ≡ fault)) → IfErr r (λ e. (not b ≡ true) × (e ≡ fault))
turned fault b (Ok x) k = tt
turned fault b (Err e) k = (ap not k.0, k.1)

-- ---- the calls

none_spent : (last : ℕ) (e fault : CallFault) (why : Refusal) → refusal_in fault ≡ Some why → e ≡ fault → e ≡ call.Spent last → ⊥
none_spent last e fault why fault_is same is = let no : Some why ≡ None = sym fault_is ∙ ap refusal_in (sym same ∙ is) in cc

some_record : (o : Option TableRecord) → IsSome o → (found : TableRecord) × (o ≡ Some found)
some_record None is = absurd cc
some_record (Some found) is = (found, refl)

module _ {D : Type 0} (state : D → DiskState) (images : D → ℕ → List ℕ → Type 0) (only_now : (disk : FuseDisk D) (image : List ℕ) → images (inner_of disk) (behind state disk).moment image → IsImage (behind state disk).pending image) where
  abbrev st : FuseDisk D → DiskState
  st f = behind state f

  abbrev im : FuseDisk D → ℕ → List ℕ → Type 0
  im f = images (inner_of f)

  abbrev said : Unit {0} → Answer
  said value = facts.Done

  module _ (old : ClientNode D) (disk : ClientDisk) (tasks : List ClientTask) (t : IsClient state old (at disk tasks)) (is_up : old.is_up ≡ true) (table : ℕ) (move : ClientMove) (fault : CallFault) (wrong : Bool)
      (m : IsPhaseMove old disk tasks table move fault wrong) (client : Journal (FuseDisk D)) where
    here : StandsFor old.number (devs st old.devs) disk
    here = stands_now state images old disk (Some tasks) t is_up

    pub phase_refused : (e : CallFault) → Looks {T = Unit {0}} st im old.devs client (Err e) → IsUnphased (record_at (devs st old.devs) table) fault wrong e
        → (new : ClientNode D) → (IsErrOf {T = Unit {0}} (Err e) call.Disk → Fell state images (record old { devs = client }) new)
        → ((IsErrOf {T = Unit {0}} (Err e) call.Disk → ⊥) → new ≡ record old { devs = client })
        → Does {T = Unit {0}} state images (at disk tasks) move said old new (Err e)
    phase_refused e k why new fell other =
        does_err state images only_now old disk (Some tasks) t is_up move said e (record old { devs = client }) (mid_devs old client) k.serves
        (λ refusal shape is of. ⊎_elim
        (λ none. m.closed shape (unopened_is old.number (devs st old.devs) disk here table none.1) ∙ ap facts.Refuses (same_refusal e call.NoTable refusal facts.NoTable none.0 refl is))
        (λ rest. ⊎_elim
        (λ kept.
        let found = some_record (record_at (devs st old.devs) table) kept.0 in
        let o = opened_is old.number (devs st old.devs) disk here table found.0 found.1 in
        m.kept shape o.0 o.1 kept.1 ∙ ap facts.Refuses (same_refusal e fault refusal m.why kept.2 m.fault_is is))
        (λ f. no_refusal e refusal f is) rest) why)
        (λ last is. absurd (⊎_elim
        (λ none. let no : call.NoTable ≡ call.Spent last = sym none.0 ∙ is in cc)
        (λ rest. ⊎_elim (λ kept. none_spent last e fault m.why m.fault_is kept.2 is) (λ f. fault_not_spent e last f is) rest) why))
        new fell other

    module _ (k : Looks {T = Unit {0}} st im old.devs client (Ok tt)) (phases : BTreeSet ℕ) where
      abbrev new : ClientNode D
      new = record old { devs = client; phases = phases }

      mid : IsMid old new
      mid = record {
        number = refl;
        linked = refl;
        up = refl;
        declared = refl;
        told = refl;
        sent = refl;
        owed = refl;
        fact_room = λ h. h;
        message_room = λ h. h;
        more = record { outs = λ k h. h; ready = λ k h. h; conflicts = λ k h. h };
      }

      -- memory was refused for one phase more
      pub phase_short : Does {T = Unit {0}} state images (at disk tasks) move said old new (Err call.Memory)
      phase_short =
          does_short state images only_now old disk (Some tasks) t is_up move said tt client k.serves new refl k.agenda
          (stays state images only_now old disk (Some tasks) t is_up move (Ok tt) new mid k.serves (λ no. cc) k.agenda)

      pub phase_done : IsSome (record_at (devs st old.devs) table) → wrong ≡ false → Does {T = Unit {0}} state images (at disk tasks) move said old new (Ok tt)
      phase_done some right =
          let now : Shape = shape_now state images only_now old in
          let found = some_record (record_at (devs st old.devs) table) some in
          let o = opened_is old.number (devs st old.devs) disk here table found.0 found.1 in
          let step = m.done now o.0 o.1 right in
          let s = stays state images only_now old disk (Some tasks) t is_up move (Ok tt) new mid k.serves (λ no. cc) k.agenda in
          let b : IsBehind state old new (quiet disk (Some tasks) facts.Done) =
          record { client = s.client; told = sym (append-nil (told_by old)); sent = sym (append-nil (sent_by old)); same = s.same } in
          does_ok state images only_now old disk (Some tasks) t is_up move said tt tt client k.serves new refl
          (call_plans state images only_now old disk (Some tasks) t is_up new (k.serves.same (λ no. cc)) k.agenda) now (record { plan = refl })
          (subst (λ (x : ClientStep). IsBehind state old new x) (sym step) b) (ap (λ (x : ClientStep). x.answer) step)

  -- ---- whatever is to be done

  module _ (old : ClientNode D) (disk : ClientDisk) (table : ℕ) (move : ClientMove) (fault : CallFault) (wrong : Bool) (moves : (tasks : List ClientTask) → IsPhaseMove old disk tasks table move fault wrong)
      (found : Result (Unit {0}) CallFault) (client : Journal (FuseDisk D)) (k : Looks st im old.devs client found) where
    abbrev s : Option (List ClientTask) → Client
    s agenda = record { disk = disk; agenda = agenda }

    abbrev LooksSo : Result (Unit {0}) CallFault → Type 0
    LooksSo r = Looks st im old.devs client r

    pub by_err : IfErr found (IsUnphased (record_at (devs st old.devs) table) fault wrong) → (agenda : Option (List ClientTask)) → IsClient state old (s agenda) → old.is_up ≡ true → (e : CallFault) → Err e ≡ found
        → (new : ClientNode D) → (IsErrOf {T = Unit {0}} (Err e) call.Disk → Fell state images (record old { devs = client }) new)
        → ((IsErrOf {T = Unit {0}} (Err e) call.Disk → ⊥) → new ≡ record old { devs = client })
        → Does {T = Unit {0}} state images (s agenda) move said old new (Err e)
    by_err why None t is_up e same new fell other = let no = t.at.0 in absurd cc
    by_err why (Some tasks) t is_up e same new fell other =
        phase_refused old disk tasks t is_up table move fault wrong (moves tasks) client e (subst LooksSo (sym same) k)
        (subst (λ (r : Result (Unit {0}) CallFault). IfErr r (IsUnphased (record_at (devs st old.devs) table) fault wrong)) (sym same) why) new fell other

    -- the node behind what its devices were asked
    module _ (same : Ok tt ≡ found) (node : ClientNode D) (is : node ≡ record old { devs = client }) (phases : BTreeSet ℕ) where
      pub by_short : (agenda : Option (List ClientTask)) → IsClient state old (s agenda) → old.is_up ≡ true → Does {T = Unit {0}} state images (s agenda) move said old (record node { phases = phases }) (Err call.Memory)
      by_short None t is_up = let no = t.at.0 in absurd cc
      by_short (Some tasks) t is_up =
          subst (λ (n : ClientNode D). Does {T = Unit {0}} state images (s (Some tasks)) move said old (record n { phases = phases }) (Err call.Memory)) (sym is)
          (phase_short old disk tasks t is_up table move fault wrong (moves tasks) client (subst LooksSo (sym same) k) phases)

      pub by_ok : OnOk found (IsSome (record_at (devs st old.devs) table)) → OnOk found (wrong ≡ false) → (agenda : Option (List ClientTask)) → IsClient state old (s agenda) → old.is_up ≡ true
          → Does {T = Unit {0}} state images (s agenda) move said old (record node { phases = phases }) (Ok tt)
      by_ok some right None t is_up = let no = t.at.0 in absurd cc
      by_ok some right (Some tasks) t is_up =
          let opened = subst (λ (r : Result (Unit {0}) CallFault). OnOk r (IsSome (record_at (devs st old.devs) table))) (sym same) some in
          let holds = subst (λ (r : Result (Unit {0}) CallFault). OnOk r (wrong ≡ false)) (sym same) right in
          subst (λ (n : ClientNode D). Does {T = Unit {0}} state images (s (Some tasks)) move said old (record n { phases = phases }) (Ok tt)) (sym is)
          (phase_done old disk tasks t is_up table move fault wrong (moves tasks) client (subst LooksSo (sym same) k) phases opened holds)
