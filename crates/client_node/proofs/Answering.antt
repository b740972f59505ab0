-- What a call promises, from what was done to the node's devices.
use Rattle.std.proofs.Common.{◌≡◌, ◌⊎◌, inl, inr, ℕ, suc, ◌<◌, ◌++◌, true, List, [], ◌∷◌, Option, Some, None, Result, Ok, Err, refl, sym, ◌∙◌, ap, subst, append-nil}
use Rattle.std.specs.Prelude.{IsErrOf}
use Rattle.disk_trait.specs.Image.{IsImage}
use Rattle.disk_trait.specs.Calls.{DiskState}
use Rattle.disk_trait.specs.Fuse.{behind, inner_of}
use Rattle.disk_trait.specs.declared.fuse.FuseDisk.{FuseDisk}
use Rattle.stab_base.specs.declared.limits.TheConstants.{NUMBER_MAX}
use Rattle.client_journal.specs.declared.devs.Journal.{Journal}
use Rattle.client_journal.specs.Plan.{plan_at_work}
use Rattle.client_journal.specs.Standing.{devs, writes_of}
use Rattle.step_tables.specs.Facts.{Answer, Refusal}
use Rattle.step_tables.specs.Facts as facts
use Rattle.step_tables.specs.ClientMoves.{ClientDisk, ClientTask, Client, ClientStep, ClientMove, Shape, quiet}
use Rattle.client_node.specs.declared.fault.CallFault.{CallFault}
use Rattle.client_node.specs.declared.fault.CallFault.TheVariants as call
use Rattle.client_node.specs.declared.node.ClientNode.{ClientNode}
use Rattle.client_node.specs.Node.{IsClient, IsNode, IsSame, told_by, sent_by, own_faults, LeavesEither, HasPlansBelow}
use Rattle.client_node.specs.Calls.{Fell, Stays, IsBehind}
use Rattle.client_node.specs.Looks.{IsNotDisk, Serves, Looks}
use Rattle.client_node.specs.Does.{Does, IsOfNode, HasNoNumber, step_with, refusal_in}
use Rattle.client_node.specs.Answers.{IsAnswered, IsFault}
use Rattle.client_node.proofs.OwnFaults.{own_kept, fresh_now}
use Rattle.client_node.proofs.Asked.{IsMid, mid_devs, again, call_leaves, call_plans, call_fell, call_fell_leaves, call_fell_plans, call_fell_cause}

pub disk_or : (e : CallFault) → (e ≡ call.Disk) ⊎ (e ≡ call.Disk → ⊥)
disk_or call.NoTable = inr (λ is. cc)
disk_or (call.BadCell column) = inr (λ is. cc)
disk_or (call.BadObject column len) = inr (λ is. cc)
disk_or (call.RowTooLarge len) = inr (λ is. cc)
disk_or (call.TooManyChunks count) = inr (λ is. cc)
disk_or call.NoRow = inr (λ is. cc)
disk_or (call.Busy with) = inr (λ is. cc)
disk_or call.NotInResolution = inr (λ is. cc)
disk_or call.InResolution = inr (λ is. cc)
disk_or call.NoConflict = inr (λ is. cc)
disk_or (call.Moved seen now) = inr (λ is. cc)
disk_or call.Offline = inr (λ is. cc)
disk_or (call.Outstanding number) = inr (λ is. cc)
disk_or (call.Conflicted version) = inr (λ is. cc)
disk_or (call.Spent last) = inr (λ is. cc)
disk_or call.Disk = inl refl
disk_or call.Memory = inr (λ is. cc)

pub of_err : {T : Type 0} (e f : CallFault) → IsErrOf {T = T} (Err e) f → e ≡ f
of_err e f is = cc

pub as_err : {T : Type 0} (e f : CallFault) → e ≡ f → IsErrOf {T = T} (Err e) f
as_err e f same = ap (λ (x : CallFault). Err x) same

module _ {D : Type 0} (state : D → DiskState) (images : D → ℕ → List ℕ → Type 0) (only_now : (disk : FuseDisk D) (image : List ℕ) → images (inner_of disk) (behind state disk).moment image → IsImage (behind state disk).pending image) where
  abbrev st : FuseDisk D → DiskState
  st f = behind state f

  abbrev im : FuseDisk D → ℕ → List ℕ → Type 0
  im f = images (inner_of f)

  abbrev at : ClientDisk → Option (List ClientTask) → Client
  at disk agenda = record { disk = disk; agenda = agenda }

  -- the shape of a call that begins no plan
  abbrev pub shape_now : ClientNode D → Shape
  shape_now node = record { plan = plan_at_work (devs st node.devs) (writes_of node.devs); before = []; after = []; torn = None }

  module _ (old : ClientNode D) (disk : ClientDisk) (agenda : Option (List ClientTask)) (t : IsClient state old (at disk agenda)) (is_up : old.is_up ≡ true) (move : ClientMove) where
    -- the devices hold what they held, and have the same to do
    pub stays : {T : Type 0} (r : Result T CallFault) (mid : ClientNode D) → IsMid old mid → Serves st im old.devs mid.devs r → IsNotDisk r → writes_of mid.devs ≡ writes_of old.devs → Stays state old mid (at disk agenda)
    stays r mid m k n writes = record {
      client = again state images old mid m (k.same n) (k.up n) k.fuse (k.ready n) writes disk agenda t is_up;
      told = m.told;
      sent = m.sent;
      same = record { number = m.number; linked = m.linked };
    }

    -- no disk has failed
    counted_with : {T : Type 0} (r : Result T CallFault) (client : Journal (FuseDisk D)) → Serves st im old.devs client r → IsNotDisk r → (new : ClientNode D) → new.devs ≡ client → own_faults state new ≡ own_faults state old
    counted_with r client k n new is =
        ap (λ (d : Journal (FuseDisk D)). own_faults state (record new { devs = d })) is ∙ own_kept state old (record new { devs = client }) (fresh_now state old disk agenda t) k.fuse (k.counted n)

    -- a call that is refused
    pub does_err : {S T : Type 0} (said : T → Answer) (e : CallFault) (mid : ClientNode D) → IsMid old mid → Serves {T = S} st im old.devs mid.devs (Err e)
        → ((refusal : Refusal) (shape : Shape) → refusal_in e ≡ Some refusal → IsOfNode state old shape → (step_with old shape (at disk agenda) move).answer ≡ facts.Refuses refusal)
        → ((last : ℕ) → e ≡ call.Spent last → (last ≡ NUMBER_MAX) × HasNoNumber state old disk)
        → (new : ClientNode D) → (IsErrOf {T = S} (Err e) call.Disk → Fell state images mid new) → ((IsErrOf {T = S} (Err e) call.Disk → ⊥) → new ≡ mid)
        → Does {T = T} state images (at disk agenda) move said old new (Err e)
    does_err {S} {T} said e mid m k refused spent new fell other = pick (disk_or e)
      where
        pick : (e ≡ call.Disk) ⊎ (e ≡ call.Disk → ⊥) → Does {T = T} state images (at disk agenda) move said old new (Err e)
        pick (inl same) =
            let is : IsErrOf {T = S} (Err e) call.Disk = as_err e call.Disk same in
            let f = fell is in
            record {
              done = tt;
              refused = refused;
              spent = λ last was. spent last (of_err e (call.Spent last) was);
              kept = λ n. absurd (n (as_err e call.Disk same));
              fallen = λ _. call_fell state images only_now old disk agenda t is_up (Err e) mid m k is new f;
              counted = λ n. absurd (n (as_err e call.Disk same));
              cause = λ _. call_fell_cause state images only_now old disk agenda t is_up (Err e) mid m k is new f;
              any_moment = call_fell_leaves state images only_now old disk agenda t is_up (Err e) mid m k is new f;
              plans = call_fell_plans state images only_now old disk agenda t is_up (Err e) mid m k is new f;
            }
        pick (inr apart) =
            let n : IsNotDisk {T = S} (Err e) = λ is. apart (of_err e call.Disk is) in
            subst (λ (x : ClientNode D). Does {T = T} state images (at disk agenda) move said old x (Err e)) (sym (other n))
            (record {
              done = tt;
              refused = refused;
              spent = λ last was. spent last (of_err e (call.Spent last) was);
              kept = λ _. stays (Err e) mid m k n k.refused;
              fallen = λ is. absurd (apart (of_err e call.Disk is));
              counted = λ _. own_kept state old mid (fresh_now state old disk agenda t) k.fuse (k.counted n);
              cause = λ is. absurd (apart (of_err e call.Disk is));
              any_moment = call_leaves state images only_now old disk agenda t is_up mid k.leave;
              plans = call_plans state images only_now old disk agenda t is_up mid (k.same n) k.refused;
            })

    -- memory was refused behind what was read
    pub does_short : {S T : Type 0} (said : T → Answer) (x : S) (client : Journal (FuseDisk D)) → Serves st im old.devs client (Ok x) → (new : ClientNode D) → new.devs ≡ client → writes_of client ≡ writes_of old.devs
        → Stays state old new (at disk agenda)
        → Does {T = T} state images (at disk agenda) move said old new (Err call.Memory)
    does_short {S} {T} said x client k new is writes s = record {
      done = tt;
      refused = λ refusal shape no. absurd cc;
      spent = λ last no. absurd cc;
      kept = λ _. s;
      fallen = λ no. absurd cc;
      counted = λ _. counted_with (Ok x) client k (λ no. cc) new is;
      cause = λ no. absurd cc;
      any_moment = subst (λ (d : Journal (FuseDisk D)). LeavesEither state images old (record new { devs = d }) disk disk) (sym is) (call_leaves state images only_now old disk agenda t is_up (record new { devs = client }) k.leave);
      plans = call_plans state images only_now old disk agenda t is_up new (ap (λ (d : Journal (FuseDisk D)). devs st d) is ∙ k.same (λ no. cc)) (ap (λ (d : Journal (FuseDisk D)). writes_of d) is ∙ writes);
    }

    -- a call that is done
    pub does_ok : {S T : Type 0} (said : T → Answer) (x : S) (value : T) (client : Journal (FuseDisk D)) → Serves st im old.devs client (Ok x) → (new : ClientNode D) → new.devs ≡ client
        → ((n : ℕ) → HasPlansBelow state n old → HasPlansBelow state (suc n) new) → (shape : Shape) → IsOfNode state old shape
        → IsBehind state old new (step_with old shape (at disk agenda) move) → (step_with old shape (at disk agenda) move).answer ≡ said value
        → Does {T = T} state images (at disk agenda) move said old new (Ok value)
    does_ok {S} {T} said x value client k new is plans shape of b answer = record {
      done = (shape, of, b, answer);
      refused = tt;
      spent = λ last no. absurd cc;
      kept = λ _. tt;
      fallen = λ no. absurd cc;
      counted = λ _. counted_with (Ok x) client k (λ no. cc) new is;
      cause = λ no. absurd cc;
      any_moment = subst (λ (d : Journal (FuseDisk D)). LeavesEither state images old (record new { devs = d }) disk disk) (sym is) (call_leaves state images only_now old disk agenda t is_up (record new { devs = client }) k.leave);
      plans = plans;
    }

    -- a call that reads alone
    module _ {T : Type 0} (said : T → Answer) (answer : Answer) (step_is : (shape : Shape) → IsOfNode state old shape → step_with old shape (at disk agenda) move ≡ quiet disk agenda answer) where
      pub does_quiet : (r : Result T CallFault) (client : Journal (FuseDisk D)) → Looks st im old.devs client r → IsAnswered said answer r → ((last : ℕ) → IsErrOf r (call.Spent last) → ⊥)
          → (new : ClientNode D) → (IsErrOf r call.Disk → Fell state images (record old { devs = client }) new) → ((IsErrOf r call.Disk → ⊥) → new ≡ record old { devs = client })
          → Does {T = T} state images (at disk agenda) move said old new r
      does_quiet (Ok value) client k a spent new fell other =
          let now : Shape = shape_now old in
          let of : IsOfNode state old now = record { plan = refl } in
          let s = stays (Ok value) (record old { devs = client }) (mid_devs old client) k.serves (λ no. cc) k.agenda in
          let b : IsBehind state old (record old { devs = client }) (quiet disk agenda answer) = record { client = s.client; told = sym (append-nil (told_by old)); sent = sym (append-nil (sent_by old)); same = s.same } in
          subst (λ (x : ClientNode D). Does {T = T} state images (at disk agenda) move said old x (Ok value)) (sym (other (λ no. cc)))
          (does_ok said value value client k.serves (record old { devs = client }) refl
          (call_plans state images only_now old disk agenda t is_up (record old { devs = client }) (k.serves.same (λ no. cc)) k.agenda) now of
          (subst (λ (x : ClientStep). IsBehind state old (record old { devs = client }) x) (sym (step_is now of)) b)
          (ap (λ (x : ClientStep). x.answer) (step_is now of) ∙ a))
      does_quiet (Err e) client k a spent new fell other =
          does_err said e (record old { devs = client }) (mid_devs old client) k.serves (λ refusal shape is of. ap (λ (x : ClientStep). x.answer) (step_is shape of) ∙ a refusal is) (λ last is. absurd (spent last (as_err e (call.Spent last) is))) new fell other

-- a node is in some state behind a call
pub does_node : {D T : Type 0} (state : D → DiskState) (images : D → ℕ → List ℕ → Type 0) (s : Client) (move : ClientMove) (said : T → Answer) (old new : ClientNode D) (r : Result T CallFault) → Does state images s move said old new r → IsNode state new
does_node state images s move said old new (Ok x) k = (_, k.done.2.client)
does_node {D} {T} state images s move said old new (Err e) k = pick (disk_or e)
  where
    pick : (e ≡ call.Disk) ⊎ (e ≡ call.Disk → ⊥) → IsNode state new
    pick (inl same) = (_, (k.fallen (as_err e call.Disk same)).client)
    pick (inr apart) = (_, (k.kept (λ is. apart (of_err e call.Disk is))).client)
