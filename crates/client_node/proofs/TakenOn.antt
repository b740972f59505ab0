-- What a call promises that takes a prepared write on.
use Rattle.std.proofs.Common.{◌≡◌, ◌⊎◌, inl, ℕ, ◌≤◌, true, List, [], ◌∷◌, Option, Some, None, Result, Ok, Err, refl, sym, ◌∙◌, ap, subst, arith}
use Rattle.std.specs.Prelude.{IfOk, IfErr, IsErrOf}
use Rattle.disk_trait.specs.Image.{IsImage}
use Rattle.disk_trait.specs.Calls.{DiskState}
use Rattle.disk_trait.specs.Fuse.{behind, inner_of}
use Rattle.disk_trait.specs.declared.fuse.FuseDisk.{FuseDisk}
use Rattle.stab_base.specs.declared.limits.TheConstants.{NUMBER_MAX}
use Rattle.client_journal.specs.declared.devs.Journal.{Journal}
use Rattle.client_journal.specs.Devs.{ClientDevs}
use Rattle.client_journal.specs.NamedSlots.{IsAtRest}
use Rattle.client_journal.specs.Plan.{IsPlan}
use Rattle.client_journal.specs.Redone.{redone}
use Rattle.client_journal.specs.Standing.{devs, writes_of}
use Rattle.step_tables.specs.Facts.{Answer, Number}
use Rattle.step_tables.specs.ClientMoves.{ClientDisk, ClientTask, Client, ClientMove, Shape, seen}
use Rattle.journal_laws.proofs.Seen.{seen_held}
use Rattle.client_node.specs.declared.fault.CallFault.{CallFault}
use Rattle.client_node.specs.declared.fault.CallFault.TheVariants as call
use Rattle.client_node.specs.declared.node.ClientNode.{ClientNode}
use Rattle.client_node.specs.declared.preparing.Prepared.{Prepared}
use Rattle.client_node.specs.Calls.{Fell}
use Rattle.client_node.specs.Carrying.{Carries}
use Rattle.client_node.specs.Does.{Does, IsOfNode}
use Rattle.client_node.specs.Looks.{Looks}
use Rattle.client_node.specs.Node.{IsClient}
use Rattle.client_node.specs.Phases.{is_open}
use Rattle.client_node.specs.Preparing.{IsCalled, IsPrepared, Prepares, MayBegin}
use Rattle.client_node.proofs.Answering.{does_err, as_err}
use Rattle.client_node.proofs.Asked.{mid_devs, stands_now, steady_now}
use Rattle.client_node.proofs.Planned.{at_rest}
use Rattle.client_node.proofs.Sent.{tasks_of_writes}
use Rattle.client_node.proofs.Steadies.{steady_seen}
use Rattle.client_node.proofs.TakenPlans.{idle_at, shape_of, does_carried, does_uncarried, client_up, client_ready, client_idle, client_rests}

-- a refusal that is handed on, and a call that had none
pub handed_on : {T : Type 0} (S : Type 0) (r : Result T CallFault) (e : CallFault) → Err e ≡ r → IfErr r (λ f. IsErrOf {T = S} (Err e) f)
handed_on {T} S r e is = subst (λ (q : Result T CallFault). IfErr q (λ f. IsErrOf {T = S} (Err e) f)) is (as_err {T = S} e e refl)

pub none_handed_on : {T S : Type 0} (r : Result T CallFault) (x : T) (q : Result S CallFault) → Ok x ≡ r → IfErr r (λ f. IsErrOf q f)
none_handed_on {T} r x q is = subst (λ (p : Result T CallFault). IfErr p (λ f. IsErrOf q f)) is tt

module _ {D : Type 0} (state : D → DiskState) (images : D → ℕ → List ℕ → Type 0)
    (only_now : (disk : FuseDisk D) (image : List ℕ) → images (inner_of disk) (behind state disk).moment image → IsImage (behind state disk).pending image) where
  abbrev st : FuseDisk D → DiskState
  st f = behind state f

  abbrev im : FuseDisk D → ℕ → List ℕ → Type 0
  im f = images (inner_of f)

  abbrev at : ClientDisk → Option (List ClientTask) → Client
  at disk agenda = record { disk = disk; agenda = agenda }

  abbrev said : ℕ → Answer
  said number = Number number

  -- ---- it isn't prepared

  module _ (old : ClientNode D) (disk : ClientDisk) (tasks : List ClientTask) (t : IsClient state old (at disk (Some tasks))) (is_up : old.is_up ≡ true) (move : ClientMove) (client : Journal (FuseDisk D)) where
    abbrev here : ClientDevs
    here = devs st old.devs

    called : (shape : Shape) → IsOfNode state old shape → IsCalled st old.devs old.waiting old.number disk tasks shape
    called shape of =
        let its = tasks_of_writes old.number here (writes_of old.devs) disk tasks t.at.1.follows in
        record {
          stands = stands_now state images old disk (Some tasks) t is_up;
          steady = steady_now state images old disk (Some tasks) t is_up;
          rests = λ none. at_rest state old disk (subst (λ (l : List ClientTask). IsClient state old (at disk (Some l))) (its.none none) t) none;
          tasks_are = its;
          work = of.plan;
        }

    -- the last number of a write is given
    last_given : NUMBER_MAX ≤ (redone here).last → (seen disk).last ≡ NUMBER_MAX
    last_given most =
        let s = stands_now state images old disk (Some tasks) t is_up in
        let same = (seen_held old.number s.0 here disk s.1).last_is in
        let few = (steady_seen old.waiting disk (steady_now state images old disk (Some tasks) t is_up)).few in
        omega (arith, most, same, few)

    unprepared : (e : CallFault) → Looks {T = Prepared} st im old.devs client (Err e) → Prepares st old.devs old.waiting (is_open old) old.is_linked old.number move (Err e)
        → (new : ClientNode D) → (IsErrOf {T = Prepared} (Err e) call.Disk → Fell state images (record old { devs = client }) new)
        → ((IsErrOf {T = Prepared} (Err e) call.Disk → ⊥) → new ≡ record old { devs = client })
        → Does {T = ℕ} state images (at disk (Some tasks)) move said old new (Err e)
    unprepared e k a new fell other =
        does_err state images only_now old disk (Some tasks) t is_up move said e (record old { devs = client }) (mid_devs old client) k.serves
        (λ refusal shape is of. a.refused disk tasks shape (called shape of) refusal is)
        (λ last is. let s = a.spent last (as_err e (call.Spent last) is) in (s.0, inl (last_given s.1))) new fell other

  -- ---- it is

  module _ (old : ClientNode D) (disk : ClientDisk) (t : IsClient state old (at disk (Some []))) (is_up : old.is_up ≡ true) (idle : writes_of old.devs ≡ []) (move : ClientMove) (x : Prepared) (client : Journal (FuseDisk D))
      (k : Looks st im old.devs client (Ok x)) (a : Prepares st old.devs old.waiting (is_open old) old.is_linked old.number move (Ok x)) where
    prepared : IsPrepared (devs st old.devs) (is_open old) old.is_linked old.number move disk (idle_at state images only_now old disk t is_up idle).stands.0 x
    prepared = a.prepared disk (idle_at state images only_now old disk t is_up idle)

    may_take : MayBegin st client x
    may_take = record {
      up = client_up state images only_now old disk t is_up idle x client k x.planned [];
      idle = client_idle state images only_now old disk t is_up idle x client k x.planned [];
      ready = client_ready state images only_now old disk t is_up idle x client k x.planned [];
      rests = client_rests state images only_now old disk t is_up idle x client k x.planned [];
      plan = subst (λ (d : ClientDevs). IsPlan d x.planned.plan) (sym (k.serves.same (λ no. cc))) prepared.readied.taken;
    }

    carried : (result : Result (Unit {0}) CallFault) (mid new : ClientNode D) → mid ≡ record old { devs = client } → Carries state images mid new x.planned [] result
        → (r : Result ℕ CallFault) → ((e : CallFault) → result ≡ Err e → r ≡ Err e) → (result ≡ Ok tt → r ≡ Ok x.number) → Does {T = ℕ} state images (at disk (Some [])) move said old new r
    carried (Ok value) mid new is c r err ok =
        let q = prepared in
        let carries = subst (λ (y : ClientNode D). Carries state images y new x.planned [] (Ok value)) is c in
        let shape : Shape = shape_of state images only_now old disk t is_up idle x client k x.planned [] q.p q.sends q.readied in
        subst (λ (z : Result ℕ CallFault). Does {T = ℕ} state images (at disk (Some [])) move said old new z) (sym (ok refl))
        (does_carried state images only_now old disk t is_up idle x client k x.planned [] q.p q.sends q.readied new carries.done carries.serves move said x.number (Number x.number) (q.step shape) refl)
    carried (Err e) mid new is c r err ok =
        let carries = subst (λ (y : ClientNode D). Carries state images y new x.planned [] (Err e)) is c in
        subst (λ (z : Result ℕ CallFault). Does {T = ℕ} state images (at disk (Some [])) move said old new z) (sym (err e refl))
        (does_uncarried state images only_now old disk t is_up idle x client k x.planned [] new e carries.refused move said)

  -- ---- whatever is to be done

  module _ (old : ClientNode D) (disk : ClientDisk) (move : ClientMove) (found : Result Prepared CallFault) (client : Journal (FuseDisk D))
      (k : Looks st im old.devs client found) (a : Prepares st old.devs old.waiting (is_open old) old.is_linked old.number move found) where
    abbrev LooksSo : Result Prepared CallFault → Type 0
    LooksSo r = Looks st im old.devs client r

    abbrev PreparesSo : Result Prepared CallFault → Type 0
    PreparesSo r = Prepares st old.devs old.waiting (is_open old) old.is_linked old.number move r

    no_task : (task : ClientTask) (more : List ClientTask) → IsClient state old (at disk (Some (task ∷ more))) → writes_of old.devs ≡ [] → {P : Type 0} → P
    no_task task more t idle = absurd (let none = (tasks_of_writes old.number (devs st old.devs) (writes_of old.devs) disk (task ∷ more) t.at.1.follows).none idle in cc)

    pub may_begin : (agenda : Option (List ClientTask)) → IsClient state old (at disk agenda) → old.is_up ≡ true → IfOk found (MayBegin st client)
    may_begin None t is_up = let no = t.at.0 in absurd cc
    may_begin (Some []) t is_up = pick found k a
      where
        pick : (r : Result Prepared CallFault) → LooksSo r → PreparesSo r → IfOk r (MayBegin st client)
        pick (Ok x) l q = may_take old disk t is_up q.idle move x client l q
        pick (Err e) l q = tt
    may_begin (Some (task ∷ more)) t is_up = pick found k a
      where
        pick : (r : Result Prepared CallFault) → LooksSo r → PreparesSo r → IfOk r (MayBegin st client)
        pick (Ok x) l q = no_task task more t q.idle
        pick (Err e) l q = tt

    pub is_unprepared : (agenda : Option (List ClientTask)) → IsClient state old (at disk agenda) → old.is_up ≡ true → (e : CallFault) → Err e ≡ found
        → (new : ClientNode D) → (IsErrOf {T = Prepared} (Err e) call.Disk → Fell state images (record old { devs = client }) new)
        → ((IsErrOf {T = Prepared} (Err e) call.Disk → ⊥) → new ≡ record old { devs = client })
        → Does {T = ℕ} state images (at disk agenda) move said old new (Err e)
    is_unprepared None t is_up e same new fell other = let no = t.at.0 in absurd cc
    is_unprepared (Some tasks) t is_up e same new fell other = unprepared old disk tasks t is_up move client e (subst LooksSo (sym same) k) (subst PreparesSo (sym same) a) new fell other

    pub is_carried : (agenda : Option (List ClientTask)) → IsClient state old (at disk agenda) → old.is_up ≡ true → (x : Prepared) → Ok x ≡ found → (mid new : ClientNode D) → mid ≡ record old { devs = client }
        → (result : Result (Unit {0}) CallFault) → Carries state images mid new x.planned [] result → (r : Result ℕ CallFault) → ((e : CallFault) → result ≡ Err e → r ≡ Err e) → (result ≡ Ok tt → r ≡ Ok x.number)
        → Does {T = ℕ} state images (at disk agenda) move said old new r
    is_carried None t is_up x same mid new is result c r err ok = let no = t.at.0 in absurd cc
    is_carried (Some []) t is_up x same mid new is result c r err ok =
        let q = subst PreparesSo (sym same) a in
        carried old disk t is_up q.idle move x client (subst LooksSo (sym same) k) q result mid new is c r err ok
    is_carried (Some (task ∷ more)) t is_up x same mid new is result c r err ok = no_task task more t (subst PreparesSo (sym same) a).idle
