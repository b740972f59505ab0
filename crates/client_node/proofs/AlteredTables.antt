-- What a call promises that opens or closes a table.
use Rattle.std.proofs.Common.{◌≡◌, ◌⊎◌, ⊎_elim, ℕ, Bool, true, List, [], ◌∷◌, Option, Some, None, Result, Ok, Err, refl, sym, ◌∙◌, ap, subst, append-nil}
use Rattle.std.specs.Prelude.{IfOk, IfSome, IsErrOf, if◌then◌else◌}
use Rattle.disk_trait.specs.Image.{IsImage}
use Rattle.disk_trait.specs.Calls.{DiskState}
use Rattle.disk_trait.specs.Fuse.{behind, inner_of}
use Rattle.disk_trait.specs.declared.fuse.FuseDisk.{FuseDisk}
use Rattle.client_journal.specs.declared.devs.Journal.{Journal}
use Rattle.client_journal.specs.Devs.{ClientDevs}
use Rattle.client_journal.specs.Plan.{IsPlan, plan_at_work}
use Rattle.client_journal.specs.Standing.{devs, writes_of}
use Rattle.step_tables.specs.Facts.{Answer, Refusal}
use Rattle.step_tables.specs.Facts as facts
use Rattle.step_tables.specs.ClientMoves.{TableChange, ClientDisk, ClientTask, Client, ClientStep, ClientMove, Shape, Alter, alter_step, alter_plan, begun, ignored}
use Rattle.client_node.specs.declared.fault.CallFault.{CallFault}
use Rattle.client_node.specs.declared.fault.CallFault.TheVariants as call
use Rattle.client_node.specs.declared.node.ClientNode.{ClientNode}
use Rattle.client_node.specs.declared.planning.Planned.{Planned}
use Rattle.client_node.specs.Altering.{AltersTo, IsUnaltered, Alters, MayTake}
use Rattle.client_node.specs.Calls.{Fell, IsBehind}
use Rattle.client_node.specs.Carrying.{Carries}
use Rattle.client_node.specs.Does.{Does, step_with}
use Rattle.client_node.specs.Looks.{Looks}
use Rattle.client_node.specs.Node.{IsClient, told_by, sent_by}
use Rattle.client_node.specs.Readied.{IsIdleAt, IsReadied}
use Rattle.client_node.proofs.Answering.{stays, does_err, does_ok, shape_now}
use Rattle.client_node.proofs.Asked.{mid_devs, call_plans}
use Rattle.client_node.proofs.Phased.{no_link}
use Rattle.client_node.proofs.Pulls.{no_refusal, same_refusal}
use Rattle.client_node.proofs.Sent.{tasks_of_writes}
use Rattle.client_node.proofs.TakenPlans.{idle_at, shape_of, does_carried, does_uncarried, client_up, client_ready, client_idle, client_rests}
use Rattle.client_node.proofs.WriteRefusals.{fault_not_spent}

module _ {D : Type 0} (state : D → DiskState) (images : D → ℕ → List ℕ → Type 0) (only_now : (disk : FuseDisk D) (image : List ℕ) → images (inner_of disk) (behind state disk).moment image → IsImage (behind state disk).pending image) (old : ClientNode D) (table : ℕ) (change : TableChange) where
  abbrev st : FuseDisk D → DiskState
  st f = behind state f

  abbrev im : FuseDisk D → ℕ → List ℕ → Type 0
  im f = images (inner_of f)

  abbrev at : ClientDisk → Option (List ClientTask) → Client
  at disk agenda = record { disk = disk; agenda = agenda }

  abbrev move : ClientMove
  move = Alter table change

  abbrev said : Unit {0} → Answer
  said value = facts.Done

  -- the link and the phases don't matter
  step_is : (shape : Shape) (disk : ClientDisk) (agenda : Option (List ClientTask)) → step_with old shape (at disk agenda) move ≡ alter_step old.number shape disk agenda table change
  step_is shape disk agenda = no_link old.is_linked _ (alter_step old.number shape disk agenda table change)

  -- ---- it is refused

  module _ (disk : ClientDisk) (tasks : List ClientTask) (t : IsClient state old (at disk (Some tasks))) (is_up : old.is_up ≡ true) where
    busy_step : (shape : Shape) → (writes_of old.devs ≡ [] → ⊥) → (alter_step old.number shape disk (Some tasks) table change).answer ≡ facts.Refuses (facts.Busy shape.plan)
    busy_step shape busy = pick tasks t
      where
        pick : (l : List ClientTask) → IsClient state old (at disk (Some l)) → (alter_step old.number shape disk (Some l) table change).answer ≡ facts.Refuses (facts.Busy shape.plan)
        pick [] k = absurd (busy ((tasks_of_writes old.number (devs st old.devs) (writes_of old.devs) disk [] k.at.1.follows).some refl))
        pick (task ∷ more) k = refl

    unaltered : (e : CallFault) (client : Journal (FuseDisk D)) → Looks {T = Option Planned} st im old.devs client (Err e) → IsUnaltered (devs st old.devs) (writes_of old.devs) e
        → (new : ClientNode D) → (IsErrOf {T = Option Planned} (Err e) call.Disk → Fell state images (record old { devs = client }) new)
        → ((IsErrOf {T = Option Planned} (Err e) call.Disk → ⊥) → new ≡ record old { devs = client }) → Does {T = Unit {0}} state images (at disk (Some tasks)) move said old new (Err e)
    unaltered e client k why new fell other =
        let with : ℕ = plan_at_work (devs st old.devs) (writes_of old.devs) in
        does_err state images only_now old disk (Some tasks) t is_up move said e (record old { devs = client }) (mid_devs old client) k.serves
        (λ refusal shape is of. ⊎_elim
        (λ busy. ap (λ (x : ClientStep). x.answer) (step_is shape disk (Some tasks))
        ∙ (busy_step shape busy.0
        ∙ (ap (λ (n : ℕ). facts.Refuses (facts.Busy n)) of.plan ∙ ap (λ (r : Refusal). facts.Refuses r) (same_refusal e (call.Busy with) refusal (facts.Busy with) busy.1 refl is))))
        (λ fault. no_refusal e refusal fault is) why)
        (λ last is. absurd (⊎_elim (λ busy. let no : call.Busy with ≡ call.Spent last = sym busy.1 ∙ is in cc) (λ fault. fault_not_spent e last fault is) why))
        new fell other

  -- ---- it isn't

  module _ (disk : ClientDisk) (t : IsClient state old (at disk (Some []))) (is_up : old.is_up ≡ true) (idle : writes_of old.devs ≡ []) (client : Journal (FuseDisk D)) where
    abbrev here : IsIdleAt (devs st old.devs) old.number old.waiting disk
    here = idle_at state images only_now old disk t is_up idle

    -- the table stays as it is
    ignored_now : Looks {T = Option Planned} st im old.devs client (Ok None) → AltersTo (devs st old.devs) old.number table change None → (new : ClientNode D) → new ≡ record old { devs = client }
        → Does {T = Unit {0}} state images (at disk (Some [])) move said old new (Ok tt)
    ignored_now k a new is =
        let mid : ClientNode D = record old { devs = client } in
        let now : Shape = shape_now state images only_now old in
        let s = stays state images only_now old disk (Some []) t is_up move (Ok None) mid (mid_devs old client) k.serves (λ no. cc) k.agenda in
        let b : IsBehind state old mid (ignored disk) = record { client = s.client; told = sym (append-nil (told_by old)); sent = sym (append-nil (sent_by old)); same = s.same } in
        let step : step_with old now (at disk (Some [])) move ≡ ignored disk = step_is now disk (Some [])
        ∙ ap (λ (x : Bool). if x then begun now disk facts.Done (alter_plan old.number disk table change) [] else ignored disk) (a.none refl old.waiting disk here) in
        subst (λ (x : ClientNode D). Does {T = Unit {0}} state images (at disk (Some [])) move said old x (Ok tt)) (sym is)
        (does_ok state images only_now old disk (Some []) t is_up move said None tt client k.serves mid refl
        (call_plans state images only_now old disk (Some []) t is_up mid (k.serves.same (λ no. cc)) k.agenda) now (record { plan = refl })
        (subst (λ (x : ClientStep). IsBehind state old mid x) (sym step) b) (ap (λ (x : ClientStep). x.answer) step))

    module _ (planned : Planned) (k : Looks st im old.devs client (Ok (Some planned))) (a : AltersTo (devs st old.devs) old.number table change (Some planned)) where
      abbrev plan_is : IsReadied (devs st old.devs) old.number here.stands.0 disk planned (alter_plan old.number disk table change) []
      plan_is = (a.some old.waiting disk here).1

      altered_step : (shape : Shape) → step_with old shape (at disk (Some [])) move ≡ begun shape disk facts.Done (alter_plan old.number disk table change) []
      altered_step shape = step_is shape disk (Some [])
          ∙ ap (λ (x : Bool). if x then begun shape disk facts.Done (alter_plan old.number disk table change) [] else ignored disk) (a.some old.waiting disk here).0

      may_now : MayTake st client planned
      may_now = record {
        up = client_up state images only_now old disk t is_up idle (Some planned) client k planned [];
        idle = client_idle state images only_now old disk t is_up idle (Some planned) client k planned [];
        ready = client_ready state images only_now old disk t is_up idle (Some planned) client k planned [];
        rests = client_rests state images only_now old disk t is_up idle (Some planned) client k planned [];
        plan = subst (λ (d : ClientDevs). IsPlan d planned.plan) (sym (k.serves.same (λ no. cc))) plan_is.taken;
      }

      carried_now : (r : Result (Unit {0}) CallFault) (mid new : ClientNode D) → mid ≡ record old { devs = client } → Carries state images mid new planned [] r → Does {T = Unit {0}} state images (at disk (Some [])) move said old new r
      carried_now (Ok value) mid new is c =
          let carried = subst (λ (x : ClientNode D). Carries state images x new planned [] (Ok value)) is c in
          let shape : Shape = shape_of state images only_now old disk t is_up idle (Some planned) client k planned [] (alter_plan old.number disk table change) [] plan_is in
          does_carried state images only_now old disk t is_up idle (Some planned) client k planned [] (alter_plan old.number disk table change) [] plan_is new carried.done carried.serves move said value facts.Done (altered_step shape) refl
      carried_now (Err e) mid new is c =
          let carried = subst (λ (x : ClientNode D). Carries state images x new planned [] (Err e)) is c in
          does_uncarried state images only_now old disk t is_up idle (Some planned) client k planned [] new e carried.refused move said

  -- ---- whatever is to be done

  module _ (found : Result (Option Planned) CallFault) (client : Journal (FuseDisk D)) (k : Looks st im old.devs client found) (a : Alters st old.devs old.number table change found) where
    abbrev LooksSo : Result (Option Planned) CallFault → Type 0
    LooksSo r = Looks st im old.devs client r

    abbrev AltersSo : Result (Option Planned) CallFault → Type 0
    AltersSo r = Alters st old.devs old.number table change r

    no_task : (disk : ClientDisk) (task : ClientTask) (more : List ClientTask) → IsClient state old (at disk (Some (task ∷ more))) → writes_of old.devs ≡ [] → {P : Type 0} → P
    no_task disk task more t idle = absurd (let none = (tasks_of_writes old.number (devs st old.devs) (writes_of old.devs) disk (task ∷ more) t.at.1.follows).none idle in cc)

    pub may_take : (disk : ClientDisk) (agenda : Option (List ClientTask)) → IsClient state old (at disk agenda) → old.is_up ≡ true → IfOk found (λ made. IfSome made (MayTake st client))
    may_take disk None t is_up = let no = t.at.0 in absurd cc
    may_take disk (Some []) t is_up = pick found k a
      where
        pick : (r : Result (Option Planned) CallFault) → LooksSo r → AltersSo r → IfOk r (λ made. IfSome made (MayTake st client))
        pick (Err e) l q = tt
        pick (Ok None) l q = tt
        pick (Ok (Some planned)) l q = may_now disk t is_up q.idle client planned l q.alters
    may_take disk (Some (task ∷ more)) t is_up = pick found a
      where
        pick : (r : Result (Option Planned) CallFault) → AltersSo r → IfOk r (λ made. IfSome made (MayTake st client))
        pick (Err e) q = tt
        pick (Ok made) q = no_task disk task more t q.idle

    pub by_err : (disk : ClientDisk) (agenda : Option (List ClientTask)) → IsClient state old (at disk agenda) → old.is_up ≡ true → (e : CallFault) → Err e ≡ found
        → (new : ClientNode D) → (IsErrOf {T = Option Planned} (Err e) call.Disk → Fell state images (record old { devs = client }) new)
        → ((IsErrOf {T = Option Planned} (Err e) call.Disk → ⊥) → new ≡ record old { devs = client }) → Does {T = Unit {0}} state images (at disk agenda) move said old new (Err e)
    by_err disk None t is_up e same new fell other = let no = t.at.0 in absurd cc
    by_err disk (Some tasks) t is_up e same new fell other = unaltered disk tasks t is_up e client (subst LooksSo (sym same) k) (subst AltersSo (sym same) a).refused new fell other

    pub by_none : (disk : ClientDisk) (agenda : Option (List ClientTask)) → IsClient state old (at disk agenda) → old.is_up ≡ true → (made : Option Planned) → Ok made ≡ found → made ≡ None → (new : ClientNode D) → new ≡ record old { devs = client }
        → Does {T = Unit {0}} state images (at disk agenda) move said old new (Ok tt)
    by_none disk None t is_up made same none new is = let no = t.at.0 in absurd cc
    by_none disk (Some []) t is_up made same none new is =
        let from : found ≡ Ok None = sym same ∙ ap (λ (o : Option Planned). Ok o) none in
        let q = subst AltersSo from a in
        ignored_now disk t is_up q.idle client (subst LooksSo from k) q.alters new is
    by_none disk (Some (task ∷ more)) t is_up made same none new is = no_task disk task more t (subst AltersSo (sym same) a).idle

    pub by_carried : (disk : ClientDisk) (agenda : Option (List ClientTask)) → IsClient state old (at disk agenda) → old.is_up ≡ true → (made : Option Planned) → Ok made ≡ found → (planned : Planned) → made ≡ Some planned → (r : Result (Unit {0}) CallFault) (mid new : ClientNode D)
        → mid ≡ record old { devs = client } → Carries state images mid new planned [] r → Does {T = Unit {0}} state images (at disk agenda) move said old new r
    by_carried disk None t is_up made same planned some r mid new is c = let no = t.at.0 in absurd cc
    by_carried disk (Some []) t is_up made same planned some r mid new is c =
        let from : found ≡ Ok (Some planned) = sym same ∙ ap (λ (o : Option Planned). Ok o) some in
        let q = subst AltersSo from a in
        carried_now disk t is_up q.idle client planned (subst LooksSo from k) q.alters r mid new is c
    by_carried disk (Some (task ∷ more)) t is_up made same planned some r mid new is c = no_task disk task more t (subst AltersSo (sym same) a).idle

-- what is known of the plan that was found
pub made_so : {X : Type 0} (P : X → Type 0) (found : Result (Option X) CallFault) (made : Option X) (x : X) → Ok made ≡ found → made ≡ Some x → IfOk found (λ o. IfSome o P) → P x
made_so {X} P found made x same some k = subst (λ (o : Option X). IfSome o P) some (subst (λ (r : Result (Option X) CallFault). IfOk r (λ o. IfSome o P)) (sym same) k)
