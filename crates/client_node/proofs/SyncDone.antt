-- What a client promises of a synchronization.
use Rattle.std.proofs.Common.{◌≡◌, ◌⊎◌, ℕ, ◌+◌, ◌++◌, length, Bool, true, false, List, [], ◌∷◌, Option, Some, None, Result, Ok, Err, refl, sym, ◌∙◌, ap, subst, append-nil}
use Rattle.std.specs.Prelude.{map, IfSome, OnOk, IsErrOf}
use Rattle.disk_trait.specs.Image.{IsImage}
use Rattle.disk_trait.specs.Calls.{DiskState}
use Rattle.disk_trait.specs.Fuse.{behind, inner_of}
use Rattle.disk_trait.specs.declared.fuse.FuseDisk.{FuseDisk}
use Rattle.client_journal.specs.declared.devs.Journal.{Journal}
use Rattle.client_journal.specs.Devs.{ClientDevs, Write}
use Rattle.client_journal.specs.NamedSlots.{IsAtRest}
use Rattle.client_journal.specs.Plan.{IsPlan}
use Rattle.client_journal.specs.Standing.{devs, writes_of, AreUp, IsReady}
use Rattle.gathering.specs.Room.{HasRoom}
use Rattle.step_tables.specs.Facts.{Answer, Refusal}
use Rattle.step_tables.specs.Facts as facts
use Rattle.step_tables.specs.Messages.{Send}
use Rattle.step_tables.specs.ClientMoves.{Plan, ClientDisk, ClientTask, Client, ClientStep, Shape, Sync, begun, quiet, sync_step}
use Rattle.client_node.specs.declared.calls.sending.Synced.{Synced}
use Rattle.client_node.specs.declared.fault.CallFault.{CallFault}
use Rattle.client_node.specs.declared.fault.CallFault.TheVariants as call
use Rattle.client_node.specs.declared.node.ClientNode.{ClientNode}
use Rattle.client_node.specs.declared.planning.Planned.{Planned}
use Rattle.client_node.specs.Calls.{Fell, Stays, IsBehind}
use Rattle.client_node.specs.Carrying.{Carries}
use Rattle.client_node.specs.Does.{Does, IsOfNode, step_with}
use Rattle.client_node.specs.Looks.{Looks}
use Rattle.client_node.specs.Node.{IsClient, IsWorking, told_by, sent_by}
use Rattle.client_node.specs.Readied.{IsIdleAt, IsIdle, IsReadied}
use Rattle.client_node.specs.Syncing.{again_of, at_once, Syncs, SendsAgain}
use Rattle.client_node.proofs.Answering.{stays, does_err, does_short, does_ok, shape_now, as_err}
use Rattle.client_node.proofs.Asked.{IsMid, mid_devs, stands_now, call_plans}
use Rattle.client_node.proofs.Links.{linked_by, link_up}
use Rattle.client_node.proofs.Sent.{HasSent, tasks_of_writes}
use Rattle.client_node.proofs.TakenPlans.{idle_at, is_idle, shape_of, does_carried, does_uncarried}

-- one fault, as the answer of another call
pub as_count : (x e : CallFault) (r : Result (Unit {0}) CallFault) → r ≡ Err x → r ≡ Err e → (q : Result ℕ CallFault) → q ≡ Err x → q ≡ Err e
as_count x e r is same q was = let equal : x ≡ e = cc in was ∙ ap (λ (f : CallFault). Err f) equal

module _ {D : Type 0} (state : D → DiskState) (images : D → ℕ → List ℕ → Type 0) (only_now : (disk : FuseDisk D) (image : List ℕ) → images (inner_of disk) (behind state disk).moment image → IsImage (behind state disk).pending image) (old : ClientNode D) (table : ℕ) where
  abbrev st : FuseDisk D → DiskState
  st f = behind state f

  abbrev im : FuseDisk D → ℕ → List ℕ → Type 0
  im f = images (inner_of f)

  abbrev at : ClientDisk → Option (List ClientTask) → Client
  at disk agenda = record { disk = disk; agenda = agenda }

  abbrev said : ℕ → Answer
  said count = facts.Number count

  -- a call that is refused
  module _ (disk : ClientDisk) (tasks : List ClientTask) (t : IsClient state old (at disk (Some tasks))) (is_up : old.is_up ≡ true) where
    pub sync_err : (e : CallFault) (client : Journal (FuseDisk D)) → Looks {T = Synced} st im old.devs client (Err e) → SendsAgain st old.devs old.is_linked old.number table old.waiting (Err e)
        → (new : ClientNode D) → (IsErrOf {T = Synced} (Err e) call.Disk → Fell state images (record old { devs = client }) new) → ((IsErrOf {T = Synced} (Err e) call.Disk → ⊥) → new ≡ record old { devs = client })
        → Does {T = ℕ} state images (at disk (Some tasks)) (Sync table) said old new (Err e)
    sync_err e client k a new fell other =
        does_err state images only_now old disk (Some tasks) t is_up (Sync table) said e (record old { devs = client }) (mid_devs old client) k.serves
        (λ refusal shape is of. a.refused disk tasks shape (stands_now state images old disk (Some tasks) t is_up) (tasks_of_writes old.number (devs st old.devs) (writes_of old.devs) disk tasks t.at.1.follows) of.plan refusal is)
        (λ last is. absurd (a.unspent last (as_err e (call.Spent last) is))) new fell other

    pub sync_short : (x : Synced) (client : Journal (FuseDisk D)) → Looks st im old.devs client (Ok x) → (new : ClientNode D) → new.devs ≡ client → IsMid old new → Does {T = ℕ} state images (at disk (Some tasks)) (Sync table) said old new (Err call.Memory)
    sync_short x client k new is m =
        let l : Looks st im old.devs new.devs (Ok x) = subst (λ (d : Journal (FuseDisk D)). Looks st im old.devs d (Ok x)) (sym is) k in
        does_short state images only_now old disk (Some tasks) t is_up (Sync table) said x new.devs l.serves new refl l.agenda (stays state images only_now old disk (Some tasks) t is_up (Sync table) (Ok x) new m l.serves (λ no. cc) l.agenda)

  -- nothing is to be done
  module _ (disk : ClientDisk) (t : IsClient state old (at disk (Some []))) (is_up : old.is_up ≡ true) (idle : writes_of old.devs ≡ []) (x : Synced) (client : Journal (FuseDisk D)) (k : Looks st im old.devs client (Ok x)) (a : SendsAgain st old.devs old.is_linked old.number table old.waiting (Ok x)) where
    abbrev here : Client
    here = at disk (Some [])

    linked_step_is : (shape : Shape) → step_with old shape here (Sync table) ≡ sync_step old.number shape disk (Some []) table
    linked_step_is shape = link_up old.is_linked disk (Some []) (sync_step old.number shape disk (Some []) table) a.linked

    -- a node that has sent these, and owes nothing
    sent_client : (new : ClientNode D) → new.devs ≡ client → HasSent old new (again_of x) → IsClient state new here
    sent_client new is h =
        let s = stays state images only_now old disk (Some []) t is_up (Sync table) (Ok x) (record old { devs = client }) (mid_devs old client) k.serves (λ no. cc) k.agenda in
        let w : IsWorking state (record old { devs = client }) disk [] = s.client.at.1 in
        let empty : writes_of client ≡ [] = k.agenda ∙ idle in
        record {
          at = (
            h.up ∙ is_up,
            record {
              declared = h.declared ∙ w.declared;
              up = rw is w.up;
              fresh = rw is w.fresh;
              ready = rw is w.ready;
              follows = rw (h.number, is) w.follows;
              rests = rw is w.rests;
              steady = rw h.waiting w.steady;
              tasks_steady = tt;
              owed = rw (is, empty) tt;
              fact_room = subst (λ (n : ℕ). HasRoom new.facts n) (sym (ap length h.no_facts)) h.fact_room;
              message_room = subst (λ (n : ℕ). HasRoom new.messages n) (sym (ap length h.no_messages)) h.message_room;
            },
          );
        }

    pub sync_alone : x.next ≡ None → (count : ℕ) → count ≡ length (again_of x) → (new : ClientNode D) → new.devs ≡ client → HasSent old new (again_of x) → Does {T = ℕ} state images here (Sync table) said old new (Ok count)
    sync_alone none count counts new is h =
        let now : Shape = shape_now state images only_now old in
        let step : step_with old now here (Sync table) ≡ at_once (again_of x) (quiet disk (Some []) (facts.Number (length (again_of x)))) =
        linked_step_is now ∙ a.syncs.none none disk now (idle_at state images only_now old disk t is_up idle) in
        let b : IsBehind state old new (at_once (again_of x) (quiet disk (Some []) (facts.Number (length (again_of x))))) = record {
          client = sent_client new is h;
          told = h.told ∙ sym (append-nil (told_by old));
          sent = h.sent;
          same = record { number = h.number; linked = h.linked };
        } in
        does_ok state images only_now old disk (Some []) t is_up (Sync table) said x count client k.serves new is
        (call_plans state images only_now old disk (Some []) t is_up new (ap (λ (d : Journal (FuseDisk D)). devs st d) is ∙ k.serves.same (λ no. cc)) (ap (λ (d : Journal (FuseDisk D)). writes_of d) is ∙ k.agenda)) now (record { plan = refl })
        (subst (λ (y : ClientStep). IsBehind state old new y) (sym step) b) (ap (λ (y : ClientStep). y.answer) step ∙ ap facts.Number (sym counts))

    module _ (planned : Planned) (next : x.next ≡ Some planned) where
      pub sync_carried : (result : Result (Unit {0}) CallFault) (mid new : ClientNode D) → mid ≡ record old { devs = client } → Carries state images mid new planned (again_of x) result → (count : ℕ) → count ≡ length (again_of x) + 1
          → (r : Result ℕ CallFault) → ((e : CallFault) → result ≡ Err e → r ≡ Err e) → (result ≡ Ok tt → r ≡ Ok count) → Does {T = ℕ} state images here (Sync table) said old new r
      sync_carried (Ok value) mid new is c count counts r err ok =
          let i = subst (λ (o : Option Planned). IfSome o (λ planned. (disk : ClientDisk) → (idle : IsIdleAt (devs st old.devs) old.number old.waiting disk) → (p : Plan) × (sends : List Send) × IsReadied (devs st old.devs) old.number idle.stands.0 disk planned p sends
          × ((shape : Shape) → sync_step old.number shape disk (Some []) table ≡ at_once (again_of x) (begun shape disk (facts.Number (length (again_of x) + 1)) p sends)))) next a.syncs.some disk (idle_at state images only_now old disk t is_up idle) in
          let carried = subst (λ (y : ClientNode D). Carries state images y new planned (again_of x) (Ok value)) is c in
          let shape : Shape = shape_of state images only_now old disk t is_up idle x client k planned (again_of x) i.0 i.1 i.2 in
          subst (λ (q : Result ℕ CallFault). Does {T = ℕ} state images here (Sync table) said old new q) (sym (ok refl))
          (does_carried state images only_now old disk t is_up idle x client k planned (again_of x) i.0 i.1 i.2 new carried.done carried.serves (Sync table) said count (facts.Number (length (again_of x) + 1)) (linked_step_is shape ∙ i.3 shape) (ap facts.Number (sym counts)))
      sync_carried (Err e) mid new is c count counts r err ok =
          let carried = subst (λ (y : ClientNode D). Carries state images y new planned (again_of x) (Err e)) is c in
          subst (λ (q : Result ℕ CallFault). Does {T = ℕ} state images here (Sync table) said old new q) (sym (err e refl))
          (does_uncarried state images only_now old disk t is_up idle x client k planned (again_of x) new e carried.refused (Sync table) said)

  -- ---- whatever is to be done

  module _ (disk : ClientDisk) (found : Result Synced CallFault) (client : Journal (FuseDisk D)) (k : Looks st im old.devs client found) (a : SendsAgain st old.devs old.is_linked old.number table old.waiting found) (i : OnOk found (writes_of old.devs ≡ [])) where
    looks_as : (r : Result Synced CallFault) → r ≡ found → Looks st im old.devs client r
    looks_as r same = subst (λ (x : Result Synced CallFault). Looks st im old.devs client x) (sym same) k

    sends_as : (r : Result Synced CallFault) → r ≡ found → SendsAgain st old.devs old.is_linked old.number table old.waiting r
    sends_as r same = subst (λ (x : Result Synced CallFault). SendsAgain st old.devs old.is_linked old.number table old.waiting x) (sym same) a

    idle_as : (x : Synced) → Ok x ≡ found → writes_of old.devs ≡ []
    idle_as x same = subst (λ (r : Result Synced CallFault). OnOk r (writes_of old.devs ≡ [])) (sym same) i

    pub by_err : (agenda : Option (List ClientTask)) → IsClient state old (at disk agenda) → old.is_up ≡ true → (e : CallFault) → Err e ≡ found → (new : ClientNode D) → (IsErrOf {T = Synced} (Err e) call.Disk → Fell state images (record old { devs = client }) new)
        → ((IsErrOf {T = Synced} (Err e) call.Disk → ⊥) → new ≡ record old { devs = client }) → Does {T = ℕ} state images (at disk agenda) (Sync table) said old new (Err e)
    by_err None t is_up e same new fell other = let no = t.at.0 in absurd cc
    by_err (Some tasks) t is_up e same new fell other = sync_err disk tasks t is_up e client (looks_as (Err e) same) (sends_as (Err e) same) new fell other

    pub by_short : (agenda : Option (List ClientTask)) → IsClient state old (at disk agenda) → old.is_up ≡ true → (x : Synced) → Ok x ≡ found → (new : ClientNode D) → new.devs ≡ client → IsMid old new → Does {T = ℕ} state images (at disk agenda) (Sync table) said old new (Err call.Memory)
    by_short None t is_up x same new is m = let no = t.at.0 in absurd cc
    by_short (Some tasks) t is_up x same new is m = sync_short disk tasks t is_up x client (looks_as (Ok x) same) new is m

    no_task : (task : ClientTask) (more : List ClientTask) → IsClient state old (at disk (Some (task ∷ more))) → writes_of old.devs ≡ [] → {P : Type 0} → P
    no_task task more t idle = absurd (let none = (tasks_of_writes old.number (devs st old.devs) (writes_of old.devs) disk (task ∷ more) t.at.1.follows).none idle in cc)

    pub by_alone : (agenda : Option (List ClientTask)) → IsClient state old (at disk agenda) → old.is_up ≡ true → (x : Synced) → Ok x ≡ found → x.next ≡ None → (count : ℕ) → count ≡ length (again_of x) → (new : ClientNode D) → new.devs ≡ client → HasSent old new (again_of x)
        → Does {T = ℕ} state images (at disk agenda) (Sync table) said old new (Ok count)
    by_alone None t is_up x same none count counts new is h = let no = t.at.0 in absurd cc
    by_alone (Some []) t is_up x same none count counts new is h = sync_alone disk t is_up (idle_as x same) x client (looks_as (Ok x) same) (sends_as (Ok x) same) none count counts new is h
    by_alone (Some (task ∷ more)) t is_up x same none count counts new is h = no_task task more t (idle_as x same)

    pub by_carried : (agenda : Option (List ClientTask)) → IsClient state old (at disk agenda) → old.is_up ≡ true → (x : Synced) → Ok x ≡ found → (planned : Planned) → x.next ≡ Some planned → (mid new : ClientNode D) → mid ≡ record old { devs = client } → (result : Result (Unit {0}) CallFault) → Carries state images mid new planned (again_of x) result
        → (count : ℕ) → count ≡ length (again_of x) + 1 → (r : Result ℕ CallFault) → ((e : CallFault) → result ≡ Err e → r ≡ Err e) → (result ≡ Ok tt → r ≡ Ok count) → Does {T = ℕ} state images (at disk agenda) (Sync table) said old new r
    by_carried None t is_up x same planned next mid new is result c count counts r err ok = let no = t.at.0 in absurd cc
    by_carried (Some []) t is_up x same planned next mid new is result c count counts r err ok = sync_carried disk t is_up (idle_as x same) x client (looks_as (Ok x) same) (sends_as (Ok x) same) planned next result mid new is c count counts r err ok
    by_carried (Some (task ∷ more)) t is_up x same planned next mid new is result c count counts r err ok = no_task task more t (idle_as x same)

  -- where nothing is to be done a plan may be taken on
  module _ (disk : ClientDisk) (found : Result Synced CallFault) (client : Journal (FuseDisk D)) (k : Looks st im old.devs client found) (a : SendsAgain st old.devs old.is_linked old.number table old.waiting found) (i : OnOk found (writes_of old.devs ≡ [])) where
    pub record MayCarry (planned : Planned) : Type 0 where
      pub up : AreUp client
      pub idle : writes_of client ≡ []
      pub ready : IsReady st client (writes_of client)
      pub rests : IsAtRest (devs st client)
      pub plan : IsPlan (devs st client) planned.plan

    may_now : IsClient state old (at disk (Some [])) → old.is_up ≡ true → (x : Synced) → Ok x ≡ found → (planned : Planned) → x.next ≡ Some planned → MayCarry planned
    may_now t is_up x same planned next =
        let l : Looks st im old.devs client (Ok x) = subst (λ (r : Result Synced CallFault). Looks st im old.devs client r) (sym same) k in
        let b : SendsAgain st old.devs old.is_linked old.number table old.waiting (Ok x) = subst (λ (r : Result Synced CallFault). SendsAgain st old.devs old.is_linked old.number table old.waiting r) (sym same) a in
        let none : writes_of old.devs ≡ [] = subst (λ (r : Result Synced CallFault). OnOk r (writes_of old.devs ≡ [])) (sym same) i in
        let idle = idle_at state images only_now old disk t is_up none in
        let here = l.serves.same (λ no. cc) in
        let n = subst (λ (o : Option Planned). IfSome o (λ planned. (disk : ClientDisk) → (idle : IsIdleAt (devs st old.devs) old.number old.waiting disk) → (p : Plan) × (sends : List Send) × IsReadied (devs st old.devs) old.number idle.stands.0 disk planned p sends
        × ((shape : Shape) → sync_step old.number shape disk (Some []) table ≡ at_once (again_of x) (begun shape disk (facts.Number (length (again_of x) + 1)) p sends)))) next b.syncs.some disk idle in
        record {
          up = l.serves.up (λ no. cc);
          idle = l.agenda ∙ none;
          ready = l.serves.ready (λ no. cc);
          rests = subst IsAtRest (sym here) idle.rests;
          plan = subst (λ (d : ClientDevs). IsPlan d planned.plan) (sym here) n.2.taken;
        }

    pub may_carry : (agenda : Option (List ClientTask)) → IsClient state old (at disk agenda) → old.is_up ≡ true → (x : Synced) → Ok x ≡ found → (planned : Planned) → x.next ≡ Some planned → MayCarry planned
    may_carry None t is_up x same planned next = let no = t.at.0 in absurd cc
    may_carry (Some []) t is_up x same planned next = may_now t is_up x same planned next
    may_carry (Some (task ∷ more)) t is_up x same planned next =
        let none : writes_of old.devs ≡ [] = subst (λ (r : Result Synced CallFault). OnOk r (writes_of old.devs ≡ [])) (sym same) i in
        absurd (let wrong = (tasks_of_writes old.number (devs st old.devs) (writes_of old.devs) disk (task ∷ more) t.at.1.follows).none none in cc)

  -- and the node's devices are idle
  pub node_idle : (disk : ClientDisk) (agenda : Option (List ClientTask)) → IsClient state old (at disk agenda) → old.is_up ≡ true → writes_of old.devs ≡ [] → IsIdle (devs st old.devs) old.number
  node_idle disk None t is_up idle = let no = t.at.0 in absurd cc
  node_idle disk (Some []) t is_up idle = is_idle state images only_now old disk t is_up idle
  node_idle disk (Some (task ∷ more)) t is_up idle = absurd (let none = (tasks_of_writes old.number (devs st old.devs) (writes_of old.devs) disk (task ∷ more) t.at.1.follows).none idle in cc)
