-- What a client promises of a message.
use Rattle.std.proofs.Common.{◌≡◌, ◌⊎◌, inl, inr, ⊎_elim, ℕ, ◌++◌, Bool, true, false, List, [], ◌∷◌, Option, Some, None, Result, Ok, Err, refl, sym, ◌∙◌, ap, subst, append-nil}
use Rattle.std.specs.Prelude.{map, IfOk, IfErr, IfSome, IsErrOf, not, ◌&&◌, if◌then◌else◌}
use Rattle.disk_trait.specs.Image.{IsImage}
use Rattle.disk_trait.specs.Calls.{DiskState}
use Rattle.disk_trait.specs.Fuse.{behind, inner_of}
use Rattle.disk_trait.specs.declared.fuse.FuseDisk.{FuseDisk}
use Rattle.client_journal.specs.declared.devs.Journal.{Journal}
use Rattle.client_journal.specs.Devs.{ClientDevs, Write}
use Rattle.client_journal.specs.NamedSlots.{IsAtRest}
use Rattle.client_journal.specs.Plan.{IsPlan, plan_at_work}
use Rattle.client_journal.specs.Standing.{devs, writes_of, AreUp, IsReady}
use Rattle.row_value.specs.declared.fit.FitFault.{FitFault}
use Rattle.row_value.specs.Fit.{fit_of}
use Rattle.step_tables.specs.declared.message.Message.{Message}
use Rattle.step_tables.specs.declared.message.Message.TheVariants as kinds
use Rattle.step_tables.specs.Facts.{Answer, Refusal}
use Rattle.step_tables.specs.Facts as facts
use Rattle.step_tables.specs.Messages as messages
use Rattle.step_tables.specs.ClientMoves.{Plan, TableDisk, ClientDisk, table_at, seen, ClientTask, Client, ClientStep, ClientMove, Shape, Take, client_step, take_step, begun, ignored, quiet}
use Rattle.step_tables.specs.Travels.{message_of, send_of}
use Rattle.client_node.specs.declared.fault.CallFault.{CallFault}
use Rattle.client_node.specs.declared.fault.CallFault.TheVariants as call
use Rattle.client_node.specs.declared.node.ClientNode.{ClientNode}
use Rattle.client_node.specs.declared.planning.Planned.{Planned}
use Rattle.client_node.specs.declared.planning.Reaction.{Reaction}
use Rattle.client_node.specs.declared.planning.Reaction.TheVariants.{Nothing, Sends, Begins}
use Rattle.client_node.specs.Answers.{IsFault}
use Rattle.client_node.specs.Calls.{Fell, Stays, IsBehind}
use Rattle.client_node.specs.Carrying.{Carries}
use Rattle.client_node.specs.Does.{Does, IsOfNode, step_with, refusal_in}
use Rattle.client_node.specs.Looks.{Looks}
use Rattle.client_node.specs.Node.{FollowsFor, IsNode, IsClient, told_by, sent_by}
use Rattle.client_node.specs.Readied.{IsIdleAt, IsIdle, Readies, SendsBack, Reacts, taken_at}
use Rattle.client_node.specs.Taking.{FitsTable, FitsClient, Drops, Takes}
use Rattle.client_node.proofs.Answering.{disk_or, does_node, stays, does_err, does_short, does_ok, shape_now, of_err, as_err}
use Rattle.client_node.proofs.Asked.{IsMid, mid_devs, call_leaves, call_plans}
use Rattle.client_node.proofs.OwnFaults.{own_kept, fresh_now}
use Rattle.client_node.proofs.Pulls.{no_refusal, same_refusal}
use Rattle.client_node.proofs.Sent.{HasSent, sent_told, sent_client, tasks_of_writes}
use Rattle.client_node.proofs.Serving.{looks_none}
use Rattle.client_node.proofs.TakenPlans.{idle_at, is_idle, shape_of, does_carried, does_uncarried}

-- a client whose link is up takes a message as its step table says, and one whose link is down refuses it
up_step : (up : Bool) (c : ℕ) (shape : Shape) (s : Client) (m : messages.Message) → up ≡ true → (if not up && true then quiet s.disk s.agenda (facts.Refuses facts.Offline) else client_step c shape s (Take m)) ≡ take_step c shape s.disk s.agenda m
up_step up c shape s m is = rw is refl

down_step : (up : Bool) (c : ℕ) (shape : Shape) (s : Client) (m : messages.Message) → up ≡ false → (if not up && true then quiet s.disk s.agenda (facts.Refuses facts.Offline) else client_step c shape s (Take m)) ≡ quiet s.disk s.agenda (facts.Refuses facts.Offline)
down_step up c shape s m is = rw is refl

module _ {D : Type 0} (state : D → DiskState) (images : D → ℕ → List ℕ → Type 0) (only_now : (disk : FuseDisk D) (image : List ℕ) → images (inner_of disk) (behind state disk).moment image → IsImage (behind state disk).pending image) (old : ClientNode D) (message : Message) where
  abbrev st : FuseDisk D → DiskState
  st f = behind state f

  abbrev im : FuseDisk D → ℕ → List ℕ → Type 0
  im f = images (inner_of f)

  abbrev at : ClientDisk → Option (List ClientTask) → Client
  at disk agenda = record { disk = disk; agenda = agenda }

  abbrev m : messages.Message
  m = message_of message

  abbrev said : Unit {0} → Answer
  said value = facts.Done

  -- a refusal is one whether the row fits or not
  takes_err : (s : Client) (new : ClientNode D) (e : CallFault) → Does state images s (Take m) said old new (Err e) → Takes state images s m old new (Err e)
  takes_err s new e d = record {
    taken = λ fit. d;
    dropped = λ unfit. record {
      dropped = tt;
      refused = d.refused;
      kept = d.kept;
      fallen = d.fallen;
      counted = d.counted;
      cause = d.cause;
      any_moment = d.any_moment;
      plans = d.plans;
    };
  }

  module _ (disk : ClientDisk) (tasks : List ClientTask) (t : IsClient state old (at disk (Some tasks))) (is_up : old.is_up ≡ true) where
    none_looked : (e : CallFault) → (e ≡ call.Disk → ⊥) → Looks {T = Unit {0}} st im old.devs old.devs (Err e)
    none_looked e apart = looks_none st im only_now old.devs t.at.1.up t.at.1.ready (Err e) (λ is. apart (of_err e call.Disk is))

    err_now : (e : CallFault) → (e ≡ call.Disk → ⊥) → ((last : ℕ) → e ≡ call.Spent last → ⊥)
        → ((refusal : Refusal) (shape : Shape) → refusal_in e ≡ Some refusal → IsOfNode state old shape → (step_with old shape (at disk (Some tasks)) (Take m)).answer ≡ facts.Refuses refusal)
        → Takes state images (at disk (Some tasks)) m old old (Err e)
    err_now e apart unspent refused =
        takes_err (at disk (Some tasks)) old e
        (does_err state images only_now old disk (Some tasks) t is_up (Take m) said e old (mid_devs old old.devs) (none_looked e apart).serves refused (λ last is. absurd (unspent last is)) old (λ is. absurd (apart (of_err e call.Disk is))) (λ n. refl))

    pub offline_now : (e : CallFault) → old.is_linked ≡ false → e ≡ call.Offline → Takes state images (at disk (Some tasks)) m old old (Err e)
    offline_now e down is =
        err_now e (λ was. let no : call.Offline ≡ call.Disk = sym is ∙ was in cc) (λ last was. let no : call.Offline ≡ call.Spent last = sym is ∙ was in cc)
        (λ refusal shape was of. ap (λ (x : ClientStep). x.answer) (down_step old.is_linked old.number shape (at disk (Some tasks)) m down)
        ∙ ap (λ (r : Refusal). facts.Refuses r) (same_refusal e call.Offline refusal facts.Offline is refl was))

    busy_step : (shape : Shape) → (writes_of old.devs ≡ [] → ⊥) → (take_step old.number shape disk (Some tasks) m).answer ≡ facts.Refuses (facts.Busy shape.plan)
    busy_step shape busy = pick tasks t
      where
        pick : (l : List ClientTask) → IsClient state old (at disk (Some l)) → (take_step old.number shape disk (Some l) m).answer ≡ facts.Refuses (facts.Busy shape.plan)
        pick [] k = absurd (busy ((tasks_of_writes old.number (devs st old.devs) (writes_of old.devs) disk [] k.at.1.follows).some refl))
        pick (task ∷ more) k = refl

    pub busy_now : (e : CallFault) → old.is_linked ≡ true → (writes_of old.devs ≡ [] → ⊥) → e ≡ call.Busy (plan_at_work (devs st old.devs) (writes_of old.devs)) → Takes state images (at disk (Some tasks)) m old old (Err e)
    busy_now e linked busy is =
        let with : ℕ = plan_at_work (devs st old.devs) (writes_of old.devs) in
        err_now e (λ was. let no : call.Busy with ≡ call.Disk = sym is ∙ was in cc) (λ last was. let no : call.Busy with ≡ call.Spent last = sym is ∙ was in cc)
        (λ refusal shape was of. ap (λ (x : ClientStep). x.answer) (up_step old.is_linked old.number shape (at disk (Some tasks)) m linked)
        ∙ (busy_step shape busy
        ∙ (ap (λ (n : ℕ). facts.Refuses (facts.Busy n)) of.plan ∙ ap (λ (r : Refusal). facts.Refuses r) (same_refusal e (call.Busy with) refusal (facts.Busy with) is refl was))))

  -- nothing is to be done
  module _ (disk : ClientDisk) (t : IsClient state old (at disk (Some []))) (is_up : old.is_up ≡ true) (linked : old.is_linked ≡ true) (idle : writes_of old.devs ≡ []) (found : Reaction) (client : Journal (FuseDisk D)) where
    abbrev here : Client
    here = at disk (Some [])

    pub fault_now : (e : CallFault) → IsFault e → Looks {T = Reaction} st im old.devs client (Err e) → (new : ClientNode D) → (IsErrOf {T = Reaction} (Err e) call.Disk → Fell state images (record old { devs = client }) new)
        → ((IsErrOf {T = Reaction} (Err e) call.Disk → ⊥) → new ≡ record old { devs = client }) → Takes state images here m old new (Err e)
    fault_now e fault k new fell other =
        takes_err here new e
        (does_err state images only_now old disk (Some []) t is_up (Take m) said e (record old { devs = client }) (mid_devs old client) k.serves (λ refusal shape is of. no_refusal e refusal fault is)
        (λ last is. absurd (⊎_elim (λ a. let no : call.Spent last ≡ call.Disk = sym is ∙ a in cc) (λ a. let no : call.Spent last ≡ call.Memory = sym is ∙ a in cc) fault)) new fell other)

    module _ (k : Looks st im old.devs client (Ok found)) where
      stays_now : Stays state old (record old { devs = client }) here
      stays_now = stays state images only_now old disk (Some []) t is_up (Take m) (Ok found) (record old { devs = client }) (mid_devs old client) k.serves (λ no. cc) k.agenda

      pub ignored_now : (r : Readies (devs st old.devs) old.number message None) → (new : ClientNode D) → new ≡ record old { devs = client } → Takes state images here m old new (Ok tt)
      ignored_now r new is =
          let s = stays_now in
          let now : Shape = shape_now state images only_now old in
          let b : IsBehind state old (record old { devs = client }) (ignored disk) = record { client = s.client; told = sym (append-nil (told_by old)); sent = sym (append-nil (sent_by old)); same = s.same } in
          subst (λ (x : ClientNode D). Takes state images here m old x (Ok tt)) (sym is)
          (record {
            taken = λ fit.
                let step = up_step old.is_linked old.number now here m linked ∙ r.none refl old.waiting disk now (idle_at state images only_now old disk t is_up idle) fit in
                does_ok state images only_now old disk (Some []) t is_up (Take m) said found tt client k.serves (record old { devs = client }) refl
                (call_plans state images only_now old disk (Some []) t is_up (record old { devs = client }) (k.serves.same (λ no. cc)) k.agenda) now (record { plan = refl })
                (subst (λ (x : ClientStep). IsBehind state old (record old { devs = client }) x) (sym step) b) (ap (λ (x : ClientStep). x.answer) step);
            dropped = λ unfit. record {
              dropped = s;
              refused = tt;
              kept = λ n. tt;
              fallen = λ no. absurd cc;
              counted = λ n. own_kept state old (record old { devs = client }) (fresh_now state old disk (Some []) t) k.serves.fuse (k.serves.counted (λ no. cc));
              cause = λ no. absurd cc;
              any_moment = call_leaves state images only_now old disk (Some []) t is_up (record old { devs = client }) k.serves.leave;
              plans = call_plans state images only_now old disk (Some []) t is_up (record old { devs = client }) (k.serves.same (λ no. cc)) k.agenda;
            };
          })

      -- these are sent at once
      module _ (sends : List messages.Send) (r : SendsBack (devs st old.devs) old.number message sends) where
        pub sent_now : (new : ClientNode D) → new.devs ≡ client → HasSent old new sends → Takes state images here m old new (Ok tt)
        sent_now new is h =
            let now : Shape = shape_now state images only_now old in
            let step : step_with old now here (Take m) ≡ record (ignored disk) { sends = sends } = up_step old.is_linked old.number now here m linked ∙ r.step old.waiting disk now (idle_at state images only_now old disk t is_up idle) in
            let b : IsBehind state old new (record (ignored disk) { sends = sends }) = record {
              client = sent_client state images only_now old disk [] t is_up (Take m) (λ shape s. refl) found client k new [] sends is (sent_told old new sends h) refl;
              told = h.told ∙ sym (append-nil (told_by old));
              sent = h.sent;
              same = record { number = h.number; linked = h.linked };
            } in
            record {
              taken = λ fit.
                  does_ok state images only_now old disk (Some []) t is_up (Take m) said found tt client k.serves new is
                  (call_plans state images only_now old disk (Some []) t is_up new (ap (λ (d : Journal (FuseDisk D)). devs st d) is ∙ k.serves.same (λ no. cc)) (ap (λ (d : Journal (FuseDisk D)). writes_of d) is ∙ k.agenda)) now (record { plan = refl })
                  (subst (λ (x : ClientStep). IsBehind state old new x) (sym step) b) (ap (λ (x : ClientStep). x.answer) step);
              dropped = λ unfit. absurd (unfit (r.fits old.waiting disk (idle_at state images only_now old disk t is_up idle)));
            }

      -- memory was refused for what was to be sent
      pub short_now : (new : ClientNode D) → new.devs ≡ client → IsMid old new → Takes state images here m old new (Err call.Memory)
      short_now new is mid =
          let l : Looks st im old.devs new.devs (Ok found) = subst (λ (d : Journal (FuseDisk D)). Looks st im old.devs d (Ok found)) (sym is) k in
          takes_err here new call.Memory
          (does_short state images only_now old disk (Some []) t is_up (Take m) said found new.devs l.serves new refl l.agenda (stays state images only_now old disk (Some []) t is_up (Take m) (Ok found) new mid l.serves (λ no. cc) l.agenda))

      module _ (planned : Planned) (r : Readies (devs st old.devs) old.number message (Some planned)) where
        pub carried_now : (result : Result (Unit {0}) CallFault) (mid new : ClientNode D) → mid ≡ record old { devs = client } → Carries state images mid new planned [] result → Takes state images here m old new result
        carried_now (Ok value) mid new is c =
            let i = r.some old.waiting disk (idle_at state images only_now old disk t is_up idle) in
            let carried = subst (λ (x : ClientNode D). Carries state images x new planned [] (Ok value)) is c in
            let shape : Shape = shape_of state images only_now old disk t is_up idle found client k planned [] i.1 i.2 i.3 in
            record {
              taken = λ fit.
                  does_carried state images only_now old disk t is_up idle found client k planned [] i.1 i.2 i.3 new carried.done carried.serves (Take m) said value facts.Done (up_step old.is_linked old.number shape here m linked ∙ i.4 shape) refl;
              dropped = λ unfit. absurd (unfit i.0);
            }
        carried_now (Err e) mid new is c =
            let carried = subst (λ (x : ClientNode D). Carries state images x new planned [] (Err e)) is c in
            takes_err here new e (does_uncarried state images only_now old disk t is_up idle found client k planned [] new e carried.refused (Take m) said)

  -- ---- whatever is to be done

  abbrev TakesSo : ClientDisk → Option (List ClientTask) → ClientNode D → Result (Unit {0}) CallFault → Type 0
  TakesSo disk agenda new r = Takes state images (at disk agenda) (message_of message) old new r

  pub by_offline : (disk : ClientDisk) (agenda : Option (List ClientTask)) → IsClient state old (at disk agenda) → old.is_up ≡ true → (e : CallFault) → old.is_linked ≡ false → e ≡ call.Offline → TakesSo disk agenda old (Err e)
  by_offline disk None t is_up e down is = let no = t.at.0 in absurd cc
  by_offline disk (Some tasks) t is_up e down is = offline_now disk tasks t is_up e down is

  pub by_busy : (disk : ClientDisk) (agenda : Option (List ClientTask)) → IsClient state old (at disk agenda) → old.is_up ≡ true → (e : CallFault) → old.is_linked ≡ true → (writes_of old.devs ≡ [] → ⊥) → e ≡ call.Busy (plan_at_work (devs st old.devs) (writes_of old.devs)) → TakesSo disk agenda old (Err e)
  by_busy disk None t is_up e linked busy is = let no = t.at.0 in absurd cc
  by_busy disk (Some tasks) t is_up e linked busy is = busy_now disk tasks t is_up e linked busy is

  no_task : (disk : ClientDisk) (task : ClientTask) (more : List ClientTask) → IsClient state old (at disk (Some (task ∷ more))) → writes_of old.devs ≡ [] → {P : Type 0} → P
  no_task disk task more t idle = absurd (let none = (tasks_of_writes old.number (devs st old.devs) (writes_of old.devs) disk (task ∷ more) t.at.1.follows).none idle in cc)

  pub node_idle : (disk : ClientDisk) (agenda : Option (List ClientTask)) → IsClient state old (at disk agenda) → old.is_up ≡ true → writes_of old.devs ≡ [] → IsIdle (devs st old.devs) old.number
  node_idle disk None t is_up idle = let no = t.at.0 in absurd cc
  node_idle disk (Some []) t is_up idle = is_idle state images only_now old disk t is_up idle
  node_idle disk (Some (task ∷ more)) t is_up idle = no_task disk task more t idle

  module _ (linked : old.is_linked ≡ true) (idle : writes_of old.devs ≡ []) (found : Result Reaction CallFault) (client : Journal (FuseDisk D)) (k : Looks st im old.devs client found) where
    looks_as : (r : Result Reaction CallFault) → r ≡ found → Looks st im old.devs client r
    looks_as r same = subst (λ (x : Result Reaction CallFault). Looks st im old.devs client x) (sym same) k

    reacts_as : (o x : Reaction) → Ok o ≡ found → o ≡ x → IfOk found (Reacts (devs st old.devs) old.number message) → Reacts (devs st old.devs) old.number message x
    reacts_as o x same is r = subst (λ (y : Reaction). Reacts (devs st old.devs) old.number message y) is (subst (λ (y : Result Reaction CallFault). IfOk y (Reacts (devs st old.devs) old.number message)) (sym same) r)

    pub by_fault : (disk : ClientDisk) (agenda : Option (List ClientTask)) → IsClient state old (at disk agenda) → old.is_up ≡ true → (e : CallFault) → Err e ≡ found → IfErr found IsFault → (new : ClientNode D) → (IsErrOf {T = Reaction} (Err e) call.Disk → Fell state images (record old { devs = client }) new)
        → ((IsErrOf {T = Reaction} (Err e) call.Disk → ⊥) → new ≡ record old { devs = client }) → TakesSo disk agenda new (Err e)
    by_fault disk None t is_up e same fault new fell other = let no = t.at.0 in absurd cc
    by_fault disk (Some []) t is_up e same fault new fell other =
        fault_now disk t is_up linked idle Nothing client e (subst (λ (r : Result Reaction CallFault). IfErr r IsFault) (sym same) fault) (looks_as (Err e) same) new fell other
    by_fault disk (Some (task ∷ more)) t is_up e same fault new fell other = no_task disk task more t idle

    pub by_ignored : (disk : ClientDisk) (agenda : Option (List ClientTask)) → IsClient state old (at disk agenda) → old.is_up ≡ true → (o : Reaction) → Ok o ≡ found → IfOk found (Reacts (devs st old.devs) old.number message) → o ≡ Nothing → (new : ClientNode D) → new ≡ record old { devs = client } → TakesSo disk agenda new (Ok tt)
    by_ignored disk None t is_up o same r none new is = let no = t.at.0 in absurd cc
    by_ignored disk (Some []) t is_up o same r none new is =
        ignored_now disk t is_up linked idle o client (looks_as (Ok o) same) (reacts_as o Nothing same none r) new is
    by_ignored disk (Some (task ∷ more)) t is_up o same r none new is = no_task disk task more t idle

    pub by_sent : (disk : ClientDisk) (agenda : Option (List ClientTask)) → IsClient state old (at disk agenda) → old.is_up ≡ true → (o : Reaction) → Ok o ≡ found → IfOk found (Reacts (devs st old.devs) old.number message) → (sends : _) → o ≡ Sends sends → (new : ClientNode D) → new.devs ≡ client
        → HasSent old new (map send_of sends.items) → TakesSo disk agenda new (Ok tt)
    by_sent disk None t is_up o same r sends is new now h = let no = t.at.0 in absurd cc
    by_sent disk (Some []) t is_up o same r sends is new now h = sent_now disk t is_up linked idle o client (looks_as (Ok o) same) (map send_of sends.items) (reacts_as o (Sends sends) same is r) new now h
    by_sent disk (Some (task ∷ more)) t is_up o same r sends is new now h = no_task disk task more t idle

    pub by_short : (disk : ClientDisk) (agenda : Option (List ClientTask)) → IsClient state old (at disk agenda) → old.is_up ≡ true → (o : Reaction) → Ok o ≡ found → (new : ClientNode D) → new.devs ≡ client → IsMid old new → TakesSo disk agenda new (Err call.Memory)
    by_short disk None t is_up o same new is mid = let no = t.at.0 in absurd cc
    by_short disk (Some []) t is_up o same new is mid = short_now disk t is_up linked idle o client (looks_as (Ok o) same) new is mid
    by_short disk (Some (task ∷ more)) t is_up o same new is mid = no_task disk task more t idle

    pub by_carried : (disk : ClientDisk) (agenda : Option (List ClientTask)) → IsClient state old (at disk agenda) → old.is_up ≡ true → (o : Reaction) → Ok o ≡ found → IfOk found (Reacts (devs st old.devs) old.number message) → (planned : Planned) → o ≡ Begins planned → (result : Result (Unit {0}) CallFault) (mid new : ClientNode D)
        → mid ≡ record old { devs = client } → Carries state images mid new planned [] result → TakesSo disk agenda new result
    by_carried disk None t is_up o same r planned some result mid new is c = let no = t.at.0 in absurd cc
    by_carried disk (Some []) t is_up o same r planned some result mid new is c =
        carried_now disk t is_up linked idle o client (looks_as (Ok o) same) planned (reacts_as o (Begins planned) same some r) result mid new is c
    by_carried disk (Some (task ∷ more)) t is_up o same r planned some result mid new is c = no_task disk task more t idle

    pub carry_idle : (disk : ClientDisk) (agenda : Option (List ClientTask)) → IsClient state old (at disk agenda) → old.is_up ≡ true → (o : Reaction) → Ok o ≡ found → AreUp client × (writes_of client ≡ []) × IsReady st client (writes_of client) × IsAtRest (devs st client)
    carry_idle disk None t is_up o same = let no = t.at.0 in absurd cc
    carry_idle disk (Some []) t is_up o same =
        let l = looks_as (Ok o) same in
        (l.serves.up (λ no. cc), l.agenda ∙ idle, l.serves.ready (λ no. cc), subst IsAtRest (sym (l.serves.same (λ no. cc))) (idle_at state images only_now old disk t is_up idle).rests)
    carry_idle disk (Some (task ∷ more)) t is_up o same = no_task disk task more t idle

    -- the devices take its plan on
    pub carry_plan : (disk : ClientDisk) (agenda : Option (List ClientTask)) → IsClient state old (at disk agenda) → old.is_up ≡ true → (planned : Planned) → Ok (Begins planned) ≡ found → IfOk found (Reacts (devs st old.devs) old.number message) → IsPlan (devs st client) planned.plan
    carry_plan disk None t is_up planned same r = let no = t.at.0 in absurd cc
    carry_plan disk (Some []) t is_up planned same r =
        let l = looks_as (Ok (Begins planned)) same in
        let i = (subst (λ (x : Result Reaction CallFault). IfOk x (Reacts (devs st old.devs) old.number message)) (sym same) r).some old.waiting disk (idle_at state images only_now old disk t is_up idle) in
        subst (λ (d : ClientDevs). IsPlan d planned.plan) (sym (l.serves.same (λ no. cc))) i.3.taken
    carry_plan disk (Some (task ∷ more)) t is_up planned same r = no_task disk task more t idle

-- a node is in some state behind a message
pub takes_node : {D : Type 0} (state : D → DiskState) (images : D → ℕ → List ℕ → Type 0) (s : Client) (m : messages.Message) (old new : ClientNode D) (r : Result (Unit {0}) CallFault) → Takes state images s m old new r → (FitsClient s.disk m ⊎ (FitsClient s.disk m → ⊥)) → IsNode state new
takes_node state images s m old new r k (inl fit) = does_node state images s (Take m) (λ value. facts.Done) old new r (k.taken fit)
takes_node {D} state images s m old new r k (inr unfit) = drops_node r (k.dropped unfit)
  where
    drops_node : (r : Result (Unit {0}) CallFault) → Drops state images s m old new r → IsNode state new
    drops_node (Ok x) d = (_, d.dropped.client)
    drops_node (Err e) d = pick (disk_or e)
      where
        pick : (e ≡ call.Disk) ⊎ (e ≡ call.Disk → ⊥) → IsNode state new
        pick (inl same) = (_, (d.fallen (as_err e call.Disk same)).client)
        pick (inr apart) = (_, (d.kept (λ is. apart (of_err e call.Disk is))).client)

-- whether a row fits is decided
which : (r : Result (Unit {0}) FitFault) → (r ≡ Ok tt) ⊎ (r ≡ Ok tt → ⊥)
which (Ok x) = inl refl
which (Err f) = inr (λ is. cc)

fits_table : (o : Option TableDisk) (h : Option messages.Header) → FitsTable o h ⊎ (FitsTable o h → ⊥)
fits_table None h = inl tt
fits_table (Some t) None = inl tt
fits_table (Some t) (Some h) = which (fit_of t.schema h.content)

pub fits_or_not : (s : Client) (m : messages.Message) → FitsClient s.disk m ⊎ (FitsClient s.disk m → ⊥)
fits_or_not s (messages.SyncRequest q) = inl tt
fits_or_not s (messages.SyncResponse q) = inl tt
fits_or_not s (messages.PullRequest q) = inl tt
fits_or_not s (messages.PullResponse q) = fits_table (table_at (seen s.disk) q.table) q.header
fits_or_not s (messages.TornRowRequest q) = inl tt
fits_or_not s (messages.TornRowResponse q) = fits_table (table_at (seen s.disk) q.table) q.header
