-- What a node is behind a call that takes a prepared plan on, and what the call promises.
use Rattle.std.proofs.Common.{◌≡◌, ◌⊎◌, inl, inr, ⊎_elim, ℕ, ◌+◌, ◌<◌, ◌≤◌, ◌++◌, length, true, List, [], ◌∷◌, Option, Some, None, Result, Ok, Err, refl, sym, ◌∙◌, ap, subst, append-nil}
use Rattle.std.specs.Prelude.{map, option_map, IfSome, IsSome, IfErr, IsErrOf}
use Rattle.disk_trait.specs.Image.{IsImage}
use Rattle.disk_trait.specs.Calls.{DiskState}
use Rattle.disk_trait.specs.Fuse.{behind, inner_of}
use Rattle.disk_trait.specs.declared.fuse.FuseDisk.{FuseDisk}
use Rattle.stab_base.specs.declared.limits.TheConstants.{NUMBER_MAX}
use Rattle.held_value.specs.declared.local_name.LocalName.{LocalName}
use Rattle.held_value.specs.declared.slots.Slots.{Slots as HeldSlots}
use Rattle.plan_log.specs.declared.plan.RowChange.{RowChange}
use Rattle.slot_store.specs.Data.{key_cmp, key_at, record_of}
use Rattle.client_journal.specs.declared.devs.Journal.{Journal}
use Rattle.client_journal.specs.declared.plan.Plan.{Plan as Begun}
use Rattle.client_journal.specs.Agenda.{plan_writes, meaning_with, IsMoment, Runs}
use Rattle.client_journal.specs.Devs.{ClientDevs, Write}
use Rattle.client_journal.specs.NamedSlots.{NamedSlots, IsAtRest}
use Rattle.client_journal.specs.Plan.{IsPlan, commit_for, intend_for, numbered_slots, numbered_row, plan_at_work}
use Rattle.client_journal.specs.Standing.{devs, writes_of, AreUp, IsReady}
use Rattle.step_tables.specs.Facts.{Answer, Refusal}
use Rattle.step_tables.specs.Facts as facts
use Rattle.step_tables.specs.Messages.{Send}
use Rattle.step_tables.specs.ClientMoves.{Plan, RowPut, Slots, ClientDisk, ClientTask, Client, ClientStep, ClientMove, Shape, begun, to_send}
use Rattle.step_tables.specs.Slots.{InFlight}
use Rattle.step_tables.specs.Slots.{Main}
use Rattle.step_tables.specs.Slots.{Shadow}
use Rattle.journal_laws.specs.Holds.{StandsPut, IsPutOf}
use Rattle.journal_laws.specs.Moves.{IsPlanShape, bring_steps, drop_steps}
use Rattle.journal_laws.specs.Whole.{whole_slots}
use Rattle.client_node.specs.declared.fault.CallFault.{CallFault}
use Rattle.client_node.specs.declared.fault.CallFault.TheVariants as call
use Rattle.client_node.specs.declared.node.ClientNode.{ClientNode}
use Rattle.client_node.specs.declared.planning.Planned.{Planned}
use Rattle.client_node.specs.declared.waiting.Waiting.{Waiting}
use Rattle.client_node.specs.Answers.{IsFault}
use Rattle.client_node.specs.Begins.{next_number, BeginsPlan}
use Rattle.client_node.specs.Calls.{Fell, IsBehind}
use Rattle.client_node.specs.Carrying.{IsAmid, IsCarried, IsUncarried, Carries}
use Rattle.client_node.specs.Does.{Does, IsOfNode, HasNoNumber, step_with, refusal_in}
use Rattle.client_node.specs.Looks.{Serves, Looks}
use Rattle.client_node.specs.Node.{StandsFor, IsClient, told_by, sent_by}
use Rattle.client_node.specs.Readied.{IsIdleAt, IsIdle, IsReadied}
use Rattle.client_node.specs.Steady.{IsNoted, IsSteadyPlan}
use Rattle.client_node.specs.Waiting.{IsMore}
use Rattle.client_node.proofs.Answering.{does_err, does_ok, of_err, as_err}
use Rattle.client_node.proofs.Asked.{IsMid, stands_now, steady_now}
use Rattle.client_node.proofs.NotedPlans.{noted_plan}
use Rattle.client_node.proofs.PlanNumbers.{plans_begun}
use Rattle.client_node.proofs.Planned.{IsPlanned, plan_behind, at_rest}
use Rattle.client_node.proofs.Serving.{serves_then}

-- a fault that isn't a refusal
no_answer : (e : CallFault) (refusal : Refusal) {P : Type 0} → ((e ≡ call.Spent NUMBER_MAX) ⊎ IsFault e) → refusal_in e ≡ Some refusal → P
no_answer e refusal cause is =
    absurd (⊎_elim (λ spent. let no : None ≡ Some refusal = ap refusal_in (sym spent) ∙ is in cc)
    (λ fault. ⊎_elim (λ disk. let no : None ≡ Some refusal = ap refusal_in (sym disk) ∙ is in cc) (λ memory. let no : None ≡ Some refusal = ap refusal_in (sym memory) ∙ is in cc) fault) cause)

same_number : (a b : ℕ) → call.Spent a ≡ call.Spent b → a ≡ b
same_number a b e = cc

module _ {D : Type 0} (state : D → DiskState) (images : D → ℕ → List ℕ → Type 0) (only_now : (disk : FuseDisk D) (image : List ℕ) → images (inner_of disk) (behind state disk).moment image → IsImage (behind state disk).pending image) where
  abbrev st : FuseDisk D → DiskState
  st f = behind state f

  abbrev im : FuseDisk D → ℕ → List ℕ → Type 0
  im f = images (inner_of f)

  abbrev at : ClientDisk → Option (List ClientTask) → Client
  at disk agenda = record { disk = disk; agenda = agenda }

  module _ (old : ClientNode D) (disk : ClientDisk) (t : IsClient state old (at disk (Some []))) (is_up : old.is_up ≡ true) (idle : writes_of old.devs ≡ []) where
    -- nothing is at work
    pub idle_at : IsIdleAt (devs st old.devs) old.number old.waiting disk
    idle_at = record {
      stands = stands_now state images old disk (Some []) t is_up;
      rests = at_rest state old disk t idle;
      steady = t.at.1.steady;
    }

    pub is_idle : IsIdle (devs st old.devs) old.number
    is_idle = record { waiting = old.waiting; disk = disk; at = idle_at }

    module _ {T : Type 0} (x : T) (client : Journal (FuseDisk D)) (k : Looks st im old.devs client (Ok x)) (planned : Planned) (again : List Send) where
      same : devs st client ≡ devs st old.devs
      same = k.serves.same (λ no. cc)

      pub client_up : AreUp client
      client_up = k.serves.up (λ no. cc)

      pub client_ready : IsReady st client (writes_of client)
      client_ready = k.serves.ready (λ no. cc)

      pub client_idle : writes_of client ≡ []
      client_idle = k.agenda ∙ idle

      pub client_rests : IsAtRest (devs st client)
      client_rests = subst IsAtRest (sym same) idle_at.rests

      abbrev mid : ClientNode D
      mid = record old { devs = client }

      begins_now : (new : Journal (FuseDisk D)) → BeginsPlan st client new planned.plan → BeginsPlan st old.devs new planned.plan
      begins_now new b = record {
        writes = subst (λ (d : ClientDevs). writes_of new ≡ plan_writes d.held (intend_for (d.journal.greatest + 1) planned.plan) planned.plan.brought (commit_for (d.journal.greatest + 1) planned.plan)) same b.writes;
        moments = subst
            (λ (d : ClientDevs). (meaning : LocalName → List ℕ) → NamedSlots meaning d → IsAtRest d → Runs (IsMoment (meaning_with meaning (d.journal.greatest + 1) planned.plan.brought) d.held (commit_for (d.journal.greatest + 1) planned.plan)) (devs st new) (writes_of new)) same
            b.moments;
      }

      -- the plan was taken on
      module _ (p : Plan) (sends : List Send) (r : IsReadied (devs st old.devs) old.number idle_at.stands.0 disk planned p sends) where
        pub shape_of : Shape
        shape_of = record {
          plan = plan_at_work (devs st old.devs) (writes_of old.devs);
          before = bring_steps planned.plan.brought;
          after = drop_steps planned.plan.drops;
          torn = None;
        }

        module _ (new : ClientNode D) (c : IsCarried state mid new planned again) (s : Serves {T = Unit {0}} st im client new.devs (Ok tt)) where
          -- the node as it was, with what it has gathered and owes now
          abbrev then_ : ClientNode D
          then_ = record old { messages = new.messages; facts = new.facts; owed = new.owed }

          then_client : IsClient state then_ (at disk (Some []))
          then_client =
              let h = t.at.1 in
              record {
                at = (
                  t.at.0,
                  record {
                    declared = h.declared;
                    up = h.up;
                    fresh = h.fresh;
                    ready = h.ready;
                    follows = h.follows;
                    rests = h.rests;
                    steady = h.steady;
                    tasks_steady = h.tasks_steady;
                    owed = rw idle tt;
                    fact_room = c.fact_room;
                    message_room = c.message_room;
                  },
                );
              }

          steady_plan : IsSteadyPlan new.waiting p
          steady_plan = record {
            few = r.few;
            alters = r.alters;
            noted = subst (λ (n : ℕ). IfSome p.row (λ put. IsNoted new.waiting n put.row put.slots)) r.its.table
                (noted_plan new.waiting (meaning_with idle_at.stands.0 (next_number st old.devs) planned.plan.brought) (next_number st old.devs) planned.plan.table planned.plan.row p.row r.its.row c.noted);
          }

          is_planned : IsPlanned state then_ disk then_client idle new planned.plan p sends
          is_planned = record {
            number = c.number;
            linked = c.linked;
            up = c.up ∙ is_up;
            declared = c.declared ∙ t.at.1.declared;
            told_same = refl;
            sent_same = refl;
            same = s.same (λ no. cc) ∙ same;
            devices = s.up (λ no. cc);
            fresh = s.fuse.fresh (k.serves.fuse.fresh t.at.1.fresh);
            ready = s.ready (λ no. cc);
            begins = begins_now new.devs c.begins;
            when = c.when;
            tells = c.tells ∙ r.tells;
            sends_is = c.sends ∙ r.sends_are;
            fact_room = c.fact_room;
            message_room = c.message_room;
            more = c.more;
            steady = steady_plan;
          }

          pub carried_behind : (answer : Answer) → IsBehind state old new (record (begun shape_of disk answer p sends) { sends = again })
          unfolding shape_of
          carried_behind answer =
              let b = plan_behind state then_ disk then_client idle new planned.plan p shape_of answer sends idle_at.stands.0 is_planned r.taken idle_at.stands.1 idle_at.stands.2 r.fit r.its r.at (record { before = refl; after = refl }) in
              record {
                client = b.client;
                told = c.told ∙ sym (append-nil (told_by old));
                sent = c.sent;
                same = record { number = c.number; linked = c.linked };
              }

          pub does_carried : {V : Type 0} (move : ClientMove) (said : V → Answer) (value : V) (answer : Answer) → step_with old shape_of (at disk (Some [])) move ≡ record (begun shape_of disk answer p sends) { sends = again } → answer ≡ said value
              → Does {T = V} state images (at disk (Some [])) move said old new (Ok value)
          unfolding shape_of
          does_carried move said value answer step is =
              does_ok state images only_now old disk (Some []) t is_up move said tt value new.devs (serves_then st im old.devs new.devs t.at.1.up t.at.1.ready client x (Ok tt) k s) new refl
              (λ n below. plans_begun state n old new planned.plan t.at.1.declared idle (s.same (λ no. cc) ∙ same) (begins_now new.devs c.begins) below) shape_of (record { plan = refl })
              (subst (λ (y : ClientStep). IsBehind state old new y) (sym step) (carried_behind answer)) (ap (λ (y : ClientStep). y.answer) step ∙ is)

      -- it wasn't
      module _ (new : ClientNode D) (e : CallFault) (u : IsUncarried state images mid new e) where
        mid_is : IsMid old u.mid
        mid_is = record {
          number = u.amid.number;
          linked = u.amid.linked;
          up = u.amid.up;
          declared = u.amid.declared;
          told = u.amid.told;
          sent = u.amid.sent;
          owed = u.amid.owed;
          fact_room = u.amid.fact_room (length old.owed.facts.items);
          message_room = u.amid.message_room (length old.owed.messages.items);
          more = u.amid.more;
        }

        spent_is : (last : ℕ) → e ≡ call.Spent last → (last ≡ NUMBER_MAX) × HasNoNumber state old disk
        spent_is last is = ⊎_elim (λ spent. (same_number last NUMBER_MAX (sym is ∙ spent.0), inr (ap (λ (d : ClientDevs). d.journal.greatest) (sym same) ∙ spent.1)))
            (λ fault. absurd (⊎_elim (λ disk. let no : call.Spent last ≡ call.Disk = sym is ∙ disk in cc) (λ memory. let no : call.Spent last ≡ call.Memory = sym is ∙ memory in cc) fault)) u.cause

        pub does_uncarried : {V : Type 0} (move : ClientMove) (said : V → Answer) → Does {T = V} state images (at disk (Some [])) move said old new (Err e)
        does_uncarried move said =
            does_err state images only_now old disk (Some []) t is_up move said e u.mid mid_is (serves_then st im old.devs u.mid.devs t.at.1.up t.at.1.ready client x (Err e) k u.serves)
            (λ refusal shape is of. no_answer e refusal (⊎_elim (λ spent. inl spent.0) (λ fault. inr fault) u.cause) is) spent_is new (λ is. u.fell (of_err e call.Disk is)) (λ n. u.other (λ is. n (as_err e call.Disk is)))
