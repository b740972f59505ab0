-- What a node is behind a call that takes a plan on.
use Rattle.std.proofs.Common.{◌≡◌, ℕ, ◌+◌, ◌<◌, ◌++◌, length, true, List, [], ◌∷◌, Option, Some, None, refl, sym, ◌∙◌, ap, subst, arith, append-nil}
use Rattle.std.specs.Prelude.{map, IfSome}
use Rattle.disk_trait.specs.Calls.{DiskState}
use Rattle.disk_trait.specs.Fuse.{behind, inner_of}
use Rattle.disk_trait.specs.declared.fuse.FuseDisk.{FuseDisk}
use Rattle.stab_base.specs.declared.step.Step.{Step}
use Rattle.held_value.specs.declared.local_name.LocalName.{LocalName}
use Rattle.slot_store.specs.Data.{record_of}
use Rattle.plan_log.specs.Spelling.{IsPlan as IsPlanNumber}
use Rattle.client_journal.specs.declared.devs.Journal.{Journal}
use Rattle.client_journal.specs.declared.plan.Plan.{Plan as Begun}
use Rattle.client_journal.specs.Devs.{ClientDevs, Write, changed_by, changed_by_all}
use Rattle.client_journal.specs.NamedSlots.{IsAtRest}
use Rattle.client_journal.specs.Agenda.{plan_writes, meaning_with, IsMoment, Runs}
use Rattle.client_journal.specs.Plan.{IsPlan, commit_for, intend_for}
use Rattle.client_journal.specs.Redone.{redone}
use Rattle.client_journal.specs.Standing.{devs, writes_of, MayDoAll, AreUp, IsReady}
use Rattle.client_journal.specs.Unset.{AreFresh}
use Rattle.step_tables.specs.Facts.{Fact, Answer}
use Rattle.step_tables.specs.Messages.{Send}
use Rattle.step_tables.specs.ClientMoves.{Plan, RowPut, TableChange, ClientDisk, ClientTask, Client, Shape, told, planning, begun, keeps, row_task, table_task, put_tasks, rest_of, only}
use Rattle.step_tables.specs.ClientMoves as moves
use Rattle.journal_laws.specs.Holds.{IsPlanOf, IsPlanAt, Stands, Follows}
use Rattle.journal_laws.specs.Moves.{IsPlanShape}
use Rattle.journal_laws.proofs.Plans.{plan_follows}
use Rattle.plan_limits.specs.Fit.{AreFitRows, IsFitChange}
use Rattle.gathering.specs.Room.{HasRoom}
use Rattle.client_node.specs.declared.owed.When.{When}
use Rattle.client_node.specs.declared.owed.When.TheVariants.{AtCommit}
use Rattle.client_node.specs.declared.node.ClientNode.{ClientNode}
use Rattle.client_node.specs.declared.waiting.Waiting.{Waiting}
use Rattle.client_node.specs.Waiting.{IsMore}
use Rattle.client_node.specs.Steady.{IsSteadyPlan, AreSteady}
use Rattle.client_node.specs.Node.{AreOwed, FollowsFor, StayFit, facts_owed, sends_owed, IsWorking, IsClient, told_by, sent_by}
use Rattle.client_node.specs.Calls.{IsBehind}
use Rattle.client_node.specs.Begins.{next_number, BeginsPlan}
use Rattle.client_node.proofs.Fitting.{plan_stays_fit, plan_number, rows_fit_before, rows_fit_behind}
use Rattle.client_node.proofs.KeptRows.{keeps_rows}
use Rattle.client_node.proofs.Owing.{owed_by, planning_owed}
use Rattle.client_node.proofs.Steadies.{steady_more}

-- ---- the tasks of a plan are of that plan

pub steady_keeps : (w : Waiting) (steps : List Step) → AreSteady w (keeps steps)
steady_keeps w [] = tt
steady_keeps w (step ∷ steps) = (tt, steady_keeps w steps)

pub steady_append : (w : Waiting) (xs ys : List ClientTask) → AreSteady w xs → AreSteady w ys → AreSteady w (xs ++ ys)
steady_append w [] ys a b = b
steady_append w (x ∷ xs) ys a b = (a.0, steady_append w xs ys a.1 b)

pub steady_row : (w : Waiting) (p : Plan) (o : Option RowPut) → IsSteadyPlan w p → AreSteady w (row_task p o)
steady_row w p None s = tt
steady_row w p (Some x) s = (s, tt)

pub steady_table : (w : Waiting) (p : Plan) (o : Option ℕ) → IsSteadyPlan w p → AreSteady w (table_task p o)
steady_table w p None s = tt
steady_table w p (Some position) s = (s, tt)

-- and so are its puts
pub steady_puts : (w : Waiting) (p : Plan) (o : Option TableChange) (more : List ClientTask) → IsSteadyPlan w p → AreSteady w more → AreSteady w (put_tasks p o more)
steady_puts w p None more s m = steady_append w (row_task p p.row) (table_task p p.position ++ more) (steady_row w p p.row s) (steady_append w (table_task p p.position) more (steady_table w p p.position s) m)
steady_puts w p (Some change) more s m = (s, m)

pub steady_planning : (w : Waiting) (shape : Shape) (p : Plan) (sends : List Send) → IsSteadyPlan w p → AreSteady w (planning shape p sends)
steady_planning w shape p sends s =
    let last : List ClientTask = record { change = moves.Finish; facts = []; sends = sends } ∷ [] in
    let ends : AreSteady w (keeps shape.after ++ last) = steady_append w (keeps shape.after) last (steady_keeps w shape.after) (tt, tt) in
    let rest : AreSteady w (rest_of shape p sends) = steady_puts w p p.alters (keeps shape.after ++ last) s ends in
    steady_append w (keeps shape.before) (record { change = moves.Commit p; facts = told p; sends = [] } ∷ rest_of shape p sends) (steady_keeps w shape.before) (s, rest)

-- what holds behind the last of some writes
pub runs_end : (R : List Write → ClientDevs → Type 0) (d : ClientDevs) (ws : List Write) → Runs R d ws → R [] (changed_by_all d ws)
runs_end R d [] r = r
runs_end R d (w ∷ ws) r = runs_end R (changed_by d w) ws r.1

module _ {D : Type 0} (state : D → DiskState) (old : ClientNode D) (disk : ClientDisk) (t : IsClient state old (record { disk = disk; agenda = Some [] })) (idle : writes_of old.devs ≡ []) where
  abbrev st : FuseDisk D → DiskState
  st f = behind state f

  abbrev here : ClientDevs
  here = devs st old.devs

  pub at_rest : IsAtRest here
  at_rest = subst (λ (l : List Write). IsAtRest (changed_by_all here l)) idle t.at.1.rests

  -- the node has taken the plan on, and owes what it tells and sends
  pub record IsPlanned (new : ClientNode D) (plan : Begun) (p : Plan) (sends : List Send) : Type 0 where
    pub number : new.number ≡ old.number
    pub linked : new.is_linked ≡ old.is_linked
    pub up : new.is_up ≡ true
    pub declared : new.is_declared ≡ true
    pub told_same : told_by new ≡ told_by old
    pub sent_same : sent_by new ≡ sent_by old
    pub same : devs st new.devs ≡ here
    pub devices : AreUp new.devs
    pub fresh : AreFresh st new.devs
    pub ready : IsReady st new.devs (writes_of new.devs)
    pub begins : BeginsPlan st old.devs new.devs plan
    pub when : new.owed.when ≡ AtCommit
    pub tells : facts_owed new.owed ≡ told p
    pub sends_is : sends_owed new.owed ≡ sends
    pub fact_room : HasRoom new.facts (length new.owed.facts.items)
    pub message_room : HasRoom new.messages (length new.owed.messages.items)
    pub more : IsMore old.waiting new.waiting
    pub steady : IsSteadyPlan new.waiting p

  pub plan_behind : (new : ClientNode D) (plan : Begun) (p : Plan) (shape : Shape) (answer : Answer) (sends : List Send) (meaning : LocalName → List ℕ) → IsPlanned new plan p sends → IsPlan here plan → Stands old.number meaning here disk → AreFitRows meaning (redone here)
      → IfSome plan.row (IsFitChange meaning (next_number st old.devs) plan.brought (record_of here.held plan.table))
      → IsPlanOf (meaning_with meaning (next_number st old.devs) plan.brought) old.number (commit_for (next_number st old.devs) plan) p → IsPlanAt disk plan.new_record p → IsPlanShape shape plan.brought plan.drops → IsBehind state old new (begun shape disk answer p sends)
  plan_behind new plan p shape answer sends meaning k j stands fit change of at s =
      let number : ℕ = next_number st old.devs in
      let means = meaning_with meaning number plan.brought in
      let tasks : List ClientTask = planning shape p sends in
      let writes : List Write = plan_writes here.held (intend_for number plan) plan.brought (commit_for number plan) in
      let newest : here.journal.greatest < number = omega arith in
      let f : Follows old.number means here writes disk tasks = plan_follows old.number meaning here disk number plan p sends shape stands at_rest j newest of at s.after s.before in
      let o : AreOwed AtCommit (told p) sends writes tasks = owed_by old.number means here writes disk tasks f AtCommit (told p) sends (planning_owed shape p sends plan.brought s.before) in
      let runs = k.begins.moments meaning stands.named at_rest in
      let ends = (runs_end (IsMoment means here.held (commit_for number plan)) (devs st new.devs) (writes_of new.devs) runs).rests refl in
      let may : MayDoAll (devs st new.devs) writes = subst (λ (l : List Write). MayDoAll (devs st new.devs) l) k.begins.writes k.ready.may in
      let is : IsPlanNumber number = plan_number (devs st new.devs) here.held number plan plan.brought may in
      let stays : StayFit means (devs st new.devs) (writes_of new.devs) =
      plan_stays_fit means here.held (rows_fit_before old.number meaning here disk stands at_rest number newest fit plan) (commit_for number plan)
      (rows_fit_behind old.number meaning here disk stands at_rest number newest fit plan (keeps_rows old.number meaning here disk stands number plan p of at) is change) (devs st new.devs) (writes_of new.devs) runs in
      let w : IsWorking state new disk tasks = record {
        declared = k.declared;
        up = k.devices;
        fresh = k.fresh;
        ready = k.ready;
        follows = (means, rw (k.number, k.same, k.begins.writes) f, stays);
        rests = ends;
        steady = steady_more old.waiting new.waiting k.more disk t.at.1.steady;
        tasks_steady = steady_planning new.waiting shape p sends k.steady;
        owed = rw (k.when, k.tells, k.sends_is, k.begins.writes) o;
        fact_room = k.fact_room;
        message_room = k.message_room;
      } in
      record {
        client = record { at = (k.up, w) };
        told = k.told_same ∙ sym (append-nil (told_by old));
        sent = k.sent_same ∙ sym (append-nil (sent_by old));
        same = record { number = k.number; linked = k.linked };
      }
