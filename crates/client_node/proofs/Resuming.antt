-- What a node's start promises, from what is done to its devices.
use Rattle.std.proofs.Common.{◌≡◌, ◌⊎◌, inl, inr, ⊎_elim, ℕ, ◌<◌, ◌++◌, length, map, Bool, true, false, List, [], ◌∷◌, Option, Some, None, Result, Ok, Err, refl, sym, ◌∙◌, ap, subst, arith, append-nil}
use Rattle.std.specs.Prelude.{IsErrOf, IfSome, if◌then◌else◌}
use Rattle.disk_trait.specs.Image.{IsImage}
use Rattle.disk_trait.specs.Calls.{DiskState}
use Rattle.disk_trait.specs.Fuse.{behind, inner_of}
use Rattle.disk_trait.specs.declared.fuse.FuseDisk.{FuseDisk}
use Rattle.vault.specs.Calls.{IsEither}
use Rattle.stab_base.specs.declared.step.Step.{Step}
use Rattle.stab_base.specs.declared.step.Step.TheVariants as steps
use Rattle.held_value.specs.declared.local_name.LocalName.{LocalName}
use Rattle.slot_store.specs.Data.{SlotData}
use Rattle.table_model.specs.declared.line.Fact.{Fact as Told}
use Rattle.client_journal.specs.declared.devs.Journal.{Journal}
use Rattle.client_journal.specs.Agenda.{Runs, IsRedoing}
use Rattle.client_journal.specs.Asking.{AllLeave}
use Rattle.client_journal.specs.Devs.{ClientDevs, Write, changed_by, changed_by_all}
use Rattle.client_journal.specs.NamedSlots.{IsAtRest}
use Rattle.client_journal.specs.Recover.{AreRecoveryWrites}
use Rattle.client_journal.specs.Redone.{redone}
use Rattle.client_journal.specs.Standing.{devs, writes_of, IsReady, DevsLeave}
use Rattle.client_journal.proofs.Moments.{devs_weaker}
use Rattle.client_journal.proofs.Works.{rests_leave, all_same}
use Rattle.step_tables.specs.Facts.{Fact}
use Rattle.step_tables.specs.Facts as facts
use Rattle.step_tables.specs.Messages.{Send}
use Rattle.step_tables.specs.Lines.{fact_of}
use Rattle.step_tables.specs.ClientMoves.{Plan, Shape, ClientDisk, ClientTask, Client, no_shape, started, resumed, opening, ending, told_at_start, told_without, keeps, rest_of, row_task, table_task, put_tasks, TableChange}
use Rattle.step_tables.specs.ClientMoves as moves
use Rattle.journal_laws.specs.Holds.{Stands, Follows}
use Rattle.journal_laws.specs.Moves.{drop_steps}
use Rattle.journal_laws.proofs.Starts.{start_follows}
use Rattle.gathering.specs.declared.gathered.Gathered.{Gathered}
use Rattle.gathering.specs.Room.{HasRoom}
use Rattle.client_node.specs.Due.{told_at, left_at, sent_at}
use Rattle.client_node.specs.Steady.{IsSteadyPlan, IsSteady, AreSteady}
use Rattle.client_node.specs.Noting.{AreAllNoted}
use Rattle.client_node.specs.declared.waiting.Waiting.{Waiting}
use Rattle.client_node.specs.declared.fault.CallFault.{CallFault}
use Rattle.client_node.specs.declared.fault.CallFault.TheVariants as call
use Rattle.client_node.specs.declared.node.ClientNode.{ClientNode}
use Rattle.client_node.specs.declared.owed.Owed.{Owed}
use Rattle.client_node.specs.declared.owed.When.{When}
use Rattle.client_node.specs.declared.owed.When.TheVariants.{AtEnd}
use Rattle.client_node.specs.Calls.{Falls, IsBehind, Stays}
use Rattle.client_node.specs.Devices.{BeginsStart, OwesEnd}
use Rattle.client_node.specs.Node.{StandsFor, FollowsFor, StayFit, AreOwed, IsWorking, IsResting, IsClient, IsNode, told_by, sent_by, facts_owed, sends_owed}
use Rattle.client_node.specs.Starts.{Starts, torn_in}
use Rattle.client_node.proofs.Answering.{of_err, as_err}
use Rattle.client_node.proofs.Declaring.{no_room}
use Rattle.client_node.proofs.Retelling.{ok_only}
use Rattle.client_node.proofs.Asked.{stands_now}
use Rattle.client_node.proofs.Falling.{MayHold, fallen, fallen_leaves}
use Rattle.client_node.proofs.Fitting.{start_stays_fit}
use Rattle.client_node.proofs.HeldNoted.{steady_held}
use Rattle.client_node.proofs.Owing.{AreQuiet, OwedTasks, is_last_task, owed_by, none_told, none_left, keeps_quiet, row_quiet, table_quiet}
use Rattle.client_node.proofs.Planned.{steady_keeps, steady_append, steady_puts}
use Rattle.client_node.proofs.OwnFaults.{own_kept, own_failed}
use Rattle.client_node.proofs.PlanNumbers.{plans_lost, plans_started}
use Rattle.client_node.proofs.Working.{IsKept}

-- ---- the writes of a start tell nothing before the last of them

quiet_both : (xs ys : List ClientTask) → AreQuiet xs → AreQuiet ys → AreQuiet (xs ++ ys)
quiet_both [] ys a b = b
quiet_both (x ∷ xs) ys a b = (a.0, a.1, quiet_both xs ys a.2 b)

puts_quiet : (p : Plan) (o : Option TableChange) (more : List ClientTask) → AreQuiet more → AreQuiet (put_tasks p o more)
puts_quiet p None more q = quiet_both (row_task p p.row) (table_task p p.position ++ more) (row_quiet p p.row) (quiet_both (table_task p p.position) more (table_quiet p p.position) q)
puts_quiet p (Some change) more q = (refl, refl, q)

rest_quiet : (shape : Shape) (p : Plan) → AreQuiet (rest_of shape p [])
rest_quiet shape p =
    let last : List ClientTask = record { change = moves.Finish; facts = []; sends = [] } ∷ [] in
    puts_quiet p p.alters (keeps shape.after ++ last) (quiet_both (keeps shape.after) last (keeps_quiet shape.after) (refl, refl, tt))

opening_quiet : (shape : Shape) (o : Option Plan) → AreQuiet (opening shape o)
opening_quiet shape None = quiet_both (keeps shape.before) (keeps shape.after) (keeps_quiet shape.before) (keeps_quiet shape.after)
opening_quiet shape (Some p) = quiet_both (keeps shape.before) (rest_of shape p []) (keeps_quiet shape.before) (rest_quiet shape p)

none_sent : (b : Bool) → sent_at [] b ≡ []
none_sent true = refl
none_sent false = refl

ending_last : (some : List Fact) (task : ClientTask) (tasks : List ClientTask) → is_last_task (ending some (task ∷ tasks)) ≡ false
ending_last some task [] = refl
ending_last some task (next ∷ more) = refl

ending_owed : (some : List Fact) (tasks : List ClientTask) → AreQuiet tasks → OwedTasks AtEnd some [] (ending some tasks)
ending_owed some [] q = tt
ending_owed some (task ∷ []) q = (ap (λ (l : List Fact). l ++ some) q.0, q.1, tt)
ending_owed some (task ∷ next ∷ more) q =
    let last = ending_last some next more in (
      q.0 ∙ sym (ap (λ (b : Bool). told_at AtEnd some (moves.step_of task.change) b) last),
      q.1 ∙ sym (none_sent (is_last_task (ending some (next ∷ more)))),
      subst (λ (l : List Fact). OwedTasks AtEnd l [] (ending some (next ∷ more))) (sym (ap (λ (b : Bool). left_at AtEnd some (moves.step_of task.change) b) last)) (ending_owed some (next ∷ more) q.2),
    )

-- ---- and their plan is that of the disk

ending_steady : (w : Waiting) (some : List Fact) (tasks : List ClientTask) → AreSteady w tasks → AreSteady w (ending some tasks)
ending_steady w some [] s = tt
ending_steady w some (task ∷ []) s = s
ending_steady w some (task ∷ next ∷ more) s = (s.0, ending_steady w some (next ∷ more) s.1)

opening_steady : (w : Waiting) (shape : Shape) (o : Option Plan) → IfSome o (IsSteadyPlan w) → AreSteady w (opening shape o)
opening_steady w shape None s = steady_append w (keeps shape.before) (keeps shape.after) (steady_keeps w shape.before) (steady_keeps w shape.after)
opening_steady w shape (Some p) s =
    let last : List ClientTask = record { change = moves.Finish; facts = []; sends = [] } ∷ [] in
    let ends : AreSteady w (keeps shape.after ++ last) = steady_append w (keeps shape.after) last (steady_keeps w shape.after) (tt, tt) in
    steady_append w (keeps shape.before) (rest_of shape p []) (steady_keeps w shape.before) (steady_puts w p p.alters (keeps shape.after ++ last) s ends)

-- what holds behind the last of a start's writes
redone_end : (meaning : LocalName → List ℕ) (before : SlotData) (d : ClientDevs) (ws : List Write) → Runs (IsRedoing meaning before) d ws → IsAtRest (changed_by_all d ws)
redone_end meaning before d [] r = r.rests refl
redone_end meaning before d (w ∷ ws) r = redone_end meaning before (changed_by d w) ws r.1

-- the shape of a start that drops these chunks
abbrev start_shape : Option (ℕ × List ℕ) → List LocalName → Shape
start_shape torn names = record { plan = 0; before = steps.OpenJournal ∷ steps.OpenSlots ∷ steps.OpenChunks ∷ []; after = drop_steps names; torn = torn }

-- its first write tells nothing
none_without : (torn : Option (ℕ × List ℕ)) (names : List LocalName) (some : List Fact) (o : Option Plan) → told_without some (opening (start_shape torn names) o) ≡ []
none_without torn names some None = refl
none_without torn names some (Some p) = refl

module _ {D : Type 0} (state : D → DiskState) (images : D → ℕ → List ℕ → Type 0) (only_now : (disk : FuseDisk D) (image : List ℕ) → images (inner_of disk) (behind state disk).moment image → IsImage (behind state disk).pending image) where
  abbrev st : FuseDisk D → DiskState
  st f = behind state f

  abbrev im : FuseDisk D → ℕ → List ℕ → Type 0
  im f = images (inner_of f)

  abbrev at : ClientDisk → Option (List ClientTask) → Client
  at disk agenda = record { disk = disk; agenda = agenda }

  -- ---- a node that is up

  pub start_up : (node : ClientNode D) (disk : ClientDisk) (agenda : Option (List ClientTask)) → IsClient state node (at disk agenda)
      → node.is_up ≡ true → Starts state images (at disk agenda) node node (Ok tt)
  start_up node disk None t up = let is = t.at.0 in absurd cc
  start_up node disk (Some tasks) t up =
      let shape : Shape = record no_shape { torn = torn_in state node } in
      let b : IsBehind state node node (started node.number shape disk (Some tasks)) = record { client = t; told = sym (append-nil (told_by node)); sent = sym (append-nil (sent_by node)); same = record { number = refl; linked = refl } } in
      let s : StandsFor node.number (devs st node.devs) disk = stands_now state images node disk (Some tasks) t up in
      record {
        started = (shape, b, λ _. refl);
        refused = tt;
        counted = λ _. refl;
        cause = λ is. absurd cc;
        only = tt;
        any_moment = λ _.
            devs_weaker st im node.devs node.devs (λ d. d ≡ devs st node.devs) (λ d. StandsFor node.number d disk ⊎ StandsFor node.number d disk) (rests_leave st im only_now node.devs (writes_of node.devs) t.at.1.ready)
            (λ d same. inl (subst (λ (x : ClientDevs). StandsFor node.number x disk) (sym same) s));
        plans = λ n below. below;
      }

  -- ---- a node that is down, and declared

  pub rests_down : (node : ClientNode D) (disk : ClientDisk) (agenda : Option (List ClientTask)) → IsClient state node (at disk agenda) → node.is_up ≡ false → (agenda ≡ None) × IsResting state node disk
  rests_down node disk None t down = (refl, t.at.1)
  rests_down node disk (Some tasks) t down = let is = t.at.0 in absurd cc

  module _ (old : ClientNode D) (disk : ClientDisk) (agenda : Option (List ClientTask)) (t : IsClient state old (at disk agenda)) (declared : old.is_declared ≡ true) (down : old.is_up ≡ false) where
    abbrev here : ClientDevs
    here = devs st old.devs

    r : IsResting state old disk
    r = (rests_down old disk agenda t down).1

    stands : StandsFor old.number here disk
    stands = r.stands declared

    -- devices that were only read leave the disk
    left_here : (client : Journal (FuseDisk D)) → AllLeave st im old.devs client → DevsLeave st im old.devs client (λ d. d ≡ here)
    left_here client l = all_same st im only_now old.devs client l.chunks l.slots l.journal

    module _ (client : Journal (FuseDisk D)) (owed : Owed) (more : Gathered Told) (k : BeginsStart {T = Owed} st im old.devs client (Ok owed)) (owes : OwesEnd old.number owed) (room : HasRoom more 1) (quiet : told_by old ≡ [])
        (told : (meaning : LocalName → List ℕ) (e : ClientDisk) → Stands old.number meaning here e → map fact_of more.items.items ≡ told_at_start old.number (torn_in state old) e.plan)
        (w : Waiting) (noted : AreAllNoted here w) where
      abbrev new : ClientNode D
      new = record old { devs = client; owed = owed; facts = more; waiting = w; is_up = true }

      steady : IsSteady w disk
      steady = steady_held old.number stands.0 here disk stands.1 r.steady.0 r.steady.1 w noted

      abbrev shape : Shape
      shape = start_shape (torn_in state old) k.writes.0

      abbrev last : List Fact
      last = facts.ClientRecovered old.number ∷ []

      abbrev tasks : List ClientTask
      tasks = ending last (opening shape disk.plan)

      follows : Follows old.number stands.0 (devs st client) (writes_of client) disk tasks
      follows = rw (k.same, k.writes.2) (start_follows old.number stands.0 here disk k.writes.0 shape last stands.1 k.writes.1 (record { before = refl; after = refl }))

      runs : Runs (IsRedoing stands.0 (redone here)) (devs st client) (writes_of client)
      runs = k.runs stands.0 stands.1.named

      working : IsWorking state new disk tasks
      working = record {
        declared = declared;
        up = k.up;
        fresh = k.cause.fuse.fresh r.fresh;
        ready = k.ready;
        follows = (stands.0, follows, start_stays_fit stands.0 (redone here) stands.2 (devs st client) (writes_of client) runs);
        rests = redone_end stands.0 (redone here) (devs st client) (writes_of client) runs;
        steady = steady;
        tasks_steady = ending_steady w last (opening shape disk.plan) (opening_steady w shape disk.plan steady.plan);
        owed =
            let o : AreOwed AtEnd last [] (writes_of client) tasks = owed_by old.number stands.0 (devs st client) (writes_of client) disk tasks follows AtEnd last [] (ending_owed last (opening shape disk.plan) (opening_quiet shape disk.plan)) in
            rw (owes.when, owes.facts, owes.messages) o;
        fact_room = subst (λ (n : ℕ). HasRoom more n) (sym owes.one) room;
        message_room = subst (λ (n : ℕ). HasRoom old.messages n) (sym (ap length owes.messages)) (no_room old.messages);
      }

      behind_start : IsBehind state old new (resumed old.number shape disk disk.plan)
      behind_start = record {
        client = record { at = (refl, working) };
        told =
            (told stands.0 disk stands.1 ∙ sym (ap (λ (l : List Fact). l ++ told_at_start old.number (torn_in state old) disk.plan) quiet))
            ∙ ap (λ (l : List Fact). told_by old ++ l) (sym (ap (λ (l : List Fact). told_at_start old.number (torn_in state old) disk.plan ++ l) (none_without (torn_in state old) k.writes.0 last disk.plan) ∙ append-nil (told_at_start old.number (torn_in state old) disk.plan)));
        sent = sym (append-nil (sent_by old));
        same = record { number = refl; linked = refl };
      }

      pub start_done : Starts state images (at disk agenda) old new (Ok tt)
      start_done = record {
        started = subst (λ (a : Option (List ClientTask)). (shape : Shape) × IsBehind state old new (started old.number shape disk a) × (old.is_declared ≡ true → shape.torn ≡ torn_in state old)) (sym (rests_down old disk agenda t down).0)
            (shape, behind_start, λ _. refl);
        refused = tt;
        counted = λ _. own_kept state old new r.fresh k.cause.fuse (k.cause.counted (ok_only owed));
        cause = λ is. absurd (ok_only tt is);
        only = tt;
        any_moment = λ _.
            devs_weaker st im old.devs client (λ d. d ≡ here) (λ d. StandsFor old.number d disk ⊎ StandsFor old.number d disk) (left_here client k.leave) (λ d same. inl (subst (λ (x : ClientDevs). StandsFor old.number x disk) (sym same) stands));
        plans = λ n below. plans_started state n old new declared r.idle k.same k.writes below;
      }

    -- it isn't: the devices hold what they held
    pub start_failed : (mid new : ClientNode D) (e : CallFault) → BeginsStart {T = Owed} st im old.devs mid.devs (Err e) → Falls state images mid new → IsKept old new → new.is_up ≡ false → Starts state images (at disk agenda) old new (Err e)
    start_failed mid new e k falls kept is_down =
        let is_declared : new.is_declared ≡ true = kept.declared ∙ declared in
        let may : MayHold old.number r.steady.0 here here disk disk = record { first = stands; second = stands; first_steady = r.steady.1; second_steady = r.steady.1 } in
        let run : DevsLeave st im old.devs mid.devs (IsEither here here) = devs_weaker st im old.devs mid.devs (λ d. d ≡ here) (IsEither here here) (left_here mid.devs k.leave) (λ d same. inl same) in
        record {
          started = tt;
          refused = record {
            client = subst (λ (a : Option (List ClientTask)). IsClient state new (at disk a)) (sym (rests_down old disk agenda t down).0)
                (⊎_elim (λ c. c) (λ c. c) (fallen state images old mid new kept.same r.steady.0 is_declared is_down falls old.devs here here disk disk may run));
            told = kept.told;
            sent = kept.sent;
            same = kept.same;
          };
          counted = λ n. falls.counted ∙ own_kept state old mid r.fresh k.cause.fuse (k.cause.counted (λ is. n (as_err {T = Unit {0}} e call.Disk (of_err {T = Owed} e call.Disk is))));
          cause = λ is. let less = own_failed state old mid r.fresh k.cause.fuse (k.cause.disk (as_err {T = Owed} e call.Disk (of_err {T = Unit {0}} e call.Disk is))) in let same = falls.counted in omega (arith, less, same);
          only = k.cause.only;
          any_moment = λ _. fallen_leaves state images old mid new kept.same r.steady.0 is_declared is_down falls old.devs here here disk disk may run;
          plans = λ n below. plans_lost state n old new (λ _. declared) (⊎_elim (λ c. c) (λ c. c) (falls.left old.devs here here run).0) falls.idle below;
        }

  pub starts_node : (s : Client) (old new : ClientNode D) (r : Result (Unit {0}) CallFault) → Starts state images s old new r → IsNode state new
  starts_node s before after (Ok x) k = (_, k.started.1.client)
  starts_node s before after (Err e) k = (_, k.refused.client)
