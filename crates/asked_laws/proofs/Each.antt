-- While a client resolves all conflicts of a table, it tells no conflict: what it was asked to it stays asked to.
use Rattle.std.proofs.Common.{◌≡◌, ⊎_elim, ℕ, ◌+◌, Bool, true, false, List, [], ◌∷◌, Option, Some, None, Result, Ok, Err, refl, sym, ◌∙◌, ap, subst, inl, inr}
use Rattle.std.specs.Prelude.{drop, if◌then◌else◌}
use Rattle.row_value.specs.declared.fit.FitFault.{FitFault}
use Rattle.table_model.specs.declared.line.RowPair.{RowPair}
use Rattle.conflicts.specs.declared.stored.Stored as resolvers
use Rattle.step_tables.specs.Facts.{Fact, Answer}
use Rattle.step_tables.specs.Facts as facts
use Rattle.step_tables.specs.Messages.{Luck}
use Rattle.step_tables.specs.Messages as messages
use Rattle.step_tables.specs.ClientMoves as client
use Rattle.step_tables.specs.ClientMoves.{TableDisk, Plan, ClientDisk, Client, ClientTask, ClientMove, ClientStep, Shape, no_shape, table_at, seen, client_step}
use Rattle.world_tables.specs.World.{World, Packet, Moved, client_at, tasks_in, still, and_then, and_unless, failing, move_there, move_client, first_luck, other_lucks, client_works, client_tasks, client_until_idle, client_falls}
use Rattle.world_tables.specs.World.{chosen_of, first_shape, other_shapes, plan_size, resolve_by, resolve_each}
use Rattle.world_laws.proofs.Looks.{look_cases}
use Rattle.asked_laws.specs.Asked.{Asked}
use Rattle.asked_laws.proofs.Tellings.{outs_unsent, facts_asked, outs_asked, OutsAsked, outs_join, outs_both}
use Rattle.asked_laws.proofs.Fine.{AreResolving, HasOnePlan, plain_one, plain_told, resolving_same}
use Rattle.asked_laws.proofs.Plans.{planning_one}
use Rattle.asked_laws.proofs.Begins.{resolve_fine}
use Rattle.asked_laws.proofs.ClientMoves.{WasAsked}
use Rattle.asked_laws.proofs.Worlds.{AreFine, Goes, still_goes, both_packets, failing_goes, client_goes}

module _ (a : Asked) (c : ℕ) where
  abbrev pub Resolves : Plan → Type 0
  Resolves p = AreResolving a c p.facts

  -- what the client has begun tells no conflict
  abbrev pub IsResolving : World → Type 0
  IsResolving w = (node : Client) → client_at w c ≡ Some node → HasOnePlan Resolves (tasks_in node.agenda)

  pub record Stays (before : List Packet) (m : Moved) : Type 0 where
    pub goes : Goes a before m
    pub same : outs_asked m.outs a ≡ a
    pub resolving : IsResolving m.world

  -- ---- one after the other

  there : {before : List Packet} (m : Moved) → Stays before m → AreFine a m.world
  there m s = subst (λ (b : Asked). AreFine b m.world) s.same s.goes.fine

  still_stays : (w : World) → AreFine a w → IsResolving w → Stays w.packets (still w)
  still_stays w fine is = record { goes = still_goes a w fine; same = refl; resolving = is }

  then_stays : {before : List Packet} (m : Moved) (f : World → Moved) → Stays before m → (AreFine a m.world → IsResolving m.world → Stays m.world.packets (f m.world)) → Stays before (and_then m f)
  then_stays {before = before} m f first next =
      let rest : Stays m.world.packets (f m.world) = next (there m first) first.resolving in
      let same : outs_asked (and_then m f).outs a ≡ a = outs_join a m.outs (f m.world).outs ∙ (ap (outs_asked (f m.world).outs) first.same ∙ rest.same) in
      record {
        goes = record {
          asked = outs_both a m.outs (f m.world).outs first.goes.asked (subst (λ (b : Asked). OutsAsked b (f m.world).outs) (sym first.same) rest.goes.asked);
          fine = subst (λ (b : Asked). AreFine b (f m.world).world) (sym same) (there (f m.world) rest);
          unsent = outs_unsent m.outs (f m.world).outs first.goes.unsent rest.goes.unsent;
          packets = rest.goes.packets ∙ both_packets before m.world.packets m.outs (f m.world).outs first.goes.packets;
        };
        same = same;
        resolving = rest.resolving;
      }

  unless_stays : {before : List Packet} (m : Moved) (f : World → Moved) → Stays before m → (AreFine a m.world → IsResolving m.world → Stays m.world.packets (f m.world)) → Stays before (and_unless m f)
  unless_stays {before = before} m f first next = go m.failed
    where
      go : (failed : Bool) → Stays before (if failed then m else and_then m f)
      go true = first
      go false = then_stays m f first next

  -- ---- one move

  -- a step that tells no conflict, and begins none to be told
  abbrev StepResolves : ClientStep → Type 0
  StepResolves s = (facts_asked s.facts a ≡ a) × HasOnePlan Resolves (tasks_in s.client.agenda)

  move_stays : (w : World) (move : ClientMove) (shape : Shape) → AreFine a w → IsResolving w
      → ((node : Client) → client_at w c ≡ Some node → WasAsked a c move (client_step c shape node move).answer)
      → ((node : Client) → HasOnePlan Resolves (tasks_in node.agenda) → StepResolves (client_step c shape node move)) → Stays w.packets (move_client c move shape w)
  move_stays w move shape fine is was keeps = go (client_at w c) refl (client_goes a w c move shape fine was)
    where
      go : (o : Option Client) → client_at w c ≡ o → Goes a w.packets (move_there w c move shape o) → Stays w.packets (move_there w c move shape o)
      go None at goes = record { goes = goes; same = refl; resolving = is }
      go (Some node) at goes =
          let s : ClientStep = client_step c shape node move in
          let kept : StepResolves s = keeps node (is node at) in
          record {
            goes = goes;
            same = kept.0;
            resolving = λ found there. ⊎_elim
                (λ e. let both : Some s.client ≡ Some found = sym e.1 ∙ there in let same : s.client ≡ found = cc in
                subst (λ (y : Client). HasOnePlan Resolves (tasks_in y.agenda)) same kept.1)
                (λ e. absurd (e.0 refl)) (look_cases w.clients c s.client c);
          }

  crash_resolves : (d : ClientDisk) (agenda : Option (List ClientTask)) (luck : Luck) → StepResolves (client.crashed d agenda luck)
  crash_resolves d None luck = (refl, tt)
  crash_resolves d (Some []) luck = (refl, tt)
  crash_resolves d (Some (task ∷ more)) messages.Done = (refl, tt)
  crash_resolves d (Some (task ∷ more)) messages.FailedBefore = (refl, tt)
  crash_resolves d (Some (task ∷ more)) messages.FailedAfter = (refl, tt)

  done_resolves : (d : ClientDisk) (agenda : Option (List ClientTask)) → HasOnePlan Resolves (tasks_in agenda) → StepResolves (client.done d agenda)
  done_resolves d None f = (refl, tt)
  done_resolves d (Some []) f = (refl, tt)
  done_resolves d (Some (task ∷ more)) (inl f) = ((plain_told a task.facts f.0.1).1, f.1)
  done_resolves d (Some (task ∷ more)) (inr f) =
      (ap (λ (some : List Fact). facts_asked some a) f.0.tells ∙ resolving_same c a f.0.plan f.0.fine, plain_one Resolves more f.1)

  work_resolves : (luck : Luck) (shape : Shape) (node : Client) → HasOnePlan Resolves (tasks_in node.agenda) → StepResolves (client_step c shape node (client.Work luck))
  work_resolves messages.Done shape node f = done_resolves node.disk node.agenda f
  work_resolves messages.FailedBefore shape node f = crash_resolves node.disk node.agenda messages.FailedBefore
  work_resolves messages.FailedAfter shape node f = crash_resolves node.disk node.agenda messages.FailedAfter

  works_stay : (tasks : List ClientTask) (lucks : List Luck) (w : World) → AreFine a w → IsResolving w → Stays w.packets (client_works c tasks lucks w)
  works_stay [] lucks w fine is = still_stays w fine is
  works_stay (task ∷ tasks) lucks w fine is =
      then_stays (move_client c (client.Work (first_luck lucks)) no_shape w) (client_works c tasks (other_lucks lucks))
      (move_stays w (client.Work (first_luck lucks)) no_shape fine is (λ node at. tt) (work_resolves (first_luck lucks) no_shape))
      (λ now resolving. works_stay tasks (other_lucks lucks) _ now resolving)

  falls_stay : (w : World) → AreFine a w → IsResolving w → Stays w.packets (failing (client_falls c w))
  falls_stay w fine is =
      let s : Stays w.packets (client_falls c w) = move_stays w (client.Crash messages.FailedBefore) no_shape fine is (λ node at. tt)
      (λ node f. crash_resolves node.disk node.agenda messages.FailedBefore) in
      record { goes = failing_goes a (client_falls c w) s.goes; same = s.same; resolving = s.resolving }

  -- ---- each row, where all were asked for

  module _ (table : ℕ) (all : (row : List ℕ) → a c table row ≡ true) (by : resolvers.Stored) where
    resolve_by_stays : (shape : Shape) (pair : RowPair) (luck : Luck) (w : World) → AreFine a w → IsResolving w → Stays w.packets (resolve_by c table by shape pair luck w)
    resolve_by_stays shape pair messages.FailedBefore w fine is = falls_stay w fine is
    resolve_by_stays shape pair messages.FailedAfter w fine is = falls_stay w fine is
    resolve_by_stays shape pair messages.Done w fine is =
        move_stays w (client.Resolve table pair.row pair.version (chosen_of by pair.row (client_at w c) table)) shape fine is (λ node at lets. all pair.row)
        (λ node f.
        let b = resolve_fine a c shape (HasOnePlan Resolves) tt (λ p g. planning_one Resolves shape p [] g) node.disk table pair.row node.agenda f pair.version (chosen_of by pair.row (client_at w c) table) (λ lets. all pair.row) in
        ((plain_told a _ b.0).1, b.4))

    pub each_stays : (shapes : List Shape) (lucks : List Luck) (pairs : List RowPair) (w : World) → AreFine a w → IsResolving w → Stays w.packets (resolve_each c table by shapes lucks pairs w)
    each_stays shapes lucks [] w fine is = still_stays w fine is
    each_stays shapes lucks (pair ∷ pairs) w fine is =
        let first : Moved = resolve_by c table by (first_shape shapes) pair (first_luck lucks) w in
        let more : List Luck = drop (1 + plan_size c first.world) lucks in
        unless_stays (and_unless first (client_until_idle c (other_lucks lucks))) (resolve_each c table by (other_shapes shapes) more pairs)
        (unless_stays first (client_until_idle c (other_lucks lucks)) (resolve_by_stays (first_shape shapes) pair (first_luck lucks) w fine is)
        (λ now resolving. works_stay (client_tasks (client_at first.world c)) (other_lucks lucks) first.world now resolving))
        (λ now resolving. each_stays (other_shapes shapes) more pairs _ now resolving)

-- ---- a client resolves all conflicts only where it has nothing at work

abbrev pub IsIdleNumber : Option (List ClientTask) → Answer → Type 0
IsIdleNumber agenda (facts.Number number) = tasks_in agenda ≡ []
IsIdleNumber agenda (facts.Refuses refusal) = Unit {0}
IsIdleNumber agenda other = ⊥

pub all_idle : (shape : Shape) (d : ClientDisk) (agenda : Option (List ClientTask)) (table : ℕ) (by : resolvers.Stored) → IsIdleNumber agenda (client.all_step shape d agenda table by).answer
all_idle shape d None table by = tt
all_idle shape d (Some agenda) table by = by_table (table_at (seen d) table)
  where
    idle : (tasks : List ClientTask) (opened : TableDisk) → IsIdleNumber (Some tasks) (client.all_idle shape d tasks opened).answer
    idle (task ∷ more) opened = tt
    idle [] opened = refl

    fitting : (opened : TableDisk) (fit : Result (Unit {0}) FitFault) → IsIdleNumber (Some agenda) (client.all_fitting shape d agenda opened fit).answer
    fitting opened (Ok fits) = idle agenda opened
    fitting opened (Err fault) = tt

    by_table : (o : Option TableDisk) → IsIdleNumber (Some agenda) (client.all_in shape d agenda by o).answer
    by_table None = tt
    by_table (Some opened) = fitting opened (client.can_resolve opened.schema by)
