-- A client's moves keep what it has begun: it begins to resolve only what it was asked to, and what it tells was asked
-- for.
use Rattle.std.proofs.Common.{◌≡◌, ℕ, List, [], ◌∷◌, ◌++◌, Option, Some, None, refl, sym, ◌∙◌, subst, inl, inr, append-nil}
use Rattle.stab_base.specs.declared.step.Step.{Step}
use Rattle.step_tables.specs.Facts.{ClientFact, Fact, Answer}
use Rattle.step_tables.specs.Facts as facts
use Rattle.step_tables.specs.Messages.{Response, Pulled, Header, Outcome, Message, Send, Luck, SyncRequest, SyncResponse, PullRequest, PullResponse}
use Rattle.step_tables.specs.Messages as messages
use Rattle.step_tables.specs.ClientMoves as client
use Rattle.step_tables.specs.ClientMoves.{Slots, TableDisk, TableChange, RowPut, Plan, Placed, ClientDisk, ClientChange, ClientTask, Client, ClientMove, ClientStep, Shape, RowOut, slots_at, table_at, seen, client_step}
use Rattle.world_tables.specs.World.{tasks_in}
use Rattle.asked_laws.specs.Asked.{Asked}
use Rattle.asked_laws.proofs.Tellings.{AreUnsent, unsent_both, facts_asked, FactsAsked, facts_join, facts_both}
use Rattle.asked_laws.proofs.Fine.{plain_unsent, told_unsent, retold_unsent, IsFinePlan, IsFineKept, IsNoCommit, IsPlainTask, ArePlainTasks, HasOnePlan, IsFine, AreOthersKept, others_kept, plain_one, IsTold, first_told, again_told, plain_told, ArePlainFacts}

-- ---- the tasks of a plan, and of a start

keeps_one : (P : Plan → Type 0) (steps : List Step) (more : List ClientTask) → HasOnePlan P more → HasOnePlan P (client.keeps steps ++ more)
keeps_one P [] more f = f
keeps_one P (step ∷ steps) more f = inl ((tt, tt), keeps_one P steps more f)

keeps_plain : (steps : List Step) (more : List ClientTask) → ArePlainTasks more → ArePlainTasks (client.keeps steps ++ more)
keeps_plain [] more f = f
keeps_plain (step ∷ steps) more f = ((tt, tt), keeps_plain steps more f)

rest_plain : (shape : Shape) (p : Plan) (sends : List Send) → ArePlainTasks (client.rest_of shape p sends)
rest_plain shape p sends = puts p.alters
  where
    last : List ClientTask
    last = client.keeps shape.after ++ record { change = client.Finish; facts = []; sends = sends } ∷ []

    ends : ArePlainTasks last
    ends = keeps_plain shape.after _ ((tt, tt), tt)

    table : (o : Option ℕ) → ArePlainTasks (client.table_task p o ++ last)
    table None = ends
    table (Some position) = ((tt, tt), ends)

    go : (r : Option RowPut) (o : Option ℕ) → ArePlainTasks (client.row_task p r ++ (client.table_task p o ++ last))
    go None o = table o
    go (Some x) o = ((tt, tt), table o)

    puts : (alters : Option TableChange) → ArePlainTasks (client.put_tasks p alters last)
    puts None = go p.row p.position
    puts (Some change) = ((tt, tt), ends)

pub planning_one : (P : Plan → Type 0) (shape : Shape) (p : Plan) (sends : List Send) → P p → HasOnePlan P (client.planning shape p sends)
planning_one P shape p sends f = keeps_one P shape.before _ (inr (record { plan = p; change = refl; tells = refl; fine = f }, rest_plain shape p sends))

opening_plain : (shape : Shape) (o : Option Plan) → ArePlainTasks (client.opening shape o)
opening_plain shape None =
    keeps_plain shape.before _ (subst (λ (tasks : List ClientTask). ArePlainTasks tasks) (append-nil (client.keeps shape.after)) (keeps_plain shape.after [] tt))
opening_plain shape (Some p) = keeps_plain shape.before _ (rest_plain shape p [])

more_facts : (c : ℕ) (some : List Fact) → ArePlainFacts some → ArePlainFacts (some ++ facts.ClientRecovered c ∷ [])
more_facts c [] f = (tt, tt)
more_facts c (fact ∷ more) f = (f.0, more_facts c more f.1)

ending_plain : (c : ℕ) (tasks : List ClientTask) → ArePlainTasks tasks → ArePlainTasks (client.ending (facts.ClientRecovered c ∷ []) tasks)
ending_plain c [] f = tt
ending_plain c (task ∷ []) f = ((f.0.0, more_facts c task.facts f.0.1), tt)
ending_plain c (task ∷ next ∷ more) f = (f.0, ending_plain c (next ∷ more) f.1)

-- ---- a device write keeps the plan, but where one is committed or done

module _ (a : Asked) (c : ℕ) where
  put_table_keeps : (d : ClientDisk) (table : ℕ) (o : Option TableDisk) (f : TableDisk → TableDisk) → IsFineKept a c d.plan → IsFineKept a c (client.with_table d table o f).plan
  put_table_keeps d table None f fine = fine
  put_table_keeps d table (Some opened) f fine = fine

  row_put_keeps : (d : ClientDisk) (last table : ℕ) (o : Option RowPut) → IsFineKept a c d.plan → IsFineKept a c (client.row_put d last table o).plan
  row_put_keeps d last table None fine = fine
  row_put_keeps d last table (Some x) fine = put_table_keeps (record d { last = last }) table (table_at d table) (client.put_row x) fine

  table_put_keeps : (d : ClientDisk) (table : ℕ) (o : Option ℕ) → IsFineKept a c d.plan → IsFineKept a c (client.table_put d table o).plan
  table_put_keeps d table None fine = fine
  table_put_keeps d table (Some position) fine = put_table_keeps d table (table_at d table) (client.put_position position) fine

  altered_keeps : (d : ClientDisk) (table : ℕ) (change : TableChange) → IsFineKept a c d.plan → IsFineKept a c (client.altered d table change).plan
  altered_keeps d table client.Closes fine = put_table_keeps d table (table_at d table) client.close_table fine
  altered_keeps d table (client.Opens schema) fine = go (table_at d table)
    where
      go : (o : Option TableDisk) → IsFineKept a c (client.open_table d table schema o).plan
      go None = fine
      go (Some opened) = fine

  put_of_keeps : (d : ClientDisk) (p : Plan) (alters : Option TableChange) → IsFineKept a c d.plan → IsFineKept a c (client.put_of d p alters).plan
  put_of_keeps d p None fine = table_put_keeps d p.table p.position fine
  put_of_keeps d p (Some change) fine = altered_keeps d p.table change fine

  plain_keeps : (d : ClientDisk) (task : ClientTask) → IsPlainTask task → IsFineKept a c d.plan → IsFineKept a c (client.changed d task.change).plan
  plain_keeps d task plain fine = go task.change plain.0
    where
      go : (change : ClientChange) → IsNoCommit change → IsFineKept a c (client.changed d change).plan
      go (client.Commit p) f = absurd f
      go (client.PutRow p) f = row_put_keeps d p.last p.table p.row fine
      go (client.PutTable p) f = put_of_keeps d p p.alters fine
      go client.Finish f = tt
      go (client.Keep step) f = fine

-- ---- what a move keeps

pub record KeepsFine (a : Asked) (c : ℕ) (s : ClientStep) : Type 0 where
  pub asked : FactsAsked a s.facts
  pub fine : IsFine (facts_asked s.facts a) c s.client
  pub others : AreOthersKept c a (facts_asked s.facts a)
  pub unsent : AreUnsent s.facts

-- a step that tells nothing
pub silently : (a : Asked) (c : ℕ) (s : ClientStep) → s.facts ≡ [] → IsFine a c s.client → KeepsFine a c s
silently a c s none fine = record {
  asked = subst (λ (some : List Fact). FactsAsked a some) (sym none) tt;
  fine = subst (λ (some : List Fact). IsFine (facts_asked some a) c s.client) (sym none) fine;
  others = subst (λ (some : List Fact). AreOthersKept c a (facts_asked some a)) (sym none) (others_kept c a);
  unsent = subst (λ (some : List Fact). AreUnsent some) (sym none) tt;
}

-- one that tells plain facts
pub plainly : (a : Asked) (c : ℕ) (s : ClientStep) → ArePlainFacts s.facts → IsFine a c s.client → KeepsFine a c s
plainly a c s plain fine =
    let told = plain_told a s.facts plain in
    record {
      asked = told.0;
      fine = subst (λ (b : Asked). IsFine b c s.client) (sym told.1) fine;
      others = subst (λ (b : Asked). AreOthersKept c a b) (sym told.1) (others_kept c a);
      unsent = plain_unsent s.facts plain;
    }

module _ (a : Asked) (c : ℕ) (d : ClientDisk) (kept : IsFineKept a c d.plan) where
  pub crashed_fine : (agenda : Option (List ClientTask)) (luck : Luck) → HasOnePlan (IsFinePlan a c) (tasks_in agenda) → KeepsFine a c (client.crashed d agenda luck)
  crashed_fine None luck f = silently a c (client.crashed d None luck) refl (record { plan = kept; tasks = tt })
  crashed_fine (Some []) luck f = silently a c (client.crashed d (Some []) luck) refl (record { plan = kept; tasks = tt })
  crashed_fine (Some (task ∷ more)) luck f = by_luck luck
    where
      one : HasOnePlan (IsFinePlan a c) (task ∷ more) → IsFineKept a c (client.changed d task.change).plan
      one (inl f) = plain_keeps a c d task f.0 kept
      one (inr f) = subst (λ (x : ClientChange). IsFineKept a c (client.changed d x).plan) (sym f.0.change) f.0.fine

      by_luck : (luck : Luck) → KeepsFine a c (client.crashed d (Some (task ∷ more)) luck)
      by_luck messages.FailedBefore = silently a c (client.crashed d (Some (task ∷ more)) messages.FailedBefore) refl (record { plan = kept; tasks = tt })
      by_luck messages.FailedAfter = silently a c (client.crashed d (Some (task ∷ more)) messages.FailedAfter) refl (record { plan = one f; tasks = tt })
      by_luck messages.Done = silently a c (client.crashed d (Some (task ∷ more)) messages.Done) refl (record { plan = one f; tasks = tt })

  failed_fine : (agenda : Option (List ClientTask)) (luck : Luck) → HasOnePlan (IsFinePlan a c) (tasks_in agenda) → KeepsFine a c (client.failed d agenda luck)
  failed_fine agenda luck f = let k = crashed_fine agenda luck f in record { asked = k.asked; fine = k.fine; others = k.others; unsent = k.unsent }

  done_fine : (agenda : Option (List ClientTask)) → HasOnePlan (IsFinePlan a c) (tasks_in agenda) → KeepsFine a c (client.done d agenda)
  done_fine None f = silently a c (client.done d None) refl (record { plan = kept; tasks = tt })
  done_fine (Some []) f = silently a c (client.done d (Some [])) refl (record { plan = kept; tasks = tt })
  done_fine (Some (task ∷ more)) (inl f) =
      plainly a c (client.done d (Some (task ∷ more))) f.0.1 (record { plan = plain_keeps a c d task f.0 kept; tasks = f.1 })
  done_fine (Some (task ∷ more)) (inr f) =
      let told : IsTold c a task.facts f.0.plan = subst (λ (some : List Fact). IsTold c a some f.0.plan) (sym f.0.tells) (first_told c a f.0.plan f.0.fine) in
      let b : Asked = facts_asked task.facts a in
      record {
        asked = told.asked;
        fine = record {
          plan = subst (λ (x : ClientChange). IsFineKept b c (client.changed d x).plan) (sym f.0.change) told.fine;
          tasks = plain_one (IsFinePlan b c) more f.1;
        };
        others = told.others;
        unsent = subst (λ (some : List Fact). AreUnsent some) (sym f.0.tells) (told_unsent f.0.plan.facts);
      }

  pub worked_fine : (agenda : Option (List ClientTask)) (luck : Luck) → HasOnePlan (IsFinePlan a c) (tasks_in agenda) → KeepsFine a c (client.worked d agenda luck)
  worked_fine agenda messages.Done f = done_fine agenda f
  worked_fine agenda messages.FailedBefore f = failed_fine agenda messages.FailedBefore f
  worked_fine agenda messages.FailedAfter f = failed_fine agenda messages.FailedAfter f

  -- a start tells again what the plan tells that is kept
  resumed_fine : (shape : Shape) (o : Option Plan) → d.plan ≡ o → KeepsFine a c (client.resumed c shape d o)
  resumed_fine shape o at = go o at (subst (λ (x : Option Plan). IsFineKept a c x) at kept)
    where
      recovered : List Fact
      recovered = facts.ClientRecovered c ∷ []

      at_once : (tasks : List ClientTask) → ArePlainFacts (client.told_without recovered tasks)
      at_once [] = (tt, tt)
      at_once (task ∷ more) = tt

      -- what is told at once besides
      by_facts : (x : Option Plan) (first : List Fact) → KeepsFine a c (record { client = record { disk = d; agenda = None }; answer = facts.Done; facts = first; sends = [] })
          → client.told_at_start c shape.torn x ≡ first → KeepsFine a c (client.resumed c shape d x)
      by_facts x first k is =
          let last : List Fact = client.told_without recovered (client.opening shape x) in
          let b : Asked = facts_asked first a in
          let plain = plain_told b last (at_once (client.opening shape x)) in
          let all : facts_asked (first ++ last) a ≡ b = facts_join a first last ∙ plain.1 in
          let s : Client = record { disk = d; agenda = Some (client.ending recovered (client.opening shape x)) } in
          subst (λ (some : List Fact). KeepsFine a c (record { client = s; answer = facts.Done; facts = some ++ last; sends = [] })) (sym is) (record {
            asked = facts_both a first last k.asked plain.0;
            fine = subst (λ (z : Asked). IsFine z c s) (sym all)
                (record { plan = k.fine.plan; tasks = plain_one (IsFinePlan b c) (client.ending recovered (client.opening shape x)) (ending_plain c (client.opening shape x) (opening_plain shape x)) });
            others = subst (λ (z : Asked). AreOthersKept c a z) (sym all) k.others;
            unsent = unsent_both first last k.unsent (plain_unsent last (at_once (client.opening shape x)));
          })

      torn_told : (t : Option (ℕ × List ℕ)) → (first : List Fact) × (client.told_at_start c t None ≡ first) × ArePlainFacts first
      torn_told None = ([], refl, tt)
      torn_told (Some row) = (facts.Torn c row.0 row.1 ∷ [], refl, (tt, tt))

      go : (x : Option Plan) → d.plan ≡ x → IsFineKept a c x → KeepsFine a c (client.resumed c shape d x)
      go None is fine =
          let first = torn_told shape.torn in
          let plain = plain_told a first.0 first.2 in
          by_facts None first.0 (record {
            asked = plain.0;
            fine = subst (λ (z : Asked). IsFine z c (record { disk = d; agenda = None })) (sym plain.1) (record { plan = kept; tasks = tt });
            others = subst (λ (z : Asked). AreOthersKept c a z) (sym plain.1) (others_kept c a);
            unsent = plain_unsent first.0 first.2;
          }) first.1
      go (Some p) is fine =
          let told : IsTold c a (client.retold p) p = again_told c a p fine in
          by_facts (Some p) (client.retold p) (record {
            asked = told.asked;
            fine = record { plan = subst (λ (x : Option Plan). IsFineKept (facts_asked (client.retold p) a) c x) (sym is) told.fine; tasks = tt };
            others = told.others;
            unsent = retold_unsent p.facts;
          }) refl

  pub started_fine : (shape : Shape) (agenda : Option (List ClientTask)) → HasOnePlan (IsFinePlan a c) (tasks_in agenda) → KeepsFine a c (client.started c shape d agenda)
  started_fine shape (Some agenda) f = silently a c (client.started c shape d (Some agenda)) refl (record { plan = kept; tasks = f })
  started_fine shape None f = resumed_fine shape d.plan refl
