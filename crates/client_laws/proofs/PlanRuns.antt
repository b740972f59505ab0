-- The writes of any plan go well: what it tells may be told now and again, and a crash may come before each of them or
-- behind it.
use Rattle.std.proofs.Common.{◌≡◌, ◌⊎◌, ⊎_elim, ℕ, true, false, List, [], ◌∷◌, ◌++◌, Option, Some, None, refl, sym, ap, subst, ◌∙◌, append-nil, inl, inr}
use Rattle.std.specs.Prelude.{map}
use Rattle.stab_base.specs.declared.step.Step.{Step}
use Rattle.row_value.specs.declared.schema.Scheme.{Scheme}
use Rattle.step_tables.specs.Facts.{ClientFact, Fact}
use Rattle.step_tables.specs.Facts as facts
use Rattle.step_tables.specs.Messages.{Send}
use Rattle.step_tables.specs.Sayings.{Saying, SaysNothing, SaysWrite, SaysEntry, SaysBack, SaysAck, SaysLoss, SaysConflict, SaysResolved, SaysRead, SaysPosition}
use Rattle.step_tables.specs.Sayings.{client_says, saying, Heard, own, own_all}
use Rattle.step_tables.specs.ClientMoves.{RowPut, Plan, TableChange, ClientDisk, ClientTask, Shape, Commit, PutTable, Finish, row_put, table_put, altered, rows_applied, applied_by, applied, planned_in, seen, put_of, changed, told, retold, row_task}
use Rattle.step_tables.specs.ClientMoves.{table_task, only, keeps, put_tasks, rest_of, planning, ending}
use Rattle.client_laws.specs.Part.{Items, Sending, sendings, Tied, IsOwn, AreOwn, Requests, IsPlan, IsNewPlan, RestsOn, Rests, Runs}
use Rattle.client_laws.proofs.Disks.{Alike, tied_alike, alike_row, alike_table, alike_plan, alike_itself, row_put_plan, table_put_plan, altered_plan, alike_altered}

-- ---- facts told by a start

pub own-redone : (t : Heard) (fs : List ClientFact) → own_all t (map facts.Redone fs) ≡ own_all t (map facts.Client fs)
own-redone t [] = refl
own-redone t (f ∷ fs) = own-redone (own t (client_says f)) fs

pub own-retold : (t : Heard) (p : Plan) → own_all t (retold p) ≡ own_all t (told p)
own-retold t p = own-redone t p.facts

-- what is told first is no repetition
first_of : {A B : Type 0} → A ⊎ ((false ≡ true) × B) → A
first_of (inl a) = a
first_of (inr b) = absurd (let e = b.0 in cc)

module _ (g : ℕ → Scheme) (c : ℕ) (h : Items) where
  -- what may be told for the first time may be told by a start
  by_start : (sent : List Sending) (t : Heard) (x : Saying) → IsOwn g c h sent t false x → IsOwn g c h sent t true x
  by_start sent t SaysNothing k = tt
  by_start sent t (SaysWrite write) k = (k.0, inl (first_of k.1))
  by_start sent t (SaysEntry table entry) k = k
  by_start sent t (SaysBack table version) k = k
  by_start sent t (SaysAck client n table row version) k = (k.0, k.1, inl (first_of k.2))
  by_start sent t (SaysLoss client n table row version) k = (k.0, k.1, k.2, inl (first_of k.3))
  by_start sent t (SaysConflict client n table row version) k = (k.0, k.1, k.2, inl (first_of k.3))
  by_start sent t (SaysResolved client n table row version) k = (k.0, k.1, inl (first_of k.2), k.3)
  by_start sent t (SaysRead client table row version) k = (k.0, (k.1.0, k.1.1, ⊎_elim (λ up. inl (inl (first_of up))) (λ own. inr own) k.1.2))
  by_start sent t (SaysPosition client table position) k = (k.0, inl (first_of k.1), k.2, k.3)

  all_by_start : (sent : List Sending) (t : Heard) (fs : List ClientFact) → AreOwn g c h sent t (map facts.Client fs) → AreOwn g c h sent t (map facts.Redone fs)
  all_by_start sent t [] k = tt
  all_by_start sent t (f ∷ fs) k = (by_start sent t (client_says f) k.0, all_by_start sent (own t (client_says f)) fs k.1)

  pub new_plan : (sent : List Sending) (d : ClientDisk) (t : Heard) (p : Plan) → AreOwn g c h sent t (told p) → AreOwn g c h sent (own_all t (told p)) (retold p)
      → own_all (own_all t (told p)) (told p) ≡ own_all t (told p) → Tied g c h sent (applied p d) (own_all t (told p)) → IsNewPlan g c h sent d t p
  new_plan sent d t p first again same tied =
      record { first = first; plan = record { now = all_by_start sent t p.facts first; again = again; same = same; tied = tied } }

  -- behind its facts a plan is one still
  pub told_plan : (sent : List Sending) (d : ClientDisk) (t : Heard) (p : Plan) → IsPlan g c h sent d t p → IsPlan g c h sent d (own_all t (told p)) p
  told_plan sent d t p k = record {
    now = k.again;
    again = subst (λ (u : Heard). AreOwn g c h sent u (retold p)) (sym k.same) k.again;
    same = ap (λ (u : Heard). own_all u (told p)) k.same;
    tied = subst (λ (u : Heard). Tied g c h sent (applied p d) u) (sym k.same) k.tied;
  }

  -- a plan on disks that hold the same once it is carried out
  pub plan_alike : (sent : List Sending) (d e : ClientDisk) (t : Heard) (p : Plan) → Alike (applied p d) (applied p e) → IsPlan g c h sent d t p → IsPlan g c h sent e t p
  plan_alike sent d e t p a k = record {
    now = k.now;
    again = k.again;
    same = k.same;
    tied = tied_alike g c h sent (applied p d) (applied p e) (own_all t (told p)) a k.tied;
  }

  -- ---- writes that change nothing, and the last of some writes

  -- an agenda that goes well shows what the lines say, and may be cut off now
  pub shown_of : (sent : List Sending) (d : ClientDisk) (t : Heard) (agenda : List ClientTask) → Runs g c h sent d t agenda → Tied g c h sent (seen d) t
  shown_of sent d t [] p = subst (λ (o : Option Plan). Tied g c h sent (planned_in d o) t) (sym p.1) p.0
  shown_of sent d t (task ∷ more) p = p.0

  pub rested_of : (sent : List Sending) (d : ClientDisk) (t : Heard) (agenda : List ClientTask) → Runs g c h sent d t agenda → Rests g c h sent d t
  rested_of sent d t [] p = subst (λ (o : Option Plan). RestsOn g c h sent d t o) (sym p.1) p.0
  rested_of sent d t (task ∷ more) p = p.1

  -- behind a write that tells and sends nothing
  unsent_runs : (sent : List Sending) (d : ClientDisk) (t : Heard) (agenda : List ClientTask) → Runs g c h sent d t agenda → Runs g c h (sent ++ []) d t agenda
  unsent_runs sent d t agenda p = subst (λ (s : List Sending). Runs g c h s d t agenda) (sym (append-nil sent)) p

  pub keeps_run : (steps : List Step) (sent : List Sending) (d : ClientDisk) (t : Heard) (agenda : List ClientTask) → Runs g c h sent d t agenda
      → Runs g c h sent d t (keeps steps ++ agenda)
  keeps_run [] sent d t agenda p = p
  keeps_run (step ∷ steps) sent d t agenda p =
      let more : Runs g c h sent d t (keeps steps ++ agenda) = keeps_run steps sent d t agenda p in
      let rests : Rests g c h sent d t = rested_of sent d t (keeps steps ++ agenda) more in
      (shown_of sent d t (keeps steps ++ agenda) more, rests, rests, tt, tt, unsent_runs sent d t (keeps steps ++ agenda) more)

  pub also_own : (sent : List Sending) (t : Heard) (fs : List Fact) → AreOwn g c h sent t fs → AreOwn g c h sent t (fs ++ facts.ClientRecovered c ∷ [])
  also_own sent t [] k = (tt, tt)
  also_own sent t (f ∷ fs) k = (k.0, also_own sent (own t (saying f)) fs k.1)

  pub own-also : (t : Heard) (fs : List Fact) → own_all t (fs ++ facts.ClientRecovered c ∷ []) ≡ own_all t fs
  own-also t [] = refl
  own-also t (f ∷ fs) = own-also (own t (saying f)) fs

  -- the last of some writes tells that the client has recovered, which says nothing of writes
  pub ending_runs : (sent : List Sending) (d : ClientDisk) (t : Heard) (agenda : List ClientTask) → Runs g c h sent d t agenda
      → Runs g c h sent d t (ending (facts.ClientRecovered c ∷ []) agenda)
  ending_runs sent d t [] p = p
  ending_runs sent d t (task ∷ []) p = (
    p.0,
    p.1,
    p.2,
    also_own sent t task.facts p.3,
    subst (λ (u : Heard). Requests g c h u task.sends) (sym (own-also t task.facts)) p.4,
    subst (λ (u : Heard). Runs g c h (sent ++ sendings task.sends) (changed d task.change) u []) (sym (own-also t task.facts)) p.5,
  )
  ending_runs sent d t (task ∷ next ∷ more) p =
      (p.0, p.1, p.2, p.3, p.4, ending_runs (sent ++ sendings task.sends) (changed d task.change) (own_all t task.facts) (next ∷ more) p.5)

  -- ---- from the commit on: u is what is heard behind the plan's facts

  module _ (shape : Shape) (sent : List Sending) (d : ClientDisk) (u : Heard) (p : Plan) (sends : List Send) (k : IsPlan g c h sent d u p)
      (is : d.plan ≡ Some p) (same : own_all u (told p) ≡ u)
      (requests : Requests g c h u sends) (after : Tied g c h (sent ++ sendings sends) (applied p d) u) where
    abbrev last : List ClientTask
    last = record { change = Finish; facts = []; sends = sends } ∷ []

    tied : Tied g c h sent (applied p d) u
    tied = subst (λ (x : Heard). Tied g c h sent (applied p d) x) same k.tied

    -- a disk on which the plan stands, and which holds the same once it is carried out
    seen_tied : (e : ClientDisk) → e.plan ≡ Some p → Tied g c h sent (applied p e) u → Tied g c h sent (seen e) u
    seen_tied e plan_is x = subst (λ (o : Option Plan). Tied g c h sent (planned_in e o) u) (sym plan_is) x

    at_rest : (e : ClientDisk) → e.plan ≡ Some p → IsPlan g c h sent e u p → Rests g c h sent e u
    at_rest e plan_is x = subst (λ (o : Option Plan). RestsOn g c h sent e u o) (sym plan_is) x

    of_plan : (e : ClientDisk) → IsPlan g c h sent e u p → Tied g c h sent (applied p e) u
    of_plan e x = subst (λ (y : Heard). Tied g c h sent (applied p e) y) same x.tied

    -- where all puts of the plan are done
    module _ (whole_plan : (applied p d).plan ≡ Some p) (whole_is : IsPlan g c h sent (applied p d) u p) where
      finish_runs : (e : ClientDisk) → e ≡ applied p d → Runs g c h sent e u last
      finish_runs e at = subst (λ (x : ClientDisk). Runs g c h sent x u last) (sym at) (
        seen_tied (applied p d) whole_plan (of_plan (applied p d) whole_is),
        at_rest (applied p d) whole_plan whole_is,
        tied_alike g c h sent (applied p d) (record (applied p d) { plan = None }) u (alike_itself (applied p d) None) tied,
        tt,
        requests,
        (tied_alike g c h (sent ++ sendings sends) (applied p d) (record (applied p d) { plan = None }) u (alike_itself (applied p d) None) after, refl),
      )

      kept_runs : (e : ClientDisk) → e ≡ applied p d → Runs g c h sent e u (keeps shape.after ++ last)
      kept_runs e at = keeps_run shape.after sent e u last (finish_runs e at)

    -- a plan of a row and a position
    module _ (none : p.alters ≡ None) where
      abbrev put : ClientDisk
      put = row_put d p.last p.table p.row

      applied_is : (e : ClientDisk) → applied p e ≡ rows_applied p e
      applied_is e = ap (λ (a : Option TableChange). applied_by p e a) none

      both_applied : (e f : ClientDisk) → Alike (rows_applied p e) (rows_applied p f) → Alike (applied p e) (applied p f)
      both_applied e f a = subst (λ (o : Option TableChange). Alike (applied_by p e o) (applied_by p f o)) (sym none) a

      put_plan : put.plan ≡ Some p
      put_plan = row_put_plan d p.last p.table p.row ∙ is

      put_is : IsPlan g c h sent put u p
      put_is = plan_alike sent d put u p (both_applied d put (alike_row p d)) k

      whole_plan : (applied p d).plan ≡ Some p
      whole_plan = ap (λ (e : ClientDisk). e.plan) (applied_is d) ∙ (table_put_plan put p.table p.position ∙ put_plan)

      whole_is : IsPlan g c h sent (applied p d) u p
      whole_is = subst (λ (e : ClientDisk). IsPlan g c h sent e u p) (sym (applied_is d)) (plan_alike sent put (rows_applied p d) u p (both_applied put (rows_applied p d) (alike_table p put)) put_is)

      table_runs : (e : ClientDisk) (position : Option ℕ) → p.position ≡ position → e ≡ put → Runs g c h sent e u (table_task p position ++ (keeps shape.after ++ last))
      table_runs e None at here = kept_runs whole_plan whole_is e (here ∙ sym (ap (λ (n : Option ℕ). table_put put p.table n) at) ∙ sym (applied_is d))
      table_runs e (Some n) at here =
          let there : put_of put p p.alters ≡ applied p d = ap (λ (a : Option TableChange). put_of put p a) none ∙ sym (applied_is d) in
          subst (λ (x : ClientDisk). Runs g c h sent x u (only (PutTable p) ∷ (keeps shape.after ++ last))) (sym here) (
            seen_tied put put_plan (of_plan put put_is),
            at_rest put put_plan put_is,
            subst (λ (x : ClientDisk). Rests g c h sent x u) (sym there) (at_rest (applied p d) whole_plan whole_is),
            tt,
            tt,
            unsent_runs sent (put_of put p p.alters) u (keeps shape.after ++ last) (kept_runs whole_plan whole_is (put_of put p p.alters) there),
          )

      row_runs : (row : Option RowPut) → p.row ≡ row → Runs g c h sent d u (row_task p row ++ (table_task p p.position ++ (keeps shape.after ++ last)))
      row_runs None at = table_runs d p.position refl (sym (ap (λ (x : Option RowPut). row_put d p.last p.table x) at))
      row_runs (Some x) at = (
        seen_tied d is tied,
        at_rest d is k,
        at_rest put put_plan put_is,
        tt,
        tt,
        unsent_runs sent put u (table_task p p.position ++ (keeps shape.after ++ last)) (table_runs put p.position refl refl),
      )

    -- a table is opened or closed
    module _ (change : TableChange) (some : p.alters ≡ Some change) where
      altered_is : (e : ClientDisk) → applied p e ≡ altered e p.table change
      altered_is e = ap (λ (a : Option TableChange). applied_by p e a) some

      there_plan : (applied p d).plan ≡ Some p
      there_plan = ap (λ (e : ClientDisk). e.plan) (altered_is d) ∙ (altered_plan d p.table change ∙ is)

      there_is : IsPlan g c h sent (applied p d) u p
      there_is =
          let e : ClientDisk = altered d p.table change in
          subst (λ (x : ClientDisk). IsPlan g c h sent x u p) (sym (altered_is d)) (plan_alike sent d e u p
          (subst (λ (o : Option TableChange). Alike (applied_by p d o) (applied_by p e o)) (sym some) (alike_altered d p.table change)) k)

      alter_runs : Runs g c h sent d u (only (PutTable p) ∷ (keeps shape.after ++ last))
      alter_runs =
          let there : put_of d p p.alters ≡ applied p d = ap (λ (a : Option TableChange). put_of d p a) some ∙ sym (altered_is d) in (
            seen_tied d is tied,
            at_rest d is k,
            subst (λ (x : ClientDisk). Rests g c h sent x u) (sym there) (at_rest (applied p d) there_plan there_is),
            tt,
            tt,
            unsent_runs sent (put_of d p p.alters) u (keeps shape.after ++ last) (kept_runs there_plan there_is (put_of d p p.alters) there),
          )

    puts_run : (a : Option TableChange) → p.alters ≡ a → Runs g c h sent d u (put_tasks p a (keeps shape.after ++ last))
    puts_run None at = row_runs at p.row refl
    puts_run (Some change) at = alter_runs change at

    pub rest_runs : Runs g c h sent d u (rest_of shape p sends)
    rest_runs = puts_run p.alters refl

  -- ---- a whole plan, from an idle client on

  pub plan_runs : (shape : Shape) (sent : List Sending) (d : ClientDisk) (t : Heard) (p : Plan) (sends : List Send) → Tied g c h sent (seen d) t → Rests g c h sent d t
      → IsNewPlan g c h sent d t p → Requests g c h (own_all t (told p)) sends → Tied g c h (sent ++ sendings sends) (applied p d) (own_all t (told p))
      → Runs g c h sent d t (planning shape p sends)
  plan_runs shape sent d t p sends shown rests k requests after =
      let e : ClientDisk = record d { plan = Some p } in
      let begun : IsPlan g c h sent e t p = plan_alike sent d e t p (alike_plan p d (Some p)) k.plan in
      keeps_run shape.before sent d t (record { change = Commit p; facts = told p; sends = [] } ∷ rest_of shape p sends) (
        shown,
        rests,
        begun,
        k.first,
        tt,
        subst (λ (s : List Sending). Runs g c h s e (own_all t (told p)) (rest_of shape p sends)) (sym (append-nil sent))
            (rest_runs shape sent e (own_all t (told p)) p sends (told_plan sent e t p begun) refl k.plan.same requests
            (tied_alike g c h (sent ++ sendings sends) (applied p d) (applied p e) (own_all t (told p)) (alike_plan p d (Some p)) after)),
      )
