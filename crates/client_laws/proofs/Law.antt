-- Each move of a client keeps its part.
use Rattle.std.proofs.Common.{◌≡◌, ◌≢◌, ◌⊎◌, ℕ, Bool, true, false, ◌+◌, ◌≤◌, ◌<◌, List, [], ◌∷◌, ◌++◌, length, Option, Some, None, refl, sym, ap, subst, ◌∙◌, arith, inl, inr, append-nil}
use Rattle.std.specs.Prelude.{◌==◌, ◌&&◌, nat_lt, nat_le, map, option_map, Result, Ok, Err, if◌then◌else◌}
use Rattle.std.proofs.lemmas.Bool.Decides.{nat_tests}
use Rattle.row_value.specs.declared.content.Content.{Content}
use Rattle.row_value.specs.declared.content.Content.TheVariants.{Gone, Row}
use Rattle.row_edits.specs.declared.change.Edit.{Edit}
use Rattle.row_edits.specs.Edit.{edited_to}
use Rattle.row_value.specs.declared.fit.FitFault.{FitFault}
use Rattle.row_value.specs.Fit.{fit_of}
use Rattle.row_value.specs.declared.schema.Scheme.{Scheme}
use Rattle.row_value.specs.declared.schema.Scheme.TheVariants.{Strong, Causal, Eventual}
use Rattle.step_tables.specs.Slots.{Main}
use Rattle.step_tables.specs.Slots.{InFlight}
use Rattle.step_tables.specs.Slots.{Shadow}
use Rattle.step_tables.specs.Store.{Stored}
use Rattle.step_tables.specs.Chunks.{is_named}
use Rattle.step_tables.specs.Client.{version_in}
use Rattle.step_tables.specs.Facts.{ClientFact, Fact, Answer, Refusal, Shown}
use Rattle.step_tables.specs.Facts as facts
use Rattle.step_tables.specs.Members.{Among}
use Rattle.step_tables.specs.Messages.{Send, Message, Luck, Response, Pulled, Header, Outcome, SyncRequest, SyncResponse, PullRequest, PullResponse}
use Rattle.step_tables.specs.Messages.{TornPulled, TornRowRequest, TornRowResponse}
use Rattle.step_tables.specs.Messages as messages
use Rattle.step_tables.specs.Sayings.{Heard, own_all}
use Rattle.conflicts.specs.declared.pair.Choice.{Choice}
use Rattle.conflicts.specs.declared.pair.Choice.TheVariants.{Mine, Theirs, New}
use Rattle.conflicts.specs.declared.stored.Stored as resolvers
use Rattle.step_tables.specs.ClientMoves.{Slots, TableDisk, Plan, ClientDisk, ClientTask, Client, ClientMove}
use Rattle.step_tables.specs.ClientMoves.{Write, Change, Show, Sum, Sync, Next, BeginCr, Conflicts, EndCr, Resolve, ResolveAll, Alter, Take, Work}
use Rattle.step_tables.specs.ClientMoves.{TableChange, Opens, Closes, alter_plan, may_alter, alter_step}
use Rattle.step_tables.specs.ClientMoves.{phase_in, phase_step, conflicts_in, conflicts_step, can_resolve, all_idle, all_fitting, all_in, all_step}
use Rattle.step_tables.specs.ClientMoves.{Crash, Start, quiet, refused, ignored, seen, planned_in, slots_at, slots_in, slots_of, table_at, put_row, changed, applied, done, crashed}
use Rattle.step_tables.specs.ClientMoves.{worked, told, Shape, keeps, rest_of, ending, opening, told_at_start, told_without, begun, slots_plan, resumed, started, request_for, pull_from}
use Rattle.step_tables.specs.ClientMoves.{write_plan, strong_out, strong_plan, first_out, write_strong}
use Rattle.step_tables.specs.ClientMoves.{write_by, write_free, write_idle, write_fitting, write_to, write_step, content_of, edit_made, edit_over, edit_in, edit_step, shown_in, show_answer, show_in, show_step, sum_step, resent, RowOut, first_to_send}
use Rattle.step_tables.specs.ClientMoves.{row_out, send_plan, whole_out, whole_plan, comes_next}
use Rattle.step_tables.specs.ClientMoves.{sync_first, sync_in, sync_step, torn_from, next_from, next_in, next_step, choose, over_fitting, over_plan}
use Rattle.step_tables.specs.ClientMoves.{theirs_plan, resolve_over, resolve_in, resolve_step, ack_plan, lost_plan}
use Rattle.step_tables.specs.ClientMoves.{outcome_taken, response_taken, response_in, row_placed, next_pull, row_plan, position_plan, top}
use Rattle.step_tables.specs.ClientMoves.{row_taken, pulled_taken, pulled_in, torn_plan, torn_row_taken, torn_taken, torn_in, take_step, client_step}
use Rattle.step_tables.specs.Items.{IsItemOf, IsChange}
use Rattle.client_laws.specs.Part.{Items, Sending, sendings, Ours, RowTied, Tied, AreOwn, Requests, IsPlan, IsNewPlan, RestsOn, Rests, Runs, IsAt, ClientPart, IsRefused, IsOutcome}
use Rattle.client_laws.specs.Part.{IsHeader, IsRowFor, IsTornHeader, IsMessage, IsFairChange, IsFair, IsShown, IsAnswer, ClientLaw}
use Rattle.client_laws.proofs.Disks.{opened_by, rows_applied_at, rows_applied_last, put_row_slots, tied_altered}
use Rattle.client_laws.proofs.PlanRuns.{own-retold, shown_of, rested_of, keeps_run, also_own, own-also, ending_runs, rest_runs, new_plan, plan_runs, told_plan}
use Rattle.client_laws.proofs.RowFits.{out_with}
use Rattle.client_laws.proofs.Plans.{write_is_plan, strong_is_plan, send_is_plan, whole_is_plan, ack_is_plan, lost_is_plan, over_is_plan, theirs_is_plan}
use Rattle.client_laws.proofs.Headers.{position_is_plan, row_plan_is, torn_plan_is}
use Rattle.client_laws.proofs.Sends.{request_is, sent_tied, IsSent, all_resent, rows_found, first_is}

and_left : (a b : Bool) → (a && b) ≡ true → a ≡ true
and_left true b e = refl
and_left false b e = e

module _ (g : ℕ → Scheme) (c : ℕ) (h : Items) (sent : List Sending) (t : Heard) (ours : Ours g c h sent t) (shape : Shape) where
  -- what is quiet sends nothing
  unsent_part : (d : ClientDisk) (agenda : Option (List ClientTask)) → IsAt g c h sent d t agenda → IsAt g c h (sent ++ []) d t agenda
  unsent_part d agenda p = subst (λ (s : List Sending). IsAt g c h s d t agenda) (sym (append-nil sent)) p

  quiet_law : (move : ClientMove) (d : ClientDisk) (agenda : Option (List ClientTask)) (answer : Answer) → IsAnswer g c h sent t move answer
      → IsAt g c h sent d t agenda → ClientLaw g c h sent t move (quiet d agenda answer)
  quiet_law move d agenda answer a p = record { answer = a; facts = tt; sends = tt; part = unsent_part d agenda p }

  tied_of : (d : ClientDisk) (agenda : List ClientTask) → Runs g c h sent d t agenda → Tied g c h sent (seen d) t
  tied_of d agenda p = shown_of g c h sent d t agenda p

  rests_of : (d : ClientDisk) → Runs g c h sent d t [] → Rests g c h sent d t
  rests_of d p = rested_of g c h sent d t [] p

  -- a plan is begun by an idle client
  begun_law : (move : ClientMove) (d : ClientDisk) (answer : Answer) (p : Plan) (sends : List Send) → IsAnswer g c h sent t move answer → Runs g c h sent d t []
      → IsNewPlan g c h sent d t p → Requests g c h (own_all t (told p)) sends → Tied g c h (sent ++ sendings sends) (applied p d) (own_all t (told p))
      → ClientLaw g c h sent t move (begun shape d answer p sends)
  begun_law move d answer p sends a idle plan requests after =
      quiet_law move d _ answer a (plan_runs g c h shape sent d t p sends (tied_of d [] idle) (rests_of d idle) plan requests after)

  -- a plan that sends no request
  silent_law : (move : ClientMove) (d : ClientDisk) (answer : Answer) (p : Plan) (sends : List Send) → IsAnswer g c h sent t move answer → Runs g c h sent d t []
      → IsNewPlan g c h sent d t p → Requests g c h (own_all t (told p)) sends → sendings sends ≡ [] → ClientLaw g c h sent t move (begun shape d answer p sends)
  silent_law move d answer p sends a idle plan requests none =
      begun_law move d answer p sends a idle plan requests
      (subst (λ (s : List Sending). Tied g c h s (applied p d) (own_all t (told p))) (sym (ap (λ (l : List Sending). sent ++ l) none ∙ append-nil sent)) plan.plan.tied)

  -- ---- work, crashes and starts

  done_law : (d : ClientDisk) (agenda : Option (List ClientTask)) (luck : Luck) → IsAt g c h sent d t agenda → ClientLaw g c h sent t (Work luck) (done d agenda)
  done_law d None luck p = quiet_law (Work luck) d None (facts.Refuses facts.Down) tt p
  done_law d (Some []) luck p = quiet_law (Work luck) d (Some []) facts.Done tt p
  done_law d (Some (task ∷ more)) luck p = record { answer = tt; facts = p.3; sends = p.4; part = p.5 }

  crash_law : (move : ClientMove) (d : ClientDisk) (agenda : Option (List ClientTask)) (luck : Luck) → ((answer : Answer) → IsAnswer g c h sent t move answer)
      → IsAt g c h sent d t agenda → ClientLaw g c h sent t move (crashed d agenda luck)
  crash_law move d None luck a p = quiet_law move d None (facts.Refuses facts.Down) (a (facts.Refuses facts.Down)) p
  crash_law move d (Some []) luck a p = quiet_law move d None facts.Done (a facts.Done) (rests_of d p)
  crash_law move d (Some (task ∷ more)) messages.FailedBefore a p = quiet_law move d None facts.Done (a facts.Done) p.1
  crash_law move d (Some (task ∷ more)) messages.FailedAfter a p = quiet_law move (changed d task.change) None facts.Done (a facts.Done) p.2
  crash_law move d (Some (task ∷ more)) messages.Done a p = quiet_law move (changed d task.change) None facts.Done (a facts.Done) p.2

  failed_law : (d : ClientDisk) (agenda : Option (List ClientTask)) (luck was : Luck) → IsAt g c h sent d t agenda
      → ClientLaw g c h sent t (Work was) (record (crashed d agenda luck) { answer = facts.Refuses facts.NoDevice })
  failed_law d agenda luck was p =
      let k = crash_law (Work was) d agenda luck (λ answer. tt) p in record { answer = tt; facts = k.facts; sends = k.sends; part = k.part }

  work_law : (d : ClientDisk) (agenda : Option (List ClientTask)) (luck : Luck) → IsAt g c h sent d t agenda → ClientLaw g c h sent t (Work luck) (worked d agenda luck)
  work_law d agenda messages.Done p = done_law d agenda messages.Done p
  work_law d agenda messages.FailedBefore p = failed_law d agenda messages.FailedBefore messages.FailedBefore p
  work_law d agenda messages.FailedAfter p = failed_law d agenda messages.FailedAfter messages.FailedAfter p

  -- a row whose plan was cut short says nothing of writes
  torn_own : (torn : Option (ℕ × List ℕ)) → AreOwn g c h sent t (told_at_start c torn None) × (own_all t (told_at_start c torn None) ≡ t)
  torn_own None = (tt, refl)
  torn_own (Some row) = ((tt, tt), refl)

  -- nor does a start that has no write say more by telling that it is over
  over_own : (fs : List Fact) (tasks : List ClientTask) → AreOwn g c h sent t fs
      → AreOwn g c h sent t (fs ++ told_without (facts.ClientRecovered c ∷ []) tasks)
      × (own_all t (fs ++ told_without (facts.ClientRecovered c ∷ []) tasks) ≡ own_all t fs)
  over_own fs [] k = (also_own g c h sent t fs k, own-also g c h t fs)
  over_own fs (task ∷ more) k = (subst (λ (l : List Fact). AreOwn g c h sent t l) (sym (append-nil fs)) k, ap (λ (l : List Fact). own_all t l) (append-nil fs))

  start_law : (d : ClientDisk) (agenda : Option (List ClientTask)) → IsAt g c h sent d t agenda → ClientLaw g c h sent t Start (started c shape d agenda)
  start_law d (Some agenda) p = quiet_law Start d (Some agenda) facts.Done tt p
  start_law d None rests = by_plan d.plan refl rests
    where
      -- where the writes go well behind what the start tells
      opened_law : (plan : Option Plan) (u : Heard) → AreOwn g c h sent t (told_at_start c shape.torn plan) → own_all t (told_at_start c shape.torn plan) ≡ u
          → Runs g c h sent d u (opening shape plan) → ClientLaw g c h sent t Start (resumed c shape d plan)
      opened_law plan u now heard runs =
          let over = over_own (told_at_start c shape.torn plan) (opening shape plan) now in
          record {
            answer = tt;
            facts = over.0;
            sends = tt;
            part = subst (λ (y : Heard). Runs g c h (sent ++ []) d y (ending (facts.ClientRecovered c ∷ []) (opening shape plan))) (sym (over.1 ∙ heard))
                (subst (λ (s : List Sending). Runs g c h s d u (ending (facts.ClientRecovered c ∷ []) (opening shape plan))) (sym (append-nil sent))
                (ending_runs g c h sent d u (opening shape plan) runs));
          }

      by_plan : (o : Option Plan) → d.plan ≡ o → RestsOn g c h sent d t d.plan → ClientLaw g c h sent t Start (resumed c shape d o)
      by_plan None is r =
          let tied : Tied g c h sent d t = subst (λ (o : Option Plan). RestsOn g c h sent d t o) is r in
          let torn = torn_own shape.torn in
          opened_law None t torn.0 torn.1 (keeps_run g c h shape.before sent d t (keeps shape.after)
          (subst (λ (tasks : List ClientTask). Runs g c h sent d t tasks) (append-nil (keeps shape.after)) (keeps_run g c h shape.after sent d t [] (tied, is))))
      by_plan (Some p) is r =
          let plan : IsPlan g c h sent d t p = subst (λ (o : Option Plan). RestsOn g c h sent d t o) is r in
          let u : Heard = own_all t (told p) in
          opened_law (Some p) u (now_of shape.torn p plan) (heard_of shape.torn p)
          (keeps_run g c h shape.before sent d u (rest_of shape p [])
          (rest_runs g c h shape sent d u p [] (told_plan g c h sent d t p plan) is plan.same tt
          (subst (λ (s : List Sending). Tied g c h s (applied p d) u) (sym (append-nil sent)) plan.tied)))
        where
          now_of : (torn : Option (ℕ × List ℕ)) (p : Plan) → IsPlan g c h sent d t p → AreOwn g c h sent t (told_at_start c torn (Some p))
          now_of torn p plan = plan.now

          heard_of : (torn : Option (ℕ × List ℕ)) (p : Plan) → own_all t (told_at_start c torn (Some p)) ≡ own_all t (told p)
          heard_of torn p = own-retold t p

  -- ---- an idle client

  module _ (d : ClientDisk) (idle : Runs g c h sent d t []) where
    seen_is : seen d ≡ d
    seen_is = ap (λ (o : Option Plan). planned_in d o) idle.1

    tied : Tied g c h sent d t
    tied = idle.0

    in_disk : (table : ℕ) (m : Option TableDisk) → table_at (seen d) table ≡ m → table_at d table ≡ m
    in_disk table m at = subst (λ (e : ClientDisk). table_at e table ≡ m) seen_is at

    scheme_of : (table : ℕ) (o : TableDisk) → table_at d table ≡ Some o → o.schema.scheme ≡ g table
    scheme_of table o is = (tied.opened table o is).scheme_is

    -- a row's slots behind a plan that changes it
    slots_after : (table : ℕ) (o : TableDisk) → table_at d table ≡ Some o → (last : ℕ) (row : List ℕ) (s : Slots) (fs : List ClientFact)
        → slots_of (applied (record { last = last; table = table; row = Some (record { row = row; slots = s }); position = None; alters = None; facts = fs }) d) table row ≡ s
    slots_after table o is last row s fs =
        let p : Plan = record { last = last; table = table; row = Some (record { row = row; slots = s }); position = None; alters = None; facts = fs } in
        ap (λ (m : Option TableDisk). slots_in m row) (rows_applied_at p d table ∙ at_test p (table == table) refl) ∙ put_is (put_row_slots (record { row = row; slots = s }) o row)
      where
        at_test : (p : Plan) (b : Bool) → (table == table) ≡ b
            → (if b then option_map (opened_by p) (table_at d table) else table_at d table) ≡ Some (opened_by p o)
        at_test p true same = ap (λ (m : Option TableDisk). option_map (opened_by p) m) is
        at_test p false same = absurd (grind (arith, nat_tests, same))

        put_is : ((row ≡ row) × (slots_at (put_row (record { row = row; slots = s }) o) row ≡ s))
            ⊎ ((row ≢ row) × (slots_at (put_row (record { row = row; slots = s }) o) row ≡ slots_at o row)) → slots_at (put_row (record { row = row; slots = s }) o) row ≡ s
        put_is (inl k) = k.1
        put_is (inr k) = absurd (k.0 refl)

    -- ---- write

    strong_law : (table : ℕ) (row : List ℕ) (o : TableDisk) (content : Content) → table_at d table ≡ Some o → g table ≡ Strong
        → (w : Option InFlight) → ClientLaw g c h sent t (Write table row content) (write_strong o.schema.chunk c shape d table row (slots_at o row) content w)
    strong_law table row o content is strong (Some w) = quiet_law (Write table row content) d (Some []) _ tt idle
    strong_law table row o content is strong None =
        let size : ℕ = o.schema.chunk in
        let out : InFlight = strong_out size (d.last + 1) (slots_at o row) content in
        let p : Plan = strong_plan size c d table row (slots_at o row) content in
        let u : Heard = own_all t (told p) in
        let plan = strong_is_plan g c h sent t ours d tied table row o is strong size content in
        let waits : (slots_of (applied p d) table row).out ≡ Some out = ap (λ (s : Slots). s.out) (slots_after table o is (d.last + 1) row (record (slots_at o row) { out = Some out }) p.facts) in
        let number : d.last + 1 ≡ length u.writes = sym (rows_applied_last p d) ∙ plan.plan.tied.last in
        begun_law (Write table row content) d _ p (request_for c table row out ∷ []) tt idle plan
        (request_is g c h sent (applied p d) u plan.plan.tied table row out waits, tt)
        (sent_tied g c h sent (applied p d) u plan.plan.tied table row out waits (omega (arith, number)))

    weak_law : (table : ℕ) (row : List ℕ) (o : TableDisk) (content : Content) → table_at d table ≡ Some o → g table ≢ Strong → (slots_at o row).conflict ≡ None
        → ClientLaw g c h sent t (Write table row content) (begun shape d (facts.Number (d.last + 1)) (write_plan c d table row (slots_at o row) content) [])
    weak_law table row o content is weak none =
        silent_law (Write table row content) d _ (write_plan c d table row (slots_at o row) content) [] tt idle
        (write_is_plan g c h sent t ours d tied table row o is weak none content) tt refl

    scheme_law : (table : ℕ) (row : List ℕ) (o : TableDisk) (content : Content) → table_at d table ≡ Some o → (slots_at o row).conflict ≡ None
        → (s : Scheme) → s ≡ g table → ClientLaw g c h sent t (Write table row content) (write_by s c shape d table row o (slots_at o row) content)
    scheme_law table row o content is none Strong e = strong_law table row o content is (sym e) (first_out o.rows)
    scheme_law table row o content is none Causal e = weak_law table row o content is (λ no. absurd (let b = e ∙ no in cc)) none
    scheme_law table row o content is none Eventual e = weak_law table row o content is (λ no. absurd (let b = e ∙ no in cc)) none

    free_law : (table : ℕ) (row : List ℕ) (o : TableDisk) (content : Content) → table_at d table ≡ Some o → (q : Option Shadow) → (slots_at o row).conflict ≡ q
        → ClientLaw g c h sent t (Write table row content) (write_free o.schema.scheme c shape d table row o (slots_at o row) content q)
    free_law table row o content is None none = scheme_law table row o content is none o.schema.scheme (scheme_of table o is)
    free_law table row o content is (Some y) full = quiet_law (Write table row content) d (Some []) _ tt idle

    -- ---- sync

    sync_first_law : (table : ℕ) (o : TableDisk) → table_at d table ≡ Some o → (size : ℕ) (first : Option RowOut) → first_to_send o.rows ≡ first
        → ClientLaw g c h sent t (Sync table) (sync_first c shape d table (resent c table o.rows) (option_map (row_out size) first))
    sync_first_law table o is size first at = by_first first at
      where
        found : (x : List ℕ × Slots) → Among o.rows x → slots_of d table x.0 ≡ x.1
        found x a = ap (λ (m : Option TableDisk). slots_in m x.0) is ∙ rows_found o x (tied.opened table o is).rising a

        again : IsSent g c h d t table (sent ++ sendings (resent c table o.rows)) × Requests g c h t (resent c table o.rows)
        again = all_resent g c h d t table o.rows found sent (record { ours = ours; tied = tied })

        by_first : (first : Option RowOut) → first_to_send o.rows ≡ first
            → ClientLaw g c h sent t (Sync table) (sync_first c shape d table (resent c table o.rows) (option_map (row_out size) first))
        by_first None none = record { answer = tt; facts = tt; sends = again.1; part = (again.0.tied, idle.1) }
        by_first (Some plain) first_at =
            let more : List Sending = sent ++ sendings (resent c table o.rows) in
            let k = first_is o.rows plain first_at in
            let x : RowOut = row_out size plain in
            let same : slots_at o x.row ≡ x.slots = rows_found o (x.row, x.slots) (tied.opened table o is).rising k.stands in
            let s : Slots = record (slots_at o x.row) { out = Some (out_with k.main (version_in (slots_at o x.row).shadow) x.out.pieces) } in
            let slots_same : s ≡ record x.slots { out = Some x.out } =
            ap (λ (z : Slots). record z { out = Some (out_with k.main (version_in z.shadow) x.out.pieces) }) same
            ∙ ap (λ (q : InFlight). record x.slots { out = Some (record q { pieces = x.out.pieces }) }) (sym k.sends) in
            let plan : IsNewPlan g c h more d t (send_plan d table x) =
            subst (λ (z : Slots). IsNewPlan g c h more d t (slots_plan d table x.row z [])) slots_same
            (send_is_plan g c h more t again.0.ours d again.0.tied table x.row o is k.main x.out.pieces (ap (λ (z : Slots). z.main) same ∙ k.main_is) (ap (λ (z : Slots). z.out) same ∙ k.out_is)
            (ap (λ (z : Slots). z.conflict) same ∙ k.free)) in
            let waits : (slots_of (applied (send_plan d table x) d) table x.row).out ≡ Some x.out =
            ap (λ (z : Slots). z.out) (slots_after table o is d.last x.row (record x.slots { out = Some x.out }) []) in
            let written = ((plan.plan.tied.rows table x.row).fit.out x.out waits).written in
            let numbered : x.out.number ≤ length t.writes = (ours.numbered x.out.number _ written).3 in
            record {
              answer = tt;
              facts = tt;
              sends = again.1;
              part = plan_runs g c h shape more d t (send_plan d table x) (request_for c table x.row x.out ∷ [])
                  (subst (λ (e : ClientDisk). Tied g c h more e t) (sym seen_is) again.0.tied)
                  (subst (λ (q : Option Plan). RestsOn g c h more d t q) (sym idle.1) again.0.tied) plan
                  (request_is g c h more (applied (send_plan d table x) d) t plan.plan.tied table x.row x.out waits, tt)
                  (sent_tied g c h more (applied (send_plan d table x) d) t plan.plan.tied table x.row x.out waits numbered);
            }

    -- ---- resolving

    over_law : (table : ℕ) (row : List ℕ) (version : ℕ) (choice : Choice) (o : TableDisk) → table_at d table ≡ Some o → (content : Content)
        → (m : Main) → (slots_at o row).main ≡ Some m → (y : Shadow) → (slots_at o row).conflict ≡ Some y
        → ClientLaw g c h sent t (Resolve table row version choice) (begun shape d (facts.Number (d.last + 1)) (over_plan c d table row (slots_at o row) m y content) [])
    over_law table row version choice o is content m at y full =
        silent_law (Resolve table row version choice) d _ (over_plan c d table row (slots_at o row) m y content) [] tt idle
        (over_is_plan g c h sent t ours d tied table row o is m y content at full) tt refl

    choice_law : (table : ℕ) (row : List ℕ) (version : ℕ) (o : TableDisk) → table_at d table ≡ Some o
        → (m : Main) → (slots_at o row).main ≡ Some m → (y : Shadow) → (slots_at o row).conflict ≡ Some y → (choice : Choice)
        → ClientLaw g c h sent t (Resolve table row version choice) (choose c shape d table row o.schema (slots_at o row) m y choice)
    choice_law table row version o is m at y full Mine = over_law table row version Mine o is m.content m at y full
    choice_law table row version o is m at y full Theirs =
        silent_law (Resolve table row version Theirs) d _ (theirs_plan c d table row (slots_at o row) m y) [] tt idle
        (theirs_is_plan g c h sent t ours d tied table row o is m y at full) tt refl
    choice_law table row version o is m at y full (New content) = by_fit (fit_of o.schema content)
      where
        by_fit : (fit : Result (Unit {0}) FitFault)
            → ClientLaw g c h sent t (Resolve table row version (New content)) (over_fitting c shape d table row (slots_at o row) m y content fit)
        by_fit (Ok fits) = over_law table row version (New content) o is content m at y full
        by_fit (Err fault) = quiet_law (Resolve table row version (New content)) d (Some []) _ tt idle

    conflict_law : (table : ℕ) (row : List ℕ) (version : ℕ) (choice : Choice) (o : TableDisk) → table_at d table ≡ Some o
        → (m : Option Main) → (slots_at o row).main ≡ m → (q : Option Shadow) → (slots_at o row).conflict ≡ q
        → ClientLaw g c h sent t (Resolve table row version choice) (resolve_over c shape d table row o.schema (slots_at o row) version choice m q)
    conflict_law table row version choice o is None at q full = quiet_law (Resolve table row version choice) d (Some []) _ tt idle
    conflict_law table row version choice o is (Some m) at None full = quiet_law (Resolve table row version choice) d (Some []) _ tt idle
    conflict_law table row version choice o is (Some m) at (Some y) full = by_test (y.version == version)
      where
        by_test : (b : Bool) → ClientLaw g c h sent t (Resolve table row version choice)
            (if b then choose c shape d table row o.schema (slots_at o row) m y choice else refused d (facts.Moved version y.version))
        by_test true = choice_law table row version o is m at y full choice
        by_test false = quiet_law (Resolve table row version choice) d (Some []) _ tt idle

    -- ---- messages

    pull_request : (u : Heard) (table position : ℕ) → Requests g c h u (pull_from c table position ∷ [])
    pull_request u table position = ((refl, refl), tt)

    accepted_law : (message : Message) (table : ℕ) (row : List ℕ) (n : ℕ) (o : TableDisk) → table_at d table ≡ Some o
        → (out : InFlight) → (slots_at o row).out ≡ Some out → out.number ≡ n → (version : ℕ) (i : Stored) → IsItemOf (h table) c n row version i
        → ClientLaw g c h sent t (Take message) (begun shape d facts.Done (ack_plan c d table row (slots_at o row) out version) [])
    accepted_law message table row n o is out waits same version i item =
        silent_law (Take message) d facts.Done (ack_plan c d table row (slots_at o row) out version) [] tt idle
        (ack_is_plan g c h sent t ours d tied table row o is out waits version i (subst (λ (k : ℕ). IsItemOf (h table) c k row version i) (sym same) item)) tt refl

    outcome_law : (r : Response) (o : TableDisk) → table_at d r.table ≡ Some o → (out : InFlight) → (slots_at o r.row).out ≡ Some out → out.number ≡ r.number
        → (outcome : Outcome) → IsOutcome g c h sent r outcome
        → ClientLaw g c h sent t (Take (SyncResponse r)) (outcome_taken c shape d r.table r.row o (slots_at o r.row) out outcome)
    outcome_law r o is out waits same (messages.Accepted version) f = accepted_law (SyncResponse r) r.table r.row r.number o is out waits same version f.0 f.1
    outcome_law r o is out waits same (messages.Again version) f = accepted_law (SyncResponse r) r.table r.row r.number o is out waits same version f.0 f.1
    outcome_law r o is out waits same (messages.Late last) f = quiet_law (Take (SyncResponse r)) d (Some []) facts.Done tt idle
    outcome_law r o is out waits same (messages.Stale latest) f =
        let p : Plan = lost_plan c d r.table r.row (slots_at o r.row) out latest in
        silent_law (Take (SyncResponse r)) d facts.Done p (pull_from c r.table o.position ∷ []) tt idle
        (lost_is_plan g c h sent t ours d tied r.table r.row o is f.0 out waits latest (subst (λ (k : ℕ). IsRefused c h sent k r.table r.row latest) (sym same) f.1))
        (pull_request (own_all t (told p)) r.table o.position) refl
    outcome_law r o is out waits same (messages.Conflict latest) f =
        record { answer = tt; facts = tt; sends = pull_request t r.table o.position; part = unsent_part d (Some []) idle }
    outcome_law r o is out waits same messages.NeedWhole f = by_whole out.whole
      where
        by_whole : (b : Bool) → ClientLaw g c h sent t (Take (SyncResponse r))
            (if b then ignored d else begun shape d facts.Done (whole_plan d r.table r.row (slots_at o r.row) out) (request_for c r.table r.row (whole_out out) ∷ []))
        by_whole true = quiet_law (Take (SyncResponse r)) d (Some []) facts.Done tt idle
        by_whole false =
            let p : Plan = whole_plan d r.table r.row (slots_at o r.row) out in
            let now : InFlight = whole_out out in
            let plan = whole_is_plan g c h sent t ours d tied r.table r.row o is out waits in
            let there : (slots_of (applied p d) r.table r.row).out ≡ Some now =
            ap (λ (s : Slots). s.out) (slots_after r.table o is d.last r.row (record (slots_at o r.row) { out = Some now }) p.facts) in
            let written = ((plan.plan.tied.rows r.table r.row).fit.out now there).written in
            let numbered : now.number ≤ length t.writes = (ours.numbered now.number _ written).3 in
            begun_law (Take (SyncResponse r)) d facts.Done p (request_for c r.table r.row now ∷ []) tt idle plan
            (request_is g c h sent (applied p d) t plan.plan.tied r.table r.row now there, tt)
            (sent_tied g c h sent (applied p d) t plan.plan.tied r.table r.row now there numbered)

    response_law : (r : Response) (o : TableDisk) → table_at d r.table ≡ Some o → IsOutcome g c h sent r r.outcome
        → (out : Option InFlight) → (slots_at o r.row).out ≡ out → ClientLaw g c h sent t (Take (SyncResponse r)) (response_taken c shape d r o out)
    response_law r o is f None waits = quiet_law (Take (SyncResponse r)) d (Some []) facts.Done tt idle
    response_law r o is f (Some out) waits = by_test (out.number == r.number) refl
      where
        by_test : (b : Bool) → (out.number == r.number) ≡ b
            → ClientLaw g c h sent t (Take (SyncResponse r)) (if b then outcome_taken c shape d r.table r.row o (slots_at o r.row) out r.outcome else ignored d)
        by_test true e = outcome_law r o is out waits (grind (arith, nat_tests, e)) r.outcome f
        by_test false e = quiet_law (Take (SyncResponse r)) d (Some []) facts.Done tt idle

    next_requests : (u : Heard) (table : ℕ) (pulled : Pulled) → Requests g c h u (next_pull c table pulled) × (sendings (next_pull c table pulled) ≡ [])
    next_requests u table pulled = by_test (nat_lt pulled.to pulled.latest)
      where
        by_test : (b : Bool) → Requests g c h u (if b then pull_from c table pulled.to ∷ [] else []) × (sendings (if b then pull_from c table pulled.to ∷ [] else []) ≡ [])
        by_test true = (pull_request u table pulled.to, refl)
        by_test false = (tt, refl)

    row_for : {items : List Stored} {from to : ℕ} {header : Header} → IsChange c items from to header → IsRowFor c items header
    row_for change = (change.item, change.is, change.content, change.yours)

    row_law : (pulled : Pulled) (o : TableDisk) → table_at d pulled.table ≡ Some o → (header : Header) → IsChange c (h pulled.table) o.position pulled.to header → o.position < pulled.to
        → ClientLaw g c h sent t (Take (PullResponse pulled)) (row_taken c shape d pulled o header (slots_at o header.row))
    row_law pulled o is header change rises = by_test (nat_le header.version (top (slots_at o header.row).conflict (slots_at o header.row).shadow)) refl
      where
        old_law : header.version ≤ top (slots_at o header.row).conflict (slots_at o header.row).shadow
            → ClientLaw g c h sent t (Take (PullResponse pulled)) (begun shape d facts.Done (position_plan c d pulled.table pulled.to) (next_pull c pulled.table pulled))
        old_law old =
            let p : Plan = position_plan c d pulled.table pulled.to in
            let requests = next_requests (own_all t (told p)) pulled.table pulled in
            silent_law (Take (PullResponse pulled)) d facts.Done p (next_pull c pulled.table pulled) tt idle
            (position_is_plan g c h sent t ours d tied pulled.table o is header (row_for change) pulled.to change rises old) requests.0 requests.1

        new_law : (s : Scheme) → s ≡ g pulled.table → top (slots_at o header.row).conflict (slots_at o header.row).shadow < header.version
            → ClientLaw g c h sent t (Take (PullResponse pulled))
            (begun shape d facts.Done (row_plan c d pulled.table header.row pulled.to (row_placed s c pulled.table header (slots_at o header.row) (slots_at o header.row).out))
            (next_pull c pulled.table pulled))
        new_law s scheme over =
            let p : Plan = row_plan c d pulled.table header.row pulled.to (row_placed s c pulled.table header (slots_at o header.row) (slots_at o header.row).out) in
            let requests = next_requests (own_all t (told p)) pulled.table pulled in
            silent_law (Take (PullResponse pulled)) d facts.Done p (next_pull c pulled.table pulled) tt idle
            (subst (λ (x : Scheme). IsNewPlan g c h sent d t (row_plan c d pulled.table header.row pulled.to (row_placed x c pulled.table header (slots_at o header.row) (slots_at o header.row).out)))
            (sym scheme) (row_plan_is g c h sent t ours d tied pulled.table o is header (row_for change) pulled.to change rises over)) requests.0 requests.1

        by_test : (b : Bool) → nat_le header.version (top (slots_at o header.row).conflict (slots_at o header.row).shadow) ≡ b
            → ClientLaw g c h sent t (Take (PullResponse pulled))
            (if b then begun shape d facts.Done (position_plan c d pulled.table pulled.to) (next_pull c pulled.table pulled)
            else begun shape d facts.Done (row_plan c d pulled.table header.row pulled.to (row_placed o.schema.scheme c pulled.table header (slots_at o header.row) (slots_at o header.row).out))
            (next_pull c pulled.table pulled))
        by_test true e = old_law (grind (arith, nat_tests, e))
        by_test false e = new_law o.schema.scheme (scheme_of pulled.table o is) (grind (arith, nat_tests, e))

    pulled_law : (pulled : Pulled) (o : TableDisk) → table_at d pulled.table ≡ Some o → (header : Option Header) → IsHeader c h pulled header
        → ClientLaw g c h sent t (Take (PullResponse pulled)) (pulled_taken c shape d pulled o header)
    pulled_law pulled o is None f = quiet_law (Take (PullResponse pulled)) d (Some []) facts.Done tt idle
    pulled_law pulled o is (Some header) f = by_test (comes_next pulled o header) refl
      where
        by_test : (b : Bool) → comes_next pulled o header ≡ b
            → ClientLaw g c h sent t (Take (PullResponse pulled)) (if b then row_taken c shape d pulled o header (slots_at o header.row) else ignored d)
        by_test true e =
            let comes : (pulled.from == o.position) ≡ true = and_left (pulled.from == o.position) _ e in
            let same : pulled.from ≡ o.position = grind (arith, nat_tests, comes) in
            row_law pulled o is header (subst (λ (n : ℕ). IsChange c (h pulled.table) n pulled.to header) same f.0) (subst (λ (n : ℕ). n < pulled.to) same f.1)
        by_test false e = quiet_law (Take (PullResponse pulled)) d (Some []) facts.Done tt idle

    -- a row that was asked for whole: the next change is asked for behind it

    asks_next : (message : Message) (table position : ℕ) → ClientLaw g c h sent t (Take message) (record (ignored d) { sends = pull_from c table position ∷ [] })
    asks_next message table position = record { answer = tt; facts = tt; sends = pull_request t table position; part = unsent_part d (Some []) idle }

    torn_row_law : (answer : TornPulled) (o : TableDisk) → table_at d answer.table ≡ Some o → (header : Header) → IsRowFor c (h answer.table) header
        → ClientLaw g c h sent t (Take (TornRowResponse answer)) (torn_row_taken c shape d answer.table o header (slots_at o header.row))
    torn_row_law answer o is header found = by_test (nat_le header.version (top (slots_at o header.row).conflict (slots_at o header.row).shadow)) refl
      where
        new_law : (s : Scheme) → s ≡ g answer.table → top (slots_at o header.row).conflict (slots_at o header.row).shadow < header.version
            → ClientLaw g c h sent t (Take (TornRowResponse answer))
            (begun shape d facts.Done (torn_plan d answer.table header.row (row_placed s c answer.table header (slots_at o header.row) (slots_at o header.row).out))
            (pull_from c answer.table o.position ∷ []))
        new_law s scheme over =
            let p : Plan = torn_plan d answer.table header.row (row_placed s c answer.table header (slots_at o header.row) (slots_at o header.row).out) in
            silent_law (Take (TornRowResponse answer)) d facts.Done p (pull_from c answer.table o.position ∷ []) tt idle
            (subst (λ (x : Scheme). IsNewPlan g c h sent d t (torn_plan d answer.table header.row (row_placed x c answer.table header (slots_at o header.row) (slots_at o header.row).out)))
            (sym scheme) (torn_plan_is g c h sent t ours d tied answer.table o is header found over)) (pull_request (own_all t (told p)) answer.table o.position) refl

        by_test : (b : Bool) → nat_le header.version (top (slots_at o header.row).conflict (slots_at o header.row).shadow) ≡ b
            → ClientLaw g c h sent t (Take (TornRowResponse answer))
            (if b then record (ignored d) { sends = pull_from c answer.table o.position ∷ [] }
            else begun shape d facts.Done (torn_plan d answer.table header.row (row_placed o.schema.scheme c answer.table header (slots_at o header.row) (slots_at o header.row).out))
            (pull_from c answer.table o.position ∷ []))
        by_test true e = asks_next (TornRowResponse answer) answer.table o.position
        by_test false e = new_law o.schema.scheme (scheme_of answer.table o is) (grind (arith, nat_tests, e))

    torn_law : (answer : TornPulled) (o : TableDisk) → table_at d answer.table ≡ Some o → (header : Option Header) → IsTornHeader c (h answer.table) header
        → ClientLaw g c h sent t (Take (TornRowResponse answer)) (torn_taken c shape d answer.table o header)
    torn_law answer o is None f = asks_next (TornRowResponse answer) answer.table o.position
    torn_law answer o is (Some header) f = by_test (is_named o.schema.chunk header.content header.names)
      where
        by_test : (b : Bool) → ClientLaw g c h sent t (Take (TornRowResponse answer)) (if b then torn_row_taken c shape d answer.table o header (slots_at o header.row) else ignored d)
        by_test true = torn_row_law answer o is header f
        by_test false = quiet_law (Take (TornRowResponse answer)) d (Some []) facts.Done tt idle

  -- ---- all moves

  module _ (d : ClientDisk) (agenda : List ClientTask) (table : ℕ) (row : List ℕ) (p : Runs g c h sent d t agenda) where
    idle_law : (content : Content) (agenda : List ClientTask) → Runs g c h sent d t agenda → (o : TableDisk) → table_at (seen d) table ≡ Some o
        → ClientLaw g c h sent t (Write table row content) (write_idle o.schema.scheme c shape d agenda table row o content)
    idle_law content (task ∷ more) p o is = quiet_law (Write table row content) d (Some (task ∷ more)) _ tt p
    idle_law content [] p o is = free_law d p table row o content (in_disk d p table (Some o) is) (slots_at o row).conflict refl

    fit_law : (content : Content) (o : TableDisk) → table_at (seen d) table ≡ Some o → (fit : Result (Unit {0}) FitFault)
        → ClientLaw g c h sent t (Write table row content) (write_fitting o.schema.scheme c shape d agenda table row o content fit)
    fit_law content o is (Ok fits) = idle_law content agenda p o is
    fit_law content o is (Err fault) = quiet_law (Write table row content) d (Some agenda) _ tt p

    to_law : (content : Content) (m : Option TableDisk) → table_at (seen d) table ≡ m → ClientLaw g c h sent t (Write table row content) (write_to c shape d agenda table row content m)
    to_law content None is = quiet_law (Write table row content) d (Some agenda) _ tt p
    to_law content (Some o) is = fit_law content o is (fit_of o.schema content)

    -- an edit that is refused, or the write of what it makes

    made_law : (edit : Edit) (o : TableDisk) → table_at (seen d) table ≡ Some o → (made : Result Content FitFault)
        → ClientLaw g c h sent t (Change table row edit) (edit_made c shape d agenda table row o made)
    made_law edit o is (Ok content) = let k = to_law content (Some o) is in record { answer = tt; facts = k.facts; sends = k.sends; part = k.part }
    made_law edit o is (Err fault) = quiet_law (Change table row edit) d (Some agenda) _ tt p

    shown_law : (edit : Edit) (o : TableDisk) → table_at (seen d) table ≡ Some o → (shown : Option Content)
        → ClientLaw g c h sent t (Change table row edit) (edit_over c shape d agenda table row o edit shown)
    shown_law edit o is None = quiet_law (Change table row edit) d (Some agenda) _ tt p
    shown_law edit o is (Some Gone) = quiet_law (Change table row edit) d (Some agenda) _ tt p
    shown_law edit o is (Some (Row some objects)) = made_law edit o is (edited_to o.schema some objects edit)

    edits_law : (edit : Edit) (m : Option TableDisk) → table_at (seen d) table ≡ m → ClientLaw g c h sent t (Change table row edit) (edit_in c shape d agenda table row edit m)
    edits_law edit None is = quiet_law (Change table row edit) d (Some agenda) _ tt p
    edits_law edit (Some o) is =
        let slots : Slots = slots_at o row in shown_law edit o is (option_map content_of (shown_in slots.main slots.conflict slots.shadow))

  write_law : (d : ClientDisk) (agenda : Option (List ClientTask)) (table : ℕ) (row : List ℕ) (content : Content) → IsAt g c h sent d t agenda
      → ClientLaw g c h sent t (Write table row content) (write_step c shape d agenda table row content)
  write_law d None table row content p = quiet_law (Write table row content) d None _ tt p
  write_law d (Some agenda) table row content p = to_law d agenda table row p content (table_at (seen d) table) refl

  edit_law : (d : ClientDisk) (agenda : Option (List ClientTask)) (table : ℕ) (row : List ℕ) (edit : Edit) → IsAt g c h sent d t agenda
      → ClientLaw g c h sent t (Change table row edit) (edit_step c shape d agenda table row edit)
  edit_law d None table row edit p = quiet_law (Change table row edit) d None _ tt p
  edit_law d (Some agenda) table row edit p = edits_law d agenda table row p edit (table_at (seen d) table) refl

  show_law : (d : ClientDisk) (agenda : Option (List ClientTask)) (table : ℕ) (row : List ℕ) → IsAt g c h sent d t agenda
      → ClientLaw g c h sent t (Show table row) (show_step d agenda table row)
  show_law d None table row p = quiet_law (Show table row) d None _ tt p
  show_law d (Some agenda) table row p = quiet_law (Show table row) d (Some agenda) _ (by_table (table_at (seen d) table) refl) p
    where
      by_shown : (s : Slots) → RowTied (g table) c (h table) table row s t.writes (t.at table row) sent → (what : Option Shown) → shown_in s.main s.conflict s.shadow ≡ what
          → IsShown g c h sent t table row (show_answer what)
      by_shown s k None is = (s, k, sym is)
      by_shown s k (Some what) is = (s, k, sym is)

      by_table : (m : Option TableDisk) → table_at (seen d) table ≡ m → IsShown g c h sent t table row (show_in row m)
      by_table None is = tt
      by_table (Some o) is =
          by_shown (slots_at o row)
          (subst (λ (m : Option TableDisk). RowTied (g table) c (h table) table row (slots_in m row) t.writes (t.at table row) sent) is ((tied_of d agenda p).rows table row))
          (shown_in (slots_at o row).main (slots_at o row).conflict (slots_at o row).shadow) refl

  -- what a `sum` shows is what the law of `show` says, by digests
  sum_law : (d : ClientDisk) (agenda : Option (List ClientTask)) (table : ℕ) (row : List ℕ) → IsAt g c h sent d t agenda
      → ClientLaw g c h sent t (Sum table row) (sum_step d agenda table row)
  sum_law d agenda table row p = let shown = show_law d agenda table row p in record { answer = tt; facts = shown.facts; sends = shown.sends; part = shown.part }

  sync_law : (d : ClientDisk) (agenda : Option (List ClientTask)) (table : ℕ) → IsAt g c h sent d t agenda → ClientLaw g c h sent t (Sync table) (sync_step c shape d agenda table)
  sync_law d None table p = quiet_law (Sync table) d None _ tt p
  sync_law d (Some agenda) table p = by_table agenda p (table_at (seen d) table) refl
    where
      by_table : (agenda : List ClientTask) → Runs g c h sent d t agenda → (m : Option TableDisk) → table_at (seen d) table ≡ m
          → ClientLaw g c h sent t (Sync table) (sync_in c shape d agenda table m)
      by_table agenda p None is = quiet_law (Sync table) d (Some agenda) _ tt p
      by_table (task ∷ more) p (Some o) is = quiet_law (Sync table) d (Some (task ∷ more)) _ tt p
      by_table [] p (Some o) is = sync_first_law d p table o (in_disk d p table (Some o) is) o.schema.chunk (first_to_send o.rows) refl

  -- rows that are told as torn say nothing of writes
  tears_own : (table : ℕ) (tears : List (List ℕ)) → AreOwn g c h sent t (map (facts.Torn c table) tears) × (own_all t (map (facts.Torn c table) tears) ≡ t)
  tears_own table [] = (tt, refl)
  tears_own table (row ∷ tears) = let k = tears_own table tears in ((tt, k.0), k.1)

  -- nor is a row that is asked for whole a request of a write
  asks_requests : (u : Heard) (table : ℕ) (rows : List (List ℕ)) → Requests g c h u (map (torn_from c table) rows) × (sendings (map (torn_from c table) rows) ≡ [])
  asks_requests u table [] = (tt, refl)
  asks_requests u table (row ∷ rows) = let k = asks_requests u table rows in (((refl, refl), k.0), k.1)

  from_requests : (u : Heard) (table position : ℕ) (asks : List (List ℕ)) → Requests g c h u (next_from c table position asks) × (sendings (next_from c table position asks) ≡ [])
  from_requests u table position [] = (((refl, refl), tt), refl)
  from_requests u table position (row ∷ rows) = asks_requests u table (row ∷ rows)

  next_law : (d : ClientDisk) (agenda : Option (List ClientTask)) (table : ℕ) (tears asks : List (List ℕ)) → IsAt g c h sent d t agenda
      → ClientLaw g c h sent t (Next table tears asks) (next_step c shape d agenda table tears asks)
  next_law d None table tears asks p = quiet_law (Next table tears asks) d None _ tt p
  next_law d (Some agenda) table tears asks p = by_table agenda p (table_at (seen d) table)
    where
      by_table : (agenda : List ClientTask) → Runs g c h sent d t agenda → (m : Option TableDisk)
          → ClientLaw g c h sent t (Next table tears asks) (next_in c shape d agenda table tears asks m)
      by_table agenda p None = quiet_law (Next table tears asks) d (Some agenda) _ tt p
      by_table (task ∷ more) p (Some o) = quiet_law (Next table tears asks) d (Some (task ∷ more)) _ tt p
      by_table [] p (Some o) =
          let told = tears_own table tears in
          let requests = from_requests (own_all t (map (facts.Torn c table) tears)) table o.position asks in
          record {
            answer = tt;
            facts = told.0;
            sends = requests.0;
            part = subst (λ (u : Heard). IsAt g c h (sent ++ sendings (next_from c table o.position asks)) d u (Some [])) (sym told.1)
                (subst (λ (s : List Sending). IsAt g c h s d t (Some [])) (sym (ap (λ (l : List Sending). sent ++ l) requests.1 ∙ append-nil sent)) p);
          }

  resolve_law : (d : ClientDisk) (agenda : Option (List ClientTask)) (table : ℕ) (row : List ℕ) (version : ℕ) (choice : Choice) → IsAt g c h sent d t agenda
      → ClientLaw g c h sent t (Resolve table row version choice) (resolve_step c shape d agenda table row version choice)
  resolve_law d None table row version choice p = quiet_law (Resolve table row version choice) d None _ tt p
  resolve_law d (Some agenda) table row version choice p = by_table agenda p (table_at (seen d) table) refl
    where
      by_table : (agenda : List ClientTask) → Runs g c h sent d t agenda → (m : Option TableDisk) → table_at (seen d) table ≡ m
          → ClientLaw g c h sent t (Resolve table row version choice) (resolve_in c shape d agenda table row version choice m)
      by_table agenda p None is = quiet_law (Resolve table row version choice) d (Some agenda) _ tt p
      by_table (task ∷ more) p (Some o) is = quiet_law (Resolve table row version choice) d (Some (task ∷ more)) _ tt p
      by_table [] p (Some o) is =
          conflict_law d p table row version choice o (in_disk d p table (Some o) is) (slots_at o row).main refl (slots_at o row).conflict refl

  -- a phase begins or ends, and the rows in conflict are listed: nothing of the client changes
  phase_law : (move : ClientMove) (d : ClientDisk) (agenda : Option (List ClientTask)) (table : ℕ) → ((answer : Answer) → IsAnswer g c h sent t move answer)
      → IsAt g c h sent d t agenda → ClientLaw g c h sent t move (phase_step d agenda table)
  phase_law move d None table a p = quiet_law move d None _ (a _) p
  phase_law move d (Some agenda) table a p = by_table (table_at (seen d) table)
    where
      by_table : (m : Option TableDisk) → ClientLaw g c h sent t move (phase_in d agenda m)
      by_table None = quiet_law move d (Some agenda) _ (a _) p
      by_table (Some o) = quiet_law move d (Some agenda) _ (a _) p

  pairs_law : (d : ClientDisk) (agenda : Option (List ClientTask)) (table : ℕ) → IsAt g c h sent d t agenda
      → ClientLaw g c h sent t (Conflicts table) (conflicts_step d agenda table)
  pairs_law d None table p = quiet_law (Conflicts table) d None _ tt p
  pairs_law d (Some agenda) table p = by_table (table_at (seen d) table)
    where
      by_table : (m : Option TableDisk) → ClientLaw g c h sent t (Conflicts table) (conflicts_in d agenda m)
      by_table None = quiet_law (Conflicts table) d (Some agenda) _ tt p
      by_table (Some o) = quiet_law (Conflicts table) d (Some agenda) _ tt p

  all_law : (d : ClientDisk) (agenda : Option (List ClientTask)) (table : ℕ) (by : resolvers.Stored) → IsAt g c h sent d t agenda
      → ClientLaw g c h sent t (ResolveAll table by) (all_step shape d agenda table by)
  all_law d None table by p = quiet_law (ResolveAll table by) d None _ tt p
  all_law d (Some agenda) table by p = by_table (table_at (seen d) table)
    where
      by_work : (agenda : List ClientTask) → Runs g c h sent d t agenda → (o : TableDisk) → ClientLaw g c h sent t (ResolveAll table by) (all_idle shape d agenda o)
      by_work (task ∷ more) p o = quiet_law (ResolveAll table by) d (Some (task ∷ more)) _ tt p
      by_work [] p o = quiet_law (ResolveAll table by) d (Some []) _ tt p

      by_fit : (o : TableDisk) (fit : Result (Unit {0}) FitFault) → ClientLaw g c h sent t (ResolveAll table by) (all_fitting shape d agenda o fit)
      by_fit o (Ok fits) = by_work agenda p o
      by_fit o (Err fault) = quiet_law (ResolveAll table by) d (Some agenda) _ tt p

      by_table : (m : Option TableDisk) → ClientLaw g c h sent t (ResolveAll table by) (all_in shape d agenda by m)
      by_table None = quiet_law (ResolveAll table by) d (Some agenda) _ tt p
      by_table (Some o) = by_fit o (can_resolve o.schema by)

  -- a table is opened or closed
  alter_is_plan : (d : ClientDisk) (table : ℕ) (change : TableChange) → IsFairChange (g table) change → Tied g c h sent d t → IsNewPlan g c h sent d t (alter_plan c d table change)
  alter_is_plan d table (Opens schema) f k = new_plan g c h sent d t (alter_plan c d table (Opens schema)) (tt, tt) (tt, tt) refl (tied_altered g c h sent d t table (Opens schema) f k)
  alter_is_plan d table Closes f k = new_plan g c h sent d t (alter_plan c d table Closes) (tt, tt) (tt, tt) refl (tied_altered g c h sent d t table Closes f k)

  alter_law : (d : ClientDisk) (agenda : Option (List ClientTask)) (table : ℕ) (change : TableChange) → IsFairChange (g table) change → IsAt g c h sent d t agenda
      → ClientLaw g c h sent t (Alter table change) (alter_step c shape d agenda table change)
  alter_law d None table change f p = quiet_law (Alter table change) d None _ tt p
  alter_law d (Some (task ∷ more)) table change f p = quiet_law (Alter table change) d (Some (task ∷ more)) _ tt p
  alter_law d (Some []) table change f p = by_test (may_alter change (table_at (seen d) table))
    where
      by_test : (b : Bool) → ClientLaw g c h sent t (Alter table change) (if b then begun shape d facts.Done (alter_plan c d table change) [] else ignored d)
      by_test true = silent_law (Alter table change) d facts.Done (alter_plan c d table change) [] tt p (alter_is_plan d table change f p.0) tt refl
      by_test false = quiet_law (Alter table change) d (Some []) facts.Done tt p

  take_law : (d : ClientDisk) (agenda : Option (List ClientTask)) (message : Message) → IsMessage g c h sent message → IsAt g c h sent d t agenda
      → ClientLaw g c h sent t (Take message) (take_step c shape d agenda message)
  take_law d None message f p = quiet_law (Take message) d None _ tt p
  take_law d (Some (task ∷ more)) message f p = quiet_law (Take message) d (Some (task ∷ more)) _ tt p
  take_law d (Some []) (SyncRequest request) f p = quiet_law (Take (SyncRequest request)) d (Some []) facts.Done tt p
  take_law d (Some []) (PullRequest pull) f p = quiet_law (Take (PullRequest pull)) d (Some []) facts.Done tt p
  take_law d (Some []) (TornRowRequest torn) f p = quiet_law (Take (TornRowRequest torn)) d (Some []) facts.Done tt p
  take_law d (Some []) (SyncResponse r) f p = by_table (table_at (seen d) r.table) refl
    where
      by_table : (m : Option TableDisk) → table_at (seen d) r.table ≡ m → ClientLaw g c h sent t (Take (SyncResponse r)) (response_in c shape d r m)
      by_table None is = quiet_law (Take (SyncResponse r)) d (Some []) facts.Done tt p
      by_table (Some o) is = response_law d p r o (in_disk d p r.table (Some o) is) f (slots_at o r.row).out refl
  take_law d (Some []) (PullResponse pulled) f p = by_table (table_at (seen d) pulled.table) refl
    where
      by_table : (m : Option TableDisk) → table_at (seen d) pulled.table ≡ m → ClientLaw g c h sent t (Take (PullResponse pulled)) (pulled_in c shape d pulled m)
      by_table None is = quiet_law (Take (PullResponse pulled)) d (Some []) facts.Done tt p
      by_table (Some o) is = pulled_law d p pulled o (in_disk d p pulled.table (Some o) is) pulled.header f
  take_law d (Some []) (TornRowResponse answer) f p = by_table (table_at (seen d) answer.table) refl
    where
      by_table : (m : Option TableDisk) → table_at (seen d) answer.table ≡ m → ClientLaw g c h sent t (Take (TornRowResponse answer)) (torn_in c shape d answer m)
      by_table None is = quiet_law (Take (TornRowResponse answer)) d (Some []) facts.Done tt p
      by_table (Some o) is = torn_law d p answer o (in_disk d p answer.table (Some o) is) answer.header f

  client_laws : (s : Client) (move : ClientMove) → IsFair g c h sent move → ClientPart g c h sent t s → ClientLaw g c h sent t move (client_step c shape s move)
  client_laws s (Write table row content) f p = write_law s.disk s.agenda table row content p
  client_laws s (Change table row edit) f p = edit_law s.disk s.agenda table row edit p
  client_laws s (Show table row) f p = show_law s.disk s.agenda table row p
  client_laws s (Sum table row) f p = sum_law s.disk s.agenda table row p
  client_laws s (Sync table) f p = sync_law s.disk s.agenda table p
  client_laws s (Next table tears asks) f p = next_law s.disk s.agenda table tears asks p
  client_laws s (BeginCr table) f p = phase_law (BeginCr table) s.disk s.agenda table (λ answer. tt) p
  client_laws s (Conflicts table) f p = pairs_law s.disk s.agenda table p
  client_laws s (EndCr table) f p = phase_law (EndCr table) s.disk s.agenda table (λ answer. tt) p
  client_laws s (Resolve table row version choice) f p = resolve_law s.disk s.agenda table row version choice p
  client_laws s (ResolveAll table by) f p = all_law s.disk s.agenda table by p
  client_laws s (Alter table change) f p = alter_law s.disk s.agenda table change f p
  client_laws s (Take message) f p = take_law s.disk s.agenda message f p
  client_laws s (Work luck) f p = work_law s.disk s.agenda luck p
  client_laws s (Crash luck) f p = crash_law (Crash luck) s.disk s.agenda luck (λ answer. tt) p
  client_laws s Start f p = start_law s.disk s.agenda p

pub client_law : (g : ℕ → Scheme) (c : ℕ) (h : Items) (sent : List Sending) (t : Heard) → Ours g c h sent t
    → (shape : Shape) (s : Client) (move : ClientMove) → IsFair g c h sent move → ClientPart g c h sent t s
    → ClientLaw g c h sent t move (client_step c shape s move)
client_law g c h sent t ours shape s move fair part = client_laws g c h sent t ours shape s move fair part
