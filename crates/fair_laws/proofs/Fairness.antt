-- Whatever is done to a client, what it writes and sends stays fit.
use Rattle.std.proofs.Common.{◌≡◌, ℕ, ◌+◌, ◌++◌, Bool, true, false, cond, List, [], ◌∷◌, Option, Some, None, Result, Ok, Err, refl, sym, ◌∙◌, subst}
use Rattle.std.specs.Prelude.{map, option_map, option_to_list, if◌then◌else◌, ◌==◌, nat_le, nat_lt, length}
use Rattle.std.specs.List.{AllByRecursion}
use Rattle.std.specs.declared.cmp.Ordering.{Ordering}
use Rattle.std.specs.declared.cmp.Ordering.TheVariants.{Less, Equal, Greater}
use Rattle.std.specs.Ordering.{nat_cmp, match_ordering}
use Rattle.std.specs.Cmp.{nat_cmp_total}
use Rattle.std.specs.BTreeMap.{is_at, insert_entry}
use Rattle.std.specs.Map.{lookup}
use Rattle.conflicts.specs.declared.pair.Choice.{Choice}
use Rattle.conflicts.specs.declared.pair.Choice.TheVariants.{Mine, Theirs, New}
use Rattle.conflicts.specs.declared.stored.Stored.{Stored}
use Rattle.stab_base.specs.declared.step.Step.{Step}
use Rattle.row_edits.specs.declared.change.Edit.{Edit}
use Rattle.row_edits.specs.Edit.{edited_to}
use Rattle.row_value.specs.declared.content.Content.{Content}
use Rattle.row_value.specs.declared.content.Content.TheVariants.{Gone, Row}
use Rattle.row_value.specs.declared.fit.FitFault.{FitFault}
use Rattle.row_value.specs.declared.schema.Schema.{Schema}
use Rattle.row_value.specs.declared.schema.Scheme.{Scheme}
use Rattle.row_value.specs.declared.schema.Scheme.TheVariants.{Strong, Causal, Eventual}
use Rattle.row_value.specs.Fit.{fit_of}
use Rattle.step_tables.specs.Slots.{Main}
use Rattle.step_tables.specs.Slots.{InFlight}
use Rattle.step_tables.specs.Slots.{Shadow}
use Rattle.step_tables.specs.Client.{row_cmp, version_in}
use Rattle.step_tables.specs.Facts.{Fact, ClientFact, Answer}
use Rattle.step_tables.specs.Facts as facts
use Rattle.step_tables.specs.Messages.{Response, Pulled, Header, Outcome, Message, Send, Luck, SyncRequest, SyncResponse, PullRequest, PullResponse}
use Rattle.step_tables.specs.Messages.{TornPulled, TornRowRequest, TornRowResponse}
use Rattle.step_tables.specs.Messages as messages
use Rattle.step_tables.specs.ClientMoves.{Slots, TableDisk, TableChange, Opens, Closes, RowPut, Plan, ClientDisk, ClientChange, ClientTask, Client, ClientMove, ClientStep, Shape, Placed, RowOut, Commit, PutRow, PutTable, Finish, Keep}
use Rattle.step_tables.specs.ClientMoves.{no_slots, or_none, slots_at, table_at, with_table, put_row, put_position, row_put, table_put, opened_table, open_table, close_table, altered, applied_by, applied, put_of, planned_in, seen, changed, quiet, done, crashed, failed, worked, only, row_task, table_task, put_tasks, keeps, rest_of, planning, begun, slots_plan}
use Rattle.step_tables.specs.ClientMoves.{ending, opening, resumed, started, request_for, pull_from, main_of, write_plan, out_of, strong_out, strong_plan, first_out, write_strong, write_by, write_free, write_idle, write_fitting, write_to, write_step, edit_made, edit_over, edit_in, content_of, shown_in, edit_step}
use Rattle.step_tables.specs.ClientMoves.{resent, to_send, or_later, first_to_send, row_out, send_plan, sync_first, sync_in, sync_step, next_in, next_step, over_plan, theirs_plan, over_fitting, choose, resolve_over, resolve_in, resolve_step, without, freed, shadow_at, ack_plan, lost_plan, whole_out, whole_plan, outcome_taken, response_taken, response_in}
use Rattle.step_tables.specs.ClientMoves.{conflicts_in, phase_in, can_resolve, all_idle, all_fitting, all_in, pairs_of, read_new, read_conflict, reads_over, is_weak, placed, row_placed, next_pull, row_plan, position_plan, row_taken, top, comes_next, pulled_taken, pulled_in, take_step, client_step}
use Rattle.step_tables.specs.ClientMoves.{may_alter, alter_plan, alter_in, ignored, torn_from, next_from, torn_plan, torn_row_taken, torn_taken, torn_in}
use Rattle.step_tables.specs.ClientMoves as client
use Rattle.step_tables.specs.Chunks.{is_named}
use Rattle.step_tables.proofs.Lists.{lookup-insert}
use Rattle.std.proofs.lemmas.Bool.{eqb-true}
use Rattle.std.specs.Cmp.{unsigned_tied}
use Rattle.world_tables.specs.World.{World, schema_at, tasks_in, with_opened, open_all, new_client}
use Rattle.fair_laws.specs.Fair.{IsFitContent, IsFairSlots, IsFairRow, IsFairTable, IsFairPut, IsFairAlter, IsFairPlanBy, IsFairPlan, IsFairDisk, IsFairRequest, AreFairSends, IsFairChange, IsFairTask}
use Rattle.fair_laws.specs.Fair.{OpensKnown, IsFairClient, IsFairStep}

-- ---- lists and maps

pub at_same : (k q : ℕ) → is_at (nat_cmp k) q ≡ true → k ≡ q
at_same k q h = eqb-true k q (sym (unsigned_tied k q) ∙ h)

all_append : {X : Type 0} (P : X → Type 0) (xs ys : List X) → AllByRecursion P xs → AllByRecursion P ys → AllByRecursion P (xs ++ ys)
all_append P [] ys a b = b
all_append P (x ∷ xs) ys a b = (a.0, all_append P xs ys a.1 b)

all_put : {K V : Type 0} (R : K → K → Ordering) (Q : V → Type 0) (es : List (K × V)) (k : K) (v : V) → Q v → AllByRecursion (λ (e : K × V). Q e.1) es
    → AllByRecursion (λ (e : K × V). Q e.1) (insert_entry R es k v)
all_put R Q [] k v q a = (q, tt)
all_put {K} {V} R Q (e ∷ es) k v q a = go (R k e.0) (all_put R Q es k v q a.1)
  where
    go : (o : Ordering) → AllByRecursion (λ (e : K × V). Q e.1) (insert_entry R es k v) → AllByRecursion (λ (e : K × V). Q e.1) (match_ordering o ((k, v) ∷ e ∷ es) ((e.0, v) ∷ es)
        (e ∷ insert_entry R es k v))
    go Less rest = (q, a)
    go Equal rest = (q, a.1)
    go Greater rest = (a.0, rest)

all_found : {K V : Type 0} (R : K → K → Ordering) (Q : V → Type 0) (es : List (K × V)) (k : K) (v : V) → AllByRecursion (λ (e : K × V). Q e.1) es → lookup (is_at (R k)) es ≡ Some v → Q v
all_found R Q [] k v a e = absurd cc
all_found {K} {V} R Q (x ∷ es) k v a e = go (is_at (R k) x.0) e (all_found R Q es k v a.1)
  where
    go : (b : Bool) → cond b (Some x.1) (lookup (is_at (R k)) es) ≡ Some v → (lookup (is_at (R k)) es ≡ Some v → Q v) → Q v
    go true is rest = let same : x.1 ≡ v = cc in subst Q same a.0
    go false is rest = rest is

pub some_is : {X : Type 0} (o : Option X) (a b : X) → o ≡ Some a → o ≡ Some b → a ≡ b
some_is o a b e f = let s : Some a ≡ Some b = sym e ∙ f in cc

module _ (known : ℕ → Option Schema) (c : ℕ) where
  -- ---- disks

  abbrev AreFair : List (ℕ × TableDisk) → Type 0
  AreFair tables = (number : ℕ) (table : TableDisk) → lookup (is_at (nat_cmp number)) tables ≡ Some table → IsFairTable known number table

  no_slots_fair : (schema : Schema) → IsFairSlots schema no_slots
  no_slots_fair schema = record { main = λ m e. absurd cc; out = λ o e. absurd cc }

  slots_fair : (number : ℕ) (table : TableDisk) → IsFairTable known number table → (row : List ℕ) → IsFairSlots table.schema (slots_at table row)
  slots_fair number table t row = go (lookup (is_at (row_cmp row)) table.rows) refl
    where
      go : (o : Option Slots) → lookup (is_at (row_cmp row)) table.rows ≡ o → IsFairSlots table.schema (or_none o)
      go None e = no_slots_fair table.schema
      go (Some slots) e = all_found row_cmp (IsFairSlots table.schema) table.rows row slots t.rows e

  put_fair : (tables : List (ℕ × TableDisk)) (number : ℕ) (table : TableDisk) → IsFairTable known number table → AreFair tables → AreFair (insert_entry nat_cmp tables number table)
  put_fair tables number table t a q found e = go (is_at (nat_cmp number) q) refl (sym (lookup-insert nat_cmp nat_cmp_total tables number table q) ∙ e)
    where
      go : (b : Bool) → is_at (nat_cmp number) q ≡ b → cond b (Some table) (lookup (is_at (nat_cmp q)) tables) ≡ Some found → IsFairTable known q found
      go true is f =
          let same : table ≡ found = cc in
          subst (λ (n : ℕ). IsFairTable known n found) (at_same number q is) (subst (λ (x : TableDisk). IsFairTable known number x) same t)
      go false is f = a q found f

  with_fair : (d : ClientDisk) (last number : ℕ) (o : Option TableDisk) (f : TableDisk → TableDisk) → table_at d number ≡ o → ((t : TableDisk) → IsFairTable known number t
      → IsFairTable known number (f t)) → AreFair d.tables
      → AreFair (with_table (record d { last = last }) number o f).tables
  with_fair d last number None f e keeps a = a
  with_fair d last number (Some table) f e keeps a = put_fair d.tables number (f table) (keeps table (a number table e)) a

  row_put_fair : (d : ClientDisk) (last number : ℕ) (o : Option RowPut) → IsFairPut (known number) o → AreFair d.tables → AreFair (row_put d last number o).tables
  row_put_fair d last number None p a = a
  row_put_fair d last number (Some x) p a = with_fair d last number (table_at d number) (put_row x) refl
      (λ t k.
      let same : p.0 ≡ t.schema = some_is (known number) p.0 t.schema p.1 k.schema in
      record { schema = k.schema; rows = all_put row_cmp (IsFairSlots t.schema) t.rows x.row x.slots (subst (λ (s : Schema). IsFairSlots s x.slots) same p.2) k.rows })
      a

  table_put_fair : (d : ClientDisk) (number : ℕ) (o : Option ℕ) → AreFair d.tables → AreFair (table_put d number o).tables
  table_put_fair d number None a = a
  table_put_fair d number (Some position) a = with_fair d d.last number (table_at d number) (put_position position) refl (λ t k. record { schema = k.schema; rows = k.rows }) a

  altered_fair : (d : ClientDisk) (number : ℕ) (change : TableChange) → IsFairAlter (known number) change → AreFair d.tables → AreFair (altered d number change).tables
  altered_fair d number (Opens schema) is a = go (table_at d number)
    where
      go : (o : Option TableDisk) → AreFair (open_table d number schema o).tables
      go None = put_fair d.tables number (opened_table schema) (record { schema = is; rows = tt }) a
      go (Some t) = a
  altered_fair d number Closes is a = with_fair d d.last number (table_at d number) close_table refl (λ t k. record { schema = k.schema; rows = k.rows }) a

  applied_fair : (d : ClientDisk) (p : Plan) (o : Option TableChange) → IsFairPlanBy known p o → AreFair d.tables → AreFair (applied_by p d o).tables
  applied_fair d p None f a = table_put_fair (row_put d p.last p.table p.row) p.table p.position (row_put_fair d p.last p.table p.row f a)
  applied_fair d p (Some change) f a = altered_fair d p.table change f a

  put_of_fair : (d : ClientDisk) (p : Plan) (o : Option TableChange) → IsFairPlanBy known p o → AreFair d.tables → AreFair (put_of d p o).tables
  put_of_fair d p None f a = table_put_fair d p.table p.position a
  put_of_fair d p (Some change) f a = altered_fair d p.table change f a

  pub tables_seen : (d : ClientDisk) → IsFairDisk known d → AreFair (seen d).tables
  tables_seen d k = go d.plan k.plan
    where
      go : (o : Option Plan) → ((p : Plan) → o ≡ Some p → IsFairPlan known p) → AreFair (planned_in d o).tables
      go None plan = k.tables
      go (Some p) plan = applied_fair d p p.alters (plan p refl) k.tables

  row_plan_is : (d : ClientDisk) (last number : ℕ) (o : Option RowPut) → (row_put d last number o).plan ≡ d.plan
  row_plan_is d last number None = refl
  row_plan_is d last number (Some x) = go (table_at d number)
    where
      go : (t : Option TableDisk) → (with_table (record d { last = last }) number t (put_row x)).plan ≡ d.plan
      go None = refl
      go (Some t) = refl

  table_plan_is : (d : ClientDisk) (number : ℕ) (o : Option ℕ) → (table_put d number o).plan ≡ d.plan
  table_plan_is d number None = refl
  table_plan_is d number (Some position) = go (table_at d number)
    where
      go : (t : Option TableDisk) → (with_table d number t (put_position position)).plan ≡ d.plan
      go None = refl
      go (Some t) = refl

  altered_plan_is : (d : ClientDisk) (number : ℕ) (change : TableChange) → (altered d number change).plan ≡ d.plan
  altered_plan_is d number (Opens schema) = go (table_at d number)
    where
      go : (t : Option TableDisk) → (open_table d number schema t).plan ≡ d.plan
      go None = refl
      go (Some t) = refl
  altered_plan_is d number Closes = go (table_at d number)
    where
      go : (t : Option TableDisk) → (with_table d number t close_table).plan ≡ d.plan
      go None = refl
      go (Some t) = refl

  put_plan_is : (d : ClientDisk) (p : Plan) (o : Option TableChange) → (put_of d p o).plan ≡ d.plan
  put_plan_is d p None = table_plan_is d p.table p.position
  put_plan_is d p (Some change) = altered_plan_is d p.table change

  -- what a plan does changes no plan
  pub applied_plan_is : (d : ClientDisk) (p : Plan) → (applied p d).plan ≡ d.plan
  applied_plan_is d p = go p.alters
    where
      go : (o : Option TableChange) → (applied_by p d o).plan ≡ d.plan
      go None = table_plan_is (row_put d p.last p.table p.row) p.table p.position ∙ row_plan_is d p.last p.table p.row
      go (Some change) = altered_plan_is d p.table change

  -- ---- device writes

  changed_fair : (d : ClientDisk) (change : ClientChange) → IsFairDisk known d → IsFairChange known change → IsFairDisk known (changed d change)
  changed_fair d (Commit p) k f = record { tables = k.tables; plan = λ q e. let same : p ≡ q = cc in subst (IsFairPlan known) same f }
  changed_fair d (PutRow p) k f = record { tables = row_put_fair d p.last p.table p.row f k.tables; plan = λ q e. k.plan q (sym (row_plan_is d p.last p.table p.row) ∙ e) }
  changed_fair d (PutTable p) k f = record { tables = put_of_fair d p p.alters f k.tables; plan = λ q e. k.plan q (sym (put_plan_is d p p.alters) ∙ e) }
  changed_fair d Finish k f = record { tables = k.tables; plan = λ q e. absurd cc }
  changed_fair d (Keep step) k f = k

  abbrev AreFairTasks : List ClientTask → Type 0
  AreFairTasks tasks = AllByRecursion (IsFairTask known c) tasks

  keeps_fair : (steps : List Step) → AreFairTasks (keeps steps)
  keeps_fair [] = tt
  keeps_fair (step ∷ steps) = ((tt, tt), keeps_fair steps)

  row_task_fair : (p : Plan) (o : Option RowPut) → IsFairPut (known p.table) p.row → AreFairTasks (row_task p o)
  row_task_fair p None k = tt
  row_task_fair p (Some x) k = ((k, tt), tt)

  table_task_fair : (p : Plan) (o : Option ℕ) → IsFairPlan known p → AreFairTasks (table_task p o)
  table_task_fair p None k = tt
  table_task_fair p (Some position) k = ((k, tt), tt)

  puts_fair : (p : Plan) → IsFairPlan known p → (more : List ClientTask) → AreFairTasks more → (o : Option TableChange) → IsFairPlanBy known p o → AreFairTasks (put_tasks p o more)
  puts_fair p k more rest None row =
      all_append (IsFairTask known c) (row_task p p.row) (table_task p p.position ++ more) (row_task_fair p p.row row)
      (all_append (IsFairTask known c) (table_task p p.position) more (table_task_fair p p.position k) rest)
  puts_fair p k more rest (Some change) row = ((k, tt), rest)

  rest_fair : (shape : Shape) (p : Plan) (sends : List Send) → IsFairPlan known p → AreFairSends known c sends → AreFairTasks (rest_of shape p sends)
  rest_fair shape p sends k s =
      let end : List ClientTask = record { change = Finish; facts = []; sends = sends } ∷ [] in
      puts_fair p k (keeps shape.after ++ end) (all_append (IsFairTask known c) (keeps shape.after) end (keeps_fair shape.after) ((tt, s), tt)) p.alters k

  planning_fair : (shape : Shape) (p : Plan) (sends : List Send) → IsFairPlan known p → AreFairSends known c sends → AreFairTasks (planning shape p sends)
  planning_fair shape p sends k s =
      all_append (IsFairTask known c) (keeps shape.before) (record { change = Commit p; facts = client.told p; sends = [] } ∷ rest_of shape p sends) (keeps_fair shape.before)
      ((k, tt), rest_fair shape p sends k s)

  -- ---- steps

  quiet_fair : (d : ClientDisk) (agenda : Option (List ClientTask)) (answer : Answer) → IsFairDisk known d → AreFairTasks (tasks_in agenda) → IsFairStep known c (quiet d agenda answer)
  quiet_fair d agenda answer k t = record { client = record { disk = k; tasks = t }; sends = tt }

  begun_fair : (shape : Shape) (d : ClientDisk) (answer : Answer) (p : Plan) (sends : List Send) → IsFairDisk known d → IsFairPlan known p → AreFairSends known c sends
      → IsFairStep known c (begun shape d answer p sends)
  begun_fair shape d answer p sends k f s = quiet_fair d (Some (planning shape p sends)) answer k (planning_fair shape p sends f s)

  module _ (shape : Shape) (d : ClientDisk) (k : IsFairDisk known d) where
    idle_fair : (answer : Answer) → IsFairStep known c (quiet d (Some []) answer)
    idle_fair answer = quiet_fair d (Some []) answer k tt

    sends_fair : (answer : Answer) (sends : List Send) → AreFairSends known c sends → IsFairStep known c (record (quiet d (Some []) answer) { sends = sends })
    sends_fair answer sends s = record { client = record { disk = k; tasks = tt }; sends = s }

    pull_fair : (table position : ℕ) → AreFairSends known c (pull_from c table position ∷ [])
    pull_fair table position = (refl, tt)

    module _ (table : ℕ) (t : TableDisk) (row : List ℕ) (h : IsFairTable known table t) where
      abbrev here : Slots
      here = slots_at t row

      slots_here : IsFairSlots t.schema here
      slots_here = slots_fair table t h row

      -- ---- a write

      content_main : (slots : Slots) (m : Main) → IsFairSlots t.schema slots → IsFitContent t.schema m.content → IsFairSlots t.schema (record slots { main = Some m })
      content_main slots m s fits = record { main = λ n e. let same : m ≡ n = cc in subst (λ (x : Main). IsFitContent t.schema x.content) same fits; out = s.out }

      content_out : (slots : Slots) (o : InFlight) → IsFairSlots t.schema slots → IsFitContent t.schema o.content → IsFairSlots t.schema (record slots { out = Some o })
      content_out slots o s fits = record { main = s.main; out = λ n e. let same : o ≡ n = cc in subst (λ (x : InFlight). IsFitContent t.schema x.content) same fits }

      request_fair : (o : InFlight) → IsFitContent t.schema o.content → IsFairRequest known c (request_for c table row o).message
      request_fair o fits = (refl, t.schema, h.schema, fits)

      strong_fair : (size : ℕ) (content : Content) → IsFitContent t.schema content → (o : Option InFlight) → IsFairStep known c (write_strong size c shape d table row here content o)
      strong_fair size content fits (Some o) = idle_fair (facts.Refuses (facts.Outstanding o.number))
      strong_fair size content fits None =
          let out : InFlight = strong_out size (d.last + 1) here content in
          begun_fair shape d (facts.Number (d.last + 1)) (strong_plan size c d table row here content) (request_for c table row out ∷ []) k
          (t.schema, h.schema, content_out here out slots_here fits) (request_fair out fits, tt)

      plain_fair : (content : Content) → IsFitContent t.schema content → IsFairStep known c (begun shape d (facts.Number (d.last + 1)) (write_plan c d table row here content) [])
      plain_fair content fits =
          begun_fair shape d (facts.Number (d.last + 1)) (write_plan c d table row here content) [] k (
            t.schema,
            h.schema,
            content_main here (main_of (d.last + 1)
                (version_in here.shadow) content) slots_here fits,
          ) tt

      by_fair : (g : Scheme) (content : Content) → IsFitContent t.schema content → IsFairStep known c (write_by g c shape d table row t here content)
      by_fair Strong content fits = strong_fair t.schema.chunk content fits (first_out t.rows)
      by_fair Causal content fits = plain_fair content fits
      by_fair Eventual content fits = plain_fair content fits

      free_fair : (g : Scheme) (content : Content) → IsFitContent t.schema content → (x : Option Shadow) → IsFairStep known c (write_free g c shape d table row t here content x)
      free_fair g content fits None = by_fair g content fits
      free_fair g content fits (Some x) = idle_fair (facts.Refuses (facts.Conflicted x.version))

      fitting_fair : (agenda : List ClientTask) → AreFairTasks agenda → (content : Content) (r : Result (Unit {0}) FitFault) → fit_of t.schema content ≡ r
          → IsFairStep known c (write_fitting t.schema.scheme c shape d agenda table row t content r)
      fitting_fair agenda a content (Err fault) e = quiet_fair d (Some agenda) (facts.Refuses (facts.Unfit fault)) k a
      fitting_fair (task ∷ more) a content (Ok fits) e = quiet_fair d (Some (task ∷ more)) (facts.Refuses (facts.Busy shape.plan)) k a
      fitting_fair [] a content (Ok fits) e = free_fair t.schema.scheme content e here.conflict

      to_fair : (agenda : List ClientTask) → AreFairTasks agenda → (content : Content) → IsFairStep known c (write_to c shape d agenda table row content (Some t))
      to_fair agenda a content = fitting_fair agenda a content (fit_of t.schema content) refl

      made_fair : (agenda : List ClientTask) → AreFairTasks agenda → (r : Result Content FitFault) → IsFairStep known c (edit_made c shape d agenda table row t r)
      made_fair agenda a (Ok content) = to_fair agenda a content
      made_fair agenda a (Err fault) = quiet_fair d (Some agenda) (facts.Refuses (facts.Unfit fault)) k a

      over_fair : (agenda : List ClientTask) → AreFairTasks agenda → (edit : Edit) (o : Option Content) → IsFairStep known c (edit_over c shape d agenda table row t edit o)
      over_fair agenda a edit None = quiet_fair d (Some agenda) (facts.Refuses facts.NoRow) k a
      over_fair agenda a edit (Some Gone) = quiet_fair d (Some agenda) (facts.Refuses facts.NoRow) k a
      over_fair agenda a edit (Some (Row some objects)) = made_fair agenda a (edited_to t.schema some objects edit)

      -- ---- a conflict

      choose_fair : (main : Main) (x : Shadow) → here.main ≡ Some main → (choice : Choice) → IsFairStep known c (choose c shape d table row t.schema here main x choice)
      choose_fair main x is Mine = over_is main.content (slots_here.main main is)
        where
          over_is : (content : Content) → IsFitContent t.schema content → IsFairStep known c (begun shape d (facts.Number (d.last + 1)) (over_plan c d table row here main x content) [])
          over_is content fits =
              begun_fair shape d (facts.Number (d.last + 1)) (over_plan c d table row here main x content) [] k (
                t.schema,
                h.schema,
                record {
                  main = λ n e. let same : main_of (d.last + 1) x.version content ≡ n = cc in subst (λ
                      (y : Main). IsFitContent t.schema y.content) same fits;
                  out = slots_here.out;
                },
              ) tt
      choose_fair main x is Theirs =
          begun_fair shape d (facts.Number 0) (theirs_plan c d table row here main x) [] k (t.schema, h.schema, record { main = λ n e. absurd cc; out = slots_here.out }) tt
      choose_fair main x is (New content) = go (fit_of t.schema content) refl
        where
          go : (r : Result (Unit {0}) FitFault) → fit_of t.schema content ≡ r → IsFairStep known c (over_fitting c shape d table row here main x content r)
          go (Err fault) e = idle_fair (facts.Refuses (facts.Unfit fault))
          go (Ok fits) e =
              begun_fair shape d (facts.Number (d.last + 1)) (over_plan c d table row here main x content) [] k (
                t.schema,
                h.schema,
                record {
                  main = λ n f. let same : main_of (d.last + 1) x.version content ≡ n = cc in subst (λ
                      (y : Main). IsFitContent t.schema y.content) same e;
                  out = slots_here.out;
                },
              ) tt

      resolve_fair : (version : ℕ) (choice : Choice) (m : Option Main) (x : Option Shadow) → here.main ≡ m → IsFairStep known c (resolve_over c shape d table row t.schema here version choice m x)
      resolve_fair version choice None x e = idle_fair (facts.Refuses facts.NoConflict)
      resolve_fair version choice (Some main) None e = idle_fair (facts.Refuses facts.NoConflict)
      resolve_fair version choice (Some main) (Some x) e = go (x.version == version)
        where
          go : (b : Bool) → IsFairStep known c (if b then choose c shape d table row t.schema here main x choice else quiet d (Some []) (facts.Refuses (facts.Moved version x.version)))
          go true = choose_fair main x e choice
          go false = idle_fair (facts.Refuses (facts.Moved version x.version))

      -- ---- an answer to a request

      without_fair : (number : ℕ) (o : Option Main) → ((m : Main) → o ≡ Some m → IsFitContent t.schema m.content) → (m : Main) → without number o ≡ Some m → IsFitContent t.schema m.content
      without_fair number None f m e = absurd cc
      without_fair number (Some main) f m e = go (main.number == number) e
        where
          go : (b : Bool) → (if b then None else Some main) ≡ Some m → IsFitContent t.schema m.content
          go true e = absurd cc
          go false e = f m e

      freed_fair : (slots : Slots) (number : ℕ) → IsFairSlots t.schema slots → IsFairSlots t.schema (freed slots number)
      freed_fair slots number s = record { main = without_fair number slots.main s.main; out = λ o e. absurd cc }

      shadow_fair : (slots : Slots) (x : Option Shadow) → IsFairSlots t.schema slots → IsFairSlots t.schema (record slots { shadow = x })
      shadow_fair slots x s = record { main = s.main; out = s.out }

      ack_fair : (out : InFlight) (version : ℕ) → IsFairStep known c (begun shape d facts.Done (ack_plan c d table row here out version) [])
      ack_fair out version =
          begun_fair shape d facts.Done (ack_plan c d table row here out version) [] k
          (t.schema, h.schema, shadow_fair (freed here out.number) (Some (shadow_at version out)) (freed_fair here out.number slots_here)) tt

      outcome_fair : (out : InFlight) → IsFitContent t.schema out.content → (outcome : Outcome) → IsFairStep known c (outcome_taken c shape d table row t here out outcome)
      outcome_fair out fits (messages.Accepted version) = ack_fair out version
      outcome_fair out fits (messages.Again version) = ack_fair out version
      outcome_fair out fits (messages.Late last) = idle_fair facts.Done
      outcome_fair out fits (messages.Stale latest) =
          begun_fair shape d facts.Done (lost_plan c d table row here out latest) (pull_from c table t.position ∷ []) k
          (t.schema, h.schema, record { main = slots_here.main; out = λ o e. absurd cc }) (pull_fair table t.position)
      outcome_fair out fits (messages.Conflict latest) = sends_fair facts.Done (pull_from c table t.position ∷ []) (pull_fair table t.position)
      outcome_fair out fits messages.NeedWhole = by_whole out.whole
        where
          by_whole : (b : Bool) → IsFairStep known c (if b then quiet d (Some []) facts.Done
              else begun shape d facts.Done (whole_plan d table row here out) (request_for c table row (whole_out out) ∷ []))
          by_whole true = idle_fair facts.Done
          by_whole false =
              begun_fair shape d facts.Done (whole_plan d table row here out) (request_for c table row (whole_out out) ∷ []) k
              (t.schema, h.schema, content_out here (whole_out out) slots_here fits) (request_fair (whole_out out) fits, tt)

      -- ---- a row from the Store

      conflict_fair : (header : Header) (slots : Slots) (before : List ClientFact) (main : Main) → IsFairSlots t.schema slots
          → IsFairSlots t.schema (read_conflict c table header slots before main).slots
      conflict_fair header slots before main s = record { main = s.main; out = λ o e. absurd cc }

      placed_fair : (g : Scheme) (header : Header) (slots : Slots) (before : List ClientFact) (m : Option Main) (x : Option Shadow) → IsFairSlots t.schema slots
          → IsFairSlots t.schema (placed g c table header slots before m x).slots
      placed_fair g header slots before None x s = record { main = s.main; out = s.out }
      placed_fair g header slots before (Some main) x s = by_conflict x
        where
          go : (b : Bool) → IsFairSlots t.schema (if b then read_new c table header slots before else read_conflict c table header slots before main).slots
          go true = record { main = s.main; out = s.out }
          go false = conflict_fair header slots before main s

          by_conflict : (y : Option Shadow) → IsFairSlots t.schema (placed g c table header slots before (Some main) y).slots
          by_conflict (Some y) = go (is_weak g)
          by_conflict None = go (reads_over g header.yours.version header.version)

      row_placed_fair : (g : Scheme) (header : Header) (o : Option InFlight) → IsFairSlots t.schema (row_placed g c table header here o).slots
      row_placed_fair g header None = placed_fair g header here [] here.main here.conflict slots_here
      row_placed_fair g header (Some out) = go (nat_le out.number header.yours.number)
        where
          go : (b : Bool) → IsFairSlots t.schema (if b then placed g c table header (freed here out.number) (facts.Acked c out.number table header.row header.yours.version ∷ [])
              (without out.number here.main) here.conflict
              else placed g c table header here [] here.main here.conflict).slots
          go true = placed_fair g header (freed here out.number) (facts.Acked c out.number table header.row header.yours.version ∷ []) (without out.number here.main) here.conflict
              (freed_fair here out.number slots_here)
          go false = placed_fair g header here [] here.main here.conflict slots_here

    next_pull_fair : (pulled : Pulled) → AreFairSends known c (next_pull c pulled.table pulled)
    next_pull_fair pulled = go (nat_lt pulled.to pulled.latest)
      where
        go : (b : Bool) → AreFairSends known c (if b then pull_from c pulled.table pulled.to ∷ [] else [])
        go true = (refl, tt)
        go false = tt

    -- ---- what is sent

    resent_fair : (table : ℕ) (schema : Schema) → known table ≡ Some schema → (rows : List (List ℕ × Slots)) → AllByRecursion (IsFairRow schema) rows → AreFairSends known c (resent c table rows)
    resent_fair table schema is [] a = tt
    resent_fair table schema is (entry ∷ rows) a =
        all_append (λ (send : Send). IsFairRequest known c send.message) (option_to_list (option_map (request_for c table entry.0) entry.1.out)) (resent c table rows) (go entry.1.out a.0.out)
        (resent_fair table schema is rows a.1)
      where
        go : (o : Option InFlight) → ((x : InFlight) → o ≡ Some x → IsFitContent schema x.content) → AreFairSends known c (option_to_list (option_map (request_for c table entry.0) o))
        go None f = tt
        go (Some out) f = ((refl, schema, is, f out refl), tt)

    -- the first row that has something to send
    first_fair : (schema : Schema) (rows : List (List ℕ × Slots)) → AllByRecursion (IsFairRow schema) rows → (x : RowOut) → first_to_send rows ≡ Some x
        → IsFairSlots schema x.slots × IsFitContent schema x.out.content
    first_fair schema [] a = λ x e. absurd cc
    first_fair schema (entry ∷ rows) a = go entry.1.out entry.1.main entry.1.conflict a.0.main (first_fair schema rows a.1)
      where
        go : (out : Option InFlight) (main : Option Main) (conflict : Option Shadow) → ((m : Main) → main ≡ Some m → IsFitContent schema m.content) → ((x : RowOut) → first_to_send rows ≡ Some x
            → IsFairSlots schema x.slots × IsFitContent schema x.out.content)
            → (x : RowOut) → or_later entry.0 entry.1 (to_send entry.1 out main conflict) (first_to_send rows) ≡ Some x → IsFairSlots schema x.slots × IsFitContent schema x.out.content
        go (Some out) main conflict f rest x e = rest x e
        go None None conflict f rest x e = rest x e
        go None (Some main) (Some y) f rest x e = rest x e
        go None (Some main) None f rest x e =
            let first : RowOut = record { row = entry.0; slots = entry.1; out = out_of main (version_in entry.1.shadow) } in
            let same : first ≡ x = cc in
            subst (λ (y : RowOut). IsFairSlots schema y.slots × IsFitContent schema y.out.content) same (a.0, f main refl)

    sync_first_fair : (table : ℕ) (t : TableDisk) → IsFairTable known table t → (again : List Send) → AreFairSends known c again
        → (size : ℕ) (o : Option RowOut) → first_to_send t.rows ≡ o → IsFairStep known c (sync_first c shape d table again (option_map (row_out size) o))
    sync_first_fair table t h again s size None e = sends_fair (facts.Number (length again)) again s
    sync_first_fair table t h again s size (Some plain) e =
        let x : RowOut = row_out size plain in
        let f = first_fair t.schema t.rows h.rows plain e in
        let b = begun_fair shape d (facts.Number (length again + 1)) (send_plan d table x) (request_for c table x.row x.out ∷ []) k
        (t.schema, h.schema, record { main = f.0.main; out = λ n g. let same : x.out ≡ n = cc in subst (λ (y : InFlight). IsFitContent t.schema y.content) same f.1 })
        ((refl, t.schema, h.schema, f.1), tt) in
        record { client = b.client; sends = s }

    -- ---- the calls

    module _ (agenda : List ClientTask) (a : AreFairTasks agenda) where
      refuses : (answer : Answer) → IsFairStep known c (quiet d (Some agenda) answer)
      refuses answer = quiet_fair d (Some agenda) answer k a

      write_in_fair : (table : ℕ) (row : List ℕ) (content : Content) (o : Option TableDisk) → ((t : TableDisk) → o ≡ Some t → IsFairTable known table t)
          → IsFairStep known c (write_to c shape d agenda table row content o)
      write_in_fair table row content None f = refuses (facts.Refuses facts.NoTable)
      write_in_fair table row content (Some t) f = to_fair table t row (f t refl) agenda a content

      edit_in_fair : (table : ℕ) (row : List ℕ) (edit : Edit) (o : Option TableDisk) → ((t : TableDisk) → o ≡ Some t → IsFairTable known table t)
          → IsFairStep known c (edit_in c shape d agenda table row edit o)
      edit_in_fair table row edit None f = refuses (facts.Refuses facts.NoTable)
      edit_in_fair table row edit (Some t) f =
          let slots : Slots = slots_at t row in
          over_fair table t row (f t refl) agenda a edit (option_map content_of (shown_in slots.main slots.conflict slots.shadow))

    sync_in_fair : (agenda : List ClientTask) → AreFairTasks agenda → (table : ℕ) (o : Option TableDisk) → ((t : TableDisk) → o ≡ Some t → IsFairTable known table t)
        → IsFairStep known c (sync_in c shape d agenda table o)
    sync_in_fair agenda a table None f = quiet_fair d (Some agenda) (facts.Refuses facts.NoTable) k a
    sync_in_fair (task ∷ more) a table (Some t) f = quiet_fair d (Some (task ∷ more)) (facts.Refuses (facts.Busy shape.plan)) k a
    sync_in_fair [] a table (Some t) f =
        let h = f t refl in
        sync_first_fair table t h (resent c table t.rows) (resent_fair table t.schema h.schema t.rows h.rows) t.schema.chunk (first_to_send t.rows) refl

    asks_fair : (table : ℕ) (rows : List (List ℕ)) → AreFairSends known c (map (torn_from c table) rows)
    asks_fair table [] = tt
    asks_fair table (row ∷ rows) = (refl, asks_fair table rows)

    from_fair : (table position : ℕ) (asks : List (List ℕ)) → AreFairSends known c (next_from c table position asks)
    from_fair table position [] = pull_fair table position
    from_fair table position (row ∷ rows) = asks_fair table (row ∷ rows)

    next_in_fair : (agenda : List ClientTask) → AreFairTasks agenda → (table : ℕ) (tears asks : List (List ℕ)) (o : Option TableDisk)
        → IsFairStep known c (next_in c shape d agenda table tears asks o)
    next_in_fair agenda a table tears asks None = quiet_fair d (Some agenda) (facts.Refuses facts.NoTable) k a
    next_in_fair (task ∷ more) a table tears asks (Some t) = quiet_fair d (Some (task ∷ more)) (facts.Refuses (facts.Busy shape.plan)) k a
    next_in_fair [] a table tears asks (Some t) =
        let s = sends_fair facts.Done (next_from c table t.position asks) (from_fair table t.position asks) in record { client = s.client; sends = s.sends }

    resolve_in_fair : (agenda : List ClientTask) → AreFairTasks agenda → (table : ℕ) (row : List ℕ) (version : ℕ) (choice : Choice) (o : Option TableDisk) → ((t : TableDisk) → o ≡ Some t
        → IsFairTable known table t)
        → IsFairStep known c (resolve_in c shape d agenda table row version choice o)
    resolve_in_fair agenda a table row version choice None f = quiet_fair d (Some agenda) (facts.Refuses facts.NoTable) k a
    resolve_in_fair (task ∷ more) a table row version choice (Some t) f = quiet_fair d (Some (task ∷ more)) (facts.Refuses (facts.Busy shape.plan)) k a
    resolve_in_fair [] a table row version choice (Some t) f = let slots : Slots = slots_at t row in resolve_fair table t row (f t refl) version choice slots.main slots.conflict refl

    conflicts_in_fair : (agenda : List ClientTask) → AreFairTasks agenda → (o : Option TableDisk) → IsFairStep known c (conflicts_in d agenda o)
    conflicts_in_fair agenda a None = quiet_fair d (Some agenda) (facts.Refuses facts.NoTable) k a
    conflicts_in_fair agenda a (Some t) = quiet_fair d (Some agenda) (facts.Pairs (pairs_of t.rows)) k a

    phase_in_fair : (agenda : List ClientTask) → AreFairTasks agenda → (o : Option TableDisk) → IsFairStep known c (phase_in d agenda o)
    phase_in_fair agenda a None = quiet_fair d (Some agenda) (facts.Refuses facts.NoTable) k a
    phase_in_fair agenda a (Some t) = quiet_fair d (Some agenda) facts.Done k a

    all_in_fair : (agenda : List ClientTask) → AreFairTasks agenda → (by : Stored) (o : Option TableDisk) → IsFairStep known c (all_in shape d agenda by o)
    all_in_fair agenda a by None = quiet_fair d (Some agenda) (facts.Refuses facts.NoTable) k a
    all_in_fair agenda a by (Some t) = fits (can_resolve t.schema by)
      where
        idle : (tasks : List ClientTask) → AreFairTasks tasks → IsFairStep known c (all_idle shape d tasks t)
        idle [] a = idle_fair (facts.Number (length (pairs_of t.rows)))
        idle (task ∷ more) a = quiet_fair d (Some (task ∷ more)) (facts.Refuses (facts.Busy shape.plan)) k a

        fits : (r : Result (Unit {0}) FitFault) → IsFairStep known c (all_fitting shape d agenda t r)
        fits (Ok it) = idle agenda a
        fits (Err fault) = quiet_fair d (Some agenda) (facts.Refuses (facts.Unfit fault)) k a

    response_fair : (response : Response) (o : Option TableDisk) → ((t : TableDisk) → o ≡ Some t → IsFairTable known response.table t) → IsFairStep known c (response_in c shape d response o)
    response_fair response None f = idle_fair facts.Done
    response_fair response (Some t) f = taken (slots_at t response.row).out (slots_fair response.table t (f t refl) response.row).out
      where
        taken : (out : Option InFlight) → ((o : InFlight) → out ≡ Some o → IsFitContent t.schema o.content) → IsFairStep known c (response_taken c shape d response t out)
        taken None fits = idle_fair facts.Done
        taken (Some out) fits = go (out.number == response.number)
          where
            go : (b : Bool) → IsFairStep known c (if b then outcome_taken c shape d response.table response.row t (slots_at t response.row) out response.outcome else quiet d (Some []) facts.Done)
            go true = outcome_fair response.table t response.row (f t refl) out (fits out refl) response.outcome
            go false = idle_fair facts.Done

    row_taken_fair : (pulled : Pulled) (t : TableDisk) → IsFairTable known pulled.table t → (header : Header) → IsFairStep known c (row_taken c shape d pulled t header (slots_at t header.row))
    row_taken_fair pulled t h header = go (nat_le header.version (top (slots_at t header.row).conflict (slots_at t header.row).shadow))
      where
        go : (b : Bool) → IsFairStep known c (if b then begun shape d facts.Done (position_plan c d pulled.table pulled.to) (next_pull c pulled.table pulled)
            else begun shape d facts.Done (row_plan c d pulled.table header.row pulled.to (row_placed t.schema.scheme c pulled.table header (slots_at t header.row) (slots_at t header.row).out))
            (next_pull c pulled.table pulled))
        go true = begun_fair shape d facts.Done (position_plan c d pulled.table pulled.to) (next_pull c pulled.table pulled) k tt (next_pull_fair pulled)
        go false =
            begun_fair shape d facts.Done (row_plan c d pulled.table header.row pulled.to (row_placed t.schema.scheme c pulled.table header (slots_at t header.row) (slots_at t header.row).out))
            (next_pull c pulled.table pulled) k
            (t.schema, h.schema, row_placed_fair pulled.table t header.row h t.schema.scheme header (slots_at t header.row).out) (next_pull_fair pulled)

    pulled_fair : (pulled : Pulled) (o : Option TableDisk) → ((t : TableDisk) → o ≡ Some t → IsFairTable known pulled.table t) → IsFairStep known c (pulled_in c shape d pulled o)
    pulled_fair pulled None f = idle_fair facts.Done
    pulled_fair pulled (Some t) f = taken pulled.header
      where
        taken : (o : Option Header) → IsFairStep known c (pulled_taken c shape d pulled t o)
        taken None = idle_fair facts.Done
        taken (Some header) = go (comes_next pulled t header)
          where
            go : (b : Bool) → IsFairStep known c (if b then row_taken c shape d pulled t header (slots_at t header.row) else quiet d (Some []) facts.Done)
            go true = row_taken_fair pulled t (f t refl) header
            go false = idle_fair facts.Done

    torn_row_fair : (table : ℕ) (t : TableDisk) → IsFairTable known table t → (header : Header) → IsFairStep known c (torn_row_taken c shape d table t header (slots_at t header.row))
    torn_row_fair table t h header = go (nat_le header.version (top (slots_at t header.row).conflict (slots_at t header.row).shadow))
      where
        go : (b : Bool) → IsFairStep known c (if b then record (ignored d) { sends = pull_from c table t.position ∷ [] }
            else begun shape d facts.Done (torn_plan d table header.row (row_placed t.schema.scheme c table header (slots_at t header.row) (slots_at t header.row).out))
            (pull_from c table t.position ∷ []))
        go true = sends_fair facts.Done (pull_from c table t.position ∷ []) (pull_fair table t.position)
        go false =
            begun_fair shape d facts.Done (torn_plan d table header.row (row_placed t.schema.scheme c table header (slots_at t header.row) (slots_at t header.row).out))
            (pull_from c table t.position ∷ []) k
            (t.schema, h.schema, row_placed_fair table t header.row h t.schema.scheme header (slots_at t header.row).out) (pull_fair table t.position)

    torn_fair : (answer : TornPulled) (o : Option TableDisk) → ((t : TableDisk) → o ≡ Some t → IsFairTable known answer.table t) → IsFairStep known c (torn_in c shape d answer o)
    torn_fair answer None f = idle_fair facts.Done
    torn_fair answer (Some t) f = taken answer.header
      where
        taken : (o : Option Header) → IsFairStep known c (torn_taken c shape d answer.table t o)
        taken None = sends_fair facts.Done (pull_from c answer.table t.position ∷ []) (pull_fair answer.table t.position)
        taken (Some header) = go (is_named t.schema.chunk header.content header.names)
          where
            go : (b : Bool) → IsFairStep known c (if b then torn_row_taken c shape d answer.table t header (slots_at t header.row) else quiet d (Some []) facts.Done)
            go true = torn_row_fair answer.table t (f t refl) header
            go false = idle_fair facts.Done

    take_fair : (agenda : List ClientTask) → AreFairTasks agenda → (m : Message) → IsFairStep known c (take_step c shape d (Some agenda) m)
    take_fair (task ∷ more) a m = quiet_fair d (Some (task ∷ more)) (facts.Refuses (facts.Busy shape.plan)) k a
    take_fair [] a (SyncRequest q) = idle_fair facts.Done
    take_fair [] a (PullRequest q) = idle_fair facts.Done
    take_fair [] a (SyncResponse q) = response_fair q (table_at (seen d) q.table) (λ t e. tables_seen d k q.table t e)
    take_fair [] a (PullResponse q) = pulled_fair q (table_at (seen d) q.table) (λ t e. tables_seen d k q.table t e)
    take_fair [] a (TornRowRequest q) = idle_fair facts.Done
    take_fair [] a (TornRowResponse q) = torn_fair q (table_at (seen d) q.table) (λ t e. tables_seen d k q.table t e)

    -- ---- a table is opened or closed

    alter_fair : (agenda : List ClientTask) → AreFairTasks agenda → (table : ℕ) (change : TableChange) → IsFairAlter (known table) change
        → IsFairStep known c (alter_in c shape d agenda table change)
    alter_fair (task ∷ more) a table change is = quiet_fair d (Some (task ∷ more)) (facts.Refuses (facts.Busy shape.plan)) k a
    alter_fair [] a table change is = go (may_alter change (table_at (seen d) table))
      where
        go : (b : Bool) → IsFairStep known c (if b then begun shape d facts.Done (alter_plan c d table change) [] else ignored d)
        go true = begun_fair shape d facts.Done (alter_plan c d table change) [] k is tt
        go false = idle_fair facts.Done

    -- ---- writes, crashes and starts

    crashed_fair : (agenda : Option (List ClientTask)) → AreFairTasks (tasks_in agenda) → (luck : Luck) → IsFairStep known c (crashed d agenda luck)
    crashed_fair None a luck = quiet_fair d None (facts.Refuses facts.Down) k tt
    crashed_fair (Some []) a luck = quiet_fair d None facts.Done k tt
    crashed_fair (Some (task ∷ more)) a messages.FailedBefore = quiet_fair d None facts.Done k tt
    crashed_fair (Some (task ∷ more)) a messages.FailedAfter = quiet_fair (changed d task.change) None facts.Done (changed_fair d task.change k a.0.0) tt
    crashed_fair (Some (task ∷ more)) a messages.Done = quiet_fair (changed d task.change) None facts.Done (changed_fair d task.change k a.0.0) tt

    failed_fair : (agenda : Option (List ClientTask)) → AreFairTasks (tasks_in agenda) → (luck : Luck) → IsFairStep known c (failed d agenda luck)
    failed_fair agenda a luck = let f = crashed_fair agenda a luck in record { client = f.client; sends = f.sends }

    worked_fair : (agenda : Option (List ClientTask)) → AreFairTasks (tasks_in agenda) → (luck : Luck) → IsFairStep known c (worked d agenda luck)
    worked_fair None a messages.Done = quiet_fair d None (facts.Refuses facts.Down) k tt
    worked_fair (Some []) a messages.Done = idle_fair facts.Done
    worked_fair (Some (task ∷ more)) a messages.Done = record { client = record { disk = changed_fair d task.change k a.0.0; tasks = a.1 }; sends = a.0.1 }
    worked_fair agenda a messages.FailedBefore = failed_fair agenda a messages.FailedBefore
    worked_fair agenda a messages.FailedAfter = failed_fair agenda a messages.FailedAfter

    ending_fair : (some : List Fact) (tasks : List ClientTask) → AreFairTasks tasks → AreFairTasks (ending some tasks)
    ending_fair some [] a = tt
    ending_fair some (task ∷ []) a = a
    ending_fair some (task ∷ next ∷ more) a = (a.0, ending_fair some (next ∷ more) a.1)

    opening_fair : (o : Option Plan) → ((p : Plan) → o ≡ Some p → IsFairPlan known p) → AreFairTasks (opening shape o)
    opening_fair None f = all_append (IsFairTask known c) (keeps shape.before) (keeps shape.after) (keeps_fair shape.before) (keeps_fair shape.after)
    opening_fair (Some p) f = all_append (IsFairTask known c) (keeps shape.before) (rest_of shape p []) (keeps_fair shape.before) (rest_fair shape p [] (f p refl) tt)

    started_fair : (agenda : Option (List ClientTask)) → AreFairTasks (tasks_in agenda) → IsFairStep known c (started c shape d agenda)
    started_fair (Some agenda) a = quiet_fair d (Some agenda) facts.Done k a
    started_fair None a = record { client = record { disk = k; tasks = ending_fair (facts.ClientRecovered c ∷ []) (opening shape d.plan) (opening_fair d.plan k.plan) }; sends = tt }

  -- ---- every move

  module _ (shape : Shape) (d : ClientDisk) (k : IsFairDisk known d) where
    up_fair : (agenda : List ClientTask) → AreFairTasks agenda → (move : ClientMove) → OpensKnown known move → IsFairStep known c (client_step c shape (record { disk = d; agenda = Some agenda }) move)
    up_fair agenda a (client.Write table row content) opens = write_in_fair shape d k agenda a table row content (table_at (seen d) table) (λ t e. tables_seen d k table t e)
    up_fair agenda a (client.Change table row edit) opens = edit_in_fair shape d k agenda a table row edit (table_at (seen d) table) (λ t e. tables_seen d k table t e)
    up_fair agenda a (client.Show table row) opens = quiet_fair d (Some agenda) _ k a
    up_fair agenda a (client.Sum table row) opens = quiet_fair d (Some agenda) _ k a
    up_fair agenda a (client.Sync table) opens = sync_in_fair shape d k agenda a table (table_at (seen d) table) (λ t e. tables_seen d k table t e)
    up_fair agenda a (client.Next table tears asks) opens = next_in_fair shape d k agenda a table tears asks (table_at (seen d) table)
    up_fair agenda a (client.BeginCr table) opens = phase_in_fair shape d k agenda a (table_at (seen d) table)
    up_fair agenda a (client.Conflicts table) opens = conflicts_in_fair shape d k agenda a (table_at (seen d) table)
    up_fair agenda a (client.EndCr table) opens = phase_in_fair shape d k agenda a (table_at (seen d) table)
    up_fair agenda a (client.ResolveAll table by) opens = all_in_fair shape d k agenda a by (table_at (seen d) table)
    up_fair agenda a (client.Resolve table row version choice) opens = resolve_in_fair shape d k agenda a table row version choice (table_at (seen d) table) (λ t e. tables_seen d k table t e)
    up_fair agenda a (client.Alter table change) opens = alter_fair shape d k agenda a table change opens
    up_fair agenda a (client.Take m) opens = take_fair shape d k agenda a m
    up_fair agenda a (client.Work luck) opens = worked_fair shape d k (Some agenda) a luck
    up_fair agenda a (client.Crash luck) opens = crashed_fair shape d k (Some agenda) a luck
    up_fair agenda a client.Start opens = started_fair shape d k (Some agenda) a

    down_fair : (move : ClientMove) → IsFairStep known c (client_step c shape (record { disk = d; agenda = None }) move)
    down_fair (client.Write table row content) = quiet_fair d None (facts.Refuses facts.Down) k tt
    down_fair (client.Change table row edit) = quiet_fair d None (facts.Refuses facts.Down) k tt
    down_fair (client.Show table row) = quiet_fair d None (facts.Refuses facts.Down) k tt
    down_fair (client.Sum table row) = quiet_fair d None (facts.Refuses facts.Down) k tt
    down_fair (client.Sync table) = quiet_fair d None (facts.Refuses facts.Down) k tt
    down_fair (client.Next table tears asks) = quiet_fair d None (facts.Refuses facts.Down) k tt
    down_fair (client.BeginCr table) = quiet_fair d None (facts.Refuses facts.Down) k tt
    down_fair (client.Conflicts table) = quiet_fair d None (facts.Refuses facts.Down) k tt
    down_fair (client.EndCr table) = quiet_fair d None (facts.Refuses facts.Down) k tt
    down_fair (client.ResolveAll table by) = quiet_fair d None (facts.Refuses facts.Down) k tt
    down_fair (client.Resolve table row version choice) = quiet_fair d None (facts.Refuses facts.Down) k tt
    down_fair (client.Take m) = quiet_fair d None (facts.Refuses facts.Down) k tt
    down_fair (client.Work luck) = worked_fair shape d k None tt luck
    down_fair (client.Crash luck) = crashed_fair shape d k None tt luck
    down_fair (client.Alter table change) = quiet_fair d None (facts.Refuses facts.Down) k tt
    down_fair client.Start = started_fair shape d k None tt

pub step_fair : (known : ℕ → Option Schema) (c : ℕ) (shape : Shape) (s : Client) (move : ClientMove) → OpensKnown known move → IsFairClient known c s
    → IsFairStep known c (client_step c shape s move)
step_fair known c shape s move opens f = go s.disk s.agenda f.disk f.tasks
  where
    go : (d : ClientDisk) (agenda : Option (List ClientTask)) → IsFairDisk known d → AllByRecursion (IsFairTask known c) (tasks_in agenda)
        → IsFairStep known c (client_step c shape (record { disk = d; agenda = agenda }) move)
    go d None k a = down_fair known c shape d k move
    go d (Some tasks) k a = up_fair known c shape d k tasks a move opens

-- ---- where more is known

module _ (known more : ℕ → Option Schema) (c : ℕ) (is : (number : ℕ) (schema : Schema) → known number ≡ Some schema → more number ≡ Some schema) where
  put_more : (number : ℕ) (o : Option RowPut) → IsFairPut (known number) o → IsFairPut (more number) o
  put_more number None p = tt
  put_more number (Some x) p = (p.0, is number p.0 p.1, p.2)

  plan_more : (p : Plan) (o : Option TableChange) → IsFairPlanBy known p o → IsFairPlanBy more p o
  plan_more p None f = put_more p.table p.row f
  plan_more p (Some (Opens schema)) f = is p.table schema f
  plan_more p (Some Closes) f = tt

  request_more : (m : Message) → IsFairRequest known c m → IsFairRequest more c m
  request_more (SyncRequest q) r = (r.0, r.1, is q.table r.1 r.2, r.3)
  request_more (PullRequest q) r = r
  request_more (SyncResponse q) r = r
  request_more (PullResponse q) r = r
  request_more (TornRowRequest q) r = r
  request_more (TornRowResponse q) r = r

  sends_more : (sends : List Send) → AreFairSends known c sends → AreFairSends more c sends
  sends_more [] a = tt
  sends_more (send ∷ sends) a = (request_more send.message a.0, sends_more sends a.1)

  change_more : (change : ClientChange) → IsFairChange known change → IsFairChange more change
  change_more (Commit p) f = plan_more p p.alters f
  change_more (PutRow p) f = put_more p.table p.row f
  change_more (PutTable p) f = plan_more p p.alters f
  change_more Finish f = tt
  change_more (Keep step) f = tt

  tasks_more : (tasks : List ClientTask) → AllByRecursion (IsFairTask known c) tasks → AllByRecursion (IsFairTask more c) tasks
  tasks_more [] a = tt
  tasks_more (task ∷ tasks) a = ((change_more task.change a.0.0, sends_more task.sends a.0.1), tasks_more tasks a.1)

  pub client_more : (s : Client) → IsFairClient known c s → IsFairClient more c s
  client_more s f = record {
    disk = record {
      tables = λ number table e. let t = f.disk.tables number table e in record { schema = is number table.schema t.schema; rows = t.rows };
      plan = λ p e. plan_more p p.alters (f.disk.plan p e);
    };
    tasks = tasks_more (tasks_in s.agenda) f.tasks;
  }

-- ---- a client that joins

open_fair : (w : World) (some : List (ℕ × TableDisk)) (tables : List ℕ) → AreFair (schema_at w) 0 some → AreFair (schema_at w) 0 (open_all w some tables)
open_fair w some [] a = a
open_fair w some (table ∷ tables) a = open_fair w (with_opened some table (schema_at w table)) tables (go (schema_at w table) refl)
  where
    go : (o : Option Schema) → schema_at w table ≡ o → AreFair (schema_at w) 0 (with_opened some table o)
    go None e = a
    go (Some schema) e = put_fair (schema_at w) 0 some table (opened_table schema) (record { schema = e; rows = tt }) a

pub new_fair : (w : World) (c : ℕ) (tables : List ℕ) → IsFairClient (schema_at w) c (new_client (open_all w [] tables) (Some []))
new_fair w c tables = record {
  disk = record { tables = open_fair w [] tables (λ number table e. absurd cc); plan = λ p e. absurd cc };
  tasks = tt;
}
