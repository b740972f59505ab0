-- Each move of a client answers in a form of its command.
use Rattle.std.proofs.Common.{ℕ, Bool, true, false, List, [], ◌∷◌, Option, Some, None, Result, Ok, Err}
use Rattle.std.specs.Prelude.{if◌then◌else◌, option_map, ◌==◌, ◌&&◌, nat_le, nat_lt}
use Rattle.row_value.specs.declared.content.Content.{Content}
use Rattle.row_value.specs.declared.content.Content.TheVariants.{Gone, Row}
use Rattle.row_value.specs.declared.schema.Scheme.{Scheme}
use Rattle.row_value.specs.declared.schema.Scheme.TheVariants.{Strong, Causal, Eventual}
use Rattle.row_value.specs.declared.fit.FitFault.{FitFault}
use Rattle.row_value.specs.Fit.{fit_of}
use Rattle.row_edits.specs.declared.change.Edit.{Edit}
use Rattle.row_edits.specs.Edit.{edited_to}
use Rattle.row_value.specs.declared.schema.Schema.{Schema}
use Rattle.conflicts.specs.declared.pair.Choice.{Choice}
use Rattle.conflicts.specs.declared.pair.Choice.TheVariants.{Mine, Theirs, New}
use Rattle.conflicts.specs.declared.stored.Stored as resolvers
use Rattle.step_tables.specs.Slots.{Main}
use Rattle.step_tables.specs.Slots.{InFlight}
use Rattle.step_tables.specs.Slots.{Shadow}
use Rattle.step_tables.specs.Facts.{Answer, Refusal, Shown, ShownSum}
use Rattle.step_tables.specs.Facts as facts
use Rattle.step_tables.specs.Sums.{by_digests, or_whole, sum_of}
use Rattle.step_tables.specs.Messages.{Request, Response, Pull, Pulled, TornPulled, Header, Pair, Outcome, Message, Send, SyncRequest, SyncResponse, PullRequest}
use Rattle.step_tables.specs.Messages.{PullResponse, TornRowRequest, TornRowResponse}
use Rattle.step_tables.specs.Messages as messages
use Rattle.stab_base.specs.declared.node.Node.{Node}
use Rattle.step_tables.specs.Store.{current_of}
use Rattle.step_tables.specs.Chunks.{is_named, is_spelled}
use Rattle.step_tables.specs.StoreMoves as store
use Rattle.step_tables.specs.StoreMoves.{StoreDisk, StoreTask, SidePut}
use Rattle.step_tables.specs.ClientMoves.{Slots, TableDisk, ClientDisk, ClientTask, Shape, RowOut, slots_at, table_at, seen, shown_in, show_answer, show_in, write_step, write_to}
use Rattle.step_tables.specs.ClientMoves.{write_fitting, content_of, edit_made, edit_over, edit_in, edit_step}
use Rattle.step_tables.specs.ClientMoves.{TableChange, alter_plan, may_alter, alter_step}
use Rattle.step_tables.specs.ClientMoves.{ignored, pull_from, torn_plan, torn_row_taken, torn_taken, torn_in}
use Rattle.step_tables.specs.ClientMoves.{write_idle, write_free, write_by, write_strong, first_out, show_step, sync_step, sync_in, sync_first, resent, first_to_send, next_step, next_in, take_step}
use Rattle.step_tables.specs.ClientMoves.{refused, phase_in, phase_step, choose, over_fitting, resolve_over, resolve_in, resolve_step, can_resolve, all_idle, all_fitting, all_in, all_step}
use Rattle.step_tables.specs.ClientMoves.{row_out, request_for, whole_out, whole_plan, comes_next}
use Rattle.step_tables.specs.ClientMoves.{response_in, response_taken, outcome_taken, pulled_in, pulled_taken, row_taken, top, begun, position_plan, row_plan, row_placed, next_pull}

-- an answer with a number, or a refusal
abbrev pub IsNumber : Answer → Type 0
IsNumber (facts.Number number) = Unit {0}
IsNumber (facts.Refuses refusal) = Unit {0}
IsNumber other = ⊥

abbrev pub IsDone : Answer → Type 0
IsDone facts.Done = Unit {0}
IsDone (facts.Refuses refusal) = Unit {0}
IsDone other = ⊥

abbrev pub IsShow : Answer → Type 0
IsShow (facts.Shows shown) = Unit {0}
IsShow (facts.Refuses refusal) = Unit {0}
IsShow other = ⊥

-- the same by digests
abbrev pub IsShowOrSum : Answer → Type 0
IsShowOrSum (facts.Shows shown) = Unit {0}
IsShowOrSum (facts.Sums sum) = Unit {0}
IsShowOrSum (facts.Refuses refusal) = Unit {0}
IsShowOrSum other = ⊥

pub sum_form : (answer : Answer) → IsShow answer → IsShowOrSum (by_digests answer)
sum_form (facts.Shows what) f = whole (sum_of what)
  where
    whole : (o : Option ShownSum) → IsShowOrSum (or_whole what o)
    whole None = tt
    whole (Some sum) = tt
sum_form (facts.Refuses refusal) f = tt
sum_form facts.Done f = absurd f
sum_form (facts.Number number) f = absurd f
sum_form (facts.Sums sum) f = absurd f
sum_form (facts.Stores version content) f = absurd f
sum_form (facts.Did step) f = absurd f
sum_form (facts.Names names) f = absurd f
sum_form (facts.Pairs pairs) f = absurd f

-- what holds of each answer of a form

pub by_number : (P : Answer → Type 0) → ((n : ℕ) → P (facts.Number n)) → ((r : Refusal) → P (facts.Refuses r)) → (a : Answer) → IsNumber a → P a
by_number P number refuses (facts.Number n) f = number n
by_number P number refuses (facts.Refuses r) f = refuses r
by_number P number refuses other f = absurd f

pub by_done : (P : Answer → Type 0) → P facts.Done → ((r : Refusal) → P (facts.Refuses r)) → (a : Answer) → IsDone a → P a
by_done P done refuses facts.Done f = done
by_done P done refuses (facts.Refuses r) f = refuses r
by_done P done refuses other f = absurd f

module _ (c : ℕ) (shape : Shape) (d : ClientDisk) where
  strong_form : (size table : ℕ) (row : List ℕ) (slots : Slots) (x : Content) (o : Option InFlight) → IsNumber (write_strong size c shape d table row slots x o).answer
  strong_form size table row slots x None = tt
  strong_form size table row slots x (Some out) = tt

  by_form : (g : Scheme) (table : ℕ) (row : List ℕ) (opened : TableDisk) (slots : Slots) (x : Content) → IsNumber (write_by g c shape d table row opened slots x).answer
  by_form Strong table row opened slots x = strong_form opened.schema.chunk table row slots x (first_out opened.rows)
  by_form Causal table row opened slots x = tt
  by_form Eventual table row opened slots x = tt

  free_form : (g : Scheme) (table : ℕ) (row : List ℕ) (opened : TableDisk) (slots : Slots) (x : Content) (y : Option Shadow) → IsNumber (write_free g c shape d table row opened slots x y).answer
  free_form g table row opened slots x None = by_form g table row opened slots x
  free_form g table row opened slots x (Some y) = tt

  idle_form : (g : Scheme) (agenda : List ClientTask) (table : ℕ) (row : List ℕ) (opened : TableDisk) (x : Content) → IsNumber (write_idle g c shape d agenda table row opened x).answer
  idle_form g (task ∷ more) table row opened x = tt
  idle_form g [] table row opened x = free_form g table row opened (slots_at opened row) x (slots_at opened row).conflict

  fitting_form : (g : Scheme) (agenda : List ClientTask) (table : ℕ) (row : List ℕ) (opened : TableDisk) (x : Content) (fit : Result (Unit {0}) FitFault)
      → IsNumber (write_fitting g c shape d agenda table row opened x fit).answer
  fitting_form g agenda table row opened x (Ok fits) = idle_form g agenda table row opened x
  fitting_form g agenda table row opened x (Err fault) = tt

  to_form : (agenda : List ClientTask) (table : ℕ) (row : List ℕ) (x : Content) (o : Option TableDisk) → IsNumber (write_to c shape d agenda table row x o).answer
  to_form agenda table row x None = tt
  to_form agenda table row x (Some opened) = fitting_form opened.schema.scheme agenda table row opened x (fit_of opened.schema x)

  pub write_form : (agenda : Option (List ClientTask)) (table : ℕ) (row : List ℕ) (x : Content) → IsNumber (write_step c shape d agenda table row x).answer
  write_form None table row x = tt
  write_form (Some agenda) table row x = to_form agenda table row x (table_at (seen d) table)

  -- an edit is refused, or what it makes is written

  made_form : (agenda : List ClientTask) (table : ℕ) (row : List ℕ) (opened : TableDisk) (made : Result Content FitFault) → IsNumber (edit_made c shape d agenda table row opened made).answer
  made_form agenda table row opened (Ok content) = to_form agenda table row content (Some opened)
  made_form agenda table row opened (Err fault) = tt

  over_form : (agenda : List ClientTask) (table : ℕ) (row : List ℕ) (opened : TableDisk) (edit : Edit) (shown : Option Content)
      → IsNumber (edit_over c shape d agenda table row opened edit shown).answer
  over_form agenda table row opened edit None = tt
  over_form agenda table row opened edit (Some Gone) = tt
  over_form agenda table row opened edit (Some (Row some objects)) = made_form agenda table row opened (edited_to opened.schema some objects edit)

  edit_in_form : (agenda : List ClientTask) (table : ℕ) (row : List ℕ) (edit : Edit) (o : Option TableDisk) → IsNumber (edit_in c shape d agenda table row edit o).answer
  edit_in_form agenda table row edit None = tt
  edit_in_form agenda table row edit (Some opened) =
      let slots : Slots = slots_at opened row in over_form agenda table row opened edit (option_map content_of (shown_in slots.main slots.conflict slots.shadow))

  pub edit_form : (agenda : Option (List ClientTask)) (table : ℕ) (row : List ℕ) (edit : Edit) → IsNumber (edit_step c shape d agenda table row edit).answer
  edit_form None table row edit = tt
  edit_form (Some agenda) table row edit = edit_in_form agenda table row edit (table_at (seen d) table)

  shown_form : (o : Option Shown) → IsShow (show_answer o)
  shown_form None = tt
  shown_form (Some what) = tt

  show_in_form : (row : List ℕ) (o : Option TableDisk) → IsShow (show_in row o)
  show_in_form row None = tt
  show_in_form row (Some table) = let s : Slots = slots_at table row in shown_form (shown_in s.main s.conflict s.shadow)

  pub show_form : (agenda : Option (List ClientTask)) (table : ℕ) (row : List ℕ) → IsShow (show_step d agenda table row).answer
  show_form None table row = tt
  show_form (Some agenda) table row = show_in_form row (table_at (seen d) table)

  first_form : (table : ℕ) (again : List Send) (o : Option RowOut) → IsNumber (sync_first c shape d table again o).answer
  first_form table again None = tt
  first_form table again (Some x) = tt

  sync_in_form : (agenda : List ClientTask) (table : ℕ) (o : Option TableDisk) → IsNumber (sync_in c shape d agenda table o).answer
  sync_in_form agenda table None = tt
  sync_in_form (task ∷ more) table (Some opened) = tt
  sync_in_form [] table (Some opened) = first_form table (resent c table opened.rows) (option_map (row_out opened.schema.chunk) (first_to_send opened.rows))

  pub sync_form : (agenda : Option (List ClientTask)) (table : ℕ) → IsNumber (sync_step c shape d agenda table).answer
  sync_form None table = tt
  sync_form (Some agenda) table = sync_in_form agenda table (table_at (seen d) table)

  next_in_form : (agenda : List ClientTask) (table : ℕ) (tears asks : List (List ℕ)) (o : Option TableDisk) → IsDone (next_in c shape d agenda table tears asks o).answer
  next_in_form agenda table tears asks None = tt
  next_in_form (task ∷ more) table tears asks (Some opened) = tt
  next_in_form [] table tears asks (Some opened) = tt

  pub next_form : (agenda : Option (List ClientTask)) (table : ℕ) (tears asks : List (List ℕ)) → IsDone (next_step c shape d agenda table tears asks).answer
  next_form None table tears asks = tt
  next_form (Some agenda) table tears asks = next_in_form agenda table tears asks (table_at (seen d) table)

  -- ---- conflicts

  phase_in_form : (agenda : List ClientTask) (o : Option TableDisk) → IsDone (phase_in d agenda o).answer
  phase_in_form agenda None = tt
  phase_in_form agenda (Some opened) = tt

  pub phase_form : (agenda : Option (List ClientTask)) (table : ℕ) → IsDone (phase_step d agenda table).answer
  phase_form None table = tt
  phase_form (Some agenda) table = phase_in_form agenda (table_at (seen d) table)

  choose_form : (table : ℕ) (row : List ℕ) (schema : Schema) (slots : Slots) (main : Main) (x : Shadow) (choice : Choice)
      → IsNumber (choose c shape d table row schema slots main x choice).answer
  choose_form table row schema slots main x Mine = tt
  choose_form table row schema slots main x Theirs = tt
  choose_form table row schema slots main x (New content) = fitting (fit_of schema content)
    where
      fitting : (fit : Result (Unit {0}) FitFault) → IsNumber (over_fitting c shape d table row slots main x content fit).answer
      fitting (Ok fits) = tt
      fitting (Err fault) = tt

  resolve_over_form : (table : ℕ) (row : List ℕ) (schema : Schema) (slots : Slots) (version : ℕ) (choice : Choice) (m : Option Main) (x : Option Shadow)
      → IsNumber (resolve_over c shape d table row schema slots version choice m x).answer
  resolve_over_form table row schema slots version choice None x = tt
  resolve_over_form table row schema slots version choice (Some main) None = tt
  resolve_over_form table row schema slots version choice (Some main) (Some x) = go (x.version == version)
    where
      go : (b : Bool) → IsNumber (if b then choose c shape d table row schema slots main x choice else refused d (facts.Moved version x.version)).answer
      go true = choose_form table row schema slots main x choice
      go false = tt

  resolve_in_form : (agenda : List ClientTask) (table : ℕ) (row : List ℕ) (version : ℕ) (choice : Choice) (o : Option TableDisk)
      → IsNumber (resolve_in c shape d agenda table row version choice o).answer
  resolve_in_form agenda table row version choice None = tt
  resolve_in_form (task ∷ more) table row version choice (Some opened) = tt
  resolve_in_form [] table row version choice (Some opened) =
      let slots : Slots = slots_at opened row in resolve_over_form table row opened.schema slots version choice slots.main slots.conflict

  pub resolve_form : (agenda : Option (List ClientTask)) (table : ℕ) (row : List ℕ) (version : ℕ) (choice : Choice)
      → IsNumber (resolve_step c shape d agenda table row version choice).answer
  resolve_form None table row version choice = tt
  resolve_form (Some agenda) table row version choice = resolve_in_form agenda table row version choice (table_at (seen d) table)

  all_idle_form : (agenda : List ClientTask) (opened : TableDisk) → IsNumber (all_idle shape d agenda opened).answer
  all_idle_form (task ∷ more) opened = tt
  all_idle_form [] opened = tt

  all_fitting_form : (agenda : List ClientTask) (opened : TableDisk) (fit : Result (Unit {0}) FitFault) → IsNumber (all_fitting shape d agenda opened fit).answer
  all_fitting_form agenda opened (Ok fits) = all_idle_form agenda opened
  all_fitting_form agenda opened (Err fault) = tt

  all_in_form : (agenda : List ClientTask) (by : resolvers.Stored) (o : Option TableDisk) → IsNumber (all_in shape d agenda by o).answer
  all_in_form agenda by None = tt
  all_in_form agenda by (Some opened) = all_fitting_form agenda opened (can_resolve opened.schema by)

  pub all_form : (agenda : Option (List ClientTask)) (table : ℕ) (by : resolvers.Stored) → IsNumber (all_step shape d agenda table by).answer
  all_form None table by = tt
  all_form (Some agenda) table by = all_in_form agenda by (table_at (seen d) table)

  -- ---- a table that is opened or closed

  pub alter_form : (agenda : Option (List ClientTask)) (table : ℕ) (change : TableChange) → IsDone (alter_step c shape d agenda table change).answer
  alter_form None table change = tt
  alter_form (Some (task ∷ more)) table change = tt
  alter_form (Some []) table change = go (may_alter change (table_at (seen d) table))
    where
      go : (b : Bool) → IsDone (if b then begun shape d facts.Done (alter_plan c d table change) [] else ignored d).answer
      go true = tt
      go false = tt

  -- ---- messages

  outcome_form : (table : ℕ) (row : List ℕ) (opened : TableDisk) (slots : Slots) (out : InFlight) (o : Outcome) → IsDone (outcome_taken c shape d table row opened slots out o).answer
  outcome_form table row opened slots out (messages.Accepted v) = tt
  outcome_form table row opened slots out (messages.Again v) = tt
  outcome_form table row opened slots out (messages.Late v) = tt
  outcome_form table row opened slots out (messages.Stale v) = tt
  outcome_form table row opened slots out (messages.Conflict v) = tt
  outcome_form table row opened slots out messages.NeedWhole = by_whole out.whole
    where
      by_whole : (b : Bool) → IsDone (if b then record { client = record { disk = d; agenda = Some [] }; answer = facts.Done; facts = []; sends = [] }
          else begun shape d facts.Done (whole_plan d table row slots out) (request_for c table row (whole_out out) ∷ [])).answer
      by_whole true = tt
      by_whole false = tt

  response_form : (r : Response) (opened : TableDisk) (o : Option InFlight) → IsDone (response_taken c shape d r opened o).answer
  response_form r opened None = tt
  response_form r opened (Some out) = go (out.number == r.number)
    where
      go : (b : Bool) → IsDone (if b then outcome_taken c shape d r.table r.row opened (slots_at opened r.row) out r.outcome
          else record { client = record { disk = d; agenda = Some [] }; answer = facts.Done; facts = []; sends = [] }).answer
      go true = outcome_form r.table r.row opened (slots_at opened r.row) out r.outcome
      go false = tt

  response_in_form : (r : Response) (o : Option TableDisk) → IsDone (response_in c shape d r o).answer
  response_in_form r None = tt
  response_in_form r (Some opened) = response_form r opened (slots_at opened r.row).out

  row_form : (q : Pulled) (opened : TableDisk) (hd : Header) (slots : Slots) → IsDone (row_taken c shape d q opened hd slots).answer
  row_form q opened hd slots = go (nat_le hd.version (top slots.conflict slots.shadow))
    where
      go : (b : Bool) → IsDone (if b
          then begun shape d facts.Done (position_plan c d q.table q.to) (next_pull c q.table q)
          else begun shape d facts.Done (row_plan c d q.table hd.row q.to (row_placed opened.schema.scheme c q.table hd slots slots.out)) (next_pull c q.table q)).answer
      go true = tt
      go false = tt

  pulled_form : (q : Pulled) (opened : TableDisk) (o : Option Header) → IsDone (pulled_taken c shape d q opened o).answer
  pulled_form q opened None = tt
  pulled_form q opened (Some hd) = go (comes_next q opened hd)
    where
      go : (b : Bool) → IsDone (if b then row_taken c shape d q opened hd (slots_at opened hd.row)
          else record { client = record { disk = d; agenda = Some [] }; answer = facts.Done; facts = []; sends = [] }).answer
      go true = row_form q opened hd (slots_at opened hd.row)
      go false = tt

  pulled_in_form : (q : Pulled) (o : Option TableDisk) → IsDone (pulled_in c shape d q o).answer
  pulled_in_form q None = tt
  pulled_in_form q (Some opened) = pulled_form q opened q.header

  torn_row_form : (table : ℕ) (opened : TableDisk) (hd : Header) (slots : Slots) → IsDone (torn_row_taken c shape d table opened hd slots).answer
  torn_row_form table opened hd slots = go (nat_le hd.version (top slots.conflict slots.shadow))
    where
      go : (b : Bool) → IsDone (if b
          then record (ignored d) { sends = pull_from c table opened.position ∷ [] }
          else begun shape d facts.Done (torn_plan d table hd.row (row_placed opened.schema.scheme c table hd slots slots.out)) (pull_from c table opened.position ∷ [])).answer
      go true = tt
      go false = tt

  torn_form : (table : ℕ) (opened : TableDisk) (o : Option Header) → IsDone (torn_taken c shape d table opened o).answer
  torn_form table opened None = tt
  torn_form table opened (Some hd) = go (is_named opened.schema.chunk hd.content hd.names)
    where
      go : (b : Bool) → IsDone (if b then torn_row_taken c shape d table opened hd (slots_at opened hd.row) else ignored d).answer
      go true = torn_row_form table opened hd (slots_at opened hd.row)
      go false = tt

  torn_in_form : (q : TornPulled) (o : Option TableDisk) → IsDone (torn_in c shape d q o).answer
  torn_in_form q None = tt
  torn_in_form q (Some opened) = torn_form q.table opened q.header

  pub take_form : (agenda : Option (List ClientTask)) (m : Message) → IsDone (take_step c shape d agenda m).answer
  take_form None m = tt
  take_form (Some (task ∷ more)) m = tt
  take_form (Some []) (SyncRequest q) = tt
  take_form (Some []) (PullRequest q) = tt
  take_form (Some []) (SyncResponse r) = response_in_form r (table_at (seen d) r.table)
  take_form (Some []) (PullResponse q) = pulled_in_form q (table_at (seen d) q.table)
  take_form (Some []) (TornRowRequest q) = tt
  take_form (Some []) (TornRowResponse q) = torn_in_form q (table_at (seen d) q.table)

-- ---- the Store's

module _ (g : Scheme) (size table : ℕ) (d : StoreDisk) (from : Node) where
  judged_form : (q : Request) (current : ℕ) → IsDone (store.judged g size table d from q current).answer
  judged_form q current = go (store.takes g q.base current && store.keeps_there size d.items q)
    where
      go : (b : Bool) → IsDone (if b
          then store.quiet d (Some (store.accepting size table d.items from q (store.item_for d.items q))) facts.Done
          else store.sending d (store.responded from q (store.unaccepted g q.base current) ∷ [])).answer
      go true = tt
      go false = tt

  decided_form : (q : Request) (yours : Pair) → IsDone (store.decided g size table d from q yours).answer
  decided_form q yours = go (yours.number == q.number) (nat_lt q.number yours.number)
    where
      go : (a b : Bool) → IsDone (if a then store.sending d (store.responded from q (messages.Again yours.version) ∷ [])
          else (if b then store.sending d (store.responded from q (messages.Late yours.number) ∷ [])
          else store.judged g size table d from q (store.version_of (current_of d.items q.row)))).answer
      go true b = tt
      go false true = tt
      go false false = judged_form q (store.version_of (current_of d.items q.row))

  asked_form : (q : Request) → IsDone (store.asked g size table d from q).answer
  asked_form q = go (is_spelled size q.content q.pieces)
    where
      go : (b : Bool) → IsDone (if b then store.decided g size table d from q (store.yours_in d.items q.client q.row) else store.quiet d (Some []) facts.Done).answer
      go true = decided_form q (store.yours_in d.items q.client q.row)
      go false = tt

pub taken_form : (g : Scheme) (size table : ℕ) (d : StoreDisk) (agenda : Option (List StoreTask)) (from : Node) (m : Message) → IsDone (store.taken g size table d agenda from m).answer
taken_form g size table d None from m = tt
taken_form g size table d (Some (task ∷ more)) from m = tt
taken_form g size table d (Some []) from (SyncRequest q) = asked_form g size table d from q
taken_form g size table d (Some []) from (PullRequest q) = tt
taken_form g size table d (Some []) from (SyncResponse q) = tt
taken_form g size table d (Some []) from (PullResponse q) = tt
taken_form g size table d (Some []) from (TornRowRequest q) = tt
taken_form g size table d (Some []) from (TornRowResponse q) = tt

pub placed_form : (table : ℕ) (d : StoreDisk) (agenda : Option (List StoreTask)) (put : SidePut) → IsDone (store.placed table d agenda put).answer
placed_form table d None put = tt
placed_form table d (Some (task ∷ more)) put = tt
placed_form table d (Some []) put = tt
