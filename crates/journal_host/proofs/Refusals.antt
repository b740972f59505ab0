-- Where a client refuses what it is asked for, it does nothing else.
use Rattle.std.proofs.Common.{◌≡◌, ℕ, Bool, true, false, List, [], ◌∷◌, Option, Some, None, Result, Ok, Err, refl, ap, ◌∙◌}
use Rattle.std.specs.Prelude.{◌≢◌, ◌==◌, ◌&&◌, ◌||◌, not, nat_le, option_map, if◌then◌else◌}
use Rattle.row_value.specs.declared.content.Content.{Content}
use Rattle.row_value.specs.declared.content.Content.TheVariants.{Gone, Row}
use Rattle.row_value.specs.declared.fit.FitFault.{FitFault}
use Rattle.row_value.specs.declared.schema.Scheme.{Scheme}
use Rattle.row_value.specs.declared.schema.Scheme.TheVariants.{Strong, Causal, Eventual}
use Rattle.row_value.specs.Fit.{fit_of}
use Rattle.row_edits.specs.declared.change.Edit.{Edit}
use Rattle.row_edits.specs.Edit.{edited_to}
use Rattle.conflicts.specs.declared.pair.Choice.{Choice}
use Rattle.conflicts.specs.declared.pair.Choice.TheVariants.{Mine, Theirs, New}
use Rattle.conflicts.specs.declared.stored.Stored.{Stored}
use Rattle.row_value.specs.declared.schema.Schema.{Schema}
use Rattle.step_tables.specs.Slots.{InFlight}
use Rattle.step_tables.specs.Slots.{Main}
use Rattle.step_tables.specs.Slots.{Shadow}
use Rattle.step_tables.specs.Facts.{Answer, Refusal, Shown, ShownSum}
use Rattle.step_tables.specs.Facts as facts
use Rattle.step_tables.specs.Messages.{Header, Message, Outcome, Pulled, Response, Send, SyncRequest, SyncResponse, PullRequest, PullResponse, TornPulled, TornRowRequest, TornRowResponse}
use Rattle.step_tables.specs.Messages as messages
use Rattle.step_tables.specs.Chunks.{is_named}
use Rattle.step_tables.specs.Sums.{by_digests, or_whole, sum_of}
use Rattle.step_tables.specs.ClientMoves.{Slots, TableDisk, ClientDisk, ClientTask, ClientStep, Shape, RowOut, quiet, table_at, seen, slots_at, shown_in, show_answer, show_in, first_out, row_out, first_to_send, resent, top}
use Rattle.step_tables.specs.ClientMoves.{ClientMove, is_before_write, is_before_phase, kept_out, phase_in, conflicts_in, choose, over_fitting, resolve_over, resolve_in, all_in, all_fitting, all_idle, can_resolve}
use Rattle.step_tables.specs.ClientMoves.{write_strong, write_by, write_free, write_idle, write_fitting, write_to, edit_made, edit_over, edit_in, sync_first, sync_in, next_in, outcome_taken, response_taken, response_in, row_taken, pulled_taken, pulled_in, torn_row_taken, torn_taken, torn_in, take_step}
use Rattle.step_tables.specs.ClientMoves.{TableChange, alter_in, alter_plan, may_alter}
use Rattle.step_tables.specs.ClientMoves as moves

-- a step that answers by a refusal does nothing, and the refusal isn't that a device failed
abbrev pub RefusesOnly : ClientDisk → List ClientTask → ClientStep → Type 0
RefusesOnly d tasks step = (r : Refusal) → step.answer ≡ facts.Refuses r → (step ≡ quiet d (Some tasks) (facts.Refuses r)) × (r ≢ facts.NoDevice)

-- it answers so, and no more
only_answers : (d : ClientDisk) (tasks : List ClientTask) (a : Answer) → a ≢ facts.Refuses facts.NoDevice → RefusesOnly d tasks (quiet d (Some tasks) a)
only_answers d tasks a other r is = (ap (λ (x : Answer). quiet d (Some tasks) x) is, λ bad. other (is ∙ ap (λ (x : Refusal). facts.Refuses x) bad))

only_done : (d : ClientDisk) (tasks : List ClientTask) (step : ClientStep) → step.answer ≡ facts.Done → RefusesOnly d tasks step
only_done d tasks step done r is = absurd cc

-- ---- a write

write_by_only : (g : Scheme) (c : ℕ) (shape : Shape) (d : ClientDisk) (table : ℕ) (row : List ℕ) (opened : TableDisk) (slots : Slots) (content : Content)
    → RefusesOnly d [] (write_by g c shape d table row opened slots content)
write_by_only Strong c shape d table row opened slots content = strong (first_out opened.rows)
  where
    strong : (o : Option InFlight) → RefusesOnly d [] (write_strong opened.schema.chunk c shape d table row slots content o)
    strong None = λ r is. absurd cc
    strong (Some out) = only_answers d [] (facts.Refuses (facts.Outstanding out.number)) (λ bad. absurd cc)
write_by_only Causal c shape d table row opened slots content = λ r is. absurd cc
write_by_only Eventual c shape d table row opened slots content = λ r is. absurd cc

write_free_only : (g : Scheme) (c : ℕ) (shape : Shape) (d : ClientDisk) (table : ℕ) (row : List ℕ) (opened : TableDisk) (slots : Slots) (content : Content) (o : Option Shadow)
    → RefusesOnly d [] (write_free g c shape d table row opened slots content o)
write_free_only g c shape d table row opened slots content None = write_by_only g c shape d table row opened slots content
write_free_only g c shape d table row opened slots content (Some x) = only_answers d [] (facts.Refuses (facts.Conflicted x.version)) (λ bad. absurd cc)

write_idle_only : (g : Scheme) (c : ℕ) (shape : Shape) (d : ClientDisk) (tasks : List ClientTask) (table : ℕ) (row : List ℕ) (opened : TableDisk) (content : Content)
    → RefusesOnly d tasks (write_idle g c shape d tasks table row opened content)
write_idle_only g c shape d (task ∷ more) table row opened content = only_answers d (task ∷ more) (facts.Refuses (facts.Busy shape.plan)) (λ bad. absurd cc)
write_idle_only g c shape d [] table row opened content = write_free_only g c shape d table row opened (slots_at opened row) content (slots_at opened row).conflict

pub write_only : (c : ℕ) (shape : Shape) (d : ClientDisk) (tasks : List ClientTask) (table : ℕ) (row : List ℕ) (content : Content) (o : Option TableDisk)
    → RefusesOnly d tasks (write_to c shape d tasks table row content o)
write_only c shape d tasks table row content None = only_answers d tasks (facts.Refuses facts.NoTable) (λ bad. absurd cc)
write_only c shape d tasks table row content (Some opened) = fitting (fit_of opened.schema content)
  where
    fitting : (fit : Result (Unit {0}) FitFault) → RefusesOnly d tasks (write_fitting opened.schema.scheme c shape d tasks table row opened content fit)
    fitting (Ok fits) = write_idle_only opened.schema.scheme c shape d tasks table row opened content
    fitting (Err fault) = only_answers d tasks (facts.Refuses (facts.Unfit fault)) (λ bad. absurd cc)

-- ---- an edit

edit_over_only : (c : ℕ) (shape : Shape) (d : ClientDisk) (tasks : List ClientTask) (table : ℕ) (row : List ℕ) (opened : TableDisk) (edit : Edit) (o : Option Content)
    → RefusesOnly d tasks (edit_over c shape d tasks table row opened edit o)
edit_over_only c shape d tasks table row opened edit None = only_answers d tasks (facts.Refuses facts.NoRow) (λ bad. absurd cc)
edit_over_only c shape d tasks table row opened edit (Some Gone) = only_answers d tasks (facts.Refuses facts.NoRow) (λ bad. absurd cc)
edit_over_only c shape d tasks table row opened edit (Some (Row some objects)) = made (edited_to opened.schema some objects edit)
  where
    made : (edited : Result Content FitFault) → RefusesOnly d tasks (edit_made c shape d tasks table row opened edited)
    made (Ok content) = write_only c shape d tasks table row content (Some opened)
    made (Err fault) = only_answers d tasks (facts.Refuses (facts.Unfit fault)) (λ bad. absurd cc)

pub edit_only : (c : ℕ) (shape : Shape) (d : ClientDisk) (tasks : List ClientTask) (table : ℕ) (row : List ℕ) (edit : Edit) (o : Option TableDisk)
    → RefusesOnly d tasks (edit_in c shape d tasks table row edit o)
edit_only c shape d tasks table row edit None = only_answers d tasks (facts.Refuses facts.NoTable) (λ bad. absurd cc)
edit_only c shape d tasks table row edit (Some opened) = edit_over_only c shape d tasks table row opened edit _

-- ---- what is shown

show_answers : (o : Option Shown) → show_answer o ≢ facts.Refuses facts.NoDevice
show_answers None = λ is. absurd cc
show_answers (Some what) = λ is. absurd cc

show_in_answers : (row : List ℕ) (o : Option TableDisk) → show_in row o ≢ facts.Refuses facts.NoDevice
show_in_answers row None = λ is. absurd cc
show_in_answers row (Some table) = let slots : Slots = slots_at table row in show_answers (shown_in slots.main slots.conflict slots.shadow)

whole_answers : (what : Shown) (o : Option ShownSum) → or_whole what o ≢ facts.Refuses facts.NoDevice
whole_answers what None = λ is. absurd cc
whole_answers what (Some sum) = λ is. absurd cc

digests_answer : (a : Answer) → a ≢ facts.Refuses facts.NoDevice → by_digests a ≢ facts.Refuses facts.NoDevice
digests_answer facts.Done other = λ is. absurd cc
digests_answer (facts.Number n) other = λ is. absurd cc
digests_answer (facts.Shows what) other = whole_answers what (sum_of what)
digests_answer (facts.Sums sum) other = λ is. absurd cc
digests_answer (facts.Stores version content) other = λ is. absurd cc
digests_answer (facts.Did step) other = λ is. absurd cc
digests_answer (facts.Names names) other = λ is. absurd cc
digests_answer (facts.Pairs pairs) other = λ is. absurd cc
digests_answer (facts.Refuses r) other = other

pub show_only : (d : ClientDisk) (tasks : List ClientTask) (row : List ℕ) (o : Option TableDisk) → RefusesOnly d tasks (quiet d (Some tasks) (show_in row o))
show_only d tasks row o = only_answers d tasks (show_in row o) (show_in_answers row o)

pub sum_only : (d : ClientDisk) (tasks : List ClientTask) (row : List ℕ) (o : Option TableDisk) → RefusesOnly d tasks (quiet d (Some tasks) (by_digests (show_in row o)))
sum_only d tasks row o = only_answers d tasks (by_digests (show_in row o)) (digests_answer (show_in row o) (show_in_answers row o))

-- ---- sync, and the next change

pub sync_only : (c : ℕ) (shape : Shape) (d : ClientDisk) (tasks : List ClientTask) (table : ℕ) (o : Option TableDisk) → RefusesOnly d tasks (sync_in c shape d tasks table o)
sync_only c shape d tasks table None = only_answers d tasks (facts.Refuses facts.NoTable) (λ bad. absurd cc)
sync_only c shape d (task ∷ more) table (Some opened) = only_answers d (task ∷ more) (facts.Refuses (facts.Busy shape.plan)) (λ bad. absurd cc)
sync_only c shape d [] table (Some opened) = first (resent c table opened.rows) (option_map (row_out opened.schema.chunk) (first_to_send opened.rows))
  where
    first : (again : List Send) (o : Option RowOut) → RefusesOnly d [] (sync_first c shape d table again o)
    first again None = λ r is. absurd cc
    first again (Some x) = λ r is. absurd cc

pub next_only : (c : ℕ) (shape : Shape) (d : ClientDisk) (tasks : List ClientTask) (table : ℕ) (tears asks : List (List ℕ)) (o : Option TableDisk) → RefusesOnly d tasks (next_in c shape d tasks table tears asks o)
next_only c shape d tasks table tears asks None = only_answers d tasks (facts.Refuses facts.NoTable) (λ bad. absurd cc)
next_only c shape d (task ∷ more) table tears asks (Some opened) = only_answers d (task ∷ more) (facts.Refuses (facts.Busy shape.plan)) (λ bad. absurd cc)
next_only c shape d [] table tears asks (Some opened) = λ r is. absurd cc

-- ---- phases, and what is resolved in one

pub phase_only : (d : ClientDisk) (tasks : List ClientTask) (o : Option TableDisk) → RefusesOnly d tasks (phase_in d tasks o)
phase_only d tasks None = only_answers d tasks (facts.Refuses facts.NoTable) (λ bad. absurd cc)
phase_only d tasks (Some opened) = λ r is. absurd cc

pub conflicts_only : (d : ClientDisk) (tasks : List ClientTask) (o : Option TableDisk) → RefusesOnly d tasks (conflicts_in d tasks o)
conflicts_only d tasks None = only_answers d tasks (facts.Refuses facts.NoTable) (λ bad. absurd cc)
conflicts_only d tasks (Some opened) = λ r is. absurd cc

pub all_only : (shape : Shape) (d : ClientDisk) (tasks : List ClientTask) (by : Stored) (o : Option TableDisk) → RefusesOnly d tasks (all_in shape d tasks by o)
all_only shape d tasks by None = only_answers d tasks (facts.Refuses facts.NoTable) (λ bad. absurd cc)
all_only shape d tasks by (Some opened) = fitting (can_resolve opened.schema by)
  where
    fitting : (fit : Result (Unit {0}) FitFault) → RefusesOnly d tasks (all_fitting shape d tasks opened fit)
    fitting (Ok fits) = idle tasks
      where
        idle : (ts : List ClientTask) → RefusesOnly d ts (all_idle shape d ts opened)
        idle [] = λ r is. absurd cc
        idle (task ∷ more) = only_answers d (task ∷ more) (facts.Refuses (facts.Busy shape.plan)) (λ bad. absurd cc)
    fitting (Err fault) = only_answers d tasks (facts.Refuses (facts.Unfit fault)) (λ bad. absurd cc)

choose_only : (c : ℕ) (shape : Shape) (d : ClientDisk) (table : ℕ) (row : List ℕ) (schema : Schema) (slots : Slots) (main : Main) (x : Shadow) (choice : Choice)
    → RefusesOnly d [] (choose c shape d table row schema slots main x choice)
choose_only c shape d table row schema slots main x Mine = λ r is. absurd cc
choose_only c shape d table row schema slots main x Theirs = λ r is. absurd cc
choose_only c shape d table row schema slots main x (New content) = fitting (fit_of schema content)
  where
    fitting : (fit : Result (Unit {0}) FitFault) → RefusesOnly d [] (over_fitting c shape d table row slots main x content fit)
    fitting (Ok fits) = λ r is. absurd cc
    fitting (Err fault) = only_answers d [] (facts.Refuses (facts.Unfit fault)) (λ bad. absurd cc)

resolve_over_only : (c : ℕ) (shape : Shape) (d : ClientDisk) (table : ℕ) (row : List ℕ) (schema : Schema) (slots : Slots) (version : ℕ) (choice : Choice) (m : Option Main) (k : Option Shadow)
    → RefusesOnly d [] (resolve_over c shape d table row schema slots version choice m k)
resolve_over_only c shape d table row schema slots version choice None k = only_answers d [] (facts.Refuses facts.NoConflict) (λ bad. absurd cc)
resolve_over_only c shape d table row schema slots version choice (Some main) None = only_answers d [] (facts.Refuses facts.NoConflict) (λ bad. absurd cc)
resolve_over_only c shape d table row schema slots version choice (Some main) (Some x) = either (x.version == version)
  where
    either : (b : Bool)
        → RefusesOnly d [] (if b then choose c shape d table row schema slots main x choice else quiet d (Some []) (facts.Refuses (facts.Moved version x.version)))
    either true = choose_only c shape d table row schema slots main x choice
    either false = only_answers d [] (facts.Refuses (facts.Moved version x.version)) (λ bad. absurd cc)

pub resolve_only : (c : ℕ) (shape : Shape) (d : ClientDisk) (tasks : List ClientTask) (table : ℕ) (row : List ℕ) (version : ℕ) (choice : Choice) (o : Option TableDisk)
    → RefusesOnly d tasks (resolve_in c shape d tasks table row version choice o)
resolve_only c shape d tasks table row version choice None = only_answers d tasks (facts.Refuses facts.NoTable) (λ bad. absurd cc)
resolve_only c shape d (task ∷ more) table row version choice (Some opened) = only_answers d (task ∷ more) (facts.Refuses (facts.Busy shape.plan)) (λ bad. absurd cc)
resolve_only c shape d [] table row version choice (Some opened) =
    resolve_over_only c shape d table row opened.schema (slots_at opened row) version choice (slots_at opened row).main (slots_at opened row).conflict

-- ---- a table that is opened or closed

pub alter_only : (c : ℕ) (shape : Shape) (d : ClientDisk) (tasks : List ClientTask) (table : ℕ) (change : TableChange) → RefusesOnly d tasks (alter_in c shape d tasks table change)
alter_only c shape d (task ∷ more) table change = only_answers d (task ∷ more) (facts.Refuses (facts.Busy shape.plan)) (λ bad. absurd cc)
alter_only c shape d [] table change = either (may_alter change (table_at (seen d) table))
  where
    either : (b : Bool) → RefusesOnly d [] (if b then moves.begun shape d facts.Done (alter_plan c d table change) [] else moves.ignored d)
    either true = λ r is. absurd cc
    either false = λ r is. absurd cc

-- ---- what the phases keep a client from

in_phase : (b : Bool) (x r : Refusal) → x ≢ facts.NoDevice → (if b then Some x else None) ≡ Some r → r ≢ facts.NoDevice
in_phase true x r other is = λ bad. other (let same : x ≡ r = cc in same ∙ bad)
in_phase false x r other is = absurd cc

kept_other : (phase : ℕ → Bool) (move : ClientMove) (answer : Answer) (r : Refusal) → kept_out phase move answer ≡ Some r → r ≢ facts.NoDevice
kept_other phase (moves.Write table row content) answer r is = in_phase (phase table && not (is_before_write answer)) facts.InResolution r (λ bad. absurd cc) is
kept_other phase (moves.Change table row edit) answer r is = in_phase (phase table && not (is_before_write answer)) facts.InResolution r (λ bad. absurd cc) is
kept_other phase (moves.BeginCr table) answer r is = in_phase (phase table && not (is_before_phase (moves.BeginCr table) answer)) facts.InResolution r (λ bad. absurd cc) is
kept_other phase (moves.Conflicts table) answer r is = in_phase (not (phase table || is_before_phase (moves.Conflicts table) answer)) facts.NotInResolution r (λ bad. absurd cc) is
kept_other phase (moves.EndCr table) answer r is = in_phase (not (phase table || is_before_phase (moves.EndCr table) answer)) facts.NotInResolution r (λ bad. absurd cc) is
kept_other phase (moves.Resolve table row version choice) answer r is =
    in_phase (not (phase table || is_before_phase (moves.Resolve table row version choice) answer)) facts.NotInResolution r (λ bad. absurd cc) is
kept_other phase (moves.ResolveAll table by) answer r is = in_phase (not (phase table || is_before_phase (moves.ResolveAll table by) answer)) facts.NotInResolution r (λ bad. absurd cc) is
kept_other phase other answer r is = absurd cc

pub kept_only : (phase : ℕ → Bool) (move : ClientMove) (answer : Answer) (d : ClientDisk) (tasks : List ClientTask) (r : Refusal) → kept_out phase move answer ≡ Some r
    → RefusesOnly d tasks (quiet d (Some tasks) (facts.Refuses r))
kept_only phase move answer d tasks r is = only_answers d tasks (facts.Refuses r) (λ bad. kept_other phase move answer r is (let same : r ≡ facts.NoDevice = cc in same))

-- ---- a message

response_done : (c : ℕ) (shape : Shape) (d : ClientDisk) (response : Response) (o : Option TableDisk) → (response_in c shape d response o).answer ≡ facts.Done
response_done c shape d response None = refl
response_done c shape d response (Some opened) = waits (slots_at opened response.row).out
  where
    again : (out : InFlight) (b : Bool)
        → (if b then moves.ignored d
        else moves.begun shape d facts.Done (moves.whole_plan d response.table response.row (slots_at opened response.row) out) (moves.request_for c response.table response.row (moves.whole_out out) ∷ [])).answer ≡ facts.Done
    again out true = refl
    again out false = refl

    outcome : (out : InFlight) (x : Outcome) → (outcome_taken c shape d response.table response.row opened (slots_at opened response.row) out x).answer ≡ facts.Done
    outcome out (messages.Accepted version) = refl
    outcome out (messages.Again version) = refl
    outcome out (messages.Late last) = refl
    outcome out (messages.Stale latest) = refl
    outcome out (messages.Conflict latest) = refl
    outcome out messages.NeedWhole = again out out.whole

    either : (out : InFlight) (b : Bool)
        → (if b then outcome_taken c shape d response.table response.row opened (slots_at opened response.row) out response.outcome else moves.ignored d).answer ≡ facts.Done
    either out true = outcome out response.outcome
    either out false = refl

    waits : (o : Option InFlight) → (response_taken c shape d response opened o).answer ≡ facts.Done
    waits None = refl
    waits (Some out) = either out (out.number == response.number)

pulled_done : (c : ℕ) (shape : Shape) (d : ClientDisk) (pulled : Pulled) (o : Option TableDisk) → (pulled_in c shape d pulled o).answer ≡ facts.Done
pulled_done c shape d pulled None = refl
pulled_done c shape d pulled (Some opened) = brings pulled.header
  where
    row : (header : Header) → (row_taken c shape d pulled opened header (slots_at opened header.row)).answer ≡ facts.Done
    row header = go (nat_le header.version (top (slots_at opened header.row).conflict (slots_at opened header.row).shadow))
      where
        go : (b : Bool) → (if b then moves.begun shape d facts.Done (moves.position_plan c d pulled.table pulled.to) (moves.next_pull c pulled.table pulled)
            else moves.begun shape d facts.Done (moves.row_plan c d pulled.table header.row pulled.to
            (moves.row_placed opened.schema.scheme c pulled.table header (slots_at opened header.row) (slots_at opened header.row).out)) (moves.next_pull c pulled.table pulled)).answer ≡ facts.Done
        go true = refl
        go false = refl

    brings : (o : Option Header) → (pulled_taken c shape d pulled opened o).answer ≡ facts.Done
    brings None = refl
    brings (Some header) = either (moves.comes_next pulled opened header)
      where
        either : (b : Bool) → (if b then row_taken c shape d pulled opened header (slots_at opened header.row) else moves.ignored d).answer ≡ facts.Done
        either true = row header
        either false = refl

torn_done : (c : ℕ) (shape : Shape) (d : ClientDisk) (answer : TornPulled) (o : Option TableDisk) → (torn_in c shape d answer o).answer ≡ facts.Done
torn_done c shape d answer None = refl
torn_done c shape d answer (Some opened) = brings answer.header
  where
    row : (header : Header) → (torn_row_taken c shape d answer.table opened header (slots_at opened header.row)).answer ≡ facts.Done
    row header = go (nat_le header.version (top (slots_at opened header.row).conflict (slots_at opened header.row).shadow))
      where
        go : (b : Bool) → (if b then record (moves.ignored d) { sends = moves.pull_from c answer.table opened.position ∷ [] }
            else moves.begun shape d facts.Done (moves.torn_plan d answer.table header.row
            (moves.row_placed opened.schema.scheme c answer.table header (slots_at opened header.row) (slots_at opened header.row).out)) (moves.pull_from c answer.table opened.position ∷ [])).answer ≡ facts.Done
        go true = refl
        go false = refl

    brings : (o : Option Header) → (torn_taken c shape d answer.table opened o).answer ≡ facts.Done
    brings None = refl
    brings (Some header) = either (is_named opened.schema.chunk header.content header.names)
      where
        either : (b : Bool) → (if b then torn_row_taken c shape d answer.table opened header (slots_at opened header.row) else moves.ignored d).answer ≡ facts.Done
        either true = row header
        either false = refl

pub take_only : (c : ℕ) (shape : Shape) (d : ClientDisk) (tasks : List ClientTask) (message : Message) → RefusesOnly d tasks (take_step c shape d (Some tasks) message)
take_only c shape d (task ∷ more) message = only_answers d (task ∷ more) (facts.Refuses (facts.Busy shape.plan)) (λ bad. absurd cc)
take_only c shape d [] (SyncRequest request) = only_done d [] (moves.ignored d) refl
take_only c shape d [] (PullRequest pull) = only_done d [] (moves.ignored d) refl
take_only c shape d [] (SyncResponse response) =
    only_done d [] (response_in c shape d response (table_at (seen d) response.table)) (response_done c shape d response (table_at (seen d) response.table))
take_only c shape d [] (PullResponse pulled) =
    only_done d [] (pulled_in c shape d pulled (table_at (seen d) pulled.table)) (pulled_done c shape d pulled (table_at (seen d) pulled.table))
take_only c shape d [] (TornRowRequest torn) = only_done d [] (moves.ignored d) refl
take_only c shape d [] (TornRowResponse answer) =
    only_done d [] (torn_in c shape d answer (table_at (seen d) answer.table)) (torn_done c shape d answer (table_at (seen d) answer.table))
