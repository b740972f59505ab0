-- What a client begins in a call: a plan that resolves where it was asked to, or one that resolves nothing.
use Rattle.std.proofs.Common.{◌≡◌, ℕ, Bool, true, false, List, [], ◌∷◌, ◌++◌, Option, Some, None, Result, Ok, Err, refl}
use Rattle.std.specs.Prelude.{◌==◌, nat_le, map, option_map, if◌then◌else◌}
use Rattle.row_value.specs.declared.content.Content.{Content}
use Rattle.row_value.specs.declared.content.Content.TheVariants.{Gone, Row}
use Rattle.row_value.specs.declared.schema.Schema.{Schema}
use Rattle.row_value.specs.declared.schema.Scheme.{Scheme}
use Rattle.row_value.specs.declared.schema.Scheme.TheVariants.{Strong, Causal, Eventual}
use Rattle.row_value.specs.declared.fit.FitFault.{FitFault}
use Rattle.row_value.specs.Fit.{fit_of}
use Rattle.row_edits.specs.declared.change.Edit.{Edit}
use Rattle.row_edits.specs.Edit.{edited_to}
use Rattle.conflicts.specs.declared.pair.Choice.{Choice}
use Rattle.conflicts.specs.declared.pair.Choice.TheVariants as choices
use Rattle.conflicts.specs.declared.stored.Stored as resolvers
use Rattle.step_tables.specs.Slots.{Main}
use Rattle.step_tables.specs.Slots.{InFlight}
use Rattle.step_tables.specs.Slots.{Shadow}
use Rattle.step_tables.specs.Facts.{ClientFact, Fact, Answer}
use Rattle.step_tables.specs.Facts.{Shown, ShownSum}
use Rattle.step_tables.specs.Facts as facts
use Rattle.step_tables.specs.Sums.{by_digests, or_whole, sum_of}
use Rattle.step_tables.specs.Messages.{Response, Pulled, Header, Outcome, Message, Send, Luck, SyncRequest, SyncResponse, PullRequest, PullResponse, TornPulled, TornRowRequest, TornRowResponse}
use Rattle.step_tables.specs.Messages as messages
use Rattle.step_tables.specs.Chunks.{is_named}
use Rattle.step_tables.specs.ClientMoves as client
use Rattle.step_tables.specs.ClientMoves.{Slots, TableDisk, TableChange, RowPut, Plan, Placed, ClientDisk, ClientChange, ClientTask, Client, ClientMove, ClientStep, Shape, RowOut, slots_at, table_at, seen, client_step}
use Rattle.world_tables.specs.World.{is_client_down, is_fault, tasks_in}
use Rattle.asked_laws.specs.Asked.{Asked, lets_resolve}
use Rattle.asked_laws.proofs.Fine.{IsCalm, AreCalm, AreResolving, ArePlainFacts}

abbrev pub has_none : Option (List ClientTask) → Bool
has_none None = true
has_none (Some tasks) = false

-- a call tells no fact of a write, keeps the disk, leaves the client down exactly where it was, has no device fault, and begins one
-- plan at most
abbrev pub Begins : (List ClientTask → Type 0) → ClientDisk → Bool → ClientStep → Type 0
Begins Q d was_down s =
    ArePlainFacts s.facts × (s.client.disk ≡ d) × (is_client_down (Some s.client) ≡ was_down) × (is_fault s.answer ≡ false) × Q (tasks_in s.client.agenda)

begins : (Q : List ClientTask → Type 0) (shape : Shape) (d : ClientDisk) (p : Plan) (sends : List Send) → Q (client.planning shape p sends) → Begins Q d false (client.begun shape d facts.Done p sends)
begins Q shape d p sends fine = (tt, refl, refl, refl, fine)

-- ---- a row from the Store resolves nothing

calm_join : (c : ℕ) (xs ys : List ClientFact) → AreCalm c xs → AreCalm c ys → AreCalm c (xs ++ ys)
calm_join c [] ys p q = q
calm_join c (x ∷ xs) ys p q = (p.0, calm_join c xs ys p.1 q)

module _ (g : Scheme) (c table : ℕ) (header : Header) where
  placed_calm : (slots : Slots) (before : List ClientFact) → AreCalm c before → (main : Option Main) (x : Option Shadow) → AreCalm c (client.placed g c table header slots before main x).facts
  placed_calm slots before calm None x = calm_join c before _ calm (tt, tt)
  placed_calm slots before calm (Some main) (Some x) = go (client.is_weak g)
    where
      go : (b : Bool) → AreCalm c ((λ (p : Placed). p.facts) (if b then client.read_new c table header slots before else client.read_conflict c table header slots before main))
      go true = calm_join c before _ calm (tt, tt)
      go false = calm_join c before _ calm (refl, tt)
  placed_calm slots before calm (Some main) None = go (client.reads_over g header.yours.version header.version)
    where
      go : (b : Bool) → AreCalm c ((λ (p : Placed). p.facts) (if b then client.read_new c table header slots before else client.read_conflict c table header slots before main))
      go true = calm_join c before _ calm (tt, tt)
      go false = calm_join c before _ calm (refl, tt)

  row_placed_calm : (slots : Slots) (out : Option InFlight) → AreCalm c (client.row_placed g c table header slots out).facts
  row_placed_calm slots None = placed_calm slots [] tt slots.main slots.conflict
  row_placed_calm slots (Some out) = go (nat_le out.number header.yours.number)
    where
      go : (b : Bool) → AreCalm c ((λ (p : Placed). p.facts) (if b
          then client.placed g c table header (client.freed slots out.number) (facts.Acked c out.number table header.row header.yours.version ∷ []) (client.without out.number slots.main) slots.conflict
          else client.placed g c table header slots [] slots.main slots.conflict))
      go true = placed_calm (client.freed slots out.number) (facts.Acked c out.number table header.row header.yours.version ∷ []) (tt, tt) (client.without out.number slots.main) slots.conflict
      go false = placed_calm slots [] tt slots.main slots.conflict

-- ---- what is shown is no device fault

show_no_fault : (row : List ℕ) (o : Option TableDisk) → is_fault (client.show_in row o) ≡ false
show_no_fault row None = refl
show_no_fault row (Some opened) = go (client.shown_in (slots_at opened row).main (slots_at opened row).conflict (slots_at opened row).shadow)
  where
    go : (o : Option Shown) → is_fault (client.show_answer o) ≡ false
    go None = refl
    go (Some what) = refl

sum_no_fault : (row : List ℕ) (o : Option TableDisk) → is_fault (by_digests (client.show_in row o)) ≡ false
sum_no_fault row None = refl
sum_no_fault row (Some opened) = go (client.shown_in (slots_at opened row).main (slots_at opened row).conflict (slots_at opened row).shadow)
  where
    whole : (what : Shown) (o : Option ShownSum) → is_fault (or_whole what o) ≡ false
    whole what None = refl
    whole what (Some sum) = refl

    go : (o : Option Shown) → is_fault (by_digests (client.show_answer o)) ≡ false
    go None = refl
    go (Some what) = whole what (sum_of what)

-- ---- calls and messages that resolve nothing

module _ (c : ℕ) (shape : Shape) (Q : List ClientTask → Type 0) (none : Q []) (calm : (p : Plan) (sends : List Send) → AreCalm c p.facts → Q (client.planning shape p sends)) (d : ClientDisk) where
  strong_fine : (size table : ℕ) (row : List ℕ) (slots : Slots) (x : Content) (o : Option InFlight) → Begins Q d false (client.write_strong size c shape d table row slots x o)
  strong_fine size table row slots x (Some out) = (tt, refl, refl, refl, none)
  strong_fine size table row slots x None = begins Q shape d _ _ (calm _ _ (tt, tt))

  by_fine : (g : Scheme) (table : ℕ) (row : List ℕ) (opened : TableDisk) (slots : Slots) (x : Content) → Begins Q d false (client.write_by g c shape d table row opened slots x)
  by_fine Strong table row opened slots x = strong_fine opened.schema.chunk table row slots x (client.first_out opened.rows)
  by_fine Causal table row opened slots x = begins Q shape d _ _ (calm _ _ (tt, tt))
  by_fine Eventual table row opened slots x = begins Q shape d _ _ (calm _ _ (tt, tt))

  free_fine : (g : Scheme) (table : ℕ) (row : List ℕ) (opened : TableDisk) (slots : Slots) (x : Content) (y : Option Shadow)
      → Begins Q d false (client.write_free g c shape d table row opened slots x y)
  free_fine g table row opened slots x None = by_fine g table row opened slots x
  free_fine g table row opened slots x (Some y) = (tt, refl, refl, refl, none)

  outcome_fine : (table : ℕ) (row : List ℕ) (opened : TableDisk) (slots : Slots) (out : InFlight) (outcome : Outcome)
      → Begins Q d false (client.outcome_taken c shape d table row opened slots out outcome)
  outcome_fine table row opened slots out (messages.Accepted version) = begins Q shape d _ _ (calm _ _ (tt, tt))
  outcome_fine table row opened slots out (messages.Again version) = begins Q shape d _ _ (calm _ _ (tt, tt))
  outcome_fine table row opened slots out (messages.Late last) = (tt, refl, refl, refl, none)
  outcome_fine table row opened slots out (messages.Stale latest) = begins Q shape d _ _ (calm _ _ (tt, tt))
  outcome_fine table row opened slots out (messages.Conflict latest) = (tt, refl, refl, refl, none)
  outcome_fine table row opened slots out messages.NeedWhole = by_whole out.whole
    where
      by_whole : (b : Bool) → Begins Q d false (if b then client.ignored d
          else client.begun shape d facts.Done (client.whole_plan d table row slots out) (client.request_for c table row (client.whole_out out) ∷ []))
      by_whole true = (tt, refl, refl, refl, none)
      by_whole false =
          let sends : List Send = client.request_for c table row (client.whole_out out) ∷ [] in
          begins Q shape d (client.whole_plan d table row slots out) sends (calm (client.whole_plan d table row slots out) sends tt)

  response_fine : (r : Response) (o : Option TableDisk) → Begins Q d false (client.response_in c shape d r o)
  response_fine r None = (tt, refl, refl, refl, none)
  response_fine r (Some opened) = taken (slots_at opened r.row).out
    where
      taken : (o : Option InFlight) → Begins Q d false (client.response_taken c shape d r opened o)
      taken None = (tt, refl, refl, refl, none)
      taken (Some out) = go (out.number == r.number)
        where
          go : (b : Bool) → Begins Q d false (if b then client.outcome_taken c shape d r.table r.row opened (slots_at opened r.row) out r.outcome else client.ignored d)
          go true = outcome_fine r.table r.row opened (slots_at opened r.row) out r.outcome
          go false = (tt, refl, refl, refl, none)

  row_fine : (q : Pulled) (opened : TableDisk) (header : Header) (slots : Slots) → Begins Q d false (client.row_taken c shape d q opened header slots)
  row_fine q opened header slots = go (nat_le header.version (client.top slots.conflict slots.shadow))
    where
      go : (b : Bool) → Begins Q d false (if b then client.begun shape d facts.Done (client.position_plan c d q.table q.to) (client.next_pull c q.table q)
          else client.begun shape d facts.Done (client.row_plan c d q.table header.row q.to (client.row_placed opened.schema.scheme c q.table header slots slots.out))
          (client.next_pull c q.table q))
      go true = begins Q shape d (client.position_plan c d q.table q.to) (client.next_pull c q.table q) (calm (client.position_plan c d q.table q.to) (client.next_pull c q.table q) (tt, tt))
      go false =
          let x : Placed = client.row_placed opened.schema.scheme c q.table header slots slots.out in
          let p : Plan = client.row_plan c d q.table header.row q.to x in
          begins Q shape d p (client.next_pull c q.table q)
          (calm p (client.next_pull c q.table q) (calm_join c x.facts (facts.Position c q.table q.to ∷ []) (row_placed_calm opened.schema.scheme c q.table header slots slots.out) (tt, tt)))

  pulled_fine : (q : Pulled) (o : Option TableDisk) → Begins Q d false (client.pulled_in c shape d q o)
  pulled_fine q None = (tt, refl, refl, refl, none)
  pulled_fine q (Some opened) = taken q.header
    where
      taken : (o : Option Header) → Begins Q d false (client.pulled_taken c shape d q opened o)
      taken None = (tt, refl, refl, refl, none)
      taken (Some header) = go (client.comes_next q opened header)
        where
          go : (b : Bool) → Begins Q d false (if b then client.row_taken c shape d q opened header (slots_at opened header.row) else client.ignored d)
          go true = row_fine q opened header (slots_at opened header.row)
          go false = (tt, refl, refl, refl, none)

  torn_row_fine : (table : ℕ) (opened : TableDisk) (header : Header) (slots : Slots) → Begins Q d false (client.torn_row_taken c shape d table opened header slots)
  torn_row_fine table opened header slots = go (nat_le header.version (client.top slots.conflict slots.shadow))
    where
      go : (b : Bool) → Begins Q d false (if b then record (client.ignored d) { sends = client.pull_from c table opened.position ∷ [] }
          else client.begun shape d facts.Done (client.torn_plan d table header.row (client.row_placed opened.schema.scheme c table header slots slots.out))
          (client.pull_from c table opened.position ∷ []))
      go true = (tt, refl, refl, refl, none)
      go false =
          let p : Plan = client.torn_plan d table header.row (client.row_placed opened.schema.scheme c table header slots slots.out) in
          begins Q shape d p (client.pull_from c table opened.position ∷ [])
          (calm p (client.pull_from c table opened.position ∷ []) (row_placed_calm opened.schema.scheme c table header slots slots.out))

  torn_fine : (q : TornPulled) (o : Option TableDisk) → Begins Q d false (client.torn_in c shape d q o)
  torn_fine q None = (tt, refl, refl, refl, none)
  torn_fine q (Some opened) = taken q.header
    where
      taken : (o : Option Header) → Begins Q d false (client.torn_taken c shape d q.table opened o)
      taken None = (tt, refl, refl, refl, none)
      taken (Some header) = go (is_named opened.schema.chunk header.content header.names)
        where
          go : (b : Bool) → Begins Q d false (if b then client.torn_row_taken c shape d q.table opened header (slots_at opened header.row) else client.ignored d)
          go true = torn_row_fine q.table opened header (slots_at opened header.row)
          go false = (tt, refl, refl, refl, none)

  first_fine : (table : ℕ) (again : List Send) (o : Option RowOut) → Begins Q d false (client.sync_first c shape d table again o)
  first_fine table again None = (tt, refl, refl, refl, none)
  first_fine table again (Some x) = begins Q shape d _ _ (calm (client.send_plan d table x) _ tt)

  idle_fine : (g : Scheme) (agenda : List ClientTask) → Q agenda → (table : ℕ) (row : List ℕ) (opened : TableDisk) (x : Content)
      → Begins Q d false (client.write_idle g c shape d agenda table row opened x)
  idle_fine g (task ∷ more) tasks table row opened x = (tt, refl, refl, refl, tasks)
  idle_fine g [] tasks table row opened x = free_fine g table row opened (slots_at opened row) x (slots_at opened row).conflict

  to_fine : (agenda : List ClientTask) → Q agenda → (table : ℕ) (row : List ℕ) (x : Content) (o : Option TableDisk)
      → Begins Q d false (client.write_to c shape d agenda table row x o)
  to_fine agenda tasks table row x None = (tt, refl, refl, refl, tasks)
  to_fine agenda tasks table row x (Some opened) = fitting opened.schema.scheme opened (fit_of opened.schema x)
    where
      fitting : (g : Scheme) (opened : TableDisk) (fit : Result (Unit {0}) FitFault) → Begins Q d false (client.write_fitting g c shape d agenda table row opened x fit)
      fitting g opened (Ok fits) = idle_fine g agenda tasks table row opened x
      fitting g opened (Err fault) = (tt, refl, refl, refl, tasks)

  pub write_fine : (agenda : Option (List ClientTask)) → Q (tasks_in agenda) → (table : ℕ) (row : List ℕ) (x : Content) → Begins Q d (has_none agenda) (client.write_step c shape d agenda table row x)
  write_fine None tasks table row x = (tt, refl, refl, refl, none)
  write_fine (Some agenda) tasks table row x = to_fine agenda tasks table row x (table_at (seen d) table)

  pub edit_fine : (agenda : Option (List ClientTask)) → Q (tasks_in agenda) → (table : ℕ) (row : List ℕ) (edit : Edit) → Begins Q d (has_none agenda) (client.edit_step c shape d agenda table row edit)
  edit_fine None tasks table row edit = (tt, refl, refl, refl, none)
  edit_fine (Some agenda) tasks table row edit = there (table_at (seen d) table)
    where
      made : (opened : TableDisk) (result : Result Content FitFault) → Begins Q d false (client.edit_made c shape d agenda table row opened result)
      made opened (Ok x) = to_fine agenda tasks table row x (Some opened)
      made opened (Err fault) = (tt, refl, refl, refl, tasks)

      over : (opened : TableDisk) (shown : Option Content) → Begins Q d false (client.edit_over c shape d agenda table row opened edit shown)
      over opened None = (tt, refl, refl, refl, tasks)
      over opened (Some Gone) = (tt, refl, refl, refl, tasks)
      over opened (Some (Row some objects)) = made opened (edited_to opened.schema some objects edit)

      there : (o : Option TableDisk) → Begins Q d false (client.edit_in c shape d agenda table row edit o)
      there None = (tt, refl, refl, refl, tasks)
      there (Some opened) =
          let slots : Slots = slots_at opened row in over opened (option_map client.content_of (client.shown_in slots.main slots.conflict slots.shadow))

  pub show_fine : (agenda : Option (List ClientTask)) → Q (tasks_in agenda) → (table : ℕ) (row : List ℕ) → Begins Q d (has_none agenda) (client.show_step d agenda table row)
  show_fine None tasks table row = (tt, refl, refl, refl, none)
  show_fine (Some agenda) tasks table row = (tt, refl, refl, show_no_fault row (table_at (seen d) table), tasks)

  pub sum_fine : (agenda : Option (List ClientTask)) → Q (tasks_in agenda) → (table : ℕ) (row : List ℕ) → Begins Q d (has_none agenda) (client.sum_step d agenda table row)
  sum_fine None tasks table row = (tt, refl, refl, refl, none)
  sum_fine (Some agenda) tasks table row = (tt, refl, refl, sum_no_fault row (table_at (seen d) table), tasks)

  sync_in_fine : (agenda : List ClientTask) → Q agenda → (table : ℕ) (o : Option TableDisk) → Begins Q d false (client.sync_in c shape d agenda table o)
  sync_in_fine agenda tasks table None = (tt, refl, refl, refl, tasks)
  sync_in_fine (task ∷ more) tasks table (Some opened) = (tt, refl, refl, refl, tasks)
  sync_in_fine [] tasks table (Some opened) = first_fine table (client.resent c table opened.rows) (option_map (client.row_out opened.schema.chunk) (client.first_to_send opened.rows))

  pub sync_fine : (agenda : Option (List ClientTask)) → Q (tasks_in agenda) → (table : ℕ) → Begins Q d (has_none agenda) (client.sync_step c shape d agenda table)
  sync_fine None tasks table = (tt, refl, refl, refl, none)
  sync_fine (Some agenda) tasks table = sync_in_fine agenda tasks table (table_at (seen d) table)

  tears_plain : (table : ℕ) (tears : List (List ℕ)) → ArePlainFacts (map (facts.Torn c table) tears)
  tears_plain table [] = tt
  tears_plain table (row ∷ tears) = (tt, tears_plain table tears)

  next_in_fine : (agenda : List ClientTask) → Q agenda → (table : ℕ) (tears asks : List (List ℕ)) (o : Option TableDisk) → Begins Q d false (client.next_in c shape d agenda table tears asks o)
  next_in_fine agenda tasks table tears asks None = (tt, refl, refl, refl, tasks)
  next_in_fine (task ∷ more) tasks table tears asks (Some opened) = (tt, refl, refl, refl, tasks)
  next_in_fine [] tasks table tears asks (Some opened) = (tears_plain table tears, refl, refl, refl, none)

  pub next_fine : (agenda : Option (List ClientTask)) → Q (tasks_in agenda) → (table : ℕ) (tears asks : List (List ℕ))
      → Begins Q d (has_none agenda) (client.next_step c shape d agenda table tears asks)
  next_fine None tasks table tears asks = (tt, refl, refl, refl, none)
  next_fine (Some agenda) tasks table tears asks = next_in_fine agenda tasks table tears asks (table_at (seen d) table)

  altered_calm : (table : ℕ) (change : TableChange) → IsCalm c (client.told_of c table change)
  altered_calm table (client.Opens schema) = tt
  altered_calm table client.Closes = tt

  alter_in_fine : (agenda : List ClientTask) → Q agenda → (table : ℕ) (change : TableChange) → Begins Q d false (client.alter_in c shape d agenda table change)
  alter_in_fine (task ∷ more) tasks table change = (tt, refl, refl, refl, tasks)
  alter_in_fine [] tasks table change = go (client.may_alter change (table_at (seen d) table))
    where
      go : (b : Bool) → Begins Q d false (if b then client.begun shape d facts.Done (client.alter_plan c d table change) [] else client.ignored d)
      go true = begins Q shape d (client.alter_plan c d table change) [] (calm (client.alter_plan c d table change) [] (altered_calm table change, tt))
      go false = (tt, refl, refl, refl, none)

  pub alter_fine : (agenda : Option (List ClientTask)) → Q (tasks_in agenda) → (table : ℕ) (change : TableChange)
      → Begins Q d (has_none agenda) (client.alter_step c shape d agenda table change)
  alter_fine None tasks table change = (tt, refl, refl, refl, none)
  alter_fine (Some agenda) tasks table change = alter_in_fine agenda tasks table change

  pub take_fine : (agenda : Option (List ClientTask)) → Q (tasks_in agenda) → (m : Message) → Begins Q d (has_none agenda) (client.take_step c shape d agenda m)
  take_fine None tasks m = (tt, refl, refl, refl, none)
  take_fine (Some (task ∷ more)) tasks m = (tt, refl, refl, refl, tasks)
  take_fine (Some []) tasks (SyncRequest q) = (tt, refl, refl, refl, none)
  take_fine (Some []) tasks (PullRequest q) = (tt, refl, refl, refl, none)
  take_fine (Some []) tasks (SyncResponse r) = response_fine r (table_at (seen d) r.table)
  take_fine (Some []) tasks (PullResponse q) = pulled_fine q (table_at (seen d) q.table)
  take_fine (Some []) tasks (TornRowRequest q) = (tt, refl, refl, refl, none)
  take_fine (Some []) tasks (TornRowResponse q) = torn_fine q (table_at (seen d) q.table)

-- a conflict that is resolved: it was asked for
module _ (a : Asked) (c : ℕ) (shape : Shape) (Q : List ClientTask → Type 0) (none : Q []) (resolves : (p : Plan) → AreResolving a c p.facts → Q (client.planning shape p [])) (d : ClientDisk) (table : ℕ) (row : List ℕ) where
  -- a step whose answer lets it resolve was asked for
  abbrev IsAskedStep : ClientStep → Type 0
  IsAskedStep s = lets_resolve s.answer ≡ true → a c table row ≡ true

  over_fine : (slots : Slots) (main : Main) (x : Shadow) (content : Content) (fit : Result (Unit {0}) FitFault)
      → IsAskedStep (client.over_fitting c shape d table row slots main x content fit) → Begins Q d false (client.over_fitting c shape d table row slots main x content fit)
  over_fine slots main x content (Ok fits) is = begins Q shape d _ [] (resolves (client.over_plan c d table row slots main x content) ((refl, is refl), (tt, tt)))
  over_fine slots main x content (Err fault) is = (tt, refl, refl, refl, none)

  choose_fine : (schema : Schema) (slots : Slots) (main : Main) (x : Shadow) (choice : Choice)
      → IsAskedStep (client.choose c shape d table row schema slots main x choice) → Begins Q d false (client.choose c shape d table row schema slots main x choice)
  choose_fine schema slots main x choices.Mine is = begins Q shape d _ [] (resolves (client.over_plan c d table row slots main x main.content) ((refl, is refl), (tt, tt)))
  choose_fine schema slots main x choices.Theirs is = begins Q shape d _ [] (resolves (client.theirs_plan c d table row slots main x) ((refl, is refl), tt))
  choose_fine schema slots main x (choices.New content) is = over_fine slots main x content (fit_of schema content) is

  resolve_over_fine : (schema : Schema) (slots : Slots) (version : ℕ) (choice : Choice) (m : Option Main) (x : Option Shadow)
      → IsAskedStep (client.resolve_over c shape d table row schema slots version choice m x) → Begins Q d false (client.resolve_over c shape d table row schema slots version choice m x)
  resolve_over_fine schema slots version choice None x is = (tt, refl, refl, refl, none)
  resolve_over_fine schema slots version choice (Some main) None is = (tt, refl, refl, refl, none)
  resolve_over_fine schema slots version choice (Some main) (Some x) is = go (x.version == version) is
    where
      go : (b : Bool) → IsAskedStep (if b then client.choose c shape d table row schema slots main x choice else client.refused d (facts.Moved version x.version))
          → Begins Q d false (if b then client.choose c shape d table row schema slots main x choice else client.refused d (facts.Moved version x.version))
      go true is = choose_fine schema slots main x choice is
      go false is = (tt, refl, refl, refl, none)

  resolve_in_fine : (agenda : List ClientTask) → Q agenda → (version : ℕ) (choice : Choice) (o : Option TableDisk)
      → IsAskedStep (client.resolve_in c shape d agenda table row version choice o) → Begins Q d false (client.resolve_in c shape d agenda table row version choice o)
  resolve_in_fine agenda tasks version choice None is = (tt, refl, refl, refl, tasks)
  resolve_in_fine (task ∷ more) tasks version choice (Some opened) is = (tt, refl, refl, refl, tasks)
  resolve_in_fine [] tasks version choice (Some opened) is =
      let slots : Slots = slots_at opened row in resolve_over_fine opened.schema slots version choice slots.main slots.conflict is

  pub resolve_fine : (agenda : Option (List ClientTask)) → Q (tasks_in agenda) → (version : ℕ) (choice : Choice)
      → IsAskedStep (client.resolve_step c shape d agenda table row version choice) → Begins Q d (has_none agenda) (client.resolve_step c shape d agenda table row version choice)
  resolve_fine None tasks version choice is = (tt, refl, refl, refl, none)
  resolve_fine (Some agenda) tasks version choice is = resolve_in_fine agenda tasks version choice (table_at (seen d) table) is

-- what a client is asked of its conflicts alone begins nothing
module _ (shape : Shape) (Q : List ClientTask → Type 0) (none : Q []) (d : ClientDisk) where
  pub phase_fine : (agenda : Option (List ClientTask)) → Q (tasks_in agenda) → (table : ℕ) → Begins Q d (has_none agenda) (client.phase_step d agenda table)
  phase_fine None tasks table = (tt, refl, refl, refl, none)
  phase_fine (Some agenda) tasks table = there (table_at (seen d) table)
    where
      there : (o : Option TableDisk) → Begins Q d false (client.phase_in d agenda o)
      there None = (tt, refl, refl, refl, tasks)
      there (Some opened) = (tt, refl, refl, refl, tasks)

  pub conflicts_fine : (agenda : Option (List ClientTask)) → Q (tasks_in agenda) → (table : ℕ) → Begins Q d (has_none agenda) (client.conflicts_step d agenda table)
  conflicts_fine None tasks table = (tt, refl, refl, refl, none)
  conflicts_fine (Some agenda) tasks table = there (table_at (seen d) table)
    where
      there : (o : Option TableDisk) → Begins Q d false (client.conflicts_in d agenda o)
      there None = (tt, refl, refl, refl, tasks)
      there (Some opened) = (tt, refl, refl, refl, tasks)

  pub all_fine : (agenda : Option (List ClientTask)) → Q (tasks_in agenda) → (table : ℕ) (by : resolvers.Stored) → Begins Q d (has_none agenda) (client.all_step shape d agenda table by)
  all_fine None tasks table by = (tt, refl, refl, refl, none)
  all_fine (Some agenda) tasks table by = there (table_at (seen d) table)
    where
      idle : (agenda : List ClientTask) → Q agenda → (opened : TableDisk) → Begins Q d false (client.all_idle shape d agenda opened)
      idle (task ∷ more) tasks opened = (tt, refl, refl, refl, tasks)
      idle [] tasks opened = (tt, refl, refl, refl, none)

      fitting : (opened : TableDisk) (fit : Result (Unit {0}) FitFault) → Begins Q d false (client.all_fitting shape d agenda opened fit)
      fitting opened (Ok fits) = idle agenda tasks opened
      fitting opened (Err fault) = (tt, refl, refl, refl, tasks)

      there : (o : Option TableDisk) → Begins Q d false (client.all_in shape d agenda by o)
      there None = (tt, refl, refl, refl, tasks)
      there (Some opened) = fitting opened (client.can_resolve opened.schema by)
