-- No move tells that a packet was sent. What clients send goes to the owner of its table, and what Stores send to clients
-- and gateways.
use Rattle.std.proofs.Common.{◌≡◌, ℕ, Bool, true, false, List, [], ◌∷◌, ◌++◌, Option, Some, None, Result, Ok, Err, refl, sym, subst, append-nil}
use Rattle.std.specs.Prelude.{map, if◌then◌else◌, ◌==◌, ◌&&◌, nat_le, nat_lt, option_map, option_to_list}
use Rattle.conflicts.specs.declared.pair.Choice.{Choice}
use Rattle.conflicts.specs.declared.pair.Choice.TheVariants as choices
use Rattle.conflicts.specs.declared.stored.Stored as resolvers
use Rattle.stab_base.specs.declared.node.Node.{Node}
use Rattle.stab_base.specs.declared.step.Step.{Step}
use Rattle.stab_base.specs.declared.node.Node.TheVariants as nodes
use Rattle.stab_base.specs.declared.chunk_name.ChunkName.{ChunkName}
use Rattle.row_value.specs.declared.content.Content.{Content}
use Rattle.row_value.specs.declared.content.Content.TheVariants.{Gone, Row}
use Rattle.row_value.specs.declared.schema.Schema.{Schema}
use Rattle.row_value.specs.declared.schema.Scheme.{Scheme}
use Rattle.row_value.specs.declared.schema.Scheme.TheVariants.{Strong, Causal, Eventual}
use Rattle.row_value.specs.declared.fit.FitFault.{FitFault}
use Rattle.row_value.specs.Fit.{fit_of}
use Rattle.row_edits.specs.declared.change.Edit.{Edit}
use Rattle.row_edits.specs.Edit.{edited_to}
use Rattle.table_model.specs.declared.table_state.TableState.TheVariants as states
use Rattle.step_tables.specs.Slots.{Main, Shadow, InFlight}
use Rattle.step_tables.specs.Facts.{Fact, ClientFact, Answer}
use Rattle.step_tables.specs.Facts as facts
use Rattle.step_tables.specs.Messages.{Request, Response, Pull, Pulled, Header, Pair, Outcome, Message, Send, Luck, SyncRequest, SyncResponse, PullRequest, PullResponse}
use Rattle.step_tables.specs.Messages.{TornPulled, TornRowRequest, TornRowResponse}
use Rattle.step_tables.specs.Messages as messages
use Rattle.step_tables.specs.Store.{Stored, current_of}
use Rattle.step_tables.specs.StoreMoves as store
use Rattle.step_tables.specs.StoreMoves.{StoreDisk, StoreTask, TableStore, StoreMove, StoreStep, SidePut, store_step}
use Rattle.step_tables.specs.Chunks.{rising, new_names, old_names, is_named, is_spelled}
use Rattle.step_tables.specs.ClientMoves as client
use Rattle.step_tables.specs.ClientMoves.{Slots, TableDisk, ClientDisk, ClientTask, Client, ClientMove, ClientStep, Plan, RowPut, RowOut, Shape, TableChange, client_step}

abbrev pub IsPlainFact : Fact → Type 0
IsPlainFact (facts.Sent packet from to name) = ⊥
IsPlainFact other = Unit {0}

abbrev pub ArePlainFacts : List Fact → Type 0
ArePlainFacts [] = Unit {0}
ArePlainFacts (fact ∷ more) = IsPlainFact fact × ArePlainFacts more

-- each goes to the owner of its table
abbrev pub ToOwners : List Send → Type 0
ToOwners [] = Unit {0}
ToOwners (send ∷ more) = (send.to ≡ None) × ToOwners more

-- ---- clients

abbrev pub ArePlainTasks : List ClientTask → Type 0
ArePlainTasks [] = Unit {0}
ArePlainTasks (task ∷ more) = ArePlainFacts task.facts × ToOwners task.sends × ArePlainTasks more

abbrev pub IsPlainAgenda : Option (List ClientTask) → Type 0
IsPlainAgenda None = Unit {0}
IsPlainAgenda (Some tasks) = ArePlainTasks tasks

pub record IsPlainStep (s : ClientStep) : Type 0 where
  pub facts : ArePlainFacts s.facts
  pub sends : ToOwners s.sends
  pub agenda : IsPlainAgenda s.client.agenda

told_plain : (some : List ClientFact) → ArePlainFacts (map facts.Client some)
told_plain [] = tt
told_plain (fact ∷ more) = (tt, told_plain more)

retold_plain : (some : List ClientFact) → ArePlainFacts (map facts.Redone some)
retold_plain [] = tt
retold_plain (fact ∷ more) = (tt, retold_plain more)

keeps_plain : (steps : List Step) (more : List ClientTask) → ArePlainTasks more → ArePlainTasks (client.keeps steps ++ more)
keeps_plain [] more p = p
keeps_plain (step ∷ steps) more p = (tt, tt, keeps_plain steps more p)

rest_plain : (shape : Shape) (p : Plan) (sends : List Send) → ToOwners sends → ArePlainTasks (client.rest_of shape p sends)
rest_plain shape p sends t = puts p.alters
  where
    last : List ClientTask
    last = client.keeps shape.after ++ record { change = client.Finish; facts = []; sends = sends } ∷ []

    ends : ArePlainTasks last
    ends = keeps_plain shape.after _ (tt, t, tt)

    go : (row : Option RowPut) (position : Option ℕ) → ArePlainTasks (client.row_task p row ++ (client.table_task p position ++ last))
    go None None = ends
    go None (Some n) = (tt, tt, ends)
    go (Some x) None = (tt, tt, ends)
    go (Some x) (Some n) = (tt, tt, (tt, tt, ends))

    puts : (change : Option TableChange) → ArePlainTasks (client.put_tasks p change last)
    puts None = go p.row p.position
    puts (Some change) = (tt, tt, ends)

quiet_plain : (d : ClientDisk) (agenda : Option (List ClientTask)) (a : Answer) → IsPlainAgenda agenda → IsPlainStep (client.quiet d agenda a)
quiet_plain d agenda a p = record { facts = tt; sends = tt; agenda = p }

begun_plain : (shape : Shape) (d : ClientDisk) (a : Answer) (p : Plan) (sends : List Send) → ToOwners sends → IsPlainStep (client.begun shape d a p sends)
begun_plain shape d a p sends t = record { facts = tt; sends = tt; agenda = keeps_plain shape.before _ (told_plain p.facts, tt, rest_plain shape p sends t) }

module _ (c : ℕ) (shape : Shape) (d : ClientDisk) where
  idle_sends : (sends : List Send) → ToOwners sends → IsPlainStep (record (client.ignored d) { sends = sends })
  idle_sends sends t = record { facts = tt; sends = t; agenda = tt }

  strong_plain : (size table : ℕ) (row : List ℕ) (slots : Slots) (x : Content) (o : Option InFlight) → IsPlainStep (client.write_strong size c shape d table row slots x o)
  strong_plain size table row slots x None = begun_plain shape d _ _ _ (refl, tt)
  strong_plain size table row slots x (Some out) = quiet_plain d (Some []) _ tt

  by_plain : (g : Scheme) (table : ℕ) (row : List ℕ) (opened : TableDisk) (slots : Slots) (x : Content) → IsPlainStep (client.write_by g c shape d table row opened slots x)
  by_plain Strong table row opened slots x = strong_plain opened.schema.chunk table row slots x (client.first_out opened.rows)
  by_plain Causal table row opened slots x = begun_plain shape d _ _ [] tt
  by_plain Eventual table row opened slots x = begun_plain shape d _ _ [] tt

  free_plain : (g : Scheme) (table : ℕ) (row : List ℕ) (opened : TableDisk) (slots : Slots) (x : Content) (y : Option Shadow) → IsPlainStep (client.write_free g c shape d table row opened slots x y)
  free_plain g table row opened slots x None = by_plain g table row opened slots x
  free_plain g table row opened slots x (Some y) = quiet_plain d (Some []) _ tt

  write_idle_plain : (g : Scheme) (agenda : List ClientTask) (table : ℕ) (row : List ℕ) (opened : TableDisk) (x : Content) → ArePlainTasks agenda
      → IsPlainStep (client.write_idle g c shape d agenda table row opened x)
  write_idle_plain g (task ∷ more) table row opened x p = quiet_plain d (Some (task ∷ more)) _ p
  write_idle_plain g [] table row opened x p = free_plain g table row opened (client.slots_at opened row) x (client.slots_at opened row).conflict

  fitting_plain : (g : Scheme) (agenda : List ClientTask) (table : ℕ) (row : List ℕ) (opened : TableDisk) (x : Content) (fit : Result (Unit {0}) FitFault) → ArePlainTasks agenda
      → IsPlainStep (client.write_fitting g c shape d agenda table row opened x fit)
  fitting_plain g agenda table row opened x (Ok fits) p = write_idle_plain g agenda table row opened x p
  fitting_plain g agenda table row opened x (Err fault) p = quiet_plain d (Some agenda) _ p

  write_to_plain : (agenda : List ClientTask) (table : ℕ) (row : List ℕ) (x : Content) (o : Option TableDisk) → ArePlainTasks agenda → IsPlainStep (client.write_to c shape d agenda table row x o)
  write_to_plain agenda table row x None p = quiet_plain d (Some agenda) _ p
  write_to_plain agenda table row x (Some opened) p = fitting_plain opened.schema.scheme agenda table row opened x (fit_of opened.schema x) p

  write_plain : (agenda : Option (List ClientTask)) (table : ℕ) (row : List ℕ) (x : Content) → IsPlainAgenda agenda → IsPlainStep (client.write_step c shape d agenda table row x)
  write_plain None table row x p = quiet_plain d None _ tt
  write_plain (Some agenda) table row x p = write_to_plain agenda table row x (client.table_at (client.seen d) table) p

  made_plain : (agenda : List ClientTask) (table : ℕ) (row : List ℕ) (opened : TableDisk) (made : Result Content FitFault) → ArePlainTasks agenda
      → IsPlainStep (client.edit_made c shape d agenda table row opened made)
  made_plain agenda table row opened (Ok x) p = write_to_plain agenda table row x (Some opened) p
  made_plain agenda table row opened (Err fault) p = quiet_plain d (Some agenda) _ p

  over_plain : (agenda : List ClientTask) (table : ℕ) (row : List ℕ) (opened : TableDisk) (edit : Edit) (shown : Option Content) → ArePlainTasks agenda
      → IsPlainStep (client.edit_over c shape d agenda table row opened edit shown)
  over_plain agenda table row opened edit None p = quiet_plain d (Some agenda) _ p
  over_plain agenda table row opened edit (Some Gone) p = quiet_plain d (Some agenda) _ p
  over_plain agenda table row opened edit (Some (Row some objects)) p = made_plain agenda table row opened (edited_to opened.schema some objects edit) p

  edit_in_plain : (agenda : List ClientTask) (table : ℕ) (row : List ℕ) (edit : Edit) (o : Option TableDisk) → ArePlainTasks agenda → IsPlainStep (client.edit_in c shape d agenda table row edit o)
  edit_in_plain agenda table row edit None p = quiet_plain d (Some agenda) _ p
  edit_in_plain agenda table row edit (Some opened) p =
      let slots : Slots = client.slots_at opened row in over_plain agenda table row opened edit (option_map client.content_of (client.shown_in slots.main slots.conflict slots.shadow)) p

  edit_plain : (agenda : Option (List ClientTask)) (table : ℕ) (row : List ℕ) (edit : Edit) → IsPlainAgenda agenda → IsPlainStep (client.edit_step c shape d agenda table row edit)
  edit_plain None table row edit p = quiet_plain d None _ tt
  edit_plain (Some agenda) table row edit p = edit_in_plain agenda table row edit (client.table_at (client.seen d) table) p

  show_plain : (agenda : Option (List ClientTask)) (table : ℕ) (row : List ℕ) → IsPlainAgenda agenda → IsPlainStep (client.show_step d agenda table row)
  show_plain None table row p = quiet_plain d None _ tt
  show_plain (Some agenda) table row p = quiet_plain d (Some agenda) _ p

  sum_plain : (agenda : Option (List ClientTask)) (table : ℕ) (row : List ℕ) → IsPlainAgenda agenda → IsPlainStep (client.sum_step d agenda table row)
  sum_plain agenda table row p = let s = show_plain agenda table row p in record { facts = s.facts; sends = s.sends; agenda = s.agenda }

  resent_owners : (table : ℕ) (rows : List (List ℕ × Slots)) → ToOwners (client.resent c table rows)
  resent_owners table [] = tt
  resent_owners table (x ∷ rows) = go x.1.out (resent_owners table rows)
    where
      go : (o : Option InFlight) → ToOwners (client.resent c table rows) → ToOwners (option_to_list (option_map (client.request_for c table x.0) o) ++ client.resent c table rows)
      go None rest = rest
      go (Some out) rest = (refl, rest)

  first_plain : (table : ℕ) (again : List Send) (o : Option RowOut) → ToOwners again → IsPlainStep (client.sync_first c shape d table again o)
  first_plain table again None t = record { facts = tt; sends = t; agenda = tt }
  first_plain table again (Some x) t =
      let b = begun_plain shape d facts.Done (client.send_plan d table x) (client.request_for c table x.row x.out ∷ []) (refl, tt) in
      record { facts = tt; sends = t; agenda = b.agenda }

  sync_in_plain : (agenda : List ClientTask) (table : ℕ) (o : Option TableDisk) → ArePlainTasks agenda → IsPlainStep (client.sync_in c shape d agenda table o)
  sync_in_plain agenda table None p = quiet_plain d (Some agenda) _ p
  sync_in_plain (task ∷ more) table (Some opened) p = quiet_plain d (Some (task ∷ more)) _ p
  sync_in_plain [] table (Some opened) p =
      first_plain table (client.resent c table opened.rows) (option_map (client.row_out opened.schema.chunk) (client.first_to_send opened.rows)) (resent_owners table opened.rows)

  sync_plain : (agenda : Option (List ClientTask)) (table : ℕ) → IsPlainAgenda agenda → IsPlainStep (client.sync_step c shape d agenda table)
  sync_plain None table p = quiet_plain d None _ tt
  sync_plain (Some agenda) table p = sync_in_plain agenda table (client.table_at (client.seen d) table) p

  tears_plain : (table : ℕ) (tears : List (List ℕ)) → ArePlainFacts (map (facts.Torn c table) tears)
  tears_plain table [] = tt
  tears_plain table (row ∷ tears) = (tt, tears_plain table tears)

  asks_owners : (table : ℕ) (rows : List (List ℕ)) → ToOwners (map (client.torn_from c table) rows)
  asks_owners table [] = tt
  asks_owners table (row ∷ rows) = (refl, asks_owners table rows)

  from_owners : (table position : ℕ) (asks : List (List ℕ)) → ToOwners (client.next_from c table position asks)
  from_owners table position [] = (refl, tt)
  from_owners table position (row ∷ rows) = asks_owners table (row ∷ rows)

  next_in_plain : (agenda : List ClientTask) (table : ℕ) (tears asks : List (List ℕ)) (o : Option TableDisk) → ArePlainTasks agenda
      → IsPlainStep (client.next_in c shape d agenda table tears asks o)
  next_in_plain agenda table tears asks None p = quiet_plain d (Some agenda) _ p
  next_in_plain (task ∷ more) table tears asks (Some opened) p = quiet_plain d (Some (task ∷ more)) _ p
  next_in_plain [] table tears asks (Some opened) p = record { facts = tears_plain table tears; sends = from_owners table opened.position asks; agenda = tt }

  next_plain : (agenda : Option (List ClientTask)) (table : ℕ) (tears asks : List (List ℕ)) → IsPlainAgenda agenda → IsPlainStep (client.next_step c shape d agenda table tears asks)
  next_plain None table tears asks p = quiet_plain d None _ tt
  next_plain (Some agenda) table tears asks p = next_in_plain agenda table tears asks (client.table_at (client.seen d) table) p

  -- ---- conflicts

  choose_plain : (table : ℕ) (row : List ℕ) (schema : Schema) (slots : Slots) (main : Main) (x : Shadow) (choice : Choice) → IsPlainStep (client.choose c shape d table row schema slots main x choice)
  choose_plain table row schema slots main x choices.Mine = begun_plain shape d _ _ [] tt
  choose_plain table row schema slots main x choices.Theirs = begun_plain shape d _ _ [] tt
  choose_plain table row schema slots main x (choices.New content) = fits (fit_of schema content)
    where
      fits : (fit : Result (Unit {0}) FitFault) → IsPlainStep (client.over_fitting c shape d table row slots main x content fit)
      fits (Ok it) = begun_plain shape d _ _ [] tt
      fits (Err fault) = quiet_plain d (Some []) _ tt

  resolve_over_plain : (table : ℕ) (row : List ℕ) (schema : Schema) (slots : Slots) (version : ℕ) (choice : Choice) (main : Option Main) (conflict : Option Shadow)
      → IsPlainStep (client.resolve_over c shape d table row schema slots version choice main conflict)
  resolve_over_plain table row schema slots version choice None conflict = quiet_plain d (Some []) _ tt
  resolve_over_plain table row schema slots version choice (Some main) None = quiet_plain d (Some []) _ tt
  resolve_over_plain table row schema slots version choice (Some main) (Some x) = go (x.version == version)
    where
      go : (b : Bool) → IsPlainStep (if b then client.choose c shape d table row schema slots main x choice else client.refused d (facts.Moved version x.version))
      go true = choose_plain table row schema slots main x choice
      go false = quiet_plain d (Some []) _ tt

  resolve_in_plain : (agenda : List ClientTask) (table : ℕ) (row : List ℕ) (version : ℕ) (choice : Choice) (o : Option TableDisk) → ArePlainTasks agenda
      → IsPlainStep (client.resolve_in c shape d agenda table row version choice o)
  resolve_in_plain agenda table row version choice None p = quiet_plain d (Some agenda) _ p
  resolve_in_plain (task ∷ more) table row version choice (Some opened) p = quiet_plain d (Some (task ∷ more)) _ p
  resolve_in_plain [] table row version choice (Some opened) p =
      let slots : Slots = client.slots_at opened row in resolve_over_plain table row opened.schema slots version choice slots.main slots.conflict

  resolve_plain : (agenda : Option (List ClientTask)) (table : ℕ) (row : List ℕ) (version : ℕ) (choice : Choice) → IsPlainAgenda agenda
      → IsPlainStep (client.resolve_step c shape d agenda table row version choice)
  resolve_plain None table row version choice p = quiet_plain d None _ tt
  resolve_plain (Some agenda) table row version choice p = resolve_in_plain agenda table row version choice (client.table_at (client.seen d) table) p

  conflicts_in_plain : (agenda : List ClientTask) (o : Option TableDisk) → ArePlainTasks agenda → IsPlainStep (client.conflicts_in d agenda o)
  conflicts_in_plain agenda None p = quiet_plain d (Some agenda) _ p
  conflicts_in_plain agenda (Some opened) p = quiet_plain d (Some agenda) _ p

  conflicts_plain : (agenda : Option (List ClientTask)) (table : ℕ) → IsPlainAgenda agenda → IsPlainStep (client.conflicts_step d agenda table)
  conflicts_plain None table p = quiet_plain d None _ tt
  conflicts_plain (Some agenda) table p = conflicts_in_plain agenda (client.table_at (client.seen d) table) p

  phase_in_plain : (agenda : List ClientTask) (o : Option TableDisk) → ArePlainTasks agenda → IsPlainStep (client.phase_in d agenda o)
  phase_in_plain agenda None p = quiet_plain d (Some agenda) _ p
  phase_in_plain agenda (Some opened) p = quiet_plain d (Some agenda) _ p

  phase_plain : (agenda : Option (List ClientTask)) (table : ℕ) → IsPlainAgenda agenda → IsPlainStep (client.phase_step d agenda table)
  phase_plain None table p = quiet_plain d None _ tt
  phase_plain (Some agenda) table p = phase_in_plain agenda (client.table_at (client.seen d) table) p

  all_in_plain : (agenda : List ClientTask) (by : resolvers.Stored) (o : Option TableDisk) → ArePlainTasks agenda → IsPlainStep (client.all_in shape d agenda by o)
  all_in_plain agenda by None p = quiet_plain d (Some agenda) _ p
  all_in_plain agenda by (Some opened) p = fits (client.can_resolve opened.schema by)
    where
      idle : (tasks : List ClientTask) → ArePlainTasks tasks → IsPlainStep (client.all_idle shape d tasks opened)
      idle [] q = quiet_plain d (Some []) _ tt
      idle (task ∷ more) q = quiet_plain d (Some (task ∷ more)) _ q

      fits : (fit : Result (Unit {0}) FitFault) → IsPlainStep (client.all_fitting shape d agenda opened fit)
      fits (Ok it) = idle agenda p
      fits (Err fault) = quiet_plain d (Some agenda) _ p

  all_plain : (agenda : Option (List ClientTask)) (table : ℕ) (by : resolvers.Stored) → IsPlainAgenda agenda → IsPlainStep (client.all_step shape d agenda table by)
  all_plain None table by p = quiet_plain d None _ tt
  all_plain (Some agenda) table by p = all_in_plain agenda by (client.table_at (client.seen d) table) p

  -- ---- answers and rows from the Store

  outcome_plain : (table : ℕ) (row : List ℕ) (opened : TableDisk) (slots : Slots) (out : InFlight) (o : Outcome) → IsPlainStep (client.outcome_taken c shape d table row opened slots out o)
  outcome_plain table row opened slots out (messages.Accepted v) = begun_plain shape d _ _ [] tt
  outcome_plain table row opened slots out (messages.Again v) = begun_plain shape d _ _ [] tt
  outcome_plain table row opened slots out (messages.Late v) = quiet_plain d (Some []) _ tt
  outcome_plain table row opened slots out (messages.Stale v) = begun_plain shape d _ _ _ (refl, tt)
  outcome_plain table row opened slots out (messages.Conflict v) = idle_sends _ (refl, tt)
  outcome_plain table row opened slots out messages.NeedWhole = go out.whole
    where
      go : (b : Bool) → IsPlainStep (if b then client.ignored d
          else client.begun shape d facts.Done (client.whole_plan d table row slots out) (client.request_for c table row (client.whole_out out) ∷ []))
      go true = quiet_plain d (Some []) _ tt
      go false = begun_plain shape d _ _ _ (refl, tt)

  response_plain : (r : Response) (opened : TableDisk) (o : Option InFlight) → IsPlainStep (client.response_taken c shape d r opened o)
  response_plain r opened None = quiet_plain d (Some []) _ tt
  response_plain r opened (Some out) = go (out.number == r.number)
    where
      go : (b : Bool) → IsPlainStep (if b then client.outcome_taken c shape d r.table r.row opened (client.slots_at opened r.row) out r.outcome else client.ignored d)
      go true = outcome_plain r.table r.row opened (client.slots_at opened r.row) out r.outcome
      go false = quiet_plain d (Some []) _ tt

  response_in_plain : (r : Response) (o : Option TableDisk) → IsPlainStep (client.response_in c shape d r o)
  response_in_plain r None = quiet_plain d (Some []) _ tt
  response_in_plain r (Some opened) = response_plain r opened (client.slots_at opened r.row).out

  next_pull_owners : (table : ℕ) (q : Pulled) → ToOwners (client.next_pull c table q)
  next_pull_owners table q = go (nat_lt q.to q.latest)
    where
      go : (b : Bool) → ToOwners (if b then client.pull_from c table q.to ∷ [] else [])
      go true = (refl, tt)
      go false = tt

  row_plain : (q : Pulled) (opened : TableDisk) (hd : Header) (slots : Slots) → IsPlainStep (client.row_taken c shape d q opened hd slots)
  row_plain q opened hd slots = go (nat_le hd.version (client.top slots.conflict slots.shadow))
    where
      go : (b : Bool) → IsPlainStep (if b
          then client.begun shape d facts.Done (client.position_plan c d q.table q.to) (client.next_pull c q.table q)
          else client.begun shape d facts.Done (client.row_plan c d q.table hd.row q.to (client.row_placed opened.schema.scheme c q.table hd slots slots.out)) (client.next_pull c q.table q))
      go true = begun_plain shape d _ _ _ (next_pull_owners q.table q)
      go false = begun_plain shape d _ _ _ (next_pull_owners q.table q)

  pulled_plain : (q : Pulled) (opened : TableDisk) (o : Option Header) → IsPlainStep (client.pulled_taken c shape d q opened o)
  pulled_plain q opened None = quiet_plain d (Some []) _ tt
  pulled_plain q opened (Some hd) = go (client.comes_next q opened hd)
    where
      go : (b : Bool) → IsPlainStep (if b then client.row_taken c shape d q opened hd (client.slots_at opened hd.row) else client.ignored d)
      go true = row_plain q opened hd (client.slots_at opened hd.row)
      go false = quiet_plain d (Some []) _ tt

  pulled_in_plain : (q : Pulled) (o : Option TableDisk) → IsPlainStep (client.pulled_in c shape d q o)
  pulled_in_plain q None = quiet_plain d (Some []) _ tt
  pulled_in_plain q (Some opened) = pulled_plain q opened q.header

  torn_row_plain : (table : ℕ) (opened : TableDisk) (hd : Header) (slots : Slots) → IsPlainStep (client.torn_row_taken c shape d table opened hd slots)
  torn_row_plain table opened hd slots = go (nat_le hd.version (client.top slots.conflict slots.shadow))
    where
      go : (b : Bool) → IsPlainStep (if b
          then record (client.ignored d) { sends = client.pull_from c table opened.position ∷ [] }
          else client.begun shape d facts.Done (client.torn_plan d table hd.row (client.row_placed opened.schema.scheme c table hd slots slots.out)) (client.pull_from c table opened.position ∷ []))
      go true = idle_sends _ (refl, tt)
      go false = begun_plain shape d _ _ _ (refl, tt)

  torn_plain : (table : ℕ) (opened : TableDisk) (o : Option Header) → IsPlainStep (client.torn_taken c shape d table opened o)
  torn_plain table opened None = idle_sends _ (refl, tt)
  torn_plain table opened (Some hd) = go (is_named opened.schema.chunk hd.content hd.names)
    where
      go : (b : Bool) → IsPlainStep (if b then client.torn_row_taken c shape d table opened hd (client.slots_at opened hd.row) else client.ignored d)
      go true = torn_row_plain table opened hd (client.slots_at opened hd.row)
      go false = quiet_plain d (Some []) _ tt

  torn_in_plain : (q : TornPulled) (o : Option TableDisk) → IsPlainStep (client.torn_in c shape d q o)
  torn_in_plain q None = quiet_plain d (Some []) _ tt
  torn_in_plain q (Some opened) = torn_plain q.table opened q.header

  take_plain : (agenda : Option (List ClientTask)) (m : Message) → IsPlainAgenda agenda → IsPlainStep (client.take_step c shape d agenda m)
  take_plain None m p = quiet_plain d None _ tt
  take_plain (Some (task ∷ more)) m p = quiet_plain d (Some (task ∷ more)) _ p
  take_plain (Some []) (SyncRequest q) p = quiet_plain d (Some []) _ tt
  take_plain (Some []) (PullRequest q) p = quiet_plain d (Some []) _ tt
  take_plain (Some []) (SyncResponse r) p = response_in_plain r (client.table_at (client.seen d) r.table)
  take_plain (Some []) (PullResponse q) p = pulled_in_plain q (client.table_at (client.seen d) q.table)
  take_plain (Some []) (TornRowRequest q) p = quiet_plain d (Some []) _ tt
  take_plain (Some []) (TornRowResponse q) p = torn_in_plain q (client.table_at (client.seen d) q.table)

  -- ---- a table that is opened or closed

  alter_in_plain : (agenda : List ClientTask) (table : ℕ) (change : TableChange) → ArePlainTasks agenda → IsPlainStep (client.alter_in c shape d agenda table change)
  alter_in_plain (task ∷ more) table change p = quiet_plain d (Some (task ∷ more)) _ p
  alter_in_plain [] table change p = go (client.may_alter change (client.table_at (client.seen d) table))
    where
      go : (b : Bool) → IsPlainStep (if b then client.begun shape d facts.Done (client.alter_plan c d table change) [] else client.ignored d)
      go true = begun_plain shape d _ _ [] tt
      go false = quiet_plain d (Some []) _ tt

  alter_plain : (agenda : Option (List ClientTask)) (table : ℕ) (change : TableChange) → IsPlainAgenda agenda → IsPlainStep (client.alter_step c shape d agenda table change)
  alter_plain None table change p = quiet_plain d None _ tt
  alter_plain (Some agenda) table change p = alter_in_plain agenda table change p

  -- ---- work, crashes and starts

  work_plain : (agenda : Option (List ClientTask)) (luck : Luck) → IsPlainAgenda agenda → IsPlainStep (client.worked d agenda luck)
  work_plain None messages.Done p = quiet_plain d None _ tt
  work_plain None messages.FailedBefore p = quiet_plain d None _ tt
  work_plain None messages.FailedAfter p = quiet_plain d None _ tt
  work_plain (Some []) messages.Done p = quiet_plain d (Some []) _ tt
  work_plain (Some []) messages.FailedBefore p = quiet_plain d None _ tt
  work_plain (Some []) messages.FailedAfter p = quiet_plain d None _ tt
  work_plain (Some (task ∷ more)) messages.Done p = record { facts = p.0; sends = p.1; agenda = p.2 }
  work_plain (Some (task ∷ more)) messages.FailedBefore p = record { facts = tt; sends = tt; agenda = tt }
  work_plain (Some (task ∷ more)) messages.FailedAfter p = record { facts = tt; sends = tt; agenda = tt }

  crash_plain : (agenda : Option (List ClientTask)) (luck : Luck) → IsPlainStep (client.crashed d agenda luck)
  crash_plain None luck = quiet_plain d None _ tt
  crash_plain (Some []) luck = quiet_plain d None _ tt
  crash_plain (Some (task ∷ more)) messages.Done = quiet_plain (client.changed d task.change) None _ tt
  crash_plain (Some (task ∷ more)) messages.FailedBefore = quiet_plain d None _ tt
  crash_plain (Some (task ∷ more)) messages.FailedAfter = quiet_plain (client.changed d task.change) None _ tt

  also_plain : (some : List Fact) → ArePlainFacts some → ArePlainFacts (some ++ facts.ClientRecovered c ∷ [])
  also_plain [] p = (tt, tt)
  also_plain (fact ∷ more) p = (p.0, also_plain more p.1)

  ending_plain : (tasks : List ClientTask) → ArePlainTasks tasks → ArePlainTasks (client.ending (facts.ClientRecovered c ∷ []) tasks)
  ending_plain [] p = tt
  ending_plain (task ∷ []) p = (also_plain task.facts p.0, p.1, tt)
  ending_plain (task ∷ next ∷ more) p = (p.0, p.1, ending_plain (next ∷ more) p.2)

  opening_plain : (o : Option Plan) → ArePlainTasks (client.opening shape o)
  opening_plain None =
      keeps_plain shape.before _ (subst (λ (tasks : List ClientTask). ArePlainTasks tasks) (append-nil (client.keeps shape.after)) (keeps_plain shape.after [] tt))
  opening_plain (Some p) = keeps_plain shape.before _ (rest_plain shape p [] tt)

  told_at_start_plain : (torn : Option (ℕ × List ℕ)) (o : Option Plan) → ArePlainFacts (client.told_at_start c torn o)
  told_at_start_plain torn (Some p) = retold_plain p.facts
  told_at_start_plain (Some row) None = (tt, tt)
  told_at_start_plain None None = tt

  over_plain_facts : (some : List Fact) (tasks : List ClientTask) → ArePlainFacts some → ArePlainFacts (some ++ client.told_without (facts.ClientRecovered c ∷ []) tasks)
  over_plain_facts some [] p = also_plain some p
  over_plain_facts some (task ∷ more) p = subst (λ (fs : List Fact). ArePlainFacts fs) (sym (append-nil some)) p

  start_plain : (agenda : Option (List ClientTask)) → IsPlainAgenda agenda → IsPlainStep (client.started c shape d agenda)
  start_plain (Some agenda) p = quiet_plain d (Some agenda) _ p
  start_plain None p = record { facts = over_plain_facts _ (client.opening shape d.plan) (told_at_start_plain shape.torn d.plan); sends = tt; agenda = ending_plain (client.opening shape d.plan) (opening_plain d.plan) }

pub client_plain : (c : ℕ) (shape : Shape) (s : Client) (move : ClientMove) → IsPlainAgenda s.agenda → IsPlainStep (client_step c shape s move)
client_plain c shape s (client.Write table row x) p = write_plain c shape s.disk s.agenda table row x p
client_plain c shape s (client.Change table row edit) p = edit_plain c shape s.disk s.agenda table row edit p
client_plain c shape s (client.Show table row) p = show_plain c shape s.disk s.agenda table row p
client_plain c shape s (client.Sum table row) p = sum_plain c shape s.disk s.agenda table row p
client_plain c shape s (client.Sync table) p = sync_plain c shape s.disk s.agenda table p
client_plain c shape s (client.Next table tears asks) p = next_plain c shape s.disk s.agenda table tears asks p
client_plain c shape s (client.Alter table change) p = alter_plain c shape s.disk s.agenda table change p
client_plain c shape s (client.Take m) p = take_plain c shape s.disk s.agenda m p
client_plain c shape s (client.Work luck) p = work_plain c shape s.disk s.agenda luck p
client_plain c shape s (client.BeginCr table) p = phase_plain c shape s.disk s.agenda table p
client_plain c shape s (client.Conflicts table) p = conflicts_plain c shape s.disk s.agenda table p
client_plain c shape s (client.EndCr table) p = phase_plain c shape s.disk s.agenda table p
client_plain c shape s (client.Resolve table row version choice) p = resolve_plain c shape s.disk s.agenda table row version choice p
client_plain c shape s (client.ResolveAll table by) p = all_plain c shape s.disk s.agenda table by p
client_plain c shape s (client.Crash luck) p = crash_plain c shape s.disk s.agenda luck
client_plain c shape s client.Start p = start_plain c shape s.disk s.agenda p

-- ---- tables at a Store

abbrev pub IsPlace : Node → Type 0
IsPlace (nodes.Store number) = ⊥
IsPlace other = Unit {0}

abbrev pub IsPlaceIn : Option Node → Type 0
IsPlaceIn None = ⊥
IsPlaceIn (Some node) = IsPlace node

abbrev pub ToPlaces : List Send → Type 0
ToPlaces [] = Unit {0}
ToPlaces (send ∷ more) = IsPlaceIn send.to × ToPlaces more

abbrev pub ArePlainWrites : List StoreTask → Type 0
ArePlainWrites [] = Unit {0}
ArePlainWrites (task ∷ more) = ArePlainFacts task.facts × ToPlaces task.sends × ArePlainWrites more

abbrev pub HasPlainWrites : Option (List StoreTask) → Type 0
HasPlainWrites None = Unit {0}
HasPlainWrites (Some tasks) = ArePlainWrites tasks

pub record IsPlainMove (s : StoreStep) : Type 0 where
  pub facts : ArePlainFacts s.facts
  pub sends : ToPlaces s.sends
  pub agenda : HasPlainWrites s.store.agenda

still_plain : (d : StoreDisk) (agenda : Option (List StoreTask)) (a : Answer) → HasPlainWrites agenda → IsPlainMove (store.quiet d agenda a)
still_plain d agenda a p = record { facts = tt; sends = tt; agenda = p }

puts_plain : (names : List ChunkName) (more : List StoreTask) → ArePlainWrites more → ArePlainWrites (store.puts names ++ more)
puts_plain [] more p = p
puts_plain (n ∷ names) more p = (tt, tt, puts_plain names more p)

drops_plain : (names : List ChunkName) (more : List StoreTask) → ArePlainWrites more → ArePlainWrites (store.drops names ++ more)
drops_plain [] more p = p
drops_plain (n ∷ names) more p = (tt, tt, drops_plain names more p)

sending_plain : (d : StoreDisk) (sends : List Send) → ToPlaces sends → IsPlainMove (store.sending d sends)
sending_plain d sends t = record { facts = tt; sends = t; agenda = tt }

module _ (g : Scheme) (size table : ℕ) (d : StoreDisk) (from : Node) (place : IsPlace from) where
  judged_plain : (q : Request) (current : ℕ) → IsPlainMove (store.judged g size table d from q current)
  judged_plain q current = go (store.takes g q.base current && store.keeps_there size d.items q)
    where
      item : Stored
      item = store.item_for d.items q

      go : (b : Bool) → IsPlainMove (if b then store.quiet d (Some (store.accepting size table d.items from q item)) facts.Done
          else store.sending d (store.responded from q (store.unaccepted g q.base current) ∷ []))
      go true = still_plain d (Some (store.accepting size table d.items from q item)) facts.Done
          (tt, tt, puts_plain (new_names size item) _ ((tt, tt), tt, drops_plain (old_names size d.items item) _ (tt, (place, tt), tt)))
      go false = sending_plain d _ (place, tt)

  decided_plain : (q : Request) (yours : Pair) → IsPlainMove (store.decided g size table d from q yours)
  decided_plain q yours = go (yours.number == q.number) (nat_lt q.number yours.number)
    where
      go : (a b : Bool) → IsPlainMove (if a then store.sending d (store.responded from q (messages.Again yours.version) ∷ [])
          else (if b then store.sending d (store.responded from q (messages.Late yours.number) ∷ [])
          else store.judged g size table d from q (store.version_of (current_of d.items q.row))))
      go true b = sending_plain d _ (place, tt)
      go false true = sending_plain d _ (place, tt)
      go false false = judged_plain q (store.version_of (current_of d.items q.row))

  asked_plain : (q : Request) → IsPlainMove (store.asked g size table d from q)
  asked_plain q = go (is_spelled size q.content q.pieces)
    where
      go : (b : Bool) → IsPlainMove (if b then store.decided g size table d from q (store.yours_in d.items q.client q.row) else store.quiet d (Some []) facts.Done)
      go true = decided_plain q (store.yours_in d.items q.client q.row)
      go false = still_plain d (Some []) _ tt

  taken_plain : (agenda : Option (List StoreTask)) (m : Message) → HasPlainWrites agenda → IsPlainMove (store.taken g size table d agenda from m)
  taken_plain None m p = still_plain d None _ tt
  taken_plain (Some (task ∷ more)) m p = still_plain d (Some (task ∷ more)) _ p
  taken_plain (Some []) (SyncRequest q) p = asked_plain q
  taken_plain (Some []) (PullRequest q) p = sending_plain d _ (place, tt)
  taken_plain (Some []) (SyncResponse q) p = still_plain d (Some []) _ tt
  taken_plain (Some []) (PullResponse q) p = still_plain d (Some []) _ tt
  taken_plain (Some []) (TornRowRequest q) p = sending_plain d _ (place, tt)
  taken_plain (Some []) (TornRowResponse q) p = still_plain d (Some []) _ tt

beside_plain : (table : ℕ) (put : SidePut) → ArePlainFacts (store.told_beside table put)
beside_plain table (store.PutState states.Draft) = tt
beside_plain table (store.PutState states.Live) = (tt, tt)
beside_plain table (store.PutState states.Dropped) = (tt, tt)
beside_plain table (store.PutSub client terms) = (tt, tt)

placed_plain : (table : ℕ) (d : StoreDisk) (agenda : Option (List StoreTask)) (put : SidePut) → HasPlainWrites agenda → IsPlainMove (store.placed table d agenda put)
placed_plain table d None put p = still_plain d None _ tt
placed_plain table d (Some (task ∷ more)) put p = still_plain d (Some (task ∷ more)) _ p
placed_plain table d (Some []) put p = still_plain d (Some (store.beside_task table put ∷ [])) _ (beside_plain table put, tt, tt)

worked_plain : (d : StoreDisk) (agenda : Option (List StoreTask)) (luck : Luck) → HasPlainWrites agenda → IsPlainMove (store.worked d agenda luck)
worked_plain d None messages.Done p = still_plain d None _ tt
worked_plain d None messages.FailedBefore p = record { facts = tt; sends = tt; agenda = tt }
worked_plain d None messages.FailedAfter p = record { facts = tt; sends = tt; agenda = tt }
worked_plain d (Some []) messages.Done p = still_plain d (Some []) _ tt
worked_plain d (Some []) messages.FailedBefore p = record { facts = tt; sends = tt; agenda = tt }
worked_plain d (Some []) messages.FailedAfter p = record { facts = tt; sends = tt; agenda = tt }
worked_plain d (Some (task ∷ more)) messages.Done p = record { facts = p.0; sends = p.1; agenda = p.2 }
worked_plain d (Some (task ∷ more)) messages.FailedBefore p = record { facts = tt; sends = tt; agenda = tt }
worked_plain d (Some (task ∷ more)) messages.FailedAfter p = record { facts = tt; sends = tt; agenda = tt }

crashed_plain : (d : StoreDisk) (agenda : Option (List StoreTask)) (luck : Luck) → IsPlainMove (store.crashed d agenda luck)
crashed_plain d None luck = record { facts = tt; sends = tt; agenda = tt }
crashed_plain d (Some []) luck = record { facts = tt; sends = tt; agenda = tt }
crashed_plain d (Some (task ∷ more)) messages.Done = record { facts = tt; sends = tt; agenda = tt }
crashed_plain d (Some (task ∷ more)) messages.FailedBefore = record { facts = tt; sends = tt; agenda = tt }
crashed_plain d (Some (task ∷ more)) messages.FailedAfter = record { facts = tt; sends = tt; agenda = tt }

recovering_plain : (number table : ℕ) (d : StoreDisk) → ArePlainWrites (store.recovering number table d)
recovering_plain number table d = (tt, tt, (tt, tt, (tt, tt, drops_plain (rising d.left) _ ((tt, tt), tt, tt))))

started_plain : (number table : ℕ) (d : StoreDisk) (agenda : Option (List StoreTask)) → HasPlainWrites agenda → IsPlainMove (store.started number table d agenda)
started_plain number table d (Some agenda) p = still_plain d (Some agenda) _ p
started_plain number table d None p = go d.pending
  where
    found : (i : Stored) (o : Option Stored) → IsPlainMove (store.recovered number table d i o)
    found i None = record { facts = (tt, tt); sends = tt; agenda = recovering_plain number table d }
    found i (Some item) = record { facts = (tt, tt); sends = tt; agenda = recovering_plain number table d }

    go : (o : Option Stored) → IsPlainMove (store.recover number table d o)
    go None = still_plain d _ _ (tt, tt, (tt, tt, ((tt, tt), tt, tt)))
    go (Some i) = found i (store.item_at i.entry.version d.items)

-- a message comes from a client or a gateway
abbrev pub IsFrom : StoreMove → Type 0
IsFrom (store.Take from m) = IsPlace from
IsFrom other = Unit {0}

pub move_plain : (number : ℕ) (g : Scheme) (size table : ℕ) (s : TableStore) (move : StoreMove) → IsFrom move → HasPlainWrites s.agenda → IsPlainMove (store_step number g size table s move)
move_plain number g size table s (store.Take from m) f p = taken_plain g size table s.disk from f s.agenda m p
move_plain number g size table s (store.Place put) f p = placed_plain table s.disk s.agenda put p
move_plain number g size table s (store.Work luck) f p = worked_plain s.disk s.agenda luck p
move_plain number g size table s (store.Crash luck) f p = crashed_plain s.disk s.agenda luck
move_plain number g size table s store.Start f p = started_plain number table s.disk s.agenda p
