-- Calls, messages and starts are moves with the work behind them.
use Rattle.std.proofs.Common.{◌≡◌, ◌⊎◌, inl, inr, ℕ, ◌++◌, Bool, true, false, cond, List, [], ◌∷◌, Option, Some, None, Result, Ok, Err, refl, sym, ap, ◌∙◌, subst, append-nil}
use Rattle.std.specs.Prelude.{◌≢◌, if◌then◌else◌}
use Rattle.std.specs.Ordering.{nat_cmp}
use Rattle.std.specs.Cmp.{nat_cmp_total, unsigned_tied}
use Rattle.std.specs.BTreeMap.{is_at, insert_entry}
use Rattle.std.specs.Map.{lookup}
use Rattle.std.proofs.lemmas.Bool.{eq-eqb}
use Rattle.stab_base.specs.declared.node.Node.{Node}
use Rattle.stab_base.specs.declared.node.Node.TheVariants as nodes
use Rattle.step_tables.specs.declared.message.Message.{Message as Sent}
use Rattle.step_tables.specs.Facts as facts
use Rattle.step_tables.specs.Messages.{Message, Header, Luck, SyncRequest, SyncResponse, PullRequest, PullResponse, TornRowRequest, TornRowResponse}
use Rattle.step_tables.specs.Messages as messages
use Rattle.step_tables.specs.Travels.{message_of}
use Rattle.step_tables.specs.ClientMoves.{Client, ClientDisk, ClientTask, ClientStep, ClientMove, Shape, TableDisk, Write, Change, Show, Sum, Sync, Next, BeginCr, Conflicts, EndCr, Resolve, ResolveAll, Alter, Take, Work, Crash, Start, client_step, no_shape, conflicts_in, table_at, seen}
use Rattle.step_tables.proofs.Lists.{lookup-insert}
use Rattle.row_value.specs.declared.fit.FitFault.{FitFault}
use Rattle.row_value.specs.Fit.{fit_of}
use Rattle.disk_trait.specs.Calls.{DiskState}
use Rattle.table_model.specs.declared.line.Answer.{Answer}
use Rattle.table_model.specs.declared.line.RowPair.{RowPair}
use Rattle.client_node.specs.Taking.{FitsTable, FitsClient}
use Rattle.journal_host.specs.declared.fault.ClientFault.{ClientFault}
use Rattle.journal_host.specs.declared.host.ClientHost.{ClientHost}
use Rattle.journal_host.specs.Calls.{IsListed, Lists}
use Rattle.world_tables.specs.World.{World, WorldStep, Moved, Outbox, client_at, client_tasks, tasks_in, client_works, client_until_idle, client_follows, client_falls, move_client, move_there, is_client_down, is_down, is_fault, has_node, still, answering, answered, first_luck, other_lucks, call, to_there, started}
use Rattle.journal_host.specs.declared.asking.Ask.{Ask}
use Rattle.journal_host.specs.declared.asking.Ask.TheVariants as asks
use Rattle.journal_host.specs.Asks.{move_of, FitsDisk, FitsAt}
use Rattle.journal_host.specs.Moves.{then_moves, move_alone, alone_there, call_alone, take_there, take_alone, starts_alone, start_alone, has_work}
use Rattle.journal_host.proofs.Alone.{alone_cases, call_held, call_busy, call_idle, take_held, take_busy, take_idle, start_follows, start_up}
use Rattle.journal_host.proofs.Clients.{given_is}
use Rattle.journal_host.proofs.Refusals.{write_only, edit_only, show_only, sum_only, sync_only, next_only, phase_only, resolve_only, alter_only, take_only}
use Rattle.client_events.specs.Fits.{FitsThere, FitsMessage}
use Rattle.client_events.proofs.Working.{some_same}
use Rattle.client_events.proofs.Wholes.{IsEvent}

-- ---- a client that falls

put_here : (w : World) (c : ℕ) (s : Client) → lookup (is_at (nat_cmp c)) (insert_entry nat_cmp w.clients c s) ≡ Some s
put_here w c s = lookup-insert nat_cmp nat_cmp_total w.clients c s c ∙ ap (λ (b : Bool). cond b (Some s) (client_at w c)) (unsigned_tied c c ∙ eq-eqb c c refl)

crashes_idle : (c : ℕ) (d : ClientDisk) (agenda : Option (List ClientTask))
    → has_work (tasks_in (client_step c no_shape (record { disk = d; agenda = agenda }) (Crash messages.FailedBefore)).client.agenda) ≡ false
crashes_idle c d None = refl
crashes_idle c d (Some []) = refl
crashes_idle c d (Some (task ∷ more)) = refl

falls_idle : (w : World) (c : ℕ) → has_work (client_tasks (client_at w c)) ≡ false → has_work (client_tasks (client_at (client_falls c w).world c)) ≡ false
falls_idle w c idle = by (client_at w c) refl
  where
    by : (o : Option Client) → client_at w c ≡ o → has_work (client_tasks (client_at (client_falls c w).world c)) ≡ false
    by None at = ap (λ (o : Option Client). has_work (client_tasks (client_at (move_there w c (Crash messages.FailedBefore) no_shape o).world c))) at ∙ idle
    by (Some s) at =
        ap (λ (o : Option Client). has_work (client_tasks (client_at (move_there w c (Crash messages.FailedBefore) no_shape o).world c))) at
        ∙ (ap (λ (o : Option Client). has_work (client_tasks o)) (put_here w c (client_step c no_shape s (Crash messages.FailedBefore)).client) ∙ crashes_idle c s.disk s.agenda)

-- ---- what a client is asked for isn't answered by a device fault

abbrev pub is_asked : ClientMove → Bool
is_asked (Write table row content) = true
is_asked (Change table row edit) = true
is_asked (Show table row) = true
is_asked (Sum table row) = true
is_asked (Sync table) = true
is_asked (Next table tears asks) = true
is_asked (BeginCr table) = true
is_asked (EndCr table) = true
is_asked (Resolve table row version choice) = true
is_asked (Alter table change) = true
is_asked (Take message) = true
is_asked other = false

pub asks_are : (ask : Ask) → is_asked (move_of ask) ≡ true
asks_are (asks.Write table row content) = refl
asks_are (asks.Edit table row edit) = refl
asks_are (asks.Show table row) = refl
asks_are (asks.Sum table row) = refl
asks_are (asks.Sync table) = refl
asks_are (asks.Pull table) = refl
asks_are (asks.BeginCr table) = refl
asks_are (asks.EndCr table) = refl
asks_are (asks.Resolve table row version choice) = refl

down_never : (c : ℕ) (shape : Shape) (d : ClientDisk) (move : ClientMove) → is_asked move ≡ true
    → (client_step c shape (record { disk = d; agenda = None }) move).answer ≢ facts.Refuses facts.NoDevice
down_never c shape d (Write table row content) asked = λ is. absurd cc
down_never c shape d (Change table row edit) asked = λ is. absurd cc
down_never c shape d (Show table row) asked = λ is. absurd cc
down_never c shape d (Sum table row) asked = λ is. absurd cc
down_never c shape d (Sync table) asked = λ is. absurd cc
down_never c shape d (Next table tears asks) asked = λ is. absurd cc
down_never c shape d (Alter table change) asked = λ is. absurd cc
down_never c shape d (Take message) asked = λ is. absurd cc
down_never c shape d (BeginCr table) asked = λ is. absurd cc
down_never c shape d (Conflicts table) asked = λ is. absurd cc
down_never c shape d (EndCr table) asked = λ is. absurd cc
down_never c shape d (Resolve table row version choice) asked = λ is. absurd cc
down_never c shape d (ResolveAll table by) asked = λ is. absurd cc
down_never c shape d (Work luck) asked = absurd cc
down_never c shape d (Crash luck) asked = absurd cc
down_never c shape d Start asked = absurd cc

up_never : (c : ℕ) (shape : Shape) (d : ClientDisk) (tasks : List ClientTask) (move : ClientMove) → is_asked move ≡ true
    → (client_step c shape (record { disk = d; agenda = Some tasks }) move).answer ≢ facts.Refuses facts.NoDevice
up_never c shape d tasks (Write table row content) asked = λ is. (write_only c shape d tasks table row content (table_at (seen d) table) facts.NoDevice is).1 refl
up_never c shape d tasks (Change table row edit) asked = λ is. (edit_only c shape d tasks table row edit (table_at (seen d) table) facts.NoDevice is).1 refl
up_never c shape d tasks (Show table row) asked = λ is. (show_only d tasks row (table_at (seen d) table) facts.NoDevice is).1 refl
up_never c shape d tasks (Sum table row) asked = λ is. (sum_only d tasks row (table_at (seen d) table) facts.NoDevice is).1 refl
up_never c shape d tasks (Sync table) asked = λ is. (sync_only c shape d tasks table (table_at (seen d) table) facts.NoDevice is).1 refl
up_never c shape d tasks (Next table tears asks) asked = λ is. (next_only c shape d tasks table tears asks (table_at (seen d) table) facts.NoDevice is).1 refl
up_never c shape d tasks (Alter table change) asked = λ is. (alter_only c shape d tasks table change facts.NoDevice is).1 refl
up_never c shape d tasks (Take message) asked = λ is. (take_only c shape d tasks message facts.NoDevice is).1 refl
up_never c shape d tasks (BeginCr table) asked = λ is. (phase_only d tasks (table_at (seen d) table) facts.NoDevice is).1 refl
up_never c shape d tasks (Conflicts table) asked = absurd cc
up_never c shape d tasks (EndCr table) asked = λ is. (phase_only d tasks (table_at (seen d) table) facts.NoDevice is).1 refl
up_never c shape d tasks (Resolve table row version choice) asked = λ is. (resolve_only c shape d tasks table row version choice (table_at (seen d) table) facts.NoDevice is).1 refl
up_never c shape d tasks (ResolveAll table by) asked = absurd cc
up_never c shape d tasks (Work luck) asked = absurd cc
up_never c shape d tasks (Crash luck) asked = absurd cc
up_never c shape d tasks Start asked = absurd cc

never : (c : ℕ) (shape : Shape) (d : ClientDisk) (agenda : Option (List ClientTask)) (move : ClientMove) → is_asked move ≡ true
    → (client_step c shape (record { disk = d; agenda = agenda }) move).answer ≢ facts.Refuses facts.NoDevice
never c shape d None move asked = down_never c shape d move asked
never c shape d (Some tasks) move asked = up_never c shape d tasks move asked

-- ---- calls

module _ (w : World) (c : ℕ) (move : ClientMove) (asked : is_asked move ≡ true) (shape : Shape) (lucks : List Luck) where
  move_never : (s : Client) → client_at w c ≡ Some s → (move_alone w c move shape s).answer ≢ Some (facts.Refuses facts.NoDevice)
  move_never s at is =
      let step : ClientStep = client_step c shape s move in
      let failed = ap (λ (o : Option Client). (move_there w c move shape o).failed) at in
      never c shape s.disk s.agenda move asked
      (sym (ap (λ (b : Bool). if b then facts.Refuses facts.NoDevice else step.answer) failed ∙ given_is step.answer) ∙ some_same _ (facts.Refuses facts.NoDevice) is)

  there_fallen : has_work (client_tasks (client_at w c)) ≡ false → (o : Option Client) → client_at w c ≡ o
      → (alone_there w c move shape lucks o).answer ≡ Some (facts.Refuses facts.NoDevice)
      → has_work (client_tasks (client_at (alone_there w c move shape lucks o).world c)) ≡ false
  there_fallen idle o at = alone_cases w c move shape lucks
      (λ s. s.answer ≡ Some (facts.Refuses facts.NoDevice) → has_work (client_tasks (client_at s.world c)) ≡ false)
      (λ r is. idle) (λ is. falls_idle w c idle) (λ s there is. absurd (move_never s there is)) o at

  there_first : (more : List Luck) (o : Option Client) → alone_there w c move shape (first_luck lucks ∷ more) o ≡ alone_there w c move shape lucks o
  there_first more None = refl
  there_first more (Some s) = refl

pub call_event : (w : World) (c : ℕ) (move : ClientMove) → is_asked move ≡ true → IsEvent w c (call w c move) (call_alone w c move)
call_event w c move asked = record {
  held = λ shape lucks on_hold. call_held w c move shape lucks on_hold;
  busy = λ shape lucks busy. call_busy w c move shape lucks busy;
  idle = λ shape lucks idle free. call_idle w c move shape lucks idle free;
  first = λ shape lucks more. there_first w c move asked shape lucks more (client_at w c);
  fallen = λ shape lucks idle is. there_fallen w c move asked shape lucks idle (client_at w c) refl is;
}

-- ---- messages

module _ (w : World) (c : ℕ) (message : Sent) (shape : Shape) (lucks : List Luck) where
  take_fallen : has_work (client_tasks (client_at w c)) ≡ false → (o : Option Client) → client_at w c ≡ o
      → (take_there w c (message_of message) shape lucks o).answer ≡ Some (facts.Refuses facts.NoDevice)
      → has_work (client_tasks (client_at (take_there w c (message_of message) shape lucks o).world c)) ≡ false
  take_fallen idle None at is = idle
  take_fallen idle (Some s) at is = there_fallen w c (Take (message_of message)) refl shape lucks idle (Some s) at is

  take_first : (more : List Luck) (o : Option Client) → take_there w c (message_of message) shape (first_luck lucks ∷ more) o ≡ take_there w c (message_of message) shape lucks o
  take_first more None = refl
  take_first more (Some s) = refl

pub take_event : (w : World) (c : ℕ) (message : Sent)
    → IsEvent w c (λ shape lucks. to_there w c (message_of message) shape lucks (client_at w c)) (take_alone w c (message_of message))
take_event w c message = record {
  held = λ shape lucks on_hold. take_held w c (message_of message) shape lucks on_hold;
  busy = λ shape lucks busy. take_busy w c (message_of message) shape lucks busy;
  idle = λ shape lucks idle free. take_idle w c (message_of message) shape lucks idle free;
  first = λ shape lucks more. take_first w c message shape lucks more (client_at w c);
  fallen = λ shape lucks idle is. take_fallen w c message shape lucks idle (client_at w c) refl is;
}

fits_table : (o : Option TableDisk) (h : Option Header) → FitsTable o h ⊎ (FitsTable o h → ⊥)
fits_table None h = inl tt
fits_table (Some table) None = inl tt
fits_table (Some table) (Some header) = go (fit_of table.schema header.content)
  where
    go : (r : Result (Unit {0}) FitFault) → (r ≡ Ok tt) ⊎ ((r ≡ Ok tt) → ⊥)
    go (Ok u) = inl refl
    go (Err e) = inr (λ is. absurd cc)

fits_client : (d : ClientDisk) (message : Message) → FitsClient d message ⊎ (FitsClient d message → ⊥)
fits_client d (PullResponse pulled) = fits_table (table_at (seen d) pulled.table) pulled.header
fits_client d (SyncRequest request) = inl tt
fits_client d (SyncResponse response) = inl tt
fits_client d (PullRequest pull) = inl tt
fits_client d (TornRowRequest torn) = inl tt
fits_client d (TornRowResponse answer) = fits_table (table_at (seen d) answer.table) answer.header

fits_there : (o : Option Client) (message : Sent) → FitsThere o message ⊎ (FitsThere o message → ⊥)
fits_there None message = inl tt
fits_there (Some s) message = fits_client s.disk (message_of message)

pub fits_or : (w : World) (c : ℕ) (message : Sent) → FitsMessage w c message ⊎ (FitsMessage w c message → ⊥)
fits_or w c message = fits_there (client_at w c) message

-- as the clients' own contracts say it
pub fits_to : (ask : _) (o : Option Client) (message : Sent) → ((d : ClientDisk) → FitsClient d (message_of message) → FitsDisk d ask) → FitsThere o message → FitsAt o ask
fits_to ask None message to fits = tt
fits_to ask (Some s) message to fits = to s.disk fits

pub fits_from : (ask : _) (o : Option Client) (message : Sent) → ((d : ClientDisk) → FitsDisk d ask → FitsClient d (message_of message)) → FitsAt o ask → FitsThere o message
fits_from ask None message to fits = tt
fits_from ask (Some s) message to fits = to s.disk fits

-- ---- starts

then_none : (s : WorldStep) (f : World → Moved) → f s.world ≡ still s.world → then_moves s f ≡ s
then_none s f none =
    ap (λ (m : Moved). record { world = m.world; answer = if m.failed then Some (facts.Refuses facts.NoDevice) else s.answer; counted = s.counted; outs = s.outs ++ m.outs }) none
    ∙ ap (λ (outs : List Outbox). record s { outs = outs }) (append-nil s.outs)

then_same : (s : WorldStep) (f g : World → Moved) → f s.world ≡ g s.world → then_moves s f ≡ then_moves s g
then_same s f g same = ap (λ (m : Moved). record { world = m.world; answer = if m.failed then Some (facts.Refuses facts.NoDevice) else s.answer; counted = s.counted; outs = s.outs ++ m.outs }) same

idle_works : (w : World) (c : ℕ) (lucks : List Luck) → has_work (client_tasks (client_at w c)) ≡ false → client_until_idle c lucks w ≡ still w
idle_works w c lucks idle = by (client_tasks (client_at w c)) idle
  where
    by : (tasks : List ClientTask) → has_work tasks ≡ false → client_works c tasks lucks w ≡ still w
    by [] is = refl
    by (task ∷ more) is = absurd cc

down_idle : (o : Option Client) → is_client_down o ≡ true → has_work (client_tasks o) ≡ false
down_idle None down = refl
down_idle (Some s) down = by s.agenda down
  where
    by : (agenda : Option (List ClientTask)) → is_client_down (Some (record s { agenda = agenda })) ≡ true → has_work (tasks_in agenda) ≡ false
    by None is = refl
    by (Some tasks) is = absurd cc

module _ (w : World) (c : ℕ) (shape : Shape) (lucks : List Luck) where
  abbrev alone : WorldStep
  alone = start_alone w c shape lucks

  abbrev event : WorldStep
  event = started w shape lucks (nodes.Client c)

  move_holds : (o : Option Client) → (move_there w c Start shape o).world.holds ≡ w.holds
  move_holds None = refl
  move_holds (Some s) = refl

  start_well : (agenda : Option (List ClientTask)) (d : ClientDisk) → is_fault (client_step c shape (record { disk = d; agenda = agenda }) Start).answer ≡ false
  start_well None d = refl
  start_well (Some tasks) d = refl

  move_well : (o : Option Client) → (move_there w c Start shape o).failed ≡ false
  move_well None = refl
  move_well (Some s) = start_well s.agenda s.disk

  alone_holds : alone.world.holds ≡ w.holds
  alone_holds = by (is_down w (nodes.Client c))
    where
      luck : (x : Luck) → (starts_alone c shape x w).world.holds ≡ w.holds
      luck messages.Done = move_holds (client_at w c)
      luck messages.FailedBefore = refl
      luck messages.FailedAfter = refl

      by : (b : Bool) → (if b then answering facts.Done (starts_alone c shape (first_luck lucks) w) else answered w facts.Done).world.holds ≡ w.holds
      by true = luck (first_luck lucks)
      by false = refl

  after_hold : (b : Bool) → has_node w.holds (nodes.Client c) ≡ b → has_node alone.world.holds (nodes.Client c) ≡ b
  after_hold b is = ap (λ (hs : List Node). has_node hs (nodes.Client c)) alone_holds ∙ is

  start_held : has_node w.holds (nodes.Client c) ≡ true → event ≡ alone
  start_held on_hold = by (is_down w (nodes.Client c)) refl
    where
      by : (b : Bool) → is_down w (nodes.Client c) ≡ b → event ≡ alone
      by true down = start_follows w c shape lucks down ∙ then_none alone (client_follows c (other_lucks lucks))
          (ap (λ (b : Bool). if b then still alone.world else client_until_idle c (other_lucks lucks) alone.world) (after_hold true on_hold))
      by false up = start_up w c shape lucks up

  start_busy : has_work (client_tasks (client_at w c)) ≡ true → event ≡ alone
  start_busy busy = by (is_down w (nodes.Client c)) refl
    where
      by : (b : Bool) → is_down w (nodes.Client c) ≡ b → event ≡ alone
      by true down = absurd (let none = down_idle (client_at w c) down in cc)
      by false up = start_up w c shape lucks up

  start_idle : has_work (client_tasks (client_at w c)) ≡ false → has_node w.holds (nodes.Client c) ≡ false
      → event ≡ then_moves alone (client_until_idle c (other_lucks lucks))
  start_idle idle free = by (is_down w (nodes.Client c)) refl
    where
      none : then_moves (answered w facts.Done) (client_until_idle c (other_lucks lucks)) ≡ answered w facts.Done
      none = then_none (answered w facts.Done) (client_until_idle c (other_lucks lucks)) (idle_works w c (other_lucks lucks) idle)

      by : (b : Bool) → is_down w (nodes.Client c) ≡ b → event ≡ then_moves alone (client_until_idle c (other_lucks lucks))
      by true down = start_follows w c shape lucks down ∙ then_same alone (client_follows c (other_lucks lucks)) (client_until_idle c (other_lucks lucks))
          (ap (λ (b : Bool). if b then still alone.world else client_until_idle c (other_lucks lucks) alone.world) (after_hold false free))
      by false up = rw up (sym none)

  start_fallen : has_work (client_tasks (client_at w c)) ≡ false → alone.answer ≡ Some (facts.Refuses facts.NoDevice)
      → has_work (client_tasks (client_at alone.world c)) ≡ false
  start_fallen idle = by (is_down w (nodes.Client c))
    where
      moved : (answering facts.Done (move_client c Start shape w)).answer ≡ Some (facts.Refuses facts.NoDevice)
          → has_work (client_tasks (client_at (move_client c Start shape w).world c)) ≡ false
      moved is = absurd
          (let e = ap (λ (b : Bool). if b then facts.Refuses facts.NoDevice else facts.Done) (sym (move_well (client_at w c))) ∙ some_same _ (facts.Refuses facts.NoDevice) is in
          done_isnt e)
        where
          done_isnt : facts.Done ≡ facts.Refuses facts.NoDevice → ⊥
          done_isnt e = absurd cc

      luck : (x : Luck) → (answering facts.Done (starts_alone c shape x w)).answer ≡ Some (facts.Refuses facts.NoDevice)
          → has_work (client_tasks (client_at (starts_alone c shape x w).world c)) ≡ false
      luck messages.Done is = moved is
      luck messages.FailedBefore is = idle
      luck messages.FailedAfter is = idle

      by : (b : Bool) → (if b then answering facts.Done (starts_alone c shape (first_luck lucks) w) else answered w facts.Done).answer ≡ Some (facts.Refuses facts.NoDevice)
          → has_work (client_tasks (client_at (if b then answering facts.Done (starts_alone c shape (first_luck lucks) w) else answered w facts.Done).world c)) ≡ false
      by true is = luck (first_luck lucks) is
      by false is = idle

pub start_event : (w : World) (c : ℕ) → IsEvent w c (λ shape lucks. started w shape lucks (nodes.Client c)) (start_alone w c)
start_event w c = record {
  held = λ shape lucks on_hold. start_held w c shape lucks on_hold;
  busy = λ shape lucks busy. start_busy w c shape lucks busy;
  idle = λ shape lucks idle free. start_idle w c shape lucks idle free;
  first = λ shape lucks more. refl;
  fallen = λ shape lucks idle is. start_fallen w c shape lucks idle is;
}

-- ---- no work follows a move that leaves its client

module _ (w : World) (c : ℕ) (move : ClientMove) (shape : Shape) (lucks : List Luck)
    (still : (d : ClientDisk) (agenda : Option (List ClientTask)) → (client_step c shape (record { disk = d; agenda = agenda }) move).client ≡ record { disk = d; agenda = agenda }) where
  abbrev looking : WorldStep
  looking = call_alone w c move shape lucks

  looks_idle : has_work (client_tasks (client_at w c)) ≡ false → has_work (client_tasks (client_at looking.world c)) ≡ false
  looks_idle idle = alone_cases w c move shape lucks (λ s. has_work (client_tasks (client_at s.world c)) ≡ false) (λ r. idle) (falls_idle w c idle) moves (client_at w c) refl
    where
      moves : (node : Client) → client_at w c ≡ Some node → has_work (client_tasks (client_at (move_alone w c move shape node).world c)) ≡ false
      moves node at =
          ap (λ (o : Option Client). has_work (client_tasks (client_at (move_there w c move shape o).world c))) at
          ∙ (ap (λ (o : Option Client). has_work (client_tasks o)) (put_here w c (client_step c shape node move).client)
          ∙ (ap (λ (s : Client). has_work (client_tasks (Some s))) (still node.disk node.agenda)
          ∙ (ap (λ (o : Option Client). has_work (client_tasks o)) (sym at) ∙ idle)))

  pub looks_alone : call w c move shape lucks ≡ looking
  looks_alone = by_work (has_work (client_tasks (client_at w c))) refl
    where
      by_hold : has_work (client_tasks (client_at w c)) ≡ false → (b : Bool) → has_node w.holds (nodes.Client c) ≡ b → call w c move shape lucks ≡ looking
      by_hold idle true is = call_held w c move shape lucks is
      by_hold idle false is = call_idle w c move shape lucks idle is
          ∙ then_none looking (client_until_idle c (other_lucks lucks)) (idle_works looking.world c (other_lucks lucks) (looks_idle idle))

      by_work : (b : Bool) → has_work (client_tasks (client_at w c)) ≡ b → call w c move shape lucks ≡ looking
      by_work true is = call_busy w c move shape lucks is
      by_work false is = by_hold is (has_node w.holds (nodes.Client c)) refl

-- a list of the rows in conflict is one

conflicts_still : (c : ℕ) (shape : Shape) (table : ℕ) (d : ClientDisk) (agenda : Option (List ClientTask))
    → (client_step c shape (record { disk = d; agenda = agenda }) (Conflicts table)).client ≡ record { disk = d; agenda = agenda }
conflicts_still c shape table d None = refl
conflicts_still c shape table d (Some tasks) = go (table_at (seen d) table)
  where
    go : (o : Option TableDisk) → (conflicts_in d tasks o).client ≡ record { disk = d; agenda = Some tasks }
    go None = refl
    go (Some opened) = refl

pub lists_whole : {D : Type 0} (state : D → DiskState) (old new : ClientHost D) (w : World) (c table : ℕ) (pairs : List RowPair) (result : Result Answer ClientFault)
    → Lists state old new (call_alone w c (Conflicts table)) pairs result → Lists state old new (call w c (Conflicts table)) pairs result
lists_whole state old new w c table pairs (Ok answer) k =
    (k.0, k.1, subst (λ (s : WorldStep). IsListed state old new s pairs answer) (sym (looks_alone w c (Conflicts table) k.0 k.1 (conflicts_still c k.0 table))) k.2)
lists_whole state old new w c table pairs (Err fault) k = tt
