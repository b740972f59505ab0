-- Every event tells as resolved only what was asked for, and so does every run.
use Rattle.std.proofs.Common.{◌≡◌, ℕ, Bool, true, false, List, [], ◌∷◌, ◌++◌, length, Option, Some, None, refl, sym, ◌∙◌, subst, append-nil, map}
use Rattle.std.specs.Prelude.{◌&&◌, ◌||◌, if◌then◌else◌}
use Rattle.row_value.specs.declared.schema.Schema.{Schema}
use Rattle.stab_base.specs.declared.node.Node.{Node}
use Rattle.stab_base.specs.declared.node.Node.TheVariants as nodes
use Rattle.table_model.specs.declared.event.Event.{Event}
use Rattle.table_model.specs.declared.event.Event.TheVariants as events
use Rattle.table_model.specs.declared.table_state.TableState.TheVariants as states
use Rattle.step_tables.specs.Facts.{Answer, Refusal, Line, AnswerLine, EntryLine, PairLine}
use Rattle.step_tables.specs.Facts as facts
use Rattle.step_tables.specs.Messages.{Luck, table_of}
use Rattle.step_tables.specs.Messages as messages
use Rattle.step_tables.specs.StoreMoves as store
use Rattle.step_tables.specs.StoreMoves.{SidePut, StoreTask, StoreMove}
use Rattle.step_tables.specs.ClientMoves as client
use Rattle.step_tables.specs.ClientMoves.{Client, ClientTask, ClientMove, Shape, client_step}
use Rattle.world_tables.specs.World.{World, Packet, Hosted, Moved, WorldStep, owner_of, has_store, hosted_by, client_at, is_down, lines_of, lines_from, still, and_then, failing}
use Rattle.world_tables.specs.World.{move_table, move_client, first_luck, other_lucks, client_tasks, client_until_idle, client_writes, client_starts, client_crashes, client_falls, client_follows_from, table_step}
use Rattle.world_tables.specs.World.{store_falls, busy_table, write_next, store_until_idle, table_follows, store_crashes, store_starts, crash_luck, answering, answered, refused, unless_down}
use Rattle.world_tables.specs.World.{call_there, call, listed, schema_at, puts_beside, opens, created, dropped}
use Rattle.world_tables.specs.World.{take_read, take_at, to_hosted, to_there, carried, delivered, row_read, store_shows, chunk_names, history_lines, worked, all_worked, crashed, started, with_link, linked}
use Rattle.world_laws.proofs.Calls.{call_is}
use Rattle.world_tables.specs.Quiet.{answer_in, sent_in}
use Rattle.asked_laws.specs.Asked.{Asked, lets_resolve, answered_asked, lines_asked, LinesAsked}
use Rattle.asked_laws.proofs.Tellings.{packets_in, moves_sent, entries_sent, pairs_sent, moves_lines, moves_told, entries_asked, entries_told, pairs_asked, pairs_told}
use Rattle.asked_laws.proofs.Fine.{Keeps, fine_on}
use Rattle.asked_laws.proofs.ClientMoves.{WasAsked}
use Rattle.asked_laws.proofs.Worlds.{AreFine, Goes, still_goes, then_goes, failing_goes, table_goes, client_goes, client_works_go, follows_from_goes, client_writes_go, client_falls_goes}
use Rattle.asked_laws.proofs.Worlds.{client_starts_go, store_falls_goes, write_goes, until_idle_goes, table_follows_goes, store_starts_go, store_crashes_go}

-- ---- an answer asks for more, and for no less

or_more : (x y : Bool) → x ≡ true → (x || y) ≡ true
or_more true y is = refl
or_more false y is = absurd cc

pub or_too : (x y : Bool) → y ≡ true → (x || y) ≡ true
or_too true y is = refl
or_too false y is = is

answer_keeps : (a : Asked) (event : Event) (answer : Answer) (c : ℕ) → Keeps c a (answered_asked event answer a)
answer_keeps a (events.Resolve client table row seen choice) answer c t r is = or_more (a c t r) _ is
answer_keeps a (events.ResolveAll client table by) answer c t r is = or_more (a c t r) _ is
answer_keeps a other answer c t r is = is

pub answered_fine : (a : Asked) (w : World) (event : Event) (answer : Answer) → AreFine a w → AreFine (answered_asked event answer a) w
answered_fine a w event answer fine = (fine.0, λ q node at. fine_on q a (answered_asked event answer a) (answer_keeps a event answer q) node (fine.1 q node at))

-- ---- an event

pub record StepGoes (a : Asked) (w : World) (event : Event) (s : WorldStep) : Type 0 where
  pub asked : LinesAsked event a (lines_of w s)
  pub fine : AreFine (lines_asked event (lines_of w s) a) s.world
  pub answer : answer_in (lines_of w s) ≡ s.answer
  pub sent : sent_in (lines_of w s) ≡ map (λ (p : Packet). p.to) (packets_in s.outs)
  pub packets : s.world.packets ≡ w.packets ++ packets_in s.outs

-- an answer, and what some moves told behind it
pub told_goes : (a : Asked) (w : World) (event : Event) (answer : Answer) (m : Moved) → Goes (answered_asked event answer a) w.packets m
    → StepGoes a w event (record { world = m.world; answer = Some answer; counted = []; outs = m.outs })
told_goes a w event answer m g =
    let b : Asked = answered_asked event answer a in
    record {
      asked = (tt, moves_told event b (length w.packets) m.outs g.asked);
      fine = subst (λ (x : Asked). AreFine x m.world) (sym (moves_lines event b (length w.packets) m.outs)) g.fine;
      answer = refl;
      sent = moves_sent (length w.packets) m.outs g.unsent;
      packets = g.packets;
    }

pub answering_goes : (a : Asked) (w : World) (event : Event) (answer : Answer) (m : Moved) → ((final : Answer) → Goes (answered_asked event final a) w.packets m) → StepGoes a w event (answering answer m)
answering_goes a w event answer m g = go m.failed
  where
    go : (b : Bool) → StepGoes a w event (record { world = m.world; answer = Some (if b then facts.Refuses facts.NoDevice else answer); counted = []; outs = m.outs })
    go true = told_goes a w event (facts.Refuses facts.NoDevice) m (g (facts.Refuses facts.NoDevice))
    go false = told_goes a w event answer m (g answer)

module _ (a : Asked) (w : World) (fine : AreFine a w) (event : Event) where
  pub later : (answer : Answer) → AreFine (answered_asked event answer a) w
  later answer = answered_fine a w event answer fine

  -- a world whose clients and tables are the same
  pub answered_goes : (answer : Answer) → StepGoes a w event (answered w answer)
  answered_goes answer = answering_goes a w event answer (still w) (λ final. still_goes (answered_asked event final a) w (later final))

  pub down_goes : (node : Node) (s : WorldStep) → StepGoes a w event s → StepGoes a w event (unless_down w node s)
  down_goes node s there = go (is_down w node)
    where
      go : (b : Bool) → StepGoes a w event (if b then refused w (facts.NodeDown node) else s)
      go true = answered_goes (facts.Refuses (facts.NodeDown node))
      go false = there

  pub unread_goes : (c : ℕ) → StepGoes a w event (answering facts.Done (failing (client_falls c w)))
  unread_goes c = answering_goes a w event facts.Done (failing (client_falls c w))
      (λ final. failing_goes (answered_asked event final a) (client_falls c w) (client_falls_goes c (answered_asked event final a) w (later final)))

  failed_goes : (node : ℕ) → StepGoes a w event (answering facts.Done (failing (store_falls node w)))
  failed_goes node = answering_goes a w event facts.Done (failing (store_falls node w))
      (λ final. failing_goes (answered_asked event final a) (store_falls node w) (store_falls_goes node (answered_asked event final a) w (later final)))

  -- ---- a call of a client

  module _ (c : ℕ) (move : ClientMove) (shape : Shape) (lucks : List Luck) where
    -- a move with the work that follows
    pub called_goes : (b : Asked) → AreFine b w → (node : Client) → client_at w c ≡ Some node → WasAsked b c move (client_step c shape node move).answer
        → Goes b w.packets (and_then (move_client c move shape w) (client_follows_from node.agenda c lucks))
    called_goes b now node at was =
        then_goes b (move_client c move shape w) (client_follows_from node.agenda c lucks)
        (client_goes b w c move shape now (λ found there. let both : Some node ≡ Some found = sym at ∙ there in let same : node ≡ found = cc in
        subst (λ (y : Client). WasAsked b c move (client_step c shape y move).answer) same was))
        (λ x then_fine. follows_from_goes node.agenda c lucks x _ then_fine)

  -- where what the move resolves was asked for by the event, whatever answer lets it
  pub call_goes : (c : ℕ) (move : ClientMove) (shape : Shape) (lucks : List Luck)
      → ((node : Client) (final : Answer) → (lets_resolve (client_step c shape node move).answer ≡ true → lets_resolve final ≡ true)
      → WasAsked (answered_asked event final a) c move (client_step c shape node move).answer)
      → (o : Option Client) → client_at w c ≡ o → StepGoes a w event (call_there w c move shape lucks o)
  call_goes c move shape lucks was o at =
      call_is (λ (x : WorldStep). StepGoes a w event x) w c move shape lucks (λ r before. answered_goes (facts.Refuses r)) (unread_goes c) (λ take. answered_goes facts.Done) does o at
    where
      does : (node : Client) → client_at w c ≡ Some node
          → StepGoes a w event (answering (client_step c shape node move).answer (and_then (move_client c move shape w) (client_follows_from node.agenda c (other_lucks lucks))))
      does node is = go m.failed
        where
          m : Moved
          m = and_then (move_client c move shape w) (client_follows_from node.agenda c (other_lucks lucks))

          told : (final : Answer) → (lets_resolve (client_step c shape node move).answer ≡ true → lets_resolve final ≡ true)
              → StepGoes a w event (record { world = m.world; answer = Some final; counted = []; outs = m.outs })
          told final lets = told_goes a w event final m (called_goes c move shape (other_lucks lucks) (answered_asked event final a) (later final) node is (was node final lets))

          go : (b : Bool) → StepGoes a w event (record { world = m.world; answer = Some (if b then facts.Refuses facts.NoDevice else (client_step c shape node move).answer); counted = []; outs = m.outs })
          go true = told (facts.Refuses facts.NoDevice) (λ e. refl)
          go false = told (client_step c shape node move).answer (λ e. e)

  -- ---- deliveries

  hosted_goes : (table : ℕ) (move : StoreMove) (lucks : List Luck) (o : Option Hosted) → StepGoes a w event (to_hosted w table move lucks o)
  hosted_goes table move lucks None = answered_goes facts.Done
  hosted_goes table move lucks (Some hosted) = go hosted.store.agenda
    where
      first : (b : Asked) → AreFine b w → Goes b w.packets (move_table table move w)
      first b now = table_goes b w table move now

      alone : StepGoes a w event (answering (table_step w table hosted move).answer (move_table table move w))
      alone = answering_goes a w event _ (move_table table move w) (λ final. first (answered_asked event final a) (later final))

      reads : (luck : Luck) → StepGoes a w event (take_read w table hosted move (other_lucks lucks) luck)
      reads messages.FailedBefore = failed_goes (owner_of w table)
      reads messages.FailedAfter = failed_goes (owner_of w table)
      reads messages.Done =
          answering_goes a w event (table_step w table hosted move).answer
          (and_then (move_table table move w) (table_follows table (other_lucks lucks)))
          (λ final. then_goes (answered_asked event final a) (move_table table move w) (table_follows table (other_lucks lucks))
          (first (answered_asked event final a) (later final)) (λ b now. table_follows_goes table (other_lucks lucks) b (move_table table move w).world now))

      go : (o : Option (List StoreTask)) → StepGoes a w event (take_at w table hosted move lucks o)
      go None = alone
      go (Some (task ∷ more)) = alone
      go (Some []) = reads (first_luck lucks)

  carried_goes : (p : Packet) (shape : Shape) (lucks : List Luck) (to : Node) → StepGoes a w event (carried w p shape lucks to)
  carried_goes p shape lucks (nodes.Store number) = down_goes (nodes.Store number) _ (hosted_goes (table_of p.message) (store.Take p.from p.message) lucks (hosted_by w number (table_of p.message)))
  carried_goes p shape lucks (nodes.Gate gate) = answered_goes facts.Done
  carried_goes p shape lucks (nodes.Client c) = go (client_at w c) refl
    where
      go : (o : Option Client) → client_at w c ≡ o → StepGoes a w event (to_there w c p.message shape lucks o)
      go None at = answered_goes facts.Done
      go (Some node) at = call_goes c (client.Take p.message) shape lucks (λ x final lets. tt) (Some node) at

  pub delivered_goes : (shape : Shape) (lucks : List Luck) (o : Option Packet) → StepGoes a w event (delivered w shape lucks o)
  delivered_goes shape lucks None = answered_goes (facts.Refuses (facts.NoPacket (length w.packets)))
  delivered_goes shape lucks (Some p) = carried_goes p shape lucks p.to

  -- ---- what the Store has

  pub shows_go : (table : ℕ) (row : List ℕ) (lucks : List Luck) (o : Option Hosted) → StepGoes a w event (store_shows w table row lucks o)
  shows_go table row lucks None = answered_goes (facts.Refuses facts.NoTable)
  shows_go table row lucks (Some hosted) = down_goes (nodes.Store (owner_of w table)) _ (read (first_luck lucks))
    where
      read : (luck : Luck) → StepGoes a w event (row_read w table hosted row luck)
      read messages.Done = answered_goes _
      read messages.FailedBefore = failed_goes (owner_of w table)
      read messages.FailedAfter = failed_goes (owner_of w table)

  pub chunks_go : (table : ℕ) (o : Option Hosted) → StepGoes a w event (chunk_names w table o)
  chunks_go table None = answered_goes (facts.Refuses facts.NoTable)
  chunks_go table (Some hosted) = down_goes (nodes.Store (owner_of w table)) _ (answered_goes _)

  pub history_goes : (table : ℕ) (o : Option Hosted) → StepGoes a w event (history_lines w table o)
  history_goes table None = answered_goes (facts.Refuses facts.NoTable)
  history_goes table (Some hosted) =
      let number : Answer = facts.Number (length hosted.history) in
      let b : Asked = answered_asked event number a in
      record {
        asked = (tt, entries_told event b table hosted.history [] tt);
        fine = subst (λ (x : Asked). AreFine x w) (sym (entries_asked event b table hosted.history [])) (later number);
        answer = refl;
        sent = entries_sent table hosted.history [];
        packets = sym (append-nil w.packets);
      }

  -- ---- tables that are made and dropped

  pub puts_go : (number table : ℕ) (put : SidePut) (lucks : List Luck) → StepGoes a w event (puts_beside w number table put lucks)
  puts_go number table put lucks = down_goes (nodes.Store number) _ (hosted_goes table (store.Place put) lucks (hosted_by w number table))

  opens_go : (c table : ℕ) (shape : Shape) (lucks : List Luck) (o : Option Schema) → StepGoes a w event (opens w c table shape lucks o)
  opens_go c table shape lucks None = answered_goes facts.Done
  opens_go c table shape lucks (Some schema) = call_goes c (client.Alter table (client.Opens schema)) shape lucks (λ node final lets. tt) (client_at w c) refl

  pub created_goes : (table : ℕ) (shape : Shape) (lucks : List Luck) (node : Node) → StepGoes a w event (created w table shape lucks node)
  created_goes table shape lucks (nodes.Store number) = puts_go number table (store.PutState states.Live) lucks
  created_goes table shape lucks (nodes.Client c) = opens_go c table shape lucks (schema_at w table)
  created_goes table shape lucks (nodes.Gate gate) = answered_goes facts.Done

  pub dropped_goes : (table : ℕ) (shape : Shape) (lucks : List Luck) (node : Node) → StepGoes a w event (dropped w table shape lucks node)
  dropped_goes table shape lucks (nodes.Store number) = puts_go number table (store.PutState states.Dropped) lucks
  dropped_goes table shape lucks (nodes.Client c) = call_goes c (client.Alter table client.Closes) shape lucks (λ node final lets. tt) (client_at w c) refl
  dropped_goes table shape lucks (nodes.Gate gate) = answered_goes facts.Done

  -- ---- what is done to a node

  pub link_goes : (c : ℕ) (up : Bool) (o : Option Client) → StepGoes a w event (linked w c up o)
  link_goes c up None = answered_goes facts.Done
  link_goes c up (Some node) = down_goes (nodes.Client c) _ (moved up)
    where
      moved : (b : Bool) → StepGoes a w event (answered (with_link c b w) facts.Done)
      moved true = answering_goes a w event facts.Done (still (with_link c true w)) (λ final. still_goes (answered_asked event final a) (with_link c true w) (later final))
      moved false = answering_goes a w event facts.Done (still (with_link c false w)) (λ final. still_goes (answered_asked event final a) (with_link c false w) (later final))

  pub held_goes : (holds : List Node) → StepGoes a w event (answered (record w { holds = holds }) facts.Done)
  held_goes holds = answering_goes a w event facts.Done (still (record w { holds = holds })) (λ final. still_goes (answered_asked event final a) (record w { holds = holds }) (later final))

  pub worked_goes : (lucks : List Luck) (node : Node) → StepGoes a w event (worked w lucks node)
  worked_goes lucks (nodes.Store number) =
      answering_goes a w event _ (write_next number (first_luck lucks) (busy_table w number) w) (λ final. write_goes number (first_luck lucks) (busy_table w number) _ w (later final))
  worked_goes lucks (nodes.Client c) =
      answering_goes a w event _ (client_writes c (first_luck lucks) (client_tasks (client_at w c)) w) (λ final. client_writes_go c (first_luck lucks) (client_tasks (client_at w c)) _ w (later final))
  worked_goes lucks (nodes.Gate gate) = answered_goes _

  pub all_worked_goes : (lucks : List Luck) (node : Node) → StepGoes a w event (all_worked w lucks node)
  all_worked_goes lucks (nodes.Store number) = answering_goes a w event _ (store_until_idle number lucks w) (λ final. until_idle_goes number lucks _ w (later final))
  all_worked_goes lucks (nodes.Client c) =
      answering_goes a w event _ (client_until_idle c lucks w) (λ final. client_works_go c (client_tasks (client_at w c)) lucks _ w (later final))
  all_worked_goes lucks (nodes.Gate gate) = answered_goes _

  pub crashed_goes : (calls : ℕ) (lucks : List Luck) (node : Node) → StepGoes a w event (crashed w calls lucks node)
  crashed_goes calls lucks (nodes.Store number) = answering_goes a w event facts.Done (store_crashes number calls lucks w) (λ final. store_crashes_go number calls lucks _ w (later final))
  crashed_goes calls lucks (nodes.Client c) =
      answering_goes a w event facts.Done (client_crashes c calls lucks w)
      (λ final. client_goes _ w c (client.Crash (crash_luck calls (other_lucks lucks) (first_luck lucks))) client.no_shape (later final) (λ node at. tt))
  crashed_goes calls lucks (nodes.Gate gate) = answered_goes facts.Done

  pub started_goes : (shape : Shape) (lucks : List Luck) (node : Node) → StepGoes a w event (started w shape lucks node)
  started_goes shape lucks (nodes.Store number) = go (has_store w number && is_down w (nodes.Store number))
    where
      go : (b : Bool) → StepGoes a w event (if b then answering facts.Done (store_starts number lucks w) else answered w facts.Done)
      go true = answering_goes a w event facts.Done (store_starts number lucks w) (λ final. store_starts_go number lucks (answered_asked event final a) w (later final))
      go false = answered_goes facts.Done
  started_goes shape lucks (nodes.Client c) = go (is_down w (nodes.Client c))
    where
      go : (b : Bool) → StepGoes a w event (if b then answering facts.Done (client_starts c shape lucks w) else answered w facts.Done)
      go true = answering_goes a w event facts.Done (client_starts c shape lucks w) (λ final. client_starts_go c shape lucks (answered_asked event final a) w (later final))
      go false = answered_goes facts.Done
  started_goes shape lucks (nodes.Gate gate) = answered_goes facts.Done

  -- ---- the rows in conflict that a client lists

  listed_goes : (answer : Answer) (m : Moved) → ((final : Answer) → Goes (answered_asked event final a) w.packets m) → StepGoes a w event (listed (answering answer m))
  listed_goes answer m g = go m.failed answer
    where
      plain : (x : Answer) → StepGoes a w event (record { world = m.world; answer = Some x; counted = []; outs = m.outs })
      plain x = told_goes a w event x m (g x)

      go : (b : Bool) (x : Answer) → StepGoes a w event (listed (record { world = m.world; answer = Some (if b then facts.Refuses facts.NoDevice else x); counted = []; outs = m.outs }))
      go true x = plain (facts.Refuses facts.NoDevice)
      go false facts.Done = plain facts.Done
      go false (facts.Number number) = plain (facts.Number number)
      go false (facts.Shows y) = plain (facts.Shows y)
      go false (facts.Sums y) = plain (facts.Sums y)
      go false (facts.Stores v y) = plain (facts.Stores v y)
      go false (facts.Did y) = plain (facts.Did y)
      go false (facts.Names y) = plain (facts.Names y)
      go false (facts.Refuses r) = plain (facts.Refuses r)
      go false (facts.Pairs pairs) =
          let number : Answer = facts.Number (length pairs) in
          let b : Asked = answered_asked event number a in
          let lines : List Line = lines_from (length w.packets) m.outs in
          record {
            asked = (tt, pairs_told event b pairs lines (moves_told event b (length w.packets) m.outs (g number).asked));
            fine = subst (λ (x : Asked). AreFine x m.world) (sym (pairs_asked event b pairs lines ∙ moves_lines event b (length w.packets) m.outs)) (g number).fine;
            answer = refl;
            sent = pairs_sent pairs lines ∙ moves_sent (length w.packets) m.outs (g number).unsent;
            packets = (g number).packets;
          }

  pub conflicts_go : (c table : ℕ) (shape : Shape) (lucks : List Luck) → StepGoes a w event (listed (call w c (client.Conflicts table) shape lucks))
  conflicts_go c table shape lucks =
      call_is (λ (x : WorldStep). StepGoes a w event (listed x)) w c (client.Conflicts table) shape lucks (λ r before. answered_goes (facts.Refuses r)) (unread_goes c) (λ take. answered_goes facts.Done)
      (λ node at. listed_goes (client_step c shape node (client.Conflicts table)).answer
      (and_then (move_client c (client.Conflicts table) shape w) (client_follows_from node.agenda c (other_lucks lucks)))
      (λ final. called_goes c (client.Conflicts table) shape (other_lucks lucks) (answered_asked event final a) (later final) node at tt)) (client_at w c) refl
