-- Every event keeps the world, and every run is sound.
use Rattle.std.proofs.Common.{◌≡◌, ℕ, ◌+◌, Bool, true, false, List, [], ◌∷◌, ◌++◌, length, Option, Some, None, refl, sym, ap, ◌∙◌, subst, arith, inl, inr, ⊎_elim, append-nil}
use Rattle.std.proofs.Common.{true≢false}
use Rattle.std.specs.Prelude.{map, drop, slice_get, ◌==◌, ◌&&◌, if◌then◌else◌}
use Rattle.std.proofs.lemmas.Bool.Decides.{nat_tests}
use Rattle.std.specs.Ordering.{nat_cmp}
use Rattle.std.specs.Map.{lookup}
use Rattle.std.specs.BTreeMap.{is_at}
use Rattle.stab_base.specs.declared.chunk_name.ChunkName.{ChunkName}
use Rattle.stab_base.specs.declared.node.Node.{Node}
use Rattle.stab_base.specs.declared.node.Node.TheVariants as nodes
use Rattle.row_value.specs.declared.content.Content.{Content}
use Rattle.row_value.specs.declared.schema.Schema.{Schema}
use Rattle.row_value.specs.declared.schema.Scheme.{Scheme}
use Rattle.table_model.specs.declared.entry.Entry.{Entry}
use Rattle.table_model.specs.declared.event.Event.{Event}
use Rattle.table_model.specs.declared.event.Event.TheVariants as events
use Rattle.table_model.specs.declared.event.NetEvent.{NetEvent}
use Rattle.table_model.specs.declared.table_state.TableState.{TableState}
use Rattle.table_model.specs.declared.table_state.TableState.TheVariants as states
use Rattle.row_edits.specs.declared.change.Edit.{Edit}
use Rattle.stab_base.specs.declared.step.Step.TheVariants as steps
use Rattle.conflicts.specs.declared.pair.Choice.{Choice}
use Rattle.conflicts.specs.declared.stored.Stored as resolvers
use Rattle.table_model.specs.declared.line.RowPair.{RowPair}
use Rattle.step_tables.specs.Store.{Stored, entries_of, current_of}
use Rattle.step_tables.specs.Facts.{Fact, Answer, Refusal, Line, AnswerLine, EntryLine, PairLine, FactLine}
use Rattle.step_tables.specs.Facts as facts
use Rattle.step_tables.specs.Sums.{by_digests}
use Rattle.step_tables.specs.Messages.{Message, Luck, SyncRequest, SyncResponse, PullRequest, PullResponse, TornRowRequest, TornRowResponse, table_of, name_of}
use Rattle.step_tables.specs.Messages as messages
use Rattle.step_tables.specs.Sayings.{Heard, nothing_heard, Said, nothing_said, hear_lines}
use Rattle.step_tables.specs.StoreMoves as store
use Rattle.step_tables.specs.StoreMoves.{StoreDisk, StoreTask, TableStore, StoreMove, StoreStep, SidePut, new_disk, store_step}
use Rattle.step_tables.specs.ClientMoves as client
use Rattle.step_tables.specs.ClientMoves.{TableDisk, TableChange, opened_table, ClientDisk, Client, ClientTask, ClientMove, ClientStep, Shape, no_shape, client_step}
use Rattle.step_tables.proofs.Lists.{among_get, among_none}
use Rattle.store_laws.specs.Part.{Known, StoreLaw, StorePart, IsWayTo, Runs}
use Rattle.store_laws.specs.Part as store_part
use Rattle.store_laws.proofs.Law.{store_law}
use Rattle.client_laws.specs.Part.{Items, Sending, Ours, ClientPart, ClientLaw}
use Rattle.client_laws.specs.Part as part
use Rattle.client_laws.proofs.PlanRuns as plan_runs
use Rattle.world_tables.specs.World.{has_node, packets_from, crash_luck, client_until_idle, client_writes, starts_by, client_starts, client_crashes, client_falls, next_write}
use Rattle.world_tables.specs.World.{Lucks, first_agenda, with_link, linked, with_phases, after_client, listed, and_unless, resolve_by, resolve_each, resolve_all, chosen_of}
use Rattle.world_tables.specs.World.{client_pairs, first_shape, other_shapes, plan_size}
use Rattle.world_tables.specs.World.{World, Packet, Hosted, Outbox, Moved, WorldStep, start, chunk_in, schema_at, hosted_at, client_at, scheme_in, owner_of, is_down, still, and_then, failing}
use Rattle.world_tables.specs.World.{after_table, table_step, move_hosted}
use Rattle.world_tables.specs.World.{move_table, move_there, move_client, first_luck, other_lucks, client_works, client_tasks, client_follows, table_follows, store_falls, declared_late}
use Rattle.world_tables.specs.World.{start_hosted, has_store, hosted_by}
use Rattle.world_tables.specs.World.{answering, answered, refused, silent, unless_down, agenda_of, new_hosted, with_table, made_with, declared, with_opened, open_all, new_client, joined, gets_tasks}
use Rattle.world_tables.specs.World.{client_follows_from}
use Rattle.world_tables.specs.World.{call_there, call, take_read, take_at, to_hosted, to_there, carried, delivered}
use Rattle.world_tables.specs.World.{without_node, busy_table, write_next, tasks_of, store_until_idle, store_crashes, store_starts, busy_step, worked, all_worked, crashed, started, names_on}
use Rattle.world_tables.specs.World.{names_answer, chunk_names, puts_beside, opens, created, dropped}
use Rattle.world_tables.specs.World.{row_shown, row_read, store_shows, entry_lines, history_lines, step, lines_of, lines_from, sent_lines}
use Rattle.world_tables.specs.Turns.{Happening, Turn, turns_from, world_from}
use Rattle.world_tables.specs.Sound.{scheme_for, ArePairs, IsAnswer, IsForm, IsCounted, IsQuiet, IsAnswered, IsTurn, AreSaid, IsSoundFrom, IsSound, IsStored, shown_of}
use Rattle.world_laws.proofs.Told.{in_sight, nothing_told}
use Rattle.world_laws.proofs.Kept.{KnownIn, IsFairPacket, nothing_there, Kept, MoveSound}
use Rattle.world_laws.proofs.Kept as kept
use Rattle.world_laws.proofs.Looks.{look_cases}
use Rattle.world_laws.proofs.Lines.{hear-append, said-append}
use Rattle.world_laws.proofs.Orders.{still_sound, nodes_sound, store_sound, phases_kept, both_sound, unless_sound, failing_sound}
use Rattle.world_laws.proofs.StoreWorks.{silent_lines, store_falls_silent, crashes_silent}
use Rattle.world_laws.proofs.StoreWorks as works
use Rattle.world_laws.proofs.Ups.{IsUp, up_there, start_up, step_up}
use Rattle.world_laws.proofs.ClientMoves.{ours, client_moves}
use Rattle.world_laws.proofs.TableMoves.{ClientGrows, LapsedGrows}
use Rattle.world_laws.proofs.StoreMoves.{table_moves}
use Rattle.world_laws.proofs.Calls.{IsBefore, IsTake, call_is}
use Rattle.world_laws.proofs.Showings.{show_sum, answer_shows, row_stored}
use Rattle.world_laws.proofs.Listings.{pairs_are}
use Rattle.world_laws.proofs.Forms.{IsNumber, IsDone, IsShow, IsShowOrSum, by_number, by_done, phase_form, resolve_form, all_form, sum_form, write_form, edit_form, show_form, sync_form}
use Rattle.world_laws.proofs.Forms.{next_form, alter_form, take_form, taken_form, placed_form}

-- what a client's crate gives besides
abbrev pub ClientLaws : Type 0
ClientLaws = (g : ℕ → Scheme) (c : ℕ) (h : Items) (sent : List Sending) (t : Heard) → Ours g c h sent t
    → (shape : Shape) (s : Client) (move : ClientMove) → part.IsFair g c h sent move → ClientPart g c h sent t s
    → ClientLaw g c h sent t move (client_step c shape s move)

-- a client that has nothing, and has opened tables of their schemes
abbrev pub AreFresh : (ℕ → Scheme) → List (ℕ × TableDisk) → Type 0
AreFresh g tables = (table : ℕ) (x : TableDisk) → lookup (is_at (nat_cmp table)) tables ≡ Some x → (x.schema.scheme ≡ g table) × (x.position ≡ 0) × (x.rows ≡ [])

abbrev pub FreshParts : Type 0
FreshParts = (g : ℕ → Scheme) (c : ℕ) (h : Items) (tables : List (ℕ × TableDisk)) (luck : Luck) → AreFresh g tables
    → ClientPart g c h [] nothing_heard (new_client tables (first_agenda luck))

module _ (client_law : ClientLaws) (client_grows : ClientGrows) (lapsed_grows : LapsedGrows) (fresh_part : FreshParts) (g : ℕ → Scheme) where
  -- ---- moves

  abbrev IsNoStart : StoreMove → Type 0
  IsNoStart store.Start = ⊥
  IsNoStart other = Unit {0}

  stays_unmade : (node : ℕ) (x : Scheme) (size table : ℕ) (was : TableStore) (move : StoreMove) → was ≡ nothing_there was.disk.state → IsNoStart move
      → (store_step node x size table was move).store ≡ nothing_there (store_step node x size table was move).store.disk.state
  stays_unmade node x size table was move is unstarted = stays ∙ sym (ap (λ (s : TableStore). nothing_there s.disk.state) stays)
    where
      nothing_taken : (state : TableState) (move : StoreMove) → IsNoStart move → (store_step node x size table (nothing_there state) move).store ≡ nothing_there state
      nothing_taken state (store.Take from m) f = refl
      nothing_taken state (store.Place put) f = refl
      nothing_taken state (store.Work messages.Done) f = refl
      nothing_taken state (store.Work messages.FailedBefore) f = refl
      nothing_taken state (store.Work messages.FailedAfter) f = refl
      nothing_taken state (store.Crash luck) f = refl
      nothing_taken state store.Start f = absurd f

      stays : (store_step node x size table was move).store ≡ nothing_there was.disk.state
      stays = ap (λ (s : TableStore). (store_step node x size table s move).store) is ∙ nothing_taken was.disk.state move unstarted

  module _ (w : World) (s : Said) (k : Kept g w s) where
    unmade_items : (table : ℕ) (hosted : Hosted) → hosted_at w table ≡ Some hosted → hosted.made ≡ false → k.items table ≡ []
    unmade_items table hosted at unmade =
        empty (subst (λ (x : TableStore). StorePart (g table) table (KnownIn s.heard k.sent table) (k.items table) x) (k.unmade table hosted at unmade) (k.stores table hosted at).0).state
      where
        empty : store_part.IsAt (g table) table (KnownIn s.heard k.sent table) (k.items table) (new_disk hosted.store.disk.state) None → k.items table ≡ []
        empty (inl told) = sym told.items
        empty (inr untold) = absurd (let e = untold.pending in cc)

    pub scheme_is : (table : ℕ) (hosted : Hosted) → hosted_at w table ≡ Some hosted → scheme_in (schema_at w table) ≡ g table
    scheme_is table hosted at = let f = k.declared table hosted at in ap scheme_in f.1 ∙ k.schemes table f.0 f.1

    table_law : (table : ℕ) (hosted : Hosted) → hosted_at w table ≡ Some hosted → (move : StoreMove) → store_part.IsFair table (KnownIn s.heard k.sent table) (k.items table) move
        → StoreLaw (g table) table (KnownIn s.heard k.sent table) (k.items table) (table_step w table hosted move)
    table_law table hosted at move fair =
        subst (λ (x : Scheme). StoreLaw (g table) table (KnownIn s.heard k.sent table) (k.items table) (store_step (owner_of w table) x (chunk_in (schema_at w table)) table hosted.store move))
        (sym (scheme_is table hosted at))
        (store_law (g table) table (KnownIn s.heard k.sent table) (owner_of w table) (chunk_in (schema_at w table)) (k.items table) hosted.store move fair (k.stores table hosted at).0)

    -- a table that isn't made takes nothing
    table_move : (table : ℕ) (move : StoreMove) (number : ℕ) → ((hosted : Hosted) → hosted_at w table ≡ Some hosted → store_part.IsFair table (KnownIn s.heard k.sent table) (k.items table) move)
        → ((hosted : Hosted) → hosted_at w table ≡ Some hosted → hosted.made ≡ false → IsNoStart move) → MoveSound g s w number (move_table table move w)
    table_move table move number fair unstarted = go (hosted_at w table) refl
      where
        go : (o : Option Hosted) → hosted_at w table ≡ o → MoveSound g s w number (move_hosted w table move o)
        go None at = still_sound g w s number k
        go (Some hosted) at = table_moves client_grows lapsed_grows g w s k table hosted (hosted, at, refl) (table_step w table hosted move)
            (λ unmade. stays_unmade (owner_of w table) (scheme_in (schema_at w table)) (chunk_in (schema_at w table)) table hosted.store move
            (k.unmade table hosted at unmade) (unstarted hosted at unmade))
            (table_law table hosted at move (fair hosted at)) number

    -- a table whose declaration failed is declared at the Store's start
    late_declared : (table : ℕ) (hosted : Hosted) → hosted_at w table ≡ Some hosted → hosted.made ≡ false → (number : ℕ)
        → MoveSound g s w number (after_table w table (record hosted { made = true }) (declared_late (owner_of w table) table hosted.store.disk.state))
    late_declared table hosted at unmade number =
        table_moves client_grows lapsed_grows g w s k table (record hosted { made = true }) (hosted, at, refl) (declared_late (owner_of w table) table hosted.store.disk.state) (λ no. absurd cc)
        (record {
          later = k.items table;
          facts = (k.items table, refl, refl);
          sends = tt;
          part = record { lawful = k.tables table; state = (record { items = sym (unmade_items table hosted at unmade); open_entry = λ i is. absurd cc }, refl) };
        })
        number

    start_move : (table : ℕ) (number : ℕ) → MoveSound g s w number (start_hosted w table (hosted_at w table))
    start_move table number = go (hosted_at w table) refl
      where
        go : (o : Option Hosted) → hosted_at w table ≡ o → MoveSound g s w number (start_hosted w table o)
        go None at = still_sound g w s number k
        go (Some hosted) at = made hosted.made refl
          where
            made : (b : Bool) → hosted.made ≡ b
                → MoveSound g s w number (if b then move_table table store.Start w
                else after_table w table (record hosted { made = true }) (declared_late (owner_of w table) table hosted.store.disk.state))
            made false is = late_declared table hosted at is number
            made true is = table_move table store.Start number (λ x there. tt)
                (λ x there unmade.
                let both : Some hosted ≡ Some x = sym at ∙ there in
                let same : hosted ≡ x = cc in
                absurd (true≢false (sym is ∙ (ap (λ (y : Hosted). y.made) same ∙ unmade))))

    law_of : (c : ℕ) (shape : Shape) (node : Client) → client_at w c ≡ Some node → (move : ClientMove) → part.IsFair g c k.items (k.sent c) move
        → ClientLaw g c k.items (k.sent c) (s.heard c) move (client_step c shape node move)
    law_of c shape node at move fair = client_law g c k.items (k.sent c) (s.heard c) (ours g w s k c) shape node move fair (k.clients c node at)

    client_move : (c : ℕ) (move : ClientMove) (shape : Shape) (number : ℕ) → part.IsFair g c k.items (k.sent c) move → MoveSound g s w number (move_client c move shape w)
    unfolding phases_kept
    client_move c move shape number fair = go (client_at w c) refl
      where
        go : (o : Option Client) → client_at w c ≡ o → MoveSound g s w number (move_there w c move shape o)
        go None at = still_sound g w s number k
        go (Some node) at =
            let step : ClientStep = client_step c shape node move in
            let v : World = with_phases w c move step in
            let k' : Kept g v s = phases_kept g w s v.phases k in
            let moved : MoveSound g s v number (after_client v c step) = client_moves g v s k' c node at move step (law_of c shape node at move fair) number in
            record { lines = moved.lines; kept = moved.kept; there = moved.there }

  -- ---- work until idle

  table_work : works.TableWorks g
  table_work w s number k table (store.Work luck) f = table_move w s k table (store.Work luck) number (λ hosted at. tt) (λ hosted at unmade. tt)
  table_work w s number k table (store.Crash luck) f = table_move w s k table (store.Crash luck) number (λ hosted at. tt) (λ hosted at unmade. tt)
  table_work w s number k table (store.Take from m) f = absurd f
  table_work w s number k table (store.Place put) f = absurd f
  table_work w s number k table store.Start f = absurd f

  table_start : works.TableStarts g
  table_start w s number k table = start_move w s k table number

  client_works_sound : (c : ℕ) (tasks : List ClientTask) (lucks : List Luck) (w : World) (s : Said) (number : ℕ) → Kept g w s → MoveSound g s w number (client_works c tasks lucks w)
  client_works_sound c [] lucks w s number k = still_sound g w s number k
  client_works_sound c (task ∷ tasks) lucks w s number k =
      both_sound g w s number (move_client c (client.Work (first_luck lucks)) no_shape w) (client_works c tasks (other_lucks lucks))
      (client_move w s k c (client.Work (first_luck lucks)) no_shape number tt)
      (λ x now. client_works_sound c tasks (other_lucks lucks) _ x _ now)

  client_follows_sound : (c : ℕ) (lucks : List Luck) (w : World) (s : Said) (number : ℕ) → Kept g w s → MoveSound g s w number (client_follows c lucks w)
  client_follows_sound c lucks w s number k = go (has_node w.holds (nodes.Client c))
    where
      go : (held : Bool) → MoveSound g s w number (if held then still w else client_until_idle c lucks w)
      go true = still_sound g w s number k
      go false = client_works_sound c (client_tasks (client_at w c)) lucks w s number k

  client_follows_from_sound : (agenda : Option (List ClientTask)) (c : ℕ) (lucks : List Luck) (w : World) (s : Said) (number : ℕ) → Kept g w s
      → MoveSound g s w number (client_follows_from agenda c lucks w)
  client_follows_from_sound agenda c lucks w s number k = go (gets_tasks agenda w c)
    where
      go : (b : Bool) → MoveSound g s w number (if b then client_follows c lucks w else still w)
      go true = client_follows_sound c lucks w s number k
      go false = still_sound g w s number k

  client_writes_sound : (c : ℕ) (luck : Luck) (tasks : List ClientTask) (w : World) (s : Said) (number : ℕ) → Kept g w s → MoveSound g s w number (client_writes c luck tasks w)
  client_writes_sound c luck [] w s number k = still_sound g w s number k
  client_writes_sound c luck (task ∷ tasks) w s number k = client_move w s k c (client.Work luck) no_shape number tt

  -- a client's crash tells and sends nothing
  client_crash_silent : (c : ℕ) (luck : Luck) (w : World) → works.AreSilent (move_client c (client.Crash luck) no_shape w).outs
  client_crash_silent c luck w = go (client_at w c)
    where
      quiet : (d : ClientDisk) (agenda : Option (List ClientTask)) (l : Luck) → ((client.crashed d agenda l).facts ≡ []) × ((client.crashed d agenda l).sends ≡ [])
      quiet d None l = (refl, refl)
      quiet d (Some []) l = (refl, refl)
      quiet d (Some (task ∷ more)) messages.Done = (refl, refl)
      quiet d (Some (task ∷ more)) messages.FailedBefore = (refl, refl)
      quiet d (Some (task ∷ more)) messages.FailedAfter = (refl, refl)

      go : (o : Option Client) → works.AreSilent (move_there w c (client.Crash luck) no_shape o).outs
      go None = tt
      go (Some node) = let q = quiet node.disk node.agenda luck in (q.0, ap (packets_from (owner_of w) (nodes.Client c)) q.1, tt)

  -- ---- all conflicts of a table

  resolve_by_sound : (c table : ℕ) (by : resolvers.Stored) (shape : Shape) (pair : RowPair) (luck : Luck) (w : World) (s : Said) (number : ℕ) → Kept g w s
      → MoveSound g s w number (resolve_by c table by shape pair luck w)
  resolve_by_sound c table by shape pair messages.Done w s number k =
      client_move w s k c (client.Resolve table pair.row pair.version (chosen_of by pair.row (client_at w c) table)) shape number tt
  resolve_by_sound c table by shape pair messages.FailedBefore w s number k =
      failing_sound g w s number (client_falls c w) (client_move w s k c (client.Crash messages.FailedBefore) no_shape number tt)
  resolve_by_sound c table by shape pair messages.FailedAfter w s number k =
      failing_sound g w s number (client_falls c w) (client_move w s k c (client.Crash messages.FailedBefore) no_shape number tt)

  resolve_each_sound : (c table : ℕ) (by : resolvers.Stored) (shapes : List Shape) (lucks : List Luck) (pairs : List RowPair) (w : World) (s : Said) (number : ℕ) → Kept g w s
      → MoveSound g s w number (resolve_each c table by shapes lucks pairs w)
  resolve_each_sound c table by shapes lucks [] w s number k = still_sound g w s number k
  resolve_each_sound c table by shapes lucks (pair ∷ pairs) w s number k =
      let first : Moved = resolve_by c table by (first_shape shapes) pair (first_luck lucks) w in
      let more : List Luck = drop (1 + plan_size c first.world) lucks in
      unless_sound g w s number (and_unless first (client_until_idle c (other_lucks lucks))) (resolve_each c table by (other_shapes shapes) more pairs)
      (unless_sound g w s number first (client_until_idle c (other_lucks lucks)) (resolve_by_sound c table by (first_shape shapes) pair (first_luck lucks) w s number k)
      (λ x now. client_works_sound c (client_tasks (client_at first.world c)) (other_lucks lucks) first.world x _ now))
      (λ x now. resolve_each_sound c table by (other_shapes shapes) more pairs _ x _ now)

  -- ---- events

  pub record StepSound (s : Said) (w : World) (event : Event) (x : WorldStep) : Type 0 where
    pub turn : IsTurn g s (record { event = event; lines = lines_of w x })
    pub lines : AreSaid g s (lines_of w x)
    pub kept : Kept g x.world (hear_lines s (lines_of w x))
    pub there : (table : ℕ) → hosted_at x.world table ≡ None → hosted_at w table ≡ None

  -- lines of moves are facts
  facts_in : (number : ℕ) (outs : List Outbox) → (told : List Fact) × (lines_from number outs ≡ map FactLine told)
  facts_in number [] = ([], refl)
  facts_in number (out ∷ outs) =
      let rest = facts_in (number + length out.packets) outs in
      let sent = sents number out.packets in (
        out.facts ++ (sent.0 ++ rest.0),
        ap (λ (ls : List Line). map FactLine out.facts ++ ls)
            (ap (λ (ls : List Line). ls ++ lines_from (number + length out.packets) outs) sent.1 ∙ (ap (λ (ls : List Line). map FactLine sent.0 ++ ls) rest.1 ∙ sym (joined_map sent.0 rest.0)))
            ∙ sym (joined_map out.facts (sent.0 ++ rest.0)),
      )
    where
      joined_map : (xs ys : List Fact) → map FactLine (xs ++ ys) ≡ map FactLine xs ++ map FactLine ys
      joined_map [] ys = refl
      joined_map (x ∷ xs) ys = ap (λ (ls : List Line). FactLine x ∷ ls) (joined_map xs ys)

      sents : (n : ℕ) (packets : List Packet) → (told : List Fact) × (sent_lines n packets ≡ map FactLine told)
      sents n [] = ([], refl)
      sents n (p ∷ packets) = let rest = sents (n + 1) packets in
          let fact : Fact = facts.Sent n p.from p.to (name_of p.message) in
          (fact ∷ rest.0, ap (λ (ls : List Line). FactLine fact ∷ ls) rest.1)

  none_told : (number : ℕ) → (facts_in number []).0 ≡ []
  unfolding facts_in
  none_told number = refl

  pub record IsGoodAnswer (s : Said) (event : Event) (answer : Answer) : Type 0 where
    pub form : IsForm event answer
    pub counts : IsCounted event answer []
    pub is : IsAnswer g s event answer []

  abbrev CanTurn : Said → Event → Type 0
  CanTurn s event = (lines : List Line) → IsAnswered g s event lines → IsTurn g s (record { event = event; lines = lines })

  -- an answer, and what some moves told
  told_sound : (s : Said) (w : World) (event : Event) (answer : Answer) (m : Moved) → CanTurn s event → (told : List Fact)
      → lines_from (length w.packets) m.outs ≡ map FactLine told → IsQuiet event told → IsGoodAnswer s event answer → MoveSound g s w (length w.packets) m
      → StepSound s w event (record { world = m.world; answer = Some answer; counted = []; outs = m.outs })
  told_sound s w event answer m turn told are quiet good sound = record {
    turn = turn _ (record {
      answer = answer;
      counted = [];
      told = told;
      lines_are = ap (λ (ls : List Line). AnswerLine answer ∷ ls) are;
      form = good.form;
      counts = good.counts;
      quiet = quiet;
      is = good.is;
    });
    lines = (tt, sound.lines);
    kept = sound.kept;
    there = sound.there;
  }

  -- an event's answer, and what its moves told
  telling_sound : (s : Said) (w : World) (event : Event) (answer : Answer) (m : Moved) → CanTurn s event → (told : List Fact)
      → lines_from (length w.packets) m.outs ≡ map FactLine told → IsQuiet event told
      → IsGoodAnswer s event answer → IsGoodAnswer s event (facts.Refuses facts.NoDevice) → MoveSound g s w (length w.packets) m → StepSound s w event (answering answer m)
  telling_sound s w event answer m turn told are quiet good fault sound = go m.failed
    where
      go : (b : Bool) → StepSound s w event (record { world = m.world; answer = Some (if b then facts.Refuses facts.NoDevice else answer); counted = []; outs = m.outs })
      go true = told_sound s w event (facts.Refuses facts.NoDevice) m turn told are quiet fault sound
      go false = told_sound s w event answer m turn told are quiet good sound

  answering_sound : (s : Said) (w : World) (event : Event) (answer : Answer) (m : Moved) → CanTurn s event → IsQuiet event (facts_in (length w.packets) m.outs).0
      → IsGoodAnswer s event answer → IsGoodAnswer s event (facts.Refuses facts.NoDevice) → MoveSound g s w (length w.packets) m → StepSound s w event (answering answer m)
  answering_sound s w event answer m turn quiet good fault sound =
      let told = facts_in (length w.packets) m.outs in telling_sound s w event answer m turn told.0 told.1 quiet good fault sound

  -- where nothing is done, an answer alone
  answered_sound : (w : World) (s : Said) → Kept g w s → (event : Event) (answer : Answer) → CanTurn s event → IsQuiet event []
      → IsGoodAnswer s event answer → IsGoodAnswer s event (facts.Refuses facts.NoDevice) → StepSound s w event (answered w answer)
  answered_sound w s k event answer turn quiet good fault = telling_sound s w event answer (still w) turn [] refl quiet good fault (still_sound g w s (length w.packets) k)

  -- where the node isn't down
  unless_down_sound : (w : World) (s : Said) → Kept g w s → (event : Event) (node : Node) (x : WorldStep) → CanTurn s event → IsQuiet event []
      → IsGoodAnswer s event (facts.Refuses (facts.NodeDown node)) → IsGoodAnswer s event (facts.Refuses facts.NoDevice) → (is_down w node ≡ false → StepSound s w event x)
      → StepSound s w event (unless_down w node x)
  unless_down_sound w s k event node x turn quiet good fault up = go (is_down w node) refl
    where
      go : (b : Bool) → is_down w node ≡ b → StepSound s w event (if b then refused w (facts.NodeDown node) else x)
      go true is = answered_sound w s k event (facts.Refuses (facts.NodeDown node)) turn quiet good fault
      go false is = up is

  module _ (w : World) (s : Said) (k : Kept g w s) where
    -- a disk of a client that can't be read takes it down
    unread_sound : (event : Event) (c : ℕ) → CanTurn s event → IsQuiet event [] → IsGoodAnswer s event (facts.Refuses facts.NoDevice)
        → StepSound s w event (answering facts.Done (failing (client_falls c w)))
    unread_sound event c turn quiet fault =
        telling_sound s w event (facts.Refuses facts.NoDevice) (failing (client_falls c w)) turn []
        (silent_lines (length w.packets) (client_falls c w).outs (client_crash_silent c messages.FailedBefore w)) quiet fault fault
        (failing_sound g w s (length w.packets) (client_falls c w) (client_move w s k c (client.Crash messages.FailedBefore) no_shape (length w.packets) tt))

    -- a client's move with the work that follows
    called_sound : (c : ℕ) (move : ClientMove) (shape : Shape) (lucks : List Luck) (node : Client) → part.IsFair g c k.items (k.sent c) move
        → MoveSound g s w (length w.packets) (and_then (move_client c move shape w) (client_follows_from node.agenda c lucks))
    called_sound c move shape lucks node fair =
        both_sound g w s (length w.packets) (move_client c move shape w) (client_follows_from node.agenda c lucks) (client_move w s k c move shape (length w.packets) fair)
        (λ x now. client_follows_from_sound node.agenda c lucks (move_client c move shape w).world x _ now)

    -- what a call refuses before it looks at rows is a good answer, and so is the answer of the move
    there_sound : (event : Event) (c : ℕ) (move : ClientMove) (shape : Shape) (lucks : List Luck) → CanTurn s event → ((told : List Fact) → IsQuiet event told)
        → ((r : Refusal) → IsBefore r → IsGoodAnswer s event (facts.Refuses r)) → (IsTake move → IsGoodAnswer s event facts.Done) → part.IsFair g c k.items (k.sent c) move
        → ((node : Client) → client_at w c ≡ Some node → IsGoodAnswer s event (client_step c shape node move).answer)
        → (o : Option Client) → client_at w c ≡ o → StepSound s w event (call_there w c move shape lucks o)
    there_sound event c move shape lucks turn quiet refuses idle fair good o at =
        call_is (λ (x : WorldStep). StepSound s w event x) w c move shape lucks
        (λ r before. answered_sound w s k event (facts.Refuses r) turn (quiet []) (refuses r before) (refuses facts.NoDevice tt))
        (unread_sound event c turn (quiet []) (refuses facts.NoDevice tt))
        (λ take. answered_sound w s k event facts.Done turn (quiet []) (idle take) (refuses facts.NoDevice tt))
        (λ node is. answering_sound s w event (client_step c shape node move).answer (and_then (move_client c move shape w) (client_follows_from node.agenda c (other_lucks lucks)))
        turn (quiet _) (good node is) (refuses facts.NoDevice tt) (called_sound c move shape (other_lucks lucks) node fair)) o at

    write_sound : (c table : ℕ) (row : List ℕ) (x : Content) (shape : Shape) (lucks : List Luck) → StepSound s w (events.Write c table row x) (call w c (client.Write table row x) shape lucks)
    write_sound c table row x shape lucks =
        there_sound (events.Write c table row x) c (client.Write table row x) shape lucks (λ lines a. a) (λ told. tt)
        (λ r before. record { form = tt; counts = refl; is = tt }) (λ no. absurd no) tt
        (λ node at. by_number (λ (a : Answer). IsGoodAnswer s (events.Write c table row x) a) (λ n. record { form = tt; counts = refl; is = tt }) (λ r. record { form = tt; counts = refl; is = tt }) _ (write_form c shape node.disk node.agenda table row x)) (client_at w c) refl

    edit_sound : (c table : ℕ) (row : List ℕ) (x : Edit) (shape : Shape) (lucks : List Luck) → StepSound s w (events.Edit c table row x) (call w c (client.Change table row x) shape lucks)
    edit_sound c table row x shape lucks =
        there_sound (events.Edit c table row x) c (client.Change table row x) shape lucks (λ lines a. a) (λ told. tt)
        (λ r before. record { form = tt; counts = refl; is = tt }) (λ no. absurd no) tt
        (λ node at. by_number (λ (a : Answer). IsGoodAnswer s (events.Edit c table row x) a) (λ n. record { form = tt; counts = refl; is = tt }) (λ r. record { form = tt; counts = refl; is = tt }) _ (edit_form c shape node.disk node.agenda table row x)) (client_at w c) refl

    show_sound : (c table : ℕ) (row : List ℕ) (shape : Shape) (lucks : List Luck) → StepSound s w (events.Show c table row) (call w c (client.Show table row) shape lucks)
    show_sound c table row shape lucks =
        there_sound (events.Show c table row) c (client.Show table row) shape lucks (λ lines a. a) (λ told. tt) refuses (λ no. absurd no) tt
        (λ node at. good (client_step c shape node (client.Show table row)).answer (show_form c shape node.disk node.agenda table row)
        (answer_shows g w s k c table row (client_step c shape node (client.Show table row)).answer (law_of w s k c shape node at (client.Show table row) tt).answer)) (client_at w c) refl
      where
        refuses : (r : Refusal) → IsBefore r → IsGoodAnswer s (events.Show c table row) (facts.Refuses r)
        refuses facts.NoRow before = absurd before
        refuses other before = record { form = tt; counts = refl; is = tt }

        good : (a : Answer) → IsShow a → IsAnswer g s (events.Show c table row) a [] → IsGoodAnswer s (events.Show c table row) a
        good (facts.Shows y) f is = record { form = tt; counts = refl; is = is }
        good (facts.Refuses r) f is = record { form = tt; counts = refl; is = is }
        good other f is = absurd f

    sum_sound : (c table : ℕ) (row : List ℕ) (shape : Shape) (lucks : List Luck) → StepSound s w (events.Sum c table row) (call w c (client.Sum table row) shape lucks)
    sum_sound c table row shape lucks =
        there_sound (events.Sum c table row) c (client.Sum table row) shape lucks (λ lines a. a) (λ told. tt) refuses (λ no. absurd no) tt
        (λ node at.
        let shown : Answer = (client_step c shape node (client.Show table row)).answer in
        let form : IsShow shown = show_form c shape node.disk node.agenda table row in
        good (by_digests shown) (sum_form shown form)
        (show_sum (shown_of g s c table row) shown form (answer_shows g w s k c table row shown (law_of w s k c shape node at (client.Show table row) tt).answer))) (client_at w c) refl
      where
        refuses : (r : Refusal) → IsBefore r → IsGoodAnswer s (events.Sum c table row) (facts.Refuses r)
        refuses facts.NoRow before = absurd before
        refuses other before = record { form = tt; counts = refl; is = tt }

        good : (a : Answer) → IsShowOrSum a → IsAnswer g s (events.Sum c table row) a [] → IsGoodAnswer s (events.Sum c table row) a
        good (facts.Shows y) f is = record { form = tt; counts = refl; is = is }
        good (facts.Sums y) f is = record { form = tt; counts = refl; is = is }
        good (facts.Refuses r) f is = record { form = tt; counts = refl; is = is }
        good other f is = absurd f

    sync_sound : (c table : ℕ) (shape : Shape) (lucks : List Luck) → StepSound s w (events.Sync c table) (call w c (client.Sync table) shape lucks)
    sync_sound c table shape lucks =
        there_sound (events.Sync c table) c (client.Sync table) shape lucks (λ lines a. a) (λ told. tt)
        (λ r before. record { form = tt; counts = refl; is = tt }) (λ no. absurd no) tt
        (λ node at. by_number (λ (a : Answer). IsGoodAnswer s (events.Sync c table) a) (λ n. record { form = tt; counts = refl; is = tt }) (λ r. record { form = tt; counts = refl; is = tt }) _ (sync_form c shape node.disk node.agenda table)) (client_at w c) refl

    pull_sound : (c table : ℕ) (tears asks : List (List ℕ)) (shape : Shape) (lucks : List Luck) → StepSound s w (events.Pull c table) (call w c (client.Next table tears asks) shape lucks)
    pull_sound c table tears asks shape lucks =
        there_sound (events.Pull c table) c (client.Next table tears asks) shape lucks (λ lines a. a) (λ told. tt)
        (λ r before. record { form = tt; counts = refl; is = tt }) (λ no. absurd no) tt
        (λ node at. by_done (λ (a : Answer). IsGoodAnswer s (events.Pull c table) a) (record { form = tt; counts = refl; is = tt }) (λ r. record { form = tt; counts = refl; is = tt }) _
        (next_form c shape node.disk node.agenda table tears asks)) (client_at w c) refl

    -- ---- conflicts

    begin_sound : (c table : ℕ) (shape : Shape) (lucks : List Luck) → StepSound s w (events.BeginCr c table) (call w c (client.BeginCr table) shape lucks)
    begin_sound c table shape lucks =
        there_sound (events.BeginCr c table) c (client.BeginCr table) shape lucks (λ lines a. a) (λ told. tt)
        (λ r before. record { form = tt; counts = refl; is = tt }) (λ no. absurd no) tt
        (λ node at. by_done (λ (a : Answer). IsGoodAnswer s (events.BeginCr c table) a) (record { form = tt; counts = refl; is = tt }) (λ r. record { form = tt; counts = refl; is = tt }) _ (phase_form c shape node.disk node.agenda table)) (client_at w c) refl

    end_sound : (c table : ℕ) (shape : Shape) (lucks : List Luck) → StepSound s w (events.EndCr c table) (call w c (client.EndCr table) shape lucks)
    end_sound c table shape lucks =
        there_sound (events.EndCr c table) c (client.EndCr table) shape lucks (λ lines a. a) (λ told. tt)
        (λ r before. record { form = tt; counts = refl; is = tt }) (λ no. absurd no) tt
        (λ node at. by_done (λ (a : Answer). IsGoodAnswer s (events.EndCr c table) a) (record { form = tt; counts = refl; is = tt }) (λ r. record { form = tt; counts = refl; is = tt }) _ (phase_form c shape node.disk node.agenda table)) (client_at w c) refl

    resolve_sound : (c table : ℕ) (row : List ℕ) (seen : ℕ) (choice : Choice) (shape : Shape) (lucks : List Luck) → StepSound s w (events.Resolve c table row seen choice) (call w c (client.Resolve table row seen choice) shape lucks)
    resolve_sound c table row seen choice shape lucks =
        there_sound (events.Resolve c table row seen choice) c (client.Resolve table row seen choice) shape lucks (λ lines a. a) (λ told. tt)
        (λ r before. record { form = tt; counts = refl; is = tt }) (λ no. absurd no) tt
        (λ node at. by_number (λ (a : Answer). IsGoodAnswer s (events.Resolve c table row seen choice) a) (λ n. record { form = tt; counts = refl; is = tt }) (λ r. record { form = tt; counts = refl; is = tt }) _ (resolve_form c shape node.disk node.agenda table row seen choice)) (client_at w c) refl

    -- a list of rows in conflict says nothing

    pairs_say : (x : Said) (pairs : List RowPair) → hear_lines x (map PairLine pairs) ≡ x
    pairs_say x [] = refl
    pairs_say x (pair ∷ pairs) = pairs_say x pairs

    pairs_said : (x : Said) (pairs : List RowPair) → AreSaid g x (map PairLine pairs)
    pairs_said x [] = tt
    pairs_said x (pair ∷ pairs) = (tt, pairs_said x pairs)

    abbrev IsList : ℕ → ℕ → Answer → Type 0
    IsList c table (facts.Pairs pairs) = ArePairs g s c table (map PairLine pairs)
    IsList c table (facts.Refuses refusal) = Unit {0}
    IsList c table other = ⊥

    -- what a client lists, with what its move told
    listing_sound : (c table : ℕ) (answer : Answer) (m : Moved) → IsList c table answer → MoveSound g s w (length w.packets) m
        → StepSound s w (events.Conflicts c table) (listed (answering answer m))
    listing_sound c table answer m is sound = by_fault m.failed answer is
      where
        told : (fs : List Fact) × (lines_from (length w.packets) m.outs ≡ map FactLine fs)
        told = facts_in (length w.packets) m.outs

        refusing : (r : Refusal) → StepSound s w (events.Conflicts c table) (record { world = m.world; answer = Some (facts.Refuses r); counted = []; outs = m.outs })
        refusing r = told_sound s w (events.Conflicts c table) (facts.Refuses r) m (λ lines a. a) told.0 told.1 tt (record { form = tt; counts = refl; is = tt }) sound

        by_fault : (b : Bool) (x : Answer) → IsList c table x
            → StepSound s w (events.Conflicts c table) (listed (record { world = m.world; answer = Some (if b then facts.Refuses facts.NoDevice else x); counted = []; outs = m.outs }))
        by_fault true x are = refusing facts.NoDevice
        by_fault false (facts.Refuses r) are = refusing r
        by_fault false (facts.Pairs pairs) are = record {
          turn = record {
            answer = facts.Number (length pairs);
            counted = map PairLine pairs;
            told = told.0;
            lines_are = ap (λ (ls : List Line). AnswerLine (facts.Number (length pairs)) ∷ (map PairLine pairs ++ ls)) told.1;
            form = tt;
            counts = (pairs, refl, refl);
            quiet = tt;
            is = are;
          };
          lines = (
            tt,
            said-append g s (map PairLine pairs) (lines_from (length w.packets) m.outs) (pairs_said s pairs)
                (subst (λ (x : Said). AreSaid g x (lines_from (length w.packets) m.outs)) (sym (pairs_say s pairs)) sound.lines),
          );
          kept = subst (λ (x : Said). Kept g m.world x) (sym (hear-append g s (map PairLine pairs) (lines_from (length w.packets) m.outs)))
              (subst (λ (x : Said). Kept g m.world (hear_lines x (lines_from (length w.packets) m.outs))) (sym (pairs_say s pairs)) sound.kept);
          there = sound.there;
        }
        by_fault false other are = absurd are

    -- a client lists the rows that it shows in a conflict
    list_is : (c table : ℕ) (d : ClientDisk) (agenda : Option (List ClientTask)) → part.IsAt g c k.items (k.sent c) d (s.heard c) agenda
        → IsList c table (client.conflicts_step d agenda table).answer
    list_is c table d None p = tt
    list_is c table d (Some agenda) p = by_table (client.table_at (client.seen d) table) refl
      where
        by_table : (o : Option TableDisk) → client.table_at (client.seen d) table ≡ o → IsList c table (client.conflicts_in d agenda o).answer
        by_table None at = tt
        by_table (Some o) at = pairs_are g w s k c table (client.seen d) (plan_runs.shown_of g c k.items (k.sent c) d (s.heard c) agenda p) o at

    conflicts_sound : (c table : ℕ) (shape : Shape) (lucks : List Luck) → StepSound s w (events.Conflicts c table) (listed (call w c (client.Conflicts table) shape lucks))
    conflicts_sound c table shape lucks =
        call_is (λ (x : WorldStep). StepSound s w (events.Conflicts c table) (listed x)) w c (client.Conflicts table) shape lucks
        (λ r before. answered_sound w s k (events.Conflicts c table) (facts.Refuses r) (λ lines a. a) tt (record { form = tt; counts = refl; is = tt }) (record { form = tt; counts = refl; is = tt }))
        (unread_sound (events.Conflicts c table) c (λ lines a. a) tt (record { form = tt; counts = refl; is = tt })) (λ no. absurd no)
        (λ node at. listing_sound c table (client_step c shape node (client.Conflicts table)).answer
        (and_then (move_client c (client.Conflicts table) shape w) (client_follows_from node.agenda c (other_lucks lucks)))
        (list_is c table node.disk node.agenda (k.clients c node at)) (called_sound c (client.Conflicts table) shape (other_lucks lucks) node tt))
        (client_at w c) refl

    -- all conflicts of a table are resolved, where the client may
    all_sound : (c table : ℕ) (by : resolvers.Stored) (shape : Shape) (shapes : List Shape) (lucks more : List Luck)
        → StepSound s w (events.ResolveAll c table by) (resolve_all w c table by shapes more (call w c (client.ResolveAll table by) shape lucks))
    all_sound c table by shape shapes lucks more =
        call_is (λ (x : WorldStep). StepSound s w (events.ResolveAll c table by) (resolve_all w c table by shapes more x)) w c (client.ResolveAll table by) shape lucks
        (λ r before. answered_sound w s k (events.ResolveAll c table by) (facts.Refuses r) (λ lines a. a) tt (record { form = tt; counts = refl; is = tt }) (record { form = tt; counts = refl; is = tt }))
        (unread_sound (events.ResolveAll c table by) c (λ lines a. a) tt (record { form = tt; counts = refl; is = tt })) (λ no. absurd no)
        (λ node at. by_fault (and_then (move_client c (client.ResolveAll table by) shape w) (client_follows_from node.agenda c (other_lucks lucks)))
        (called_sound c (client.ResolveAll table by) shape (other_lucks lucks) node tt)
        (client_step c shape node (client.ResolveAll table by)).answer (all_form c shape node.disk node.agenda table by))
        (client_at w c) refl
      where
        each : Moved
        each = resolve_each c table by shapes more (client_pairs (client_at w c) table) w

        by_answer : (m : Moved) → MoveSound g s w (length w.packets) m → (a : Answer) → IsNumber a
            → StepSound s w (events.ResolveAll c table by) (resolve_all w c table by shapes more (record { world = m.world; answer = Some a; counted = []; outs = m.outs }))
        by_answer m sound (facts.Number n) f =
            answering_sound s w (events.ResolveAll c table by) (facts.Number n) each (λ lines a. a) tt (record { form = tt; counts = refl; is = tt }) (record { form = tt; counts = refl; is = tt })
            (resolve_each_sound c table by shapes more (client_pairs (client_at w c) table) w s (length w.packets) k)
        by_answer m sound (facts.Refuses r) f =
            let told : (fs : List Fact) × (lines_from (length w.packets) m.outs ≡ map FactLine fs) = facts_in (length w.packets) m.outs in
            told_sound s w (events.ResolveAll c table by) (facts.Refuses r) m (λ lines a. a) told.0 told.1 tt (record { form = tt; counts = refl; is = tt }) sound
        by_answer m sound other f = absurd f

        by_fault : (m : Moved) → MoveSound g s w (length w.packets) m → (a : Answer) → IsNumber a
            → StepSound s w (events.ResolveAll c table by) (resolve_all w c table by shapes more (answering a m))
        by_fault m sound a f = go m.failed
          where
            go : (b : Bool) → StepSound s w (events.ResolveAll c table by)
                (resolve_all w c table by shapes more (record { world = m.world; answer = Some (if b then facts.Refuses facts.NoDevice else a); counted = []; outs = m.outs }))
            go true = by_answer m sound (facts.Refuses facts.NoDevice) tt
            go false = by_answer m sound a f

    -- ---- deliveries

    delivered_good : (n : ℕ) (a : Answer) → IsDone a → IsGoodAnswer s (events.Deliver n) a
    delivered_good n = by_done (λ (a : Answer). IsGoodAnswer s (events.Deliver n) a) (record { form = tt; counts = refl; is = tt }) (λ r. record { form = tt; counts = refl; is = tt })

    store_fair : (from to : Node) (m : Message) → kept.IsFairMessage g s.heard k.items k.sent from to m
        → store_part.IsFair (table_of m) (KnownIn s.heard k.sent (table_of m)) (k.items (table_of m)) (store.Take from m)
    store_fair from to (SyncRequest q) f = record {
      table_is = refl;
      way = f.0;
      known = f.1;
      positive = ((k.told.clients q.client).numbered q.number f.1.0 f.1.1).2;
      based = f.2;
    }
    store_fair from to (PullRequest q) f = (refl, f)
    store_fair from to (SyncResponse r) f = tt
    store_fair from to (PullResponse q) f = tt
    store_fair from to (TornRowRequest q) f = (refl, f)
    store_fair from to (TornRowResponse q) f = tt

    client_fair : (c : ℕ) (from : Node) (m : Message) → kept.IsFairMessage g s.heard k.items k.sent from (nodes.Client c) m → part.IsFair g c k.items (k.sent c) (client.Take m)
    client_fair c from (SyncRequest q) f = tt
    client_fair c from (PullRequest q) f = tt
    client_fair c from (SyncResponse r) f = subst (λ (q : ℕ). part.IsOutcome g q k.items (k.sent q) r r.outcome) (sym f.0) f.1
    client_fair c from (PullResponse q) f = subst (λ (x : ℕ). part.IsHeader x k.items q q.header) (sym f.0) f.1
    client_fair c from (TornRowRequest q) f = tt
    client_fair c from (TornRowResponse q) f = subst (λ (x : ℕ). part.IsTornHeader x (k.items q.table) q.header) (sym f.0) f.1

    -- a device call that fails takes the Store down
    failed_sound : (event : Event) (node : ℕ) → CanTurn s event → IsQuiet event [] → IsGoodAnswer s event (facts.Refuses facts.NoDevice)
        → StepSound s w event (answering facts.Done (failing (store_falls node w)))
    failed_sound event node turn quiet fault =
        telling_sound s w event (facts.Refuses facts.NoDevice) (failing (store_falls node w)) turn []
        (silent_lines (length w.packets) (store_falls node w).outs (store_falls_silent node w)) quiet fault fault
        (failing_sound g w s (length w.packets) (store_falls node w) (works.store_falls_sound g table_work node w s (length w.packets) k))

    -- an event that is one move of a table, whose answer is a good one
    hosted_sound : (event : Event) (table : ℕ) (move : StoreMove) (lucks : List Luck) → CanTurn s event → ((told : List Fact) → IsQuiet event told)
        → ((a : Answer) → IsDone a → IsGoodAnswer s event a) → ((hosted : Hosted) → IsDone (table_step w table hosted move).answer)
        → store_part.IsFair table (KnownIn s.heard k.sent table) (k.items table) move → IsNoStart move
        → (o : Option Hosted) → StepSound s w event (to_hosted w table move lucks o)
    hosted_sound event table move lucks turn quiet good form fair unstarted None =
        answered_sound w s k event facts.Done turn (quiet []) (good facts.Done tt) (good (facts.Refuses facts.NoDevice) tt)
    hosted_sound event table move lucks turn quiet good form fair unstarted (Some hosted) = go hosted.store.agenda
      where
        first : MoveSound g s w (length w.packets) (move_table table move w)
        first = table_move w s k table move (length w.packets) (λ x is. fair) (λ x is unmade. unstarted)

        alone : StepSound s w event (answering (table_step w table hosted move).answer (move_table table move w))
        alone = answering_sound s w event (table_step w table hosted move).answer (move_table table move w) turn (quiet _)
            (good _ (form hosted)) (good (facts.Refuses facts.NoDevice) tt) first

        failed : StepSound s w event (answering facts.Done (failing (store_falls (owner_of w table) w)))
        failed = failed_sound event (owner_of w table) turn (quiet []) (good (facts.Refuses facts.NoDevice) tt)

        reads : (luck : Luck) → StepSound s w event (take_read w table hosted move (other_lucks lucks) luck)
        reads messages.FailedBefore = failed
        reads messages.FailedAfter = failed
        reads messages.Done =
            answering_sound s w event (table_step w table hosted move).answer (and_then (move_table table move w) (table_follows table (other_lucks lucks)))
            turn (quiet _) (good _ (form hosted)) (good (facts.Refuses facts.NoDevice) tt)
            (both_sound g w s (length w.packets) (move_table table move w) (table_follows table (other_lucks lucks)) first
            (λ x now. works.table_follows_sound g table_work table (other_lucks lucks) (move_table table move w).world x _ now))

        go : (o : Option (List StoreTask)) → StepSound s w event (take_at w table hosted move lucks o)
        go None = alone
        go (Some (task ∷ more)) = alone
        go (Some []) = reads (first_luck lucks)

    taken_sound : (n : ℕ) (c : ℕ) (m : Message) (shape : Shape) (lucks : List Luck) → part.IsFair g c k.items (k.sent c) (client.Take m) → (o : Option Client) → client_at w c ≡ o
        → StepSound s w (events.Deliver n) (to_there w c m shape lucks o)
    taken_sound n c m shape lucks fair None at =
        answering_sound s w (events.Deliver n) facts.Done (still w) (λ lines a. a) tt
        (delivered_good n facts.Done tt) (delivered_good n (facts.Refuses facts.NoDevice) tt) (still_sound g w s (length w.packets) k)
    taken_sound n c m shape lucks fair (Some node) at =
        there_sound (events.Deliver n) c (client.Take m) shape lucks (λ lines a. a) (λ told. tt)
        (λ r before. delivered_good n (facts.Refuses r) tt) (λ take. delivered_good n facts.Done tt) fair
        (λ x is. delivered_good n _ (take_form c shape x.disk x.agenda m)) (Some node) at

    carried_sound : (n : ℕ) (p : Packet) (shape : Shape) (lucks : List Luck) → IsFairPacket g s.heard k.items k.sent p → (to : Node) → p.to ≡ to → StepSound s w (events.Deliver n) (carried w p shape lucks to)
    carried_sound n p shape lucks fair (nodes.Store number) is =
        unless_down_sound w s k (events.Deliver n) (nodes.Store number) _ (λ lines a. a) tt
        (delivered_good n (facts.Refuses (facts.NodeDown (nodes.Store number))) tt) (delivered_good n (facts.Refuses facts.NoDevice) tt)
        (λ up. hosted_sound (events.Deliver n) (table_of p.message) (store.Take p.from p.message) lucks (λ lines a. a) (λ told. tt) (delivered_good n)
        (λ hosted. taken_form (scheme_in (schema_at w (table_of p.message))) (chunk_in (schema_at w (table_of p.message))) (table_of p.message) hosted.store.disk hosted.store.agenda p.from p.message)
        (store_fair p.from p.to p.message fair) tt (hosted_by w number (table_of p.message)))
    carried_sound n p shape lucks fair (nodes.Client c) is =
        taken_sound n c p.message shape lucks (client_fair c p.from p.message (subst (λ (x : Node). kept.IsFairMessage g s.heard k.items k.sent p.from x p.message) is fair)) (client_at w c) refl
    carried_sound n p shape lucks fair (nodes.Gate gate) is =
        answering_sound s w (events.Deliver n) facts.Done (still w) (λ lines a. a) tt
        (delivered_good n facts.Done tt) (delivered_good n (facts.Refuses facts.NoDevice) tt) (still_sound g w s (length w.packets) k)

    delivered_sound : (n : ℕ) (shape : Shape) (lucks : List Luck) (o : Option Packet) → slice_get w.packets n ≡ o → StepSound s w (events.Deliver n) (delivered w shape lucks o)
    delivered_sound n shape lucks None at =
        answering_sound s w (events.Deliver n) (facts.Refuses (facts.NoPacket (length w.packets))) (still w) (λ lines a. a) tt
        (delivered_good n (facts.Refuses (facts.NoPacket (length w.packets))) tt)
        (delivered_good n (facts.Refuses facts.NoDevice) tt) (still_sound g w s (length w.packets) k)
    delivered_sound n shape lucks (Some p) at = carried_sound n p shape lucks (k.packets p (among_get w.packets n p at)) p.to refl

    -- ---- what the Store has

    stored_sound : (table : ℕ) (row : List ℕ) (a : Answer) → IsForm (events.StoreShow table row) a → IsStored s table row a → StepSound s w (events.StoreShow table row) (answered w a)
    stored_sound table row a form is =
        answering_sound s w (events.StoreShow table row) a (still w) (λ lines x. x) (none_told (length w.packets))
        (good a form is) (record { form = tt; counts = refl; is = tt }) (still_sound g w s (length w.packets) k)
      where
        good : (x : Answer) → IsForm (events.StoreShow table row) x → IsStored s table row x → IsGoodAnswer s (events.StoreShow table row) x
        good (facts.Stores v y) f z = record { form = tt; counts = refl; is = z }
        good (facts.Refuses r) f z = record { form = tt; counts = refl; is = z }
        good facts.Done f z = absurd f
        good (facts.Number n) f z = absurd f
        good (facts.Shows y) f z = absurd f
        good (facts.Sums y) f z = absurd f
        good (facts.Did y) f z = absurd f
        good (facts.Names y) f z = absurd f
        good (facts.Pairs y) f z = absurd f

    failed_show : (table : ℕ) (row : List ℕ) → StepSound s w (events.StoreShow table row) (answering facts.Done (failing (store_falls (owner_of w table) w)))
    failed_show table row = failed_sound (events.StoreShow table row) (owner_of w table) (λ lines x. x) refl (record { form = tt; counts = refl; is = tt })

    row_form : (table : ℕ) (row : List ℕ) (o : Option Stored) → IsForm (events.StoreShow table row) (row_shown o)
    row_form table row None = tt
    row_form table row (Some i) = tt

    up_items : (table : ℕ) (hosted : Hosted) → hosted_at w table ≡ Some hosted → (agenda : List StoreTask) → hosted.store.agenda ≡ Some agenda → hosted.store.disk.items ≡ k.items table
    up_items table hosted at agenda up = items agenda (rw up at ((k.stores table hosted at).0.state))
      where
        items : (x : List StoreTask) → store_part.IsAt (g table) table (KnownIn s.heard k.sent table) (k.items table) hosted.store.disk (Some x) → hosted.store.disk.items ≡ k.items table
        items [] r = r.0.items
        items (task ∷ more) r = r.0.items

    read_sound : (table : ℕ) (row : List ℕ) (hosted : Hosted) → hosted_at w table ≡ Some hosted → (agenda : List StoreTask) → hosted.store.agenda ≡ Some agenda → (luck : Luck)
        → StepSound s w (events.StoreShow table row) (row_read w table hosted row luck)
    read_sound table row hosted at agenda up messages.Done = stored_sound table row (row_shown (current_of hosted.store.disk.items row)) (row_form table row (current_of hosted.store.disk.items row))
        (row_stored g w s k table row (current_of hosted.store.disk.items row) (ap (λ (xs : List Stored). current_of xs row) (sym (up_items table hosted at agenda up))))
    read_sound table row hosted at agenda up messages.FailedBefore = failed_show table row
    read_sound table row hosted at agenda up messages.FailedAfter = failed_show table row

    shows_sound : IsUp w → (table : ℕ) (row : List ℕ) (lucks : List Luck) (o : Option Hosted) → hosted_at w table ≡ o → StepSound s w (events.StoreShow table row) (store_shows w table row lucks o)
    shows_sound is_up table row lucks None at = stored_sound table row (facts.Refuses facts.NoTable) tt tt
    shows_sound is_up table row lucks (Some hosted) at =
        unless_down_sound w s k (events.StoreShow table row) (nodes.Store (owner_of w table)) _ (λ lines x. x) refl
        (record { form = tt; counts = refl; is = tt }) (record { form = tt; counts = refl; is = tt })
        (λ up. let agenda = (up_there w is_up table hosted at up).1 in read_sound table row hosted at agenda.0 agenda.1 (first_luck lucks))

    names_sound : (table : ℕ) (names : List ChunkName) → StepSound s w (events.Chunks table) (answered w (names_answer names))
    names_sound table [] =
        answered_sound w s k (events.Chunks table) (facts.Number 0) (λ lines x. x) refl (record { form = refl; counts = refl; is = tt }) (record { form = tt; counts = refl; is = tt })
    names_sound table (name ∷ names) =
        answered_sound w s k (events.Chunks table) (facts.Names (name ∷ names)) (λ lines x. x) refl
        (record { form = tt; counts = refl; is = tt }) (record { form = tt; counts = refl; is = tt })

    chunks_sound : (table : ℕ) (o : Option Hosted) → StepSound s w (events.Chunks table) (chunk_names w table o)
    chunks_sound table None =
        answered_sound w s k (events.Chunks table) (facts.Refuses facts.NoTable) (λ lines x. x) refl (record { form = tt; counts = refl; is = tt }) (record { form = tt; counts = refl; is = tt })
    chunks_sound table (Some hosted) =
        unless_down_sound w s k (events.Chunks table) (nodes.Store (owner_of w table)) _ (λ lines x. x) refl
        (record { form = tt; counts = refl; is = tt }) (record { form = tt; counts = refl; is = tt })
        (λ up. names_sound table (names_on (chunk_in (schema_at w table)) hosted.store.disk))

    entries_say : (table : ℕ) (x : Said) (es : List Entry) → hear_lines x (entry_lines table es) ≡ x
    entries_say table x [] = refl
    entries_say table x (e ∷ es) = entries_say table x es

    entries_said : (table : ℕ) (x : Said) (es : List Entry) → AreSaid g x (entry_lines table es)
    entries_said table x [] = tt
    entries_said table x (e ∷ es) = (tt, entries_said table x es)

    history_sound : (table : ℕ) (o : Option Hosted) → hosted_at w table ≡ o → StepSound s w (events.History table) (history_lines w table o)
    history_sound table None at =
        answering_sound s w (events.History table) (facts.Refuses facts.NoTable) (still w) (λ lines x. x) (none_told (length w.packets))
        (record { form = tt; counts = refl; is = tt }) (record { form = tt; counts = refl; is = tt })
        (still_sound g w s (length w.packets) k)
    history_sound table (Some hosted) at =
        let same : hosted.history ≡ s.history table = (k.stores table hosted at).1 in
        record {
          turn = record {
            answer = facts.Number (length hosted.history);
            counted = entry_lines table hosted.history;
            told = [];
            lines_are = refl;
            form = tt;
            counts = (hosted.history, refl, refl);
            quiet = refl;
            is = (ap length same, ap (entry_lines table) same);
          };
          lines = (tt, rw (append-nil (entry_lines table hosted.history)) (entries_said table s hosted.history));
          kept = subst (λ (ls : List Line). Kept g w (hear_lines s ls)) (sym (append-nil (entry_lines table hosted.history)))
              (subst (λ (x : Said). Kept g w x) (sym (entries_say table s hosted.history)) k);
          there = λ q none. none;
        }

    -- ---- declarations

    pub with_table_kept : (table : ℕ) (schema : Schema) (state : TableState) (made : Bool) → hosted_at w table ≡ None → schema.scheme ≡ g table → Kept g (with_table w table schema state made) s
    with_table_kept table schema state made none scheme = record {
      items = k.items;
      sent = k.sent;
      told = k.told;
      history = k.history;
      lawful = k.lawful;
      schemes = λ q x at. ⊎_elim
          (λ e. let both : Some schema ≡ Some x = sym e.1 ∙ at in let same : schema ≡ x = cc in ap (λ (y : Schema). y.scheme) (sym same) ∙ (scheme ∙ ap g (sym e.0)))
          (λ e. k.schemes q x (sym e.1 ∙ at)) (look_cases w.schemas table schema q);
      declared = λ q x at. ⊎_elim (λ e. (schema, e.1))
          (λ e. ⊎_elim (λ f. absurd (e.0 f.0)) (λ f. let old = k.declared q x (sym f.1 ∙ at) in (old.0, e.1 ∙ old.1)) (look_cases w.tables table new q))
          (look_cases w.schemas table schema q);
      tables = k.tables;
      stores = λ q x at. ⊎_elim
          (λ e. let both : Some new ≡ Some x = sym e.1 ∙ at in let same : new ≡ x = cc in
          subst (λ (y : Hosted). StorePart (g q) q (KnownIn s.heard k.sent q) (k.items q) y.store × (y.history ≡ s.history q)) same (new_part q (k.no_store q (ap (hosted_at w) e.0 ∙ none))))
          (λ e. k.stores q x (sym e.1 ∙ at)) (look_cases w.tables table new q);
      unmade = λ q x at. ⊎_elim
          (λ e. let both : Some new ≡ Some x = sym e.1 ∙ at in let same : new ≡ x = cc in
          subst (λ (y : Hosted). y.made ≡ false → y.store ≡ nothing_there y.store.disk.state) same
          (λ is. ap (λ (b : Bool). record { disk = new_disk state; agenda = agenda_of b }) is))
          (λ e. k.unmade q x (sym e.1 ∙ at)) (look_cases w.tables table new q);
      no_store = λ q at. ⊎_elim (λ e. absurd (let both : Some new ≡ None = sym e.1 ∙ at in cc)) (λ e. k.no_store q (sym e.1 ∙ at)) (look_cases w.tables table new q);
      clients = k.clients;
      no_client = k.no_client;
      packets = k.packets;
    }
      where
        new : Hosted
        new = new_hosted state made

        new_state : (q : ℕ) → k.items q ≡ [] → (b : Bool) → store_part.IsAt (g q) q (KnownIn s.heard k.sent q) (k.items q) new.store.disk (agenda_of b)
        new_state q empty true = (record { items = sym empty; open_entry = λ i at. absurd cc }, refl)
        new_state q empty false = inl (record { items = sym empty; open_entry = λ i at. absurd cc })

        new_part : (q : ℕ) → k.items q ≡ [] → StorePart (g q) q (KnownIn s.heard k.sent q) (k.items q) new.store × (new.history ≡ s.history q)
        new_part q empty = (record { lawful = k.tables q; state = new_state q empty made }, sym (ap entries_of empty) ∙ sym (k.history q))

    with_table_there : (table : ℕ) (schema : Schema) (state : TableState) (made : Bool) → hosted_at w table ≡ None → (q : ℕ) → hosted_at (with_table w table schema state made) q ≡ None
        → hosted_at w q ≡ None
    with_table_there table schema state made at q none = ⊎_elim (λ e. ap (hosted_at w) e.0 ∙ at) (λ e. sym e.1 ∙ none) (look_cases w.tables table (new_hosted state made) q)

    declared_kept : (table : ℕ) (schema : Schema) (state : TableState) (luck : Luck) → hosted_at w table ≡ None → schema.scheme ≡ g table → Kept g (made_with w table schema state luck) s
    declared_kept table schema state messages.Done none scheme = with_table_kept table schema state true none scheme
    declared_kept table schema state messages.FailedBefore none scheme = with_table_kept table schema state false none scheme
    declared_kept table schema state messages.FailedAfter none scheme = with_table_kept table schema state false none scheme

    declared_there : (table : ℕ) (schema : Schema) (state : TableState) (luck : Luck) → hosted_at w table ≡ None → (q : ℕ) → hosted_at (made_with w table schema state luck) q ≡ None
        → hosted_at w q ≡ None
    declared_there table schema state messages.Done at q none = with_table_there table schema state true at q none
    declared_there table schema state messages.FailedBefore at q none = with_table_there table schema state false at q none
    declared_there table schema state messages.FailedAfter at q none = with_table_there table schema state false at q none

    fresh_all : (tables : List ℕ) (some : List (ℕ × TableDisk)) → AreFresh g some → AreFresh g (open_all w some tables)
    fresh_all [] some f = f
    fresh_all (table ∷ tables) some f = fresh_all tables (with_opened some table (schema_at w table)) (one (schema_at w table) refl)
      where
        one : (o : Option Schema) → schema_at w table ≡ o → AreFresh g (with_opened some table o)
        one None at = f
        one (Some schema) at = λ q x is. ⊎_elim
            (λ e. let both : Some (opened_table schema) ≡ Some x = sym e.1 ∙ is in let same : opened_table schema ≡ x = cc in (
              ap (λ (y : TableDisk). y.schema.scheme) (sym same) ∙ (k.schemes table schema at ∙ ap g (sym e.0)),
              ap (λ (y : TableDisk). y.position) (sym same),
              ap (λ (y : TableDisk). y.rows)
                  (sym same),
            ))
            (λ e. f q x (sym e.1 ∙ is)) (look_cases some table (opened_table schema) q)

    pub joined_kept : (c : ℕ) (tables : List ℕ) (luck : Luck) → client_at w c ≡ None → Kept g (joined w c tables luck None) s
    joined_kept c tables luck none = record {
      items = k.items;
      sent = k.sent;
      told = k.told;
      history = k.history;
      lawful = k.lawful;
      schemes = k.schemes;
      declared = k.declared;
      tables = k.tables;
      stores = k.stores;
      unmade = k.unmade;
      no_store = k.no_store;
      clients = λ q x at. ⊎_elim
          (λ e. let both : Some new ≡ Some x = sym e.1 ∙ at in let same : new ≡ x = cc in
          subst (λ (y : Client). ClientPart g q k.items (k.sent q) (s.heard q) y) same (new_part q (ap (client_at w) e.0 ∙ none)))
          (λ e. k.clients q x (sym e.1 ∙ at)) (look_cases w.clients c new q);
      no_client = λ q at. ⊎_elim (λ e. absurd (let both : Some new ≡ None = sym e.1 ∙ at in cc)) (λ e. k.no_client q (sym e.1 ∙ at)) (look_cases w.clients c new q);
      packets = k.packets;
    }
      where
        new : Client
        new = new_client (open_all w [] tables) (first_agenda luck)

        new_part : (q : ℕ) → client_at w q ≡ None → ClientPart g q k.items (k.sent q) (s.heard q) new
        new_part q absent =
            let f = k.no_client q absent in
            subst (λ (xs : List Sending). ClientPart g q k.items xs (s.heard q) new) (sym f.1)
            (subst (λ (t : Heard). ClientPart g q k.items [] t new) (sym f.0) (fresh_part g q k.items (open_all w [] tables) luck (fresh_all tables [] (λ table x at. absurd cc))))

    declare_sound : (event : Event) → IsTurn g s (record { event = event; lines = [] }) → (table : ℕ) (schema : Schema) (state : TableState) (luck : Luck)
        → (hosted_at w table ≡ None → schema.scheme ≡ g table) → (o : Option Hosted) → hosted_at w table ≡ o → StepSound s w event (silent (declared w table schema state luck o))
    declare_sound event turn table schema state luck scheme (Some hosted) at = record { turn = turn; lines = tt; kept = k; there = λ q none. none }
    declare_sound event turn table schema state luck scheme None at =
        record { turn = turn; lines = tt; kept = declared_kept table schema state luck at (scheme at); there = λ q none. declared_there table schema state luck at q none }

    join_sound : (c : ℕ) (gate : Option ℕ) (tables : List ℕ) (luck : Luck) (o : Option Client) → client_at w c ≡ o → StepSound s w (events.Client c gate tables) (silent (joined w c tables luck o))
    join_sound c gate tables luck (Some node) at = record { turn = refl; lines = tt; kept = k; there = λ q none. none }
    join_sound c gate tables luck None at = record { turn = refl; lines = tt; kept = joined_kept c tables luck at; there = λ q none. none }

    -- ---- what is done to a node

    held_sound : (node : Node) → StepSound s w (events.Hold node) (unless_down w node (answered (record w { holds = node ∷ w.holds }) facts.Done))
    held_sound node =
        unless_down_sound w s k (events.Hold node) node _ (λ lines a. a) refl (record { form = tt; counts = refl; is = tt }) (record { form = tt; counts = refl; is = tt })
        (λ up. telling_sound s w (events.Hold node) facts.Done (still (record w { holds = node ∷ w.holds })) (λ lines a. a) [] refl refl (record { form = tt; counts = refl; is = tt })
        (record { form = tt; counts = refl; is = tt }) (nodes_sound g w s (length w.packets) (node ∷ w.holds) w.downs w.cuts k))

    freed_sound : (node : Node) → StepSound s w (events.Free node) (unless_down w node (answered (record w { holds = without_node w.holds node }) facts.Done))
    freed_sound node =
        unless_down_sound w s k (events.Free node) node _ (λ lines a. a) refl (record { form = tt; counts = refl; is = tt }) (record { form = tt; counts = refl; is = tt })
        (λ up. telling_sound s w (events.Free node) facts.Done (still (record w { holds = without_node w.holds node })) (λ lines a. a) [] refl refl (record { form = tt; counts = refl; is = tt })
        (record { form = tt; counts = refl; is = tt }) (nodes_sound g w s (length w.packets) (without_node w.holds node) w.downs w.cuts k))

    -- a link that goes up or down
    linked_sound : (c : ℕ) (up : Bool) (o : Option Client) → StepSound s w (events.Link c up) (linked w c up o)
    linked_sound c up None =
        answered_sound w s k (events.Link c up) facts.Done (λ lines a. a) tt (record { form = tt; counts = refl; is = tt }) (record { form = tt; counts = refl; is = tt })
    linked_sound c up (Some node) =
        unless_down_sound w s k (events.Link c up) (nodes.Client c) _ (λ lines a. a) tt (record { form = tt; counts = refl; is = tt }) (record { form = tt; counts = refl; is = tt })
        (λ is. telling_sound s w (events.Link c up) facts.Done (still (with_link c up w)) (λ lines a. a) [] refl tt (record { form = tt; counts = refl; is = tt })
        (record { form = tt; counts = refl; is = tt }) (moved up))
      where
        moved : (b : Bool) → MoveSound g s w (length w.packets) (still (with_link c b w))
        moved true = nodes_sound g w s (length w.packets) w.holds w.downs (without_node w.cuts (nodes.Client c)) k
        moved false = nodes_sound g w s (length w.packets) w.holds w.downs (nodes.Client c ∷ w.cuts) k

    idle_sound : (node : Node) → StepSound s w (events.Work node) (answered w (facts.Did steps.Idle))
    idle_sound node = answered_sound w s k (events.Work node) (facts.Did steps.Idle) (λ lines a. a) tt (record { form = tt; counts = refl; is = tt }) (record { form = tt; counts = refl; is = tt })

    worked_sound : (lucks : List Luck) (node : Node) → StepSound s w (events.Work node) (worked w lucks node)
    worked_sound lucks (nodes.Store number) =
        answering_sound s w (events.Work (nodes.Store number)) (facts.Did (busy_step w (busy_table w number))) (write_next number (first_luck lucks) (busy_table w number) w) (λ lines a. a) tt
        (record { form = tt; counts = refl; is = tt }) (record { form = tt; counts = refl; is = tt })
        (works.write_sound g table_work number (first_luck lucks) (busy_table w number) w s (length w.packets) k)
    worked_sound lucks (nodes.Client c) =
        let tasks : List ClientTask = client_tasks (client_at w c) in
        answering_sound s w (events.Work (nodes.Client c)) (facts.Did (next_write tasks)) (client_writes c (first_luck lucks) tasks w) (λ lines a. a) tt
        (record { form = tt; counts = refl; is = tt }) (record { form = tt; counts = refl; is = tt })
        (client_writes_sound c (first_luck lucks) tasks w s (length w.packets) k)
    worked_sound lucks (nodes.Gate gate) = idle_sound (nodes.Gate gate)

    none_sound : (node : Node) → StepSound s w (events.WorkAll node) (answered w (facts.Number 0))
    none_sound node = answered_sound w s k (events.WorkAll node) (facts.Number 0) (λ lines a. a) tt (record { form = tt; counts = refl; is = tt }) (record { form = tt; counts = refl; is = tt })

    all_worked_sound : (lucks : List Luck) (node : Node) → StepSound s w (events.WorkAll node) (all_worked w lucks node)
    all_worked_sound lucks (nodes.Store number) =
        answering_sound s w (events.WorkAll (nodes.Store number)) (facts.Number (length (tasks_of w number))) (store_until_idle number lucks w) (λ lines a. a) tt
        (record { form = tt; counts = refl; is = tt }) (record { form = tt; counts = refl; is = tt }) (works.until_idle_sound g table_work number lucks w s (length w.packets) k)
    all_worked_sound lucks (nodes.Client c) =
        let tasks : List ClientTask = client_tasks (client_at w c) in
        answering_sound s w (events.WorkAll (nodes.Client c)) (facts.Number (length tasks)) (client_until_idle c lucks w) (λ lines a. a) tt
        (record { form = tt; counts = refl; is = tt }) (record { form = tt; counts = refl; is = tt }) (client_works_sound c tasks lucks w s (length w.packets) k)
    all_worked_sound lucks (nodes.Gate gate) = none_sound (nodes.Gate gate)

    nothing_crashes : (calls pick : ℕ) (node : Node) → StepSound s w (events.Crash node calls pick) (answered w facts.Done)
    nothing_crashes calls pick node =
        answered_sound w s k (events.Crash node calls pick) facts.Done (λ lines a. a) refl (record { form = tt; counts = refl; is = tt }) (record { form = tt; counts = refl; is = tt })

    crashed_sound : (calls pick : ℕ) (lucks : List Luck) (node : Node) → StepSound s w (events.Crash node calls pick) (crashed w calls lucks node)
    crashed_sound calls pick lucks (nodes.Store number) =
        telling_sound s w (events.Crash (nodes.Store number) calls pick) facts.Done (store_crashes number calls lucks w) (λ lines a. a) []
        (silent_lines (length w.packets) (store_crashes number calls lucks w).outs (crashes_silent number calls lucks w)) refl
        (record { form = tt; counts = refl; is = tt }) (record { form = tt; counts = refl; is = tt }) (works.crashes_sound g table_work number calls lucks w s (length w.packets) k)
    crashed_sound calls pick lucks (nodes.Client c) =
        let luck : Luck = crash_luck calls (other_lucks lucks) (first_luck lucks) in
        telling_sound s w (events.Crash (nodes.Client c) calls pick) facts.Done (client_crashes c calls lucks w) (λ lines a. a) []
        (silent_lines (length w.packets) (client_crashes c calls lucks w).outs (client_crash_silent c luck w)) refl
        (record { form = tt; counts = refl; is = tt }) (record { form = tt; counts = refl; is = tt }) (client_move w s k c (client.Crash luck) no_shape (length w.packets) tt)
    crashed_sound calls pick lucks (nodes.Gate gate) = nothing_crashes calls pick (nodes.Gate gate)

    goes_on_sound : (node : Node) → StepSound s w (events.Start node) (answered w facts.Done)
    goes_on_sound node = answered_sound w s k (events.Start node) facts.Done (λ lines a. a) tt (record { form = tt; counts = refl; is = tt }) (record { form = tt; counts = refl; is = tt })

    started_sound : (shape : Shape) (lucks : List Luck) (node : Node) → StepSound s w (events.Start node) (started w shape lucks node)
    started_sound shape lucks (nodes.Store number) = go (has_store w number && is_down w (nodes.Store number))
      where
        go : (down : Bool) → StepSound s w (events.Start (nodes.Store number)) (if down then answering facts.Done (store_starts number lucks w) else answered w facts.Done)
        go true =
            answering_sound s w (events.Start (nodes.Store number)) facts.Done (store_starts number lucks w) (λ lines a. a) tt
            (record { form = tt; counts = refl; is = tt }) (record { form = tt; counts = refl; is = tt })
            (works.starts_sound g table_work table_start number lucks w s (length w.packets) k)
        go false = goes_on_sound (nodes.Store number)
    started_sound shape lucks (nodes.Client c) = go (is_down w (nodes.Client c))
      where
        first : Moved
        first = move_client c client.Start shape w

        started_by : (luck : Luck) (more : List Luck) → MoveSound g s w (length w.packets) (starts_by c shape luck more w)
        started_by messages.Done more =
            both_sound g w s (length w.packets) first (client_follows c more) (client_move w s k c client.Start shape (length w.packets) tt)
            (λ x now. client_follows_sound c more first.world x _ now)
        started_by messages.FailedBefore more = failing_sound g w s (length w.packets) (still w) (still_sound g w s (length w.packets) k)
        started_by messages.FailedAfter more = failing_sound g w s (length w.packets) (still w) (still_sound g w s (length w.packets) k)

        go : (down : Bool) → StepSound s w (events.Start (nodes.Client c)) (if down then answering facts.Done (client_starts c shape lucks w) else answered w facts.Done)
        go true =
            answering_sound s w (events.Start (nodes.Client c)) facts.Done (client_starts c shape lucks w) (λ lines a. a) tt
            (record { form = tt; counts = refl; is = tt }) (record { form = tt; counts = refl; is = tt }) (started_by (first_luck lucks) (other_lucks lucks))
        go false = goes_on_sound (nodes.Client c)
    started_sound shape lucks (nodes.Gate gate) = goes_on_sound (nodes.Gate gate)

    -- ---- a table is made, or dropped

    made_good : (node : Node) (table : ℕ) (a : Answer) → IsDone a → IsGoodAnswer s (events.Create node table) a
    made_good node table = by_done (λ (a : Answer). IsGoodAnswer s (events.Create node table) a) (record { form = tt; counts = refl; is = tt }) (λ r. record { form = tt; counts = refl; is = tt })

    dropped_good : (node : Node) (table : ℕ) (a : Answer) → IsDone a → IsGoodAnswer s (events.Drop node table) a
    dropped_good node table = by_done (λ (a : Answer). IsGoodAnswer s (events.Drop node table) a) (record { form = tt; counts = refl; is = tt }) (λ r. record { form = tt; counts = refl; is = tt })

    puts_sound : (event : Event) (number table : ℕ) (put : SidePut) (lucks : List Luck) → CanTurn s event → ((told : List Fact) → IsQuiet event told)
        → ((a : Answer) → IsDone a → IsGoodAnswer s event a) → StepSound s w event (puts_beside w number table put lucks)
    puts_sound event number table put lucks turn quiet good =
        unless_down_sound w s k event (nodes.Store number) _ turn (quiet []) (good (facts.Refuses (facts.NodeDown (nodes.Store number))) tt) (good (facts.Refuses facts.NoDevice) tt)
        (λ up. hosted_sound event table (store.Place put) lucks turn quiet good (λ hosted. placed_form table hosted.store.disk hosted.store.agenda put) tt tt (hosted_by w number table))

    alter_sound : (event : Event) (c table : ℕ) (change : TableChange) (shape : Shape) (lucks : List Luck) → CanTurn s event → ((told : List Fact) → IsQuiet event told)
        → ((a : Answer) → IsDone a → IsGoodAnswer s event a) → part.IsFairChange (g table) change → StepSound s w event (call w c (client.Alter table change) shape lucks)
    alter_sound event c table change shape lucks turn quiet good fair =
        there_sound event c (client.Alter table change) shape lucks turn quiet (λ r before. good (facts.Refuses r) tt) (λ no. absurd no) fair
        (λ node at. good (client_step c shape node (client.Alter table change)).answer (alter_form c shape node.disk node.agenda table change)) (client_at w c) refl

    created_sound : (table : ℕ) (shape : Shape) (lucks : List Luck) (node : Node) → StepSound s w (events.Create node table) (created w table shape lucks node)
    created_sound table shape lucks (nodes.Store number) =
        puts_sound (events.Create (nodes.Store number) table) number table (store.PutState states.Live) lucks (λ lines a. a) (λ told. tt) (made_good (nodes.Store number) table)
    created_sound table shape lucks (nodes.Gate gate) =
        answered_sound w s k (events.Create (nodes.Gate gate) table) facts.Done (λ lines a. a) tt (made_good (nodes.Gate gate) table facts.Done tt)
        (made_good (nodes.Gate gate) table (facts.Refuses facts.NoDevice) tt)
    created_sound table shape lucks (nodes.Client c) = by_schema (schema_at w table) refl
      where
        by_schema : (o : Option Schema) → schema_at w table ≡ o → StepSound s w (events.Create (nodes.Client c) table) (opens w c table shape lucks o)
        by_schema None at =
            answered_sound w s k (events.Create (nodes.Client c) table) facts.Done (λ lines a. a) tt (made_good (nodes.Client c) table facts.Done tt)
            (made_good (nodes.Client c) table (facts.Refuses facts.NoDevice) tt)
        by_schema (Some schema) at =
            alter_sound (events.Create (nodes.Client c) table) c table (client.Opens schema) shape lucks (λ lines a. a) (λ told. tt) (made_good (nodes.Client c) table) (k.schemes table schema at)

    dropped_sound : (table : ℕ) (shape : Shape) (lucks : List Luck) (node : Node) → StepSound s w (events.Drop node table) (dropped w table shape lucks node)
    dropped_sound table shape lucks (nodes.Store number) =
        puts_sound (events.Drop (nodes.Store number) table) number table (store.PutState states.Dropped) lucks (λ lines a. a) (λ told. tt) (dropped_good (nodes.Store number) table)
    dropped_sound table shape lucks (nodes.Client c) =
        alter_sound (events.Drop (nodes.Client c) table) c table client.Closes shape lucks (λ lines a. a) (λ told. tt) (dropped_good (nodes.Client c) table) tt
    dropped_sound table shape lucks (nodes.Gate gate) =
        answered_sound w s k (events.Drop (nodes.Gate gate) table) facts.Done (λ lines a. a) tt (dropped_good (nodes.Gate gate) table facts.Done tt)
        (dropped_good (nodes.Gate gate) table (facts.Refuses facts.NoDevice) tt)

    -- ---- a subscription is kept, a client asks, or a world above does what no node has a part in

    saved_good : (number table c : ℕ) (terms : Option store.Terms) (a : Answer) → IsDone a → IsGoodAnswer s (events.Save number table c terms) a
    saved_good number table c terms =
        by_done (λ (a : Answer). IsGoodAnswer s (events.Save number table c terms) a) (record { form = tt; counts = refl; is = tt }) (λ r. record { form = tt; counts = refl; is = tt })

    saved_sound : (number table c : ℕ) (terms : Option store.Terms) (lucks : List Luck)
        → StepSound s w (events.Save number table c terms) (puts_beside w number table (store.PutSub c terms) lucks)
    saved_sound number table c terms lucks =
        puts_sound (events.Save number table c terms) number table (store.PutSub c terms) lucks (λ lines a. a) (λ told. tt) (saved_good number table c terms)

    ask_sound : (c table : ℕ) (shape : Shape) (lucks : List Luck) → StepSound s w (events.Ask c table) (call w c (client.Next table [] []) shape lucks)
    ask_sound c table shape lucks =
        there_sound (events.Ask c table) c (client.Next table [] []) shape lucks (λ lines a. a) (λ told. tt)
        (λ r before. record { form = tt; counts = refl; is = tt }) (λ no. absurd no) tt
        (λ node at. by_done (λ (a : Answer). IsGoodAnswer s (events.Ask c table) a) (record { form = tt; counts = refl; is = tt }) (λ r. record { form = tt; counts = refl; is = tt }) _
        (next_form c shape node.disk node.agenda table [] [])) (client_at w c) refl

    net_sound : (it : NetEvent) → StepSound s w (events.Net it) (answered w facts.Done)
    net_sound it = answered_sound w s k (events.Net it) facts.Done (λ lines a. a) tt (record { form = tt; counts = refl; is = tt }) (record { form = tt; counts = refl; is = tt })

    -- where a table is declared first, it is of its scheme
    abbrev pub IsFirst : Event → Type 0
    IsFirst (events.Table table schema) = hosted_at w table ≡ None → schema.scheme ≡ g table
    IsFirst (events.Draft table schema) = hosted_at w table ≡ None → schema.scheme ≡ g table
    IsFirst other = Unit {0}

    pub step_sound : IsUp w → (event : Event) (lucks : Lucks) → IsFirst event → StepSound s w event (step w event lucks)
    step_sound up (events.Store number) lucks first = let m = store_sound g w s number (length w.packets) k in record { turn = refl; lines = m.lines; kept = m.kept; there = m.there }
    step_sound up (events.Gate number) lucks first = record { turn = refl; lines = tt; kept = k; there = λ q. λ old. old }
    step_sound up (events.Table table schema) lucks first = declare_sound (events.Table table schema) refl table schema states.Live (first_luck lucks.calls) first (hosted_at w table) refl
    step_sound up (events.Draft table schema) lucks first = declare_sound (events.Draft table schema) refl table schema states.Draft (first_luck lucks.calls) first (hosted_at w table) refl
    step_sound up (events.Client c gate tables) lucks first = join_sound c gate tables (first_luck lucks.calls) (client_at w c) refl
    step_sound up (events.Write c table row x) lucks first = write_sound c table row x lucks.shape lucks.calls
    step_sound up (events.Edit c table row x) lucks first = edit_sound c table row x lucks.shape lucks.calls
    step_sound up (events.Link c is_up) lucks first = linked_sound c is_up (client_at w c)
    step_sound up (events.Show c table row) lucks first = show_sound c table row lucks.shape lucks.calls
    step_sound up (events.Sum c table row) lucks first = sum_sound c table row lucks.shape lucks.calls
    step_sound up (events.Sync c table) lucks first = sync_sound c table lucks.shape lucks.calls
    step_sound up (events.Pull c table) lucks first = pull_sound c table lucks.tears lucks.asks lucks.shape lucks.calls
    step_sound up (events.BeginCr c table) lucks first = begin_sound c table lucks.shape lucks.calls
    step_sound up (events.Conflicts c table) lucks first = conflicts_sound c table lucks.shape lucks.calls
    step_sound up (events.EndCr c table) lucks first = end_sound c table lucks.shape lucks.calls
    step_sound up (events.Resolve c table row seen choice) lucks first = resolve_sound c table row seen choice lucks.shape lucks.calls
    step_sound up (events.ResolveAll c table by) lucks first = all_sound c table by lucks.shape lucks.shapes lucks.calls (other_lucks lucks.calls)
    step_sound up (events.Create node table) lucks first = created_sound table lucks.shape lucks.calls node
    step_sound up (events.Drop node table) lucks first = dropped_sound table lucks.shape lucks.calls node
    step_sound up (events.Save number table d terms) lucks first = saved_sound number table d terms lucks.calls
    step_sound up (events.Ask d table) lucks first = ask_sound d table lucks.shape lucks.calls
    step_sound up (events.Net it) lucks first = net_sound it
    step_sound up (events.Deliver n) lucks first = delivered_sound n lucks.shape lucks.calls (slice_get w.packets n) refl
    step_sound up (events.StoreShow table row) lucks first = shows_sound up table row lucks.calls (hosted_at w table) refl
    step_sound up (events.History table) lucks first = history_sound table (hosted_at w table) refl
    step_sound up (events.Hold node) lucks first = held_sound node
    step_sound up (events.Free node) lucks first = freed_sound node
    step_sound up (events.Work node) lucks first =
        unless_down_sound w s k (events.Work node) node _ (λ lines a. a) tt (record { form = tt; counts = refl; is = tt }) (record { form = tt; counts = refl; is = tt })
        (λ is. worked_sound lucks.calls node)
    step_sound up (events.WorkAll node) lucks first =
        unless_down_sound w s k (events.WorkAll node) node _ (λ lines a. a) tt
        (record { form = tt; counts = refl; is = tt }) (record { form = tt; counts = refl; is = tt }) (λ is. all_worked_sound lucks.calls node)
    step_sound up (events.Crash node calls pick) lucks first =
        unless_down_sound w s k (events.Crash node calls pick) node _ (λ lines a. a) refl (record { form = tt; counts = refl; is = tt }) (record { form = tt; counts = refl; is = tt })
        (λ is. crashed_sound calls pick lucks.calls node)
    step_sound up (events.Start node) lucks first = started_sound lucks.shape lucks.calls node
    step_sound up (events.Chunks table) lucks first = chunks_sound table (hosted_at w table)

  -- ---- runs

  abbrev pub events_in : List Happening → List Event
  events_in hs = map (λ (h : Happening). h.event) hs

  -- tables that aren't declared yet have the schemes of what is to come
  abbrev pub Awaits : World → List Event → Type 0
  Awaits w es = (table : ℕ) → hosted_at w table ≡ None → g table ≡ scheme_for es table

  of_first : (table : ℕ) (x y : Scheme) → (if table == table then x else y) ≡ x
  of_first table x y = grind (arith, nat_tests)

  pub first_is : (w : World) (s : Said) (k : Kept g w s) (event : Event) (es : List Event) → Awaits w (event ∷ es) → IsFirst w s k event
  first_is w s k (events.Table table schema) es f = λ none. sym (f table none ∙ of_first table schema.scheme (scheme_for es table))
  first_is w s k (events.Draft table schema) es f = λ none. sym (f table none ∙ of_first table schema.scheme (scheme_for es table))
  first_is w s k other es f = tt

  -- a table that is declared is there
  with_new_there : (w : World) (number : ℕ) (schema : Schema) (state : TableState) (made : Bool) (table : ℕ) → table ≡ number → hosted_at (with_table w number schema state made) table ≡ None → ⊥
  with_new_there w number schema state made table same none = ⊎_elim (λ e. absurd (let p = sym e.1 ∙ none in cc)) (λ e. e.0 same)
      (look_cases w.tables number (new_hosted state made) table)

  new_there : (w : World) (number : ℕ) (schema : Schema) (state : TableState) (luck : Luck) (table : ℕ) → table ≡ number → hosted_at (made_with w number schema state luck) table ≡ None → ⊥
  new_there w number schema state messages.Done table same none = with_new_there w number schema state true table same none
  new_there w number schema state messages.FailedBefore table same none = with_new_there w number schema state false table same none
  new_there w number schema state messages.FailedAfter table same none = with_new_there w number schema state false table same none

  declared_on : (w : World) (number : ℕ) (schema : Schema) (state : TableState) (luck : Luck) (es : List Event) (table : ℕ)
      → hosted_at (declared w number schema state luck (hosted_at w number)) table ≡ None → (if number == table then schema.scheme else scheme_for es table) ≡ scheme_for es table
  declared_on w number schema state luck es table none = go (number == table) refl
    where
      there : number ≡ table → (o : Option Hosted) → hosted_at w number ≡ o → hosted_at (declared w number schema state luck o) table ≡ None → ⊥
      there same (Some x) at none_2 = absurd (let both : Some x ≡ None = sym at ∙ (ap (hosted_at w) same ∙ none_2) in cc)
      there same None at none_2 = new_there w number schema state luck table (sym same) none_2

      go : (b : Bool) → (number == table) ≡ b → (if b then schema.scheme else scheme_for es table) ≡ scheme_for es table
      go false e = refl
      go true e = absurd (there (grind (arith, nat_tests, e)) (hosted_at w number) refl none)

  pub scheme_on : (w : World) (event : Event) (lucks : Lucks) (es : List Event) (table : ℕ) → hosted_at (step w event lucks).world table ≡ None
      → scheme_for (event ∷ es) table ≡ scheme_for es table
  scheme_on w (events.Table number schema) lucks es table none = declared_on w number schema states.Live (first_luck lucks.calls) es table none
  scheme_on w (events.Draft number schema) lucks es table none = declared_on w number schema states.Draft (first_luck lucks.calls) es table none
  scheme_on w other lucks es table none = refl

  run_sound : (hs : List Happening) (w : World) (s : Said) → Kept g w s → IsUp w → Awaits w (events_in hs) → IsSoundFrom g s (turns_from w hs)
  run_sound [] w s k up f = in_sight g s k.told
  run_sound (h ∷ hs) w s k up f =
      let first : StepSound s w h.event (step w h.event h.lucks) = step_sound w s k up h.event h.lucks (first_is w s k h.event (events_in hs) f) in
      let then_awaits : Awaits (step w h.event h.lucks).world (events_in hs) =
      λ table none. f table (first.there table none) ∙ scheme_on w h.event h.lucks (events_in hs) table none in (
        in_sight g s k.told,
        first.turn,
        first.lines,
        run_sound hs (step w h.event h.lucks).world (hear_lines s (lines_of w (step w h.event h.lucks))) first.kept (step_up w h.event h.lucks up) then_awaits,
      )

  pub run_kept : (hs : List Happening) (w : World) (s : Said) → Kept g w s → IsUp w → Awaits w (events_in hs) → (x : Said) × Kept g (world_from w hs) x
  run_kept [] w s k up f = (s, k)
  run_kept (h ∷ hs) w s k up f =
      let first : StepSound s w h.event (step w h.event h.lucks) = step_sound w s k up h.event h.lucks (first_is w s k h.event (events_in hs) f) in
      run_kept hs (step w h.event h.lucks).world (hear_lines s (lines_of w (step w h.event h.lucks))) first.kept (step_up w h.event h.lucks up)
      (λ table none. f table (first.there table none) ∙ scheme_on w h.event h.lucks (events_in hs) table none)

  pub start_kept : Kept g start nothing_said
  start_kept = record {
    items = λ table. [];
    sent = λ c. [];
    told = nothing_told;
    history = λ table. refl;
    lawful = record { good = λ c r a. absurd (among_none r a); gone = λ c table row n lost. ⊎_elim (λ v. absurd (let e = v.1 in cc)) (λ v. absurd (true≢false (sym v))) lost };
    schemes = λ table schema at. absurd cc;
    declared = λ table hosted at. absurd cc;
    tables = λ table. record {
      counted = tt;
      known = λ i a. absurd (among_none i a);
      based = λ i a. absurd (among_none i a);
      over = λ exact i o a. absurd (among_none i a);
      rises = λ i o a. absurd (among_none i a);
    };
    stores = λ table hosted at. absurd cc;
    unmade = λ table hosted at. absurd cc;
    no_store = λ table none. refl;
    clients = λ c node at. absurd cc;
    no_client = λ c none. (refl, refl);
    packets = λ p a. absurd (among_none p a);
  }

pub events_are : (hs : List Happening) (w : World) → map (λ (turn : Turn). turn.event) (turns_from w hs) ≡ map (λ (h : Happening). h.event) hs
events_are [] w = refl
events_are (h ∷ hs) w = ap (λ (es : List Event). h.event ∷ es) (events_are hs (step w h.event h.lucks).world)

-- every run is sound, whatever its lucks
pub all_runs : ClientLaws → ClientGrows → LapsedGrows → FreshParts → (hs : List Happening) → IsSound (turns_from start hs)
all_runs client_law client_grows lapsed_grows fresh_part hs =
    let g : ℕ → Scheme = scheme_for (map (λ (turn : Turn). turn.event) (turns_from start hs)) in
    run_sound client_law client_grows lapsed_grows fresh_part g hs start nothing_said (start_kept client_law client_grows lapsed_grows fresh_part g) start_up
    (λ table none. ap (λ (es : List Event). scheme_for es table) (events_are hs start))
