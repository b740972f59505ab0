-- What a client resolves was asked for by the event, and so in every run.
use Rattle.std.proofs.Common.{◌≡◌, ⊎_elim, ℕ, Bool, true, false, List, [], ◌∷◌, ◌++◌, Option, Some, None, refl, sym, ◌∙◌, subst, arith, append-nil}
use Rattle.std.specs.Prelude.{slice_get, if◌then◌else◌}
use Rattle.std.proofs.lemmas.Bool.Decides.{nat_tests}
use Rattle.std.specs.Ordering.{nat_cmp}
use Rattle.std.specs.BTreeMap.{insert_entry}
use Rattle.row_value.specs.declared.schema.Schema.{Schema}
use Rattle.table_model.specs.declared.event.Event.{Event}
use Rattle.table_model.specs.declared.event.Event.TheVariants as events
use Rattle.table_model.specs.declared.table_state.TableState.{TableState}
use Rattle.table_model.specs.declared.table_state.TableState.TheVariants as states
use Rattle.conflicts.specs.declared.pair.Choice.{Choice}
use Rattle.conflicts.specs.declared.stored.Stored as resolvers
use Rattle.step_tables.specs.Facts.{Answer, Refusal, Line, AnswerLine, EntryLine, PairLine}
use Rattle.step_tables.specs.Facts as facts
use Rattle.step_tables.specs.Messages.{Message, Luck, table_of}
use Rattle.step_tables.specs.Messages as messages
use Rattle.step_tables.specs.ClientMoves as client
use Rattle.step_tables.specs.StoreMoves.{PutSub}
use Rattle.step_tables.specs.ClientMoves.{Client, ClientTask, ClientMove, Shape, client_step}
use Rattle.step_tables.proofs.Lists.{same_row-refl}
use Rattle.world_tables.specs.World.{World, Hosted, Moved, WorldStep, Lucks, start, hosted_at, client_at, tasks_in, lines_of, and_then, with_store}
use Rattle.world_tables.specs.World.{move_client, first_luck, other_lucks, client_follows_from}
use Rattle.world_tables.specs.World.{answering, silent}
use Rattle.world_tables.specs.World.{agenda_of, with_table, made_with, declared, open_all, new_client, first_agenda, joined, call, client_pairs, resolve_each, resolve_all}
use Rattle.world_tables.specs.World.{step}
use Rattle.world_tables.specs.Turns.{Happening, turns_from, turns}
use Rattle.world_laws.proofs.Looks.{look_cases}
use Rattle.world_laws.proofs.Calls.{call_is}
use Rattle.asked_laws.specs.Asked.{Asked, nothing_asked, lets_resolve, answered_asked, lines_asked, AskedFrom, AreAsked}
use Rattle.asked_laws.proofs.Fine.{HasOnePlan, IsFine}
use Rattle.asked_laws.proofs.Stores.{ArePlainWrites}
use Rattle.asked_laws.proofs.Worlds.{AreFine, ClientsFine, put_table, Goes}
use Rattle.asked_laws.proofs.Each.{Resolves, IsResolving, each_stays, IsIdleNumber, all_idle}
use Rattle.asked_laws.proofs.Events.{or_too, StepGoes, told_goes, later, answered_goes, down_goes, unread_goes, called_goes, call_goes, delivered_goes, shows_go, chunks_go, history_goes, link_goes, held_goes, worked_goes, all_worked_goes, crashed_goes, started_goes, conflicts_go}
use Rattle.asked_laws.proofs.Events.{puts_go, created_goes, dropped_goes}

-- ---- what is resolved

-- an answer that lets a client resolve asks for the row, or for each row of the table
row_asked : (a : Asked) (c table : ℕ) (row : List ℕ) (seen : ℕ) (choice : Choice) (final : Answer) → lets_resolve final ≡ true
    → answered_asked (events.Resolve c table row seen choice) final a c table row ≡ true
row_asked a c table row seen choice final lets = or_too (a c table row) _ (grind (arith, nat_tests, same_row-refl row, lets))

rows_asked : (a : Asked) (c table : ℕ) (by : resolvers.Stored) (final : Answer) → lets_resolve final ≡ true → (row : List ℕ)
    → answered_asked (events.ResolveAll c table by) final a c table row ≡ true
rows_asked a c table by final lets row = or_too (a c table row) _ (grind (arith, nat_tests, lets))

resolve_goes : (a : Asked) (w : World) → AreFine a w → (c table : ℕ) (row : List ℕ) (seen : ℕ) (choice : Choice) (shape : Shape) (lucks : List Luck)
    → StepGoes a w (events.Resolve c table row seen choice) (call w c (client.Resolve table row seen choice) shape lucks)
resolve_goes a w fine c table row seen choice shape lucks =
    call_goes a w fine (events.Resolve c table row seen choice) c (client.Resolve table row seen choice) shape lucks
    (λ node final lets is. row_asked a c table row seen choice final (lets is)) (client_at w c) refl

all_goes : (a : Asked) (w : World) → AreFine a w → (c table : ℕ) (by : resolvers.Stored) (shape : Shape) (shapes : List Shape) (lucks more : List Luck)
    → StepGoes a w (events.ResolveAll c table by) (resolve_all w c table by shapes more (call w c (client.ResolveAll table by) shape lucks))
all_goes a w fine c table by shape shapes lucks more =
    call_is (λ (x : WorldStep). StepGoes a w event (resolve_all w c table by shapes more x)) w c (client.ResolveAll table by) shape lucks
    (λ r before. answered_goes a w fine event (facts.Refuses r)) (unread_goes a w fine event c) (λ take. absurd take)
    (λ node at. by_fault node at (and_then (move_client c (client.ResolveAll table by) shape w) (client_follows_from node.agenda c (other_lucks lucks)))
    (λ final. called_goes a w fine event c (client.ResolveAll table by) shape (other_lucks lucks) (answered_asked event final a) (later a w fine event final) node at tt)
    (client_step c shape node (client.ResolveAll table by)).answer (all_idle shape node.disk node.agenda table by))
    (client_at w c) refl
  where
    event : Event
    event = events.ResolveAll c table by

    each : Moved
    each = resolve_each c table by shapes more (client_pairs (client_at w c) table) w

    idle : (b : Asked) (node : Client) → client_at w c ≡ Some node → tasks_in node.agenda ≡ [] → IsResolving b c w
    idle b node at none found there =
        let both : Some node ≡ Some found = sym at ∙ there in
        let same : node ≡ found = cc in
        subst (λ (y : Client). HasOnePlan (Resolves b c) (tasks_in y.agenda)) same (subst (λ (tasks : List ClientTask). HasOnePlan (Resolves b c) tasks) (sym none) tt)

    all_told : (node : Client) → client_at w c ≡ Some node → tasks_in node.agenda ≡ [] → (number : ℕ) → StepGoes a w event (answering (facts.Number number) each)
    all_told node at none number = go each.failed
      where
        told : (final : Answer) → lets_resolve final ≡ true → StepGoes a w event (record { world = each.world; answer = Some final; counted = []; outs = each.outs })
        told final lets =
            let b : Asked = answered_asked event final a in
            told_goes a w event final each
            (each_stays b c table (rows_asked a c table by final lets) by shapes more (client_pairs (client_at w c) table) w (later a w fine event final) (idle b node at none)).goes

        go : (b : Bool) → StepGoes a w event (record { world = each.world; answer = Some (if b then facts.Refuses facts.NoDevice else facts.Number number); counted = []; outs = each.outs })
        go true = told (facts.Refuses facts.NoDevice) refl
        go false = told (facts.Number number) refl

    by_answer : (node : Client) → client_at w c ≡ Some node → (m : Moved) → ((final : Answer) → Goes (answered_asked event final a) w.packets m) → (x : Answer) → IsIdleNumber node.agenda x
        → StepGoes a w event (resolve_all w c table by shapes more (record { world = m.world; answer = Some x; counted = []; outs = m.outs }))
    by_answer node at m g (facts.Number number) f = all_told node at f number
    by_answer node at m g (facts.Refuses r) f = told_goes a w event (facts.Refuses r) m (g (facts.Refuses r))
    by_answer node at m g other f = absurd f

    by_fault : (node : Client) → client_at w c ≡ Some node → (m : Moved) → ((final : Answer) → Goes (answered_asked event final a) w.packets m) → (x : Answer) → IsIdleNumber node.agenda x
        → StepGoes a w event (resolve_all w c table by shapes more (answering x m))
    by_fault node at m g x f = go m.failed
      where
        go : (b : Bool) → StepGoes a w event
            (resolve_all w c table by shapes more (record { world = m.world; answer = Some (if b then facts.Refuses facts.NoDevice else x); counted = []; outs = m.outs }))
        go true = by_answer node at m g (facts.Refuses facts.NoDevice) tt
        go false = by_answer node at m g x f

-- ---- declarations

module _ (a : Asked) (w : World) (fine : AreFine a w) where
  -- a world that a declaration makes without a line
  unsaid : (event : Event) (v : World) → AreFine a v → v.packets ≡ w.packets → StepGoes a w event (silent v)
  unsaid event v f same = record { asked = tt; fine = f; answer = refl; sent = refl; packets = same ∙ sym (append-nil w.packets) }

  declared_goes : (event : Event) (table : ℕ) (schema : Schema) (state : TableState) (luck : Luck) (o : Option Hosted) → StepGoes a w event (silent (declared w table schema state luck o))
  declared_goes event table schema state luck (Some hosted) = unsaid event w fine refl
  declared_goes event table schema state luck None = go luck
    where
      with_new : (made : Bool) → AreFine a (with_table w table schema state made)
      with_new made = (put_table w.tables table _ fine.0 (none made), fine.1)
        where
          none : (b : Bool) → ArePlainWrites (tasks_in (agenda_of b))
          none true = tt
          none false = tt

      go : (x : Luck) → StepGoes a w event (silent (made_with w table schema state x))
      go messages.Done = unsaid event (made_with w table schema state messages.Done) (with_new true) refl
      go messages.FailedBefore = unsaid event (made_with w table schema state messages.FailedBefore) (with_new false) refl
      go messages.FailedAfter = unsaid event (made_with w table schema state messages.FailedAfter) (with_new false) refl

  joined_goes : (c : ℕ) (gate : Option ℕ) (tables : List ℕ) (luck : Luck) (o : Option Client) → StepGoes a w (events.Client c gate tables) (silent (joined w c tables luck o))
  joined_goes c gate tables luck (Some node) = unsaid (events.Client c gate tables) w fine refl
  joined_goes c gate tables luck None =
      unsaid (events.Client c gate tables) (joined w c tables luck None) (fine.0, put_new w.clients c (new_client (open_all w [] tables) (first_agenda luck)) fine.1 (fresh luck)) refl
    where
      fresh : (x : Luck) → IsFine a c (new_client (open_all w [] tables) (first_agenda x))
      fresh messages.Done = record { plan = tt; tasks = tt }
      fresh messages.FailedBefore = record { plan = tt; tasks = tt }
      fresh messages.FailedAfter = record { plan = tt; tasks = tt }

      put_new : (clients : List (ℕ × Client)) (number : ℕ) (x : Client) → ClientsFine a clients → IsFine a number x → ClientsFine a (insert_entry nat_cmp clients number x)
      put_new clients number x f here q found at = ⊎_elim
          (λ e. let both : Some x ≡ Some found = sym e.1 ∙ at in let same : x ≡ found = cc in
          subst (λ (z : ℕ). IsFine a z found) (sym e.0) (subst (λ (y : Client). IsFine a number y) same here))
          (λ e. f q found (sym e.1 ∙ at)) (look_cases clients number x q)

  -- ---- every event

  pub step_goes : (event : Event) (lucks : Lucks) → StepGoes a w event (step w event lucks)
  step_goes (events.Store number) lucks = unsaid (events.Store number) (with_store number w) fine refl
  step_goes (events.Gate number) lucks = unsaid (events.Gate number) w fine refl
  step_goes (events.Table table schema) lucks = declared_goes (events.Table table schema) table schema states.Live (first_luck lucks.calls) (hosted_at w table)
  step_goes (events.Draft table schema) lucks = declared_goes (events.Draft table schema) table schema states.Draft (first_luck lucks.calls) (hosted_at w table)
  step_goes (events.Client c gate tables) lucks = joined_goes c gate tables (first_luck lucks.calls) (client_at w c)
  step_goes (events.Write c table row x) lucks = call_goes a w fine (events.Write c table row x) c (client.Write table row x) lucks.shape lucks.calls (λ node final lets. tt) (client_at w c) refl
  step_goes (events.Edit c table row x) lucks = call_goes a w fine (events.Edit c table row x) c (client.Change table row x) lucks.shape lucks.calls (λ node final lets. tt) (client_at w c) refl
  step_goes (events.Link c up) lucks = link_goes a w fine (events.Link c up) c up (client_at w c)
  step_goes (events.Create node table) lucks = created_goes a w fine (events.Create node table) table lucks.shape lucks.calls node
  step_goes (events.Drop node table) lucks = dropped_goes a w fine (events.Drop node table) table lucks.shape lucks.calls node
  step_goes (events.Save number table d terms) lucks = puts_go a w fine (events.Save number table d terms) number table (PutSub d terms) lucks.calls
  step_goes (events.Ask d table) lucks = call_goes a w fine (events.Ask d table) d (client.Next table [] []) lucks.shape lucks.calls (λ node final lets. tt) (client_at w d) refl
  step_goes (events.Net it) lucks = answered_goes a w fine (events.Net it) facts.Done
  step_goes (events.Show c table row) lucks = call_goes a w fine (events.Show c table row) c (client.Show table row) lucks.shape lucks.calls (λ node final lets. tt) (client_at w c) refl
  step_goes (events.Sum c table row) lucks = call_goes a w fine (events.Sum c table row) c (client.Sum table row) lucks.shape lucks.calls (λ node final lets. tt) (client_at w c) refl
  step_goes (events.Sync c table) lucks = call_goes a w fine (events.Sync c table) c (client.Sync table) lucks.shape lucks.calls (λ node final lets. tt) (client_at w c) refl
  step_goes (events.Pull c table) lucks = call_goes a w fine (events.Pull c table) c (client.Next table lucks.tears lucks.asks) lucks.shape lucks.calls (λ node final lets. tt) (client_at w c) refl
  step_goes (events.BeginCr c table) lucks = call_goes a w fine (events.BeginCr c table) c (client.BeginCr table) lucks.shape lucks.calls (λ node final lets. tt) (client_at w c) refl
  step_goes (events.Conflicts c table) lucks = conflicts_go a w fine (events.Conflicts c table) c table lucks.shape lucks.calls
  step_goes (events.EndCr c table) lucks = call_goes a w fine (events.EndCr c table) c (client.EndCr table) lucks.shape lucks.calls (λ node final lets. tt) (client_at w c) refl
  step_goes (events.Resolve c table row seen choice) lucks = resolve_goes a w fine c table row seen choice lucks.shape lucks.calls
  step_goes (events.ResolveAll c table by) lucks = all_goes a w fine c table by lucks.shape lucks.shapes lucks.calls (other_lucks lucks.calls)
  step_goes (events.Deliver packet) lucks = delivered_goes a w fine (events.Deliver packet) lucks.shape lucks.calls (slice_get w.packets packet)
  step_goes (events.StoreShow table row) lucks = shows_go a w fine (events.StoreShow table row) table row lucks.calls (hosted_at w table)
  step_goes (events.History table) lucks = history_goes a w fine (events.History table) table (hosted_at w table)
  step_goes (events.Chunks table) lucks = chunks_go a w fine (events.Chunks table) table (hosted_at w table)
  step_goes (events.Hold node) lucks = down_goes a w fine (events.Hold node) node _ (held_goes a w fine (events.Hold node) _)
  step_goes (events.Free node) lucks = down_goes a w fine (events.Free node) node _ (held_goes a w fine (events.Free node) _)
  step_goes (events.Work node) lucks = down_goes a w fine (events.Work node) node _ (worked_goes a w fine (events.Work node) lucks.calls node)
  step_goes (events.WorkAll node) lucks = down_goes a w fine (events.WorkAll node) node _ (all_worked_goes a w fine (events.WorkAll node) lucks.calls node)
  step_goes (events.Crash node calls pick) lucks = down_goes a w fine (events.Crash node calls pick) node _ (crashed_goes a w fine (events.Crash node calls pick) calls lucks.calls node)
  step_goes (events.Start node) lucks = started_goes a w fine (events.Start node) lucks.shape lucks.calls node

-- ---- runs

run_asked : (happenings : List Happening) (a : Asked) (w : World) → AreFine a w → AskedFrom a (turns_from w happenings)
run_asked [] a w fine = tt
run_asked (h ∷ more) a w fine =
    let s : StepGoes a w h.event (step w h.event h.lucks) = step_goes a w fine h.event h.lucks in
    (s.asked, run_asked more (lines_asked h.event (lines_of w (step w h.event h.lucks)) a) (step w h.event h.lucks).world s.fine)

pub all_asked : (happenings : List Happening) → AreAsked (turns happenings)
all_asked happenings = run_asked happenings nothing_asked start (λ table hosted at. absurd cc, λ c node at. absurd cc)
