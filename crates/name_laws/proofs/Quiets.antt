-- Where a Store is quiet, none of its tables has writes to do, but such that put something beside its rows.
use Rattle.std.proofs.Common.{◌≡◌, ◌≢◌, ◌⊎◌, inl, inr, ⊎_elim, ℕ, zero, suc, Bool, true, false, List, [], ◌∷◌, ◌++◌, Option, Some, None, refl, sym, ◌∙◌, ap, subst, arith, true≢false}
use Rattle.std.specs.Prelude.{◌+◌, map, not, drop, ◌==◌, ◌&&◌, ◌||◌, slice_get, option_map, if◌then◌else◌}
use Rattle.std.proofs.lemmas.Bool.Decides.{nat_tests}
use Rattle.conflicts.specs.declared.stored.Stored.{Stored}
use Rattle.stab_base.specs.declared.node.Node.{Node}
use Rattle.stab_base.specs.declared.node.Node.TheVariants as nodes
use Rattle.row_value.specs.declared.schema.Schema.{Schema}
use Rattle.table_model.specs.declared.line.RowPair.{RowPair}
use Rattle.table_model.specs.declared.event.Event.{Event}
use Rattle.table_model.specs.declared.event.Event.TheVariants as events
use Rattle.table_model.specs.declared.table_state.TableState.{TableState}
use Rattle.table_model.specs.declared.table_state.TableState.TheVariants as states
use Rattle.step_tables.specs.Facts.{Answer}
use Rattle.step_tables.specs.Facts as facts
use Rattle.step_tables.specs.Messages.{Message, Luck, table_of}
use Rattle.step_tables.specs.Messages as messages
use Rattle.step_tables.specs.StoreMoves as store
use Rattle.step_tables.specs.StoreMoves.{StoreTask, StoreMove, SidePut}
use Rattle.step_tables.specs.ClientMoves as client
use Rattle.step_tables.specs.ClientMoves.{Client, ClientTask, ClientMove, Shape, no_shape}
use Rattle.step_tables.proofs.Lists.{among_get}
use Rattle.world_tables.specs.Quiet.{Quiet, sent_in, comes_to, if_done, held_after, loud_after, stores_after, after, at_first}
use Rattle.world_tables.specs.World.{client_until_idle, client_writes, client_starts, client_crashes}
use Rattle.world_tables.specs.World.{World, Packet, Hosted, Moved, WorldStep, start, owner_by, owner_of, has_store, hosted_by, schema_at, hosted_at, client_at, same_node, has_node}
use Rattle.world_tables.specs.World.{without_node, is_down, still}
use Rattle.world_tables.specs.World.{and_then, lines_of, tasks_in, with_store, joining}
use Rattle.world_tables.specs.World.{move_table, move_hosted, move_client, first_luck, other_lucks, client_tasks, client_follows, gets_tasks, client_follows_from}
use Rattle.world_tables.specs.World.{store_falls, busy_table, write_next, store_until_idle, table_follows, table_crashes, crash_luck, store_crashes, store_starts}
use Rattle.world_tables.specs.World.{answering, answered, refused, unless_down, agenda_of, new_hosted, with_table, declared, joined, puts_beside, opens, created, dropped}
use Rattle.world_tables.specs.World.{call_there, call, take_read, take_at, to_hosted, to_there, carried, delivered, row_read, store_shows, chunk_names, history_lines, worked, all_worked}
use Rattle.world_tables.specs.World.{crashed, started, step}
use Rattle.world_tables.specs.World.{Lucks, starts_by, with_link, linked}
use Rattle.world_tables.specs.World.{and_unless, listed, first_shape, other_shapes, chosen_of, client_pairs, resolve_by, plan_size, resolve_each, resolve_all}
use Rattle.world_laws.proofs.Calls.{call_is}
use Rattle.world_laws.proofs.Looks.{look_cases}
use Rattle.world_laws.proofs.Owners.{IsBeside, beside_then, owners_stay, move_beside, table_follows_beside, store_falls_beside, write_beside, until_idle_beside, crashes_beside, store_starts_beside}
use Rattle.world_laws.proofs.Owners.{IsSameStores, stores_same, stores_then, client_stores, client_works_stores, client_follows_stores, client_writes_stores, same_or_other, joined_owner}
use Rattle.world_laws.proofs.Owners.{hosted_by_is, up_store}
use Rattle.name_laws.proofs.Plain.{IsPlace}
use Rattle.name_laws.proofs.Moves.{IsFine, IsAddressed, packets_in}
use Rattle.name_laws.proofs.Steps.{to_join, holding, Stepped, lines_sent, lines_answer, stores_by, holds_by, schemas_by, step_stepped, start_fine}
use Rattle.name_laws.proofs.Idle.{AreBesideRows, Idle, other_idle, fallen_idle, until_idle, write_idle, table_follows_idle, kept_idle, placed_idle, starts_idle}

-- ---- clients change no Store

follows_stores : (agenda : Option (List ClientTask)) (c : ℕ) (lucks : List Luck) (w : World) → IsSameStores w (client_follows_from agenda c lucks w).world
follows_stores agenda c lucks w = go (gets_tasks agenda w c)
  where
    go : (b : Bool) → IsSameStores w (if b then client_follows c lucks w else still w).world
    go true = client_follows_stores c lucks w
    go false = stores_same w

call_stores : (w : World) (c : ℕ) (move : ClientMove) (shape : Shape) (lucks : List Luck) (o : Option Client) → client_at w c ≡ o → IsSameStores w (call_there w c move shape lucks o).world
call_stores w c move shape lucks o at = call_is (λ (s : WorldStep). IsSameStores w s.world) w c move shape lucks (λ r before. stores_same w)
    (client_stores w c (client.Crash messages.FailedBefore) no_shape) (λ take. stores_same w)
    (λ node is. let v : World = (move_client c move shape w).world in
    stores_then w v (client_follows_from node.agenda c (other_lucks lucks) v).world (client_stores w c move shape) (follows_stores node.agenda c (other_lucks lucks) v)) o at

starts_stores : (c : ℕ) (shape : Shape) (luck : Luck) (more : List Luck) (w : World) → IsSameStores w (starts_by c shape luck more w).world
starts_stores c shape messages.Done more w =
    let v : World = (move_client c client.Start shape w).world in stores_then w v (client_follows c more v).world (client_stores w c client.Start shape) (client_follows_stores c more v)
starts_stores c shape messages.FailedBefore more w = stores_same w
starts_stores c shape messages.FailedAfter more w = stores_same w

-- a step whose answer is another one
abbrev with_answer : WorldStep → Option Answer → WorldStep
with_answer s o = record s { answer = o }

listed_stores : (w : World) (s : WorldStep) → IsSameStores w s.world → IsSameStores w (listed s).world
listed_stores w s same = go s.answer
  where
    go : (o : Option Answer) → IsSameStores w (listed (with_answer s o)).world
    go None = same
    go (Some facts.Done) = same
    go (Some (facts.Number count)) = same
    go (Some (facts.Shows what)) = same
    go (Some (facts.Sums sum)) = same
    go (Some (facts.Stores version content)) = same
    go (Some (facts.Did did)) = same
    go (Some (facts.Names names)) = same
    go (Some (facts.Pairs pairs)) = same
    go (Some (facts.Refuses refusal)) = same

unless_stores : (w : World) (m : Moved) (next : World → Moved) → IsSameStores w m.world → ((x : World) → IsSameStores x (next x).world) → IsSameStores w (and_unless m next).world
unless_stores w m next first same = go m.failed
  where
    go : (b : Bool) → IsSameStores w (if b then m else and_then m next).world
    go true = first
    go false = stores_then w m.world (next m.world).world first (same m.world)

module _ (c table : ℕ) (by : Stored) where
  resolve_by_stores : (shape : Shape) (pair : RowPair) (luck : Luck) (w : World) → IsSameStores w (resolve_by c table by shape pair luck w).world
  resolve_by_stores shape pair messages.Done w = client_stores w c (client.Resolve table pair.row pair.version (chosen_of by pair.row (client_at w c) table)) shape
  resolve_by_stores shape pair messages.FailedBefore w = client_stores w c (client.Crash messages.FailedBefore) no_shape
  resolve_by_stores shape pair messages.FailedAfter w = client_stores w c (client.Crash messages.FailedBefore) no_shape

  resolve_each_stores : (shapes : List Shape) (lucks : List Luck) (pairs : List RowPair) (w : World) → IsSameStores w (resolve_each c table by shapes lucks pairs w).world
  resolve_each_stores shapes lucks [] w = stores_same w
  resolve_each_stores shapes lucks (pair ∷ pairs) w =
      unless_stores w (and_unless resolved (client_until_idle c (other_lucks lucks))) (resolve_each c table by (other_shapes shapes) more pairs)
      (unless_stores w resolved (client_until_idle c (other_lucks lucks)) (resolve_by_stores (first_shape shapes) pair (first_luck lucks) w)
      (λ x. client_works_stores c (client_tasks (client_at x c)) (other_lucks lucks) x))
      (resolve_each_stores (other_shapes shapes) more pairs)
    where
      resolved : Moved
      resolved = resolve_by c table by (first_shape shapes) pair (first_luck lucks) w

      more : List Luck
      more = drop (1 + plan_size c resolved.world) lucks

  resolve_all_stores : (w : World) (shapes : List Shape) (lucks : List Luck) (s : WorldStep) → IsSameStores w s.world → IsSameStores w (resolve_all w c table by shapes lucks s).world
  resolve_all_stores w shapes lucks s same = go s.answer
    where
      go : (o : Option Answer) → IsSameStores w (resolve_all w c table by shapes lucks (with_answer s o)).world
      go None = same
      go (Some facts.Done) = same
      go (Some (facts.Number count)) = resolve_each_stores shapes lucks (client_pairs (client_at w c) table) w
      go (Some (facts.Shows what)) = same
      go (Some (facts.Sums sum)) = same
      go (Some (facts.Stores version content)) = same
      go (Some (facts.Did did)) = same
      go (Some (facts.Names names)) = same
      go (Some (facts.Pairs pairs)) = same
      go (Some (facts.Refuses refusal)) = same

same_idle : (w x : World) (number : ℕ) → IsSameStores w x → Idle w number → Idle x number
same_idle w x number same idle q hosted own at = idle q hosted
    (sym (ap (λ (stores : List ℕ). owner_by stores (schema_at x q)) same.stores ∙ ap (λ (some : List (ℕ × Schema)). owner_of (record w { schemas = some }) q) same.schemas) ∙ own)
    (ap (λ (some : List (ℕ × Hosted)). hosted_at (record w { tables = some }) q) (sym same.tables) ∙ at)

down_idle_step : (w : World) (node : Node) (s : WorldStep) (number : ℕ) → Idle w number → (is_down w node ≡ false → Idle s.world number) → Idle (unless_down w node s).world number
down_idle_step w node s number idle up = go (is_down w node) refl
  where
    go : (b : Bool) → is_down w node ≡ b → Idle (if b then refused w (facts.NodeDown node) else s).world number
    go true is = idle
    go false is = up is

-- ---- lists of nodes

abbrev IsLoud : List Node → ℕ → Bool
IsLoud loud number = has_node loud (nodes.Store number)

or_false : (a b : Bool) → (a || b) ≡ false → (a ≡ false) × (b ≡ false)
or_false true b e = absurd (true≢false e)
or_false false b e = (refl, e)

-- what comes to another node
comes_less : (q : Quiet) (o : Option Node) (number : ℕ) → IsLoud (comes_to q o) number ≡ false → IsLoud q.loud number ≡ false
comes_less q None number is = is
comes_less q (Some node) number is = go (has_node q.held node) is
  where
    go : (b : Bool) → IsLoud (if b then node ∷ q.loud else q.loud) number ≡ false → IsLoud q.loud number ≡ false
    go true e = (or_false (same_node (nodes.Store number) node) (IsLoud q.loud number) e).1
    go false e = e

same_self : (number : ℕ) → same_node (nodes.Store number) (nodes.Store number) ≡ true
same_self number = grind (arith, nat_tests)

-- what comes to a Store while it is on hold makes it loud
comes_free : (q : Quiet) (number : ℕ) → IsLoud (comes_to q (Some (nodes.Store number))) number ≡ false → has_node q.held (nodes.Store number) ≡ false
comes_free q number is = go (has_node q.held (nodes.Store number)) refl is
  where
    go : (b : Bool) → has_node q.held (nodes.Store number) ≡ b → IsLoud (if b then nodes.Store number ∷ q.loud else q.loud) number ≡ false → has_node q.held (nodes.Store number) ≡ false
    go true held e = absurd (true≢false (sym (same_self number) ∙ (or_false (same_node (nodes.Store number) (nodes.Store number)) (IsLoud q.loud number) e).0))
    go false free e = free

same_both : (number : ℕ) (node other : Node) → same_node (nodes.Store number) node ≡ false → same_node node other ≡ true → same_node (nodes.Store number) other ≡ false
same_both number (nodes.Store a) (nodes.Store b) apart same = go (number == b) refl
  where
    go : (t : Bool) → (number == b) ≡ t → (number == b) ≡ false
    go false e = e
    go true e = absurd (grind (arith, nat_tests, apart, same, e))
same_both number (nodes.Store a) (nodes.Client c) apart same = refl
same_both number (nodes.Store a) (nodes.Gate g) apart same = refl
same_both number (nodes.Client a) (nodes.Client c) apart same = refl
same_both number (nodes.Client a) (nodes.Store c) apart same = absurd (true≢false (sym same))
same_both number (nodes.Client a) (nodes.Gate c) apart same = refl
same_both number (nodes.Gate a) (nodes.Client c) apart same = refl
same_both number (nodes.Gate a) (nodes.Store c) apart same = absurd (true≢false (sym same))
same_both number (nodes.Gate a) (nodes.Gate c) apart same = refl

-- another node taken out
without_other : (some : List Node) (number : ℕ) (node : Node) → same_node (nodes.Store number) node ≡ false → IsLoud (without_node some node) number ≡ IsLoud some number
without_other [] number node apart = refl
without_other (x ∷ xs) number node apart = go (same_node node x) refl (without_other xs number node apart)
  where
    go : (b : Bool) → same_node node x ≡ b → IsLoud (without_node xs node) number ≡ IsLoud xs number
        → IsLoud (if not b then x ∷ without_node xs node else without_node xs node) number ≡ IsLoud (x ∷ xs) number
    go true same rest = rest ∙ ap (λ (c : Bool). c || IsLoud xs number) (sym (same_both number node x apart same))
    go false same rest = ap (λ (c : Bool). same_node (nodes.Store number) x || c) rest

-- a node is this Store, or another one
this_or_other : (number : ℕ) (node : Node) → (nodes.Store number ≡ node) ⊎ (same_node (nodes.Store number) node ≡ false)
this_or_other number (nodes.Client c) = inr refl
this_or_other number (nodes.Gate gate) = inr refl
this_or_other number (nodes.Store n) = go (number == n) refl
  where
    go : (b : Bool) → (number == n) ≡ b → (nodes.Store number ≡ nodes.Store n) ⊎ ((number == n) ≡ false)
    go true is = let same : number ≡ n = grind (arith, nat_tests, is) in inl (ap nodes.Store same)
    go false is = inr is

-- ---- events: a Store that isn't loud behind one is idle

module _ (w : World) (f : IsFine w) (number : ℕ) where
  -- a Store that falls
  fall_idle : (node : ℕ) → has_store w node ≡ true → Idle w number → Idle (store_falls node w).world number
  fall_idle node has idle = ⊎_elim (λ same. subst (Idle (store_falls node w).world) same (fallen_idle node w has))
      (λ apart. other_idle node number w (store_falls node w).world (store_falls_beside node w) (λ e. apart (sym e)) idle) (same_or_other node number)

  -- a move of a table that reads its disks, at its owner
  take_beside : (table : ℕ) (move : StoreMove) (lucks : List Luck) (hosted : Hosted) (o : Option (List StoreTask)) → IsBeside (owner_of w table) w (take_at w table hosted move lucks o).world
  take_beside table move lucks hosted o = go o
    where
      x : World
      x = (move_table table move w).world

      moved : IsBeside (owner_of w table) w x
      moved = move_beside w table move

      reads : (luck : Luck) → IsBeside (owner_of w table) w (take_read w table hosted move (other_lucks lucks) luck).world
      reads messages.Done = beside_then (owner_of w table) w x (table_follows table (other_lucks lucks) x).world moved
          (subst (λ (n : ℕ). IsBeside n x (table_follows table (other_lucks lucks) x).world) (owners_stay (owner_of w table) w x moved table) (table_follows_beside table (other_lucks lucks) x))
      reads messages.FailedBefore = store_falls_beside (owner_of w table) w
      reads messages.FailedAfter = store_falls_beside (owner_of w table) w

      go : (o : Option (List StoreTask)) → IsBeside (owner_of w table) w (take_at w table hosted move lucks o).world
      go None = moved
      go (Some (task ∷ more)) = moved
      go (Some []) = reads (first_luck lucks)

  owner_takes : (table : ℕ) (from : Node) (m : Message) (lucks : List Luck) → IsPlace from → has_store w (owner_of w table) ≡ true → owner_of w table ≡ number → Idle w number
      → has_node w.holds (nodes.Store number) ≡ false → (hosted : Hosted) → hosted_at w table ≡ Some hosted → (o : Option (List StoreTask)) → hosted.store.agenda ≡ o
      → Idle (take_at w table hosted (store.Take from m) lucks o).world number
  owner_takes table from m lucks place has own idle free hosted at o is = go o is
    where
      fell : Idle (store_falls (owner_of w table) w).world number
      fell = fall_idle (owner_of w table) has idle

      reads : (luck : Luck) → Idle (take_read w table hosted (store.Take from m) (other_lucks lucks) luck).world number
      reads messages.Done = subst (Idle (table_follows table (other_lucks lucks) (move_table table (store.Take from m) w).world).world) own
          (table_follows_idle w table (store.Take from m) (other_lucks lucks) f place has (subst (Idle w) (sym own) idle)
          (λ on. absurd (true≢false (sym on ∙ (ap (λ (n : ℕ). has_node w.holds (nodes.Store n)) own ∙ free)))))
      reads messages.FailedBefore = fell
      reads messages.FailedAfter = fell

      kept : hosted.store.agenda ≢ Some [] → Idle (move_table table (store.Take from m) w).world number
      kept busy = subst (λ (o : Option Hosted). Idle (move_hosted w table (store.Take from m) o).world number) (sym at) (kept_idle w table number hosted from m idle own at busy)

      go : (o : Option (List StoreTask)) → hosted.store.agenda ≡ o → Idle (take_at w table hosted (store.Take from m) lucks o).world number
      go (Some []) is = reads (first_luck lucks)
      go (Some (task ∷ more)) is = kept (λ e. let both : Some (task ∷ more) ≡ Some [] = sym is ∙ e in absurd cc)
      go None is = kept (λ e. let both : None ≡ Some [] = sym is ∙ e in absurd cc)

  hosted_idle : (node table : ℕ) (from : Node) (m : Message) (lucks : List Luck) → IsPlace from → has_store w node ≡ true → Idle w number
      → (node ≡ number → has_node w.holds (nodes.Store number) ≡ false) → Idle (to_hosted w table (store.Take from m) lucks (hosted_by w node table)).world number
  hosted_idle node table from m lucks place has idle free = go (hosted_by w node table) refl
    where
      go : (o : Option Hosted) → hosted_by w node table ≡ o → Idle (to_hosted w table (store.Take from m) lucks o).world number
      go None at = idle
      go (Some hosted) by =
          let there = hosted_by_is w node table hosted by in
          ⊎_elim
          (λ same. owner_takes table from m lucks place (ap (has_store w) there.0 ∙ has) (there.0 ∙ same) idle (free same) hosted there.1 hosted.store.agenda refl)
          (λ apart. other_idle (owner_of w table) number w _ (take_beside table (store.Take from m) lucks hosted hosted.store.agenda) (λ e. apart (sym (e ∙ there.0))) idle) (same_or_other node number)

  carried_idle : (q : Quiet) → q.held ≡ w.holds → (p : Packet) (shape : Shape) (lucks : List Luck) → (to : Node) → IsAddressed w p to
      → (IsLoud q.loud number ≡ false → Idle w number) → IsLoud (comes_to q (Some to)) number ≡ false → Idle (carried w p shape lucks to).world number
  carried_idle q held p shape lucks (nodes.Store node) place idle quiet =
      let rest : Idle w number = idle (comes_less q (Some (nodes.Store node)) number quiet) in
      down_idle_step w (nodes.Store node) _ number rest
      (λ up. hosted_idle node (table_of p.message) p.from p.message lucks place.0 (up_store w node up).0 rest
      (λ same. ap (λ (hs : List Node). has_node hs (nodes.Store number)) (sym held)
      ∙ comes_free q number (subst (λ (n : ℕ). IsLoud (comes_to q (Some (nodes.Store n))) number ≡ false) same quiet)))
  carried_idle q held p shape lucks (nodes.Gate gate) place idle quiet = idle (comes_less q (Some (nodes.Gate gate)) number quiet)
  carried_idle q held p shape lucks (nodes.Client c) place idle quiet =
      same_idle w (to_there w c p.message shape lucks (client_at w c)).world number (go (client_at w c) refl) (idle (comes_less q (Some (nodes.Client c)) number quiet))
    where
      go : (o : Option Client) → client_at w c ≡ o → IsSameStores w (to_there w c p.message shape lucks o).world
      go None at = stores_same w
      go (Some node) at = call_stores w c (client.Take p.message) shape lucks (Some node) at

  delivered_idle : (q : Quiet) → q.held ≡ w.holds → q.sent ≡ map (λ (p : Packet). p.to) w.packets → (n : ℕ) (shape : Shape) (lucks : List Luck)
      → (IsLoud q.loud number ≡ false → Idle w number) → IsLoud (comes_to q (slice_get q.sent n)) number ≡ false → Idle (delivered w shape lucks (slice_get w.packets n)).world number
  delivered_idle q held sent n shape lucks idle quiet = go (slice_get w.packets n) refl
    where
      get_map : (ps : List Packet) (k : ℕ) → slice_get (map (λ (p : Packet). p.to) ps) k ≡ option_map (λ (p : Packet). p.to) (slice_get ps k)
      get_map [] k = refl
      get_map (p ∷ ps) zero = refl
      get_map (p ∷ ps) (suc k) = get_map ps k

      found : slice_get q.sent n ≡ option_map (λ (p : Packet). p.to) (slice_get w.packets n)
      found = ap (λ (ns : List Node). slice_get ns n) sent ∙ get_map w.packets n

      go : (o : Option Packet) → slice_get w.packets n ≡ o → Idle (delivered w shape lucks o).world number
      go None at = idle (comes_less q (slice_get q.sent n) number quiet)
      go (Some p) at = carried_idle q held p shape lucks p.to (f.places p (among_get w.packets n p at)) idle
          (subst (λ (o : Option Node). IsLoud (comes_to q o) number ≡ false) (found ∙ ap (option_map (λ (x : Packet). x.to)) at) quiet)

  -- ---- a table that is made or dropped

  owner_places : (table : ℕ) (put : SidePut) (lucks : List Luck) → has_store w (owner_of w table) ≡ true → Idle w (owner_of w table) → (hosted : Hosted) (o : Option (List StoreTask))
      → Idle (take_at w table hosted (store.Place put) lucks o).world (owner_of w table)
  owner_places table put lucks has idle hosted o = go o
    where
      moved : Idle (move_table table (store.Place put) w).world (owner_of w table)
      moved = placed_idle w table (owner_of w table) put idle refl

      reads : (luck : Luck) → Idle (take_read w table hosted (store.Place put) (other_lucks lucks) luck).world (owner_of w table)
      reads messages.Done = table_follows_idle w table (store.Place put) (other_lucks lucks) f tt has idle (λ on. moved)
      reads messages.FailedBefore = fallen_idle (owner_of w table) w has
      reads messages.FailedAfter = fallen_idle (owner_of w table) w has

      go : (o : Option (List StoreTask)) → Idle (take_at w table hosted (store.Place put) lucks o).world (owner_of w table)
      go (Some []) = reads (first_luck lucks)
      go (Some (task ∷ more)) = moved
      go None = moved

  beside_idle : (node table : ℕ) (put : SidePut) (lucks : List Luck) → Idle w number → Idle (puts_beside w node table put lucks).world number
  beside_idle node table put lucks idle = down_idle_step w (nodes.Store node) _ number idle (λ up. go (up_store w node up).0 (hosted_by w node table) refl)
    where
      go : has_store w node ≡ true → (o : Option Hosted) → hosted_by w node table ≡ o → Idle (to_hosted w table (store.Place put) lucks o).world number
      go has None by = idle
      go has (Some hosted) by =
          let there = hosted_by_is w node table hosted by in
          let s : WorldStep = take_at w table hosted (store.Place put) lucks hosted.store.agenda in
          ⊎_elim
          (λ same. subst (Idle s.world) (there.0 ∙ same)
          (owner_places table put lucks (ap (has_store w) there.0 ∙ has) (subst (Idle w) (sym (there.0 ∙ same)) idle) hosted hosted.store.agenda))
          (λ apart. other_idle (owner_of w table) number w s.world (take_beside table (store.Place put) lucks hosted hosted.store.agenda) (λ e. apart (sym (e ∙ there.0))) idle)
          (same_or_other node number)

  shows_idle : (table : ℕ) (row : List ℕ) (lucks : List Luck) → Idle w number → (o : Option Hosted) → Idle (store_shows w table row lucks o).world number
  shows_idle table row lucks idle None = idle
  shows_idle table row lucks idle (Some hosted) = down_idle_step w (nodes.Store (owner_of w table)) _ number idle (λ up. read up (first_luck lucks))
    where
      fell : is_down w (nodes.Store (owner_of w table)) ≡ false → Idle (store_falls (owner_of w table) w).world number
      fell up = fall_idle (owner_of w table) (up_store w (owner_of w table) up).0 idle

      read : is_down w (nodes.Store (owner_of w table)) ≡ false → (luck : Luck) → Idle (row_read w table hosted row luck).world number
      read up messages.Done = idle
      read up messages.FailedBefore = fell up
      read up messages.FailedAfter = fell up

  with_table_idle : (table : ℕ) (schema : Schema) (state : TableState) (made : Bool) → Idle w number → Idle (with_table w table schema state made) number
  with_table_idle table schema state made idle q found own at = ⊎_elim
      (λ e. let both : Some new ≡ Some found = sym e.1 ∙ at in let same : new ≡ found = cc in subst (λ (y : Hosted). AreBesideRows (tasks_in y.store.agenda)) same (none made))
      (λ e. idle q found (ap (λ (o : Option Schema). owner_by w.stores o) (sym (others e.0)) ∙ own) (sym e.1 ∙ at)) (look_cases w.tables table new q)
    where
      new : Hosted
      new = new_hosted state made

      others : q ≢ table → schema_at (with_table w table schema state made) q ≡ schema_at w q
      others apart = ⊎_elim (λ e. absurd (apart e.0)) (λ e. e.1) (look_cases w.schemas table schema q)

      none : (b : Bool) → AreBesideRows (tasks_in (agenda_of b))
      none true = tt
      none false = tt

  declared_idle : (table : ℕ) (schema : Schema) (state : TableState) (luck : Luck) → Idle w number → (o : Option Hosted) → Idle (declared w table schema state luck o) number
  declared_idle table schema state luck idle (Some hosted) = idle
  declared_idle table schema state messages.Done idle None = with_table_idle table schema state true idle
  declared_idle table schema state messages.FailedBefore idle None = with_table_idle table schema state false idle
  declared_idle table schema state messages.FailedAfter idle None = with_table_idle table schema state false idle

  history_idle : (table : ℕ) → Idle w number → (o : Option Hosted) → Idle (history_lines w table o).world number
  history_idle table idle None = idle
  history_idle table idle (Some hosted) = idle

  joined_idle : (c : ℕ) (tables : List ℕ) (luck : Luck) → Idle w number → (o : Option Client) → Idle (joined w c tables luck o) number
  joined_idle c tables luck idle None = idle
  joined_idle c tables luck idle (Some node) = idle

  linked_idle : (c : ℕ) (up : Bool) → Idle w number → (o : Option Client) → Idle (linked w c up o).world number
  linked_idle c up idle None = idle
  linked_idle c up idle (Some node) = down_idle_step w (nodes.Client c) _ number idle (λ is. moved up)
    where
      moved : (b : Bool) → Idle (with_link c b w) number
      moved true = idle
      moved false = idle

  chunks_idle : (table : ℕ) → Idle w number → (o : Option Hosted) → Idle (chunk_names w table o).world number
  chunks_idle table idle None = idle
  chunks_idle table idle (Some hosted) = down_idle_step w (nodes.Store (owner_of w table)) _ number idle (λ up. idle)

  call_idle : (c : ℕ) (move : ClientMove) (shape : Shape) (lucks : List Luck) → Idle w number → Idle (call w c move shape lucks).world number
  call_idle c move shape lucks idle = same_idle w (call w c move shape lucks).world number (call_stores w c move shape lucks (client_at w c) refl) idle

  created_idle : (table : ℕ) (shape : Shape) (lucks : List Luck) → Idle w number → (node : Node) → Idle (created w table shape lucks node).world number
  created_idle table shape lucks idle (nodes.Store n) = beside_idle n table (store.PutState states.Live) lucks idle
  created_idle table shape lucks idle (nodes.Client c) = go (schema_at w table)
    where
      go : (o : Option Schema) → Idle (opens w c table shape lucks o).world number
      go None = idle
      go (Some schema) = call_idle c (client.Alter table (client.Opens schema)) shape lucks idle
  created_idle table shape lucks idle (nodes.Gate gate) = idle

  dropped_idle : (table : ℕ) (shape : Shape) (lucks : List Luck) → Idle w number → (node : Node) → Idle (dropped w table shape lucks node).world number
  dropped_idle table shape lucks idle (nodes.Store n) = beside_idle n table (store.PutState states.Dropped) lucks idle
  dropped_idle table shape lucks idle (nodes.Client c) = call_idle c (client.Alter table client.Closes) shape lucks idle
  dropped_idle table shape lucks idle (nodes.Gate gate) = idle

  conflicts_idle : (c : ℕ) (move : ClientMove) (shape : Shape) (lucks : List Luck) → Idle w number → Idle (listed (call w c move shape lucks)).world number
  conflicts_idle c move shape lucks idle = same_idle w (listed (call w c move shape lucks)).world number
      (listed_stores w (call w c move shape lucks) (call_stores w c move shape lucks (client_at w c) refl)) idle

  all_idle : (c table : ℕ) (by : Stored) (lucks : Lucks) → Idle w number
      → Idle (resolve_all w c table by lucks.shapes (other_lucks lucks.calls) (call w c (client.ResolveAll table by) lucks.shape lucks.calls)).world number
  all_idle c table by lucks idle =
      let s : WorldStep = call w c (client.ResolveAll table by) lucks.shape lucks.calls in
      same_idle w (resolve_all w c table by lucks.shapes (other_lucks lucks.calls) s).world number
      (resolve_all_stores c table by w lucks.shapes (other_lucks lucks.calls) s (call_stores w c (client.ResolveAll table by) lucks.shape lucks.calls (client_at w c) refl)) idle

  -- ---- what is done to a node

  worked_idle : (lucks : List Luck) → Idle w number → (node : Node) → is_down w node ≡ false → Idle (worked w lucks node).world number
  worked_idle lucks idle (nodes.Store n) up = ⊎_elim
      (λ same. subst (λ (k : ℕ). Idle (write_next k (first_luck lucks) (busy_table w k) w).world number) (sym same)
      (write_idle number (first_luck lucks) w f (ap (has_store w) (sym same) ∙ (up_store w n up).0) idle))
      (λ apart. other_idle n number w _ (write_beside n (first_luck lucks) w) (λ e. apart (sym e)) idle) (same_or_other n number)
  worked_idle lucks idle (nodes.Client c) up =
      let tasks : List ClientTask = client_tasks (client_at w c) in
      same_idle w (client_writes c (first_luck lucks) tasks w).world number (client_writes_stores c (first_luck lucks) tasks w) idle
  worked_idle lucks idle (nodes.Gate gate) up = idle

  all_worked_idle : (lucks : List Luck) (node : Node) → is_down w node ≡ false → (same_node (nodes.Store number) node ≡ false → Idle w number) → Idle (all_worked w lucks node).world number
  all_worked_idle lucks (nodes.Store n) up idle = ⊎_elim
      (λ same. subst (λ (k : ℕ). Idle (store_until_idle k lucks w).world number) (sym same) (until_idle number lucks w f (ap (has_store w) (sym same) ∙ (up_store w n up).0)))
      (λ apart. other_idle n number w _ (until_idle_beside n lucks w) (λ e. apart (sym e)) (idle (other apart))) (same_or_other n number)
    where
      other : n ≢ number → (number == n) ≡ false
      other apart = go (number == n) refl
        where
          go : (b : Bool) → (number == n) ≡ b → (number == n) ≡ false
          go true is = absurd (apart (grind (arith, nat_tests, is)))
          go false is = is
  all_worked_idle lucks (nodes.Client c) up idle = same_idle w (client_until_idle c lucks w).world number (client_works_stores c (client_tasks (client_at w c)) lucks w) (idle refl)
  all_worked_idle lucks (nodes.Gate gate) up idle = idle refl

  -- a Store that is worked until idle isn't loud any more
  all_idle_by : (loud : List Node) (node : Node) (lucks : List Luck) → (IsLoud loud number ≡ false → Idle w number)
      → IsLoud (if_done (unless_down w node (all_worked w lucks node)).answer (without_node loud node) loud) number ≡ false → Idle (unless_down w node (all_worked w lucks node)).world number
  all_idle_by loud node lucks idle = go (is_down w node) refl
    where
      still_quiet : same_node (nodes.Store number) node ≡ false → (answer : Option Answer) → IsLoud (if_done answer (without_node loud node) loud) number ≡ false → IsLoud loud number ≡ false
      still_quiet apart None quiet = quiet
      still_quiet apart (Some (facts.Refuses refusal)) quiet = quiet
      still_quiet apart (Some facts.Done) quiet = sym (without_other loud number node apart) ∙ quiet
      still_quiet apart (Some (facts.Number count)) quiet = sym (without_other loud number node apart) ∙ quiet
      still_quiet apart (Some (facts.Shows what)) quiet = sym (without_other loud number node apart) ∙ quiet
      still_quiet apart (Some (facts.Sums sum)) quiet = sym (without_other loud number node apart) ∙ quiet
      still_quiet apart (Some (facts.Stores version content)) quiet = sym (without_other loud number node apart) ∙ quiet
      still_quiet apart (Some (facts.Did did)) quiet = sym (without_other loud number node apart) ∙ quiet
      still_quiet apart (Some (facts.Names names)) quiet = sym (without_other loud number node apart) ∙ quiet
      still_quiet apart (Some (facts.Pairs pairs)) quiet = sym (without_other loud number node apart) ∙ quiet

      go : (b : Bool) → is_down w node ≡ b → IsLoud (if_done (if b then refused w (facts.NodeDown node) else all_worked w lucks node).answer (without_node loud node) loud) number ≡ false
          → Idle (if b then refused w (facts.NodeDown node) else all_worked w lucks node).world number
      go true down quiet = idle quiet
      go false up quiet = all_worked_idle lucks node up (λ apart. idle (still_quiet apart (all_worked w lucks node).answer quiet))

  crash_idle : (calls : ℕ) (lucks : List Luck) → Idle w number → (n : ℕ) → has_store w n ≡ true → Idle (store_crashes n calls lucks w).world number
  crash_idle calls lucks idle n has = ⊎_elim here (λ apart. other_idle n number w _ (crashes_beside n calls lucks w) (λ e. apart (sym e)) idle) (same_or_other n number)
    where
      luck : Luck
      luck = crash_luck calls (other_lucks lucks) (first_luck lucks)

      m : Moved
      m = table_crashes luck (busy_table w n) w

      has_too : (o : Option ℕ) → has_store (table_crashes luck o w).world n ≡ true
      has_too None = has
      has_too (Some table) = ap (λ (stores : List ℕ). has_store (record w { stores = stores }) n) (move_beside w table (store.Crash luck)).stores ∙ has

      here : n ≡ number → Idle (store_crashes n calls lucks w).world number
      here same = subst (Idle (store_falls n m.world).world) same (fallen_idle n m.world (has_too (busy_table w n)))

  crashed_idle : (calls : ℕ) (lucks : List Luck) → Idle w number → (node : Node) → is_down w node ≡ false → Idle (crashed w calls lucks node).world number
  crashed_idle calls lucks idle (nodes.Store n) up = crash_idle calls lucks idle n (up_store w n up).0
  crashed_idle calls lucks idle (nodes.Client c) up =
      same_idle w (client_crashes c calls lucks w).world number (client_stores w c (client.Crash (crash_luck calls (other_lucks lucks) (first_luck lucks))) no_shape) idle
  crashed_idle calls lucks idle (nodes.Gate gate) up = idle

  started_idle : (q : Quiet) → q.held ≡ w.holds → (shape : Shape) (lucks : List Luck) → (IsLoud q.loud number ≡ false → Idle w number)
      → (node : Node) → IsLoud (comes_to q (Some node)) number ≡ false → Idle (started w shape lucks node).world number
  started_idle q held shape lucks idle (nodes.Client c) quiet = go (is_down w (nodes.Client c))
    where
      rest : Idle w number
      rest = idle (comes_less q (Some (nodes.Client c)) number quiet)

      go : (b : Bool) → Idle (if b then answering facts.Done (client_starts c shape lucks w) else answered w facts.Done).world number
      go true = same_idle w (client_starts c shape lucks w).world number (starts_stores c shape (first_luck lucks) (other_lucks lucks) w) rest
      go false = rest
  started_idle q held shape lucks idle (nodes.Gate gate) quiet = idle (comes_less q (Some (nodes.Gate gate)) number quiet)
  started_idle q held shape lucks idle (nodes.Store n) quiet = go (has_store w n) refl (is_down w (nodes.Store n))
    where
      rest : Idle w number
      rest = idle (comes_less q (Some (nodes.Store n)) number quiet)

      here : has_store w n ≡ true → n ≡ number → Idle (store_starts n lucks w).world number
      here has same = subst (λ (k : ℕ). Idle (store_starts k lucks w).world number) (sym same) (starts_idle number lucks w f (ap (has_store w) (sym same) ∙ has)
          (ap (λ (hs : List Node). has_node hs (nodes.Store number)) (sym held) ∙ comes_free q number (subst (λ (k : ℕ). IsLoud (comes_to q (Some (nodes.Store k))) number ≡ false) same quiet)))

      go : (a : Bool) → has_store w n ≡ a → (b : Bool) → Idle (if a && b then answering facts.Done (store_starts n lucks w) else answered w facts.Done).world number
      go false none b = rest
      go true has false = rest
      go true has true = ⊎_elim (here has) (λ apart. other_idle n number w _ (store_starts_beside n lucks w) (λ e. apart (sym e)) rest) (same_or_other n number)

  -- a Store that joins takes tables of quiet ones, or is loud
  store_idle : (loud : List Node) (n : ℕ) → ((other : ℕ) → IsLoud loud other ≡ false → Idle w other) → IsLoud (joining n loud) number ≡ false → Idle (with_store n w) number
  store_idle [] n idle quiet q hosted own at = idle (owner_of w q) refl q hosted refl at
  store_idle (first ∷ more) n idle quiet q hosted own at = ⊎_elim
      (λ taken. absurd (true≢false (sym (subst (λ (k : ℕ). (number == k) ≡ true) (sym own ∙ taken) (same_self number)) ∙ apart.0)))
      (λ kept. idle number apart.1 q hosted (sym kept ∙ own) at) (joined_owner n w.stores (schema_at w q))
    where
      apart : ((number == n) ≡ false) × (IsLoud (first ∷ more) number ≡ false)
      apart = or_false (number == n) (IsLoud (first ∷ more) number) quiet

-- no Store that isn't loud has writes to do, but beside its rows
abbrev pub AreIdle : World → List Node → Type 0
AreIdle w loud = (number : ℕ) → has_node loud (nodes.Store number) ≡ false → Idle w number

step_idle : (w : World) → IsFine w → (q : Quiet) → q.held ≡ w.holds → q.sent ≡ map (λ (p : Packet). p.to) w.packets → (event : Event) (lucks : Lucks) → AreIdle w q.loud
    → AreIdle (step w event lucks).world (loud_after q event (step w event lucks).answer)
step_idle w f q held sent (events.Store number) lucks idle n quiet = store_idle w f n q.loud number idle quiet
step_idle w f q held sent (events.Gate number) lucks idle n quiet = idle n quiet
step_idle w f q held sent (events.Table table schema) lucks idle n quiet = declared_idle w f n table schema states.Live (first_luck lucks.calls) (idle n quiet) (hosted_at w table)
step_idle w f q held sent (events.Draft table schema) lucks idle n quiet = declared_idle w f n table schema states.Draft (first_luck lucks.calls) (idle n quiet) (hosted_at w table)
step_idle w f q held sent (events.Client c gate tables) lucks idle n quiet = joined_idle w f n c tables (first_luck lucks.calls) (idle n quiet) (client_at w c)
step_idle w f q held sent (events.Write c table row x) lucks idle n quiet = call_idle w f n c (client.Write table row x) lucks.shape lucks.calls (idle n quiet)
step_idle w f q held sent (events.Edit c table row x) lucks idle n quiet = call_idle w f n c (client.Change table row x) lucks.shape lucks.calls (idle n quiet)
step_idle w f q held sent (events.Link c up) lucks idle n quiet = linked_idle w f n c up (idle n quiet) (client_at w c)
step_idle w f q held sent (events.Create node table) lucks idle n quiet = created_idle w f n table lucks.shape lucks.calls (idle n quiet) node
step_idle w f q held sent (events.Drop node table) lucks idle n quiet = dropped_idle w f n table lucks.shape lucks.calls (idle n quiet) node
step_idle w f q held sent (events.Save number table d terms) lucks idle n quiet = beside_idle w f n number table (store.PutSub d terms) lucks.calls (idle n quiet)
step_idle w f q held sent (events.Ask d table) lucks idle n quiet = call_idle w f n d (client.Next table [] []) lucks.shape lucks.calls (idle n quiet)
step_idle w f q held sent (events.Net it) lucks idle n quiet = idle n quiet
step_idle w f q held sent (events.Show c table row) lucks idle n quiet = call_idle w f n c (client.Show table row) lucks.shape lucks.calls (idle n quiet)
step_idle w f q held sent (events.Sum c table row) lucks idle n quiet = call_idle w f n c (client.Sum table row) lucks.shape lucks.calls (idle n quiet)
step_idle w f q held sent (events.Sync c table) lucks idle n quiet = call_idle w f n c (client.Sync table) lucks.shape lucks.calls (idle n quiet)
step_idle w f q held sent (events.Pull c table) lucks idle n quiet = call_idle w f n c (client.Next table lucks.tears lucks.asks) lucks.shape lucks.calls (idle n quiet)
step_idle w f q held sent (events.BeginCr c table) lucks idle n quiet = call_idle w f n c (client.BeginCr table) lucks.shape lucks.calls (idle n quiet)
step_idle w f q held sent (events.Conflicts c table) lucks idle n quiet = conflicts_idle w f n c (client.Conflicts table) lucks.shape lucks.calls (idle n quiet)
step_idle w f q held sent (events.EndCr c table) lucks idle n quiet = call_idle w f n c (client.EndCr table) lucks.shape lucks.calls (idle n quiet)
step_idle w f q held sent (events.Resolve c table row seen choice) lucks idle n quiet = call_idle w f n c (client.Resolve table row seen choice) lucks.shape lucks.calls (idle n quiet)
step_idle w f q held sent (events.ResolveAll c table by) lucks idle n quiet = all_idle w f n c table by lucks (idle n quiet)
step_idle w f q held sent (events.Deliver k) lucks idle n quiet = delivered_idle w f n q held sent k lucks.shape lucks.calls (idle n) quiet
step_idle w f q held sent (events.StoreShow table row) lucks idle n quiet = shows_idle w f n table row lucks.calls (idle n quiet) (hosted_at w table)
step_idle w f q held sent (events.History table) lucks idle n quiet = history_idle w f n table (idle n quiet) (hosted_at w table)
step_idle w f q held sent (events.Hold node) lucks idle n quiet = down_idle_step w node _ n (idle n quiet) (λ up. idle n quiet)
step_idle w f q held sent (events.Free node) lucks idle n quiet = down_idle_step w node _ n (idle n quiet) (λ up. idle n quiet)
step_idle w f q held sent (events.Work node) lucks idle n quiet = down_idle_step w node _ n (idle n quiet) (λ up. worked_idle w f n lucks.calls (idle n quiet) node up)
step_idle w f q held sent (events.WorkAll node) lucks idle n quiet = all_idle_by w f n q.loud node lucks.calls (idle n) quiet
step_idle w f q held sent (events.Crash node calls pick) lucks idle n quiet = down_idle_step w node _ n (idle n quiet) (λ up. crashed_idle w f n calls lucks.calls (idle n quiet) node up)
step_idle w f q held sent (events.Start node) lucks idle n quiet = started_idle w f n q held lucks.shape lucks.calls (idle n) node quiet
step_idle w f q held sent (events.Chunks table) lucks idle n quiet = chunks_idle w f n table (idle n quiet) (hosted_at w table)

-- ---- what is followed along the lines

pub record Follows (w : World) (q : Quiet) : Type 0 where
  pub fine : IsFine w
  pub stores : q.stores ≡ w.stores
  pub held : q.held ≡ w.holds
  pub sent : q.sent ≡ map (λ (p : Packet). p.to) w.packets
  pub idle : AreIdle w q.loud

pub start_follows : Follows start at_first
start_follows = record { fine = start_fine; stores = refl; held = refl; sent = refl; idle = λ number quiet table hosted own at. absurd cc }

stores_follow : (q : Quiet) (w : World) (event : Event) → q.stores ≡ w.stores → stores_after q event ≡ stores_by w event
stores_follow q w (events.Store number) same = ap (λ (stores : List ℕ). number ∷ stores) same
stores_follow q w other same = same

held_same : (q : Quiet) (w : World) (event : Event) (answer : Option Answer) → q.held ≡ w.holds → held_after q event answer ≡ held_after (holding w) event answer
held_same q w (events.Hold node) answer same = ap (λ (held : List Node). if_done answer (node ∷ held) held) same
held_same q w (events.Free node) answer same = ap (λ (held : List Node). if_done answer (without_node held node) held) same
held_same q w other answer same = same

pub step_follows : (w : World) (q : Quiet) (event : Event) (lucks : Lucks) → Follows w q
    → Follows (step w event lucks).world (after q (record { event = event; lines = lines_of w (step w event lucks) }))
step_follows w q event lucks k =
    let s : WorldStep = step w event lucks in
    let x : Stepped w (stores_by w event) (holds_by w event lucks) (schemas_by w event lucks) s = step_stepped w event lucks k.fine in
    let answer = lines_answer w (stores_by w event) (holds_by w event lucks) (schemas_by w event lucks) s x in
    record {
      fine = x.fine;
      stores = stores_follow q w event k.stores ∙ sym x.stores_are;
      held = ap (held_after q event) answer ∙ (held_same q w event s.answer k.held ∙ sym x.holds_are);
      sent = ap (λ (ns : List Node). ns ++ sent_in (lines_of w s)) k.sent
          ∙ (ap (λ (ns : List Node). map (λ (p : Packet). p.to) w.packets ++ ns) (lines_sent w (stores_by w event) (holds_by w event lucks) (schemas_by w event lucks) s x)
          ∙ (sym (to_join w.packets (packets_in s.outs)) ∙ ap (λ (ps : List Packet). map (λ (p : Packet). p.to) ps) (sym x.packets)));
      idle = λ number quiet. step_idle w k.fine q k.held k.sent event lucks k.idle number
          (ap (λ (a : Option Answer). has_node (loud_after q event a) (nodes.Store number)) (sym answer) ∙ quiet);
    }
