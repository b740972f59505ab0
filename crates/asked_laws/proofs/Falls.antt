-- A client goes down where one of its disks fails, and the answer says so: its moves one after the other.
use Rattle.std.proofs.Common.{◌≡◌, ◌≢◌, ◌⊎◌, ⊎_elim, ℕ, Bool, true, false, List, [], ◌∷◌, Option, Some, None, refl, sym, ◌∙◌, ap, subst, true≢false}
use Rattle.std.specs.Prelude.{◌+◌, ◌||◌, drop, if◌then◌else◌}
use Rattle.stab_base.specs.declared.node.Node.TheVariants as nodes
use Rattle.table_model.specs.declared.line.RowPair.{RowPair}
use Rattle.conflicts.specs.declared.stored.Stored as resolvers
use Rattle.step_tables.specs.Messages.{Send, Luck}
use Rattle.step_tables.specs.Messages as messages
use Rattle.step_tables.specs.ClientMoves as client
use Rattle.step_tables.specs.ClientMoves.{Plan, ClientDisk, Client, ClientTask, ClientMove, ClientStep, Shape, no_shape, client_step}
use Rattle.world_tables.specs.World.{World, Moved, client_at, is_client_down, is_fault, has_node, still, and_then, and_unless, failing, moved_client, move_there, move_client, first_luck, other_lucks}
use Rattle.world_tables.specs.World.{client_works, client_tasks, client_until_idle, client_follows, client_follows_from, client_writes, gets_tasks, client_falls, chosen_of, first_shape, other_shapes, plan_size, resolve_by, resolve_each}
use Rattle.asked_laws.specs.Phases.{is_away}
use Rattle.asked_laws.proofs.Begins.{has_none, Begins, write_fine, edit_fine, show_fine, sum_fine, sync_fine, next_fine, take_fine, resolve_fine, phase_fine, conflicts_fine, all_fine, alter_fine}
use Rattle.asked_laws.proofs.Phases.{moved_down}

-- ---- a step that fails leaves its client down, and any other leaves it so where it was

pub record IsSteady (node : Client) (s : ClientStep) : Type 0 where
  pub fell : is_fault s.answer ≡ true → is_client_down (Some s.client) ≡ true
  pub stood : is_fault s.answer ≡ false → is_client_down (Some s.client) ≡ is_client_down (Some node)

-- neither a crash nor a start
abbrev pub IsCallOrWork : ClientMove → Type 0
IsCallOrWork (client.Crash luck) = ⊥
IsCallOrWork client.Start = ⊥
IsCallOrWork other = Unit {0}

pub crash_down : (d : ClientDisk) (agenda : Option (List ClientTask)) (luck : Luck) → is_client_down (Some (client.crashed d agenda luck).client) ≡ true
crash_down d None luck = refl
crash_down d (Some []) luck = refl
crash_down d (Some (task ∷ more)) messages.Done = refl
crash_down d (Some (task ∷ more)) messages.FailedBefore = refl
crash_down d (Some (task ∷ more)) messages.FailedAfter = refl

none_down : (d : ClientDisk) (o : Option (List ClientTask)) → has_none o ≡ is_client_down (Some (record { disk = d; agenda = o }))
none_down d None = refl
none_down d (Some tasks) = refl

-- no plan is looked at
abbrev Any : List ClientTask → Type 0
Any tasks = Unit {0}

begun_steady : (node : Client) (s : ClientStep) → Begins Any node.disk (has_none node.agenda) s → IsSteady node s
begun_steady node s b = record { fell = λ e. absurd (true≢false (sym e ∙ b.3)); stood = λ e. b.2 ∙ none_down node.disk node.agenda }

done_steady : (d : ClientDisk) (agenda : Option (List ClientTask)) → IsSteady (record { disk = d; agenda = agenda }) (client.done d agenda)
done_steady d None = record { fell = λ e. refl; stood = λ e. refl }
done_steady d (Some []) = record { fell = λ e. absurd (true≢false (sym e)); stood = λ e. refl }
done_steady d (Some (task ∷ more)) = record { fell = λ e. absurd (true≢false (sym e)); stood = λ e. refl }

work_steady : (d : ClientDisk) (agenda : Option (List ClientTask)) (luck : Luck) → IsSteady (record { disk = d; agenda = agenda }) (client.worked d agenda luck)
work_steady d agenda messages.Done = done_steady d agenda
work_steady d agenda messages.FailedBefore = record { fell = λ e. crash_down d agenda messages.FailedBefore; stood = λ e. absurd (true≢false e) }
work_steady d agenda messages.FailedAfter = record { fell = λ e. crash_down d agenda messages.FailedAfter; stood = λ e. absurd (true≢false e) }

pub move_steady : (c : ℕ) (shape : Shape) (node : Client) (move : ClientMove) → IsCallOrWork move → IsSteady node (client_step c shape node move)
move_steady c shape node (client.Write table row x) is = begun_steady node _ (write_fine c shape Any tt (λ p sends f. tt) node.disk node.agenda tt table row x)
move_steady c shape node (client.Change table row x) is = begun_steady node _ (edit_fine c shape Any tt (λ p sends f. tt) node.disk node.agenda tt table row x)
move_steady c shape node (client.Show table row) is = begun_steady node _ (show_fine c shape Any tt (λ p sends f. tt) node.disk node.agenda tt table row)
move_steady c shape node (client.Sum table row) is = begun_steady node _ (sum_fine c shape Any tt (λ p sends f. tt) node.disk node.agenda tt table row)
move_steady c shape node (client.Sync table) is = begun_steady node _ (sync_fine c shape Any tt (λ p sends f. tt) node.disk node.agenda tt table)
move_steady c shape node (client.Next table tears asks) is = begun_steady node _ (next_fine c shape Any tt (λ p sends f. tt) node.disk node.agenda tt table tears asks)
move_steady c shape node (client.BeginCr table) is = begun_steady node _ (phase_fine shape Any tt node.disk node.agenda tt table)
move_steady c shape node (client.Conflicts table) is = begun_steady node _ (conflicts_fine shape Any tt node.disk node.agenda tt table)
move_steady c shape node (client.EndCr table) is = begun_steady node _ (phase_fine shape Any tt node.disk node.agenda tt table)
move_steady c shape node (client.Resolve table row version choice) is =
    begun_steady node _ (resolve_fine (λ q t r. true) c shape Any tt (λ p f. tt) node.disk table row node.agenda tt version choice (λ lets. refl))
move_steady c shape node (client.ResolveAll table by) is = begun_steady node _ (all_fine shape Any tt node.disk node.agenda tt table by)
move_steady c shape node (client.Alter table change) is = begun_steady node _ (alter_fine c shape Any tt (λ p sends f. tt) node.disk node.agenda tt table change)
move_steady c shape node (client.Take m) is = begun_steady node _ (take_fine c shape Any tt (λ p sends f. tt) node.disk node.agenda tt m)
move_steady c shape node (client.Work luck) is = work_steady node.disk node.agenda luck
move_steady c shape node (client.Crash luck) is = absurd is
move_steady c shape node client.Start is = absurd is

-- ---- a client, and moves of one

module _ (c : ℕ) where
  abbrev pub away : World → Bool
  away w = is_away (client_at w c)

  -- moves of this client leave it down where they fail, and as it was else; those of another as it was
  pub record Tracks (d : ℕ) (w : World) (m : Moved) : Type 0 where
    pub apart : c ≢ d → away m.world ≡ away w
    pub fell : c ≡ d → m.failed ≡ true → away m.world ≡ true
    pub stood : c ≡ d → m.failed ≡ false → away m.world ≡ away w

  pub still_tracks : (d : ℕ) (w : World) → Tracks d w (still w)
  still_tracks d w = record { apart = λ other. refl; fell = λ same e. absurd (true≢false (sym e)); stood = λ same e. refl }

  pub then_tracks : (d : ℕ) (w : World) (m : Moved) (f : World → Moved) → Tracks d w m → Tracks d m.world (f m.world) → Tracks d w (and_then m f)
  then_tracks d w m f p q = record {
    apart = λ other. q.apart other ∙ p.apart other;
    fell = λ same e. fell same m.failed (f m.world).failed refl refl e;
    stood = λ same e. stood same m.failed (f m.world).failed refl refl e;
  }
    where
      fell : c ≡ d → (x y : Bool) → m.failed ≡ x → (f m.world).failed ≡ y → (x || y) ≡ true → away (f m.world).world ≡ true
      fell same x true a b e = q.fell same b
      fell same true false a b e = q.stood same b ∙ p.fell same a
      fell same false false a b e = absurd (true≢false (sym e))

      stood : c ≡ d → (x y : Bool) → m.failed ≡ x → (f m.world).failed ≡ y → (x || y) ≡ false → away (f m.world).world ≡ away w
      stood same false false a b e = q.stood same b ∙ p.stood same a
      stood same false true a b e = absurd (true≢false e)
      stood same true y a b e = absurd (true≢false e)

  unless_tracks : (d : ℕ) (w : World) (m : Moved) (f : World → Moved) → Tracks d w m → Tracks d m.world (f m.world) → Tracks d w (and_unless m f)
  unless_tracks d w m f p q = go m.failed
    where
      go : (failed : Bool) → Tracks d w (if failed then m else and_then m f)
      go true = p
      go false = then_tracks d w m f p q

  pub move_tracks : (d : ℕ) (w : World) (move : ClientMove) (shape : Shape) → IsCallOrWork move → Tracks d w (move_client d move shape w)
  move_tracks d w move shape is = go (client_at w d) refl
    where
      go : (o : Option Client) → client_at w d ≡ o → Tracks d w (move_there w d move shape o)
      go None at = still_tracks d w
      go (Some node) at =
          let s : ClientStep = client_step d shape node move in
          let steady : IsSteady node s = move_steady d shape node move is in
          let v : World = (moved_client w d move s).world in
          let cases : ((c ≡ d) × (away v ≡ is_client_down (Some s.client))) ⊎ ((c ≢ d) × (away v ≡ away w)) = moved_down c 0 w d move s in
          record {
            apart = λ other. ⊎_elim (λ e. absurd (other e.0)) (λ e. e.1) cases;
            fell = λ same e. ⊎_elim (λ h. h.1 ∙ steady.fell e) (λ h. absurd (h.0 same)) cases;
            stood = λ same e. ⊎_elim
                (λ h. h.1 ∙ (steady.stood e ∙ sym (ap is_away (subst (λ (q : ℕ). client_at w q ≡ Some node) (sym same) at))))
                (λ h. absurd (h.0 same)) cases;
          }

  -- one whose disk can't be read falls
  pub falls_tracks : (d : ℕ) (w : World) → Tracks d w (failing (client_falls d w))
  falls_tracks d w = go (client_at w d) refl
    where
      go : (o : Option Client) → client_at w d ≡ o → Tracks d w (failing (move_there w d (client.Crash messages.FailedBefore) no_shape o))
      go None at = record {
        apart = λ other. refl;
        fell = λ same e. ap is_away (subst (λ (q : ℕ). client_at w q ≡ None) (sym same) at);
        stood = λ same e. absurd (true≢false e);
      }
      go (Some node) at =
          let s : ClientStep = client_step d no_shape node (client.Crash messages.FailedBefore) in
          let v : World = (moved_client w d (client.Crash messages.FailedBefore) s).world in
          let cases : ((c ≡ d) × (away v ≡ is_client_down (Some s.client))) ⊎ ((c ≢ d) × (away v ≡ away w)) = moved_down c 0 w d (client.Crash messages.FailedBefore) s in
          record {
            apart = λ other. ⊎_elim (λ e. absurd (other e.0)) (λ e. e.1) cases;
            fell = λ same e. ⊎_elim (λ h. h.1 ∙ crash_down node.disk node.agenda messages.FailedBefore) (λ h. absurd (h.0 same)) cases;
            stood = λ same e. absurd (true≢false e);
          }

  -- a crash of another one, and one of this one
  pub crash_apart : (d : ℕ) (w : World) (luck : Luck) → c ≢ d → away (move_client d (client.Crash luck) no_shape w).world ≡ away w
  crash_apart d w luck other = go (client_at w d)
    where
      go : (o : Option Client) → away (move_there w d (client.Crash luck) no_shape o).world ≡ away w
      go None = refl
      go (Some node) = ⊎_elim (λ e. absurd (other e.0)) (λ e. e.1) (moved_down c 0 w d (client.Crash luck) (client_step d no_shape node (client.Crash luck)))

  pub crash_falls : (d : ℕ) (w : World) (luck : Luck) → c ≡ d → away (move_client d (client.Crash luck) no_shape w).world ≡ true
  crash_falls d w luck same = go (client_at w d) refl
    where
      go : (o : Option Client) → client_at w d ≡ o → away (move_there w d (client.Crash luck) no_shape o).world ≡ true
      go None at = ap is_away (subst (λ (q : ℕ). client_at w q ≡ None) (sym same) at)
      go (Some node) at =
          ⊎_elim (λ h. h.1 ∙ crash_down node.disk node.agenda luck) (λ h. absurd (h.0 same)) (moved_down c 0 w d (client.Crash luck) (client_step d no_shape node (client.Crash luck)))

  -- ---- a client's work

  pub works_track : (d : ℕ) (tasks : List ClientTask) (lucks : List Luck) (w : World) → Tracks d w (client_works d tasks lucks w)
  works_track d [] lucks w = still_tracks d w
  works_track d (task ∷ tasks) lucks w =
      let first : Moved = move_client d (client.Work (first_luck lucks)) no_shape w in
      then_tracks d w first (client_works d tasks (other_lucks lucks)) (move_tracks d w (client.Work (first_luck lucks)) no_shape tt) (works_track d tasks (other_lucks lucks) first.world)

  pub client_follows_tracks : (d : ℕ) (lucks : List Luck) (w : World) → Tracks d w (client_follows d lucks w)
  client_follows_tracks d lucks w = go (has_node w.holds (nodes.Client d))
    where
      go : (held : Bool) → Tracks d w (if held then still w else client_until_idle d lucks w)
      go true = still_tracks d w
      go false = works_track d (client_tasks (client_at w d)) lucks w

  pub follows_from_tracks : (agenda : Option (List ClientTask)) (d : ℕ) (lucks : List Luck) (w : World) → Tracks d w (client_follows_from agenda d lucks w)
  follows_from_tracks agenda d lucks w = go (gets_tasks agenda w d)
    where
      go : (b : Bool) → Tracks d w (if b then client_follows d lucks w else still w)
      go true = client_follows_tracks d lucks w
      go false = still_tracks d w

  pub client_writes_track : (d : ℕ) (luck : Luck) (tasks : List ClientTask) (w : World) → Tracks d w (client_writes d luck tasks w)
  client_writes_track d luck [] w = still_tracks d w
  client_writes_track d luck (task ∷ tasks) w = move_tracks d w (client.Work luck) no_shape tt

  resolve_by_tracks : (d table : ℕ) (by : resolvers.Stored) (shape : Shape) (pair : RowPair) (luck : Luck) (w : World) → Tracks d w (resolve_by d table by shape pair luck w)
  resolve_by_tracks d table by shape pair messages.Done w = move_tracks d w (client.Resolve table pair.row pair.version (chosen_of by pair.row (client_at w d) table)) shape tt
  resolve_by_tracks d table by shape pair messages.FailedBefore w = falls_tracks d w
  resolve_by_tracks d table by shape pair messages.FailedAfter w = falls_tracks d w

  pub each_tracks : (d table : ℕ) (by : resolvers.Stored) (shapes : List Shape) (lucks : List Luck) (pairs : List RowPair) (w : World) → Tracks d w (resolve_each d table by shapes lucks pairs w)
  each_tracks d table by shapes lucks [] w = still_tracks d w
  each_tracks d table by shapes lucks (pair ∷ pairs) w =
      let first : Moved = resolve_by d table by (first_shape shapes) pair (first_luck lucks) w in
      let more : List Luck = drop (1 + plan_size d first.world) lucks in
      let worked : Moved = and_unless first (client_until_idle d (other_lucks lucks)) in
      unless_tracks d w worked (resolve_each d table by (other_shapes shapes) more pairs)
      (unless_tracks d w first (client_until_idle d (other_lucks lucks)) (resolve_by_tracks d table by (first_shape shapes) pair (first_luck lucks) w)
      (works_track d (client_tasks (client_at first.world d)) (other_lucks lucks) first.world))
      (each_tracks d table by (other_shapes shapes) more pairs worked.world)
