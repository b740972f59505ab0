-- What a client's moves keep of a world: all but the clients, the packets, which links are down, and which phases are
-- open.
use Rattle.std.proofs.Common.{◌≡◌, ℕ, Bool, true, false, List, [], ◌∷◌, Option, Some, None, refl, ◌∙◌, ap, arith}
use Rattle.std.specs.Prelude.{is_some, if◌then◌else◌}
use Rattle.std.specs.Ordering.{nat_cmp}
use Rattle.std.specs.Map.{lookup}
use Rattle.std.specs.BTreeMap.{is_at, insert_entry}
use Rattle.std.proofs.lemmas.Bool.Decides.{nat_tests}
use Rattle.conflicts.specs.declared.stored.Stored.{Stored}
use Rattle.table_model.specs.declared.line.RowPair.{RowPair}
use Rattle.step_tables.specs.ClientMoves.{Client, ClientTask, ClientMove, ClientStep, Shape, Work, Crash, Resolve, no_shape, client_step}
use Rattle.step_tables.specs.Messages.{Luck}
use Rattle.step_tables.specs.Messages as messages
use Rattle.step_tables.proofs.Lists.{lookup-insert_nat}
use Rattle.world_tables.specs.World.{World, Moved, owner_of, client_at, still, and_then, and_unless, failing, chosen_of, client_falls, resolve_by, move_client, move_there, client_works, client_tasks, client_until_idle, first_luck, other_lucks}

-- the same clients are there
abbrev pub SameClients : World → World → Type 0
SameClients w after = (q : ℕ) → is_some (client_at after q) ≡ is_some (client_at w q)

-- the world with the clients, the packets, the links and the phases of another
abbrev pub changed : World → World → World
changed w after = record w { clients = after.clients; packets = after.packets; cuts = after.cuts; phases = after.phases }

pub record KeepsMoved (w : World) (m : Moved) : Type 0 where
  pub same : m.world ≡ changed w m.world
  pub clients : SameClients w m.world

pub still_keeps : (w : World) → KeepsMoved w (still w)
still_keeps w = record { same = refl; clients = λ q. refl }

pub failing_keeps : (w : World) (m : Moved) → KeepsMoved w m → KeepsMoved w (failing m)
failing_keeps w m a = record { same = a.same; clients = a.clients }

pub then_keeps : (w : World) (m : Moved) (f : World → Moved) → KeepsMoved w m → KeepsMoved m.world (f m.world) → KeepsMoved w (and_then m f)
then_keeps w m f a b = record {
  same = b.same ∙ ap (λ (x : World). changed x (f m.world).world) a.same;
  clients = λ q. b.clients q ∙ a.clients q;
}

some_behind : {V : Type 0} (es : List (ℕ × V)) (k : ℕ) (old new : V) (q : ℕ) → lookup (is_at (nat_cmp k)) es ≡ Some old
    → is_some (lookup (is_at (nat_cmp q)) (insert_entry nat_cmp es k new)) ≡ is_some (lookup (is_at (nat_cmp q)) es)
some_behind es k old new q at = grind (arith, nat_tests, at, lookup-insert_nat es k new q)

pub move_keeps : (w : World) (c : ℕ) (move : ClientMove) (shape : Shape) → KeepsMoved w (move_client c move shape w)
move_keeps w c move shape = go (client_at w c) refl
  where
    go : (o : Option Client) → client_at w c ≡ o → KeepsMoved w (move_there w c move shape o)
    go None at = still_keeps w
    go (Some node) at =
        let s : ClientStep = client_step c shape node move in record {
          same = refl;
          clients = λ q. some_behind w.clients c node s.client q at;
        }

pub works_keeps : (c : ℕ) (tasks : List ClientTask) (lucks : List Luck) (w : World) → KeepsMoved w (client_works c tasks lucks w)
works_keeps c [] lucks w = still_keeps w
works_keeps c (task ∷ tasks) lucks w =
    let m : Moved = move_client c (Work (first_luck lucks)) no_shape w in
    then_keeps w m (client_works c tasks (other_lucks lucks)) (move_keeps w c (Work (first_luck lucks)) no_shape) (works_keeps c tasks (other_lucks lucks) m.world)

pub until_idle_keeps : (c : ℕ) (lucks : List Luck) (w : World) → KeepsMoved w (client_until_idle c lucks w)
until_idle_keeps c lucks w = works_keeps c (client_tasks (client_at w c)) lucks w

pub unless_then_keeps : (w : World) (m : Moved) (f : World → Moved) → KeepsMoved w m → KeepsMoved m.world (f m.world) → KeepsMoved w (and_unless m f)
unless_then_keeps w m f a b = go m.failed
  where
    go : (failed : Bool) → KeepsMoved w (if failed then m else and_then m f)
    go true = a
    go false = then_keeps w m f a b

pub resolve_by_keeps : (c table : ℕ) (way : Stored) (shape : Shape) (pair : RowPair) (luck : Luck) (w : World) → KeepsMoved w (resolve_by c table way shape pair luck w)
resolve_by_keeps c table way shape pair messages.Done w = move_keeps w c (Resolve table pair.row pair.version (chosen_of way pair.row (client_at w c) table)) shape
resolve_by_keeps c table way shape pair messages.FailedBefore w = failing_keeps w (client_falls c w) (move_keeps w c (Crash messages.FailedBefore) no_shape)
resolve_by_keeps c table way shape pair messages.FailedAfter w = failing_keeps w (client_falls c w) (move_keeps w c (Crash messages.FailedBefore) no_shape)

-- whoever keeps a table keeps it still
pub owners_kept : (w : World) (m : Moved) → KeepsMoved w m → owner_of m.world ≡ owner_of w
owners_kept w m k = ap owner_of k.same
