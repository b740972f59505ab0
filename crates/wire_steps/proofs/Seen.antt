-- What was read of a client's row, and a read at which its node fell.
use Rattle.std.proofs.Common.{◌≡◌, ℕ, ◌<◌, List, Option, Some, None, Result, Ok, Err, refl, sym, subst}
use Rattle.std.specs.Prelude.{IfOk, IfSome}
use Rattle.disk_trait.specs.Calls.{DiskState}
use Rattle.disk_trait.specs.Image.{IsImage}
use Rattle.step_tables.specs.ClientMoves.{TableDisk}
use Rattle.client_node.specs.declared.calls.held.RowHeld.{RowHeld as RowFound}
use Rattle.client_node.specs.HeldRows.{row_held}
use Rattle.part_client.specs.declared.held.RowHeld.{RowHeld}
use Rattle.part_client.specs.Held.{IsHeldOf}
use Rattle.journal_host.specs.Calls.{held_by}
use Rattle.store_host.specs.Holds.{AreLeft}
use Rattle.store_host.specs.declared.host.StoreHost.{StoreHost}
use Rattle.world_tables.specs.World.{World as AWorld, Moved, client_at}
use Rattle.fair_laws.specs.Worlds.{IsFair}
use Rattle.fair_laws.proofs.Worlds.{reached_fair}
use Rattle.wire_tables.specs.Wire.{Wire}
use Rattle.node_steps.specs.declared.fault.WorldFault.{WorldFault}
use Rattle.node_steps.specs.declared.told.Read.{Read}
use Rattle.node_steps.specs.declared.told.Read.TheVariants as reads
use Rattle.node_steps.specs.declared.told.Told.{Told}
use Rattle.node_steps.specs.declared.world.World.{World as Nodes}
use Rattle.node_steps.specs.Reads.{HasFound, HasFallen}
use Rattle.node_steps.proofs.Rows.{none_left}
use Rattle.wire_steps.specs.declared.world.World.{World}
use Rattle.wire_steps.specs.Delivering.{IsOpenedAt}
use Rattle.wire_steps.specs.Holds.{Holds}
use Rattle.wire_steps.specs.Reached.{IsReached}
use Rattle.wire_steps.specs.Views.{HasSeen, HasLost, Sees}
use Rattle.wire_steps.proofs.Delivered.{wire_reached}
use Rattle.wire_steps.proofs.Viewed.{held_there, found_size}

some_chunk : (w : AWorld) → IsFair w → (c table : ℕ) (row : List ℕ) (o : Option RowFound) → o ≡ held_by (client_at w c) table row → IfSome o (λ it. 0 < it.chunk)
some_chunk w f c table row None is = tt
some_chunk w f c table row (Some x) is = found_size w f c table row x is

-- the Store's tables are as they were
pub left_alone : {D : Type 0} (state : D → DiskState) (images : D → ℕ → List ℕ → Type 0)
    (only_now : (disk : D) (image : List ℕ) → images disk (state disk).moment image → IsImage (state disk).pending image)
    (v : Wire) (old : World D) (h : Holds state v old) (mid : Nodes D) → mid.store ≡ old.nodes.store → AreLeft state images v.world old.nodes.store.tables mid.store.tables
left_alone {D} state images only_now v old h mid store =
    subst (λ (s : StoreHost D). AreLeft state images v.world old.nodes.store.tables s.tables) (sym store) (none_left state images only_now v.world old.nodes.store h.nodes.store)

module _ {D : Type 0} (state : D → DiskState) (images : D → ℕ → List ℕ → Type 0) (v : Wire) (old : World D) (mid : Nodes D) (left : AreLeft state images v.world old.nodes.store.tables mid.store.tables) where
  pub held_seen : (c table : ℕ) (row : List ℕ) (found : Option RowFound) (result : RowHeld) → IsReached v
      → HasFound state v.world (λ (f : Option RowFound). f ≡ held_by (client_at v.world c) table row) old.nodes mid found
      → ((r : List ℕ) (opened : TableDisk) → found ≡ Some (row_held r opened) → IsHeldOf opened r result) → (IfSome found (λ it. 0 < it.chunk) → 0 < result.chunk)
      → HasSeen state images v (λ held. (0 < held.chunk) × ((it : IsOpenedAt v c table) → IsHeldOf it.opened row held)) old (record old { nodes = mid }) result
  held_seen c table row found result r k held chunk = record {
    found = (
      chunk (some_chunk v.world (reached_fair v.world (wire_reached v r)) c table row found k.found),
      λ it. held row it.opened (held_there v.world c table row found k.found it.node it.there it.opened it.at it.free),
    );
    held = k.held;
    same = k.same;
    left = left;
    rest = refl;
  }

  pub found_seen : {T : Type 0} (is : T → Type 0) (found : T) → HasFound state v.world is old.nodes mid found → HasSeen state images v is old (record old { nodes = mid }) found
  found_seen is found k = record { found = k.found; held = k.held; same = k.same; left = left; rest = refl }

  pub fall_lost : (falls : Moved) (told : Told) → HasFallen state v.world falls old.nodes mid told → HasLost state images v falls old (record old { nodes = mid }) told
  fall_lost falls told k = record { done = k.done; rose = k.rose; left = left; rest = refl }

-- what is known of what was read
pub sees_weaker : {D T : Type 0} (state : D → DiskState) (images : D → ℕ → List ℕ → Type 0) (v : Wire) (falls : Moved) (is other : T → Type 0) (old new : World D) → ((x : T) → is x → other x)
    → (result : Result (Read T) WorldFault) → IfOk result (Sees state images v falls is old new) → IfOk result (Sees state images v falls other old new)
sees_weaker state images v falls is other old new weaker (Err e) k = tt
sees_weaker state images v falls is other old new weaker (Ok (reads.Found x)) k = record { found = weaker x k.found; held = k.held; same = k.same; left = k.left; rest = k.rest }
sees_weaker state images v falls is other old new weaker (Ok (reads.Fallen told)) k = k

-- nothing was read
pub unread : {D T : Type 0} (state : D → DiskState) (images : D → ℕ → List ℕ → Type 0) (only_now : (disk : D) (image : List ℕ) → images disk (state disk).moment image → IsImage (state disk).pending image)
    (v : Wire) (old : World D) → Holds state v old → (is : T → Type 0) (x : T) → is x → HasSeen state images v is old old x
unread state images only_now v old h is x k = record { found = k; held = h.nodes; same = refl; left = left_alone state images only_now v old h old.nodes refl; rest = refl }
