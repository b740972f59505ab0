-- A world in which nothing is declared, and Stores that are to be started.
use Rattle.std.proofs.Common.{◌≡◌, ℕ, Bool, true, false, List, [], ◌∷◌, Option, Some, None, Result, refl, sym, ◌∙◌, ap}
use Rattle.std.specs.Prelude.{IfOk, IsSome, not, ◌&&◌, ◌||◌, if◌then◌else◌}
use Rattle.std.specs.Ordering.{nat_cmp}
use Rattle.std.specs.BTreeMap as tree
use Rattle.disk_trait.specs.Image.{IsImage}
use Rattle.disk_trait.specs.Calls.{DiskState}
use Rattle.stab_base.specs.declared.node.Node.TheVariants as nodes
use Rattle.step_tables.specs.Facts.{AnswerLine}
use Rattle.step_tables.specs.Facts as facts
use Rattle.world_tables.specs.World.{start, has_store, has_node, has_unmade, is_down, started, store_starts, answering, answered}
use Rattle.world_tables.specs.World as moves
use Rattle.world_tables.specs.Passed.{started_at}
use Rattle.store_host.specs.declared.host.StoreHost.{StoreHost}
use Rattle.store_host.specs.declared.store.StoreState.{StoreState}
use Rattle.store_host.specs.Holds.{HoldsStore, StoreThere, AreLeft, is_up_by, is_up_at}
use Rattle.node_steps.specs.declared.fault.WorldFault.{WorldFault}
use Rattle.node_steps.specs.declared.told.Told.{Told}
use Rattle.node_steps.specs.declared.world.World.{World}
use Rattle.node_steps.specs.Holds.{Holds}
use Rattle.node_steps.specs.Numbers.{AreNumbered}
use Rattle.node_steps.specs.Rows.{ComesLeft}
use Rattle.node_steps.specs.Told.{IsOnly}
use Rattle.node_steps.proofs.Done.{stays, comes_as, up_now}
use Rattle.node_steps.proofs.Rows.{any_ok, none_left, comes_still}

pub start_numbered : AreNumbered start
start_numbered = record {
  both = λ table. refl;
  tables = λ table there. absurd cc;
  clients = λ client there. absurd cc;
}

-- one that is declared and not up
pub starts_there : {D : Type 0} (state : D → DiskState) (w : moves.World) (host : StoreHost D) (number : ℕ) → HoldsStore state w host → IsSome (tree.get nat_cmp host.stores number)
    → is_up_at host number ≡ false → (has_store w number && is_down w (nodes.Store number)) ≡ true
starts_there state w host number h there down = go (tree.get nat_cmp host.stores number) there (h.stores number) down
  where
    go : (o : Option StoreState) → IsSome o → StoreThere w number o → is_up_by o ≡ false → (has_store w number && is_down w (nodes.Store number)) ≡ true
    go None there k down = absurd cc
    go (Some store) there k down =
        ap (λ (b : Bool). b && (not b || (has_node w.downs (nodes.Store number) || has_unmade w number))) k.declared
        ∙ (ap (λ (b : Bool). b || has_unmade w number) (sym k.down)
        ∙ (ap (λ (b : Bool). store.is_down || b) (sym k.late) ∙ up_now (store.is_down || store.is_late) down))

pub up_stays : (declared down : Bool) → not down ≡ true → (declared && down) ≡ false
up_stays true false e = refl
up_stays false false e = refl
up_stays declared true e = absurd cc

-- any other stays as it is
pub goes_on : {D : Type 0} (state : D → DiskState) (images : D → ℕ → List ℕ → Type 0) (only_now : (disk : D) (image : List ℕ) → images disk (state disk).moment image → IsImage (state disk).pending image)
    (w : moves.World) (world : World D) → Holds state w world → (number : ℕ) → (has_store w number && is_down w (nodes.Store number)) ≡ false → (result : Result Told WorldFault)
    → IfOk result (IsOnly (AnswerLine facts.Done ∷ [])) → ComesLeft state images w (λ lucks. started w lucks.shape lucks.calls (nodes.Store number))
    (λ lucks. started_at w lucks.calls (nodes.Store number)) result world world
goes_on state images only_now w world h number is result k =
    comes_still state images w (λ lucks. started w lucks.shape lucks.calls (nodes.Store number)) (λ lucks. started_at w lucks.calls (nodes.Store number)) result world world
    (comes_as state w (λ lucks. started w lucks.shape lucks.calls (nodes.Store number)) (λ lucks. answered w facts.Done) result world
    (λ lucks. ap (λ (b : Bool). if b then answering facts.Done (store_starts number lucks.calls w) else answered w facts.Done) is) (stays state w world h facts.Done result k))
    (any_ok result (AreLeft state images w world.store.tables world.store.tables) (none_left state images only_now w world.store h.store))
