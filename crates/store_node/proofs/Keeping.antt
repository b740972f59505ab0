-- The chunks on the devices are those of the rows, and those that are left.
use Rattle.std.proofs.Common.{◌≡◌, inl, inr, ⊎_elim, ◌⊎◌, ℕ, List, map, true, Option, Some, None, Err, refl, sym, ◌∙◌, ap, subst}
use Rattle.std.specs.Prelude.{IsSome, IsErrOf}
use Rattle.std.specs.Map.{keys_of}
use Rattle.std.specs.List.Sorted.{IsStrictlySortedBy}
use Rattle.disk_trait.specs.Calls.{DiskState}
use Rattle.disk_trait.specs.Fuse.{behind}
use Rattle.stab_base.specs.declared.chunk_name.ChunkName.{ChunkName}
use Rattle.row_value.specs.declared.schema.Schema.{Schema}
use Rattle.chunk_store.specs.Payload.{name_cmp}
use Rattle.chunk_store.specs.Standing.{chunk_in}
use Rattle.store_commit.specs.declared.fault.CommitFault.{CommitFault}
use Rattle.store_commit.specs.declared.fault.CommitFault.TheVariants.{Down, Memory}
use Rattle.store_commit.specs.Devs.{Devs, Write}
use Rattle.store_commit.specs.NamedChunks.{Among}
use Rattle.store_commit.specs.Standing.{devs, seen, writes_of, AreUp, IsOneDown, AreLookedAt, IsReady}
use Rattle.row_store.specs.Data.{sub_of, subs_of}
use Rattle.row_store.specs.declared.stored.Sub.{Sub}
use Rattle.row_store.specs.declared.stored.Terms.{Terms}
use Rattle.store_commit.proofs.Seen.{seen_all}
use Rattle.store_commit.proofs.Leftovers.{keys_found, found_keys}
use Rattle.store_commit.proofs.Works.{up_or_down}
use Rattle.step_tables.specs.StoreMoves.{StoreDisk, StoreTask, TableStore}
use Rattle.step_tables.specs.Chunks.{Named, chunks_of}
use Rattle.device_laws.specs.Stands.{Stands}
use Rattle.device_laws.proofs.Names.{mapped_among}
use Rattle.device_laws.proofs.Chunks.{flat}
use Rattle.device_laws.proofs.NamedDevices.{held_with}
use Rattle.device_laws.proofs.Steps.{some_is}
use Rattle.store_node.specs.Kept.{IsKept, AreKept}
use Rattle.store_node.specs.Fault.{fault_of}
use Rattle.store_node.specs.Sides.{listed}
use Rattle.store_node.specs.declared.fault.NodeFault.TheVariants as node_faults
use Rattle.store_node.specs.declared.node.TableNode.{TableNode}
use Rattle.store_node.specs.Node.{IsTable}
use Rattle.store_node.proofs.Following.{follows_now}

some_bytes : (o : Option (List ℕ)) → IsSome o → (bytes : List ℕ) × (o ≡ Some bytes)
some_bytes None h = absurd cc
some_bytes (Some bytes) h = (bytes, refl)

module _ (schema : Schema) (d : Devs) (disk : StoreDisk) (st : Stands schema d disk) where
  is_kept : (name : ChunkName) → Among name (keys_of d.chunks) → IsKept schema.chunk disk name
  is_kept name a =
      let b = some_bytes (chunk_in d.chunks name) (keys_found name d.chunks a) in
      ⊎_elim
      (λ h. inl (h.row, mapped_among (λ (c : Named). c.0) (name, b.0) (flat (chunks_of schema.chunk disk.items h.row)) h.among))
      (λ left. inr left)
      (st.chunks.only name b.0 b.1)

  kept_is : (name : ChunkName) → IsKept schema.chunk disk name → Among name (keys_of d.chunks)
  kept_is name (inl held) =
      let h = held_with schema.chunk disk.items held.0 name held.1 in
      found_keys name d.chunks (some_is (chunk_in d.chunks name) h.0 (st.chunks.held name h.0 h.1))
  kept_is name (inr left) = found_keys name d.chunks (st.chunks.left name left)

  are_kept : (names : List ChunkName) → names ≡ keys_of d.chunks → IsStrictlySortedBy name_cmp names → AreKept schema.chunk disk names
  are_kept names are rising = record {
    rising = rising;
    only = λ name a. is_kept name (subst (λ (l : List ChunkName). Among name l) are a);
    all = λ name k. subst (λ (l : List ChunkName). Among name l) (sym are) (kept_is name k);
  }

module _ {D : Type 0} (state : D → DiskState) where
  abbrev at : StoreDisk → Option (List StoreTask) → TableStore
  at disk agenda = record { disk = disk; agenda = agenda }

  pub names_kept : (node : TableNode D) (disk : StoreDisk) (agenda : Option (List StoreTask)) → IsTable state node (at disk agenda) → node.is_up ≡ true → (names : List ChunkName) → names ≡ keys_of (devs (behind state) node.devs).chunks
      → IsStrictlySortedBy name_cmp names → AreKept node.schema.chunk disk names
  names_kept node disk None t up names are rising = let no_ = t.at.0 in absurd cc
  names_kept node disk (Some tasks) t up names are rising =
      are_kept node.schema (devs (behind state) node.devs) disk (follows_now node.schema (devs (behind state) node.devs) (writes_of node.devs) disk tasks t.at.1.follows) names are rising

  pub subs_listed : (node : TableNode D) (disk : StoreDisk) (agenda : Option (List StoreTask)) → IsTable state node (at disk agenda) → node.is_up ≡ true → (subs : List Sub)
      → subs ≡ subs_of (seen (behind state) node.devs).held → subs ≡ listed disk.subs
  subs_listed node disk None t up subs are = let no_ = t.at.0 in absurd cc
  subs_listed node disk (Some tasks) t up subs are =
      let stands = follows_now node.schema (devs (behind state) node.devs) (writes_of node.devs) disk tasks t.at.1.follows in
      are ∙ (ap (λ (d : Devs). subs_of d.held) (seen_all (behind state) node.devs t.at.1.hidden) ∙ ap (λ (l : List (ℕ × Terms)). map sub_of l) stands.held.subs)

  pub looked_at : (node : TableNode D) (ws : List Write) → IsReady (behind state) node.devs ws → AreLookedAt (behind state) node.devs
  looked_at node ws r = record { chunks = r.chunk_looked; rows = r.row_looked; log = r.log_looked }

  pub only_memory : {T : Type 0} (node : TableNode D) (e : CommitFault) → AreUp node.devs → (IsErrOf {T = T} (Err e) Down → IsOneDown node.devs) → (e ≡ Down) ⊎ (e ≡ Memory) → fault_of e ≡ node_faults.Memory
  only_memory node e up down which = ⊎_elim (λ is. absurd (up_or_down node.devs up (down (ap (λ (x : CommitFault). Err x) is)))) (λ is. ap fault_of is) which
