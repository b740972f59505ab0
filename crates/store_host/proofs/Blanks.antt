-- What a crash leaves of a table that is added on blank disks.
use Rattle.std.proofs.Common.{◌≡◌, ℕ, ◌≤◌, cond, List, length, Some, sym, ◌∙◌, ap, subst}
use Rattle.std.specs.declared.cmp.Ordering.{Ordering}
use Rattle.std.specs.Ordering.{nat_cmp, is_eq}
use Rattle.std.specs.BTreeMap as tree
use Rattle.std.specs.BTreeMap.{is_at}
use Rattle.std.specs.Cmp.{nat_cmp_total}
use Rattle.std.proofs.lemmas.Cmp.{tied_itself}
use Rattle.disk_trait.specs.Image.{settled}
use Rattle.disk_trait.specs.Calls.{DiskState, LeavesOnly}
use Rattle.disk_trait.specs.Fuse.{behind, inner_of}
use Rattle.disk_trait.specs.declared.fuse.FuseDisk.{FuseDisk}
use Rattle.vault.specs.File.{StandsForOne}
use Rattle.vault.specs.Standing.{disk_of}
use Rattle.chunk_store.specs.Standing as chunks
use Rattle.row_store.specs.Data.{data_of}
use Rattle.row_store.specs.Standing as rows
use Rattle.status_log.specs.Standing as logs
use Rattle.row_value.specs.declared.schema.Schema.{Schema}
use Rattle.store_commit.specs.declared.devs.TableDevs.{TableDevs}
use Rattle.store_commit.specs.Standing.{RowsLeave}
use Rattle.store_node.specs.declared.node.TableNode.{TableNode}
use Rattle.table_model.specs.declared.table_state.TableState.{TableState}
use Rattle.store_node.specs.Node.{HasBlankDisks, HasNoRows}
use Rattle.store_host.specs.declared.hosted.Hosted.{Hosted}
use Rattle.store_host.specs.Holds.{IsBlankDisk, AreBlankDisks, LeavesNoRow}

module _ {D : Type 0} (state : D → DiskState) where
  blank_at : (f : FuseDisk D) (disk : D) → inner_of f ≡ disk → IsBlankDisk state disk → ((behind state f).pending ≡ settled (behind state f).seen) × (length (behind state f).seen ≤ 1)
  blank_at f disk is blank = subst (λ (d : D). ((state d).pending ≡ settled (state d).seen) × (length (state d).seen ≤ 1)) (sym is) (blank.synced, blank.short)

  -- a node with these disks
  pub blank_node : (node : TableNode D) (chunk_disk row_disk log_disk : D) → inner_of (disk_of (chunks.vault_of node.devs.chunks)) ≡ chunk_disk → inner_of (disk_of (rows.vault_of node.devs.rows)) ≡ row_disk
      → inner_of (disk_of (logs.vault_of node.devs.log)) ≡ log_disk → AreBlankDisks state chunk_disk row_disk log_disk → HasBlankDisks state node
  blank_node node chunk_disk row_disk log_disk cs rs ls blank =
      let x = blank_at (disk_of (chunks.vault_of node.devs.chunks)) chunk_disk cs blank.chunks in
      let y = blank_at (disk_of (rows.vault_of node.devs.rows)) row_disk rs blank.rows in
      let z = blank_at (disk_of (logs.vault_of node.devs.log)) log_disk ls blank.log in
      record { chunks = record { synced = x.0; short = x.1 }; rows = record { synced = y.0; short = y.1 }; log = record { synced = z.0; short = z.1 } }

  module _ (images : D → ℕ → List ℕ → Type 0) where
    abbrev st : FuseDisk D → DiskState
    st f = behind state f

    abbrev im : FuseDisk D → ℕ → List ℕ → Type 0
    im f = images (inner_of f)

    -- of the table that was put in
    pub none_added : (made it : Hosted D) (start : TableDevs (FuseDisk D)) (schema : Schema) (stage : TableState) (row_disk : D) → it ≡ made → inner_of (disk_of (rows.vault_of start.rows)) ≡ row_disk → made.node.schema ≡ schema → made.node.state ≡ stage
        → RowsLeave st im start made.node.devs (HasNoRows schema stage) → LeavesNoRow state images row_disk it
    none_added made it start schema stage row_disk is from same first run =
        subst (λ (x : Hosted D). LeavesNoRow state images row_disk x) (sym is)
        (subst (λ (d : D). LeavesNoRow state images d made) from
        (subst (λ (s : Schema). Leaves s made.node.state) (sym same)
        (subst (λ (s : TableState). Leaves schema s) (sym first)
        (record { later = run.later; each = run.each; before = run.before }))))
      where
        Leaves : Schema → TableState → Type 0
        Leaves s l =
            LeavesOnly state images (inner_of (disk_of (rows.vault_of start.rows))) (inner_of (disk_of (rows.vault_of made.node.devs.rows))) (StandsForOne (λ list. HasNoRows s l (data_of list)))

-- the table that was put in is the one that is there
pub is_added : {D : Type 0} (old new : tree.BTreeMap ℕ (Hosted D)) (table : ℕ) (made it : Hosted D)
    → ((q : ℕ) → tree.get nat_cmp new q ≡ cond (is_at (nat_cmp table) q) (Some made) (tree.get nat_cmp old q)) → tree.get nat_cmp new table ≡ Some it → it ≡ made
is_added {D} old new table made it u there =
    let put : tree.get nat_cmp new table ≡ Some made = u table ∙ ap (λ (r : Ordering). cond (is_eq r) (Some made) (tree.get nat_cmp old table)) (tied_itself nat_cmp_total table) in
    some_same it made (sym there ∙ put)
  where
    some_same : (a b : Hosted D) → Some a ≡ Some b → a ≡ b
    some_same a b e = cc
