-- What is seen behind a write.
use Rattle.std.proofs.Common.{◌≡◌, inl, inr, ⊎_elim, ◌⊎◌, ℕ, Bool, true, false, cond, not, List, [], ◌∷◌, Option, Some, None, refl, sym, ◌∙◌, ap, subst}
use Rattle.std.specs.BTreeMap.{is_at}
use Rattle.std.specs.BTreeSet.{BTreeSet, contains}
use Rattle.disk_trait.specs.Calls.{DiskState}
use Rattle.row_store.specs.declared.stored.StoredRow.{StoredRow}
use Rattle.row_store.specs.Data.{TableData, id_cmp, row_of, with_row}
use Rattle.store_commit.specs.declared.devs.TableDevs.{TableDevs}
use Rattle.store_commit.specs.Devs.{Devs, Write, OpenChunks, OpenRows, OpenLog, OpenEntry, PutChunk, PutRow, DropChunk, CloseEntry, PutTable, PutSub, changed_by}
use Rattle.store_commit.specs.There.{shown}
use Rattle.store_commit.specs.Shows.{ShowsAlike, HiddenBehind}
use Rattle.store_commit.specs.Standing.{devs, seen, hidden_of}
use Rattle.store_commit.proofs.Lookups.{cases_id, id_itself, row_put, row_put_other}
use Rattle.store_commit.proofs.Seen.{row_there, row_hidden}

abbrev as_seen : BTreeSet (List ℕ) → Devs → Devs
as_seen hidden d = record { chunks = d.chunks; held = shown (contains id_cmp hidden) d.held; pending = d.pending }

pub alike_itself : (d : Devs) → ShowsAlike d d
alike_itself d = record { rows = λ row. refl; table = refl; subs = refl; chunks = refl; pending = refl }

module _ (old new : BTreeSet (List ℕ)) (held : TableData) (stored : StoredRow) (h : HiddenBehind (PutRow stored) old new) where
  put_row_shown : (row : List ℕ) → row_of (shown (contains id_cmp new) (with_row held stored)) row ≡ row_of (with_row (shown (contains id_cmp old) held) stored) row
  put_row_shown row = pick (cases_id stored.row row)
    where
      behind : (b : Bool) → is_at (id_cmp stored.row) row ≡ b → contains id_cmp new row ≡ cond b false (contains id_cmp old row)
      behind b at = h row ∙ ap (λ (t : Bool). cond t false (contains id_cmp old row)) at

      other_row : (b : Bool) → contains id_cmp old row ≡ b → is_at (id_cmp stored.row) row ≡ false → row_of (shown (contains id_cmp new) (with_row held stored)) row ≡ row_of (with_row (shown (contains id_cmp old) held) stored) row
      other_row true was other =
          row_hidden (contains id_cmp new) (with_row held stored) row (behind false other ∙ was)
          ∙ sym (row_put_other (shown (contains id_cmp old) held) stored row other ∙ row_hidden (contains id_cmp old) held row was)
      other_row false was other =
          row_there (contains id_cmp new) (with_row held stored) row (behind false other ∙ was)
          ∙ (row_put_other held stored row other
          ∙ sym (row_put_other (shown (contains id_cmp old) held) stored row other ∙ row_there (contains id_cmp old) held row was))

      pick : (stored.row ≡ row) ⊎ (is_at (id_cmp stored.row) row ≡ false) → row_of (shown (contains id_cmp new) (with_row held stored)) row ≡ row_of (with_row (shown (contains id_cmp old) held) stored) row
      pick (inl same) =
          let at : is_at (id_cmp stored.row) row ≡ true = subst (λ (q : List ℕ). is_at (id_cmp stored.row) q ≡ true) same (id_itself stored.row) in
          row_there (contains id_cmp new) (with_row held stored) row (behind true at)
          ∙ (row_put held stored row same ∙ sym (row_put (shown (contains id_cmp old) held) stored row same))
      pick (inr other) = other_row (contains id_cmp old row) refl other

-- behind each write
pub shows_behind : (w : Write) (old new : BTreeSet (List ℕ)) (d : Devs) → HiddenBehind w old new → ShowsAlike (changed_by (as_seen old d) w) (as_seen new (changed_by d w))
shows_behind OpenChunks old new d h = subst (λ (s : BTreeSet (List ℕ)). ShowsAlike (as_seen old d) (as_seen s d)) (sym h) (alike_itself (as_seen old d))
shows_behind OpenRows old new d h = subst (λ (s : BTreeSet (List ℕ)). ShowsAlike (as_seen old d) (as_seen s d)) (sym h) (alike_itself (as_seen old d))
shows_behind OpenLog old new d h = subst (λ (s : BTreeSet (List ℕ)). ShowsAlike (as_seen old d) (as_seen s d)) (sym h) (alike_itself (as_seen old d))
shows_behind (OpenEntry entry) old new d h = let w : Write = OpenEntry entry in subst (λ (s : BTreeSet (List ℕ)). ShowsAlike (changed_by (as_seen old d) w) (as_seen s (changed_by d w))) (sym h) (alike_itself (changed_by (as_seen old d) w))
shows_behind (PutChunk name bytes) old new d h = let w : Write = PutChunk name bytes in subst (λ (s : BTreeSet (List ℕ)). ShowsAlike (changed_by (as_seen old d) w) (as_seen s (changed_by d w))) (sym h) (alike_itself (changed_by (as_seen old d) w))
shows_behind (PutRow stored) old new d h = record { rows = put_row_shown old new d.held stored h; table = refl; subs = refl; chunks = refl; pending = refl }
shows_behind (DropChunk name) old new d h = let w : Write = DropChunk name in subst (λ (s : BTreeSet (List ℕ)). ShowsAlike (changed_by (as_seen old d) w) (as_seen s (changed_by d w))) (sym h) (alike_itself (changed_by (as_seen old d) w))
shows_behind CloseEntry old new d h = let w : Write = CloseEntry in subst (λ (s : BTreeSet (List ℕ)). ShowsAlike (changed_by (as_seen old d) w) (as_seen s (changed_by d w))) (sym h) (alike_itself (changed_by (as_seen old d) w))
shows_behind (PutTable schema state) old new d h = let w : Write = PutTable schema state in subst (λ (s : BTreeSet (List ℕ)). ShowsAlike (changed_by (as_seen old d) w) (as_seen s (changed_by d w))) (sym h) (alike_itself (changed_by (as_seen old d) w))
shows_behind (PutSub client terms) old new d h = let w : Write = PutSub client terms in subst (λ (s : BTreeSet (List ℕ)). ShowsAlike (changed_by (as_seen old d) w) (as_seen s (changed_by d w))) (sym h) (alike_itself (changed_by (as_seen old d) w))

module _ {D : Type 0} (state : D → DiskState) where
  pub shows_write : (w : Write) (old new : TableDevs D) (hidden : BTreeSet (List ℕ)) → devs state new ≡ changed_by (devs state old) w → HiddenBehind w (hidden_of old) hidden → hidden_of new ≡ hidden → ShowsAlike (changed_by (seen state old) w) (seen state new)
  shows_write w old new hidden is behind same =
      subst (λ (s : BTreeSet (List ℕ)). ShowsAlike (changed_by (seen state old) w) (as_seen s (devs state new))) (sym same)
      (subst (λ (d : Devs). ShowsAlike (changed_by (seen state old) w) (as_seen hidden d)) (sym is) (shows_behind w (hidden_of old) hidden (devs state old) behind))
