-- What lands behind so many of a table's writes, and what a history becomes when it is told.
use Rattle.std.proofs.Common.{◌≡◌, ◌⊎◌, inl, inr, ⊎_elim, ℕ, zero, suc, ◌<◌, ◌≤◌, Bool, true, false, List, [], ◌∷◌, ◌++◌, length, Option, Some, None, refl, ◌∙◌, ap, arith}
use Rattle.std.specs.Prelude.{nat_lt, if◌then◌else◌}
use Rattle.std.proofs.lemmas.Bool.Decides.{nat_tests}
use Rattle.std.proofs.lemmas.List.{map-append}
use Rattle.table_model.specs.declared.entry.Entry.{Entry}
use Rattle.step_tables.specs.Sayings.{entered}
use Rattle.step_tables.specs.Store.{Stored}
use Rattle.step_tables.specs.StoreMoves as store
use Rattle.step_tables.specs.StoreMoves.{StoreDisk, StoreChange, StoreTask, changed}
use Rattle.world_tables.specs.Passed.{after_tasks, entries_of}
use Rattle.moment_laws.proofs.Kept.{LandsBy, Lands, IsAt, IsUntold, behind, Near, IsWithin}

-- ---- histories

pub entered_new : (h : List Entry) (e : Entry) → length h < e.version → entered h e ≡ h ++ e ∷ []
entered_new h e new = go (nat_lt (length h) e.version) refl
  where
    go : (b : Bool) → nat_lt (length h) e.version ≡ b → (if b then h ++ e ∷ [] else h) ≡ h ++ e ∷ []
    go true is = refl
    go false is = absurd (grind (arith, nat_tests, is, new))

pub entered_old : (h : List Entry) (e : Entry) → e.version ≤ length h → entered h e ≡ h
entered_old h e old = go (nat_lt (length h) e.version) refl
  where
    go : (b : Bool) → nat_lt (length h) e.version ≡ b → (if b then h ++ e ∷ [] else h) ≡ h
    go true is = absurd (grind (arith, nat_tests, is, old))
    go false is = refl

pub entries_count : (items : List Stored) → length (entries_of items) ≡ length items
entries_count [] = refl
entries_count (item ∷ items) = ap suc (entries_count items)

pub entries_join : (items : List Stored) (item : Stored) → entries_of (items ++ item ∷ []) ≡ entries_of items ++ item.entry ∷ []
entries_join items item = map-append (λ (x : Stored). x.entry) items (item ∷ [])

-- ---- what lands

-- the items stay, or one more lands
abbrev pub Lies : List Stored → Option Stored → List Stored → Type 0
Lies items o found = (found ≡ items) ⊎ ((item : Stored) × (o ≡ Some item) × (found ≡ items ++ item ∷ []))

pub lies : (k : ℕ) (d : StoreDisk) (tasks : List StoreTask) (o : Option Stored) → Lands d tasks o → Lies d.items o (after_tasks k d tasks).items
lies zero d tasks o l = inl refl
lies (suc k) d [] o l = inl refl
lies (suc k) d (task ∷ tasks) o l = go task.change l (λ p m. lies k (changed d task.change) tasks p m)
  where
    go : (change : StoreChange) → LandsBy d change task.facts (Lands (changed d change) tasks) o
        → ((p : Option Stored) → Lands (changed d change) tasks p → Lies (changed d change).items p (after_tasks k (changed d change) tasks).items)
        → Lies d.items o (after_tasks k (changed d change) tasks).items
    go store.OpenChunks m on = on o m.1
    go store.OpenRows m on = on o m.1
    go store.OpenLog m on = on o m.1
    go (store.Open item) m on = on o m.1
    go (store.PutChunk name) m on = on o m.1
    go (store.DropChunk name) m on = on o m.1
    go store.Close m on = on o m.1
    go (store.PutBeside (store.PutState state)) m on = on o m.1
    go (store.PutBeside (store.PutSub client terms)) m on = on o m.1
    go (store.Put item named old) m on = ⊎_elim (λ e. inr (item, m.0, e)) (λ e. absurd (let none = e.1 in cc)) (on None m.4)

-- near the history that is told, where these tasks come next
pub near_lies : (h : List Entry) (items found : List Stored) (o : Option Stored) → entries_of items ≡ h → Lies items o found → Near h o (entries_of found)
near_lies h items found o told l = ⊎_elim
    (λ e. inl (ap entries_of e ∙ told))
    (λ e. inr (e.0, e.1, ap entries_of e.2 ∙ (entries_join items e.0 ∙ ap (λ (es : List Entry). es ++ e.0.entry ∷ []) told))) l

-- each table is near its own history, by the item that its tasks land, or the one that has landed and isn't told
pub near_here : (h : List Entry) (d : StoreDisk) (a : Option (List StoreTask)) → IsAt h d a → (o : Option Stored) × IsWithin h o h d a
near_here h d (Some tasks) at = (
  at.1.0,
  record {
    told = inl refl;
    items = λ k. near_lies h d.items (after_tasks k d tasks).items at.1.0 at.0 (lies k d tasks at.1.0 at.1.1);
  },
)
near_here h d None at = ⊎_elim (λ e. (None, record { told = inl refl; items = λ k. inl (ap entries_of (idle k) ∙ e) })) untold at
  where
    idle : (k : ℕ) → behind d None k ≡ d.items
    idle zero = refl
    idle (suc k) = refl

    untold : IsUntold h d → (o : Option Stored) × IsWithin h o h d None
    untold u = (
      Some u.item,
      record {
        told = inl refl;
        items = λ k. inr (u.item, refl, ap entries_of (idle k ∙ u.items) ∙ (entries_join u.before u.item ∙ ap (λ (es : List Entry). es ++ u.item.entry ∷ []) u.told));
      },
    )
