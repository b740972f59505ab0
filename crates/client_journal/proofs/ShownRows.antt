-- What is seen of the rows where some are hidden.
use Rattle.std.proofs.Common.{◌≡◌, inl, inr, ⊎_elim, ◌⊎◌, ℕ, zero, suc, ◌+◌, ◌<◌, Bool, true, false, cond, not, List, [], ◌∷◌, Option, Some, None, Result, Ok, Err, refl, sym, ◌∙◌, ap, subst, arith}
use Rattle.std.specs.Prelude.{filter, IsSome, IsErrOf, IfErr}
use Rattle.std.specs.BTreeMap.{is_at}
use Rattle.std.specs.List.{Contains}
use Rattle.std.proofs.lemmas.Map.Entries.{lookup-filter-keys}
use Rattle.std.proofs.lemmas.List.Kept.{IsStrictlySortedBy-filter}
use Rattle.std.proofs.lemmas.List.Elements.{All-contains, All-contains_itself, All-filter, filter_passes}
use Rattle.disk_trait.specs.Calls.{DiskState}
use Rattle.slot_store.specs.declared.held.RowKey.{RowKey}
use Rattle.slot_store.specs.declared.held.RowSlots.{RowSlots}
use Rattle.slot_store.specs.Data.{SlotData, id_cmp, key_cmp, key_at, slots_of, AreRowsOf}
use Rattle.client_journal.specs.declared.devs.Journal.{Journal}
use Rattle.client_journal.specs.declared.fault.JournalFault.{JournalFault}
use Rattle.client_journal.specs.declared.fault.JournalFault.TheVariants.{Disk, Down, Memory}
use Rattle.client_journal.specs.TakesOn.{IsNotDisk}
use Rattle.client_journal.specs.Asking.{Asks}
use Rattle.client_journal.specs.There.{shown}
use Rattle.client_journal.proofs.Lookups.{cases_key}

module _ (is_hidden : RowKey → Bool) (held : SlotData) where
  same_answer : (key k : RowKey) → is_at (key_cmp key) k ≡ true → not (is_hidden k) ≡ not (is_hidden key)
  same_answer key k at = ⊎_elim (λ same. ap (λ (q : RowKey). not (is_hidden q)) (sym same)) (λ other. absurd cc) (cases_key key k)

  slots_shown : (table : ℕ) (row : List ℕ) → slots_of (shown is_hidden held) table row ≡ cond (not (is_hidden (key_at table row))) (slots_of held table row) None
  slots_shown table row = lookup-filter-keys (is_at (key_cmp (key_at table row))) (λ (k : RowKey). not (is_hidden k)) (not (is_hidden (key_at table row))) (λ k at. same_answer (key_at table row) k at) held.rows

  pub slots_hidden : (table : ℕ) (row : List ℕ) → is_hidden (key_at table row) ≡ true → slots_of (shown is_hidden held) table row ≡ None
  slots_hidden table row is = slots_shown table row ∙ ap (λ (b : Bool). cond (not b) (slots_of held table row) None) is

  pub slots_there : (table : ℕ) (row : List ℕ) → is_hidden (key_at table row) ≡ false → slots_of (shown is_hidden held) table row ≡ slots_of held table row
  slots_there table row is = slots_shown table row ∙ ap (λ (b : Bool). cond (not b) (slots_of held table row) None) is

kept_in : {X : Type 0} (p : X → Bool) (xs : List X) (x : X) → Contains (filter p xs) x → (p x ≡ true) × Contains xs x
kept_in {X} p xs x h = (
  All-contains (λ (y : X). p y ≡ true) (filter p xs) x (filter_passes p xs) h,
  All-contains (Contains xs) (filter p xs) x (All-filter p (Contains xs) xs (All-contains_itself xs)) h,
)

in_kept : {X : Type 0} (p : X → Bool) (xs : List X) (x : X) → Contains xs x → p x ≡ true → Contains (filter p xs) x
in_kept p [] x h yes_ = absurd (omega (arith, h.1))
in_kept {X} p (y ∷ xs) x (zero, lt, is) yes_ = pick (p y) (ap p is ∙ yes_)
  where
    pick : (b : Bool) → b ≡ true → Contains (cond b (y ∷ filter p xs) (filter p xs)) x
    pick true at = (zero, omega arith, is)
    pick false at = absurd cc
in_kept {X} p (y ∷ xs) x (suc k, lt, is) yes_ = pick (p y) (in_kept p xs x (k, omega (arith, lt), is) yes_)
  where
    pick : (b : Bool) → Contains (filter p xs) x → Contains (cond b (y ∷ filter p xs) (filter p xs)) x
    pick true c = (suc c.0, omega (arith, c.1), c.2)
    pick false c = c

not_both : (b : Bool) → not b ≡ true → b ≡ false
not_both true h = absurd cc
not_both false h = refl

none_is : (o : Option RowSlots) → o ≡ None → IsSome o → ⊥
none_is None is some = cc
none_is (Some x) is some = cc

pub rows_shown : (is_hidden : RowKey → Bool) (held : SlotData) (table : ℕ) (rows : List (List ℕ)) → AreRowsOf held table rows → AreRowsOf (shown is_hidden held) table (filter (λ (row : List ℕ). not (is_hidden (key_at table row))) rows)
rows_shown is_hidden held table rows are = record {
  rising = IsStrictlySortedBy-filter id_cmp there rows are.rising;
  only = λ row h.
      let k = kept_in there rows row h in
      subst (λ (o : Option RowSlots). IsSome o) (sym (slots_there is_hidden held table row (not_both (is_hidden (key_at table row)) k.0))) (are.only row k.1);
  all = λ row some. pick row some (is_hidden (key_at table row)) refl;
}
  where
    there : List ℕ → Bool
    there row = not (is_hidden (key_at table row))

    pick : (row : List ℕ) → IsSome (slots_of (shown is_hidden held) table row) → (b : Bool) → is_hidden (key_at table row) ≡ b → Contains (filter there rows) row
    pick row some true is = absurd (none_is (slots_of (shown is_hidden held) table row) (slots_hidden is_hidden held table row is) some)
    pick row some false is = in_kept there rows row (are.all row (subst (λ (o : Option RowSlots). IsSome o) (slots_there is_hidden held table row is) some)) (ap not is)

-- ---- one call under another answer

pub asks_other : {D T S : Type 0} (state : D → DiskState) (images : D → ℕ → List ℕ → Type 0) (old new : Journal D) (x : S) → Asks state images old new (Ok x) → (r : Result T JournalFault) → IsNotDisk r → (IsErrOf r Down → ⊥)
    → IfErr r (λ e. (e ≡ Disk) ⊎ ((e ≡ Down) ⊎ (e ≡ Memory))) → Asks state images old new r
asks_other state images old new x k r not_disk not_down only = record {
  stay = λ n. k.stay (λ is. cc);
  same = λ n. k.same (λ is. cc);
  counted = λ n. k.counted (λ is. cc);
  disk = λ is. absurd (not_disk is);
  down = (λ is. absurd (not_down is), λ down. absurd (let is = k.down.1 down in cc));
  unchanged = λ is. absurd (not_down is);
  only = only;
  any_moment = k.any_moment;
  leave = k.leave;
  agenda = k.agenda;
  fuse = k.fuse;
}

pub asks_err : {D T S : Type 0} (state : D → DiskState) (images : D → ℕ → List ℕ → Type 0) (old new : Journal D) (e : JournalFault) → Asks {T = S} state images old new (Err e) → Asks {T = T} state images old new (Err e)
asks_err {D} {T} {S} state images old new e k = record {
  stay = λ n. k.stay (not_it n);
  same = λ n. k.same (not_it n);
  counted = λ n. k.counted (not_it n);
  disk = λ is. let same : e ≡ Disk = cc in k.disk (ap (λ (f : JournalFault). Err f) same);
  down = (λ is. let same : e ≡ Down = cc in k.down.0 (ap (λ (f : JournalFault). Err f) same), λ down. let is = k.down.1 down in let same : e ≡ Down = cc in ap (λ (f : JournalFault). Err f) same);
  unchanged = λ is. let same : e ≡ Down = cc in k.unchanged (ap (λ (f : JournalFault). Err f) same);
  only = k.only;
  any_moment = k.any_moment;
  leave = k.leave;
  agenda = k.agenda;
  fuse = k.fuse;
}
  where
    not_it : IsNotDisk {T = T} (Err e) → IsNotDisk {T = S} (Err e)
    not_it n is = n (let same : e ≡ Disk = cc in ap (λ (f : JournalFault). Err f) same)
