-- Behind a commit the devices stand for what it makes of them, at every moment until it is done.
use Rattle.std.proofs.Common.{◌≡◌, inl, inr, ⊎_elim, ◌⊎◌, ℕ, ◌≤◌, Bool, true, false, List, [], ◌∷◌, ◌++◌, Option, Some, None, refl, sym, ◌∙◌, ap, subst, arith}
use Rattle.std.specs.Prelude.{◌==◌, ◌&&◌, if◌then◌else◌}
use Rattle.std.proofs.lemmas.Bool.Decides.{nat_tests}
use Rattle.stab_base.specs.declared.chunk_name.ChunkName.{ChunkName}
use Rattle.held_value.specs.declared.local_name.LocalName.{LocalName}
use Rattle.spare_map.specs.Late.{without}
use Rattle.chunk_store.specs.Payload.{name_cmp}
use Rattle.slot_store.specs.declared.held.RowSlots.{RowSlots}
use Rattle.slot_store.specs.declared.held.TableRecord.{TableRecord}
use Rattle.slot_store.specs.Data.{SlotData, record_of}
use Rattle.plan_log.specs.declared.plan.Commit.{Commit}
use Rattle.plan_log.specs.Journal.{Journal as Planned, Committed, rested, with_done}
use Rattle.client_journal.specs.Names.{Has}
use Rattle.client_journal.specs.Devs.{ClientDevs, Write, PutSlots, PutRecord, PutDone, chunk_of, local_in}
use Rattle.client_journal.specs.Redone.{row_behind, with_row_if, record_for, with_record_if, applied, redone}
use Rattle.client_journal.specs.NamedSlots.{IsNamed, NamedSlots, IsAtRest}
use Rattle.client_journal.specs.Agenda.{drops, slot_writes, record_writes, redo_writes, commit_is_to_come, Runs}
use Rattle.client_journal.proofs.Lookups.{cases_local, has_cases, has_head, has_tail, local_dropped, local_dropped_other}
use Rattle.client_journal.proofs.Applied.{applied_slots, applied_both}

-- no commit is among these
pub not_to_come : (names : List LocalName) → commit_is_to_come (drops names ++ PutDone ∷ []) ≡ false
not_to_come [] = refl
not_to_come (name ∷ names) = not_to_come names

pub not_among_records : (table : Option TableRecord) (names : List LocalName) → commit_is_to_come (record_writes table (drops names ++ PutDone ∷ [])) ≡ false
not_among_records None names = not_to_come names
not_among_records (Some table) names = not_to_come names

pub not_among_slots : (row : Option RowSlots) (table : Option TableRecord) (names : List LocalName) → commit_is_to_come (slot_writes row (record_writes table (drops names ++ PutDone ∷ []))) ≡ false
not_among_slots None table names = not_among_records table names
not_among_slots (Some row) table names = not_among_records table names

-- some are still to come
some_drop : (names : List LocalName) → drops names ++ PutDone ∷ [] ≡ [] → ⊥
some_drop [] none = cc
some_drop (name ∷ names) none = cc

some_record : (table : Option TableRecord) (names : List LocalName) → record_writes table (drops names ++ PutDone ∷ []) ≡ [] → ⊥
some_record None names none = some_drop names none
some_record (Some table) names none = cc

abbrev working : ℕ → Commit → Planned
working greatest commit = record { greatest = greatest; at_work = Committed commit }

ends : (greatest : ℕ) (commit : Commit) → with_done (working greatest commit) greatest ≡ rested greatest
ends greatest commit = let same : (greatest == greatest) ≡ true = grind (arith, nat_tests) in ap (λ (t : Bool). if t && true then rested greatest else working greatest commit) same

module _ (meaning : LocalName → List ℕ) (all : SlotData) (commit : Commit) (greatest : ℕ) where
  -- what is known of what the devices stand for
  pub record Known : Type 0 where
    pub once : (name : LocalName) (a b : IsNamed all name) → (a.table ≡ b.table) × (a.row ≡ b.row)
    pub below : (name : LocalName) → IsNamed all name → name.plan ≤ greatest
    pub apart : (name : LocalName) → Has commit.drops name → IsNamed all name → ⊥

  -- while these names are still to be dropped
  pub record IsDropping (cs : List (ChunkName × List ℕ)) (names : List LocalName) : Type 0 where
    pub kept : (name : LocalName) → IsNamed all name → local_in cs name ≡ Some (meaning name)
    pub left : (name : LocalName) (bytes : List ℕ) → local_in cs name ≡ Some bytes → IsNamed all name ⊎ Has names name
    pub within : (name : LocalName) → Has names name → Has commit.drops name

  abbrev pub committed_at : SlotData → List (ChunkName × List ℕ) → ClientDevs
  committed_at held cs = record { chunks = cs; held = held; journal = working greatest commit }

  abbrev done_at : List (ChunkName × List ℕ) → ClientDevs
  done_at cs = record { chunks = cs; held = all; journal = rested greatest }

  -- the same, whatever the devices stand for
  record Facts (stood : SlotData) (cs : List (ChunkName × List ℕ)) : Type 0 where
    pub there : (name : LocalName) → IsNamed stood name → local_in cs name ≡ Some (meaning name)
    pub once : (name : LocalName) (a b : IsNamed stood name) → (a.table ≡ b.table) × (a.row ≡ b.row)
    pub below : (name : LocalName) → IsNamed stood name → name.plan ≤ greatest
    pub others : (name : LocalName) (bytes : List ℕ) → local_in cs name ≡ Some bytes → IsNamed stood name ⊎ Has commit.drops name
    pub apart : (name : LocalName) → Has commit.drops name → IsNamed stood name → ⊥

  module _ (k : Known) where
    named : (held : SlotData) (cs : List (ChunkName × List ℕ)) (names : List LocalName) → applied commit held ≡ all → IsDropping cs names → NamedSlots meaning (committed_at held cs)
    named held cs names is p =
        let facts : Facts all cs = record {
          there = p.kept;
          once = k.once;
          below = k.below;
          others = λ name bytes h. ⊎_elim inl (λ has. inr (p.within name has)) (p.left name bytes h);
          apart = k.apart;
        } in
        let f = subst (λ (s : SlotData). Facts s cs) (sym is) facts in
        record { there = f.there; once = f.once; below = f.below; others = f.others; apart = f.apart }

    named_done : (cs : List (ChunkName × List ℕ)) → IsDropping cs [] → NamedSlots meaning (done_at cs)
    named_done cs p = record {
      there = p.kept;
      once = k.once;
      below = k.below;
      others = λ name bytes h. ⊎_elim inl (λ has. absurd cc) (p.left name bytes h);
      apart = λ name none. absurd none;
    }

    at_rest : (cs : List (ChunkName × List ℕ)) → IsAtRest (done_at cs)
    at_rest cs = record { not_committed = tt; none_left = λ name bytes none h. none }

    drop_next : (cs : List (ChunkName × List ℕ)) (name : LocalName) (names : List LocalName) → IsDropping cs (name ∷ names) → IsDropping (without name_cmp cs (chunk_of name)) names
    drop_next cs name names p = record {
      kept = λ q a. local_dropped_other cs name q (λ same. k.apart name (p.within name (has_head name name names refl)) (subst (IsNamed all) (sym same) a)) ∙ p.kept q a;
      left = λ q bytes h. pick q bytes h (cases_local name q);
      within = λ q has. p.within q (has_tail name q names has);
    }
      where
        pick : (q : LocalName) (bytes : List ℕ) → local_in (without name_cmp cs (chunk_of name)) q ≡ Some bytes → (name ≡ q) ⊎ (name ≡ q → ⊥) → IsNamed all q ⊎ Has names q
        pick q bytes h (inl same) = let gone : local_in (without name_cmp cs (chunk_of name)) q ≡ None = subst (λ (x : LocalName). local_in (without name_cmp cs (chunk_of name)) x ≡ None) same (local_dropped cs name) in absurd cc
        pick q bytes h (inr other) = ⊎_elim inl (λ has. ⊎_elim (λ same. absurd (other (sym same))) inr (has_cases name q names has)) (p.left q bytes (sym (local_dropped_other cs name q other) ∙ h))

    module _ (R : List Write → ClientDevs → Type 0) (made : (ws : List Write) (d : ClientDevs) → commit_is_to_come ws ≡ false → NamedSlots meaning d → redone d ≡ all → (ws ≡ [] → IsAtRest d) → R ws d) where
      dropping_runs : (cs : List (ChunkName × List ℕ)) (names : List LocalName) → applied commit all ≡ all → IsDropping cs names → Runs R (committed_at all cs) (drops names ++ PutDone ∷ [])
      dropping_runs cs [] is p =
          let last : R [] (done_at cs) = made [] (done_at cs) refl (named_done cs p) refl (λ none. at_rest cs) in
          (made (PutDone ∷ []) (committed_at all cs) refl (named all cs [] is p) is (λ none. absurd cc), subst (λ (j : Planned). R [] (record { chunks = cs; held = all; journal = j })) (sym (ends greatest commit)) last)
      dropping_runs cs (name ∷ names) is p =
          (made (drops (name ∷ names) ++ PutDone ∷ []) (committed_at all cs) (not_to_come names) (named all cs (name ∷ names) is p) is (λ none. absurd cc), dropping_runs (without name_cmp cs (chunk_of name)) names is (drop_next cs name names p))

      record_runs : (held : SlotData) (table : Option TableRecord) (cs : List (ChunkName × List ℕ)) (names : List LocalName) → with_record_if held table ≡ all → applied commit held ≡ all → applied commit all ≡ all → IsDropping cs names
          → Runs R (committed_at held cs) (record_writes table (drops names ++ PutDone ∷ []))
      record_runs held None cs names put now is p = subst (λ (s : SlotData). Runs R (committed_at s cs) (drops names ++ PutDone ∷ [])) (sym put) (dropping_runs cs names is p)
      record_runs held (Some table) cs names put now is p = (
        made (PutRecord table ∷ (drops names ++ PutDone ∷ [])) (committed_at held cs) (not_to_come names) (named held cs names now p) now (λ none. absurd cc),
        subst (λ (s : SlotData). Runs R (committed_at s cs) (drops names ++ PutDone ∷ [])) (sym put) (dropping_runs cs names is p),
      )

      slot_runs : (held : SlotData) (row : Option RowSlots) (table : Option TableRecord) (cs : List (ChunkName × List ℕ)) (names : List LocalName) → with_record_if (with_row_if held row) table ≡ all → applied commit held ≡ all
          → applied commit (with_row_if held row) ≡ all → applied commit all ≡ all → IsDropping cs names → Runs R (committed_at held cs) (slot_writes row (record_writes table (drops names ++ PutDone ∷ [])))
      slot_runs held None table cs names put now next is p = record_runs held table cs names put now is p
      slot_runs held (Some row) table cs names put now next is p = (
        made (PutSlots row ∷ record_writes table (drops names ++ PutDone ∷ [])) (committed_at held cs) (not_among_records table names) (named held cs names now p) now (λ none. absurd cc),
        record_runs (with_row_if held (Some row)) table cs names put next is p,
      )

      pub redo_runs : (held : SlotData) (cs : List (ChunkName × List ℕ)) (names : List LocalName) → applied commit held ≡ all → IsDropping cs names → Runs R (committed_at held cs) (redo_writes held commit names)
      redo_runs held cs names now p =
          slot_runs held (row_behind commit) (record_for (record_of held commit.table) commit) cs names now now (applied_slots commit held ∙ now)
          (subst (λ (s : SlotData). applied commit s ≡ s) now (applied_both commit held)) p
