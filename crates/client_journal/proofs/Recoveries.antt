-- At every moment of a recovery the devices have named slots, and stand for what they stood for at its start.
use Rattle.std.proofs.Common.{◌≡◌, inl, inr, ⊎_elim, ℕ, List, [], ◌∷◌, Some, None, refl, sym, ◌∙◌, subst}
use Rattle.stab_base.specs.declared.chunk_name.ChunkName.{ChunkName}
use Rattle.held_value.specs.declared.local_name.LocalName.{LocalName}
use Rattle.spare_map.specs.Late.{without}
use Rattle.chunk_store.specs.Payload.{name_cmp}
use Rattle.slot_store.specs.Data.{SlotData}
use Rattle.plan_log.specs.declared.plan.Intend.{Intend}
use Rattle.plan_log.specs.Journal.{AtWork, Idle, Intended, Committed}
use Rattle.client_journal.specs.Names.{Has}
use Rattle.client_journal.specs.Devs.{ClientDevs, Write, chunk_of, local_in}
use Rattle.client_journal.specs.Redone.{applied, redone, redone_by}
use Rattle.client_journal.specs.NamedSlots.{IsNamed, IsNewOf, NamedSlots}
use Rattle.client_journal.specs.Agenda.{drops, rest_writes, recovery_writes, AreLeftovers, IsRedoing, Runs}
use Rattle.client_journal.proofs.Lookups.{has_cases, has_head, has_tail, local_dropped, local_dropped_other}
use Rattle.client_journal.proofs.Redoing.{Known, IsDropping, redo_runs}

module _ (meaning : LocalName → List ℕ) where
  abbrev Redoes : SlotData → List Write → ClientDevs → Type 0
  Redoes before = IsRedoing meaning before

  abbrev at_ : List (ChunkName × List ℕ) → SlotData → ℕ → AtWork → ClientDevs
  at_ cs held greatest work = record { chunks = cs; held = held; journal = record { greatest = greatest; at_work = work } }

  -- ---- an intend's chunks

  module _ (held : SlotData) (greatest : ℕ) (intend : Intend) where
    abbrev intended_at : List (ChunkName × List ℕ) → ClientDevs
    intended_at cs = at_ cs held greatest (Intended intend)

    record Undoes (cs : List (ChunkName × List ℕ)) (names : List LocalName) : Type 0 where
      pub named : NamedSlots meaning (intended_at cs)
      pub all : (name : LocalName) (bytes : List ℕ) → IsNewOf intend.plan intend.chunks name → local_in cs name ≡ Some bytes → Has names name
      pub within : (name : LocalName) → Has names name → IsNewOf intend.plan intend.chunks name

    undo_next : (cs : List (ChunkName × List ℕ)) (name : LocalName) (names : List LocalName) → Undoes cs (name ∷ names) → Undoes (without name_cmp cs (chunk_of name)) names
    undo_next cs name names u = record {
      named = record {
        there = λ q a. local_dropped_other cs name q (λ same. u.named.apart name (u.within name (has_head name name names refl)) (subst (IsNamed held) (sym same) a)) ∙ u.named.there q a;
        once = u.named.once;
        below = u.named.below;
        others = λ q bytes h. u.named.others q bytes (sym (local_dropped_other cs name q (other q bytes h)) ∙ h);
        apart = u.named.apart;
      };
      all = λ q bytes new h. ⊎_elim (λ same. absurd (other q bytes h (sym same))) (λ has. has) (has_cases name q names (u.all q bytes new (sym (local_dropped_other cs name q (other q bytes h)) ∙ h)));
      within = λ q has. u.within q (has_tail name q names has);
    }
      where
        other : (q : LocalName) (bytes : List ℕ) → local_in (without name_cmp cs (chunk_of name)) q ≡ Some bytes → name ≡ q → ⊥
        other q bytes h same = let gone : local_in (without name_cmp cs (chunk_of name)) q ≡ None = subst (λ (x : LocalName). local_in (without name_cmp cs (chunk_of name)) x ≡ None) same (local_dropped cs name) in absurd cc

    undo_runs : (cs : List (ChunkName × List ℕ)) (names : List LocalName) → Undoes cs names → Runs (Redoes held) (intended_at cs) (drops names)
    undo_runs cs [] u = record {
      named = u.named;
      held = refl;
      rests = λ none. record { not_committed = tt; none_left = λ name bytes new h. let has = u.all name bytes new h in absurd cc };
    }
    undo_runs cs (name ∷ names) u = (record { named = u.named; held = refl; rests = λ none. absurd cc }, undo_runs (without name_cmp cs (chunk_of name)) names (undo_next cs name names u))

  -- ---- all of it

  rest_runs : (cs : List (ChunkName × List ℕ)) (held : SlotData) (greatest : ℕ) (work : AtWork) (names : List LocalName) → NamedSlots meaning (at_ cs held greatest work) → AreLeftovers (at_ cs held greatest work) names
      → Runs (Redoes (redone_by work held)) (at_ cs held greatest work) (rest_writes work held names)
  rest_runs cs held greatest Idle names n l = record { named = n; held = refl; rests = λ none. record { not_committed = tt; none_left = λ name bytes none h. none } }
  rest_runs cs held greatest (Intended intend) names n l = undo_runs held greatest intend cs names (record { named = n; all = l.all; within = l.left })
  rest_runs cs held greatest (Committed commit) names n l =
      let all : SlotData = applied commit held in
      let known : Known meaning all commit greatest = record { once = n.once; below = n.below; apart = n.apart } in
      let dropping : IsDropping meaning all commit greatest cs names = record {
        kept = n.there;
        left = λ name bytes h. ⊎_elim inl (λ left. inr (l.all name bytes left h)) (n.others name bytes h);
        within = l.left;
      } in
      redo_runs meaning all commit greatest known (Redoes all) (λ ws e not_coming named is rests. record { named = named; held = is; rests = rests }) held cs names refl dropping

  pub recovery_runs : (d : ClientDevs) (names : List LocalName) → NamedSlots meaning d → AreLeftovers d names → Runs (Redoes (redone d)) d (recovery_writes d names)
  recovery_runs d names n l = (
    record { named = n; held = refl; rests = λ none. absurd cc },
    (
      record { named = n; held = refl; rests = λ none. absurd cc },
      (record { named = n; held = refl; rests = λ none. absurd cc }, rest_runs d.chunks d.held d.journal.greatest d.journal.at_work names n l),
    ),
  )
