-- Devices that a test goes on with.
use Rattle.std.proofs.Common.{◌≡◌, inl, inr, ⊎_elim, ◌⊎◌, ℕ, List, [], ◌∷◌, Option, Some, None, Result, Ok, Err, refl, sym, ◌∙◌, ap, subst}
use Rattle.std.specs.Prelude.{OnOk, IfOk, IsSome, IsTrue, Bool, is_some}
use Rattle.disk_trait.specs.Calls.{DiskState}
use Rattle.vault.specs.Calls.{IsEither}
use Rattle.held_value.specs.declared.local_name.LocalName.{LocalName}
use Rattle.stab_base.specs.declared.step.Step.{Step}
use Rattle.slot_store.specs.declared.held.RowSlots.{RowSlots}
use Rattle.slot_store.specs.Data.{SlotData, slots_of}
use Rattle.plan_log.specs.declared.plan.Commit.{Commit}
use Rattle.client_journal.specs.declared.devs.Journal.{Journal}
use Rattle.client_journal.specs.declared.fault.JournalFault.{JournalFault}
use Rattle.client_journal.specs.declared.rolled.Rolled.{Rolled}
use Rattle.client_journal.specs.Devs.{ClientDevs, Write, changed_by}
use Rattle.client_journal.specs.NamedSlots.{NamedSlots, IsNamed, IsAtRest}
use Rattle.client_journal.specs.Agenda.{Runs, IsMoment, IsRedoing}
use Rattle.client_journal.specs.Standing.{devs, writes_of, AreUp, AreSynced, AreSound, AreLookedAt, IsReady, HaveOpenings, DevsLeave, WorksOn, nothing}
use Rattle.client_journal.specs.Recover.{IsStarting, Recovers}
use Rattle.client_journal.specs.Redone.{redone}
use Rattle.client_journal.specs.TakesOn.{TakesOn}
use Rattle.client_journal.proofs.Applied.{as_held}
use Rattle.client_journal.specs.Asking.{Asks, AllStay}
use Rattle.journal_tests.specs.Standing.{AreNamed, IsNamedMoment, IsMoving, IsResting, IsCrashed, IsKnown}

-- ---- promises of each moment

runs_weaker : (R S : List Write → ClientDevs → Type 0) → ((ws : List Write) (d : ClientDevs) → R ws d → S ws d) → (d : ClientDevs) (ws : List Write) → Runs R d ws → Runs S d ws
runs_weaker R S to d [] r = to [] d r
runs_weaker R S to d (w ∷ ws) r = (to (w ∷ ws) d r.0, runs_weaker R S to (changed_by d w) ws r.1)

pub plan_runs : (meaning : LocalName → List ℕ) (before : SlotData) (commit : Commit) (d : ClientDevs) (ws : List Write) → Runs (IsMoment meaning before commit) d ws → Runs IsNamedMoment d ws
plan_runs meaning before commit d ws r = runs_weaker (IsMoment meaning before commit) IsNamedMoment (λ ws d m. record { are = record { meaning = meaning; named = m.named }; rests = m.rests }) d ws r

redo_runs : (meaning : LocalName → List ℕ) (before : SlotData) (d : ClientDevs) (ws : List Write) → Runs (IsRedoing meaning before) d ws → Runs IsNamedMoment d ws
redo_runs meaning before d ws r = runs_weaker (IsRedoing meaning before) IsNamedMoment (λ ws d m. record { are = record { meaning = meaning; named = m.named }; rests = m.rests }) d ws r

pub named_now : (d : ClientDevs) (ws : List Write) → Runs IsNamedMoment d ws → AreNamed d
named_now d [] r = r.are
named_now d (w ∷ ws) r = r.0.are

-- ---- no table

no_name : (name : LocalName) → IsNamed (redone nothing) name → ⊥
no_name name a = let there = a.there in cc

nothing_named : AreNamed nothing
nothing_named = record {
  meaning = λ name. [];
  named = record {
    there = λ name a. absurd (no_name name a);
    once = λ name a b. absurd (no_name name a);
    below = λ name a. absurd (no_name name a);
    others = λ name bytes is. absurd cc;
    apart = λ name left a. no_name name a;
  };
}

nothing_rests : IsAtRest nothing
nothing_rests = record { not_committed = tt; none_left = λ name bytes left is. absurd left }

module _ {D : Type 0} (state : D → DiskState) where
  ready_up : (client : Journal D) (ws : List Write) → IsReady state client ws → AreUp client
  ready_up client ws r = record { chunks = r.chunk_looked.vault.up; slots = r.slot_looked.vault.up; journal = r.journal_looked.vault.up }

  ready_synced : (client : Journal D) (ws : List Write) → IsReady state client ws → AreSynced state client
  ready_synced client ws r = record { chunks = λ u. r.chunk_looked.vault.synced; slots = λ u. r.slot_looked.vault.synced; journal = λ u. r.journal_looked.vault.synced }

  ready_sound : (client : Journal D) (ws : List Write) → IsReady state client ws → AreSound state client
  ready_sound client ws r = record { chunks = r.chunk_sound; slots = r.slot_sound; journal = r.journal_sound }

  pub ready_looked : (client : Journal D) (ws : List Write) → IsReady state client ws → AreLookedAt state client
  ready_looked client ws r = record { chunks = r.chunk_looked; slots = r.slot_looked; journal = r.journal_looked }

  pub idle_rests : (client : Journal D) → IsMoving state client → writes_of client ≡ [] → IsResting state client
  idle_rests client m idle =
      let runs : IsNamedMoment [] (devs state client) = subst (Runs IsNamedMoment (devs state client)) idle m.runs in
      record { moving = m; idle = idle; rests = runs.rests refl }

  pub formatted : {T : Type 0} (client : Journal D) (r : Result T JournalFault) → OnOk r (IsReady state client []) → OnOk r (devs state client ≡ nothing) → writes_of client ≡ [] → OnOk r (IsResting state client)
  formatted client (Err e) ready empty idle = tt
  formatted client (Ok x) ready empty idle =
      let moment : IsNamedMoment [] nothing = record { are = nothing_named; rests = λ is. nothing_rests } in
      let runs : Runs IsNamedMoment (devs state client) [] = subst (λ (d : ClientDevs). IsNamedMoment [] d) (sym empty) moment in
      record {
        moving = record {
          up = ready_up client [] ready;
          ready = subst (IsReady state client) (sym idle) ready;
          runs = subst (Runs IsNamedMoment (devs state client)) (sym idle) runs;
        };
        idle = idle;
        rests = subst IsAtRest (sym empty) nothing_rests;
      }

  pub looked_on : {T : Type 0} (old new : Journal D) (r : Result T JournalFault) → IsCrashed state old → OnOk r (AreLookedAt state new) → OnOk r (devs state new ≡ devs state old) → OnOk r (AreSound state old → AreSound state new) → OnOk r (HaveOpenings state new)
      → writes_of new ≡ writes_of old → OnOk r (IsKnown state new)
  looked_on old new (Err e) crashed looked same sound room agenda = tt
  looked_on old new (Ok x) crashed looked same sound room agenda = record {
    up = record { chunks = looked.chunks.vault.up; slots = looked.slots.vault.up; journal = looked.journal.vault.up };
    starting = record { looked = looked; sound = sound crashed.sound; openings = room; idle = agenda ∙ crashed.idle };
    are = subst AreNamed (sym same) crashed.are;
  }

  -- ---- crashes

  module _ (old last : Journal D) (rests : AreUp old → AreSynced state old → AreSound state old → (devs state last ≡ devs state old) × AreSound state last) where
    pub crashed_between : (ws : List Write) → IsReady state old ws → AreUp old → AreNamed (devs state old) → AreSound state last × AreNamed (devs state last)
    crashed_between ws ready up are = let r = rests up (ready_synced old ws ready) (ready_sound old ws ready) in (r.1, subst AreNamed (sym r.0) are)

  module _ (images : D → ℕ → List ℕ → Type 0) where
    pub works_on : (old new : Journal D) (r : Result Step JournalFault) (ws : List Write) → writes_of old ≡ ws → WorksOn state images old new r ws → IsMoving state old → OnOk r (IsMoving state new)
    works_on old new (Err e) ws is k m = tt
    works_on old new (Ok step) [] is k m = subst (IsMoving state) (sym k.1) m
    works_on old new (Ok step) (w ∷ ws) is k m =
        let runs : Runs IsNamedMoment (devs state old) (w ∷ ws) = subst (Runs IsNamedMoment (devs state old)) is m.runs in
        record {
          up = k.0.up;
          ready = subst (IsReady state new) (sym k.1) k.0.ready;
          runs = subst (Runs IsNamedMoment (devs state new)) (sym k.1) (subst (λ (d : ClientDevs). Runs IsNamedMoment d ws) (sym k.0.devs_are) runs.1);
        }

    pub crashed_inside : (old new last : Journal D) (r : Result Step JournalFault) (ws : List Write) → writes_of old ≡ ws → WorksOn state images old new r ws → AreUp old → IsReady state old ws → Runs IsNamedMoment (devs state old) ws
        → ((start : Journal D) (a b : ClientDevs) → DevsLeave state images start new (IsEither a b) → IsEither a b (devs state last) × AreSound state last)
        → (AreUp new → AreSynced state new → AreSound state new → (devs state last ≡ devs state new) × AreSound state last) → AreSound state last × AreNamed (devs state last)
    crashed_inside old new last r [] is k up ready runs left rests =
        crashed_between old last (subst (λ (j : Journal D). AreUp j → AreSynced state j → AreSound state j → (devs state last ≡ devs state j) × AreSound state last) k.1 rests) [] ready up runs.are
    crashed_inside old new last r (w ∷ ws) is k up ready runs left rests =
        let e = left old (devs state old) (changed_by (devs state old) w) k.0.any_moment in
        (e.1, ⊎_elim (λ same. subst AreNamed (sym same) runs.0.are) (λ same. subst AreNamed (sym same) (named_now (changed_by (devs state old) w) ws runs.1)) e.0)

    -- ---- starts

    pub recovered : (old new : Journal D) (r : Result Rolled JournalFault) → Recovers state images old new r → AreNamed (devs state old) → OnOk r (IsMoving state new)
    recovered old new (Err e) k are = tt
    recovered old new (Ok x) k are = record { up = k.up; ready = k.ready; runs = redo_runs are.meaning (redone (devs state old)) (devs state new) (writes_of new) (k.runs are.meaning are.named) }

    -- ---- readers

    pub known_stays : {T : Type 0} (old new : Journal D) (r : Result T JournalFault) → Asks state images old new r → IsKnown state old → OnOk r (IsKnown state new)
    known_stays old new (Err e) k known = tt
    known_stays old new (Ok x) k known =
        let s = k.stay (λ is. cc) in
        let start = known.starting in
        record {
          up = record { chunks = s.chunks.down ∙ known.up.chunks; slots = s.slots.down ∙ known.up.slots; journal = s.journal.down ∙ known.up.journal };
          starting = record {
            looked = record { chunks = s.chunks.looked start.looked.chunks; slots = s.slots.looked start.looked.slots; journal = s.journal.looked start.looked.journal };
            sound = record { chunks = s.chunks.sound start.sound.chunks; slots = s.slots.sound start.sound.slots; journal = s.journal.sound start.sound.journal };
            openings = record { chunks = s.chunks.room 1 0 0 start.openings.chunks; slots = s.slots.room 1 0 0 start.openings.slots; journal = s.journal.room 1 0 0 start.openings.journal };
            idle = k.agenda ∙ start.idle;
          };
          are = subst AreNamed (sym (k.same (λ is. cc))) known.are;
        }

    rest_ready : (old new : Journal D) → AllStay state old new → IsReady state old [] → IsReady state new []
    rest_ready old new s r = record {
      may = tt;
      chunk_looked = s.chunks.looked r.chunk_looked;
      chunk_sound = s.chunks.sound r.chunk_sound;
      chunk_is_opened = s.chunks.opened r.chunk_is_opened;
      chunk_room = s.chunks.room 0 0 0 r.chunk_room;
      slot_looked = s.slots.looked r.slot_looked;
      slot_sound = s.slots.sound r.slot_sound;
      slot_is_opened = s.slots.opened r.slot_is_opened;
      slot_room = s.slots.room 0 0 0 r.slot_room;
      journal_looked = s.journal.looked r.journal_looked;
      journal_sound = s.journal.sound r.journal_sound;
      journal_is_opened = s.journal.opened r.journal_is_opened;
      journal_room = s.journal.room 0 0 0 r.journal_room;
    }

    pub rest_stays : {T : Type 0} (old new : Journal D) (r : Result T JournalFault) → Asks state images old new r → IsResting state old → OnOk r (IsResting state new)
    rest_stays old new (Err e) k rest = tt
    rest_stays old new (Ok x) k rest =
        let s = k.stay (λ is. cc) in
        let idle : writes_of new ≡ [] = k.agenda ∙ rest.idle in
        let same : devs state new ≡ devs state old = k.same (λ is. cc) in
        let m = rest.moving in
        let runs : Runs IsNamedMoment (devs state old) [] = subst (Runs IsNamedMoment (devs state old)) rest.idle m.runs in
        let again : Runs IsNamedMoment (devs state new) [] = subst (λ (d : ClientDevs). Runs IsNamedMoment d []) (sym same) runs in
        record {
          moving = record {
            up = record { chunks = s.chunks.down ∙ m.up.chunks; slots = s.slots.down ∙ m.up.slots; journal = s.journal.down ∙ m.up.journal };
            ready = subst (IsReady state new) (sym idle) (rest_ready old new s (subst (IsReady state old) rest.idle m.ready));
            runs = subst (Runs IsNamedMoment (devs state new)) (sym idle) again;
          };
          idle = idle;
          rests = subst IsAtRest (sym same) rest.rests;
        }

    pub held_found : (old new : Journal D) (row : List ℕ) (r : Result (Option RowSlots) JournalFault) → Asks state images old new r → IsResting state old → IfOk r (λ found. slots_of (redone (devs state old)) 1 row ≡ found)
        → IfOk r (λ found. slots_of (devs state new).held 1 row ≡ found)
    held_found old new row (Err e) k rest is = tt
    held_found old new row (Ok x) k rest is =
        let d = devs state old in
        let same : devs state new ≡ d = k.same (λ is. cc) in
        ap (λ (y : ClientDevs). slots_of y.held 1 row) same ∙ (ap (λ (h : SlotData). slots_of h 1 row) (sym (as_held d.journal.at_work d.held rest.rests.not_committed)) ∙ is)

    -- ---- plans

    pub begun : (old new : Journal D) (is_spent : Type 0) (writes : ℕ → List Write) (number : ℕ) → TakesOn state images is_spent writes old new (Ok number) → IsResting state old
        → (before : SlotData) (commit : Commit) (meaning_of : (LocalName → List ℕ) → LocalName → List ℕ)
        → ((meaning : LocalName → List ℕ) → NamedSlots meaning (devs state old) → IsAtRest (devs state old) → Runs (IsMoment (meaning_of meaning) before commit) (devs state new) (writes_of new)) → IsMoving state new
    begun old new is_spent writes number k rest before commit meaning_of moments =
        let are = named_now (devs state old) (writes_of old) rest.moving.runs in
        record { up = k.up; ready = k.ready; runs = plan_runs (meaning_of are.meaning) before commit (devs state new) (writes_of new) (moments are.meaning are.named rest.rests) }

pub chunk_some : {X : Type 0} (o : Option X) (b : Bool) → b ≡ is_some o → IsTrue b → IsSome o
chunk_some (Some x) b is true_ = refl
chunk_some None b is true_ = absurd cc
