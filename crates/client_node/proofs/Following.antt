-- Writes and tasks side by side, and what a done write makes of a node.
use Rattle.std.proofs.Common.{◌≡◌, ℕ, Bool, true, false, length, List, [], ◌∷◌, Option, Ok, refl, sym, subst}
use Rattle.std.specs.Bool.{MatchBool}
use Rattle.disk_trait.specs.Calls.{DiskState}
use Rattle.disk_trait.specs.Fuse.{behind, inner_of}
use Rattle.disk_trait.specs.declared.fuse.FuseDisk.{FuseDisk}
use Rattle.stab_base.specs.declared.node.Node.{Node}
use Rattle.stab_base.specs.declared.step.Step.{Step}
use Rattle.held_value.specs.declared.local_name.LocalName.{LocalName}
use Rattle.client_journal.specs.declared.devs.Journal.{Journal}
use Rattle.client_journal.specs.Devs.{ClientDevs, Write, changed_by, changed_by_all}
use Rattle.client_journal.specs.Devs as writes
use Rattle.client_journal.specs.NamedSlots.{IsAtRest}
use Rattle.client_journal.specs.Standing.{devs, writes_of, step_of, AreUp, IsReady}
use Rattle.client_journal.specs.Standing as journals
use Rattle.client_journal.specs.Unset.{KeepsUnset}
use Rattle.step_tables.specs.declared.message.Message.{Message}
use Rattle.step_tables.specs.Facts.{Fact}
use Rattle.step_tables.specs.Messages.{Send}
use Rattle.step_tables.specs.ClientMoves.{ClientDisk, ClientChange, ClientTask, Client, changed}
use Rattle.step_tables.specs.ClientMoves as moves
use Rattle.journal_laws.specs.Holds.{IsWriteOf}
use Rattle.journal_laws.proofs.Crashes.{now}
use Rattle.client_node.proofs.Fitting.{fit_now}
use Rattle.client_node.proofs.Steadies.{steady_changed}
use Rattle.gathering.specs.declared.gathered.Gathered.{Gathered}
use Rattle.gathering.specs.Room.{HasRoom}
use Rattle.client_node.specs.Due.{is_last_of, left_at}
use Rattle.table_model.specs.declared.line.Fact.{Fact as Told}
use Rattle.client_node.specs.declared.owed.Owed.{Owed}
use Rattle.client_node.specs.declared.owed.When.{When}
use Rattle.client_node.specs.declared.node.ClientNode.{ClientNode}
use Rattle.client_node.specs.Node.{AreOwed, StandsFor, FollowsFor, facts_owed, sends_owed, IsWorking}

-- ---- writes and tasks

pub follows_now : (c : ℕ) (d : ClientDevs) (ws : List Write) (disk : ClientDisk) (tasks : List ClientTask) → FollowsFor c d ws disk tasks → StandsFor c d disk
follows_now c d ws disk tasks f = (f.0, now c f.0 d ws disk tasks f.1, fit_now f.0 d ws f.2)

pub no_write : (c : ℕ) (d : ClientDevs) (ws : List Write) (disk : ClientDisk) → FollowsFor c d ws disk [] → ws ≡ []
no_write c d [] disk f = refl
no_write c d (w ∷ ws) disk f = absurd f.1

-- a write has the name of its task
pub same_step : (c : ℕ) (meaning : LocalName → List ℕ) (w : Write) (change : ClientChange) → IsWriteOf c meaning w change → step_of w ≡ moves.step_of change
same_step c meaning writes.OpenJournal (moves.Keep step) h = sym h
same_step c meaning writes.OpenSlots (moves.Keep step) h = sym h
same_step c meaning writes.OpenChunks (moves.Keep step) h = sym h
same_step c meaning (writes.PutIntend intend) (moves.Keep step) h = sym h
same_step c meaning (writes.PutChunk name bytes) (moves.Keep step) h = sym h
same_step c meaning (writes.DropChunk name) (moves.Keep step) h = sym h
same_step c meaning (writes.PutCommit commit) (moves.Commit p) h = refl
same_step c meaning (writes.PutSlots row) (moves.PutRow p) h = refl
same_step c meaning (writes.PutRecord table) (moves.PutTable p) h = refl
same_step c meaning writes.PutDone moves.Finish h = refl
same_step c meaning w change h = absurd h

-- whether a list of writes is empty, as its test tells
pub last_is : (b : Bool) (ws : List Write) → MatchBool b (ws ≡ []) (ws ≡ [] → ⊥) → b ≡ is_last_of ws
last_is true [] h = refl
last_is true (w ∷ ws) h = absurd cc
last_is false [] h = absurd (h refl)
last_is false (w ∷ ws) h = refl

-- what is owed behind a write that isn't the last, or behind the last
still_owed : (when : When) (owed : List Fact) (old new : List Send) (ws : List Write) (tasks : List ClientTask) → (is_last_of ws ≡ false → new ≡ old) → AreOwed when owed old ws tasks → AreOwed when owed new ws tasks
still_owed when owed old new [] [] same h = tt
still_owed when owed old new [] (task ∷ tasks) same h = absurd h
still_owed when owed old new (w ∷ ws) tasks same h = subst (λ (l : List Send). AreOwed when owed l (w ∷ ws) tasks) (sym (same refl)) h

module _ {D : Type 0} (state : D → DiskState) (images : D → ℕ → List ℕ → Type 0) where
  -- a write is done
  module _ (old : ClientNode D) (disk : ClientDisk) (task : ClientTask) (tasks : List ClientTask) (w : Write) (ws : List Write) (is : writes_of old.devs ≡ w ∷ ws) (h : IsWorking state old disk (task ∷ tasks)) where
    abbrev here : ClientDevs
    here = devs (behind state) old.devs

    pub follows_w : FollowsFor old.number here (w ∷ ws) disk (task ∷ tasks)
    follows_w = subst (λ (l : List Write). FollowsFor old.number here l disk (task ∷ tasks)) is h.follows

    pub owed_w : AreOwed old.owed.when (facts_owed old.owed) (sends_owed old.owed) (w ∷ ws) (task ∷ tasks)
    owed_w = subst (λ (l : List Write). AreOwed old.owed.when (facts_owed old.owed) (sends_owed old.owed) l (task ∷ tasks)) is h.owed

    pub step_w : step_of w ≡ moves.step_of task.change
    step_w = let f = follows_w in same_step old.number f.0 w task.change f.1.1

    pub behind_w : FollowsFor old.number (changed_by here w) ws (changed disk task.change) tasks
    behind_w = let f = follows_w in (f.0, f.1.2, f.2.1)

    pub done_working : (client : Journal (FuseDisk D)) (facts : Gathered Told) (messages : Gathered (Option Node × Message)) (owed : Owed) (step : Step)
        → journals.Works (behind state) (λ f. images (inner_of f)) w ws old.devs client (Ok step) → KeepsUnset (behind state) old.devs client → writes_of client ≡ ws
        → owed.when ≡ old.owed.when → facts_owed owed ≡ left_at old.owed.when (facts_owed old.owed) (step_of w) (is_last_of ws) → (is_last_of ws ≡ false → sends_owed owed ≡ sends_owed old.owed)
        → HasRoom facts (length owed.facts.items) → HasRoom messages (length owed.messages.items)
        → IsWorking state (record old { devs = client; facts = facts; messages = messages; owed = owed }) (changed disk task.change) tasks
    done_working client facts messages owed step k keeps rest when left sends fact_room message_room = record {
      declared = h.declared;
      up = k.up;
      fresh = keeps.fresh h.fresh;
      ready = subst (λ (l : List Write). IsReady (behind state) client l) (sym rest) k.ready;
      follows = subst (λ (l : List Write). FollowsFor old.number (devs (behind state) client) l (changed disk task.change) tasks) (sym rest)
          (subst (λ (d : ClientDevs). FollowsFor old.number d ws (changed disk task.change) tasks) (sym k.devs_are) behind_w);
      rests =
          let r : IsAtRest (changed_by_all here (w ∷ ws)) = subst (λ (l : List Write). IsAtRest (changed_by_all here l)) is h.rests in
          subst (λ (l : List Write). IsAtRest (changed_by_all (devs (behind state) client) l)) (sym rest) (subst (λ (d : ClientDevs). IsAtRest (changed_by_all d ws)) (sym k.devs_are) r);
      steady = steady_changed old.waiting disk task.change h.tasks_steady.0 h.steady;
      tasks_steady = h.tasks_steady.1;
      owed =
          let o : AreOwed old.owed.when (left_at old.owed.when (facts_owed old.owed) (step_of w) (is_last_of ws)) (sends_owed owed) ws tasks = still_owed old.owed.when _ (sends_owed old.owed) (sends_owed owed) ws tasks sends owed_w.2 in
          subst (λ (l : List Write). AreOwed owed.when (facts_owed owed) (sends_owed owed) l tasks) (sym rest)
          (subst (λ (x : When). AreOwed x (facts_owed owed) (sends_owed owed) ws tasks) (sym when) (subst (λ (l : List Fact). AreOwed old.owed.when l (sends_owed owed) ws tasks) (sym left) o));
      fact_room = fact_room;
      message_room = message_room;
    }
