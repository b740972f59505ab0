-- Writes and tasks side by side, and what a done write makes of a node.
use Rattle.std.proofs.Common.{◌≡◌, inl, inr, ⊎_elim, ℕ, ◌+◌, ◌<◌, Bool, true, false, List, [], ◌∷◌, Option, Ok, refl, sym, ◌∙◌, ap, subst, arith}
use Rattle.std.specs.Bool.{MatchBool}
use Rattle.disk_trait.specs.Calls.{DiskState}
use Rattle.disk_trait.specs.Fuse.{behind, inner_of}
use Rattle.disk_trait.specs.declared.fuse.FuseDisk.{FuseDisk}
use Rattle.stab_base.specs.declared.node.Node.{Node}
use Rattle.stab_base.specs.declared.step.Step.{Step}
use Rattle.row_value.specs.declared.schema.Schema.{Schema}
use Rattle.store_commit.specs.declared.devs.TableDevs.{TableDevs}
use Rattle.store_commit.specs.Devs.{Devs, Write, changed_by}
use Rattle.store_commit.specs.Devs as devs_of
use Rattle.store_commit.specs.Standing.{devs, writes_of, step_of, all_faults, AreUp, AreSound, AreSynced, IsReady}
use Rattle.store_commit.specs.Standing.{NothingHidden}
use Rattle.store_commit.specs.Standing as commits
use Rattle.store_commit.specs.Fused.{SameDisks}
use Rattle.store_commit.specs.Unset.{KeepsUnset, all_stops}
use Rattle.step_tables.specs.declared.message.Message.{Message}
use Rattle.table_model.specs.declared.table_state.TableState.{TableState}
use Rattle.step_tables.specs.Store.{Stored}
use Rattle.step_tables.specs.StoreMoves.{StoreDisk, StoreTask, StoreChange, TableStore, changed}
use Rattle.step_tables.specs.StoreMoves as moves
use Rattle.device_laws.specs.Stands.{Stands, Follows, IsWriteOf}
use Rattle.store_node.specs.Due.{is_last_of, state_at}
use Rattle.store_node.specs.Gathered.{HasRoom}
use Rattle.store_node.specs.declared.gathered.Gathered.{Gathered}
use Rattle.store_node.specs.declared.told.StoreFact.{StoreFact}
use Rattle.store_node.specs.declared.node.TableNode.{TableNode}
use Rattle.store_node.specs.Node.{AreOwed, AreFit, facts_in, sends_in, GoesWell, own_faults, IsWorking}

-- ---- writes and tasks

pub follows_now : (schema : Schema) (d : Devs) (ws : List Write) (disk : StoreDisk) (tasks : List StoreTask) → Follows schema d ws disk tasks → Stands schema d disk
follows_now schema d [] disk [] f = f
follows_now schema d [] disk (task ∷ tasks) f = absurd f
follows_now schema d (w ∷ ws) disk [] f = absurd f
follows_now schema d (w ∷ ws) disk (task ∷ tasks) f = f.0

pub no_task : (schema : Schema) (d : Devs) (disk : StoreDisk) (tasks : List StoreTask) → Follows schema d [] disk tasks → tasks ≡ []
no_task schema d disk [] f = refl
no_task schema d disk (task ∷ tasks) f = absurd f

pub no_write : (schema : Schema) (d : Devs) (ws : List Write) (disk : StoreDisk) → Follows schema d ws disk [] → ws ≡ []
no_write schema d [] disk f = refl
no_write schema d (w ∷ ws) disk f = absurd f

-- a write has the name of its task
pub same_step : (size : ℕ) (items : List Stored) (w : Write) (change : StoreChange) → IsWriteOf size items w change → step_of w ≡ moves.step_of change
same_step size items devs_of.OpenChunks moves.OpenChunks h = refl
same_step size items devs_of.OpenRows moves.OpenRows h = refl
same_step size items devs_of.OpenLog moves.OpenLog h = refl
same_step size items (devs_of.OpenEntry entry) (moves.Open item) h = refl
same_step size items (devs_of.PutChunk name bytes) (moves.PutChunk other) h = refl
same_step size items (devs_of.PutRow stored) (moves.Put item named old) h = refl
same_step size items (devs_of.DropChunk name) (moves.DropChunk other) h = refl
same_step size items devs_of.CloseEntry moves.Close h = refl
same_step size items (devs_of.PutTable schema number) (moves.PutBeside (moves.PutState stage)) h = refl
same_step size items (devs_of.PutSub client terms) (moves.PutBeside (moves.PutSub other some)) h = refl
same_step size items w change h = absurd h

pub well_now : (schema : Schema) (disk : StoreDisk) (tasks : List StoreTask) → GoesWell schema disk tasks → AreFit schema disk.items
well_now schema disk [] h = h.0
well_now schema disk (task ∷ tasks) h = h.0

-- whether a list of writes is empty, as its test tells
pub last_is : (b : Bool) (ws : List Write) → MatchBool b (ws ≡ []) (ws ≡ [] → ⊥) → b ≡ is_last_of ws
last_is true [] h = refl
last_is true (w ∷ ws) h = absurd cc
last_is false [] h = absurd (h refl)
last_is false (w ∷ ws) h = refl

-- ---- room

pub less_room : {T : Type 0} (g : Gathered T) (a b : ℕ) → HasRoom g (a + b) → HasRoom g a
less_room g a b h = record {
  now = let n = h.now in omega arith;
  later = ⊎_elim (λ none. inl (omega (arith, none))) (λ more. ⊎_elim (λ spare. inr (inl spare)) (λ few. inr (inr (few.0, let n = few.1 in omega arith))) more) h.later;
}

-- ---- faults

module _ {D : Type 0} (state : D → DiskState) where
  pub own_is : (node : TableNode D) → all_faults (behind state) node.devs ≡ own_faults state node + all_stops (behind state) node.devs
  own_is node = omega arith

  pub own_stays : (old new : TableNode D) → all_faults (behind state) new.devs ≡ all_faults (behind state) old.devs → all_stops (behind state) new.devs ≡ all_stops (behind state) old.devs → own_faults state new ≡ own_faults state old
  own_stays old new faults stops = let a = own_is old in let b = own_is new in omega (arith, a, b, faults, stops)

  -- the same disks behind other fuses
  pub own_same : (old new : TableNode D) → SameDisks old.devs new.devs → own_faults state new ≡ own_faults state old
  own_same old new same =
      let a = ap (λ d. (state d).faults) same.chunks in let b = ap (λ d. (state d).faults) same.rows in let c = ap (λ d. (state d).faults) same.log in omega (arith, a, b, c)

  pub own_rises : (old new : TableNode D) → all_faults (behind state) old.devs < all_faults (behind state) new.devs → all_stops (behind state) new.devs ≡ all_stops (behind state) old.devs → own_faults state old < own_faults state new
  own_rises old new faults stops = let a = own_is old in let b = own_is new in omega (arith, a, b, faults, stops)

  -- ---- a write is done

  module _ (images : D → ℕ → List ℕ → Type 0) (old : TableNode D) (disk : StoreDisk) (task : StoreTask) (tasks : List StoreTask) (w : Write) (ws : List Write) (is : writes_of old.devs ≡ w ∷ ws) (h : IsWorking state old disk (task ∷ tasks)) where
    pub follows_w : Follows old.schema (devs (behind state) old.devs) (w ∷ ws) disk (task ∷ tasks)
    follows_w = subst (λ (l : List Write). Follows old.schema (devs (behind state) old.devs) l disk (task ∷ tasks)) is h.follows

    pub owed_w : AreOwed old.table old.owed (w ∷ ws) (task ∷ tasks)
    owed_w = subst (λ (l : List Write). AreOwed old.table old.owed l (task ∷ tasks)) is h.owed

    pub step_w : step_of w ≡ moves.step_of task.change
    step_w = same_step old.schema.chunk disk.items w task.change follows_w.1

    pub done_working : (table : TableDevs (FuseDisk D)) (facts : Gathered StoreFact) (messages : Gathered (Option Node × Message)) (stage : TableState) (step : Step) → stage ≡ state_at old.owed old.state
        → commits.Works (behind state) (λ f. images (inner_of f)) w ws old.devs table (Ok step) → writes_of table ≡ ws → KeepsUnset (behind state) old.devs table → NothingHidden table
        → HasRoom facts (facts_in tasks) → HasRoom messages (sends_in tasks)
        → IsWorking state (record old { devs = table; facts = facts; messages = messages; state = stage }) (changed disk task.change) tasks
    done_working table facts messages stage step behind_is k rest keeps hidden fact_room message_room = record {
      declared = h.declared;
      up = k.up;
      fresh = keeps.fresh h.fresh;
      hidden = hidden;
      ready = subst (λ (l : List Write). IsReady (behind state) table l) (sym rest) k.ready;
      follows = subst (λ (l : List Write). Follows old.schema (devs (behind state) table) l (changed disk task.change) tasks) (sym rest) (subst (λ (d : Devs). Follows old.schema d ws (changed disk task.change) tasks) (sym k.devs_are) follows_w.2);
      well = h.well.1;
      owed = subst (λ (l : List Write). AreOwed old.table old.owed l tasks) (sym rest) owed_w.2;
      stage = behind_is ∙ (ap (state_at old.owed) h.stage ∙ sym (h.stages.0 disk));
      stages = h.stages.1;
      fact_room = fact_room;
      message_room = message_room;
      few_facts = let few = h.few_facts in omega arith;
      few_messages = let few = h.few_messages in omega arith;
    }
