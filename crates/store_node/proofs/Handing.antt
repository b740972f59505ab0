-- What is gathered, and the node in any of its states.
use Rattle.std.proofs.Common.{◌≡◌, ℕ, ◌+◌, ◌≤◌, ◌++◌, length, map, Bool, true, false, List, [], ◌∷◌, Option, Some, None, Ok, refl, sym, ◌∙◌, ap, subst}
use Rattle.std.specs.Prelude.{option_to_list, not}
use Rattle.std.specs.Bool.{MatchBool}
use Rattle.std.proofs.lemmas.List.{length-map, map-append}
use Rattle.disk_trait.specs.Calls.{DiskState}
use Rattle.disk_trait.specs.Fuse.{behind, inner_of}
use Rattle.disk_trait.specs.declared.fuse.FuseDisk.{FuseDisk}
use Rattle.stab_base.specs.declared.node.Node.{Node}
use Rattle.stab_base.specs.declared.step.Step.{Step}
use Rattle.step_tables.specs.declared.message.Message.{Message}
use Rattle.store_commit.specs.declared.devs.TableDevs.{TableDevs}
use Rattle.store_commit.specs.Devs.{Write}
use Rattle.store_commit.specs.Standing.{devs, writes_of, step_of, AreUp, IsReady, WorksOn, NothingHidden}
use Rattle.step_tables.specs.StoreMoves.{StoreDisk, StoreTask, TableStore}
use Rattle.step_tables.specs.Facts.{Fact}
use Rattle.step_tables.specs.Messages.{Send}
use Rattle.device_laws.specs.Stands.{Follows}
use Rattle.store_node.specs.Due.{told_at, sent_at, is_last_of}
use Rattle.store_node.specs.Gathered.{HasRoom}
use Rattle.store_node.specs.declared.gathered.Gathered.{Gathered}
use Rattle.store_node.specs.declared.told.StoreFact.{StoreFact}
use Rattle.store_node.specs.declared.node.TableNode.{TableNode}
use Rattle.store_node.specs.Node.{IsTable, facts_in, sends_in, has_task}
use Rattle.store_node.proofs.Following.{less_room, owed_w, no_write}

-- ---- what is gathered

pub put_told : {T F : Type 0} (f : T → F) (old new : List T) (o : Option T) (due : List F) → new ≡ old ++ option_to_list o → map f (option_to_list o) ≡ due → map f new ≡ map f old ++ due
put_told f old new o due added is = ap (map f) added ∙ (map-append f old (option_to_list o) ∙ ap (λ l. map f old ++ l) is)

pub due_length : {T F : Type 0} (f : T → F) (o : Option T) (due : List F) → map f (option_to_list o) ≡ due → length (option_to_list o) ≡ length due
due_length f o due is = sym (length-map (option_to_list o) f) ∙ ap (λ l. length l) is

pub put_room : {T F : Type 0} (f : T → F) (old new : Gathered T) (o : Option T) (due : List F) → map f (option_to_list o) ≡ due → ((n : ℕ) → HasRoom old (length (option_to_list o) + n) → HasRoom new n)
    → (n : ℕ) → HasRoom old (length due + n) → HasRoom new n
put_room f old new o due is room n h = room n (subst (λ (k : ℕ). HasRoom old (k + n)) (sym (due_length f o due is)) h)

pub due_room : {T F : Type 0} (f : T → F) (old : Gathered T) (o : Option T) (due : List F) → map f (option_to_list o) ≡ due → HasRoom old (length due) → HasRoom old (length (option_to_list o))
due_room f old o due is h = subst (λ (k : ℕ). HasRoom old k) (sym (due_length f o due is)) h

-- ---- the node

module _ {D : Type 0} (state : D → DiskState) (images : D → ℕ → List ℕ → Type 0) where
  abbrev st : FuseDisk D → DiskState
  st f = behind state f

  abbrev im : FuseDisk D → ℕ → List ℕ → Type 0
  im f = images (inner_of f)

  abbrev at : StoreDisk → Option (List StoreTask) → TableStore
  at disk agenda = record { disk = disk; agenda = agenda }

  pub devices_up : (node : TableNode D) (disk : StoreDisk) (agenda : Option (List StoreTask)) → IsTable state node (at disk agenda) → AreUp node.devs
  devices_up node disk None t = t.at.1.up
  devices_up node disk (Some tasks) t = t.at.1.up

  pub node_ready : (node : TableNode D) (disk : StoreDisk) (agenda : Option (List StoreTask)) → IsTable state node (at disk agenda) → node.is_up ≡ true → IsReady st node.devs (writes_of node.devs)
  node_ready node disk None t up = let no = t.at.0 in absurd cc
  node_ready node disk (Some tasks) t up = t.at.1.ready

  pub node_hidden : (node : TableNode D) (disk : StoreDisk) (agenda : Option (List StoreTask)) → IsTable state node (at disk agenda) → node.is_up ≡ true → NothingHidden node.devs
  node_hidden node disk None t up = let no = t.at.0 in absurd cc
  node_hidden node disk (Some tasks) t up = t.at.1.hidden

  pub state_is : (node : TableNode D) (disk : StoreDisk) (agenda : Option (List StoreTask)) → IsTable state node (at disk agenda) → node.is_up ≡ true → node.state ≡ disk.state
  state_is node disk None t up = let no = t.at.0 in absurd cc
  state_is node disk (Some tasks) t up = t.at.1.stage

  -- there is room for what the next write tells and sends
  pub fact_due_room : (node : TableNode D) (l : List Write) → writes_of node.devs ≡ l → (writes_of node.devs ≡ [] → ⊥) → (disk : StoreDisk) (agenda : Option (List StoreTask)) → IsTable state node (at disk agenda) → node.is_up ≡ true
      → (table : TableDevs (FuseDisk D)) (step : Step) (is_last : Bool) → WorksOn st im node.devs table (Ok step) l → is_last ≡ is_last_of (writes_of table)
      → HasRoom node.facts (length (told_at node.table node.owed step is_last))
  fact_due_room node l is some disk None t up table step is_last k last = let no = t.at.0 in absurd cc
  fact_due_room node [] is some disk (Some tasks) t up table step is_last k last = absurd (some is)
  fact_due_room node (w ∷ ws) is some disk (Some []) t up table step is_last k last = absurd (subst (λ (l : List Write). Follows node.schema (devs (behind state) node.devs) l disk []) is t.at.1.follows)
  fact_due_room node (w ∷ ws) is some disk (Some (task ∷ tasks)) t up table step is_last k last =
      let owed = owed_w state images node disk task tasks w ws is t.at.1 in
      let facts_are : task.facts ≡ told_at node.table node.owed step is_last = owed.0 ∙ sym (ap (λ (s : Step). told_at node.table node.owed s is_last) k.2 ∙ ap (λ (b : Bool). told_at node.table node.owed (step_of w) b) (last ∙ ap is_last_of k.1)) in
      subst (λ (l : List Fact). HasRoom node.facts (length l)) facts_are (less_room node.facts (length task.facts) (facts_in tasks) t.at.1.fact_room)

  pub message_due_room : (node : TableNode D) (l : List Write) → writes_of node.devs ≡ l → (writes_of node.devs ≡ [] → ⊥) → (disk : StoreDisk) (agenda : Option (List StoreTask)) → IsTable state node (at disk agenda) → node.is_up ≡ true
      → (table : TableDevs (FuseDisk D)) (step : Step) → WorksOn st im node.devs table (Ok step) l
      → HasRoom node.messages (length (sent_at node.table node.owed step))
  message_due_room node l is some disk None t up table step k = let no = t.at.0 in absurd cc
  message_due_room node [] is some disk (Some tasks) t up table step k = absurd (some is)
  message_due_room node (w ∷ ws) is some disk (Some []) t up table step k = absurd (subst (λ (l : List Write). Follows node.schema (devs (behind state) node.devs) l disk []) is t.at.1.follows)
  message_due_room node (w ∷ ws) is some disk (Some (task ∷ tasks)) t up table step k =
      let owed = owed_w state images node disk task tasks w ws is t.at.1 in
      let sends_are : task.sends ≡ sent_at node.table node.owed step = owed.1 ∙ sym (ap (λ (s : Step). sent_at node.table node.owed s) k.2) in
      subst (λ (l : List Send). HasRoom node.messages (length l)) sends_are (less_room node.messages (length task.sends) (sends_in tasks) t.at.1.message_room)

  -- what was gathered is handed over
  pub taken_out : (node : TableNode D) (facts : Gathered StoreFact) (messages : Gathered (Option Node × Message)) → ((n : ℕ) → n ≤ 1 → HasRoom node.facts n → HasRoom facts n) → ((n : ℕ) → n ≤ 1 → HasRoom node.messages n → HasRoom messages n)
      → (disk : StoreDisk) (agenda : Option (List StoreTask)) → IsTable state node (at disk agenda) → IsTable state (record node { facts = facts; messages = messages }) (at disk agenda)
  taken_out node facts messages fr mr disk None t =
      let r = t.at.1 in
      record {
        size = t.size;
        spelled = t.spelled;
        short = t.short;
        at = (t.at.0, record { up = r.up; fresh = r.fresh; idle = r.idle; synced = r.synced; sound = r.sound; stands = r.stands; fit = r.fit; nothing = r.nothing });
      }
  taken_out node facts messages fr mr disk (Some tasks) t =
      let h = t.at.1 in
      record {
        size = t.size;
        spelled = t.spelled;
        short = t.short;
        at = (
          t.at.0,
          record {
            declared = h.declared;
            up = h.up;
            fresh = h.fresh;
            hidden = h.hidden;
            ready = h.ready;
            follows = h.follows;
            well = h.well;
            owed = h.owed;
            stage = h.stage;
            stages = h.stages;
            fact_room = fr (facts_in tasks) h.few_facts h.fact_room;
            message_room = mr (sends_in tasks) h.few_messages h.message_room;
            few_facts = h.few_facts;
            few_messages = h.few_messages;
          },
        );
      }

  -- whether a write is to be done
  pub busy_is : (node : TableNode D) (disk : StoreDisk) (agenda : Option (List StoreTask)) (b : Bool) → IsTable state node (at disk agenda) → MatchBool b (writes_of node.devs ≡ []) (writes_of node.devs ≡ [] → ⊥) → not b ≡ has_task agenda
  busy_is node disk None true t none = refl
  busy_is node disk (Some []) true t none = refl
  busy_is node disk (Some (task ∷ tasks)) true t none = absurd (subst (λ (l : List Write). Follows node.schema (devs (behind state) node.devs) l disk (task ∷ tasks)) none t.at.1.follows)
  busy_is node disk None false t some = absurd (some t.at.1.idle)
  busy_is node disk (Some []) false t some = absurd (some (no_write node.schema (devs (behind state) node.devs) (writes_of node.devs) disk t.at.1.follows))
  busy_is node disk (Some (task ∷ tasks)) false t some = refl

-- another Store keeps the table
pub moved_node : {D : Type 0} (state : D → DiskState) (node : TableNode D) (store : ℕ) (disk : StoreDisk) (agenda : Option (List StoreTask))
    → IsTable state node (record { disk = disk; agenda = agenda }) → IsTable state (record node { store = store }) (record { disk = disk; agenda = agenda })
moved_node state node store disk None t =
    let r = t.at.1 in
    record {
      size = t.size;
      spelled = t.spelled;
      short = t.short;
      at = (t.at.0, record { up = r.up; fresh = r.fresh; idle = r.idle; synced = r.synced; sound = r.sound; stands = r.stands; fit = r.fit; nothing = r.nothing });
    }
moved_node state node store disk (Some tasks) t =
    let h = t.at.1 in
    record {
      size = t.size;
      spelled = t.spelled;
      short = t.short;
      at = (
        t.at.0,
        record {
          declared = h.declared;
          up = h.up;
          fresh = h.fresh;
          hidden = h.hidden;
          ready = h.ready;
          follows = h.follows;
          well = h.well;
          owed = h.owed;
          stage = h.stage;
          stages = h.stages;
          fact_room = h.fact_room;
          message_room = h.message_room;
          few_facts = h.few_facts;
          few_messages = h.few_messages;
        },
      );
    }
