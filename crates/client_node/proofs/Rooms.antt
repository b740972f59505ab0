-- What is gathered, and the node in any of its states.
use Rattle.std.proofs.Common.{◌≡◌, ℕ, length, Bool, true, false, List, [], ◌∷◌, Option, Some, None, refl, subst}
use Rattle.std.specs.Prelude.{not}
use Rattle.std.specs.Bool.{MatchBool}
use Rattle.disk_trait.specs.Calls.{DiskState}
use Rattle.disk_trait.specs.Fuse.{behind}
use Rattle.stab_base.specs.declared.node.Node.{Node}
use Rattle.step_tables.specs.declared.message.Message.{Message}
use Rattle.client_journal.specs.Devs.{Write}
use Rattle.client_journal.specs.Standing.{devs, writes_of, AreUp, IsReady}
use Rattle.step_tables.specs.ClientMoves.{ClientDisk, ClientTask, Client}
use Rattle.gathering.specs.declared.gathered.Gathered.{Gathered}
use Rattle.gathering.specs.Room.{HasRoom}
use Rattle.table_model.specs.declared.line.Fact.{Fact as Told}
use Rattle.client_node.specs.declared.node.ClientNode.{ClientNode}
use Rattle.client_node.specs.Node.{FollowsFor, IsClient, has_task}
use Rattle.client_node.proofs.Following.{no_write}

module _ {D : Type 0} (state : D → DiskState) where
  abbrev at : ClientDisk → Option (List ClientTask) → Client
  at disk agenda = record { disk = disk; agenda = agenda }

  pub devices_up : (node : ClientNode D) (disk : ClientDisk) (agenda : Option (List ClientTask)) → IsClient state node (at disk agenda) → AreUp node.devs
  devices_up node disk None t = t.at.1.up
  devices_up node disk (Some tasks) t = t.at.1.up

  pub node_ready : (node : ClientNode D) (disk : ClientDisk) (agenda : Option (List ClientTask)) → IsClient state node (at disk agenda) → node.is_up ≡ true → IsReady (behind state) node.devs (writes_of node.devs)
  node_ready node disk None t up = let no = t.at.0 in absurd cc
  node_ready node disk (Some tasks) t up = t.at.1.ready

  -- there is room for what is owed
  pub rooms : (node : ClientNode D) (disk : ClientDisk) (agenda : Option (List ClientTask)) → IsClient state node (at disk agenda) → node.is_up ≡ true
      → HasRoom node.facts (length node.owed.facts.items) × HasRoom node.messages (length node.owed.messages.items)
  rooms node disk None t up = let no = t.at.0 in absurd cc
  rooms node disk (Some tasks) t up = (t.at.1.fact_room, t.at.1.message_room)

  -- what was gathered is handed over
  pub taken_out : (node : ClientNode D) (facts : Gathered Told) (messages : Gathered (Option Node × Message)) → ((n : ℕ) → HasRoom node.facts n → HasRoom facts n) → ((n : ℕ) → HasRoom node.messages n → HasRoom messages n)
      → (disk : ClientDisk) (agenda : Option (List ClientTask)) → IsClient state node (at disk agenda) → IsClient state (record node { facts = facts; messages = messages }) (at disk agenda)
  taken_out node facts messages fr mr disk None t =
      let r = t.at.1 in
      record { at = (t.at.0, record { up = r.up; fresh = r.fresh; idle = r.idle; synced = r.synced; sound = r.sound; stands = r.stands; undeclared = r.undeclared; opens = r.opens; waiting = r.waiting; steady = r.steady; phaseless = r.phaseless }) }
  taken_out node facts messages fr mr disk (Some tasks) t =
      let h = t.at.1 in
      record {
        at = (
          t.at.0,
          record {
            declared = h.declared;
            up = h.up;
            fresh = h.fresh;
            ready = h.ready;
            follows = h.follows;
            rests = h.rests;
            steady = h.steady;
            tasks_steady = h.tasks_steady;
            owed = h.owed;
            fact_room = fr (length node.owed.facts.items) h.fact_room;
            message_room = mr (length node.owed.messages.items) h.message_room;
          },
        );
      }

  -- whether a write is to be done
  pub busy_is : (node : ClientNode D) (disk : ClientDisk) (agenda : Option (List ClientTask)) (b : Bool) → IsClient state node (at disk agenda) → MatchBool b (writes_of node.devs ≡ []) (writes_of node.devs ≡ [] → ⊥) → not b ≡ has_task agenda
  busy_is node disk None true t none = refl
  busy_is node disk (Some []) true t none = refl
  busy_is node disk (Some (task ∷ tasks)) true t none = absurd (subst (λ (l : List Write). FollowsFor node.number (devs (behind state) node.devs) l disk (task ∷ tasks)) none t.at.1.follows).1
  busy_is node disk None false t some = absurd (some t.at.1.idle)
  busy_is node disk (Some []) false t some = absurd (some (no_write node.number (devs (behind state) node.devs) (writes_of node.devs) disk t.at.1.follows))
  busy_is node disk (Some (task ∷ tasks)) false t some = refl
