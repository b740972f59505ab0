-- What a call promises that tells facts and sends messages at once.
use Rattle.std.proofs.Common.{◌≡◌, ℕ, ◌++◌, length, true, List, [], ◌∷◌, Option, Some, None, Result, Ok, Err, refl, sym, ◌∙◌, ap, subst, append-nil}
use Rattle.std.specs.Prelude.{IsErrOf}
use Rattle.disk_trait.specs.Image.{IsImage}
use Rattle.disk_trait.specs.Calls.{DiskState}
use Rattle.disk_trait.specs.Fuse.{behind, inner_of}
use Rattle.disk_trait.specs.declared.fuse.FuseDisk.{FuseDisk}
use Rattle.client_journal.specs.declared.devs.Journal.{Journal}
use Rattle.client_journal.specs.Devs.{ClientDevs, Write}
use Rattle.client_journal.specs.Standing.{devs, writes_of}
use Rattle.gathering.specs.Room.{HasRoom}
use Rattle.step_tables.specs.Facts.{Answer, Fact}
use Rattle.step_tables.specs.Messages.{Send}
use Rattle.step_tables.specs.ClientMoves.{ClientDisk, ClientTask, Client, ClientStep, ClientMove, Shape}
use Rattle.client_node.specs.declared.fault.CallFault.{CallFault}
use Rattle.client_node.specs.declared.fault.CallFault.TheVariants as call
use Rattle.client_node.specs.declared.node.ClientNode.{ClientNode}
use Rattle.client_node.specs.Node.{FollowsFor, IsWorking, IsClient, told_by, sent_by}
use Rattle.client_node.specs.Calls.{Fell, IsBehind}
use Rattle.client_node.specs.Linked.{linked_step}
use Rattle.client_node.specs.Looks.{Looks}
use Rattle.client_node.specs.Does.{Does, step_with}
use Rattle.client_node.specs.Sending.{AreTasksOf, Sends, sending}
use Rattle.client_node.proofs.Asked.{IsMid, mid_devs, stands_now, call_plans}
use Rattle.client_node.proofs.Answering.{stays, does_err, does_short, does_ok, shape_now, as_err}

-- there are as many tasks as writes
pub tasks_of_writes : (c : ℕ) (d : ClientDevs) (ws : List Write) (disk : ClientDisk) (tasks : List ClientTask) → FollowsFor c d ws disk tasks → AreTasksOf ws tasks
tasks_of_writes c d [] disk [] f = record { none = λ is. refl; some = λ is. refl }
tasks_of_writes c d [] disk (task ∷ tasks) f = absurd f.1
tasks_of_writes c d (w ∷ ws) disk [] f = absurd f.1
tasks_of_writes c d (w ∷ ws) disk (task ∷ tasks) f = record { none = λ is. absurd cc; some = λ is. absurd cc }

-- what was gathered, where messages were sent at once
pub record HasSent {D : Type 0} (old new : ClientNode D) (sends : List Send) : Type 0 where
  pub sent : sent_by new ≡ sent_by old ++ sends
  pub told : told_by new ≡ told_by old
  pub no_facts : new.owed.facts.items ≡ []
  pub no_messages : new.owed.messages.items ≡ []
  pub fact_room : HasRoom new.facts 0
  pub message_room : HasRoom new.messages 0
  pub number : new.number ≡ old.number
  pub linked : new.is_linked ≡ old.is_linked
  pub up : new.is_up ≡ old.is_up
  pub declared : new.is_declared ≡ old.is_declared
  pub waiting : new.waiting ≡ old.waiting

-- and where facts were told too
pub record HasTold {D : Type 0} (old new : ClientNode D) (some : List Fact) (sends : List Send) : Type 0 where
  pub sent : sent_by new ≡ sent_by old ++ sends
  pub told : told_by new ≡ told_by old ++ some
  pub no_facts : new.owed.facts.items ≡ []
  pub no_messages : new.owed.messages.items ≡ []
  pub fact_room : HasRoom new.facts 0
  pub message_room : HasRoom new.messages 0
  pub number : new.number ≡ old.number
  pub linked : new.is_linked ≡ old.is_linked
  pub up : new.is_up ≡ old.is_up
  pub declared : new.is_declared ≡ old.is_declared
  pub waiting : new.waiting ≡ old.waiting

pub sent_told : {D : Type 0} (old new : ClientNode D) (sends : List Send) → HasSent old new sends → HasTold old new [] sends
sent_told old new sends h = record {
  sent = h.sent;
  told = h.told ∙ sym (append-nil (told_by old));
  no_facts = h.no_facts;
  no_messages = h.no_messages;
  fact_room = h.fact_room;
  message_room = h.message_room;
  number = h.number;
  linked = h.linked;
  up = h.up;
  declared = h.declared;
  waiting = h.waiting;
}

module _ {D : Type 0} (state : D → DiskState) (images : D → ℕ → List ℕ → Type 0) (only_now : (disk : FuseDisk D) (image : List ℕ) → images (inner_of disk) (behind state disk).moment image → IsImage (behind state disk).pending image) where
  abbrev st : FuseDisk D → DiskState
  st f = behind state f

  abbrev im : FuseDisk D → ℕ → List ℕ → Type 0
  im f = images (inner_of f)

  abbrev at : ClientDisk → Option (List ClientTask) → Client
  at disk agenda = record { disk = disk; agenda = agenda }

  module _ (old : ClientNode D) (disk : ClientDisk) (tasks : List ClientTask) (t : IsClient state old (at disk (Some tasks))) (is_up : old.is_up ≡ true) (move : ClientMove)
      (plain : (shape : Shape) (s : Client) → step_with old shape s move ≡ linked_step old.is_linked old.number shape s move) where
    tasks_are : AreTasksOf (writes_of old.devs) tasks
    tasks_are = tasks_of_writes old.number (devs st old.devs) (writes_of old.devs) disk tasks t.at.1.follows

    -- an idle node that owes nothing
    pub sent_client : {S : Type 0} (x : S) (client : Journal (FuseDisk D)) → Looks st im old.devs client (Ok x) → (new : ClientNode D) (some : List Fact) (sends : List Send) → new.devs ≡ client → HasTold old new some sends → tasks ≡ [] → IsClient state new (at disk (Some []))
    sent_client x client k new some sends is h none =
        let s = stays state images only_now old disk (Some tasks) t is_up move (Ok x) (record old { devs = client }) (mid_devs old client) k.serves (λ no. cc) k.agenda in
        let w : IsWorking state (record old { devs = client }) disk [] = subst (λ (l : List ClientTask). IsWorking state (record old { devs = client }) disk l) none s.client.at.1 in
        let empty : writes_of client ≡ [] = k.agenda ∙ tasks_are.some none in
        record {
          at = (
            h.up ∙ is_up,
            record {
              declared = h.declared ∙ w.declared;
              up = rw is w.up;
              fresh = rw is w.fresh;
              ready = rw is w.ready;
              follows = rw (h.number, is) w.follows;
              rests = rw is w.rests;
              steady = rw h.waiting w.steady;
              tasks_steady = tt;
              owed = rw (is, empty) tt;
              fact_room = subst (λ (n : ℕ). HasRoom new.facts n) (sym (ap length h.no_facts)) h.fact_room;
              message_room = subst (λ (n : ℕ). HasRoom new.messages n) (sym (ap length h.no_messages)) h.message_room;
            },
          );
        }

    module _ {S T : Type 0} (said : S → Answer) (told : S → List Fact) (sent : S → List Send) (says : T → Answer) where
      pub sends_err : (e : CallFault) (client : Journal (FuseDisk D)) → Looks {T = S} st im old.devs client (Err e) → Sends {T = S} st old.devs old.is_linked old.number move said told sent (Err e)
          → (new : ClientNode D) → (IsErrOf {T = S} (Err e) call.Disk → Fell state images (record old { devs = client }) new) → ((IsErrOf {T = S} (Err e) call.Disk → ⊥) → new ≡ record old { devs = client })
          → Does {T = T} state images (at disk (Some tasks)) move says old new (Err e)
      sends_err e client k a new fell other =
          does_err state images only_now old disk (Some tasks) t is_up move says e (record old { devs = client }) (mid_devs old client) k.serves
          (λ refusal shape is of. ap (λ (y : ClientStep). y.answer) (plain shape (at disk (Some tasks))) ∙ a.answered disk tasks shape (stands_now state images old disk (Some tasks) t is_up) tasks_are of.plan refusal is) (λ last is. absurd (a.unspent last (as_err e (call.Spent last) is))) new fell other

      pub sends_short : (x : S) (client : Journal (FuseDisk D)) → Looks st im old.devs client (Ok x) → (new : ClientNode D) → new.devs ≡ client → IsMid old new → Does {T = T} state images (at disk (Some tasks)) move says old new (Err call.Memory)
      sends_short x client k new is m =
          let l : Looks st im old.devs new.devs (Ok x) = subst (λ (d : Journal (FuseDisk D)). Looks st im old.devs d (Ok x)) (sym is) k in
          does_short state images only_now old disk (Some tasks) t is_up move says x new.devs l.serves new refl l.agenda
          (stays state images only_now old disk (Some tasks) t is_up move (Ok x) new m l.serves (λ no. cc) l.agenda)

      pub sends_ok : (x : S) (value : T) (client : Journal (FuseDisk D)) → Looks st im old.devs client (Ok x) → Sends st old.devs old.is_linked old.number move said told sent (Ok x) → says value ≡ said x → (new : ClientNode D) → new.devs ≡ client → HasTold old new (told x) (sent x)
          → Does {T = T} state images (at disk (Some tasks)) move says old new (Ok value)
      sends_ok x value client k a same new is h =
          let now : Shape = shape_now state images only_now old in
          let d = a.done disk tasks now (stands_now state images old disk (Some tasks) t is_up) tasks_are in
          let is_step = plain now (at disk (Some tasks)) ∙ d.1 in
          let b : IsBehind state old new (sending disk (said x) (told x) (sent x)) = record {
            client = sent_client x client k new (told x) (sent x) is h d.0;
            told = h.told;
            sent = h.sent;
            same = record { number = h.number; linked = h.linked };
          } in
          does_ok state images only_now old disk (Some tasks) t is_up move says x value client k.serves new is
          (call_plans state images only_now old disk (Some tasks) t is_up new (ap (λ (d : Journal (FuseDisk D)). devs st d) is ∙ k.serves.same (λ no. cc)) (ap (λ (d : Journal (FuseDisk D)). writes_of d) is ∙ k.agenda)) now (record { plan = refl })
          (subst (λ (y : ClientStep). IsBehind state old new y) (sym is_step) b) (ap (λ (y : ClientStep). y.answer) is_step ∙ sym same)

  -- ---- whatever is to be done

  module _ (old : ClientNode D) (disk : ClientDisk) (move : ClientMove) (plain : (shape : Shape) (s : Client) → step_with old shape s move ≡ linked_step old.is_linked old.number shape s move) {S T : Type 0} (said : S → Answer) (told : S → List Fact) (sent : S → List Send) (says : T → Answer) (found : Result S CallFault) (client : Journal (FuseDisk D)) (k : Looks st im old.devs client found)
      (a : Sends st old.devs old.is_linked old.number move said told sent found) where
    pub by_err : (agenda : Option (List ClientTask)) → IsClient state old (at disk agenda) → old.is_up ≡ true → (e : CallFault) → Err e ≡ found
        → (new : ClientNode D) → (IsErrOf {T = S} (Err e) call.Disk → Fell state images (record old { devs = client }) new) → ((IsErrOf {T = S} (Err e) call.Disk → ⊥) → new ≡ record old { devs = client })
        → Does {T = T} state images (at disk agenda) move says old new (Err e)
    by_err None t is_up e same new fell other = let no = t.at.0 in absurd cc
    by_err (Some tasks) t is_up e same new fell other =
        sends_err old disk tasks t is_up move plain said told sent says e client (subst (λ (r : Result S CallFault). Looks st im old.devs client r) (sym same) k)
        (subst (λ (r : Result S CallFault). Sends st old.devs old.is_linked old.number move said told sent r) (sym same) a) new fell other

    pub by_short : (agenda : Option (List ClientTask)) → IsClient state old (at disk agenda) → old.is_up ≡ true → (x : S) → Ok x ≡ found → (new : ClientNode D) → new.devs ≡ client → IsMid old new → Does {T = T} state images (at disk agenda) move says old new (Err call.Memory)
    by_short None t is_up x same new is m = let no = t.at.0 in absurd cc
    by_short (Some tasks) t is_up x same new is m =
        sends_short old disk tasks t is_up move plain said told sent says x client (subst (λ (r : Result S CallFault). Looks st im old.devs client r) (sym same) k) new is m

    pub by_ok : (agenda : Option (List ClientTask)) → IsClient state old (at disk agenda) → old.is_up ≡ true → (x : S) (value : T) → Ok x ≡ found → says value ≡ said x → (new : ClientNode D) → new.devs ≡ client → HasTold old new (told x) (sent x)
        → Does {T = T} state images (at disk agenda) move says old new (Ok value)
    by_ok None t is_up x value same says_so new is h = let no = t.at.0 in absurd cc
    by_ok (Some tasks) t is_up x value same says_so new is h =
        sends_ok old disk tasks t is_up move plain said told sent says x value client (subst (λ (r : Result S CallFault). Looks st im old.devs client r) (sym same) k)
        (subst (λ (r : Result S CallFault). Sends st old.devs old.is_linked old.number move said told sent r) (sym same) a) says_so new is h
