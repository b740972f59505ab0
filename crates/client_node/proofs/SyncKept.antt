-- What a client promises of a synchronization, once the rows that wait no longer are taken off.
use Rattle.std.proofs.Common.{◌≡◌, ℕ, ◌+◌, length, true, List, [], Option, Some, None, Result, Ok, Err, sym, ap, subst, ◌∙◌}
use Rattle.std.specs.Prelude.{OnOk}
use Rattle.disk_trait.specs.Image.{IsImage}
use Rattle.disk_trait.specs.Calls.{DiskState}
use Rattle.disk_trait.specs.Fuse.{behind, inner_of}
use Rattle.disk_trait.specs.declared.fuse.FuseDisk.{FuseDisk}
use Rattle.client_journal.specs.declared.devs.Journal.{Journal}
use Rattle.client_journal.specs.Standing.{devs, writes_of}
use Rattle.step_tables.specs.Facts.{Answer}
use Rattle.step_tables.specs.Facts as facts
use Rattle.step_tables.specs.ClientMoves.{ClientDisk, ClientTask, Client, Sync}
use Rattle.client_node.specs.declared.calls.sending.Synced.{Synced}
use Rattle.client_node.specs.declared.fault.CallFault.{CallFault}
use Rattle.client_node.specs.declared.fault.CallFault.TheVariants as call
use Rattle.client_node.specs.declared.node.ClientNode.{ClientNode}
use Rattle.client_node.specs.declared.planning.Planned.{Planned}
use Rattle.client_node.specs.declared.waiting.Waiting.{Waiting}
use Rattle.client_node.specs.Carrying.{Carries}
use Rattle.client_node.specs.Does.{Does}
use Rattle.client_node.specs.Looks.{Looks}
use Rattle.client_node.specs.Node.{IsClient}
use Rattle.client_node.specs.Syncing.{again_of, AreStale, SendsAgain}
use Rattle.client_node.specs.Waiting.{TakesOff}
use Rattle.client_node.proofs.Asked.{IsMid}
use Rattle.client_node.proofs.Forgotten.{IsLess, stale_less, less_more, sends_less, client_less, does_less}
use Rattle.client_node.proofs.Sent.{HasSent}
use Rattle.client_node.proofs.SyncDone.{by_short, by_alone, by_carried}

module _ {D : Type 0} (state : D → DiskState) (images : D → ℕ → List ℕ → Type 0) (only_now : (disk : FuseDisk D) (image : List ℕ) → images (inner_of disk) (behind state disk).moment image → IsImage (behind state disk).pending image) (old : ClientNode D) (table : ℕ) where
  abbrev st : FuseDisk D → DiskState
  st f = behind state f

  abbrev im : FuseDisk D → ℕ → List ℕ → Type 0
  im f = images (inner_of f)

  abbrev at : ClientDisk → Option (List ClientTask) → Client
  at disk agenda = record { disk = disk; agenda = agenda }

  abbrev said : ℕ → Answer
  said count = facts.Number count

  module _ (found : Result Synced CallFault) (client : Journal (FuseDisk D)) (k : Looks st im old.devs client found) (a : SendsAgain st old.devs old.is_linked old.number table old.waiting found) (i : OnOk found (writes_of old.devs ≡ [])) (is_up : old.is_up ≡ true)
      (x : Synced) (same : Ok x ≡ found) (settled : ClientNode D) (is : settled ≡ record old { devs = client }) (less : Waiting) (o : TakesOff table x.stale.outs.items settled.waiting.outs less.outs) (r : TakesOff table x.stale.ready.items settled.waiting.ready less.ready) (q : less.conflicts ≡ settled.waiting.conflicts) where
    abbrev kept : ClientNode D
    kept = record old { waiting = less }

    idle : writes_of old.devs ≡ []
    idle = subst (λ (r : Result Synced CallFault). OnOk r (writes_of old.devs ≡ [])) (sym same) i

    stale : AreStale (devs st old.devs) table x.stale
    stale = (subst (λ (r : Result Synced CallFault). SendsAgain st old.devs old.is_linked old.number table old.waiting r) (sym same) a).stale

    outs_off : TakesOff table x.stale.outs.items old.waiting.outs less.outs
    outs_off = subst (λ (n : ClientNode D). TakesOff table x.stale.outs.items n.waiting.outs less.outs) is o

    ready_off : TakesOff table x.stale.ready.items old.waiting.ready less.ready
    ready_off = subst (λ (n : ClientNode D). TakesOff table x.stale.ready.items n.waiting.ready less.ready) is r

    conflicts_kept : less.conflicts ≡ old.waiting.conflicts
    conflicts_kept = q ∙ ap (λ (n : ClientNode D). n.waiting.conflicts) is

    fewer : IsLess (devs st old.devs) table old.waiting less
    fewer = stale_less (devs st old.devs) table old.waiting less x.stale stale outs_off ready_off conflicts_kept

    kept_client : (disk : ClientDisk) (agenda : Option (List ClientTask)) → IsClient state old (at disk agenda) → IsClient state kept (at disk agenda)
    kept_client disk agenda = client_less state images only_now old is_up less idle table fewer (at disk agenda)

    kept_sends : SendsAgain st old.devs old.is_linked old.number table less found
    kept_sends = sends_less st old.devs old.is_linked old.number table old.waiting less (less_more (devs st old.devs) table old.waiting less fewer) found a

    kept_does : (disk : ClientDisk) (agenda : Option (List ClientTask)) (new : ClientNode D) (q : Result ℕ CallFault) → Does {T = ℕ} state images (at disk agenda) (Sync table) said kept new q → Does {T = ℕ} state images (at disk agenda) (Sync table) said old new q
    kept_does disk agenda new q = does_less state images old less (at disk agenda) (Sync table) said new q

    pub short_kept : (disk : ClientDisk) (agenda : Option (List ClientTask)) → IsClient state old (at disk agenda) → (new : ClientNode D) → new.devs ≡ client → IsMid kept new → Does {T = ℕ} state images (at disk agenda) (Sync table) said old new (Err call.Memory)
    short_kept disk agenda t new d m =
        kept_does disk agenda new (Err call.Memory) (by_short state images only_now kept table disk found client k kept_sends i agenda (kept_client disk agenda t) is_up x same new d m)

    pub alone_kept : (disk : ClientDisk) (agenda : Option (List ClientTask)) → IsClient state old (at disk agenda) → x.next ≡ None → (count : ℕ) → count ≡ length (again_of x) → (new : ClientNode D) → new.devs ≡ client → HasSent kept new (again_of x)
        → Does {T = ℕ} state images (at disk agenda) (Sync table) said old new (Ok count)
    alone_kept disk agenda t none count counts new d h =
        kept_does disk agenda new (Ok count) (by_alone state images only_now kept table disk found client k kept_sends i agenda (kept_client disk agenda t) is_up x same none count counts new d h)

    pub carried_kept : (disk : ClientDisk) (agenda : Option (List ClientTask)) → IsClient state old (at disk agenda) → (planned : Planned) → x.next ≡ Some planned → (new : ClientNode D) (result : Result (Unit {0}) CallFault)
        → Carries state images (record settled { waiting = less }) new planned (again_of x) result → (count : ℕ) → count ≡ length (again_of x) + 1 → (q : Result ℕ CallFault) → ((e : CallFault) → result ≡ Err e → q ≡ Err e) → (result ≡ Ok tt → q ≡ Ok count)
        → Does {T = ℕ} state images (at disk agenda) (Sync table) said old new q
    carried_kept disk agenda t planned next new result c count counts q err ok =
        kept_does disk agenda new q
        (by_carried state images only_now kept table disk found client k kept_sends i agenda (kept_client disk agenda t) is_up x same planned next (record settled { waiting = less }) new (ap (λ (n : ClientNode D). record n { waiting = less }) is) result c count counts q err ok)
