-- Devices that are to take a plan on.
use Rattle.std.proofs.Common.{◌≡◌, ◌⊎◌, inl, inr, ℕ, ◌<◌, List, [], Result, Ok, Err, refl, sym, ◌∙◌, ap, subst}
use Rattle.std.specs.Prelude.{IsErrOf}
use Rattle.disk_trait.specs.Calls.{DiskState}
use Rattle.stab_base.specs.declared.limits.TheConstants.{NUMBER_MAX}
use Rattle.client_journal.specs.declared.devs.Journal.{Journal}
use Rattle.client_journal.specs.declared.fault.JournalFault.{JournalFault}
use Rattle.client_journal.specs.declared.fault.JournalFault.TheVariants as journal
use Rattle.client_journal.specs.Devs.{Write}
use Rattle.client_journal.specs.Standing.{writes_of, AreUp, IsReady}
use Rattle.client_journal.specs.TakesOn.{TakesOn}
use Rattle.client_journal.specs.Asking.{AllLeave}
use Rattle.client_journal.proofs.Works.{up_or_down}
use Rattle.client_node.specs.declared.fault.CallFault.{CallFault}
use Rattle.client_node.specs.declared.fault.CallFault.TheVariants as call
use Rattle.client_node.specs.Fault.{fault_of}
use Rattle.client_node.specs.Answers.{IsFault}
use Rattle.client_node.specs.Looks.{IsNotDisk, Serves}

module _ {D N : Type 0} (state : D → DiskState) (images : D → ℕ → List ℕ → Type 0) (is_spent : Type 0) (writes : N → List Write) (old new : Journal D) (up : AreUp old) (idle : writes_of old ≡ []) (ready : IsReady state old (writes_of old)) (leave : AllLeave state images old new) where
  rests : IsReady state old []
  rests = subst (λ (l : List Write). IsReady state old l) idle ready

  pub serves_begun : {T : Type 0} (n : N) (x : T) → TakesOn state images is_spent writes old new (Ok n) → Serves state images old new (Ok x)
  serves_begun n x k = record {
    same = λ _. k.same (λ is. cc);
    up = λ _. k.up;
    ready = λ _. k.ready;
    refused = tt;
    counted = λ _. k.counted (λ is. cc);
    disk = λ is. absurd cc;
    leave = leave;
    fuse = k.fuse;
  }

  -- why it isn't taken on
  pub which : (e : JournalFault) → TakesOn {T = N} state images is_spent writes old new (Err e) → (e ≡ journal.Disk) ⊎ ((e ≡ journal.Memory) ⊎ (is_spent × (e ≡ journal.Spent NUMBER_MAX)))
  which (journal.Busy plan) k = absurd (((k.busy plan).0 refl).1 idle)
  which (journal.Spent last) k = let s = (k.spent last).0 refl in inr (inr (s.2, ap journal.Spent s.3))
  which journal.Disk k = inl refl
  which journal.Down k = absurd (up_or_down old up (k.down.0 refl))
  which journal.Memory k = inr (inl refl)

  pub refused_begin : (e : JournalFault) → TakesOn {T = N} state images is_spent writes old new (Err e) → ((fault_of e ≡ call.Spent NUMBER_MAX) × is_spent) ⊎ IsFault (fault_of e)
  refused_begin e k = pick (which e k)
    where
      pick : (e ≡ journal.Disk) ⊎ ((e ≡ journal.Memory) ⊎ (is_spent × (e ≡ journal.Spent NUMBER_MAX))) → ((fault_of e ≡ call.Spent NUMBER_MAX) × is_spent) ⊎ IsFault (fault_of e)
      pick (inl is) = inr (inl (ap fault_of is))
      pick (inr (inl is)) = inr (inr (ap fault_of is))
      pick (inr (inr is)) = inl (ap fault_of is.1, is.0)

  pub serves_refused : {T : Type 0} (e : JournalFault) → TakesOn {T = N} state images is_spent writes old new (Err e) → Serves {T = T} state images old new (Err (fault_of e))
  serves_refused {T} e k = record {
    same = λ n. k.same (not_it n);
    up = λ n. (k.rests (not_it n) up idle rests).0;
    ready = λ n. (k.rests (not_it n) up idle rests).1;
    refused = k.refused;
    counted = λ n. k.counted (not_it n);
    disk = λ is. (k.disk (was_disk (which e k) is)).0;
    leave = leave;
    fuse = k.fuse;
  }
    where
      not_it : IsNotDisk {T = T} (Err (fault_of e)) → IsErrOf {T = N} (Err e) journal.Disk → ⊥
      not_it n is = n (let same : e ≡ journal.Disk = cc in ap (λ (x : JournalFault). Err (fault_of x)) same)

      was_disk : (e ≡ journal.Disk) ⊎ ((e ≡ journal.Memory) ⊎ (is_spent × (e ≡ journal.Spent NUMBER_MAX))) → IsErrOf {T = T} (Err (fault_of e)) call.Disk → IsErrOf {T = N} (Err e) journal.Disk
      was_disk (inl is) d = ap (λ (x : JournalFault). Err x) is
      was_disk (inr (inl is)) d = let no : call.Memory ≡ call.Disk = let same : fault_of e ≡ call.Disk = cc in sym (ap fault_of is) ∙ same in absurd cc
      was_disk (inr (inr is)) d = let no : call.Spent NUMBER_MAX ≡ call.Disk = let same : fault_of e ≡ call.Disk = cc in sym (ap fault_of is.1) ∙ same in absurd cc
