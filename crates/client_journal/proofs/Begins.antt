-- What a call promises that takes writes on, at each of its ends.
use Rattle.std.proofs.Common.{◌≡◌, ⊎_elim, ℕ, List, [], Ok, Err, refl, sym, ◌∙◌, ap, subst}
use Rattle.std.specs.Prelude.{IsErrOf}
use Rattle.disk_trait.specs.Image.{IsImage}
use Rattle.disk_trait.specs.Calls.{DiskState}
use Rattle.stab_base.specs.declared.limits.TheConstants.{NUMBER_MAX}
use Rattle.client_journal.specs.declared.devs.Journal.{Journal}
use Rattle.client_journal.specs.declared.fault.JournalFault.{JournalFault}
use Rattle.client_journal.specs.declared.fault.JournalFault.TheVariants.{Busy, Spent, Disk, Down}
use Rattle.client_journal.specs.Devs.{Write}
use Rattle.client_journal.specs.Standing.{writes_of, AreUp, IsReady}
use Rattle.client_journal.specs.TakesOn.{Waits, IsFree, TakesOn}
use Rattle.client_journal.proofs.Works.{all_same, rests_leave, up_or_down}
use Rattle.client_journal.proofs.Fusing.{keeps_then, keeps_same}

module _ {D T : Type 0} (state : D → DiskState) (images : D → ℕ → List ℕ → Type 0) (only_now : (disk : D) (image : List ℕ) → images disk (state disk).moment image → IsImage (state disk).pending image) (is_spent : Type 0) (writes : T → List Write) (old : Journal D) where
  -- where they aren't free
  pub isnt_free : (e : JournalFault) → (AreUp old → IsReady state old (writes_of old)) → IsFree state old (Err e) → TakesOn {T = T} state images is_spent writes old old (Err e)
  isnt_free e ready f = record {
    taken = tt;
    ready = tt;
    up = tt;
    refused = refl;
    same = λ n. refl;
    rests = λ n up none rests. (up, subst (λ (l : List Write). IsReady state old l) (sym none) rests);
    any_moment = λ up. rests_leave state images only_now old (writes_of old) (ready up);
    down = (λ is. f.down.0 (let same : e ≡ Down = cc in ap (λ (x : JournalFault). Err x) same), λ down. let is = f.down.1 down in let same : e ≡ Down = cc in ap (λ (x : JournalFault). Err x) same);
    busy = λ version. (λ is. (f.busy version).0 (let same : e ≡ Busy version = cc in ap (λ (x : JournalFault). Err x) same), λ is. let was = (f.busy version).1 is in let same : e ≡ Busy version = cc in ap (λ (x : JournalFault). Err x) same);
    spent = λ last. (
      λ is. let same : e ≡ Spent last = cc in absurd (⊎_elim (λ down. cc) (λ busy. cc) f.only),
      λ free. absurd (⊎_elim (λ down. up_or_down old free.0 (f.down.0 (ap (λ (x : JournalFault). Err x) down))) (λ busy. ((f.busy busy.0).0 (ap (λ (x : JournalFault). Err x) busy.1)).1 free.1) f.only),
    );
    unchanged = λ not_disk not_memory. refl;
    disk = λ is. let same : e ≡ Disk = cc in absurd (⊎_elim (λ down. cc) (λ busy. cc) f.only);
    counted = λ n. refl;
    fuse = keeps_same state old old refl refl refl;
  }

  module _ (up : AreUp old) (idle : writes_of old ≡ []) (rests : IsReady state old []) where
    pub none_left : is_spent → TakesOn {T = T} state images is_spent writes old old (Err (Spent NUMBER_MAX))
    none_left spent = record {
      taken = tt;
      ready = tt;
      up = tt;
      refused = refl;
      same = λ n. refl;
      rests = λ n up none rests. (up, subst (λ (l : List Write). IsReady state old l) (sym none) rests);
      any_moment = λ up. rests_leave state images only_now old [] rests;
      down = (λ is. cc, λ down. absurd (up_or_down old up down));
      busy = λ version. (λ is. cc, λ is. absurd (is.1 idle));
      spent = λ last. (λ is. (up, idle, spent, cc), λ is. let same = is.3 in cc);
      unchanged = λ not_disk not_memory. refl;
      disk = λ is. cc;
      counted = λ n. refl;
      fuse = keeps_same state old old refl refl refl;
    }

    module _ (not_spent : is_spent → ⊥) (new : Journal D) where
      pub wasnt_taken : {S : Type 0} (e : JournalFault) → Waits {T = S} state images old new (Err e) → TakesOn {T = T} state images is_spent writes old new (Err e)
      wasnt_taken {S = S} e w = record {
        taken = tt;
        ready = tt;
        up = tt;
        refused = w.agenda;
        same = λ n. w.same (λ is. n (let same : e ≡ Disk = cc in ap (λ (x : JournalFault). Err x) same));
        rests = λ n up none rests.
            let not_disk : IsErrOf {T = S} (Err e) Disk → ⊥ = λ is. n (let same : e ≡ Disk = cc in ap (λ (x : JournalFault). Err x) same) in
            (w.up not_disk, subst (λ (l : List Write). IsReady state new l) (sym (w.agenda ∙ none)) (w.rests not_disk));
        any_moment = λ up. all_same state images only_now old new w.chunks w.slots w.journal;
        down = (λ is. let same : e ≡ Down = cc in absurd (⊎_elim (λ x. cc) (λ x. cc) w.only), λ down. absurd (up_or_down old up down));
        busy = λ version. (λ is. let same : e ≡ Busy version = cc in absurd (⊎_elim (λ x. cc) (λ x. cc) w.only), λ is. absurd (is.1 idle));
        spent = λ last. (λ is. let same : e ≡ Spent last = cc in absurd (⊎_elim (λ x. cc) (λ x. cc) w.only), λ is. absurd (not_spent is.2));
        unchanged = λ not_disk not_memory. absurd (⊎_elim not_disk not_memory w.only);
        disk = λ is. w.disk (let same : e ≡ Disk = cc in ap (λ (x : JournalFault). Err x) same);
        counted = λ n. w.counted (λ is. n (let same : e ≡ Disk = cc in ap (λ (x : JournalFault). Err x) same));
        fuse = w.fuse;
      }

      pub was_taken : {S : Type 0} (mid : Journal D) (s : S) (x : T) → Waits {T = S} state images old mid (Ok s) → new.chunks ≡ mid.chunks → new.slots ≡ mid.slots → new.journal ≡ mid.journal → writes_of new ≡ writes x → IsReady state new (writes_of new)
          → TakesOn {T = T} state images is_spent writes old new (Ok x)
      was_taken mid s x w cs rs ls taken ready = record {
        taken = taken;
        ready = ready;
        up = let u = w.up (λ is. cc) in record { chunks = rw cs u.chunks; slots = rw rs u.slots; journal = rw ls u.journal };
        refused = tt;
        same = λ n. rw (cs, rs, ls) (w.same (λ is. cc));
        rests = λ n up none rests. (let u = w.up (λ is. cc) in record { chunks = rw cs u.chunks; slots = rw rs u.slots; journal = rw ls u.journal }, ready);
        any_moment = λ up. all_same state images only_now old new (rw cs w.chunks) (rw rs w.slots) (rw ls w.journal);
        down = (λ is. cc, λ down. absurd (up_or_down old up down));
        busy = λ version. (λ is. cc, λ is. absurd (is.1 idle));
        spent = λ last. (λ is. cc, λ is. absurd (not_spent is.2));
        unchanged = tt;
        disk = λ is. cc;
        counted = λ n. rw (cs, rs, ls) (w.counted (λ is. cc));
        fuse = keeps_then state old mid new w.fuse (keeps_same state mid new cs rs ls);
      }
