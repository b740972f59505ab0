-- What a call promises that takes writes on, at each of its ends.
use Rattle.std.proofs.Common.{◌≡◌, inl, inr, ⊎_elim, ◌⊎◌, ℕ, ◌+◌, ◌<◌, ◌≤◌, List, [], ◌∷◌, Option, Some, None, Result, Ok, Err, refl, sym, ◌∙◌, ap, subst, arith}
use Rattle.std.specs.Prelude.{IsErrOf}
use Rattle.disk_trait.specs.Image.{IsImage}
use Rattle.disk_trait.specs.Calls.{DiskState}
use Rattle.row_store.specs.Data.{TableData, version_if, IsTableVersion}
use Rattle.store_commit.specs.declared.devs.TableDevs.{TableDevs}
use Rattle.store_commit.specs.declared.fault.CommitFault.{CommitFault}
use Rattle.store_commit.specs.declared.fault.CommitFault.TheVariants.{Busy, Spent, Disk, Down, Memory}
use Rattle.store_commit.specs.Devs.{Devs, Write}
use Rattle.store_commit.specs.Standing.{devs, writes_of, AreUp, IsOneDown, IsReady, DevsLeave}
use Rattle.store_commit.specs.TakesOn.{IsNotDisk, AllLeave, Waits, IsFree, TakesOn}
use Rattle.store_commit.proofs.Works.{all_same, rests_leave, up_or_down, still_chunk, still_row, still_log}
use Rattle.store_commit.proofs.Fusing.{keeps_then, keeps_same}

-- a table has one version
version_least : (held : TableData) (a b : ℕ) → IsTableVersion held a → IsTableVersion held b → a ≤ b
version_least held a b p q = ⊎_elim (λ zero_. omega arith) (λ row. q.greatest row.0 a row.1) p.attained

pub one_version : (held : TableData) (a b : ℕ) → IsTableVersion held a → IsTableVersion held b → a ≡ b
one_version held a b p q = omega (arith, version_least held a b p q, version_least held b a q p)

module _ {D T : Type 0} (state : D → DiskState) (images : D → ℕ → List ℕ → Type 0) (only_now : (disk : D) (image : List ℕ) → images disk (state disk).moment image → IsImage (state disk).pending image) (is_spent : Type 0) (writes : T → List Write) (old : TableDevs D) where
  -- where they aren't free
  pub isnt_free : (e : CommitFault) → (AreUp old → IsReady state old (writes_of old)) → IsFree state old (Err e) → TakesOn {T = T} state images is_spent writes old old (Err e)
  isnt_free e ready f = record {
    taken = tt;
    ready = tt;
    up = tt;
    refused = refl;
    same = λ n. refl;
    any_moment = λ up. rests_leave state images only_now old (writes_of old) (ready up);
    down = (λ is. f.down.0 (let same : e ≡ Down = cc in ap (λ (x : CommitFault). Err x) same), λ down. let is = f.down.1 down in let same : e ≡ Down = cc in ap (λ (x : CommitFault). Err x) same);
    busy = λ version. (λ is. (f.busy version).0 (let same : e ≡ Busy version = cc in ap (λ (x : CommitFault). Err x) same), λ is. let was = (f.busy version).1 is in let same : e ≡ Busy version = cc in ap (λ (x : CommitFault). Err x) same);
    spent = λ is. let same : e ≡ Spent = cc in absurd (⊎_elim (λ down. cc) (λ busy. cc) f.only);
    unchanged = λ not_disk not_memory not_spent. refl;
    disk = λ is. let same : e ≡ Disk = cc in absurd (⊎_elim (λ down. cc) (λ busy. cc) f.only);
    counted = λ n. refl;
    rests = λ is. let same : e ≡ Memory = cc in absurd (⊎_elim (λ down. cc) (λ busy. cc) f.only);
    leave = λ up.
        let r = ready up in
        record {
          chunks = still_chunk state images only_now old.chunks r.chunk_looked.vault r.chunk_sound;
          rows = still_row state images only_now old.rows r.row_looked.vault r.row_sound;
          log = still_log state images only_now old.log r.log_looked.vault r.log_sound;
        };
    fuse = keeps_same state old old refl refl refl;
  }

  module _ (up : AreUp old) (idle : writes_of old ≡ []) (rests : IsReady state old []) where
    pub none_left : {S : Type 0} (new : TableDevs D) (x : S) → Waits {T = S} state images old new (Ok x) → is_spent → TakesOn {T = T} state images is_spent writes old new (Err Spent)
    none_left new x w spent = record {
      taken = tt;
      ready = tt;
      up = tt;
      refused = w.agenda;
      same = λ n. w.same (λ is. cc);
      any_moment = λ up. all_same state images only_now old new w.chunks w.rows w.log;
      down = (λ is. cc, λ down. absurd (up_or_down old up down));
      busy = λ version. (λ is. cc, λ is. absurd (is.1 idle));
      spent = λ is. (up, idle, spent);
      unchanged = λ not_disk not_memory not_spent. absurd (not_spent refl);
      disk = λ is. cc;
      counted = λ n. w.counted (λ is. cc);
      rests = λ is. cc;
      leave = λ up. record { chunks = w.chunks; rows = w.rows; log = w.log };
      fuse = w.fuse;
    }

    module _ (new : TableDevs D) where
      pub wasnt_taken : {S : Type 0} (e : CommitFault) → Waits {T = S} state images old new (Err e) → TakesOn {T = T} state images is_spent writes old new (Err e)
      wasnt_taken e w = record {
        taken = tt;
        ready = tt;
        up = tt;
        refused = w.agenda;
        same = λ n. w.same (λ is. n (let same : e ≡ Disk = cc in ap (λ (x : CommitFault). Err x) same));
        any_moment = λ up. all_same state images only_now old new w.chunks w.rows w.log;
        down = (λ is. let same : e ≡ Down = cc in absurd (⊎_elim (λ x. cc) (λ x. cc) w.only), λ down. absurd (up_or_down old up down));
        busy = λ version. (λ is. let same : e ≡ Busy version = cc in absurd (⊎_elim (λ x. cc) (λ x. cc) w.only), λ is. absurd (is.1 idle));
        spent = λ is. let same : e ≡ Spent = cc in absurd (⊎_elim (λ x. cc) (λ x. cc) w.only);
        unchanged = λ not_disk not_memory none. absurd (⊎_elim not_disk not_memory w.only);
        disk = λ is. w.disk (let same : e ≡ Disk = cc in ap (λ (x : CommitFault). Err x) same);
        counted = λ n. w.counted (λ is. n (let same : e ≡ Disk = cc in ap (λ (x : CommitFault). Err x) same));
        rests = λ is. let same : e ≡ Memory = cc in w.rests (λ was. cc);
        leave = λ up. record { chunks = w.chunks; rows = w.rows; log = w.log };
        fuse = w.fuse;
      }

      pub was_taken : {S : Type 0} (mid : TableDevs D) (s : S) (x : T) → Waits {T = S} state images old mid (Ok s) → new.chunks ≡ mid.chunks → new.rows ≡ mid.rows → new.log ≡ mid.log → writes_of new ≡ writes x → IsReady state new (writes_of new)
          → TakesOn {T = T} state images is_spent writes old new (Ok x)
      was_taken mid s x w cs rs ls taken ready = record {
        taken = taken;
        ready = ready;
        up = let u = w.up (λ is. cc) in record { chunks = rw cs u.chunks; rows = rw rs u.rows; log = rw ls u.log };
        refused = tt;
        same = λ n. rw (cs, rs, ls) (w.same (λ is. cc));
        any_moment = λ up. all_same state images only_now old new (rw cs w.chunks) (rw rs w.rows) (rw ls w.log);
        down = (λ is. cc, λ down. absurd (up_or_down old up down));
        busy = λ version. (λ is. cc, λ is. absurd (is.1 idle));
        spent = λ is. cc;
        unchanged = tt;
        disk = λ is. cc;
        counted = λ n. rw (cs, rs, ls) (w.counted (λ is. cc));
        rests = λ is. cc;
        leave = λ up. record { chunks = rw cs w.chunks; rows = rw rs w.rows; log = rw ls w.log };
        fuse = keeps_then state old mid new w.fuse (keeps_same state mid new cs rs ls);
      }

-- where they are free, that they aren't is no answer
pub not_refused : {D : Type 0} (state : D → DiskState) (old : TableDevs D) (e : CommitFault) → AreUp old → writes_of old ≡ [] → IsFree state old (Err e) → ⊥
not_refused state old e up idle f =
    ⊎_elim (λ down. up_or_down old up (f.down.0 (ap (λ (x : CommitFault). Err x) down))) (λ busy. ((f.busy busy.0).0 (ap (λ (x : CommitFault). Err x) busy.1)).1 idle) f.only
