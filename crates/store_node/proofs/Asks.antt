-- Calls that only read, and then one that takes writes on.
use Rattle.std.proofs.Common.{◌≡◌, inl, inr, ⊎_elim, ◌⊎◌, ℕ, List, [], Result, Ok, Err, refl, sym, ◌∙◌, ap, subst, arith}
use Rattle.std.specs.Prelude.{IsErrOf, OnErr, IfErr}
use Rattle.disk_trait.specs.Calls.{DiskState}
use Rattle.vault.proofs.Uppers.{runs_then}
use Rattle.chunk_store.specs.Payload.{chunks_of}
use Rattle.chunk_store.specs.Standing as chunks
use Rattle.row_store.specs.Data.{data_of}
use Rattle.row_store.specs.Standing as rows
use Rattle.status_log.specs.Payload.{pending_of}
use Rattle.status_log.specs.Standing as logs
use Rattle.store_commit.specs.declared.devs.TableDevs.{TableDevs}
use Rattle.store_commit.specs.declared.fault.CommitFault.{CommitFault}
use Rattle.store_commit.specs.declared.fault.CommitFault.TheVariants.{Busy, Spent, Disk, Down, Memory}
use Rattle.store_commit.specs.Devs.{Devs, Write}
use Rattle.store_commit.specs.TakesOn.{AllLeave, TakesOn}
use Rattle.store_commit.specs.Standing.{devs, writes_of, AreUp, IsReady}
use Rattle.store_commit.proofs.Works.{up_or_down}
use Rattle.store_commit.proofs.Fusing.{keeps_then}
use Rattle.store_node.specs.Reading.{Only}
use Rattle.store_node.specs.Taking.{Serves}
use Rattle.store_node.proofs.Onlys.{ready_stays, ready_is_sound}
use Rattle.store_node.proofs.Making.{ready_up}

pub on_err : {T : Type 0} (r : Result T CommitFault) (P : Type 0) → P → OnErr r P
on_err (Ok x) P p = tt
on_err (Err e) P p = p

err_same : {T : Type 0} (e f : CommitFault) → e ≡ f → IsErrOf {T = T} (Err e) f
err_same e f same = ap (λ (x : CommitFault). Err x) same

module _ {D : Type 0} (state : D → DiskState) (images : D → ℕ → List ℕ → Type 0) where
  leave_then : (old mid new : TableDevs D) → devs state mid ≡ devs state old → AllLeave state images old mid → AllLeave state images mid new → AllLeave state images old new
  leave_then old mid new same l m = record {
    chunks = runs_then state images (chunks.vault_of old.chunks) (chunks.vault_of mid.chunks) (chunks.vault_of new.chunks) (λ l. chunks_of l ≡ chunks.chunks state old.chunks) (λ l. chunks_of l ≡ chunks.chunks state mid.chunks) (λ l. chunks_of l ≡ chunks.chunks state old.chunks)
        l.chunks m.chunks (λ l is. is) (λ l is. is ∙ ap (λ (d : Devs). d.chunks) same);
    rows = runs_then state images (rows.vault_of old.rows) (rows.vault_of mid.rows) (rows.vault_of new.rows) (λ l. data_of l ≡ rows.held state old.rows) (λ l. data_of l ≡ rows.held state mid.rows) (λ l. data_of l ≡ rows.held state old.rows)
        l.rows m.rows (λ l is. is) (λ l is. is ∙ ap (λ (d : Devs). d.held) same);
    log = runs_then state images (logs.vault_of old.log) (logs.vault_of mid.log) (logs.vault_of new.log) (λ l. pending_of l ≡ logs.entry_open state old.log) (λ l. pending_of l ≡ logs.entry_open state mid.log) (λ l. pending_of l ≡ logs.entry_open state old.log)
        l.log m.log (λ l is. is) (λ l is. is ∙ ap (λ (d : Devs). d.pending) same);
  }

  -- ---- what a node asks for

  abbrev OnlySuch : {T : Type 0} → Result T CommitFault → Type 0
  OnlySuch r = IfErr r (λ e. (e ≡ Disk) ⊎ ((e ≡ Spent) ⊎ (e ≡ Memory)))

  pub serves_only : {T : Type 0} (old new : TableDevs D) (r : Result T CommitFault) → IsReady state old (writes_of old) → Only state images old new r → Serves state images old new r
  serves_only {T} old new r ready o = record {
    same = o.asks.same;
    ready = λ n. subst (λ (l : List Write). IsReady state new l) (sym o.asks.agenda) (ready_stays state images old new (writes_of old) (o.asks.stay n) ready);
    refused = on_err r (writes_of new ≡ writes_of old) o.asks.agenda;
    scanned = o.scanned;
    counted = o.asks.counted;
    disk = λ is. (o.asks.disk is).0;
    only = such r o.asks.only (λ is. up_or_down old up (o.asks.down.0 is));
    leave = o.asks.leave up (ready_is_sound state images old (writes_of old) ready);
    fuse = o.asks.fuse;
  }
    where
      up : AreUp old
      up = ready_up state images old (writes_of old) ready

      such : (r : Result T CommitFault) → IfErr r (λ e. (e ≡ Disk) ⊎ ((e ≡ Down) ⊎ (e ≡ Memory))) → (IsErrOf r Down → ⊥) → OnlySuch r
      such (Ok x) only not_down = tt
      such (Err e) only not_down = ⊎_elim (λ is. inl is) (λ more. ⊎_elim (λ is. absurd (not_down (err_same e Down is))) (λ is. inr (inr is)) more) only

  -- what was read, and then a refusal that isn't a disk's
  pub serves_refused : {T S : Type 0} (old new : TableDevs D) (x : S) (e : CommitFault) → IsReady state old (writes_of old) → Only {T = S} state images old new (Ok x) → (e ≡ Spent) ⊎ (e ≡ Memory) → Serves {T = T} state images old new (Err e)
  serves_refused {T} {S} old new x e ready o which =
      let k = serves_only old new (Ok x) ready o in
      record {
        same = λ n. k.same (λ is. cc);
        ready = λ n. k.ready (λ is. cc);
        refused = o.asks.agenda;
        scanned = k.scanned;
        counted = λ n. k.counted (λ is. cc);
        disk = λ is. let same : e ≡ Disk = cc in absurd (⊎_elim (λ was. cc) (λ was. cc) which);
        only = inr which;
        leave = k.leave;
        fuse = k.fuse;
      }

  pub serves_then : {T S : Type 0} (old mid new : TableDevs D) (x : S) (r : Result T CommitFault) → IsReady state old (writes_of old) → Only {T = S} state images old mid (Ok x) → Serves state images mid new r → Serves state images old new r
  serves_then {T} {S} old mid new x r ready a b =
      let k = serves_only old mid (Ok x) ready a in
      let counted = k.counted (λ is. cc) in
      record {
        same = λ n. b.same n ∙ k.same (λ is. cc);
        ready = b.ready;
        refused = behind r b.refused;
        scanned = b.scanned ∙ k.scanned;
        counted = λ n. b.counted n ∙ counted;
        disk = λ is. let less = b.disk is in omega (arith, less, counted);
        only = b.only;
        leave = leave_then old mid new (k.same (λ is. cc)) k.leave b.leave;
        fuse = keeps_then state old mid new k.fuse b.fuse;
      }
    where
      behind : (r : Result T CommitFault) → OnErr r (writes_of new ≡ writes_of mid) → OnErr r (writes_of new ≡ writes_of old)
      behind (Ok y) is = tt
      behind (Err e) is = is ∙ a.asks.agenda

  -- writes are taken on, or they aren't
  pub serves_takes : {T : Type 0} (old new : TableDevs D) (is_spent : Type 0) (writes : T → List Write) (r : Result T CommitFault) → IsReady state old [] → writes_of old ≡ [] → TakesOn state images is_spent writes old new r
      → new.scanned ≡ old.scanned → (IsErrOf r Spent → new ≡ old) → Serves state images old new r
  serves_takes {T} old new is_spent writes r ready idle k scanned spent = record {
    same = k.same;
    ready = is_ready r k spent;
    refused = k.refused;
    scanned = scanned;
    counted = k.counted;
    disk = λ is. (k.disk is).0;
    only = such r k;
    leave = k.leave up;
    fuse = k.fuse;
  }
    where
      up : AreUp old
      up = ready_up state images old [] ready

      not_busy : (version : ℕ) (r : Result T CommitFault) → TakesOn state images is_spent writes old new r → IsErrOf r (Busy version) → ⊥
      not_busy version r k is = ((k.busy version).0 is).1 idle

      not_down : (r : Result T CommitFault) → TakesOn state images is_spent writes old new r → IsErrOf r Down → ⊥
      not_down r k is = up_or_down old up (k.down.0 is)

      at_rest : writes_of new ≡ writes_of old → IsReady state new [] → IsReady state new (writes_of new)
      at_rest same r = subst (λ (l : List Write). IsReady state new l) (sym (same ∙ idle)) r

      is_ready : (r : Result T CommitFault) → TakesOn state images is_spent writes old new r → (IsErrOf r Spent → new ≡ old) → (IsErrOf r Disk → ⊥) → IsReady state new (writes_of new)
      is_ready (Ok x) k spent n = k.ready
      is_ready (Err (Busy version)) k spent n = absurd (not_busy version (Err (Busy version)) k refl)
      is_ready (Err Spent) k spent n = at_rest k.refused (subst (λ (t : TableDevs D). IsReady state t []) (sym (spent refl)) ready)
      is_ready (Err Disk) k spent n = absurd (n refl)
      is_ready (Err Down) k spent n = absurd (not_down (Err Down) k refl)
      is_ready (Err Memory) k spent n = at_rest k.refused (k.rests refl)

      such : (r : Result T CommitFault) → TakesOn state images is_spent writes old new r → OnlySuch r
      such (Ok x) k = tt
      such (Err (Busy version)) k = absurd (not_busy version (Err (Busy version)) k refl)
      such (Err Spent) k = inr (inl refl)
      such (Err Disk) k = inl refl
      such (Err Down) k = absurd (not_down (Err Down) k refl)
      such (Err Memory) k = inr (inr refl)
