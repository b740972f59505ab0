-- What is promised of every moment of an agenda goes on from call to call.
use Rattle.std.proofs.Common.{◌≡◌, inl, inr, ⊎_elim, ◌⊎◌, ℕ, List, [], ◌∷◌, drop, Result, Ok, Err, refl, sym, ◌∙◌, ap, subst}
use Rattle.std.specs.Prelude.{OnOk}
use Rattle.disk_trait.specs.Image.{IsImage}
use Rattle.disk_trait.specs.Calls.{DiskState}
use Rattle.stab_base.specs.declared.step.Step.{Step}
use Rattle.store_commit.specs.declared.devs.TableDevs.{TableDevs}
use Rattle.store_commit.specs.declared.fault.CommitFault.{CommitFault}
use Rattle.store_commit.specs.Devs.{Devs, Write, changed_by, IsBeforeOrAfter}
use Rattle.store_commit.specs.Agenda.{Runs}
use Rattle.store_commit.specs.Standing.{devs, writes_of, IsReady, DevsLeave, RowsLeave, Works, WorksOn, GoesOn}
use Rattle.store_commit.specs.TakesOn.{AllLeave}
use Rattle.vault.proofs.Uppers.{runs_then, runs_weaker}
use Rattle.row_store.specs.Data.{TableData, data_of}
use Rattle.chunk_store.specs.Payload.{chunks_of}
use Rattle.chunk_store.specs.Standing as chunks
use Rattle.row_store.specs.Standing as rows
use Rattle.status_log.specs.Payload.{pending_of}
use Rattle.status_log.specs.Standing as logs
use Rattle.store_commit.proofs.Works.{rests_leave, still_row}

pub runs_now : (R : List Write → Devs → Type 0) (d : Devs) (ws : List Write) → Runs R d ws → R ws d
runs_now R d [] r = r
runs_now R d (w ∷ ws) r = r.0

module _ {D : Type 0} (state : D → DiskState) (images : D → ℕ → List ℕ → Type 0) where
  pub devs_weaker : (old new : TableDevs D) (P Q : Devs → Type 0) → DevsLeave state images old new P → ((d : Devs) → P d → Q d) → DevsLeave state images old new Q
  devs_weaker old new P Q run to = record {
    each = λ c r l ic ir il.
        let x = run.each c r l ic ir il in
        (x.0, x.1, x.2, x.3, x.4, x.5, to _ x.6);
    later = run.later;
  }

  -- of the rows alone: one run and then another, less that is promised, and while nothing is done
  pub rows_then : (old mid new : TableDevs D) (P Q S : TableData → Type 0) → RowsLeave state images old mid P → RowsLeave state images mid new Q → ((h : TableData) → P h → S h) → ((h : TableData) → Q h → S h) → RowsLeave state images old new S
  rows_then old mid new P Q S first second from_first from_second =
      runs_then state images (rows.vault_of old.rows) (rows.vault_of mid.rows) (rows.vault_of new.rows) (λ l. P (data_of l)) (λ l. Q (data_of l)) (λ l. S (data_of l)) first second (λ l p. from_first (data_of l) p) (λ l q. from_second (data_of l) q)

  pub rows_weaker : (old new : TableDevs D) (P Q : TableData → Type 0) → RowsLeave state images old new P → ((h : TableData) → P h → Q h) → RowsLeave state images old new Q
  rows_weaker old new P Q run to = runs_weaker state images (rows.vault_of old.rows) (rows.vault_of new.rows) (λ l. P (data_of l)) (λ l. Q (data_of l)) run (λ l p. to (data_of l) p)

  -- of each device: one run and then another, both of which leave what it held
  pub all_then : (old mid new : TableDevs D) → devs state mid ≡ devs state old → AllLeave state images old mid → AllLeave state images mid new → AllLeave state images old new
  all_then old mid new same l m = record {
    chunks = runs_then state images (chunks.vault_of old.chunks) (chunks.vault_of mid.chunks) (chunks.vault_of new.chunks) (λ x. chunks_of x ≡ chunks.chunks state old.chunks) (λ x. chunks_of x ≡ chunks.chunks state mid.chunks) (λ x. chunks_of x ≡ chunks.chunks state old.chunks)
        l.chunks m.chunks (λ x is. is) (λ x is. is ∙ ap (λ (d : Devs). d.chunks) same);
    rows = runs_then state images (rows.vault_of old.rows) (rows.vault_of mid.rows) (rows.vault_of new.rows) (λ x. data_of x ≡ rows.held state old.rows) (λ x. data_of x ≡ rows.held state mid.rows) (λ x. data_of x ≡ rows.held state old.rows)
        l.rows m.rows (λ x is. is) (λ x is. is ∙ ap (λ (d : Devs). d.held) same);
    log = runs_then state images (logs.vault_of old.log) (logs.vault_of mid.log) (logs.vault_of new.log) (λ x. pending_of x ≡ logs.entry_open state old.log) (λ x. pending_of x ≡ logs.entry_open state mid.log) (λ x. pending_of x ≡ logs.entry_open state old.log)
        l.log m.log (λ x is. is) (λ x is. is ∙ ap (λ (d : Devs). d.pending) same);
  }

  pub rows_rest : ((disk : D) (image : List ℕ) → images disk (state disk).moment image → IsImage (state disk).pending image) → (old : TableDevs D) (ws : List Write) → IsReady state old ws → RowsLeave state images old old (λ held. held ≡ (devs state old).held)
  rows_rest only_now old ws r = still_row state images only_now old.rows r.row_looked.vault r.row_sound

  module _ (only_now : (disk : D) (image : List ℕ) → images disk (state disk).moment image → IsImage (state disk).pending image) (R : List Write → Devs → Type 0) (old new : TableDevs D) where
    worked : (w : Write) (ws : List Write) (result : Result Step CommitFault) → writes_of old ≡ w ∷ ws → writes_of new ≡ ws → Works state images w ws old new result → Runs R (devs state old) (w ∷ ws)
        → GoesOn state images R old new result
    worked w ws result is rest k runs = record {
      runs = on result k.devs_are;
      any_moment = devs_weaker old new (IsBeforeOrAfter (devs state old) w) (λ d. R (writes_of old) d ⊎ R (drop 1 (writes_of old)) d) k.any_moment
          (λ d either. subst (λ (l : List Write). R l d ⊎ R (drop 1 l) d) (sym is)
          (⊎_elim
          (λ before. inl (subst (R (w ∷ ws)) (sym before) runs.0))
          (λ after. inr (subst (R ws) (sym after) (runs_now R (changed_by (devs state old) w) ws runs.1)))
          either));
    }
      where
        on : (r : Result Step CommitFault) → OnOk r (devs state new ≡ changed_by (devs state old) w) → OnOk r (Runs R (devs state new) (writes_of new))
        on (Ok step) same = subst (λ (l : List Write). Runs R (devs state new) l) (sym rest) (subst (λ (d : Devs). Runs R d ws) (sym same) runs.1)
        on (Err e) same = tt

    idle : (result : Result Step CommitFault) → writes_of old ≡ [] → IsReady state old [] → Runs R (devs state old) [] → GoesOn state images R old old result
    idle result is ready runs = record {
      runs = on result;
      any_moment = devs_weaker old old (λ d. d ≡ devs state old) (λ d. R (writes_of old) d ⊎ R (drop 1 (writes_of old)) d) (rests_leave state images only_now old [] ready)
          (λ d same. inl (subst (λ (l : List Write). R l d) (sym is) (subst (R []) (sym same) runs)));
    }
      where
        on : (r : Result Step CommitFault) → OnOk r (Runs R (devs state old) (writes_of old))
        on (Ok step) = subst (λ (l : List Write). Runs R (devs state old) l) (sym is) runs
        on (Err e) = tt

    pub goes_on : (result : Result Step CommitFault) (ws : List Write) → writes_of old ≡ ws → IsReady state old ws → WorksOn state images old new result ws → Runs R (devs state old) ws
        → GoesOn state images R old new result
    goes_on result [] is ready k runs = subst (λ (t : TableDevs D). GoesOn state images R old t result) (sym k.1) (idle result is ready runs)
    goes_on result (w ∷ ws) is ready k runs = worked w ws result is k.1 k.0 runs
