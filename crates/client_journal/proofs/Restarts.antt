-- What a crash left is what is there after it.
use Rattle.std.proofs.Common.{◌≡◌, ◌≤◌, inl, ⊎_elim, ℕ, List, sym, ap, subst}
use Rattle.disk_trait.specs.Image.{IsImage}
use Rattle.disk_trait.specs.Calls.{DiskState}
use Rattle.vault.specs.File.{StandsFor}
use Rattle.vault.specs.Standing.{payloads, disk_of, IsRestarted}
use Rattle.vault.specs.Calls.{IsEither}
use Rattle.chunk_store.specs.Payload.{chunks_of}
use Rattle.chunk_store.specs.Standing as chunks
use Rattle.slot_store.specs.Data.{data_of}
use Rattle.slot_store.specs.Standing as slots
use Rattle.plan_log.specs.Journal.{journal_of}
use Rattle.plan_log.specs.Standing as journals
use Rattle.client_journal.specs.declared.devs.Journal.{Journal}
use Rattle.client_journal.specs.Devs.{ClientDevs}
use Rattle.client_journal.specs.Standing.{devs, AreSound, AreSynced, AreUp, DevsLeave}
use Rattle.client_journal.proofs.Moments.{devs_weaker}
use Rattle.client_journal.proofs.Fuses.{none_still_leaves}

module _ {D : Type 0} (state : D → DiskState) (images : D → ℕ → List ℕ → Type 0) (counts_now : (disk : D) (t : ℕ) (image : List ℕ) → t ≤ (state disk).moment → IsImage (state disk).pending image → images disk t image) where
  module _ (old new : Journal D) (ci : IsRestarted state (chunks.vault_of old.chunks) (chunks.vault_of new.chunks)) (ri : IsRestarted state (slots.vault_of old.slots) (slots.vault_of new.slots)) (li : IsRestarted state (journals.vault_of old.journal) (journals.vault_of new.journal)) where
    pub left_restarted : (start : Journal D) (a b : ClientDevs) → DevsLeave state images start old (IsEither a b) → IsEither a b (devs state new) × AreSound state new
    left_restarted start a b run =
        let c = (state (disk_of (chunks.vault_of new.chunks))).seen in
        let r = (state (disk_of (slots.vault_of new.slots))).seen in
        let l = (state (disk_of (journals.vault_of new.journal))).seen in
        let x = run.each c r l
        (counts_now (disk_of (chunks.vault_of old.chunks)) (state (disk_of (chunks.vault_of start.chunks))).moment c run.later.chunks ci)
        (counts_now (disk_of (slots.vault_of old.slots)) (state (disk_of (slots.vault_of start.slots))).moment r run.later.slots ri)
        (counts_now (disk_of (journals.vault_of old.journal)) (state (disk_of (journals.vault_of start.journal))).moment l run.later.journal li) in
        let cs : payloads state (chunks.vault_of new.chunks) ≡ x.0 = x.3.records in
        let rs : payloads state (slots.vault_of new.slots) ≡ x.1 = x.4.records in
        let ls : payloads state (journals.vault_of new.journal) ≡ x.2 = x.5.records in
        let cc_ = ap chunks_of cs in
        let rr_ = ap data_of rs in
        let ll_ = ap journal_of ls in
        let there : ClientDevs = record { chunks = chunks_of x.0; held = data_of x.1; journal = journal_of x.2 } in
        let same : devs state new ≡ there = cc in (
          subst (IsEither a b) (sym same) x.6,
          record {
            chunks = subst (StandsFor c) (sym cs) x.3;
            slots = subst (StandsFor r) (sym rs) x.4;
            journal = subst (StandsFor l) (sym ls) x.5;
          },
        )

    pub rests_restarted : ((disk : D) (image : List ℕ) → images disk (state disk).moment image → IsImage (state disk).pending image) → AreUp old → AreSynced state old → AreSound state old
        → (devs state new ≡ devs state old) × AreSound state new
    rests_restarted only_now up synced sound =
        let here : ClientDevs = devs state old in
        let run : DevsLeave state images old old (IsEither here here) = devs_weaker state images old old (λ d. d ≡ here) (IsEither here here) (none_still_leaves state images only_now old up synced sound) (λ d is. inl is) in
        let left = left_restarted old here here run in
        (⊎_elim (λ is. is) (λ is. is) left.0, left.1)
