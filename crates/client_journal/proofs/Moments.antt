-- What is promised of every moment of an agenda goes on from call to call.
use Rattle.std.proofs.Common.{◌≡◌, inl, inr, ⊎_elim, ◌⊎◌, ℕ, List, [], ◌∷◌, drop, Result, Ok, Err, sym, subst}
use Rattle.std.specs.Prelude.{OnOk}
use Rattle.disk_trait.specs.Image.{IsImage}
use Rattle.disk_trait.specs.Calls.{DiskState}
use Rattle.stab_base.specs.declared.step.Step.{Step}
use Rattle.client_journal.specs.declared.devs.Journal.{Journal}
use Rattle.client_journal.specs.declared.fault.JournalFault.{JournalFault}
use Rattle.client_journal.specs.Devs.{ClientDevs, Write, changed_by, IsBeforeOrAfter}
use Rattle.client_journal.specs.Agenda.{Runs}
use Rattle.client_journal.specs.Standing.{devs, writes_of, IsReady, DevsLeave, Works, WorksOn, GoesOn}
use Rattle.client_journal.proofs.Works.{rests_leave}

pub runs_now : (R : List Write → ClientDevs → Type 0) (d : ClientDevs) (ws : List Write) → Runs R d ws → R ws d
runs_now R d [] r = r
runs_now R d (w ∷ ws) r = r.0

module _ {D : Type 0} (state : D → DiskState) (images : D → ℕ → List ℕ → Type 0) where
  pub devs_weaker : (old new : Journal D) (P Q : ClientDevs → Type 0) → DevsLeave state images old new P → ((d : ClientDevs) → P d → Q d) → DevsLeave state images old new Q
  devs_weaker old new P Q run to = record {
    each = λ c r l ic ir il.
        let x = run.each c r l ic ir il in
        (x.0, x.1, x.2, x.3, x.4, x.5, to _ x.6);
    later = run.later;
  }

  module _ (only_now : (disk : D) (image : List ℕ) → images disk (state disk).moment image → IsImage (state disk).pending image) (R : List Write → ClientDevs → Type 0) (old new : Journal D) where
    worked : (w : Write) (ws : List Write) (result : Result Step JournalFault) → writes_of old ≡ w ∷ ws → writes_of new ≡ ws → Works state images w ws old new result → Runs R (devs state old) (w ∷ ws)
        → GoesOn state images R old new result
    worked w ws result is rest k runs = record {
      runs = on result k.devs_are;
      any_moment = devs_weaker old new (IsBeforeOrAfter (devs state old) w) (λ d. R (writes_of old) d ⊎ R (drop 1 (writes_of old)) d) k.any_moment
          (λ d either. subst (λ (l : List Write). R l d ⊎ R (drop 1 l) d) (sym is)
          (⊎_elim
          (λ before. inl (subst (R (w ∷ ws)) (sym before) runs.0))
          (λ after. inr (subst (R ws) (sym after) (runs_now R (changed_by (devs state old) w) ws runs.1)))
          either));
    }
      where
        on : (r : Result Step JournalFault) → OnOk r (devs state new ≡ changed_by (devs state old) w) → OnOk r (Runs R (devs state new) (writes_of new))
        on (Ok step) same = subst (λ (l : List Write). Runs R (devs state new) l) (sym rest) (subst (λ (d : ClientDevs). Runs R d ws) (sym same) runs.1)
        on (Err e) same = tt

    idle : (result : Result Step JournalFault) → writes_of old ≡ [] → IsReady state old [] → Runs R (devs state old) [] → GoesOn state images R old old result
    idle result is ready runs = record {
      runs = on result;
      any_moment = devs_weaker old old (λ d. d ≡ devs state old) (λ d. R (writes_of old) d ⊎ R (drop 1 (writes_of old)) d) (rests_leave state images only_now old [] ready)
          (λ d same. inl (subst (λ (l : List Write). R l d) (sym is) (subst (R []) (sym same) runs)));
    }
      where
        on : (r : Result Step JournalFault) → OnOk r (Runs R (devs state old) (writes_of old))
        on (Ok step) = subst (λ (l : List Write). Runs R (devs state old) l) (sym is) runs
        on (Err e) = tt

    pub goes_on : (result : Result Step JournalFault) (ws : List Write) → writes_of old ≡ ws → IsReady state old ws → WorksOn state images old new result ws → Runs R (devs state old) ws
        → GoesOn state images R old new result
    goes_on result [] is ready k runs = subst (λ (t : Journal D). GoesOn state images R old t result) (sym k.1) (idle result is ready runs)
    goes_on result (w ∷ ws) is ready k runs = worked w ws result is k.1 k.0 runs
