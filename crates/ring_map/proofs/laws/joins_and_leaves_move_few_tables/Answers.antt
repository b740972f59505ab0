use Rattle.std.proofs.Common.{◌≡◌, ℕ, Bool, true, false, ◌||◌, ◌&&◌, not, sym, ◌∙◌, refl, true≢false}
use Rattle.std.specs.Ordering.{nat_cmp, eq_by_cmp}
use Rattle.std.specs.Cmp.{nat_cmp_total}
use Rattle.std.specs.FinSet as set
use Rattle.std.proofs.lemmas.Map.Lookups.{exact_unsigned}
use Rattle.std.proofs.lemmas.Map.Views.{tells_apart}
use Rattle.ring_map.specs.Place.{position_of}
use Rattle.ring_map.proofs.Computed.{both_first}
use Rattle.ring_map.proofs.laws.joins_and_leaves_move_few_tables.Goals as goal

-- the same Store, or what holds of the others
same_or : (a b : ℕ) (rest : Bool) (P : Type 0) → (a ≡ b → P) → (rest ≡ true → P) → (eq_by_cmp nat_cmp a b || rest) ≡ true → P
same_or a b rest P same other =
    elim (eq_by_cmp nat_cmp a b) as (λ t. eq_by_cmp nat_cmp a b ≡ t → (t || rest) ≡ true → P) [
      | true ↦ λ e _. same (tells_apart exact_unsigned a b e)
      | false ↦ λ _ e. other e
    ] refl

other_kept : (a b : ℕ) (rest : Bool) (P : Type 0) → rest ≡ true → (a ≡ b → P) → ((not (eq_by_cmp nat_cmp a b) && rest) ≡ true → P) → P
other_kept a b rest P is same other =
    elim (eq_by_cmp nat_cmp a b) as (λ t. eq_by_cmp nat_cmp a b ≡ t → ((not t && rest) ≡ true → P) → P) [
      | true ↦ λ e _. same (tells_apart exact_unsigned a b e)
      | false ↦ λ _ f. f is
    ] refl other

kept : (b c : Bool) → c ≡ true → (b || c) ≡ true
kept true c e = refl
kept false c e = e

was : (b c : Bool) → (not b && c) ≡ true → c ≡ true
was true c e = absurd (true≢false (sym e))
was false c e = e

pub returns-clause-join : goal.returns-clause-join
returns-clause-join c = λ stores name store before after old new moved.
    same_or after store (set.contains stores after) (after ≡ store) (λ same. same)
    (λ there. absurd (moved (both_first (position_of name) after before
    (new.first before (set.contains-insert nat_cmp_total stores store before ∙ kept (eq_by_cmp nat_cmp before store) _ old.on_ring))
    (old.first after there))))
    (sym (set.contains-insert nat_cmp_total stores store after) ∙ new.on_ring)

pub returns-clause-leave : goal.returns-clause-leave
returns-clause-leave c = λ stores name store before after old new moved.
    other_kept before store (set.contains stores before) (before ≡ store) old.on_ring (λ same. same)
    (λ there. absurd (moved (both_first (position_of name) after before
    (new.first before (set.contains-remove nat_cmp_total stores store before ∙ there))
    (old.first after (was (eq_by_cmp nat_cmp after store) _ (sym (set.contains-remove nat_cmp_total stores store after) ∙ new.on_ring))))))
