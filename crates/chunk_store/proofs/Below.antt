-- The names of a version below a count are those from its first on that are below the count's.
use Rattle.std.proofs.Common.{◌≡◌, inl, inr, ⊎_elim, ◌⊎◌, ◌<◌, ◌≤◌, ℕ, Bool, true, false, not, List, refl, sym, ◌∙◌, ap, arith}
use Rattle.std.specs.Prelude.{◌==◌, ◌&&◌, nat_lt, filter}
use Rattle.std.specs.declared.cmp.Ordering.{Ordering}
use Rattle.std.specs.declared.cmp.Ordering.TheVariants.{Less, Equal, Greater}
use Rattle.std.specs.Ordering.{is_le, nat_cmp, ordering_then}
use Rattle.std.specs.Cmp.{nat_cmp_is}
use Rattle.std.proofs.Math.Path.{fun_ext}
use Rattle.std.proofs.lemmas.Bool.{cases_eq, cases_lt}
use Rattle.std.proofs.lemmas.Bool.Decides.{nat_tests}
use Rattle.stab_base.specs.declared.chunk_name.ChunkName.{ChunkName}
use Rattle.chunk_store.specs.Payload.{name_cmp}

abbrev between : Ordering → Ordering → Ordering → Bool
between version from end = is_le (ordering_then version from) && not (is_le (ordering_then version end))

from_zero : (o : ℕ) → is_le (nat_cmp 0 o) ≡ true
from_zero o = elim (cases_eq 0 o) [
  | inl same ↦ ap is_le (sym (nat_cmp_is 0 o Equal same))
  | inr other ↦ ap is_le (sym (nat_cmp_is 0 o Less (omega arith)))
]

below_end : (c o : ℕ) → not (is_le (nat_cmp c o)) ≡ nat_lt o c
below_end c o = elim (cases_lt o c) [
  | inl lt ↦ ap (λ (r : Ordering). not (is_le r)) (sym (nat_cmp_is c o Greater lt)) ∙ (let t : nat_lt o c ≡ true = grind (arith, nat_tests) in sym t)
  | inr le ↦
      let f : nat_lt o c ≡ false = grind (arith, nat_tests) in
      elim (cases_eq c o) [
        | inl same ↦ ap (λ (r : Ordering). not (is_le r)) (sym (nat_cmp_is c o Equal same)) ∙ sym f
        | inr other ↦ ap (λ (r : Ordering). not (is_le r)) (sym (nat_cmp_is c o Less (omega arith))) ∙ sym f
      ]
]

one_test : (v c m o : ℕ) → between (nat_cmp v m) (nat_cmp 0 o) (nat_cmp c o) ≡ (m == v) && nat_lt o c
one_test v c m o = elim (cases_eq m v) [
  | inl same ↦
      let t : (m == v) ≡ true = grind (arith, nat_tests) in
      ap (λ (r : Ordering). between r (nat_cmp 0 o) (nat_cmp c o)) (sym (nat_cmp_is v m Equal (sym same)))
      ∙ (ap (λ (b : Bool). b && not (is_le (nat_cmp c o))) (from_zero o) ∙ (below_end c o ∙ ap (λ (b : Bool). b && nat_lt o c) (sym t)))
  | inr other ↦
      let f : (m == v) ≡ false = grind (arith, nat_tests) in
      elim (cases_lt v m) [
        | inl lt ↦ ap (λ (r : Ordering). between r (nat_cmp 0 o) (nat_cmp c o)) (sym (nat_cmp_is v m Less lt)) ∙ ap (λ (b : Bool). b && nat_lt o c) (sym f)
        | inr le ↦ ap (λ (r : Ordering). between r (nat_cmp 0 o) (nat_cmp c o)) (sym (nat_cmp_is v m Greater (omega arith))) ∙ ap (λ (b : Bool). b && nat_lt o c) (sym f)
      ]
]

abbrev is_below : ℕ → ℕ → ChunkName → Bool
is_below version count name = (name.version == version) && nat_lt name.ordinal count

abbrev is_between : ChunkName → ChunkName → ChunkName → Bool
is_between from end name = is_le (name_cmp from name) && not (is_le (name_cmp end name))

pub names_below_are : (version count : ℕ) (names : List ChunkName)
    → filter (is_between (record { version = version; ordinal = 0 }) (record { version = version; ordinal = count })) names ≡ filter (is_below version count) names
names_below_are version count names =
    let each : (name : ChunkName) → is_between (record { version = version; ordinal = 0 }) (record { version = version; ordinal = count }) name ≡ is_below version count name = λ name. one_test version count name.version name.ordinal in
    ap (λ (p : ChunkName → Bool). filter p names) (fun_ext each)
