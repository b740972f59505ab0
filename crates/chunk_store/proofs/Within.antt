-- No name of a map is above the limit.
use Rattle.std.proofs.Common.{◌≡◌, ◌≤◌, Bool, true, false, cond, List, ℕ, [], ◌∷◌, Option, Some, None, Result, Ok, Err, refl, sym, ◌∙◌, ap, subst}
use Rattle.std.specs.Prelude.{fold, nat_lt, IsSome, ◌==◌, ◌&&◌, length}
use Rattle.std.specs.declared.cmp.Ordering.{Ordering}
use Rattle.std.specs.declared.cmp.Ordering.TheVariants.{Less, Equal, Greater}
use Rattle.std.specs.Ordering.{is_eq, nat_cmp, ordering_then}
use Rattle.std.specs.Cmp.{IsTotalOrder, nat_cmp_total}
use Rattle.std.specs.BTreeMap.{is_at}
use Rattle.std.proofs.lemmas.Bool.{ltb-false}
use Rattle.std.proofs.lemmas.Cmp.{then_total, on_total}
use Rattle.std.proofs.lemmas.Map.Lookups.{exact_unsigned}
use Rattle.stab_base.specs.declared.chunk_name.ChunkName.{ChunkName}
use Rattle.stab_base.specs.declared.codec.TakeFault.{TakeFault}
use Rattle.stab_base.specs.declared.limits.TheConstants.{NUMBER_MAX}
use Rattle.spare_map.proofs.Changes.{lookup-changed}
use Rattle.chunk_store.specs.Payload.{name_cmp, head_at, change_for, change_of, step, chunks_of}
use Rattle.chunk_store.specs.Standing.{chunk_in}
use Rattle.chunk_store.proofs.Heads.{Head, Said, gone, nothing, put, said}

pub name_cmp_total : IsTotalOrder name_cmp
name_cmp_total = then_total (on_total (λ (name : ChunkName). name.version) nat_cmp_total) (on_total (λ (name : ChunkName). name.ordinal) nat_cmp_total)

same_version : (a b : ChunkName) → is_at (name_cmp a) b ≡ true → a.version ≡ b.version
same_version a b at = exact_unsigned a.version b.version (first (nat_cmp a.version b.version) (nat_cmp a.ordinal b.ordinal) at)
  where
    first : (o p : Ordering) → is_eq (ordering_then o p) ≡ true → o ≡ Equal
    first Less p h = absurd cc
    first Equal p h = refl
    first Greater p h = absurd cc

abbrev named : ChunkName → Said → ChunkName
named name None = name
named name (Some y) = y.0

for_within : (tag : ℕ) (name : ChunkName) (rest : List ℕ) (x : ChunkName × Option (List ℕ)) → change_for tag name rest ≡ Some x → x.0.version ≤ NUMBER_MAX
for_within tag name rest x e = past (nat_lt NUMBER_MAX name.version) (tag == 1) ((tag == 2) && (length rest == 0)) refl e
  where
    of_name : (b b' : Bool) → named name (cond b (put name rest) (cond b' (gone name) nothing)) ≡ name
    of_name true b' = refl
    of_name false true = refl
    of_name false false = refl

    past : (b b' b'' : Bool) → nat_lt NUMBER_MAX name.version ≡ b → cond b nothing (cond b' (put name rest) (cond b'' (gone name) nothing)) ≡ Some x → x.0.version ≤ NUMBER_MAX
    past true b' b'' lt e = absurd cc
    past false b' b'' lt e =
        let same : name ≡ x.0 = sym (of_name b' b'') ∙ ap (named name) e in
        subst (λ (n : ChunkName). n.version ≤ NUMBER_MAX) same (ltb-false NUMBER_MAX name.version lt)

change_within : (payload : List ℕ) (x : ChunkName × Option (List ℕ)) → change_of payload ≡ Some x → x.0.version ≤ NUMBER_MAX
unfolding change_of
change_within payload x e = found (head_at payload) e
  where
    found : (r : Result Head TakeFault) → said r ≡ Some x → x.0.version ≤ NUMBER_MAX
    found (Err fault) e = absurd cc
    found (Ok head) e = for_within head.0 head.1 head.2 x e

module _ (name : ChunkName) where
  IsWithin : List (ChunkName × List ℕ) → Type 0
  IsWithin map = IsSome (chunk_in map name) → name.version ≤ NUMBER_MAX

  stepped : (map : List (ChunkName × List ℕ)) (payload : List ℕ) → IsWithin map → IsWithin (step map (change_of payload))
  unfolding IsWithin
  stepped map payload within = cases (change_of payload) refl
    where
      cases : (change : Said) → change_of payload ≡ change → IsSome (chunk_in (step map change) name) → name.version ≤ NUMBER_MAX
      cases None is there = within there
      cases (Some x) is there = split (is_at (name_cmp x.0) name) refl (subst (λ (o : Option (List ℕ)). IsSome o) (lookup-changed name_cmp name_cmp_total map x.0 x.1 name) there)
        where
          split : (b : Bool) → is_at (name_cmp x.0) name ≡ b → IsSome (cond b x.1 (chunk_in map name)) → name.version ≤ NUMBER_MAX
          split true at there = subst (λ (n : ℕ). n ≤ NUMBER_MAX) (same_version x.0 name at) (change_within payload x is)
          split false at there = within there

  folded : (map : List (ChunkName × List ℕ)) (ps : List (List ℕ)) → IsWithin map → IsWithin (fold (λ (m : List (ChunkName × List ℕ)) (payload : List ℕ). step m (change_of payload)) map ps)
  folded map [] within = within
  folded map (p ∷ ps) within = folded (step map (change_of p)) ps (stepped map p within)

  pub chunk_within : (ps : List (List ℕ)) → IsSome (chunk_in (chunks_of ps) name) → name.version ≤ NUMBER_MAX
  unfolding chunks_of IsWithin
  chunk_within ps = folded [] ps (λ there. absurd cc)
