-- The greatest key that has a value.
use Rattle.std.proofs.Common.{◌≡◌, append_assoc, Bool, true, false, cond, List, [], ◌∷◌, ◌++◌, Option, Some, None, refl, sym, ◌∙◌, ap, subst}
use Rattle.std.specs.Prelude.{map, fold, IsSome}
use Rattle.std.specs.declared.cmp.Ordering.{Ordering}
use Rattle.std.specs.declared.cmp.Ordering.TheVariants.{Less, Equal, Greater}
use Rattle.std.specs.List.{AllByRecursion}
use Rattle.std.specs.Ordering.{is_eq, is_lt}
use Rattle.std.specs.Cmp.{IsTotalOrder, IsEquivalence, eq_by_cmp_equiv}
use Rattle.std.specs.BTreeMap.{is_at}
use Rattle.std.specs.Map.{lookup, keys_of}
use Rattle.std.specs.Ordering.{is_gt, ordering_reverse}
use Rattle.std.proofs.lemmas.Cmp.{tied_itself, alike_right, upto}
use Rattle.spare_map.specs.Late.{changed, HasValue, IsLastOf, IsLast}
use Rattle.spare_map.specs.declared.map.Change.{Change}
use Rattle.spare_map.proofs.Changes.{lookup-changed}

pub all_push : {X : Type 0} (P : X → Type 0) (xs : List X) (x : X) → AllByRecursion P xs → P x → AllByRecursion P (xs ++ x ∷ [])
all_push P [] x h p = (p, tt)
all_push P (y ∷ ys) x h p = (h.0, all_push P ys x h.1 p)

all_weaker : {X : Type 0} (P Q : X → Type 0) → ((x : X) → P x → Q x) → (xs : List X) → AllByRecursion P xs → AllByRecursion Q xs
all_weaker P Q to [] h = tt
all_weaker P Q to (x ∷ xs) h = (to x h.0, all_weaker P Q to xs h.1)

all_front : {X : Type 0} (P : X → Type 0) (xs ys : List X) → AllByRecursion P (xs ++ ys) → AllByRecursion P xs × AllByRecursion P ys
all_front P [] ys h = (tt, h)
all_front P (x ∷ xs) ys h = let t = all_front P xs ys h.1 in ((h.0, t.0), t.1)

equal_from : (r : Ordering) → is_eq r ≡ true → r ≡ Equal
equal_from Less h = absurd cc
equal_from Equal h = refl
equal_from Greater h = absurd cc

module _ {K : Type 0} (R : K → K → Ordering) (o : IsTotalOrder R) where
  laws : IsEquivalence (λ (x y : K). is_eq (R x y))
  laws = eq_by_cmp_equiv o

  turned : (a b : K) → is_gt (R a b) ≡ is_lt (R b a)
  turned a b = ap is_gt (o.antisymm a b) ∙ flip (R b a)
    where
      flip : (r : Ordering) → is_gt (ordering_reverse r) ≡ is_lt r
      flip Less = refl
      flip Equal = refl
      flip Greater = refl

  not_below : (a b c : K) → is_lt (R a b) ≡ false → is_lt (R b c) ≡ false → is_lt (R a c) ≡ false
  not_below a b c first second = sym (turned c a) ∙ upto o c b a (turned c b ∙ second) (turned b a ∙ first)

module _ {K V : Type 0} (R : K → K → Ordering) (o : IsTotalOrder R) where
  -- what each key below or beside a key says where a look-up finds something
  module _ (q : K) (P : K → Type 0) (G : Type 0) (hit : (k : K) → P k → is_at (R q) k ≡ true → G) where
    in_tree : (es : List (K × V)) → AllByRecursion P (keys_of es) → IsSome (lookup (is_at (R q)) es) → G
    in_tree [] h there = absurd cc
    in_tree (e ∷ es) h there = (elim (is_at (R q) e.0) as (λ (b : Bool). is_at (R q) e.0 ≡ b → IsSome (cond b (Some e.1) (lookup (is_at (R q)) es)) → G) [
      | true ↦ λ at there. hit e.0 h.0 at
      | false ↦ λ at there. in_tree es h.1 there
    ]) refl there

    in_late : (changes : List (Change K V)) (fs : List (K × V)) → AllByRecursion P (map (λ (c : Change K V). c.key) changes) → (IsSome (lookup (is_at (R q)) fs) → G)
        → IsSome (lookup (is_at (R q)) (fold (λ (entries : List (K × V)) (change : Change K V). changed R entries change.key change.value) fs changes)) → G
    in_late [] fs h before there = before there
    in_late (c ∷ cs) fs h before there = in_late cs (changed R fs c.key c.value) h.1 next there
      where
        next : IsSome (lookup (is_at (R q)) (changed R fs c.key c.value)) → G
        next there =
            (elim (is_at (R c.key) q) as (λ (b : Bool). is_at (R c.key) q ≡ b → IsSome (cond b c.value (lookup (is_at (R q)) fs)) → G) [
              | true ↦ λ at there. hit c.key h.0 ((laws R o).symm q c.key ∙ at)
              | false ↦ λ at there. before there
            ]) refl (subst (λ (v : Option V). IsSome v) (lookup-changed R o fs c.key c.value q) there)

  same_found : (q k : K) → is_at (R q) k ≡ true → (es : List (K × V)) → lookup (is_at (R q)) es ≡ lookup (is_at (R k)) es
  same_found q k at [] = refl
  same_found q k at (e ∷ es) =
      ap (λ (b : Bool). cond b (Some e.1) (lookup (is_at (R q)) es)) ((laws R o).congr q k e.0 at)
      ∙ ap (λ (v : Option V). cond (is_at (R k) e.0) (Some e.1) v) (same_found q k at es)

  valued : (q k : K) → is_at (R q) k ≡ true → (es : List (K × V)) → HasValue R es q → HasValue R es k
  valued q k at es there = subst (λ (v : Option V). IsSome v) (same_found q k at es) there

  -- ---- one key more

  module _ (es : List (K × V)) (keys : List K) (key : K) where
    pub without_value : (last : Option K) → (HasValue R es key → ⊥) → IsLastOf R es keys last → IsLastOf R es (keys ++ key ∷ []) last
    without_value None none h = all_push (λ (k : K). HasValue R es k → ⊥) keys key h none
    without_value (Some last) none h = (h.0, all_push (λ (k : K). HasValue R es k → is_lt (R last k) ≡ false) keys key h.1 (λ there. absurd (none there)))

    pub below_last : (last : K) → is_lt (R key last) ≡ true → IsLastOf R es keys (Some last) → IsLastOf R es (keys ++ key ∷ []) (Some last)
    below_last last lt h = (h.0, all_push (λ (k : K). HasValue R es k → is_lt (R last k) ≡ false) keys key h.1 (λ there. ap is_lt (o.antisymm last key) ∙ back (R key last) lt))
      where
        back : (r : Ordering) → is_lt r ≡ true → is_lt (ordering_reverse r) ≡ false
        back Less h = refl
        back Equal h = absurd cc
        back Greater h = absurd cc

    pub first_value : HasValue R es key → IsLastOf R es keys None → IsLastOf R es (keys ++ key ∷ []) (Some key)
    first_value there h = (
      there,
      all_push (λ (k : K). HasValue R es k → is_lt (R key k) ≡ false) keys key
          (all_weaker (λ (k : K). HasValue R es k → ⊥) (λ (k : K). HasValue R es k → is_lt (R key k) ≡ false) (λ k none some. absurd (none some)) keys h)
          (λ some. ap is_lt (tied_itself o key)),
    )

    pub above_last : (last : K) → HasValue R es key → is_lt (R key last) ≡ false → IsLastOf R es keys (Some last) → IsLastOf R es (keys ++ key ∷ []) (Some key)
    above_last last there not_lt h = (
      there,
      all_push (λ (k : K). HasValue R es k → is_lt (R key k) ≡ false) keys key
          (all_weaker (λ (k : K). HasValue R es k → is_lt (R last k) ≡ false) (λ (k : K). HasValue R es k → is_lt (R key k) ≡ false) (λ k below some. not_below R o key last k not_lt (below some)) keys h.1)
          (λ some. ap is_lt (tied_itself o key)),
    )

  -- ---- all keys

  abbrev made : List (K × V) → List (Change K V) → List (K × V)
  made fs changes = fold (λ (entries : List (K × V)) (change : Change K V). changed R entries change.key change.value) fs changes

  pub last_of_all : (fs : List (K × V)) (changes : List (Change K V)) (last : Option K) → IsLastOf R (made fs changes) (keys_of fs ++ map (λ (c : Change K V). c.key) changes) last
      → IsLast R (made fs changes) last
  last_of_all fs changes None h = λ q there.
      let P : K → Type 0 = λ k. HasValue R (made fs changes) k → ⊥ in
      let hit : (k : K) → P k → is_at (R q) k ≡ true → ⊥ = λ k none at. none (valued q k at (made fs changes) there) in
      let parts = all_front P (keys_of fs) (map (λ (c : Change K V). c.key) changes) h in
      in_late q P ⊥ hit changes fs parts.1 (in_tree q P ⊥ hit fs parts.0) there
  last_of_all fs changes (Some last) h = (
    h.0,
    λ q there.
        let P : K → Type 0 = λ k. HasValue R (made fs changes) k → is_lt (R last k) ≡ false in
        let G : Type 0 = is_lt (R last q) ≡ false in
        let hit : (k : K) → P k → is_at (R q) k ≡ true → G = λ k below at. ap is_lt (alike_right o q k last (equal_from (R q k) at)) ∙ below (valued q k at (made fs changes) there) in
        let parts = all_front P (keys_of fs) (map (λ (c : Change K V). c.key) changes) h.1 in
        in_late q P G hit changes fs parts.1 (in_tree q P G hit fs parts.0) there,
  )

pub keys_push : {K V : Type 0} (keys : List K) (seen : List (Change K V)) (change : Change K V)
    → (keys ++ map (λ (c : Change K V). c.key) seen) ++ change.key ∷ [] ≡ keys ++ map (λ (c : Change K V). c.key) (seen ++ change ∷ [])
keys_push {K} {V} keys seen change = append_assoc keys (map (λ (c : Change K V). c.key) seen) (change.key ∷ []) ∙ ap (λ (ks : List K). keys ++ ks) (more seen)
  where
    more : (cs : List (Change K V)) → map (λ (c : Change K V). c.key) cs ++ change.key ∷ [] ≡ map (λ (c : Change K V). c.key) (cs ++ change ∷ [])
    more [] = refl
    more (c ∷ cs) = ap (λ (ks : List K). c.key ∷ ks) (more cs)
