-- Sets of keys seen by their bytes, and a key that is taken out again.
use Rattle.std.proofs.Common.{◌≡◌, Bool, true, false, cond, List, [], ◌∷◌, map, refl, ap, ◌∙◌, ◌||◌, true≢false, not}
use Rattle.std.specs.Bool.{OnFalse}
use Rattle.std.specs.Ordering.{match_ordering}
use Rattle.std.specs.declared.cmp.Ordering.{Ordering}
use Rattle.std.specs.declared.cmp.Ordering.TheVariants.{Less, Equal, Greater}
use Rattle.std.specs.List.{list_any}
use Rattle.std.specs.Set.{remove_key}
use Rattle.std.specs.BTreeMap.{is_at}
use Rattle.std.specs.BTreeSet.{insert_key}

pub list_any-map : {X Y : Type 0} (p : Y → Bool) (h : X → Y) (xs : List X) → list_any p (map h xs) ≡ list_any (λ x. p (h x)) xs
list_any-map p h [] = refl
list_any-map p h (x ∷ xs) = ap (λ b. p (h x) || b) (list_any-map p h xs)

or_false : (a b : Bool) → (a || b) ≡ false → (a ≡ false) × (b ≡ false)
or_false true b e = absurd (true≢false e)
or_false false b e = (refl, e)

module _ {X Y : Type 0} (cmp : Y → Y → Ordering) (h : X → Y) where
  pub insert_key-map : (xs : List X) (k : X) → map h (insert_key (λ x y. cmp (h x) (h y)) xs k) ≡ insert_key cmp (map h xs) (h k)
  insert_key-map [] k = refl
  insert_key-map (x ∷ xs) k = elim (cmp (h k) (h x)) as (λ (o : Ordering). map h (match_ordering o (k ∷ x ∷ xs) (x ∷ xs) (x ∷ insert_key (λ a b. cmp (h a) (h b)) xs k)) ≡ match_ordering o (h k ∷ h x ∷ map h xs) (h x ∷ map h xs) (h x ∷ insert_key cmp (map h xs) (h k))) [
    | Less ↦ refl
    | Equal ↦ refl
    | Greater ↦ ap (λ ys. h x ∷ ys) (insert_key-map xs k)
  ]

absent : (b : Bool) → true ≡ not b → b ≡ false
absent true e = absurd (true≢false e)
absent false e = refl

module _ {K : Type 0} (cmp : K → K → Ordering) (k : K) (same : cmp k k ≡ Equal) where
  kept : (x : K) (xs : List K) (o : Ordering) → cmp k x ≡ o → is_at (cmp k) x ≡ false → remove_key (is_at (cmp k)) (insert_key cmp xs k) ≡ xs
      → remove_key (is_at (cmp k)) (match_ordering o (k ∷ x ∷ xs) (x ∷ xs) (x ∷ insert_key cmp xs k)) ≡ x ∷ xs
  kept x xs Less is away more = rw same refl
  kept x xs Equal is away more = absurd (true≢false (rw is at away))
  kept x xs Greater is away more = rw away (ap (λ ys. x ∷ ys) more)

  pub remove_key-insert_key : (xs : List K) → list_any (is_at (cmp k)) xs ≡ false → remove_key (is_at (cmp k)) (insert_key cmp xs k) ≡ xs
  remove_key-insert_key [] absent = rw same refl
  remove_key-insert_key (x ∷ xs) absent =
      let away = or_false (is_at (cmp k) x) (list_any (is_at (cmp k)) xs) absent in
      kept x xs (cmp k x) refl away.0 (remove_key-insert_key xs away.1)

pub remove_key-map : {X Y : Type 0} (p : Y → Bool) (h : X → Y) (xs : List X) → map h (remove_key (λ x. p (h x)) xs) ≡ remove_key p (map h xs)
remove_key-map p h [] = refl
remove_key-map p h (x ∷ xs) = elim (p (h x)) as (λ (b : Bool). map h (cond b xs (x ∷ remove_key (λ y. p (h y)) xs)) ≡ cond b (map h xs) (h x ∷ remove_key p (map h xs))) [
  | true ↦ refl
  | false ↦ ap (λ ys. h x ∷ ys) (remove_key-map p h xs)
]

pub put_back : {K : Type 0} (cmp : K → K → Ordering) (k : K) (same : cmp k k ≡ Equal) (xs ys zs : List K) (added : Bool) → added ≡ not (list_any (is_at (cmp k)) xs) → ys ≡ insert_key cmp xs k
    → OnFalse added (ys ≡ xs) → zs ≡ cond added (remove_key (is_at (cmp k)) ys) ys → zs ≡ xs
put_back cmp k same xs ys zs true new put kept after = after ∙ (rw put (remove_key-insert_key cmp k same xs (absent (list_any (is_at (cmp k)) xs) new)))
put_back cmp k same xs ys zs false new put kept after = after ∙ kept
