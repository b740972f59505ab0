-- The values of a map's entries, one by one.
use Rattle.std.proofs.Common.{◌≡◌, Bool, true, false, not, cond, List, [], ◌∷◌, Option, Some, None, refl, ◌∙◌, ap, subst}
use Rattle.std.specs.Prelude.{option_map}
use Rattle.std.specs.declared.cmp.Ordering.{Ordering}
use Rattle.std.specs.declared.cmp.Ordering.TheVariants.{Less, Equal, Greater}
use Rattle.std.specs.Ordering.{match_ordering}
use Rattle.std.specs.BTreeMap.{insert_entry, is_at}
use Rattle.std.specs.Map.{lookup, keys_of}
use Rattle.spare_map.specs.Late.{without, changed}
use Rattle.spare_map.specs.Values.{AllValues, with_values}

module _ {K V : Type 0} where
  pub values_weaker : (P Q : V → Type 0) → ((v : V) → P v → Q v) → (es : List (K × V)) → AllValues P es → AllValues Q es
  values_weaker P Q to [] h = tt
  values_weaker P Q to (e ∷ es) h = (to e.1 h.0, values_weaker P Q to es h.1)

  pub value_found : (P : V → Type 0) (test : K → Bool) (es : List (K × V)) (v : V) → AllValues P es → lookup test es ≡ Some v → P v
  value_found P test [] v h is = absurd cc
  value_found P test (e ∷ es) v h is = here (test e.0) (lookup test es) h.0 (value_found P test es v h.1) is
    where
      here : (b : Bool) (rest : Option V) → P e.1 → (rest ≡ Some v → P v) → cond b (Some e.1) rest ≡ Some v → P v
      here true rest p later is = let same : e.1 ≡ v = cc in subst P same p
      here false rest p later is = later is

  module _ (R : K → K → Ordering) where
    values_insert : (P : V → Type 0) (es : List (K × V)) (k : K) (v : V) → AllValues P es → P v → AllValues P (insert_entry R es k v)
    values_insert P [] k v h p = (p, tt)
    values_insert P (e ∷ es) k v h p = elim (R k e.0) as (λ (r : Ordering). AllValues P (match_ordering r ((k, v) ∷ e ∷ es) ((e.0, v) ∷ es) (e ∷ insert_entry R es k v))) [
      | Less ↦ (p, h)
      | Equal ↦ (p, h.1)
      | Greater ↦ (h.0, values_insert P es k v h.1 p)
    ]

    values_without : (P : V → Type 0) (es : List (K × V)) (k : K) → AllValues P es → AllValues P (without R es k)
    values_without P [] k h = tt
    values_without P (e ∷ es) k h = elim (is_at (R k) e.0) as (λ (b : Bool). AllValues P (cond (not b) (e ∷ without R es k) (without R es k))) [
      | true ↦ values_without P es k h.1
      | false ↦ (h.0, values_without P es k h.1)
    ]

    pub values_changed : (P : V → Type 0) (es : List (K × V)) (k : K) (w : Option V) → AllValues P es → ((v : V) → w ≡ Some v → P v) → AllValues P (changed R es k w)
    values_changed P es k None h p = values_without P es k h
    values_changed P es k (Some v) h p = values_insert P es k v h (p v refl)

module _ {K V W : Type 0} where
  -- two functions that say the same of each value
  pub map_alike : (P : V → Type 0) (f g : V → W) → ((v : V) → P v → f v ≡ g v) → (es : List (K × V)) → AllValues P es → with_values f es ≡ with_values g es
  map_alike P f g same [] h = refl
  map_alike P f g same (e ∷ es) h =
      ap (λ (w : W). (e.0, w) ∷ with_values f es) (same e.1 h.0) ∙ ap (λ (l : List (K × W)). (e.0, g e.1) ∷ l) (map_alike P f g same es h.1)

  pub lookup_with : (g : V → W) (test : K → Bool) (es : List (K × V)) → lookup test (with_values g es) ≡ option_map g (lookup test es)
  lookup_with g test [] = refl
  lookup_with g test (e ∷ es) = elim (test e.0) as (λ (b : Bool). cond b (Some (g e.1)) (lookup test (with_values g es)) ≡ option_map g (cond b (Some e.1) (lookup test es))) [
    | true ↦ refl
    | false ↦ lookup_with g test es
  ]

  pub keys_with : (g : V → W) (es : List (K × V)) → keys_of (with_values g es) ≡ keys_of es
  keys_with g [] = refl
  keys_with g (e ∷ es) = ap (λ (l : List K). e.0 ∷ l) (keys_with g es)

  module _ (R : K → K → Ordering) (g : V → W) where
    map_insert : (es : List (K × V)) (k : K) (v : V) → with_values g (insert_entry R es k v) ≡ insert_entry R (with_values g es) k (g v)
    map_insert [] k v = refl
    map_insert (e ∷ es) k v =
        let rest = with_values g es in
        elim (R k e.0) as (λ (r : Ordering). with_values g (match_ordering r ((k, v) ∷ e ∷ es) ((e.0, v) ∷ es) (e ∷ insert_entry R es k v)) ≡ match_ordering r ((k, g v) ∷ (e.0, g e.1) ∷ rest) ((e.0, g v) ∷ rest) ((e.0, g e.1) ∷ insert_entry R rest k (g v))) [
          | Less ↦ refl
          | Equal ↦ refl
          | Greater ↦ ap (λ (l : List (K × W)). (e.0, g e.1) ∷ l) (map_insert es k v)
        ]

    map_without : (es : List (K × V)) (k : K) → with_values g (without R es k) ≡ without R (with_values g es) k
    map_without [] k = refl
    map_without (e ∷ es) k =
        let rest = with_values g es in
        elim (is_at (R k) e.0) as (λ (b : Bool). with_values g (cond (not b) (e ∷ without R es k) (without R es k)) ≡ cond (not b) ((e.0, g e.1) ∷ without R rest k) (without R rest k)) [
          | true ↦ map_without es k
          | false ↦ ap (λ (l : List (K × W)). (e.0, g e.1) ∷ l) (map_without es k)
        ]

    -- a change, seen through a function of the values
    pub map_changed : (es : List (K × V)) (k : K) (w : Option V) → with_values g (changed R es k w) ≡ changed R (with_values g es) k (option_map g w)
    map_changed es k None = map_without es k
    map_changed es k (Some v) = map_insert es k v
