-- Look-ups after changes, and changes made later.
use Rattle.std.proofs.Common.{◌≡◌, Bool, true, false, not, cond, List, [], ◌∷◌, Option, Some, None, refl, sym, ◌∙◌, ap, true≢false}
use Rattle.std.specs.Prelude.{fold, filter, unwrap_or, if◌then◌else◌}
use Rattle.std.specs.declared.cmp.Ordering.{Ordering}
use Rattle.std.specs.declared.cmp.Ordering.TheVariants.{Less, Equal, Greater}
use Rattle.std.specs.Ordering.{is_eq, match_ordering, eq_by_cmp}
use Rattle.std.specs.Cmp.{IsTotalOrder, IsEquivalence, eq_by_cmp_equiv}
use Rattle.std.specs.BTreeMap.{insert_entry, is_at}
use Rattle.std.specs.Map.{lookup, keys_of, remove_entry}
use Rattle.std.specs.List.{IsDistinct}
use Rattle.std.proofs.lemmas.Map.{NonePasses}
use Rattle.std.proofs.lemmas.Map.Entries.{none_past_head, lookup-filter-keys}
use Rattle.spare_map.specs.Late.{without, changed}
use Rattle.spare_map.specs.declared.map.Change.{Change}

-- a filter that keeps each entry
filter_none : {K X : Type 0} (test : K → Bool) (es : List (K × X)) → NonePasses test es → filter (λ e. not (test e.0)) es ≡ es
filter_none test [] h = refl
filter_none {K} {X} test (e ∷ es) h =
    ap (λ (b : Bool). cond (not b) (e ∷ filter (λ (e' : K × X). not (test e'.0)) es) (filter (λ (e' : K × X). not (test e'.0)) es)) h.0
    ∙ ap (λ (l : List (K × X)). e ∷ l) (filter_none test es h.1)

pub keys-filter : {K X : Type 0} (p : K → Bool) (es : List (K × X)) → keys_of (filter (λ (e : K × X). p e.0) es) ≡ filter p (keys_of es)
keys-filter p [] = refl
keys-filter {K} {X} p (e ∷ es) = both (p e.0) e.0 e (filter (λ (e' : K × X). p e'.0) es) (filter p (keys_of es)) refl (keys-filter p es)
  where
    both : (b : Bool) (k : K) (e : K × X) (xs : List (K × X)) (ks : List K) → e.0 ≡ k → keys_of xs ≡ ks → keys_of (cond b (e ∷ xs) xs) ≡ cond b (k ∷ ks) ks
    both true k e xs ks here same = cc
    both false k e xs ks here same = same

twice : {X : Type 0} (b : Bool) (x y z : X) → cond b x z ≡ cond b x (cond b y z)
twice true x y z = refl
twice false x y z = refl

turned : {X : Type 0} (a b : Bool) (x y z : X) → (a ≡ true → b ≡ false) → cond b y (cond a x z) ≡ cond a x (cond b y z)
turned true true x y z h = absurd (true≢false (h refl))
turned true false x y z h = refl
turned false b x y z h = refl

other : {X : Type 0} (b : Bool) (x z : X) → cond (not b) z x ≡ cond b x z
other true x z = refl
other false x z = refl

laws : {K : Type 0} {R : K → K → Ordering} → IsTotalOrder R → IsEquivalence (eq_by_cmp R)
laws o = eq_by_cmp_equiv o

module _ {K V : Type 0} (R : K → K → Ordering) (o : IsTotalOrder R) where
  -- taking the first entry of a key out is taking each out
  pub removed : (es : List (K × V)) (k : K) → IsDistinct (eq_by_cmp R) (keys_of es) → remove_entry (is_at (R k)) es ≡ without R es k
  unfolding IsDistinct
  removed [] k apart = refl
  removed (e ∷ es) k apart = (elim (is_at (R k) e.0) as (λ (b : Bool). is_at (R k) e.0 ≡ b → cond b es (e ∷ remove_entry (is_at (R k)) es) ≡ cond (not b) (e ∷ without R es k) (without R es k)) [
    | true ↦ λ h. sym (filter_none (is_at (R k)) es (none_past_head (laws o) k e es apart h))
    | false ↦ λ h. ap (λ (l : List (K × V)). e ∷ l) (removed es k apart.1)
  ]) refl

  lookup-insert : (es : List (K × V)) (k : K) (v : V) (q : K) → lookup (is_at (R q)) (insert_entry R es k v) ≡ cond (is_at (R k) q) (Some v) (lookup (is_at (R q)) es)
  lookup-insert [] k v q = ap (λ (b : Bool). cond b (Some v) None) ((laws o).symm q k)
  lookup-insert (e ∷ es) k v q =
      let rest = lookup (is_at (R q)) es in
      (elim (R k e.0) as (λ (r : Ordering). R k e.0 ≡ r → lookup (is_at (R q)) (match_ordering r ((k, v) ∷ e ∷ es) ((e.0, v) ∷ es) (e ∷ insert_entry R es k v)) ≡ cond (is_at (R k) q) (Some v) (cond (is_at (R q) e.0) (Some e.1) rest)) [
        | Less ↦ λ h. ap (λ (b : Bool). cond b (Some v) (cond (is_at (R q) e.0) (Some e.1) rest)) ((laws o).symm q k)
        | Equal ↦ λ h.
            let same : is_at (R k) q ≡ is_at (R q) e.0 = (laws o).congr k e.0 q (ap is_eq h) ∙ (laws o).symm e.0 q in
            twice (is_at (R q) e.0) (Some v) (Some e.1) rest ∙ ap (λ (b : Bool). cond b (Some v) (cond (is_at (R q) e.0) (Some e.1) rest)) (sym same)
        | Greater ↦ λ h.
            let apart : is_at (R k) q ≡ true → is_at (R q) e.0 ≡ false = λ at. sym ((laws o).congr k q e.0 at) ∙ ap is_eq h in
            ap (λ (l : Option V). cond (is_at (R q) e.0) (Some e.1) l) (lookup-insert es k v q) ∙ turned (is_at (R k) q) (is_at (R q) e.0) (Some v) (Some e.1) rest apart
      ]) refl

  lookup-without : (es : List (K × V)) (k q : K) → lookup (is_at (R q)) (without R es k) ≡ cond (is_at (R k) q) None (lookup (is_at (R q)) es)
  lookup-without es k q =
      lookup-filter-keys (is_at (R q)) (λ (x : K). not (is_at (R k) x)) (not (is_at (R k) q)) (λ x at. ap not ((laws o).symm k x ∙ (sym ((laws o).congr q x k at) ∙ (laws o).symm q k))) es
      ∙ other (is_at (R k) q) None (lookup (is_at (R q)) es)

  pub lookup-changed : (es : List (K × V)) (k : K) (w : Option V) (q : K) → lookup (is_at (R q)) (changed R es k w) ≡ cond (is_at (R k) q) w (lookup (is_at (R q)) es)
  lookup-changed es k (Some v) q = lookup-insert es k v q
  lookup-changed es k None q = lookup-without es k q

  picked : (b : Bool) (value : Option V) (found : Option (Option V)) (early late : Option V) → late ≡ unwrap_or found early → cond b value late ≡ unwrap_or (if b then Some value else found) early
  picked true value found early late h = refl
  picked false value found early late h = h

  -- a look-up after all changes gives what the last change of the key says, or what was there before
  pub lookup_late : (q : K) (es fs : List (K × V)) (found : Option (Option V)) (changes : List (Change K V)) → lookup (is_at (R q)) fs ≡ unwrap_or found (lookup (is_at (R q)) es)
      → lookup (is_at (R q)) (fold (λ (entries : List (K × V)) (change : Change K V). changed R entries change.key change.value) fs changes)
      ≡ unwrap_or (fold (λ (late : Option (Option V)) (change : Change K V). if is_at (R q) change.key then Some change.value else late) found changes) (lookup (is_at (R q)) es)
  lookup_late q es fs found [] h = h
  lookup_late q es fs found (c ∷ cs) h =
      lookup_late q es (changed R fs c.key c.value) (if is_at (R q) c.key then Some c.value else found) cs
      (lookup-changed fs c.key c.value q ∙ (ap (λ (b : Bool). cond b c.value (lookup (is_at (R q)) fs)) ((laws o).symm c.key q) ∙ picked (is_at (R q) c.key) c.value found (lookup (is_at (R q)) es) (lookup (is_at (R q)) fs) h))
