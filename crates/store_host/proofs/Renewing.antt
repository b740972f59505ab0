-- What the Stores say of their tables, where one joins.
use Rattle.std.proofs.Common.{◌≡◌, ◌⊎◌, inl, inr, ⊎_elim, ℕ, ◌++◌, map, append_assoc, Bool, true, false, cond, List, [], ◌∷◌, Option, Some, None, refl, sym, ap, ◌∙◌, subst, arith}
use Rattle.std.specs.Prelude.{◌==◌, ◌||◌, ◌↔◌, filter, IfSome, IsNone, option_map, if◌then◌else◌}
use Rattle.std.specs.Option.{unwrap_or}
use Rattle.std.proofs.lemmas.Bool.Decides.{nat_tests}
use Rattle.std.specs.Ordering.{nat_cmp}
use Rattle.std.specs.Cmp.{unsigned_tied}
use Rattle.std.specs.FinSet as set
use Rattle.std.specs.BTreeMap.{is_at}
use Rattle.std.specs.Map.{keys_of}
use Rattle.std.specs.BTreeMap as tree
use Rattle.ring_map.specs.Owners.{owner_on}
use Rattle.ring_map.specs.Ring.{IsOwner}
use Rattle.ring_map.proofs.Computed.{owner_is, none_is}
use Rattle.store_host.specs.declared.hosted.Hosted.{Hosted}
use Rattle.store_host.specs.declared.store.StoreState.{StoreState}
use Rattle.store_host.specs.Joining.{renewed, kept_by}
use Rattle.store_host.proofs.Maps.{at_same, has, none_there}

-- the owner that the ring gives is the computed one
pub owner_found : (stores name : List ℕ) (ring : set.FinSet nat_cmp) (o : Option ℕ) → ring ≡ set.from_list stores → IsNone o ↔ (ring ≡ set.empty) → IfSome o (IsOwner ring name)
    → unwrap_or o 0 ≡ owner_on name stores
owner_found stores name ring (Some store) is none owner = owner_is stores name store (subst (λ (s : set.FinSet nat_cmp). IsOwner s name store) is owner)
owner_found stores name ring None is none owner = none_is stores name (sym is ∙ none.0 refl)

-- ---- one Store after the other

-- behind some Stores, of which these are left: each is as it was or says it anew, and each that isn't left does
pub record AreRenewed {D : Type 0} (tables : tree.BTreeMap ℕ (Hosted D)) (old mid : tree.BTreeMap ℕ StoreState) (left : List ℕ) : Type 0 where
  pub each : (q : ℕ) → (tree.get nat_cmp mid q ≡ tree.get nat_cmp old q) ⊎ (tree.get nat_cmp mid q ≡ option_map (renewed q tables) (tree.get nat_cmp old q))
  pub behind : (q : ℕ) → has left q ≡ false → tree.get nat_cmp mid q ≡ option_map (renewed q tables) (tree.get nat_cmp old q)

module _ {D : Type 0} (tables : tree.BTreeMap ℕ (Hosted D)) (old : tree.BTreeMap ℕ StoreState) where
  pub renewed_first : AreRenewed tables old old (keys_of old.entries)
  renewed_first = record {
    each = λ q. inl refl;
    behind = λ q none. let gone = none_there old.entries q none in gone ∙ sym (ap (option_map (renewed q tables)) gone);
  }

  renewed_twice : (q : ℕ) (o : Option StoreState) → option_map (renewed q tables) (option_map (renewed q tables) o) ≡ option_map (renewed q tables) o
  renewed_twice q None = refl
  renewed_twice q (Some state) = refl

  pub renewed_on : (mid new : tree.BTreeMap ℕ StoreState) (store : ℕ) (left rest : List ℕ) → left ≡ store ∷ rest → AreRenewed tables old mid left
      → ((q : ℕ) → tree.get nat_cmp new q ≡ cond (is_at (nat_cmp store) q) (option_map (renewed store tables) (tree.get nat_cmp mid q)) (tree.get nat_cmp mid q))
      → AreRenewed tables old new rest
  renewed_on mid new store left rest is a u = record { each = λ q. one q (is_at (nat_cmp store) q) refl; behind = λ q none. out q none (is_at (nat_cmp store) q) refl }
    where
      here : (q : ℕ) → store ≡ q → tree.get nat_cmp new q ≡ option_map (renewed store tables) (tree.get nat_cmp mid q) → tree.get nat_cmp new q ≡ option_map (renewed q tables) (tree.get nat_cmp old q)
      here q same e =
          let now : tree.get nat_cmp new q ≡ option_map (renewed q tables) (tree.get nat_cmp mid q) = e ∙ ap (λ (n : ℕ). option_map (renewed n tables) (tree.get nat_cmp mid q)) same in
          ⊎_elim
          (λ was. now ∙ ap (option_map (renewed q tables)) was)
          (λ was. now ∙ (ap (option_map (renewed q tables)) was ∙ renewed_twice q (tree.get nat_cmp old q)))
          (a.each q)

      at : (q : ℕ) (b : Bool) → is_at (nat_cmp store) q ≡ b → tree.get nat_cmp new q ≡ cond b (option_map (renewed store tables) (tree.get nat_cmp mid q)) (tree.get nat_cmp mid q)
      at q b e = u q ∙ ap (λ (b : Bool). cond b (option_map (renewed store tables) (tree.get nat_cmp mid q)) (tree.get nat_cmp mid q)) e

      one : (q : ℕ) (b : Bool) → is_at (nat_cmp store) q ≡ b → (tree.get nat_cmp new q ≡ tree.get nat_cmp old q) ⊎ (tree.get nat_cmp new q ≡ option_map (renewed q tables) (tree.get nat_cmp old q))
      one q true e = inr (here q (at_same store q e) (at q true e))
      one q false e = ⊎_elim (λ was. inl (at q false e ∙ was)) (λ was. inr (at q false e ∙ was)) (a.each q)

      apart : (q : ℕ) → is_at (nat_cmp store) q ≡ false → (q == store) ≡ false
      apart q e = let f : (store == q) ≡ false = sym (unsigned_tied store q) ∙ e in grind (arith, nat_tests, f)

      out : (q : ℕ) → has rest q ≡ false → (b : Bool) → is_at (nat_cmp store) q ≡ b → tree.get nat_cmp new q ≡ option_map (renewed q tables) (tree.get nat_cmp old q)
      out q none true e = here q (at_same store q e) (at q true e)
      out q none false e = at q false e ∙ a.behind q (ap (λ (ks : List ℕ). has ks q) is ∙ (ap (λ (b : Bool). b || has rest q) (apart q e) ∙ none))

-- ---- the tables of a Store, one after the other

pub kept_on : {D : Type 0} (store : ℕ) (done new : List ℕ) (left rest : List (ℕ × Hosted D)) (e : ℕ × Hosted D) (all : List ℕ) (b : Bool) → left ≡ e ∷ rest → (e.1.node.store == store) ≡ b
    → new ≡ (if b then done ++ e.0 ∷ [] else done) → done ++ kept_by store left ≡ all → new ++ kept_by store rest ≡ all
kept_on {D} store done new left rest e all b steps is put so_far =
    ap (λ (l : List ℕ). l ++ kept_by store rest) put ∙ (one b
    ∙ (ap (λ (b : Bool). done ++ kept_if b) (sym is) ∙ (ap (λ (l : List (ℕ × Hosted D)). done ++ kept_by store l) (sym steps) ∙ so_far)))
  where
    others : List (ℕ × Hosted D)
    others = filter (λ (x : ℕ × Hosted D). x.1.node.store == store) rest

    kept_if : Bool → List ℕ
    kept_if b = map (λ (x : ℕ × Hosted D). x.0) (if b then e ∷ others else others)

    one : (b : Bool) → (if b then done ++ e.0 ∷ [] else done) ++ kept_by store rest ≡ done ++ kept_if b
    one true = append_assoc done (e.0 ∷ []) (kept_by store rest)
    one false = refl
