-- Sets of nodes as lists of nodes.
use Rattle.std.proofs.Common.{◌≡◌, ℕ, Bool, true, false, cond, arith, List, [], ◌∷◌, refl, sym, ◌∙◌, ap, subst, true≢false}
use Rattle.std.specs.Prelude.{not, ◌||◌, ◌&&◌, ◌==◌, if◌then◌else◌}
use Rattle.std.proofs.lemmas.Bool.{eqb-true, eq-eqb}
use Rattle.std.proofs.lemmas.Bool.Decides.{nat_tests}
use Rattle.std.specs.Ordering.{nat_cmp}
use Rattle.std.specs.BTreeMap.{is_at}
use Rattle.std.specs.BTreeSet.{BTreeSet, contains}
use Rattle.stab_base.specs.declared.node.Node.{Node}
use Rattle.stab_base.specs.declared.node.Node.TheVariants as nodes
use Rattle.world_tables.specs.World.{same_node, has_node, without_node}
use Rattle.node_steps.specs.declared.nodes.NodeSet.{NodeSet}
use Rattle.node_steps.specs.Nodes.{is_in}

pub same_is : (a b : Node) → same_node a b ≡ true → a ≡ b
same_is (nodes.Store a) (nodes.Store b) e = ap nodes.Store (eqb-true a b e)
same_is (nodes.Gate a) (nodes.Gate b) e = ap nodes.Gate (eqb-true a b e)
same_is (nodes.Client a) (nodes.Client b) e = ap nodes.Client (eqb-true a b e)
same_is (nodes.Store a) (nodes.Gate b) e = absurd cc
same_is (nodes.Store a) (nodes.Client b) e = absurd cc
same_is (nodes.Gate a) (nodes.Store b) e = absurd cc
same_is (nodes.Gate a) (nodes.Client b) e = absurd cc
same_is (nodes.Client a) (nodes.Store b) e = absurd cc
same_is (nodes.Client a) (nodes.Gate b) e = absurd cc

pub same_self : (a : Node) → same_node a a ≡ true
same_self (nodes.Store a) = eq-eqb a a refl
same_self (nodes.Gate a) = eq-eqb a a refl
same_self (nodes.Client a) = eq-eqb a a refl

-- a node that isn't another isn't taken for it
pub same_turned : (a b : Node) → same_node a b ≡ false → same_node b a ≡ false
same_turned a b apart = go (same_node b a) refl
  where
    go : (x : Bool) → same_node b a ≡ x → same_node b a ≡ false
    go false e = e
    go true e = absurd (true≢false (sym (same_self b) ∙ (ap (λ (n : Node). same_node n b) (same_is b a e) ∙ apart)))

-- without a node the list has the others
pub without_has : (some : List Node) (x node : Node) → has_node (without_node some x) node ≡ (not (same_node x node) && has_node some node)
without_has [] x node = go (same_node x node)
  where
    go : (b : Bool) → false ≡ (not b && false)
    go true = refl
    go false = refl
without_has (y ∷ some) x node = go (same_node x y) refl (same_node x node) refl (without_has some x node)
  where
    go : (a : Bool) → same_node x y ≡ a → (b : Bool) → same_node x node ≡ b → has_node (without_node some x) node ≡ (not (same_node x node) && has_node some node)
        → has_node (if not a then y ∷ without_node some x else without_node some x) node ≡ (not b && (same_node node y || has_node some node))
    go true e true f rest = rest ∙ ap (λ (b : Bool). not b && has_node some node) f
    go true e false f rest =
        let away : same_node node y ≡ false = subst (λ (n : Node). same_node node n ≡ false) (same_is x y e) (same_turned x node f) in
        rest ∙ (ap (λ (b : Bool). not b && has_node some node) f ∙ sym (ap (λ (c : Bool). c || has_node some node) away))
    go false e true f rest =
        let away : same_node node y ≡ false = subst (λ (n : Node). same_node n y ≡ false) (same_is x node f) e in
        ap (λ (c : Bool). c || has_node (without_node some x) node) away ∙ (rest ∙ ap (λ (b : Bool). not b && has_node some node) f)
    go false e false f rest = ap (λ (z : Bool). same_node node y || z) (rest ∙ ap (λ (b : Bool). not b && has_node some node) f)

-- ---- a set with a node more, and with one less

pub numbers_more : (k q : ℕ) (b : Bool) → cond (is_at (nat_cmp k) q) true b ≡ ((q == k) || b)
numbers_more k q b = grind (arith, nat_tests)

pub numbers_less : (k q : ℕ) (b : Bool) → cond (is_at (nat_cmp k) q) false b ≡ (not (k == q) && b)
numbers_less k q b = grind (arith, nat_tests)

module _ (old : NodeSet) (numbers : BTreeSet ℕ) (n : ℕ) where
  pub more_stores : ((q : ℕ) → contains nat_cmp numbers q ≡ ((q == n) || contains nat_cmp old.stores q)) → (q : Node)
      → is_in (record old { stores = numbers }) q ≡ (same_node q (nodes.Store n) || is_in old q)
  more_stores u (nodes.Store q) = u q
  more_stores u (nodes.Gate q) = refl
  more_stores u (nodes.Client q) = refl

  pub more_gates : ((q : ℕ) → contains nat_cmp numbers q ≡ ((q == n) || contains nat_cmp old.gates q)) → (q : Node)
      → is_in (record old { gates = numbers }) q ≡ (same_node q (nodes.Gate n) || is_in old q)
  more_gates u (nodes.Store q) = refl
  more_gates u (nodes.Gate q) = u q
  more_gates u (nodes.Client q) = refl

  pub more_clients : ((q : ℕ) → contains nat_cmp numbers q ≡ ((q == n) || contains nat_cmp old.clients q)) → (q : Node)
      → is_in (record old { clients = numbers }) q ≡ (same_node q (nodes.Client n) || is_in old q)
  more_clients u (nodes.Store q) = refl
  more_clients u (nodes.Gate q) = refl
  more_clients u (nodes.Client q) = u q

  pub fewer_stores : ((q : ℕ) → contains nat_cmp numbers q ≡ (not (n == q) && contains nat_cmp old.stores q)) → (q : Node)
      → is_in (record old { stores = numbers }) q ≡ (not (same_node (nodes.Store n) q) && is_in old q)
  fewer_stores u (nodes.Store q) = u q
  fewer_stores u (nodes.Gate q) = refl
  fewer_stores u (nodes.Client q) = refl

  pub fewer_gates : ((q : ℕ) → contains nat_cmp numbers q ≡ (not (n == q) && contains nat_cmp old.gates q)) → (q : Node)
      → is_in (record old { gates = numbers }) q ≡ (not (same_node (nodes.Gate n) q) && is_in old q)
  fewer_gates u (nodes.Store q) = refl
  fewer_gates u (nodes.Gate q) = u q
  fewer_gates u (nodes.Client q) = refl

  pub fewer_clients : ((q : ℕ) → contains nat_cmp numbers q ≡ (not (n == q) && contains nat_cmp old.clients q)) → (q : Node)
      → is_in (record old { clients = numbers }) q ≡ (not (same_node (nodes.Client n) q) && is_in old q)
  fewer_clients u (nodes.Store q) = refl
  fewer_clients u (nodes.Gate q) = refl
  fewer_clients u (nodes.Client q) = u q
