-- The Stores that are down, where one falls or rises; and the tables of a Store.
use Rattle.std.proofs.Common.{◌≡◌, ◌≢◌, ℕ, Bool, true, false, true≢false, List, [], ◌∷◌, Some, refl, sym, ap, ◌∙◌, arith}
use Rattle.std.specs.Prelude.{◌==◌, ◌||◌, not, filter, if◌then◌else◌}
use Rattle.std.proofs.lemmas.Bool.Decides.{nat_tests}
use Rattle.std.specs.List.{find, list_any}
use Rattle.std.specs.Map.{keys_of}
use Rattle.std.specs.Ordering.{nat_cmp}
use Rattle.std.specs.BTreeMap.{is_at}
use Rattle.stab_base.specs.declared.node.Node.{Node}
use Rattle.stab_base.specs.declared.node.Node.TheVariants as nodes
use Rattle.world_tables.specs.World.{World, owner_of, has_store, tables_of, has_node, same_node, without_node, is_at_work, busy_table}
use Rattle.store_host.specs.Holds.{AreDeclared}
use Rattle.store_host.proofs.Maps.{has, or_true}

-- ---- numbers that are the same

pub number_itself : (n : ℕ) → (n == n) ≡ true
number_itself n = grind (arith, nat_tests)

pub number_same : (a b : ℕ) → (a == b) ≡ true → a ≡ b
number_same a b is = grind (arith, nat_tests, is)

pub number_apart : (a b : ℕ) → a ≢ b → (a == b) ≡ false
number_apart a b apart = grind (arith, nat_tests, apart)

pub at_itself : (n : ℕ) → is_at (nat_cmp n) n ≡ true
at_itself n = grind (arith, nat_tests)

pub same_or_apart : {P : Type 0} (a b : ℕ) → (a ≡ b → P) → (a ≢ b → P) → P
same_or_apart {P} a b same apart = go (a == b) refl
  where
    go : (x : Bool) → (a == b) ≡ x → P
    go true is = same (number_same a b is)
    go false is = apart (λ e. true≢false (sym (ap (λ (n : ℕ). a == n) (sym e) ∙ number_itself a) ∙ is))

-- ---- down

pub down_itself : (n : ℕ) (downs : List Node) → has_node (nodes.Store n ∷ downs) (nodes.Store n) ≡ true
down_itself n downs = ap (λ (b : Bool). b || has_node downs (nodes.Store n)) (number_itself n)

pub down_other : (n q : ℕ) (downs : List Node) → q ≢ n → has_node (nodes.Store n ∷ downs) (nodes.Store q) ≡ has_node downs (nodes.Store q)
down_other n q downs apart = ap (λ (b : Bool). b || has_node downs (nodes.Store q)) (number_apart q n apart)

pub still_gone : (node : Node) (downs : List Node) → has_node (without_node downs node) node ≡ false
still_gone node [] = refl
still_gone node (other ∷ downs) = go (same_node node other) refl (still_gone node downs)
  where
    go : (b : Bool) → same_node node other ≡ b → has_node (without_node downs node) node ≡ false
        → has_node (if not b then other ∷ without_node downs node else without_node downs node) node ≡ false
    go true is rest = rest
    go false is rest = ap (λ (b : Bool). b || has_node (without_node downs node) node) is ∙ rest

pub others_stay : (n q : ℕ) → q ≢ n → (downs : List Node) → has_node (without_node downs (nodes.Store n)) (nodes.Store q) ≡ has_node downs (nodes.Store q)
others_stay n q apart [] = refl
others_stay n q apart (nodes.Client c ∷ downs) = others_stay n q apart downs
others_stay n q apart (nodes.Gate gate ∷ downs) = others_stay n q apart downs
others_stay n q apart (nodes.Store m ∷ downs) = go (n == m) refl (others_stay n q apart downs)
  where
    left : List Node
    left = without_node downs (nodes.Store n)

    go : (b : Bool) → (n == m) ≡ b → has_node left (nodes.Store q) ≡ has_node downs (nodes.Store q)
        → has_node (if not b then nodes.Store m ∷ left else left) (nodes.Store q) ≡ ((q == m) || has_node downs (nodes.Store q))
    go true is rest = rest ∙ sym (ap (λ (b : Bool). b || has_node downs (nodes.Store q)) (number_apart q m (λ e. apart (e ∙ sym (number_same n m is)))))
    go false is rest = ap (λ (b : Bool). (q == m) || b) rest

pub declared_without : (w : World) (node : Node) (downs : List Node) → AreDeclared w downs → AreDeclared w (without_node downs node)
declared_without w node [] d = tt
declared_without w node (other ∷ downs) d = go (same_node node other) (declared_without w node downs d.1)
  where
    go : (b : Bool) → AreDeclared w (without_node downs node) → AreDeclared w (if not b then other ∷ without_node downs node else without_node downs node)
    go true rest = rest
    go false rest = (d.0, rest)

-- ---- tables

pub kept_in : (f : ℕ → Bool) (ks : List ℕ) (q : ℕ) → has ks q ≡ true → f q ≡ true → has (filter f ks) q ≡ true
kept_in f [] q there is = absurd cc
kept_in f (k ∷ ks) q there is = go (λ there. kept_in f ks q there is) (f k) refl (q == k) refl
  where
    behind : (has ks q ≡ true → has (filter f ks) q ≡ true) → (q == k) ≡ false → has (filter f ks) q ≡ true
    behind rest apart = rest (sym (ap (λ (b : Bool). b || has ks q) apart) ∙ there)

    go : (has ks q ≡ true → has (filter f ks) q ≡ true) → (a : Bool) → f k ≡ a → (b : Bool) → (q == k) ≡ b → has (if a then k ∷ filter f ks else filter f ks) q ≡ true
    go rest true fits true same = ap (λ (b : Bool). b || has (filter f ks) q) same
    go rest true fits false apart = ap (λ (b : Bool). (q == k) || b) (behind rest apart) ∙ or_true (q == k)
    go rest false fits true same = absurd (true≢false (sym is ∙ (ap f (number_same q k same) ∙ fits)))
    go rest false fits false apart = behind rest apart

pub in_kept : (f : ℕ → Bool) (ks : List ℕ) (q : ℕ) → has (filter f ks) q ≡ true → f q ≡ true
in_kept f [] q there = absurd cc
in_kept f (k ∷ ks) q there = go (λ there. in_kept f ks q there) (f k) refl there
  where
    go : (has (filter f ks) q ≡ true → f q ≡ true) → (a : Bool) → f k ≡ a → has (if a then k ∷ filter f ks else filter f ks) q ≡ true → f q ≡ true
    go rest false fits there = rest there
    go rest true fits there = by (q == k) refl
      where
        by : (b : Bool) → (q == k) ≡ b → f q ≡ true
        by true same = ap f (number_same q k same) ∙ fits
        by false apart = rest (sym (ap (λ (b : Bool). b || has (filter f ks) q) apart) ∙ there)

-- a table of a Store is its owner's
pub of_owner : (w : World) (number table : ℕ) → has (tables_of w number) table ≡ true → owner_of w table ≡ number
of_owner w number table = go (has_store w number)
  where
    go : (b : Bool) → has (if b then filter (λ q. owner_of w q == number) (keys_of w.tables) else []) table ≡ true → owner_of w table ≡ number
    go false there = absurd cc
    go true there = number_same (owner_of w table) number (in_kept (λ q. owner_of w q == number) (keys_of w.tables) table there)

-- and a table that is there is one of its owner's
pub owns : (w : World) (number table : ℕ) → has_store w number ≡ true → has (keys_of w.tables) table ≡ true → owner_of w table ≡ number → has (tables_of w number) table ≡ true
owns w number table declared there own =
    let is : (owner_of w table == number) ≡ true = ap (λ (n : ℕ). n == number) own ∙ number_itself number in
    ap (λ (b : Bool). has (if b then filter (λ q. owner_of w q == number) (keys_of w.tables) else []) table) declared
    ∙ kept_in (λ q. owner_of w q == number) (keys_of w.tables) table there is

pub find_in : (f : ℕ → Bool) (ks : List ℕ) (q : ℕ) → find f ks ≡ Some q → has ks q ≡ true
find_in f [] q is = absurd cc
find_in f (k ∷ ks) q is = go (λ is. find_in f ks q is) (f k) refl
  where
    go : (find f ks ≡ Some q → has ks q ≡ true) → (b : Bool) → f k ≡ b → has (k ∷ ks) q ≡ true
    go rest true hit =
        let first : Some k ≡ Some q = ap (λ (b : Bool). if b then Some k else find f ks) (sym hit) ∙ is in
        let same : k ≡ q = cc in
        ap (λ (b : Bool). b || has ks q) (ap (λ (n : ℕ). q == n) same ∙ number_itself q)
    go rest false miss = ap (λ (b : Bool). (q == k) || b) (rest (ap (λ (b : Bool). if b then Some k else find f ks) (sym miss) ∙ is)) ∙ or_true (q == k)

pub busy_owner : (w : World) (number table : ℕ) → busy_table w number ≡ Some table → owner_of w table ≡ number
busy_owner w number table is = of_owner w number table (find_in (is_at_work w) (tables_of w number) table is)

-- ---- tests of all of some tables

pub any_alike : (f g : ℕ → Bool) (ks : List ℕ) → ((k : ℕ) → has ks k ≡ true → f k ≡ g k) → list_any f ks ≡ list_any g ks
any_alike f g [] same = refl
any_alike f g (k ∷ ks) same =
    ap (λ (b : Bool). b || list_any f ks) (same k (ap (λ (b : Bool). b || has ks k) (number_itself k)))
    ∙ ap (λ (b : Bool). g k || b) (any_alike f g ks (λ q there. same q (ap (λ (b : Bool). (q == k) || b) there ∙ or_true (q == k))))

pub any_none : (ks : List ℕ) → list_any (λ (k : ℕ). false) ks ≡ false
any_none [] = refl
any_none (k ∷ ks) = any_none ks
