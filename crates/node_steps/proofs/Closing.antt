-- A world whose disks go back, table by table and client by client.
use Rattle.std.proofs.Common.{◌≡◌, ⊎_elim, ℕ, zero, suc, ◌+◌, ◌-◌, ◌<◌, ◌≤◌, Bool, true, false, cond, List, [], ◌∷◌, Option, Some, None, refl, sym, ◌∙◌, ap, subst, arith}
use Rattle.std.specs.Prelude.{◌==◌, ◌&&◌, not, is_some, drop, slice_get, option_map, IfSome, if◌then◌else◌}
use Rattle.std.specs.Ordering.{nat_cmp}
use Rattle.std.specs.Cmp.{nat_cmp_total}
use Rattle.std.specs.BTreeMap.{is_at}
use Rattle.std.specs.BTreeMap as tree
use Rattle.std.specs.Map.{lookup, keys_of}
use Rattle.std.specs.List.Sorted.{IsStrictlySortedBy}
use Rattle.std.proofs.lemmas.Bool.Decides.{nat_tests}
use Rattle.std.proofs.lemmas.Bool.{cases_lt}
use Rattle.std.proofs.lemmas.Map.{lookup-none}
use Rattle.std.proofs.lemmas.Map.Entries.{none_below_head}
use Rattle.std.proofs.lemmas.Map.Keys.{sorted_head, sorted_tail}
use Rattle.store_host.specs.declared.hosted.Hosted.{Hosted as Kept}
use Rattle.store_host.specs.Holds as stores
use Rattle.store_host.proofs.Maps.{at_same}
use Rattle.client_node.specs.declared.node.ClientNode.{ClientNode}
use Rattle.journal_host.specs.Holds as hosts
use Rattle.node_steps.specs.Closes.{without_three, TellsThree, StayBelow}
use Rattle.node_steps.specs.Holds.{first_disk, first_client_disk}

-- ---- numbers of disks

-- each number is one of three
pub record IsDiskOf (number : ℕ) : Type 0 where
  pub party : ℕ
  pub k : ℕ
  pub one : 1 ≤ party
  pub small : k < 3
  pub is : first_disk party + k ≡ number

pub disk_of : (number : ℕ) → IsDiskOf number
disk_of zero = record { party = 1; k = 0; one = omega arith; small = omega arith; is = refl }
disk_of (suc number) = go (disk_of number)
  where
    go : IsDiskOf number → IsDiskOf (suc number)
    go d = at d.k refl
      where
        at : (k : ℕ) → d.k ≡ k → IsDiskOf (suc number)
        at zero e = record { party = d.party; k = 1; one = d.one; small = omega arith; is = let a = d.is in omega (arith, a, e) }
        at (suc zero) e = record { party = d.party; k = 2; one = d.one; small = omega arith; is = let a = d.is in omega (arith, a, e) }
        at (suc (suc k)) e = record { party = d.party + 1; k = 0; one = omega arith; small = omega arith; is = let a = d.is in let b = d.small in let c = d.one in omega (arith, a, b, c, e) }

-- the number is none of the three that begin at another
abbrev pub Apart : ℕ → ℕ → Type 0
Apart m n = ((m == n + 2) ≡ false) × (((m == n + 1) ≡ false) × ((m == n) ≡ false))

pub tables_apart : (q t k : ℕ) → 1 ≤ q → 1 ≤ t → k < 3 → is_at (nat_cmp q) t ≡ false → Apart (first_disk q + k) (first_disk t)
tables_apart q t k one_q one small apart = (grind (arith, nat_tests, one_q, one, small, apart), (grind (arith, nat_tests, one_q, one, small, apart), grind (arith, nat_tests, one_q, one, small, apart)))

pub clients_apart : (q c k : ℕ) → 1 ≤ q → 1 ≤ c → k < 3 → is_at (nat_cmp q) c ≡ false → Apart (first_client_disk q + k) (first_client_disk c)
clients_apart q c k one_q one small apart = (grind (arith, nat_tests, one_q, one, small, apart), (grind (arith, nat_tests, one_q, one, small, apart), grind (arith, nat_tests, one_q, one, small, apart)))

pub above_tables : (k table : ℕ) → table ≤ 64 → 192 ≤ k → Apart k (first_disk table)
above_tables k table most above = (grind (arith, nat_tests, most, above), (grind (arith, nat_tests, most, above), grind (arith, nat_tests, most, above)))

pub below_clients : (k c : ℕ) → k < 192 → Apart k (first_client_disk c)
below_clients k c below = (grind (arith, nat_tests, below), (grind (arith, nat_tests, below), grind (arith, nat_tests, below)))

pub table_small : (table : ℕ) → table ≤ 64 → first_disk table < 1000
table_small table most = omega (arith, most)

pub client_small : (c : ℕ) → c ≤ 64 → first_client_disk c < 1000
client_small c most = omega (arith, most)

-- ---- numbers that are out

here : (first k : ℕ) (is_out : ℕ → Bool) → k < 3 → without_three first is_out (first + k) ≡ false
here first k is_out small = go (is_out (first + k))
  where
    go : (b : Bool) → (not (first + k == first + 2) && (not (first + k == first + 1) && (not (first + k == first) && b))) ≡ false
    go b = grind (arith, nat_tests, small)

pub away : (m n : ℕ) (is_out : ℕ → Bool) → Apart m n → without_three n is_out m ≡ is_out m
away m n is_out a =
    ap (λ (x : Bool). not x && (not (m == n + 1) && (not (m == n) && is_out m))) a.0
    ∙ (ap (λ (x : Bool). not x && (not (m == n) && is_out m)) a.1.0 ∙ ap (λ (x : Bool). not x && is_out m) a.1.1)

-- ---- disks that a depot tells

abbrev pick : {X : Type 0} → ℕ → X → X → X → X → ℕ → X
pick n a b c d k = if k == n + 2 then c else (if k == n + 1 then b else (if k == n then a else d))

pick_first : {X : Type 0} (n : ℕ) (a b c d : X) → pick n a b c d n ≡ a
pick_first n a b c d = grind (arith, nat_tests)

pick_second : {X : Type 0} (n : ℕ) (a b c d : X) → pick n a b c d (n + 1) ≡ b
pick_second n a b c d = grind (arith, nat_tests)

pick_third : {X : Type 0} (n : ℕ) (a b c d : X) → pick n a b c d (n + 2) ≡ c
pick_third n a b c d = grind (arith, nat_tests)

pick_away : {X : Type 0} (m n : ℕ) (a b c d : X) → Apart m n → pick n a b c d m ≡ d
pick_away {X} m n a b c d p =
    ap (λ (x : Bool). if x then c else (if m == n + 1 then b else (if m == n then a else d))) p.0
    ∙ (ap (λ (x : Bool). if x then b else (if m == n then a else d)) p.1.0 ∙ ap (λ (x : Bool). if x then a else d) p.1.1)

-- these three are told under these numbers
pub record AreThree {D : Type 0} (disks : ℕ → Option D) (n : ℕ) (d : D × D × D) : Type 0 where
  pub one : disks n ≡ Some d.0
  pub two : disks (n + 1) ≡ Some d.1
  pub three : disks (n + 2) ≡ Some d.2

zero_more : (n : ℕ) → n ≡ n + 0
zero_more n = omega arith

module _ {D : Type 0} (old new : ℕ → Option D) (n : ℕ) (d : D × D × D) (t : TellsThree (Some old) (Some new) n d) where
  back_here : AreThree new n d
  back_here = record {
    one = t n ∙ pick_first n (Some d.0) (Some d.1) (Some d.2) (old n);
    two = t (n + 1) ∙ pick_second n (Some d.0) (Some d.1) (Some d.2) (old (n + 1));
    three = t (n + 2) ∙ pick_third n (Some d.0) (Some d.1) (Some d.2) (old (n + 2));
  }

  told_away : (m : ℕ) → Apart m n → new m ≡ old m
  told_away m apart = t m ∙ pick_away m n (Some d.0) (Some d.1) (Some d.2) (old m) apart

  back_still : (m : ℕ) (x : D × D × D) → ((k : ℕ) → k < 3 → Apart (m + k) n) → AreThree old m x → AreThree new m x
  back_still m x apart was = record {
    one = ap new (zero_more m) ∙ (told_away (m + 0) (apart 0 (omega arith)) ∙ (ap old (sym (zero_more m)) ∙ was.one));
    two = told_away (m + 1) (apart 1 (omega arith)) ∙ was.two;
    three = told_away (m + 2) (apart 2 (omega arith)) ∙ was.three;
  }

told_cases : {D : Type 0} (old new : Option (ℕ → Option D)) (first : ℕ) (disks : D × D × D) (P Q : (ℕ → Option D) → Type 0)
    → ((a b : ℕ → Option D) → TellsThree (Some a) (Some b) first disks → P a → Q b) → TellsThree old new first disks → IfSome old P → IfSome new Q
told_cases None None first disks P Q f t k = tt
told_cases None (Some b) first disks P Q f t k = absurd t
told_cases (Some a) None first disks P Q f t k = absurd t
told_cases (Some a) (Some b) first disks P Q f t k = f a b t k

-- ---- below a number

pub stay_at_first : {D : Type 0} (told : Option (ℕ → Option D)) (n : ℕ) → StayBelow told told n
stay_at_first None n = tt
stay_at_first (Some disks) n = λ k below. refl

pub stay_then : {D : Type 0} (old mid new : Option (ℕ → Option D)) (n first : ℕ) (disks : D × D × D) → ((k : ℕ) → k < n → Apart k first) → StayBelow old mid n → TellsThree mid new first disks
    → StayBelow old new n
stay_then None None None n first disks apart s t = tt
stay_then None None (Some c) n first disks apart s t = absurd t
stay_then None (Some b) None n first disks apart s t = absurd s
stay_then None (Some b) (Some c) n first disks apart s t = absurd s
stay_then (Some a) None None n first disks apart s t = absurd s
stay_then (Some a) None (Some c) n first disks apart s t = absurd s
stay_then (Some a) (Some b) None n first disks apart s t = absurd t
stay_then (Some a) (Some b) (Some c) n first disks apart s t = λ k below. told_away b c first disks t k (apart k below) ∙ s k below

-- what was told below is told still
pub stays_told : {D : Type 0} (old new : Option (ℕ → Option D)) (n : ℕ) (P : (ℕ → Option D) → Type 0) → ((a b : ℕ → Option D) → ((k : ℕ) → k < n → b k ≡ a k) → P a → P b) → StayBelow old new n
    → IfSome old P → IfSome new P
stays_told None None n P f s k = tt
stays_told None (Some b) n P f s k = absurd s
stays_told (Some a) None n P f s k = absurd s
stays_told (Some a) (Some b) n P f s k = f a b s k

-- ---- the least party of a map

module _ {V : Type 0} (e : ℕ × V) (rest : List (ℕ × V)) where
  least_gone : IsStrictlySortedBy nat_cmp (keys_of (e ∷ rest)) → lookup (is_at (nat_cmp e.0)) rest ≡ None
  least_gone rising = go rest rising
    where
      go : (es : List (ℕ × V)) → IsStrictlySortedBy nat_cmp (keys_of (e ∷ es)) → lookup (is_at (nat_cmp e.0)) es ≡ None
      go [] s = refl
      go (f ∷ es) s =
          lookup-none (is_at (nat_cmp e.0)) (f ∷ es)
          (none_below_head nat_cmp_total e.0 f es (sorted_tail nat_cmp e.0 (keys_of (f ∷ es)) s) (sorted_head nat_cmp e.0 (keys_of (f ∷ es)) s).0)

  least_there : lookup (is_at (nat_cmp e.0)) (e ∷ rest) ≡ Some e.1
  least_there = ap (λ (b : Bool). cond b (Some e.1) (lookup (is_at (nat_cmp e.0)) rest)) (at_itself e.0)
    where
      at_itself : (k : ℕ) → is_at (nat_cmp k) k ≡ true
      at_itself k = grind (arith, nat_tests)

  others_there : (q : ℕ) → is_at (nat_cmp q) e.0 ≡ false → lookup (is_at (nat_cmp q)) (e ∷ rest) ≡ lookup (is_at (nat_cmp q)) rest
  others_there q apart = ap (λ (b : Bool). cond b (Some e.1) (lookup (is_at (nat_cmp q)) rest)) apart

same_in : {X : Type 0} {x y : X} → Some x ≡ Some y → x ≡ y
same_in e = cc

no_entry : {X : Type 0} {x : X} → Some x ≡ None → ⊥
no_entry e = cc

-- ---- parties that go back, one after the other

-- Of these parties those are left whose disks are out, and the disks of the others came back.
pub record IsClosing {D V : Type 0} (first : ℕ → ℕ) (three : V → D × D × D) (Most : ℕ → Type 0) (all left : tree.BTreeMap ℕ V) (is_out : ℕ → Bool) (told : Option (ℕ → Option D)) : Type 0 where
  pub some : (q : ℕ) (it : V) → tree.get nat_cmp left q ≡ Some it → tree.get nat_cmp all q ≡ Some it
  pub ranged : (q : ℕ) → is_some (tree.get nat_cmp left q) ≡ true → (1 ≤ q) × (q ≤ 64)
  pub out : (q k : ℕ) → 1 ≤ q → Most q → k < 3 → is_out (first q + k) ≡ is_some (tree.get nat_cmp left q)
  pub back : IfSome told (λ disks. (q : ℕ) (it : V) → tree.get nat_cmp all q ≡ Some it → tree.get nat_cmp left q ≡ None → AreThree disks (first q) (three it))

-- the next one
pub record IsNext (first : ℕ → ℕ) (is_out : ℕ → Bool) (q : ℕ) : Type 0 where
  pub least : 1 ≤ q
  pub most : q ≤ 64
  pub out : (k : ℕ) → k < 3 → is_out (first q + k) ≡ true

module _ {D V : Type 0} (first : ℕ → ℕ) (three : V → D × D × D) (Most : ℕ → Type 0) (most_of : (q : ℕ) → q ≤ 64 → Most q)
    (apart : (q t k : ℕ) → 1 ≤ q → 1 ≤ t → k < 3 → is_at (nat_cmp q) t ≡ false → Apart (first q + k) (first t)) (all : tree.BTreeMap ℕ V) where
  -- a party's number, with its disks
  abbrev place : ℕ × V → ℕ × (D × D × D)
  place e = (e.0, three e.1)

  abbrev Behind : tree.BTreeMap ℕ V → (ℕ → Option D) → Type 0
  Behind left disks = (q : ℕ) (x : V) → tree.get nat_cmp all q ≡ Some x → tree.get nat_cmp left q ≡ None → AreThree disks (first q) (three x)

  told_both : (old new : ℕ → Option D) (t : ℕ) (it : V) → TellsThree (Some old) (Some new) (first t) (three it) → 1 ≤ t → (left after : tree.BTreeMap ℕ V) → tree.get nat_cmp left t ≡ Some it
      → ((q : ℕ) (x : V) → tree.get nat_cmp left q ≡ Some x → tree.get nat_cmp all q ≡ Some x)
      → ((q : ℕ) → is_at (nat_cmp q) t ≡ false → tree.get nat_cmp left q ≡ tree.get nat_cmp after q)
      → ((q : ℕ) (x : V) → tree.get nat_cmp all q ≡ Some x → 1 ≤ q) → Behind left old → Behind after new
  told_both old new t it tells one left after at some others ones k q x there gone = go (is_at (nat_cmp q) t) refl
    where
      go : (b : Bool) → is_at (nat_cmp q) t ≡ b → AreThree new (first q) (three x)
      go true e =
          let is : q ≡ t = at_same q t e in
          let same : x ≡ it = same_in (sym there ∙ (ap (λ (n : ℕ). tree.get nat_cmp all n) is ∙ some t it at)) in
          subst (λ (n : ℕ). AreThree new (first n) (three x)) (sym is) (subst (λ (y : V). AreThree new (first t) (three y)) (sym same) (back_here old new (first t) (three it) tells))
      go false e = back_still old new (first t) (three it) tells (first q) (three x) (λ m small. apart q t m (ones q x there) one small e) (k q x there (others q e ∙ gone))

  module _ (left after : tree.BTreeMap ℕ V) (least : ℕ) (gone : tree.get nat_cmp after least ≡ None)
      (stay : (q : ℕ) → is_at (nat_cmp q) least ≡ false → tree.get nat_cmp left q ≡ tree.get nat_cmp after q) where
    earlier : (q : ℕ) (it : V) → tree.get nat_cmp after q ≡ Some it → tree.get nat_cmp left q ≡ Some it
    earlier q it there = go (is_at (nat_cmp q) least) refl
      where
        go : (b : Bool) → is_at (nat_cmp q) least ≡ b → tree.get nat_cmp left q ≡ Some it
        go true e = absurd (no_entry (sym there ∙ (ap (λ (n : ℕ). tree.get nat_cmp after n) (at_same q least e) ∙ gone)))
        go false e = stay q e ∙ there

    still_ranged : ((q : ℕ) → is_some (tree.get nat_cmp left q) ≡ true → (1 ≤ q) × (q ≤ 64)) → (q : ℕ) → is_some (tree.get nat_cmp after q) ≡ true → (1 ≤ q) × (q ≤ 64)
    still_ranged ranged q there = go (tree.get nat_cmp after q) refl there
      where
        go : (o : Option V) → tree.get nat_cmp after q ≡ o → is_some o ≡ true → (1 ≤ q) × (q ≤ 64)
        go None e k = absurd cc
        go (Some it) e k = ranged q (ap (λ (o : Option V). is_some o) (earlier q it e))

    out_behind : (is_out : ℕ → Bool) → 1 ≤ least → ((q k : ℕ) → 1 ≤ q → Most q → k < 3 → is_out (first q + k) ≡ is_some (tree.get nat_cmp left q))
        → (q k : ℕ) → 1 ≤ q → Most q → k < 3 → without_three (first least) is_out (first q + k) ≡ is_some (tree.get nat_cmp after q)
    out_behind is_out one out q k one_q most small = go (is_at (nat_cmp q) least) refl
      where
        go : (b : Bool) → is_at (nat_cmp q) least ≡ b → without_three (first least) is_out (first q + k) ≡ is_some (tree.get nat_cmp after q)
        go true e =
            let is : q ≡ least = at_same q least e in
            ap (λ (n : ℕ). without_three (first least) is_out (first n + k)) is
            ∙ (here (first least) k is_out small ∙ sym (ap (λ (n : ℕ). is_some (tree.get nat_cmp after n)) is ∙ ap (λ (o : Option V). is_some o) gone))
        go false e = away (first q + k) (first least) is_out (apart q least k one_q one small e) ∙ (out q k one_q most small ∙ ap (λ (o : Option V). is_some o) (stay q e))

  pub goes_back : (left after : tree.BTreeMap ℕ V) (is_out out : ℕ → Bool) (old new : Option (ℕ → Option D)) → ((q : ℕ) (x : V) → tree.get nat_cmp all q ≡ Some x → 1 ≤ q)
      → IsClosing first three Most all left is_out old → (t : ℕ) (disks : D × D × D) → Some (t, disks) ≡ option_map place (slice_get left.entries 0) → after.entries ≡ drop 1 left.entries
      → tree.get nat_cmp after t ≡ None → ((k : ℕ) → out k ≡ without_three (first t) is_out k) → TellsThree old new (first t) disks → IsClosing first three Most all after out new
  goes_back left after is_out out old new ones c t disks next others none outs told = go left.entries refl
    where
      go : (es : List (ℕ × V)) → left.entries ≡ es → IsClosing first three Most all after out new
      go [] e = absurd (no_entry (next ∙ ap (λ (es : List (ℕ × V)). option_map place (slice_get es 0)) e))
      go (x ∷ rest) e =
          let is : (t, disks) ≡ place x = same_in (next ∙ ap (λ (es : List (ℕ × V)). option_map place (slice_get es 0)) e) in
          let number : t ≡ x.0 = ap (λ (p : ℕ × (D × D × D)). p.0) is in
          let mine : disks ≡ three x.1 = ap (λ (p : ℕ × (D × D × D)). p.1) is in
          let behind : after.entries ≡ rest = others ∙ ap (λ (es : List (ℕ × V)). drop 1 es) e in
          let at : tree.get nat_cmp left x.0 ≡ Some x.1 = ap (λ (es : List (ℕ × V)). lookup (is_at (nat_cmp x.0)) es) e ∙ least_there x rest in
          let gone : tree.get nat_cmp after x.0 ≡ None = ap (λ (n : ℕ). tree.get nat_cmp after n) (sym number) ∙ none in
          let one = (c.ranged x.0 (ap (λ (o : Option V). is_some o) at)).0 in
          let stay : (q : ℕ) → is_at (nat_cmp q) x.0 ≡ false → tree.get nat_cmp left q ≡ tree.get nat_cmp after q =
          λ q off. ap (λ (es : List (ℕ × V)). lookup (is_at (nat_cmp q)) es) e
          ∙ (others_there x rest q off ∙ sym (ap (λ (es : List (ℕ × V)). lookup (is_at (nat_cmp q)) es) behind)) in record {
            some = λ q it there. c.some q it (earlier left after x.0 gone stay q it there);
            ranged = still_ranged left after x.0 gone stay c.ranged;
            out = λ q k one_q most small. outs (first q + k) ∙ (ap (λ (n : ℕ). without_three (first n) is_out
                (first q + k)) number ∙ out_behind left after x.0 gone stay is_out one c.out q k one_q most small);
            back = told_cases old new (first x.0) (three x.1) (Behind left) (Behind after) (λ a b tells k. told_both a b x.0 x.1 tells one left after at c.some stay ones k)
                (subst (λ (d : D × D × D). TellsThree old new (first x.0) d) mine (subst (λ (n : ℕ). TellsThree old new (first n) disks) number told)) c.back;
          }

  -- where the numbers rise, one that goes is gone
  pub first_gone : (left after : tree.BTreeMap ℕ V) (t : ℕ) (disks : D × D × D) → IsStrictlySortedBy nat_cmp (keys_of left.entries) → Some (t, disks) ≡ option_map place (slice_get left.entries 0)
      → after.entries ≡ drop 1 left.entries → (tree.get nat_cmp after t ≡ None) × IsStrictlySortedBy nat_cmp (keys_of after.entries)
  first_gone left after t disks sorted next others = go left.entries refl
    where
      go : (es : List (ℕ × V)) → left.entries ≡ es → (tree.get nat_cmp after t ≡ None) × IsStrictlySortedBy nat_cmp (keys_of after.entries)
      go [] e = absurd (no_entry (next ∙ ap (λ (es : List (ℕ × V)). option_map place (slice_get es 0)) e))
      go (x ∷ rest) e =
          let is : (t, disks) ≡ place x = same_in (next ∙ ap (λ (es : List (ℕ × V)). option_map place (slice_get es 0)) e) in
          let number : t ≡ x.0 = ap (λ (p : ℕ × (D × D × D)). p.0) is in
          let behind : after.entries ≡ rest = others ∙ ap (λ (es : List (ℕ × V)). drop 1 es) e in
          let rising = subst (λ (es : List (ℕ × V)). IsStrictlySortedBy nat_cmp (keys_of es)) e sorted in (
            ap (λ (n : ℕ). tree.get nat_cmp after n) number ∙ (ap (λ (es : List (ℕ × V)). lookup (is_at (nat_cmp x.0)) es) behind ∙ least_gone x rest rising),
            subst (λ (es : List (ℕ × V)). IsStrictlySortedBy nat_cmp (keys_of es)) (sym behind) (sorted_tail nat_cmp x.0 (keys_of rest) rising),
          )

  pub next_one : (left : tree.BTreeMap ℕ V) (is_out : ℕ → Bool) (told : Option (ℕ → Option D)) → IsClosing first three Most all left is_out told → (t : ℕ) (disks : D × D × D)
      → Some (t, disks) ≡ option_map place (slice_get left.entries 0) → IsNext first is_out t
  next_one left is_out told c t disks next = go left.entries refl
    where
      go : (es : List (ℕ × V)) → left.entries ≡ es → IsNext first is_out t
      go [] e = absurd (no_entry (next ∙ ap (λ (es : List (ℕ × V)). option_map place (slice_get es 0)) e))
      go (x ∷ rest) e =
          let is : (t, disks) ≡ place x = same_in (next ∙ ap (λ (es : List (ℕ × V)). option_map place (slice_get es 0)) e) in
          let number : t ≡ x.0 = ap (λ (p : ℕ × (D × D × D)). p.0) is in
          let at : tree.get nat_cmp left x.0 ≡ Some x.1 = ap (λ (es : List (ℕ × V)). lookup (is_at (nat_cmp x.0)) es) e ∙ least_there x rest in
          let there : is_some (tree.get nat_cmp left x.0) ≡ true = ap (λ (o : Option V). is_some o) at in
          let range = c.ranged x.0 there in
          subst (λ (n : ℕ). IsNext first is_out n) (sym number) (record { least = range.0; most = range.1; out = λ k small. c.out x.0 k range.0 (most_of x.0 range.1) small ∙ there })

  -- at first all are out
  pub closing_starts : (is_out : ℕ → Bool) (told : Option (ℕ → Option D)) → ((q : ℕ) → is_some (tree.get nat_cmp all q) ≡ true → (1 ≤ q) × (q ≤ 64)) → ((q k : ℕ) → 1 ≤ q → Most q → k < 3 → is_out (first q + k) ≡ is_some (tree.get nat_cmp all q))
      → IsClosing first three Most all all is_out told
  closing_starts is_out told ranged out = record { some = λ q it at. at; ranged = ranged; out = out; back = go told }
    where
      go : (o : Option (ℕ → Option D)) → IfSome o (λ disks. Behind all disks)
      go None = tt
      go (Some disks) = λ q it at none. absurd (no_entry (sym at ∙ none))

  -- and at last all are back
  pub closing_ends : (left : tree.BTreeMap ℕ V) (is_out : ℕ → Bool) (told : Option (ℕ → Option D)) → IsClosing first three Most all left is_out told → left.entries ≡ []
      → IfSome told (λ disks. (q : ℕ) (it : V) → tree.get nat_cmp all q ≡ Some it → AreThree disks (first q) (three it))
  closing_ends left is_out told c none = go told c.back
    where
      go : (o : Option (ℕ → Option D)) → IfSome o (λ disks. Behind left disks)
          → IfSome o (λ disks. (q : ℕ) (it : V) → tree.get nat_cmp all q ≡ Some it → AreThree disks (first q) (three it))
      go None k = tt
      go (Some disks) k = λ q it at. k q it at (ap (λ (es : List (ℕ × V)). lookup (is_at (nat_cmp q)) es) none)

  pub none_out : (left : tree.BTreeMap ℕ V) (is_out : ℕ → Bool) (told : Option (ℕ → Option D)) → IsClosing first three Most all left is_out told → left.entries ≡ []
      → (q k : ℕ) → 1 ≤ q → Most q → k < 3 → is_out (first q + k) ≡ false
  none_out left is_out told c none q k one most small = c.out q k one most small ∙ ap (λ (es : List (ℕ × V)). is_some (lookup (is_at (nat_cmp q)) es)) none

pub at_end : {X Y : Type 0} (es : List X) (f : X → Y) → None ≡ option_map f (slice_get es 0) → es ≡ []
at_end [] f e = refl
at_end (x ∷ es) f e = absurd cc

-- ---- all numbers

few_tables : (q k number : ℕ) → first_disk q + k ≡ number → number < 192 → q ≤ 64
few_tables q k number is below = omega (arith, is, below)

pub all_below : (is_out : ℕ → Bool) → ((q k : ℕ) → 1 ≤ q → q ≤ 64 → k < 3 → is_out (first_disk q + k) ≡ false) → (k : ℕ) → k < 192 → is_out k ≡ false
all_below is_out none k below =
    let d = disk_of k in
    ap is_out (sym d.is) ∙ none d.party d.k d.one (few_tables d.party d.k k d.is below) d.small

from_clients : (q k number : ℕ) → first_disk q + k ≡ number - 192 → 192 ≤ number → first_client_disk q + k ≡ number
from_clients q k number is above = omega (arith, is, above)

pub all_above : (is_out : ℕ → Bool) → ((q k : ℕ) → 1 ≤ q → k < 3 → is_out (first_client_disk q + k) ≡ false) → (k : ℕ) → 192 ≤ k → is_out k ≡ false
all_above is_out none k above =
    let d = disk_of (k - 192) in
    ap is_out (sym (from_clients d.party d.k k d.is above)) ∙ none d.party d.k d.one d.small

pub all_numbers : (is_out : ℕ → Bool) → ((k : ℕ) → k < 192 → is_out k ≡ false) → ((k : ℕ) → 192 ≤ k → is_out k ≡ false) → (k : ℕ) → is_out k ≡ false
all_numbers is_out below above k = ⊎_elim (below k) (above k) (cases_lt k 192)

-- ---- tables, and clients

abbrev pub of_table : {D : Type 0} → Kept D → D × D × D
of_table it = (stores.disks_at (0, it)).1

abbrev pub of_client : {D : Type 0} → ClientNode D → D × D × D
of_client node = (hosts.disks_at (0, node)).1

abbrev pub AreTablesClosing : {D : Type 0} → (all left : tree.BTreeMap ℕ (Kept D)) → (ℕ → Bool) → Option (ℕ → Option D) → Type 0
AreTablesClosing all left is_out told = IsClosing first_disk of_table (λ q. q ≤ 64) all left is_out told

abbrev pub AreClientsClosing : {D : Type 0} → (all left : tree.BTreeMap ℕ (ClientNode D)) → (ℕ → Bool) → Option (ℕ → Option D) → Type 0
AreClientsClosing all left is_out told = IsClosing first_client_disk of_client (λ q. Unit {0}) all left is_out told

pub table_next : {D : Type 0} (all left : tree.BTreeMap ℕ (Kept D)) (is_out : ℕ → Bool) (told : Option (ℕ → Option D)) → AreTablesClosing all left is_out told → (t : ℕ) (disks : D × D × D)
    → Some (t, disks) ≡ option_map stores.disks_at (slice_get left.entries 0) → IsNext first_disk is_out t
table_next all left is_out told c t disks next = next_one first_disk of_table (λ q. q ≤ 64) (λ q most. most) tables_apart all left is_out told c t disks next

pub table_gone : {D : Type 0} (all left after : tree.BTreeMap ℕ (Kept D)) (t : ℕ) (disks : D × D × D) → IsStrictlySortedBy nat_cmp (keys_of left.entries)
    → Some (t, disks) ≡ option_map stores.disks_at (slice_get left.entries 0) → after.entries ≡ drop 1 left.entries
    → (tree.get nat_cmp after t ≡ None) × IsStrictlySortedBy nat_cmp (keys_of after.entries)
table_gone all left after t disks sorted next others = first_gone first_disk of_table (λ q. q ≤ 64) (λ q most. most) tables_apart all left after t disks sorted next others

pub table_goes : {D : Type 0} (all left after : tree.BTreeMap ℕ (Kept D)) (is_out out : ℕ → Bool) (old new : Option (ℕ → Option D)) → ((q : ℕ) (x : Kept D) → tree.get nat_cmp all q ≡ Some x → 1 ≤ q)
    → AreTablesClosing all left is_out old → (t : ℕ) (disks : D × D × D) → Some (t, disks) ≡ option_map stores.disks_at (slice_get left.entries 0) → after.entries ≡ drop 1 left.entries
    → tree.get nat_cmp after t ≡ None → ((k : ℕ) → out k ≡ without_three (first_disk t) is_out k) → TellsThree old new (first_disk t) disks → AreTablesClosing all after out new
table_goes all left after is_out out old new ones c t disks next others none outs told =
    goes_back first_disk of_table (λ q. q ≤ 64) (λ q most. most) tables_apart all left after is_out out old new ones c t disks next others none outs told

pub client_next : {D : Type 0} (all left : tree.BTreeMap ℕ (ClientNode D)) (is_out : ℕ → Bool) (told : Option (ℕ → Option D)) → AreClientsClosing all left is_out told → (t : ℕ) (disks : D × D × D)
    → Some (t, disks) ≡ option_map hosts.disks_at (slice_get left.entries 0) → IsNext first_client_disk is_out t
client_next all left is_out told c t disks next = next_one first_client_disk of_client (λ q. Unit {0}) (λ q most. tt) clients_apart all left is_out told c t disks next

pub client_goes : {D : Type 0} (all left after : tree.BTreeMap ℕ (ClientNode D)) (is_out out : ℕ → Bool) (old new : Option (ℕ → Option D))
    → ((q : ℕ) (x : ClientNode D) → tree.get nat_cmp all q ≡ Some x → 1 ≤ q) → AreClientsClosing all left is_out old → (t : ℕ) (disks : D × D × D)
    → Some (t, disks) ≡ option_map hosts.disks_at (slice_get left.entries 0) → after.entries ≡ drop 1 left.entries → tree.get nat_cmp after t ≡ None
    → ((k : ℕ) → out k ≡ without_three (first_client_disk t) is_out k) → TellsThree old new (first_client_disk t) disks → AreClientsClosing all after out new
client_goes all left after is_out out old new ones c t disks next others none outs told =
    goes_back first_client_disk of_client (λ q. Unit {0}) (λ q most. tt) clients_apart all left after is_out out old new ones c t disks next others none outs told

-- what is out elsewhere stays as it was
pub above_stays : (entry is_out out : ℕ → Bool) (t : ℕ) → t ≤ 64 → ((k : ℕ) → out k ≡ without_three (first_disk t) is_out k) → ((k : ℕ) → 192 ≤ k → is_out k ≡ entry k)
    → (k : ℕ) → 192 ≤ k → out k ≡ entry k
above_stays entry is_out out t most outs was k above = outs k ∙ (away k (first_disk t) is_out (above_tables k t most above) ∙ was k above)

pub below_stays : (entry is_out out : ℕ → Bool) (t : ℕ) → ((k : ℕ) → out k ≡ without_three (first_client_disk t) is_out k) → ((k : ℕ) → k < 192 → is_out k ≡ entry k)
    → (k : ℕ) → k < 192 → out k ≡ entry k
below_stays entry is_out out t outs was k below = outs k ∙ (away k (first_client_disk t) is_out (below_clients k t below) ∙ was k below)
