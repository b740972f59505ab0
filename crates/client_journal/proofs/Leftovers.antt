-- Sets of names, and the chunks that are left over of what is at work.
use Rattle.std.proofs.Common.{◌≡◌, inl, inr, ⊎_elim, ◌⊎◌, ◌<◌, ◌+◌, ℕ, Bool, true, false, cond, List, [], ◌∷◌, ◌++◌, map, Option, Some, None, refl, sym, ◌∙◌, ap, subst, arith}
use Rattle.std.specs.Prelude.{◌==◌, ◌&&◌, nat_lt, filter, IsSome}
use Rattle.std.specs.declared.cmp.Ordering.{Ordering}
use Rattle.std.specs.declared.cmp.Ordering.TheVariants.{Less, Equal, Greater}
use Rattle.std.specs.Ordering.{is_eq, match_ordering}
use Rattle.std.specs.BTreeMap.{is_at}
use Rattle.std.specs.BTreeSet.{insert_key}
use Rattle.std.specs.Map.{lookup, keys_of}
use Rattle.std.specs.List.{AllByRecursion}
use Rattle.std.specs.List.Sorted.{IsStrictlySortedBy}
use Rattle.std.proofs.lemmas.Bool.Decides.{nat_tests}
use Rattle.stab_base.specs.declared.chunk_name.ChunkName.{ChunkName}
use Rattle.held_value.specs.declared.local_name.LocalName.{LocalName}
use Rattle.chunk_store.specs.Payload.{name_cmp}
use Rattle.chunk_store.specs.Standing.{chunk_in}
use Rattle.plan_log.specs.declared.plan.Intend.{Intend}
use Rattle.plan_log.specs.declared.plan.Commit.{Commit}
use Rattle.plan_log.specs.Journal.{AtWork, Idle, Intended, Committed}
use Rattle.client_journal.specs.Names.{is_among, Has}
use Rattle.client_journal.specs.Devs.{ClientDevs, chunk_of, local_of, local_in}
use Rattle.client_journal.specs.NamedSlots.{AreDifferent, IsNewOf, IsLeft}
use Rattle.client_journal.specs.Agenda.{AreLeftovers}
use Rattle.client_journal.specs.Recover.{Among, AreStillThere}
use Rattle.client_journal.proofs.Lookups.{one_local, name_itself, has_cases, has_head, has_tail}

one_name : (a b : ChunkName) → is_at (name_cmp a) b ≡ true → a ≡ b
one_name a b is = ap chunk_of (one_local (local_of a) (local_of b) is)

-- ---- lists

has_push : (q x : LocalName) (xs : List LocalName) → Has (xs ++ x ∷ []) q → Has xs q ⊎ (q ≡ x)
has_push q x [] h = ⊎_elim inr (λ none. absurd cc) (has_cases x q [] h)
has_push q x (y ∷ ys) h = ⊎_elim (λ same. inl (has_head y q ys same)) (λ more. ⊎_elim (λ a. inl (has_tail y q ys a)) inr (has_push q x ys more)) (has_cases y q (ys ++ x ∷ []) h)

push_has : (q x : LocalName) (xs : List LocalName) → Has xs q ⊎ (q ≡ x) → Has (xs ++ x ∷ []) q
push_has q x [] h = ⊎_elim (λ none. absurd cc) (λ same. has_head x q [] same) h
push_has q x (y ∷ ys) h = ⊎_elim (λ has. ⊎_elim (λ same. has_head y q (ys ++ x ∷ []) same) (λ more. has_tail y q (ys ++ x ∷ []) (push_has q x ys (inl more))) (has_cases y q ys has)) (λ same. has_tail y q (ys ++ x ∷ []) (push_has q x ys (inr same))) h

both_true : (a b : Bool) → a && b ≡ true → (a ≡ true) × (b ≡ true)
both_true true true h = (refl, refl)
both_true true false h = absurd cc
both_true false b h = absurd cc

among_filter : (p : ChunkName → Bool) (q : ChunkName) (xs : List ChunkName) → Among q (filter p xs) → (p q ≡ true) × Among q xs
among_filter p q [] h = absurd h
among_filter p q (x ∷ xs) h = pick (among_filter p q xs) (p x) refl h
  where
    pick : (Among q (filter p xs) → (p q ≡ true) × Among q xs) → (b : Bool) → p x ≡ b → Among q (cond b (x ∷ filter p xs) (filter p xs)) → (p q ≡ true) × Among q (x ∷ xs)
    pick go_ true is a = ⊎_elim (λ same. (ap p same ∙ is, inl same)) (λ more. let r = go_ more in (r.0, inr r.1)) a
    pick go_ false is a = let r = go_ a in (r.0, inr r.1)

filter_among : (p : ChunkName → Bool) (q : ChunkName) (xs : List ChunkName) → p q ≡ true → Among q xs → Among q (filter p xs)
filter_among p q [] is h = absurd h
filter_among p q (x ∷ xs) is h = pick (filter_among p q xs is) (p x) refl h
  where
    pick : (Among q xs → Among q (filter p xs)) → (b : Bool) → p x ≡ b → Among q (x ∷ xs) → Among q (cond b (x ∷ filter p xs) (filter p xs))
    pick go_ true at_ a = ⊎_elim (λ same. inl same) (λ more. inr (go_ more)) a
    pick go_ false at_ a = ⊎_elim (λ same. let t : p x ≡ true = sym (ap p same) ∙ is in absurd cc) go_ a

-- ---- sets of names

among_insert : (q k : ChunkName) (ks : List ChunkName) → Among q (insert_key name_cmp ks k) → (q ≡ k) ⊎ Among q ks
among_insert q k [] h = h
among_insert q k (x ∷ xs) h = pick (among_insert q k xs) (name_cmp k x) h
  where
    pick : (Among q (insert_key name_cmp xs k) → (q ≡ k) ⊎ Among q xs) → (o : Ordering) → Among q (match_ordering o (k ∷ x ∷ xs) (x ∷ xs) (x ∷ insert_key name_cmp xs k)) → (q ≡ k) ⊎ Among q (x ∷ xs)
    pick go_ Less a = a
    pick go_ Equal a = inr a
    pick go_ Greater a = ⊎_elim (λ same. inr (inl same)) (λ more. ⊎_elim (λ same. inl same) (λ rest. inr (inr rest)) (go_ more)) a

insert_among : (q k : ChunkName) (ks : List ChunkName) → (q ≡ k) ⊎ Among q ks → Among q (insert_key name_cmp ks k)
insert_among q k [] h = h
insert_among q k (x ∷ xs) h = pick (insert_among q k xs) (name_cmp k x) refl h
  where
    pick : ((q ≡ k) ⊎ Among q xs → Among q (insert_key name_cmp xs k)) → (o : Ordering) → name_cmp k x ≡ o → (q ≡ k) ⊎ Among q (x ∷ xs)
        → Among q (match_ordering o (k ∷ x ∷ xs) (x ∷ xs) (x ∷ insert_key name_cmp xs k))
    pick go_ Less is a = a
    pick go_ Equal is a = ⊎_elim (λ same. inl (same ∙ one_name k x (ap is_eq is))) (λ more. more) a
    pick go_ Greater is a = ⊎_elim (λ same. inr (go_ (inl same))) (λ more. ⊎_elim (λ same. inl same) (λ rest. inr (go_ (inr rest))) more) a

all_less : (x q : ChunkName) (xs : List ChunkName) → AllByRecursion (λ y. name_cmp x y ≡ Less) xs → Among q xs → name_cmp x q ≡ Less
all_less x q [] all among = absurd among
all_less x q (y ∷ ys) all among = ⊎_elim (λ same. ap (name_cmp x) same ∙ all.0) (λ more. all_less x q ys all.1 more) among

-- the names of a map are those that have a chunk
keys_found : (q : ChunkName) (es : List (ChunkName × List ℕ)) → Among q (keys_of es) → IsSome (chunk_in es q)
keys_found q [] h = absurd h
keys_found q (e ∷ es) h = pick (keys_found q es) (is_at (name_cmp q) e.0) refl h
  where
    pick : (Among q (keys_of es) → IsSome (chunk_in es q)) → (b : Bool) → is_at (name_cmp q) e.0 ≡ b → Among q (e.0 ∷ keys_of es) → IsSome (cond b (Some e.1) (chunk_in es q))
    pick go_ true is a = refl
    pick go_ false is a = ⊎_elim (λ same. let t : is_at (name_cmp q) e.0 ≡ true = subst (λ (k : ChunkName). is_at (name_cmp q) k ≡ true) same (name_itself q) in absurd cc) go_ a

found_keys : (q : ChunkName) (es : List (ChunkName × List ℕ)) → IsSome (chunk_in es q) → Among q (keys_of es)
found_keys q [] h = absurd cc
found_keys q (e ∷ es) h = pick (found_keys q es) (is_at (name_cmp q) e.0) refl h
  where
    pick : (IsSome (chunk_in es q) → Among q (keys_of es)) → (b : Bool) → is_at (name_cmp q) e.0 ≡ b → IsSome (cond b (Some e.1) (chunk_in es q)) → Among q (e.0 ∷ keys_of es)
    pick go_ true is a = inl (one_name q e.0 is)
    pick go_ false is a = inr (go_ a)

-- ---- local names of them

has_local : (q : LocalName) (xs : List ChunkName) → Has (map local_of xs) q → Among (chunk_of q) xs
has_local q [] h = absurd cc
has_local q (x ∷ xs) h = ⊎_elim (λ same. inl (ap chunk_of same)) (λ more. inr (has_local q xs more)) (has_cases (local_of x) q (map local_of xs) h)

local_has : (q : LocalName) (xs : List ChunkName) → Among (chunk_of q) xs → Has (map local_of xs) q
local_has q [] h = absurd h
local_has q (x ∷ xs) h = ⊎_elim (λ same. has_head (local_of x) q (map local_of xs) (ap local_of same)) (λ more. has_tail (local_of x) q (map local_of xs) (local_has q xs more)) h

rising_different : (names : List ChunkName) → IsStrictlySortedBy name_cmp names → AreDifferent (map local_of names)
unfolding IsStrictlySortedBy
rising_different [] h = tt
rising_different (x ∷ xs) h = (none (is_among (map local_of xs) (local_of x)) refl, rising_different xs h.1)
  where
    none : (b : Bool) → is_among (map local_of xs) (local_of x) ≡ b → b ≡ false
    none false is = refl
    none true is =
        let less = all_less x x xs h.0 (has_local (local_of x) xs is) in
        let equal = name_itself x in
        let no : false ≡ true = sym (ap is_eq less) ∙ equal in
        absurd cc

some_chunk : (o : Option (List ℕ)) (bytes : List ℕ) → o ≡ Some bytes → IsSome o
some_chunk (Some x) bytes is = refl
some_chunk None bytes is = absurd cc

-- ---- those that are still there

module _ (cs : List (ChunkName × List ℕ)) (old : List LocalName) (found : List ChunkName) (name : LocalName) (s : AreStillThere cs old found) where
  pub there_more : IsSome (local_in cs name) → AreStillThere cs (old ++ name ∷ []) (insert_key name_cmp found (chunk_of name))
  there_more there = record {
    only = λ q among. ⊎_elim
        (λ same. let one : q ≡ name = ap local_of same in (push_has q name old (inr one), subst (λ (k : LocalName). IsSome (local_in cs k)) (sym one) there))
        (λ more. let r = s.only q more in (push_has q name old (inl r.0), r.1))
        (among_insert (chunk_of q) (chunk_of name) found among);
    all = λ q has some. insert_among (chunk_of q) (chunk_of name) found (⊎_elim (λ a. inr (s.all q a some)) (λ same. inl (ap chunk_of same)) (has_push q name old has));
  }

  pub there_none : (IsSome (local_in cs name) → ⊥) → AreStillThere cs (old ++ name ∷ []) found
  there_none none = record {
    only = λ q among. let r = s.only q among in (push_has q name old (inl r.0), r.1);
    all = λ q has some. ⊎_elim (λ a. s.all q a some) (λ same. absurd (none (subst (λ (k : LocalName). IsSome (local_in cs k)) same some))) (has_push q name old has);
  }

pub nothing_there : (cs : List (ChunkName × List ℕ)) → AreStillThere cs [] []
nothing_there cs = record { only = λ q none. absurd none; all = λ q has some. absurd cc }

-- ---- what is left over

abbrev IsWork : ClientDevs → AtWork → Type 0
IsWork d work = d.journal.at_work ≡ work

pub none_left : (d : ClientDevs) → IsWork d Idle → AreLeftovers d []
none_left d is = record {
  left = λ name none. absurd cc;
  all = λ name bytes left h. absurd (subst (λ (w : AtWork). IsLeft w name) is left);
  different = tt;
  there = λ name none. absurd cc;
}

module _ (d : ClientDevs) (names : List ChunkName) (rising : IsStrictlySortedBy name_cmp names) where
  pub drops_left : (commit : Commit) → IsWork d (Committed commit) → AreStillThere d.chunks commit.drops names → AreLeftovers d (map local_of names)
  drops_left commit is s = record {
    left = λ name has. subst (λ (w : AtWork). IsLeft w name) (sym is) (s.only name (has_local name names has)).0;
    all = λ name bytes left h. local_has name names (s.all name (subst (λ (w : AtWork). IsLeft w name) is left) (some_chunk (local_in d.chunks name) bytes h));
    different = rising_different names rising;
    there = λ name has. (s.only name (has_local name names has)).1;
  }

  module _ (intend : Intend) where
    abbrev is_new : ChunkName → Bool
    is_new name = (name.version == intend.plan) && nat_lt name.ordinal intend.chunks

    new_of : (name : LocalName) → is_new (chunk_of name) ≡ true → IsNewOf intend.plan intend.chunks name
    new_of name h = let b = both_true (name.plan == intend.plan) (nat_lt name.ordinal intend.chunks) h in let v = b.0 in let o = b.1 in record { plan_is = grind (arith, nat_tests); ordinal = grind (arith, nat_tests) }

    of_new : (name : LocalName) → IsNewOf intend.plan intend.chunks name → is_new (chunk_of name) ≡ true
    of_new name n =
        let v = n.plan_is in
        let o = n.ordinal in
        let a : (name.plan == intend.plan) ≡ true = grind (arith, nat_tests) in
        let b : nat_lt name.ordinal intend.chunks ≡ true = grind (arith, nat_tests) in
        ap (λ (t : Bool). t && nat_lt name.ordinal intend.chunks) a ∙ b

    pub brought_left : IsWork d (Intended intend) → names ≡ filter is_new (keys_of d.chunks) → AreLeftovers d (map local_of names)
    brought_left is are = record {
      left = λ name has. subst (λ (w : AtWork). IsLeft w name) (sym is) (new_of name (here name has).0);
      all = λ name bytes left h.
          local_has name names
          (subst (λ (l : List ChunkName). Among (chunk_of name) l) (sym are)
          (filter_among is_new (chunk_of name) (keys_of d.chunks) (of_new name (subst (λ (w : AtWork). IsLeft w name) is left)) (found_keys (chunk_of name) d.chunks (some_chunk (local_in d.chunks name) bytes h))));
      different = rising_different names rising;
      there = λ name has. keys_found (chunk_of name) d.chunks (here name has).1;
    }
      where
        here : (name : LocalName) → Has (map local_of names) name → (is_new (chunk_of name) ≡ true) × Among (chunk_of name) (keys_of d.chunks)
        here name has = among_filter is_new (chunk_of name) (keys_of d.chunks) (subst (λ (l : List ChunkName). Among (chunk_of name) l) are (has_local name names has))
