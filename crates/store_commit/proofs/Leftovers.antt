-- Sets of names, and the names that an open entry has left.
use Rattle.std.proofs.Common.{◌≡◌, inl, inr, ⊎_elim, ◌⊎◌, ◌<◌, ◌+◌, ℕ, Bool, true, false, cond, List, [], ◌∷◌, ◌++◌, Option, Some, None, refl, sym, ◌∙◌, ap, subst, arith}
use Rattle.std.specs.Prelude.{◌==◌, ◌&&◌, nat_lt, filter, IsSome}
use Rattle.std.specs.declared.cmp.Ordering.{Ordering}
use Rattle.std.specs.declared.cmp.Ordering.TheVariants.{Less, Equal, Greater}
use Rattle.std.specs.Ordering.{is_eq, match_ordering}
use Rattle.std.specs.BTreeMap.{is_at}
use Rattle.std.specs.BTreeSet.{insert_key}
use Rattle.std.specs.Map.{lookup, keys_of}
use Rattle.std.specs.List.{AllByRecursion}
use Rattle.std.specs.List.Sorted.{IsStrictlySortedBy}
use Rattle.std.proofs.lemmas.Bool.Decides.{nat_tests}
use Rattle.stab_base.specs.declared.chunk_name.ChunkName.{ChunkName}
use Rattle.chunk_store.specs.Payload.{name_cmp}
use Rattle.chunk_store.specs.Standing.{chunk_in}
use Rattle.row_store.specs.Data.{version_of}
use Rattle.status_log.specs.Entry.{Entry}
use Rattle.store_commit.specs.Devs.{Devs}
use Rattle.store_commit.specs.NamedChunks.{Among, AreDifferent, IsNewOf, left_of, IsLeft}
use Rattle.store_commit.specs.Agenda.{AreLeftovers}
use Rattle.store_commit.specs.Recover.{AreStillThere}
use Rattle.store_commit.proofs.Lookups.{one_name, name_itself}

-- ---- lists

pub among_push : {X : Type 0} (q x : X) (xs : List X) → Among q (xs ++ x ∷ []) → Among q xs ⊎ (q ≡ x)
among_push q x [] h = ⊎_elim (λ same. inr same) (λ none. absurd none) h
among_push q x (y ∷ ys) h = ⊎_elim (λ same. inl (inl same)) (λ more. ⊎_elim (λ a. inl (inr a)) (λ same. inr same) (among_push q x ys more)) h

pub push_among : {X : Type 0} (q x : X) (xs : List X) → Among q xs ⊎ (q ≡ x) → Among q (xs ++ x ∷ [])
push_among q x [] h = ⊎_elim (λ none. absurd none) (λ same. inl same) h
push_among q x (y ∷ ys) h = ⊎_elim (λ among. ⊎_elim (λ same. inl same) (λ more. inr (push_among q x ys (inl more))) among) (λ same. inr (push_among q x ys (inr same))) h

both_true : (a b : Bool) → a && b ≡ true → (a ≡ true) × (b ≡ true)
both_true true true h = (refl, refl)
both_true true false h = absurd cc
both_true false b h = absurd cc

pub among_filter : {X : Type 0} (p : X → Bool) (q : X) (xs : List X) → Among q (filter p xs) → (p q ≡ true) × Among q xs
among_filter p q [] h = absurd h
among_filter {X} p q (x ∷ xs) h = pick (among_filter p q xs) (p x) refl h
  where
    pick : (Among q (filter p xs) → (p q ≡ true) × Among q xs) → (b : Bool) → p x ≡ b → Among q (cond b (x ∷ filter p xs) (filter p xs)) → (p q ≡ true) × Among q (x ∷ xs)
    pick go true is a = ⊎_elim (λ same. (ap p same ∙ is, inl same)) (λ more. let r = go more in (r.0, inr r.1)) a
    pick go false is a = let r = go a in (r.0, inr r.1)

pub filter_among : {X : Type 0} (p : X → Bool) (q : X) (xs : List X) → p q ≡ true → Among q xs → Among q (filter p xs)
filter_among p q [] is h = absurd h
filter_among {X} p q (x ∷ xs) is h = pick (filter_among p q xs is) (p x) refl h
  where
    pick : (Among q xs → Among q (filter p xs)) → (b : Bool) → p x ≡ b → Among q (x ∷ xs) → Among q (cond b (x ∷ filter p xs) (filter p xs))
    pick go true at a = ⊎_elim (λ same. inl same) (λ more. inr (go more)) a
    pick go false at a = ⊎_elim (λ same. let t : p x ≡ true = sym (ap p same) ∙ is in absurd cc) go a

pub filter_different : {X : Type 0} (p : X → Bool) (xs : List X) → AreDifferent xs → AreDifferent (filter p xs)
filter_different p [] h = tt
filter_different {X} p (x ∷ xs) h = pick (p x) (filter_different p xs h.1)
  where
    pick : (b : Bool) → AreDifferent (filter p xs) → AreDifferent (cond b (x ∷ filter p xs) (filter p xs))
    pick true go = (λ among. h.0 (among_filter p x xs among).1, go)
    pick false go = go

-- ---- sets of names

pub among_insert : (q k : ChunkName) (ks : List ChunkName) → Among q (insert_key name_cmp ks k) → (q ≡ k) ⊎ Among q ks
among_insert q k [] h = h
among_insert q k (x ∷ xs) h = pick (among_insert q k xs) (name_cmp k x) h
  where
    pick : (Among q (insert_key name_cmp xs k) → (q ≡ k) ⊎ Among q xs) → (o : Ordering) → Among q (match_ordering o (k ∷ x ∷ xs) (x ∷ xs) (x ∷ insert_key name_cmp xs k)) → (q ≡ k) ⊎ Among q (x ∷ xs)
    pick go Less a = a
    pick go Equal a = inr a
    pick go Greater a = ⊎_elim (λ same. inr (inl same)) (λ more. ⊎_elim (λ same. inl same) (λ rest. inr (inr rest)) (go more)) a

pub insert_among : (q k : ChunkName) (ks : List ChunkName) → (q ≡ k) ⊎ Among q ks → Among q (insert_key name_cmp ks k)
insert_among q k [] h = h
insert_among q k (x ∷ xs) h = pick (insert_among q k xs) (name_cmp k x) refl h
  where
    pick : ((q ≡ k) ⊎ Among q xs → Among q (insert_key name_cmp xs k)) → (o : Ordering) → name_cmp k x ≡ o → (q ≡ k) ⊎ Among q (x ∷ xs)
        → Among q (match_ordering o (k ∷ x ∷ xs) (x ∷ xs) (x ∷ insert_key name_cmp xs k))
    pick go Less is a = a
    pick go Equal is a = ⊎_elim (λ same. inl (same ∙ one_name k x (ap is_eq is))) (λ more. more) a
    pick go Greater is a = ⊎_elim (λ same. inr (go (inl same))) (λ more. ⊎_elim (λ same. inl same) (λ rest. inr (go (inr rest))) more) a

all_less : (x q : ChunkName) (xs : List ChunkName) → AllByRecursion (λ y. name_cmp x y ≡ Less) xs → Among q xs → name_cmp x q ≡ Less
all_less x q [] all among = absurd among
all_less x q (y ∷ ys) all among = ⊎_elim (λ same. ap (name_cmp x) same ∙ all.0) (λ more. all_less x q ys all.1 more) among

pub rising_different : (names : List ChunkName) → IsStrictlySortedBy name_cmp names → AreDifferent names
unfolding IsStrictlySortedBy
rising_different [] h = tt
rising_different (x ∷ xs) h = (λ among. let less = all_less x x xs h.0 among in let equal = name_itself x in let no : false ≡ true = sym (ap is_eq less) ∙ equal in absurd cc, rising_different xs h.1)

-- the names of a map are those that have a chunk
pub keys_found : (q : ChunkName) (es : List (ChunkName × List ℕ)) → Among q (keys_of es) → IsSome (chunk_in es q)
keys_found q [] h = absurd h
keys_found q (e ∷ es) h = pick (keys_found q es) (is_at (name_cmp q) e.0) refl h
  where
    pick : (Among q (keys_of es) → IsSome (chunk_in es q)) → (b : Bool) → is_at (name_cmp q) e.0 ≡ b → Among q (e.0 ∷ keys_of es) → IsSome (cond b (Some e.1) (chunk_in es q))
    pick go true is a = refl
    pick go false is a = ⊎_elim (λ same. let t : is_at (name_cmp q) e.0 ≡ true = subst (λ (k : ChunkName). is_at (name_cmp q) k ≡ true) same (name_itself q) in absurd cc) go a

pub found_keys : (q : ChunkName) (es : List (ChunkName × List ℕ)) → IsSome (chunk_in es q) → Among q (keys_of es)
found_keys q [] h = absurd cc
found_keys q (e ∷ es) h = pick (found_keys q es) (is_at (name_cmp q) e.0) refl h
  where
    pick : (IsSome (chunk_in es q) → Among q (keys_of es)) → (b : Bool) → is_at (name_cmp q) e.0 ≡ b → IsSome (cond b (Some e.1) (chunk_in es q)) → Among q (e.0 ∷ keys_of es)
    pick go true is a = inl (one_name q e.0 is)
    pick go false is a = inr (go a)

-- ---- those that are still there

module _ (map : List (ChunkName × List ℕ)) (old found : List ChunkName) (name : ChunkName) (s : AreStillThere map old found) where
  pub there_more : IsSome (chunk_in map name) → AreStillThere map (old ++ name ∷ []) (insert_key name_cmp found name)
  there_more there = record {
    only = λ q among. ⊎_elim
        (λ same. (push_among q name old (inr same), subst (λ (k : ChunkName). IsSome (chunk_in map k)) (sym same) there))
        (λ more. let r = s.only q more in (push_among q name old (inl r.0), r.1))
        (among_insert q name found among);
    all = λ q among some. insert_among q name found (⊎_elim (λ a. inr (s.all q a some)) (λ same. inl same) (among_push q name old among));
  }

  pub there_none : (IsSome (chunk_in map name) → ⊥) → AreStillThere map (old ++ name ∷ []) found
  there_none none = record {
    only = λ q among. let r = s.only q among in (push_among q name old (inl r.0), r.1);
    all = λ q among some. ⊎_elim (λ a. s.all q a some) (λ same. absurd (none (subst (λ (k : ChunkName). IsSome (chunk_in map k)) same some))) (among_push q name old among);
  }

-- ---- what is left of an entry

one_entry : (a b : Entry) → Some a ≡ Some b → a ≡ b
one_entry a b same = cc

some_chunk : (o : Option (List ℕ)) (bytes : List ℕ) → o ≡ Some bytes → IsSome o
some_chunk (Some x) bytes is = refl
some_chunk None bytes is = absurd cc

pub none_left : (d : Devs) → d.pending ≡ None → AreLeftovers d []
none_left d is = record {
  left = λ name none. absurd none;
  all = λ name bytes entry open_ left h. let no : Some entry ≡ None = sym open_ ∙ is in absurd cc;
  different = tt;
  there = λ name none. absurd none;
}

module _ (d : Devs) (entry : Entry) (is : d.pending ≡ Some entry) (names : List ChunkName) (rising : IsStrictlySortedBy name_cmp names) where
  pub old_left : version_of d.held entry.row ≡ entry.version → AreStillThere d.chunks entry.old names → AreLeftovers d names
  old_left same s = record {
    left = λ name among. (entry, is, subst (λ (b : Bool). left_of b entry name) (sym put) (s.only name among).0);
    all = λ name bytes e open_ left h.
        let one = one_entry entry e (sym is ∙ open_) in
        let old = subst (λ (b : Bool). left_of b entry name) put (subst (λ (x : Entry). IsLeft d.held x name) (sym one) left) in
        s.all name old (some_chunk (chunk_in d.chunks name) bytes h);
    different = rising_different names rising;
    there = λ name among. (s.only name among).1;
  }
    where
      put : (version_of d.held entry.row == entry.version) ≡ true
      put = grind (arith, nat_tests)

  abbrev is_new : ChunkName → Bool
  is_new name = (name.version == entry.version) && nat_lt name.ordinal entry.fresh

  new_of : (name : ChunkName) → is_new name ≡ true → IsNewOf entry name
  new_of name h = let b = both_true (name.version == entry.version) (nat_lt name.ordinal entry.fresh) h in let v = b.0 in let o = b.1 in record { version = grind (arith, nat_tests); ordinal = grind (arith, nat_tests) }

  of_new : (name : ChunkName) → IsNewOf entry name → is_new name ≡ true
  of_new name n =
      let v = n.version in
      let o = n.ordinal in
      let a : (name.version == entry.version) ≡ true = grind (arith, nat_tests) in
      let b : nat_lt name.ordinal entry.fresh ≡ true = grind (arith, nat_tests) in
      ap (λ (t : Bool). t && nat_lt name.ordinal entry.fresh) a ∙ b

  pub new_left : (version_of d.held entry.row ≡ entry.version → ⊥) → names ≡ filter is_new (keys_of d.chunks) → AreLeftovers d names
  new_left other are = record {
    left = λ name among. (entry, is, subst (λ (b : Bool). left_of b entry name) (sym not_put) (new_of name (here name among).0));
    all = λ name bytes e open_ left h.
        let one = one_entry entry e (sym is ∙ open_) in
        let new = subst (λ (b : Bool). left_of b entry name) not_put (subst (λ (x : Entry). IsLeft d.held x name) (sym one) left) in
        subst (λ (l : List ChunkName). Among name l) (sym are) (filter_among is_new name (keys_of d.chunks) (of_new name new) (found_keys name d.chunks (some_chunk (chunk_in d.chunks name) bytes h)));
    different = rising_different names rising;
    there = λ name among. keys_found name d.chunks (here name among).1;
  }
    where
      not_put : (version_of d.held entry.row == entry.version) ≡ false
      not_put = grind (arith, nat_tests)

      here : (name : ChunkName) → Among name names → (is_new name ≡ true) × Among name (keys_of d.chunks)
      here name among = among_filter is_new name (keys_of d.chunks) (subst (λ (l : List ChunkName). Among name l) are among)
