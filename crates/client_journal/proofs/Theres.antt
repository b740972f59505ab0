-- The loops that see whether a row's slots are there.
use Rattle.std.proofs.Common.{◌≡◌, inl, inr, ⊎_elim, ◌⊎◌, ℕ, suc, ◌+◌, ◌<◌, ◌≤◌, Bool, true, false, cond, not, List, [], ◌∷◌, ◌++◌, length, get_or, take, drop, Option, Some, None, refl, sym, ◌∙◌, ap, subst, arith, add-one, append_assoc}
use Rattle.std.specs.Prelude.{◌==◌, ◌&&◌, ◌||◌, option_map}
use Rattle.std.specs.declared.cmp.Ordering.{Ordering}
use Rattle.std.specs.declared.cmp.Ordering.TheVariants.{Less, Equal, Greater}
use Rattle.std.specs.Ordering.{is_eq, nat_cmp, ordering_then}
use Rattle.std.specs.Cmp.{eq_by_cmp_equiv}
use Rattle.std.specs.List.{list_any, list_all}
use Rattle.std.specs.BTreeMap.{is_at}
use Rattle.std.specs.BTreeSet.{BTreeSet, keys, contains}
use Rattle.std.proofs.Common.{drop-cons}
use Rattle.std.proofs.lemmas.Bool.Decides.{nat_tests}
use Rattle.std.proofs.lemmas.List.{take_more, drop_all, take_all}
use Rattle.std.proofs.lemmas.List.Folds.{list_any-append}
use Rattle.stab_base.specs.declared.chunk_name.ChunkName.{ChunkName}
use Rattle.held_value.specs.declared.local_name.LocalName.{LocalName}
use Rattle.held_value.specs.declared.content.HeldPiece.{HeldPiece}
use Rattle.held_value.specs.declared.content.HeldObject.{HeldObject}
use Rattle.chunker.specs.Sized.{count_of, len_at}
use Rattle.chunk_store.specs.Payload.{name_cmp}
use Rattle.slot_store.specs.declared.held.RowKey.{RowKey}
use Rattle.slot_store.specs.Data.{key_cmp}
use Rattle.slot_store.proofs.Keys.{key_cmp_total}
use Rattle.client_journal.specs.Names.{same_name, is_among, names_of_pieces, names_of_objects}
use Rattle.client_journal.specs.Devs.{chunk_of}
use Rattle.client_journal.specs.There.{has_len, has_lens, lens_from, repeats, shares, HasNames, HasKeys, is_key_among}

-- ---- lengths

pub len_some : (o : Option (List ℕ)) (found len : ℕ) → Some found ≡ option_map length o → (found == len) ≡ has_len o len
len_some None found len is = absurd cc
len_some (Some bytes) found len is = let same : found ≡ length bytes = cc in ap (λ (n : ℕ). n == len) same

pub len_none : (o : Option (List ℕ)) (len : ℕ) → None ≡ option_map length o → false ≡ has_len o len
len_none None len is = refl
len_none (Some bytes) len is = absurd cc

rest_of : {A : Type 0} (xs : List A) (i : ℕ) (x e : A) → i < length xs → x ≡ get_or xs i e → drop i xs ≡ x ∷ drop (i + 1) xs
rest_of {A} xs i x e lt is = drop-cons xs i e lt ∙ ap (λ (y : A). y ∷ drop (suc i) xs) (sym is) ∙ ap (λ (j : ℕ). x ∷ drop j xs) (sym (add-one i))

module _ (stands : LocalName → Option (List ℕ)) (size len : ℕ) (pieces : List HeldPiece) (i : ℕ) (piece e : HeldPiece) (lt : i < length pieces) (is : piece ≡ get_or pieces i e) (so_far : lens_from stands size len i (drop i pieces) ≡ lens_from stands size len 0 pieces) where
  one : lens_from stands size len i (drop i pieces) ≡ has_len (stands piece.local) (len_at size len i) && lens_from stands size len (i + 1) (drop (i + 1) pieces)
  one = ap (lens_from stands size len i) (rest_of pieces i piece e lt is)

  pub lens_more : has_len (stands piece.local) (len_at size len i) ≡ true → lens_from stands size len (i + 1) (drop (i + 1) pieces) ≡ lens_from stands size len 0 pieces
  lens_more yes_ = sym (ap (λ (b : Bool). b && lens_from stands size len (i + 1) (drop (i + 1) pieces)) yes_) ∙ (sym one ∙ so_far)

  pub lens_wrong : has_len (stands piece.local) (len_at size len i) ≡ false → lens_from stands size len 0 pieces ≡ false
  lens_wrong no_ = sym so_far ∙ (one ∙ ap (λ (b : Bool). b && lens_from stands size len (i + 1) (drop (i + 1) pieces)) no_)

pub lens_end : (stands : LocalName → Option (List ℕ)) (size len : ℕ) (pieces : List HeldPiece) (i : ℕ) → length pieces ≤ i → lens_from stands size len i (drop i pieces) ≡ lens_from stands size len 0 pieces → lens_from stands size len 0 pieces ≡ true
lens_end stands size len pieces i le so_far = sym so_far ∙ ap (lens_from stands size len i) (drop_all i pieces le)

-- ---- all of them

module _ {A : Type 0} (p : A → Bool) (xs : List A) (i : ℕ) (so_far : list_all p (drop i xs) ≡ list_all p xs) where
  module _ (x e : A) (lt : i < length xs) (is : x ≡ get_or xs i e) where
    first : list_all p (drop i xs) ≡ p x && list_all p (drop (i + 1) xs)
    first = ap (list_all p) (rest_of xs i x e lt is)

    pub all_more : p x ≡ true → list_all p (drop (i + 1) xs) ≡ list_all p xs
    all_more yes_ = sym (ap (λ (b : Bool). b && list_all p (drop (i + 1) xs)) yes_) ∙ (sym first ∙ so_far)

    pub all_wrong : p x ≡ false → list_all p xs ≡ false
    all_wrong no_ = sym so_far ∙ (first ∙ ap (λ (b : Bool). b && list_all p (drop (i + 1) xs)) no_)

  pub all_end : length xs ≤ i → list_all p xs ≡ true
  all_end le = sym so_far ∙ ap (list_all p) (drop_all i xs le)

-- ---- sets of names and of keys

both_at : (o i : Ordering) → is_eq (ordering_then o i) ≡ is_eq o && is_eq i
both_at Less i = refl
both_at Equal i = refl
both_at Greater i = refl

same_number : (a b : ℕ) → is_eq (nat_cmp a b) ≡ (b == a)
same_number a b = grind (arith, nat_tests)

pub same_test : (a b : LocalName) → is_at (name_cmp (chunk_of a)) (chunk_of b) ≡ same_name b a
same_test a b =
    both_at (nat_cmp a.plan b.plan) (nat_cmp a.ordinal b.ordinal)
    ∙ (ap (λ (t : Bool). t && is_eq (nat_cmp a.ordinal b.ordinal)) (same_number a.plan b.plan) ∙ ap (λ (t : Bool). (b.plan == a.plan) && t) (same_number a.ordinal b.ordinal))

key_sym : (a b : RowKey) → is_at (key_cmp a) b ≡ is_at (key_cmp b) a
key_sym a b = (eq_by_cmp_equiv key_cmp_total).symm a b

either_way : (a b : Bool) → cond a true b ≡ b || (a || false)
either_way true true = refl
either_way true false = refl
either_way false true = refl
either_way false false = refl

in_front : (a b : Bool) → cond a true b ≡ a || b
in_front true b = refl
in_front false b = refl

abbrev IsAdded : BTreeSet ChunkName → BTreeSet ChunkName → LocalName → Type 0
IsAdded set next name = (q : ChunkName) → contains name_cmp next q ≡ cond (is_at (name_cmp (chunk_of name)) q) true (contains name_cmp set q)

pub no_names : (set : BTreeSet ChunkName) → keys set ≡ [] → HasNames [] set
no_names set none = record { same = λ q. ap (list_any (is_at (name_cmp (chunk_of q)))) none }

pub no_keys : (set : BTreeSet RowKey) → keys set ≡ [] → HasKeys [] set
no_keys set none = record { same = λ q. ap (list_any (is_at (key_cmp q))) none }

pub names_push : (set next : BTreeSet ChunkName) (names : List LocalName) (name : LocalName) → HasNames names set → IsAdded set next name → HasNames (names ++ name ∷ []) next
names_push set next names name has added = record {
  same = λ q.
      added (chunk_of q) ∙ (ap (λ (b : Bool). cond (is_at (name_cmp (chunk_of name)) (chunk_of q)) true b) (has.same q)
      ∙ (ap (λ (b : Bool). cond b true (is_among names q)) (same_test name q)
      ∙ (either_way (same_name q name) (is_among names q) ∙ sym (list_any-append (same_name q) names (name ∷ [])))));
}

pub names_front : (set next : BTreeSet ChunkName) (names : List LocalName) (name : LocalName) → HasNames names set → IsAdded set next name → HasNames (name ∷ names) next
names_front set next names name has added = record {
  same = λ q.
      added (chunk_of q) ∙ (ap (λ (b : Bool). cond (is_at (name_cmp (chunk_of name)) (chunk_of q)) true b) (has.same q)
      ∙ (ap (λ (b : Bool). cond b true (is_among names q)) (same_test name q) ∙ in_front (same_name q name) (is_among names q)));
}

pub keys_push : (set next : BTreeSet RowKey) (ks : List RowKey) (key : RowKey) → HasKeys ks set
    → ((q : RowKey) → contains key_cmp next q ≡ cond (is_at (key_cmp key) q) true (contains key_cmp set q)) → HasKeys (ks ++ key ∷ []) next
keys_push set next ks key has added = record {
  same = λ q.
      added q ∙ (ap (λ (b : Bool). cond (is_at (key_cmp key) q) true b) (has.same q)
      ∙ (ap (λ (b : Bool). cond b true (is_key_among q ks)) (key_sym key q)
      ∙ (either_way (is_at (key_cmp q) key) (is_key_among q ks) ∙ sym (list_any-append (is_at (key_cmp q)) ks (key ∷ [])))));
}

-- one name more of those that are added
pub added_more : (before names : List LocalName) (set next : BTreeSet ChunkName) (i : ℕ) (name e : LocalName) → i < length names → name ≡ get_or names i e → HasNames (before ++ take i names) set → IsAdded set next name
    → HasNames (before ++ take (i + 1) names) next
added_more before names set next i name e lt is has added =
    let more : take (i + 1) names ≡ take i names ++ name ∷ [] = take_more names i e lt ∙ ap (λ (q : LocalName). take i names ++ q ∷ []) (sym is) in
    subst (λ (l : List LocalName). HasNames l next) (append_assoc before (take i names) (name ∷ []) ∙ ap (λ (l : List LocalName). before ++ l) (sym more)) (names_push set next (before ++ take i names) name has added)

-- ---- names that stand twice

abbrev pub IsMet : List LocalName → BTreeSet ChunkName → ℕ → Type 0
IsMet names met i = (seen : List LocalName) × HasNames seen met × (repeats seen (drop i names) ≡ repeats [] names)

module _ (names : List LocalName) (met : BTreeSet ChunkName) (i : ℕ) (name e : LocalName) (lt : i < length names) (is : name ≡ get_or names i e) (inv : IsMet names met i) where
  next_one : repeats inv.0 (drop i names) ≡ is_among inv.0 name || repeats (name ∷ inv.0) (drop (i + 1) names)
  next_one = ap (repeats inv.0) (rest_of names i name e lt is)

  pub met_once : (next : BTreeSet ChunkName) → IsAdded met next name → contains name_cmp met (chunk_of name) ≡ false → IsMet names next (i + 1)
  met_once next added new = (
    name ∷ inv.0,
    names_front met next inv.0 name inv.1 added,
    sym (ap (λ (b : Bool). b || repeats (name ∷ inv.0) (drop (i + 1) names)) (sym (inv.1.same name) ∙ new)) ∙ (sym next_one ∙ inv.2),
  )

  pub met_twice : contains name_cmp met (chunk_of name) ≡ true → repeats [] names ≡ true
  met_twice old = sym inv.2 ∙ (next_one ∙ ap (λ (b : Bool). b || repeats (name ∷ inv.0) (drop (i + 1) names)) (sym (inv.1.same name) ∙ old))

pub met_all : (names : List LocalName) (met : BTreeSet ChunkName) (i : ℕ) → length names ≤ i → IsMet names met i → repeats [] names ≡ false
met_all names met i le inv = sym inv.2 ∙ ap (repeats inv.0) (drop_all i names le)

-- ---- names that stood before

any_alike : {A : Type 0} (p q : A → Bool) (xs : List A) → ((x : A) → p x ≡ q x) → list_any p xs ≡ list_any q xs
any_alike p q [] same = refl
any_alike p q (x ∷ xs) same = ap (λ (b : Bool). b || list_any p xs) (same x) ∙ ap (λ (b : Bool). q x || b) (any_alike p q xs same)

pub shares_are : (named : BTreeSet ChunkName) (before names : List LocalName) → HasNames before named → list_any (λ (name : LocalName). contains name_cmp named (chunk_of name)) names ≡ shares before names
shares_are named before names has = any_alike (λ (name : LocalName). contains name_cmp named (chunk_of name)) (λ (name : LocalName). is_among before name) names has.same

-- ---- an object

false_behind : (b : Bool) → b && false ≡ false
false_behind true = refl
false_behind false = refl

module _ (stands : LocalName → Option (List ℕ)) (size : ℕ) (o : HeldObject) (pieces : List HeldPiece) (are : pieces ≡ o.pieces) where
  its_lens : lens_from stands size o.len 0 o.pieces ≡ lens_from stands size o.len 0 pieces
  its_lens = ap (lens_from stands size o.len 0) (sym are)

  pub lens_differ : lens_from stands size o.len 0 pieces ≡ false → false ≡ has_lens stands size o
  lens_differ wrong = sym (ap (λ (b : Bool). (length o.pieces == count_of size o.len) && b) (its_lens ∙ wrong) ∙ false_behind (length o.pieces == count_of size o.len))

  module _ (n m : ℕ) (n_is : n ≡ length pieces) (m_is : m ≡ count_of size o.len) where
    counts : (length o.pieces == count_of size o.len) ≡ (n == m)
    counts = ap (λ (l : List HeldPiece). length l == count_of size o.len) (sym are) ∙ (ap (λ (k : ℕ). k == count_of size o.len) (sym n_is) ∙ ap (λ (k : ℕ). n == k) (sym m_is))

    pub count_differs : (n == m) ≡ false → false ≡ has_lens stands size o
    count_differs no_ = sym (ap (λ (b : Bool). b && lens_from stands size o.len 0 o.pieces) (counts ∙ no_))

    pub lens_are : (n == m) ≡ true → lens_from stands size o.len 0 pieces ≡ true → true ≡ has_lens stands size o
    lens_are yes_ all = sym (ap (λ (b : Bool). b && lens_from stands size o.len 0 o.pieces) (counts ∙ yes_) ∙ (its_lens ∙ all))

-- ---- one of three, and of four

module _ (a b c : Bool) where
  pub first_of : a ≡ true → true ≡ (a || (b || c))
  first_of p = sym (ap (λ (t : Bool). t || (b || c)) p)

  module _ (p : a ≡ false) where
    pub second_of : b ≡ true → true ≡ (a || (b || c))
    second_of q = sym (ap (λ (t : Bool). t || (b || c)) p ∙ ap (λ (t : Bool). t || c) q)

    pub last_of : b ≡ false → (w : Bool) → w ≡ c → w ≡ (a || (b || c))
    last_of q w is = is ∙ sym (ap (λ (t : Bool). t || (b || c)) p ∙ ap (λ (t : Bool). t || c) q)

    pub behind_first : (w : Bool) → w ≡ (b || c) → w ≡ (a || (b || c))
    behind_first w is = is ∙ sym (ap (λ (t : Bool). t || (b || c)) p)
