-- Names in a tree, as they come and go.
use Rattle.std.proofs.Common.{◌≡◌, ℕ, ◌+◌, ◌<◌, Bool, true, false, cond, not, ◌&&◌, ◌||◌, List, [], ◌∷◌, ◌++◌, length, take, get_or, map, refl, sym, ap, ◌∙◌, arith, add-one}
use Rattle.std.specs.List.{list_any}
use Rattle.std.specs.BTreeMap.{is_at}
use Rattle.std.specs.BTreeSet as tree
use Rattle.std.specs.BTreeSet.{BTreeSet}
use Rattle.std.proofs.Math.Seq.{take-suc}
use Rattle.std.proofs.lemmas.Bool.Decides.{nat_tests}
use Rattle.std.proofs.lemmas.List.Folds.{list_any-append}
use Rattle.std.proofs.lemmas.List.{map-append}
use Rattle.held_value.specs.declared.local_name.LocalName.{LocalName}
use Rattle.held_value.specs.declared.content.HeldPiece.{HeldPiece}
use Rattle.client_tables.specs.Drops.{same_name, is_among, names_of_pieces, pair_cmp, pair_of, name_of, has, Notes, Forgets}

pub at_pair : (n q : LocalName) → is_at (pair_cmp (pair_of n)) (pair_of q) ≡ same_name q n
at_pair n q = grind (arith, nat_tests)

at_key : (n : LocalName) (k : ℕ × ℕ) → is_at (pair_cmp (pair_of n)) k ≡ same_name n (name_of k)
at_key n k = grind (arith, nat_tests)

put : (a b c : Bool) → cond a true (b || c) ≡ (b || (c || (a || false)))
put true true c = refl
put true false true = refl
put true false false = refl
put false true c = refl
put false false true = refl
put false false false = refl

cut : (a b c : Bool) → cond a false (b && not c) ≡ (b && not (c || (a || false)))
cut true true true = refl
cut true true false = refl
cut true false c = refl
cut false true true = refl
cut false true false = refl
cut false false c = refl

pub noted : (old mid new : BTreeSet (ℕ × ℕ)) (names : List LocalName) (n : LocalName) → Notes old mid names → tree.Updates pair_cmp mid new (pair_of n) true
    → Notes old new (names ++ n ∷ [])
noted old mid new names n notes updates q =
    updates.0 (pair_of q) ∙ ap (λ b. cond b true (has mid q)) (at_pair n q) ∙ ap (λ b. cond (same_name q n) true b) (notes q)
    ∙ put (same_name q n) (has old q) (is_among names q) ∙ ap (λ b. has old q || b) (sym (list_any-append (same_name q) names (n ∷ [])))

pub forgotten : (old mid new : BTreeSet (ℕ × ℕ)) (names : List LocalName) (n : LocalName) → Forgets old mid names → tree.Updates pair_cmp mid new (pair_of n) false
    → Forgets old new (names ++ n ∷ [])
forgotten old mid new names n forgets updates q =
    updates.0 (pair_of q) ∙ ap (λ b. cond b false (has mid q)) (at_pair n q) ∙ ap (λ b. cond (same_name q n) false b) (forgets q)
    ∙ cut (same_name q n) (has old q) (is_among names q) ∙ ap (λ b. has old q && not b) (sym (list_any-append (same_name q) names (n ∷ [])))

pub names-take : (pieces : List HeldPiece) (i : ℕ) (d : HeldPiece) → i < length pieces → names_of_pieces (take (i + 1) pieces) ≡ names_of_pieces (take i pieces) ++ (get_or pieces i d).local ∷ []
names-take pieces i d lt =
    let more : take (i + 1) pieces ≡ take i pieces ++ get_or pieces i d ∷ [] = rw add-one (take-suc pieces i d lt) in
    ap names_of_pieces more ∙ map-append (λ (p : HeldPiece). p.local) (take i pieces) (get_or pieces i d ∷ [])

behind : (a b c : Bool) → ((a && not b) && not c) ≡ (a && not (b || c))
behind true true c = refl
behind true false c = refl
behind false b c = refl

pub forgotten_more : (a b c : BTreeSet (ℕ × ℕ)) (first more : List LocalName) → Forgets a b first → Forgets b c more → Forgets a c (first ++ more)
forgotten_more a b c first more before then' q =
    then' q ∙ ap (λ x. x && not (is_among more q)) (before q) ∙ behind (has a q) (is_among first q) (is_among more q)
    ∙ ap (λ x. has a q && not x) (sym (list_any-append (same_name q) first more))

pub is_among-listed : (keys : List (ℕ × ℕ)) (n : LocalName) → is_among (map name_of keys) n ≡ list_any (is_at (pair_cmp (pair_of n))) keys
is_among-listed [] n = refl
is_among-listed (k ∷ keys) n =
    ap (λ b. b || is_among (map name_of keys) n) (sym (at_key n k)) ∙ ap (λ b. is_at (pair_cmp (pair_of n)) k || b) (is_among-listed keys n)

pub pairs_of_names : (keys : List (ℕ × ℕ)) → map pair_of (map name_of keys) ≡ keys
pairs_of_names [] = refl
pairs_of_names (k ∷ keys) = ap (λ ks. k ∷ ks) (pairs_of_names keys)
