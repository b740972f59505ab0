-- Lists, item by item: what is read is spelled so, and what is spelled so is read.
use Rattle.std.proofs.Common.{◌≡◌, ℕ, zero, suc, ◌^◌, ◌<◌, List, [], ◌∷◌, ◌++◌, length, Result, Ok, refl, sym, ap, subst, ◌∙◌, append_assoc, arith}
use Rattle.std.specs.List.{flat_map, AllByRecursion}
use Rattle.std.specs.Int.{w32, to_be_bytes}
use Rattle.std.proofs.lemmas.List.Concat.{flat_map-cons}
use Rattle.stab_base.specs.Codec.{IsBytes}
use Rattle.value_codec.specs.Spelling.{list_spelling}
use Rattle.value_codec.specs.Reading.{number_at, items_at, list_at}
use Rattle.value_codec.proofs.FieldReads.{bind_ok, ok_is, Reads, rest_fits, two_take, two_again, four_reads}

-- each item, where what an item may be depends on what the items before it leave
abbrev pub EachFrom : {S X : Type 0} → (S → X → S) → (S → X → Type 0) → S → List X → Type 0
EachFrom next P s [] = Unit {0}
EachFrom next P s (x ∷ xs) = P s x × EachFrom next P (next s x) xs

abbrev pub IsList : {S X : Type 0} → (S → X → S) → (S → X → Type 0) → S → ℕ → List X → Type 0
IsList next P s n xs = (length xs ≡ n) × EachFrom next P s xs

none_again : {S X : Type 0} (next : S → X → S) (P : S → X → Type 0) (spell : X → List ℕ) (item_at : S → List ℕ → Result (X × List ℕ) ℕ) (s : S) (xs : List X) (rest : List ℕ) → IsList next P s 0 xs
    → items_at next item_at s 0 (flat_map spell xs ++ rest) ≡ Ok (xs, rest)
unfolding items_at
none_again next P spell item_at s [] rest h = refl
none_again next P spell item_at s (x ∷ xs) rest h = absurd (omega (arith, h.0))

some_again : {S X : Type 0} (next : S → X → S) (P : S → X → Type 0) (spell : X → List ℕ) (item_at : S → List ℕ → Result (X × List ℕ) ℕ) (each : (s : S) → Reads (P s) spell (item_at s)) (n : ℕ) (s : S)
    → ((x : X) → Reads (IsList next P (next s x) n) (flat_map spell) (items_at next item_at (next s x) n))
    → (xs : List X) (rest : List ℕ) → IsList next P s (suc n) xs → items_at next item_at s (suc n) (flat_map spell xs ++ rest) ≡ Ok (xs, rest)
unfolding items_at
some_again next P spell item_at each n s later [] rest h = absurd (omega (arith, h.0))
some_again {S} {X} next P spell item_at each n s later (x ∷ xs) rest h =
    ap (λ (l : List ℕ). items_at next item_at s (suc n) (l ++ rest)) (flat_map-cons spell x xs)
    ∙ two_again (P s) spell (item_at s) (λ (y : X). IsList next P (next s y) n) (λ (y : X). flat_map spell) (λ (y : X). items_at next item_at (next s y) n) (λ (y : X) (ys : List X). y ∷ ys) (each s) later x xs rest h.1.0 (omega (arith, h.0), h.1.1)

some_take : {S X : Type 0} (next : S → X → S) (P : S → X → Type 0) (spell : X → List ℕ) (item_at : S → List ℕ → Result (X × List ℕ) ℕ) (each : (s : S) → Reads (P s) spell (item_at s)) (n : ℕ) (s : S)
    → ((x : X) → Reads (IsList next P (next s x) n) (flat_map spell) (items_at next item_at (next s x) n))
    → (bytes : List ℕ) (xs : List X) (rest : List ℕ) → IsBytes bytes → items_at next item_at s (suc n) bytes ≡ Ok (xs, rest) → IsList next P s (suc n) xs × (bytes ≡ flat_map spell xs ++ rest)
unfolding items_at
some_take {S} {X} next P spell item_at each n s later bytes xs rest fits e =
    let t = two_take (P s) spell (item_at s) (λ (y : X). IsList next P (next s y) n) (λ (y : X). flat_map spell) (λ (y : X). items_at next item_at (next s y) n) (λ (y : X) (ys : List X). y ∷ ys) (each s) later bytes xs rest fits e in
    subst (λ (zs : List X). IsList next P s (suc n) zs × (bytes ≡ flat_map spell zs ++ rest)) t.2
    ((omega (arith, t.4.0), (t.3, t.4.1)), t.5 ∙ ap (λ (l : List ℕ). l ++ rest) (sym (flat_map-cons spell t.0 t.1)))

none_take : {S X : Type 0} (next : S → X → S) (P : S → X → Type 0) (spell : X → List ℕ) (item_at : S → List ℕ → Result (X × List ℕ) ℕ) (s : S) (bytes : List ℕ) (xs : List X) (rest : List ℕ)
    → items_at next item_at s 0 bytes ≡ Ok (xs, rest) → IsList next P s 0 xs × (bytes ≡ flat_map spell xs ++ rest)
unfolding items_at
none_take {S} {X} next P spell item_at s bytes xs rest e =
    let nothing : List X = [] in
    subst (λ (p : List X × List ℕ). IsList next P s 0 p.0 × (bytes ≡ flat_map spell p.0 ++ p.1)) (ok_is (nothing, bytes) (xs, rest) e) ((refl, tt), refl)

pub items_reads : {S X : Type 0} (next : S → X → S) (P : S → X → Type 0) (spell : X → List ℕ) (item_at : S → List ℕ → Result (X × List ℕ) ℕ) → ((s : S) → Reads (P s) spell (item_at s))
    → (n : ℕ) (s : S) → Reads (IsList next P s n) (flat_map spell) (items_at next item_at s n)
items_reads next P spell item_at each zero s = record {
  takes = λ bytes xs rest fits e. none_take next P spell item_at s bytes xs rest e;
  again = none_again next P spell item_at s;
}
items_reads next P spell item_at each (suc n) s = record {
  takes = some_take next P spell item_at each n s (λ x. items_reads next P spell item_at each n (next s x));
  again = some_again next P spell item_at each n s (λ x. items_reads next P spell item_at each n (next s x));
}

list_takes : {S X : Type 0} (next : S → X → S) (P : S → X → Type 0) (spell : X → List ℕ) (item_at : S → List ℕ → Result (X × List ℕ) ℕ) → ((s : S) → Reads (P s) spell (item_at s)) → (s : S)
    → (bytes : List ℕ) (xs : List X) (rest : List ℕ) → IsBytes bytes → list_at next item_at s bytes ≡ Ok (xs, rest)
    → ((length xs < 2 ^ 32) × EachFrom next P s xs) × (bytes ≡ list_spelling spell xs ++ rest)
unfolding list_at
list_takes next P spell item_at each s bytes xs rest fits e =
    let a = bind_ok (number_at w32 bytes) (λ count. items_at next item_at s count.0 count.1) (xs, rest) e in
    let t = four_reads.takes bytes a.0.0 a.0.1 fits a.1 in
    let u = (items_reads next P spell item_at each a.0.0 s).takes a.0.1 xs rest (rest_fits (to_be_bytes w32 a.0.0) a.0.1 bytes t.1 fits) a.2 in
    let whole : bytes ≡ (to_be_bytes w32 a.0.0 ++ flat_map spell xs) ++ rest = t.1 ∙ ap (λ (l : List ℕ). to_be_bytes w32 a.0.0 ++ l) u.1 ∙ sym (append_assoc (to_be_bytes w32 a.0.0) (flat_map spell xs) rest) in
    ((omega (arith, u.0.0, t.0), u.0.1), whole ∙ ap (λ (n : ℕ). (to_be_bytes w32 n ++ flat_map spell xs) ++ rest) (sym u.0.0))

list_again : {S X : Type 0} (next : S → X → S) (P : S → X → Type 0) (spell : X → List ℕ) (item_at : S → List ℕ → Result (X × List ℕ) ℕ) → ((s : S) → Reads (P s) spell (item_at s)) → (s : S)
    → (xs : List X) (rest : List ℕ) → (length xs < 2 ^ 32) × EachFrom next P s xs → list_at next item_at s (list_spelling spell xs ++ rest) ≡ Ok (xs, rest)
unfolding list_at
list_again next P spell item_at each s xs rest h =
    ap (list_at next item_at s) (append_assoc (to_be_bytes w32 (length xs)) (flat_map spell xs) rest)
    ∙ rw (four_reads.again (length xs) (flat_map spell xs ++ rest) h.0) ((items_reads next P spell item_at each (length xs) s).again xs rest (refl, h.1))

pub list_reads : {S X : Type 0} (next : S → X → S) (P : S → X → Type 0) (spell : X → List ℕ) (item_at : S → List ℕ → Result (X × List ℕ) ℕ) → ((s : S) → Reads (P s) spell (item_at s)) → (s : S)
    → Reads (λ xs. (length xs < 2 ^ 32) × EachFrom next P s xs) (list_spelling spell) (list_at next item_at s)
list_reads next P spell item_at each s = record { takes = list_takes next P spell item_at each s; again = list_again next P spell item_at each s }

-- where nothing is left from item to item
pub each_of : {S X : Type 0} (next : S → X → S) (P : X → Type 0) (s : S) (xs : List X) → EachFrom next (λ t. P) s xs → AllByRecursion P xs
each_of next P s [] h = tt
each_of next P s (x ∷ xs) h = (h.0, each_of next P (next s x) xs h.1)

pub each_from : {S X : Type 0} (next : S → X → S) (P : X → Type 0) (s : S) (xs : List X) → AllByRecursion P xs → EachFrom next (λ t. P) s xs
each_from next P s [] h = tt
each_from next P s (x ∷ xs) h = (h.0, each_from next P (next s x) xs h.1)
