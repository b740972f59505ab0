-- Names, twelve bytes each.
use Rattle.std.proofs.Common.{◌≡◌, ℕ, zero, suc, ◌+◌, ◌*◌, ◌<◌, List, [], ◌∷◌, ◌++◌, length, take, drop, get_or, refl, sym, ◌∙◌, ap, arith, length-append, append_assoc}
use Rattle.std.specs.Int.{w32, w64, to_be_bytes, from_be_bytes}
use Rattle.std.specs.List.{flat_map, AllByRecursion}
use Rattle.std.proofs.lemmas.List.{drop-drop, take_at, drop_at, take_more, append-nil}
use Rattle.std.proofs.lemmas.List.Concat.{flat_map-cons}
use Rattle.std.proofs.lemmas.Grind.{flat_map-append}
use Rattle.stab_base.proofs.Fields.{wide32, wide64}
use Rattle.stab_base.specs.declared.chunk_name.ChunkName.{ChunkName}
use Rattle.value_codec.specs.Spelling.{name_spelling, HasNameSpelling}
use Rattle.status_log.specs.Payload.{name_in, names_in}

-- one name more
pub names_in_push : (count : ℕ) (bytes : List ℕ) → names_in (count + 1) bytes ≡ names_in count bytes ++ name_in (drop (12 * count) bytes) ∷ []
names_in_push zero bytes = refl
names_in_push (suc count) bytes =
    let next : suc count + 1 ≡ suc (count + 1) = omega arith in
    let further : 12 * suc count ≡ 12 + 12 * count = omega arith in
    ap (λ n. names_in n bytes) next
    ∙ ap (λ (l : List ChunkName). name_in bytes ∷ l) (names_in_push count (drop 12 bytes)
    ∙ ap (λ (b : List ℕ). names_in count (drop 12 bytes) ++ name_in b ∷ []) (drop-drop (12 * count) 12 bytes ∙ ap (λ n. drop n bytes) (sym further)))

-- names that were written are read again
abbrev named : ℕ → ℕ → ChunkName
named version ordinal = record { version = version; ordinal = ordinal }

name_again : (name : ChunkName) (rest : List ℕ) → HasNameSpelling name → name_in (name_spelling name ++ rest) ≡ name
name_again name rest h =
    let v = to_be_bytes w64 name.version in
    let o = to_be_bytes w32 name.ordinal in
    let version : from_be_bytes w64 (take 8 ((v ++ o) ++ rest)) ≡ name.version = ap (λ (l : List ℕ). from_be_bytes w64 (take 8 l)) (append_assoc v o rest) ∙ (ap (from_be_bytes w64) (take_at v (o ++ rest) 8 refl) ∙ wide64.again name.version h.version) in
    let ordinal : from_be_bytes w32 (take 4 (drop 8 ((v ++ o) ++ rest))) ≡ name.ordinal = ap (λ (l : List ℕ). from_be_bytes w32 (take 4 (drop 8 l))) (append_assoc v o rest) ∙ (ap (λ (l : List ℕ). from_be_bytes w32 (take 4 l)) (drop_at v (o ++ rest) 8 refl) ∙ (ap (from_be_bytes w32) (take_at o rest 4 refl) ∙ wide32.again name.ordinal h.ordinal)) in
    ap (λ (n : ℕ). named n (from_be_bytes w32 (take 4 (drop 8 ((v ++ o) ++ rest))))) version ∙ ap (named name.version) ordinal

pub length-names : (names : List ChunkName) → length (flat_map name_spelling names) ≡ 12 * length names
length-names [] = refl
length-names (name ∷ names) = omega (arith, ap length (flat_map-cons name_spelling name names), length-append (name_spelling name) (flat_map name_spelling names), length-append (to_be_bytes w64 name.version) (to_be_bytes w32 name.ordinal), length-names names)

pub names_again : (names : List ChunkName) → AllByRecursion HasNameSpelling names → names_in (length names) (flat_map name_spelling names) ≡ names
names_again [] h = refl
names_again (name ∷ names) h =
    let parts = flat_map-cons name_spelling name names in
    let first : name_in (flat_map name_spelling (name ∷ names)) ≡ name = ap name_in parts ∙ name_again name (flat_map name_spelling names) h.0 in
    let rest : drop 12 (flat_map name_spelling (name ∷ names)) ≡ flat_map name_spelling names = ap (drop 12) parts ∙ drop_at (name_spelling name) (flat_map name_spelling names) 12 (omega (arith, length-append (to_be_bytes w64 name.version) (to_be_bytes w32 name.ordinal))) in
    ap (λ (n : ChunkName). n ∷ names_in (length names) (drop 12 (flat_map name_spelling (name ∷ names)))) first
    ∙ ap (λ (l : List ChunkName). name ∷ l) (ap (names_in (length names)) rest ∙ names_again names h.1)

-- one name more is written
pub spelled_more : (names : List ChunkName) (i : ℕ) (name : ChunkName) → i < length names → get_or names i name ≡ name
    → flat_map name_spelling (take (i + 1) names) ≡ flat_map name_spelling (take i names) ++ name_spelling name
spelled_more names i name lt is =
    ap (flat_map name_spelling) (take_more names i name lt)
    ∙ (flat_map-append name_spelling (take i names) (get_or names i name ∷ [])
    ∙ ap (λ (l : List ℕ). flat_map name_spelling (take i names) ++ l) (flat_map-cons name_spelling (get_or names i name) [] ∙ (append-nil (name_spelling (get_or names i name)) ∙ ap name_spelling is)))
