-- An object in chunks, and the lengths of those.
use Rattle.std.proofs.Common.{◌≡◌, inl, inr, ⊎_elim, ℕ, zero, suc, ◌+◌, ◌<◌, ◌≤◌, Bool, true, false, List, [], ◌∷◌, ◌++◌, length, take, drop, refl, sym, ◌∙◌, ap, subst, arith, length-append, true≢false}
use Rattle.std.specs.Prelude.{◌==◌, ◌&&◌, ◌*◌, ◌-◌, min, map, zip, sum_by}
use Rattle.std.proofs.lemmas.Bool.Decides.{nat_tests}
use Rattle.std.specs.List.{concat, AllByRecursion}
use Rattle.std.proofs.lemmas.List.{length-take, length-drop, take-append-drop, length-map}
use Rattle.std.proofs.lemmas.List.Sums.{sum_by-cons}
use Rattle.row_value.specs.Fit.{chunk_count}
use Rattle.chunker.specs.Cut.{HaveSize, IsCut}
use Rattle.chunker.proofs.Cuts.{counted}
use Rattle.store_commit.specs.NamedChunks.{Among}
use Rattle.stab_base.specs.declared.chunk_name.ChunkName.{ChunkName}
use Rattle.step_tables.specs.Chunks.{Named, cut_up_to, cut, each_chunk, is_of_each}
use Rattle.device_laws.proofs.Names.{either_among, mapped_among}
use Rattle.device_laws.proofs.Chunks.{flat}

abbrev pub bytes_of : List Named → List (List ℕ)
bytes_of chunks = map (λ (chunk : Named). chunk.1) chunks

-- ---- the cut

first_some : (size : ℕ) (piece : List ℕ) (pieces : List (List ℕ)) → 0 < size → HaveSize size (piece ∷ pieces) → 0 < length piece
first_some size piece [] some h = h.0
first_some size piece (next ∷ pieces) some h = omega (arith, h.0)

have_more : (size : ℕ) (object : List ℕ) (pieces : List (List ℕ)) → 0 < size → 0 < length object → HaveSize size pieces → concat pieces ≡ drop size object → HaveSize size (take size object ∷ pieces)
have_more size object [] some left h e = (omega (arith, length-take size object), omega (arith, length-take size object))
have_more size object (next ∷ pieces) some left h e =
    let first = first_some size next pieces some h in
    let whole : length (concat (next ∷ pieces)) ≡ length next + length (concat pieces) = length-append next (concat pieces) in
    let same : length (concat (next ∷ pieces)) ≡ length (drop size object) = ap length e in
    (omega (arith, length-take size object, length-drop size object, whole, same), h)

cut_up_to_is : (most size : ℕ) (object : List ℕ) → 0 < size → length object ≤ most → IsCut size object (cut_up_to most size object)
cut_up_to_is zero size [] some le = record { whole = refl; sizes = tt }
cut_up_to_is zero size (byte ∷ bytes) some le = absurd (omega (arith, le))
cut_up_to_is (suc most) size [] some le = record { whole = refl; sizes = tt }
cut_up_to_is (suc most) size (byte ∷ bytes) some le =
    let rest = cut_up_to_is most size (drop size (byte ∷ bytes)) some (omega (arith, length-drop size (byte ∷ bytes), le)) in
    record {
      whole = ap (λ (l : List ℕ). take size (byte ∷ bytes) ++ l) rest.whole ∙ take-append-drop size (byte ∷ bytes);
      sizes = have_more size (byte ∷ bytes) (cut_up_to most size (drop size (byte ∷ bytes))) some (omega arith) rest.sizes rest.whole;
    }

pub cut_is : (size : ℕ) (object : List ℕ) → 0 < size → IsCut size object (cut size object)
cut_is size object some = cut_up_to_is (length object) size object some (omega arith)

pub cut_count : (size : ℕ) (object : List ℕ) → 0 < size → length (cut size object) ≡ chunk_count size object
cut_count size object some = counted size object (cut size object) some (cut_is size object some)

-- From a place of an object of this length on, each chunk has the length of its place.
abbrev pub HaveLens : ℕ → ℕ → ℕ → List (List ℕ) → Type 0
HaveLens size len place [] = Unit {0}
HaveLens size len place (piece ∷ pieces) = (length piece ≡ min size (len - place * size)) × HaveLens size len (place + 1) pieces

lens_up_to : (most size len place : ℕ) (rest : List ℕ) → length rest ≡ len - place * size → HaveLens size len place (cut_up_to most size rest)
lens_up_to zero size len place rest e = tt
lens_up_to (suc most) size len place [] e = tt
lens_up_to (suc most) size len place (byte ∷ bytes) e =
    let next : length (drop size (byte ∷ bytes)) ≡ len - (place + 1) * size = omega (arith, length-drop size (byte ∷ bytes), e) in
    (omega (arith, length-take size (byte ∷ bytes), e), lens_up_to most size len (place + 1) (drop size (byte ∷ bytes)) next)

pub cut_lens : (size : ℕ) (object : List ℕ) → HaveLens size (length object) 0 (cut size object)
cut_lens size object = lens_up_to (length object) size (length object) 0 object (omega arith)

short_lens : (size len place : ℕ) (pieces : List (List ℕ)) → HaveLens size len place pieces → AllByRecursion (λ (piece : List ℕ). length piece ≤ size) pieces
short_lens size len place [] h = tt
short_lens size len place (piece ∷ pieces) h = (omega (arith, h.0), short_lens size len (place + 1) pieces h.1)

-- ---- the chunks of an object have its bytes, whatever is said of them

pub zip_seconds : {X : Type 0} (xs : List X) (ys : List (List ℕ)) → length xs ≡ length ys → map (λ (p : X × List ℕ). p.1) (zip xs ys) ≡ ys
zip_seconds [] [] e = refl
zip_seconds [] (y ∷ ys) e = absurd (omega (arith, e))
zip_seconds (x ∷ xs) [] e = absurd (omega (arith, e))
zip_seconds (x ∷ xs) (y ∷ ys) e = ap (λ (l : List (List ℕ)). y ∷ l) (zip_seconds xs ys (omega (arith, e)))

pub both_tests : (a b : Bool) → a && b ≡ true → (a ≡ true) × (b ≡ true)
both_tests true b h = (refl, h)
both_tests false b h = absurd (true≢false (sym h))

pub same_count : (a b : ℕ) → (a == b) ≡ true → a ≡ b
same_count a b is = grind (arith, nat_tests)

-- each object of a row is in its chunks
abbrev pub AreCut : ℕ → List (List ℕ) → List (List Named) → Type 0
AreCut size [] [] = Unit {0}
AreCut size (object ∷ objects) (now ∷ held) = (bytes_of now ≡ cut size object) × AreCut size objects held
AreCut size objects held = ⊥

pub all_cut : (size : ℕ) (said : List (List ChunkName)) (objects : List (List ℕ)) → is_of_each size said objects ≡ true → AreCut size objects (each_chunk size said objects)
all_cut size [] [] h = tt
all_cut size [] (object ∷ objects) h = absurd cc
all_cut size (here ∷ said) [] h = tt
all_cut size (here ∷ said) (object ∷ objects) h =
    let t = both_tests (length here == length (cut size object)) (is_of_each size said objects) h in
    (zip_seconds here (cut size object) (same_count (length here) (length (cut size object)) t.0), all_cut size said objects t.1)

pub now_count : (size : ℕ) (object : List ℕ) (now : List Named) → 0 < size → bytes_of now ≡ cut size object → length now ≡ chunk_count size object
now_count size object now some is = sym (length-map now (λ (chunk : Named). chunk.1)) ∙ (ap length is ∙ cut_count size object some)

-- how many there are in all
pub all_count : (size : ℕ) (objects : List (List ℕ)) (held : List (List Named)) → 0 < size → AreCut size objects held → length (flat held) ≡ sum_by (chunk_count size) objects
all_count size [] [] some c = refl
all_count size [] (now ∷ held) some c = absurd c
all_count size (object ∷ objects) [] some c = absurd c
all_count size (object ∷ objects) (now ∷ held) some c =
    omega (arith, length-append now (flat held), now_count size object now some c.0, all_count size objects held some c.1, sum_by-cons (chunk_count size) object objects)

all_among : (P : List ℕ → Type 0) (xs : List (List ℕ)) (x : List ℕ) → AllByRecursion P xs → Among x xs → P x
all_among P [] x h a = absurd a
all_among P (y ∷ xs) x h (inl same) = subst P (sym same) h.0
all_among P (y ∷ xs) x h (inr more) = all_among P xs x h.1 more

-- none is longer than the size
pub all_short : (size : ℕ) (objects : List (List ℕ)) (held : List (List Named)) → AreCut size objects held → (chunk : Named) → Among chunk (flat held) → length chunk.1 ≤ size
all_short size [] [] c chunk a = absurd a
all_short size [] (now ∷ held) c chunk a = absurd c
all_short size (object ∷ objects) [] c chunk a = absurd c
all_short size (object ∷ objects) (now ∷ held) c chunk a =
    ⊎_elim
    (λ here.
    let inside : Among chunk.1 (cut size object) = subst (λ (l : List (List ℕ)). Among chunk.1 l) c.0 (mapped_among (λ (x : Named). x.1) chunk now here) in
    all_among (λ (piece : List ℕ). length piece ≤ size) (cut size object) chunk.1 (short_lens size (length object) 0 (cut size object) (cut_lens size object)) inside)
    (λ there. all_short size objects held c.1 chunk there)
    (either_among chunk now (flat held) a)
