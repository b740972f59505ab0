-- Where the payload of an index stands.
use Rattle.std.proofs.Common.{◌≡◌, ℕ, zero, suc, ◌+◌, ◌<◌, ◌≤◌, List, [], ◌∷◌, ◌++◌, length, get_or, take, drop, refl, sym, ◌∙◌, ap, arith, length-append, add-one}
use Rattle.std.proofs.lemmas.List.{take_at, drop_at, drop-drop}
use Rattle.std.specs.Int.{w32, to_be_bytes}
use Rattle.vault.specs.File.{records, places_from, HasFront}
use Rattle.vault.proofs.Lists.{joined, whole, length-places}

-- the record of this index begins here, and the next one, or the standing gate, there
pub record IsSpot (at : ℕ) (ps : List (List ℕ)) (i : ℕ) (rest : List ℕ) (end skip : ℕ) : Type 0 where
  pub place : get_or (places_from at ps) i 0 ≡ at + skip
  pub next : get_or (places_from at ps) (suc i) end ≡ at + (skip + (5 + length (get_or ps i [])))
  pub bytes : take (length (get_or ps i [])) (drop (skip + 5) (records ps ++ rest)) ≡ get_or ps i []
  pub fits : skip + (5 + length (get_or ps i [])) ≤ length (records ps)

length_record : (p : List ℕ) (ps : List (List ℕ)) → length (records (p ∷ ps)) ≡ 5 + length p + length (records ps)
length_record p ps = omega (arith, length-append (to_be_bytes w32 (length p)) (p ++ records ps), length-append p (records ps))

first_next : (at : ℕ) (p : List ℕ) (ps : List (List ℕ)) (end : ℕ) → end ≡ at + length (records (p ∷ ps)) → get_or (places_from (at + (5 + length p)) ps) 0 end ≡ at + (5 + length p)
first_next at p [] end is = omega (arith, is, length_record p [])
first_next at p (q ∷ ps) end is = refl

past_first : (p : List ℕ) (ps : List (List ℕ)) (rest : List ℕ) → drop (5 + length p) (records (p ∷ ps) ++ rest) ≡ records ps ++ rest
past_first p ps rest =
    let be = to_be_bytes w32 (length p) in
    ap (λ (l : List ℕ). drop (5 + length p) l) (joined p ps rest)
    ∙ (sym (drop-drop (length p) 5 (165 ∷ (be ++ (p ++ (records ps ++ rest)))))
    ∙ (ap (λ (l : List ℕ). drop (length p) l) (drop_at be (p ++ (records ps ++ rest)) 4 refl)
    ∙ drop_at p (records ps ++ rest) (length p) refl))

pub spot : (at : ℕ) (ps : List (List ℕ)) (i : ℕ) (rest : List ℕ) (end : ℕ) → end ≡ at + length (records ps) → i < length ps → (skip : ℕ) × IsSpot at ps i rest end skip
spot at [] i rest end is lt = absurd (omega arith)
spot at (p ∷ ps) zero rest end is lt =
    let be = to_be_bytes w32 (length p) in (
      0,
      record {
        place = omega arith;
        next = first_next at p ps end is ∙ omega arith;
        bytes = ap (λ (l : List ℕ). take (length p) (drop 5 l)) (joined p ps rest) ∙ (ap (λ (l : List ℕ). take (length p) l) (drop_at be (p ++ (records ps ++ rest)) 4 refl) ∙ take_at p (records ps ++ rest) (length p) refl);
        fits = omega (arith, length_record p ps);
      },
    )
spot at (p ∷ ps) (suc i) rest end is lt =
    let later = spot (at + (5 + length p)) ps i rest end (omega (arith, is, length_record p ps)) (omega arith) in
    let skip : ℕ = later.0 in
    let s = later.1 in
    let q = get_or ps i [] in
    let further : 5 + length p + skip + 5 ≡ (5 + length p) + (skip + 5) = omega arith in (
      5 + length p + skip,
      record {
        place = omega (arith, s.place);
        next = omega (arith, s.next);
        bytes = ap (λ (n : ℕ). take (length q) (drop n (records (p ∷ ps) ++ rest))) further ∙ (ap (λ (l : List ℕ). take (length q) l) (sym (drop-drop (skip + 5) (5 + length p) (records (p ∷ ps) ++ rest)) ∙ ap (λ (l : List ℕ). drop (skip + 5) l) (past_first p ps rest)) ∙ s.bytes);
        fits = omega (arith, s.fits, length_record p ps);
      },
    )

-- a payload in the file, as the index has it
pub record IsHeld (seen places : List ℕ) (gate i : ℕ) (p : List ℕ) : Type 0 where
  pub index : i < length places
  pub fits : get_or places i 0 + 5 + length p ≡ get_or places (i + 1) gate
  pub last : get_or places (i + 1) gate ≤ gate
  pub bytes : take (length p) (drop (get_or places i 0 + 5) seen) ≡ p

pub held : (seen places : List ℕ) (gate i : ℕ) (ps : List (List ℕ)) → HasFront seen gate ps → places ≡ places_from 0 ps → i < length ps → IsHeld seen places gate i (get_or ps i [])
held seen places gate i ps front is lt =
    let p = get_or ps i [] in
    let found = spot 0 ps i (drop gate seen) gate (omega (arith, front.size)) lt in
    let skip : ℕ = found.0 in
    let s = found.1 in
    let place : get_or places i 0 ≡ skip = ap (λ (l : List ℕ). get_or l i 0) is ∙ (s.place ∙ omega arith) in
    let next : get_or places (i + 1) gate ≡ skip + (5 + length p) = ap (λ (l : List ℕ). get_or l (i + 1) gate) is ∙ (ap (λ (n : ℕ). get_or (places_from 0 ps) n gate) (add-one i) ∙ (s.next ∙ omega arith)) in
    record {
      index = omega (arith, ap length is, length-places 0 ps);
      fits = omega (arith, place, next);
      last = omega (arith, next, s.fits, front.size);
      bytes = ap (λ (n : ℕ). take (length p) (drop (n + 5) seen)) place ∙ (ap (λ (l : List ℕ). take (length p) (drop (skip + 5) l)) (whole seen gate ps front) ∙ s.bytes);
    }
