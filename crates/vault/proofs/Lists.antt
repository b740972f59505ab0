-- Bytes and the payloads that they stand for.
use Rattle.std.proofs.Common.{◌≡◌, inl, inr, ℕ, zero, suc, ◌+◌, ◌-◌, ◌<◌, ◌≤◌, Bool, true, false, List, [], ◌∷◌, ◌++◌, length, take, drop, slice_index, refl, sym, ◌∙◌, ap, subst, arith, append_assoc}
use Rattle.std.proofs.Common.{length-append, length-take, length-drop, take-append-drop, if◌then◌else◌}
use Rattle.std.proofs.lemmas.List.{take_at, drop_at, drop-drop, append-nil}
use Rattle.std.proofs.lemmas.Bool.{cases_eq}
use Rattle.std.proofs.lemmas.Bool.Decides.{nat_tests}
use Rattle.std.proofs.lemmas.Nat.{from_be_bytes-to_be_bytes_4}
use Rattle.std.specs.Int.{w32, to_be_bytes, from_be_bytes}
use Rattle.vault.specs.Limit.{payload_most}
use Rattle.vault.specs.File.{length_in, begins_record, decode, behind, payloads_of, rest_of, IsShut, StandsFor, records, places_from, AllShort, HasFront, EndsAt}

pub length-records : (ps : List (List ℕ)) → length ps ≤ length (records ps)
length-records [] = omega arith
length-records (p ∷ ps) = omega (arith, length-records ps, length-append (to_be_bytes w32 (length p)) (p ++ records ps), length-append p (records ps))

decode_last : (most : ℕ) (file : List ℕ) → begins_record file ≡ false → decode most file ≡ []
decode_last zero file last = refl
decode_last (suc most) file last =
    ap (λ (b : Bool). if b then take (length_in file) (drop 5 file) ∷ decode most (drop (5 + length_in file) file) else []) last

behind_last : (most : ℕ) (file : List ℕ) → begins_record file ≡ false → behind most file ≡ file
behind_last zero file last = refl
behind_last (suc most) file last =
    ap (λ (b : Bool). if b then behind most (drop (5 + length_in file) file) else file) last

-- a gate that isn't open, or that has nothing behind it, begins no record
pub shut_last : (rest : List ℕ) → IsShut rest → begins_record rest ≡ false
shut_last rest shut =
    elim (cases_eq (slice_index rest 0) 165) [
      | inl open_gate ↦ let short : length rest ≤ 1 = shut open_gate in grind (arith, nat_tests)
      | inr closed ↦ grind (arith, nat_tests)
    ]

-- a file that begins with a whole record
module _ (be p rest : List ℕ) (four : length be ≡ 4) (is : from_be_bytes w32 be ≡ length p) (short : length p ≤ payload_most) (more : 0 < length rest) where
  abbrev pub one : List ℕ
  one = 165 ∷ (be ++ (p ++ rest))

  length_is : length_in one ≡ length p
  length_is = ap (from_be_bytes w32) (take_at be (p ++ rest) 4 four) ∙ is

  after_head : drop 5 one ≡ p ++ rest
  after_head = drop_at be (p ++ rest) 4 four

  opens : begins_record one ≡ true
  opens =
      let long : length one ≡ 5 + (length p + length rest) = omega (arith, length-append be (p ++ rest), length-append p rest, four) in
      let fits : 5 + length_in one < length one = omega (arith, long, length_is) in
      let small : length_in one ≤ payload_most = omega (arith, length_is) in
      grind (arith, nat_tests)

  payload_is : take (length_in one) (drop 5 one) ≡ p
  payload_is = ap (λ n. take n (drop 5 one)) length_is ∙ (ap (λ (l : List ℕ). take (length p) l) after_head ∙ take_at p rest (length p) refl)

  rest_is : drop (5 + length_in one) one ≡ rest
  rest_is = sym (drop-drop (length_in one) 5 one) ∙ (ap (λ (l : List ℕ). drop (length_in one) l) after_head ∙ (ap (λ n. drop n (p ++ rest)) length_is ∙ drop_at p rest (length p) refl))

  pub decode_one : (most : ℕ) → decode (suc most) one ≡ p ∷ decode most rest
  decode_one most =
      ap (λ (b : Bool). if b then take (length_in one) (drop 5 one) ∷ decode most (drop (5 + length_in one) one) else []) opens
      ∙ ap (λ (q : List ℕ). q ∷ decode most (drop (5 + length_in one) one)) payload_is
      ∙ ap (λ (r : List ℕ). p ∷ decode most r) rest_is

  pub behind_one : (most : ℕ) → behind (suc most) one ≡ behind most rest
  behind_one most =
      ap (λ (b : Bool). if b then behind most (drop (5 + length_in one) one) else one) opens
      ∙ ap (λ (r : List ℕ). behind most r) rest_is

pub joined : (p : List ℕ) (ps : List (List ℕ)) (rest : List ℕ) → records (p ∷ ps) ++ rest ≡ 165 ∷ (to_be_bytes w32 (length p) ++ (p ++ (records ps ++ rest)))
joined p ps rest = let be = to_be_bytes w32 (length p) in ap (λ (l : List ℕ). 165 ∷ l) (append_assoc be (p ++ records ps) rest ∙ ap (λ (l : List ℕ). be ++ l) (append_assoc p (records ps) rest))

-- records, and then something: their payloads are found first
pub decode_records : (ps : List (List ℕ)) (most : ℕ) (rest : List ℕ) → AllShort ps → length ps ≤ most → (0 < length ps → 0 < length rest)
    → decode most (records ps ++ rest) ≡ ps ++ decode (most - length ps) rest
decode_records [] most rest short enough more = let none : most ≡ most - length {A = List ℕ} [] = omega arith in ap (λ n. decode n rest) none
decode_records (p ∷ ps) zero rest short enough more = absurd (omega arith)
decode_records (p ∷ ps) (suc most) rest short enough more =
    let be = to_be_bytes w32 (length p) in
    let some : 0 < length rest = more (omega arith) in
    let fewer : suc most - suc (length ps) ≡ most - length ps = omega arith in
    ap (decode (suc most)) (joined p ps rest)
    ∙ (decode_one be p (records ps ++ rest) refl (from_be_bytes-to_be_bytes_4 (length p) (omega (arith, short.0))) short.0 (omega (arith, length-append (records ps) rest)) most
    ∙ (ap (λ (l : List (List ℕ)). p ∷ l) (decode_records ps most rest short.1 (omega arith) (λ _. some))
    ∙ ap (λ n. p ∷ (ps ++ decode n rest)) (sym fewer)))

pub behind_records : (ps : List (List ℕ)) (most : ℕ) (rest : List ℕ) → AllShort ps → length ps ≤ most → (0 < length ps → 0 < length rest)
    → behind most (records ps ++ rest) ≡ behind (most - length ps) rest
behind_records [] most rest short enough more = let none : most ≡ most - length {A = List ℕ} [] = omega arith in ap (λ n. behind n rest) none
behind_records (p ∷ ps) zero rest short enough more = absurd (omega arith)
behind_records (p ∷ ps) (suc most) rest short enough more =
    let be = to_be_bytes w32 (length p) in
    let some : 0 < length rest = more (omega arith) in
    let fewer : suc most - suc (length ps) ≡ most - length ps = omega arith in
    ap (behind (suc most)) (joined p ps rest)
    ∙ (behind_one be p (records ps ++ rest) refl (from_be_bytes-to_be_bytes_4 (length p) (omega (arith, short.0))) short.0 (omega (arith, length-append (records ps) rest)) most
    ∙ (behind_records ps most rest short.1 (omega arith) (λ _. some)
    ∙ ap (λ n. behind n rest) (sym fewer)))

-- ---- a file whose standing gate is known

module _ (file : List ℕ) (gate : ℕ) (ps : List (List ℕ)) (f : HasFront file gate ps) where
  pub whole : file ≡ records ps ++ drop gate file
  whole = sym (take-append-drop gate file) ∙ ap (λ (l : List ℕ). l ++ drop gate file) f.front

  pub gate_within : gate ≤ length file
  gate_within = omega (arith, ap length f.front, length-take gate file, f.size)

  enough : length ps ≤ length file
  enough = omega (arith, length-records ps, f.size, gate_within)

  some_behind : 0 < length ps → 0 < length (drop gate file)
  some_behind some = omega (arith, f.more, length-records ps, f.size, length-drop gate file)

  -- the payloads in front are found, whatever stands behind them
  pub found_first : payloads_of file ≡ ps ++ decode (length file - length ps) (drop gate file)
  unfolding payloads_of
  found_first = ap (decode (length file)) whole ∙ decode_records ps (length file) (drop gate file) f.short enough some_behind

  pub ends_list : begins_record (drop gate file) ≡ false → payloads_of file ≡ ps
  ends_list last = found_first ∙ (ap (λ (l : List (List ℕ)). ps ++ l) (decode_last (length file - length ps) (drop gate file) last) ∙ append-nil ps)

  pub ends_rest : begins_record (drop gate file) ≡ false → rest_of file ≡ drop gate file
  unfolding rest_of
  ends_rest last = ap (behind (length file)) whole ∙ (behind_records ps (length file) (drop gate file) f.short enough some_behind ∙ behind_last (length file - length ps) (drop gate file) last)

  pub stands_at : IsShut (drop gate file) → StandsFor file ps
  stands_at shut =
      let last = shut_last (drop gate file) shut in
      record { records = ends_list last; gate = subst IsShut (sym (ends_rest last)) shut }

pub shut_at : (file : List ℕ) (gate : ℕ) (ps qs : List (List ℕ)) → EndsAt file gate ps → StandsFor file qs → IsShut (drop gate file)
shut_at file gate ps qs e s = subst IsShut (ends_rest file gate ps e.front e.last) s.gate

-- a file with the same front
pub same_front : (file image : List ℕ) (gate : ℕ) (ps : List (List ℕ)) → HasFront file gate ps → take gate image ≡ take gate file → (0 < gate → gate < length image) → HasFront image gate ps
same_front file image gate ps f same more = record { size = f.size; front = same ∙ f.front; more = more; short = f.short }

-- ---- one payload more

pub records-push : (ps : List (List ℕ)) (p rest : List ℕ) → records (ps ++ p ∷ []) ++ rest ≡ records ps ++ 165 ∷ (to_be_bytes w32 (length p) ++ (p ++ rest))
records-push [] p rest = joined p [] rest
records-push (q ∷ ps) p rest =
    joined q (ps ++ p ∷ []) rest
    ∙ (ap (λ (l : List ℕ). 165 ∷ (to_be_bytes w32 (length q) ++ (q ++ l))) (records-push ps p rest)
    ∙ sym (joined q ps (165 ∷ (to_be_bytes w32 (length p) ++ (p ++ rest)))))

pub AllShort-push : (ps : List (List ℕ)) (p : List ℕ) → AllShort ps → length p ≤ payload_most → AllShort (ps ++ p ∷ [])
AllShort-push [] p short fits = (fits, tt)
AllShort-push (q ∷ ps) p short fits = (short.0, AllShort-push ps p short.1 fits)

pub places-push : (at : ℕ) (ps : List (List ℕ)) (p : List ℕ) → places_from at (ps ++ p ∷ []) ≡ places_from at ps ++ (at + length (records ps)) ∷ []
places-push at [] p = let here : at ≡ at + 0 = omega arith in ap (λ n. n ∷ []) here
places-push at (q ∷ ps) p =
    let further : at + (5 + length q) + length (records ps) ≡ at + length (records (q ∷ ps)) = omega (arith, length-append (to_be_bytes w32 (length q)) (q ++ records ps), length-append q (records ps)) in
    ap (λ (l : List ℕ). at ∷ l) (places-push (at + (5 + length q)) ps p ∙ ap (λ n. places_from (at + (5 + length q)) ps ++ n ∷ []) further)

pub length-places : (at : ℕ) (ps : List (List ℕ)) → length (places_from at ps) ≡ length ps
length-places at [] = refl
length-places at (p ∷ ps) = ap suc (length-places (at + (5 + length p)) ps)

-- the front grows by the record that begins at the gate
pub front_grows : (file : List ℕ) (gate : ℕ) (ps : List (List ℕ)) (p rest : List ℕ) → HasFront file gate ps → length p ≤ payload_most
    → drop gate file ≡ 165 ∷ (to_be_bytes w32 (length p) ++ (p ++ rest)) → 0 < length rest
    → HasFront file (gate + (5 + length p)) (ps ++ p ∷ [])
front_grows file gate ps p rest f short is more =
    let all : file ≡ records (ps ++ p ∷ []) ++ rest = whole file gate ps f ∙ (ap (λ (l : List ℕ). records ps ++ l) is ∙ sym (records-push ps p rest)) in
    let size : length (records (ps ++ p ∷ [])) ≡ gate + (5 + length p) = omega (arith, ap length (records-push ps p []), length-append (records (ps ++ p ∷ [])) [], length-append (records ps) (165 ∷ (to_be_bytes w32 (length p) ++ (p ++ []))), length-append (to_be_bytes w32 (length p)) (p ++ []), length-append p [], f.size) in
    record {
      size = size;
      front = ap (λ (l : List ℕ). take (gate + (5 + length p)) l) all ∙ take_at (records (ps ++ p ∷ [])) rest (gate + (5 + length p)) size;
      more = λ _. omega (arith, ap length all, length-append (records (ps ++ p ∷ [])) rest, size, more);
      short = AllShort-push ps p f.short short;
    }
