-- What one chunk more makes of the slots.
use Rattle.std.proofs.Common.{true, false, ◌≡◌, ℕ, zero, suc, ◌+◌, ◌<◌, Bool, List, [], ◌∷◌, length, get_or, set, Some, None, refl, sym, ap, ◌∙◌, arith, inl, inr}
use Rattle.std.specs.Prelude.{◌==◌, ◌&&◌, ◌||◌, not, cond, count_by, replicate, if◌then◌else◌}
use Rattle.std.specs.List.{AllByRecursion}
use Rattle.std.proofs.lemmas.Bool.Decides.{nat_tests}
use Rattle.std.proofs.lemmas.List.Sums.{sum_by-cons}
use Rattle.assemblies.specs.declared.awaiting.Awaited.{Awaited}
use Rattle.assemblies.specs.Places.{IsBefore, Rises}
use Rattle.assemblies.specs.Gathering.{Slot, waiting, stands_at, has_place, is_lacking, taken, takes, is_whole, chunks_of, slots_of, NoneStands, StandsAt, NoneLacks, LacksAt}
use Rattle.assemblies.proofs.Listing.{both_left}

-- ---- true and false

and_false : (a b : Bool) → a ≡ false → (a && b) ≡ false
and_false true b e = absurd (let bad : true ≡ false = e in cc)
and_false false b e = refl

and_true : (a b : Bool) → a ≡ true → b ≡ true → (a && b) ≡ true
and_true true b e f = f
and_true false b e f = absurd (let bad : false ≡ true = e in cc)

not_equal : (a b : ℕ) → (a ≡ b → ⊥) → (a == b) ≡ false
not_equal a b other = grind (arith, nat_tests)

and_false_right : (a : Bool) → (a && false) ≡ false
and_false_right true = refl
and_false_right false = refl

or_true : (a b : Bool) → true ≡ b → true ≡ (a || b)
or_true true b e = refl
or_true false b e = e

-- ---- no two chunks stand at one place

module _ (column place : ℕ) where
  not_behind : (a b : Awaited) → IsBefore a b → stands_at column place a ≡ true → stands_at column place b ≡ false
  not_behind a b (inl h) e = grind (arith, nat_tests)
  not_behind a b (inr h) e = let lower : a.place < b.place = h.1 in grind (arith, nat_tests)

  not_before : (a b : Awaited) → IsBefore a b → stands_at column place b ≡ true → stands_at column place a ≡ false
  not_before a b (inl h) e = grind (arith, nat_tests)
  not_before a b (inr h) e = let lower : a.place < b.place = h.1 in grind (arith, nat_tests)

  none_behind : (a : Awaited) (list : List Awaited) → AllByRecursion (λ b. IsBefore a b) list → stands_at column place a ≡ true → NoneStands column place list
  none_behind a [] before e = tt
  none_behind a (b ∷ list) before e = (not_behind a b before.0 e, none_behind a list before.1 e)

  first_not : (a : Awaited) (list : List Awaited) → AllByRecursion (λ b. IsBefore a b) list → (n : ℕ) → n < length list
      → ((d : Awaited) → stands_at column place (get_or list n d) ≡ true) → stands_at column place a ≡ false
  first_not a [] before n within e = absurd (omega (arith, within))
  first_not a (b ∷ list) before zero within e = not_before a b before.0 (e a)
  first_not a (b ∷ list) before (suc n) within e = first_not a list before.1 n (omega (arith, within)) e

-- ---- where none lacks

module _ (column place len : ℕ) where
  pub none_lacks : (awaited : List Awaited) (came : List Bool) → NoneStands column place awaited → NoneLacks column place len awaited came
  none_lacks [] came none = tt
  none_lacks (it ∷ awaited) [] none = tt
  none_lacks (it ∷ awaited) (here ∷ came) none =
      (and_false (has_place column place len it) (not here) (and_false (stands_at column place it) (it.len == len) none.0), none_lacks awaited came none.1)

  -- the chunk stands there, but it has come or has another length
  pub one_not : (awaited : List Awaited) (came : List Bool) → Rises awaited → (n : ℕ) → StandsAt column place awaited n
      → ((d : Awaited) (e : Bool) → n < length came → (has_place column place len (get_or awaited n d) && not (get_or came n e)) ≡ false) → NoneLacks column place len awaited came
  one_not [] came rises n found not_here = tt
  one_not (it ∷ awaited) [] rises n found not_here = tt
  one_not (it ∷ awaited) (here ∷ came) rises zero found not_here =
      (not_here it here (omega arith), none_lacks awaited came (none_behind column place it awaited rises.0 (found.here it)))
  one_not (it ∷ awaited) (here ∷ came) rises (suc n) found not_here =
      let within : n < length awaited = omega (arith, found.within) in (
        and_false (has_place column place len it) (not here) (and_false (stands_at column place it) (it.len == len) (first_not column place it awaited rises.0 n within found.here)),
        one_not awaited came rises.1 n (record { within = within; here = found.here }) (λ d e h. not_here d e (omega (arith, h))),
      )

  pub has_come : (awaited : List Awaited) (came : List Bool) → Rises awaited → (n : ℕ) → StandsAt column place awaited n → ((d : Bool) → n < length came → get_or came n d ≡ true)
      → NoneLacks column place len awaited came
  has_come awaited came rises n found here =
      one_not awaited came rises n found (λ d e within. ap (λ (b : Bool). has_place column place len (get_or awaited n d) && not b) (here e within) ∙ and_false_right (has_place column place len (get_or awaited n d)))

  pub has_other_len : (awaited : List Awaited) (came : List Bool) → Rises awaited → (n : ℕ) → StandsAt column place awaited n
      → ((d : Awaited) → n < length awaited → (get_or awaited n d).len ≡ len → ⊥) → NoneLacks column place len awaited came
  has_other_len awaited came rises n found other =
      one_not awaited came rises n found (λ d e within. and_false (has_place column place len (get_or awaited n d)) (not (get_or came n e))
      (ap (λ (b : Bool). stands_at column place (get_or awaited n d) && b) (not_equal (get_or awaited n d).len len (other d found.within)) ∙ and_false_right (stands_at column place (get_or awaited n d))))

-- ---- behind a chunk

-- a slot lacks exactly where its flag isn't set
lack_of : (column place len : ℕ) (it : Awaited) (here : Bool) (bytes : List ℕ) → is_lacking column place len (it, (if here then Some bytes else None)) ≡ (has_place column place len it && not here)
lack_of column place len it true bytes = refl
lack_of column place len it false bytes = refl

module _ (column place : ℕ) (bytes : List ℕ) where
  taken_one : (b : Bool) (slot : Slot) → is_lacking column place (length bytes) slot ≡ b → (slots : List Slot)
      → taken column place bytes (slot ∷ slots) ≡ (if b then (slot.0, Some bytes) else slot) ∷ taken column place bytes slots
  taken_one b slot is slots = rw is refl

  pub nothing_taken : (awaited : List Awaited) (came : List Bool) (chunks : List (List ℕ)) → NoneLacks column place (length bytes) awaited came
      → slots_of awaited came chunks ≡ taken column place bytes (slots_of awaited came chunks)
  nothing_taken [] came chunks none = refl
  nothing_taken (it ∷ awaited) [] chunks none = refl
  nothing_taken (it ∷ awaited) (here ∷ came) [] none = refl
  nothing_taken (it ∷ awaited) (here ∷ came) (old ∷ chunks) none =
      ap (λ (z : List Slot). (it, (if here then Some old else None)) ∷ z) (nothing_taken awaited came chunks none.1)
      ∙ sym (taken_one false (it, (if here then Some old else None)) (lack_of column place (length bytes) it here old ∙ none.0) (slots_of awaited came chunks))

  pub nothing_takes : (awaited : List Awaited) (came : List Bool) (chunks : List (List ℕ)) → NoneLacks column place (length bytes) awaited came
      → false ≡ takes column place bytes (slots_of awaited came chunks)
  nothing_takes [] came chunks none = refl
  nothing_takes (it ∷ awaited) [] chunks none = refl
  nothing_takes (it ∷ awaited) (here ∷ came) [] none = refl
  nothing_takes (it ∷ awaited) (here ∷ came) (old ∷ chunks) none = rw (lack_of column place (length bytes) it here old ∙ none.0) (nothing_takes awaited came chunks none.1)

  -- the one that lacks is taken
  pub one_taken : (awaited : List Awaited) (came : List Bool) (chunks : List (List ℕ)) (n : ℕ) → Rises awaited → length came ≡ length awaited → length chunks ≡ length awaited
      → LacksAt column place (length bytes) awaited came n
      → slots_of awaited (set came n true) (set chunks n bytes) ≡ taken column place bytes (slots_of awaited came chunks)
  one_taken [] came chunks n rises flags count lacks = absurd (omega (arith, lacks.within))
  one_taken (it ∷ awaited) [] chunks n rises flags count lacks = absurd (omega (arith, flags))
  one_taken (it ∷ awaited) (here ∷ came) [] n rises flags count lacks = absurd (omega (arith, count))
  one_taken (it ∷ awaited) (here ∷ came) (old ∷ chunks) zero rises flags count lacks =
      let stands : stands_at column place it ≡ true = both_left (stands_at column place it) (it.len == length bytes) (lacks.here it) in
      let lack : is_lacking column place (length bytes) (it, (if here then Some old else None)) ≡ true =
      lack_of column place (length bytes) it here old ∙ and_true (has_place column place (length bytes) it) (not here) (lacks.here it) (ap not (lacks.still here)) in
      ap (λ (z : List Slot). (it, Some bytes) ∷ z)
      (nothing_taken awaited came chunks (none_lacks column place (length bytes) awaited came (none_behind column place it awaited rises.0 stands)))
      ∙ sym (taken_one true (it, (if here then Some old else None)) lack (slots_of awaited came chunks))
  one_taken (it ∷ awaited) (here ∷ came) (old ∷ chunks) (suc n) rises flags count lacks =
      let within : n < length awaited = omega (arith, lacks.within) in
      let off : stands_at column place it ≡ false =
      first_not column place it awaited rises.0 n within (λ d. both_left (stands_at column place (get_or awaited n d)) ((get_or awaited n d).len == length bytes) (lacks.here d)) in
      let lack : is_lacking column place (length bytes) (it, (if here then Some old else None)) ≡ false =
      lack_of column place (length bytes) it here old ∙ and_false (has_place column place (length bytes) it) (not here) (and_false (stands_at column place it) (it.len == length bytes) off) in
      ap (λ (z : List Slot). (it, (if here then Some old else None)) ∷ z)
      (one_taken awaited came chunks n rises.1 (omega (arith, flags)) (omega (arith, count)) (record { within = within; here = lacks.here; still = lacks.still }))
      ∙ sym (taken_one false (it, (if here then Some old else None)) lack (slots_of awaited came chunks))

  pub one_takes : (awaited : List Awaited) (came : List Bool) (chunks : List (List ℕ)) (n : ℕ) → length came ≡ length awaited → length chunks ≡ length awaited
      → LacksAt column place (length bytes) awaited came n → true ≡ takes column place bytes (slots_of awaited came chunks)
  one_takes [] came chunks n flags count lacks = absurd (omega (arith, lacks.within))
  one_takes (it ∷ awaited) [] chunks n flags count lacks = absurd (omega (arith, flags))
  one_takes (it ∷ awaited) (here ∷ came) [] n flags count lacks = absurd (omega (arith, count))
  one_takes (it ∷ awaited) (here ∷ came) (old ∷ chunks) zero flags count lacks =
      rw (lack_of column place (length bytes) it here old ∙ and_true (has_place column place (length bytes) it) (not here) (lacks.here it) (ap not (lacks.still here))) refl
  one_takes (it ∷ awaited) (here ∷ came) (old ∷ chunks) (suc n) flags count lacks =
      or_true (is_lacking column place (length bytes) (it, (if here then Some old else None))) (takes column place bytes (slots_of awaited came chunks))
      (one_takes awaited came chunks n (omega (arith, flags)) (omega (arith, count)) (record { within = omega (arith, lacks.within); here = lacks.here; still = lacks.still }))

-- ---- whole

pub whole_by_count : (awaited : List Awaited) (came : List Bool) (chunks : List (List ℕ)) → length came ≡ length awaited → length chunks ≡ length awaited
    → (count_by not came == 0) ≡ is_whole (slots_of awaited came chunks)
whole_by_count [] [] chunks flags count = refl
whole_by_count [] (here ∷ came) chunks flags count = absurd (omega (arith, flags))
whole_by_count (it ∷ awaited) [] chunks flags count = absurd (omega (arith, flags))
whole_by_count (it ∷ awaited) (here ∷ came) [] flags count = absurd (omega (arith, count))
whole_by_count (it ∷ awaited) (true ∷ came) (bytes ∷ chunks) flags count =
    let here : count_by not (true ∷ came) ≡ count_by not came = sum_by-cons (λ (b : Bool). cond (not b) 1 0) true came ∙ omega arith in
    ap (λ n. n == 0) here ∙ whole_by_count awaited came chunks (omega (arith, flags)) (omega (arith, count))
whole_by_count (it ∷ awaited) (false ∷ came) (bytes ∷ chunks) flags count =
    let here : count_by not (false ∷ came) ≡ 1 + count_by not came = sum_by-cons (λ (b : Bool). cond (not b) 1 0) false came in
    let some : (count_by not (false ∷ came) == 0) ≡ false = grind (arith, nat_tests, here) in some

pub chunks_when_whole : (awaited : List Awaited) (came : List Bool) (chunks : List (List ℕ)) → length came ≡ length awaited → length chunks ≡ length awaited
    → is_whole (slots_of awaited came chunks) ≡ true → chunks ≡ chunks_of (slots_of awaited came chunks)
chunks_when_whole [] came [] flags count whole = refl
chunks_when_whole [] came (bytes ∷ chunks) flags count whole = absurd (omega (arith, count))
chunks_when_whole (it ∷ awaited) [] chunks flags count whole = absurd (omega (arith, flags))
chunks_when_whole (it ∷ awaited) (here ∷ came) [] flags count whole = absurd (omega (arith, count))
chunks_when_whole (it ∷ awaited) (true ∷ came) (bytes ∷ chunks) flags count whole =
    ap (λ (z : List (List ℕ)). bytes ∷ z) (chunks_when_whole awaited came chunks (omega (arith, flags)) (omega (arith, count)) whole)
chunks_when_whole (it ∷ awaited) (false ∷ came) (bytes ∷ chunks) flags count whole = absurd (let bad : false ≡ true = whole in cc)

-- ---- nothing has come

pub waiting_slots : (awaited : List Awaited) → slots_of awaited (replicate (length awaited) false) (replicate (length awaited) []) ≡ waiting awaited
waiting_slots [] = refl
waiting_slots (it ∷ awaited) = ap (λ (z : List Slot). (it, None) ∷ z) (waiting_slots awaited)
