-- While the end of a file is repaired, each image stands for the same payloads.
use Rattle.std.proofs.Common.{◌≡◌, inl, inr, ℕ, ◌+◌, ◌-◌, ◌<◌, ◌≤◌, min, List, [], ◌∷◌, ◌++◌, length, take, drop, slice_index, refl, sym, ◌∙◌, ap, subst, arith, length-drop, length-take}
use Rattle.std.proofs.Common.{length-append}
use Rattle.std.proofs.lemmas.List.{take-take, take_at, drop_at, drop_all, append-nil, places}
use Rattle.std.proofs.lemmas.Bool.{cases_lt}
use Rattle.disk_trait.specs.Image.{IsImage, settled, touched, shortened, overwritten}
use Rattle.disk_trait.proofs.Images.{touched_front, shortened_front}
use Rattle.vault.specs.File.{decode, payloads_of, IsShut, StandsFor, records, AllShort, HasFront, EndsAt}
use Rattle.vault.proofs.Lists.{shut_last, same_front, stands_at, gate_within, found_first}

-- a file that ends with a closed gate
module _ (file : List ℕ) (ps : List (List ℕ)) (is : file ≡ records ps ++ 0 ∷ []) (short : AllShort ps) where
  behind_is : drop (length (records ps)) file ≡ 0 ∷ []
  behind_is = ap (λ (l : List ℕ). drop (length (records ps)) l) is ∙ drop_at (records ps) (0 ∷ []) (length (records ps)) refl

  pub closed_front : HasFront file (length (records ps)) ps
  closed_front = record {
    size = refl;
    front = ap (λ (l : List ℕ). take (length (records ps)) l) is ∙ take_at (records ps) (0 ∷ []) (length (records ps)) refl;
    more = λ _. omega (arith, ap length is, length-append (records ps) (0 ∷ []));
    short = short;
  }

  shut_zero : IsShut (0 ∷ [])
  shut_zero e = absurd cc

  pub closed_shut : IsShut (drop (length (records ps)) file)
  closed_shut = subst IsShut (sym behind_is) shut_zero

  pub closed_stands : StandsFor file ps
  closed_stands = stands_at file (length (records ps)) ps closed_front closed_shut

  pub closed_ends : EndsAt file (length (records ps)) ps
  closed_ends = record { front = closed_front; last = shut_last (drop (length (records ps)) file) closed_shut }

module _ (file : List ℕ) (gate : ℕ) (ps : List (List ℕ)) (e : EndsAt file gate ps) where
  within : gate ≤ length file
  within = gate_within file gate ps e.front

  -- where the file is cut
  abbrev pub end : ℕ
  end = min (gate + 1) (length file)

  front_of : (image : List ℕ) → take end image ≡ take end file → take gate image ≡ take gate file
  front_of image same = sym (take-take gate end image (omega (arith, within))) ∙ (ap (λ (l : List ℕ). take gate l) same ∙ take-take gate end file (omega (arith, within)))

  gate_same : gate < length file → (image : List ℕ) → take end image ≡ take end file → slice_index (drop gate image) 0 ≡ slice_index (drop gate file) 0
  gate_same lt image same =
      let last : gate < end = omega arith in
      let a : slice_index (drop gate image) 0 ≡ slice_index (take end image) gate = grind (arith, places) in
      let b : slice_index (take end file) gate ≡ slice_index (drop gate file) 0 = grind (arith, places) in
      a ∙ (ap (λ (l : List ℕ). slice_index l gate) same ∙ b)

  pub cut_front : (image : List ℕ) → end ≤ length image → take end image ≡ take end file → HasFront image gate ps
  cut_front image long same = same_front file image gate ps e.front (front_of image same) (λ some. omega (arith, e.front.more some, long))

  image_long : (image : List ℕ) → IsImage (shortened end (settled file)) image → end ≤ length image
  image_long image is = omega (arith, is.no_shorter)

  image_same : (image : List ℕ) → IsImage (shortened end (settled file)) image → take end image ≡ take end file
  image_same image is = shortened_front file image end (omega arith) is

  -- whatever stands behind the cut, the payloads in front of it are found
  pub cut_keeps : (image : List ℕ) → IsImage (shortened end (settled file)) image → (more : List (List ℕ)) × (payloads_of image ≡ ps ++ more)
  cut_keeps image is = (decode (length image - length ps) (drop gate image), found_first image gate ps (cut_front image (image_long image is) (image_same image is)))

  pub cut_stands : IsShut (drop gate file) → (image : List ℕ) → IsImage (shortened end (settled file)) image → StandsFor image ps
  cut_stands shut image is = stands_at image gate ps (cut_front image (image_long image is) (image_same image is)) shut_image
    where
      shut_image : IsShut (drop gate image)
      shut_image open_gate =
          elim (cases_lt gate (length file)) [
            | inl lt ↦ let alone : length (drop gate file) ≤ 1 = shut (sym (gate_same lt image (image_same image is)) ∙ open_gate) in omega (arith, alone, is.no_longer, length-drop gate file, length-drop gate image)
            | inr le ↦ omega (arith, is.no_longer, length-drop gate image)
          ]

  pub cut_seen : (seen : List ℕ) → seen ≡ take end file → HasFront seen gate ps × (length seen ≤ gate + 1)
  cut_seen seen is = (cut_front seen (omega (arith, ap length is, length-take end file)) (ap (λ (l : List ℕ). take end l) is ∙ take-take end end file (omega arith)), omega (arith, ap length is, length-take end file))

-- a file of which no more than the gate stands behind the records
module _ (file : List ℕ) (gate : ℕ) (ps : List (List ℕ)) (f : HasFront file gate ps) (last : length file ≤ gate + 1) where
  pub set_stands : (image : List ℕ) → IsImage (touched gate 1 (settled file)) image → StandsFor image ps
  set_stands image is = stands_at image gate ps (same_front file image gate ps f (touched_front file image gate 1 (gate_within file gate ps f) is) (λ some. omega (arith, f.more some, is.no_shorter))) (λ _. omega (arith, is.no_longer, length-drop gate image))

  pub set_keeps : (image : List ℕ) → IsImage (touched gate 1 (settled file)) image → (more : List (List ℕ)) × (payloads_of image ≡ ps ++ more)
  set_keeps image is = ([], (set_stands image is).records ∙ sym (append-nil ps))

  pub set_file : overwritten file gate (0 ∷ []) ≡ records ps ++ 0 ∷ []
  set_file = ap (λ (l : List ℕ). l ++ (0 ∷ drop (gate + 1) file)) f.front ∙ ap (λ (l : List ℕ). records ps ++ (0 ∷ l)) (drop_all (gate + 1) file last)
