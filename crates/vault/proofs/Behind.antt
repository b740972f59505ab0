-- What a crash leaves in each of the two steps of an append: in bytes, and in payloads.
use Rattle.std.proofs.Common.{◌≡◌, inl, inr, ℕ, ◌+◌, ◌<◌, ◌≤◌, List, [], ◌∷◌, ◌++◌, length, get_or, take, drop, slice_index, refl, sym, ◌∙◌, ap, subst, arith, length-append, length-take}
use Rattle.std.proofs.Common.{take-append-drop}
use Rattle.std.proofs.lemmas.List.{take_all, drop_all, drop_at, drop_more, take-take, take-append-le, append-nil, places}
use Rattle.std.proofs.lemmas.Bool.{cases_eq}
use Rattle.std.specs.Int.{w32, to_be_bytes}
use Rattle.disk_trait.specs.Image.{IsImage, settled, touched, overwritten}
use Rattle.disk_trait.proofs.Images.{touched_front, touched_back, length_touched}
use Rattle.vault.specs.Limit.{payload_most}
use Rattle.vault.specs.File.{IsShut, StandsFor, records, frame_of, AllShort, HasFront, IsBehindGate, IsBeforeOrAfter, StandsForOne}
use Rattle.vault.proofs.Lists.{same_front, stands_at, records-push, AllShort-push}
use Rattle.vault.proofs.Repairs.{closed_front, closed_stands}

module _ (file : List ℕ) (gate : ℕ) (frame : List ℕ) (long : length file ≡ gate + 1) where
  pub first_images : (image : List ℕ) → IsImage (touched (gate + 1) (length frame) (settled file)) image → take (gate + 1) image ≡ file
  first_images image is = touched_front file image (gate + 1) (length frame) (omega arith) is ∙ take_all (gate + 1) file (omega arith)

  pub staged : (seen : List ℕ) → seen ≡ overwritten file (gate + 1) frame → seen ≡ file ++ frame
  staged seen is =
      is
      ∙ ap (λ (l : List ℕ). l ++ (frame ++ drop (gate + 1 + length frame) file)) (take_all (gate + 1) file (omega arith))
      ∙ ap (λ (l : List ℕ). file ++ (frame ++ l)) (drop_all (gate + 1 + length frame) file (omega arith))
      ∙ ap (λ (l : List ℕ). file ++ l) (append-nil frame)

  pub second_images : (seen : List ℕ) → seen ≡ overwritten file (gate + 1) frame → (image : List ℕ) → IsImage (touched gate 1 (settled seen)) image → IsBehindGate file gate frame image
  second_images seen is image at_seen =
      let whole = staged seen is in
      let size : length seen ≡ gate + 1 + length frame = ap length whole ∙ (length-append file frame ∙ ap (λ n. n + length frame) long) in
      let front : take gate image ≡ take gate file = touched_front seen image gate 1 (omega arith) at_seen ∙ (ap (λ (l : List ℕ). take gate l) whole ∙ take-append-le gate file frame (omega arith)) in
      let back : drop (gate + 1) image ≡ frame = touched_back seen image gate 1 (omega arith) at_seen ∙ (ap (λ (l : List ℕ). drop (gate + 1) l) whole ∙ drop_at file frame (gate + 1) long) in
      inr (front, back, omega (arith, length_touched seen image gate 1 (omega arith) at_seen))

module _ (ps : List (List ℕ)) (file payload : List ℕ) (gate : ℕ) (is : file ≡ records ps ++ 0 ∷ []) (size : length (records ps) ≡ gate) (short : AllShort ps) (fits : length payload ≤ payload_most) where
  pub length_is : length file ≡ gate + 1
  length_is = omega (arith, ap length is, length-append (records ps) (0 ∷ []), size)

  front : HasFront file gate ps
  front = subst (λ n. HasFront file n ps) size (closed_front file ps is short)

  pub appended_file : (new : List ℕ) → new ≡ take gate file ++ 165 ∷ frame_of payload → new ≡ records (ps ++ payload ∷ []) ++ 0 ∷ []
  appended_file new from = from ∙ (ap (λ (l : List ℕ). l ++ 165 ∷ frame_of payload) front.front ∙ sym (records-push ps payload (0 ∷ [])))

  pub appended_short : AllShort (ps ++ payload ∷ [])
  appended_short = AllShort-push ps payload short fits

  pub appended_stands : (new : List ℕ) → new ≡ take gate file ++ 165 ∷ frame_of payload → StandsFor new (ps ++ payload ∷ [])
  appended_stands new from = closed_stands new (ps ++ payload ∷ []) (appended_file new from) appended_short

  pub appended_size : length (records (ps ++ payload ∷ [])) ≡ gate + (5 + length payload)
  appended_size = omega (arith, ap length (records-push ps payload []), length-append (records (ps ++ payload ∷ [])) [], length-append (records ps) (165 ∷ (to_be_bytes w32 (length payload) ++ (payload ++ []))), length-append (to_be_bytes w32 (length payload)) (payload ++ []), length-append payload [], size)

  closed_gate : (image : List ℕ) (x : ℕ) (rest : List ℕ) → take gate image ≡ take gate file → gate < length image → drop gate image ≡ x ∷ rest → (x ≡ 165 → length (x ∷ rest) ≤ 1) → StandsFor image ps
  closed_gate image x rest same lt is shut =
      stands_at image gate ps (same_front file image gate ps front same (λ _. lt)) (subst IsShut (sym is) shut)

  -- before the gate is written: without the new payload
  pub before_lists : (image : List ℕ) → take (gate + 1) image ≡ file → StandsFor image ps
  before_lists image same =
      let lt : gate < length image = omega (arith, ap length same, length-take (gate + 1) image, length_is) in
      let front_same : take gate image ≡ take gate file = sym (take-take gate (gate + 1) image (omega arith)) ∙ ap (λ (l : List ℕ). take gate l) same in
      let x = get_or image gate 0 in
      let parts : drop gate image ≡ x ∷ drop (gate + 1) image = drop_more image gate 0 lt in
      let a : x ≡ slice_index (take (gate + 1) image) gate = grind (arith, places) in
      let b : slice_index (records ps ++ 0 ∷ []) gate ≡ 0 = grind (arith, places) in
      let zero_is : x ≡ 0 = a ∙ (ap (λ (l : List ℕ). slice_index l gate) (same ∙ is) ∙ b) in
      closed_gate image x (drop (gate + 1) image) front_same lt parts (λ open_gate. absurd (omega arith))

  -- while it is written: without it or with it
  pub behind_lists : (image : List ℕ) → IsBehindGate file gate (frame_of payload) image → StandsForOne (IsBeforeOrAfter ps payload) image
  behind_lists image (inl same) = (ps, before_lists image same, inl refl)
  behind_lists image (inr parts) =
      let x = get_or image gate 0 in
      let rest_is : drop gate image ≡ x ∷ frame_of payload = drop_more image gate 0 parts.2 ∙ ap (λ (l : List ℕ). x ∷ l) parts.1 in
      elim (cases_eq x 165) [
        | inl open_gate ↦
            let all : image ≡ take gate file ++ 165 ∷ frame_of payload = sym (take-append-drop gate image) ∙ (ap (λ (l : List ℕ). l ++ drop gate image) parts.0 ∙ ap (λ (l : List ℕ). take gate file ++ l) (rest_is ∙ ap (λ n. n ∷ frame_of payload) open_gate)) in
            (ps ++ payload ∷ [], appended_stands image all, inr refl)
        | inr closed ↦ (ps, closed_gate image x (frame_of payload) parts.0 parts.2 rest_is (λ open_gate. absurd (closed open_gate)), inl refl)
      ]
