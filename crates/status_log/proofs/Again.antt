-- Payloads that are read as they were written.
use Rattle.std.proofs.Common.{◌≡◌, ℕ, ◌*◌, ◌^◌, ◌<◌, ◌≤◌, Bool, true, cond, List, [], ◌∷◌, ◌++◌, length, take, drop, Option, Some, None, Result, Ok, Err, refl, sym, ◌∙◌, ap, arith, append_assoc}
use Rattle.std.proofs.Common.{length-append}
use Rattle.std.specs.Prelude.{◌==◌, ◌&&◌, nat_le}
use Rattle.std.specs.Int.{w32, w64, to_be_bytes}
use Rattle.std.specs.List.{flat_map}
use Rattle.std.proofs.lemmas.Bool.{le-ltb}
use Rattle.std.proofs.lemmas.Bool.Decides.{nat_tests}
use Rattle.std.proofs.lemmas.List.{take_at, drop_at, append-nil}
use Rattle.stab_base.specs.declared.codec.TakeFault.{TakeFault}
use Rattle.stab_base.specs.declared.codec.TakeFault.TheVariants.{Short}
use Rattle.stab_base.specs.declared.limits.TheConstants.{NUMBER_MAX}
use Rattle.stab_base.specs.Codec.{byte_at, number_at}
use Rattle.stab_base.proofs.Fields.{wide32, wide64, byte_again, number_again}
use Rattle.value_codec.specs.Spelling.{name_spelling}
use Rattle.status_log.specs.Entry.{Entry, HasSpelling}
use Rattle.status_log.specs.Payload.{open_payload, close_payload, opening_of, id_at, opening_at, is_whole, entry_in, opens, closes}
use Rattle.status_log.specs.Memory.{IsOpening}
use Rattle.status_log.proofs.Twelves.{length-names, names_again}
use Rattle.status_log.proofs.Fields.{open_len}
use Rattle.status_log.proofs.Steps.{said, tagged}

id_again : (id rest : List ℕ) → length id ≡ 16 → id_at (id ++ rest) ≡ Ok (id, rest)
id_again id rest len =
    let good : List ℕ → List ℕ → Result (List ℕ × List ℕ) TakeFault = λ a b. Ok (a, b) in
    ap (λ (b : Bool). cond b (Err (Short 16 (length (id ++ rest)))) (good (take 16 (id ++ rest)) (drop 16 (id ++ rest)))) (le-ltb (length (id ++ rest)) 16 (omega (arith, len, length-append id rest)))
    ∙ (ap (λ (l : List ℕ). good l (drop 16 (id ++ rest))) (take_at id rest 16 len) ∙ ap (good id) (drop_at id rest 16 len))

module _ (entry : Entry) (h : HasSpelling entry) where
  names : List ℕ
  names = flat_map name_spelling entry.old

  behind : List ℕ
  behind = to_be_bytes w64 entry.version ++ (entry.row ++ (to_be_bytes w32 entry.client ++ (to_be_bytes w64 entry.number ++ (to_be_bytes w64 entry.base ++ (to_be_bytes w32 entry.fresh ++ (to_be_bytes w32 (length entry.old) ++ names))))))

  parts : open_payload entry ≡ 1 ∷ behind
  unfolding behind names
  parts = simp append_assoc

  opening_again : opening_at behind ≡ Ok (opening_of entry, names)
  unfolding behind names opening_at
  opening_again =
      let many : length entry.old < 2 ^ 32 = omega (arith, h.size) in
      rw (
        number_again w64 (2 ^ 64) wide64 entry.version _ (omega (arith, h.version)),
        id_again entry.row _ h.row,
        number_again w32 (2 ^ 32) wide32 entry.client _ (omega (arith, h.client_to)),
        number_again w64 (2 ^ 64) wide64 entry.number _ h.number,
        number_again w64 (2 ^ 64) wide64 entry.base _ h.base,
        number_again w32 (2 ^ 32) wide32 entry.fresh _ h.fresh,
        number_again w32 (2 ^ 32) wide32 (length entry.old) _ many,
      ) refl

  whole : is_whole (opening_of entry) (length names) ≡ true
  unfolding names
  whole =
      let len : length (flat_map name_spelling entry.old) ≡ 12 * length entry.old = length-names entry.old in
      let a = h.client_from in
      let b = h.client_to in
      let c = h.version in
      grind (arith, nat_tests)

  entry_is : entry_in (opening_of entry) names ≡ entry
  unfolding names
  entry_is = ap (λ old. record entry { old = old }) (names_again entry.old h.old)

  pub opens_again : opens (open_payload entry) ≡ Some entry
  unfolding opens
  opens_again =
      ap tagged (ap byte_at parts ∙ byte_again 1 behind)
      ∙ (ap said opening_again ∙ (ap (λ (b : Bool). cond b (Some (entry_in (opening_of entry) names)) None) whole ∙ ap (λ (e : Entry). Some e) entry_is))

  pub is_opening : IsOpening (open_payload entry) (opening_of entry)
  unfolding names
  is_opening =
      let front : List ℕ = (1 ∷ []) ++ to_be_bytes w64 entry.version ++ entry.row ++ to_be_bytes w32 entry.client ++ to_be_bytes w64 entry.number ++ to_be_bytes w64 entry.base ++ to_be_bytes w32 entry.fresh ++ to_be_bytes w32 (length entry.old) in
      let all : open_payload entry ≡ front ++ names = sym (append_assoc ((1 ∷ []) ++ to_be_bytes w64 entry.version ++ entry.row ++ to_be_bytes w32 entry.client ++ to_be_bytes w64 entry.number ++ to_be_bytes w64 entry.base ++ to_be_bytes w32 entry.fresh) (to_be_bytes w32 (length entry.old)) names) in
      let len : length front ≡ 53 = omega (arith, open_len entry h.row, ap length all, length-append front names, length-names entry.old) in
      let rest : drop 53 (open_payload entry) ≡ names = ap (drop 53) all ∙ drop_at front names 53 len in
      record {
        entry = opens_again ∙ ap (λ (e : Entry). Some e) (sym (ap (entry_in (opening_of entry)) rest ∙ entry_is));
        size = open_len entry h.row;
      }

abbrev closed : Result (ℕ × List ℕ) TakeFault → Option ℕ
closed (Ok found) = cond ((length found.1 == 0) && nat_le found.0 NUMBER_MAX) (Some found.0) None
closed (Err fault) = None

abbrev tagged_close : Result (ℕ × List ℕ) TakeFault → Option ℕ
tagged_close (Ok tag) = cond (tag.0 == 2) (closed (number_at w64 tag.1)) None
tagged_close (Err fault) = None

module _ (version : ℕ) (h : version ≤ NUMBER_MAX) where
  number : number_at w64 (to_be_bytes w64 version) ≡ Ok (version, [])
  number = ap (number_at w64) (sym (append-nil (to_be_bytes w64 version))) ∙ number_again w64 (2 ^ 64) wide64 version [] (omega (arith, h))

  pub closes_again : closes (close_payload version) ≡ Some version
  unfolding closes
  closes_again =
      let b : nat_le version NUMBER_MAX ≡ true = grind (arith, nat_tests) in
      ap tagged_close (byte_again 2 (to_be_bytes w64 version)) ∙ (ap closed number ∙ ap (λ (t : Bool). cond t (Some version) None) b)

  pub opens_not : opens (close_payload version) ≡ None
  unfolding opens
  opens_not = ap tagged (byte_again 2 (to_be_bytes w64 version))
