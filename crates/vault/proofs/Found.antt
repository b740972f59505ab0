-- One record more is found.
use Rattle.std.proofs.Common.{◌≡◌, inl, inr, ⊎_elim, ℕ, ◌+◌, ◌<◌, ◌≤◌, true, false, List, [], ◌∷◌, ◌++◌, length, take, drop, slice_index, get_or, refl, sym, ◌∙◌, ap, subst, arith, length-take}
use Rattle.std.proofs.Common.{length-drop, take-append-drop}
use Rattle.std.proofs.lemmas.List.{drop_more, drop-drop, take-append-drop}
use Rattle.std.proofs.lemmas.Bool.Decides.{nat_tests}
use Rattle.std.specs.Int.{w32, to_be_bytes}
use Rattle.disk_trait.specs.Image.{IsImage}
use Rattle.disk_trait.specs.Calls.{DiskState, SameFile, Elapses}
use Rattle.vault.specs.Limit.{payload_most}
use Rattle.vault.specs.File.{length_in, begins_record, payloads_of, records, places_from, HasFront, EndsAt}
use Rattle.vault.specs.Scan.{BeginsRecord, HasFound}
use Rattle.vault.proofs.Lists.{front_grows, places-push, ends_list}

-- what the test of a record says
record IsThere (rest : List ℕ) : Type 0 where
  pub gate : slice_index rest 0 ≡ 165
  pub small : length_in rest ≤ payload_most
  pub within : 5 + length_in rest < length rest

there : (rest : List ℕ) → begins_record rest ≡ true → IsThere rest
there rest is = record {
  gate = grind (arith, nat_tests);
  small = grind (arith, nat_tests);
  within = grind (arith, nat_tests);
}

module _ (rest : List ℕ) (size : ℕ) (b : BeginsRecord rest size) where
  t : IsThere rest
  t = there rest b.there

  pub size_within : size < length rest
  size_within = omega (arith, b.size_is, t.within)

  payload : List ℕ
  payload = take (length_in rest) (drop 5 rest)

  payload_len : length payload ≡ length_in rest
  unfolding payload
  payload_len = omega (arith, length-take (length_in rest) (drop 5 rest), length-drop 5 rest, t.within)

  parts : rest ≡ 165 ∷ (to_be_bytes w32 (length payload) ++ (payload ++ drop size rest))
  unfolding payload
  parts =
      let first : rest ≡ get_or rest 0 0 ∷ drop 1 rest = drop_more rest 0 0 (omega (arith, t.within)) in
      let head : drop 1 rest ≡ take 4 (drop 1 rest) ++ drop 5 rest = sym (take-append-drop 4 (drop 1 rest)) ∙ ap (λ (l : List ℕ). take 4 (drop 1 rest) ++ l) (drop-drop 4 1 rest) in
      let tail : drop 5 rest ≡ payload ++ drop size rest = sym (take-append-drop (length_in rest) (drop 5 rest)) ∙ ap (λ (l : List ℕ). payload ++ l) (drop-drop (length_in rest) 5 rest ∙ ap (λ (n : ℕ). drop n rest) (sym b.size_is)) in
      let spelled : take 4 (drop 1 rest) ≡ to_be_bytes w32 (length payload) = sym b.spelled ∙ ap (λ (n : ℕ). to_be_bytes w32 n) (sym payload_len) in
      first ∙ (ap (λ (n : ℕ). n ∷ drop 1 rest) t.gate ∙ ap (λ (l : List ℕ). 165 ∷ l) (head ∙ (ap (λ (l : List ℕ). l ++ drop 5 rest) spelled ∙ ap (λ (l : List ℕ). to_be_bytes w32 (length payload) ++ l) tail)))

  pub one_more : (file : List ℕ) (gate : ℕ) (places : List ℕ) → rest ≡ drop gate file → HasFound file gate places → HasFound file (gate + size) (places ++ gate ∷ [])
  one_more file gate places is h =
      let fits : length payload ≤ payload_most = omega (arith, payload_len, t.small) in
      let some : 0 < length (drop size rest) = omega (arith, size_within, length-drop size rest) in
      let grown = front_grows file gate h.payloads payload (drop size rest) h.front fits (sym is ∙ parts) some in
      let size_is : gate + (5 + length payload) ≡ gate + size = omega (arith, payload_len, b.size_is) in
      let gate_is : gate ≡ 0 + length (records h.payloads) = omega (arith, h.front.size) in
      record {
        payloads = h.payloads ++ payload ∷ [];
        front = subst (λ (n : ℕ). HasFront file n (h.payloads ++ payload ∷ [])) size_is grown;
        places_are = ap (λ (l : List ℕ). l ++ gate ∷ []) h.places_are ∙ (ap (λ (n : ℕ). places_from 0 h.payloads ++ n ∷ []) gate_is ∙ sym (places-push 0 h.payloads payload));
        within = omega (arith, size_within, ap length is, length-drop gate file, h.within);
      }

-- nothing is found yet
pub none_found : (file : List ℕ) → HasFound file 0 []
none_found file = record {
  payloads = [];
  front = record { size = refl; front = refl; more = λ lt. absurd (omega arith); short = tt };
  places_are = refl;
  within = omega arith;
}

-- all is found
pub all_found : (file : List ℕ) (gate : ℕ) (places : List ℕ) → HasFound file gate places → begins_record (drop gate file) ≡ false
    → EndsAt file gate (payloads_of file) × (places ≡ places_from 0 (payloads_of file))
all_found file gate places h last =
    let list : payloads_of file ≡ h.payloads = ends_list file gate h.payloads h.front last in (
      record { front = subst (HasFront file gate) (sym list) h.front; last = last },
      h.places_are ∙ ap (places_from 0) (sym list),
    )

pub same_then : (a b c : DiskState) → SameFile a b → SameFile b c → SameFile a c
same_then a b c f s = record {
  seen = s.seen ∙ f.seen;
  pending = s.pending ∙ f.pending;
  moment = s.moment ∙ f.moment;
  room = omega (arith, f.room, s.room);
  calls = omega (arith, f.calls, s.calls);
  bytes = omega (arith, f.bytes, s.bytes);
  stops = s.stops ∙ f.stops;
  is_armed = s.is_armed ∙ f.is_armed;
  passes = s.passes ∙ f.passes;
  pick = s.pick ∙ f.pick;
}

-- time goes on while nothing is written
pub time_then : (a b c : DiskState) (A B C : ℕ → List ℕ → Type 0) → SameFile b c → Elapses a b A B → Elapses b c B C → Elapses a c A C
time_then a b c A B C same f s = record {
  later = omega (arith, f.later, s.later);
  nothing_else = λ t image le left.
      ⊎_elim
      (λ early. ⊎_elim inl (λ is. inr (subst (λ p. IsImage p image) (sym same.pending) is)) (f.nothing_else t image le early))
      inr
      (s.nothing_else t image (omega (arith, le, f.later)) left);
  keeps = λ t image le left. s.keeps t image (omega (arith, le, f.later)) (f.keeps t image le left);
}
