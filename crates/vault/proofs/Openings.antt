-- A file that ends with a closed gate, as an opened vault has it.
use Rattle.std.proofs.Common.{◌≡◌, ℕ, ◌+◌, List, [], ◌∷◌, ◌++◌, length, sym, ◌∙◌, ap, subst, arith, length-append}
use Rattle.vault.specs.File.{payloads_of, records, places_from, AllShort, EndsAt}
use Rattle.vault.proofs.Lists.{places-push}
use Rattle.vault.proofs.Repairs.{closed_stands, closed_ends}

pub record IsClosedAt (seen : List ℕ) (gate : ℕ) (ps : List (List ℕ)) : Type 0 where
  pub list : payloads_of seen ≡ ps
  pub ends : EndsAt seen gate (payloads_of seen)
  pub file : seen ≡ records (payloads_of seen) ++ 0 ∷ []
  pub length_is : length seen ≡ gate + 1

pub closed_at : (seen : List ℕ) (gate : ℕ) (ps : List (List ℕ)) → seen ≡ records ps ++ 0 ∷ [] → AllShort ps → length (records ps) ≡ gate → IsClosedAt seen gate ps
closed_at seen gate ps is short size =
    let list : payloads_of seen ≡ ps = (closed_stands seen ps is short).records in
    record {
      list = list;
      ends = subst (λ (n : ℕ). EndsAt seen n (payloads_of seen)) size (subst (λ (l : List (List ℕ)). EndsAt seen (length (records ps)) l) (sym list) (closed_ends seen ps is short));
      file = is ∙ ap (λ (l : List (List ℕ)). records l ++ 0 ∷ []) (sym list);
      length_is = omega (arith, ap length is, length-append (records ps) (0 ∷ []), size);
    }

-- the index grows with the list
pub places_grow : (places : List ℕ) (gate : ℕ) (ps : List (List ℕ)) (p : List ℕ) → places ≡ places_from 0 ps → length (records ps) ≡ gate → places ++ gate ∷ [] ≡ places_from 0 (ps ++ p ∷ [])
places_grow places gate ps p is size =
    let gate_is : gate ≡ 0 + length (records ps) = omega (arith, size) in
    ap (λ (l : List ℕ). l ++ gate ∷ []) is ∙ (ap (λ (n : ℕ). places_from 0 ps ++ n ∷ []) gate_is ∙ sym (places-push 0 ps p))

-- the records of one list end at one gate
pub one_gate : (file : List ℕ) (gate gate' : ℕ) (ps : List (List ℕ)) → EndsAt file gate ps → EndsAt file gate' ps → gate ≡ gate'
one_gate file gate gate' ps e e' = sym e.front.size ∙ e'.front.size
