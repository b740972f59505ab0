-- An id at a place, and the parts of an opening.
use Rattle.std.proofs.Common.{◌≡◌, ℕ, ◌+◌, ◌-◌, ◌≤◌, Bool, List, [], ◌∷◌, ◌++◌, length, take, drop, cond, Result, Ok, Err, sym, ◌∙◌, ap, subst, arith, length-append, length-drop}
use Rattle.std.specs.Int.{w32, w64, to_be_bytes}
use Rattle.std.specs.List.{flat_map}
use Rattle.std.proofs.lemmas.Bool.{le-ltb}
use Rattle.std.proofs.lemmas.List.{take_all, drop-drop}
use Rattle.stab_base.specs.declared.codec.TakeFault.{TakeFault}
use Rattle.stab_base.specs.declared.codec.TakeFault.TheVariants.{Short}
use Rattle.value_codec.specs.Spelling.{name_spelling, list_spelling}
use Rattle.status_log.specs.Entry.{Entry, size_of}
use Rattle.status_log.specs.Payload.{id_at, open_payload}
use Rattle.status_log.proofs.Twelves.{length-names}

pub all_behind : (at : ℕ) (bytes : List ℕ) → take (length bytes - at) (drop at bytes) ≡ drop at bytes
all_behind at bytes = take_all (length bytes - at) (drop at bytes) (omega (arith, length-drop at bytes))

pub id_read : (bytes : List ℕ) (at : ℕ) (id : List ℕ) → id ≡ take 16 (take (length bytes - at) (drop at bytes)) → 16 ≤ length (take (length bytes - at) (drop at bytes))
    → id_at (drop at bytes) ≡ Ok (id, drop (at + 16) bytes)
id_read bytes at id is long =
    let rest = drop at bytes in
    let whole = all_behind at bytes in
    let enough : 16 ≤ length rest = subst (λ (l : List ℕ). 16 ≤ length l) whole long in
    let front : take 16 rest ≡ id = sym (is ∙ ap (take 16) whole) in
    let good : List ℕ → List ℕ → Result (List ℕ × List ℕ) TakeFault = λ a b. Ok (a, b) in
    ap (λ (b : Bool). cond b (Err (Short 16 (length rest))) (good (take 16 rest) (drop 16 rest))) (le-ltb (length rest) 16 enough)
    ∙ (ap (λ (l : List ℕ). good l (drop 16 rest)) front ∙ ap (good id) (drop-drop 16 at bytes))

pub open_len : (entry : Entry) → length entry.row ≡ 16 → length (open_payload entry) ≡ size_of entry
open_len entry sixteen =
    let v = to_be_bytes w64 entry.version in
    let c = to_be_bytes w32 entry.client in
    let n = to_be_bytes w64 entry.number in
    let b = to_be_bytes w64 entry.base in
    let f = to_be_bytes w32 entry.fresh in
    let one : List ℕ = 1 ∷ [] in
    omega (
      arith,
      sixteen,
      length-names entry.old,
      length-append one v,
      length-append (one ++ v) entry.row,
      length-append (one ++ v ++ entry.row) c,
      length-append (one ++ v ++ entry.row ++ c) n,
      length-append (one ++ v ++ entry.row ++ c ++ n) b,
      length-append (one ++ v ++ entry.row ++ c ++ n ++ b) f,
      length-append (one ++ v ++ entry.row ++ c ++ n ++ b ++ f) (list_spelling name_spelling entry.old),
      length-append (to_be_bytes w32 (length entry.old)) (flat_map name_spelling entry.old),
    )
