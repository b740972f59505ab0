-- The chunks of an object stand for it, those that are kept and those that are brought.
use Rattle.std.proofs.Common.{◌≡◌, ℕ, ◌+◌, ◌<◌, Bool, true, false, List, [], ◌∷◌, ◌++◌, length, map, drop, get_or, Option, Some, None, refl, sym, ◌∙◌, ap, arith, append_assoc, length-append}
use Rattle.std.specs.Prelude.{◌==◌, if◌then◌else◌}
use Rattle.std.specs.Str.{bytes_eq}
use Rattle.std.proofs.Math.Seq.{get_or-append_seam}
use Rattle.std.proofs.lemmas.Bool.Decides.{nat_tests}
use Rattle.std.proofs.lemmas.Slice.Eq.{bytes_eq-Decides}
use Rattle.stab_base.specs.declared.chunk_name.ChunkName.{ChunkName}
use Rattle.held_value.specs.declared.local_name.LocalName.{LocalName}
use Rattle.held_value.specs.declared.content.HeldPiece.{HeldPiece}
use Rattle.client_tables.specs.Held.{kept_in, piece_for, next_behind, brought_for, held_pieces, brought}
use Rattle.client_journal.specs.Agenda.{meaning_with}
use Rattle.client_journal.specs.Plan.{numbered_name, numbered_piece}
use Rattle.journal_laws.specs.Moves.{IsShownChunk, AreShownChunks}

less : (meaning : LocalName → List ℕ) (number : ℕ) (shown : List (HeldPiece × List ℕ)) → AreShownChunks meaning number shown → AreShownChunks meaning number (drop 1 shown)
less meaning number [] h = tt
less meaning number (first ∷ shown) h = h.1

module _ (meaning : LocalName → List ℕ) (number : ℕ) (all : List (List ℕ)) where
  abbrev means : LocalName → List ℕ
  means = meaning_with meaning number all

  abbrev fresh : ℕ → LocalName
  fresh next = record { plan = 0; ordinal = next }

  fresh_is : (next : ℕ) → means (numbered_name number (fresh next)) ≡ get_or all next []
  fresh_is next = let same : (number == number) ≡ true = grind (arith, nat_tests) in ap (λ (b : Bool). if b then get_or all next [] else meaning (record { plan = number; ordinal = next })) same

  pub kept_is : (name : LocalName) → (name.plan ≡ 0 → ⊥) → name.plan < number → means (numbered_name number name) ≡ meaning name
  kept_is name other older =
      let not_new : (name.plan == 0) ≡ false = grind (arith, nat_tests) in
      let not_now : (name.plan == number) ≡ false = grind (arith, nat_tests) in
      ap (λ (b : Bool). means (if b then record { plan = number; ordinal = name.ordinal } else name)) not_new
      ∙ ap (λ (b : Bool). if b then get_or all name.ordinal [] else meaning name) not_now

  kept_shown : (shown : List (HeldPiece × List ℕ)) (bytes : List ℕ) (p : HeldPiece) → AreShownChunks meaning number shown → kept_in shown bytes ≡ Some p → means (numbered_name number p.local) ≡ bytes
  kept_shown [] bytes p h is = absurd cc
  kept_shown (first ∷ shown) bytes p h is = pick (bytes_eq first.1 bytes) refl is
    where
      pick : (b : Bool) → bytes_eq first.1 bytes ≡ b → (if b then Some first.0 else None) ≡ Some p → means (numbered_name number p.local) ≡ bytes
      pick false same none = absurd cc
      pick true same some =
          let k : IsShownChunk meaning number first = h.0 in
          let one : first.0 ≡ p = cc in
          let equal : first.1 ≡ bytes = (bytes_eq-Decides first.1 bytes).0 same in
          ap (λ (q : HeldPiece). means (numbered_name number q.local)) (sym one) ∙ (kept_is first.0.local k.numbered k.older ∙ (k.bytes ∙ equal))

  abbrev bytes_held : List HeldPiece → List (List ℕ)
  bytes_held ps = map (λ (piece : HeldPiece). means piece.local) (map (numbered_piece number) ps)

  abbrev bytes_of : List (Option ChunkName × List ℕ) → List (List ℕ)
  bytes_of chunks = map (λ (chunk : Option ChunkName × List ℕ). chunk.1) chunks

  pub chunks_held : (shown : List (HeldPiece × List ℕ)) (chunks : List (Option ChunkName × List ℕ)) (next : ℕ) (before behind : List (List ℕ)) → AreShownChunks meaning number shown
      → all ≡ before ++ (brought shown chunks ++ behind) → next ≡ length before
      → bytes_held (held_pieces shown chunks next) ≡ bytes_of chunks
  chunks_held shown [] next before behind h is at = refl
  chunks_held shown (chunk ∷ chunks) next before behind h is at = pick (kept_in shown chunk.1) refl is (λ n b. chunks_held (drop 1 shown) chunks n b behind (less meaning number shown h))
    where
      pick : (k : Option HeldPiece) → kept_in shown chunk.1 ≡ k → all ≡ before ++ ((brought_for chunk.1 k ++ brought (drop 1 shown) chunks) ++ behind)
          → ((n : ℕ) (b : List (List ℕ)) → all ≡ b ++ (brought (drop 1 shown) chunks ++ behind) → n ≡ length b → bytes_held (held_pieces (drop 1 shown) chunks n) ≡ bytes_of chunks)
          → bytes_held (piece_for next chunk.0 k ∷ held_pieces (drop 1 shown) chunks (next_behind next k)) ≡ chunk.1 ∷ bytes_of chunks
      pick None found is more =
          let rest : List (List ℕ) = brought (drop 1 shown) chunks ++ behind in
          let head : means (numbered_name number (fresh next)) ≡ chunk.1 =
          fresh_is next ∙ (ap (λ (l : List (List ℕ)). get_or l next []) is ∙ (ap (λ (i : ℕ). get_or (before ++ chunk.1 ∷ rest) i []) at ∙ get_or-append_seam before chunk.1 rest [])) in
          let tail : bytes_held (held_pieces (drop 1 shown) chunks (next + 1)) ≡ bytes_of chunks =
          more (next + 1) (before ++ chunk.1 ∷ []) (is ∙ sym (append_assoc before (chunk.1 ∷ []) rest)) (omega (arith, at, length-append before (chunk.1 ∷ []))) in
          ap (λ (b : List ℕ). b ∷ bytes_held (held_pieces (drop 1 shown) chunks (next + 1))) head ∙ ap (λ (l : List (List ℕ)). chunk.1 ∷ l) tail
      pick (Some kept) found is more =
          ap (λ (b : List ℕ). b ∷ bytes_held (held_pieces (drop 1 shown) chunks next)) (kept_shown shown chunk.1 kept h found) ∙ ap (λ (l : List (List ℕ)). chunk.1 ∷ l) (more next before is at)
