use Rattle.std.proofs.Common.{◌≡◌, ℕ, ◌<◌, List, length, get_or, refl, sym, ◌∙◌, subst}
use Rattle.std.specs.List.{Contains}
use Rattle.std.proofs.lemmas.List.Elements.{Contains-get_or}
use Rattle.std.proofs.lemmas.Slice.Eq.{bytes_eq-Decides}
use Rattle.held_value.specs.declared.content.HeldPiece.{HeldPiece}
use Rattle.kept_chunks.proofs.held.held_under.Goals as goal

found : {X : Type 0} (xs : List X) (i : ℕ) (x : X) → i < length xs → x ≡ get_or xs i x → Contains xs x
found xs i x less is = subst (λ (y : _). Contains xs y) (sym is) (Contains-get_or xs i x less)

pub returns-then-eq-clause-held : goal.returns-then-eq-clause-held
returns-then-eq-clause-held c =
    let object : List (HeldPiece × List ℕ) = c.in_ok-get.field-0.now in
    let chunks : List (HeldPiece × List ℕ) = c.as_slice-chunks.result.now in
    let is_object : chunks ≡ object = c.as_slice-chunks.ensures in
    let chunk : HeldPiece × List ℕ = c.in_ok-piece.field-0.now in
    let same : chunk.1 ≡ c.args.bytes.now = sym c.as_slice.ensures ∙ ((bytes_eq-Decides c.as_slice.result.now c.as_slice-2.result.now).0 (sym c.if-eq.ensures) ∙ c.as_slice-2.ensures) in
    record {
      object = object;
      piece = chunk.0;
      there = found c.args.held.now c.in_ok-object.field-0.now.0 object c.in_ok-get.ensures.lookup.3.0 c.in_ok-get.ensures.lookup.1;
      chunk = subst (λ (l : List (HeldPiece × List ℕ)). Contains l (chunk.0, c.args.bytes.now)) is_object
          (subst (λ (b : List ℕ). Contains chunks (chunk.0, b)) same (found chunks c.in_ok-object.field-0.now.1 chunk c.in_ok-piece.ensures.lookup.3.0 c.in_ok-piece.ensures.lookup.1));
      local_is = refl;
    }
