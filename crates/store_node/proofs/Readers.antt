-- What was read so far, one piece or object further on.
use Rattle.std.proofs.Common.{◌≡◌, ℕ, ◌+◌, ◌<◌, ◌++◌, List, [], ◌∷◌, length, get_or, take, map, refl, sym, ◌∙◌, ap}
use Rattle.std.specs.List.{concat}
use Rattle.std.proofs.lemmas.List.{take_more, map-append}
use Rattle.chunker.proofs.Cuts.{concat-push}
use Rattle.row_value.specs.declared.pieces.Piece.{Piece}
use Rattle.row_value.specs.declared.pieces.Piece.TheVariants.{Keep, Fresh}
use Rattle.row_value.specs.declared.pieces.PieceObject.{PieceObject}
use Rattle.store_commit.specs.Devs.{Devs}
use Rattle.step_tables.specs.Chunks.{Named}
use Rattle.stab_base.specs.declared.chunk_name.ChunkName.{ChunkName}
use Rattle.store_node.specs.Reading.{bytes_in, named_in, held_by, whole_object, names_held}

named_append : (d : Devs) (xs : List Piece) (ys : List Piece) → named_in d (xs ++ ys) ≡ named_in d xs ++ named_in d ys
named_append d [] ys = refl
named_append d (Keep name ∷ xs) ys = ap (λ (l : List Named). (name, bytes_in d name) ∷ l) (named_append d xs ys)
named_append d (Fresh ordinal ∷ xs) ys = named_append d xs ys

pub pieces_more : (d : Devs) (pieces : List Piece) (i : ℕ) (now new : List Named) → i < length pieces → now ≡ named_in d (take i pieces) → (here : Devs) → here ≡ d → (piece : Piece) → new ≡ now ++ named_in here (piece ∷ []) → (e : Piece) → piece ≡ get_or pieces i e
    → new ≡ named_in d (take (i + 1) pieces)
pieces_more d pieces i now new within so_far here same piece is e at =
    is ∙ ap (λ (x : Devs). now ++ named_in x (piece ∷ [])) same ∙ (ap (λ (l : List Named). l ++ named_in d (piece ∷ [])) so_far ∙ (sym (named_append d (take i pieces) (piece ∷ []))
    ∙ ap (named_in d) (ap (λ (p : Piece). take i pieces ++ p ∷ []) at ∙ sym (take_more pieces i e within))))

pub objects_more : (d : Devs) (objects : List PieceObject) (i : ℕ) (object : PieceObject) (now new : List (List Named)) (held : List Named) → i < length objects → object ≡ get_or objects i object → now ≡ held_by d (take i objects) → held ≡ named_in d object.pieces → new ≡ now ++ held ∷ []
    → new ≡ held_by d (take (i + 1) objects)
objects_more d objects i object now new held within at so_far read is =
    is ∙ (ap (λ (l : List (List Named)). l ++ held ∷ []) so_far ∙ (ap (λ (h : List Named). held_by d (take i objects) ++ h ∷ []) read
    ∙ (sym (map-append (λ (o : PieceObject). named_in d o.pieces) (take i objects) (object ∷ []))
    ∙ ap (held_by d) (ap (λ (o : PieceObject). take i objects ++ o ∷ []) at ∙ sym (take_more objects i object within)))))

pub bytes_more : (held : List Named) (i : ℕ) (now new bytes : List ℕ) (e : Named) → i < length held → now ≡ whole_object (take i held) → new ≡ now ++ bytes → bytes ≡ (get_or held i e).1 → new ≡ whole_object (take (i + 1) held)
bytes_more held i now new bytes e within so_far is at =
    is ∙ (ap (λ (l : List ℕ). now ++ l) at ∙ (ap (λ (l : List ℕ). l ++ (get_or held i e).1) so_far ∙ (sym (concat-push (map (λ (c : Named). c.1) (take i held)) (get_or held i e).1)
    ∙ (ap concat (sym (map-append (λ (c : Named). c.1) (take i held) (get_or held i e ∷ []))) ∙ ap whole_object (sym (take_more held i e within))))))

pub names_more : (held : List (List Named)) (i : ℕ) (now new : List (List ChunkName)) (names : List ChunkName) (object : List Named) → i < length held → object ≡ get_or held i object → now ≡ names_held (take i held)
    → names ≡ map (λ (c : Named). c.0) object → new ≡ now ++ names ∷ [] → new ≡ names_held (take (i + 1) held)
names_more held i now new names object within at so_far read is =
    is ∙ (ap (λ (l : List (List ChunkName)). l ++ names ∷ []) so_far ∙ (ap (λ (n : List ChunkName). names_held (take i held) ++ n ∷ []) read
    ∙ (sym (map-append (λ (o : List Named). map (λ (c : Named). c.0) o) (take i held) (object ∷ []))
    ∙ ap names_held (ap (λ (o : List Named). take i held ++ o ∷ []) at ∙ sym (take_more held i object within)))))
