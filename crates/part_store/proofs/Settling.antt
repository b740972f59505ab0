-- What is kept of a request by what it came to.
use Rattle.std.proofs.Common.{◌≡◌, List, Option, Some, None, refl, ap, ℕ}
use Rattle.row_value.specs.declared.pieces.Piece.{Piece}
use Rattle.row_value.specs.declared.pieces.PieceObject.{PieceObject}
use Rattle.std.specs.Prelude.{map, take, get_or, length, ◌+◌, ◌<◌, ◌++◌, ◌∷◌, []}
use Rattle.std.proofs.Common.{◌∙◌, sym}
use Rattle.std.proofs.lemmas.List.{map-append, take_more}
use Rattle.step_tables.specs.Messages as ends
use Rattle.step_tables.specs.declared.message.Message.{Message}
use Rattle.part_tables.specs.StoreParts.{Gathering, without_client}
use Rattle.part_tables.specs.StoreParts as tables
use Rattle.part_store.specs.declared.gatherings.Gatherings.{Gatherings}
use Rattle.part_store.specs.declared.gatherings.Taken.TheVariants as takens
use Rattle.part_store.specs.declared.waiting.Waiting.{Waiting}
use Rattle.part_store.specs.declared.weighing.Weighed.TheVariants as weighings
use Rattle.part_store.specs.Gathered.{HasGathered, gathering_in}
use Rattle.part_store.specs.Weighing.{IsWeighed, settled}
use Rattle.part_store.specs.Calls.{IsTaken}

module _ (it : Gatherings) (others : List Gathering) (x : Gathering) where
  pub whole_taken : (made : Option ends.Message) (message : Message) → IsWeighed made x (weighings.Whole message) → HasGathered it others → IsTaken (settled others x made) it (takens.Whole message)
  whole_taken None message is h = absurd is
  whole_taken (Some whole) message is h = record { taken = ap (λ (m : ends.Message). tables.Whole m) is; kept = h }

  pub waits_taken : (made : Option ends.Message) (y : Waiting) → IsWeighed made x (weighings.Waits y) → (gathering_in y ≡ x → HasGathered it (x ∷ others))
      → IsTaken (settled others x made) it takens.Waits
  waits_taken None y is h = record { taken = refl; kept = h is }
  waits_taken (Some whole) y is h = absurd is

pub pieces_more : (objects : List PieceObject) (i : ℕ) (now new : List (List Piece)) (pieces : List Piece) (object : PieceObject) → i < length objects → object ≡ get_or objects i object
    → now ≡ map (λ (o : PieceObject). o.pieces) (take i objects) → pieces ≡ object.pieces → new ≡ now ++ pieces ∷ [] → new ≡ map (λ (o : PieceObject). o.pieces) (take (i + 1) objects)
pieces_more objects i now new pieces object within at so_far read is =
    let of : PieceObject → List Piece = λ o. o.pieces in
    is ∙ (ap (λ (l : List (List Piece)). l ++ pieces ∷ []) so_far ∙ (ap (λ (p : List Piece). map of (take i objects) ++ p ∷ []) (read ∙ ap of at)
    ∙ (sym (map-append of (take i objects) (get_or objects i object ∷ [])) ∙ ap (map of) (sym (take_more objects i object within)))))
