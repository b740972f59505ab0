-- What the tables' definition asks of the items, as a view of the row has it.
use Rattle.std.proofs.Common.{◌≡◌, ℕ, Bool, true, false, cond, List, [], ◌∷◌, ◌++◌, drop, Some, None, refl, sym, ap, ◌∙◌}
use Rattle.std.specs.Prelude.{◌==◌, ◌&&◌, ◌||◌, nat_lt, not, length, slice_index_or, count_by, if◌then◌else◌}
use Rattle.std.specs.List.{find, list_any, list_all}
use Rattle.stab_base.specs.declared.chunk_name.ChunkName.{ChunkName}
use Rattle.row_value.specs.declared.content.Content.{Content}
use Rattle.row_value.specs.declared.content.Content.TheVariants as contents
use Rattle.row_value.specs.declared.pieces.Piece.{Piece}
use Rattle.row_value.specs.declared.pieces.Piece.TheVariants.{Keep, Fresh}
use Rattle.row_value.specs.declared.pieces.PieceObject.{PieceObject}
use Rattle.row_value.specs.declared.pieces.PieceContent.{PieceContent}
use Rattle.row_value.specs.declared.pieces.PieceContent.TheVariants.{Gone, Row}
use Rattle.row_value.specs.declared.schema.Scheme.{Scheme}
use Rattle.chunker.specs.Sized.{sized}
use Rattle.assemblies.specs.declared.sent.Sent.TheVariants as sents
use Rattle.assemblies.specs.Travel.{is_sent}
use Rattle.assemblies.specs.Gathering.{waiting, is_whole}
use Rattle.assemblies.specs.Places.{awaited_of}
use Rattle.assemblies.specs.Gathering as gathering
use Rattle.assemblies.specs.Parts.{held_of, object_joined, objects_joined, joined}
use Rattle.step_tables.specs.Chunks.{Named, same_name, flat, objects_of, each_chunk, chunks_of, is_spelled}
use Rattle.step_tables.specs.Messages.{Pair, SyncRequest}
use Rattle.step_tables.specs.Store.{Stored, current_of}
use Rattle.step_tables.specs.StoreMoves.{takes, version_of}
use Rattle.part_tables.specs.ClientParts.{Held, is_under, has_held}
use Rattle.part_tables.specs.ClientParts as clients
use Rattle.part_tables.specs.Parts.{RequestHead, pieces_in}
use Rattle.part_tables.specs.StoreParts.{Gathering, StoreTaken, Whole, Waits, request_with, has_kept_by_len, is_answered, assembled, weighed, asked, without_client}
use Rattle.part_tables.specs.StoreParts as tables
use Rattle.part_store.specs.declared.view.RowView.{RowView}
use Rattle.part_store.specs.View.{under_names, IsViewOf}
use Rattle.part_store.specs.Weighing.{answered_by, made_by, settled}

-- ---- chunks under their names

any_named : (name : ChunkName) (len : ℕ) (row : List Named)
    → list_any (λ (held : Named). same_name held.0 name && (length held.1 == len)) row ≡ list_any (λ (own : Held). is_under name own.0 && (length own.1 == len)) (under_names row)
any_named name len [] = refl
any_named name len (chunk ∷ row) = ap (λ (b : Bool). (same_name chunk.0 name && (length chunk.1 == len)) || b) (any_named name len row)

as_long : (row : List Named) (it : Piece × List ℕ) → tables.is_as_long row it ≡ clients.is_as_long (is_sent sents.Fresh) (under_names row) it
as_long row (Fresh ordinal, chunk) = refl
as_long row (Keep name, chunk) = any_named name (length chunk) row

all_same : {X : Type 0} (p q : X → Bool) → ((x : X) → p x ≡ q x) → (xs : List X) → list_all p xs ≡ list_all q xs
all_same p q same [] = refl
all_same p q same (x ∷ xs) = ap (λ (b : Bool). b && list_all p xs) (same x) ∙ ap (λ (b : Bool). q x && b) (all_same p q same xs)

has_kept : (size : ℕ) (held : List (List Named)) (content : PieceContent) → has_kept_by_len size held content ≡ has_held (is_sent sents.Fresh) size (under_names (flat held)) content
has_kept size held content =
    all_same (tables.is_as_long (flat held)) (clients.is_as_long (is_sent sents.Fresh) (under_names (flat held))) (as_long (flat held))
    (flat (each_chunk size (pieces_in content) (objects_of (sized content))))

bytes_named : (name : ChunkName) (row : List Named) → tables.bytes_in (find (λ (chunk : Named). same_name chunk.0 name) row)
    ≡ clients.bytes_in (find (λ (own : Held). is_under name own.0) (under_names row))
bytes_named name [] = refl
bytes_named name (chunk ∷ row) = one (same_name chunk.0 name) (bytes_named name row)
  where
    one : (b : Bool) → tables.bytes_in (find (λ (c : Named). same_name c.0 name) row) ≡ clients.bytes_in (find (λ (own : Held). is_under name own.0) (under_names row))
        → tables.bytes_in (cond b (Some chunk) (find (λ (c : Named). same_name c.0 name) row))
        ≡ clients.bytes_in (cond b (Some (Some chunk.0, chunk.1)) (find (λ (own : Held). is_under name own.0) (under_names row)))
    one true more = refl
    one false more = more

-- ---- contents of the same chunks

module _ (f g : ChunkName → List ℕ) (same : (name : ChunkName) → f name ≡ g name) (sends : Piece → Bool) where
  piece_same : (piece : Piece) → held_of f piece ≡ held_of g piece
  piece_same (Keep name) = same name
  piece_same (Fresh ordinal) = refl

  object_same : (pieces : List Piece) (parts : List (List ℕ)) → object_joined f sends pieces parts ≡ object_joined g sends pieces parts
  object_same [] parts = refl
  object_same (piece ∷ pieces) parts = one (sends piece) (object_same pieces (drop 1 parts)) (object_same pieces parts)
    where
      one : (b : Bool) → object_joined f sends pieces (drop 1 parts) ≡ object_joined g sends pieces (drop 1 parts) → object_joined f sends pieces parts ≡ object_joined g sends pieces parts
          → (if b then slice_index_or parts 0 [] ++ object_joined f sends pieces (drop 1 parts) else held_of f piece ++ object_joined f sends pieces parts)
          ≡ (if b then slice_index_or parts 0 [] ++ object_joined g sends pieces (drop 1 parts) else held_of g piece ++ object_joined g sends pieces parts)
      one true behind all = ap (λ (l : List ℕ). slice_index_or parts 0 [] ++ l) behind
      one false behind all = ap (λ (l : List ℕ). l ++ object_joined f sends pieces parts) (piece_same piece) ∙ ap (λ (l : List ℕ). held_of g piece ++ l) all

  objects_same : (objects : List PieceObject) (parts : List (List ℕ)) → objects_joined f sends objects parts ≡ objects_joined g sends objects parts
  objects_same [] parts = refl
  objects_same (object ∷ objects) parts =
      ap (λ (l : List ℕ). l ∷ objects_joined f sends objects (drop (count_by sends object.pieces) parts)) (object_same object.pieces parts)
      ∙ ap (λ (l : List (List ℕ)). object_joined g sends object.pieces parts ∷ l) (objects_same objects (drop (count_by sends object.pieces) parts))

  joined_same : (content : PieceContent) (parts : List (List ℕ)) → joined f sends content parts ≡ joined g sends content parts
  joined_same Gone parts = refl
  joined_same (Row some objects) parts = ap (λ (l : List (List ℕ)). contents.Row some l) (objects_same objects parts)

-- ---- a view of a row

module _ (g : Scheme) (size : ℕ) (items : List Stored) (x : Gathering) (view : RowView) (v : IsViewOf size items x.head.client x.head.row view) where
  answered_is : is_answered g size items x.head ≡ answered_by g size view x.head
  answered_is =
      ap (λ (yours : Pair). (yours.number == x.head.number) || (nat_lt x.head.number yours.number || asks)) (sym v.yours_is)
      ∙ ap (λ (b : Bool). (view.yours.number == x.head.number) || (nat_lt x.head.number view.yours.number || b)) asks_is
    where
      asks : Bool
      asks = not (takes g x.head.base (version_of (current_of items x.head.row))) || not (has_kept_by_len size (chunks_of size items x.head.row) x.head.content)

      asks_is : asks ≡ (not (takes g x.head.base view.version) || not (has_held (is_sent sents.Fresh) size view.chunks.items x.head.content))
      asks_is =
          ap (λ (n : ℕ). not (takes g x.head.base n) || not (has_kept_by_len size (chunks_of size items x.head.row) x.head.content)) (sym v.version_is)
          ∙ ap (λ (b : Bool). not (takes g x.head.base view.version) || not b)
          (has_kept size (chunks_of size items x.head.row) x.head.content ∙ ap (λ (held : List Held). has_held (is_sent sents.Fresh) size held x.head.content) (sym v.chunks_are))

  assembled_is : assembled size items x ≡ joined (clients.bytes_of view.chunks.items) (is_sent sents.Fresh) x.head.content (gathering.chunks_of x.slots)
  assembled_is =
      joined_same (tables.bytes_of (chunks_of size items x.head.row)) (clients.bytes_of view.chunks.items)
      (λ name. bytes_named name (flat (chunks_of size items x.head.row))
      ∙ ap (λ (held : List Held). clients.bytes_of held name) (sym v.chunks_are)) (is_sent sents.Fresh) x.head.content (gathering.chunks_of x.slots)

  -- what a request comes to is settled by what is made of it
  pub weighed_is : (others : List Gathering) → weighed g size items others x ≡ settled others x (made_by g size view x)
  weighed_is others =
      ap (λ (b : Bool). if b then at_once else (if is_whole x.slots then whole_of (assembled size items x) else waits)) answered_is
      ∙ (ap (λ (c : Content). if answered_by g size view x.head then at_once else (if is_whole x.slots then whole_of c else waits)) assembled_is
      ∙ one (answered_by g size view x.head) (is_whole x.slots))
    where
      whole_of : Content → StoreTaken
      whole_of content = record { taken = Whole (SyncRequest (request_with x.head content)); gatherings = others }

      at_once : StoreTaken
      at_once = whole_of (sized x.head.content)

      waits : StoreTaken
      waits = record { taken = Waits; gatherings = x ∷ others }

      joined_of : Content
      joined_of = joined (clients.bytes_of view.chunks.items) (is_sent sents.Fresh) x.head.content (gathering.chunks_of x.slots)

      one : (a b : Bool) → (if a then at_once else (if b then whole_of joined_of else waits))
          ≡ settled others x (if a then Some (SyncRequest (request_with x.head (sized x.head.content))) else (if b then Some (SyncRequest (request_with x.head joined_of)) else None))
      one true b = refl
      one false true = refl
      one false false = refl

pub asked_is : (g : Scheme) (size : ℕ) (items : List Stored) (gs : List Gathering) (head : RequestHead) (view : RowView) → IsViewOf size items head.client head.row view
    → is_spelled size (sized head.content) (pieces_in head.content) ≡ true
    → asked g size items gs head ≡ settled (without_client head.client gs) (record { head = head; slots = waiting (awaited_of (is_sent sents.Fresh) size head.content) })
    (made_by g size view (record { head = head; slots = waiting (awaited_of (is_sent sents.Fresh) size head.content) }))
asked_is g size items gs head view v spelled =
    let x : Gathering = record { head = head; slots = waiting (awaited_of (is_sent sents.Fresh) size head.content) } in
    let dropped : StoreTaken = record { taken = Waits; gatherings = gs } in
    ap (λ (b : Bool). if b then weighed g size items (without_client head.client gs) x else dropped) spelled ∙ weighed_is g size items x view v (without_client head.client gs)
