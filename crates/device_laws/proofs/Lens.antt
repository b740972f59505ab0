-- The pieces of an update: as many as its objects have chunks, and each stands for one with the length of its place.
use Rattle.std.proofs.Common.{◌≡◌, inl, inr, ◌⊎◌, ℕ, zero, suc, ◌+◌, ◌<◌, Bool, true, false, List, [], ◌∷◌, length, Option, Some, refl, sym, ◌∙◌, ap, subst, arith, true≢false}
use Rattle.std.specs.Prelude.{◌==◌, ◌*◌, ◌-◌, min, filter, map, replicate, slice_get, if◌then◌else◌}
use Rattle.std.specs.List.{AllByRecursion}
use Rattle.std.specs.Int.{div_ceil}
use Rattle.std.proofs.lemmas.Bool.Decides.{nat_tests}
use Rattle.std.proofs.lemmas.List.{length-map, length-replicate}
use Rattle.stab_base.specs.declared.chunk_name.ChunkName.{ChunkName}
use Rattle.row_value.specs.declared.schema.Schema.{Schema}
use Rattle.row_value.specs.declared.pieces.Piece.{Piece}
use Rattle.row_value.specs.declared.pieces.Piece.TheVariants.{Keep, Fresh}
use Rattle.row_value.specs.declared.pieces.PieceObject.{PieceObject}
use Rattle.chunk_store.specs.Standing.{chunk_in}
use Rattle.store_commit.specs.Devs.{Devs}
use Rattle.store_commit.specs.NamedChunks.{Among}
use Rattle.store_commit.proofs.Leftovers.{filter_among}
use Rattle.step_tables.specs.Store.{Stored}
use Rattle.step_tables.specs.Messages.{Request}
use Rattle.step_tables.specs.StoreMoves.{StoreDisk, item_for}
use Rattle.step_tables.specs.Chunks.{Named, others_of, is_of_version, chunks_of, chunks_with}
use Rattle.device_laws.specs.Stands.{is_new, AreNext, IsMade, Stands}
use Rattle.device_laws.proofs.Pieces.{piece_of, pieced_by}
use Rattle.device_laws.proofs.Made.{update_by}
use Rattle.device_laws.proofs.Names.{left_among, right_among}
use Rattle.device_laws.proofs.Chunks.{flat, count_new, next_within, IsBetween}
use Rattle.device_laws.proofs.Entries.{now_from, before_below, news_next}
use Rattle.device_laws.proofs.Fits.{HaveSameLens}
use Rattle.device_laws.proofs.Cuts.{bytes_of, AreCut, HaveLens, cut_lens, now_count}

pub pieces_are_counted : (size v : ℕ) (objects : List (List ℕ)) (held : List (List Named)) → 0 < size → AreCut size objects held
    → AllByRecursion (λ (o : PieceObject). length o.pieces ≡ (if size == 0 then 0 else div_ceil o.len size)) (pieced_by v objects held)
pieces_are_counted size v [] held some c = tt
pieces_are_counted size v (object ∷ objects) [] some c = absurd c
pieces_are_counted size v (object ∷ objects) (now ∷ held) some c =
    (length-map now (piece_of v) ∙ now_count size object now some c.0, pieces_are_counted size v objects held some c.1)

-- objects of zeros with the lengths that the pieces tell
pub pieced_lens : (v : ℕ) (objects : List (List ℕ)) (held : List (List Named)) → HaveSameLens objects (map (λ (o : PieceObject). replicate o.len 0) (pieced_by v objects held))
pieced_lens v [] held = tt
pieced_lens v (object ∷ objects) held = (sym (length-replicate (length object) 0), pieced_lens v objects (others_of held))

-- From a place of an object of this length on, each piece stands for a chunk with the length of its place.
abbrev pub StandFor : (Piece → Option (List ℕ)) → ℕ → ℕ → ℕ → List Piece → Type 0
StandFor stands size len place [] = Unit {0}
StandFor stands size len place (piece ∷ pieces) =
    ((bytes : List ℕ) × (stands piece ≡ Some bytes) × (length bytes ≡ min size (len - place * size))) × StandFor stands size len (place + 1) pieces

module _ (stands : Piece → Option (List ℕ)) (size v : ℕ) where
  stand_from : (len place : ℕ) (now : List Named) → HaveLens size len place (bytes_of now) → ((x : Named) → Among x now → stands (piece_of v x) ≡ Some x.1)
      → StandFor stands size len place (map (piece_of v) now)
  stand_from len place [] h each = tt
  stand_from len place (x ∷ now) h each = ((x.1, each x (inl refl), h.0), stand_from len (place + 1) now h.1 (λ y a. each y (inr a)))

  pub chunks_have_their_length : (objects : List (List ℕ)) (held : List (List Named)) → AreCut size objects held → ((x : Named) → Among x (flat held) → stands (piece_of v x) ≡ Some x.1)
      → AllByRecursion (λ (o : PieceObject). StandFor stands size o.len 0 o.pieces) (pieced_by v objects held)
  chunks_have_their_length [] held c each = tt
  chunks_have_their_length (object ∷ objects) [] c each = absurd c
  chunks_have_their_length (object ∷ objects) (now ∷ held) c each = (
    stand_from (length object) 0 now (subst (HaveLens size (length object) 0) (sym c.0) (cut_lens size object)) (λ x a. each x (left_among x now (flat held) a)),
    chunks_have_their_length objects held c.1 (λ x a. each x (right_among x now (flat held) a)),
  )

-- ---- what the pieces of a request's update stand for

at_ordinal : (v k j : ℕ) (new : List Named) → AreNext v k new → (x : Named) → Among x new → x.0.ordinal ≡ k + j → slice_get (bytes_of new) j ≡ Some x.1
at_ordinal v k j [] n x a is = absurd a
at_ordinal v k zero (c ∷ new) n x (inl same) is = ap (λ (y : Named). Some y.1) (sym same)
at_ordinal v k (suc j) (c ∷ new) n x (inl same) is =
    let first : x.0.ordinal ≡ k = ap (λ (y : Named). y.0.ordinal) same ∙ ap (λ (q : ChunkName). q.ordinal) n.0 in
    absurd (omega (arith, first, is))
at_ordinal v k zero (c ∷ new) n x (inr more) is = absurd (let w = next_within v (k + 1) new n.1 x more in omega (arith, w.1, is))
at_ordinal v k (suc j) (c ∷ new) n x (inr more) is = at_ordinal v (k + 1) j new n.1 x more (omega (arith, is))

module _ (schema : Schema) (d : Devs) (disk : StoreDisk) (st : Stands schema d disk) (request : Request) (m : IsMade schema.chunk disk.items (item_for disk.items request)) (stands : Piece → Option (List ℕ))
    (keeps : (name : ChunkName) → stands (Keep name) ≡ chunk_in d.chunks name)
    (brings : (ordinal : ℕ) → stands (Fresh ordinal) ≡ slice_get (update_by schema.chunk disk.items request).fresh ordinal) where
  abbrev size : ℕ
  size = schema.chunk

  abbrev item : Stored
  item = item_for disk.items request

  abbrev v : ℕ
  v = length disk.items + 1

  abbrev before : List Named
  before = flat (chunks_of size disk.items request.row)

  abbrev now : List Named
  now = flat (chunks_with size item)

  -- a piece stands for the bytes of its chunk
  pub pieces_stand : (x : Named) → Among x now → stands (piece_of v x) ≡ Some x.1
  pieces_stand x a = pick (is_of_version v x.0) refl (now_from size disk.items item st.held.numbered refl st.held.made m x a)
    where
      pick : (b : Bool) → is_of_version v x.0 ≡ b → Among x before ⊎ IsBetween v 0 (0 + count_new v now) x.0 → stands (if b then Fresh x.0.ordinal else Keep x.0) ≡ Some x.1
      pick true is (inl kept) = absurd (let low = before_below size disk.items item st.held.numbered refl st.held.made m x kept in let same : x.0.version ≡ v = grind (arith, nat_tests) in omega arith)
      pick true is (inr new) =
          brings x.0.ordinal ∙ at_ordinal v 0 x.0.ordinal (filter (is_new v) now) (news_next size disk.items item st.held.numbered refl st.held.made m) x (filter_among (is_new v) x now is a) (omega arith)
      pick false is (inl kept) = keeps x.0 ∙ st.chunks.held x.0 x.1 (record { row = request.row; among = kept })
      pick false is (inr new) = absurd (let same = new.version_is in let test : is_of_version v x.0 ≡ true = grind (arith, nat_tests) in true≢false (sym test ∙ is))
