-- A content whose chunks that travel have come, and whose others are held, is made whole.
use Rattle.std.proofs.Common.{◌≡◌, ℕ, ◌<◌, Bool, true, false, List, [], ◌∷◌, length, Some, refl, sym, ◌∙◌, ap, subst, arith, true≢false}
use Rattle.std.specs.Prelude.{◌==◌, map, zip, slice_get}
use Rattle.std.specs.List.{AllByRecursion}
use Rattle.std.proofs.lemmas.Bool.{and_parts, eqb-true}
use Rattle.std.proofs.lemmas.Bool.Decides.{nat_tests}
use Rattle.stab_base.specs.declared.chunk_name.ChunkName.{ChunkName}
use Rattle.row_value.specs.declared.content.Content.{Content}
use Rattle.row_value.specs.declared.content.Content.TheVariants as contents
use Rattle.row_value.specs.declared.pieces.Piece.{Piece}
use Rattle.row_value.specs.declared.pieces.Piece.TheVariants.{Keep, Fresh}
use Rattle.chunker.specs.Sized.{count_of}
use Rattle.assemblies.specs.Places.{awaited_of}
use Rattle.assemblies.specs.Gathering.{Slot, is_whole}
use Rattle.assemblies.specs.Gathering as gathering
use Rattle.assemblies.specs.Parts.{chunk_at, chunk_in, parts_at, held_of, joined, AllArePieces, IsOf, IsChunkOf}
use Rattle.assemblies.proofs.Lengths.{chunk_is_at}
use Rattle.assemblies.proofs.Mixes.{whole_came}
use Rattle.assemblies.proofs.Joins.{parts_whole}
use Rattle.step_tables.specs.Chunks.{cut, flat, each_chunk, is_of_each, objects_of}
use Rattle.step_tables.specs.Members.{Among}
use Rattle.step_tables.proofs.Lists.{among_left, among_right, among_mapped}
use Rattle.part_tables.specs.Parts.{Fragment, objects_by, spelled_by, fragments_of}
use Rattle.part_laws.proofs.Cuts.{cut_is, cut_count}
use Rattle.part_laws.proofs.Members.{zip_at}

pub itself : (n : ℕ) → (n == n) ≡ true
itself n = grind (arith, nat_tests)

-- ---- a chunk on its way

pub record IsFragment (size client table : ℕ) (row : List ℕ) (key : ℕ) (content : Content) (f : Fragment) : Type 0 where
  pub client_is : f.client ≡ client
  pub table_is : f.table ≡ table
  pub row_is : f.row ≡ row
  pub key_is : f.key ≡ key
  pub bytes_are : f.bytes ≡ chunk_in size content f.column f.place

pub fragment_is : (sends : Piece → Bool) (size client table : ℕ) (row : List ℕ) (key : ℕ) (content : Content) (pieces : List (List Piece)) (f : Fragment)
    → Among (fragments_of sends size client table row key content pieces) f → IsFragment size client table row key content f
fragment_is sends size client table row key content pieces f a =
    let m = among_mapped _ (awaited_of sends size (spelled_by content pieces)) f a in
    subst (IsFragment size client table row key content) m.2 (record { client_is = refl; table_is = refl; row_is = refl; key_is = refl; bytes_are = refl })

-- ---- the whole

module _ (held : ChunkName → List ℕ) (sends : Piece → Bool) (size : ℕ) (some : 0 < size) (new : (ordinal : ℕ) → sends (Fresh ordinal) ≡ true) where
  -- each chunk that doesn't travel is held under its name
  abbrev pub AreHeld : List (Piece × List ℕ) → Type 0
  AreHeld said = (name : ChunkName) (bytes : List ℕ) → Among said (Keep name, bytes) → sends (Keep name) ≡ false → held name ≡ bytes

  chunk_held : (pieces : List Piece) (object : List ℕ) → length pieces ≡ length (cut size object) → AreHeld (zip pieces (cut size object)) → (place : ℕ) (piece : Piece)
      → slice_get pieces place ≡ Some piece → sends piece ≡ false → held_of held piece ≡ chunk_at size object place
  chunk_held pieces object full is place (Fresh ordinal) at stays = absurd (true≢false (sym (new ordinal) ∙ stays))
  chunk_held pieces object full is place (Keep name) at stays =
      let there = zip_at pieces (cut size object) place (Keep name) full at in
      is name there.0 there.2 stays ∙ chunk_is_at size object (cut size object) place there.0 (cut_is size object some) there.1

  all_held : (objects : List (List ℕ)) (pieces : List (List Piece)) → is_of_each size pieces objects ≡ true → AreHeld (flat (each_chunk size pieces objects))
      → AllArePieces held sends size (objects_by objects pieces) objects
  all_held [] pieces each is = tt
  all_held (object ∷ objects) [] each is = absurd (let bad : false ≡ true = each in cc)
  all_held (object ∷ objects) (here ∷ pieces) each is =
      let parts = and_parts (length here == length (cut size object)) (is_of_each size pieces objects) each in
      let full : length here ≡ length (cut size object) = eqb-true (length here) (length (cut size object)) parts.0 in (
        record {
          len = refl;
          full = ap (λ n. n == count_of size (length object)) (full ∙ cut_count size object some) ∙ itself (count_of size (length object));
          kept = chunk_held here object full (λ name bytes a. is name bytes (among_left (zip here (cut size object)) (flat (each_chunk size pieces objects)) (Keep name, bytes) a));
        },
        all_held objects pieces parts.1 (λ name bytes a. is name bytes (among_right (zip here (cut size object)) (flat (each_chunk size pieces objects)) (Keep name, bytes) a)),
      )

  pub whole_of : (content : Content) (pieces : List (List Piece)) → is_of_each size pieces (objects_of content) ≡ true → AreHeld (flat (each_chunk size pieces (objects_of content)))
      → IsOf held sends size (spelled_by content pieces) content
  whole_of contents.Gone pieces each is = tt
  whole_of (contents.Row cells objects) pieces each is = (refl, all_held objects pieces each is)

  pub joined_is : (content : Content) (pieces : List (List Piece)) (slots : List Slot) → is_of_each size pieces (objects_of content) ≡ true
      → AreHeld (flat (each_chunk size pieces (objects_of content))) → map (λ (slot : Slot). slot.0) slots ≡ awaited_of sends size (spelled_by content pieces)
      → AllByRecursion (IsChunkOf size content) slots → is_whole slots ≡ true → joined held sends (spelled_by content pieces) (gathering.chunks_of slots) ≡ content
  joined_is content pieces slots each is places came whole =
      ap (joined held sends (spelled_by content pieces)) (whole_came size content slots whole came ∙ ap (parts_at size content) places)
      ∙ parts_whole held sends size (spelled_by content pieces) content some (whole_of content pieces each is)
