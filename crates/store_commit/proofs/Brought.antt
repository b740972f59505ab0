-- The row of an update is whole.
use Rattle.std.proofs.Common.{◌≡◌, ◌⊎◌, ⊎_elim, ℕ, ◌+◌, ◌<◌, ◌≤◌, Bool, true, false, List, [], ◌∷◌, get_or, Option, Some, None, refl, sym, ◌∙◌, ap, subst, arith}
use Rattle.std.specs.Prelude.{◌==◌, if◌then◌else◌, slice_get, option_map, length}
use Rattle.std.proofs.lemmas.Bool.Decides.{nat_tests}
use Rattle.std.proofs.lemmas.Option.{get_or_from_slice_get}
use Rattle.stab_base.specs.declared.chunk_name.ChunkName.{ChunkName}
use Rattle.row_value.specs.declared.pieces.Piece.{Piece}
use Rattle.row_value.specs.declared.pieces.Piece.TheVariants.{Keep, Fresh}
use Rattle.row_value.specs.declared.pieces.PieceContent.{PieceContent}
use Rattle.row_value.specs.declared.pieces.PieceContent.TheVariants.{Gone, Row}
use Rattle.value_codec.specs.Spelling.{pieces_of}
use Rattle.chunk_store.specs.Standing.{chunk_in}
use Rattle.row_store.specs.declared.stored.StoredRow.{StoredRow}
use Rattle.row_store.specs.Data.{TableData, row_of}
use Rattle.store_commit.specs.declared.update.Update.{Update}
use Rattle.store_commit.specs.Devs.{Devs}
use Rattle.store_commit.specs.NamedChunks.{Among, names_in, names_of, IsNamed, NamedChunks}
use Rattle.store_commit.specs.There.{kept, has_len, WholeRows, MayBeWhole}
use Rattle.store_commit.specs.Agenda.{meaning_with, named_piece, fresh_name}
use Rattle.store_commit.specs.Update.{brought, names_if, stored_for, IsNextVersion, IsUpdate}
use Rattle.store_commit.proofs.Replacing.{row_standing}
use Rattle.store_commit.proofs.Wholes.{among_piece, content_pieces, still_whole, lens_still, fits_still}

has_if : (o : Option (List ℕ)) (bytes : List ℕ) (len : ℕ) → ((x : List ℕ) → o ≡ Some x → bytes ≡ x) → has_len o len ≡ true → has_len (Some bytes) len ≡ true
has_if None bytes len same h = absurd cc
has_if (Some x) bytes len same h = ap (λ (b : List ℕ). length b == len) (same x refl) ∙ h

module _ (meaning : ChunkName → List ℕ) (d : Devs) (version : ℕ) (update : Update) (n : NamedChunks meaning d) (next : IsNextVersion d.held version) (u : IsUpdate d update) (w : WholeRows meaning d.held) where
  abbrev means : ChunkName → List ℕ
  means = meaning_with meaning version update.fresh

  named_below : (name : ChunkName) → IsNamed d.held name → name.version < version
  named_below name a = omega (arith, n.below name a, next.1.greatest a.row a.stored.version (ap (option_map (λ (s : StoredRow). s.version)) a.there), next.2)

  means_old : (name : ChunkName) → name.version < version → means name ≡ meaning name
  means_old name lt = grind (arith, nat_tests)

  means_new : (ordinal : ℕ) → means (fresh_name version ordinal) ≡ get_or update.fresh ordinal []
  means_new ordinal = grind (arith, nat_tests)

  is_kept : (name : ChunkName) → Among name (names_of update.content) → IsNamed d.held name
  is_kept name among = let r = row_standing d.held update.row name (u.kept name among) in record { row = update.row; stored = r.0; there = r.1; among = r.2 }

  in_content : (c : PieceContent) (name : ChunkName) → Among (Keep name) (content_pieces c) → Among name (names_of c)
  in_content Gone name h = absurd h
  in_content (Row some objects) name h = among_piece name (pieces_of objects) h

  each : (p : Piece) (len : ℕ) → Among p (content_pieces update.content) → has_len (brought (chunk_in d.chunks) update.fresh p) len ≡ true → has_len (kept (λ name. Some (means name)) (named_piece version p)) len ≡ true
  each (Keep name) len among h =
      let a = is_kept name (in_content update.content name among) in
      has_if (chunk_in d.chunks name) (means name) len (λ x is. let both : Some (meaning name) ≡ Some x = sym (n.there name a) ∙ is in let one : meaning name ≡ x = cc in means_old name (named_below name a) ∙ one) h
  each (Fresh ordinal) len among h =
      has_if (slice_get update.fresh ordinal) (means (fresh_name version ordinal)) len (λ x is. means_new ordinal ∙ get_or_from_slice_get update.fresh ordinal x [] is) h

  pub update_whole : MayBeWhole means d.held (stored_for d version update)
  update_whole = record {
    before = still_whole meaning means d.held (λ name a. means_old name (named_below name a)) w;
    row = record {
      fits = fits_still version d.held.table update.content u.fits;
      lens = lens_still version (brought (chunk_in d.chunks) update.fresh) (kept (λ name. Some (means name))) d.held.table update.content each u.lens;
    };
  }
