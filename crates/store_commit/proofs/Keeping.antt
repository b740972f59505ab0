-- The put of a subscription or of the table keeps named chunks.
use Rattle.std.specs.Prelude.{not}
use Rattle.std.proofs.Common.{◌≡◌, false, inl, inr, ⊎_elim, ◌⊎◌, ℕ, Bool, List, [], ◌∷◌, Option, Some, None, refl, sym, ◌∙◌, ap, subst}
use Rattle.stab_base.specs.declared.chunk_name.ChunkName.{ChunkName}
use Rattle.row_value.specs.declared.schema.Schema.{Schema}
use Rattle.chunk_store.specs.Standing.{chunk_in}
use Rattle.row_store.specs.declared.stored.StoredRow.{StoredRow}
use Rattle.row_store.specs.declared.stored.Terms.{Terms}
use Rattle.row_store.specs.Data.{TableData, row_of, with_sub, with_table}
use Rattle.status_log.specs.Entry.{Entry}
use Rattle.store_commit.specs.Devs.{Devs, Write, PutTable, PutSub, changed_by}
use Rattle.store_commit.specs.NamedChunks.{Among, IsNamed, IsLeft, NamedChunks}
use Rattle.row_value.specs.declared.pieces.Piece.{Piece}
use Rattle.row_value.specs.declared.pieces.PieceContent.{PieceContent}
use Rattle.chunker.specs.Sized.{fits_by_len}
use Rattle.store_commit.specs.There.{WholeRows, IsWhole, HasNoOther, all_lens, kept}
use Rattle.store_commit.specs.Agenda.{IsKeeping, IsKeepingWhole, IsStill, Runs}

-- the same rows, whatever else is held
module _ (meaning : ChunkName → List ℕ) (d e : Devs) (rows : e.held.rows ≡ d.held.rows) (chunks : e.chunks ≡ d.chunks) (pending : e.pending ≡ d.pending) (n : NamedChunks meaning d) where
  same_row : (row : List ℕ) → row_of e.held row ≡ row_of d.held row
  same_row row = ap (λ (rs : List (List ℕ × StoredRow)). row_of (record { rows = rs; table = None; subs = [] }) row) rows

  abbrev before : (name : ChunkName) → IsNamed e.held name → IsNamed d.held name
  before name a = record { row = a.row; stored = a.stored; there = sym (same_row a.row) ∙ a.there; among = a.among }

  abbrev behind : (name : ChunkName) → IsNamed d.held name → IsNamed e.held name
  behind name a = record { row = a.row; stored = a.stored; there = same_row a.row ∙ a.there; among = a.among }

  left_before : (entry : Entry) (name : ChunkName) → IsLeft e.held entry name → IsLeft d.held entry name
  left_before entry name left = subst (λ (rs : List (List ℕ × StoredRow)). IsLeft (record { rows = rs; table = None; subs = [] }) entry name) rows left

  left_behind : (entry : Entry) (name : ChunkName) → IsLeft d.held entry name → IsLeft e.held entry name
  left_behind entry name left = subst (λ (rs : List (List ℕ × StoredRow)). IsLeft (record { rows = rs; table = None; subs = [] }) entry name) (sym rows) left

  pub named_still : NamedChunks meaning e
  named_still = record {
    there = λ name a. ap (λ (cs : List (ChunkName × List ℕ)). chunk_in cs name) chunks ∙ n.there name (before name a);
    different = λ row stored at. n.different row stored (sym (same_row row) ∙ at);
    once = λ name a b. n.once name (before name a) (before name b);
    below = λ name a. n.below name (before name a);
    others = λ name bytes h. ⊎_elim
        (λ a. inl (behind name a))
        (λ left. inr (left.0, pending ∙ left.1, left_behind left.0 name left.2))
        (n.others name bytes (sym (ap (λ (cs : List (ChunkName × List ℕ)). chunk_in cs name) chunks) ∙ h));
    apart = λ entry name at left a. n.apart entry name (sym pending ∙ at) (left_before entry name left) (before name a);
  }

-- a content is whole under another state of the table
whole_with : (stands : Piece → Option (List ℕ)) (schema : Schema) (state : ℕ) (content : PieceContent) (t : Option (Schema × ℕ)) → ((table : Schema × ℕ) → t ≡ Some table → table.0 ≡ schema)
    → IsWhole stands t content → IsWhole stands (Some (schema, state)) content
whole_with stands schema state content None same w = absurd (let no = w.fits in cc)
whole_with stands schema state content (Some table) same w = record {
  fits = subst (λ (x : Schema). not (fits_by_len x content) ≡ false) (same table refl) w.fits;
  lens = subst (λ (x : Schema). not (all_lens stands x.chunk content) ≡ false) (same table refl) w.lens;
}

module _ (meaning : ChunkName → List ℕ) (d : Devs) (n : NamedChunks meaning d) where
  pub sub_runs : (client : ℕ) (terms : Option Terms) → Runs (IsKeeping meaning) d (PutSub client terms ∷ [])
  sub_runs client terms = (record { named = n }, record { named = named_still meaning d (changed_by d (PutSub client terms)) refl refl refl n })

  pub table_runs : (schema : Schema) (state : ℕ) → Runs (IsKeeping meaning) d (PutTable schema state ∷ [])
  table_runs schema state = (record { named = n }, record { named = named_still meaning d (changed_by d (PutTable schema state)) refl refl refl n })

  module _ (whole : WholeRows meaning d.held) where
    pub sub_keeps_whole : (client : ℕ) (terms : Option Terms) → Runs (IsKeepingWhole meaning) d (PutSub client terms ∷ [])
    sub_keeps_whole client terms = (record { named = n; whole = whole }, record { named = named_still meaning d (changed_by d (PutSub client terms)) refl refl refl n; whole = record { each = λ row stored at. whole.each row stored at } })

    pub table_keeps_whole : (schema : Schema) (state : ℕ) → HasNoOther d.held schema → Runs (IsKeepingWhole meaning) d (PutTable schema state ∷ [])
    table_keeps_whole schema state same = (
      record { named = n; whole = whole },
      record {
        named = named_still meaning d (changed_by d (PutTable schema state)) refl refl refl n;
        whole = record { each = λ row stored at. whole_with (kept (λ name. Some (meaning name))) schema state stored.content d.held.table same (whole.each row stored at) };
      },
    )

module _ (d : Devs) where
  pub sub_still : (client : ℕ) (terms : Option Terms) → Runs (IsStill d) d (PutSub client terms ∷ [])
  sub_still client terms = (record { chunks = refl; rows = refl; pending = refl }, record { chunks = refl; rows = refl; pending = refl })

  pub table_still : (schema : Schema) (state : ℕ) → Runs (IsStill d) d (PutTable schema state ∷ [])
  table_still schema state = (record { chunks = refl; rows = refl; pending = refl }, record { chunks = refl; rows = refl; pending = refl })
