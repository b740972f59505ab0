-- Rows of one object, each chunk of which is new, and a table that takes them.
use Rattle.std.specs.Prelude.{◌≡◌, ℕ, ◌*◌, List, [], ◌∷◌, map, length, Some, None}
use Rattle.std.specs.List.{range_with_len, AllByRecursion}
use Rattle.row_value.specs.declared.pieces.Piece.{Piece}
use Rattle.row_value.specs.declared.pieces.Piece.TheVariants.{Fresh}
use Rattle.row_value.specs.declared.pieces.PieceContent.{PieceContent}
use Rattle.row_value.specs.declared.pieces.PieceContent.TheVariants.{Row}
use Rattle.row_value.specs.declared.schema.ColumnKind.TheVariants.{Object}
use Rattle.row_value.specs.declared.schema.Scheme.TheVariants.{Eventual}
use Rattle.row_value.specs.declared.schema.Schema.{Schema}
use Rattle.disk_trait.specs.Calls.{DiskState}
use Rattle.row_store.specs.Spelling.{IsClient}
use Rattle.store_commit.specs.declared.devs.TableDevs.{TableDevs}
use Rattle.store_commit.specs.declared.update.Update.{Update}
use Rattle.store_commit.specs.Devs.{Devs, changed_by_all}
use Rattle.store_commit.specs.Standing.{devs, writes_of, AreUp, IsReady}

-- one column, whose objects are cut into chunks of 64 bytes; the names are empty
abbrev pub object_schema : Schema
object_schema =
    record {
      name = [];
      scheme = Eventual;
      chunk = 64;
      columns = record { name = []; kind = Object } ∷ [];
    }

abbrev pub new_pieces : ℕ → List Piece
new_pieces count = map (λ n. Fresh n) (range_with_len 0 count)

-- so many new chunks of 64 bytes each
abbrev pub new_content : ℕ → PieceContent
new_content count = Row [] (record { len = 64 * count; pieces = new_pieces count } ∷ [])

pub record AreNewChunks (count : ℕ) (fresh : List (List ℕ)) : Type 0 where
  pub counted : length fresh ≡ count
  pub each : AllByRecursion (λ bytes. length bytes ≡ 64) fresh

-- no entry is open, and the table has that schema
pub record TakesNewRows (d : Devs) : Type 0 where
  pub closed : d.pending ≡ None
  pub state : ℕ
  pub there : d.held.table ≡ Some (object_schema, state)

-- an update of a row to so many new chunks
pub record IsNewUpdate (count : ℕ) (update : Update) : Type 0 where
  pub client : IsClient update.client
  pub content : update.content ≡ new_content count
  pub fresh : AreNewChunks count update.fresh

-- no write is to come, and such an update may be taken on
pub record RestsForRows {D : Type 0} (state : D → DiskState) (table : TableDevs D) : Type 0 where
  pub ready : IsReady state table []
  pub idle : writes_of table ≡ []
  pub takes : TakesNewRows (devs state table)

-- behind the writes that are to come it may
pub record WorksForRows {D : Type 0} (state : D → DiskState) (table : TableDevs D) : Type 0 where
  pub up : AreUp table
  pub ready : IsReady state table (writes_of table)
  pub takes : TakesNewRows (changed_by_all (devs state table) (writes_of table))

-- all writes that were to come are done
pub record AllDone {D : Type 0} (state : D → DiskState) (old new : TableDevs D) : Type 0 where
  pub ready : IsReady state new []
  pub idle : writes_of new ≡ []
  pub devs : devs state new ≡ changed_by_all (devs state old) (writes_of old)
