-- What a payload says, from what is to be noted of it.
use Rattle.std.proofs.Common.{◌≡◌, ℕ, refl, ap}
use Rattle.row_value.specs.declared.schema.Schema.{Schema}
use Rattle.row_store.specs.declared.stored.StoredRow.{StoredRow}
use Rattle.stab_base.specs.declared.row_version.RowVersion.{RowVersion}
use Rattle.row_store.specs.declared.stored.SubChange.{SubChange}
use Rattle.row_store.specs.declared.change.Change.TheVariants as changes
use Rattle.row_store.specs.Reading.{Said, SaysRow, SaysTable, SaysSub, SaysNothing}
use Rattle.row_store.specs.Memory.{shape_of}

pub row_shape : (said : Said) (row : RowVersion) → shape_of said ≡ changes.Row row → (stored : StoredRow) × (said ≡ SaysRow stored) × (row.version ≡ stored.version) × (row.row ≡ stored.row)
row_shape (SaysRow stored) row e =
    let same : record { version = stored.version; row = stored.row } ≡ row = cc in
    (stored, refl, cc, cc)
row_shape (SaysTable schema state) row e = absurd cc
row_shape (SaysSub change) row e = absurd cc
row_shape SaysNothing row e = absurd cc

pub table_shape : (said : Said) → shape_of said ≡ changes.Table → (schema : Schema) × (state : ℕ) × (said ≡ SaysTable schema state)
table_shape (SaysRow stored) e = absurd cc
table_shape (SaysTable schema state) e = (schema, state, refl)
table_shape (SaysSub change) e = absurd cc
table_shape SaysNothing e = absurd cc

pub sub_shape : (said : Said) (change : SubChange) → shape_of said ≡ changes.Sub change → said ≡ SaysSub change
sub_shape (SaysRow stored) change e = absurd cc
sub_shape (SaysTable schema state) change e = absurd cc
sub_shape (SaysSub other) change e = let same : other ≡ change = cc in ap (λ (x : SubChange). SaysSub x) same
sub_shape SaysNothing change e = absurd cc

pub nothing_shape : (said : Said) → shape_of said ≡ changes.Nothing → said ≡ SaysNothing
nothing_shape (SaysRow stored) e = absurd cc
nothing_shape (SaysTable schema state) e = absurd cc
nothing_shape (SaysSub change) e = absurd cc
nothing_shape SaysNothing e = refl
