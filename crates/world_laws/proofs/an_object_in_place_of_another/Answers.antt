use Rattle.std.proofs.Common.{◌≡◌, ◌⊎◌, inl, inr, ℕ, ◌<◌, Bool, true, false, List, [], ◌∷◌, length, filter, refl, ap, ⊎_elim, arith}
use Rattle.std.specs.Prelude.{◌==◌, ◌&&◌, reverse}
use Rattle.std.specs.List.{find, list_any}
use Rattle.stab_base.specs.declared.chunk_name.ChunkName.{ChunkName}
use Rattle.row_value.specs.Fit.{fit_of, has_cell, wrong_in}
use Rattle.table_model.specs.declared.entry.Entry.{Entry}
use Rattle.table_model.specs.History.{same_row, version_of}
use Rattle.step_tables.specs.Members.{Among}
use Rattle.step_tables.proofs.Lists.{among_here, among_next, among_cons, among_none}
use Rattle.world_tables.specs.Sound.{content_at}
use Rattle.world_tables.specs.Chunks.{chunks_in}
use Rattle.world_laws.specs.Worked.{the_row, named, object_names, object_update_written, said_by}
use Rattle.world_laws.proofs.an_object_in_place_of_another.Goals as goal

pub returns-clause-run : goal.returns-clause-run
unfolding fit_of has_cell wrong_in
returns-clause-run c = refl

abbrev history : List Entry
history = (said_by object_update_written).history 1

-- the names and the chunks of the row that was written, and of every other
counted_for : (b : Bool) → length (filter (λ (name : ChunkName). list_any (λ (entry : Entry). b && (entry.version == name.version)) history) object_names)
    ≡ chunks_in 64 (content_at (said_by object_update_written) 1 (version_of (find (λ (entry : Entry). b) (reverse history))))
counted_for true = refl
counted_for false = refl

abbrev first : Entry
first = record { row = the_row; version = 1; client = 1; number = 1; base = 0 }

abbrev second : Entry
second = record { row = the_row; version = 2; client = 1; number = 2; base = 1 }

version_there : (name : ChunkName) → Among object_names name → (entry : Entry) × Among history entry × (entry.version ≡ name.version)
version_there name a = ⊎_elim (λ e. (first, among_here first (second ∷ []), ap (λ (n : ChunkName). n.version) e))
    (λ b. ⊎_elim (λ e. (second, among_next first (second ∷ []) second (among_here second []), ap (λ (n : ChunkName). n.version) e))
    (λ d. ⊎_elim (λ e. (second, among_next first (second ∷ []) second (among_here second []), ap (λ (n : ChunkName). n.version) e))
    (λ z. absurd (among_none name z)) (among_cons (named 2 1) [] name d))
    (among_cons (named 2 0) (named 2 1 ∷ []) name b))
    (among_cons (named 1 0) (named 2 0 ∷ named 2 1 ∷ []) name a)

pub returns-clause-chunks : goal.returns-clause-chunks
returns-clause-chunks c = record {
  rise = ((inl (omega arith), (inl (omega arith), tt)), ((inr (refl, omega arith), tt), (tt, tt)));
  versions = version_there;
  counted = λ row. counted_for (same_row the_row row);
}
