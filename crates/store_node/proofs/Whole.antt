-- The rows of a table that stands for a disk are whole, so that a scan hides none of them.
use Rattle.std.proofs.Common.{◌≡◌, inl, inr, ℕ, ◌<◌, List, [], ◌∷◌, Ok, subst}
use Rattle.stab_base.specs.declared.chunk_name.ChunkName.{ChunkName}
use Rattle.row_value.specs.Fit.{fit_of}
use Rattle.row_value.specs.declared.schema.Schema.{Schema}
use Rattle.store_commit.specs.Devs.{Devs}
use Rattle.store_commit.specs.NamedChunks.{NamedChunks}
use Rattle.store_commit.specs.There.{WholeRows}
use Rattle.step_tables.specs.Members.{Among}
use Rattle.step_tables.specs.Store.{Stored}
use Rattle.step_tables.specs.StoreMoves.{StoreDisk}
use Rattle.device_laws.specs.Stands.{Stands}
use Rattle.device_laws.proofs.Numbered.{current_row}
use Rattle.device_laws.proofs.NamedDevices.{meaning, named_chunks}
use Rattle.device_laws.proofs.AskedWhole.{row_is_whole}
use Rattle.store_node.specs.Node.{AreFit}

fit_among : (schema : Schema) (items : List Stored) (item : Stored) → AreFit schema items → Among items item → fit_of schema item.content ≡ Ok tt
unfolding Among
fit_among schema [] item fit a = absurd a
fit_among schema (x ∷ items) item fit (inl same) = subst (λ (i : Stored). fit_of schema i.content ≡ Ok tt) same fit.0
fit_among schema (x ∷ items) item fit (inr more) = fit_among schema items item fit.1 more

pub whole_stands : (schema : Schema) (d : Devs) (disk : StoreDisk) → 0 < schema.chunk → Stands schema d disk → AreFit schema disk.items
    → (meaning : ChunkName → List ℕ) × NamedChunks meaning d × WholeRows meaning d.held
whole_stands schema d disk some st fit = (
  meaning schema d disk st,
  named_chunks schema d disk st,
  record {
    each = λ row stored there.
        let w = row_is_whole schema d disk some st row (λ item is. fit_among schema disk.items item fit (current_row disk.items row item is).0) stored there in
        record { fits = w.0; lens = w.1 };
  },
)
