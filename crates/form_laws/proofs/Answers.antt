-- Each move of a client and of a table at the Store answers in such a form.
use Rattle.std.proofs.Common.{ℕ, List, [], ◌∷◌, Option, Some, None}
use Rattle.row_value.specs.declared.content.Content.TheVariants.{Gone, Row}
use Rattle.stab_base.specs.declared.chunk_name.ChunkName.{ChunkName}
use Rattle.step_tables.specs.Facts.{Answer}
use Rattle.step_tables.specs.Facts as facts
use Rattle.step_tables.specs.Sums.{by_digests}
use Rattle.step_tables.specs.ClientMoves.{TableDisk, ClientDisk, ClientTask, table_at, seen, conflicts_in, conflicts_step}
use Rattle.world_tables.specs.World.{names_answer}
use Rattle.world_laws.proofs.Forms.{IsNumber, IsDone, IsShow, by_number, by_done}
use Rattle.form_laws.specs.Forms.{HasAnswerForm}

pub number_form : (answer : Answer) → IsNumber answer → HasAnswerForm answer
number_form = by_number HasAnswerForm (λ n. tt) (λ r. tt)

pub done_form : (answer : Answer) → IsDone answer → HasAnswerForm answer
done_form = by_done HasAnswerForm tt (λ r. tt)

pub shown_form : (answer : Answer) → IsShow answer → HasAnswerForm answer
shown_form (facts.Shows what) is = tt
shown_form (facts.Refuses refusal) is = tt
shown_form other is = absurd is

-- a row without an object is shown as it is
pub sum_form : (answer : Answer) → IsShow answer → HasAnswerForm (by_digests answer)
sum_form (facts.Shows (facts.Clean version Gone)) is = tt
sum_form (facts.Shows (facts.Clean version (Row cells []))) is = tt
sum_form (facts.Shows (facts.Clean version (Row cells (object ∷ objects)))) is = tt
sum_form (facts.Shows (facts.Mine number Gone)) is = tt
sum_form (facts.Shows (facts.Mine number (Row cells []))) is = tt
sum_form (facts.Shows (facts.Mine number (Row cells (object ∷ objects)))) is = tt
sum_form (facts.Shows (facts.Contended number version Gone)) is = tt
sum_form (facts.Shows (facts.Contended number version (Row cells []))) is = tt
sum_form (facts.Shows (facts.Contended number version (Row cells (object ∷ objects)))) is = tt
sum_form (facts.Refuses refusal) is = tt
sum_form other is = absurd is

pub names_form : (names : List ChunkName) → HasAnswerForm (names_answer names)
names_form [] = tt
names_form (name ∷ names) = tt

pub conflicts_form : (d : ClientDisk) (agenda : Option (List ClientTask)) (table : ℕ) → HasAnswerForm (conflicts_step d agenda table).answer
conflicts_form d None table = tt
conflicts_form d (Some agenda) table = go (table_at (seen d) table)
  where
    go : (o : Option TableDisk) → HasAnswerForm (conflicts_in d agenda o).answer
    go None = tt
    go (Some opened) = tt
