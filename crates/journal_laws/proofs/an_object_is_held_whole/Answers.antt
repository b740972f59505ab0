use Rattle.std.proofs.Common.{List, ◌++◌, length, refl, sym, ◌∙◌, ap, ℕ}
use Rattle.std.specs.List.{concat}
use Rattle.client_tables.specs.Held.{held_pieces, brought}
use Rattle.client_journal.specs.Agenda.{meaning_with}
use Rattle.journal_laws.proofs.Brought.{chunks_held}
use Rattle.journal_laws.proofs.Numbered.{object_same}
use Rattle.journal_laws.proofs.an_object_is_held_whole.Goals as goal

pub returns : goal.returns
returns k = λ meaning number len shown chunks before behind h.
    let all : List (List ℕ) = before ++ (brought shown chunks ++ behind) in
    sym (object_same (meaning_with meaning number all) number (record { len = len; pieces = held_pieces shown chunks (length before) }))
    ∙ ap (λ (l : List (List ℕ)). concat l) (chunks_held meaning number all shown chunks (length before) before behind h refl refl)
