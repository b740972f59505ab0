use Rattle.std.proofs.Common.{List, length, Some, refl, sym, ◌∙◌}
use Rattle.table_model.specs.declared.line.Answer.TheVariants as answers
use Rattle.table_model.specs.declared.line.RowPair.{RowPair}
use Rattle.step_tables.specs.ClientMoves as moves
use Rattle.step_tables.specs.Facts as facts
use Rattle.step_tables.specs.Travels.{message_of}
use Rattle.world_tables.specs.World.{chosen_of}
use Rattle.journal_host.proofs.Replying.{replies, spent, drops, rows_same, hands_over, is_chosen}
use Rattle.journal_host.specs.Phases.{answer_in}
use Rattle.journal_host.proofs.Phased.{keeps_moves}
use Rattle.journal_host.proofs.asking.reply.Goals as goal

pub answer-requires : goal.answer-requires
answer-requires g c = record { node = c.requires.node; up = c.requires.up }

pub returns-in-Ask-clause-made : goal.returns-in-Ask-clause-made
returns-in-Ask-clause-made g c s t fits = rw c.in-Ask.is (c.answer.ensures.made s t)

pub returns-in-Ask-clause-dropped : goal.returns-in-Ask-clause-dropped
returns-in-Ask-clause-dropped g c s t unfit = let bad = rw c.in-Ask.is at unfit in absurd (bad tt)

pub returns-in-Ask-clause-spent : goal.returns-in-Ask-clause-spent
returns-in-Ask-clause-spent g c s t fits last is = c.answer.ensures.spent s t last is

pub returns-in-Deliver-clause-made : goal.returns-in-Deliver-clause-made
returns-in-Deliver-clause-made g c s t fits =
    let fit = rw c.in-Deliver.is at fits in
    rw c.in-Deliver.is (replies g.D.Disk.state g.D.Disk.images s c.args.node.now c.deliver.new.self (moves.Take (message_of c.in-Deliver.message)) (λ x. facts.Done) (λ x. answers.Done) (λ x. refl)
    c.deliver.result c.done.result c.done.ensures
    ((c.deliver.ensures.takes s t).taken fit))

pub returns-in-Deliver-clause-dropped : goal.returns-in-Deliver-clause-dropped
returns-in-Deliver-clause-dropped g c s t unfit =
    let bad = rw c.in-Deliver.is at unfit in
    rw c.in-Deliver.is (drops g.D.Disk.state g.D.Disk.images s c.args.node.now c.deliver.new.self (message_of c.in-Deliver.message) c.deliver.result c.done.result
    c.done.ensures ((c.deliver.ensures.takes s t).dropped bad))

pub returns-in-Deliver-clause-spent : goal.returns-in-Deliver-clause-spent
returns-in-Deliver-clause-spent g c s t fits last is =
    let fit = rw c.in-Deliver.is at fits in
    spent g.D.Disk.state g.D.Disk.images s c.args.node.now c.deliver.new.self (moves.Take (message_of c.in-Deliver.message)) (λ x. facts.Done) (λ x. answers.Done) (λ x. refl) c.deliver.result
    c.done.result c.done.ensures
    ((c.deliver.ensures.takes s t).taken fit) last is

pub returns-in-Ask-clause-phases : goal.returns-in-Ask-clause-phases
returns-in-Ask-clause-phases g c s = rw c.in-Ask.is c.answer.ensures.phases

pub returns-in-Deliver-clause-phases : goal.returns-in-Deliver-clause-phases
returns-in-Deliver-clause-phases g c s = rw c.in-Deliver.is
    (keeps_moves c.args.node.now c.deliver.new.self (moves.Take (message_of c.in-Deliver.message)) (answer_in c.done.result) (λ phase table. refl) c.deliver.ensures.phases)

pub returns-in-Resolvable-clause-made : goal.returns-in-Resolvable-clause-made
returns-in-Resolvable-clause-made g c s t fits = rw c.in-Resolvable.is
    (replies g.D.Disk.state g.D.Disk.images s c.args.node.now c.resolvable.new.self (moves.ResolveAll c.in-Resolvable.table c.in-Resolvable.by) (λ (pairs : List RowPair). facts.Number (length pairs))
    (λ (pairs : List RowPair). answers.Number (length pairs)) (λ x. refl) c.resolvable.result c.counted.result c.counted.ensures.answer (c.resolvable.ensures.does s t))

pub returns-in-Resolvable-clause-dropped : goal.returns-in-Resolvable-clause-dropped
returns-in-Resolvable-clause-dropped g c s t unfit = let bad = rw c.in-Resolvable.is at unfit in absurd (bad tt)

pub returns-in-Resolvable-clause-spent : goal.returns-in-Resolvable-clause-spent
returns-in-Resolvable-clause-spent g c s t fits last is =
    spent g.D.Disk.state g.D.Disk.images s c.args.node.now c.resolvable.new.self (moves.ResolveAll c.in-Resolvable.table c.in-Resolvable.by) (λ (pairs : List RowPair). facts.Number (length pairs))
    (λ (pairs : List RowPair). answers.Number (length pairs)) (λ x. refl) c.resolvable.result c.counted.result c.counted.ensures.answer (c.resolvable.ensures.does s t) last is

pub returns-in-Resolvable-clause-pairs : goal.returns-in-Resolvable-clause-pairs
returns-in-Resolvable-clause-pairs g c s count t is = rw c.in-Resolvable.is
    (hands_over g.D.Disk.state g.D.Disk.images s c.in-Resolvable.table c.in-Resolvable.by c.args.node.now c.resolvable.new.self c.resolvable.result c.counted.result c.counted.ensures.answer
    (c.resolvable.ensures.does s t) (c.resolvable.ensures.pairs s t) c.counted.new.pairs c.counted.ensures.listed count is)

pub returns-in-Resolvable-clause-phases : goal.returns-in-Resolvable-clause-phases
returns-in-Resolvable-clause-phases g c s = rw c.in-Resolvable.is
    (keeps_moves c.args.node.now c.resolvable.new.self (moves.ResolveAll c.in-Resolvable.table c.in-Resolvable.by) (answer_in c.counted.result) (λ phase table. refl) c.resolvable.ensures.phases)

pub returns-in-ResolveBy-clause-made : goal.returns-in-ResolveBy-clause-made
returns-in-ResolveBy-clause-made g c s t fits = rw c.in-ResolveBy.is
    (replies g.D.Disk.state g.D.Disk.images s c.args.node.now c.resolve_by.new.self
    (moves.Resolve c.in-ResolveBy.table c.in-ResolveBy.row c.in-ResolveBy.seen (chosen_of c.in-ResolveBy.by c.in-ResolveBy.row (Some s) c.in-ResolveBy.table)) facts.Number answers.Number (λ x. refl)
    c.resolve_by.result c.numbered.result c.numbered.ensures (c.resolve_by.ensures.does s _ t (is_chosen c.in-ResolveBy.by c.in-ResolveBy.row s c.in-ResolveBy.table)))

pub returns-in-ResolveBy-clause-dropped : goal.returns-in-ResolveBy-clause-dropped
returns-in-ResolveBy-clause-dropped g c s t unfit = let bad = rw c.in-ResolveBy.is at unfit in absurd (bad tt)

pub returns-in-ResolveBy-clause-spent : goal.returns-in-ResolveBy-clause-spent
returns-in-ResolveBy-clause-spent g c s t fits last is =
    spent g.D.Disk.state g.D.Disk.images s c.args.node.now c.resolve_by.new.self
    (moves.Resolve c.in-ResolveBy.table c.in-ResolveBy.row c.in-ResolveBy.seen (chosen_of c.in-ResolveBy.by c.in-ResolveBy.row (Some s) c.in-ResolveBy.table)) facts.Number answers.Number (λ x. refl)
    c.resolve_by.result c.numbered.result c.numbered.ensures (c.resolve_by.ensures.does s _ t (is_chosen c.in-ResolveBy.by c.in-ResolveBy.row s c.in-ResolveBy.table)) last is

pub returns-in-ResolveBy-clause-pairs : goal.returns-in-ResolveBy-clause-pairs
returns-in-ResolveBy-clause-pairs g c s count t is = rw c.in-ResolveBy.is tt

pub returns-in-Ask-clause-pairs : goal.returns-in-Ask-clause-pairs
returns-in-Ask-clause-pairs g c s count t is = rw c.in-Ask.is tt

pub returns-in-Deliver-clause-pairs : goal.returns-in-Deliver-clause-pairs
returns-in-Deliver-clause-pairs g c s count t is = rw c.in-Deliver.is tt

pub returns-in-ResolveBy-clause-phases : goal.returns-in-ResolveBy-clause-phases
returns-in-ResolveBy-clause-phases g c s = rw c.in-ResolveBy.is
    (keeps_moves c.args.node.now c.resolve_by.new.self
    (moves.Resolve c.in-ResolveBy.table c.in-ResolveBy.row c.in-ResolveBy.seen (chosen_of c.in-ResolveBy.by c.in-ResolveBy.row s c.in-ResolveBy.table)) (answer_in c.numbered.result) (λ phase table. refl)
    c.resolve_by.ensures.phases)

pub ask_whole-requires : goal.ask_whole-requires
ask_whole-requires g c = record { node = c.requires.node; up = c.requires.up; some = λ none. (rw c.in-AskWhole.is at c.requires.may) (sym c.as_slice-in-AskWhole.ensures ∙ none) }

pub returns-in-AskWhole-clause-made : goal.returns-in-AskWhole-clause-made
returns-in-AskWhole-clause-made g c s t fits = rw c.in-AskWhole.is
    (replies g.D.Disk.state g.D.Disk.images s c.args.node.now c.ask_whole.new.self (moves.Next c.in-AskWhole.table c.in-AskWhole.tears c.in-AskWhole.asks) (λ x. facts.Done) (λ x. answers.Done) (λ x. refl)
    c.ask_whole.result c.done-in-AskWhole.result c.done-in-AskWhole.ensures
    (rows_same g.D.Disk.state g.D.Disk.images s c.args.node.now c.ask_whole.new.self c.in-AskWhole.table _ _ c.in-AskWhole.tears c.in-AskWhole.asks c.ask_whole.result c.as_slice.ensures c.as_slice-in-AskWhole.ensures (c.ask_whole.ensures.does s t)))

pub returns-in-AskWhole-clause-dropped : goal.returns-in-AskWhole-clause-dropped
returns-in-AskWhole-clause-dropped g c s t unfit = let bad = rw c.in-AskWhole.is at unfit in absurd (bad tt)

pub returns-in-AskWhole-clause-spent : goal.returns-in-AskWhole-clause-spent
returns-in-AskWhole-clause-spent g c s t fits last is =
    spent g.D.Disk.state g.D.Disk.images s c.args.node.now c.ask_whole.new.self (moves.Next c.in-AskWhole.table c.in-AskWhole.tears c.in-AskWhole.asks) (λ x. facts.Done) (λ x. answers.Done) (λ x. refl)
    c.ask_whole.result c.done-in-AskWhole.result c.done-in-AskWhole.ensures
    (rows_same g.D.Disk.state g.D.Disk.images s c.args.node.now c.ask_whole.new.self c.in-AskWhole.table _ _ c.in-AskWhole.tears c.in-AskWhole.asks c.ask_whole.result c.as_slice.ensures c.as_slice-in-AskWhole.ensures (c.ask_whole.ensures.does s t)) last is

pub returns-in-AskWhole-clause-pairs : goal.returns-in-AskWhole-clause-pairs
returns-in-AskWhole-clause-pairs g c s count t is = rw c.in-AskWhole.is tt

pub returns-in-AskWhole-clause-phases : goal.returns-in-AskWhole-clause-phases
returns-in-AskWhole-clause-phases g c s = rw c.in-AskWhole.is
    (keeps_moves c.args.node.now c.ask_whole.new.self (moves.Next c.in-AskWhole.table c.in-AskWhole.tears c.in-AskWhole.asks) (answer_in c.done-in-AskWhole.result) (λ phase table. refl) c.ask_whole.ensures.phases)

pub open_table-requires : goal.open_table-requires
open_table-requires g c = record { node = c.requires.node; up = c.requires.up; opens = rw c.in-Open.is at c.requires.may }

pub returns-in-Open-clause-made : goal.returns-in-Open-clause-made
returns-in-Open-clause-made g c s t fits = rw c.in-Open.is
    (replies g.D.Disk.state g.D.Disk.images s c.args.node.now c.open_table.new.self (moves.Alter c.in-Open.table (moves.Opens c.in-Open.schema)) (λ x. facts.Done) (λ x. answers.Done) (λ x. refl)
    c.open_table.result c.done-in-Open.result c.done-in-Open.ensures (c.open_table.ensures.does s t))

pub returns-in-Open-clause-dropped : goal.returns-in-Open-clause-dropped
returns-in-Open-clause-dropped g c s t unfit = let bad = rw c.in-Open.is at unfit in absurd (bad tt)

pub returns-in-Open-clause-spent : goal.returns-in-Open-clause-spent
returns-in-Open-clause-spent g c s t fits last is =
    spent g.D.Disk.state g.D.Disk.images s c.args.node.now c.open_table.new.self (moves.Alter c.in-Open.table (moves.Opens c.in-Open.schema)) (λ x. facts.Done) (λ x. answers.Done) (λ x. refl)
    c.open_table.result c.done-in-Open.result c.done-in-Open.ensures (c.open_table.ensures.does s t) last is

pub returns-in-Open-clause-pairs : goal.returns-in-Open-clause-pairs
returns-in-Open-clause-pairs g c s count t is = rw c.in-Open.is tt

pub returns-in-Open-clause-phases : goal.returns-in-Open-clause-phases
returns-in-Open-clause-phases g c s = rw c.in-Open.is
    (keeps_moves c.args.node.now c.open_table.new.self (moves.Alter c.in-Open.table (moves.Opens c.in-Open.schema)) (answer_in c.done-in-Open.result) (λ phase table. refl) c.open_table.ensures.phases)

pub returns-in-Close-clause-made : goal.returns-in-Close-clause-made
returns-in-Close-clause-made g c s t fits = rw c.in-Close.is
    (replies g.D.Disk.state g.D.Disk.images s c.args.node.now c.close_table.new.self (moves.Alter c.in-Close.table moves.Closes) (λ x. facts.Done) (λ x. answers.Done) (λ x. refl)
    c.close_table.result c.done-in-Close.result c.done-in-Close.ensures (c.close_table.ensures.does s t))

pub returns-in-Close-clause-dropped : goal.returns-in-Close-clause-dropped
returns-in-Close-clause-dropped g c s t unfit = let bad = rw c.in-Close.is at unfit in absurd (bad tt)

pub returns-in-Close-clause-spent : goal.returns-in-Close-clause-spent
returns-in-Close-clause-spent g c s t fits last is =
    spent g.D.Disk.state g.D.Disk.images s c.args.node.now c.close_table.new.self (moves.Alter c.in-Close.table moves.Closes) (λ x. facts.Done) (λ x. answers.Done) (λ x. refl)
    c.close_table.result c.done-in-Close.result c.done-in-Close.ensures (c.close_table.ensures.does s t) last is

pub returns-in-Close-clause-pairs : goal.returns-in-Close-clause-pairs
returns-in-Close-clause-pairs g c s count t is = rw c.in-Close.is tt

pub returns-in-Close-clause-phases : goal.returns-in-Close-clause-phases
returns-in-Close-clause-phases g c s = rw c.in-Close.is
    (keeps_moves c.args.node.now c.close_table.new.self (moves.Alter c.in-Close.table moves.Closes) (answer_in c.done-in-Close.result) (λ phase table. refl) c.close_table.ensures.phases)
