use Rattle.std.proofs.Common.{[], refl}
use Rattle.table_model.specs.declared.line.Answer.TheVariants as answers
use Rattle.step_tables.specs.ClientMoves as moves
use Rattle.step_tables.specs.Facts as facts
use Rattle.step_tables.specs.Lines.{answer_of, shown_of}
use Rattle.journal_host.proofs.Replying.{replies, spent, itself}
use Rattle.journal_host.specs.Phases.{answer_in}
use Rattle.journal_host.proofs.Phased.{keeps_moves, begins_moves, ends_moves}
use Rattle.journal_host.proofs.asking.answer.Goals as goal

pub returns-in-Write-clause-made : goal.returns-in-Write-clause-made
returns-in-Write-clause-made g c s t = rw c.in-Write.is
    (replies g.D.Disk.state g.D.Disk.images s c.args.node.now c.write.new.self (moves.Write c.in-Write.table c.in-Write.row c.in-Write.content) facts.Number answers.Number (λ x. refl)
    c.write.result c.numbered.result c.numbered.ensures (c.write.ensures.does s t))

pub returns-in-Write-clause-spent : goal.returns-in-Write-clause-spent
returns-in-Write-clause-spent g c s t last is = spent g.D.Disk.state g.D.Disk.images s c.args.node.now c.write.new.self (moves.Write c.in-Write.table c.in-Write.row c.in-Write.content)
    facts.Number answers.Number (λ x. refl) c.write.result c.numbered.result c.numbered.ensures (c.write.ensures.does s t) last is

pub returns-in-Edit-clause-made : goal.returns-in-Edit-clause-made
returns-in-Edit-clause-made g c s t = rw c.in-Edit.is
    (replies g.D.Disk.state g.D.Disk.images s c.args.node.now c.edit.new.self (moves.Change c.in-Edit.table c.in-Edit.row c.in-Edit.edit) facts.Number answers.Number (λ x. refl) c.edit.result
    c.numbered-in-Edit.result c.numbered-in-Edit.ensures (c.edit.ensures.does s t))

pub returns-in-Edit-clause-spent : goal.returns-in-Edit-clause-spent
returns-in-Edit-clause-spent g c s t last is = spent g.D.Disk.state g.D.Disk.images s c.args.node.now c.edit.new.self (moves.Change c.in-Edit.table c.in-Edit.row c.in-Edit.edit) facts.Number
    answers.Number (λ x. refl) c.edit.result c.numbered-in-Edit.result c.numbered-in-Edit.ensures (c.edit.ensures.does s t) last is

pub returns-in-Show-clause-made : goal.returns-in-Show-clause-made
returns-in-Show-clause-made g c s t = rw c.in-Show.is
    (replies g.D.Disk.state g.D.Disk.images s c.args.node.now c.read.new.self (moves.Show c.in-Show.table c.in-Show.row) (λ shown. facts.Shows (shown_of shown)) answers.Shown (λ x. refl)
    c.read.result c.shown.result c.shown.ensures (c.read.ensures.does s t))

pub returns-in-Show-clause-spent : goal.returns-in-Show-clause-spent
returns-in-Show-clause-spent g c s t last is = spent g.D.Disk.state g.D.Disk.images s c.args.node.now c.read.new.self (moves.Show c.in-Show.table c.in-Show.row)
    (λ shown. facts.Shows (shown_of shown)) answers.Shown (λ x. refl) c.read.result c.shown.result c.shown.ensures (c.read.ensures.does s t) last is

pub returns-in-Sum-clause-made : goal.returns-in-Sum-clause-made
returns-in-Sum-clause-made g c s t = rw c.in-Sum.is
    (replies g.D.Disk.state g.D.Disk.images s c.args.node.now c.sum.new.self (moves.Sum c.in-Sum.table c.in-Sum.row) answer_of (λ x. x) (λ x. refl) c.sum.result c.sum.result (itself c.sum.result)
    (c.sum.ensures.does s t))

pub returns-in-Sum-clause-spent : goal.returns-in-Sum-clause-spent
returns-in-Sum-clause-spent g c s t last is = spent g.D.Disk.state g.D.Disk.images s c.args.node.now c.sum.new.self (moves.Sum c.in-Sum.table c.in-Sum.row) answer_of (λ x. x) (λ x. refl)
    c.sum.result c.sum.result (itself c.sum.result) (c.sum.ensures.does s t) last is

pub returns-in-Sync-clause-made : goal.returns-in-Sync-clause-made
returns-in-Sync-clause-made g c s t = rw c.in-Sync.is
    (replies g.D.Disk.state g.D.Disk.images s c.args.node.now c.sync_now.new.self (moves.Sync c.in-Sync.table) facts.Number answers.Number (λ x. refl) c.sync_now.result c.numbered-in-Sync.result
    c.numbered-in-Sync.ensures (c.sync_now.ensures.does s t))

pub returns-in-Sync-clause-spent : goal.returns-in-Sync-clause-spent
returns-in-Sync-clause-spent g c s t last is = spent g.D.Disk.state g.D.Disk.images s c.args.node.now c.sync_now.new.self (moves.Sync c.in-Sync.table) facts.Number answers.Number (λ x. refl)
    c.sync_now.result c.numbered-in-Sync.result c.numbered-in-Sync.ensures (c.sync_now.ensures.does s t) last is

pub returns-in-Pull-clause-made : goal.returns-in-Pull-clause-made
returns-in-Pull-clause-made g c s t = rw c.in-Pull.is
    (replies g.D.Disk.state g.D.Disk.images s c.args.node.now c.pull_now.new.self (moves.Next c.in-Pull.table [] []) (λ x. facts.Done) (λ x. answers.Done) (λ x. refl) c.pull_now.result c.done.result
    c.done.ensures (c.pull_now.ensures.does s t))

pub returns-in-Pull-clause-spent : goal.returns-in-Pull-clause-spent
returns-in-Pull-clause-spent g c s t last is = spent g.D.Disk.state g.D.Disk.images s c.args.node.now c.pull_now.new.self (moves.Next c.in-Pull.table [] []) (λ x. facts.Done) (λ x. answers.Done)
    (λ x. refl) c.pull_now.result c.done.result c.done.ensures (c.pull_now.ensures.does s t) last is

pub returns-in-Write-clause-phases : goal.returns-in-Write-clause-phases
returns-in-Write-clause-phases g c = rw c.in-Write.is (keeps_moves c.args.node.now c.write.new.self (moves.Write c.in-Write.table c.in-Write.row c.in-Write.content) (answer_in c.numbered.result) (λ phase table. refl) c.write.ensures.phases)

pub returns-in-Edit-clause-phases : goal.returns-in-Edit-clause-phases
returns-in-Edit-clause-phases g c = rw c.in-Edit.is (keeps_moves c.args.node.now c.edit.new.self (moves.Change c.in-Edit.table c.in-Edit.row c.in-Edit.edit) (answer_in c.numbered-in-Edit.result) (λ phase table. refl) c.edit.ensures.phases)

pub returns-in-Show-clause-phases : goal.returns-in-Show-clause-phases
returns-in-Show-clause-phases g c = rw c.in-Show.is (keeps_moves c.args.node.now c.read.new.self (moves.Show c.in-Show.table c.in-Show.row) (answer_in c.shown.result) (λ phase table. refl) c.read.ensures.phases)

pub returns-in-Sum-clause-phases : goal.returns-in-Sum-clause-phases
returns-in-Sum-clause-phases g c = rw c.in-Sum.is (keeps_moves c.args.node.now c.sum.new.self (moves.Sum c.in-Sum.table c.in-Sum.row) (answer_in c.sum.result) (λ phase table. refl) c.sum.ensures.phases)

pub returns-in-Sync-clause-phases : goal.returns-in-Sync-clause-phases
returns-in-Sync-clause-phases g c = rw c.in-Sync.is (keeps_moves c.args.node.now c.sync_now.new.self (moves.Sync c.in-Sync.table) (answer_in c.numbered-in-Sync.result) (λ phase table. refl) c.sync_now.ensures.phases)

pub returns-in-Pull-clause-phases : goal.returns-in-Pull-clause-phases
returns-in-Pull-clause-phases g c = rw c.in-Pull.is (keeps_moves c.args.node.now c.pull_now.new.self (moves.Next c.in-Pull.table [] []) (answer_in c.done.result) (λ phase table. refl) c.pull_now.ensures.phases)

pub returns-in-Resolve-clause-phases : goal.returns-in-Resolve-clause-phases
returns-in-Resolve-clause-phases g c = rw c.in-Resolve.is (keeps_moves c.args.node.now c.resolve.new.self (moves.Resolve c.in-Resolve.table c.in-Resolve.row c.in-Resolve.seen c.in-Resolve.choice) (answer_in c.numbered-in-Resolve.result) (λ phase table. refl) c.resolve.ensures.phases)

pub returns-in-BeginCr-clause-made : goal.returns-in-BeginCr-clause-made
returns-in-BeginCr-clause-made g c s t = rw c.in-BeginCr.is
    (replies g.D.Disk.state g.D.Disk.images s c.args.node.now c.begin_cr.new.self (moves.BeginCr c.in-BeginCr.table) (λ x. facts.Done) (λ x. answers.Done) (λ x. refl) c.begin_cr.result c.done-in-BeginCr.result
    c.done-in-BeginCr.ensures (c.begin_cr.ensures.does s t))

pub returns-in-BeginCr-clause-spent : goal.returns-in-BeginCr-clause-spent
returns-in-BeginCr-clause-spent g c s t last is = spent g.D.Disk.state g.D.Disk.images s c.args.node.now c.begin_cr.new.self (moves.BeginCr c.in-BeginCr.table) (λ x. facts.Done) (λ x. answers.Done)
    (λ x. refl) c.begin_cr.result c.done-in-BeginCr.result c.done-in-BeginCr.ensures (c.begin_cr.ensures.does s t) last is

pub returns-in-BeginCr-clause-phases : goal.returns-in-BeginCr-clause-phases
returns-in-BeginCr-clause-phases g c = rw c.in-BeginCr.is
    (begins_moves c.args.node.now c.begin_cr.new.self c.in-BeginCr.table c.begin_cr.result c.done-in-BeginCr.result c.done-in-BeginCr.ensures c.begin_cr.ensures.begins c.begin_cr.ensures.phases)

pub returns-in-EndCr-clause-made : goal.returns-in-EndCr-clause-made
returns-in-EndCr-clause-made g c s t = rw c.in-EndCr.is
    (replies g.D.Disk.state g.D.Disk.images s c.args.node.now c.end_cr.new.self (moves.EndCr c.in-EndCr.table) (λ x. facts.Done) (λ x. answers.Done) (λ x. refl) c.end_cr.result c.done-in-EndCr.result
    c.done-in-EndCr.ensures (c.end_cr.ensures.does s t))

pub returns-in-EndCr-clause-spent : goal.returns-in-EndCr-clause-spent
returns-in-EndCr-clause-spent g c s t last is = spent g.D.Disk.state g.D.Disk.images s c.args.node.now c.end_cr.new.self (moves.EndCr c.in-EndCr.table) (λ x. facts.Done) (λ x. answers.Done)
    (λ x. refl) c.end_cr.result c.done-in-EndCr.result c.done-in-EndCr.ensures (c.end_cr.ensures.does s t) last is

pub returns-in-EndCr-clause-phases : goal.returns-in-EndCr-clause-phases
returns-in-EndCr-clause-phases g c = rw c.in-EndCr.is
    (ends_moves c.args.node.now c.end_cr.new.self c.in-EndCr.table c.end_cr.result c.done-in-EndCr.result c.done-in-EndCr.ensures c.end_cr.ensures.ends c.end_cr.ensures.phases)

pub returns-in-Resolve-clause-made : goal.returns-in-Resolve-clause-made
returns-in-Resolve-clause-made g c s t = rw c.in-Resolve.is
    (replies g.D.Disk.state g.D.Disk.images s c.args.node.now c.resolve.new.self (moves.Resolve c.in-Resolve.table c.in-Resolve.row c.in-Resolve.seen c.in-Resolve.choice) facts.Number answers.Number (λ x. refl)
    c.resolve.result c.numbered-in-Resolve.result c.numbered-in-Resolve.ensures (c.resolve.ensures.does s t))

pub returns-in-Resolve-clause-spent : goal.returns-in-Resolve-clause-spent
returns-in-Resolve-clause-spent g c s t last is = spent g.D.Disk.state g.D.Disk.images s c.args.node.now c.resolve.new.self (moves.Resolve c.in-Resolve.table c.in-Resolve.row c.in-Resolve.seen c.in-Resolve.choice)
    facts.Number answers.Number (λ x. refl) c.resolve.result c.numbered-in-Resolve.result c.numbered-in-Resolve.ensures (c.resolve.ensures.does s t) last is
