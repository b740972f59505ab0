use Rattle.std.proofs.Common.{◌∙◌, sym}
use Rattle.message_parts.specs.Parts.{fragment_of}
use Rattle.part_client.proofs.Bringing.{row_comes_whole, row_is_left, row_missed}
use Rattle.part_client.proofs.table.TableParts.bring_row.Goals as goal

pub returns-then-not-grow_row-clause-taken : goal.returns-then-not-grow_row-clause-taken
returns-then-not-grow_row-clause-taken c opened a k h =
    row_missed a c.args.self.now (fragment_of c.args.f) k c.grow_row.new.rows (c.grow_row.ensures.grown a.rows k.rows) (sym c.grow_row.ensures.took ∙ c.if-not-grow_row.true) opened

pub returns-clause-taken : goal.returns-clause-taken
returns-clause-taken c opened a k h =
    row_comes_whole a c.args.self.now (fragment_of c.args.f) k c.grow_row.new.rows (c.grow_row.ensures.grown a.rows k.rows) (sym c.grow_row.ensures.took
    ∙ c.if-not-grow_row.false) opened c.args.held.now h
    (c.grow_row.ensures.last c.if-not-grow_row.false) c.complete_row.result c.complete_row.new.self (c.complete_row.ensures.taken opened c.args.f.table)

pub returns-clause-memory : goal.returns-clause-memory
returns-clause-memory c a k =
    row_is_left a c.args.self.now (fragment_of c.args.f) k c.grow_row.new.rows (c.grow_row.ensures.grown a.rows k.rows) (sym c.grow_row.ensures.took ∙ c.if-not-grow_row.false)
    c.complete_row.result c.complete_row.new.self (c.complete_row.ensures.memory c.args.f.table)
