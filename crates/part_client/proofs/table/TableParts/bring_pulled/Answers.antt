use Rattle.std.proofs.Common.{◌≡◌, ◌∙◌, true, sym, subst}
use Rattle.std.specs.Prelude.{IfOk, OnErr}
use Rattle.std.specs.List.{find}
use Rattle.table_model.specs.declared.message.ObjectFragment.{ObjectFragment}
use Rattle.part_tables.specs.Arriving.{is_of_row, without_row}
use Rattle.part_tables.specs.Arriving as arrivals
use Rattle.part_client.specs.Held.{IsHeldOf}
use Rattle.part_client.specs.Calls.{may_end}
use Rattle.part_client.specs.Keeping.{KeepsTable, IsTakenAt}
use Rattle.message_parts.specs.Parts.{fragment_of}
use Rattle.part_client.specs.declared.table.TableParts.{TableParts}
use Rattle.part_client.proofs.Settled.{taken_as, nothing_changes}
use Rattle.part_client.proofs.Bringing.{pull_comes, pull_left, still_keeps, to_the_row, row_comes, row_needs, row_left, other_version}
use Rattle.part_client.proofs.table.TableParts.bring_pulled.Goals as goal

pub returns-then-grow_pull-clause-taken : goal.returns-then-grow_pull-clause-taken
returns-then-grow_pull-clause-taken c opened a k h =
    pull_comes a c.args.self.now (fragment_of c.args.f) k c.grow_pull.new.pull (c.grow_pull.ensures.grown a.pulls k.pull) (sym c.grow_pull.ensures.took ∙ c.if-grow_pull.true) opened c.args.held.now h
    (c.grow_pull.ensures.last c.if-grow_pull.true) c.complete_pull.result c.complete_pull.new.self (c.complete_pull.ensures.taken opened c.args.f.table c.args.f.row)

pub returns-then-grow_pull-clause-memory : goal.returns-then-grow_pull-clause-memory
returns-then-grow_pull-clause-memory c a k =
    pull_left a c.args.self.now (fragment_of c.args.f) k c.grow_pull.new.pull (c.grow_pull.ensures.grown a.pulls k.pull) (sym c.grow_pull.ensures.took ∙ c.if-grow_pull.true)
    c.complete_pull.result c.complete_pull.new.self (c.complete_pull.ensures.memory c.args.f.table)

pub returns-in-Some-clause-taken : goal.returns-in-Some-clause-taken
returns-in-Some-clause-taken c opened a k h =
    let missed = sym c.grow_pull.ensures.took ∙ c.if-grow_pull.false in
    let parts : TableParts = record { pull = c.grow_pull.new.pull; rows = c.args.self.now.rows; torn = c.args.self.now.torn } in
    let same : c.in-Some.f ≡ c.args.f = rw c.in-Some.is at c.in_ok-again.ensures in
    let clause = subst (λ (g : ObjectFragment). KeepsTable g.table a parts → (may_end (fragment_of g) (find (is_of_row g.table g.row) a.rows) ≡ true → IsHeldOf opened g.row c.args.held.now)
    → IfOk c.bring_row.result (IsTakenAt g.table (arrivals.brought_to opened a (fragment_of g) (find (is_of_row g.table g.row) a.rows)) c.bring_row.new.self))
    same (c.bring_row.ensures.taken opened a) in
    row_comes a c.args.self.now (fragment_of c.args.f) k missed opened c.bring_row.result c.bring_row.new.self
    (clause (still_keeps a c.args.self.now (fragment_of c.args.f) k c.grow_pull.new.pull (c.grow_pull.ensures.grown a.pulls k.pull) missed)
    (row_needs a c.args.self.now (fragment_of c.args.f) k missed opened c.args.held.now h))

pub returns-in-Some-clause-memory : goal.returns-in-Some-clause-memory
returns-in-Some-clause-memory c a k =
    let missed = sym c.grow_pull.ensures.took ∙ c.if-grow_pull.false in
    let parts : TableParts = record { pull = c.grow_pull.new.pull; rows = c.args.self.now.rows; torn = c.args.self.now.torn } in
    let same : c.in-Some.f ≡ c.args.f = rw c.in-Some.is at c.in_ok-again.ensures in
    let clause = subst (λ (g : ObjectFragment). KeepsTable g.table a parts → OnErr c.bring_row.result (KeepsTable g.table (record a { rows = without_row g.table g.row a.rows }) c.bring_row.new.self))
    same (c.bring_row.ensures.memory a) in
    row_left a c.args.self.now (fragment_of c.args.f) k missed c.bring_row.result c.bring_row.new.self
    (clause (still_keeps a c.args.self.now (fragment_of c.args.f) k c.grow_pull.new.pull (c.grow_pull.ensures.grown a.pulls k.pull) missed))

pub returns-in-None-clause-taken : goal.returns-in-None-clause-taken
returns-in-None-clause-taken c opened a k h =
    let missed = sym c.grow_pull.ensures.took ∙ c.if-grow_pull.false in
    let parts : TableParts = record { pull = c.grow_pull.new.pull; rows = c.args.self.now.rows; torn = c.args.self.now.torn } in
    taken_as c.args.f.table _ _ parts _
    (sym (to_the_row a c.args.self.now (fragment_of c.args.f) k missed opened
    ∙ other_version opened a (fragment_of c.args.f) _ (k.rows c.args.f.row) (rw c.in-None.is at c.in_ok-again.ensures)))
    (nothing_changes c.args.f.table a parts (still_keeps a c.args.self.now (fragment_of c.args.f) k c.grow_pull.new.pull (c.grow_pull.ensures.grown a.pulls k.pull) missed))
