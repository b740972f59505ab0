use Rattle.std.proofs.Common.{◌≡◌, ap, ◌∙◌, subst}
use Rattle.std.specs.Io.KnownBytes.{Keeps, IsAtEnd}
use Rattle.std.proofs.KnownBytes.{Keeps-trans}
use Rattle.stab_io.specs.Reading.{Reading, ahead, IsUnfinished}
use Rattle.stab_io.proofs.Endings.{ends, last_found, last_due, unfinished_still}
use Rattle.stab_io.proofs.lines.LineReader.next_line.Given.{Over}
use Rattle.stab_io.proofs.lines.LineReader.next_line.Goals.{In_ok-last_line}
use Rattle.stab_io.proofs.lines.LineReader.next_line.Goals as goal

-- the reader at the end of the source
at_end : (g : Over) (c : In_ok-last_line g)
    → (c.fill.new.self.used ≡ c.args.self.now.used)
    × (c.fill.new.self.limits ≡ c.args.self.now.limits)
    × Keeps (ahead c.args.self.now (g.S.Source.left c.args.source.now)) (ahead c.fill.new.self (g.S.Source.left c.fill.new.source))
    × IsAtEnd (g.S.Source.left c.fill.new.source)
    × IsUnfinished c.fill.new.self
at_end g c =
    let left = g.S.Source.left in
    let whole = rw c.in_default-2.is at c.in_ok-line.ensures.line in
    let end = rw c.if-not-branch.true at c.in_ok-fill.ensures.more in
    let ok = c.in_ok-fill.ensures.ok in
    let held = end.0 ∙ ap (λ (r : Reading). r.held) whole.1 in
    let used = ok.0 ∙ ap (λ (r : Reading). r.used) whole.1 in
    let limits = ok.1 ∙ ap (λ (r : Reading). r.limits) whole.1 in
    let filled = subst (λ (r : Reading). Keeps (ahead r (left c.pieces.source)) (ahead c.fill.new.self (left c.fill.new.source))) whole.1 c.in_ok-fill.ensures.keeps in (
      used ∙ c.pieces.invariant.used,
      limits ∙ c.pieces.invariant.limits,
      Keeps-trans _ _ _ c.pieces.invariant.keeps filled,
      end.1,
      unfinished_still c.pieces.self c.fill.new.self held used limits whole.0,
    )

pub returns-then-not-branch-clause-line : goal.returns-then-not-branch-clause-line
returns-then-not-branch-clause-line g c =
    let e = at_end g c in
    last_found c.args.self.now c.fill.new.self c.last_line.new.self _ (g.S.Source.left c.fill.new.source) c.in_ok-last_line.field-0
    e.0 e.1 e.2 e.3 e.4 c.in_ok-last_line.ensures.line

pub returns-then-not-branch-clause-end : goal.returns-then-not-branch-clause-end
returns-then-not-branch-clause-end g c =
    let e = at_end g c in
    ends c.args.self.now c.fill.new.self c.last_line.new.self _ (g.S.Source.left c.fill.new.source) c.in_ok-last_line.field-0
    e.0 e.1 e.2 e.3 c.in_ok-last_line.ensures.line

pub returns-then-not-branch-clause-due : goal.returns-then-not-branch-clause-due
returns-then-not-branch-clause-due g c = λ _ _ _.
    let e = at_end g c in
    last_due c.args.self.now c.fill.new.self c.last_line.new.self _ (g.S.Source.left c.fill.new.source) c.in_ok-last_line.field-0
    e.0 e.1 e.2 e.3 e.4 c.in_ok-last_line.ensures.line
