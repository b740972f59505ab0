use Rattle.std.proofs.Common.{◌≡◌, ◌+◌, ◌-◌, ◌≤◌, None, length}
use Rattle.std.specs.Io.KnownBytes.{Keeps}
use Rattle.stab_io.specs.Reading.{ahead}
use Rattle.stab_io.proofs.lines.LineReader.next_line.Given as goal

abbrev pub invariant-pieces : goal.invariant-pieces
invariant-pieces g l = record {
  keeps : Keeps (ahead l.fn.self (g.S.Source.left l.fn.source)) (ahead l.self (g.S.Source.left l.source));
  used : l.self.used ≡ l.fn.self.used;
  limits : l.self.limits ≡ l.fn.self.limits;
  fresh : l.fn.self.stopped ≡ None;
  stopped : l.self.stopped ≡ None;
  faults : g.S.Source.faults l.source ≡ g.S.Source.faults l.fn.source;
  within : l.self.used ≤ l.self.limits.input;
}

abbrev pub decreases-pieces : goal.decreases-pieces
decreases-pieces g l = (l.self.limits.input + 1) - (l.self.used + length l.self.held)
