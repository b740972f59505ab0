use Rattle.std.proofs.Common.{◌≡◌, ◌-◌, ℕ, List, Option}
use Rattle.simba_top.specs.declared.run.TheConstants.{MOST_LINES}
use Rattle.simba_top.specs.Stands.{IsReady, IsUnderway, Goes}
use Rattle.simba_top.proofs.turn.Run.whole.Given as goal

abbrev pub invariant-lines : goal.invariant-lines
invariant-lines g l = record {
  ready : IsReady l.self;
  held : IsUnderway g.D.Disk.state (g.P.Depot.state l.depot).is_out l.self;
  goes : (input : List ℕ) (before : Option (List ℕ)) → Goes g.D.Disk.state input l.fn.self (g.P.Depot.state l.fn.depot).is_out (g.S.Source.left l.fn.source) before (g.K.Sink.holds l.fn.sink)
      → Goes g.D.Disk.state input l.self (g.P.Depot.state l.depot).is_out (g.S.Source.left l.source) before (g.K.Sink.holds l.sink);
  reads : g.S.Source.faults l.source ≡ g.S.Source.faults l.fn.source;
  puts : g.K.Sink.faults l.sink ≡ g.K.Sink.faults l.fn.sink;
  depots : (g.P.Depot.state l.depot).faults ≡ (g.P.Depot.state l.fn.depot).faults;
}

abbrev pub decreases-lines : goal.decreases-lines
decreases-lines g l = MOST_LINES - l.self.count
