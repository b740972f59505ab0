use Rattle.std.proofs.Common.{◌≡◌, ◌<◌, ℕ, length}
use Rattle.node_steps.specs.Closes.{StayBelow}
use Rattle.node_steps.proofs.Closing.{AreClientsClosing}
use Rattle.node_steps.proofs.close.close_clients.Given as goal

abbrev pub invariant-clients : goal.invariant-clients
invariant-clients g l = record {
  closing : AreClientsClosing l.fn.clients.clients l.clients.clients (g.P.Depot.state l.depot).is_out (g.P.Depot.returned l.depot);
  others : (k : ℕ) → k < 192 → (g.P.Depot.state l.depot).is_out k ≡ (g.P.Depot.state l.fn.depot).is_out k;
  kept : StayBelow (g.P.Depot.returned l.fn.depot) (g.P.Depot.returned l.depot) 192;
  faults : (g.P.Depot.state l.depot).faults ≡ (g.P.Depot.state l.fn.depot).faults;
}

abbrev pub decreases-clients : goal.decreases-clients
decreases-clients g l = length l.clients.clients.entries
