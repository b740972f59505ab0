use Rattle.std.proofs.Common.{refl}
use Rattle.client_node.proofs.OwnFaults.{fresh_made}
use Rattle.client_node.proofs.Opening.{opens_steady}
use Rattle.client_node.proofs.node.ClientNode.new.Goals as goal

pub returns-clause-at : goal.returns-clause-at
returns-clause-at g c = record {
  at = (
    refl,
    record {
      up = c.new-6.ensures.up;
      fresh = fresh_made g.D.Disk.state c.new-6.result c.new-3.result c.new-4.result c.new-5.result (g.D.Disk.state c.args.journal_disk) (g.D.Disk.state c.args.slot_disk) (g.D.Disk.state c.args.chunk_disk) c.new-6.ensures.journal c.new-6.ensures.slots c.new-6.ensures.chunks c.new-3.ensures.state c.new-4.ensures.state c.new-5.ensures.state;
      idle = c.new-6.ensures.idle;
      synced = λ is. absurd cc;
      sound = λ is. absurd cc;
      stands = λ is. absurd cc;
      undeclared = λ is. refl;
      opens = λ is. c.requires;
      waiting = c.new-2.ensures;
      steady = (c.new-2.result, opens_steady c.new-2.result c.args.tables.items c.requires);
      phaseless = c.new.ensures.empty;
    },
  );
}
