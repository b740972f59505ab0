use Rattle.std.proofs.Common.{arith, false, map, refl, sym, ap, ◌∙◌, subst}
use Rattle.vault.specs.Calls.{IsEither}
use Rattle.client_journal.specs.Devs.{ClientDevs}
use Rattle.client_journal.specs.Standing.{write_of}
use Rattle.client_node.proofs.OwnFaults.{own_stays, own_same}
use Rattle.client_node.proofs.node.ClientNode.fall.Goals as goal

pub returns-clause-falls : goal.returns-clause-falls
returns-clause-falls g c =
    let r = c.restart.ensures in
    let n = c.renew.ensures in
    let mid = record c.args.self.now { devs = c.restart.new.self } in
    let new = record c.args.self.now { devs = c.renew.new.self; is_up = false } in
    record {
      left = λ start a b run.
          let x = r.left start a b run in
          (subst (λ (d : ClientDevs). IsEither a b d) (sym n.devs) x.0, n.sound x.1, n.left start a b (r.since start a b run));
      up = n.up r.up;
      fresh = n.fresh;
      synced = n.synced r.synced;
      idle = ap (λ a. map write_of a.items) n.agenda ∙ r.idle;
      waiting = c.new.ensures;
      phaseless = c.new-2.ensures.empty;
      counted = own_same g.D.Disk.state mid new n.inner
          ∙ own_stays g.D.Disk.state c.args.self.now mid (omega (arith, r.chunks.faults_stay, r.slots.faults_stay, r.journal.faults_stay))
          (omega (arith, r.chunks.stops_stay, r.slots.stops_stay, r.journal.stops_stay));
    }
