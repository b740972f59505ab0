use Rattle.std.proofs.Common.{false, arith, map, sym, ap, ◌∙◌, subst}
use Rattle.store_node.specs.declared.owed.Owed.TheVariants.{Nothing}
use Rattle.vault.specs.Calls.{IsEither}
use Rattle.store_commit.specs.Devs.{Devs}
use Rattle.store_commit.specs.Standing.{write_of}
use Rattle.store_node.proofs.Following.{own_stays, own_same}
use Rattle.store_node.proofs.node.TableNode.fall.Goals as goal

pub returns-clause-falls : goal.returns-clause-falls
returns-clause-falls g c =
    let r = c.restart.ensures in
    let n = c.renew.ensures in
    let mid = record c.args.self.now { devs = c.restart.new.self } in
    let new = record c.args.self.now { devs = c.renew.new.self; is_up = false; owed = Nothing } in
    record {
      left = λ start a b run.
          let x = r.left start a b run in
          (subst (λ (d : Devs). IsEither a b d) (sym n.devs) x.0, n.sound x.1, n.left start a b (r.since start a b run));
      rows_left = λ start a b run. let x = r.rows_left start a b run in (subst (λ (d : Devs). IsEither a b d.held) (sym n.devs) x.0, n.rows_left start a b x.1);
      up = n.up r.up;
      fresh = n.fresh;
      synced = n.synced r.synced;
      idle = ap (λ a. map write_of a.items) n.agenda ∙ r.idle;
      counted = own_same g.D.Disk.state mid new n.inner
          ∙ own_stays g.D.Disk.state c.args.self.now mid (omega (arith, r.chunks.faults_stay, r.rows.faults_stay, r.log.faults_stay))
          (omega (arith, r.chunks.stops_stay, r.rows.stops_stay, r.log.stops_stay));
    }
