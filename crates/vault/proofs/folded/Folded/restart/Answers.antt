use Rattle.std.proofs.Common.{rules}
use Rattle.vault.proofs.Uppers.{restarted, restarted_leaves}
use Rattle.vault.specs.Calls.{IsEither}
use Rattle.vault.proofs.folded.Folded.restart.Goals as goal

pub returns-clause-restarts : goal.returns-clause-restarts
returns-clause-restarts g c =
    let s = g.D.Disk.state in
    let i = g.D.Disk.images in
    let old = c.args.self.now.vault in
    let new = c.restart.new.self in
    record {
      up = search rules;
      synced = search rules;
      same = search rules;
      left = λ start a b run. (restarted s i g.met.D.Disk.counts_now start.vault old new (IsEither a b) run c.restart.ensures.image).0;
      sound = λ start a b run. (restarted s i g.met.D.Disk.counts_now start.vault old new (IsEither a b) run c.restart.ensures.image).1;
      since = λ start a b run. restarted_leaves s i g.met.D.Disk.counts_now start.vault old new (IsEither a b) run c.restart.ensures.image (c.restart.ensures.synced c.restart.ensures.up) c.restart.ensures.time;
      faults_stay = search rules;
      stops_stay = search rules;
      unset = search rules;
    }
