use Rattle.std.proofs.lemmas.Result.{on_ok_weaker}
use Rattle.store_host.proofs.Adding.{put_is}
use Rattle.store_host.proofs.host.StoreHost.put.Goals as goal

pub returns-clause-put : goal.returns-clause-put
returns-clause-put g c w schema stage made h at =
    on_ok_weaker c.renew_at.result
    (λ s. put_is g.D.Disk.state w c.args.self.now h schema stage made c.args.table c.args.hosted c.insert.new.self c.requires c.in_ok-insert.ensures.updates.0 c.in_ok-insert.ensures.entries
    c.in_ok-insert.ensures.ordered at c.renew_at.new.stores c.store-store.result c.store-store.ensures s)
    c.renew_at.ensures.renewed
