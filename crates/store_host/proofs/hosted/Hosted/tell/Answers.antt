use Rattle.std.proofs.Common.{[], ◌∷◌, ◌++◌, map, ap, ◌∙◌}
use Rattle.std.specs.Prelude.{filter}
use Rattle.std.proofs.lemmas.Result.{on_ok_weaker}
use Rattle.store_node.specs.Due.{fact_of}
use Rattle.world_tables.specs.World.{Outbox}
use Rattle.store_host.specs.Holds.{outs_in, says_something}
use Rattle.store_host.proofs.Hosting.{tells, outbox_is}
use Rattle.store_host.proofs.hosted.Hosted.tell.Goals as goal

pub returns-clause-told : goal.returns-clause-told
returns-clause-told g c store schema table hosted s t =
    let old = c.args.self.now in
    let new = record old { node = c.take_out-out.new.self; history = c.keep_all.new.history } in
    let out = c.take_out-out.ensures in
    let facts = ap (map fact_of) c.as_slice.ensures ∙ out.facts in
    on_ok_weaker c.put.result (λ put. record {
      behind = tells g.D.Disk.state store schema table hosted s old new t out.kept out.same out.declared out.told out.sent (map fact_of c.as_slice.result.now) facts c.in_ok-keep_all.ensures.kept;
      outs = put ∙ ap (λ (o : Outbox). outs_in c.args.outs.now ++ filter says_something (o ∷ []))
          (outbox_is g.D.Disk.state store schema table hosted s old c.store-store.result c.take_out-out.result t c.store-store.ensures out.facts out.messages);
    }) c.put.ensures.put
