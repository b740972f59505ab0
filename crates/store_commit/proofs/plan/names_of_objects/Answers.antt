use Rattle.std.proofs.Common.{◌∙◌, ◌++◌, ap}
use Rattle.store_commit.specs.NamedChunks.{names_in}
use Rattle.store_commit.proofs.Plans.{objects_more}
use Rattle.store_commit.proofs.plan.names_of_objects.Goals as goal

pub loop-object-preserved : goal.loop-object-preserved
loop-object-preserved c =
    objects_more c.loop-object.names.items c.add_names.new.names.items c.args.objects.now c.loop-object.object-index c.object-item.result c.object-item.result c.loop-object-test.true c.object-item.is c.loop-object.invariant
    (c.in_ok-add_names.ensures ∙ ap (λ l. c.loop-object.names.items ++ names_in l) c.as_slice.ensures)
