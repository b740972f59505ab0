use Rattle.std.proofs.Common.{drop}
use Rattle.std.proofs.lemmas.List.{nil_from_length}
use Rattle.wire_steps.proofs.Viewed.{named_end}
use Rattle.wire_steps.proofs.views.add_all_chunks.Goals as goal

pub returns-in_default : goal.returns-in_default
returns-in_default c =
    named_end c.args.size c.loop-object.rest.now (drop c.loop-object.object-index c.args.objects.now) c.loop-object.chunks.items _
    (nil_from_length _ c.in_default.ensures.cases) c.loop-object.invariant
