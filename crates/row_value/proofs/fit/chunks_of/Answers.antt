use Rattle.std.proofs.Common.{arith, length, ap, ◌≡◌}
use Rattle.std.proofs.lemmas.List.Sums.{sum_by_more_le_part}
use Rattle.row_value.proofs.Wrongs.{chunk_count-le}
use Rattle.row_value.specs.Fit.{chunk_count}
use Rattle.row_value.proofs.fit.chunks_of.Goals as goal

pub overflow_add-count : goal.overflow_add-count
overflow_add-count c =
    let objects = c.args.objects.now in
    let within = sum_by_more_le_part (chunk_count c.args.size) length objects c.loop-object.object-index c.object-item.result c.loop-object-test.true (chunk_count-le c.args.size) in
    let next = chunk_count-le c.args.size c.object-item.result in
    let same = ap length c.object-item.is in
    omega (arith, within, next, same, c.loop-object.invariant, c.chunk_count-count.ensures, c.requires)
