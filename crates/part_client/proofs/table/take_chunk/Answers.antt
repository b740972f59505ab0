use Rattle.std.proofs.Common.{◌∙◌, sym}
use Rattle.part_client.specs.Gathered.{is_for}
use Rattle.part_client.proofs.Coming.{came_is}
use Rattle.part_client.proofs.table.take_chunk.Goals as goal

pub returns-clause-came : goal.returns-clause-came
returns-clause-came c =
    c.take.ensures.row
    ∙ came_is (is_for c.args.f.row c.args.f.key c.args.came.now) c.args.f.column c.args.f.place c.args.f.bytes c.args.came.now (sym c.is_for.ensures ∙ c.if-not-is_for.false)
