use Rattle.std.proofs.Common.{◌≡◌, length, ap, arith, rules, ◌∙◌}
use Rattle.plan_log.specs.Spelling.{intend_payload}
use Rattle.plan_log.proofs.Lengths.{intend_len, fits}
use Rattle.plan_log.proofs.writer.write_intend.Goals as goal

pub unwrap-requires : goal.unwrap-requires
unwrap-requires c = fits c.put_intend.result _ c.put_intend.ensures.full (λ full. omega (
  arith,
  full,
  intend_len c.args.intend.now c.requires.spelled.row,
  c.requires.room,
  c.clear.ensures.len,
  c.clear.ensures.capacity,
))

pub returns-clause-len : goal.returns-clause-len
returns-clause-len c =
    let items : c.put_intend.new.out.items ≡ intend_payload c.args.intend.now = search rules in
    ap length items ∙ intend_len c.args.intend.now c.requires.spelled.row
