use Rattle.std.proofs.Common.{◌+◌, List, drop, sym, ◌∙◌, ap, subst}
use Rattle.std.proofs.lemmas.List.{drop_all}
use Rattle.table_model.specs.declared.line.Fact.{Fact}
use Rattle.journal_host.specs.declared.out.ClientOut.{ClientOut}
use Rattle.journal_host.specs.Holds.{outs_in, outbox_of}
use Rattle.part_tables.specs.Arriving.{Arriving}
use Rattle.part_client.specs.Keeping.{Keeps}
use Rattle.wire_tables.specs.Wire.{noting, torn_told}
use Rattle.wire_steps.specs.Starting.{noted_in}
use Rattle.wire_steps.proofs.Started.{told_more, drop_item}
use Rattle.wire_steps.proofs.start.note_moves.Goals as goal

pub loop-out-preserved : goal.loop-out-preserved
loop-out-preserved c owners a k =
    let p = c.loop-out.invariant owners a k in
    let rest = outs_in owners (drop (c.loop-out.out-index + 1) c.args.moves.now) in (
      noted_in c.as_slice.result.now p.0,
      c.in_ok-note_facts.ensures p.0 p.1,
      ap (λ (facts : List Fact). noting (torn_told rest) (noted_in facts p.0)) c.as_slice.ensures
          ∙ (sym (told_more (outbox_of owners c.out-item.result) rest p.0)
          ∙ (ap (λ (l : List ClientOut). noting (torn_told (outs_in owners l)) p.0)
          (sym (drop_item c.args.moves.now c.loop-out.out-index c.out-item.result c.out-item.result c.loop-out-test.true c.out-item.is)) ∙ p.2)),
    )

pub returns : goal.returns
returns c owners a k =
    let p = c.loop-out.invariant owners a k in
    subst (λ (x : Arriving). Keeps c.loop-out.it x)
    (sym (ap (λ (l : List ClientOut). noting (torn_told (outs_in owners l)) p.0) (drop_all c.loop-out.out-index c.args.moves.now c.loop-out-test.false)) ∙ p.2) p.1
