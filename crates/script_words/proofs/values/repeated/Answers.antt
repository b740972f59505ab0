use Rattle.std.proofs.Common.{◌≡◌, ◌∙◌, sym}
use Rattle.script_words.proofs.ValueLemmas.{repeated-more}
use Rattle.script_words.proofs.values.repeated.Goals as goal

pub loop-place-preserved : goal.loop-place-preserved
loop-place-preserved c = rw (c.in_ok-push.ensures.items, c.loop-place.invariant) (sym (repeated-more c.args.pattern.now c.loop-place.place))
