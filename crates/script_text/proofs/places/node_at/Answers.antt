use Rattle.std.proofs.lemmas.Str.Pattern.{strip_prefix_char}
use Rattle.script_text.proofs.WordLemmas.{node_none}
use Rattle.script_text.proofs.places.node_at.Goals as goal

pub returns-in_default-2 : goal.returns-in_default-2
returns-in_default-2 c =
    let h = strip_prefix_char c.args.letter c.args.word.now c.strip_prefix.result c.strip_prefix.ensures.cases c.requires in
    node_none c.args.letter c.args.word.now (rw c.in_default.is at h)
