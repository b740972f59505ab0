use Rattle.std.proofs.Common.{◌∙◌, ap, map}
use Rattle.std.specs.Ordering.{nat_cmp}
use Rattle.std.specs.Cmp.Lexicographic.{slice_cmp}
use Rattle.std.specs.BTreeMap.{is_at}
use Rattle.script_text.proofs.Sets.{remove_key-map}
use Rattle.script_text.proofs.declared.take_name.Goals as goal

pub returns-then-added : goal.returns-then-added
returns-then-added c =
    rw c.if-added.true
    (ap (map (λ v. v.items)) c.remove-removed.ensures.keys ∙ remove_key-map (is_at (slice_cmp nat_cmp c.args.name.now)) (λ v. v.items) c.args.names.now.keys)
