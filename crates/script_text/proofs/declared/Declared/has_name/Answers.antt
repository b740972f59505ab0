use Rattle.std.proofs.Common.{◌∙◌, sym, ap}
use Rattle.std.specs.Ordering.{nat_cmp}
use Rattle.std.specs.Cmp.Lexicographic.{slice_cmp}
use Rattle.std.specs.BTreeMap.{is_at}
use Rattle.script_text.specs.Names.{has_name}
use Rattle.script_text.proofs.Sets.{list_any-map}
use Rattle.script_text.proofs.declared.Declared.has_name.Goals as goal

pub returns : goal.returns
returns c =
    c.contains.ensures
    ∙ sym (list_any-map (is_at (slice_cmp nat_cmp c.args.name.now)) (λ v. v.items) c.self.inside.names.keys)
    ∙ ap (λ n. has_name n c.args.name.now) c.self.view_is
