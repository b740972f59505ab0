use Rattle.std.proofs.Common.{◌∙◌, sym, ap, map, not, List, ℕ}
use Rattle.std.specs.Ordering.{nat_cmp}
use Rattle.std.specs.Cmp.Lexicographic.{slice_cmp}
use Rattle.std.specs.List.{list_any}
use Rattle.std.specs.BTreeMap.{is_at}
use Rattle.std.specs.BTreeSet.{insert_key}
use Rattle.script_text.specs.Names.{texts_of}
use Rattle.script_text.proofs.Sets.{list_any-map, insert_key-map}
use Rattle.script_text.proofs.declared.put_name.Goals as goal

pub returns-clause-added : goal.returns-clause-added
returns-clause-added c =
    c.in_ok-added.ensures.added
    ∙ ap not (sym (list_any-map (is_at (slice_cmp nat_cmp c.in_ok-name.name.items)) (λ v. v.items) c.args.names.now.keys)
    ∙ ap (λ (t : List ℕ). list_any (is_at (slice_cmp nat_cmp t)) (texts_of c.args.names.now)) c.in_ok-name.ensures.items)

pub returns-clause-put : goal.returns-clause-put
returns-clause-put c =
    ap (map (λ v. v.items)) c.in_ok-added.ensures.keys
    ∙ insert_key-map (slice_cmp nat_cmp) (λ v. v.items) c.args.names.now.keys c.in_ok-name.name
    ∙ ap (λ (t : List ℕ). insert_key (slice_cmp nat_cmp) (texts_of c.args.names.now) t) c.in_ok-name.ensures.items
