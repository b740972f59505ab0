use Rattle.std.proofs.Common.{◌∙◌, ap, sym, length, Option}
use Rattle.std.specs.Prelude.{◌==◌, ◌&&◌, ◌||◌}
use Rattle.std.specs.BTreeSet as set
use Rattle.stab_base.specs.declared.chunk_name.ChunkName.{ChunkName}
use Rattle.part_tables.specs.ClientParts.{is_under}
use Rattle.part_contents.specs.Held.{named_len_cmp}
use Rattle.part_contents.proofs.Firsts.{named_len}
use Rattle.part_contents.proofs.held.add_len.Goals as goal

pub returns-in_ok-_is_new : goal.returns-in_ok-_is_new
returns-in_ok-_is_new c q k =
    c.in_ok-_is_new.ensures.updates.0 (q, k)
    ∙ (named_len c.in-Some.name q c.len.result k c.args.own.now.1 (set.contains named_len_cmp c.args.lens.now (q, k)) c.len.ensures
    ∙ ap (λ (o : Option ChunkName). set.contains named_len_cmp c.args.lens.now (q, k) || (is_under q o && (length c.args.own.now.1 == k))) (sym c.in-Some.is))
