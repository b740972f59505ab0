use Rattle.std.proofs.Common.{◌≡◌, ℕ, List, Bool, not, Option, Some, refl, sym, ◌∙◌, ap, subst}
use Rattle.std.specs.List.{list_all}
use Rattle.held_value.specs.declared.content.HeldObject.{HeldObject}
use Rattle.chunk_store.specs.Standing.{chunks}
use Rattle.client_journal.specs.Devs.{local_in}
use Rattle.client_journal.specs.There.{has_lens, lacks}
use Rattle.client_journal.proofs.there.lacks.Goals as goal

pub returns-in-Row : goal.returns-in-Row
returns-in-Row g c =
    let stands = local_in (chunks g.D.Disk.state c.args.dev.now) in
    let all = c.all_lens.ensures ∙ ap (λ (l : List HeldObject). list_all (has_lens stands c.in-Some.record.schema.chunk) l) c.as_slice.ensures in
    rw (c.in-Some.is, c.in-Row.is) (ap not all)
