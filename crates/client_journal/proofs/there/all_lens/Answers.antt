use Rattle.std.proofs.Common.{◌≡◌, ◌+◌, ◌++◌, ◌∷◌, [], ℕ, List, length, take, Bool, true, false, refl, sym, ◌∙◌, ap, subst, arith}
use Rattle.chunk_store.specs.Standing.{chunks}
use Rattle.client_journal.specs.Devs.{local_in}
use Rattle.client_journal.specs.There.{has_lens}
use Rattle.client_journal.proofs.Theres.{all_more, all_wrong, all_end}
use Rattle.client_journal.proofs.there.all_lens.Goals as goal

pub loop-object-preserved : goal.loop-object-preserved
loop-object-preserved g c =
    let stands = local_in (chunks g.D.Disk.state c.args.dev.now) in
    all_more (has_lens stands c.args.size) c.args.objects.now c.loop-object.object-index c.loop-object.invariant c.object-item.result c.object-item.result c.loop-object-test.true c.object-item.is (sym c.has_lens.ensures ∙ c.if-not-has_lens.false)

pub returns-then-not-has_lens : goal.returns-then-not-has_lens
returns-then-not-has_lens g c =
    let stands = local_in (chunks g.D.Disk.state c.args.dev.now) in
    sym (all_wrong (has_lens stands c.args.size) c.args.objects.now c.loop-object.object-index c.loop-object.invariant c.object-item.result c.object-item.result c.loop-object-test.true c.object-item.is (sym c.has_lens.ensures ∙ c.if-not-has_lens.true))

pub returns : goal.returns
returns g c =
    let stands = local_in (chunks g.D.Disk.state c.args.dev.now) in
    sym (all_end (has_lens stands c.args.size) c.args.objects.now c.loop-object.object-index c.loop-object.invariant c.loop-object-test.false)
