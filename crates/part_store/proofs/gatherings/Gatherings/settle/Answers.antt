use Rattle.std.proofs.Common.{subst}
use Rattle.part_tables.specs.StoreParts.{without_client}
use Rattle.part_store.specs.declared.weighing.Weighed.{Weighed}
use Rattle.part_store.specs.Weighing.{IsWeighed}
use Rattle.part_store.proofs.Finds.{removed_has, put_has}
use Rattle.part_store.proofs.Settling.{whole_taken, waits_taken}
use Rattle.part_store.proofs.gatherings.Gatherings.settle.Goals as goal

pub returns-in-Whole-clause-taken : goal.returns-in-Whole-clause-taken
returns-in-Whole-clause-taken c gs x made h of is =
    whole_taken _ (without_client c.args.client gs) x made c.in-Whole.message (subst (λ (w : Weighed). IsWeighed made x w) c.in-Whole.is is)
    (record { each = removed_has c.args.self.now.waiting c.remove.new.self c.args.client gs h.each c.remove.ensures.updates.0 })

pub returns-in_ok-insert-in-Waits-clause-taken : goal.returns-in_ok-insert-in-Waits-clause-taken
returns-in_ok-insert-in-Waits-clause-taken c gs x made h of is =
    waits_taken _ (without_client c.args.client gs) x made c.in-Waits.x (subst (λ (w : Weighed). IsWeighed made x w) c.in-Waits.is is)
    (λ same. record { each = put_has c.args.self.now.waiting c.insert.new.self c.args.client gs h.each c.in-Waits.x x same of c.in_ok-insert-in-Waits.ensures.updates.0 })
