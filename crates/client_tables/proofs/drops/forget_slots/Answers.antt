use Rattle.client_tables.proofs.NameSets.{forgotten_more}
use Rattle.client_tables.proofs.drops.forget_slots.Goals as goal

pub returns : goal.returns
returns c =
    forgotten_more _ _ _ _ _ (forgotten_more _ _ _ _ _ (forgotten_more _ _ _ _ _ c.forget_main.ensures c.forget_shadow.ensures) c.forget_out.ensures)
    c.forget_shadow-2.ensures
