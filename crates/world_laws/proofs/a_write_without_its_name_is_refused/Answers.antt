use Rattle.std.proofs.Common.{◌≡◌, subst}
use Rattle.table_model.specs.declared.event.Event.TheVariants as events
use Rattle.step_tables.specs.Facts.{Answer}
use Rattle.step_tables.specs.Facts as facts
use Rattle.world_tables.specs.Sound.{IsForm}
use Rattle.world_laws.specs.Worked.{the_store}
use Rattle.world_laws.proofs.a_write_without_its_name_is_refused.Goals as goal

pub returns : goal.returns
returns c = λ sound.
    let k = sound.1 in
    let e : k.answer ≡ facts.Done = cc in
    subst (λ (a : Answer). IsForm (events.Work the_store) a) e k.form
