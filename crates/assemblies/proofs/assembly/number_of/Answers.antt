use Rattle.std.proofs.Common.{get_or, rules}
use Rattle.std.proofs.lemmas.List.Sorted.{answers_always}
use Rattle.assemblies.specs.declared.awaiting.Awaited.{Awaited}
use Rattle.assemblies.proofs.Search.{ranks_rise, equal_stands, none_stands}
use Rattle.assemblies.proofs.assembly.number_of.Goals as goal

pub returns-in-Ok : goal.returns-in-Ok
returns-in-Ok c =
    let found = c.in-Ok.ensures.position (λ (it : Awaited). (it.column, it.place)) (answers_always _ _ _ (λ f a r g called. search rules)) in
    record {
      within = c.in-Ok.ensures.bound;
      here = λ d. equal_stands c.args.column c.args.place (get_or c.args.awaited.now c.in-Ok.number d) (found d);
    }

pub returns-in-Err : goal.returns-in-Err
returns-in-Err c =
    let parted = c.in-Err.ensures.position (λ (it : Awaited). (it.column, it.place)) (answers_always _ _ _ (λ f a r g called. search rules)) in
    none_stands c.args.column c.args.place c.args.awaited.now c.in-Err.field-0 (parted (ranks_rise c.args.column c.args.place c.args.awaited.now c.requires))
