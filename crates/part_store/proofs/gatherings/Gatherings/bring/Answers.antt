use Rattle.std.proofs.Common.{ℕ, List, sym, subst, ◌∙◌}
use Rattle.std.specs.Prelude.{IfOk, OnErr, ◌∷◌}
use Rattle.part_tables.specs.StoreParts.{Gathering, StoreTaken, without_client, weighed}
use Rattle.message_parts.specs.Parts.{fragment_of}
use Rattle.part_store.specs.View.{IsViewOf}
use Rattle.part_store.specs.Gathered.{HasGathered, with_chunk}
use Rattle.part_store.specs.Calls.{IsTaken}
use Rattle.part_store.proofs.Finds.{last_of, of_row, grown_is, full_there, others_are, brought_is}
use Rattle.part_store.proofs.gatherings.Gatherings.bring.Goals as goal

pub returns-clause-taken : goal.returns-clause-taken
returns-clause-taken c items gs h v =
    let f = fragment_of c.args.f in
    let l = last_of f gs (sym (c.grow.ensures.done gs h) ∙ c.if-not-grow.false) in
    let full : Gathering = with_chunk f l.x in
    let mid : List Gathering = full ∷ without_client f.client gs in
    let kept : HasGathered c.grow.new.self mid = subst (λ (g : List Gathering). HasGathered c.grow.new.self g) (grown_is f gs l) (c.grow.ensures.grown gs h) in
    let view : IsViewOf c.args.chunk items f.client full.head.row c.args.view.now =
    subst (λ (row : List ℕ). IsViewOf c.args.chunk items f.client row c.args.view.now) (sym (of_row f gs l)) (v (c.grow.ensures.last gs h c.if-not-grow.false)) in
    subst (λ (t : StoreTaken). IfOk c.complete.result (IsTaken t c.complete.new.self)) (sym (brought_is f gs l c.args.scheme c.args.chunk items))
    (subst (λ (others : List Gathering). IfOk c.complete.result (IsTaken (weighed c.args.scheme c.args.chunk items others full) c.complete.new.self)) (others_are f gs l)
    (c.complete.ensures.taken items mid full kept (full_there f gs l) view))

pub returns-clause-memory : goal.returns-clause-memory
returns-clause-memory c gs h =
    let f = fragment_of c.args.f in
    let l = last_of f gs (sym (c.grow.ensures.done gs h) ∙ c.if-not-grow.false) in
    let mid : List Gathering = with_chunk f l.x ∷ without_client f.client gs in
    let kept : HasGathered c.grow.new.self mid = subst (λ (g : List Gathering). HasGathered c.grow.new.self g) (grown_is f gs l) (c.grow.ensures.grown gs h) in
    subst (λ (others : List Gathering). OnErr c.complete.result (HasGathered c.complete.new.self others)) (others_are f gs l) (c.complete.ensures.memory mid kept)
