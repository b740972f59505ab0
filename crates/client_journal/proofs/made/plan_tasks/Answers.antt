use Rattle.std.proofs.Common.{◌++◌, ◌∷◌, [], List, map, ◌∙◌, ap}
use Rattle.std.proofs.lemmas.List.{map-append}
use Rattle.held_value.specs.declared.local_name.LocalName.{LocalName}
use Rattle.client_journal.specs.declared.task.Task.{Task}
use Rattle.client_journal.specs.Devs.{Write, PutDone}
use Rattle.client_journal.specs.Agenda.{drops, slot_writes, record_writes, bring_writes}
use Rattle.client_journal.specs.Standing.{write_of}
use Rattle.client_journal.proofs.Tasks.{plan_joined}
use Rattle.client_journal.proofs.made.plan_tasks.Goals as goal

pub returns : goal.returns
returns c =
    let made = c.args.made in
    let first = c.add_bring.new.tasks in
    let second = c.push_back.new.self in
    let last = c.add_redo.new.tasks in
    let rest : List LocalName → List Write = λ l. slot_writes made.row (record_writes made.table (drops l ++ PutDone ∷ [])) in
    plan_joined (map write_of first.items) (map write_of second.items) (map write_of last.items) made.intend made.brought.items made.commit (rest made.commit.drops)
    (c.in_ok-add_bring.ensures ∙ ap (λ (l : List Task). map write_of l ++ bring_writes made.intend made.brought.items []) c.new-tasks.ensures.items)
    (ap (map write_of) c.in_ok-push_back.ensures.items ∙ map-append write_of first.items (_ ∷ []))
    (c.in_ok-add_redo.ensures ∙ ap (λ (l : List LocalName). map write_of second.items ++ rest l) (c.deref.ensures.value ∙ (c.in_ok-drops.ensures ∙ c.as_slice.ensures)))
