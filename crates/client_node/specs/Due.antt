-- What a write tells and sends once it is done.
use Rattle.std.specs.Prelude.{Bool, true, false, List, [], ◌∷◌, if◌then◌else◌}
use Rattle.stab_base.specs.declared.step.Step.{Step}
use Rattle.stab_base.specs.declared.step.Step.TheVariants as steps
use Rattle.step_tables.specs.Facts.{Fact}
use Rattle.step_tables.specs.Messages.{Send}
use Rattle.client_journal.specs.Devs.{Write}
use Rattle.client_node.specs.declared.owed.When.{When}
use Rattle.client_node.specs.declared.owed.When.TheVariants.{AtCommit, AtEnd}

-- whether no write stands behind
abbrev pub is_last_of : List Write → Bool
is_last_of [] = true
is_last_of (w ∷ ws) = false

-- whether a write of this name, which may be the last, tells what is owed
abbrev pub is_due : When → Step → Bool → Bool
is_due AtCommit steps.Commit is_last = true
is_due AtCommit step is_last = false
is_due AtEnd step is_last = is_last

-- what it tells, where this is owed, and what is owed behind it
abbrev pub told_at : When → List Fact → Step → Bool → List Fact
told_at when owed step is_last = if is_due when step is_last then owed else []

abbrev pub left_at : When → List Fact → Step → Bool → List Fact
left_at when owed step is_last = if is_due when step is_last then [] else owed

-- what it sends
abbrev pub sent_at : List Send → Bool → List Send
sent_at owed is_last = if is_last then owed else []
