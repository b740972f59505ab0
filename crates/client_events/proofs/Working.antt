-- The work that follows a move, and what it makes of the move's answer.
use Rattle.std.proofs.Common.{◌≡◌, ℕ, length, Bool, true, false, List, [], ◌∷◌, Some, Ok, Err, refl, sym, append-nil}
use Rattle.std.specs.Prelude.{if◌then◌else◌}
use Rattle.std.specs.BTreeMap as tree
use Rattle.disk_trait.specs.Calls.{DiskState}
use Rattle.stab_base.specs.declared.node.Node.TheVariants as nodes
use Rattle.table_model.specs.declared.line.Answer.{Answer}
use Rattle.table_model.specs.declared.line.Answer.TheVariants as answers
use Rattle.step_tables.specs.Facts as facts
use Rattle.step_tables.specs.Lines.{answer_of}
use Rattle.step_tables.specs.Messages.{Luck}
use Rattle.step_tables.specs.ClientMoves.{ClientTask}
use Rattle.client_node.specs.declared.node.ClientNode.{ClientNode}
use Rattle.world_tables.specs.World.{World, owner_of, client_at, client_tasks, client_works, client_until_idle, all_worked}
use Rattle.journal_host.specs.declared.fault.ClientFault.{ClientFault}
use Rattle.journal_host.specs.declared.host.ClientHost.{ClientHost}
use Rattle.journal_host.specs.Calls.{IsCalled, HasCause}
use Rattle.journal_host.specs.Holds.{HoldsClients, outs_of}
use Rattle.journal_host.specs.Steps.{IsDeviceFault}
use Rattle.journal_host.specs.Moves.{has_work}
use Rattle.client_events.specs.Follow.{IsFollowed, HasWorkCause, behind}

pub some_same : (a b : facts.Answer) → Some a ≡ Some b → a ≡ b
some_same a b is = cc

-- ---- the answer

-- what the work answers tells whether a disk failed in it
answers_behind : (answer : Answer) (n : ℕ) (failed : Bool) (given : Answer) → (if failed then facts.Refuses facts.NoDevice else facts.Number n) ≡ answer_of given
    → answer_of (behind answer given) ≡ (if failed then facts.Refuses facts.NoDevice else answer_of answer)
answers_behind answer n true answers.Done is = absurd cc
answers_behind answer n true (answers.Number m) is = absurd cc
answers_behind answer n true (answers.Shown what) is = absurd cc
answers_behind answer n true (answers.Sums sum) is = absurd cc
answers_behind answer n true (answers.Stored version content) is = absurd cc
answers_behind answer n true (answers.Did step) is = absurd cc
answers_behind answer n true (answers.Names names) is = absurd cc
answers_behind answer n true (answers.Refused refusal) is = sym is
answers_behind answer n false answers.Done is = refl
answers_behind answer n false (answers.Number m) is = refl
answers_behind answer n false (answers.Shown what) is = refl
answers_behind answer n false (answers.Sums sum) is = refl
answers_behind answer n false (answers.Stored version content) is = refl
answers_behind answer n false (answers.Did step) is = refl
answers_behind answer n false (answers.Names names) is = refl
answers_behind answer n false (answers.Refused refusal) is = absurd cc

module _ {D : Type 0} (state : D → DiskState) (w : World) (old new : ClientHost D) (c : ℕ) (answer : Answer) where
  pub followed : (given : Answer) → (lucks : List Luck) × IsCalled state old new (all_worked w lucks (nodes.Client c)) given
      → (lucks : List Luck) × IsFollowed state old new (client_until_idle c lucks w) answer (behind answer given)
  followed given k = (
    k.0,
    record {
      moved = record { held = k.1.held; outs = k.1.outs };
      answer_is = answers_behind answer (length (client_tasks (client_at w c))) (client_until_idle c k.0 w).failed given (some_same _ _ k.1.answer_is);
    },
  )

-- where there is nothing to do nothing is given
pub none_to_do : {D : Type 0} (state : D → DiskState) (w : World) (host : ClientHost D) (c : ℕ) (answer : Answer) → HoldsClients state w host
    → has_work (client_tasks (client_at w c)) ≡ false → (lucks : List Luck) × IsFollowed state host host (client_until_idle c lucks w) answer answer
none_to_do state w host c answer h idle = ([], by (client_tasks (client_at w c)) idle)
  where
    by : (tasks : List ClientTask) → has_work tasks ≡ false → IsFollowed state host host (client_works c tasks [] w) answer answer
    by [] is = record { moved = record { held = h; outs = sym (append-nil (outs_of (owner_of w) host)) }; answer_is = refl }
    by (task ∷ more) is = absurd cc

-- ---- which disks failed

module _ {D : Type 0} (state : D → DiskState) (c : ℕ) (old new : tree.BTreeMap ℕ (ClientNode D)) (answer : Answer) where
  other_cause : (given : Answer) → (IsDeviceFault (Ok given) → ⊥) → HasCause state c old new (Ok given) → HasWorkCause state c old new answer (Ok answer)
  other_cause given other k = record { counted = λ isnt. k.counted other; cause = λ fault isnt. absurd (isnt fault) }

  pub work_cause : (given : Answer) → HasCause state c old new (Ok given) → HasWorkCause state c old new answer (Ok (behind answer given))
  work_cause answers.Done k = other_cause answers.Done (λ bad. absurd cc) k
  work_cause (answers.Number m) k = other_cause (answers.Number m) (λ bad. absurd cc) k
  work_cause (answers.Shown what) k = other_cause (answers.Shown what) (λ bad. absurd cc) k
  work_cause (answers.Sums sum) k = other_cause (answers.Sums sum) (λ bad. absurd cc) k
  work_cause (answers.Stored version content) k = other_cause (answers.Stored version content) (λ bad. absurd cc) k
  work_cause (answers.Did step) k = other_cause (answers.Did step) (λ bad. absurd cc) k
  work_cause (answers.Names names) k = other_cause (answers.Names names) (λ bad. absurd cc) k
  work_cause (answers.Refused refusal) k = record { counted = k.counted; cause = λ fault isnt. k.cause fault }

  pub no_answer_cause : (e : ClientFault) → HasCause state c old new (Err e) → HasWorkCause state c old new answer (Err e)
  no_answer_cause e k = record { counted = k.counted; cause = λ fault isnt. k.cause fault }

pub no_work_cause : {D : Type 0} (state : D → DiskState) (c : ℕ) (clients : tree.BTreeMap ℕ (ClientNode D)) (answer : Answer) → HasWorkCause state c clients clients answer (Ok answer)
no_work_cause state c clients answer = record { counted = λ isnt q. refl; cause = λ fault isnt. absurd (isnt fault) }
