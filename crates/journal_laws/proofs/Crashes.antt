-- What a crash inside a write leaves.
use Rattle.std.proofs.Common.{inl, inr, ◌⊎◌, ℕ, List, [], ◌∷◌, sym, subst}
use Rattle.held_value.specs.declared.local_name.LocalName.{LocalName}
use Rattle.client_journal.specs.Devs.{ClientDevs, Write, IsBeforeOrAfter, changed_by}
use Rattle.step_tables.specs.ClientMoves.{ClientDisk, ClientTask, changed}
use Rattle.journal_laws.specs.Holds.{Stands, Follows}

module _ (c : ℕ) (meaning : LocalName → List ℕ) where
  -- what follows stands now
  pub now : (d : ClientDevs) (ws : List Write) (disk : ClientDisk) (tasks : List ClientTask) → Follows c meaning d ws disk tasks → Stands c meaning d disk
  now d [] disk [] f = f
  now d [] disk (task ∷ tasks) f = absurd f
  now d (w ∷ ws) disk [] f = absurd f
  now d (w ∷ ws) disk (task ∷ tasks) f = f.0

  pub one_of_two : (d left : ClientDevs) (w : Write) (ws : List Write) (disk : ClientDisk) (task : ClientTask) (tasks : List ClientTask) → Follows c meaning d (w ∷ ws) disk (task ∷ tasks)
      → IsBeforeOrAfter d w left
      → Stands c meaning left disk ⊎ Stands c meaning left (changed disk task.change)
  one_of_two d left w ws disk task tasks f (inl same) = inl (subst (λ (x : ClientDevs). Stands c meaning x disk) (sym same) f.0)
  one_of_two d left w ws disk task tasks f (inr same) = inr
      (subst (λ (x : ClientDevs). Stands c meaning x (changed disk task.change)) (sym same) (now (changed_by d w) ws (changed disk task.change) tasks f.2))
