-- Every move of a client keeps what it has begun, where it was asked to resolve.
use Rattle.std.proofs.Common.{◌≡◌, ℕ, true, List, [], sym, subst, inl, inr}
use Rattle.step_tables.specs.Facts.{Answer}
use Rattle.step_tables.specs.Messages.{Send}
use Rattle.step_tables.specs.ClientMoves as client
use Rattle.step_tables.specs.ClientMoves.{Plan, ClientDisk, ClientTask, Client, ClientMove, ClientStep, Shape, client_step}
use Rattle.asked_laws.specs.Asked.{Asked, lets_resolve}
use Rattle.asked_laws.proofs.Fine.{AreCalm, HasOnePlan, IsFinePlan, IsFineKept, IsFine}
use Rattle.asked_laws.proofs.Plans.{planning_one, KeepsFine, plainly, crashed_fine, worked_fine, started_fine}
use Rattle.asked_laws.proofs.Begins.{has_none, Begins, write_fine, edit_fine, show_fine, sum_fine, sync_fine, next_fine, take_fine, resolve_fine, phase_fine, conflicts_fine, all_fine, alter_fine}

-- a row that a move resolves, with this answer, was asked for
abbrev pub WasAsked : Asked → ℕ → ClientMove → Answer → Type 0
WasAsked a c (client.Resolve table row seen choice) answer = lets_resolve answer ≡ true → a c table row ≡ true
WasAsked a c other answer = Unit {0}

module _ (a : Asked) (c : ℕ) (shape : Shape) (s : Client) (fine : IsFine a c s) where
  abbrev Q : List ClientTask → Type 0
  Q tasks = HasOnePlan (IsFinePlan a c) tasks

  calm : (p : Plan) (sends : List Send) → AreCalm c p.facts → Q (client.planning shape p sends)
  calm p sends f = planning_one (IsFinePlan a c) shape p sends (inr f)

  begun_keeps : (x : ClientStep) → Begins Q s.disk (has_none s.agenda) x → KeepsFine a c x
  begun_keeps x b = plainly a c x b.0 (record { plan = subst (λ (d : ClientDisk). IsFineKept a c d.plan) (sym b.1) fine.plan; tasks = b.4 })

  pub move_keeps : (move : ClientMove) → WasAsked a c move (client_step c shape s move).answer → KeepsFine a c (client_step c shape s move)
  move_keeps (client.Write table row x) was = begun_keeps _ (write_fine c shape Q tt calm s.disk s.agenda fine.tasks table row x)
  move_keeps (client.Change table row x) was = begun_keeps _ (edit_fine c shape Q tt calm s.disk s.agenda fine.tasks table row x)
  move_keeps (client.Show table row) was = begun_keeps _ (show_fine c shape Q tt calm s.disk s.agenda fine.tasks table row)
  move_keeps (client.Sum table row) was = begun_keeps _ (sum_fine c shape Q tt calm s.disk s.agenda fine.tasks table row)
  move_keeps (client.Sync table) was = begun_keeps _ (sync_fine c shape Q tt calm s.disk s.agenda fine.tasks table)
  move_keeps (client.Next table tears asks) was = begun_keeps _ (next_fine c shape Q tt calm s.disk s.agenda fine.tasks table tears asks)
  move_keeps (client.BeginCr table) was = begun_keeps _ (phase_fine shape Q tt s.disk s.agenda fine.tasks table)
  move_keeps (client.Conflicts table) was = begun_keeps _ (conflicts_fine shape Q tt s.disk s.agenda fine.tasks table)
  move_keeps (client.EndCr table) was = begun_keeps _ (phase_fine shape Q tt s.disk s.agenda fine.tasks table)
  move_keeps (client.Resolve table row seen choice) was =
      begun_keeps _ (resolve_fine a c shape Q tt (λ p f. planning_one (IsFinePlan a c) shape p [] (inl f)) s.disk table row s.agenda fine.tasks seen choice was)
  move_keeps (client.ResolveAll table by) was = begun_keeps _ (all_fine shape Q tt s.disk s.agenda fine.tasks table by)
  move_keeps (client.Alter table change) was = begun_keeps _ (alter_fine c shape Q tt calm s.disk s.agenda fine.tasks table change)
  move_keeps (client.Take m) was = begun_keeps _ (take_fine c shape Q tt calm s.disk s.agenda fine.tasks m)
  move_keeps (client.Work luck) was = worked_fine a c s.disk fine.plan s.agenda luck fine.tasks
  move_keeps (client.Crash luck) was = crashed_fine a c s.disk fine.plan s.agenda luck fine.tasks
  move_keeps client.Start was = started_fine a c s.disk fine.plan shape s.agenda fine.tasks
