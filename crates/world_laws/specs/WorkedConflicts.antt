-- Worked scripts of conflicts, of the phases in which they are resolved, and of their resolving, with what they write.
use Rattle.std.specs.Prelude.{ℕ, true, List, [], ◌∷◌, ◌++◌, None}
use Rattle.stab_base.specs.declared.node.Node.TheVariants as nodes
use Rattle.row_value.specs.declared.content.Cell.TheVariants as cells
use Rattle.row_value.specs.declared.content.Content.{Content}
use Rattle.row_value.specs.declared.content.Content.TheVariants.{Gone, Row}
use Rattle.row_value.specs.declared.fit.FitFault.TheVariants as faults
use Rattle.row_value.specs.declared.schema.Scheme.TheVariants.{Causal}
use Rattle.row_edits.specs.declared.change.Edit.TheVariants as edits
use Rattle.conflicts.specs.declared.pair.Choice.{Choice}
use Rattle.conflicts.specs.declared.pair.Choice.TheVariants as choices
use Rattle.conflicts.specs.declared.stored.Stored.{Stored}
use Rattle.conflicts.specs.declared.stored.Stored.TheVariants as resolvers
use Rattle.table_model.specs.declared.event.Event.TheVariants as events
use Rattle.table_model.specs.declared.message_name.MessageName.TheVariants as names
use Rattle.step_tables.specs.Facts.{ClientFact, Line, AnswerLine, PairLine, FactLine}
use Rattle.step_tables.specs.Facts as facts
use Rattle.step_tables.specs.Messages as lucks
use Rattle.world_tables.specs.Turns.{Turn, Happening}
use Rattle.world_laws.specs.Worked.{notes, int, the_row, happens, turn, told, wrote_content, wrote, accepted, sent}
use Rattle.world_laws.specs.Worked.{the_store, causal_conflict, causal_conflict_written}
use Rattle.world_laws.specs.WorkedCrashes.{done_so}

abbrev pub refuses : facts.Refusal → List Line
refuses refusal = AnswerLine (facts.Refuses refusal) ∷ []

abbrev pub pair : List ℕ → ℕ → ℕ → Line
pair row number version = PairLine (record { row = row; number = number; version = version })

-- ---- a phase of a table, behind a causal conflict of the second client with version 1

abbrev pub in_a_phase : List Happening
in_a_phase =
    causal_conflict
    ++ happens (events.Resolve 2 1 the_row 1 choices.Mine)
    ∷ happens (events.Conflicts 2 1)
    ∷ happens (events.EndCr 2 1)
    ∷ happens (events.BeginCr 2 1)
    ∷ happens (events.Write 1 1 the_row (int 8))
    ∷ happens (events.Sync 1 1)
    ∷ happens (events.Deliver 6)
    ∷ happens (events.Pull 2 1)
    ∷ happens (events.Deliver 8)
    ∷ happens (events.Deliver 9)
    ∷ happens (events.BeginCr 2 1)
    ∷ happens (events.Write 2 1 the_row (int 7))
    ∷ happens (events.Edit 2 1 the_row edits.Delete)
    ∷ happens (events.Resolve 2 1 the_row 1 choices.Mine)
    ∷ happens (events.Conflicts 2 1)
    ∷ happens (events.Resolve 2 1 the_row 2 (choices.New (int 9)))
    ∷ happens (events.Resolve 2 1 the_row 2 choices.Mine)
    ∷ happens (events.Conflicts 2 1)
    ∷ happens (events.EndCr 2 1)
    ∷ happens (events.Sync 2 1)
    ∷ happens (events.Deliver 10)
    ∷ []

-- Before the phase nothing is resolved or listed, and inside it nothing is written, and none begins. The conflict moves
-- on to version 2: a resolving beside version 1 is refused, and so is a second one beside version 2.
abbrev pub in_a_phase_written : List Turn
in_a_phase_written =
    causal_conflict_written
    ++ turn (events.Resolve 2 1 the_row 1 choices.Mine) (refuses facts.NotInResolution)
    ∷ turn (events.Conflicts 2 1) (refuses facts.NotInResolution)
    ∷ turn (events.EndCr 2 1) (refuses facts.NotInResolution)
    ∷ turn (events.BeginCr 2 1) (AnswerLine facts.Done ∷ [])
    ∷ turn (events.Write 1 1 the_row (int 8)) (AnswerLine (facts.Number 2) ∷ told (wrote 1 2 1 8) ∷ [])
    ∷ turn (events.Sync 1 1) (AnswerLine (facts.Number 1) ∷ sent 6 (nodes.Client 1) the_store names.SyncRequest ∷ [])
    ∷ turn (events.Deliver 6) (AnswerLine facts.Done ∷ accepted 2 1 2 1
    ∷ sent 7 the_store (nodes.Client 1) names.SyncResponse ∷ [])
    ∷ turn (events.Pull 2 1) (AnswerLine facts.Done ∷ sent 8 (nodes.Client 2) the_store names.PullRequest ∷ [])
    ∷ turn (events.Deliver 8) (AnswerLine facts.Done ∷ sent 9 the_store (nodes.Client 2) names.PullResponse ∷ [])
    ∷ turn (events.Deliver 9) (AnswerLine facts.Done ∷ told (facts.Conflict 2 1 1 the_row 2)
    ∷ told (facts.Position 2 1 2) ∷ [])
    ∷ turn (events.BeginCr 2 1) (refuses facts.InResolution)
    ∷ turn (events.Write 2 1 the_row (int 7)) (refuses facts.InResolution)
    ∷ turn (events.Edit 2 1 the_row edits.Delete) (refuses facts.InResolution)
    ∷ turn (events.Resolve 2 1 the_row 1 choices.Mine) (refuses (facts.Moved 1 2))
    ∷ turn (events.Conflicts 2 1) (AnswerLine (facts.Number 1) ∷ pair the_row 1 2 ∷ [])
    ∷ turn (events.Resolve 2 1 the_row 2 (choices.New (int 9))) (AnswerLine (facts.Number 2)
    ∷ told (facts.Resolved 2 1 1 the_row 2) ∷ told (wrote 2 2 2 9) ∷ [])
    ∷ turn (events.Resolve 2 1 the_row 2 choices.Mine) (refuses facts.NoConflict)
    ∷ turn (events.Conflicts 2 1) (AnswerLine (facts.Number 0) ∷ [])
    ∷ turn (events.EndCr 2 1) (AnswerLine facts.Done ∷ [])
    ∷ turn (events.Sync 2 1) (AnswerLine (facts.Number 1) ∷ sent 10 (nodes.Client 2) the_store names.SyncRequest ∷ [])
    ∷ turn (events.Deliver 10) (AnswerLine facts.Done ∷ accepted 3 2 2 2
    ∷ sent 11 the_store (nodes.Client 2) names.SyncResponse ∷ [])
    ∷ []

-- ---- what is refused before a phase is looked at, and what ends a phase

-- a content that doesn't fit the table
abbrev pub misfit : Content
misfit = Row (cells.Bool true ∷ []) []

abbrev pub refused_first : List Happening
refused_first =
    causal_conflict
    ++ happens (events.BeginCr 2 2)
    ∷ happens (events.Resolve 2 2 the_row 1 choices.Mine)
    ∷ happens (events.ResolveAll 2 1 (resolvers.Larger 1))
    ∷ happens (events.ResolveAll 2 1 resolvers.Mine)
    ∷ happens (events.BeginCr 2 1)
    ∷ happens (events.Write 2 1 the_row misfit)
    ∷ happens (events.Resolve 2 1 the_row 1 (choices.New misfit))
    ∷ happens (events.ResolveAll 2 1 (resolvers.Larger 1))
    ∷ happens (events.Crash (nodes.Client 2) 0 0)
    ∷ happens (events.Conflicts 2 1)
    ∷ happens (events.Start (nodes.Client 2))
    ∷ happens (events.Conflicts 2 1)
    ∷ happens (events.BeginCr 2 1)
    ∷ happens (events.Conflicts 2 1)
    ∷ []

-- What a content or a table is refused for is refused so in a phase and out of one. A crash ends the client's phase and
-- leaves the conflict.
abbrev pub refused_first_written : List Turn
refused_first_written =
    causal_conflict_written
    ++ turn (events.BeginCr 2 2) (refuses facts.NoTable)
    ∷ turn (events.Resolve 2 2 the_row 1 choices.Mine) (refuses facts.NoTable)
    ∷ turn (events.ResolveAll 2 1 (resolvers.Larger 1)) (refuses (facts.Unfit (faults.BadCell 1)))
    ∷ turn (events.ResolveAll 2 1 resolvers.Mine) (refuses facts.NotInResolution)
    ∷ turn (events.BeginCr 2 1) (AnswerLine facts.Done ∷ [])
    ∷ turn (events.Write 2 1 the_row misfit) (refuses (facts.Unfit (faults.BadCell 0)))
    ∷ turn (events.Resolve 2 1 the_row 1 (choices.New misfit)) (refuses (facts.Unfit (faults.BadCell 0)))
    ∷ turn (events.ResolveAll 2 1 (resolvers.Larger 1)) (refuses (facts.Unfit (faults.BadCell 1)))
    ∷ turn (events.Crash (nodes.Client 2) 0 0) (AnswerLine facts.Done ∷ [])
    ∷ turn (events.Conflicts 2 1) (refuses (facts.NodeDown (nodes.Client 2)))
    ∷ turn (events.Start (nodes.Client 2)) (AnswerLine facts.Done ∷ FactLine (facts.ClientRecovered 2) ∷ [])
    ∷ turn (events.Conflicts 2 1) (refuses facts.NotInResolution)
    ∷ turn (events.BeginCr 2 1) (AnswerLine facts.Done ∷ [])
    ∷ turn (events.Conflicts 2 1) (AnswerLine (facts.Number 1) ∷ pair the_row 1 1 ∷ [])
    ∷ []

-- ---- a write against a row that the Store deleted

abbrev pub against_a_delete : Choice → List Happening
against_a_delete choice =
    happens (events.Store 1)
    ∷ happens (events.Table 1 (notes Causal))
    ∷ happens (events.Client 1 None (1 ∷ []))
    ∷ happens (events.Client 2 None (1 ∷ []))
    ∷ happens (events.Write 1 1 the_row (int 5))
    ∷ happens (events.Sync 1 1)
    ∷ happens (events.Deliver 0)
    ∷ happens (events.Deliver 1)
    ∷ happens (events.Pull 2 1)
    ∷ happens (events.Deliver 2)
    ∷ happens (events.Deliver 3)
    ∷ happens (events.Edit 1 1 the_row edits.Delete)
    ∷ happens (events.Sync 1 1)
    ∷ happens (events.Deliver 4)
    ∷ happens (events.Write 2 1 the_row (int 6))
    ∷ happens (events.Pull 2 1)
    ∷ happens (events.Deliver 6)
    ∷ happens (events.Deliver 7)
    ∷ happens (events.BeginCr 2 1)
    ∷ happens (events.Resolve 2 1 the_row 2 choice)
    ∷ happens (events.Show 2 1 the_row)
    ∷ happens (events.EndCr 2 1)
    ∷ happens (events.Edit 2 1 the_row edits.Delete)
    ∷ []

-- what that writes, by the answer to the resolving with the writes that it tells, what is shown behind it, and what the
-- delete writes
abbrev pub against_a_delete_written : Choice → ℕ → List Line → facts.Shown → List Line → List Turn
against_a_delete_written choice number written shown deleted =
    turn (events.Store 1) []
    ∷ turn (events.Table 1 (notes Causal)) []
    ∷ turn (events.Client 1 None (1 ∷ [])) []
    ∷ turn (events.Client 2 None (1 ∷ [])) []
    ∷ turn (events.Write 1 1 the_row (int 5)) (AnswerLine (facts.Number 1) ∷ told (wrote 1 1 0 5) ∷ [])
    ∷ turn (events.Sync 1 1) (AnswerLine (facts.Number 1) ∷ sent 0 (nodes.Client 1) the_store names.SyncRequest ∷ [])
    ∷ turn (events.Deliver 0) (AnswerLine facts.Done ∷ accepted 1 1 1 0
    ∷ sent 1 the_store (nodes.Client 1) names.SyncResponse ∷ [])
    ∷ turn (events.Deliver 1) (AnswerLine facts.Done ∷ told (facts.Acked 1 1 1 the_row 1) ∷ [])
    ∷ turn (events.Pull 2 1) (AnswerLine facts.Done ∷ sent 2 (nodes.Client 2) the_store names.PullRequest ∷ [])
    ∷ turn (events.Deliver 2) (AnswerLine facts.Done ∷ sent 3 the_store (nodes.Client 2) names.PullResponse ∷ [])
    ∷ turn (events.Deliver 3) (AnswerLine facts.Done ∷ told (facts.New 2 1 the_row 1) ∷ told (facts.Position 2 1 1)
    ∷ [])
    ∷ turn (events.Edit 1 1 the_row edits.Delete) (AnswerLine (facts.Number 2) ∷ told (wrote_content 1 2 1 Gone) ∷ [])
    ∷ turn (events.Sync 1 1) (AnswerLine (facts.Number 1) ∷ sent 4 (nodes.Client 1) the_store names.SyncRequest ∷ [])
    ∷ turn (events.Deliver 4) (AnswerLine facts.Done ∷ accepted 2 1 2 1
    ∷ sent 5 the_store (nodes.Client 1) names.SyncResponse ∷ [])
    ∷ turn (events.Write 2 1 the_row (int 6)) (AnswerLine (facts.Number 1) ∷ told (wrote 2 1 1 6) ∷ [])
    ∷ turn (events.Pull 2 1) (AnswerLine facts.Done ∷ sent 6 (nodes.Client 2) the_store names.PullRequest ∷ [])
    ∷ turn (events.Deliver 6) (AnswerLine facts.Done ∷ sent 7 the_store (nodes.Client 2) names.PullResponse ∷ [])
    ∷ turn (events.Deliver 7) (AnswerLine facts.Done ∷ told (facts.Conflict 2 1 1 the_row 2)
    ∷ told (facts.Position 2 1 2) ∷ [])
    ∷ turn (events.BeginCr 2 1) (AnswerLine facts.Done ∷ [])
    ∷ turn (events.Resolve 2 1 the_row 2 choice) (AnswerLine (facts.Number number)
    ∷ told (facts.Resolved 2 1 1 the_row 2) ∷ written)
    ∷ turn (events.Show 2 1 the_row) (AnswerLine (facts.Shows shown) ∷ [])
    ∷ turn (events.EndCr 2 1) (AnswerLine facts.Done ∷ [])
    ∷ turn (events.Edit 2 1 the_row edits.Delete) deleted
    ∷ []

-- ---- all conflicts of a table

abbrev pub all_resolved : Stored → List Happening
all_resolved by =
    causal_conflict
    ++ happens (events.BeginCr 2 1)
    ∷ happens (events.ResolveAll 2 1 by)
    ∷ happens (events.Conflicts 2 1)
    ∷ happens (events.Show 2 1 the_row)
    ∷ []

abbrev pub all_resolved_written : Stored → List Line → facts.Shown → List Turn
all_resolved_written by written shown =
    causal_conflict_written
    ++ turn (events.BeginCr 2 1) (AnswerLine facts.Done ∷ [])
    ∷ turn (events.ResolveAll 2 1 by) (AnswerLine (facts.Number 1) ∷ told (facts.Resolved 2 1 1 the_row 1) ∷ written)
    ∷ turn (events.Conflicts 2 1) (AnswerLine (facts.Number 0) ∷ [])
    ∷ turn (events.Show 2 1 the_row) (AnswerLine (facts.Shows shown) ∷ [])
    ∷ []

-- ---- two rows in conflict, and a device that fails between them

abbrev pub next_row : List ℕ
next_row = 0 ∷ 0 ∷ 0 ∷ 0 ∷ 0 ∷ 0 ∷ 64 ∷ 0 ∷ 128 ∷ 0 ∷ 0 ∷ 0 ∷ 0 ∷ 0 ∷ 0 ∷ 2 ∷ []

abbrev pub wrote_next : ℕ → ℕ → ℕ → ClientFact
wrote_next client number n =
    facts.Wrote (record {
      client = client;
      number = number;
      table = 1;
      row = next_row;
      read = 0;
      content = int n;
    })

abbrev pub two_conflicts : List Happening
two_conflicts =
    happens (events.Store 1)
    ∷ happens (events.Table 1 (notes Causal))
    ∷ happens (events.Client 1 None (1 ∷ []))
    ∷ happens (events.Client 2 None (1 ∷ []))
    ∷ happens (events.Write 1 1 the_row (int 5))
    ∷ happens (events.Write 1 1 next_row (int 5))
    ∷ happens (events.Write 2 1 next_row (int 4))
    ∷ happens (events.Write 2 1 the_row (int 6))
    ∷ happens (events.Sync 1 1)
    ∷ happens (events.Deliver 0)
    ∷ happens (events.Sync 1 1)
    ∷ happens (events.Deliver 3)
    ∷ happens (events.Pull 2 1)
    ∷ happens (events.Deliver 5)
    ∷ happens (events.Deliver 6)
    ∷ happens (events.Deliver 7)
    ∷ happens (events.Deliver 8)
    ∷ happens (events.BeginCr 2 1)
    ∷ happens (events.Conflicts 2 1)
    ∷ []

-- the rows in conflict are listed by rising row, whichever was written first
abbrev pub two_conflicts_written : List Turn
two_conflicts_written =
    turn (events.Store 1) []
    ∷ turn (events.Table 1 (notes Causal)) []
    ∷ turn (events.Client 1 None (1 ∷ [])) []
    ∷ turn (events.Client 2 None (1 ∷ [])) []
    ∷ turn (events.Write 1 1 the_row (int 5)) (AnswerLine (facts.Number 1) ∷ told (wrote 1 1 0 5) ∷ [])
    ∷ turn (events.Write 1 1 next_row (int 5)) (AnswerLine (facts.Number 2) ∷ told (wrote_next 1 2 5) ∷ [])
    ∷ turn (events.Write 2 1 next_row (int 4)) (AnswerLine (facts.Number 1) ∷ told (wrote_next 2 1 4) ∷ [])
    ∷ turn (events.Write 2 1 the_row (int 6)) (AnswerLine (facts.Number 2) ∷ told (wrote 2 2 0 6) ∷ [])
    ∷ turn (events.Sync 1 1) (AnswerLine (facts.Number 1) ∷ sent 0 (nodes.Client 1) the_store names.SyncRequest ∷ [])
    ∷ turn (events.Deliver 0) (AnswerLine facts.Done ∷ accepted 1 1 1 0
    ∷ sent 1 the_store (nodes.Client 1) names.SyncResponse ∷ [])
    ∷ turn (events.Sync 1 1) (AnswerLine (facts.Number 2)
    ∷ sent 2 (nodes.Client 1) the_store names.SyncRequest
    ∷ sent 3 (nodes.Client 1) the_store names.SyncRequest ∷ [])
    ∷ turn (events.Deliver 3) (AnswerLine facts.Done
    ∷ FactLine (facts.Accepted 1 (record { row = next_row; version = 2; client = 1; number = 2; base = 0 }))
    ∷ sent 4 the_store (nodes.Client 1) names.SyncResponse ∷ [])
    ∷ turn (events.Pull 2 1) (AnswerLine facts.Done ∷ sent 5 (nodes.Client 2) the_store names.PullRequest ∷ [])
    ∷ turn (events.Deliver 5) (AnswerLine facts.Done ∷ sent 6 the_store (nodes.Client 2) names.PullResponse ∷ [])
    ∷ turn (events.Deliver 6) (AnswerLine facts.Done ∷ told (facts.Conflict 2 2 1 the_row 1)
    ∷ told (facts.Position 2 1 1) ∷ sent 7 (nodes.Client 2) the_store names.PullRequest ∷ [])
    ∷ turn (events.Deliver 7) (AnswerLine facts.Done ∷ sent 8 the_store (nodes.Client 2) names.PullResponse ∷ [])
    ∷ turn (events.Deliver 8) (AnswerLine facts.Done ∷ told (facts.Conflict 2 1 1 next_row 2)
    ∷ told (facts.Position 2 1 2) ∷ [])
    ∷ turn (events.BeginCr 2 1) (AnswerLine facts.Done ∷ [])
    ∷ turn (events.Conflicts 2 1) (AnswerLine (facts.Number 2) ∷ pair the_row 2 1 ∷ pair next_row 1 2 ∷ [])
    ∷ []

abbrev pub both_resolved : List Happening
both_resolved =
    two_conflicts
    ++ happens (events.ResolveAll 2 1 (resolvers.Larger 0))
    ∷ happens (events.Show 2 1 the_row)
    ∷ happens (events.Show 2 1 next_row)
    ∷ []

-- each row goes its own way: the client's number is greater in the first, and the Store's in the second
abbrev pub both_resolved_written : List Turn
both_resolved_written =
    two_conflicts_written
    ++ turn (events.ResolveAll 2 1 (resolvers.Larger 0)) (AnswerLine (facts.Number 2)
    ∷ told (facts.Resolved 2 2 1 the_row 1) ∷ told (wrote 2 3 1 6) ∷ told (facts.Resolved 2 1 1 next_row 2) ∷ [])
    ∷ turn (events.Show 2 1 the_row) (AnswerLine (facts.Shows (facts.Mine 3 (int 6))) ∷ [])
    ∷ turn (events.Show 2 1 next_row) (AnswerLine (facts.Shows (facts.Clean 2 (int 5))) ∷ [])
    ∷ []

-- the second row's slots can't be read: the call's own read, the first row's, and its three writes go well
abbrev pub one_resolved : List Happening
one_resolved =
    two_conflicts
    ++ done_so (lucks.Done ∷ lucks.Done ∷ lucks.Done ∷ lucks.Done ∷ lucks.Done ∷ lucks.FailedBefore ∷ [])
    (events.ResolveAll 2 1 (resolvers.Larger 0))
    ∷ happens (events.Start (nodes.Client 2))
    ∷ happens (events.BeginCr 2 1)
    ∷ happens (events.Conflicts 2 1)
    ∷ happens (events.Show 2 1 the_row)
    ∷ happens (events.Show 2 1 next_row)
    ∷ []

-- the first row is resolved, and the second as it was
abbrev pub one_resolved_written : List Turn
one_resolved_written =
    two_conflicts_written
    ++ turn (events.ResolveAll 2 1 (resolvers.Larger 0)) (AnswerLine (facts.Refuses facts.NoDevice)
    ∷ told (facts.Resolved 2 2 1 the_row 1) ∷ told (wrote 2 3 1 6) ∷ [])
    ∷ turn (events.Start (nodes.Client 2)) (AnswerLine facts.Done ∷ FactLine (facts.ClientRecovered 2) ∷ [])
    ∷ turn (events.BeginCr 2 1) (AnswerLine facts.Done ∷ [])
    ∷ turn (events.Conflicts 2 1) (AnswerLine (facts.Number 1) ∷ pair next_row 1 2 ∷ [])
    ∷ turn (events.Show 2 1 the_row) (AnswerLine (facts.Shows (facts.Mine 3 (int 6))) ∷ [])
    ∷ turn (events.Show 2 1 next_row) (AnswerLine (facts.Shows (facts.Contended 1 2 (int 4))) ∷ [])
    ∷ []
