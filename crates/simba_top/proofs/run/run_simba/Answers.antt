use Rattle.std.proofs.Common.{◌≡◌, ◌∙◌, ℕ, List, [], Option, Some, None, refl, sym}
use Rattle.std.proofs.KnownBytes.{Appends-nil}
use Rattle.simba_top.specs.declared.output.Output.TheVariants.{Transcript}
use Rattle.simba_top.specs.Faults.{AnyRun}
use Rattle.simba_top.proofs.Grammars.{grammar}
use Rattle.simba_top.proofs.Statuses.{outcome_of, done, bad_line, limit_passed, read, write, memory, depot, complete, backed, nothing_yet}
use Rattle.simba_top.proofs.run.run_simba.Goals as goal

pub returns-in-Ok-Some-clause-done : goal.returns-in-Ok-Some-clause-done
returns-in-Ok-Some-clause-done g c = λ output is.
    let e = c.carry_out.ensures in
    rw c.status_of.ensures (done output _ _ _ _ _ _ _ _ _ _ _ c.carry_out.result
    (outcome_of _ c.in-Ok-Some.output output (sym c.in-Ok-Some.field-0-is ∙ c.in-Ok-Some.ensures.ok) is _ _ _ _ _ _ _ _ _ _ _ _
    (record { end = e.end; done = e.done; stopped = e.stopped; reads_counted = e.reads; puts_counted = e.puts; depots_counted = e.depots })))

pub returns-in-Ok-Some-clause-bad_line : goal.returns-in-Ok-Some-clause-bad_line
returns-in-Ok-Some-clause-bad_line g c = λ output is.
    let e = c.carry_out.ensures in
    rw c.status_of.ensures (bad_line output _ _ _ _ _ _ _ _ _ _ _ c.carry_out.result
    (outcome_of _ c.in-Ok-Some.output output (sym c.in-Ok-Some.field-0-is ∙ c.in-Ok-Some.ensures.ok) is _ _ _ _ _ _ _ _ _ _ _ _
    (record { end = e.end; done = e.done; stopped = e.stopped; reads_counted = e.reads; puts_counted = e.puts; depots_counted = e.depots })))

pub returns-in-Ok-Some-clause-limit : goal.returns-in-Ok-Some-clause-limit
returns-in-Ok-Some-clause-limit g c = λ output is.
    let e = c.carry_out.ensures in
    rw c.status_of.ensures (limit_passed output _ _ _ _ _ _ _ _ _ _ _ c.carry_out.result
    (outcome_of _ c.in-Ok-Some.output output (sym c.in-Ok-Some.field-0-is ∙ c.in-Ok-Some.ensures.ok) is _ _ _ _ _ _ _ _ _ _ _ _
    (record { end = e.end; done = e.done; stopped = e.stopped; reads_counted = e.reads; puts_counted = e.puts; depots_counted = e.depots })))

pub returns-in-Ok-Some-clause-read : goal.returns-in-Ok-Some-clause-read
returns-in-Ok-Some-clause-read g c = λ output is.
    let e = c.carry_out.ensures in
    rw c.status_of.ensures (read output _ _ _ _ _ _ _ _ _ _ _ c.carry_out.result
    (outcome_of _ c.in-Ok-Some.output output (sym c.in-Ok-Some.field-0-is ∙ c.in-Ok-Some.ensures.ok) is _ _ _ _ _ _ _ _ _ _ _ _
    (record { end = e.end; done = e.done; stopped = e.stopped; reads_counted = e.reads; puts_counted = e.puts; depots_counted = e.depots })))

pub returns-in-Ok-Some-clause-write : goal.returns-in-Ok-Some-clause-write
returns-in-Ok-Some-clause-write g c = λ output is.
    let e = c.carry_out.ensures in
    rw c.status_of.ensures (write output _ _ _ _ _ _ _ _ _ _ _ c.carry_out.result
    (outcome_of _ c.in-Ok-Some.output output (sym c.in-Ok-Some.field-0-is ∙ c.in-Ok-Some.ensures.ok) is _ _ _ _ _ _ _ _ _ _ _ _
    (record { end = e.end; done = e.done; stopped = e.stopped; reads_counted = e.reads; puts_counted = e.puts; depots_counted = e.depots })))

pub returns-in-Ok-Some-clause-memory : goal.returns-in-Ok-Some-clause-memory
returns-in-Ok-Some-clause-memory g c = λ output is.
    let e = c.carry_out.ensures in
    rw c.status_of.ensures (memory output _ _ _ _ _ _ _ _ _ _ _ c.carry_out.result
    (outcome_of _ c.in-Ok-Some.output output (sym c.in-Ok-Some.field-0-is ∙ c.in-Ok-Some.ensures.ok) is _ _ _ _ _ _ _ _ _ _ _ _
    (record { end = e.end; done = e.done; stopped = e.stopped; reads_counted = e.reads; puts_counted = e.puts; depots_counted = e.depots })))

pub returns-in-Ok-Some-clause-depot : goal.returns-in-Ok-Some-clause-depot
returns-in-Ok-Some-clause-depot g c = λ output is.
    let e = c.carry_out.ensures in
    rw c.status_of.ensures (depot output _ _ _ _ _ _ _ _ _ _ _ c.carry_out.result
    (outcome_of _ c.in-Ok-Some.output output (sym c.in-Ok-Some.field-0-is ∙ c.in-Ok-Some.ensures.ok) is _ _ _ _ _ _ _ _ _ _ _ _
    (record { end = e.end; done = e.done; stopped = e.stopped; reads_counted = e.reads; puts_counted = e.puts; depots_counted = e.depots })))

pub returns-in-Ok-Some-clause-complete : goal.returns-in-Ok-Some-clause-complete
returns-in-Ok-Some-clause-complete g c = λ output is.
    let e = c.carry_out.ensures in
    rw c.status_of.ensures (complete output _ _ _ _ _ _ _ _ _ _ _ grammar c.carry_out.result
    (outcome_of _ c.in-Ok-Some.output output (sym c.in-Ok-Some.field-0-is ∙ c.in-Ok-Some.ensures.ok) is _ _ _ _ _ _ _ _ _ _ _ _
    (record { end = e.end; done = e.done; stopped = e.stopped; reads_counted = e.reads; puts_counted = e.puts; depots_counted = e.depots })))

pub returns-in-Ok-Some-clause-back : goal.returns-in-Ok-Some-clause-back
returns-in-Ok-Some-clause-back g c = λ no.
    let e = c.carry_out.ensures in
    backed Transcript AnyRun None None None None 0 0 0 0 0 0 (g.P.Depot.state c.carry_out.new.depot).is_out c.carry_out.result e.back e.back_stopped (λ is. no (c.status_of.ensures ∙ is))

pub returns-in-Err-clause-memory : goal.returns-in-Err-clause-memory
returns-in-Err-clause-memory g c = λ output is six. nothing_yet output (g.S.Source.left c.args.source.now) (g.K.Sink.holds c.args.sink.now)
