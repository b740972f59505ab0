-- A run with one event more is sound.
use Rattle.std.proofs.Common.{ℕ, Bool, List, [], ◌∷◌, ◌++◌, refl}
use Rattle.std.specs.Prelude.{Result, Ok, Err, IfOk}
use Rattle.disk_trait.specs.Calls.{DiskState}
use Rattle.table_model.specs.declared.event.Event.{Event}
use Rattle.table_model.specs.declared.line.TextLine.{TextLine}
use Rattle.world_tables.specs.Turns.{Happening}
use Rattle.fair_laws.specs.Reached.{IsBuilt}
use Rattle.wire_tables.specs.Wire.{start}
use Rattle.wire_tables.specs.Runs.{wire_from}
use Rattle.wire_laws.specs.Runs.{AreBuilt}
use Rattle.wire_laws.proofs.WireRuns.{run_sound}
use Rattle.node_steps.specs.declared.fault.WorldFault.{WorldFault}
use Rattle.wire_steps.specs.declared.world.World.{World}
use Rattle.wire_steps.specs.Reached.{IsReached}
use Rattle.wire_steps.specs.Sounds.{GoesOnSound}
use Rattle.wire_steps.specs.Steps.{IsStep}

pub reached_by : (run : List Happening) → AreBuilt run → IsReached (wire_from start run)
reached_by run built = record { run = run; built = built; is = refl }

built_on : (run : List Happening) (h : Happening) → AreBuilt run → IsBuilt h.event → AreBuilt (run ++ h ∷ [])
built_on [] h built is = (is, tt)
built_on (first ∷ run) h built is = (built.0, built_on run h built.1 is)

pub goes_on_sound : {D : Type 0} (state : D → DiskState) (images : D → ℕ → List ℕ → Type 0) (run : List Happening) (event : Event)
    → AreBuilt run → IsBuilt event → (is_out : ℕ → Bool) (old new : World D) (result : Result (List TextLine) WorldFault)
    → IfOk result (λ lines. IsStep state images (wire_from start run) event lines is_out old new) → IfOk result (λ lines. GoesOnSound run event lines)
goes_on_sound state images run event built is is_out old new (Ok lines) step = record {
  lucks = step.lucks;
  lines_are = step.lines_are;
  sound = run_sound (run ++ record { event = event; lucks = step.lucks } ∷ []) (built_on run (record { event = event; lucks = step.lucks }) built is);
}
goes_on_sound state images run event built is is_out old new (Err e) step = tt
