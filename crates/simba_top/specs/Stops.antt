-- Why a run stops, by what a part of it answered, and the status that the program ends with.
use Rattle.std.specs.Prelude.{ℕ, ◌==◌, Result, Ok, Err, if◌then◌else◌}
use Rattle.stab_io.specs.declared.line_fault.LineFault.{LineFault}
use Rattle.stab_io.specs.declared.line_fault.LineFault.TheVariants as line_faults
use Rattle.script_text.specs.declared.fault.ScriptFault.{ScriptFault}
use Rattle.script_text.specs.declared.fault.ScriptFault.TheVariants as script_faults
use Rattle.node_steps.specs.declared.fault.WorldFault.{WorldFault}
use Rattle.node_steps.specs.declared.fault.WorldFault.TheVariants as world_faults
use Rattle.simba_top.specs.declared.stop.Stop.{Stop}
use Rattle.simba_top.specs.declared.stop.Stop.TheVariants.{Read, Put, Depot, Memory, BadLine, Limit, Sent}

abbrev pub of_line : LineFault → Stop
of_line line_faults.Read = Read
of_line (line_faults.LineLimit len) = Limit 3
of_line (line_faults.InputLimit len) = Limit 1
of_line line_faults.Memory = Memory

abbrev pub of_script : ScriptFault → Stop
of_script (script_faults.BadLine fault) = BadLine fault
of_script (script_faults.Limit limit) = Limit limit
of_script script_faults.Memory = Memory

abbrev pub of_world : WorldFault → Stop
of_world (world_faults.Limit code count) = if code == 10 then Sent else Limit code
of_world world_faults.Depot = Depot
of_world world_faults.Memory = Memory

abbrev pub status_of : {T : Type 0} → Result T Stop → ℕ
status_of (Ok done) = 0
status_of (Err Read) = 4
status_of (Err Put) = 5
status_of (Err Depot) = 8
status_of (Err Memory) = 6
status_of (Err (BadLine fault)) = 3
status_of (Err (Limit limit)) = 7
status_of (Err Sent) = 7
