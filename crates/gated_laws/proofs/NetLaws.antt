-- What every run with gateways keeps, as the run of wires that it is.
use Rattle.std.proofs.Common.{◌≡◌, ℕ, true, false, List, sym, ◌∙◌, ap}
use Rattle.step_tables.specs.Sayings.{Said}
use Rattle.world_tables.specs.Sound.{IsSound}
use Rattle.world_tables.specs.Quiet.{AreListed}
use Rattle.world_tables.specs.Turns.{Happening}
use Rattle.world_tables.specs.World.{hosted_at, client_at, is_resolving}
use Rattle.asked_laws.specs.Asked.{AreAsked}
use Rattle.asked_laws.specs.Phases.{is_away, has_phase}
use Rattle.wire_tables.specs.Wire.{Wire}
use Rattle.wire_tables.specs.Runs.{wire_turns}
use Rattle.wire_laws.specs.Runs.{AreBuilt}
use Rattle.wire_laws.proofs.WireRuns.{run_sound, run_listed, run_asked, run_phases, run_up}
use Rattle.wire_laws.proofs.Histories.{wire_history_told}
use Rattle.gated_tables.specs.Net.{start}
use Rattle.gated_tables.specs.Runs.{net_from, net_turns}
use Rattle.gated_laws.specs.Runs.{AreDeclaredFirst, TellsHistories, IsRunOfWires}
use Rattle.gated_laws.proofs.NetRuns.{run_of_wires}
use Rattle.gated_laws.proofs.CarriedTurns.{sound_carried}
use Rattle.gated_laws.proofs.CarriedLaws.{are_asked_carried, phases_too, heard_too, are_listed_too}

module _ (run : List Happening) (first : AreDeclaredFirst run) (built : AreBuilt run) where
  r : IsRunOfWires run
  r = run_of_wires run first built

  pub nets_sound : IsSound (net_turns run)
  nets_sound = sound_carried (net_turns run) (wire_turns r.whole) r.carried (run_sound r.whole r.built)

  pub nets_listed : AreListed (net_turns run)
  nets_listed = are_listed_too (net_turns run) (wire_turns r.whole) r.carried (run_listed r.whole r.built)

  pub nets_asked : AreAsked (net_turns run)
  nets_asked = are_asked_carried (net_turns run) (wire_turns r.whole) r.carried (run_asked r.whole r.built)

  pub nets_phases : (c t : ℕ) → is_resolving (net_from start run).wire.world c t ≡ has_phase (net_turns run) c t
  nets_phases c t = ap (λ (v : Wire). is_resolving v.world c t) r.wire ∙ (run_phases r.whole c t r.built ∙ sym (phases_too (net_turns run) (wire_turns r.whole) r.carried c t))

  pub nets_up : (c t : ℕ) → has_phase (net_turns run) c t ≡ true → is_away (client_at (net_from start run).wire.world c) ≡ false
  nets_up c t has =
      ap (λ (v : Wire). is_away (client_at v.world c)) r.wire ∙ run_up r.whole c t r.built (sym (phases_too (net_turns run) (wire_turns r.whole) r.carried c t) ∙ has)

  pub nets_told : TellsHistories run
  nets_told table hosted at =
      wire_history_told r.whole r.built table hosted (sym (ap (λ (v : Wire). hosted_at v.world table) r.wire) ∙ at)
      ∙ ap (λ (s : Said). s.history table) (sym (heard_too (net_turns run) (wire_turns r.whole) r.carried))
