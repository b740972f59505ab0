use Rattle.std.proofs.Common.{[], sym, ap, arith}
use Rattle.std.specs.Prelude.{option_map}
use Rattle.std.specs.Ordering.{nat_cmp}
use Rattle.std.specs.Map.{lookup}
use Rattle.std.specs.BTreeMap.{is_at}
use Rattle.net_steps.specs.Askers.{asker_of}
use Rattle.net_steps.specs.Devices.{device_of}
use Rattle.net_steps.proofs.world.World.new.Goals as goal

pub returns-clause-held : goal.returns-clause-held
returns-clause-held g c = record {
  wire = c.new.ensures.held;
  gates = record { declared = c.new-2.ensures.declared; there = c.new-2.ensures.there };
  devices = λ k. sym (ap (λ entries. option_map device_of (lookup (is_at (nat_cmp k)) entries)) c.new-3.ensures.empty);
  sent = c.new-5.ensures [];
  short = tt;
  bytes = omega arith;
  numbered = λ k d e. absurd cc;
  askers = λ k. sym (ap (λ entries. option_map asker_of (lookup (is_at (nat_cmp k)) entries)) c.new-4.ensures.empty);
  asked = record { each = λ k a e. absurd cc; framed = λ k s e. absurd cc };
}
