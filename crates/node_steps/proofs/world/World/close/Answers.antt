use Rattle.std.proofs.Common.{◌∙◌, ◌≤◌, ◌+◌, ℕ, arith}
use Rattle.node_steps.specs.Holds.{first_client_disk}
use Rattle.node_steps.proofs.Closing.{all_numbers}
use Rattle.node_steps.proofs.Returned.{tables_stay_back, all_told, all_rows_back}
use Rattle.node_steps.proofs.world.World.close.Goals as goal

above : (c k : ℕ) → 192 ≤ first_client_disk c + k
above c k = omega arith

pub close_tables-requires : goal.close_tables-requires
close_tables-requires g c =
    let k = c.requires.held in record { held = (k.w, k.held.numbered, k.held.store, k.out) }

pub close_clients-requires : goal.close_clients-requires
close_clients-requires g c =
    let k = c.requires.held in
    record { held = (k.w, k.held.numbered, k.held.clients, λ q n one small. c.close_tables.ensures.others (first_client_disk q + n) (above q n) ∙ k.out.clients q n one small) }

pub returns-clause-back : goal.returns-clause-back
returns-clause-back g c =
    all_numbers (g.P.Depot.state c.close_clients.new.depot).is_out (λ k below. c.close_clients.ensures.others k below ∙ c.close_tables.ensures.back k below) c.close_clients.ensures.back

pub returns-clause-told : goal.returns-clause-told
returns-clause-told g c w h =
    all_told g.D.Disk.state w c.args.self h (g.P.Depot.returned c.close_clients.new.depot)
    (tables_stay_back g.D.Disk.state w c.args.self h (g.P.Depot.returned c.close_tables.new.depot) (g.P.Depot.returned c.close_clients.new.depot) c.close_clients.ensures.kept c.close_tables.ensures.told)
    c.close_clients.ensures.told

pub returns-clause-rows : goal.returns-clause-rows
returns-clause-rows g c w r h =
    all_rows_back g.D.Disk.state g.D.Disk.images g.met.D.Disk.counts_now g.met.D.Disk.only_now w r c.args.self h (g.P.Depot.returned c.close_clients.new.depot)
    (tables_stay_back g.D.Disk.state w c.args.self h (g.P.Depot.returned c.close_tables.new.depot) (g.P.Depot.returned c.close_clients.new.depot) c.close_clients.ensures.kept c.close_tables.ensures.told)
