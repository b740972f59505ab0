use Rattle.std.proofs.Common.{◌∙◌, refl, arith}
use Rattle.store_host.specs.Holds.{disks_at}
use Rattle.node_steps.proofs.Closing.{table_next, table_gone, table_goes, table_small, above_stays, at_end}
use Rattle.node_steps.proofs.Returned.{tables_start, tables_rise, table_ranged, tables_out, tables_end}
use Rattle.node_steps.proofs.close.close_tables.Goals as goal

pub tables-init : goal.tables-init
tables-init g c =
    let k = c.requires.held in record {
      closing = tables_start g.P.Disk.Disk.state k.0 k.1 c.args.store k.2 (g.P.Depot.state c.args.depot.now).is_out (g.P.Depot.returned c.args.depot.now) k.3;
      rising = tables_rise g.P.Disk.Disk.state k.0 k.1 c.args.store k.2;
      others = λ n above. refl;
      faults = refl;
    }

pub give_back-requires-clause-small : goal.give_back-requires-clause-small
give_back-requires-clause-small g c =
    table_small c.in-Some.table (table_next c.args.store.tables c.tables.store.tables (g.P.Depot.state c.tables.depot).is_out (g.P.Depot.returned c.tables.depot) c.tables.invariant.closing c.in-Some.table c.in-Some.disks c.in-Some.ensures.disks).most

pub give_back-requires-clause-out : goal.give_back-requires-clause-out
give_back-requires-clause-out g c =
    (table_next c.args.store.tables c.tables.store.tables (g.P.Depot.state c.tables.depot).is_out (g.P.Depot.returned c.tables.depot) c.tables.invariant.closing c.in-Some.table c.in-Some.disks c.in-Some.ensures.disks).out

pub tables-preserved : goal.tables-preserved
tables-preserved g c =
    let k = c.requires.held in
    let gone = table_gone c.args.store.tables c.tables.store.tables c.take_disks.new.self.tables c.in-Some.table c.in-Some.disks c.tables.invariant.rising c.in-Some.ensures.disks c.take_disks.ensures.others in record {
      closing = table_goes c.args.store.tables c.tables.store.tables c.take_disks.new.self.tables (g.P.Depot.state c.tables.depot).is_out (g.P.Depot.state c.give_back.new.depot).is_out (g.P.Depot.returned c.tables.depot) (g.P.Depot.returned c.give_back.new.depot)
          (λ q x at. (table_ranged g.P.Disk.Disk.state k.0 k.1 c.args.store k.2 q x at).0) c.tables.invariant.closing c.in-Some.table c.in-Some.disks c.in-Some.ensures.disks c.take_disks.ensures.others gone.0
          c.give_back.ensures.back c.give_back.ensures.told;
      rising = gone.1;
      others = above_stays (g.P.Depot.state c.args.depot.now).is_out (g.P.Depot.state c.tables.depot).is_out (g.P.Depot.state c.give_back.new.depot).is_out c.in-Some.table (table_next c.args.store.tables c.tables.store.tables (g.P.Depot.state c.tables.depot).is_out (g.P.Depot.returned c.tables.depot) c.tables.invariant.closing c.in-Some.table c.in-Some.disks c.in-Some.ensures.disks).most c.give_back.ensures.back c.tables.invariant.others;
      faults = c.give_back.ensures.faults ∙ c.tables.invariant.faults;
    }

pub returns-clause-back : goal.returns-clause-back
returns-clause-back g c =
    tables_out c.args.store.tables c.tables.store.tables (g.P.Depot.state c.tables.depot).is_out (g.P.Depot.returned c.tables.depot) c.tables.invariant.closing
    (at_end c.tables.store.tables.entries disks_at c.in_default.ensures.disks)

pub returns-clause-told : goal.returns-clause-told
returns-clause-told g c =
    tables_end c.args.store.tables c.tables.store.tables (g.P.Depot.state c.tables.depot).is_out (g.P.Depot.returned c.tables.depot) c.tables.invariant.closing
    (at_end c.tables.store.tables.entries disks_at c.in_default.ensures.disks)

pub overflow_sub-table : goal.overflow_sub-table
overflow_sub-table g c =
    let next = table_next c.args.store.tables c.tables.store.tables (g.P.Depot.state c.tables.depot).is_out (g.P.Depot.returned c.tables.depot) c.tables.invariant.closing c.in-Some.table c.in-Some.disks c.in-Some.ensures.disks in
    let least = next.least in
    let most = next.most in
    omega (arith, least, most)

pub overflow_mul-table : goal.overflow_mul-table
overflow_mul-table g c =
    let next = table_next c.args.store.tables c.tables.store.tables (g.P.Depot.state c.tables.depot).is_out (g.P.Depot.returned c.tables.depot) c.tables.invariant.closing c.in-Some.table c.in-Some.disks c.in-Some.ensures.disks in
    let least = next.least in
    let most = next.most in
    omega (arith, least, most)
