use Rattle.std.proofs.Common.{ℕ, List, refl, ap, sym, ◌∙◌, subst, rules}
use Rattle.std.specs.Prelude.{slice_index_or}
use Rattle.world_tables.specs.World.{World, table_falls, tables_fall}
use Rattle.store_host.specs.Holds.{HoldsTables}
use Rattle.store_host.proofs.Moving.{fall_next, drop_done}
use Rattle.disk_trait.specs.Fuse.{inner_of}
use Rattle.store_host.proofs.Froms.{SameDisk, from_itself, from_then, same_then, fall_from}
use Rattle.store_host.proofs.Lefts.{none_still, still_then}
use Rattle.store_host.proofs.tables.halt_all.Goals as goal

pub loop-table-init : goal.loop-table-init
loop-table-init g c = record {
  moved = λ w h.
      (w, h, refl, from_itself SameDisk (λ s. refl) w, none_still g.D.Disk.state g.D.Disk.images (λ d image left. g.met.D.Disk.only_now (inner_of d) image left) w c.args.tables.now h);
  counted = λ q. refl;
}

pub halt_at-requires : goal.halt_at-requires
halt_at-requires g c = let n = c.requires in let m = c.loop-table.invariant.moved n.0 n.1 in (m.0, m.1)

pub loop-table-preserved : goal.loop-table-preserved
loop-table-preserved g c =
    let ns = c.args.numbers.now in
    let i = c.loop-table.table-index in
    record {
      moved = λ w h.
          let m = c.loop-table.invariant.moved w h in
          let table = slice_index_or ns i 0 in
          let v = (table_falls table m.0).world in (
            v,
            c.halt_at.ensures.fallen m.0 m.1,
            sym (fall_next ns i (search rules) m.0) ∙ m.2,
            from_then SameDisk SameDisk SameDisk same_then w m.0 v m.3 (fall_from m.0 table),
            still_then g.D.Disk.state g.D.Disk.images SameDisk w m.0 c.args.tables.now c.loop-table.tables c.halt_at.new.tables h m.1 m.3 (λ s t q. q) m.4 (c.halt_at.ensures.left m.0 m.1),
          );
      counted = λ q. c.halt_at.ensures.counted q ∙ c.loop-table.invariant.counted q;
    }

pub returns-clause-fallen : goal.returns-clause-fallen
returns-clause-fallen g c w h =
    let m = c.loop-table.invariant.moved w h in
    subst (λ (x : World). HoldsTables g.D.Disk.state x c.loop-table.tables)
    (sym (ap (λ (l : List ℕ). (tables_fall l m.0).world) (drop_done c.args.numbers.now c.loop-table.table-index (search rules))) ∙ m.2) m.1

pub returns-clause-left : goal.returns-clause-left
returns-clause-left g c w h = (c.loop-table.invariant.moved w h).4
