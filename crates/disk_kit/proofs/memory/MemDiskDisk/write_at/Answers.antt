use Rattle.std.proofs.Common.{rules, ◌≡◌, ◌≤◌, ◌+◌, ℕ, List, max, ◌++◌, [], length, take, drop, refl, sym, ◌∙◌, ap, subst, arith, length-take}
use Rattle.disk_trait.specs.Image.{IsImage, touched, overwritten, settled}
use Rattle.disk_kit.specs.declared.memory.Call.TheVariants.{Write}
use Rattle.disk_kit.specs.Record.{Held, file_of, noted, covered}
use Rattle.disk_kit.specs.Memory.{held_in}
use Rattle.disk_kit.proofs.Records.{IsPushed, pushed_noted, pushed_elapses, kept_pushed, less_same}
use Rattle.disk_kit.proofs.Writes.{undo_write, file_write, within_write, image_write}
use Rattle.disk_kit.proofs.memory.MemDiskDisk.write_at.Goals as goal
use Rattle.disk_kit.proofs.memory.MemDiskDisk.write_at.Goals.{After-max-self}

start_in_file : (c : After-max-self) → c.args.at ≤ c.args.self.now.len
start_in_file c = omega (arith, c.requires.start, length-take c.args.self.now.len c.args.self.now.bytes.items)

start_in_bytes : (c : After-max-self) → c.args.at ≤ length c.args.self.now.bytes.items
start_in_bytes c = omega (arith, c.requires.start, length-take c.args.self.now.len c.args.self.now.bytes.items)

pushed : (c : After-max-self) → IsPushed c.args.self.now.calls.items c.args.self.now.pool.items (held_in c.args.self.now) c.push.new.self.items c.overwrite-over.new.pool.items (record { bytes = c.overwrite-over.new.file.items; len = c.max-self.result }) (Write c.args.at (length c.args.bytes.now) c.overwrite-over.result c.args.self.now.len) (covered c.args.at (length c.args.bytes.now) c.args.self.now.bytes.items)
pushed c =
    let m = c.args.self.now in
    let more = c.args.bytes.now in
    let back = undo_write m.bytes.items more c.args.at (start_in_bytes c) in
    record {
      is_calls = search rules;
      is_pool = c.overwrite-over.ensures.saved;
      goes_back = ap (λ (l : List ℕ). let h : Held = record { bytes = take c.args.at l ++ (covered c.args.at (length more) m.bytes.items ++ drop (c.args.at + length more) l); len = m.len } in h) c.overwrite-over.ensures.items
          ∙ ap (λ (l : List ℕ). let h : Held = record { bytes = l; len = m.len } in h) back;
      fits = c.overwrite-over.ensures.over;
    }

seen : (c : After-max-self) → take c.max-self.result c.overwrite-over.new.file.items ≡ overwritten (take c.args.self.now.len c.args.self.now.bytes.items) c.args.at c.args.bytes.now
seen c =
    let m = c.args.self.now in
    let len : c.max-self.result ≡ max m.len (c.args.at + length c.args.bytes.now) = search rules in
    rw (len, c.overwrite-over.ensures.items) (file_write m.bytes.items c.args.bytes.now c.args.at m.len (start_in_file c) m.kept.within)

within : (c : After-max-self) → c.max-self.result ≤ length c.overwrite-over.new.file.items
within c =
    let m = c.args.self.now in
    let len : c.max-self.result ≡ max m.len (c.args.at + length c.args.bytes.now) = search rules in
    rw (len, c.overwrite-over.ensures.items) (within_write m.bytes.items c.args.bytes.now c.args.at m.len (start_in_file c) m.kept.within)

pub invariant_of-self-clause-kept : goal.invariant_of-self-clause-kept
invariant_of-self-clause-kept c =
    let after = (goal.at.invariant_of-self-clause-kept c).After-max-self in
    let m = c.args.self.now in
    let p = noted (settled []) m.calls.items m.pool.items (held_in m) in
    let image = image_write p (file_of (held_in m)) c.args.bytes.now c.args.at m.kept.image c.requires.start in
    kept_pushed _ _ _ _ _ _ _ _ m.kept (pushed after) (within after) (subst (λ (file : List ℕ). IsImage (touched c.args.at (length c.args.bytes.now) p) file) (sym (seen after)) image)

pub returns-clause-written : goal.returns-clause-written
returns-clause-written c = seen (goal.at.returns-clause-written c).After-max-self

pub returns-clause-crash : goal.returns-clause-crash
returns-clause-crash c = less_same _ _ (pushed_noted _ _ _ _ _ _ _ _ c.args.self.now.kept (pushed (goal.at.returns-clause-crash c).After-max-self))

pub returns-clause-time : goal.returns-clause-time
returns-clause-time c = pushed_elapses _ _ _ _ _ _ _ _ c.args.self.now.kept (pushed (goal.at.returns-clause-time c).After-max-self) _ _ refl refl refl
