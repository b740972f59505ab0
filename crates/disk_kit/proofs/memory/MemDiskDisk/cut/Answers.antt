use Rattle.std.proofs.Common.{rules, ◌≤◌, ℕ, List, [], length, take, refl, sym, subst, arith, length-take}
use Rattle.std.proofs.lemmas.List.{append-nil}
use Rattle.disk_trait.specs.Image.{IsImage, shortened, settled}
use Rattle.disk_kit.specs.declared.memory.Call.TheVariants.{Cut}
use Rattle.disk_kit.specs.Record.{noted}
use Rattle.disk_kit.specs.Memory.{held_in}
use Rattle.disk_kit.proofs.Records.{IsPushed, pushed_noted, pushed_elapses, kept_pushed, less_same}
use Rattle.disk_kit.proofs.Writes.{file_cut, image_cut}
use Rattle.disk_kit.proofs.memory.MemDiskDisk.cut.Goals as goal
use Rattle.disk_kit.proofs.memory.MemDiskDisk.cut.Goals.{After-unwrap}

pushed : (c : After-unwrap) → IsPushed c.args.self.now.calls.items c.args.self.now.pool.items (held_in c.args.self.now) c.push.new.self.items c.args.self.now.pool.items (record { bytes = c.args.self.now.bytes.items; len = c.args.len }) (Cut c.args.self.now.len) []
pushed c = record {
  is_calls = search rules;
  is_pool = sym (append-nil c.args.self.now.pool.items);
  goes_back = refl;
  fits = refl;
}

pub invariant_of-self-clause-kept : goal.invariant_of-self-clause-kept
invariant_of-self-clause-kept c =
    let m = c.args.self.now in
    let p = noted (settled []) m.calls.items m.pool.items (held_in m) in
    let short : c.args.len ≤ m.len = omega (arith, c.requires.len, length-take m.len m.bytes.items) in
    let within : c.args.len ≤ length m.bytes.items = omega (arith, c.requires.len, length-take m.len m.bytes.items) in
    let image = image_cut p (take m.len m.bytes.items) c.args.len m.kept.image c.requires.len in
    kept_pushed _ _ _ _ _ _ _ _ m.kept (pushed (goal.at.invariant_of-self-clause-kept c).After-unwrap) within (subst (λ (file : List ℕ). IsImage (shortened c.args.len p) file) (file_cut m.bytes.items m.len c.args.len short) image)

pub returns-clause-crash : goal.returns-clause-crash
returns-clause-crash c = less_same _ _ (pushed_noted _ _ _ _ _ _ _ _ c.args.self.now.kept (pushed (goal.at.returns-clause-crash c).After-unwrap))

pub returns-clause-time : goal.returns-clause-time
returns-clause-time c = pushed_elapses _ _ _ _ _ _ _ _ c.args.self.now.kept (pushed (goal.at.returns-clause-time c).After-unwrap) _ _ refl refl refl
