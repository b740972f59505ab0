use Rattle.std.proofs.Common.{rules, [], refl, sym}
use Rattle.std.proofs.lemmas.List.{append-nil}
use Rattle.disk_kit.specs.declared.memory.Call.TheVariants.{Sync}
use Rattle.disk_kit.specs.Record.{file_of}
use Rattle.disk_kit.specs.Memory.{held_in}
use Rattle.disk_kit.proofs.Records.{IsPushed, pushed_noted, pushed_elapses, kept_pushed}
use Rattle.disk_kit.proofs.Writes.{image_settled}
use Rattle.disk_kit.proofs.memory.MemDiskDisk.sync.Goals as goal
use Rattle.disk_kit.proofs.memory.MemDiskDisk.sync.Goals.{After-unwrap}

pushed : (c : After-unwrap)
    → IsPushed c.args.self.now.calls.items c.args.self.now.pool.items (held_in c.args.self.now) c.push.new.self.items c.args.self.now.pool.items (held_in c.args.self.now) Sync []
pushed c = record {
  is_calls = search rules;
  is_pool = sym (append-nil c.args.self.now.pool.items);
  goes_back = refl;
  fits = refl;
}

pub invariant_of-self-clause-kept : goal.invariant_of-self-clause-kept
invariant_of-self-clause-kept c =
    let m = c.args.self.now in
    kept_pushed _ _ _ _ _ _ _ _ m.kept (pushed (goal.at.invariant_of-self-clause-kept c).After-unwrap) m.kept.within (image_settled (file_of (held_in m)))

pub invariant_of-self-clause-all_synced : goal.invariant_of-self-clause-all_synced
invariant_of-self-clause-all_synced c = λ is. pushed_noted _ _ _ _ _ _ _ _ c.args.self.now.kept (pushed (goal.at.invariant_of-self-clause-all_synced c).After-unwrap)

pub returns-clause-time : goal.returns-clause-time
returns-clause-time c = pushed_elapses _ _ _ _ _ _ _ _ c.args.self.now.kept (pushed (goal.at.returns-clause-time c).After-unwrap) _ _ refl refl refl
