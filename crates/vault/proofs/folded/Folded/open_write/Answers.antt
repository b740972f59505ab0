use Rattle.std.proofs.Common.{rules}
use Rattle.std.proofs.lemmas.Result.{on_ok_weaker}
use Rattle.vault.proofs.Stayings.{only_own}
use Rattle.vault.proofs.folded.Folded.open_write.Goals as goal

pub returns-clause-opens : goal.returns-clause-opens
returns-clause-opens g c = record {
  opened = search rules;
  same = search rules;
  durable = search rules;
  room = on_ok_weaker c.open_write.result (λ to o a b r. record { vault = to o a b r.vault; memory = r.memory; payload = r.payload }) c.open_write.ensures.room;
  any_moment = search rules;
  failed = search rules;
  no_memory = search rules;
  fuse = search rules;
  refuses = record { down = search rules; unchanged = search rules; disk = search rules; cause = search rules };
  only = only_own _;
}
