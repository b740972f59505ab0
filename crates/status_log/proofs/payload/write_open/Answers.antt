use Rattle.std.proofs.Common.{◌≡◌, length, ◌∙◌, ap, rules}
use Rattle.status_log.specs.Entry.{entry_of}
use Rattle.status_log.specs.Payload.{open_payload}
use Rattle.status_log.proofs.Fields.{open_len}
use Rattle.status_log.proofs.payload.write_open.Goals as goal

pub returns-clause-len : goal.returns-clause-len
returns-clause-len c =
    let items : c.write_names.new.payload.items ≡ open_payload (entry_of c.args.entry.now) = search rules in
    ap length items ∙ open_len (entry_of c.args.entry.now) c.requires.spelled.row
