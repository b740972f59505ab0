use Rattle.status_log.proofs.Again.{closes_again, opens_again}
use Rattle.payload_laws.proofs.Entries.{only_close, only_opening}
use Rattle.payload_laws.proofs.laws.entries_have_one_payload.Goals as goal

pub returns-clause-close : goal.returns-clause-close
returns-clause-close c = closes_again

pub returns-clause-only_close : goal.returns-clause-only_close
returns-clause-only_close c = only_close

pub returns-clause-opening : goal.returns-clause-opening
returns-clause-opening c = opens_again

pub returns-clause-only_opening : goal.returns-clause-only_opening
returns-clause-only_opening c = only_opening
