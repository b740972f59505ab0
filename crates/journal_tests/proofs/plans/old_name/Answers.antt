use Rattle.std.proofs.Common.{◌≡◌, sym, ◌∙◌, ap}
use Rattle.client_journal.specs.NamedSlots.{names_if}
use Rattle.client_journal.specs.Devs.{ClientDevs}
use Rattle.slot_store.specs.Data.{slots_of}
use Rattle.journal_tests.proofs.plans.old_name.Goals as goal

pub has_chunk-requires : goal.has_chunk-requires
has_chunk-requires g c = c.in_ok-found.ensures.rests

pub returns-then-there-clause-rests : goal.returns-then-there-clause-rests
returns-then-there-clause-rests g c = c.in_ok-there.ensures.rests

pub returns-then-there-clause-name : goal.returns-then-there-clause-name
returns-then-there-clause-name g c =
    ap (λ (d : ClientDevs). names_if (slots_of d.held 1 c.args.row.now)) c.in_ok-there.ensures.same ∙ (ap names_if c.in_ok-found.ensures.found ∙ c.in-Some.ensures)

pub returns-then-there-clause-there : goal.returns-then-there-clause-there
returns-then-there-clause-there g c = c.in_ok-there.ensures.there c.if-there.true
