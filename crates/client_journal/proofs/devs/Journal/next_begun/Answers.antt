use Rattle.std.proofs.Common.{◌≡◌, ◌<◌, length, map, arith, refl, sym, ◌∙◌, ap}
use Rattle.std.proofs.lemmas.Grind.{common_steps}
use Rattle.std.proofs.lemmas.Bool.Decides.{nat_tests}
use Rattle.std.proofs.lemmas.List.{nil_from_length}
use Rattle.client_journal.specs.Standing.{write_of}
use Rattle.client_journal.specs.Plan.{begun_first}
use Rattle.client_journal.proofs.Prepared.{first_is}
use Rattle.client_journal.proofs.devs.Journal.next_begun.Goals as goal

pub returns-in-Some : goal.returns-in-Some
returns-in-Some g c =
    let tasks = c.args.self.now.agenda.items in
    let v = c.in-Some.ensures.variant in
    let some : 0 < length tasks = first_of (omega (arith, v.0 refl), grind (arith, common_steps)) in
    c.begins.ensures ∙ first_is tasks c.in-Some.task.now some c.in-Some.ensures.lookup

pub returns-in-None : goal.returns-in-None
returns-in-None g c =
    let tasks = c.args.self.now.agenda.items in
    let v = c.in-None.ensures.variant in
    let none : length tasks ≡ 0 = first_of (grind (arith, nat_tests), grind (arith, common_steps)) in
    sym (ap (λ l. begun_first (map write_of l)) (nil_from_length tasks none))
