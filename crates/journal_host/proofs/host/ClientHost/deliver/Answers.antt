use Rattle.std.proofs.Common.{◌≡◌, refl, sym, ◌∙◌}
use Rattle.std.specs.Ordering.{nat_cmp}
use Rattle.std.specs.BTreeMap as tree
use Rattle.table_model.specs.declared.line.Answer.TheVariants as answers
use Rattle.step_tables.specs.Travels.{message_of}
use Rattle.journal_host.specs.declared.asking.Request.TheVariants as requests
use Rattle.journal_host.specs.Calls.{Stays}
use Rattle.journal_host.proofs.Clients.{is_there, is_absent, found, taken_all, taken_or, lost, nowhere_unfit, none_failed, plans_stay_more}
use Rattle.journal_host.proofs.host.ClientHost.deliver.Goals as goal

pub returns-then-contains_key-clause-called : goal.returns-then-contains_key-clause-called
returns-then-contains_key-clause-called g c w h fits =
    let x = is_there (tree.get nat_cmp c.args.self.now.clients c.args.client) (sym c.contains_key.ensures ∙ c.if-contains_key.true) in
    let f = found g.D.Disk.state w c.args.self.now.clients c.args.client h.there x.0 x.1 in
    taken_all g.D.Disk.state w c.args.self.now _ c.args.client (message_of c.args.message) f.0 f.1 c.call.result (c.call.ensures.called w h fits)

pub returns-then-contains_key-clause-dropped : goal.returns-then-contains_key-clause-dropped
returns-then-contains_key-clause-dropped g c w h unfit =
    let x = is_there (tree.get nat_cmp c.args.self.now.clients c.args.client) (sym c.contains_key.ensures ∙ c.if-contains_key.true) in
    let f = found g.D.Disk.state w c.args.self.now.clients c.args.client h.there x.0 x.1 in
    taken_or g.D.Disk.state w c.args.self.now c.call.new.self c.args.client (message_of c.args.message) (λ answer. (answer ≡ answers.Done) × Stays g.D.Disk.state w c.args.self.now c.call.new.self)
    f.0 f.1 c.call.result (c.call.ensures.dropped w h unfit)

pub returns-then-contains_key-clause-spent : goal.returns-then-contains_key-clause-spent
returns-then-contains_key-clause-spent g c w n h below fits = c.call.ensures.spent w n h below fits

pub returns-then-contains_key-clause-kept : goal.returns-then-contains_key-clause-kept
returns-then-contains_key-clause-kept g c w h = c.call.ensures.kept w h

pub returns-then-contains_key-clause-cause : goal.returns-then-contains_key-clause-cause
returns-then-contains_key-clause-cause g c = c.call.ensures.cause

pub returns-clause-called : goal.returns-clause-called
returns-clause-called g c w h fits = lost g.D.Disk.state w c.args.self.now c.args.self.now c.args.client (message_of c.args.message) h
    (is_absent (tree.get nat_cmp c.args.self.now.clients c.args.client) (sym c.contains_key.ensures ∙ c.if-contains_key.false)) refl refl

pub returns-clause-dropped : goal.returns-clause-dropped
returns-clause-dropped g c w h unfit = absurd
    (nowhere_unfit g.D.Disk.state w c.args.self.now c.args.self.now c.args.client h
    (is_absent (tree.get nat_cmp c.args.self.now.clients c.args.client) (sym c.contains_key.ensures ∙ c.if-contains_key.false)) refl refl (requests.Deliver c.args.message) unfit)

pub returns-clause-spent : goal.returns-clause-spent
returns-clause-spent g c w n h below fits = tt

pub returns-clause-kept : goal.returns-clause-kept
returns-clause-kept g c w h = tt

pub returns-clause-cause : goal.returns-clause-cause
returns-clause-cause g c = none_failed g.D.Disk.state c.args.client c.args.self.now.clients c.args.self.now.clients refl answers.Done (λ bad. absurd cc)

pub returns-then-contains_key-clause-plans : goal.returns-then-contains_key-clause-plans
returns-then-contains_key-clause-plans g c n below = c.call.ensures.plans n below

pub returns-clause-plans : goal.returns-clause-plans
returns-clause-plans g c n below = plans_stay_more g.D.Disk.state c.args.self.now.clients c.args.self.now.clients refl n below
