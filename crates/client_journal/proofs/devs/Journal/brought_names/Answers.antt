use Rattle.std.proofs.Common.{◌≡◌, List, map, Err, inr, refl, sym, ◌∙◌, ap, subst}
use Rattle.std.proofs.lemmas.Result.{err_from_is_err_and}
use Rattle.stab_base.specs.declared.chunk_name.ChunkName.{ChunkName}
use Rattle.held_value.specs.declared.local_name.LocalName.{LocalName}
use Rattle.client_journal.specs.declared.fault.JournalFault.TheVariants.{Memory}
use Rattle.client_journal.specs.Devs.{local_of}
use Rattle.client_journal.specs.Agenda.{AreLeftovers}
use Rattle.client_journal.specs.Standing.{devs}
use Rattle.client_journal.proofs.Leftovers.{brought_left}
use Rattle.client_journal.proofs.Starting.{starts_err, starts_other}
use Rattle.client_journal.proofs.devs.Journal.brought_names.Goals as goal

pub returns-in_err-there-clause-starts : goal.returns-in_err-there-clause-starts
returns-in_err-there-clause-starts g c =
    let p = err_from_is_err_and c.from_residual.result c.from_residual.ensures.1 in
    rw (p.1, p.2) (starts_err g.D.Disk.state g.D.Disk.images c.args.self.now c.told_names.new.self c.in_err-there.field-0.0 c.in_err-there.ensures.starts)

pub returns-in_err-names-clause-starts : goal.returns-in_err-names-clause-starts
returns-in_err-names-clause-starts g c =
    let p = err_from_is_err_and c.from_residual-in_err-names.result c.from_residual-in_err-names.ensures.1 in
    rw (p.1, p.2) (starts_other g.D.Disk.state g.D.Disk.images c.args.self.now c.told_names.new.self _ (λ is. cc) c.in_ok-there.ensures.starts (Err Memory) (λ is. cc) (inr refl))

pub returns-clause-starts : goal.returns-clause-starts
returns-clause-starts g c = starts_other g.D.Disk.state g.D.Disk.images c.args.self.now c.told_names.new.self _ (λ is. cc) c.in_ok-there.ensures.starts _ (λ is. cc) tt

pub returns-clause-left : goal.returns-clause-left
returns-clause-left g c =
    let d = devs g.D.Disk.state c.args.self.now in
    let k = c.in_ok-there.ensures in
    let are : c.in_ok-names.names.items ≡ map local_of c.in_ok-there.there = c.in_ok-names.ensures ∙ ap (λ (l : List ChunkName). map local_of l) c.as_slice.ensures in
    subst (λ (l : List LocalName). AreLeftovers d l) (sym are) (brought_left d c.in_ok-there.there k.rising c.args.intend.now c.requires.at_work k.names)
