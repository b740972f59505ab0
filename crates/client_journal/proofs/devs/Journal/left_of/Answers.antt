use Rattle.std.proofs.Common.{◌≡◌, List, map, sym, ◌∙◌, ap, subst}
use Rattle.stab_base.specs.declared.chunk_name.ChunkName.{ChunkName}
use Rattle.held_value.specs.declared.local_name.LocalName.{LocalName}
use Rattle.client_journal.specs.Devs.{local_of}
use Rattle.client_journal.specs.Agenda.{AreLeftovers}
use Rattle.client_journal.specs.Standing.{devs}
use Rattle.client_journal.specs.Recover.{AreStillThere}
use Rattle.client_journal.proofs.Leftovers.{drops_left}
use Rattle.client_journal.proofs.devs.Journal.left_of.Goals as goal

pub returns : goal.returns
returns g c =
    let d = devs g.D.Disk.state c.args.self.now in
    let left = c.in_ok-left.left in
    let there : AreStillThere d.chunks c.args.commit.now.drops left = subst (λ (l : List LocalName). AreStillThere d.chunks l left) c.as_slice.ensures c.in_ok-left.ensures.names in
    let are : c.in_ok-names.names.items ≡ map local_of left = c.in_ok-names.ensures ∙ ap (λ (l : List ChunkName). map local_of l) c.as_slice-2.ensures in
    subst (λ (l : List LocalName). AreLeftovers d l) (sym are) (drops_left d left c.in_ok-left.ensures.rising c.args.commit.now c.requires.at_work there)
