use Rattle.std.proofs.Common.{◌≡◌, [], Some, refl, sym, ◌∙◌, subst, List}
use Rattle.std.specs.List.Sorted.{IsStrictlySortedBy}
use Rattle.chunk_store.specs.Payload.{name_cmp}
use Rattle.stab_base.specs.declared.chunk_name.ChunkName.{ChunkName}
use Rattle.row_store.specs.Data.{version_of}
use Rattle.status_log.specs.Entry.{Entry, entry_of}
use Rattle.store_commit.specs.Standing.{devs}
use Rattle.store_commit.specs.Recover.{AreStillThere}
use Rattle.store_commit.proofs.Leftovers.{old_left, new_left}
use Rattle.store_commit.proofs.Fusing.{keeps_same, keeps_vaults}
use Rattle.store_commit.proofs.devs.TableDevs.left_over.Goals as goal

pub returns-then-version_of-entry-clause-names : goal.returns-then-version_of-entry-clause-names
returns-then-version_of-entry-clause-names g c =
    let d = devs g.D.Disk.state c.args.self.now in
    let entry : Entry = entry_of c.in-Some.entry.now in
    let is : d.pending ≡ Some entry = sym (c.in-Some.ensures c.requires.log.vault.up) in
    let put : version_of d.held entry.row ≡ entry.version = sym (c.version_of.ensures c.requires.rows.vault.up) ∙ c.if-version_of-entry.true in
    old_left d entry is c.in_ok-names.names c.in_ok-names.ensures.rising put (subst (λ (l : List ChunkName). AreStillThere d.chunks l c.in_ok-names.names) c.deref.ensures.value c.in_ok-names.ensures.names)

pub returns-in-Ok-clause-names : goal.returns-in-Ok-clause-names
returns-in-Ok-clause-names g c =
    let d = devs g.D.Disk.state c.args.self.now in
    let entry : Entry = entry_of c.in-Some.entry.now in
    let is : d.pending ≡ Some entry = sym (c.in-Some.ensures c.requires.log.vault.up) in
    new_left d entry is c.in-Ok.names c.in-Ok.ensures.rising (λ same. c.if-version_of-entry.false (c.version_of.ensures c.requires.rows.vault.up ∙ same)) c.in-Ok.ensures.names

pub returns-in-Ok-clause-fuse : goal.returns-in-Ok-clause-fuse
returns-in-Ok-clause-fuse g c = keeps_vaults g.D.Disk.state c.args.self.now _ c.names_below.ensures.vault refl refl

pub returns-in-Err-clause-fuse : goal.returns-in-Err-clause-fuse
returns-in-Err-clause-fuse g c = keeps_vaults g.D.Disk.state c.args.self.now _ c.names_below.ensures.vault refl refl

nothing_rises : IsStrictlySortedBy name_cmp []
unfolding IsStrictlySortedBy
nothing_rises = tt

pub returns-in_default-clause-rising : goal.returns-in_default-clause-rising
returns-in_default-clause-rising g c = rw c.new.ensures nothing_rises
