use Rattle.std.proofs.Common.{◌≡◌, Bool, false, List, length, refl, sym, ◌∙◌, ap, subst, arith}
use Rattle.std.proofs.lemmas.Result.{err_from_is_err_and}
use Rattle.std.specs.List.Sorted.{IsStrictlySortedBy}
use Rattle.std.specs.Prelude.{filter, not}
use Rattle.std.specs.BTreeMap.{is_at}
use Rattle.std.specs.BTreeSet.{contains}
use Rattle.stab_base.specs.declared.chunk_name.ChunkName.{ChunkName}
use Rattle.chunk_store.specs.Payload.{name_cmp}
use Rattle.store_commit.specs.declared.scanned.Scanned.{Scanned}
use Rattle.store_commit.specs.Agenda.{AreLeftovers, recovery_writes}
use Rattle.store_commit.specs.Standing.{devs, spared_of}
use Rattle.store_commit.proofs.Seen.{all_kept, none_in}
use Rattle.store_commit.proofs.Recovers.{plan_refused, no_room, recovered}
use Rattle.store_commit.proofs.Fusing.{keeps_then, keeps_same}
use Rattle.store_commit.proofs.devs.TableDevs.recover.Goals as goal

pub returns-in_err-recovery-clause-recovers : goal.returns-in_err-recovery-clause-recovers
returns-in_err-recovery-clause-recovers g c up =
    let p = err_from_is_err_and c.from_residual.result c.from_residual.ensures.1 in
    let k = c.left_over.ensures in
    rw (p.1, p.2, c.in_err-recovery.ensures.memory) (plan_refused g.D.Disk.state g.D.Disk.images g.met.D.Disk.only_now c.args.self.now c.left_over.new.self (c.requires up) k.vault k.rows k.log k.agenda k.stays)

pub returns-in_err-make_room-clause-recovers : goal.returns-in_err-make_room-clause-recovers
returns-in_err-make_room-clause-recovers g c up =
    let p = err_from_is_err_and c.from_residual-in_err-make_room.result c.from_residual-in_err-make_room.ensures.1 in
    let k = c.left_over.ensures in
    rw (p.1, p.2) (no_room g.D.Disk.state g.D.Disk.images g.met.D.Disk.only_now c.args.self.now c.left_over.new.self (c.requires up) k.vault k.rows k.log k.agenda k.stays c.make_room.new.self c.len.result c.make_room.ensures.rows _ c.in_err-make_room.ensures.makes)

pub returns-in_err-names-clause-recovers : goal.returns-in_err-names-clause-recovers
returns-in_err-names-clause-recovers g c up =
    let p = err_from_is_err_and c.from_residual-in_err-names.result c.from_residual-in_err-names.ensures.1 in
    let k = c.left_over.ensures in
    rw (p.1, p.2) (plan_refused g.D.Disk.state g.D.Disk.images g.met.D.Disk.only_now c.args.self.now c.left_over.new.self (c.requires up) k.vault k.rows k.log k.agenda k.stays)

pub returns-clause-recovers : goal.returns-clause-recovers
returns-clause-recovers g c up =
    let k = c.left_over.ensures in
    let d = devs g.D.Disk.state c.args.self.now in
    let old = c.args.self.now in
    let left : AreLeftovers d c.as_slice.result.now = subst (AreLeftovers d) (sym c.as_slice.ensures) c.in_ok-recovery.ensures.names in
    let kept_is : c.in_ok-names.names.items ≡ filter (λ (name : ChunkName). not (contains name_cmp (spared_of old) name)) c.as_slice.result.now =
    c.in_ok-names.ensures ∙ ap (λ (x : Scanned). filter (λ (name : ChunkName). not (contains name_cmp x.spared name)) c.as_slice.result.now) k.scanned in
    let size : c.len.result ≡ length c.in_ok-names.names.items = omega (arith, c.len.ensures, c.deref.ensures.len, ap (λ (l : List ChunkName). length l) c.deref.ensures.value) in
    recovered g.D.Disk.state g.D.Disk.images g.met.D.Disk.only_now c.args.self.now c.left_over.new.self (c.requires up) k.vault k.rows k.log k.agenda k.stays c.make_room.new.self c.len.result c.make_room.ensures.rows c.take_on.new.self c.take_on.ensures.chunks c.take_on.ensures.rows c.take_on.ensures.log
    c.in_ok-recovery.recovery c.in_ok-recovery.ensures.recovery c.as_slice.result.now c.in_ok-names.names.items left kept_is c.is_open-is_open.result (c.is_open-is_open.ensures d c.in_ok-recovery.ensures.recovery) (c.take_on.ensures.writes ∙ ap (λ (l : List ChunkName). recovery_writes l c.is_open-is_open.result) c.deref.ensures.value) size c.in_ok-make_room.ensures.makes

pub returns-in_err-recovery-clause-fuse : goal.returns-in_err-recovery-clause-fuse
returns-in_err-recovery-clause-fuse g c = c.left_over.ensures.fuse

pub returns-in_err-make_room-clause-fuse : goal.returns-in_err-make_room-clause-fuse
returns-in_err-make_room-clause-fuse g c =
    keeps_then g.D.Disk.state c.args.self.now c.left_over.new.self c.make_room.new.self c.left_over.ensures.fuse c.make_room.ensures.fuse

pub returns-clause-fuse : goal.returns-clause-fuse
returns-clause-fuse g c =
    let s = g.D.Disk.state in
    let t = c.take_on.ensures in
    keeps_then s c.args.self.now c.make_room.new.self c.take_on.new.self
    (keeps_then s c.args.self.now c.left_over.new.self c.make_room.new.self c.left_over.ensures.fuse c.make_room.ensures.fuse)
    (keeps_same s c.make_room.new.self c.take_on.new.self t.chunks t.rows t.log)

pub returns-in_err-names-clause-fuse : goal.returns-in_err-names-clause-fuse
returns-in_err-names-clause-fuse g c = c.left_over.ensures.fuse

pub returns-clause-rising : goal.returns-clause-rising
returns-clause-rising g c up none =
    let d = devs g.D.Disk.state c.args.self.now in
    let old = c.args.self.now in
    let names = c.as_slice.result.now in
    let left : AreLeftovers d names = subst (AreLeftovers d) (sym c.as_slice.ensures) c.in_ok-recovery.ensures.names in
    let rising : IsStrictlySortedBy name_cmp names = subst (IsStrictlySortedBy name_cmp) (sym c.as_slice.ensures) c.in_ok-recovery.ensures.rising in
    let kept_is : c.in_ok-names.names.items ≡ filter (λ (name : ChunkName). not (contains name_cmp (spared_of old) name)) names =
    c.in_ok-names.ensures ∙ ap (λ (x : Scanned). filter (λ (name : ChunkName). not (contains name_cmp x.spared name)) names) c.left_over.ensures.scanned in
    let all : filter (λ (name : ChunkName). not (contains name_cmp (spared_of old) name)) names ≡ names =
    all_kept (λ (name : ChunkName). not (contains name_cmp (spared_of old) name)) names (λ name. ap not (none_in (spared_of old) (is_at (name_cmp name)) none)) in (
      names,
      left,
      rising,
      c.take_on.ensures.writes ∙ ap (λ (l : List ChunkName). recovery_writes l c.is_open-is_open.result) (c.deref.ensures.value ∙ kept_is ∙ all)
          ∙ ap (recovery_writes names) (c.is_open-is_open.ensures d c.in_ok-recovery.ensures.recovery),
    )
