use Rattle.std.proofs.Common.{◌≡◌, ◌+◌, ◌++◌, ◌∷◌, [], ℕ, List, length, take, drop, Bool, true, false, Option, Some, None, Result, Ok, Err, inr, inl, refl, sym, ◌∙◌, ap, subst, arith}
use Rattle.std.specs.Prelude.{IfOk, IsErrOf, filter, map}
use Rattle.std.specs.BTreeSet.{contains}
use Rattle.std.proofs.lemmas.Result.{err_from_is_err_and}
use Rattle.std.proofs.lemmas.List.Elements.{filter_agree}
use Rattle.stab_base.specs.declared.chunk_name.ChunkName.{ChunkName}
use Rattle.chunk_store.specs.Payload.{name_cmp}
use Rattle.chunk_store.specs.Standing as chunks
use Rattle.row_store.specs.declared.device.RowDev.{RowDev}
use Rattle.row_store.specs.declared.fault.RowFault.{RowFault}
use Rattle.row_store.specs.declared.fault.RowFault.TheVariants as row_faults
use Rattle.row_store.specs.Data.{TableData, data_of}
use Rattle.row_store.specs.Standing as rows
use Rattle.status_log.specs.Standing as logs
use Rattle.store_commit.specs.declared.devs.TableDevs.{TableDevs}
use Rattle.store_commit.specs.declared.fault.CommitFault.{CommitFault}
use Rattle.store_commit.specs.declared.fault.CommitFault.TheVariants.{Memory}
use Rattle.store_commit.specs.declared.there.Found.{Found}
use Rattle.store_commit.specs.Devs.{Devs}
use Rattle.store_commit.specs.NamedChunks.{is_among}
use Rattle.store_commit.specs.There.{hidden_rows, names_there, HasIds}
use Rattle.store_commit.specs.Agenda.{AreLeftovers}
use Rattle.store_commit.specs.Standing.{devs, write_of, AreLookedAt}
use Rattle.store_commit.specs.Scan.{ReadsRows, IsFound, AreSpared}
use Rattle.store_commit.specs.Update.{HasNames}
use Rattle.store_commit.proofs.Asking.{asks_down, asks_caused, asks_both, was_ok}
use Rattle.store_commit.proofs.Fusing.{keeps_then, keeps_same, keeps_vaults, row_same}
use Rattle.store_commit.proofs.Wholes.{whole_shown, whole_spared, no_hidden}
use Rattle.store_commit.proofs.devs.TableDevs.scan.Goals as goal

pub returns-then-is_down-clause-asks : goal.returns-then-is_down-clause-asks
returns-then-is_down-clause-asks g c = asks_down g.D.Disk.state g.D.Disk.images g.met.D.Disk.only_now c.args.self.now c.if-is_down.ensures

pub returns-in_err-found-clause-asks : goal.returns-in_err-found-clause-asks
returns-in_err-found-clause-asks g c =
    let up = c.if-is_down.ensures in
    let p = err_from_is_err_and c.from_residual.result c.from_residual.ensures.1 in
    rw (p.1, p.2) (asks_caused g.D.Disk.state g.D.Disk.images g.met.D.Disk.only_now c.args.self.now up (c.requires up) c.find_rows.new.row_dev c.find_rows.result c.find_rows.ensures.reads c.in_err-found.field-0.0 (sym c.in_err-found.ensures))

pub returns-in_err-_recovery-clause-asks : goal.returns-in_err-_recovery-clause-asks
returns-in_err-_recovery-clause-asks g c =
    let s = g.D.Disk.state in
    let images = g.D.Disk.images in
    let old = c.args.self.now in
    let up = c.if-is_down.ensures in
    let new = c.left_over.new.self in
    let k = c.in_err-_recovery.ensures in
    let p = err_from_is_err_and c.from_residual-in_err-_recovery.result c.from_residual-in_err-_recovery.ensures.1 in
    let is = was_ok c.find_rows.result c.in_ok-found.found c.in_ok-found.ensures in
    let reads = subst (λ x. ReadsRows s images old.rows c.find_rows.new.row_dev x) is c.find_rows.ensures.reads in
    let all = subst (λ d. ReadsRows s images old.rows d (Ok c.in_ok-found.found)) (sym k.rows) reads in
    let r : Result (Unit {0}) CommitFault = Err Memory in
    rw (p.1, p.2, k.memory) (asks_both s images g.met.D.Disk.only_now old up (c.requires up) new c.in_ok-found.found r all k.stays k.vault k.log (ap (λ a. map write_of a.items) k.agenda) (λ e. cc) (inr refl))

pub returns-in_err-named-clause-asks : goal.returns-in_err-named-clause-asks
returns-in_err-named-clause-asks g c =
    let s = g.D.Disk.state in
    let images = g.D.Disk.images in
    let old = c.args.self.now in
    let up = c.if-is_down.ensures in
    let new = c.left_over.new.self in
    let k = c.in_ok-_recovery.ensures in
    let p = err_from_is_err_and c.from_residual-in_err-named.result c.from_residual-in_err-named.ensures.1 in
    let is = was_ok c.find_rows.result c.in_ok-found.found c.in_ok-found.ensures in
    let reads = subst (λ x. ReadsRows s images old.rows c.find_rows.new.row_dev x) is c.find_rows.ensures.reads in
    let all = subst (λ d. ReadsRows s images old.rows d (Ok c.in_ok-found.found)) (sym k.rows) reads in
    let r : Result (Unit {0}) CommitFault = Err Memory in
    rw (p.1, p.2) (asks_both s images g.met.D.Disk.only_now old up (c.requires up) new c.in_ok-found.found r all k.stays k.vault k.log (ap (λ a. map write_of a.items) k.agenda) (λ e. cc) (inr refl))

pub returns-in_err-spared-clause-asks : goal.returns-in_err-spared-clause-asks
returns-in_err-spared-clause-asks g c =
    let s = g.D.Disk.state in
    let images = g.D.Disk.images in
    let old = c.args.self.now in
    let up = c.if-is_down.ensures in
    let new = c.left_over.new.self in
    let k = c.in_ok-_recovery.ensures in
    let p = err_from_is_err_and c.from_residual-in_err-spared.result c.from_residual-in_err-spared.ensures.1 in
    let is = was_ok c.find_rows.result c.in_ok-found.found c.in_ok-found.ensures in
    let reads = subst (λ x. ReadsRows s images old.rows c.find_rows.new.row_dev x) is c.find_rows.ensures.reads in
    let all = subst (λ d. ReadsRows s images old.rows d (Ok c.in_ok-found.found)) (sym k.rows) reads in
    let r : Result (Unit {0}) CommitFault = Err Memory in
    rw (p.1, p.2) (asks_both s images g.met.D.Disk.only_now old up (c.requires up) new c.in_ok-found.found r all k.stays k.vault k.log (ap (λ a. map write_of a.items) k.agenda) (λ e. cc) (inr refl))

pub returns-clause-asks : goal.returns-clause-asks
returns-clause-asks g c =
    let s = g.D.Disk.state in
    let images = g.D.Disk.images in
    let old = c.args.self.now in
    let up = c.if-is_down.ensures in
    let mid = c.left_over.new.self in
    let new = record mid { scanned = record { hidden = c.in_ok-found.found.hidden; spared = c.in_ok-spared.spared } } in
    let k = c.in_ok-_recovery.ensures in
    let is = was_ok c.find_rows.result c.in_ok-found.found c.in_ok-found.ensures in
    let reads = subst (λ x. ReadsRows s images old.rows c.find_rows.new.row_dev x) is c.find_rows.ensures.reads in
    let all = subst (λ d. ReadsRows s images old.rows d (Ok c.in_ok-found.found)) (sym k.rows) reads in
    let r : Result (Unit {0}) CommitFault = Ok tt in
    asks_both s images g.met.D.Disk.only_now old up (c.requires up) new c.in_ok-found.found r all k.stays k.vault k.log (ap (λ a. map write_of a.items) k.agenda) (λ e. cc) tt

pub returns-clause-spared : goal.returns-clause-spared
returns-clause-spared g c =
    let s = g.D.Disk.state in
    let old = c.args.self.now in
    let d = devs s old in
    let found = c.in_ok-found.found in
    let left = c.in_ok-_recovery.left in
    let is = was_ok c.find_rows.result found c.in_ok-found.ensures in
    let stays = c.find_rows.ensures.reads.stays (λ e. not_failed c.find_rows.result found is e) in
    let same : rows.held s c.find_rows.new.row_dev ≡ d.held = ap data_of stays.same in
    let at_old : AreLeftovers d left = subst (λ (h : TableData). AreLeftovers (record { chunks = d.chunks; held = h; pending = d.pending }) left) same c.in_ok-_recovery.ensures.names in
    let are : IsFound d.chunks d.held found = subst (λ x. IfOk x (IsFound d.chunks d.held)) is c.find_rows.ensures.found in
    let made : c.deref.result.now ≡ filter (λ (name : ChunkName). contains name_cmp found.named name) left =
    c.deref.ensures.value ∙ (c.in_ok-named.ensures ∙ ap (λ (l : List ChunkName). filter (λ (name : ChunkName). contains name_cmp found.named name) l) c.as_slice.ensures) in
    let agree : filter (λ (name : ChunkName). contains name_cmp found.named name) left ≡ filter (λ (name : ChunkName). is_among name (names_there d)) left =
    filter_agree (λ (name : ChunkName). contains name_cmp found.named name) (λ (name : ChunkName). is_among name (names_there d)) (λ name. are.named.same name) left in
    (left, at_old, subst (λ (l : List ChunkName). HasNames l c.in_ok-spared.spared) (made ∙ agree) c.in_ok-spared.ensures)
  where
    not_failed : (r : Result Found RowFault) (found : Found) → r ≡ Ok found → IsErrOf r row_faults.Disk → ⊥
    not_failed r found is e = let both : Ok found ≡ Err row_faults.Disk = sym is ∙ e in cc

pub returns-clause-whole : goal.returns-clause-whole
returns-clause-whole g c meaning n w =
    let s = g.D.Disk.state in
    let old = c.args.self.now in
    let d = devs s old in
    let found = c.in_ok-found.found in
    let is = was_ok c.find_rows.result found c.in_ok-found.ensures in
    let are : IsFound d.chunks d.held found = subst (λ x. IfOk x (IsFound d.chunks d.held)) is c.find_rows.ensures.found in
    let none : hidden_rows d ≡ [] = whole_shown meaning d n w are.rising in
    (no_hidden found.hidden (subst (λ (l : List (List ℕ)). HasIds l found.hidden) none are.hidden), whole_spared meaning d n w are.rising c.in_ok-spared.spared (returns-clause-spared g c))

pub returns-then-is_down-clause-fuse : goal.returns-then-is_down-clause-fuse
returns-then-is_down-clause-fuse g c = keeps_same g.D.Disk.state c.args.self.now c.args.self.now refl refl refl

pub returns-in_err-found-clause-fuse : goal.returns-in_err-found-clause-fuse
returns-in_err-found-clause-fuse g c = row_same g.D.Disk.state c.args.self.now c.find_rows.new.row_dev c.find_rows.ensures.reads.fuse

pub returns-in_err-_recovery-clause-fuse : goal.returns-in_err-_recovery-clause-fuse
returns-in_err-_recovery-clause-fuse g c =
    let s = g.D.Disk.state in
    let old = c.args.self.now in
    let read = record old { rows = c.find_rows.new.row_dev } in
    keeps_then s old read c.left_over.new.self (row_same s old c.find_rows.new.row_dev c.find_rows.ensures.reads.fuse) (keeps_vaults s read c.left_over.new.self c.left_over.ensures.vault (ap rows.vault_of c.left_over.ensures.rows) (ap logs.vault_of c.left_over.ensures.log))

pub returns-in_err-named-clause-fuse : goal.returns-in_err-named-clause-fuse
returns-in_err-named-clause-fuse g c =
    let s = g.D.Disk.state in
    let old = c.args.self.now in
    let read = record old { rows = c.find_rows.new.row_dev } in
    keeps_then s old read c.left_over.new.self (row_same s old c.find_rows.new.row_dev c.find_rows.ensures.reads.fuse) (keeps_vaults s read c.left_over.new.self c.left_over.ensures.vault (ap rows.vault_of c.left_over.ensures.rows) (ap logs.vault_of c.left_over.ensures.log))

pub returns-in_err-spared-clause-fuse : goal.returns-in_err-spared-clause-fuse
returns-in_err-spared-clause-fuse g c =
    let s = g.D.Disk.state in
    let old = c.args.self.now in
    let read = record old { rows = c.find_rows.new.row_dev } in
    keeps_then s old read c.left_over.new.self (row_same s old c.find_rows.new.row_dev c.find_rows.ensures.reads.fuse) (keeps_vaults s read c.left_over.new.self c.left_over.ensures.vault (ap rows.vault_of c.left_over.ensures.rows) (ap logs.vault_of c.left_over.ensures.log))

pub returns-clause-fuse : goal.returns-clause-fuse
returns-clause-fuse g c =
    let s = g.D.Disk.state in
    let old = c.args.self.now in
    let read = record old { rows = c.find_rows.new.row_dev } in
    keeps_then s old read (record c.left_over.new.self { scanned = record { hidden = c.in_ok-found.found.hidden; spared = c.in_ok-spared.spared } }) (row_same s old c.find_rows.new.row_dev c.find_rows.ensures.reads.fuse) (keeps_vaults s read (record c.left_over.new.self { scanned = record { hidden = c.in_ok-found.found.hidden; spared = c.in_ok-spared.spared } }) c.left_over.ensures.vault (ap rows.vault_of c.left_over.ensures.rows) (ap logs.vault_of c.left_over.ensures.log))
