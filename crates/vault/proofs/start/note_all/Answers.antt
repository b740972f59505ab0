use Rattle.std.proofs.Common.{◌≡◌, ◌+◌, List, ℕ, take, sym, ◌∙◌, subst, rules}
use Rattle.std.specs.Prelude.{IsErrOf}
use Rattle.vault.specs.declared.fault.VaultFault.TheVariants.{Memory}
use Rattle.vault.specs.Standing as vaults
use Rattle.vault.proofs.Uppers.{runs_then}
use Rattle.vault.proofs.Stayings.{vault_stays, stays_then, same_fuse, same_fuse_then, looked_leaves}
use Rattle.vault.proofs.start.note_all.Goals as goal

pub loop-index-init : goal.loop-index-init
loop-index-init g c =
    let vault = c.args.vault.now in
    record {
      count = c.records-count.ensures c.requires.looked.up;
      looked = c.requires.looked;
      stays = vault_stays g.D.Disk.state vault;
      fits = c.start-memory.ensures;
      moment = looked_leaves g.D.Disk.state g.D.Disk.images g.met.D.Disk.only_now vault c.requires.looked;
      faults = search rules;
      fuse = same_fuse g.D.Disk.state vault;
    }

pub loop-index-preserved : goal.loop-index-preserved
loop-index-preserved g c =
    let state = g.D.Disk.state in
    let old = c.args.vault.now in
    let mid = c.loop-index.vault in
    let new = c.note_next.new.vault in
    let inv = c.loop-index.invariant in
    let s : vaults.Stays state mid new = c.in_ok-note_next.ensures.stays in
    let ps = vaults.payloads state old in
    let i = c.loop-index.index in
    record {
      count = inv.count;
      looked = s.looked inv.looked;
      stays = stays_then state old mid new inv.stays s;
      fits = subst (λ (l : List (List ℕ)). g.F.Fold.fits c.note_next.new.memory (take (i + 1) l)) inv.stays.same (c.in_ok-note_next.ensures.noted (subst (λ (l : List (List ℕ)). g.F.Fold.fits c.loop-index.memory (take i l)) (sym inv.stays.same) inv.fits));
      moment = λ sound.
          runs_then state g.D.Disk.images old mid new (λ list. list ≡ ps) (λ list. list ≡ vaults.payloads state mid) (λ list. list ≡ ps) (inv.moment sound) (c.note_next.ensures.any_moment (inv.stays.sound sound))
          (λ list is. is) (λ list is. is ∙ inv.stays.same);
      faults = c.in_ok-note_next.ensures.cause ∙ inv.faults;
      fuse = same_fuse_then state old mid new inv.fuse c.note_next.ensures.fuse;
    }

pub returns-in_err-note_next-clause-memory : goal.returns-in_err-note_next-clause-memory
returns-in_err-note_next-clause-memory g c is =
    let was : IsErrOf c.note_next.result Memory = search rules in
    stays_then g.D.Disk.state c.args.vault.now c.loop-index.vault c.note_next.new.vault c.loop-index.invariant.stays (c.note_next.ensures.memory was)
