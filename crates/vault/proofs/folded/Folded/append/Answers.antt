use Rattle.std.proofs.Common.{◌≡◌, ◌+◌, ◌++◌, ◌∷◌, [], ℕ, List, length, sym, subst, arith, rules, OnOk}
use Rattle.vault.specs.File.{IsBeforeOrAfter}
use Rattle.vault.specs.Standing as vaults
use Rattle.vault.proofs.Stayings.{only_own}
use Rattle.vault.proofs.folded.Folded.append.Goals as goal

pub returns-in_err-append-clause-appends : goal.returns-in_err-append-clause-appends
returns-in_err-append-clause-appends g c = record {
  opened = search rules;
  put = search rules;
  durable = search rules;
  room = search rules;
  any_moment = λ up. subst (λ (p : List ℕ). vaults.Leaves g.D.Disk.state g.D.Disk.images c.args.self.now.vault c.append.new.self (IsBeforeOrAfter (vaults.payloads g.D.Disk.state c.args.self.now.vault) p)) c.deref.ensures.value (c.append.ensures.any_moment up);
  early = search rules;
  failed = search rules;
  no_memory = search rules;
  fuse = search rules;
  refuses = record { down = search rules; unchanged = search rules; disk = search rules; cause = search rules };
  only = only_own _;
}

pub returns-clause-appends : goal.returns-clause-appends
returns-clause-appends g c = record {
  opened = search rules;
  put = search rules;
  durable = subst (λ (p : List ℕ). vaults.Leaves g.D.Disk.state g.D.Disk.images c.append.new.self c.append.new.self (λ list. list ≡ vaults.payloads g.D.Disk.state c.args.self.now.vault ++ p ∷ [])) c.deref.ensures.value c.in_ok-append.ensures.durable;
  room = λ o a b r.
      let has = g.F.Fold.has_spare in
      let old = c.args.self.now in
      let items : c.deref-2.result.now ≡ old.payload.items = c.deref-2.ensures.value in
      let spare : has old.memory (a + 1) (b + length c.deref-2.result.now) = subst (λ (l : List ℕ). has old.memory (a + 1) (b + length l)) (sym items) (r.memory (omega arith)) in
      let noted : OnOk c.note.result ((more size : ℕ) → has old.memory (more + 1) (size + length c.deref-2.result.now) → has c.note.new.self more size) = c.note.ensures.spare in
      record {
        vault = c.in_ok-append.ensures.room o a b (subst (λ (l : List ℕ). vaults.HasRoom g.D.Disk.state old.vault o (a + 1) (b + length l)) (sym c.deref.ensures.value) r.vault);
        memory = λ some. (rw c.unwrap.ensures at noted) a b spare;
        payload = λ some. omega (arith, r.payload (omega arith));
      };
  any_moment = λ up. subst (λ (p : List ℕ). vaults.Leaves g.D.Disk.state g.D.Disk.images c.args.self.now.vault c.append.new.self (IsBeforeOrAfter (vaults.payloads g.D.Disk.state c.args.self.now.vault) p)) c.deref.ensures.value (c.append.ensures.any_moment up);
  early = search rules;
  failed = search rules;
  no_memory = search rules;
  fuse = search rules;
  refuses = record { down = search rules; unchanged = search rules; disk = search rules; cause = search rules };
  only = tt;
}
