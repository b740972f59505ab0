use Rattle.std.proofs.Common.{◌≡◌, ◌++◌, ◌∷◌, [], ℕ, List, length, refl, sym, ◌∙◌, ap, subst, arith}
use Rattle.vault.specs.File.{payloads_of, places_from, records, EndsAt, StandsFor, StandsForOne}
use Rattle.vault.proofs.Openings.{one_gate}
use Rattle.disk_trait.specs.Image.{settled}
use Rattle.vault.specs.Standing.{payloads, IsLookedAt}
use Rattle.vault.proofs.Quiet.{quiet}
use Rattle.vault.proofs.vault.Vault.look.Goals as goal

pub returns-in-Ok-clause-any_moment : goal.returns-in-Ok-clause-any_moment
returns-in-Ok-clause-any_moment g c up sound =
    quiet g.D.Disk.state g.D.Disk.images g.met.D.Disk.only_now c.args.self.now.disk (c.requires.synced up) (StandsForOne (λ list. list ≡ payloads g.D.Disk.state c.args.self.now)) (payloads g.D.Disk.state c.args.self.now, sound, refl)
    c.look_through.new.disk c.look_through.ensures.same c.look_through.ensures.time

pub returns-in-Err-clause-any_moment : goal.returns-in-Err-clause-any_moment
returns-in-Err-clause-any_moment g c up sound =
    quiet g.D.Disk.state g.D.Disk.images g.met.D.Disk.only_now c.args.self.now.disk (c.requires.synced up) (StandsForOne (λ list. list ≡ payloads g.D.Disk.state c.args.self.now)) (payloads g.D.Disk.state c.args.self.now, sound, refl)
    c.look_through.new.disk c.look_through.ensures.same c.look_through.ensures.time

pub returns-in-Ok-clause-stays : goal.returns-in-Ok-clause-stays
returns-in-Ok-clause-stays g c was =
    let state = g.D.Disk.state in
    let same = c.look_through.ensures.same in
    let list : payloads_of (state c.look_through.new.disk).seen ≡ payloads_of (state c.args.self.now.disk).seen = ap payloads_of same.seen in
    let ends = c.in-Ok.ensures.ends in
    let gate : c.in-Ok.gate ≡ c.args.self.now.gate = one_gate (state c.args.self.now.disk).seen c.in-Ok.gate c.args.self.now.gate (payloads_of (state c.args.self.now.disk).seen) ends was.ends in
    let places : c.keep_places.new.kept.items ≡ c.args.self.now.places.items = c.keep_places.ensures.items ∙ (c.in-Ok.ensures.places ∙ sym was.places) in
    let size : length c.keep_places.new.kept.items ≡ length c.args.self.now.places.items = ap length places in
    let synced : (state c.look_through.new.disk).pending ≡ settled (state c.look_through.new.disk).seen = same.pending ∙ (was.synced ∙ ap settled (sym same.seen)) in
    let looked : IsLookedAt state _ = record {
      up = was.up;
      synced = synced;
      ends = subst (λ (l : List ℕ). EndsAt l c.in-Ok.gate (payloads_of l)) (sym same.seen) ends;
      within = omega (arith, ap length same.seen, c.in-Ok.ensures.within);
      small = omega (arith, c.in-Ok.ensures.fits);
      places = places ∙ (was.places ∙ ap (places_from 0) (sym list));
    } in
    record {
      same = list;
      down = refl;
      synced = λ h up. synced;
      looked = λ h. looked;
      opened = λ h. record {
        looked = looked;
        file = same.seen ∙ (h.file ∙ ap (λ (l : List (List ℕ)). records l ++ 0 ∷ []) (sym list));
        gate = omega (arith, ap length same.seen, h.gate, gate);
      };
      sound = λ h. subst (λ (l : List ℕ). StandsFor l (payloads_of l)) (sym same.seen) h;
      room = λ o a b r. record {
        len = omega (arith, gate, r.len, same.room);
        fits = omega (arith, gate, r.fits);
        calls_left = omega (arith, r.calls_left, same.calls);
        bytes_left = omega (arith, r.bytes_left, same.bytes);
        frame = r.frame;
        index = omega (arith, size, r.index, c.keep_places.ensures.capacity);
      };
    }
