use Rattle.std.proofs.Common.{◌≡◌, ◌+◌, ◌<◌, ◌≤◌, List, ℕ, [], length, get_or, take, drop, Some, refl, sym, ◌∙◌, ap, subst, arith}
use Rattle.std.proofs.lemmas.Option.{slice_get-get_or}
use Rattle.vault.specs.File.{payloads_of, StandsForOne}
use Rattle.vault.specs.Standing.{payloads}
use Rattle.vault.proofs.Quiet.{quiet}
use Rattle.vault.proofs.Spots.{held}
use Rattle.vault.proofs.vault.Vault.get.Goals as goal

pub span-at-requires-clause-index : goal.span-at-requires-clause-index
span-at-requires-clause-index g c =
    let s = c.requires.ready c.if-self.false in
    let file = (g.D.Disk.state c.args.self.now.disk).seen in
    let h = held file c.args.self.now.places.items c.args.self.now.gate c.args.index (payloads_of file) s.ends.front s.places (c.requires.index c.if-self.false) in
    omega (arith, h.index, c.deref.ensures.len)

pub span-at-requires-clause-fits : goal.span-at-requires-clause-fits
span-at-requires-clause-fits g c =
    let s = c.requires.ready c.if-self.false in
    let file = (g.D.Disk.state c.args.self.now.disk).seen in
    let h = held file c.args.self.now.places.items c.args.self.now.gate c.args.index (payloads_of file) s.ends.front s.places (c.requires.index c.if-self.false) in
    subst (λ (l : List ℕ). get_or l c.args.index 0 + 5 ≤ get_or l (c.args.index + 1) c.args.self.now.gate) (sym c.deref.ensures.value) (omega (arith, h.fits))

pub span-at-requires-clause-small : goal.span-at-requires-clause-small
span-at-requires-clause-small g c =
    let s = c.requires.ready c.if-self.false in
    let file = (g.D.Disk.state c.args.self.now.disk).seen in
    let h = held file c.args.self.now.places.items c.args.self.now.gate c.args.index (payloads_of file) s.ends.front s.places (c.requires.index c.if-self.false) in
    subst (λ (l : List ℕ). get_or l (c.args.index + 1) c.args.self.now.gate < 4611686018427387904) (sym c.deref.ensures.value) (omega (arith, h.last, s.small))

pub read_payload-requires : goal.read_payload-requires
read_payload-requires g c =
    let s = c.requires.ready c.if-self.false in
    let file = (g.D.Disk.state c.args.self.now.disk).seen in
    let h = held file c.args.self.now.places.items c.args.self.now.gate c.args.index (payloads_of file) s.ends.front s.places (c.requires.index c.if-self.false) in
    let end : c.span-at.result.0 + c.span-at.result.1 ≡ get_or c.args.self.now.places.items (c.args.index + 1) c.args.self.now.gate = c.span-at.ensures.len ∙ ap (λ (l : List ℕ). get_or l (c.args.index + 1) c.args.self.now.gate) c.deref.ensures.value in
    omega (arith, end, h.last, s.within)

pub returns-in-Ok-clause-payload : goal.returns-in-Ok-clause-payload
returns-in-Ok-clause-payload g c =
    let s = c.requires.ready c.if-self.false in
    let file = (g.D.Disk.state c.args.self.now.disk).seen in
    let places = c.args.self.now.places.items in
    let gate = c.args.self.now.gate in
    let i = c.args.index in
    let ps = payloads_of file in
    let lt : i < length ps = c.requires.index c.if-self.false in
    let p = get_or ps i [] in
    let h = held file places gate i ps s.ends.front s.places lt in
    let at : c.span-at.result.0 ≡ get_or places i 0 + 5 = c.span-at.ensures.at ∙ ap (λ (l : List ℕ). get_or l i 0 + 5) c.deref.ensures.value in
    let end : c.span-at.result.0 + c.span-at.result.1 ≡ get_or places (i + 1) gate = c.span-at.ensures.len ∙ ap (λ (l : List ℕ). get_or l (i + 1) gate) c.deref.ensures.value in
    let len : c.span-at.result.1 ≡ length p = omega (arith, at, end, h.fits) in
    let items : c.read_payload.new.out.items ≡ p = c.in-Ok.ensures.bytes ∙ (ap (λ (n : ℕ). take n (drop c.span-at.result.0 file)) len ∙ (ap (λ (n : ℕ). take (length p) (drop n file)) at ∙ h.bytes)) in
    slice_get-get_or ps i [] lt ∙ ap (λ (q : List ℕ). Some q) (sym items)

pub returns-in-Ok-clause-any_moment : goal.returns-in-Ok-clause-any_moment
returns-in-Ok-clause-any_moment g c up sound =
    quiet g.D.Disk.state g.D.Disk.images g.met.D.Disk.only_now c.args.self.now.disk (c.requires.ready up).synced (StandsForOne (λ list. list ≡ payloads g.D.Disk.state c.args.self.now)) (payloads g.D.Disk.state c.args.self.now, sound, refl)
    c.read_payload.new.disk c.read_payload.ensures.same c.read_payload.ensures.time

pub returns-in-Err-clause-any_moment : goal.returns-in-Err-clause-any_moment
returns-in-Err-clause-any_moment g c up sound =
    quiet g.D.Disk.state g.D.Disk.images g.met.D.Disk.only_now c.args.self.now.disk (c.requires.ready up).synced (StandsForOne (λ list. list ≡ payloads g.D.Disk.state c.args.self.now)) (payloads g.D.Disk.state c.args.self.now, sound, refl)
    c.read_payload.new.disk c.read_payload.ensures.same c.read_payload.ensures.time
