use Rattle.std.proofs.Common.{◌≡◌, ◌++◌, ◌∷◌, [], ◌+◌, List, ℕ, length, take, refl, sym, ◌∙◌, ap, subst, rules, arith}
use Rattle.disk_trait.proofs.Moments.{leaves_weaker}
use Rattle.vault.specs.File.{places_from, frame_of, StandsForOne, IsBeforeOrAfter, IsBehindGate}
use Rattle.vault.specs.Standing.{payloads}
use Rattle.vault.proofs.Behind.{appended_file, appended_stands, appended_short, appended_size, behind_lists, before_lists}
use Rattle.vault.proofs.Openings.{closed_at, places_grow}
use Rattle.vault.proofs.Quiet.{still}
use Rattle.vault.proofs.vault.Vault.append.Goals as goal

pub returns-in-Ok-clause-opened : goal.returns-in-Ok-clause-opened
returns-in-Ok-clause-opened g c =
    let s = c.requires.ready c.if-self.false in
    let r = c.requires.room c.if-self.false in
    let ps = payloads g.D.Disk.state c.args.self.now in
    let p = c.args.payload.now in
    let gate = c.args.self.now.gate in
    let file = (g.D.Disk.state c.args.self.now.disk).seen in
    let new = (g.D.Disk.state c.put_behind.new.disk).seen in
    let frame : c.deref.result.now ≡ frame_of p = search rules in
    let from : new ≡ take gate file ++ 165 ∷ frame_of p = c.in-Ok.ensures.written ∙ ap (λ (l : List ℕ). take gate file ++ 165 ∷ l) frame in
    let size = s.looked.ends.front.size in
    let short = s.looked.ends.front.short in
    let at = closed_at new (gate + (5 + length p)) (ps ++ p ∷ []) (appended_file ps file p gate s.file size short c.requires.short new from) (appended_short ps file p gate s.file size short c.requires.short) (appended_size ps file p gate s.file size short c.requires.short) in
    let pushed : c.push.new.self.items ≡ c.args.self.now.places.items ++ gate ∷ [] = search rules in
    record {
      looked = record {
        up = s.looked.up;
        synced = c.in-Ok.ensures.durable;
        ends = at.ends;
        within = omega (arith, at.length_is);
        small = omega (arith, r.fits);
        places = pushed ∙ (places_grow c.args.self.now.places.items gate ps p s.looked.places size ∙ ap (places_from 0) (sym at.list));
      };
      file = at.file;
      gate = at.length_is;
    }

pub returns-in-Ok-clause-added : goal.returns-in-Ok-clause-added
returns-in-Ok-clause-added g c =
    let s = c.requires.ready c.if-self.false in
    let ps = payloads g.D.Disk.state c.args.self.now in
    let p = c.args.payload.now in
    let gate = c.args.self.now.gate in
    let file = (g.D.Disk.state c.args.self.now.disk).seen in
    let new = (g.D.Disk.state c.put_behind.new.disk).seen in
    let frame : c.deref.result.now ≡ frame_of p = search rules in
    let from : new ≡ take gate file ++ 165 ∷ frame_of p = c.in-Ok.ensures.written ∙ ap (λ (l : List ℕ). take gate file ++ 165 ∷ l) frame in
    let size = s.looked.ends.front.size in
    let short = s.looked.ends.front.short in
    (closed_at new (gate + (5 + length p)) (ps ++ p ∷ []) (appended_file ps file p gate s.file size short c.requires.short new from) (appended_short ps file p gate s.file size short c.requires.short) (appended_size ps file p gate s.file size short c.requires.short)).list

pub returns-in-Ok-clause-any_moment : goal.returns-in-Ok-clause-any_moment
returns-in-Ok-clause-any_moment g c up =
    let s = c.requires.ready up in
    let ps = payloads g.D.Disk.state c.args.self.now in
    let p = c.args.payload.now in
    let gate = c.args.self.now.gate in
    let file = (g.D.Disk.state c.args.self.now.disk).seen in
    let frame : c.deref.result.now ≡ frame_of p = search rules in
    leaves_weaker g.D.Disk.state g.D.Disk.images c.args.self.now.disk c.put_behind.new.disk (IsBehindGate file gate c.deref.result.now) (StandsForOne (IsBeforeOrAfter ps p)) c.put_behind.ensures.any_moment
    (λ image is. behind_lists ps file p gate s.file s.looked.ends.front.size s.looked.ends.front.short c.requires.short image (subst (λ (l : List ℕ). IsBehindGate file gate l image) frame is))

pub returns-in-Err-clause-any_moment : goal.returns-in-Err-clause-any_moment
returns-in-Err-clause-any_moment g c up =
    let s = c.requires.ready up in
    let ps = payloads g.D.Disk.state c.args.self.now in
    let p = c.args.payload.now in
    let gate = c.args.self.now.gate in
    let file = (g.D.Disk.state c.args.self.now.disk).seen in
    let frame : c.deref.result.now ≡ frame_of p = search rules in
    leaves_weaker g.D.Disk.state g.D.Disk.images c.args.self.now.disk c.put_behind.new.disk (IsBehindGate file gate c.deref.result.now) (StandsForOne (IsBeforeOrAfter ps p)) c.put_behind.ensures.any_moment
    (λ image is. behind_lists ps file p gate s.file s.looked.ends.front.size s.looked.ends.front.short c.requires.short image (subst (λ (l : List ℕ). IsBehindGate file gate l image) frame is))

pub returns-in-Err-clause-early : goal.returns-in-Err-clause-early
returns-in-Err-clause-early g c up within =
    let s = c.requires.ready up in
    let ps = payloads g.D.Disk.state c.args.self.now in
    let file = (g.D.Disk.state c.args.self.now.disk).seen in
    let gate = c.args.self.now.gate in
    leaves_weaker g.D.Disk.state g.D.Disk.images c.args.self.now.disk c.put_behind.new.disk (λ image. take (gate + 1) image ≡ file) (StandsForOne (λ list. list ≡ ps)) (c.put_behind.ensures.early within.0 within.1)
    (λ image is. (ps, before_lists ps file c.args.payload.now gate s.file s.looked.ends.front.size s.looked.ends.front.short c.requires.short image is, refl))

pub returns-in-Ok-clause-durable : goal.returns-in-Ok-clause-durable
returns-in-Ok-clause-durable g c =
    let s = c.requires.ready c.if-self.false in
    let ps = payloads g.D.Disk.state c.args.self.now in
    let p = c.args.payload.now in
    let gate = c.args.self.now.gate in
    let file = (g.D.Disk.state c.args.self.now.disk).seen in
    let new = (g.D.Disk.state c.put_behind.new.disk).seen in
    let frame : c.deref.result.now ≡ frame_of p = search rules in
    let from : new ≡ take gate file ++ 165 ∷ frame_of p = c.in-Ok.ensures.written ∙ ap (λ (l : List ℕ). take gate file ++ 165 ∷ l) frame in
    still g.D.Disk.state g.D.Disk.images g.met.D.Disk.only_now c.put_behind.new.disk c.in-Ok.ensures.durable (StandsForOne (λ list. list ≡ ps ++ p ∷ [])) (ps ++ p ∷ [], appended_stands ps file p gate s.file s.looked.ends.front.size s.looked.ends.front.short c.requires.short new from, refl)
