use Rattle.std.proofs.Common.{◌≡◌, ◌+◌, ◌∙◌, ap, subst, min, ℕ, length, take}
use Rattle.disk_trait.specs.Image.{IsImage, settled, touched, shortened}
use Rattle.disk_trait.proofs.Moments.{leaves_then, leaves_weaker}
use Rattle.vault.specs.File.{payloads_of, StandsFor, FindsFirst}
use Rattle.vault.proofs.Repairs.{cut_stands, cut_keeps, cut_seen, set_stands, set_keeps}
use Rattle.vault.proofs.steps.close_gate.Goals as goal

pub returns-in_err-cut_durably-clause-any_moment : goal.returns-in_err-cut_durably-clause-any_moment
returns-in_err-cut_durably-clause-any_moment g c shut =
    let file = (g.D.Disk.state c.args.disk.now).seen in
    let ps = payloads_of file in
    let gate = c.args.gate in
    let end_is : c.min-end.result ≡ min (gate + 1) (length file) = c.min-end.ensures ∙ ap (λ (n : ℕ). min (gate + 1) n) c.len-len.ensures.len in
    leaves_weaker g.D.Disk.state g.D.Disk.images c.args.disk.now c.cut_durably.new.disk (IsImage (shortened c.min-end.result (settled file))) (λ image. StandsFor image ps) c.cut_durably.ensures.any_moment
    (λ image is. cut_stands file gate ps c.requires.ends shut image (subst (λ (n : ℕ). IsImage (shortened n (settled file)) image) end_is is))

pub returns-in_err-cut_durably-clause-keeps : goal.returns-in_err-cut_durably-clause-keeps
returns-in_err-cut_durably-clause-keeps g c =
    let file = (g.D.Disk.state c.args.disk.now).seen in
    let ps = payloads_of file in
    let gate = c.args.gate in
    let end_is : c.min-end.result ≡ min (gate + 1) (length file) = c.min-end.ensures ∙ ap (λ (n : ℕ). min (gate + 1) n) c.len-len.ensures.len in
    leaves_weaker g.D.Disk.state g.D.Disk.images c.args.disk.now c.cut_durably.new.disk (IsImage (shortened c.min-end.result (settled file))) (FindsFirst ps) c.cut_durably.ensures.any_moment
    (λ image is. cut_keeps file gate ps c.requires.ends image (subst (λ (n : ℕ). IsImage (shortened n (settled file)) image) end_is is))

pub returns-clause-any_moment : goal.returns-clause-any_moment
returns-clause-any_moment g c shut =
    let file = (g.D.Disk.state c.args.disk.now).seen in
    let ps = payloads_of file in
    let gate = c.args.gate in
    let end_is : c.min-end.result ≡ min (gate + 1) (length file) = c.min-end.ensures ∙ ap (λ (n : ℕ). min (gate + 1) n) c.len-len.ensures.len in
    let mid = (g.D.Disk.state c.cut_durably.new.disk).seen in
    let m = cut_seen file gate ps c.requires.ends mid (c.in_ok-cut_durably.ensures.cut ∙ ap (λ (n : ℕ). take n file) end_is) in
    leaves_then g.D.Disk.state g.D.Disk.images c.args.disk.now c.cut_durably.new.disk c.write_durably.new.disk (IsImage (shortened c.min-end.result (settled file))) (IsImage (touched gate 1 (settled mid))) (λ image. StandsFor image ps)
    c.cut_durably.ensures.any_moment c.write_durably.ensures.any_moment
    (λ image is. cut_stands file gate ps c.requires.ends shut image (subst (λ (n : ℕ). IsImage (shortened n (settled file)) image) end_is is))
    (set_stands mid gate ps m.0 m.1)

pub returns-clause-keeps : goal.returns-clause-keeps
returns-clause-keeps g c =
    let file = (g.D.Disk.state c.args.disk.now).seen in
    let ps = payloads_of file in
    let gate = c.args.gate in
    let end_is : c.min-end.result ≡ min (gate + 1) (length file) = c.min-end.ensures ∙ ap (λ (n : ℕ). min (gate + 1) n) c.len-len.ensures.len in
    let mid = (g.D.Disk.state c.cut_durably.new.disk).seen in
    let m = cut_seen file gate ps c.requires.ends mid (c.in_ok-cut_durably.ensures.cut ∙ ap (λ (n : ℕ). take n file) end_is) in
    leaves_then g.D.Disk.state g.D.Disk.images c.args.disk.now c.cut_durably.new.disk c.write_durably.new.disk (IsImage (shortened c.min-end.result (settled file))) (IsImage (touched gate 1 (settled mid))) (FindsFirst ps)
    c.cut_durably.ensures.any_moment c.write_durably.ensures.any_moment
    (λ image is. cut_keeps file gate ps c.requires.ends image (subst (λ (n : ℕ). IsImage (shortened n (settled file)) image) end_is is))
    (set_keeps mid gate ps m.0 m.1)
