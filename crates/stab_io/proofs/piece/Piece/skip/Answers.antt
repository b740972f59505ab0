use Rattle.std.proofs.Common.{◌≡◌, ℕ, ◌+◌, ◌-◌, ◌≤◌, List, length, take, drop, sym, ap, ◌∙◌, length-take, arith}
use Rattle.std.proofs.lemmas.List.{drop-take, drop-drop}
use Rattle.stab_io.proofs.piece.Piece.skip.Goals as goal

skipped : (bytes : List ℕ) (start end count : ℕ) → count ≤ end - start
    → take (end - (start + count)) (drop (start + count) bytes) ≡ drop count (take (end - start) (drop start bytes))
skipped bytes start end count le =
    let left = end - (start + count) in
    let e : end - start ≡ count + left = omega arith in
    sym (ap (λ n. drop count (take n (drop start bytes))) e ∙ drop-take count left (drop start bytes) ∙ ap (λ xs. take left xs) (drop-drop count start bytes))

pub returns : goal.returns
returns c =
    let view : take (c.self.inside.end - c.self.inside.start) (drop c.self.inside.start c.self.inside.bytes) ≡ c.args.self.now = c.self.view_is in
    skipped c.self.inside.bytes c.self.inside.start c.self.inside.end c.args.count
    (omega (arith, c.requires, ap (λ (xs : List ℕ). length xs) view, length-take (c.self.inside.end - c.self.inside.start) (drop c.self.inside.start c.self.inside.bytes)))
    ∙ ap (λ xs. drop c.args.count xs) view
