use Rattle.std.proofs.Common.{◌≡◌, ◌<◌, ◌+◌, ◌-◌, ◌++◌, ℕ, List, length, take, subst, ◌∙◌, arith, length-append}
use Rattle.sim_frame.specs.Stream.{IsBroken}
use Rattle.sim_frame.specs.Opening.{held_of, IsSized}
use Rattle.sim_frame.proofs.Fronts.{by_five, broken_by_five, sized_by_five, less_held, still_front, now_whole}
use Rattle.sim_frame.proofs.part.Part.next.Goals as goal

pub overflow_sub-need : goal.overflow_sub-need
overflow_sub-need c =
    let part = c.args.self.now in
    let piece = c.args.piece.now in
    let five : c.as_slice-2.result.now ≡ take 5 (held_of part ++ piece) = by_five part piece c.as_slice.result.now c.as_slice-2.result.now c.requires.shape c.as_slice.ensures.value (c.as_slice-2.ensures.value ∙ c.filled.ensures) in
    let sized : IsSized (held_of part ++ piece) c.in-Sized.len = sized_by_five (held_of part ++ piece) c.in-Sized.len (subst (λ (l : List ℕ). IsSized l c.in-Sized.len) five c.in-Sized.ensures) in
    let less : length (held_of part) < 4 + c.in-Sized.len = less_held (held_of part) piece c.in-Sized.len c.requires.front sized in
    omega (arith, less, length-append part.head.items part.body.items, c.len.ensures.value, c.len-in-Sized.ensures, part.body.ok.0)

pub returns-then-piece-need : goal.returns-then-piece-need
returns-then-piece-need c =
    let part = c.args.self.now in
    let piece = c.args.piece.now in
    let five : c.as_slice-2.result.now ≡ take 5 (held_of part ++ piece) = by_five part piece c.as_slice.result.now c.as_slice-2.result.now c.requires.shape c.as_slice.ensures.value (c.as_slice-2.ensures.value ∙ c.filled.ensures) in
    let sized : IsSized (held_of part ++ piece) c.in-Sized.len = sized_by_five (held_of part ++ piece) c.in-Sized.len (subst (λ (l : List ℕ). IsSized l c.in-Sized.len) five c.in-Sized.ensures) in
    let less : length (held_of part) < 4 + c.in-Sized.len = less_held (held_of part) piece c.in-Sized.len c.requires.front sized in
    let need : ℕ = c.in-Sized.len + 4 - (c.len.result + c.len-in-Sized.result) in
    let size : length (held_of part) + need ≡ 4 + c.in-Sized.len = omega (arith, less, length-append part.head.items part.body.items, c.len.ensures.value, c.len-in-Sized.ensures, part.body.ok.0) in
    still_front (held_of part) piece c.in-Sized.len need sized size c.if-piece-need.true

pub returns-in-Bad : goal.returns-in-Bad
returns-in-Bad c =
    let part = c.args.self.now in
    let piece = c.args.piece.now in
    let five : c.as_slice-2.result.now ≡ take 5 (held_of part ++ piece) = by_five part piece c.as_slice.result.now c.as_slice-2.result.now c.requires.shape c.as_slice.ensures.value (c.as_slice-2.ensures.value ∙ c.filled.ensures) in
    broken_by_five (held_of part ++ piece) c.in-Bad.len (subst (λ (l : List ℕ). IsBroken l c.in-Bad.len) five c.in-Bad.ensures)

pub returns-else-piece-need : goal.returns-else-piece-need
returns-else-piece-need c =
    let part = c.args.self.now in
    let piece = c.args.piece.now in
    let five : c.as_slice-2.result.now ≡ take 5 (held_of part ++ piece) = by_five part piece c.as_slice.result.now c.as_slice-2.result.now c.requires.shape c.as_slice.ensures.value (c.as_slice-2.ensures.value ∙ c.filled.ensures) in
    let sized : IsSized (held_of part ++ piece) c.in-Sized.len = sized_by_five (held_of part ++ piece) c.in-Sized.len (subst (λ (l : List ℕ). IsSized l c.in-Sized.len) five c.in-Sized.ensures) in
    let less : length (held_of part) < 4 + c.in-Sized.len = less_held (held_of part) piece c.in-Sized.len c.requires.front sized in
    let need : ℕ = c.in-Sized.len + 4 - (c.len.result + c.len-in-Sized.result) in
    let size : length (held_of part) + need ≡ 4 + c.in-Sized.len = omega (arith, less, length-append part.head.items part.body.items, c.len.ensures.value, c.len-in-Sized.ensures, part.body.ok.0) in
    (c.if-piece-need.false, now_whole (held_of part) piece c.in-Sized.len need sized size c.if-piece-need.false)
