use Rattle.std.proofs.Common.{◌≡◌, ℕ, ◌+◌, ◌==◌, List, ◌++◌, length, take, Some, sym, ap, ◌∙◌, subst, arith, refl, length-append}
use Rattle.std.specs.Global.{Vec}
use Rattle.std.specs.List.{position}
use Rattle.stab_io.specs.Reading.{Reading, Refuses, CutsLine, IsUnfinished}
use Rattle.stab_io.proofs.NextLine.{some_found}
use Rattle.stab_io.proofs.Refusals.{refuses_held, refuses_found, cuts_found, plain_held}
use Rattle.stab_io.proofs.lines.LineReader.whole_line.Goals as goal

pub returns-in-Some-limit_passed-clause-refused : goal.returns-in-Some-limit_passed-clause-refused
returns-in-Some-limit_passed-clause-refused c =
    let s = c.self.inside in
    let piece = c.as_slice-piece.ensures.value in
    let none = sym c.newline_at.ensures ∙ c.in_default.is in
    subst (λ (r : Reading). Refuses r c.in-Some-limit_passed.fault) c.self.view_is
    (refuses_held (record { used = s.used; held = s.line.items ++ s.piece; stopped = s.stopped; limits = s.limits }) _ (c.len.result + length c.as_slice-piece.result.now)
    (plain_held s.line.items s.piece _ c.self.invariant.0 piece none) c.self.invariant.2
    (omega (arith, c.len.ensures, s.line.ok.0, ap (λ (xs : List ℕ). length xs) piece, length-append s.line.items s.piece)) c.in-Some-limit_passed.ensures.passed)

pub returns-in_default-clause-line : goal.returns-in_default-clause-line
returns-in_default-clause-line c =
    let s = c.self.inside in
    let piece = c.as_slice-piece.ensures.value in
    let none = sym c.newline_at.ensures ∙ c.in_default.is in
    let passed = c.in_default-limit_passed.ensures.passed in
    let len : c.len.result + length c.as_slice-piece.result.now ≡ length (s.line.items ++ s.piece) =
    omega (arith, c.len.ensures, s.line.ok.0, ap (λ (xs : List ℕ). length xs) piece, length-append s.line.items s.piece) in (
      subst (λ (r : Reading). IsUnfinished r) c.self.view_is
          (plain_held s.line.items s.piece _ c.self.invariant.0 piece none, omega (arith, len, passed.0), omega (arith, len, passed.1)),
      refl,
    )

pub returns-in-Some-limit_passed-2-clause-refused :
    goal.returns-in-Some-limit_passed-2-clause-refused
returns-in-Some-limit_passed-2-clause-refused c =
    let s = c.self.inside in
    let piece = c.as_slice-piece.ensures.value in
    let place : position (λ b. b == 10) s.piece ≡ Some c.in-Some.at =
    ap (λ xs. position (λ b. b == 10) xs) (sym piece) ∙ sym c.newline_at.ensures ∙ c.in-Some.is in
    let found = some_found s.piece c.in-Some.at place in
    subst (λ (r : Reading). Refuses r c.in-Some-limit_passed-2.fault) c.self.view_is
    (refuses_found s.limits s.used s.line.items s.piece s.stopped _ c.in-Some.at (c.len-2.result + c.in-Some.at)
    c.self.invariant.0 found.0 found.1 (omega (arith, c.len-2.ensures, s.line.ok.0)) c.in-Some-limit_passed-2.ensures.passed)

pub returns-clause-line : goal.returns-clause-line
returns-clause-line c =
    let s = c.self.inside in
    let piece = c.as_slice-piece.ensures.value in
    let place : position (λ b. b == 10) s.piece ≡ Some c.in-Some.at =
    ap (λ xs. position (λ b. b == 10) xs) (sym piece) ∙ sym c.newline_at.ensures ∙ c.in-Some.is in
    let found = some_found s.piece c.in-Some.at place in
    let passed = c.in_default-limit_passed-2.ensures.passed in
    let line = ap (λ (v : Vec ℕ). v.items) c.replace.ensures.value ∙ c.in_ok-extend_from_slice.ensures.items ∙ ap (λ xs. s.line.items ++ take c.in-Some.at xs) piece in
    let rest = ap (λ xs. xs ++ c.skip.new.self) (ap (λ (v : Vec ℕ). v.items) c.replace.ensures.after ∙ c.new.ensures.items) ∙ c.skip.ensures in
    subst (λ (r : Reading). CutsLine r c.replace.result.items (record { used = s.used + (c.len-2.result + c.in-Some.at + 1); held = c.replace.new.dest.items ++ c.skip.new.self; stopped = s.stopped; limits = s.limits })) c.self.view_is
    (cuts_found s.limits s.used _ s.line.items s.piece _ _ s.stopped c.in-Some.at (c.len-2.result + c.in-Some.at)
    c.self.invariant.0 found.0 found.1 (omega (arith, c.len-2.ensures, s.line.ok.0)) passed.0 passed.1 refl line rest)
