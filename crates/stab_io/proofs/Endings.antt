-- The end of the input, and a last line without a newline.
use Rattle.std.proofs.Common.{◌≡◌, ℕ, ◌+◌, ◌<◌, List, [], ◌++◌, length, Option, None, Some, Ok, refl, sym, ap, ◌∙◌, subst, append-nil}
use Rattle.std.specs.Prelude.{IfSome, IfNone, MatchOption}
use Rattle.std.specs.Global.{Vec}
use Rattle.std.specs.Io.KnownBytes.{Keeps, IsAtEnd}
use Rattle.stab_io.specs.Lines.{Line, End, next_of}
use Rattle.stab_io.specs.Reading.{Reading, ahead, IsNextLine, ComesNext, IsUnfinished, IsDue}
use Rattle.stab_io.proofs.NextLine.{held_last, is_end}

-- what `last_line` says of its answer
abbrev pub IsLast : Reading → Reading → Option (Vec ℕ) → Type 0
IsLast before after found =
    MatchOption found ((before.held ≡ []) × (after ≡ before))
    (λ line. (line.items ≡ before.held) × (0 < length before.held) × (after ≡ record before { used = before.used + length before.held; held = [] }))

-- where the bytes are told, those held are all
all_held : (start now : Reading) (left left_now : Option (List ℕ)) → Keeps (ahead start left) (ahead now left_now) → IsAtEnd left_now
    → IfSome (ahead start left) (λ bytes. (bytes ≡ now.held) × (left_now ≡ Some []))
all_held start now None left_now keeps end = tt
all_held start now (Some more) None keeps end = absurd keeps
all_held start now (Some more) (Some rest) keeps end =
    (sym keeps ∙ ap (λ xs. now.held ++ xs) end ∙ append-nil now.held, ap (λ (xs : List ℕ). Some xs) end)

pub ends : (start now after : Reading) (left left_now : Option (List ℕ)) (found : Option (Vec ℕ)) → now.used ≡ start.used → now.limits ≡ start.limits
    → Keeps (ahead start left) (ahead now left_now) → IsAtEnd left_now → IsLast now after found → IfNone found (ComesNext start left End)
ends start now after left left_now (Some line) used limits keeps end last = tt
ends start now after None left_now None used limits keeps end last = tt
ends start now after (Some more) left_now None used limits keeps end last =
    let all = all_held start now (Some more) left_now keeps end in
    subst (λ bytes. next_of start.limits start.used bytes ≡ End) (sym (all.0 ∙ last.0)) (is_end start.limits start.used)

pub last_found : (start now after : Reading) (left left_now : Option (List ℕ)) (found : Option (Vec ℕ)) → now.used ≡ start.used → now.limits ≡ start.limits
    → Keeps (ahead start left) (ahead now left_now) → IsAtEnd left_now → IsUnfinished now → IsLast now after found
    → IfSome found (λ line. IsNextLine start left line.items after left_now)
last_found start now after left left_now None used limits keeps end plain last = tt
last_found start now after None left_now (Some line) used limits keeps end plain last = tt
last_found start now after (Some more) left_now (Some line) used limits keeps end plain last =
    let all = all_held start now (Some more) left_now keeps end in
    let next = held_last now.limits now.used now.held plain.0 last.1 plain.1 plain.2 in
    rw (all.1, last.2, last.0, all.0, ← used, ← limits) next

pub unfinished_still : (before after : Reading) → after.held ≡ before.held → after.used ≡ before.used → after.limits ≡ before.limits → IsUnfinished before → IsUnfinished after
unfinished_still before after held used limits h = rw (held, used, limits) h

pub last_due : (start now after : Reading) (left left_now : Option (List ℕ)) (found : Option (Vec ℕ)) → now.used ≡ start.used → now.limits ≡ start.limits
    → Keeps (ahead start left) (ahead now left_now) → IsAtEnd left_now → IsUnfinished now → IsLast now after found
    → IfSome (ahead start left) (λ bytes. IsDue start.limits (next_of start.limits start.used bytes) (Ok found))
last_due start now after None left_now found used limits keeps end plain last = tt
last_due start now after (Some more) left_now None used limits keeps end plain last =
    let all = all_held start now (Some more) left_now keeps end in
    let next : next_of start.limits start.used (start.held ++ more) ≡ End = subst (λ bytes. next_of start.limits start.used bytes ≡ End) (sym (all.0 ∙ last.0)) (is_end start.limits start.used) in
    rw next refl
last_due start now after (Some more) left_now (Some line) used limits keeps end plain last =
    let all = all_held start now (Some more) left_now keeps end in
    let next : next_of start.limits start.used (start.held ++ more) ≡ Line now.held [] =
    rw (all.0, ← used, ← limits) (held_last now.limits now.used now.held plain.0 last.1 plain.1 plain.2) in
    rw next last.0
