-- One call more on the record.
use Rattle.std.proofs.Common.{◌≡◌, inl, inr, ℕ, ◌+◌, ◌<◌, ◌≤◌, List, [], ◌∷◌, ◌++◌, length, take, drop, refl, sym, ◌∙◌, ap, subst, arith, length-append, length-drop}
use Rattle.std.proofs.lemmas.List.{take_all, drop_all, take-append-le, drop-append-le, take-append-drop}
use Rattle.std.proofs.lemmas.Bool.{cases_lt}
use Rattle.disk_trait.specs.Image.{Pending, IsImage, LeavesLess, settled}
use Rattle.disk_trait.specs.Calls.{DiskState, Elapses}
use Rattle.disk_kit.specs.declared.memory.Call.{Call}
use Rattle.disk_kit.specs.Record.{Held, file_of, share, used, undo, rewind, note, noted, held_at, pending_at, LeftSince, IsKept}

used-append : (calls more : List Call) → used (calls ++ more) ≡ used calls + used more
used-append [] more = omega arith
used-append (c ∷ calls) more = omega (arith, used-append calls more)

used-split : (k : ℕ) (calls : List Call) → used (take k calls) + used (drop k calls) ≡ used calls
used-split k calls = sym (used-append (take k calls) (drop k calls)) ∙ ap used (take-append-drop k calls)

rewind-more : (calls : List Call) (pool more : List ℕ) (held : Held) → used calls ≤ length pool → rewind calls (pool ++ more) held ≡ rewind calls pool held
rewind-more [] pool more held all = refl
rewind-more (c ∷ calls) pool more held all =
    let le : share c ≤ length pool = omega arith in
    let left : used calls ≤ length (drop (share c) pool) = omega (arith, length-drop (share c) pool) in
    ap (λ (l : List ℕ). undo c (take (share c) (pool ++ more)) (rewind calls l held)) (drop-append-le (share c) pool more le)
    ∙ ap (λ (l : List ℕ). undo c l (rewind calls (drop (share c) pool ++ more) held)) (take-append-le (share c) pool more le)
    ∙ ap (λ (h : Held). undo c (take (share c) pool) h) (rewind-more calls (drop (share c) pool) more held left)

rewind-push : (calls : List Call) (pool : List ℕ) (call : Call) (saved : List ℕ) (held : Held) → used calls ≡ length pool → share call ≡ length saved
    → rewind (calls ++ call ∷ []) (pool ++ saved) held ≡ rewind calls pool (undo call saved held)
rewind-push [] [] call saved held all fits = ap (λ (l : List ℕ). undo call l held) (take_all (share call) saved (omega arith))
rewind-push [] (x ∷ pool) call saved held all fits = absurd (omega arith)
rewind-push (c ∷ calls) pool call saved held all fits =
    let le : share c ≤ length pool = omega arith in
    let left : used calls ≡ length (drop (share c) pool) = omega (arith, length-drop (share c) pool) in
    ap (λ (l : List ℕ). undo c (take (share c) (pool ++ saved)) (rewind (calls ++ call ∷ []) l held)) (drop-append-le (share c) pool saved le)
    ∙ ap (λ (l : List ℕ). undo c l (rewind (calls ++ call ∷ []) (drop (share c) pool ++ saved) held)) (take-append-le (share c) pool saved le)
    ∙ ap (λ (h : Held). undo c (take (share c) pool) h) (rewind-push calls (drop (share c) pool) call saved held left fits)

noted-more : (p : Pending) (calls : List Call) (pool more : List ℕ) (held : Held) → used calls ≤ length pool → noted p calls (pool ++ more) held ≡ noted p calls pool held
noted-more p [] pool more held all = refl
noted-more p (c ∷ calls) pool more held all =
    let le : share c ≤ length pool = omega arith in
    let left : used calls ≤ length (drop (share c) pool) = omega (arith, length-drop (share c) pool) in
    ap (λ (l : List ℕ). noted (note c (rewind calls l held) p) calls l held) (drop-append-le (share c) pool more le)
    ∙ ap (λ (h : Held). noted (note c h p) calls (drop (share c) pool ++ more) held) (rewind-more calls (drop (share c) pool) more held left)
    ∙ noted-more (note c (rewind calls (drop (share c) pool) held) p) calls (drop (share c) pool) more held left

noted-push : (p : Pending) (calls : List Call) (pool : List ℕ) (call : Call) (saved : List ℕ) (held : Held) → used calls ≡ length pool → share call ≡ length saved
    → noted p (calls ++ call ∷ []) (pool ++ saved) held ≡ note call held (noted p calls pool (undo call saved held))
noted-push p [] pool call saved held all fits = refl
noted-push p (c ∷ calls) pool call saved held all fits =
    let le : share c ≤ length pool = omega arith in
    let left : used calls ≡ length (drop (share c) pool) = omega (arith, length-drop (share c) pool) in
    ap (λ (l : List ℕ). noted (note c (rewind (calls ++ call ∷ []) l held) p) (calls ++ call ∷ []) l held) (drop-append-le (share c) pool saved le)
    ∙ ap (λ (h : Held). noted (note c h p) (calls ++ call ∷ []) (drop (share c) pool ++ saved) held) (rewind-push calls (drop (share c) pool) call saved held left fits)
    ∙ noted-push (note c (rewind calls (drop (share c) pool) (undo call saved held)) p) calls (drop (share c) pool) call saved held left fits

-- a record, and the same with one call more, after which other bytes are held
pub record IsPushed (calls : List Call) (pool : List ℕ) (held : Held) (calls' : List Call) (pool' : List ℕ) (held' : Held) (call : Call) (saved : List ℕ) : Type 0 where
  pub is_calls : calls' ≡ calls ++ call ∷ []
  pub is_pool : pool' ≡ pool ++ saved
  pub goes_back : undo call saved held' ≡ held
  pub fits : share call ≡ length saved

module _ (calls : List Call) (pool : List ℕ) (held : Held) (calls' : List Call) (pool' : List ℕ) (held' : Held) (call : Call) (saved : List ℕ) (kept : IsKept calls pool held) (pushed : IsPushed calls pool held calls' pool' held' call saved) where
  pub pushed_noted : noted (settled []) calls' pool' held' ≡ note call held' (noted (settled []) calls pool held)
  pushed_noted =
      ap (λ (cs : List Call). noted (settled []) cs pool' held') pushed.is_calls
      ∙ ap (λ (l : List ℕ). noted (settled []) (calls ++ call ∷ []) l held') pushed.is_pool
      ∙ noted-push (settled []) calls pool call saved held' kept.used_up pushed.fits
      ∙ ap (λ (h : Held). note call held' (noted (settled []) calls pool h)) pushed.goes_back

  length_pushed : length calls' ≡ length calls + 1
  length_pushed = ap length pushed.is_calls ∙ length-append calls (call ∷ [])

  pushed_used : used calls' ≡ length pool'
  pushed_used = omega (arith, ap used pushed.is_calls, ap length pushed.is_pool, length-append pool saved, used-append calls (call ∷ []), kept.used_up, pushed.fits)

  pushed_began : (rewind calls' pool' held').len ≡ 0
  pushed_began =
      ap (λ (cs : List Call). (rewind cs pool' held').len) pushed.is_calls
      ∙ ap (λ (l : List ℕ). (rewind (calls ++ call ∷ []) l held').len) pushed.is_pool
      ∙ ap (λ (h : Held). h.len) (rewind-push calls pool call saved held' kept.used_up pushed.fits)
      ∙ ap (λ (h : Held). (rewind calls pool h).len) pushed.goes_back
      ∙ kept.began

  pushed_held : (k : ℕ) → k ≤ length calls → held_at (calls ++ call ∷ []) (pool ++ saved) held' k ≡ held_at calls pool held k
  pushed_held k le =
      let front : used (take k calls) ≤ length pool = omega (arith, used-split k calls, kept.used_up) in
      let back : used (drop k calls) ≡ length (drop (used (take k calls)) pool) = omega (arith, used-split k calls, kept.used_up, length-drop (used (take k calls)) pool) in
      ap (λ (cs : List Call). rewind (drop k (calls ++ call ∷ [])) (drop (used cs) (pool ++ saved)) held') (take-append-le k calls (call ∷ []) le)
      ∙ ap (λ (cs : List Call). rewind cs (drop (used (take k calls)) (pool ++ saved)) held') (drop-append-le k calls (call ∷ []) le)
      ∙ ap (λ (l : List ℕ). rewind (drop k calls ++ call ∷ []) l held') (drop-append-le (used (take k calls)) pool saved front)
      ∙ rewind-push (drop k calls) (drop (used (take k calls)) pool) call saved held' back pushed.fits
      ∙ ap (λ (h : Held). rewind (drop k calls) (drop (used (take k calls)) pool) h) pushed.goes_back

  pushed_at : (k : ℕ) → k ≤ length calls → pending_at calls' pool' held' k ≡ pending_at calls pool held k
  pushed_at k le =
      let front : used (take k calls) ≤ length pool = omega (arith, used-split k calls, kept.used_up) in
      ap (λ (cs : List Call). pending_at cs pool' held' k) pushed.is_calls
      ∙ ap (λ (l : List ℕ). pending_at (calls ++ call ∷ []) l held' k) pushed.is_pool
      ∙ ap (λ (h : Held). noted (settled []) (take k (calls ++ call ∷ [])) (pool ++ saved) h) (pushed_held k le)
      ∙ ap (λ (cs : List Call). noted (settled []) cs (pool ++ saved) (held_at calls pool held k)) (take-append-le k calls (call ∷ []) le)
      ∙ noted-more (settled []) (take k calls) pool saved (held_at calls pool held k) front

  pushed_last : (k : ℕ) → length calls < k → pending_at calls' pool' held' k ≡ noted (settled []) calls' pool' held'
  pushed_last k lt =
      ap (λ (cs : List Call). noted (settled []) (take k calls') pool' (rewind cs (drop (used (take k calls')) pool') held')) (drop_all k calls' (omega (arith, length_pushed)))
      ∙ ap (λ (cs : List Call). noted (settled []) cs pool' held') (take_all k calls' (omega (arith, length_pushed)))

  pub pushed_elapses : (old new : DiskState) → old.moment ≡ length calls → new.moment ≡ length calls' → new.pending ≡ noted (settled []) calls' pool' held'
      → Elapses old new (LeftSince calls pool held) (LeftSince calls' pool' held')
  pushed_elapses old new was is pending = record {
    later = omega (arith, length_pushed);
    nothing_else = λ t image le left. elim (cases_lt (length calls) left.0) [
      | inr early ↦ inl (left.0, left.1, early, subst (λ (p : Pending). IsImage p image) (pushed_at left.0 early) left.3)
      | inl late ↦ inr (subst (λ (p : Pending). IsImage p image) (sym pending) (subst (λ (p : Pending). IsImage p image) (pushed_last left.0 late) left.3))
    ];
    keeps = λ t image le left. (left.0, left.1, omega (arith, length_pushed, left.2), subst (λ (p : Pending). IsImage p image) (sym (pushed_at left.0 left.2)) left.3);
  }

  pub kept_pushed : held'.len ≤ length held'.bytes → IsImage (note call held' (noted (settled []) calls pool held)) (file_of held') → IsKept calls' pool' held'
  kept_pushed within image = record {
    used_up = pushed_used;
    within = within;
    image = subst (λ (p : Pending). IsImage p (file_of held')) (sym pushed_noted) image;
    began = pushed_began;
  }

pub less_same : (p q : Pending) → p ≡ q → LeavesLess p q
less_same p q is = record { each = λ image at_p. subst (λ (r : Pending). IsImage r image) is at_p }
