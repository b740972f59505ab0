-- The lines of moves say what their facts say.
use Rattle.std.proofs.Common.{◌≡◌, ℕ, ◌+◌, List, [], ◌∷◌, ◌++◌, length, refl, sym, ap, ◌∙◌, subst, append_assoc, append-nil, arith}
use Rattle.std.specs.Prelude.{map}
use Rattle.row_value.specs.declared.schema.Scheme.{Scheme}
use Rattle.step_tables.specs.Facts.{Fact, Line, FactLine}
use Rattle.step_tables.specs.Facts as facts
use Rattle.step_tables.specs.Sayings.{Saying, saying, says, Said, hear, hear_all, hear_lines}
use Rattle.world_tables.specs.Again.{may_repeat}
use Rattle.world_tables.specs.World.{Outbox, Packet, sent_lines, lines_from}
use Rattle.world_tables.specs.Sound.{IsSaid, AreSaid}
use Rattle.world_laws.proofs.Told.{SaidTold, told_step}

module _ (g : ℕ → Scheme) where
  -- ---- joined lines

  pub hear-append : (s : Said) (xs ys : List Line) → hear_lines s (xs ++ ys) ≡ hear_lines (hear_lines s xs) ys
  hear-append s [] ys = refl
  hear-append s (x ∷ xs) ys = hear-append (hear s (says x)) xs ys

  pub said-append : (s : Said) (xs ys : List Line) → AreSaid g s xs → AreSaid g (hear_lines s xs) ys → AreSaid g s (xs ++ ys)
  said-append s [] ys a b = b
  said-append s (x ∷ xs) ys a b = (a.0, said-append (hear s (says x)) xs ys a.1 b)

  -- ---- the lines of one move

  abbrev pub FactsSaid : Said → List Fact → Type 0
  FactsSaid s [] = Unit {0}
  FactsSaid s (fact ∷ more) = IsSaid g s (may_repeat fact) (saying fact) × FactsSaid (hear s (saying fact)) more

  facts_hear : (s : Said) (some : List Fact) → hear_lines s (map FactLine some) ≡ hear_all s some
  facts_hear s [] = refl
  facts_hear s (fact ∷ more) = facts_hear (hear s (saying fact)) more

  facts_said : (s : Said) (some : List Fact) → FactsSaid s some → AreSaid g s (map FactLine some)
  facts_said s [] a = tt
  facts_said s (fact ∷ more) a = (a.0, facts_said (hear s (saying fact)) more a.1)

  -- that packets were sent says nothing
  sent_hear : (s : Said) (number : ℕ) (packets : List Packet) → hear_lines s (sent_lines number packets) ≡ s
  sent_hear s number [] = refl
  sent_hear s number (p ∷ packets) = sent_hear s (number + 1) packets

  sent_said : (s : Said) (number : ℕ) (packets : List Packet) → AreSaid g s (sent_lines number packets)
  sent_said s number [] = tt
  sent_said s number (p ∷ packets) = (tt, sent_said s (number + 1) packets)

  pub out_hear : (s : Said) (number : ℕ) (out : Outbox) (more : List Outbox)
      → hear_lines s (lines_from number (out ∷ more)) ≡ hear_lines (hear_all s out.facts) (lines_from (number + length out.packets) more)
  out_hear s number out more =
      hear-append s (map FactLine out.facts) (sent_lines number out.packets ++ lines_from (number + length out.packets) more)
      ∙ (ap (λ (x : Said). hear_lines x (sent_lines number out.packets ++ lines_from (number + length out.packets) more)) (facts_hear s out.facts)
      ∙ (hear-append (hear_all s out.facts) (sent_lines number out.packets) (lines_from (number + length out.packets) more)
      ∙ ap (λ (x : Said). hear_lines x (lines_from (number + length out.packets) more)) (sent_hear (hear_all s out.facts) number out.packets)))

  pub out_said : (s : Said) (number : ℕ) (out : Outbox) (more : List Outbox) → FactsSaid s out.facts
      → AreSaid g (hear_all s out.facts) (lines_from (number + length out.packets) more) → AreSaid g s (lines_from number (out ∷ more))
  out_said s number out more a b =
      said-append s (map FactLine out.facts) (sent_lines number out.packets ++ lines_from (number + length out.packets) more) (facts_said s out.facts a)
      (subst (λ (x : Said). AreSaid g x (sent_lines number out.packets ++ lines_from (number + length out.packets) more)) (sym (facts_hear s out.facts))
      (said-append (hear_all s out.facts) (sent_lines number out.packets) (lines_from (number + length out.packets) more) (sent_said (hear_all s out.facts) number out.packets)
      (subst (λ (x : Said). AreSaid g x (lines_from (number + length out.packets) more)) (sym (sent_hear (hear_all s out.facts) number out.packets)) b)))

  -- ---- the lines of moves

  abbrev pub sent_by : List Outbox → ℕ
  sent_by [] = 0
  sent_by (out ∷ more) = length out.packets + sent_by more

  pub lines-append : (number : ℕ) (xs ys : List Outbox) → lines_from number (xs ++ ys) ≡ lines_from number xs ++ lines_from (number + sent_by xs) ys
  lines-append number [] ys = ap (λ (n : ℕ). lines_from n ys) (omega arith)
  lines-append number (x ∷ xs) ys =
      let more : number + length x.packets + sent_by xs ≡ number + sent_by (x ∷ xs) = omega arith in
      ap (λ (ls : List Line). map FactLine x.facts ++ (sent_lines number x.packets ++ ls))
      (lines-append (number + length x.packets) xs ys ∙ ap (λ (n : ℕ). lines_from (number + length x.packets) xs ++ lines_from n ys) more)
      ∙ (ap (λ (ls : List Line). map FactLine x.facts ++ ls) (sym (append_assoc (sent_lines number x.packets) (lines_from (number + length x.packets) xs) (lines_from (number + sent_by (x ∷ xs)) ys)))
      ∙ sym (append_assoc (map FactLine x.facts) (sent_lines number x.packets ++ lines_from (number + length x.packets) xs) (lines_from (number + sent_by (x ∷ xs)) ys)))

  -- what is said keeps writes and entries in order
  pub all_told : (s : Said) (some : List Fact) → SaidTold s → FactsSaid s some → SaidTold (hear_all s some)
  all_told s [] k a = k
  all_told s (fact ∷ more) k a = all_told (hear s (saying fact)) more (told_step g s (may_repeat fact) (saying fact) k a.0) a.1
