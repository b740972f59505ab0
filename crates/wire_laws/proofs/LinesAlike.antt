-- Lines that are alike say the same, and answer the same.
use Rattle.std.proofs.Common.{◌≡◌, ℕ, Bool, true, false, List, [], ◌∷◌, ◌++◌, refl, sym, ◌∙◌, ap, subst, true≢false, append_assoc}
use Rattle.std.specs.Prelude.{map, MatchBool}
use Rattle.std.specs.List.{AllByRecursion}
use Rattle.std.proofs.lemmas.List.{map-append}
use Rattle.stab_base.specs.declared.node.Node.{Node}
use Rattle.row_value.specs.declared.schema.Scheme.{Scheme}
use Rattle.table_model.specs.declared.entry.Entry.{Entry}
use Rattle.table_model.specs.declared.line.RowPair.{RowPair}
use Rattle.table_model.specs.declared.message_name.MessageName.{MessageName}
use Rattle.table_model.specs.declared.event.Event.{Event}
use Rattle.table_model.specs.declared.event.Event.TheVariants as events
use Rattle.step_tables.specs.Facts.{Fact, Answer, Line, AnswerLine, EntryLine, PairLine, FactLine}
use Rattle.step_tables.specs.Facts as facts
use Rattle.step_tables.specs.Sayings.{Said, says, hear, hear_lines}
use Rattle.world_tables.specs.Sound.{AreSaid, IsForm, IsCounted, IsQuiet, IsAnswer, IsAnswered}
use Rattle.world_tables.specs.Quiet.{answer_in}
use Rattle.asked_laws.specs.Asked.{Asked, line_asked, lines_asked, LinesAsked}
use Rattle.wire_laws.specs.Alike.{is_sending, AreSendings, IsLineAlike, AreLinesAlike}

-- ---- what holds of two lists with the same line more, and of either with a packet's line more, holds of lines alike

module _ (P : List Line → List Line → Type 0) (none : P [] []) (same : (line : Line) (xs ys : List Line) → P xs ys → P (line ∷ xs) (line ∷ ys))
    (left : (k : ℕ) (from to : Node) (name : MessageName) (xs ys : List Line) → P xs ys → P (FactLine (facts.Sent k from to name) ∷ xs) ys)
    (right : (k : ℕ) (from to : Node) (name : MessageName) (xs ys : List Line) → P xs ys → P xs (FactLine (facts.Sent k from to name) ∷ ys)) where
  sendings : (front rest whole : List Line) → AllByRecursion (λ (line : Line). is_sending line ≡ true) front → P rest whole → P (front ++ rest) whole
  sendings [] rest whole all p = p
  sendings (FactLine (facts.Sent k from to name) ∷ front) rest whole all p = left k from to name (front ++ rest) whole (sendings front rest whole all.1 p)
  sendings (other ∷ front) rest whole all p = absurd (true≢false (sym all.0))

  one : (line : Line) (front rest whole : List Line) → IsLineAlike front line → P rest whole → P (front ++ rest) (line ∷ whole)
  one (FactLine (facts.Sent k from to name)) front rest whole is p = right k from to name (front ++ rest) whole (sendings front rest whole is.all p)
  one other front rest whole is p = subst (λ (l : List Line). P (l ++ rest) (other ∷ whole)) (sym is) (same other rest whole p)

  pub by_lines : (whole lines : List Line) → AreLinesAlike lines whole → P lines whole
  by_lines [] lines is = subst (λ (l : List Line). P l []) (sym is) none
  by_lines (line ∷ whole) lines is =
      subst (λ (l : List Line). P l (line ∷ whole)) (sym is.2) (one line is.0 is.1 whole is.3 (by_lines whole is.1 is.4))

-- ---- what is said

pub hear_alike : (lines whole : List Line) → AreLinesAlike lines whole → (s : Said) → hear_lines s lines ≡ hear_lines s whole
hear_alike lines whole is =
    by_lines (λ (xs ys : List Line). (s : Said) → hear_lines s xs ≡ hear_lines s ys) (λ s. refl) (λ line xs ys p s. p (hear s (says line)))
    (λ k from to name xs ys p s. p s) (λ k from to name xs ys p s. p s) whole lines is

pub said_alike : (g : ℕ → Scheme) (lines whole : List Line) → AreLinesAlike lines whole → (s : Said) → AreSaid g s whole → AreSaid g s lines
said_alike g lines whole is =
    by_lines (λ (xs ys : List Line). (s : Said) → AreSaid g s ys → AreSaid g s xs) (λ s x. tt) (λ line xs ys p s x. (x.0, p (hear s (says line)) x.1))
    (λ k from to name xs ys p s x. (tt, p s x)) (λ k from to name xs ys p s x. p s x.1) whole lines is

-- of events that ask for the same
module _ (event other : Event) (same : (line : Line) (a : Asked) → line_asked event line a ≡ line_asked other line a) where
  pub asked_alike : (lines whole : List Line) → AreLinesAlike lines whole → (a : Asked) → lines_asked event lines a ≡ lines_asked other whole a
  asked_alike lines whole is =
      by_lines (λ (xs ys : List Line). (a : Asked) → lines_asked event xs a ≡ lines_asked other ys a) (λ a. refl)
      (λ line xs ys p a. p (line_asked event line a) ∙ ap (lines_asked other ys) (same line a))
      (λ k from to name xs ys p a. p a) (λ k from to name xs ys p a. p a) whole lines is

  pub asked_so : (lines whole : List Line) → AreLinesAlike lines whole → (a : Asked) → LinesAsked other a whole → LinesAsked event a lines
  asked_so lines whole is =
      by_lines (λ (xs ys : List Line). (a : Asked) → LinesAsked other a ys → LinesAsked event a xs) (λ a x. tt)
      (λ line xs ys p a x. (x.0, p (line_asked event line a) (subst (λ (b : Asked). LinesAsked other b ys) (sym (same line a)) x.1)))
      (λ k from to name xs ys p a x. (tt, p a x)) (λ k from to name xs ys p a x. p a x.1) whole lines is

answer_same : (line : Line) (xs ys : List Line) → answer_in xs ≡ answer_in ys → answer_in (line ∷ xs) ≡ answer_in (line ∷ ys)
answer_same (AnswerLine answer) xs ys p = refl
answer_same other xs ys p = p

pub answer_alike : (lines whole : List Line) → AreLinesAlike lines whole → answer_in lines ≡ answer_in whole
answer_alike lines whole is =
    by_lines (λ (xs ys : List Line). answer_in xs ≡ answer_in ys) refl answer_same (λ k from to name xs ys p. p) (λ k from to name xs ys p. p) whole lines is

-- ---- an answer with what it counts and tells

-- lines that tell of no packet
abbrev AreUnsent : List Line → Type 0
AreUnsent lines = AllByRecursion (λ (line : Line). is_sending line ≡ false) lines

entries_unsent : (table : ℕ) (entries : List Entry) → AreUnsent (map (EntryLine table) entries)
entries_unsent table [] = tt
entries_unsent table (entry ∷ entries) = (refl, entries_unsent table entries)

pairs_unsent : (pairs : List RowPair) → AreUnsent (map PairLine pairs)
pairs_unsent [] = tt
pairs_unsent (pair ∷ pairs) = (refl, pairs_unsent pairs)

counted_unsent : (event : Event) (answer : Answer) (counted : List Line) → IsCounted event answer counted → AreUnsent counted
counted_unsent (events.History table) (facts.Number number) counted is = subst AreUnsent (sym is.1) (entries_unsent table is.0)
counted_unsent (events.Conflicts client table) (facts.Number number) counted is = subst AreUnsent (sym is.1) (pairs_unsent is.0)
counted_unsent event answer counted is = subst AreUnsent (sym is) tt

-- a line of no packet stands on the wire as it is
line_first : (line : Line) (lines whole : List Line) → is_sending line ≡ false → AreLinesAlike lines (line ∷ whole) → (rest : List Line) × (lines ≡ line ∷ rest) × AreLinesAlike rest whole
line_first line lines whole no_packet is = (is.1, is.2 ∙ ap (λ (l : List Line). l ++ is.1) (go (is_sending line) no_packet is.3), is.4)
  where
    go : (b : Bool) → b ≡ false → MatchBool b (AreSendings is.0) (is.0 ≡ line ∷ []) → is.0 ≡ line ∷ []
    go true e x = absurd (true≢false e)
    go false e x = x

counted_first : (counted told lines : List Line) → AreUnsent counted → AreLinesAlike lines (counted ++ told) → (rest : List Line) × (lines ≡ counted ++ rest) × AreLinesAlike rest told
counted_first [] told lines plain is = (lines, refl, is)
counted_first (line ∷ counted) told lines plain is =
    let a = line_first line lines (counted ++ told) plain.0 is in
    let b = counted_first counted told a.0 plain.1 a.2 in
    (b.0, a.1 ∙ ap (λ (l : List Line). line ∷ l) b.1, b.2)

-- lines of facts are alike only to lines of facts
sent_facts : (front : List Line) → AllByRecursion (λ (line : Line). is_sending line ≡ true) front → (some : List Fact) × (front ≡ map FactLine some)
sent_facts [] all = ([], refl)
sent_facts (FactLine fact ∷ front) all = let r = sent_facts front all.1 in (fact ∷ r.0, ap (λ (l : List Line). FactLine fact ∷ l) r.1)
sent_facts (other ∷ front) all = absurd (true≢false (sym all.0))

fact_told : (fact : Fact) (front : List Line) → IsLineAlike front (FactLine fact) → (some : List Fact) × (front ≡ map FactLine some)
fact_told (facts.Sent k from to name) front is = sent_facts front is.all
fact_told other front is = (other ∷ [], is)

told_last : (told : List Fact) (lines : List Line) → AreLinesAlike lines (map FactLine told) → (some : List Fact) × (lines ≡ map FactLine some) × (told ≡ [] → some ≡ [])
told_last [] lines is = ([], is, λ e. refl)
told_last (fact ∷ told) lines is =
    let one = fact_told fact is.0 is.3 in
    let more = told_last told is.1 is.4 in (
      one.0 ++ more.0,
      is.2 ∙ (ap (λ (l : List Line). l ++ is.1) one.1 ∙ (ap (λ (l : List Line). map FactLine one.0 ++ l) more.1 ∙ sym (map-append FactLine one.0 more.0))),
      λ e. absurd cc,
    )

pub quiet_alike : (event : Event) (told some : List Fact) → (told ≡ [] → some ≡ []) → IsQuiet event told → IsQuiet event some
quiet_alike (events.StoreShow table row) told some f is = f is
quiet_alike (events.History table) told some f is = f is
quiet_alike (events.Chunks table) told some f is = f is
quiet_alike (events.Hold node) told some f is = f is
quiet_alike (events.Free node) told some f is = f is
quiet_alike (events.Crash node calls pick) told some f is = f is
quiet_alike other told some f is = tt

module _ (g : ℕ → Scheme) (s : Said) (event other : Event) (form : (answer : Answer) → IsForm other answer → IsForm event answer)
    (counts : (answer : Answer) (counted : List Line) → IsCounted other answer counted → IsCounted event answer counted)
    (quiet : (told some : List Fact) → (told ≡ [] → some ≡ []) → IsQuiet other told → IsQuiet event some)
    (says_so : (answer : Answer) (counted : List Line) → IsAnswer g s other answer counted → IsAnswer g s event answer counted) where
  pub answered_alike : (lines whole : List Line) → AreLinesAlike lines whole → IsAnswered g s other whole → IsAnswered g s event lines
  answered_alike lines whole is k = record {
    answer = k.answer;
    counted = k.counted;
    told = last.0;
    lines_are = first.1 ∙ ap (λ (l : List Line). AnswerLine k.answer ∷ l) (middle.1 ∙ ap (λ (l : List Line). k.counted ++ l) last.1);
    form = form k.answer k.form;
    counts = counts k.answer k.counted k.counts;
    quiet = quiet k.told last.0 last.2 k.quiet;
    is = says_so k.answer k.counted k.is;
  }
    where
      first : (rest : List Line) × (lines ≡ AnswerLine k.answer ∷ rest) × AreLinesAlike rest (k.counted ++ map FactLine k.told)
      first = line_first (AnswerLine k.answer) lines (k.counted ++ map FactLine k.told) refl (subst (AreLinesAlike lines) k.lines_are is)

      middle : (rest : List Line) × (first.0 ≡ k.counted ++ rest) × AreLinesAlike rest (map FactLine k.told)
      middle = counted_first k.counted (map FactLine k.told) first.0 (counted_unsent other k.answer k.counted k.counts) first.2

      last : (some : List Fact) × (middle.0 ≡ map FactLine some) × (k.told ≡ [] → some ≡ [])
      last = told_last k.told middle.0 middle.2

-- ---- lines that are alike

pub alike_itself : (lines : List Line) → AreLinesAlike lines lines
alike_itself [] = refl
alike_itself (line ∷ lines) = (line ∷ [], lines, refl, go line, alike_itself lines)
  where
    go : (x : Line) → IsLineAlike (x ∷ []) x
    go (FactLine (facts.Sent k from to name)) = record { some = λ e. absurd cc; all = (refl, tt) }
    go other = refl

pub alike_both : (xs ys lines whole : List Line) → AreLinesAlike xs ys → AreLinesAlike lines whole → AreLinesAlike (xs ++ lines) (ys ++ whole)
alike_both xs [] lines whole a b = subst (λ (l : List Line). AreLinesAlike (l ++ lines) whole) (sym a) b
alike_both xs (y ∷ ys) lines whole a b =
    (a.0, a.1 ++ lines, ap (λ (l : List Line). l ++ lines) a.2 ∙ append_assoc a.0 a.1 lines, a.3, alike_both a.1 ys lines whole a.4 b)
