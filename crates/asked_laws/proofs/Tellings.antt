-- What facts tell as resolved was asked for, fact by fact, and the lines of moves tell no more than their facts.
use Rattle.std.proofs.Common.{◌≡◌, ℕ, ◌+◌, List, [], ◌∷◌, ◌++◌, length, refl, sym, ap, ◌∙◌, append_assoc}
use Rattle.std.specs.Prelude.{map}
use Rattle.stab_base.specs.declared.node.Node.{Node}
use Rattle.table_model.specs.declared.event.Event.{Event}
use Rattle.table_model.specs.declared.entry.Entry.{Entry}
use Rattle.table_model.specs.declared.line.RowPair.{RowPair}
use Rattle.step_tables.specs.Facts.{Fact, Line, EntryLine, PairLine, FactLine}
use Rattle.step_tables.specs.Facts as facts
use Rattle.step_tables.specs.Sayings.{saying}
use Rattle.world_tables.specs.World.{Packet, Outbox, sent_lines, lines_from}
use Rattle.world_tables.specs.Quiet.{sent_in}
use Rattle.asked_laws.specs.Asked.{Asked, said_asked, lines_asked, IsAsked, LinesAsked}

-- ---- facts

abbrev pub facts_asked : List Fact → Asked → Asked
facts_asked [] a = a
facts_asked (fact ∷ more) a = facts_asked more (said_asked (saying fact) a)

abbrev pub FactsAsked : Asked → List Fact → Type 0
FactsAsked a [] = Unit {0}
FactsAsked a (fact ∷ more) = IsAsked a (saying fact) × FactsAsked (said_asked (saying fact) a) more

pub facts_join : (a : Asked) (xs ys : List Fact) → facts_asked (xs ++ ys) a ≡ facts_asked ys (facts_asked xs a)
facts_join a [] ys = refl
facts_join a (x ∷ xs) ys = facts_join (said_asked (saying x) a) xs ys

pub facts_both : (a : Asked) (xs ys : List Fact) → FactsAsked a xs → FactsAsked (facts_asked xs a) ys → FactsAsked a (xs ++ ys)
facts_both a [] ys p q = q
facts_both a (x ∷ xs) ys p q = (p.0, facts_both (said_asked (saying x) a) xs ys p.1 q)

-- facts that don't tell that a packet was sent
abbrev pub IsUnsent : Fact → Type 0
IsUnsent (facts.Sent packet from to name) = ⊥
IsUnsent other = Unit {0}

abbrev pub AreUnsent : List Fact → Type 0
AreUnsent [] = Unit {0}
AreUnsent (fact ∷ more) = IsUnsent fact × AreUnsent more

pub unsent_both : (xs ys : List Fact) → AreUnsent xs → AreUnsent ys → AreUnsent (xs ++ ys)
unsent_both [] ys p q = q
unsent_both (x ∷ xs) ys p q = (p.0, unsent_both xs ys p.1 q)

-- ---- what moves tell and send, one after the other

abbrev pub packets_in : List Outbox → List Packet
packets_in [] = []
packets_in (out ∷ more) = out.packets ++ packets_in more

pub packets_join : (xs ys : List Outbox) → packets_in (xs ++ ys) ≡ packets_in xs ++ packets_in ys
packets_join [] ys = refl
packets_join (x ∷ xs) ys = ap (λ (ps : List Packet). x.packets ++ ps) (packets_join xs ys) ∙ sym (append_assoc x.packets (packets_in xs) (packets_in ys))

abbrev pub OutsUnsent : List Outbox → Type 0
OutsUnsent [] = Unit {0}
OutsUnsent (out ∷ more) = AreUnsent out.facts × OutsUnsent more

pub outs_unsent : (xs ys : List Outbox) → OutsUnsent xs → OutsUnsent ys → OutsUnsent (xs ++ ys)
outs_unsent [] ys p q = q
outs_unsent (x ∷ xs) ys p q = (p.0, outs_unsent xs ys p.1 q)

abbrev pub outs_asked : List Outbox → Asked → Asked
outs_asked [] a = a
outs_asked (out ∷ more) a = outs_asked more (facts_asked out.facts a)

abbrev pub OutsAsked : Asked → List Outbox → Type 0
OutsAsked a [] = Unit {0}
OutsAsked a (out ∷ more) = FactsAsked a out.facts × OutsAsked (facts_asked out.facts a) more

pub outs_join : (a : Asked) (xs ys : List Outbox) → outs_asked (xs ++ ys) a ≡ outs_asked ys (outs_asked xs a)
outs_join a [] ys = refl
outs_join a (x ∷ xs) ys = outs_join (facts_asked x.facts a) xs ys

pub outs_both : (a : Asked) (xs ys : List Outbox) → OutsAsked a xs → OutsAsked (outs_asked xs a) ys → OutsAsked a (xs ++ ys)
outs_both a [] ys p q = q
outs_both a (x ∷ xs) ys p q = (p.0, outs_both (facts_asked x.facts a) xs ys p.1 q)

-- ---- their lines

module _ (event : Event) where
  -- an entry or a row that an answer counts says nothing
  pub entries_asked : (a : Asked) (table : ℕ) (entries : List Entry) (more : List Line) → lines_asked event (map (EntryLine table) entries ++ more) a ≡ lines_asked event more a
  entries_asked a table [] more = refl
  entries_asked a table (entry ∷ entries) more = entries_asked a table entries more

  pub entries_told : (a : Asked) (table : ℕ) (entries : List Entry) (more : List Line) → LinesAsked event a more → LinesAsked event a (map (EntryLine table) entries ++ more)
  entries_told a table [] more p = p
  entries_told a table (entry ∷ entries) more p = (tt, entries_told a table entries more p)

  pub pairs_asked : (a : Asked) (pairs : List RowPair) (more : List Line) → lines_asked event (map PairLine pairs ++ more) a ≡ lines_asked event more a
  pairs_asked a [] more = refl
  pairs_asked a (pair ∷ pairs) more = pairs_asked a pairs more

  pub pairs_told : (a : Asked) (pairs : List RowPair) (more : List Line) → LinesAsked event a more → LinesAsked event a (map PairLine pairs ++ more)
  pairs_told a [] more p = p
  pairs_told a (pair ∷ pairs) more p = (tt, pairs_told a pairs more p)

  facts_lines : (a : Asked) (some : List Fact) (more : List Line) → lines_asked event (map FactLine some ++ more) a ≡ lines_asked event more (facts_asked some a)
  facts_lines a [] more = refl
  facts_lines a (fact ∷ some) more = facts_lines (said_asked (saying fact) a) some more

  sent_asked : (a : Asked) (number : ℕ) (packets : List Packet) (more : List Line) → lines_asked event (sent_lines number packets ++ more) a ≡ lines_asked event more a
  sent_asked a number [] more = refl
  sent_asked a number (p ∷ packets) more = sent_asked a (number + 1) packets more

  -- behind the lines of moves
  pub moves_lines : (a : Asked) (number : ℕ) (outs : List Outbox) → lines_asked event (lines_from number outs) a ≡ outs_asked outs a
  moves_lines a number [] = refl
  moves_lines a number (out ∷ outs) =
      facts_lines a out.facts (sent_lines number out.packets ++ lines_from (number + length out.packets) outs)
      ∙ (sent_asked (facts_asked out.facts a) number out.packets (lines_from (number + length out.packets) outs)
      ∙ moves_lines (facts_asked out.facts a) (number + length out.packets) outs)

  facts_told : (a : Asked) (some : List Fact) (more : List Line) → FactsAsked a some → LinesAsked event (facts_asked some a) more → LinesAsked event a (map FactLine some ++ more)
  facts_told a [] more p q = q
  facts_told a (fact ∷ some) more p q = (p.0, facts_told (said_asked (saying fact) a) some more p.1 q)

  sent_told : (a : Asked) (number : ℕ) (packets : List Packet) (more : List Line) → LinesAsked event a more → LinesAsked event a (sent_lines number packets ++ more)
  sent_told a number [] more q = q
  sent_told a number (p ∷ packets) more q = (tt, sent_told a (number + 1) packets more q)

  -- the lines of moves tell what their facts tell
  pub moves_told : (a : Asked) (number : ℕ) (outs : List Outbox) → OutsAsked a outs → LinesAsked event a (lines_from number outs)
  moves_told a number [] p = tt
  moves_told a number (out ∷ outs) p =
      facts_told a out.facts (sent_lines number out.packets ++ lines_from (number + length out.packets) outs) p.0
      (sent_told (facts_asked out.facts a) number out.packets (lines_from (number + length out.packets) outs)
      (moves_told (facts_asked out.facts a) (number + length out.packets) outs p.1))

-- ---- and those of what they send

facts_sent : (some : List Fact) (rest : List Line) → AreUnsent some → sent_in (map FactLine some ++ rest) ≡ sent_in rest
facts_sent [] rest p = refl
facts_sent (fact ∷ more) rest p = one fact p.0 (facts_sent more rest p.1)
  where
    one : (f : Fact) → IsUnsent f → sent_in (map FactLine more ++ rest) ≡ sent_in rest → sent_in (FactLine f ∷ (map FactLine more ++ rest)) ≡ sent_in rest
    one (facts.Client f) q later = later
    one (facts.Redone f) q later = later
    one (facts.Accepted t e) q later = later
    one (facts.Forward t e) q later = later
    one (facts.Back t v) q later = later
    one (facts.StoreRecovered n t) q later = later
    one (facts.Made t) q later = later
    one (facts.Unmade t) q later = later
    one (facts.Saved t) q later = later
    one (facts.Notified c t) q later = later
    one (facts.ClientRecovered c) q later = later
    one (facts.Torn c t r) q later = later
    one (facts.Sent n a b m) q later = absurd q

packets_sent : (number : ℕ) (packets : List Packet) (rest : List Line) → sent_in (sent_lines number packets ++ rest) ≡ map (λ (p : Packet). p.to) packets ++ sent_in rest
packets_sent number [] rest = refl
packets_sent number (p ∷ packets) rest = ap (λ (ns : List Node). p.to ∷ ns) (packets_sent (number + 1) packets rest)

pub to_join : (xs ys : List Packet) → map (λ (p : Packet). p.to) (xs ++ ys) ≡ map (λ (p : Packet). p.to) xs ++ map (λ (p : Packet). p.to) ys
to_join [] ys = refl
to_join (x ∷ xs) ys = ap (λ (ns : List Node). x.to ∷ ns) (to_join xs ys)

pub moves_sent : (number : ℕ) (outs : List Outbox) → OutsUnsent outs → sent_in (lines_from number outs) ≡ map (λ (p : Packet). p.to) (packets_in outs)
moves_sent number [] p = refl
moves_sent number (out ∷ more) p =
    facts_sent out.facts (sent_lines number out.packets ++ lines_from (number + length out.packets) more) p.0
    ∙ (packets_sent number out.packets (lines_from (number + length out.packets) more)
    ∙ (ap (λ (ns : List Node). map (λ (q : Packet). q.to) out.packets ++ ns) (moves_sent (number + length out.packets) more p.1) ∙ sym (to_join out.packets (packets_in more))))

pub entries_sent : (table : ℕ) (entries : List Entry) (rest : List Line) → sent_in (map (EntryLine table) entries ++ rest) ≡ sent_in rest
entries_sent table [] rest = refl
entries_sent table (entry ∷ entries) rest = entries_sent table entries rest

pub pairs_sent : (pairs : List RowPair) (rest : List Line) → sent_in (map PairLine pairs ++ rest) ≡ sent_in rest
pairs_sent [] rest = refl
pairs_sent (pair ∷ pairs) rest = pairs_sent pairs rest
