-- What a start tells of the plan that was at work.
use Rattle.std.proofs.Common.{◌≡◌, ℕ, ◌++◌, Bool, true, false, List, [], ◌∷◌, map, Option, Some, None, Result, refl, sym, ◌∙◌, ap, subst, arith, append_assoc}
use Rattle.std.specs.Prelude.{◌||◌, ◌==◌, if◌then◌else◌, IfSome, IfOk, option_map}
use Rattle.std.proofs.lemmas.Bool.Decides.{nat_tests}
use Rattle.std.proofs.lemmas.Result.{IfOk-weaker}
use Rattle.row_value.specs.declared.content.Content.{Content}
use Rattle.held_value.specs.declared.local_name.LocalName.{LocalName}
use Rattle.held_value.specs.declared.content.HeldContent.{HeldContent}
use Rattle.held_value.specs.declared.slots.Main.{Main}
use Rattle.held_value.specs.declared.slots.Shadow.{Shadow}
use Rattle.held_value.specs.declared.slots.Out.{Out}
use Rattle.held_value.specs.declared.slots.Slots.{Slots as HeldSlots}
use Rattle.held_value.specs.declared.tell.Tell.{Tell}
use Rattle.held_value.specs.declared.tell.Tell.TheVariants as tell
use Rattle.slot_store.specs.declared.held.RowSlots.{RowSlots}
use Rattle.slot_store.specs.Data.{slots_of}
use Rattle.plan_log.specs.declared.plan.Commit.{Commit}
use Rattle.plan_log.specs.declared.plan.RowChange.{RowChange}
use Rattle.plan_log.specs.Journal.{AtWork, Idle, Intended, Committed}
use Rattle.client_journal.specs.declared.rolled.Redone.{Redone}
use Rattle.client_journal.specs.Devs.{ClientDevs, local_in}
use Rattle.client_journal.specs.Names.{is_among, same_name, Has, names_of, names_in, names_of_main, names_of_shadow, names_of_out}
use Rattle.client_journal.specs.NamedSlots.{NamedSlots}
use Rattle.client_journal.specs.Recover.{rolled_of}
use Rattle.client_journal.specs.Redone.{redone, redone_by}
use Rattle.client_journal.proofs.Behind.{its_slots}
use Rattle.step_tables.specs.Facts.{ClientFact, Fact}
use Rattle.step_tables.specs.Facts as facts
use Rattle.step_tables.specs.ClientMoves.{Plan, RowPut, ClientDisk, told_at_start, retold}
use Rattle.journal_laws.specs.Holds.{Stands, StandsPlan, StandsPut, IsPlanOf, fact_in, slots_or_empty, content_of, content_in, content_in_out}
use Rattle.journal_laws.specs.Whole.{whole, whole_main, whole_out, whole_slots}
use Rattle.journal_laws.proofs.Plans.{named_in}
use Rattle.held_contents.specs.Reading.{AreThere}
use Rattle.client_node.specs.declared.fault.CallFault.{CallFault}
use Rattle.client_node.specs.Answers.{held_at}
use Rattle.client_node.specs.Telling.{AreNamesThere, IsPlain, put_of, put_again, again_if, told_again}

-- a tell that isn't of a write
pub is_plain : (told : Tell) → ((number read : ℕ) → told ≡ tell.Wrote number read → ⊥) → IsPlain told
is_plain (tell.Wrote number read) other = other number read refl
is_plain (tell.Acked number version) other = tt
is_plain (tell.Refused number latest) other = tt
is_plain (tell.Conflict number version) other = tt
is_plain (tell.Resolved number version) other = tt
is_plain (tell.New version) other = tt
is_plain (tell.Position position) other = tt
is_plain tell.Opened other = tt
is_plain tell.Dropped other = tt

-- ---- the names of a row's slots

has_first : (xs ys : List LocalName) (name : LocalName) → Has xs name → Has (xs ++ ys) name
has_first [] ys name has = absurd cc
has_first (x ∷ xs) ys name has = pick (same_name name x) has (has_first xs ys name)
  where
    pick : (b : Bool) → (b || is_among xs name) ≡ true → (Has xs name → Has (xs ++ ys) name) → (b || is_among (xs ++ ys) name) ≡ true
    pick true h more = refl
    pick false h more = more h

has_second : (xs ys : List LocalName) (name : LocalName) → Has ys name → Has (xs ++ ys) name
has_second [] ys name has = has
has_second (x ∷ xs) ys name has = pick (same_name name x) (has_second xs ys name has)
  where
    pick : (b : Bool) → is_among (xs ++ ys) name ≡ true → (b || is_among (xs ++ ys) name) ≡ true
    pick true h = refl
    pick false h = h

module _ (meaning : LocalName → List ℕ) (d : ClientDevs) (slots : HeldSlots) (there : AreNamesThere meaning d slots) where
  abbrev behind_main : List LocalName
  behind_main = names_of_shadow slots.shadow ++ (names_of_out slots.out ++ names_of_shadow slots.conflict)

  pub main_there : (main : Main) → slots.main ≡ Some main → AreThere meaning d main.content
  main_there main is name has =
      there name (has_first (names_of_main slots.main) behind_main name (subst (λ (o : Option Main). Has (names_of_main o) name) (sym is) has))

  pub out_there : IfSome slots.out (λ out. AreThere meaning d out.content)
  out_there = pick slots.out refl
    where
      pick : (o : Option Out) → slots.out ≡ o → IfSome o (λ out. AreThere meaning d out.content)
      pick None is = tt
      pick (Some out) is = λ name has.
          there name (has_second (names_of_main slots.main) behind_main name (has_second (names_of_shadow slots.shadow) (names_of_out slots.out ++ names_of_shadow slots.conflict) name
          (has_first (names_of_out slots.out) (names_of_shadow slots.conflict) name (subst (λ (o : Option Out). Has (names_of_out o) name) (sym is) has))))

  pub conflict_there : (x : Shadow) → slots.conflict ≡ Some x → AreThere meaning d x.content
  conflict_there x is name has =
      there name (has_second (names_of_main slots.main) behind_main name (has_second (names_of_shadow slots.shadow) (names_of_out slots.out ++ names_of_shadow slots.conflict) name
      (has_second (names_of_out slots.out) (names_of_shadow slots.conflict) name (subst (λ (o : Option Shadow). Has (names_of_shadow o) name) (sym is) has))))

-- ---- the content that is read for a write

module _ (d : ClientDevs) (number : ℕ) (slots : HeldSlots) where
  abbrev pub IsWritten : Content → Type 0
  IsWritten content = (meaning : LocalName → List ℕ) → AreNamesThere meaning d slots → content ≡ content_of number (whole_slots meaning slots)

  abbrev IsOut : Content → Type 0
  IsOut content = (meaning : LocalName → List ℕ) → IfSome slots.out (λ waits. AreThere meaning d waits.content) → content ≡ content_in_out (option_map (whole_out meaning) slots.out)

  content_main : (meaning : LocalName → List ℕ) (o : Option Main) → slots.main ≡ o → content_of number (whole_slots meaning slots) ≡ content_in number (option_map (whole_main meaning) o) (option_map (whole_out meaning) slots.out)
  content_main meaning o is = ap (λ (m : Option Main). content_in number (option_map (whole_main meaning) m) (option_map (whole_out meaning) slots.out)) is

  -- it is the row's main one
  pub written_main : (r : Result Content CallFault) (main : Main) → slots.main ≡ Some main → main.number ≡ number → IfOk r (λ content. (meaning : LocalName → List ℕ) → AreThere meaning d main.content → content ≡ whole meaning main.content) → IfOk r IsWritten
  written_main r main is equal k =
      let same : (main.number == number) ≡ true = grind (arith, nat_tests) in
      IfOk-weaker r _ _ (λ content h meaning there.
      h meaning (main_there meaning d slots there main is)
      ∙ sym (content_main meaning (Some main) is ∙ ap (λ (b : Bool). if b then whole meaning main.content else content_in_out (option_map (whole_out meaning) slots.out)) same)) k

  -- or the one that waits
  pub written_other : (r : Result Content CallFault) (main : Main) → slots.main ≡ Some main → (main.number ≡ number → ⊥) → IfOk r IsOut → IfOk r IsWritten
  written_other r main is apart k =
      let other : (main.number == number) ≡ false = grind (arith, nat_tests) in
      IfOk-weaker r _ _ (λ content h meaning there.
      h meaning (out_there meaning d slots there)
      ∙ sym (content_main meaning (Some main) is ∙ ap (λ (b : Bool). if b then whole meaning main.content else content_in_out (option_map (whole_out meaning) slots.out)) other)) k

  pub written_alone : (r : Result Content CallFault) → slots.main ≡ None → IfOk r IsOut → IfOk r IsWritten
  written_alone r is k = IfOk-weaker r _ _ (λ content h meaning there. h meaning (out_there meaning d slots there) ∙ sym (content_main meaning None is)) k

pub names_there : (meaning : LocalName → List ℕ) (d : ClientDevs) (table : ℕ) (row : List ℕ) → NamedSlots meaning d → AreNamesThere meaning d (held_at d table row)
names_there meaning d table row named name has = named.there name (named_in (redone d) table row name has)

-- ---- the facts

module _ (c table : ℕ) (put : Option RowPut) where
  -- tells that say these facts
  pub said_again : (tells : List Tell) (some : List ClientFact) → map (fact_in c table put) tells ≡ map (λ (fact : ClientFact). Some fact) some → told_again c table put tells ≡ map facts.Redone some
  said_again [] [] is = refl
  said_again [] (fact ∷ some) is = absurd cc
  said_again (told ∷ tells) [] is = absurd cc
  said_again (told ∷ tells) (fact ∷ some) is =
      let first : fact_in c table put told ≡ Some fact = cc in
      let rest : map (fact_in c table put) tells ≡ map (λ (f : ClientFact). Some f) some = cc in
      ap (λ (o : Option ClientFact). again_if o ++ told_again c table put tells) first ∙ ap (λ (l : List Fact). facts.Redone fact ∷ l) (said_again tells some rest)

  -- one tell more
  pub again_more : (told more : List Fact) (tell : Tell) (rest all : List Tell) → told ++ told_again c table put (tell ∷ rest) ≡ told_again c table put all → more ≡ told ++ again_if (fact_in c table put tell) → more ++ told_again c table put rest ≡ told_again c table put all
  again_more told more tell rest all before is = ap (λ (l : List Fact). l ++ told_again c table put rest) is ∙ (append_assoc told (again_if (fact_in c table put tell)) (told_again c table put rest) ∙ before)

module _ (c : ℕ) (meaning : LocalName → List ℕ) (d : ClientDevs) (disk : ClientDisk) where
  -- the row of a plan as it is read
  put_is : (commit : Commit) (change : Option RowChange) (put : Option RowPut) → d.journal.at_work ≡ Committed commit → commit.row ≡ change → StandsPut meaning change put → put_again meaning d commit.table (option_map (λ change. change.row) change) ≡ put
  put_is commit None None is row s = refl
  put_is commit None (Some put) is row s = absurd s
  put_is commit (Some change) None is row s = absurd s
  put_is commit (Some change) (Some put) is row s =
      let held : held_at d commit.table change.row ≡ change.slots =
      ap (λ (w : AtWork). slots_or_empty (slots_of (redone_by w d.held) commit.table change.row)) is
      ∙ ap slots_or_empty (its_slots commit d.held commit.table change.row change row (refl, rw row refl)) in
      ap (λ (h : HeldSlots). Some (put_of meaning change.row h)) held ∙ rw (s.row, s.slots) refl

  redone_told : (commit : Commit) (p : Plan) → d.journal.at_work ≡ Committed commit → IsPlanOf meaning c commit p → told_again c commit.table (put_again meaning d commit.table (option_map (λ change. change.row) commit.row)) commit.tells ≡ retold p
  redone_told commit p is of =
      rw (put_is commit commit.row p.row is refl of.row, of.table) (said_again c p.table p.row commit.tells p.facts of.tells)

  -- what is redone is the disk's plan
  module _ (torn : Option (ℕ × List ℕ)) where
    pub found_redone : (work : AtWork) (o : Option Plan) → d.journal.at_work ≡ work → StandsPlan meaning c disk work o → (again : Redone) → (rolled_of work).redone ≡ Some again
        → told_again c again.table (put_again meaning d again.table again.row) again.tells ≡ told_at_start c torn o
    found_redone Idle o is s again same = absurd cc
    found_redone (Intended intend) o is s again same = absurd cc
    found_redone (Committed commit) None is s again same = absurd s
    found_redone (Committed commit) (Some p) is s again same =
        let one : record { table = commit.table; row = option_map (λ (change : RowChange). change.row) commit.row; tells = commit.tells } ≡ again = cc in
        subst (λ (x : Redone). told_again c x.table (put_again meaning d x.table x.row) x.tells ≡ retold p) one (redone_told commit p is s.0)

  pub found_none : (work : AtWork) (o : Option Plan) → StandsPlan meaning c disk work o → (rolled_of work).redone ≡ None → o ≡ None
  found_none Idle None s same = refl
  found_none Idle (Some p) s same = absurd s
  found_none (Intended intend) None s same = refl
  found_none (Intended intend) (Some p) s same = absurd s
  found_none (Committed commit) o s same = absurd cc
