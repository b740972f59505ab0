-- Each plan of the tests may be begun.
use Rattle.std.proofs.Common.{◌≡◌, ⊎_elim, ℕ, zero, suc, ◌+◌, ◌<◌, ◌≤◌, List, [], ◌∷◌, ◌++◌, length, Option, Some, None, refl, sym, ◌∙◌, ap, subst, arith, length-append}
use Rattle.std.specs.Prelude.{IsSome, is_some, false, ◌^◌, option_map}
use Rattle.std.specs.List.{AllByRecursion}
use Rattle.std.proofs.lemmas.Bool.Decides.{nat_tests}
use Rattle.stab_base.specs.declared.limits.TheConstants.{NUMBER_MAX}
use Rattle.vault.specs.Limit.{payload_most}
use Rattle.value_codec.specs.Spelling.{list_spelling}
use Rattle.field_codec.specs.Forms.{four, eight, IsOption, option_spelling, AreEach}
use Rattle.held_value.specs.declared.local_name.LocalName.{LocalName}
use Rattle.held_value.specs.declared.content.HeldContent.{HeldContent}
use Rattle.held_value.specs.declared.content.HeldContent.TheVariants.{Gone}
use Rattle.held_codec.specs.Spelling.{local_spelling, tell_spelling, slots_spelling, HasLocalSpelling, HasSlots}
use Rattle.slot_store.specs.declared.held.RowSlots.{RowSlots}
use Rattle.slot_store.specs.Data.{slots_of}
use Rattle.plan_log.specs.declared.plan.RowChange.{RowChange}
use Rattle.plan_log.specs.declared.plan.RecordChange.{RecordChange}
use Rattle.plan_log.specs.Spelling.{IsPlan as IsPlanNumber, HasCommit, HasRowChange, HasRecordChange, IsPosition, row_change_spelling, record_change_spelling, commit_payload}
use Rattle.client_journal.specs.declared.plan.Plan.{Plan}
use Rattle.client_journal.specs.Names.{Has}
use Rattle.client_journal.specs.Devs.{ClientDevs, local_in}
use Rattle.client_journal.specs.NamedSlots.{AreDifferent, names_if, names_before, names_behind}
use Rattle.client_journal.specs.Plan.{numbered_row, numbered_slots, commit_for, IsPlan, chunk_most, changes_most}
use Rattle.client_journal.proofs.Lookups.{has_cases}
use Rattle.client_journal.proofs.Planned.{commit_len}
use Rattle.journal_tests.specs.Shapes.{new_piece, object_of, main_of, change_of, plan_of}

-- ---- spellings

gone_len : (n number : ℕ) → length (slots_spelling (numbered_slots n (main_of number Gone))) ≡ 21
unfolding eight four
gone_len n number = refl

pub one_len : (n number len : ℕ) → length (slots_spelling (numbered_slots n (main_of number (object_of len (new_piece 0 ∷ []))))) ≡ 50
unfolding eight four
one_len n number len = refl

two_len : (n number len : ℕ) → length (slots_spelling (numbered_slots n (main_of number (object_of len (new_piece 0 ∷ new_piece 1 ∷ []))))) ≡ 63
unfolding eight four
two_len n number len = refl

eight_len : (n : ℕ) → length (eight n) ≡ 8
unfolding eight
eight_len n = refl

pub drop_len : (name : LocalName) → length (list_spelling local_spelling (name ∷ [])) ≡ 16
unfolding eight four
drop_len name = refl

-- a row's change whose slots are spelled in so many bytes
abbrev RowFits : ℕ → Option RowChange → Type 0
RowFits n None = Unit {0}
RowFits n (Some change) = HasRowChange (numbered_row n change) × (length (row_change_spelling (numbered_row n change)) ≤ 100)

abbrev RecordFits : Option RecordChange → Type 0
RecordFits None = Unit {0}
RecordFits (Some change) = HasRecordChange change × (length (record_change_spelling change) ≤ 100)

abbrev DropsFit : List LocalName → Type 0
DropsFit drops = AreEach HasLocalSpelling drops × (length (list_spelling local_spelling drops) ≤ 16)

module _ (d : ClientDevs) (last : ℕ) (row : Option RowChange) (position : Option ℕ) (new_record : Option RecordChange) (brought : List (List ℕ)) (drops : List LocalName) where
  abbrev p : Plan
  p = plan_of last row position new_record brought drops

  module _ (within : last ≤ NUMBER_MAX) (rows : (n : ℕ) → IsPlanNumber n → RowFits n row) (positions : IsOption IsPosition position) (records : RecordFits new_record) (dropped : DropsFit drops) where
    row_spelled : (n : ℕ) (o : Option RowChange) → RowFits n o → IsOption HasRowChange (option_map (numbered_row n) o)
    row_spelled n None fits = tt
    row_spelled n (Some change) fits = fits.0

    record_spelled : (o : Option RecordChange) → RecordFits o → IsOption HasRecordChange o
    record_spelled None fits = tt
    record_spelled (Some change) fits = fits.0

    spelled : (n : ℕ) → IsPlanNumber n → HasCommit (commit_for n p)
    spelled n is = record {
      plan = is;
      last = within;
      table = record { least = omega arith; most = omega arith };
      row = row_spelled n row (rows n is);
      position = positions;
      new_record = record_spelled new_record records;
      drops = dropped.0;
      tells = (omega arith, tt);
    }

    row_short : (n : ℕ) (o : Option RowChange) → RowFits n o → length (option_spelling row_change_spelling (option_map (numbered_row n) o)) ≤ 101
    row_short n None fits = omega arith
    row_short n (Some change) fits = let most = fits.1 in omega (arith, most)

    position_short : (o : Option ℕ) → length (option_spelling eight o) ≤ 9
    position_short None = omega arith
    position_short (Some n) = omega (arith, eight_len n)

    record_short : (o : Option RecordChange) → RecordFits o → length (option_spelling record_change_spelling o) ≤ 101
    record_short None fits = omega arith
    record_short (Some change) fits = let most = fits.1 in omega (arith, most)

    tells_len : length (list_spelling tell_spelling []) ≡ 4
    tells_len = refl

    short : (n : ℕ) → IsPlanNumber n → length (commit_payload (commit_for n p)) ≤ payload_most
    short n is =
        omega (
          arith,
          commit_len (commit_for n p),
          row_short n row (rows n is),
          position_short position,
          record_short new_record records,
          tells_len,
          dropped.1,
          length-append (list_spelling local_spelling drops) (list_spelling tell_spelling []),
        )

    pub is_plan : ((name : LocalName) → Has (names_behind row) name → (name.plan ≡ 0) × (name.ordinal < length brought))
        → ((ordinal : ℕ) → ordinal < length brought → Has (names_behind row) (record { plan = 0; ordinal = ordinal }))
        → names_before d.held 1 row ≡ drops → AreDifferent drops → ((name : LocalName) → Has drops name → (bytes : List ℕ) × (local_in d.chunks name ≡ Some bytes))
        → AllByRecursion (λ bytes. length bytes ≤ chunk_most) brought → length brought + length drops ≤ changes_most → IsPlan d p
    is_plan news all olds different there chunks few = record {
      brought = λ name has is. (news name has).1;
      all_brought = all;
      kept = λ name k. absurd (k.kept (news name k.named).0);
      dropped = λ name has. (subst (λ (l : List LocalName). Has l name) (sym olds) has, λ k. k.kept (news name k.named).0);
      all_dropped = λ name has not. subst (λ (l : List LocalName). Has l name) olds has;
      different = different;
      there = there;
      spelled = spelled;
      short = short;
      chunks = chunks;
      few = few;
    }

-- ---- the shapes

pub none_before : (o : Option RowSlots) → is_some o ≡ false → names_if o ≡ []
none_before None is = refl
none_before (Some x) is = absurd cc

number_fits : (n : ℕ) → IsPlanNumber n → n < 2 ^ 64
number_fits n is = let most = is.most in omega (arith, most)

-- no row, and nothing but the record or the position
pub bare_is_plan : (d : ClientDevs) (position : Option ℕ) (new_record : Option RecordChange) → IsOption IsPosition position → RecordFits new_record → IsPlan d (plan_of 0 None position new_record [] [])
bare_is_plan d position new_record positions records =
    is_plan d 0 None position new_record [] [] (omega arith) (λ n is. tt) positions records ((omega arith, tt), omega arith)
    (λ name has. absurd cc) (λ ordinal lt. absurd (omega (arith, lt))) refl tt (λ name has. absurd cc) tt (omega arith)

module _ (d : ClientDevs) (row : List ℕ) (size : length row ≡ 16) (number : ℕ) (within : number ≤ NUMBER_MAX) where
  pub main_fits : (n : ℕ) (content : HeldContent) → HasSlots (numbered_slots n (main_of number content)) → length (slots_spelling (numbered_slots n (main_of number content))) ≤ 63 → RowFits n (Some (change_of row number content))
  main_fits n content has most = ((size, has), omega (arith, size, most, length-append row (slots_spelling (numbered_slots n (main_of number content)))))

  number_within : number < 2 ^ 64
  number_within = omega (arith, within)

  -- slots of a row that had none, with no chunk
  pub other_is_plan : names_before d.held 1 (Some (change_of row number Gone)) ≡ [] → IsPlan d (plan_of number (Some (change_of row number Gone)) None None [] [])
  other_is_plan olds =
      is_plan d number (Some (change_of row number Gone)) None None [] [] within
      (λ n is. main_fits n Gone ((number_within, (omega arith, tt)), (tt, (tt, tt))) (omega (arith, gone_len n number)))
      tt tt ((omega arith, tt), omega arith)
      (λ name has. absurd cc) (λ ordinal lt. absurd (omega (arith, lt))) olds tt (λ name has. absurd cc) tt (omega arith)

  abbrev one : HeldContent
  one = object_of 5 (new_piece 0 ∷ [])

  abbrev two : HeldContent
  two = object_of 69 (new_piece 0 ∷ new_piece 1 ∷ [])

  -- a row that had no slots, with one chunk
  pub first_is_plan : (position : ℕ) → position < 2 ^ 64 → (change : RecordChange) → HasRecordChange change → length (record_change_spelling change) ≤ 100 → (bytes : List ℕ) → length bytes ≤ 64
      → names_before d.held 1 (Some (change_of row number one)) ≡ [] → IsPlan d (plan_of number (Some (change_of row number one)) (Some position) (Some change) (bytes ∷ []) [])
  first_is_plan position fits change has most bytes short olds =
      is_plan d number (Some (change_of row number one)) (Some position) (Some change) (bytes ∷ []) [] within
      (λ n is. main_fits n one ((number_within, (omega arith, ((omega arith, tt), (omega arith, ((omega arith, (omega arith, (((number_fits n is, omega arith), tt), tt))), tt))))), (tt, (tt, tt))) (omega (arith, one_len n number 5)))
      fits (has, most) ((omega arith, tt), omega arith)
      (λ name has. ⊎_elim (λ same. (ap (λ (q : LocalName). q.plan) same, let o : name.ordinal ≡ 0 = ap (λ (q : LocalName). q.ordinal) same in omega (arith, o))) (λ none. absurd cc) (has_cases (record { plan = 0; ordinal = 0 }) name [] has))
      (λ ordinal lt. let o : ordinal ≡ 0 = omega (arith, lt) in subst (λ (k : ℕ). Has (names_behind (Some (change_of row number one))) (record { plan = 0; ordinal = k })) (sym o) refl)
      olds tt (λ name has. absurd cc) (omega (arith, short), tt) (omega arith)

  -- two chunks of a row in place of the one that it had
  pub second_is_plan : (a b : List ℕ) → length a ≤ 64 → length b ≤ 64 → (old : LocalName) → HasLocalSpelling old → names_before d.held 1 (Some (change_of row number two)) ≡ old ∷ [] → IsSome (local_in d.chunks old)
      → IsPlan d (plan_of number (Some (change_of row number two)) None None (a ∷ b ∷ []) (old ∷ []))
  second_is_plan a b short_a short_b old spelled olds some =
      is_plan d number (Some (change_of row number two)) None None (a ∷ b ∷ []) (old ∷ []) within
      (λ n is. main_fits n two ((number_within, (omega arith, ((omega arith, tt), (omega arith, ((omega arith, (omega arith, (((number_fits n is, omega arith), tt), (((number_fits n is, omega arith), tt), tt)))), tt))))), (tt, (tt, tt))) (omega (arith, two_len n number 69)))
      tt tt ((omega arith, (spelled, tt)), omega (arith, drop_len old))
      (λ name has. ⊎_elim
      (λ same. (ap (λ (q : LocalName). q.plan) same, let o : name.ordinal ≡ 0 = ap (λ (q : LocalName). q.ordinal) same in omega (arith, o)))
      (λ more. ⊎_elim (λ same. (ap (λ (q : LocalName). q.plan) same, let o : name.ordinal ≡ 1 = ap (λ (q : LocalName). q.ordinal) same in omega (arith, o))) (λ none. absurd cc) (has_cases (record { plan = 0; ordinal = 1 }) name [] more))
      (has_cases (record { plan = 0; ordinal = 0 }) name (record { plan = 0; ordinal = 1 } ∷ []) has))
      (λ ordinal lt. is_two ordinal lt)
      olds (refl, tt)
      (λ name has. ⊎_elim (λ same. subst (λ (q : LocalName). (bytes : List ℕ) × (local_in d.chunks q ≡ Some bytes)) (sym same) (bytes_of (local_in d.chunks old) refl some)) (λ none. absurd cc) (has_cases old name [] has))
      (omega (arith, short_a), (omega (arith, short_b), tt)) (omega arith)
    where
      bytes_of : (o : Option (List ℕ)) → local_in d.chunks old ≡ o → IsSome o → (bytes : List ℕ) × (local_in d.chunks old ≡ Some bytes)
      bytes_of (Some bytes) is some = (bytes, is)
      bytes_of None is some = absurd cc

      is_two : (ordinal : ℕ) → ordinal < 2 → Has (names_behind (Some (change_of row number two))) (record { plan = 0; ordinal = ordinal })
      is_two zero lt = refl
      is_two (suc zero) lt = refl
      is_two (suc (suc n)) lt = absurd (omega (arith, lt))
