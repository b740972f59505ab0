-- The fields of messages: each reading gives what is spelled, and tells the first bad place.
use Rattle.std.proofs.Common.{◌≡◌, ℕ, zero, suc, ◌<◌, ◌≤◌, ◌^◌, Bool, true, false, eqb, leb, List, [], ◌∷◌, ◌++◌, length, Ok, Err, refl, sym, ap}
use Rattle.std.proofs.Common.{subst, ◌∙◌, arith, inl, inr}
use Rattle.std.proofs.lemmas.Bool.{leb-true}
use Rattle.stab_base.specs.Codec.{IsBytes}
use Rattle.value_codec.specs.FirstBad.{IsFirstBad}
use Rattle.value_codec.specs.Spelling.{list_spelling}
use Rattle.value_codec.specs.Reading.{list_at, exactly_at}
use Rattle.value_codec.proofs.FieldReads.{retold, bind_ok, ok_is, gives}
use Rattle.value_codec.proofs.PieceReads.{exactly_takes, exactly_again}
use Rattle.value_codec.proofs.ListReads.{EachFrom, list_reads, each_of, each_from}
use Rattle.value_codec.proofs.Stops.{retold_stop, moved, bind_err, not_ok}
use Rattle.value_codec.proofs.FieldStops.{exactly_fails, Given, given, list_stop}
use Rattle.table_model.specs.declared.message.TableSubscription.{TableSubscription}
use Rattle.table_model.specs.declared.message.Outcome.{Outcome}
use Rattle.table_model.specs.declared.message.Outcome.TheVariants as outcomes
use Rattle.field_codec.specs.Fields.{bytes_at, option_at}
use Rattle.sync_msgs.specs.Fields.{client_at, period_if, chunk_bytes_at, value_if}
use Rattle.field_codec.specs.Forms.{four, eight, IsBetween, IsOption, option_spelling}
use Rattle.sync_msgs.specs.Spelling.{IsClient, IsPeriod, IsChunk, chunk_spelling, header_spelling, HasHeaderSpelling, outcome_spelling}
use Rattle.sync_msgs.specs.Spelling.{HasOutcomeSpelling, subscription_spelling, HasSubscriptionSpelling, AreSubscriptions, subscriptions_spelling}
use Rattle.sync_msgs.specs.Reading.{header_of, header_at, is_outcome, outcome_of, outcome_at, subscription_at, after_subscription, subscription_in}
use Rattle.field_codec.proofs.FieldCodecs.{four_codec, eight_codec, id_codec, kept_codec, bytes_codec, option_codec}
use Rattle.field_codec.proofs.Codecs.{Codec, both, depending, made}
use Rattle.field_codec.proofs.Ranges.{Passes, one_byte, passes, ranged, both_are}

-- ---- clients and periods

pub client_codec : Codec IsClient four client_at
client_codec = ranged 1 64 (omega arith) (omega arith)

pub period_codec : (on : Bool) → Codec (IsPeriod on) four (period_if on)
period_codec true = ranged 1 4294967295 (omega arith) (omega arith)
period_codec false = four_codec

-- ---- bytes of a chunk

abbrev text_of : ℕ × List ℕ → List ℕ
text_of p = p.1

pub chunk_codec : Codec IsChunk chunk_spelling chunk_bytes_at
unfolding chunk_bytes_at chunk_spelling four
chunk_codec =
    made text_of IsChunk chunk_spelling (λ p h. subst (IsBetween 1 65536) (sym h.1) h.0) (λ p h. ap (λ (n : ℕ). four n ++ p.1) h.1) (λ text h. ((length text, text), (h, refl), refl))
    (depending (λ (n : ℕ) (text : List ℕ). length text ≡ n) (λ (n : ℕ) (text : List ℕ). text) bytes_at (ranged 1 65536 (omega arith) (omega arith)) bytes_codec)

-- ---- numbers that are 0, or any

abbrev IsValue : Bool → ℕ → Type 0
IsValue true n = n ≡ 0
IsValue false n = n < 2 ^ 64

abbrev eight_zeros : List ℕ
eight_zeros = 0 ∷ (0 ∷ (0 ∷ (0 ∷ (0 ∷ (0 ∷ (0 ∷ (0 ∷ [])))))))

none_takes : (bytes : List ℕ) (n : ℕ) (rest : List ℕ) → IsBytes bytes → value_if true bytes ≡ Ok (n, rest) → (n ≡ 0) × (bytes ≡ eight n ++ rest)
unfolding value_if eight
none_takes bytes n rest fits e =
    let a = bind_ok (exactly_at eight_zeros bytes) (λ rest. gives 0 rest) (n, rest) e in
    subst (λ (p : ℕ × List ℕ). (p.0 ≡ 0) × (bytes ≡ eight p.0 ++ p.1)) (ok_is (0, a.0) (n, rest) a.2) (refl, exactly_takes eight_zeros bytes a.0 a.1)

none_again : (n : ℕ) (rest : List ℕ) → n ≡ 0 → value_if true (eight n ++ rest) ≡ Ok (n, rest)
unfolding value_if eight
none_again n rest is =
    let read : value_if true (eight 0 ++ rest) ≡ gives 0 rest = rw (exactly_again eight_zeros rest) refl in
    ap (λ (m : ℕ). value_if true (eight m ++ rest)) is ∙ read ∙ ap (λ (m : ℕ). gives m rest) (sym is)

none_fails : (bytes : List ℕ) (left : ℕ) → IsBytes bytes → value_if true bytes ≡ Err left → IsFirstBad (λ n. n ≡ 0) eight bytes left
unfolding value_if eight
none_fails bytes left fits e =
    elim (bind_err (exactly_at eight_zeros bytes) (λ rest. gives 0 rest) left e) [
      | inl h ↦ moved Given (given eight_zeros) (λ n. n ≡ 0) eight bytes left (λ u k. (0, refl, refl)) (λ n k. (tt, tt, ap eight (sym k))) (exactly_fails eight_zeros bytes left h)
      | inr h ↦ absurd (not_ok (0, h.0) left h.2)
    ]

any_value : Codec (λ n. n < 2 ^ 64) eight (value_if false)
unfolding value_if
any_value = eight_codec

value_codec : (none : Bool) → Codec (IsValue none) eight (value_if none)
value_codec true = record { reads = record { takes = none_takes; again = none_again }; stops = record { some = 0; has = refl; fails = none_fails } }
value_codec false = any_value

-- ---- row headers

header_codec : Codec HasHeaderSpelling header_spelling header_at
unfolding header_at
header_codec =
    made header_of HasHeaderSpelling header_spelling (λ p h. h) (λ p h. refl) (λ h k. ((h.row, (h.version, (h.yours.number, (h.yours.version, h.content)))), k, refl))
    (both id_codec (both eight_codec (both eight_codec (both eight_codec kept_codec))))

pub header_option_codec : Codec (IsOption HasHeaderSpelling) (option_spelling header_spelling) (option_at header_at)
header_option_codec = option_codec header_codec

-- ---- outcomes

abbrev IsCoded : ℕ → ℕ → Type 0
IsCoded code value = HasOutcomeSpelling (outcome_of code value) × (outcome_spelling (outcome_of code value) ≡ one_byte code ++ eight value)

coded : (code value : ℕ) → 1 ≤ code → code ≤ 6 → IsValue (eqb code 6) value → IsCoded code value
coded zero value a b h = absurd (omega arith)
coded (suc zero) value a b h = (h, refl)
coded (suc (suc zero)) value a b h = (h, refl)
coded (suc (suc (suc zero))) value a b h = (h, refl)
coded (suc (suc (suc (suc zero)))) value a b h = (h, refl)
coded (suc (suc (suc (suc (suc zero))))) value a b h = (h, refl)
coded (suc (suc (suc (suc (suc (suc zero)))))) value a b h = (tt, ap (λ (n : ℕ). 6 ∷ eight n) (sym h))
coded (suc (suc (suc (suc (suc (suc (suc n))))))) value a b h = absurd (omega arith)

coded_of : (p : ℕ × ℕ) → Passes is_outcome p.0 × IsValue (eqb p.0 6) p.1 → IsCoded p.0 p.1
coded_of p h =
    let t = both_are (leb 1 p.0) (leb p.0 6) h.0.1 in
    coded p.0 p.1 (leb-true _ _ t.0) (leb-true _ _ t.1) h.1

outcome_back : (z : Outcome) → HasOutcomeSpelling z → (p : ℕ × ℕ) × (Passes is_outcome p.0 × IsValue (eqb p.0 6) p.1) × (outcome_of p.0 p.1 ≡ z)
outcome_back (outcomes.Accepted v) h = ((1, v), ((omega arith, refl), h), refl)
outcome_back (outcomes.Again v) h = ((2, v), ((omega arith, refl), h), refl)
outcome_back (outcomes.Late v) h = ((3, v), ((omega arith, refl), h), refl)
outcome_back (outcomes.Stale v) h = ((4, v), ((omega arith, refl), h), refl)
outcome_back (outcomes.Conflict v) h = ((5, v), ((omega arith, refl), h), refl)
outcome_back outcomes.NeedWhole h = ((6, 0), ((omega arith, refl), refl), refl)

pub outcome_codec : Codec HasOutcomeSpelling outcome_spelling outcome_at
unfolding outcome_at
outcome_codec =
    made (λ (p : ℕ × ℕ). outcome_of p.0 p.1) HasOutcomeSpelling outcome_spelling (λ p h. (coded_of p h).0) (λ p h. (coded_of p h).1) outcome_back
    (depending (λ (code : ℕ). IsValue (eqb code 6)) (λ (code : ℕ). eight) (λ code. value_if (eqb code 6)) (passes is_outcome 1 (omega arith, refl)) (λ code. value_codec (eqb code 6)))

-- ---- subscriptions

subscription_codec : Codec HasSubscriptionSpelling subscription_spelling subscription_at
unfolding subscription_at
subscription_codec =
    made (λ (p : ℕ × (ℕ × ℕ)). record { table = p.0; period = p.1.0; tolerance = p.1.1 }) HasSubscriptionSpelling subscription_spelling (λ p h. h) (λ p h. refl) (λ s h. ((s.table, (s.period, s.tolerance)), h, refl))
    (both four_codec (both four_codec four_codec))

abbrev AreListed : List TableSubscription → Type 0
AreListed xs = (length xs < 2 ^ 32) × EachFrom after_subscription (λ s. HasSubscriptionSpelling) tt xs

listed_are : (xs : List TableSubscription) → AreListed xs → AreSubscriptions xs
listed_are xs h = (h.0, each_of after_subscription HasSubscriptionSpelling tt xs h.1)

are_listed : (xs : List TableSubscription) → AreSubscriptions xs → AreListed xs
are_listed xs h = (h.0, each_from after_subscription HasSubscriptionSpelling tt xs h.1)

pub subscriptions_codec : Codec AreSubscriptions subscriptions_spelling (list_at after_subscription subscription_in tt)
unfolding subscriptions_spelling
subscriptions_codec = record {
  reads = retold AreListed AreSubscriptions (list_spelling subscription_spelling) (list_at after_subscription subscription_in tt) (list_reads after_subscription (λ s. HasSubscriptionSpelling) subscription_spelling subscription_in (λ s. subscription_codec.reads) tt) listed_are are_listed;
  stops = retold_stop AreListed AreSubscriptions (list_spelling subscription_spelling) (list_at after_subscription subscription_in tt) (list_stop after_subscription (λ s. HasSubscriptionSpelling) subscription_spelling subscription_in (λ s. subscription_codec.reads) (λ s. subscription_codec.stops) tt) listed_are are_listed;
}
