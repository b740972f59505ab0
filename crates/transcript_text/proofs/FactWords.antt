-- The words of what clients and Stores tell.
use Rattle.std.proofs.Common.{◌≡◌, ℕ, cond, List, [], ◌∷◌, ◌++◌, codes}
use Rattle.std.proofs.Common.{refl, sym, ap, ◌∙◌, arith, rules, append-nil}
use Rattle.std.specs.List.{AllByRecursion}
use Rattle.std.specs.Fmt.{decimal}
use Rattle.std.specs.Str.{bytes_eq}
use Rattle.std.proofs.lemmas.Fmt.{decimal_injective}
use Rattle.uuid.specs.Text.{hyphenated_text, lower}
use Rattle.table_model.specs.declared.line.ClientFact.{ClientFact}
use Rattle.table_model.specs.declared.line.ClientFact.TheVariants as changes
use Rattle.table_model.specs.declared.line.Fact.{Fact}
use Rattle.table_model.specs.declared.line.Fact.TheVariants as facts
use Rattle.transcript_text.specs.Text.{outcome_text, client_fact_text, fact_text}
use Rattle.transcript_text.specs.OneForm.{HasOutcomeText, HasClientFactText, HasFactText}
use Rattle.transcript_text.proofs.Above.{IsAbove, led, decimal_above, row_above}
use Rattle.transcript_text.proofs.PartWords.{node_word, write_words, message_word, entry_words, content_led, node_led, message_led, entry_led, content_above}
use Rattle.transcript_text.proofs.PartWords.{node_above, message_above, entry_above, row_same, write_same, entry_same, node_same, message_same, first_word}

abbrev outcome_words : ℕ → ℕ → ℕ → List ℕ → ℕ → List (List ℕ)
outcome_words client number table row version =
    (codes "C" ++ decimal client) ∷ decimal number ∷ (codes "T" ++ decimal table) ∷ hyphenated_text lower row ∷ decimal version ∷ []

abbrev pub client_fact_words : ClientFact → List (List ℕ)
client_fact_words (changes.Wrote write) = write_words write
client_fact_words (changes.Acked client number table row version) = codes "acked" ∷ outcome_words client number table row version
client_fact_words (changes.Refused client number table row latest) = codes "refused" ∷ outcome_words client number table row latest
client_fact_words (changes.Conflict client number table row version) = codes "conflict" ∷ outcome_words client number table row version
client_fact_words (changes.Resolved client number table row version) = codes "resolved" ∷ outcome_words client number table row version
client_fact_words (changes.New client table row version) =
    codes "new" ∷ (codes "C" ++ decimal client) ∷ (codes "T" ++ decimal table) ∷ hyphenated_text lower row ∷ decimal version ∷ []
client_fact_words (changes.Position client table position) =
    codes "position" ∷ (codes "C" ++ decimal client) ∷ (codes "T" ++ decimal table) ∷ decimal position ∷ []
client_fact_words (changes.Opened client table) = codes "opened" ∷ (codes "C" ++ decimal client) ∷ (codes "T" ++ decimal table) ∷ []
client_fact_words (changes.Dropped client table) = codes "dropped" ∷ (codes "C" ++ decimal client) ∷ (codes "T" ++ decimal table) ∷ []

abbrev pub fact_words : Fact → List (List ℕ)
fact_words (facts.Sent packet from to name) = codes "sent" ∷ decimal packet ∷ node_word from ∷ node_word to ∷ message_word name ∷ []
fact_words (facts.Client fact) = client_fact_words fact
fact_words (facts.Redone fact) = codes "redone" ∷ client_fact_words fact
fact_words (facts.Torn client table row) =
    codes "torn" ∷ (codes "C" ++ decimal client) ∷ (codes "T" ++ decimal table) ∷ hyphenated_text lower row ∷ []
fact_words (facts.ClientRecovered client) = codes "recovered" ∷ (codes "C" ++ decimal client) ∷ []
fact_words (facts.Accepted table entry) = codes "accepted" ∷ entry_words table entry
fact_words (facts.Forward table entry) = codes "forward" ∷ entry_words table entry
fact_words (facts.Back table version) = codes "back" ∷ (codes "T" ++ decimal table) ∷ decimal version ∷ []
fact_words (facts.StoreRecovered store table) = codes "recovered" ∷ (codes "S" ++ decimal store) ∷ (codes "T" ++ decimal table) ∷ []
fact_words (facts.Made table) = codes "made" ∷ (codes "T" ++ decimal table) ∷ []
fact_words (facts.Unmade table) = codes "unmade" ∷ (codes "T" ++ decimal table) ∷ []
fact_words (facts.Saved table) = codes "saved" ∷ (codes "T" ++ decimal table) ∷ []
fact_words (facts.Notified client tables) = codes "notified" ∷ (codes "C" ++ decimal client) ∷ decimal tables ∷ []

outcome_led : (client number table : ℕ) (row : List ℕ) (version : ℕ)
    → outcome_text client number table row version ≡ led 32 (outcome_words client number table row version)
outcome_led client number table row version = simp append-nil

client_fact_led : (fact : ClientFact) → 32 ∷ client_fact_text fact ≡ led 32 (client_fact_words fact)
client_fact_led (changes.Wrote write) = rw content_led refl
client_fact_led (changes.Acked client number table row version) = rw outcome_led refl
client_fact_led (changes.Refused client number table row latest) = rw outcome_led refl
client_fact_led (changes.Conflict client number table row version) = rw outcome_led refl
client_fact_led (changes.Resolved client number table row version) = rw outcome_led refl
client_fact_led (changes.New client table row version) = simp append-nil
client_fact_led (changes.Position client table position) = simp append-nil
client_fact_led (changes.Opened client table) = simp append-nil
client_fact_led (changes.Dropped client table) = simp append-nil

pub fact_led : (fact : Fact) → 32 ∷ fact_text fact ≡ led 32 (fact_words fact)
fact_led (facts.Sent packet from to name) = simp (node_led, message_led, append-nil)
fact_led (facts.Client fact) = client_fact_led fact
fact_led (facts.Redone fact) = ap (λ text. codes " redone" ++ text) (client_fact_led fact)
fact_led (facts.Torn client table row) = simp append-nil
fact_led (facts.ClientRecovered client) = simp append-nil
fact_led (facts.Accepted table entry) = rw entry_led refl
fact_led (facts.Forward table entry) = rw entry_led refl
fact_led (facts.Back table version) = simp append-nil
fact_led (facts.StoreRecovered store table) = simp append-nil
fact_led (facts.Made table) = simp append-nil
fact_led (facts.Unmade table) = simp append-nil
fact_led (facts.Saved table) = simp append-nil
fact_led (facts.Notified client tables) = simp append-nil

outcome_above : (client number table : ℕ) (row : List ℕ) (version : ℕ) → HasOutcomeText client number table row version
    → AllByRecursion (IsAbove 32) (outcome_words client number table row version)
outcome_above client number table row version h = search (rules, decimal_above, row_above)

client_fact_above : (fact : ClientFact) → HasClientFactText fact → AllByRecursion (IsAbove 32) (client_fact_words fact)
client_fact_above (changes.Wrote write) h = search (rules, decimal_above, row_above, content_above)
client_fact_above (changes.Acked client number table row version) h = search (rules, outcome_above)
client_fact_above (changes.Refused client number table row latest) h = search (rules, outcome_above)
client_fact_above (changes.Conflict client number table row version) h = search (rules, outcome_above)
client_fact_above (changes.Resolved client number table row version) h = search (rules, outcome_above)
client_fact_above (changes.New client table row version) h = search (rules, decimal_above, row_above)
client_fact_above (changes.Position client table position) h = search (rules, decimal_above)
client_fact_above (changes.Opened client table) h = search (rules, decimal_above)
client_fact_above (changes.Dropped client table) h = search (rules, decimal_above)

pub fact_above : (fact : Fact) → HasFactText fact → AllByRecursion (IsAbove 32) (fact_words fact)
fact_above (facts.Sent packet from to name) h = search (rules, decimal_above, node_above, message_above)
fact_above (facts.Client fact) h = client_fact_above fact h
fact_above (facts.Redone fact) h = search (rules, client_fact_above)
fact_above (facts.Torn client table row) h = search (rules, decimal_above, row_above)
fact_above (facts.ClientRecovered client) h = search (rules, decimal_above)
fact_above (facts.Accepted table entry) h = search (rules, entry_above)
fact_above (facts.Forward table entry) h = search (rules, entry_above)
fact_above (facts.Back table version) h = search (rules, decimal_above)
fact_above (facts.StoreRecovered store table) h = search (rules, decimal_above)
fact_above (facts.Made table) h = search (rules, decimal_above)
fact_above (facts.Unmade table) h = search (rules, decimal_above)
fact_above (facts.Saved table) h = search (rules, decimal_above)
fact_above (facts.Notified client tables) h = search (rules, decimal_above)

client_fact_number : ClientFact → ℕ
client_fact_number (changes.Wrote write) = 0
client_fact_number (changes.Acked client number table row version) = 1
client_fact_number (changes.Refused client number table row latest) = 2
client_fact_number (changes.Conflict client number table row version) = 3
client_fact_number (changes.Resolved client number table row version) = 4
client_fact_number (changes.New client table row version) = 5
client_fact_number (changes.Position client table position) = 6
client_fact_number (changes.Opened client table) = 7
client_fact_number (changes.Dropped client table) = 8

client_fact_in : List ℕ → ℕ
client_fact_in word =
    cond (bytes_eq word (codes "wrote")) 0 (cond (bytes_eq word (codes "acked")) 1 (cond (bytes_eq word (codes "refused")) 2
    (cond (bytes_eq word (codes "conflict")) 3 (cond (bytes_eq word (codes "resolved")) 4 (cond (bytes_eq word (codes "new")) 5
    (cond (bytes_eq word (codes "opened")) 7 (cond (bytes_eq word (codes "dropped")) 8 6)))))))

client_fact_read : (fact : ClientFact) → client_fact_in (first_word (client_fact_words fact)) ≡ client_fact_number fact
unfolding client_fact_in client_fact_number
client_fact_read (changes.Wrote write) = refl
client_fact_read (changes.Acked client number table row version) = refl
client_fact_read (changes.Refused client number table row latest) = refl
client_fact_read (changes.Conflict client number table row version) = refl
client_fact_read (changes.Resolved client number table row version) = refl
client_fact_read (changes.New client table row version) = refl
client_fact_read (changes.Position client table position) = refl
client_fact_read (changes.Opened client table) = refl
client_fact_read (changes.Dropped client table) = refl

-- what became of two writes that are spelled alike
record OutcomeSame (c c_2 n n_2 t t_2 : ℕ) (r r_2 : List ℕ) (v v_2 : ℕ) : Type 0 where
  client : c ≡ c_2
  number : n ≡ n_2
  table : t ≡ t_2
  row : r ≡ r_2
  version : v ≡ v_2

outcome_same : (c c_2 n n_2 t t_2 : ℕ) (r r_2 : List ℕ) (v v_2 : ℕ) → HasOutcomeText c n t r v → HasOutcomeText c_2 n_2 t_2 r_2 v_2
    → outcome_words c n t r v ≡ outcome_words c_2 n_2 t_2 r_2 v_2 → OutcomeSame c c_2 n n_2 t t_2 r r_2 v v_2
outcome_same c c_2 n n_2 t t_2 r r_2 v v_2 p q e =
    record {
      client = decimal_injective c c_2 (omega (arith, p)) (omega (arith, q)) (cc);
      number = decimal_injective n n_2 p.1 q.1 (cc);
      table = decimal_injective t t_2 (omega (arith, p)) (omega (arith, q)) (cc);
      row = row_same r r_2 p.3 q.3 (cc);
      version = decimal_injective v v_2 p.4 q.4 (cc);
    }

client_fact_same : (a b : ClientFact) → HasClientFactText a → HasClientFactText b → client_fact_words a ≡ client_fact_words b → a ≡ b
unfolding client_fact_number
client_fact_same (changes.Wrote a) (changes.Wrote b) p q e = ap changes.Wrote (write_same a b p q e)
client_fact_same (changes.Acked c n t r v) (changes.Acked c_2 n_2 t_2 r_2 v_2) p q e =
    let same = outcome_same c c_2 n n_2 t t_2 r r_2 v v_2 p q (cc) in cc (same.client, same.number, same.table, same.row, same.version)
client_fact_same (changes.Refused c n t r v) (changes.Refused c_2 n_2 t_2 r_2 v_2) p q e =
    let same = outcome_same c c_2 n n_2 t t_2 r r_2 v v_2 p q (cc) in cc (same.client, same.number, same.table, same.row, same.version)
client_fact_same (changes.Conflict c n t r v) (changes.Conflict c_2 n_2 t_2 r_2 v_2) p q e =
    let same = outcome_same c c_2 n n_2 t t_2 r r_2 v v_2 p q (cc) in cc (same.client, same.number, same.table, same.row, same.version)
client_fact_same (changes.Resolved c n t r v) (changes.Resolved c_2 n_2 t_2 r_2 v_2) p q e =
    let same = outcome_same c c_2 n n_2 t t_2 r r_2 v v_2 p q (cc) in cc (same.client, same.number, same.table, same.row, same.version)
client_fact_same (changes.New c t r v) (changes.New c_2 t_2 r_2 v_2) p q e =
    cc (
      decimal_injective c c_2 (omega (arith, p)) (omega (arith, q)) (cc),
      decimal_injective t t_2 (omega (arith, p)) (omega (arith, q)) (cc),
      row_same r r_2 p.2 q.2 (cc),
      decimal_injective v v_2 p.3 q.3 (cc),
    )
client_fact_same (changes.Position c t v) (changes.Position c_2 t_2 v_2) p q e =
    cc (decimal_injective c c_2 (omega (arith, p)) (omega (arith, q)) (cc), decimal_injective t t_2 (omega (arith, p)) (omega (arith, q)) (cc), decimal_injective v v_2 p.2 q.2 (cc))
client_fact_same (changes.Opened c t) (changes.Opened c_2 t_2) p q e =
    cc (decimal_injective c c_2 (omega (arith, p)) (omega (arith, q)) (cc), decimal_injective t t_2 (omega (arith, p)) (omega (arith, q)) (cc))
client_fact_same (changes.Dropped c t) (changes.Dropped c_2 t_2) p q e =
    cc (decimal_injective c c_2 (omega (arith, p)) (omega (arith, q)) (cc), decimal_injective t t_2 (omega (arith, p)) (omega (arith, q)) (cc))
client_fact_same a b p q e =
    let same : client_fact_number a ≡ client_fact_number b = sym (client_fact_read a) ∙ ap (λ words. client_fact_in (first_word words)) e ∙ client_fact_read b in
    absurd (omega (arith, same))

-- a client's recovery and a Store's begin with one word
fact_number : Fact → ℕ
fact_number (facts.Sent packet from to name) = 0
fact_number (facts.Client fact) = 1
fact_number (facts.Redone fact) = 2
fact_number (facts.Torn client table row) = 3
fact_number (facts.ClientRecovered client) = 4
fact_number (facts.Accepted table entry) = 5
fact_number (facts.Forward table entry) = 6
fact_number (facts.Back table version) = 7
fact_number (facts.StoreRecovered store table) = 4
fact_number (facts.Made table) = 8
fact_number (facts.Unmade table) = 9
fact_number (facts.Saved table) = 10
fact_number (facts.Notified client tables) = 11

fact_in : List ℕ → ℕ
fact_in word =
    cond (bytes_eq word (codes "sent")) 0 (cond (bytes_eq word (codes "redone")) 2 (cond (bytes_eq word (codes "torn")) 3
    (cond (bytes_eq word (codes "recovered")) 4 (cond (bytes_eq word (codes "accepted")) 5
    (cond (bytes_eq word (codes "forward")) 6 (cond (bytes_eq word (codes "back")) 7
    (cond (bytes_eq word (codes "made")) 8 (cond (bytes_eq word (codes "unmade")) 9
    (cond (bytes_eq word (codes "saved")) 10 (cond (bytes_eq word (codes "notified")) 11 1))))))))))

fact_read : (fact : Fact) → fact_in (first_word (fact_words fact)) ≡ fact_number fact
unfolding fact_in fact_number
fact_read (facts.Sent packet from to name) = refl
fact_read (facts.Client (changes.Wrote write)) = refl
fact_read (facts.Client (changes.Acked client number table row version)) = refl
fact_read (facts.Client (changes.Refused client number table row latest)) = refl
fact_read (facts.Client (changes.Conflict client number table row version)) = refl
fact_read (facts.Client (changes.Resolved client number table row version)) = refl
fact_read (facts.Client (changes.New client table row version)) = refl
fact_read (facts.Client (changes.Position client table position)) = refl
fact_read (facts.Client (changes.Opened client table)) = refl
fact_read (facts.Client (changes.Dropped client table)) = refl
fact_read (facts.Redone fact) = refl
fact_read (facts.Torn client table row) = refl
fact_read (facts.ClientRecovered client) = refl
fact_read (facts.Accepted table entry) = refl
fact_read (facts.Forward table entry) = refl
fact_read (facts.Back table version) = refl
fact_read (facts.StoreRecovered store table) = refl
fact_read (facts.Made table) = refl
fact_read (facts.Unmade table) = refl
fact_read (facts.Saved table) = refl
fact_read (facts.Notified client tables) = refl

pub fact_same : (a b : Fact) → HasFactText a → HasFactText b → fact_words a ≡ fact_words b → a ≡ b
unfolding fact_number
fact_same (facts.Sent i from to name) (facts.Sent j from_2 to_2 name_2) p q e =
    cc (decimal_injective i j p.0 q.0 (cc), node_same from from_2 p.1 q.1 (cc), node_same to to_2 p.2 q.2 (cc), message_same name name_2 (cc))
fact_same (facts.Client a) (facts.Client b) p q e = ap facts.Client (client_fact_same a b p q e)
fact_same (facts.Redone a) (facts.Redone b) p q e = ap facts.Redone (client_fact_same a b p q (cc))
fact_same (facts.Torn c t r) (facts.Torn c_2 t_2 r_2) p q e =
    cc (
      decimal_injective c c_2 (omega (arith, p)) (omega (arith, q)) (cc),
      decimal_injective t t_2 (omega (arith, p)) (omega (arith, q)) (cc),
      row_same r r_2 p.2 q.2 (cc),
    )
fact_same (facts.ClientRecovered c) (facts.ClientRecovered c_2) p q e =
    ap facts.ClientRecovered (decimal_injective c c_2 (omega (arith, p)) (omega (arith, q)) (cc))
fact_same (facts.ClientRecovered c) (facts.StoreRecovered s t) p q e = absurd cc
fact_same (facts.StoreRecovered s t) (facts.ClientRecovered c) p q e = absurd cc
fact_same (facts.Accepted s a) (facts.Accepted t b) p q e = let same = entry_same s t a b p q (cc) in cc (same.0, same.1)
fact_same (facts.Forward s a) (facts.Forward t b) p q e = let same = entry_same s t a b p q (cc) in cc (same.0, same.1)
fact_same (facts.Back t v) (facts.Back t_2 v_2) p q e = cc (decimal_injective t t_2 (omega (arith, p)) (omega (arith, q)) (cc), decimal_injective v v_2 p.1 q.1 (cc))
fact_same (facts.StoreRecovered s t) (facts.StoreRecovered s_2 t_2) p q e =
    cc (decimal_injective s s_2 (omega (arith, p)) (omega (arith, q)) (cc), decimal_injective t t_2 (omega (arith, p)) (omega (arith, q)) (cc))
fact_same (facts.Made t) (facts.Made t_2) p q e = ap facts.Made (decimal_injective t t_2 (omega (arith, p)) (omega (arith, q)) (cc))
fact_same (facts.Unmade t) (facts.Unmade t_2) p q e = ap facts.Unmade (decimal_injective t t_2 (omega (arith, p)) (omega (arith, q)) (cc))
fact_same (facts.Saved t) (facts.Saved t_2) p q e = ap facts.Saved (decimal_injective t t_2 (omega (arith, p)) (omega (arith, q)) (cc))
fact_same (facts.Notified c t) (facts.Notified c_2 t_2) p q e =
    cc (decimal_injective c c_2 (omega (arith, p)) (omega (arith, q)) (cc), decimal_injective t t_2 p.1 q.1 (cc))
fact_same a b p q e =
    let same : fact_number a ≡ fact_number b = sym (fact_read a) ∙ ap (λ words. fact_in (first_word words)) e ∙ fact_read b in
    absurd (omega (arith, same))
