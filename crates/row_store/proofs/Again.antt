-- Rows, tables and subscriptions that are read as they were written.
use Rattle.std.proofs.Common.{◌≡◌, ℕ, ◌+◌, ◌-◌, ◌^◌, ◌<◌, ◌≤◌, Bool, true, cond, List, [], ◌∷◌, ◌++◌, length, take, drop, Option, Result, Ok, Err, refl, sym, ◌∙◌, ap, subst, append_assoc, arith}
use Rattle.std.proofs.Common.{length-append, length-drop, inl, inr}
use Rattle.std.specs.Prelude.{◌&&◌, nat_lt, nat_le}
use Rattle.std.specs.Int.{w32, w64, to_be_bytes}
use Rattle.std.proofs.lemmas.Bool.{le-ltb}
use Rattle.std.proofs.lemmas.Bool.Decides.{nat_tests}
use Rattle.std.proofs.lemmas.List.{take_all, take_at, drop_at, drop-drop, append-nil}
use Rattle.stab_base.specs.declared.limits.TheConstants.{NUMBER_MAX}
use Rattle.stab_base.specs.Codec.{IsBytes}
use Rattle.row_value.specs.declared.schema.Schema.{Schema}
use Rattle.value_codec.specs.Spelling.{flag_spelling, list_spelling, content_spelling}
use Rattle.value_codec.specs.SchemaSpelling.{HasSchemaSpelling, schema_spelling}
use Rattle.value_codec.specs.Reading.{◌>>=◌, byte_at, number_at, flag_at, list_at, whole}
use Rattle.value_codec.proofs.FieldReads.{Reads, bind_ok, ok_is, branch, no_fault, gives, rest_fits, four_reads, eight_reads, flag_reads}
use Rattle.value_codec.proofs.ListReads.{EachFrom, list_reads}
use Rattle.value_codec.proofs.ContentReads.{content_reads}
use Rattle.value_codec.proofs.SchemaReads.{schema_reads}
use Rattle.row_store.specs.declared.stored.LastWrite.{LastWrite}
use Rattle.row_store.specs.declared.stored.StoredRow.{StoredRow}
use Rattle.row_store.specs.declared.stored.SubChange.{SubChange}
use Rattle.row_store.specs.declared.stored.Terms.{Terms}
use Rattle.row_store.specs.Spelling.{last_spelling, IsNextLast, AreLasts, all_keep, stored_spelling, HasStoredSpelling, row_payload, IsState, table_payload, IsClient, sub_payload}
use Rattle.row_store.specs.Reading.{id_at, last_in, after_last, stored_at, table_at, terms_if, sub_at, tag_at, row_in, table_in, sub_in, SaysRow, SaysTable, SaysSub, said_sub, said_table, said_row}
use Rattle.row_store.specs.Reading.{said_by}

-- ---- ids

abbrev pair : List ℕ → List ℕ → Result (List ℕ × List ℕ) ℕ
pair a b = Ok (a, b)

pub id_read : (bytes : List ℕ) (at : ℕ) (id : List ℕ) → at ≤ length bytes → id ≡ take 16 (take (length bytes - at) (drop at bytes)) → 16 ≤ length (take (length bytes - at) (drop at bytes))
    → id_at (drop at bytes) ≡ Ok (id, drop (at + 16) bytes)
unfolding id_at
id_read bytes at id within is long =
    let rest = drop at bytes in
    let whole : take (length bytes - at) rest ≡ rest = take_all (length bytes - at) rest (omega (arith, length-drop at bytes)) in
    let enough : 16 ≤ length rest = subst (λ (l : List ℕ). 16 ≤ length l) whole long in
    let front : take 16 rest ≡ id = sym (is ∙ ap (take 16) whole) in
    ap (λ (b : Bool). cond b (Err 0) (pair (take 16 rest) (drop 16 rest))) (le-ltb (length rest) 16 enough)
    ∙ (ap (λ (l : List ℕ). pair l (drop 16 rest)) front ∙ ap (pair id) (drop-drop 16 at bytes))

id_again : (id rest : List ℕ) → length id ≡ 16 → id_at (id ++ rest) ≡ Ok (id, rest)
unfolding id_at
id_again id rest len =
    ap (λ (b : Bool). cond b (Err 0) (pair (take 16 (id ++ rest)) (drop 16 (id ++ rest)))) (le-ltb (length (id ++ rest)) 16 (omega (arith, len, length-append id rest)))
    ∙ (ap (λ (l : List ℕ). pair l (drop 16 (id ++ rest))) (take_at id rest 16 len) ∙ ap (pair id) (drop_at id rest 16 len))

-- ---- last writes

abbrev lasted : ℕ → ℕ → ℕ → LastWrite
lasted client number version = record { client = client; number = number; version = version }

last_again : (before : ℕ) (last : LastWrite) (rest : List ℕ) → IsNextLast before last → last_in before (last_spelling last ++ rest) ≡ Ok (last, rest)
unfolding last_in
last_again before last rest h =
    let c = to_be_bytes w32 last.client in
    let n = to_be_bytes w64 last.number in
    let v = to_be_bytes w64 last.version in
    let above = h.above in
    let most = h.most in
    let test : (nat_lt before last.client && nat_le last.client 64) ≡ true = grind (arith, nat_tests) in
    let parts : last_spelling last ++ rest ≡ c ++ (n ++ (v ++ rest)) = append_assoc c (n ++ v) rest ∙ ap (λ (l : List ℕ). c ++ l) (append_assoc n v rest) in
    let bad : Result (LastWrite × List ℕ) ℕ = Err (length (c ++ (n ++ (v ++ rest)))) in
    let f2 : ℕ × List ℕ → ℕ × List ℕ → ℕ × List ℕ → Result (LastWrite × List ℕ) ℕ = λ client number version. cond (nat_lt before client.0 && nat_le client.0 64) (gives (lasted client.0 number.0 version.0) version.1) bad in
    let f1 : ℕ × List ℕ → ℕ × List ℕ → Result (LastWrite × List ℕ) ℕ = λ client number. number_at w64 number.1 >>= f2 client number in
    let f0 : ℕ × List ℕ → Result (LastWrite × List ℕ) ℕ = λ client. number_at w64 client.1 >>= f1 client in
    let read0 : number_at w32 (c ++ (n ++ (v ++ rest))) ≡ Ok (last.client, n ++ (v ++ rest)) = four_reads.again last.client (n ++ (v ++ rest)) (omega (arith, h.most)) in
    let read1 : number_at w64 (n ++ (v ++ rest)) ≡ Ok (last.number, v ++ rest) = eight_reads.again last.number (v ++ rest) h.number in
    let read2 : number_at w64 (v ++ rest) ≡ Ok (last.version, rest) = eight_reads.again last.version rest h.version in
    ap (last_in before) parts
    ∙ (ap (λ (r : Result (ℕ × List ℕ) ℕ). r >>= f0) read0
    ∙ (ap (λ (r : Result (ℕ × List ℕ) ℕ). r >>= f1 (last.client, n ++ (v ++ rest))) read1
    ∙ (ap (λ (r : Result (ℕ × List ℕ) ℕ). r >>= f2 (last.client, n ++ (v ++ rest)) (last.number, v ++ rest)) read2
    ∙ ap (λ (b : Bool). cond b (gives last rest) bad) test)))

last_takes : (before : ℕ) (bytes : List ℕ) (last : LastWrite) (rest : List ℕ) → IsBytes bytes → last_in before bytes ≡ Ok (last, rest) → IsNextLast before last × (bytes ≡ last_spelling last ++ rest)
unfolding last_in
last_takes before bytes last rest fits e =
    let bad : Result (LastWrite × List ℕ) ℕ = Err (length bytes) in
    let f2 : ℕ × List ℕ → ℕ × List ℕ → ℕ × List ℕ → Result (LastWrite × List ℕ) ℕ = λ client number version. cond (nat_lt before client.0 && nat_le client.0 64) (gives (lasted client.0 number.0 version.0) version.1) bad in
    let f1 : ℕ × List ℕ → ℕ × List ℕ → Result (LastWrite × List ℕ) ℕ = λ client number. number_at w64 number.1 >>= f2 client number in
    let f0 : ℕ × List ℕ → Result (LastWrite × List ℕ) ℕ = λ client. number_at w64 client.1 >>= f1 client in
    let a = bind_ok (number_at w32 bytes) f0 (last, rest) e in
    let b = bind_ok (number_at w64 a.0.1) (f1 a.0) (last, rest) a.2 in
    let c = bind_ok (number_at w64 b.0.1) (f2 a.0 b.0) (last, rest) b.2 in
    let t = four_reads.takes bytes a.0.0 a.0.1 fits a.1 in
    let behind : IsBytes a.0.1 = rest_fits (to_be_bytes w32 a.0.0) a.0.1 bytes t.1 fits in
    let u = eight_reads.takes a.0.1 b.0.0 b.0.1 behind b.1 in
    let further : IsBytes b.0.1 = rest_fits (to_be_bytes w64 b.0.0) b.0.1 a.0.1 u.1 behind in
    let v = eight_reads.takes b.0.1 c.0.0 c.0.1 further c.1 in
    elim (branch (nat_lt before a.0.0 && nat_le a.0.0 64) (gives (lasted a.0.0 b.0.0 c.0.0) c.0.1) bad (last, rest) c.2) [
      | inl y ↦
          let test : (nat_lt before a.0.0 && nat_le a.0.0 64) ≡ true = y.0 in
          let above : before < a.0.0 = grind (arith, nat_tests) in
          let most : a.0.0 ≤ 64 = grind (arith, nat_tests) in
          let number : List ℕ = to_be_bytes w64 b.0.0 in
          let version : List ℕ = to_be_bytes w64 c.0.0 in
          let parts : bytes ≡ last_spelling (lasted a.0.0 b.0.0 c.0.0) ++ c.0.1 =
          t.1 ∙ (ap (λ (l : List ℕ). to_be_bytes w32 a.0.0 ++ l) (u.1 ∙ (ap (λ (l : List ℕ). number ++ l) v.1 ∙ sym (append_assoc number version c.0.1)))
          ∙ sym (append_assoc (to_be_bytes w32 a.0.0) (number ++ version) c.0.1)) in
          subst (λ (p : LastWrite × List ℕ). IsNextLast before p.0 × (bytes ≡ last_spelling p.0 ++ p.1)) (ok_is (lasted a.0.0 b.0.0 c.0.0, c.0.1) (last, rest) y.1)
          (record { above = above; most = most; number = u.0; version = v.0 }, parts)
      | inr n ↦ absurd (no_fault (length bytes) (last, rest) n.1)
    ]

last_reads : (before : ℕ) → Reads (IsNextLast before) last_spelling (last_in before)
last_reads before = record { takes = last_takes before; again = last_again before }

abbrev pub AreLastsRead : List LastWrite → Type 0
AreLastsRead lasts = (length lasts < 2 ^ 32) × EachFrom after_last IsNextLast 0 lasts

pub lasts_read : Reads AreLastsRead (list_spelling last_spelling) (list_at after_last last_in 0)
lasts_read = list_reads after_last IsNextLast last_spelling last_in last_reads 0

lasts_are : (before : ℕ) (lasts : List LastWrite) → AreLasts before lasts → EachFrom after_last IsNextLast before lasts
lasts_are before [] h = tt
lasts_are before (last ∷ lasts) h = (h.0, lasts_are last.client lasts h.1)

pub are_lasts : (before : ℕ) (lasts : List LastWrite) → EachFrom after_last IsNextLast before lasts → AreLasts before lasts
are_lasts before [] h = tt
are_lasts before (last ∷ lasts) h = (h.0, are_lasts last.client lasts h.1)

-- a client has at most one last write
few_from : (before : ℕ) (lasts : List LastWrite) → before ≤ 64 → AreLasts before lasts → length lasts + before ≤ 64
few_from before [] le h = omega arith
few_from before (last ∷ lasts) le h = omega (arith, few_from last.client lasts h.0.most h.1, h.0.above)

pub few : (lasts : List LastWrite) → AreLasts 0 lasts → length lasts ≤ 64
few lasts h = omega (arith, few_from 0 lasts (omega arith) h)

-- ---- rows

pub spelling_parts : (stored : StoredRow) (rest : List ℕ)
    → stored_spelling stored ++ rest ≡ stored.row ++ (to_be_bytes w64 stored.version ++ (content_spelling stored.content ++ (list_spelling last_spelling stored.pairs ++ rest)))
spelling_parts stored rest =
    let v = to_be_bytes w64 stored.version in
    let c = content_spelling stored.content in
    let l = list_spelling last_spelling stored.pairs in
    append_assoc stored.row (v ++ (c ++ l)) rest
    ∙ ap (λ (x : List ℕ). stored.row ++ x) (append_assoc v (c ++ l) rest ∙ ap (λ (x : List ℕ). v ++ x) (append_assoc c l rest))

pub stored_again : (stored : StoredRow) (rest : List ℕ) → HasStoredSpelling stored → stored_at (stored_spelling stored ++ rest) ≡ Ok (stored, rest)
unfolding stored_at
stored_again stored rest h =
    let v = to_be_bytes w64 stored.version in
    let c = content_spelling stored.content in
    let l = list_spelling last_spelling stored.pairs in
    let keeps = h.keeps in
    let version = h.version in
    let test : (all_keep stored.content && nat_le stored.version NUMBER_MAX) ≡ true = grind (arith, nat_tests) in
    rw (
      spelling_parts stored rest,
      id_again stored.row (v ++ (c ++ (l ++ rest))) h.row,
      eight_reads.again stored.version (c ++ (l ++ rest)) (omega (arith, h.version)),
      content_reads.again stored.content (l ++ rest) h.content,
      lasts_read.again stored.pairs rest (omega (arith, few stored.pairs h.lasts), lasts_are 0 stored.pairs h.lasts),
      test,
    ) refl

pub row_again : (stored : StoredRow) → HasStoredSpelling stored → row_in (row_payload stored) ≡ Ok stored
unfolding row_in whole tag_at byte_at
row_again stored h =
    let all : stored_at (stored_spelling stored) ≡ Ok (stored, []) = ap stored_at (sym (append-nil (stored_spelling stored))) ∙ stored_again stored [] h in
    rw all refl

pub says_row : (stored : StoredRow) → HasStoredSpelling stored → said_by (row_payload stored) ≡ SaysRow stored
unfolding said_by
says_row stored h = ap (λ (r : Result StoredRow ℕ). said_row r (said_table (table_in (row_payload stored)) (said_sub (sub_in (row_payload stored))))) (row_again stored h)

-- ---- tables

table_again : (schema : Schema) (state : ℕ) (rest : List ℕ) → HasSchemaSpelling schema → IsState state → table_at (schema_spelling schema ++ (state ∷ rest)) ≡ Ok ((schema, state), rest)
unfolding table_at byte_at
table_again schema state rest h is =
    let least = is.least in
    let most = is.most in
    let test : (nat_le 1 state && nat_le state 3) ≡ true = grind (arith, nat_tests) in
    rw (schema_reads.again schema (state ∷ rest) h, test) refl

pub table_in_again : (schema : Schema) (state : ℕ) → HasSchemaSpelling schema → IsState state → table_in (table_payload schema state) ≡ Ok (schema, state)
unfolding table_in whole tag_at byte_at
table_in_again schema state h is = rw (table_again schema state [] h is) refl

pub says_table : (schema : Schema) (state : ℕ) → HasSchemaSpelling schema → IsState state → said_by (table_payload schema state) ≡ SaysTable schema state
unfolding said_by row_in tag_at byte_at
says_table schema state h is = ap (λ (r : Result (Schema × ℕ) ℕ). said_table r (said_sub (sub_in (table_payload schema state)))) (table_in_again schema state h is)

-- ---- subscriptions

abbrev termed : ℕ → ℕ → ℕ → Terms
termed gate period tolerance = record { gate = gate; period = period; tolerance = tolerance }

abbrev subbed : ℕ → Option Terms → SubChange
subbed client terms = record { client = client; terms = terms }

sub_again : (client : ℕ) (on : Bool) (terms : Terms) → IsClient client → terms.gate < 2 ^ 32 → terms.period < 2 ^ 32 → terms.tolerance < 2 ^ 32
    → sub_at (to_be_bytes w32 client ++ (flag_spelling on ++ (to_be_bytes w32 terms.gate ++ (to_be_bytes w32 terms.period ++ to_be_bytes w32 terms.tolerance)))) ≡ Ok (record { client = client; terms = terms_if on terms }, [])
unfolding sub_at
sub_again client on terms is gate period tolerance =
    let t = to_be_bytes w32 terms.tolerance in
    let pt = to_be_bytes w32 terms.period ++ t in
    let gpt = to_be_bytes w32 terms.gate ++ pt in
    let fgpt = flag_spelling on ++ gpt in
    let all = to_be_bytes w32 client ++ fgpt in
    let least = is.least in
    let most = is.most in
    let test : (nat_le 1 client && nat_le client 64) ≡ true = grind (arith, nat_tests) in
    let nothing : List ℕ = [] in
    let bad : Result (SubChange × List ℕ) ℕ = Err (length all) in
    let f4 : ℕ × List ℕ → Bool × List ℕ → ℕ × List ℕ → ℕ × List ℕ → ℕ × List ℕ → Result (SubChange × List ℕ) ℕ = λ c o g p t. cond (nat_le 1 c.0 && nat_le c.0 64) (gives (subbed c.0 (terms_if o.0 (termed g.0 p.0 t.0))) t.1) bad in
    let f3 : ℕ × List ℕ → Bool × List ℕ → ℕ × List ℕ → ℕ × List ℕ → Result (SubChange × List ℕ) ℕ = λ c o g p. number_at w32 p.1 >>= f4 c o g p in
    let f2 : ℕ × List ℕ → Bool × List ℕ → ℕ × List ℕ → Result (SubChange × List ℕ) ℕ = λ c o g. number_at w32 g.1 >>= f3 c o g in
    let f1 : ℕ × List ℕ → Bool × List ℕ → Result (SubChange × List ℕ) ℕ = λ c o. number_at w32 o.1 >>= f2 c o in
    let f0 : ℕ × List ℕ → Result (SubChange × List ℕ) ℕ = λ c. flag_at c.1 >>= f1 c in
    let read0 : number_at w32 all ≡ Ok (client, fgpt) = four_reads.again client fgpt (omega (arith, is.most)) in
    let read1 : flag_at fgpt ≡ Ok (on, gpt) = flag_reads.again on gpt tt in
    let read2 : number_at w32 gpt ≡ Ok (terms.gate, pt) = four_reads.again terms.gate pt gate in
    let read3 : number_at w32 pt ≡ Ok (terms.period, t) = four_reads.again terms.period t period in
    let read4 : number_at w32 t ≡ Ok (terms.tolerance, nothing) = ap (number_at w32) (sym (append-nil t)) ∙ four_reads.again terms.tolerance nothing tolerance in
    ap (λ (r : Result (ℕ × List ℕ) ℕ). r >>= f0) read0
    ∙ (ap (λ (r : Result (Bool × List ℕ) ℕ). r >>= f1 (client, fgpt)) read1
    ∙ (ap (λ (r : Result (ℕ × List ℕ) ℕ). r >>= f2 (client, fgpt) (on, gpt)) read2
    ∙ (ap (λ (r : Result (ℕ × List ℕ) ℕ). r >>= f3 (client, fgpt) (on, gpt) (terms.gate, pt)) read3
    ∙ (ap (λ (r : Result (ℕ × List ℕ) ℕ). r >>= f4 (client, fgpt) (on, gpt) (terms.gate, pt) (terms.period, t)) read4
    ∙ ap (λ (b : Bool). cond b (gives (subbed client (terms_if on terms)) nothing) bad) test))))

pub says_sub : (client : ℕ) (on : Bool) (terms : Terms) → IsClient client → terms.gate < 2 ^ 32 → terms.period < 2 ^ 32 → terms.tolerance < 2 ^ 32
    → said_by (sub_payload client on terms) ≡ SaysSub (record { client = client; terms = terms_if on terms })
unfolding said_by row_in table_in sub_in whole tag_at byte_at
says_sub client on terms is gate period tolerance = rw (sub_again client on terms is gate period tolerance) refl

-- ---- what a payload that says a row has in it

pub row_said : (payload : List ℕ) (stored : StoredRow) → said_by payload ≡ SaysRow stored → row_in payload ≡ Ok stored
unfolding said_by
row_said payload stored e = split (row_in payload) (table_in payload) (sub_in payload) e
  where
    split : (r : Result StoredRow ℕ) (t : Result (Schema × ℕ) ℕ) (s : Result SubChange ℕ) → said_row r (said_table t (said_sub s)) ≡ SaysRow stored → r ≡ Ok stored
    split (Ok x) t s e = let same : x ≡ stored = cc in ap (λ (y : StoredRow). Ok y) same
    split (Err left) (Ok x) s e = absurd cc
    split (Err left) (Err left') (Ok x) e = absurd cc
    split (Err left) (Err left') (Err left'') e = absurd cc

pub table_said : (payload : List ℕ) (schema : Schema) (state : ℕ) → said_by payload ≡ SaysTable schema state → table_in payload ≡ Ok (schema, state)
unfolding said_by
table_said payload schema state e = split (row_in payload) (table_in payload) (sub_in payload) e
  where
    split : (r : Result StoredRow ℕ) (t : Result (Schema × ℕ) ℕ) (s : Result SubChange ℕ) → said_row r (said_table t (said_sub s)) ≡ SaysTable schema state → t ≡ Ok (schema, state)
    split (Ok x) t s e = absurd cc
    split (Err left) (Ok x) s e =
        let first : x.0 ≡ schema = cc in
        let second : x.1 ≡ state = cc in
        ap (λ (a : Schema). Ok (a, x.1)) first ∙ ap (λ (b : ℕ). Ok (schema, b)) second
    split (Err left) (Err left') (Ok x) e = absurd cc
    split (Err left) (Err left') (Err left'') e = absurd cc
