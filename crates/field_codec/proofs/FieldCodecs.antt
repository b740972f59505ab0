-- Fields: each reading gives what is spelled, and tells the first bad place.
use Rattle.std.proofs.Common.{◌≡◌, ℕ, ◌-◌, ◌<◌, ◌≤◌, ◌^◌, Bool, true, false, ltb, List, [], ◌∷◌, ◌++◌, length, take, drop, Result, Ok, Err, Option, Some, None, refl, sym, ap}
use Rattle.std.proofs.Common.{subst, ◌∙◌, arith, inl, inr, length-append}
use Rattle.std.specs.Int.{w32, w64}
use Rattle.std.proofs.lemmas.Bool.{eqb-true, ltb-true, ltb-false, le-ltb}
use Rattle.std.proofs.lemmas.List.{take_at, drop_at, append-nil, length-take-le, take-append-drop}
use Rattle.stab_base.specs.Codec.{IsBytes}
use Rattle.value_codec.specs.FirstBad.{IsFirstBad}
use Rattle.value_codec.specs.Spelling.{flag_spelling, list_spelling, content_spelling, HasContentSpelling, HasKeptSpelling}
use Rattle.value_codec.specs.SchemaSpelling.{schema_spelling, HasSchemaSpelling}
use Rattle.value_codec.specs.Reading.{byte_at, number_at, flag_at, id_at, content_at, kept_content_at, list_at}
use Rattle.value_codec.specs.SchemaReading.{schema_at}
use Rattle.value_codec.proofs.FieldReads.{retold, branch, ok_is, no_fault, gives, byte_reads, four_reads, eight_reads, id_reads, flag_reads}
use Rattle.value_codec.proofs.ContentReads.{content_reads, kept_reads}
use Rattle.value_codec.proofs.SchemaReads.{schema_reads}
use Rattle.value_codec.proofs.ListReads.{EachFrom, list_reads, each_of, each_from}
use Rattle.value_codec.proofs.Stops.{retold_stop, branch_err, err_is, not_ok, no_byte}
use Rattle.value_codec.proofs.FieldStops.{four_stop, eight_stop, id_stop, flag_stop, list_stop, zeros, zeros-length}
use Rattle.value_codec.proofs.ValueStops.{content_stop, kept_stop}
use Rattle.value_codec.proofs.SchemaStops.{schema_stop}
use Rattle.field_codec.specs.Fields.{Reader, bytes_at, inside_if, option_at, is_flag, option_if, after_item, item_in, all_at}
use Rattle.field_codec.specs.Forms.{four, eight, IsOption, option_spelling, IsOptionIf, AreEach}
use Rattle.field_codec.proofs.Codecs.{Codec, both, depending, made}
use Rattle.field_codec.proofs.Ranges.{Passes, one_byte, passes}

-- ---- numbers, ids and values of rows

pub four_codec : Codec (λ n. n < 2 ^ 32) four (number_at w32)
unfolding four
four_codec = record { reads = four_reads; stops = four_stop }

pub eight_codec : Codec (λ n. n < 2 ^ 64) eight (number_at w64)
unfolding eight
eight_codec = record { reads = eight_reads; stops = eight_stop }

byte_fails : (bytes : List ℕ) (left : ℕ) → IsBytes bytes → byte_at bytes ≡ Err left → IsFirstBad (λ n. n < 256) one_byte bytes left
unfolding byte_at
byte_fails [] left fits e = subst (IsFirstBad (λ n. n < 256) one_byte []) (err_is {A = ℕ × List ℕ} 0 left e) (no_byte (λ n. n < 256) one_byte 0 (omega arith))
byte_fails (b ∷ bytes) left fits e = absurd (not_ok (b, bytes) left e)

pub byte_codec : Codec (λ n. n < 256) one_byte byte_at
byte_codec = record { reads = byte_reads; stops = record { some = 0; has = omega arith; fails = byte_fails } }

pub id_codec : Codec (λ id. length id ≡ 16) (λ id. id) id_at
id_codec = record { reads = id_reads; stops = id_stop }

pub flag_codec : Codec (λ b. Unit {0}) flag_spelling flag_at
flag_codec = record { reads = flag_reads; stops = flag_stop }

pub content_codec : Codec HasContentSpelling content_spelling content_at
content_codec = record { reads = content_reads; stops = content_stop }

pub kept_codec : Codec HasKeptSpelling content_spelling kept_content_at
kept_codec = record { reads = kept_reads; stops = kept_stop }

pub schema_codec : Codec HasSchemaSpelling schema_spelling schema_at
schema_codec = record { reads = schema_reads; stops = schema_stop }

-- ---- so many bytes

bytes_takes : (len : ℕ) (bytes text rest : List ℕ) → IsBytes bytes → bytes_at len bytes ≡ Ok (text, rest) → (length text ≡ len) × (bytes ≡ text ++ rest)
unfolding bytes_at
bytes_takes len bytes text rest fits e =
    elim (branch (ltb (length bytes) len) (Err 0) (gives (take len bytes) (drop len bytes)) (text, rest) e) [
      | inl y ↦ absurd (no_fault 0 (text, rest) y.1)
      | inr n ↦
          let long : len ≤ length bytes = ltb-false _ _ n.0 in
          subst (λ (p : List ℕ × List ℕ). (length p.0 ≡ len) × (bytes ≡ p.0 ++ p.1)) (ok_is (take len bytes, drop len bytes) (text, rest) n.1) (length-take-le len bytes long, sym (take-append-drop len bytes))
    ]

bytes_again : (len : ℕ) (text rest : List ℕ) → length text ≡ len → bytes_at len (text ++ rest) ≡ Ok (text, rest)
unfolding bytes_at
bytes_again len text rest is =
    let long : ltb (length (text ++ rest)) len ≡ false = le-ltb _ _ (omega (arith, length-append text rest, is)) in
    rw (long, take_at text rest len is, drop_at text rest len is) refl

bytes_fails : (len : ℕ) (bytes : List ℕ) (left : ℕ) → bytes_at len bytes ≡ Err left → IsFirstBad (λ text. length text ≡ len) (λ text. text) bytes left
unfolding bytes_at
bytes_fails len bytes left e =
    elim (branch_err (ltb (length bytes) len) (Err 0) (gives (take len bytes) (drop len bytes)) left e) [
      | inr h ↦ absurd (not_ok (take len bytes, drop len bytes) left h.1)
      | inl h ↦
          let short : length bytes < len = ltb-true _ _ h.0 in
          let missing : List ℕ = zeros (len - length bytes) in
          let nothing : List ℕ = [] in
          record {
            front = bytes;
            rest = nothing;
            parts = sym (append-nil bytes);
            place = err_is {A = List ℕ × List ℕ} 0 left h.1;
            value = bytes ++ missing;
            more = missing;
            fits = length-append bytes missing ∙ omega (arith, zeros-length (len - length bytes));
            goes_on = refl;
            stops = λ b later is x others k f. absurd cc;
          }
    ]

pub bytes_codec : (len : ℕ) → Codec (λ text. length text ≡ len) (λ text. text) (bytes_at len)
bytes_codec len = record {
  reads = record { takes = bytes_takes len; again = bytes_again len };
  stops = record { some = zeros len; has = zeros-length len; fails = λ bytes left fits e. bytes_fails len bytes left e };
}

-- ---- options

module _ {X : Type 0} {P : X → Type 0} {spell : X → List ℕ} {read : Reader X} (c : Codec P spell read) where
  abbrev pub inside_spelling : Option X → List ℕ
  inside_spelling None = []
  inside_spelling (Some x) = spell x

  some_back : (o : Option X) → IsOptionIf true P o → (x : X) × P x × (Some x ≡ o)
  some_back None h = absurd h
  some_back (Some x) h = (x, h, refl)

  abbrev nothing_at : List ℕ → Result (Option X × List ℕ) ℕ
  nothing_at bytes = Ok (None, bytes)

  none_read : (bytes : List ℕ) (o : Option X) (rest : List ℕ) → IsBytes bytes → nothing_at bytes ≡ Ok (o, rest) → IsOptionIf false P o × (bytes ≡ inside_spelling o ++ rest)
  none_read bytes o rest fits e =
      let none : Option X = None in
      subst (λ (p : Option X × List ℕ). IsOptionIf false P p.0 × (bytes ≡ inside_spelling p.0 ++ p.1)) (ok_is (none, bytes) (o, rest) e) (tt, refl)

  none_reads_again : (o : Option X) (rest : List ℕ) → IsOptionIf false P o → nothing_at (inside_spelling o ++ rest) ≡ Ok (o, rest)
  none_reads_again None rest h = refl
  none_reads_again (Some x) rest h = absurd h

  none_never_fails : (bytes : List ℕ) (left : ℕ) → IsBytes bytes → nothing_at bytes ≡ Err left → IsFirstBad (IsOptionIf false P) inside_spelling bytes left
  none_never_fails bytes left fits e = let none : Option X = None in absurd (not_ok (none, bytes) left e)

  pub inside_codec : (some : Bool) → Codec (IsOptionIf some P) inside_spelling (inside_if some read)
  inside_codec true = made (λ (x : X). Some x) (IsOptionIf true P) inside_spelling (λ x h. h) (λ x h. refl) some_back c
  inside_codec false = let none : Option X = None in record { reads = record { takes = none_read; again = none_reads_again }; stops = record { some = none; has = tt; fails = none_never_fails } }

  abbrev option_of : Bool × Option X → Option X
  option_of p = p.1

  is_option : (some : Bool) (o : Option X) → IsOptionIf some P o → IsOption P o × (option_spelling spell o ≡ flag_spelling some ++ inside_spelling o)
  is_option true None h = absurd h
  is_option true (Some x) h = (h, refl)
  is_option false None h = (tt, refl)
  is_option false (Some x) h = absurd h

  option_back : (o : Option X) → IsOption P o → (p : Bool × Option X) × (Unit {0} × IsOptionIf p.0 P p.1) × (option_of p ≡ o)
  option_back None h = ((false, None), (tt, tt), refl)
  option_back (Some x) h = ((true, Some x), (tt, h), refl)

  pub option_codec : Codec (IsOption P) (option_spelling spell) (option_at read)
  unfolding option_at
  option_codec =
      made option_of (IsOption P) (option_spelling spell) (λ p h. (is_option p.0 p.1 h.1).0) (λ p h. (is_option p.0 p.1 h.1).1) option_back
      (depending (λ (some : Bool). IsOptionIf some P) (λ (some : Bool). inside_spelling) (λ some. inside_if some read) flag_codec inside_codec)

  abbrev flag_byte : Bool → ℕ
  flag_byte true = 1
  flag_byte false = 0

  flag_passes : (some : Bool) → Passes (is_flag some) (flag_byte some)
  flag_passes true = (omega arith, refl)
  flag_passes false = (omega arith, refl)

  flag_is : (some : Bool) (b : ℕ) → Passes (is_flag some) b → b ∷ [] ≡ flag_spelling some
  flag_is true b h = ap one_byte (eqb-true b 1 h.1)
  flag_is false b h = ap one_byte (eqb-true b 0 h.1)

  abbrev held_of : ℕ × Option X → Option X
  held_of p = p.1

  pub option_if_codec : (some : Bool) → Codec (IsOptionIf some P) (option_spelling spell) (option_if some read)
  unfolding option_if
  option_if_codec some =
      made held_of (IsOptionIf some P) (option_spelling spell) (λ p h. h.1)
      (λ p h. (is_option some p.1 h.1).1 ∙ ap (λ (l : List ℕ). l ++ inside_spelling p.1) (sym (flag_is some p.0 h.0)))
      (λ o h. ((flag_byte some, o), (flag_passes some, h), refl))
      (both (passes (is_flag some) (flag_byte some) (flag_passes some)) (inside_codec some))

-- ---- lists

module _ {X : Type 0} {P : X → Type 0} {spell : X → List ℕ} {read : Reader X} (c : Codec P spell read) where
  abbrev AreListed : List X → Type 0
  AreListed xs = (length xs < 2 ^ 32) × EachFrom after_item (λ s. P) tt xs

  listed_are : (xs : List X) → AreListed xs → AreEach P xs
  listed_are xs h = (h.0, each_of after_item P tt xs h.1)

  are_listed : (xs : List X) → AreEach P xs → AreListed xs
  are_listed xs h = (h.0, each_from after_item P tt xs h.1)

  pub list_codec : Codec (AreEach P) (list_spelling spell) (all_at read)
  list_codec = record {
    reads = retold AreListed (AreEach P) (list_spelling spell) (list_at after_item (item_in read) tt) (list_reads after_item (λ s. P) spell (item_in read) (λ s. c.reads) tt) listed_are are_listed;
    stops = retold_stop AreListed (AreEach P) (list_spelling spell) (list_at after_item (item_in read) tt) (list_stop after_item (λ s. P) spell (item_in read) (λ s. c.reads) (λ s. c.stops) tt) listed_are are_listed;
  }
