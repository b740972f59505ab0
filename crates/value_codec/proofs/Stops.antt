-- Where reading fails, no spelling goes on: fields one behind the other, lists, and choices by a first byte.
use Rattle.std.proofs.Common.{◌≡◌, ℕ, suc, Bool, true, false, cond, List, [], ◌∷◌, ◌++◌, length, Result, Ok, Err, refl, sym, ap, subst, ◌∙◌, append_assoc, ◌⊎◌, inl, inr}
use Rattle.stab_base.specs.Codec.{IsBytes}
use Rattle.value_codec.specs.FirstBad.{IsFirstBad}
use Rattle.value_codec.specs.Reading.{◌>>=◌}
use Rattle.value_codec.proofs.FieldReads.{ok_is, gives, Reads, rest_fits, two_take, two_again}

-- where reading fails, and one value at least
pub record Stops {X : Type 0} (P : X → Type 0) (spell : X → List ℕ) (read : List ℕ → Result (X × List ℕ) ℕ) : Type 0 where
  pub some : X
  pub has : P some
  pub fails : (bytes : List ℕ) (left : ℕ) → IsBytes bytes → read bytes ≡ Err left → IsFirstBad P spell bytes left

abbrev failed : {A : Type 0} → ℕ → Result A ℕ
failed left = Err left

pub err_is : {A : Type 0} (m n : ℕ) → failed {A = A} m ≡ failed n → m ≡ n
err_is m n e = cc

pub not_ok : {A : Type 0} (x : A) (n : ℕ) → Ok x ≡ failed n → ⊥
not_ok x n e = absurd cc

pub bind_err : {A B : Type 0} (r : Result A ℕ) (f : A → Result B ℕ) (left : ℕ) → (r >>= f) ≡ Err left → (r ≡ Err left) ⊎ ((x : A) × (r ≡ Ok x) × (f x ≡ Err left))
bind_err {A} {B} (Err n) f left e = inl (ap (λ (m : ℕ). failed {A = A} m) (err_is {A = B} n left e))
bind_err (Ok x) f left e = inr (x, refl, e)

pub branch_err : {A : Type 0} (b : Bool) (r q : Result A ℕ) (left : ℕ) → cond b r q ≡ Err left → ((b ≡ true) × (r ≡ Err left)) ⊎ ((b ≡ false) × (q ≡ Err left))
branch_err true r q left e = inl (refl, e)
branch_err false r q left e = inr (refl, e)

pub one_err : {X Z : Type 0} (r : Result (X × List ℕ) ℕ) (f : X → Z) (left : ℕ) → (r >>= λ a. gives (f a.0) a.1) ≡ Err left → r ≡ Err left
one_err {X} {Z} r f left e =
    elim (bind_err r (λ a. gives (f a.0) a.1) left e) [
      | inl h ↦ h
      | inr h ↦ absurd (not_ok (f h.0.0, h.0.1) left h.2)
    ]

pub head_is : (a b : ℕ) (xs ys : List ℕ) → a ∷ xs ≡ b ∷ ys → a ≡ b
head_is a b xs ys e = cc

pub tail_is : (a b : ℕ) (xs ys : List ℕ) → a ∷ xs ≡ b ∷ ys → xs ≡ ys
tail_is a b xs ys e = cc

-- ---- the same of other values

pub moved : {W Z : Type 0} (P : W → Type 0) (spell : W → List ℕ) (Q : Z → Type 0) (tell : Z → List ℕ) (bytes : List ℕ) (left : ℕ)
    → ((w : W) → P w → (z : Z) × Q z × (tell z ≡ spell w)) → ((z : Z) → Q z → (w : W) × P w × (spell w ≡ tell z))
    → IsFirstBad P spell bytes left → IsFirstBad Q tell bytes left
moved P spell Q tell bytes left there back bad =
    let z = there bad.value bad.fits in
    record {
      front = bad.front;
      rest = bad.rest;
      parts = bad.parts;
      place = bad.place;
      value = z.0;
      more = bad.more;
      fits = z.1;
      goes_on = z.2 ∙ bad.goes_on;
      stops = λ b behind is x others h e. let w = back x h in bad.stops b behind is w.0 others w.1 (w.2 ∙ e);
    }

pub retold_stop : {X : Type 0} (P Q : X → Type 0) (spell : X → List ℕ) (read : List ℕ → Result (X × List ℕ) ℕ) → Stops P spell read → ((x : X) → P x → Q x) → ((x : X) → Q x → P x) → Stops Q spell read
retold_stop P Q spell read s there back = record {
  some = s.some;
  has = there s.some s.has;
  fails = λ bytes left fits e. moved P spell Q spell bytes left (λ w h. (w, there w h, refl)) (λ z h. (z, back z h, refl)) (s.fails bytes left fits e);
}

-- behind a first byte
pub behind : {W Z : Type 0} (tag : ℕ) (P : W → Type 0) (spell : W → List ℕ) (Q : Z → Type 0) (tell : Z → List ℕ) (bytes : List ℕ) (left : ℕ)
    → ((w : W) → P w → (z : Z) × Q z × (tell z ≡ tag ∷ spell w)) → ((z : Z) (others : List ℕ) → Q z → tell z ≡ tag ∷ others → (w : W) × P w × (spell w ≡ others))
    → IsFirstBad P spell bytes left → IsFirstBad Q tell (tag ∷ bytes) left
behind tag P spell Q tell bytes left there back bad =
    let z = there bad.value bad.fits in
    record {
      front = tag ∷ bad.front;
      rest = bad.rest;
      parts = ap (λ (l : List ℕ). tag ∷ l) bad.parts;
      place = bad.place;
      value = z.0;
      more = bad.more;
      fits = z.1;
      goes_on = z.2 ∙ ap (λ (l : List ℕ). tag ∷ l) bad.goes_on;
      stops = λ b later is x others h e. let w = back x (bad.front ++ b ∷ others) h e in bad.stops b later is w.0 others w.1 w.2;
    }

pub no_byte : {X : Type 0} (P : X → Type 0) (spell : X → List ℕ) (some : X) → P some → IsFirstBad P spell [] 0
no_byte P spell some h =
    let nothing : List ℕ = [] in
    record {
      front = nothing;
      rest = nothing;
      parts = refl;
      place = refl;
      value = some;
      more = spell some;
      fits = h;
      goes_on = refl;
      stops = λ b later is x others k e. absurd cc;
    }

pub bad_byte : {X : Type 0} (P : X → Type 0) (spell : X → List ℕ) (some : X) (b : ℕ) (bytes : List ℕ) → P some → ((x : X) (others : List ℕ) → P x → spell x ≡ b ∷ others → ⊥)
    → IsFirstBad P spell (b ∷ bytes) (suc (length bytes))
bad_byte P spell some b bytes h none =
    let nothing : List ℕ = [] in
    record {
      front = nothing;
      rest = b ∷ bytes;
      parts = refl;
      place = refl;
      value = some;
      more = spell some;
      fits = h;
      goes_on = refl;
      stops = λ c later is x others k e. none x others k (e ∙ ap (λ (n : ℕ). n ∷ others) (sym (head_is b c bytes later is)));
    }

-- ---- two fields, one behind the other

split : (u v f w : List ℕ) → u ++ v ≡ f ++ w → ((m : List ℕ) × (f ≡ u ++ m)) ⊎ ((c : ℕ) × (m : List ℕ) × (u ≡ f ++ c ∷ m) × (w ≡ c ∷ (m ++ v)))
split [] v f w e = inl (f, refl)
split (c ∷ u) v [] w e = inr (c, u, refl, sym e)
split (c ∷ u) v (d ∷ f) w e =
    let same = head_is c d (u ++ v) (f ++ w) e in
    elim (split u v f w (tail_is c d (u ++ v) (f ++ w) e)) [
      | inl h ↦ inl (h.0, ap (λ (n : ℕ). n ∷ f) (sym same) ∙ ap (λ (l : List ℕ). c ∷ l) h.1)
      | inr h ↦ inr (h.0, h.1, ap (λ (n : ℕ). n ∷ u) same ∙ ap (λ (l : List ℕ). d ∷ l) h.2, h.3)
    ]

module _ {X Y : Type 0} (P : X → Type 0) (spell : X → List ℕ) (read : List ℕ → Result (X × List ℕ) ℕ) (Q : X → Y → Type 0) (tell : X → Y → List ℕ) (next : X → List ℕ → Result (Y × List ℕ) ℕ)
    (r : Reads P spell read) (s : Stops P spell read) (q : (x : X) → Reads (Q x) (tell x) (next x)) (t : (x : X) → P x → Stops (Q x) (tell x) (next x)) where
  abbrev pub Both : X × Y → Type 0
  Both p = P p.0 × Q p.0 p.1

  abbrev pub tell_both : X × Y → List ℕ
  tell_both p = spell p.0 ++ tell p.0 p.1

  first_fails : (bytes : List ℕ) (left : ℕ) → IsBytes bytes → read bytes ≡ Err left → IsFirstBad Both tell_both bytes left
  first_fails bytes left fits e =
      let bad = s.fails bytes left fits e in
      let y = t bad.value bad.fits in
      record {
        front = bad.front;
        rest = bad.rest;
        parts = bad.parts;
        place = bad.place;
        value = (bad.value, y.some);
        more = bad.more ++ tell bad.value y.some;
        fits = (bad.fits, y.has);
        goes_on = ap (λ (l : List ℕ). l ++ tell bad.value y.some) bad.goes_on ∙ append_assoc bad.front bad.more (tell bad.value y.some);
        stops = λ b later is p others h f. elim (split (spell p.0) (tell p.0 p.1) bad.front (b ∷ others) f) [
          | inl m ↦
              let whole : bytes ≡ spell p.0 ++ (m.0 ++ bad.rest) = bad.parts ∙ ap (λ (l : List ℕ). l ++ bad.rest) m.1 ∙ append_assoc (spell p.0) m.0 bad.rest in
              not_ok (p.0, m.0 ++ bad.rest) left (sym (ap read whole ∙ r.again p.0 (m.0 ++ bad.rest) h.0) ∙ e)
          | inr m ↦
              let same : b ≡ m.0 = head_is b m.0 others (m.1 ++ tell p.0 p.1) m.3 in
              bad.stops b later is p.0 m.1 h.0 (m.2 ∙ ap (λ (n : ℕ). bad.front ++ n ∷ m.1) (sym same))
        ];
      }

  second_fails : (bytes : List ℕ) (left : ℕ) (a : X × List ℕ) → IsBytes bytes → read bytes ≡ Ok a → next a.0 a.1 ≡ Err left → IsFirstBad Both tell_both bytes left
  second_fails bytes left a fits e f =
      let k = r.takes bytes a.0 a.1 fits e in
      let bad = (t a.0 k.0).fails a.1 left (rest_fits (spell a.0) a.1 bytes k.1 fits) f in
      record {
        front = spell a.0 ++ bad.front;
        rest = bad.rest;
        parts = k.1 ∙ ap (λ (l : List ℕ). spell a.0 ++ l) bad.parts ∙ sym (append_assoc (spell a.0) bad.front bad.rest);
        place = bad.place;
        value = (a.0, bad.value);
        more = bad.more;
        fits = (k.0, bad.fits);
        goes_on = ap (λ (l : List ℕ). spell a.0 ++ l) bad.goes_on ∙ sym (append_assoc (spell a.0) bad.front bad.more);
        stops = λ b later is p others h g.
            let whole : spell p.0 ++ tell p.0 p.1 ≡ spell a.0 ++ (bad.front ++ b ∷ others) = g ∙ append_assoc (spell a.0) bad.front (b ∷ others) in
            let two : gives p.0 (tell p.0 p.1) ≡ gives a.0 (bad.front ++ b ∷ others) = sym (r.again p.0 (tell p.0 p.1) h.0) ∙ ap read whole ∙ r.again a.0 (bad.front ++ b ∷ others) k.0 in
            let pair = ok_is (p.0, tell p.0 p.1) (a.0, bad.front ++ b ∷ others) two in
            let same : p.0 ≡ a.0 = ap (λ (z : X × List ℕ). z.0) pair in
            bad.stops b later is p.1 others (subst (λ (x : X). Q x p.1) same h.1)
            (ap (λ (x : X). tell x p.1) (sym same) ∙ ap (λ (z : X × List ℕ). z.1) pair);
      }

  pub two_fail : (bytes : List ℕ) (left : ℕ) → IsBytes bytes → (read bytes >>= λ a. next a.0 a.1) ≡ Err left → IsFirstBad Both tell_both bytes left
  two_fail bytes left fits e =
      elim (bind_err (read bytes) (λ a. next a.0 a.1) left e) [
        | inl h ↦ first_fails bytes left fits h
        | inr h ↦ second_fails bytes left h.0 fits h.1 h.2
      ]

  pub two_fail_made : {Z : Type 0} (f : X → Y → Z) (bytes : List ℕ) (left : ℕ) → IsBytes bytes → (read bytes >>= λ a. next a.0 a.1 >>= λ b. gives (f a.0 b.0) b.1) ≡ Err left
      → IsFirstBad Both tell_both bytes left
  two_fail_made f bytes left fits e =
      elim (bind_err (read bytes) (λ a. next a.0 a.1 >>= λ b. gives (f a.0 b.0) b.1) left e) [
        | inl h ↦ first_fails bytes left fits h
        | inr h ↦ second_fails bytes left h.0 fits h.1 (one_err (next h.0.0 h.0.1) (f h.0.0) left h.2)
      ]

-- ---- two fields as a pair

abbrev pub paired : {X Y : Type 0} → X → Y → List ℕ → Result ((X × Y) × List ℕ) ℕ
paired x y rest = Ok ((x, y), rest)

pub bind_same : {A B : Type 0} (r : Result A ℕ) (f g : A → Result B ℕ) → ((x : A) → f x ≡ g x) → (r >>= f) ≡ (r >>= g)
bind_same (Ok x) f g same = same x
bind_same (Err n) f g same = refl

pub two_then : {X Y C : Type 0} (r : Result (X × List ℕ) ℕ) (q : X × List ℕ → Result (Y × List ℕ) ℕ) (g : (X × Y) × List ℕ → Result C ℕ)
    → ((r >>= λ a. q a >>= λ b. paired a.0 b.0 b.1) >>= g) ≡ (r >>= λ a. q a >>= λ b. g ((a.0, b.0), b.1))
two_then (Err n) q g = refl
two_then {X} {Y} {C} (Ok a) q g = after (q a) where
  after : (t : Result (Y × List ℕ) ℕ) → ((t >>= λ b. paired a.0 b.0 b.1) >>= g) ≡ (t >>= λ b. g ((a.0, b.0), b.1))
  after (Ok b) = refl
  after (Err n) = refl

module _ {X Y : Type 0} (P : X → Type 0) (spell : X → List ℕ) (read : List ℕ → Result (X × List ℕ) ℕ) (Q : X → Y → Type 0) (tell : X → Y → List ℕ) (next : X → List ℕ → Result (Y × List ℕ) ℕ) where
  pub pair_reads : Reads P spell read → ((x : X) → Reads (Q x) (tell x) (next x))
      → Reads {X = X × Y} (λ p. P p.0 × Q p.0 p.1) (λ p. spell p.0 ++ tell p.0 p.1) (λ bytes. read bytes >>= λ a. next a.0 a.1 >>= λ b. paired a.0 b.0 b.1)
  pair_reads r q = record {
    takes = λ bytes p rest fits e.
        let t = two_take P spell read Q tell next (λ (x : X) (y : Y). (x, y)) r q bytes p rest fits e in
        subst (λ (z : X × Y). (P z.0 × Q z.0 z.1) × (bytes ≡ (spell z.0 ++ tell z.0 z.1) ++ rest)) t.2 ((t.3, t.4), t.5);
    again = λ p rest h. two_again P spell read Q tell next (λ (x : X) (y : Y). (x, y)) r q p.0 p.1 rest h.0 h.1;
  }

  pub pair_stop : Reads P spell read → Stops P spell read → ((x : X) → Reads (Q x) (tell x) (next x)) → ((x : X) → P x → Stops (Q x) (tell x) (next x))
      → Stops {X = X × Y} (λ p. P p.0 × Q p.0 p.1) (λ p. spell p.0 ++ tell p.0 p.1) (λ bytes. read bytes >>= λ a. next a.0 a.1 >>= λ b. paired a.0 b.0 b.1)
  pair_stop r s q t =
      let second = t s.some s.has in
      record { some = (s.some, second.some); has = (s.has, second.has); fails = two_fail_made P spell read Q tell next r s q t (λ (x : X) (y : Y). (x, y)) }
