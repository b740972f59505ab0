-- A list that is mapped one item after the other, three parts of an item, and what is put behind what was told.
use Rattle.std.proofs.Common.{◌≡◌, ℕ, ◌++◌, List, [], ◌∷◌, map, sym, ap, ◌∙◌, subst, append-nil, append_assoc}
use Rattle.std.proofs.lemmas.List.Elements.{filter-append}
use Rattle.world_tables.specs.World.{Outbox}
use Rattle.journal_host.specs.declared.out.ClientOut.{ClientOut}
use Rattle.journal_host.specs.declared.host.ClientHost.{ClientHost}
use Rattle.journal_host.specs.Holds.{outs_in, outs_of, said, says_something}

pub said_both : (a b : List Outbox) → said (a ++ b) ≡ said a ++ said b
said_both a b = filter-append says_something a b

-- what some moves said, and what more did then
pub outs_then : {D : Type 0} (a b : ℕ → ℕ) (old mid new : ClientHost D) (first more : List Outbox) → b ≡ a → outs_of a mid ≡ outs_of a old ++ said first
    → outs_of b new ≡ outs_of b mid ++ said more → outs_of b new ≡ outs_of b old ++ said (first ++ more)
outs_then {D} a b old mid new first more same x y =
    y
    ∙ (ap (λ (l : List Outbox). l ++ said more) (subst (λ (owners : ℕ → ℕ). outs_of owners mid ≡ outs_of owners old ++ said first) (sym same) x)
    ∙ (append_assoc (outs_of b old) (said first) (said more) ∙ ap (λ (l : List Outbox). outs_of b old ++ l) (sym (said_both first more))))

pub no_more : (owners : ℕ → ℕ) (old new : List ClientOut) → new ≡ old → outs_in owners new ≡ outs_in owners old ++ []
no_more owners old new same = ap (outs_in owners) same ∙ sym (append-nil (outs_in owners old))

pub mapped_on : {A B : Type 0} (f : A → B) (done new : List B) (left rest : List A) (e : A) (x : B) (all : List B)
    → new ≡ done ++ x ∷ [] → x ≡ f e → left ≡ e ∷ rest → done ++ map f left ≡ all → new ++ map f rest ≡ all
mapped_on {A} {B} f done new left rest e x all put is steps so_far =
    ap (λ (l : List B). l ++ map f rest) put
    ∙ (append_assoc done (x ∷ []) (map f rest) ∙ (ap (λ (y : B). done ++ y ∷ map f rest) is ∙ (ap (λ (l : List A). done ++ map f l) (sym steps) ∙ so_far)))

abbrev with_three : {A : Type 0} → ℕ → A → A → A → ℕ × (A × A × A)
with_three n a b c = (n, (a, b, c))

pub three_parts : {A : Type 0} (n : ℕ) (r : A × A × A) (a b c : A) → r.0 ≡ a → r.1 ≡ b → r.2 ≡ c → with_three n r.0 r.1 r.2 ≡ with_three n a b c
three_parts {A} n r a b c p q s = ap (λ (x : A). with_three n x r.1 r.2) p ∙ (ap (λ (x : A). with_three n a x r.2) q ∙ ap (λ (x : A). with_three n a b x) s)
