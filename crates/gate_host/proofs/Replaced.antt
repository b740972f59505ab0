-- Gateways that get another directory, one after the other.
use Rattle.std.proofs.Common.{◌≡◌, ℕ, zero, suc, ◌+◌, ◌<◌, ◌≤◌, length, drop, Bool, true, false, List, [], ◌∷◌, Option, Some, None, refl, sym, ap, ◌∙◌, subst, arith}
use Rattle.std.specs.Prelude.{◌||◌, slice_index_or, is_some}
use Rattle.std.specs.List.{list_any}
use Rattle.std.specs.Ordering.{nat_cmp}
use Rattle.std.specs.Cmp.{nat_cmp_total, eq_by_cmp_equiv}
use Rattle.std.specs.BTreeMap as tree
use Rattle.std.specs.BTreeMap.{is_at}
use Rattle.std.specs.Map.{keys_of}
use Rattle.std.proofs.lemmas.Map.Made.{is_some-lookup}
use Rattle.gate_tables.specs.Gate.{Directory}
use Rattle.gateway_core.specs.State.{directory_of}
use Rattle.gateway_core.specs.declared.gateway.Gateway.{Gateway}
use Rattle.gate_host.specs.Holds.{IsReplaced, IsReplacedIf}

-- a gateway has its own directory
itself : (directory : Directory) (o : Option Gateway) → (d : Directory) × IsReplaced d o o
itself directory None = (directory, tt)
itself directory (Some it) = (directory_of it, record { stands = refl; own = refl; placed = refl; empty = refl })

twice : (d e : Directory) (a b c : Option Gateway) → IsReplaced d a b → IsReplaced e b c → IsReplaced e a c
twice d e None None None h k = tt
twice d e None None (Some z) h k = absurd k
twice d e None (Some y) c h k = absurd h
twice d e (Some x) None c h k = absurd h
twice d e (Some x) (Some y) None h k = absurd k
twice d e (Some x) (Some y) (Some z) h k = record { stands = k.stands ∙ h.stands; own = k.own ∙ h.own; placed = k.placed; empty = k.empty ∙ h.empty }

none_replaced : (d : Directory) (o : Option Gateway) → is_some o ≡ false → IsReplaced d o o
none_replaced d None none = tt
none_replaced d (Some it) none = absurd (cc)

-- behind some gateways, of which these are left: each has some directory, and each that isn't left this one
pub record AreReplaced (directory : Directory) (old mid : tree.BTreeMap ℕ Gateway) (left : List ℕ) : Type 0 where
  pub each : (q : ℕ) → (d : Directory) × IsReplaced d (tree.get nat_cmp old q) (tree.get nat_cmp mid q)
  pub behind : (q : ℕ) → list_any (is_at (nat_cmp q)) left ≡ false → IsReplaced directory (tree.get nat_cmp old q) (tree.get nat_cmp mid q)

module _ (directory : Directory) (old : tree.BTreeMap ℕ Gateway) where
  pub replaced_first : AreReplaced directory old old (keys_of old.entries)
  replaced_first = record {
    each = λ q. itself directory (tree.get nat_cmp old q);
    behind = λ q none. none_replaced directory (tree.get nat_cmp old q) (is_some-lookup (is_at (nat_cmp q)) old.entries ∙ none);
  }

  pub replaced_on : (mid new : tree.BTreeMap ℕ Gateway) (number : ℕ) (left rest : List ℕ) → left ≡ number ∷ rest → AreReplaced directory old mid left
      → ((q : ℕ) → IsReplacedIf (is_at (nat_cmp number) q) directory (tree.get nat_cmp mid q) (tree.get nat_cmp new q)) → AreReplaced directory old new rest
  replaced_on mid new number left rest is a u = record { each = λ q. one q (is_at (nat_cmp number) q) refl; behind = λ q none. out q none (is_at (nat_cmp number) q) refl }
    where
      at : (q : ℕ) (b : Bool) → is_at (nat_cmp number) q ≡ b → IsReplacedIf b directory (tree.get nat_cmp mid q) (tree.get nat_cmp new q)
      at q b e = subst (λ (b : Bool). IsReplacedIf b directory (tree.get nat_cmp mid q) (tree.get nat_cmp new q)) e (u q)

      here : (q : ℕ) → is_at (nat_cmp number) q ≡ true → IsReplaced directory (tree.get nat_cmp old q) (tree.get nat_cmp new q)
      here q e = let k = a.each q in twice k.0 directory (tree.get nat_cmp old q) (tree.get nat_cmp mid q) (tree.get nat_cmp new q) k.1 (at q true e)

      one : (q : ℕ) (b : Bool) → is_at (nat_cmp number) q ≡ b → (d : Directory) × IsReplaced d (tree.get nat_cmp old q) (tree.get nat_cmp new q)
      one q true e = (directory, here q e)
      one q false e = let k = a.each q in (k.0, subst (λ (o : Option Gateway). IsReplaced k.0 (tree.get nat_cmp old q) o) (sym (at q false e)) k.1)

      apart : (q : ℕ) → is_at (nat_cmp number) q ≡ false → is_at (nat_cmp q) number ≡ false
      apart q e = (eq_by_cmp_equiv nat_cmp_total).symm q number ∙ e

      out : (q : ℕ) → list_any (is_at (nat_cmp q)) rest ≡ false → (b : Bool) → is_at (nat_cmp number) q ≡ b → IsReplaced directory (tree.get nat_cmp old q) (tree.get nat_cmp new q)
      out q none true e = here q e
      out q none false e = subst (λ (o : Option Gateway). IsReplaced directory (tree.get nat_cmp old q) o) (sym (at q false e))
          (a.behind q (ap (λ (ks : List ℕ). list_any (is_at (nat_cmp q)) ks) is ∙ (ap (λ (b : Bool). b || list_any (is_at (nat_cmp q)) rest) (apart q e) ∙ none)))
