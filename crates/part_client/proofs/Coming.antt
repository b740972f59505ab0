-- A chunk that comes.
use Rattle.std.proofs.Common.{◌≡◌, ℕ, Bool, true, false, List, refl, sym, ap, ◌∙◌}
use Rattle.std.specs.Prelude.{◌&&◌, if◌then◌else◌}
use Rattle.assemblies.specs.Gathering.{Slot, takes}
use Rattle.part_contents.proofs.Lacks.{same_taken}
use Rattle.part_client.specs.Gathered.{GatheredRow, with_chunk}

-- a chunk that isn't taken changes nothing
pub came_is : (fits : Bool) (column place : ℕ) (bytes : List ℕ) (x : GatheredRow) → fits ≡ true
    → with_chunk column place bytes x ≡ (if fits && takes column place bytes x.slots then with_chunk column place bytes x else x)
came_is fits column place bytes x is = one (takes column place bytes x.slots) refl ∙ ap (λ (b : Bool). if b && takes column place bytes x.slots then with_chunk column place bytes x else x) (sym is)
  where
    one : (b : Bool) → takes column place bytes x.slots ≡ b → with_chunk column place bytes x ≡ (if takes column place bytes x.slots then with_chunk column place bytes x else x)
    one true e = ap (λ (b : Bool). if b then with_chunk column place bytes x else x) (sym e)
    one false e =
        ap (λ (s : List Slot). record x { slots = s }) (same_taken column place bytes x.slots e) ∙ ap (λ (b : Bool). if b then with_chunk column place bytes x else x) (sym e)
