use Rattle.std.proofs.Common.{ℕ, List, length, Bool, true, false, ◌≡◌, Option, Some, None, cond, true≢false, refl, sym, eqb}
use Rattle.uuid.specs.Text.{parsed}
use Rattle.stab_base.specs.Row.{row_of}
use Rattle.stab_base.proofs.row.RowId.parse.Goals as goal

nothing : (o : Option (List ℕ)) → ((u : List ℕ) → o ≡ Some u → ⊥) → None ≡ o
nothing None h = refl
nothing (Some u) h = absurd (h u refl)

either : (b : Bool) (o : Option (List ℕ)) → None ≡ o → None ≡ cond b o None
either true o h = h
either false o h = refl

pub returns-in-Err : goal.returns-in-Err
returns-in-Err c =
    either (eqb (length c.args.text.now) 36) (parsed c.args.text.now)
    (nothing (parsed c.args.text.now) (λ u is. true≢false (sym (c.in-Err.ensures.ok.1 (u, is)))))
