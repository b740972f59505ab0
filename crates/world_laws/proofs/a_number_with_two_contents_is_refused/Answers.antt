use Rattle.std.proofs.Common.{◌≡◌, Some, ap, ⊎_elim, arith}
use Rattle.std.specs.Prelude.{option_map}
use Rattle.table_model.specs.declared.line.Write.{Write}
use Rattle.world_laws.specs.Worked.{int}
use Rattle.world_laws.proofs.a_number_with_two_contents_is_refused.Goals as goal

pub returns : goal.returns
returns c = λ sound.
    ⊎_elim (λ n. absurd (let e = n.0 in omega arith))
    (λ e. absurd (let same : Some (int 5) ≡ Some (int 6) = ap (option_map (λ (w : Write). w.content)) e.1 in cc)) sound.3.2.1.1.0
