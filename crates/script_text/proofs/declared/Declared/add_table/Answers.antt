use Rattle.std.proofs.Common.{◌≡◌, ◌∙◌, sym, refl, List, ℕ, Bool}
use Rattle.std.specs.Ordering.{nat_cmp}
use Rattle.std.specs.Cmp.{Equal-is}
use Rattle.std.specs.Cmp.Lexicographic.{slice_cmp}
use Rattle.std.proofs.lemmas.Map.Text.{is_eq-slice_cmp}
use Rattle.std.proofs.lemmas.Slice.Eq.{bytes_eq-Decides}
use Rattle.row_value.specs.declared.schema.Schema.{Schema}
use Rattle.script_text.specs.Names.{Names}
use Rattle.script_text.proofs.Sets.{put_back}
use Rattle.script_text.proofs.declared.Declared.add_table.Goals as goal

together : (stores gates clients : List ℕ) (started : Bool) (tables others : List (ℕ × Schema)) (names more : List (List ℕ)) → tables ≡ others → names ≡ more → ◌≡◌ {A = Names} (record { stores = stores; gates = gates; tables = tables; names = names; clients = clients; started = started }) (record { stores = stores; gates = gates; tables = others; names = more; clients = clients; started = started })
together stores gates clients started tables others names more e f = rw (e, f) refl

pub returns-clause-err : goal.returns-clause-err
returns-clause-err c =
    let name = c.as_slice.result.now in
    let same = (Equal-is (slice_cmp nat_cmp name name)).0 (is_eq-slice_cmp name name ∙ (bytes_eq-Decides name name).1 refl) in
    let again : c.as_slice-in-Err.result.now ≡ name = c.as_slice-in-Err.ensures ∙ sym c.as_slice.ensures in
    let back = put_back (slice_cmp nat_cmp) name same _ _ _ c.in_ok-added.added c.in_ok-added.ensures.added c.in_ok-added.ensures.put c.in_ok-added.ensures.kept (rw again at c.take_name.ensures) in
    together _ _ _ _ _ _ _ _ c.in-Err.ensures.err back ∙ c.self.view_is
