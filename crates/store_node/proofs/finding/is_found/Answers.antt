use Rattle.std.proofs.Common.{ℕ, List, Bor, sym, ◌∙◌, ap}
use Rattle.std.specs.Prelude.{option_copied, option_map}
use Rattle.std.specs.Str.{bytes_eq}
use Rattle.std.specs.BTreeMap.{is_at}
use Rattle.chunk_store.specs.Payload.{name_cmp}
use Rattle.store_node.proofs.Noted.{values_lookup, found_as, not_found_as}
use Rattle.store_node.proofs.finding.is_found.Goals as goal

pub returns-in-Some : goal.returns-in-Some
returns-in-Some c =
    let name = c.in-Keep.name in
    let looked = values_lookup (is_at (name_cmp name)) (λ (b : Bor (List ℕ)). b.now) c.args.found.now.entries
    ∙ ap (option_map (λ (b : Bor (List ℕ)). b.now)) (sym c.get.ensures.value ∙ ap option_copied c.in-Some.is) in
    found_as _ c.args.piece name c.args.chunk.now _ c.eq.result c.in-Keep.is looked (c.eq.ensures ∙ ap (λ (l : List ℕ). bytes_eq c.in-Some.bytes.now.now l) c.as_slice.ensures)

pub returns-in-None : goal.returns-in-None
returns-in-None c =
    let name = c.in-Keep.name in
    let looked = values_lookup (is_at (name_cmp name)) (λ (b : Bor (List ℕ)). b.now) c.args.found.now.entries
    ∙ ap (option_map (λ (b : Bor (List ℕ)). b.now)) (sym c.get.ensures.value ∙ ap option_copied c.in-None.is) in
    not_found_as _ c.args.piece name c.args.chunk.now c.in-Keep.is looked
