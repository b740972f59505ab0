use Rattle.std.proofs.Common.{◌≡◌, List, ℕ, Option, Some, sym, ◌∙◌, ap, length}
use Rattle.std.specs.Prelude.{option_map}
use Rattle.chunk_store.proofs.device.ChunkDev.len_of.Goals as goal

pub returns-in-Some : goal.returns-in-Some
returns-in-Some g c up =
    let e = c.in-Some.ensures in
    sym (ap (option_map length) (e.some up) ∙ ap (λ (n : ℕ). Some n) (e.place up).len)

pub returns-in-None : goal.returns-in-None
returns-in-None g c up = sym (ap (option_map length) (c.in-None.ensures.none up))
