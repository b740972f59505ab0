use Rattle.std.proofs.Common.{◌≡◌, ℕ, ◌+◌, ◌<◌, List, length, Option, ap, arith}
use Rattle.std.specs.Prelude.{◌^◌}
use Rattle.stab_base.specs.declared.chunk_name.ChunkName.{ChunkName}
use Rattle.row_value.specs.Fit.{chunk_count}
use Rattle.chunker.specs.Cut.{IsCut}
use Rattle.chunker.proofs.Cuts.{counted}
use Rattle.step_tables.specs.Chunks.{first_of}
use Rattle.held_contents.specs.Holding.{with_names}
use Rattle.held_contents.proofs.Objects.{named_count}
use Rattle.held_contents.proofs.holding.hold_one.Goals as goal

few : (size n : ℕ) (object slice : List ℕ) (names : List ChunkName) (new : List (Option ChunkName × List ℕ)) (before : List (List ℕ)) → 0 < size → slice ≡ object → (chunks : List (List ℕ)) → IsCut size slice chunks
    → new ≡ with_names names chunks → n ≡ length before → length before + chunk_count size object < 2 ^ 32 → n + length new < 2 ^ 32
few size n object slice names new before some same chunks cut is at lt =
    omega (arith, counted size slice chunks some cut, ap (chunk_count size) same, ap length is, named_count names chunks, at, lt)

pub against_first-requires : goal.against_first-requires
against_first-requires c =
    let k = c.in_ok-new.ensures in
    few c.args.size c.len.result c.args.object.now c.as_slice.result.now (first_of c.args.names.now) c.in_ok-new.new c.args.brought.now c.requires.size c.as_slice.ensures k.0 k.1 k.2 c.len.ensures c.requires.few
