use Rattle.std.proofs.Common.{◌≡◌, ◌++◌}
use Rattle.std.specs.String.{string_bytes}
use Rattle.std.specs.Slice.Iter.{chunks_rest, chunks_size}
use Rattle.hex.specs.Hex.{encode_lower}
use Rattle.transcript_text.proofs.print.put_hex.Given as goal

-- what is written, with what is still to be spelled, is what was to be written
abbrev pub invariant-loop-part : goal.invariant-loop-part
invariant-loop-part l =
    (chunks_size l.part-iterator ≡ 4096)
    × (string_bytes l.out ++ encode_lower (chunks_rest l.part-iterator) ≡ string_bytes l.fn.out ++ encode_lower l.fn.bytes)
