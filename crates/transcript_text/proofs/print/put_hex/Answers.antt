use Rattle.std.proofs.Common.{rules, ◌≡◌, sym, ap, ◌∙◌}
use Rattle.std.proofs.lemmas.List.{nil_from_length}
use Rattle.std.specs.Prelude.{◌++◌}
use Rattle.std.specs.String.{string_bytes}
use Rattle.std.specs.Slice.Iter.{chunks_rest}
use Rattle.hex.specs.Hex.{encode_lower}
use Rattle.transcript_text.proofs.Hex.{digits_of_a_part, digits_of_none}
use Rattle.transcript_text.proofs.print.put_hex.Goals as goal

pub loop-part-preserved : goal.loop-part-preserved
loop-part-preserved c =
    let steps = c.in-Some.ensures.steps in
    let rest = chunks_rest c.next.new.self in
    let written : string_bytes c.push_str.new.self ≡ string_bytes c.loop-part.out ++ encode_lower c.in-Some.part.now = search rules in (
      steps.0 ∙ c.loop-part.invariant.0,
      ap (λ bytes. bytes ++ encode_lower rest) written
          ∙ digits_of_a_part _ rest _ _ steps.1.0 ∙ c.loop-part.invariant.1,
    )

pub returns : goal.returns
returns c = sym (digits_of_none _ _ (nil_from_length _ c.in-None.ensures.steps.1.0)) ∙ c.loop-part.invariant.1
