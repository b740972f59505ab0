use Rattle.std.proofs.Common.{◌≡◌, Bool, true, ap, ◌∙◌, arith, sym, refl}
use Rattle.std.specs.Prelude.{◌&&◌, nat_le, length}
use Rattle.std.proofs.lemmas.Bool.Decides.{nat_tests}
use Rattle.row_value.proofs.Wrongs.{utf8_test}
use Rattle.row_value.specs.Fit.{text_most}
use Rattle.row_value.proofs.fit.is_text.Goals as goal

pub returns-then-bytes-le-TEXT_MOST : goal.returns-then-bytes-le-TEXT_MOST
returns-then-bytes-le-TEXT_MOST c =
    let test = utf8_test c.is_utf8.result c.args.bytes.now c.is_utf8.ensures in
    let short : nat_le (length c.args.bytes.now) text_most ≡ true = grind (arith, nat_tests, c.if-bytes-le-TEXT_MOST.true) in
    rw short test
