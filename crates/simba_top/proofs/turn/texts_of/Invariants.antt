use Rattle.std.proofs.Common.{◌≡◌, ◌++◌, ◌∷◌, [], map, take}
use Rattle.std.specs.List.{AllByRecursion}
use Rattle.table_model.specs.declared.line.TextLine.{TextLine}
use Rattle.transcript_text.specs.Text.{text_of}
use Rattle.line_widths.specs.Widths.{HasWidths}
use Rattle.simba_top.proofs.turn.texts_of.Given as goal

abbrev pub invariant-loop-line : goal.invariant-loop-line
invariant-loop-line l = record {
  texts : l.texts.items ≡ map (λ (line : TextLine). text_of line ++ 10 ∷ []) (take l.line-index l.line-items);
  widths : AllByRecursion HasWidths (take l.line-index l.line-items);
}
