use Rattle.std.proofs.Common.{◌≡◌, ℕ, List, [], ◌∷◌, ◌++◌, length, drop, get_or, Option, None, sym, ◌∙◌, ap, arith, append_assoc, length-append}
use Rattle.std.specs.Vec.Iter.{into_iter_items}
use Rattle.std.proofs.Math.Seq.{get_or-drop, drop-drop}
use Rattle.stab_base.specs.declared.chunk_name.ChunkName.{ChunkName}
use Rattle.kept_chunks.proofs.SoFar.{put_more, put_fewer}
use Rattle.kept_chunks.proofs.Anew.{put_one, one_anew}
use Rattle.kept_chunks.proofs.keeping.keep_all.Goals as goal

pub loop-bytes-preserved : goal.loop-bytes-preserved
loop-bytes-preserved c =
    let inv = c.loop-bytes.invariant in
    let bytes : List ℕ = c.in-Some.bytes in
    let step : into_iter_items c.loop-bytes.bytes-iterator ≡ bytes ∷ into_iter_items c.next.new.self = c.in-Some.ensures.steps.0 in (
      inv.0 ++ bytes ∷ [],
      append_assoc inv.0 (bytes ∷ []) (into_iter_items c.next.new.self) ∙ (ap (λ (l : List (List ℕ)). inv.0 ++ l) (sym step) ∙ inv.1),
      omega (arith, inv.2, put_fewer c.args.held.now bytes c.loop-bytes.keeping c.put.new.self c.in_ok-put.ensures.puts, length-append inv.0 (bytes ∷ [])),
      λ content has. put_more c.args.held.now content inv.0 bytes c.loop-bytes.keeping c.put.new.self (inv.3 content has) c.in_ok-put.ensures.puts,
      omega (arith, inv.4, put_one c.args.held.now bytes c.loop-bytes.keeping c.put.new.self c.in_ok-put.ensures.puts, length-append inv.0 (bytes ∷ [])),
      c.behind-left.ensures ∙ (ap (drop 1) inv.5 ∙ (drop-drop 1 (length inv.0) c.args.names.now ∙ ap (λ (n : ℕ). drop n c.args.names.now) (sym (length-append inv.0 (bytes ∷ []))))),
      one_anew c.args.names.now bytes c.args.held.now c.loop-bytes.keeping c.put.new.self inv.6 c.in_ok-put.ensures.puts
          (λ free. c.in_ok-put.ensures.anew (c.first_name.ensures ∙ (ap (λ (l : List (Option ChunkName)). get_or l 0 None) inv.5 ∙ (get_or-drop (length inv.0) c.args.names.now 0 None ∙ (ap (λ (i : ℕ). get_or c.args.names.now i None) (omega (arith, inv.4)) ∙ free))))),
    )
