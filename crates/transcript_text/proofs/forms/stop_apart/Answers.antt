use Rattle.std.proofs.Common.{◌≡◌, ℕ, ◌<◌, ◌^◌, List, [], ◌∷◌, codes, sym, ap, ◌∙◌, rules, append-nil}
use Rattle.std.specs.Fmt.{decimal}
use Rattle.std.proofs.lemmas.Fmt.{decimal_injective}
use Rattle.std.specs.List.{AllByRecursion}
use Rattle.transcript_text.specs.Text.{stop_text}
use Rattle.transcript_text.proofs.Above.{IsAbove, led, led_same, decimal_above}
use Rattle.transcript_text.proofs.forms.stop_apart.Goals as goal

words : ℕ → ℕ → ℕ → List (List ℕ)
words status number code = codes "stop" ∷ decimal status ∷ decimal number ∷ decimal code ∷ []

stop_led : (status number code : ℕ) → 32 ∷ stop_text status number code ≡ led 32 (words status number code)
unfolding words
stop_led status number code = simp append-nil

words_above : (status number code : ℕ) → status < 2 ^ 64 → number < 2 ^ 64 → code < 2 ^ 64 → AllByRecursion (IsAbove 32) (words status number code)
unfolding words
words_above status number code p q r = search (rules, decimal_above)

pub returns-clause-one : goal.returns-clause-one
unfolding words
returns-clause-one c = λ s n k s_2 n_2 k_2 p q r p_2 q_2 r_2 e.
    let same = led_same 32 (words s n k) (words s_2 n_2 k_2) (words_above s n k p q r) (words_above s_2 n_2 k_2 p_2 q_2 r_2)
    (sym (stop_led s n k) ∙ ap (λ text. 32 ∷ text) e ∙ stop_led s_2 n_2 k_2) in
    (decimal_injective s s_2 p p_2 (cc same), decimal_injective n n_2 q q_2 (cc same), decimal_injective k k_2 r r_2 (cc same))
