-- What a parse makes of a word that is no flag.
use Rattle.std.proofs.Common.{◌≡◌, ◌∙◌, ℕ, Bool, true, false, List, [], ◌∷◌, Option, Some, None, refl, sym, ap, ap₂, codes, is_some}
use Rattle.std.specs.Str.{bytes_eq}
use Rattle.clap.specs.Lexer.{long_of, short_of}
use Rattle.clap.specs.Walk.{Held, Names, Rule, Step, Text, Waiting, Walk, after_step, arg_by_index, idle, subcommand_met, subcommand_or_other, to_positional, value, walked, word_met}
use Rattle.clap.specs.Simple.{Shape}
use Rattle.clap.specs.Kinds.{Kinds, or_else}
use Rattle.clap.specs.Faults.{other_fault, step_fault, turn_fault}
use Rattle.command_words.specs.Program.{is_flag}

pub no_long : (word : Text) → is_flag word ≡ false → long_of word ≡ None
no_long [] e = refl
no_long (b ∷ bytes) e = rw e refl

pub no_short : (word : Text) → is_flag word ≡ false → short_of word ≡ None
no_short [] e = refl
no_short (b ∷ bytes) e = rw e refl

pub no_end : (word : Text) → is_flag word ≡ false → bytes_eq word (45 ∷ 45 ∷ []) ≡ false
no_end [] e = refl
no_end (b ∷ bytes) e = rw e refl

-- where the word names no subcommand either, it goes to a positional
module _ (s : Shape) (names : Names) (h : Held) (position : ℕ) (word : Text) (none : subcommand_met names idle word ≡ None) (plain : is_flag word ≡ false) where
  abbrev here : Walk
  here = record { held = h; waiting = idle; position = position; is_trailing = false; stopped = None }

  met : ◌≡◌ {A = Held × Step} (word_met s.rules names false idle position word h) (h, value)
  met = rw (none, no_end word plain, no_long word plain, no_short word plain) refl

  other : other_fault s (subcommand_met names idle word) word h ≡ []
  other = rw (none, no_end word plain, no_long word plain, no_short word plain) refl

  pub turn_is : turn_fault s names here word ≡ step_fault s position h value
  turn_is = ap₂ (λ (k : Kinds) (m : Held × Step). or_else k (step_fault s position m.0 m.1)) other met

  pub walked_is : ◌≡◌ {A = Walk} (walked s.rules names here word) (to_positional s.rules (arg_by_index s.rules position) word here h)
  unfolding walked
  walked_is = ap (λ (m : Held × Step). after_step s.rules word here m.0 m.1) met

pub first_none : (a b : Kinds) → or_else a b ≡ [] → a ≡ []
first_none [] b e = refl
first_none (k ∷ ks) b e = e

pub second_none : (a b : Kinds) → or_else a b ≡ [] → b ≡ []
second_none [] b e = e
second_none (k ∷ ks) b e = absurd cc

pub only_first : (a : Kinds) → or_else a [] ≡ a
only_first [] = refl
only_first (k ∷ ks) = refl
