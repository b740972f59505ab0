-- What the getters of a parse give, by its rows.
use Rattle.std.proofs.Common.{◌≡◌, ◌∙◌, ℕ, List, [], ◌∷◌, Option, Some, None, option_map, map, refl, sym, ap, ap₂, codes, Bor}
use Rattle.std.specs.Prelude.{Box, find, option_and_then, slice_get}
use Rattle.std.specs.Box.{box_value}
use Rattle.std.specs.Str.{bytes_eq}
use Rattle.clap.specs.Facts.{Entry}
use Rattle.clap.specs.Walk.{Row, Text, first_of, row_of, rows_of, texts}
use Rattle.clap.specs.Simple.{subcommand_rows, subcommand_rows_of}
use Rattle.clap.specs.Matches.{first_value, subcommand_name_of}
use Rattle.clap.specs.declared.parser.matches.ArgMatches.{ArgMatches}
use Rattle.clap.specs.declared.parser.matches.ArgMatches.TheViews.{out-ArgMatches, out-SubCommand}
use Rattle.clap.specs.declared.parser.matches.Found.{Found}
use Rattle.clap.specs.declared.parser.matches.SubCommand.{SubCommand}
use Rattle.clap.proofs.WalkLemmas.{find_row}
use Rattle.command_words.specs.declared.command.Command.{Command}
use Rattle.command_words.specs.declared.command.Command.TheVariants.{Load}
use Rattle.command_words.specs.Commands.{number_of}
use Rattle.command_words.specs.Program.{command_in}

first_text : (xs : List (Bor Text)) → option_map (λ s. s.now) (slice_get xs 0) ≡ slice_get (texts xs) 0
first_text [] = refl
first_text (x ∷ xs) = refl

pub first_same : (f : Found) (id : Text) → first_value f id ≡ first_of id (rows_of f)
first_same f id = go (find (λ e. bytes_eq e.0.now id) f.entries.items)
    ∙ ap (λ (o : Option Row). option_and_then (λ r. slice_get r.values 0) o) (sym (find_row f.entries.items id))
  where
    go : (o : Option Entry) → option_and_then (λ a. option_map (λ s. s.now) (slice_get a.vals.items 0)) (option_map (λ e. e.1) o)
        ≡ option_and_then (λ (r : Row). slice_get r.values 0) (option_map row_of o)
    go None = refl
    go (Some e) = first_text e.1.vals.items

same_some : {X : Type 0} (x y : X) → Some x ≡ Some y → x ≡ y
same_some x y e = cc

module _ {Z : Type 0} (name : Text) (rows : List Row) where
  both_parts : (o : Option (Box SubCommand Z)) → Some name ≡ option_map (λ b. (out-SubCommand (box_value b)).name.now) o
      → Some rows ≡ option_map (λ p. p.1) (subcommand_rows o) → subcommand_rows o ≡ Some (name, rows)
  both_parts None a b = absurd cc
  both_parts (Some b) n r =
      sym (ap₂ (λ (x : Text) (y : List Row). Some (x, y)) (same_some _ _ n) (same_some _ _ r))

pub rows_found : (m : ArgMatches) (name : Text) (rows : List Row) → Some name ≡ subcommand_name_of m → Some rows ≡ option_map (λ p. p.1) (subcommand_rows_of m)
    → subcommand_rows_of m ≡ Some (name, rows)
rows_found m name rows n r = both_parts name rows (out-ArgMatches m).subcommand n r

-- the command of a parse that met `load`
pub load_in : (m words : ArgMatches) (found : Option Text) → Some (codes "load") ≡ subcommand_name_of m
    → Some (rows_of (out-ArgMatches words).found) ≡ option_map (λ p. p.1) (subcommand_rows_of m) → found ≡ first_value (out-ArgMatches words).found (codes "N")
    → option_map Load (option_and_then number_of found) ≡ command_in (subcommand_rows_of m)
load_in m words found n r value = ap (λ (o : Option Text). option_map Load (option_and_then number_of o)) (value ∙ first_same (out-ArgMatches words).found (codes "N"))
    ∙ ap command_in (sym (rows_found m (codes "load") (rows_of (out-ArgMatches words).found) n r))
