-- What a parse found, seen by what it made of the words.
use Rattle.std.proofs.Common.{◌≡◌, ◌∙◌, List, Option, Some, None, Box, ap, option_map, refl, sym}
use Rattle.std.specs.Borrow.{Bor}
use Rattle.std.specs.Box.{box_value}
use Rattle.clap.specs.Words.{Row, Text, found_of, rows_of, subcommand_name_of, subcommand_rows, subcommand_rows_of}
use Rattle.clap.specs.declared.parser.matches.ArgMatches.{ArgMatches}
use Rattle.clap.specs.declared.parser.matches.ArgMatches.TheViews.{out-ArgMatches, out-SubCommand}
use Rattle.clap.specs.declared.parser.matches.SubCommand.{SubCommand}
use Rattle.option_table.specs.Found.{Met, met_of}

some_same : {X : Type 0} (a b : X) → Some a ≡ Some b → a ≡ b
some_same a b e = cc

second_is : (o : Option (Text × List Row)) (rows : List Row) → Some rows ≡ option_map (λ p. p.1) o → rows ≡ (met_of o).rows
second_is None rows is = absurd cc
second_is (Some p) rows is = some_same rows p.1 is

-- the rows of the subcommand at which code looks
pub rows_are : (m : ArgMatches) (met : Met) (r : Option (Bor Text × Bor ArgMatches)) (name : Bor Text) (inner : Bor ArgMatches)
    → met_of (subcommand_rows_of m) ≡ met → option_map (λ p. rows_of (found_of p.1.now)) r ≡ option_map (λ p. p.1) (subcommand_rows_of m)
    → r ≡ Some (name, inner) → rows_of (found_of inner.now) ≡ met.rows
rows_are m met r name inner view are is =
    second_is (subcommand_rows_of m) (rows_of (found_of inner.now))
    (sym (ap (option_map (λ (p : Bor Text × Bor ArgMatches). rows_of (found_of p.1.now))) is) ∙ are)
    ∙ ap (λ (x : Met). x.rows) view

none_some : {X : Type 0} (b : X) → None ≡ Some b → ⊥
none_some b e = cc

module _ {Z : Type 0} where
  as_met : (o : Option (Box SubCommand Z)) (name : Text) → option_map (λ b. (out-SubCommand (box_value b)).name.now) o ≡ Some name
      → subcommand_rows o ≡ Some ((met_of (subcommand_rows o)).name, (met_of (subcommand_rows o)).rows)
  as_met None name is = absurd cc
  as_met (Some b) name is = refl

  unmet : (o : Option (Box SubCommand Z)) → option_map (λ b. (out-SubCommand (box_value b)).name.now) o ≡ None → subcommand_rows o ≡ None
  unmet None is = refl
  unmet (Some b) is = cc

-- where a parse met a subcommand, what it found says all of it
pub met_is : (m : ArgMatches) (name : Text) → subcommand_name_of m ≡ Some name
    → subcommand_rows_of m ≡ Some ((met_of (subcommand_rows_of m)).name, (met_of (subcommand_rows_of m)).rows)
met_is m name is = as_met (out-ArgMatches m).subcommand name is

-- where a parse met no subcommand, the words name none
pub names_none : (m : ArgMatches) (o : Option (Text × List Row)) (met : Text × List Row) → subcommand_name_of m ≡ None → subcommand_rows_of m ≡ o → o ≡ Some met → ⊥
names_none m o met none is names = none_some met (sym (unmet (out-ArgMatches m).subcommand none) ∙ is ∙ names)
