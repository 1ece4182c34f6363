-- The subcommand that `clap` has found.
use Rattle.std.proofs.Common.{◌≡◌, List, Some, None}
use Rattle.std.specs.Prelude.{Option, Box, option_map}
use Rattle.std.specs.Box.{box_value}
use Rattle.clap.specs.Walk.{Row, Text}
use Rattle.clap.specs.Simple.{subcommand_rows}
use Rattle.bz_cli.specs.Inside.Parser.{Seen, seen_in}
use Rattle.clap.specs.declared.parser.matches.SubCommand.{SubCommand}
use Rattle.clap.specs.declared.parser.matches.ArgMatches.TheViews.{out-SubCommand}

some_parts : (a c : Text) (b d : List Row) → Some a ≡ Some c → Some b ≡ Some d → ◌≡◌ {A = Option (Text × List Row)} (Some (c, d)) (Some (a, b))
some_parts a c b d first second = cc

pub rows_found : {Z : Type 0} (found : Option (Box SubCommand Z)) (name : Text) (rows : List Row) → Some name ≡ option_map (λ b. (out-SubCommand (box_value b)).name.now) found
    → Some rows ≡ option_map (λ p. p.1) (subcommand_rows found) → ◌≡◌ {A = Option (Text × List Row)} (subcommand_rows found) (Some (name, rows))
rows_found None name rows first second = absurd cc
rows_found (Some b) name rows first second = some_parts _ _ _ _ first second

-- without a subcommand nothing is seen
pub none_found : {Z : Type 0} (found : Option (Box SubCommand Z)) (seen : Seen) → None ≡ option_map (λ p. p.1) (subcommand_rows found) → seen_in (subcommand_rows found) ≡ Some seen → ⊥
none_found None seen none is = absurd (cc is)
none_found (Some b) seen none is = absurd (cc none)

-- equal texts are seen alike
pub seen_alike : (name : Text) (m m' s s' c c' w w' : Option Text) → m ≡ m' → s ≡ s' → c ≡ c' → w ≡ w'
    → ◌≡◌ {A = Option Seen} (Some (record { name = name; marks = m; seed = s; calls = c; workers = w })) (Some (record { name = name; marks = m'; seed = s'; calls = c'; workers = w' }))
seen_alike name m m' s s' c c' w w' a b d e = λ i. Some (record { name = name; marks = a i; seed = b i; calls = d i; workers = e i })
