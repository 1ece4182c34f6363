use Rattle.std.proofs.Common.{◌≡◌, ◌∙◌, List, sym, ap, codes, map, Bor}
use Rattle.clap.specs.Simple.{App, is_simple, subcommand_of}
use Rattle.clap.specs.Matches.{found_of}
use Rattle.clap.specs.Takes.{takes}
use Rattle.clap.proofs.WalkLemmas.{first_value-rows}
use Rattle.bz_cli.specs.CommandLine.{Text}
use Rattle.bz_cli.specs.Inside.Parser.{seen_in}
use Rattle.bz_cli.specs.declared.error.WordsError.TheVariants.{Usage}
use Rattle.bz_cli.proofs.FoundLemmas.{none_found, rows_found, seen_alike}
use Rattle.bz_cli.proofs.parser.find.Goals as goal

pub returns-in-Some-clause-found : goal.returns-in-Some-clause-found
returns-in-Some-clause-found c =
    let words : List Text = map (λ (word : Bor Text). word.now) c.args.words.now in
    let app_is = c.in_ok-parser.ensures in
    let got = (c.in-Ok.ensures.matches (ap is_simple app_is)).1 ∙ ap (λ (a : App). subcommand_of a words) app_is in
    let rows = rows_found _ _ _ c.in-Some.ensures.name c.in-Some.ensures.rows in
    let found = found_of c.in-Some.found.now in
    ap seen_in (sym got ∙ rows)
    ∙ seen_alike c.in-Some.name.now _ _ _ _ _ _ _ _ (sym (c.get_str.ensures ∙ first_value-rows found (codes "marks"))) (sym (c.get_str-in-Some.ensures ∙ first_value-rows found (codes "seed")))
    (sym (c.get_str-in-Some-2.ensures ∙ first_value-rows found (codes "calls"))) (sym (c.get_str-in-Some-3.ensures ∙ first_value-rows found (codes "workers")))

pub returns-in-Err-clause-usage : goal.returns-in-Err-clause-usage
returns-in-Err-clause-usage c = λ is seen read.
    let words : List Text = map (λ (word : Bor Text). word.now) c.args.words.now in
    let taken = ap (λ (a : App). takes a words) c.in_ok-parser.ensures ∙ read.taken in
    let usage : c.refused.result ≡ Usage = cc is in
    c.refused.ensures usage (c.kind.ensures ∙ c.in-Err.ensures.passes taken)

pub returns-clause-usage : goal.returns-clause-usage
returns-clause-usage c = λ is seen read.
    let words : List Text = map (λ (word : Bor Text). word.now) c.args.words.now in
    let app_is = c.in_ok-parser.ensures in
    let got = (c.in-Ok.ensures.matches (ap is_simple app_is)).1 ∙ ap (λ (a : App). subcommand_of a words) app_is in
    none_found _ seen c.in-None.ensures.rows (ap seen_in got ∙ read.found)
