-- What the definition of command lines comes to.
use Rattle.std.specs.Prelude.{◌≡◌, List}
use Rattle.bz_cli.specs.CommandLine.{Text, IsCommandLine}
use Rattle.bz_cli.specs.declared.command.CommandLine.{CommandLine}

-- words that are one command line are no other
abbrev pub WordsAreOneLine : Type 0
WordsAreOneLine = (words : List Text) (one other : CommandLine) → IsCommandLine words one → IsCommandLine words other → one ≡ other
