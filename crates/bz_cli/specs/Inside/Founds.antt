-- What was found, as texts.
use Rattle.std.specs.Prelude.{option_map}
use Rattle.bz_cli.specs.Inside.Parser.{Seen}
use Rattle.bz_cli.specs.declared.parser.Found.{Found}

abbrev pub seen_of : Found → Seen
seen_of found = record {
  name = found.name.now;
  marks = option_map (λ text. text.now) found.marks;
  seed = option_map (λ text. text.now) found.seed;
  calls = option_map (λ text. text.now) found.calls;
  workers = option_map (λ text. text.now) found.workers;
}
