-- What `clap` is asked to read, and what it finds.
use Rattle.std.specs.Prelude.{◌≡◌, List, Option, Some, codes, true, option_map}
use Rattle.clap.specs.Walk.{Row, Rule, first_of}
use Rattle.clap.specs.Simple.{App, new_app, new_rule, with_rule, with_subcommand, on_top, subcommand_of}
use Rattle.clap.specs.Takes.{takes}
use Rattle.clap.specs.declared.builder.action.ArgAction.TheVariants.{Set}
use Rattle.bz_cli.specs.CommandLine.{Text}

-- the option --marks
abbrev pub marks_rule : Rule
marks_rule = record (new_rule (codes "marks")) { long = Some (codes "marks"); action = Some Set }

-- a value of `work`, under a name of its own
abbrev pub value_rule : Text → Rule
value_rule id = record (new_rule id) { action = Some Set }

-- a command without values
abbrev pub bare_app : Text → App
bare_app name = with_rule (new_app name) marks_rule

abbrev pub work_app : App
work_app = with_rule (with_rule (with_rule (with_rule (new_app (codes "work")) (value_rule (codes "seed"))) (value_rule (codes "calls"))) (value_rule (codes "workers"))) marks_rule

-- the program with no command, without help and version
abbrev pub program_app : App
program_app = on_top (λ s. record s { no_binary_name = true; disable_help_flag = true; disable_help_subcommand = true }) (new_app (codes "bz"))

-- the command with one level of subcommands
abbrev pub bz_app : App
bz_app =
    with_subcommand
    (with_subcommand
    (with_subcommand
    (with_subcommand
    (with_subcommand
    (with_subcommand program_app (bare_app (codes "run")).top) (bare_app (codes "dump")).top) (bare_app (codes "load")).top) (bare_app (codes "trace")).top) (bare_app (codes "queue")).top) work_app.top

-- what is found: the subcommand's name, and the texts of its limit on marks and of its values
pub record Seen : Type 0 where
  pub name : Text
  pub marks : Option Text
  pub seed : Option Text
  pub calls : Option Text
  pub workers : Option Text

-- the same of a subcommand's name and rows
abbrev pub seen_at : Text × List Row → Seen
seen_at found = record {
  name = found.0;
  marks = first_of (codes "marks") found.1;
  seed = first_of (codes "seed") found.1;
  calls = first_of (codes "calls") found.1;
  workers = first_of (codes "workers") found.1;
}

abbrev pub seen_in : Option (Text × List Row) → Option Seen
seen_in = option_map seen_at

-- `clap` takes the words, and finds this
pub record IsReadAs (words : List Text) (seen : Seen) : Type 0 where
  pub taken : takes bz_app words ≡ true
  pub found : seen_in (subcommand_of bz_app words) ≡ Some seen
