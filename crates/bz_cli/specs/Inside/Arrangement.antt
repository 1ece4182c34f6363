-- What is made of the texts that were found in the words, and how the words stand to them.
use Rattle.std.specs.Prelude.{◌≡◌, ℕ, ◌-◌, ◌^◌, List, [], ◌∷◌, ◌++◌, Option, Some, None, codes, if◌then◌else◌}
use Rattle.std.specs.Str.{bytes_eq}
use Rattle.bz_gen.specs.declared.workload.TheConstants.{MOST_CALLS}
use Rattle.bz_layout.specs.declared.limits.TheConstants.{MIN_MARKS, MAX_MARKS, MIN_WORKERS, MAX_WORKERS}
use Rattle.bz_script.specs.Number.{number_of, within}
use Rattle.bz_cli.specs.CommandLine.{Text, IsMarksOption, usual_marks}
use Rattle.bz_cli.specs.Inside.Parser.{Seen}
use Rattle.bz_cli.specs.declared.command.Command.{Command}
use Rattle.bz_cli.specs.declared.command.Command.TheVariants.{Run, Dump, Load, Trace, Queue, Work}

-- the number that a text writes, if it lies in a range
abbrev pub number_in : ℕ → ℕ → Option Text → Option ℕ
number_in low high None = None
number_in low high (Some text) = within low high (number_of text)

-- the workload of these numbers, if they are there
abbrev pub workload_by : Option ℕ → Option ℕ → Option ℕ → Option Command
workload_by (Some seed) (Some calls) (Some workers) = Some (Work seed calls workers)
workload_by seed calls workers = None

-- the command that was found
abbrev pub command_by : Seen → Option Command
command_by seen =
    if bytes_eq seen.name (codes "run") then Some Run else
    if bytes_eq seen.name (codes "dump") then Some Dump else
    if bytes_eq seen.name (codes "load") then Some Load else
    if bytes_eq seen.name (codes "trace") then Some Trace else
    if bytes_eq seen.name (codes "queue") then Some Queue else
    if bytes_eq seen.name (codes "work") then
    workload_by (number_in 0 (2 ^ 64 - 1) seen.seed) (number_in 1 MOST_CALLS seen.calls) (number_in MIN_WORKERS MAX_WORKERS seen.workers)
    else None

-- the limit on marks that a command has, by the text of it
abbrev pub limit_of : Command → Option Text → Option ℕ
limit_of command None = Some (usual_marks command)
limit_of command (Some text) = within MIN_MARKS MAX_MARKS (number_of text)

-- the words say the limit on marks that this text is, and nothing else
abbrev pub SayOnly : List Text → Option Text → Type 0
SayOnly words None = words ≡ []
SayOnly words (Some text) = IsMarksOption words text

-- the words are these values in their order, and somewhere among them what says the limit on marks
pub record Say (words values : List Text) (marks : Option Text) : Type 0 where
  pub before : List Text
  pub option : List Text
  pub after : List Text
  pub are : words ≡ before ++ (option ++ after)
  pub values_are : before ++ after ≡ values
  pub say : SayOnly option marks

-- the limit on marks comes first
pub record SayFirst (words values : List Text) (marks : Option Text) : Type 0 where
  pub option : List Text
  pub are : words ≡ option ++ values
  pub say : SayOnly option marks

-- the texts of all values, or none
abbrev pub values_by : Option Text → Option Text → Option Text → List Text
values_by (Some seed) (Some calls) (Some workers) = seed ∷ calls ∷ workers ∷ []
values_by seed calls workers = []

-- the values of a command that was found
abbrev pub values_found : Command → Seen → List Text
values_found Run seen = []
values_found Dump seen = []
values_found Load seen = []
values_found Trace seen = []
values_found Queue seen = []
values_found (Work seed calls workers) seen = values_by seen.seed seen.calls seen.workers

-- the words are the name that was found, and behind it the values of this command and what was found of the limit on marks
pub record IsArranged (words : List Text) (command : Command) (seen : Seen) : Type 0 where
  pub rest : List Text
  pub are : words ≡ seen.name ∷ rest
  pub say : Say rest (values_found command seen) seen.marks
