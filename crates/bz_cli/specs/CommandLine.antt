-- Which words of the command line ask for what.
use Rattle.std.specs.Prelude.{◌≡◌, ◌≤◌, ◌⊎◌, ⊤, ℕ, ◌-◌, ◌^◌, List, [], ◌∷◌, ◌++◌, Some, codes}
use Rattle.bz_gen.specs.declared.workload.TheConstants.{MOST_CALLS}
use Rattle.bz_layout.specs.declared.limits.TheConstants.{MIN_MARKS, MAX_MARKS, MIN_WORKERS, MAX_WORKERS}
use Rattle.bz_script.specs.Number.{number_of, within}
use Rattle.bz_cli.specs.declared.command.Command.{Command}
use Rattle.bz_cli.specs.declared.command.Command.TheVariants.{Run, Dump, Load, Trace, Queue, Work}
use Rattle.bz_cli.specs.declared.command.CommandLine.{CommandLine}
use Rattle.bz_cli.specs.declared.command.TheConstants.{RUN_MARKS, WORK_MARKS}

abbrev pub Text : Type 0
Text = List ℕ

-- a number, and the range in which it has to lie
pub record Value : Type 0 where
  pub number : ℕ
  pub low : ℕ
  pub high : ℕ

-- The commands, one row each in these three definitions: the name; the values that stand behind it, in their order; and
-- the limit on marks where the words do not say one.
abbrev pub name_of : Command → Text
name_of Run = codes "run"
name_of Dump = codes "dump"
name_of Load = codes "load"
name_of Trace = codes "trace"
name_of Queue = codes "queue"
name_of (Work seed calls workers) = codes "work"

abbrev pub values_of : Command → List Value
values_of Run = []
values_of Dump = []
values_of Load = []
values_of Trace = []
values_of Queue = []
values_of (Work seed calls workers) =
    record { number = seed; low = 0; high = 2 ^ 64 - 1 }
    ∷ record { number = calls; low = 1; high = MOST_CALLS }
    ∷ record { number = workers; low = MIN_WORKERS; high = MAX_WORKERS }
    ∷ []

abbrev pub usual_marks : Command → ℕ
usual_marks Run = RUN_MARKS
usual_marks Dump = RUN_MARKS
usual_marks Load = RUN_MARKS
usual_marks Trace = RUN_MARKS
usual_marks Queue = RUN_MARKS
usual_marks (Work seed calls workers) = WORK_MARKS

-- the word is this number as scripts write numbers, and the number lies in its range
abbrev pub Writes : Text → Value → Type 0
Writes word v = within v.low v.high (number_of word) ≡ Some v.number

-- the words are these numbers, one each and in their order
abbrev pub WriteAll : List Text → List Value → Type 0
WriteAll [] [] = ⊤
WriteAll [] (v ∷ values) = ⊥
WriteAll (word ∷ words) [] = ⊥
WriteAll (word ∷ words) (v ∷ values) = Writes word v × WriteAll words values

-- `--marks N` or `--marks=N`
abbrev pub IsMarksOption : List Text → Text → Type 0
IsMarksOption option word = (option ≡ codes "--marks" ∷ word ∷ []) ⊎ (option ≡ (codes "--marks=" ++ word) ∷ [])

-- the words say this limit on marks
pub record SaysMarks (option : List Text) (marks : ℕ) : Type 0 where
  pub word : Text
  pub writes : Writes word (record { number = marks; low = MIN_MARKS; high = MAX_MARKS })
  pub is_option : IsMarksOption option word

-- the words say no limit, so that it is the usual one
pub record LeavesMarks (option : List Text) (command : Command) (marks : ℕ) : Type 0 where
  pub none : option ≡ []
  pub usual : marks ≡ usual_marks command

-- The words are a command: its name comes first, and its values follow in their order, with the limit on marks said before,
-- between or after them, at most once.
pub record IsCommandLine (words : List Text) (line : CommandLine) : Type 0 where
  pub before : List Text
  pub option : List Text
  pub after : List Text
  pub are : words ≡ name_of line.command ∷ (before ++ (option ++ after))
  pub values : WriteAll (before ++ after) (values_of line.command)
  pub limit : SaysMarks option line.marks ⊎ LeavesMarks option line.command line.marks

-- the numbers of a command lie in their ranges
abbrev pub InRange : Command → Type 0
InRange Run = ⊤
InRange Dump = ⊤
InRange Load = ⊤
InRange Trace = ⊤
InRange Queue = ⊤
InRange (Work seed calls workers) = ((1 ≤ calls) × (calls ≤ MOST_CALLS)) × ((MIN_WORKERS ≤ workers) × (workers ≤ MAX_WORKERS))
