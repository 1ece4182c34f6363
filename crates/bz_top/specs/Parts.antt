-- How the parts of a run end, from the script on.
use Rattle.std.specs.Prelude.{◌≡◌, ◌≤◌, ◌⊎◌, ◌+◌, ℕ, List, ◌++◌, length, Option, Some, None, Ok, Err, codes}
use Rattle.bz_script.specs.Script.{Job, script_of}
use Rattle.bz_script.specs.declared.fault.ScriptRule.{ScriptRule}
use Rattle.bz_script.specs.declared.read.TheConstants.{SCRIPT_BYTES}
use Rattle.bz_sched.specs.FromWorld.WorldView.{WorldView}
use Rattle.bz_sched.specs.FromWorld.LimitKind.{LimitKind}
use Rattle.bz_cli.specs.declared.command.Command.{Command}
use Rattle.bz_top.specs.Bases.{Base, numbers_over}
use Rattle.bz_top.specs.Faults.{fault_line, broken_text, limit_text}
use Rattle.bz_top.specs.Endings.{IsFinished, IsCutShort, IsLedTo, IsLeft, printed, printed_before}
use Rattle.std.specs.Io.KnownBytes.{Appends}
use Rattle.bz_io.specs.Faults.{Rose}
use Rattle.bz_io.specs.Transfers.{IsReadWhole, GaveCount, GrewByFront}

-- the sink before and after
pub record Sunk : Type 0 where
  pub held : Option (List ℕ)
  pub held_after : Option (List ℕ)
  pub faults : ℕ
  pub faults_after : ℕ

abbrev pub sunk : Option (List ℕ) → Option (List ℕ) → ℕ → ℕ → Sunk
sunk held held_after faults faults_after = record { held = held; held_after = held_after; faults = faults; faults_after = faults_after }

-- the source before and after
pub record Given : Type 0 where
  pub left : Option (List ℕ)
  pub left_after : Option (List ℕ)
  pub faults : ℕ
  pub faults_after : ℕ

abbrev pub given : Option (List ℕ) → Option (List ℕ) → ℕ → ℕ → Given
given left left_after faults faults_after = record { left = left; left_after = left_after; faults = faults; faults_after = faults_after }

-- all of a text was written and this is the status; or the sink failed, has a part of the text, and the
-- status is 4
abbrev pub Says : Sunk → ℕ → List ℕ → ℕ → Type 0
Says k status text answer =
    ((answer ≡ status) × Appends k.held k.held_after text) ⊎ ((answer ≡ 4) × Rose k.faults k.faults_after × GrewByFront k.held k.held_after text)

-- the text was written, or memory was wanting for it and that was written
abbrev pub SaysOrWants : Sunk → ℕ → List ℕ → ℕ → Type 0
SaysOrWants k status text answer = Says k status text answer ⊎ Says k 7 (fault_line (codes "memory")) answer

-- a command's text was written; or memory was wanting for it, and that was written behind what is left of the text then
abbrev pub Prints : Command → WorldView → Sunk → ℕ → List ℕ → ℕ → Type 0
Prints command world k status text answer = Says k status text answer ⊎ ((before : List ℕ) × IsLeft command world before × Says k 7 (before ++ fault_line (codes "memory")) answer)

-- a script was run to its end
pub record Finishes (command : Command) (marks : ℕ) (base : Base) (script : Job) (k : Sunk) (status : ℕ) (lab : Option WorldView) : Type 0 where
  pub world : WorldView
  pub is_lab : lab ≡ Some world
  pub finished : IsFinished marks base script world
  pub said : Says k 0 (printed command world) status

-- a script was run until a limit was met
pub record StopsShort (command : Command) (marks : ℕ) (base : Base) (script : Job) (k : Sunk) (status : ℕ) (lab : Option WorldView) : Type 0 where
  pub world : WorldView
  pub which : LimitKind
  pub is_lab : lab ≡ Some world
  pub cut_short : IsCutShort marks base script world which
  pub said : Says k 5 (printed_before command world ++ fault_line (limit_text which)) status

-- memory was wanting for threads, or for what is printed
pub record GivesUp (command : Command) (marks : ℕ) (base : Base) (script : Job) (k : Sunk) (status : ℕ) (lab : Option WorldView) : Type 0 where
  pub world : WorldView
  pub is_lab : lab ≡ Some world
  pub led : IsLedTo marks base script world
  pub before : List ℕ
  pub left : IsLeft command world before
  pub said : Says k 7 (before ++ fault_line (codes "memory")) status

-- memory was wanting before there was a world
pub record Wants (k : Sunk) (status : ℕ) (lab : Option WorldView) : Type 0 where
  pub no_lab : lab ≡ None
  pub said : Says k 7 (fault_line (codes "memory")) status

-- what becomes of a script in a world that was opened for it
abbrev pub RanWorld : Command → ℕ → Base → Job → Sunk → ℕ → Option WorldView → Type 0
RanWorld command marks base script k status lab =
    Finishes command marks base script k status lab ⊎ (StopsShort command marks base script k status lab ⊎ GivesUp command marks base script k status lab)

-- what becomes of a script
abbrev pub RanScript : Command → ℕ → Base → Job → Sunk → ℕ → Option WorldView → Type 0
RanScript command marks base script k status lab = RanWorld command marks base script k status lab ⊎ Wants k status lab

-- bytes were no script
pub record Refuses (base : Base) (bytes : List ℕ) (k : Sunk) (status : ℕ) (lab : Option WorldView) : Type 0 where
  pub line : ℕ
  pub rule : ScriptRule
  pub is_fault : script_of (numbers_over base) bytes ≡ Err (record { line = line; rule = rule })
  pub no_lab : lab ≡ None
  pub said : SaysOrWants k 3 (fault_line (broken_text line rule)) status

-- bytes were read as a script and run
pub record Runs (command : Command) (marks : ℕ) (base : Base) (bytes : List ℕ) (k : Sunk) (status : ℕ) (lab : Option WorldView) : Type 0 where
  pub script : Job
  pub is_script : script_of (numbers_over base) bytes ≡ Ok script
  pub ran : RanScript command marks base script k status lab

abbrev pub RanBytes : Command → ℕ → Base → List ℕ → Sunk → ℕ → Option WorldView → Type 0
RanBytes command marks base bytes k status lab =
    Runs command marks base bytes k status lab ⊎ (Refuses base bytes k status lab ⊎ Wants k status lab)

-- reading failed
pub record FailsToRead (g : Given) (k : Sunk) (status : ℕ) (lab : Option WorldView) : Type 0 where
  pub rose : Rose g.faults g.faults_after
  pub no_lab : lab ≡ None
  pub said : Says k 1 (fault_line (codes "read")) status

-- the source gave more bytes than a script may have
pub record RunsOver (g : Given) (k : Sunk) (status : ℕ) (lab : Option WorldView) : Type 0 where
  pub more : GaveCount g.left g.left_after (SCRIPT_BYTES + 1)
  pub no_lab : lab ≡ None
  pub said : Says k 3 (fault_line (codes "script too long")) status

-- it was read to its end
pub record IsReadOut (command : Command) (marks : ℕ) (base : Base) (g : Given) (k : Sunk) (status : ℕ) (lab : Option WorldView) : Type 0 where
  pub bytes : List ℕ
  pub whole : IsReadWhole g.left g.left_after bytes
  pub fits : length bytes ≤ SCRIPT_BYTES
  pub ran : RanBytes command marks base bytes k status lab

-- what becomes of what the source has left
abbrev pub RanSource : Command → ℕ → Base → Given → Sunk → ℕ → Option WorldView → Type 0
RanSource command marks base g k status lab =
    FailsToRead g k status lab ⊎ (RunsOver g k status lab ⊎ (IsReadOut command marks base g k status lab ⊎ Wants k status lab))
