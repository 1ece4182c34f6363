-- How a run of the program ends that is no `queue`: the cause of each status, and what is then written.
use Rattle.std.specs.Prelude.{◌≡◌, ◌≤◌, ◌+◌, ◌⊎◌, ℕ, List, [], ◌∷◌, ◌++◌, length, take, slice_index, Option, Some, None, Ok, Err, codes}
use Rattle.std.specs.Io.KnownBytes.{Consumes, Appends}
use Rattle.bz_content.specs.Content.{image_fault}
use Rattle.bz_image.specs.Fetches.{GaveFault}
use Rattle.bz_image.specs.Form.{file_of_image, IsSized}
use Rattle.bz_image.specs.Worlds.{file_of_world}
use Rattle.bz_image.specs.declared.fault.ImageFault.{ImageFault}
use Rattle.bz_image.specs.declared.image.Image.{Image}
use Rattle.bz_io.specs.Faults.{Rose}
use Rattle.bz_io.specs.Transfers.{IsReadWhole, GrewByFront}
use Rattle.bz_layout.specs.Addresses.{words_of}
use Rattle.bz_lines.specs.Lines.{lines_of, text_of}
use Rattle.bz_sound.specs.Power.Sound.{IsSound}
use Rattle.bz_mark.specs.declared.power.Power.{Power as State}
use Rattle.bz_mark.specs.declared.power.Power.TheVariants as power
use Rattle.bz_tree.specs.declared.rule.ShapeFault.{ShapeFault}
use Rattle.bz_script.specs.Script.{Job, script_of}
use Rattle.bz_script.specs.declared.fault.ScriptRule.{ScriptRule}
use Rattle.bz_script.specs.declared.item.Item.{Item}
use Rattle.bz_script.specs.declared.item.Item.TheVariants.{Power}
use Rattle.bz_script.specs.declared.read.TheConstants.{SCRIPT_BYTES}
use Rattle.bz_sched.specs.Enough.{count_wanting}
use Rattle.bz_sched.specs.FromWorld.Numbers.{AreNumbersKept}
use Rattle.bz_sched.specs.FromWorld.WorldView.{WorldView}
use Rattle.bz_sched.specs.FromWorld.LimitKind.{LimitKind}
use Rattle.bz_sched.specs.Points.{Point}
use Rattle.bz_sched.specs.Scripts.{LeadsTo, LeadsToInPart, LeadsToWant}
use Rattle.bz_sched.specs.Sums.{calls_in, sum_of, SufficesFor, HasStockFor}
use Rattle.bz_gen.specs.Workload.{workload_of}
use Rattle.bz_text.specs.Report.{report_of}
use Rattle.bz_text.specs.Summary.{summary_of}
use Rattle.bz_cli.specs.CommandLine.{IsCommandLine}
use Rattle.bz_cli.specs.declared.command.Command.{Command}
use Rattle.bz_cli.specs.declared.command.Command.TheVariants.{Run, Dump, Load, Trace, Queue, Work}
use Rattle.bz_cli.specs.declared.command.CommandLine.{CommandLine}
use Rattle.bz_top.specs.Commands.{config_of}
use Rattle.bz_top.specs.Bases.{Base, power_over, words_over, front_over, numbers_over, IsBase, Reads, ReadsOver}
use Rattle.bz_top.specs.Faults.{fault_line, broken_text, limit_text, image_text, shape_text}

-- the outside of a run: the words of the command line; what the source has left, and its count of faults,
-- before and after; and what the sink holds, and its count, before and after
pub record Outside : Type 0 where
  pub words : List (List ℕ)
  pub left : Option (List ℕ)
  pub left_after : Option (List ℕ)
  pub read_faults : ℕ
  pub read_faults_after : ℕ
  pub held : Option (List ℕ)
  pub held_after : Option (List ℕ)
  pub write_faults : ℕ
  pub write_faults_after : ℕ

-- the words are a command
abbrev pub IsCommand : List (List ℕ) → Type 0
IsCommand words = (line : CommandLine) × IsCommandLine words line

-- they are a command that reads the source
abbrev pub IsReading : List (List ℕ) → Type 0
IsReading words = (line : CommandLine) × IsCommandLine words line × Reads line.command

-- they are `load`, with this limit on marks
abbrev pub IsLoad : List (List ℕ) → ℕ → Type 0
IsLoad words marks = IsCommandLine words (record { command = Load; marks = marks })

-- the words are a command that reads a script, behind what this base has there, and one may run over that
pub record ComesTo (o : Outside) (base : Base) : Type 0 where
  pub line : CommandLine
  pub command : IsCommandLine o.words line
  pub reads : ReadsOver line.command base
  pub is_base : IsBase line.marks base

-- the source was read to its end: what stands before the script, and then so many bytes as a script may have
pub record IsInput (o : Outside) (base : Base) (bytes : List ℕ) : Type 0 where
  pub whole : IsReadWhole o.left o.left_after (front_over base ++ bytes)
  pub fits : length bytes ≤ SCRIPT_BYTES

-- the source gave what stands before the script, and then more bytes than a script may have
pub record IsOverlong (o : Outside) (base : Base) : Type 0 where
  pub bytes : List ℕ
  pub given : Consumes o.left o.left_after (front_over base ++ bytes)
  pub counted : length bytes ≡ SCRIPT_BYTES + 1

-- the source's bytes are this script, behind what stands before it
pub record ReadsScript (o : Outside) (base : Base) (script : Job) : Type 0 where
  pub bytes : List ℕ
  pub input : IsInput o base bytes
  pub is_script : script_of (numbers_over base) bytes ≡ Ok script

-- the script that a command runs, and over what: `run`, `dump` and `trace` read it; `load` reads an image and then the script; and `work`
-- makes that of its seed, and reads nothing. `queue` has a script of its own, and no world
abbrev pub HasScript : Outside → Command → Base → Job → Type 0
HasScript o Run base script = (base ≡ None) × ReadsScript o None script
HasScript o Dump base script = (base ≡ None) × ReadsScript o None script
HasScript o Load base script = (image : Image) × (base ≡ Some image) × ReadsScript o (Some image) script
HasScript o Trace base script = (base ≡ None) × ReadsScript o None script
HasScript o Queue base script = ⊥
HasScript o (Work seed calls workers) base script = (base ≡ None) × (o.left_after ≡ o.left) × (script ≡ workload_of seed calls workers)

-- the words are this command, and this is its script
pub record Asks (o : Outside) (line : CommandLine) (base : Base) (script : Job) : Type 0 where
  pub command : IsCommandLine o.words line
  pub is_base : IsBase line.marks base
  pub has_script : HasScript o line.command base script

-- a world is made for this script: it has the script's sizes, this limit on marks and the fixed other ones, and it begins as
-- the base has it
pub record IsMadeFor (marks : ℕ) (base : Base) (script : Job) (world : WorldView) : Type 0 where
  pub config : world.config ≡ config_of marks script.nodes script.swaps
  pub at_start : world.at_start ≡ power_over base
  pub start : world.log.start ≡ words_over world.config base
  pub limits : world.log.limits ≡ record { marks = world.config.marks; calls = world.config.calls; pages = world.config.pages }

-- the lab is such a world, and its journal is sound; and the leaves of its tree, and the descriptors and slots that its calls took, are as many as they may be
pub record IsLab (marks : ℕ) (base : Base) (script : Job) (world : WorldView) : Type 0 where
  pub made : IsMadeFor marks base script world
  pub sound : IsSound world.config world.at_start world.log
  pub numbers : AreNumbersKept world.config world.at_start world.log

-- the point at which nothing has happened and no call waits
abbrev pub at_first : Point
at_first = record { past = []; queue = [] }

-- what is done: where the power is off at first, it comes on and worker 0 recovers to the end before the items of the script
abbrev pub items_from : State → List Item → List Item
items_from power.On items = items
items_from other items = Power ∷ items

-- a run that is done: a world of the script, with a sound journal to which the whole script leads. Where each run of the script goes one worker after
-- the other, and no cut is armed for a run or a power on, no call has ended for want of a descriptor or of slots, if as many of these are there as are
-- promised for each call
pub record IsFinished (marks : ℕ) (base : Base) (script : Job) (world : WorldView) : Type 0 where
  pub right : IsLab marks base script world
  pub follows : LeadsTo world.at_start world.log.start (words_of world.config) None at_first (items_from world.at_start script.items) world.log.past
  pub served : SufficesFor world.config world.log.limits (items_from world.at_start script.items) → HasStockFor world.config world.log.start (sum_of calls_in (items_from world.at_start script.items)) → count_wanting world.log.past ≡ 0

-- a run that met a limit when one more was needed: a world of the script, with a sound journal to which the
-- script leads up to there, and where the limit is met. Where each run of the script goes one worker after the other, and no cut is armed for a run or a power on, its sums were beyond
-- the limits
pub record IsCutShort (marks : ℕ) (base : Base) (script : Job) (world : WorldView) (which : LimitKind) : Type 0 where
  pub right : IsLab marks base script world
  pub follows : LeadsToInPart which world.log.limits world.at_start world.log.start (words_of world.config) None at_first (items_from world.at_start script.items) world.log.past
  pub lacks : SufficesFor world.config world.log.limits (items_from world.at_start script.items) → ⊥

-- a run for which memory was wanting: a world of the script, with a sound journal to which the script leads up to a run on
-- threads, of which no call was begun
pub record IsHeldUp (marks : ℕ) (base : Base) (script : Job) (world : WorldView) : Type 0 where
  pub right : IsLab marks base script world
  pub follows : LeadsToWant world.at_start world.log.start (words_of world.config) None at_first (items_from world.at_start script.items) world.log.past

-- a world of the script, as the script has led to it: to its end, up to a limit, or up to want of memory
abbrev pub IsLedTo : ℕ → Base → Job → WorldView → Type 0
IsLedTo marks base script world = IsFinished marks base script world ⊎ (((which : LimitKind) × IsCutShort marks base script world which) ⊎ IsHeldUp marks base script world)

-- what a command writes of a world in which its script was run to its end: its report, the file of the durable words that it has
-- left, the lines of its journal, or its summary. `queue` has no world, and the row of `run`
abbrev pub printed : Command → WorldView → List ℕ
printed Run world = report_of world.config world.log
printed Dump world = file_of_world world
printed Load world = report_of world.config world.log
printed Trace world = text_of (lines_of world.config world.log)
printed Queue world = report_of world.config world.log
printed (Work seed calls workers) world = summary_of world.config calls workers world.log

-- what it writes of one that met a limit, before the fault line
abbrev pub printed_before : Command → WorldView → List ℕ
printed_before Run world = report_of world.config world.log
printed_before Dump world = []
printed_before Load world = report_of world.config world.log
printed_before Trace world = []
printed_before Queue world = report_of world.config world.log
printed_before (Work seed calls workers) world = []

-- what stands before the fault line where memory was wanting for what a command writes: of a journal's lines the first ones, whole;
-- else nothing
abbrev pub IsLeft : Command → WorldView → List ℕ → Type 0
IsLeft Trace world text = (count : ℕ) × (text ≡ text_of (take count (lines_of world.config world.log)))
IsLeft command world text = text ≡ []

-- done: what the command writes of the world is written
pub record IsDone (o : Outside) (lab : Option WorldView) (text : List ℕ) : Type 0 where
  pub line : CommandLine
  pub base : Base
  pub script : Job
  pub asks : Asks o line base script
  pub world : WorldView
  pub is_lab : lab ≡ Some world
  pub finished : IsFinished line.marks base script world
  pub writes : text ≡ printed line.command world

-- a limit was met: what the command writes before a fault line is written, and then the fault line
pub record IsLimited (o : Outside) (lab : Option WorldView) (text : List ℕ) : Type 0 where
  pub line : CommandLine
  pub base : Base
  pub script : Job
  pub asks : Asks o line base script
  pub world : WorldView
  pub is_lab : lab ≡ Some world
  pub which : LimitKind
  pub cut_short : IsCutShort line.marks base script world which
  pub writes : text ≡ printed_before line.command world ++ fault_line (limit_text which)

-- the command reads, and reading failed
pub record IsReadFault (o : Outside) (lab : Option WorldView) (text : List ℕ) : Type 0 where
  pub command : IsReading o.words
  pub rose : Rose o.read_faults o.read_faults_after
  pub no_lab : lab ≡ None
  pub writes : text ≡ fault_line (codes "read")

-- what `load` reads first is no image file, and no script was asked for
pub record IsNoImage (o : Outside) (lab : Option WorldView) (text : List ℕ) : Type 0 where
  pub marks : ℕ
  pub command : IsLoad o.words marks
  pub fault : ImageFault
  pub gave : GaveFault o.left o.left_after fault
  pub no_lab : lab ≡ None
  pub writes : text ≡ fault_line (image_text fault)

-- it is the file of an image that breaks a rule of shape: the first one, and where; no script was asked for
pub record IsMisshapen (o : Outside) (lab : Option WorldView) (text : List ℕ) : Type 0 where
  pub marks : ℕ
  pub command : IsLoad o.words marks
  pub image : Image
  pub sized : IsSized image
  pub given : Consumes o.left o.left_after (file_of_image image)
  pub fault : ShapeFault
  pub is_fault : image_fault (config_of marks image.nodes image.swaps) (slice_index image.words) ≡ Some fault
  pub no_lab : lab ≡ None
  pub writes : text ≡ fault_line (shape_text fault)

-- the words are no command; the source was not asked
pub record IsUsage (o : Outside) (lab : Option WorldView) (text : List ℕ) : Type 0 where
  pub no_command : ¬ IsCommand o.words
  pub left : o.left_after ≡ o.left
  pub no_lab : lab ≡ None
  pub writes : text ≡ fault_line (codes "usage")

-- the bytes of the script break a rule: the first line that breaks one, and the first rule that it breaks
pub record IsBroken (o : Outside) (lab : Option WorldView) (text : List ℕ) : Type 0 where
  pub base : Base
  pub comes : ComesTo o base
  pub bytes : List ℕ
  pub input : IsInput o base bytes
  pub line : ℕ
  pub rule : ScriptRule
  pub is_fault : script_of (numbers_over base) bytes ≡ Err (record { line = line; rule = rule })
  pub no_lab : lab ≡ None
  pub writes : text ≡ fault_line (broken_text line rule)

-- they are more than a script may have
pub record IsTooLong (o : Outside) (lab : Option WorldView) (text : List ℕ) : Type 0 where
  pub base : Base
  pub comes : ComesTo o base
  pub more : IsOverlong o base
  pub no_lab : lab ≡ None
  pub writes : text ≡ fault_line (codes "script too long")

-- memory was wanting before there was a world; only a command that reads has then asked the source
pub record WantsEarly (o : Outside) (lab : Option WorldView) (text : List ℕ) : Type 0 where
  pub no_lab : lab ≡ None
  pub asked : IsReading o.words ⊎ (o.left_after ≡ o.left)
  pub writes : text ≡ fault_line (codes "memory")

-- memory was wanting for threads, or for what is written of a world, and the world is told
pub record WantsLater (o : Outside) (lab : Option WorldView) (text : List ℕ) : Type 0 where
  pub line : CommandLine
  pub base : Base
  pub script : Job
  pub asks : Asks o line base script
  pub world : WorldView
  pub is_lab : lab ≡ Some world
  pub led : IsLedTo line.marks base script world
  pub before : List ℕ
  pub left : IsLeft line.command world before
  pub writes : text ≡ before ++ fault_line (codes "memory")

-- want of memory comes anywhere where memory is taken
abbrev pub IsWant : Outside → Option WorldView → List ℕ → Type 0
IsWant o lab text = WantsEarly o lab text ⊎ WantsLater o lab text

-- a text of this kind was written whole
abbrev pub WritesWhole : (List ℕ → Type 0) → Outside → Type 0
WritesWhole IsText o = (text : List ℕ) × IsText text × Appends o.held o.held_after text

-- a part of a text of this kind was written, and not the whole
abbrev pub WritesPart : (List ℕ → Type 0) → Outside → Type 0
WritesPart IsText o = (text : List ℕ) × IsText text × GrewByFront o.held o.held_after text

-- what is to be written, whatever the ending
abbrev pub IsToBeWritten : Outside → Option WorldView → List ℕ → Type 0
IsToBeWritten o lab text =
    IsDone o lab text
    ⊎ (IsReadFault o lab text
    ⊎ (IsUsage o lab text
    ⊎ (IsBroken o lab text ⊎ (IsTooLong o lab text ⊎ (IsLimited o lab text ⊎ (IsWant o lab text ⊎ (IsNoImage o lab text ⊎ IsMisshapen o lab text)))))))

-- Each status has its cause, and with each the sink has grown by exactly what is said. Status 4 comes only
-- where the sink failed; it then has a part of what another ending whose cause holds writes.
pub record IsEnded (o : Outside) (status : ℕ) (lab : Option WorldView) : Type 0 where
  pub done : status ≡ 0 → WritesWhole (IsDone o lab) o
  pub read : status ≡ 1 → WritesWhole (IsReadFault o lab) o
  pub usage : status ≡ 2 → WritesWhole (IsUsage o lab) o
  pub refused : status ≡ 3 → WritesWhole (IsBroken o lab) o ⊎ WritesWhole (IsTooLong o lab) o
  pub write : status ≡ 4 → Rose o.write_faults o.write_faults_after × WritesPart (IsToBeWritten o lab) o
  pub limit : status ≡ 5 → WritesWhole (IsLimited o lab) o
  pub image : status ≡ 6 → WritesWhole (IsNoImage o lab) o ⊎ WritesWhole (IsMisshapen o lab) o
  pub memory : status ≡ 7 → WritesWhole (IsWant o lab) o
  pub no_other : status ≤ 7
