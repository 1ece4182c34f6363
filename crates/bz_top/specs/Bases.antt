-- What a script runs over: fresh memory, or an image that was loaded.
use Rattle.std.specs.Prelude.{◌≡◌, ℕ, List, [], Option, Some, None}
use Rattle.bz_image.specs.Form.{file_of_image}
use Rattle.bz_image.specs.declared.image.Image.{Image}
use Rattle.bz_judge.specs.Held.{IsImageOf}
use Rattle.bz_layout.specs.Fresh.{fresh_words}
use Rattle.bz_layout.specs.declared.config.Config.{Config}
use Rattle.bz_mark.specs.declared.power.Power.{Power as State}
use Rattle.bz_mark.specs.declared.power.Power.TheVariants as power
use Rattle.bz_cli.specs.declared.command.Command.{Command}
use Rattle.bz_cli.specs.declared.command.Command.TheVariants.{Run, Dump, Load, Trace, Queue, Work}
use Rattle.bz_top.specs.Commands.{config_of}

-- the image that a script runs over; where there is none, its memory is fresh
abbrev pub Base : Type 0
Base = Option Image

-- the power at first: an image is what a power cut has left
abbrev pub power_over : Base → State
power_over None = power.On
power_over (Some image) = power.Off

-- the words at first
abbrev pub words_over : Config → Base → List ℕ
words_over config None = fresh_words config
words_over config (Some image) = image.words

-- the bytes that the source gives before the script
abbrev pub front_over : Base → List ℕ
front_over None = []
front_over (Some image) = file_of_image image

-- the numbers of node slots and of descriptors that the script has to say
abbrev pub numbers_over : Base → Option (ℕ × ℕ)
numbers_over None = None
numbers_over (Some image) = Some (image.nodes, image.swaps)

-- a world with these numbers may run over it: an image has the words of such a memory, and breaks no rule of shape
abbrev pub IsBaseOf : Config → Base → Type 0
IsBaseOf config None = Unit {0}
IsBaseOf config (Some image) = IsImageOf config image.words

-- a script may, with this limit on marks
abbrev pub IsBase : ℕ → Base → Type 0
IsBase marks None = Unit {0}
IsBase marks (Some image) = IsImageOf (config_of marks image.nodes image.swaps) image.words

-- a command that has a world reads the source; `queue` has none
abbrev pub Reads : Command → Type 0
Reads Run = Unit {0}
Reads Dump = Unit {0}
Reads Load = Unit {0}
Reads Trace = Unit {0}
Reads Queue = ⊥
Reads (Work seed calls workers) = ⊥

-- it reads a script, and before it what this base has there
abbrev pub ReadsOver : Command → Base → Type 0
ReadsOver Run base = base ≡ None
ReadsOver Dump base = base ≡ None
ReadsOver Load base = (image : Image) × (base ≡ Some image)
ReadsOver Trace base = base ≡ None
ReadsOver Queue base = ⊥
ReadsOver (Work seed calls workers) base = ⊥
