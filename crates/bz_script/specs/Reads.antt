-- What a reader of a part of a line answers, where it takes memory.
use Rattle.std.specs.Prelude.{◌≡◌, Result, Ok, Err}
use Rattle.bz_script.specs.declared.fault.ScriptRule.{ScriptRule}
use Rattle.bz_script.specs.declared.fault.LineFault.{LineFault}
use Rattle.bz_script.specs.declared.fault.LineFault.TheVariants.{Rule, Memory}

-- it answers what the definition says; want of memory says nothing of the words
abbrev pub Reads : {Read : Type 0} → Result Read ScriptRule → Result Read LineFault → Type 0
Reads found (Ok read) = found ≡ Ok read
Reads found (Err (Rule rule)) = found ≡ Err rule
Reads found (Err Memory) = Unit {0}
