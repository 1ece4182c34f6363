-- The texts of rules and faults.
use Rattle.std.specs.Prelude.{ℕ, List, ◌++◌, codes}
use Rattle.std.specs.Fmt.{decimal}
use Rattle.bz_script.specs.declared.fault.ScriptRule.{ScriptRule}
use Rattle.bz_script.specs.declared.fault.ScriptRule.TheVariants.{NoMemoryLine, Unknown, Words, Number, Key, Payload, Worker, Order, NoEnd}
use Rattle.bz_script.specs.declared.fault.ScriptFault.{ScriptFault}
use Rattle.bz_script.specs.declared.fault.ScriptFault.TheVariants.{Rule, Memory}

-- the text of a rule
abbrev pub rule_text : ScriptRule → List ℕ
rule_text NoMemoryLine = codes "memory expected"
rule_text Unknown = codes "unknown word"
rule_text Words = codes "wrong number of words"
rule_text Number = codes "bad number"
rule_text Key = codes "bad key"
rule_text Payload = codes "bad payload"
rule_text Worker = codes "bad worker"
rule_text Order = codes "wrong order"
rule_text NoEnd = codes "line feed expected"

-- the text of a fault: its line and the rule, or want of memory
abbrev pub fault_text : ScriptFault → List ℕ
fault_text (Rule line rule) = codes "line " ++ decimal line ++ codes ": " ++ rule_text rule
fault_text Memory = codes "memory"
