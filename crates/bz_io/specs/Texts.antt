-- The texts of faults.
use Rattle.std.specs.Prelude.{ℕ, List, codes}
use Rattle.bz_io.specs.declared.error.ReadFault.{ReadFault}
use Rattle.bz_io.specs.declared.error.ReadFault.TheVariants.{Failed, TooLong, Memory}

abbrev pub read_fault_text : ReadFault → List ℕ
read_fault_text Failed = codes "read failed"
read_fault_text TooLong = codes "input too long"
read_fault_text Memory = codes "want of memory"
