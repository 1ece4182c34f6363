-- What this crate proves, as lemmas that other crates cite by these names.
use Rattle.bz_script.proofs.FirstFaults.{script_first}
use Rattle.bz_script.specs.FirstFault.{FaultsAreFirst}

-- a script breaks no rule in any line. Of other bytes the fault is the rule that its line breaks, and no earlier line breaks one
pub faults_are_first : FaultsAreFirst
faults_are_first = script_first
