-- The names of faults.
use Rattle.std.specs.Prelude.{ℕ, List, codes}
use Rattle.bz_image.specs.declared.fault.ImageFault.{ImageFault}
use Rattle.bz_image.specs.declared.fault.ImageFault.TheVariants.{Short, Magic, Version, Sizes, Long, Memory}

abbrev pub fault_text : ImageFault → List ℕ
fault_text Short = codes "short"
fault_text Magic = codes "magic"
fault_text Version = codes "version"
fault_text Sizes = codes "sizes"
fault_text Long = codes "long"
fault_text Memory = codes "want of memory"
