-- The worked asks and fences, by computation.
use Rattle.std.proofs.Common.{refl}
use Rattle.bz_swap_machine.specs.AskExamples.{AsksAreKept}

pub asks_are_kept : AsksAreKept
asks_are_kept = record { saves = refl; alone = refl; own = refl; evicted = refl; before = refl; again = refl; later = refl; earlier = refl; cut = refl; anew = refl }
