-- The worked rivals, by computing.
use Rattle.std.proofs.Common.{refl}
use Rattle.bz_swap_cells.specs.Store.{status_of}
use Rattle.bz_rivals.specs.Examples.{RivalsAreTold}

pub rivals-are-told : RivalsAreTold
unfolding status_of
rivals-are-told = record {
  reader = refl;
  done = refl;
  first = refl;
  third = refl;
  reader_after = refl;
  first_after = refl;
  third_after = refl;
  reader_failed = refl;
  for_reader = refl;
  for_first = refl;
  own = refl;
  none = refl;
}
