-- Which words are lawful hangs on the descriptors alone.
use Rattle.std.proofs.Common.{refl}
use Rattle.bz_content.specs.Lawful.{is_lawful as is_lawful_in}
use Rattle.bz_sweep.specs.Lawful.{LawfulWordsAreThese}

pub same : LawfulWordsAreThese
unfolding is_lawful_in
same c raw a = refl
