-- What this crate proves, as lemmas that other crates cite by these names.
use Rattle.bz_swap_image.proofs.HeldDescriptors.{descriptors-lawful}
use Rattle.bz_swap_image.proofs.Images.{lawful-as, resolves-as}
use Rattle.bz_swap_image.specs.Images.{DescriptorsAreLawful, LawfulAsTheSwap, ResolvesAsTheSwap}

-- a word that is lawful to the swap resolves to its value there
pub words_resolve_to_values : ResolvesAsTheSwap
words_resolve_to_values = resolves-as

-- such a word is lawful in an image
pub words_are_lawful : LawfulAsTheSwap
words_are_lawful = lawful-as

-- the words of a held memory's descriptors are lawful too, where those after the statuses are plain
pub descriptors_are_lawful : DescriptorsAreLawful
descriptors_are_lawful = descriptors-lawful
