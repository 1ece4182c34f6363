-- What the words that the swap leaves are in an image: what is lawful and what is a value to the swap is so to a reader of the words alone.
use Rattle.std.specs.Prelude.{◌≡◌, ◌<◌, ℕ, true, false, List, slice_index}
use Rattle.bz_layout.specs.Addresses.{words_of as size_of}
use Rattle.bz_layout.specs.declared.config.Config.{Config}
use Rattle.bz_swap_cells.specs.Store.{IsOutside}
use Rattle.bz_swap.specs.Held.{IsHeld}
use Rattle.bz_swap.specs.Lawful.{IsLawful}
use Rattle.bz_swap.specs.PlainFields.{HavePlainFields}
use Rattle.bz_swap.specs.Resolve.{resolve as swap_value}
use Rattle.bz_swap.specs.SwapMemory.{SwapMemory}
use Rattle.bz_content.specs.Lawful.{is_fixed, is_in_descriptor, is_lawful}
use Rattle.bz_content.specs.Resolving.{resolve}

-- a word that is lawful to the swap resolves to its value there
abbrev pub ResolvesAsTheSwap : Type 0
ResolvesAsTheSwap = (swaps : ℕ) (image : List ℕ) (a : ℕ) → IsOutside swaps a → IsLawful swaps image a → resolve (slice_index image) a ≡ swap_value swaps image a

-- and is lawful, unless it is a fixed one of the superblock, which would have to be plain besides. Of a descriptor's words
-- nothing is said: a held memory's statuses are statuses, but its other words there would have to be plain
abbrev pub LawfulAsTheSwap : Type 0
LawfulAsTheSwap =
    (c : Config) (swaps : ℕ) (image : List ℕ) (a : ℕ) → c.swaps ≡ swaps → IsOutside swaps a → is_fixed a ≡ false → IsLawful swaps image a →
    is_lawful c (slice_index image) a ≡ true

-- the words of a held memory's descriptors are lawful, where those after the statuses are plain
abbrev pub DescriptorsAreLawful : Type 0
DescriptorsAreLawful =
    (c : Config) (m : SwapMemory) (a : ℕ) → m.swaps ≡ c.swaps → IsHeld m → HavePlainFields m → a < size_of c → is_in_descriptor c a ≡ true →
    is_lawful c (slice_index m.durable) a ≡ true
