-- A memory as a sweep knows it: descriptors behind the superblock, and words behind the descriptors. Whatever these words hold,
-- swaps may name them, and two words of the superblock.
use Rattle.std.specs.Prelude.{◌≡◌, ℕ, ◌+◌, ◌*◌, ◌%◌, ◌^◌, ◌<◌, ◌≤◌, ◌⊎◌}
use Rattle.bz_layout.specs.Addresses.{swap_address}
use Rattle.bz_layout.specs.declared.config.Config.{Config}
use Rattle.bz_layout.specs.declared.sizes.TheConstants.{LINE_WORDS, NODE_WORDS, SUPERBLOCK_WORDS}
use Rattle.bz_sweep.specs.declared.area.Area.{Area}

-- the address of a word behind the descriptors, by its number
abbrev pub past_swaps : Area → ℕ → ℕ
past_swaps r i = swap_address r.swaps + i

-- the words of the memory
abbrev pub size_of : Area → ℕ
size_of r = past_swaps r r.words

-- there are 1 to 65,536 descriptors, lines are whole, and addresses fit 32 bits
pub record IsArea (r : Area) : Type 0 where
  pub some : 0 < r.swaps
  pub few : r.swaps ≤ 2 ^ 16
  pub lines : r.words % LINE_WORDS ≡ 0
  pub size : size_of r < 2 ^ 32

-- the address is no word of a descriptor: it is one of the superblock, or stands behind the descriptors
abbrev pub IsBeside : Area → ℕ → Type 0
IsBeside r a = (a < SUPERBLOCK_WORDS) ⊎ (past_swaps r 0 ≤ a)

-- the area of a configuration: its node slots stand behind the descriptors
abbrev pub area_of : Config → Area
area_of c = record { swaps = c.swaps; words = NODE_WORDS * c.nodes }
