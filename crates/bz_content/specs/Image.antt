-- The words of an image, and those of a node slot in it.
use Rattle.std.specs.Prelude.{ℕ, ◌+◌, ◌-◌, nat_lt, if◌then◌else◌}
use Rattle.bz_layout.specs.Addresses.{node_address}
use Rattle.bz_layout.specs.declared.config.Config.{Config}
use Rattle.bz_layout.specs.declared.sizes.TheConstants.{NODE_WORDS, ROOT_AT}

-- a word for each address: as it stands, and what it resolves to
pub record Image : Type 0 where
  pub raw : ℕ → ℕ
  pub words : ℕ → ℕ

-- the words of a slot, and 0 past its last
unfoldable pub node : Config → (ℕ → ℕ) → ℕ → ℕ → ℕ
node c words k i = if nat_lt i NODE_WORDS then words (node_address c k + i) else 0

-- the slot of the root: a pointer is the slot plus 1
abbrev pub root : (ℕ → ℕ) → ℕ
root words = words ROOT_AT - 1
