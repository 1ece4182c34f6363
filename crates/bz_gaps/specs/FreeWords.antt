-- Which words of a node are free, as its status and its header tell: they are 0 where it breaks no rule.
use Rattle.std.specs.Prelude.{◌≡◌, ℕ, ◌+◌, ◌<◌, ◌≤◌, ◌⊎◌}
use Rattle.bz_layout.specs.declared.sizes.TheConstants.{NODE_WORDS, LOW_FENCE_AT, HIGH_FENCE_AT, FENCE_WORDS, META_AT}
use Rattle.bz_slotted.specs.Page.{Page, page}

-- the place is behind the metadata words in use and before the block
pub record IsBetween (p : Page) (i : ℕ) : Type 0 where
  pub behind : META_AT + p.count ≤ i
  pub before : i + p.block < NODE_WORDS

-- it is one of a fence, which is absent
pub record IsOfNoFence (at len i : ℕ) : Type 0 where
  pub none : len ≡ 0
  pub from : at ≤ i
  pub to : i < at + FENCE_WORDS

-- word i of a node with these words is free
abbrev pub IsFree : (ℕ → ℕ) → ℕ → Type 0
IsFree n i = IsBetween (page n) i ⊎ (IsOfNoFence LOW_FENCE_AT (page n).low i ⊎ IsOfNoFence HIGH_FENCE_AT (page n).high i)
