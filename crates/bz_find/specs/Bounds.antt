-- What holds of a search whatever the words are: each number is in range.
use Rattle.std.specs.Prelude.{◌≡◌, ℕ, ◌+◌, ◌<◌, ◌≤◌, true, length, Some}
use Rattle.bz_key.specs.Packing.{packed_len}
use Rattle.bz_key.specs.declared.limits.TheConstants.{KEY_BYTES, PAYLOAD_BYTES}
use Rattle.bz_layout.specs.declared.sizes.TheConstants.{NODE_WORDS, FENCE_WORDS, SHARED_WORDS}
use Rattle.bz_node.specs.Reading.{payload_len, extent_words}
use Rattle.bz_slotted.specs.Page.{visible, meta_of}
use Rattle.bz_search.specs.Probes.{IsProbe, still}
use Rattle.bz_search.specs.declared.probe.Probe.{Probe}
use Rattle.bz_find.specs.Words.{lies}
use Rattle.bz_find.specs.declared.search.Search.{Search}
use Rattle.bz_find.specs.declared.search.Spot.{Spot}
use Rattle.bz_find.specs.declared.search.Spot.TheVariants.{Tail, Sorted}
use Rattle.bz_find.specs.declared.search.Step.{Step}
use Rattle.bz_find.specs.declared.search.Step.TheVariants.{Meta, Word, Payload, Done}

-- a metadata word names a visible record that lies in the node, with the lengths of a leaf's
pub record IsLeafRecord (w : ℕ) : Type 0 where
  pub visible : visible (meta_of w) ≡ true
  pub some : 0 < (lies w).key
  pub short : (lies w).key ≤ KEY_BYTES
  pub payload : payload_len (lies w) ≤ PAYLOAD_BYTES
  pub ends : (lies w).offset + extent_words (lies w) ≤ NODE_WORDS

-- the counts are those of a node
pub record IsSized (t : Search) : Type 0 where
  pub count : t.count ≤ SHARED_WORDS
  pub sorted : t.sorted ≤ t.count
  pub words : length t.words ≡ FENCE_WORDS

-- a record after the sorted ones, of which no one was looked at so far, and one of the sorted ones
pub record IsTail (t : Search) (j : ℕ) : Type 0 where
  pub from : t.sorted ≤ j
  pub counted : j < t.count
  pub none : t.dead ≡ 0

pub record IsSorted (t : Search) (r : Probe) : Type 0 where
  pub probe : IsProbe r
  pub high : r.high ≤ t.sorted
  pub met : t.dead + still (Some r) ≤ t.sorted

abbrev pub IsSpot : Search → Spot → Type 0
IsSpot t (Tail j) = IsTail t j
IsSpot t (Sorted r) = IsSorted t r

abbrev pub IsStepOf : Search → Step → Type 0
IsStepOf t (Meta at) = IsSpot t at
IsStepOf t (Word at w i) = IsSpot t at × IsLeafRecord w × (i < packed_len (lies w).key)
IsStepOf t (Payload j w i) = IsLeafRecord w × (i < packed_len (payload_len (lies w)))
IsStepOf t Done = Unit {0}

pub record IsStep (t : Search) : Type 0 where
  pub sized : IsSized t
  pub of : IsStepOf t t.step
