-- The words that nodes made whole have taken, and those of an inner node that is read.
use Rattle.std.specs.Prelude.{◌≡◌, ℕ, ◌<◌, ◌≤◌, List, map, length, All, Option, None}
use Rattle.bz_layout.specs.declared.limits.TheConstants.{MAX_NODES}
use Rattle.bz_layout.specs.declared.sizes.TheConstants.{NODE_WORDS, SHARED_WORDS}
use Rattle.bz_layout.specs.declared.thresholds.TheConstants.{MAX_LEVELS, SPLIT_ABOVE}
use Rattle.bz_node.specs.Layout.{needed}
use Rattle.bz_node.specs.Reading.{children_in}
use Rattle.bz_node.specs.Records.{pair_entry, child_entry, leaf_words, inner_words, IsPair, IsBound, IsChild, IsLeafList}
use Rattle.bz_node.specs.declared.child.Child.{Child}
use Rattle.bz_slotted.specs.Page.{page}
use Rattle.bz_slotted.specs.ReadingLaws.{node_of}
use Rattle.bz_slotted.specs.Rules.{node_fault}
use Rattle.bz_stage.specs.Rooms.{words_taken}
use Rattle.bz_stage.specs.Swaps.{IsRoomy}

-- a leaf made of records that take no more words than a leaf may keep
abbrev pub MadeLeavesAreRoomy : Type 0
MadeLeavesAreRoomy =
    (records : List (List ℕ × List ℕ)) (low high : Option (List ℕ)) → All IsPair records → IsBound low → IsBound high → IsLeafList records low high → needed (map pair_entry records) ≤ SPLIT_ABOVE →
    IsRoomy (page (node_of (leaf_words records low high)))

-- an inner node made of children has taken the words of their entries
abbrev pub MadeInnersTakeTheirEntries : Type 0
MadeInnersTakeTheirEntries =
    (children : List Child) (low high : Option (List ℕ)) (level : ℕ) → All IsChild children → IsBound low → IsBound high → level < MAX_LEVELS → needed (map child_entry children) ≤ SHARED_WORDS →
    words_taken (page (node_of (inner_words children low high level))) ≡ needed (map child_entry children)

-- so has one that breaks no rule, of the children that are read of it: a full node is one whose entries are too many, as it is told where a
-- call ends for want of height
abbrev pub EntriesTakeTheWords : Type 0
EntriesTakeTheWords =
    (nodes : ℕ) (raw : ℕ → ℕ) (words : List ℕ) (level : ℕ) (low high : Option (List ℕ)) → nodes ≤ MAX_NODES → 0 < level → length words ≡ NODE_WORDS → node_fault nodes raw (node_of words) level low high ≡ None →
    words_taken (page (node_of words)) ≡ needed (map child_entry (children_in words))
