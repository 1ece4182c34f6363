-- Two neighbouring inner nodes that are made one, told of their children and of words: the one has the children of both, and the key
-- that parts the two becomes the lower bound of the right one's first child.
use Rattle.std.specs.Prelude.{◌≡◌, ℕ, ◌+◌, ◌^◌, ◌<◌, ◌≤◌, ◌++◌, ◌∷◌, List, drop, length, All, Option, Some, None}
use Rattle.bz_key.specs.Bytes.{IsKey}
use Rattle.bz_key.specs.Packing.{packed}
use Rattle.bz_layout.specs.declared.limits.TheConstants.{MAX_NODES}
use Rattle.bz_layout.specs.declared.sizes.TheConstants.{NODE_WORDS}
use Rattle.bz_layout.specs.declared.thresholds.TheConstants.{SPLIT_ABOVE}
use Rattle.bz_node.specs.Reading.{children_in}
use Rattle.bz_node.specs.Records.{inner_words, IsAbove, IsBelow}
use Rattle.bz_node.specs.declared.child.Child.{Child}
use Rattle.bz_tree.specs.Slots.{Halves}
use Rattle.bz_slotted.specs.Readers.{count_of}
use Rattle.bz_slotted.specs.ReadingLaws.{node_of}
use Rattle.bz_slotted.specs.Rules.{node_fault}
use Rattle.bz_halves.specs.Parents.{child_at, children_told}
use Rattle.bz_parted.specs.Parting.{child_words}

-- the children of the right one, the first of them with the key as its lower bound
abbrev pub bounded : List Child → List ℕ → List Child
bounded right sep = record { low = Some sep; slot = (child_at right 0).slot } ∷ drop 1 right

-- the children of both
abbrev pub united : List Child → List Child → List ℕ → List Child
united left right sep = left ++ bounded right sep

-- the words of the node that has these
abbrev pub united_words : List Child → List Child → List ℕ → Option (List ℕ) → Option (List ℕ) → ℕ → List ℕ
united_words left right sep low high level = inner_words (united left right sep) low high level

-- the words that both take with the key
abbrev pub words_of_both : List Child → List Child → List ℕ → ℕ
words_of_both left right sep = child_words left + child_words right + length (packed sep)

-- at this level the words of the two are inner nodes that break no rule, which meet at a key between the outer bounds; and both and
-- the key take no more words than a node that is made so may have
pub record MeetAt (nodes : ℕ) (left right sep : List ℕ) (level : ℕ) (low high : Option (List ℕ)) : Type 0 where
  pub left_raw : ℕ → ℕ
  pub right_raw : ℕ → ℕ
  pub few : nodes ≤ MAX_NODES
  pub inner : 0 < level
  pub left_size : length left ≡ NODE_WORDS
  pub right_size : length right ≡ NODE_WORDS
  pub left_none : node_fault nodes left_raw (node_of left) level low (Some sep) ≡ None
  pub right_none : node_fault nodes right_raw (node_of right) level (Some sep) high ≡ None
  pub key : IsKey sep
  pub above : IsAbove low sep
  pub below : IsBelow high sep
  pub room : words_of_both (children_in left) (children_in right) sep ≤ SPLIT_ABOVE

-- at some level they do
pub record MayUnite (left right sep : List ℕ) : Type 0 where
  pub nodes : ℕ
  pub level : ℕ
  pub low : Option (List ℕ)
  pub high : Option (List ℕ)
  pub meet : MeetAt nodes left right sep level low high

-- the words are those of the one: it breaks no rule between the outer bounds, and has the children of both in their order, with the
-- key between
pub record IsOneOf (nodes : ℕ) (left right sep : List ℕ) (level : ℕ) (low high : Option (List ℕ)) (one : List ℕ) : Type 0 where
  pub is : one ≡ united_words (children_in left) (children_in right) sep low high level
  pub whole : node_fault nodes (node_of one) (node_of one) level low high ≡ None
  pub halves : Halves (children_told (node_of one)) (children_told (node_of left)) (children_told (node_of right)) (count_of (node_of left)) sep
  pub plain : All (λ v. v < 2 ^ 61) one

-- that is so at whatever level and between whatever bounds the two are nodes that meet at the key
abbrev pub IsUnitedOf : (left right sep one : List ℕ) → Type 0
IsUnitedOf left right sep one = (nodes level : ℕ) (low high : Option (List ℕ)) → MeetAt nodes left right sep level low high → IsOneOf nodes left right sep level low high one
