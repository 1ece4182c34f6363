-- What must have run out where a call answers Full. The newest mark stands first.
use Rattle.std.specs.Prelude.{◌≤◌, ◌<◌, ◌+◌, ◌*◌, ◌==◌, ◌&&◌, ◌||◌, ◌≡◌, ◌⊎◌, not, nat_lt, nat_le, ℕ, Bool, true, false, List, [], ◌∷◌, length, map, slice_index, is_some, count_by}
use Rattle.std.specs.List.{range_with_len}
use Rattle.bz_layout.specs.Addresses.{node_address, slot_of}
use Rattle.bz_layout.specs.declared.config.Config.{Config}
use Rattle.bz_layout.specs.declared.sizes.TheConstants.{NODE_WORDS}
use Rattle.bz_layout.specs.declared.thresholds.TheConstants.{CONSOLIDATION_SLOTS, INNER_LIMIT, MAX_LEVELS, MERGE_SLOTS, SPLIT_ABOVE, SPLIT_SLOTS}
use Rattle.bz_node.specs.Layout.{needed}
use Rattle.bz_node.specs.Reading.{children_in}
use Rattle.bz_node.specs.Records.{child_entry}
use Rattle.bz_tree.specs.Order.{is_within}
use Rattle.bz_tree.specs.Walk.{form}
use Rattle.bz_content.specs.Content.{image_of, view_in}
use Rattle.bz_content.specs.Image.{node}
use Rattle.bz_content.specs.Resolving.{resolve}
use Rattle.bz_leaves.specs.Neighbours.{leaf_page, own_live, MayBeMerged}
use Rattle.bz_call.specs.Map.{key_of}
use Rattle.bz_call.specs.declared.replies.Spent.{Spent}
use Rattle.bz_call.specs.declared.replies.Spent.TheVariants.{Nodes, Swaps, Height}
use Rattle.bz_mark.specs.Counts.{count_taken}
use Rattle.bz_mark.specs.declared.marks.Mark.{Mark}
use Rattle.bz_mark.specs.declared.marks.Mark.TheVariants.{Store}
use Rattle.bz_sound.specs.Calls.{Open, open_call}
use Rattle.bz_sound.specs.Memory.Moments.{image_at}

-- so many slots it takes to make the key's leaf anew, as it is in an image: those of a split where it has more live words than a copy
-- is made of; those of a merge where a neighbour has room for it; and that of a copy where it has no more live words than that
abbrev pub TakesSlots : Config → (ℕ → ℕ) → List ℕ → ℕ → Type 0
TakesSlots c image key slots =
    ((SPLIT_ABOVE < own_live c image key) × (slots ≡ SPLIT_SLOTS))
    ⊎ ((MayBeMerged c image key × (slots ≡ MERGE_SLOTS)) ⊎ ((own_live c image key ≤ SPLIT_ABOVE) × (slots ≡ CONSOLIDATION_SLOTS)))

-- at a moment of the call the leaf of its key was frozen, and to make it anew took so many slots
pub record NeedsSlots (c : Config) (start : List ℕ) (past : List Mark) (opened : Open) (slots : ℕ) : Type 0 where
  pub moment : ℕ
  pub after_begin : opened.begun < moment
  pub before_end : moment ≤ length past
  pub frozen : (leaf_page c (image_of (image_at start moment past)) (key_of opened.call)).frozen ≡ true
  pub needed : TakesSlots c (image_at start moment past) (key_of opened.call) slots

-- a slot of a node is reached in an image
abbrev pub is_reached_in : Config → (ℕ → ℕ) → ℕ → Bool
is_reached_in c image slot = nat_lt slot c.nodes && (form (view_in c image)).inside slot

-- at a moment of the call a reached inner node of this level, in whose range its key is, had these words; and its entries took more
-- than an inner node may keep
pub record IsFullAt (c : Config) (start : List ℕ) (past : List Mark) (opened : Open) (level : ℕ) : Type 0 where
  pub moment : ℕ
  pub after_begin : opened.begun < moment
  pub before_end : moment ≤ length past
  pub slot : ℕ
  pub inside : is_reached_in c (image_at start moment past) slot ≡ true
  pub at_level : (form (view_in c (image_at start moment past))).level slot ≡ level
  pub range : is_within (key_of opened.call) ((form (view_in c (image_at start moment past))).low slot) ((form (view_in c (image_at start moment past))).high slot) ≡ true
  pub words : List ℕ
  pub size : length words ≡ NODE_WORDS
  pub has : (i : ℕ) → node c (resolve (image_at start moment past)) slot i ≡ slice_index words i
  pub many : INNER_LIMIT < needed (map child_entry (children_in words))

-- at a moment of the call the leaf of its key was frozen and would have to be split; and on the way to it an inner node of each level
-- that a tree may have was full
pub record IsTooHigh (c : Config) (start : List ℕ) (past : List Mark) (opened : Open) : Type 0 where
  pub crowded : NeedsSlots c start past opened SPLIT_SLOTS
  pub full : (level : ℕ) → 0 < level → level < MAX_LEVELS → IsFullAt c start past opened level

-- in that with which the journal starts
abbrev pub is_reached_at_start : Config → List ℕ → ℕ → Bool
is_reached_at_start c start slot = is_reached_in c (slice_index start) slot

-- a worker, not that of recovery, has stored into a slot
abbrev pub is_stored_into : Config → ℕ → List Mark → Bool
is_stored_into c slot [] = false
is_stored_into c slot (Store w a v ∷ past) = (not (w == 0) && (nat_le (node_address c 0) a && slot_of c a == slot)) || is_stored_into c slot past
is_stored_into c slot (mark ∷ past) = is_stored_into c slot past

-- how many slots are used: reached at the start, or stored into since
abbrev pub is_used : Config → List ℕ → List Mark → ℕ → Bool
is_used c start past slot = is_reached_at_start c start slot || is_stored_into c slot past

abbrev pub count_used : Config → List ℕ → List Mark → ℕ
count_used c start past = count_by (λ slot. is_used c start past slot) (range_with_len 0 c.nodes)

-- how many workers have an open call beside this one
abbrev pub count_others : Config → ℕ → List Mark → ℕ
count_others c w past = count_by (λ v. not (v == w) && is_some (open_call v past)) (range_with_len 1 c.workers)

-- the slots that are used, so many more, and those that the other workers may have taken for splits are more than there are
abbrev pub LacksSlots : Config → ℕ → ℕ → ℕ → List Mark → Type 0
LacksSlots c used slots w past = c.nodes < used + slots + SPLIT_SLOTS * count_others c w past

-- the leaf had to be made anew, and the slots for that are not left
pub record NodesAreSpent (c : Config) (start : List ℕ) (past : List Mark) (used w : ℕ) (opened : Open) : Type 0 where
  pub slots : ℕ
  pub needs : NeedsSlots c start past opened slots
  pub lacks : LacksSlots c used slots w past

-- The cause of a Full that ends the open call of a worker now. Other workers may have taken a descriptor into which
-- they have not stored yet.
abbrev pub IsSpent : Config → List ℕ → List Mark → ℕ → Open → Spent → Type 0
IsSpent c start past w opened Nodes = NodesAreSpent c start past (count_used c start past) w opened
IsSpent c start past w opened Swaps = c.swaps ≤ count_taken c past + count_others c w past
IsSpent c start past w opened Height = IsTooHigh c start past opened
