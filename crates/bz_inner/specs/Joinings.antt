-- What a merge of two inner nodes under the root knows while it reads them, and of its end.
use Rattle.std.specs.Prelude.{◌≡◌, ℕ, ◌+◌, ◌<◌, ◌≤◌, ◌⊎◌, Bool, false, List, slice_index}
use Rattle.bz_layout.specs.declared.sizes.TheConstants.{STATUS_AT, ROOT_AT}
use Rattle.bz_layout.specs.declared.thresholds.TheConstants.{SPLIT_ABOVE}
use Rattle.bz_node.specs.Reading.{children_in}
use Rattle.bz_slotted.specs.Readers.{key_of}
use Rattle.bz_slotted.specs.ReadingLaws.{node_of}
use Rattle.bz_join.specs.Parents.{joined_parent}
use Rattle.bz_united.specs.Uniting.{united_words, words_of_both, MeetAt, IsOneOf}
use Rattle.bz_task.specs.Instant.{words}
use Rattle.bz_task.specs.Outcomes.{IsUnderRoot, IsGuarded, EndsAtLeaf}
use Rattle.bz_task.specs.Scene.{Past}
use Rattle.bz_task.specs.declared.path.Link.{Link}
use Rattle.bz_branch.specs.FromBelow.Parents.{WereRead}
use Rattle.bz_branch.specs.FromSplit.Facts.{StoodFresh}
use Rattle.bz_renew.specs.Due.{IsStatusOf}
use Rattle.bz_inner.specs.InnerMerges.{WasOpen, AreReadTogether}
use Rattle.bz_inner.specs.LowerFacts.{IsLinkIn}
use Rattle.bz_inner.specs.Neighbours.{first_of, second_of, first_words, second_words, IsNeighbour, IsOnlyChild, AreApart, StoodBeside}
use Rattle.bz_inner.specs.Small.{IsSmallStatus}

-- the root link, the link in the root, and the link in the node to which that leads; whether the path shows this one small; the words
-- that were read of the root, of the node and of its neighbour; this neighbour; and the slots and the words of the new root and of the
-- joined node
pub record Joining : Type 0 where
  pub upper : Link
  pub middle : Link
  pub lower : Link
  pub small : Bool
  pub above : List ℕ
  pub own : List ℕ
  pub beside : List ℕ
  pub right : Bool
  pub place : ℕ
  pub beside_slot : ℕ
  pub slot : ℕ → ℕ
  pub image : ℕ → List ℕ

-- the two in their order, and the key that parts them
abbrev pub left_slot : Joining → ℕ
left_slot r = first_of r.right r.middle.slot r.beside_slot

abbrev pub right_slot : Joining → ℕ
right_slot r = second_of r.right r.middle.slot r.beside_slot

abbrev pub left_words : Joining → List ℕ
left_words r = first_words r.right r.own r.beside

abbrev pub right_words : Joining → List ℕ
right_words r = second_words r.right r.own r.beside

abbrev pub sep_of : List ℕ → ℕ → List ℕ
sep_of above place = key_of (node_of above) (place + 1)

-- the three links were read, the statuses of the root and of the node at these moments; and that of the node is a small one's
pub record HasLinks (upper middle lower : Link) (p : Past) : Type 0 where
  pub under : IsUnderRoot upper
  pub guard : IsGuarded p upper
  pub parent : IsLinkIn upper.slot middle p
  pub own : IsLinkIn middle.slot lower p
  pub small : IsSmallStatus lower.status
  pub parent_at : ℕ
  pub is_parent_at : parent.guard.guarded ≡ parent_at
  pub own_at : ℕ
  pub is_own_at : own.guard.guarded ≡ own_at

-- the root's words before a place were read, and of the node's its status alone
pub record IsReadingAbove (r : Joining) (place : ℕ) (p : Past) : Type 0 where
  pub links : HasLinks r.upper r.middle r.lower p
  pub were : WereRead r.upper.slot links.parent_at r.middle.status place r.above p
  pub own : WereRead r.middle.slot links.own_at r.lower.status 1 r.own p

-- the root's words were those that were read, the neighbour is chosen, and the two stood beside each other after the node's status
-- was read
pub record IsPaired (r : Joining) (p : Past) : Type 0 where
  pub links : HasLinks r.upper r.middle r.lower p
  pub parent : WasOpen r.upper.slot links.parent_at r.above p
  pub pair : IsNeighbour r.above r.middle.slot r.right r.place r.beside_slot
  pub apart : AreApart (left_slot r) (right_slot r) r.upper.slot
  pub at : ℕ
  pub later : links.own_at ≤ at
  pub stood : StoodBeside (left_slot r) (right_slot r) at (sep_of r.above r.place) p

-- the node's words before a place were read
pub record IsReadingOwn (r : Joining) (place : ℕ) (p : Past) : Type 0 where
  pub paired : IsPaired r p
  pub were : WereRead r.middle.slot paired.links.own_at r.lower.status place r.own p

-- its words were those that were read
pub record HasOwn (r : Joining) (p : Past) : Type 0 where
  pub paired : IsPaired r p
  pub own : WasOpen r.middle.slot paired.links.own_at r.own p

-- the neighbour's status was read after that moment, and was no frozen node's; and its words before a place were read
pub record IsReadingBeside (r : Joining) (place : ℕ) (p : Past) : Type 0 where
  pub has : HasOwn r p
  pub at : ℕ
  pub later : has.paired.at ≤ at
  pub now : at ≤ p.now
  pub status : words p.config (p.at at) r.beside_slot STATUS_AT ≡ slice_index r.beside STATUS_AT
  pub thawed : IsStatusOf false (slice_index r.beside STATUS_AT)
  pub were : WereRead r.beside_slot at (slice_index r.beside STATUS_AT) place r.beside p

-- the three were read whole, the two meet at the key, and both and the key have room in one
pub record ArePlanned (r : Joining) (p : Past) : Type 0 where
  pub under : IsUnderRoot r.upper
  pub guard : IsGuarded p r.upper
  pub small : IsSmallStatus r.lower.status
  pub pair : IsNeighbour r.above r.middle.slot r.right r.place r.beside_slot
  pub apart : AreApart (left_slot r) (right_slot r) r.upper.slot
  pub left_at : ℕ
  pub right_at : ℕ
  pub above_at : ℕ
  pub read : AreReadTogether (left_slot r) (right_slot r) r.upper.slot left_at right_at above_at r.place (left_words r) (right_words r) r.above (sep_of r.above r.place) p
  pub meet : MeetAt p.config.nodes (left_words r) (right_words r) (sep_of r.above r.place) read.left.node.level read.left.node.low read.right.node.high

-- the first fresh node is the root with one in the place of the two, the other one is that one
pub record AreJoining (r : Joining) (p : Past) : Type 0 where
  pub planned : ArePlanned r p
  pub over : r.image 0 ≡ joined_parent (children_in r.above) r.place (r.slot 1) planned.read.parent.node.low planned.read.parent.node.high planned.read.parent.node.level
  pub one : IsOneOf p.config.nodes (left_words r) (right_words r) (sep_of r.above r.place) planned.read.left.node.level planned.read.left.node.low planned.read.right.node.high (r.image 1)

-- at a moment since the look-up began the root pointer led to a fresh copy of the old root, with one fresh node in the place of the node
-- on the path and its neighbour, which were read and have room in one; to neither of the fresh ones had a link led one moment before
pub record WasJoined (upper middle : Link) (p : Past) : Type 0 where
  pub right : Bool
  pub place : ℕ
  pub beside : ℕ
  pub above : List ℕ
  pub left : List ℕ
  pub other : List ℕ
  pub left_at : ℕ
  pub right_at : ℕ
  pub above_at : ℕ
  pub root_slot : ℕ
  pub joined_slot : ℕ
  pub before : ℕ
  pub since : p.since ≤ before
  pub now : before + 1 ≤ p.now
  pub pair : IsNeighbour above middle.slot right place beside
  pub read : AreReadTogether (first_of right middle.slot beside) (second_of right middle.slot beside) upper.slot left_at right_at above_at place left other above (sep_of above place) p
  pub room : words_of_both (children_in left) (children_in other) (sep_of above place) ≤ SPLIT_ABOVE
  pub led : (p.at (before + 1)).value ROOT_AT ≡ root_slot + 1
  pub root : StoodFresh root_slot (joined_parent (children_in above) place joined_slot read.parent.node.low read.parent.node.high read.parent.node.level) before p
  pub joined : StoodFresh joined_slot (united_words (children_in left) (children_in other) (sep_of above place) read.left.node.low read.right.node.high read.left.node.level) before p

-- why it is not made, as the path shows it: the root was a leaf, or the node under it was one, or that was not small
pub record WasNotSmall (upper middle lower : Link) (p : Past) : Type 0 where
  pub under : IsUnderRoot upper
  pub guard : IsGuarded p upper
  pub why : EndsAtLeaf p upper ⊎ ((IsLinkIn upper.slot middle p × EndsAtLeaf p middle) ⊎ (IsLinkIn upper.slot middle p × (IsLinkIn middle.slot lower p × ¬ IsSmallStatus lower.status)))

-- or as the words show it: the node was the root's only child
pub record WasAlone (upper middle : Link) (p : Past) : Type 0 where
  pub at : ℕ
  pub above : List ℕ
  pub parent : WasOpen upper.slot at above p
  pub only : IsOnlyChild above middle.slot

-- or the two and the key take more words than a node that is made so may have
pub record WereTooLarge (upper middle : Link) (p : Past) : Type 0 where
  pub right : Bool
  pub place : ℕ
  pub beside : ℕ
  pub above : List ℕ
  pub left : List ℕ
  pub other : List ℕ
  pub left_at : ℕ
  pub right_at : ℕ
  pub above_at : ℕ
  pub pair : IsNeighbour above middle.slot right place beside
  pub read : AreReadTogether (first_of right middle.slot beside) (second_of right middle.slot beside) upper.slot left_at right_at above_at place left other above (sep_of above place) p
  pub many : SPLIT_ABOVE < words_of_both (children_in left) (children_in other) (sep_of above place)

abbrev pub HadNoRoom : Link → Link → Link → Past → Type 0
HadNoRoom upper middle lower p = WasNotSmall upper middle lower p ⊎ (WasAlone upper middle p ⊎ WereTooLarge upper middle p)
