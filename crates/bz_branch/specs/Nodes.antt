-- An inner node that is read word by word, after its status: while that is as it was, the words are those of one moment. And its
-- parent, read so too, in which it may be parted.
use Rattle.std.specs.Prelude.{◌≡◌, ℕ, ◌<◌, ◌≤◌, true, false, List, Option, None, length}
use Rattle.bz_key.specs.Bytes.{IsKey}
use Rattle.bz_layout.specs.declared.limits.TheConstants.{MAX_NODES}
use Rattle.bz_layout.specs.declared.sizes.TheConstants.{NODE_WORDS}
use Rattle.bz_layout.specs.declared.thresholds.TheConstants.{MAX_LEVELS}
use Rattle.bz_node.specs.Records.{IsAbove, IsBelow}
use Rattle.bz_slotted.specs.ReadingLaws.{node_of}
use Rattle.bz_slotted.specs.Rules.{node_fault}
use Rattle.bz_word.specs.Statuses.{status}
use Rattle.bz_parted.specs.Laws.{IsReadNode}
use Rattle.bz_task.specs.Instant.{words, form_at, is_inside}
use Rattle.bz_task.specs.Outcomes.{IsGuarded, IsUnderNode}
use Rattle.bz_task.specs.Scene.{Past, Scene, IsScene, here}
use Rattle.bz_task.specs.declared.path.Link.{Link}
use Rattle.bz_below.specs.FromSplit.BelowSplits.{AreLinksDown}
use Rattle.bz_below.specs.Parents.{WereRead, WasParent}

-- these are the words of an inner node that breaks no rule at this level between these bounds; they are read as its children
pub record IsInnerNode (nodes : ℕ) (read : List ℕ) (level : ℕ) (low high : Option (List ℕ)) : Type 0 where
  pub raw : ℕ → ℕ
  pub few : nodes ≤ MAX_NODES
  pub size : length read ≡ NODE_WORDS
  pub inner : 0 < level
  pub lowest : level < MAX_LEVELS
  pub none : node_fault nodes raw (node_of read) level low high ≡ None
  pub node : IsReadNode nodes read low high

-- at moment m the node in slot k was in the tree, had these words, and stood at a level between bounds
pub record WasInner (k m : ℕ) (read : List ℕ) (p : Past) : Type 0 where
  pub level : ℕ
  pub low : Option (List ℕ)
  pub high : Option (List ℕ)
  pub node : IsInnerNode p.config.nodes read level low high
  pub reached : (p.at m).reached k ≡ true
  pub inside : is_inside p.config (p.at m) k ≡ true
  pub were : words p.config (p.at m) k ≡ node_of read
  pub level_is : (form_at p.config (p.at m)).level k ≡ level
  pub low_is : (form_at p.config (p.at m)).low k ≡ low
  pub high_is : (form_at p.config (p.at m)).high k ≡ high

-- the guard of a link, the status of the node in slot k, was read, and was no frozen node's
pub record IsOpenLink (k : ℕ) (link : Link) (p : Past) : Type 0 where
  pub guard : IsGuarded p link
  pub thawed : (status link.status).frozen ≡ false
  pub under : IsUnderNode p link guard.guarded
  pub parent : under.parent ≡ k

-- where all words of the node were read after the status, and the status is found again, they are those of the moment of the status
abbrev pub ReadNodesWere : Type 0
ReadNodesWere =
    (s : Scene) (k : ℕ) (link : Link) (read : List ℕ) → IsScene s → (open_link : IsOpenLink k link s.past) → (here s).value link.guard ≡ link.status →
    WereRead k open_link.guard.guarded link.status NODE_WORDS read s.past → WasInner k open_link.guard.guarded read s.past

-- so are those of the parent of a node that was in the tree at moment m; and a key between the bounds that it had then, which is not
-- the lower one, parts the parent at its place
abbrev pub ParentsOfNodesWere : Type 0
ParentsOfNodesWere =
    (s : Scene) (upper lower : Link) (m : ℕ) (sep read : List ℕ) → IsScene s → (links : AreLinksDown upper lower s.past) → s.past.since ≤ m → m ≤ s.past.now →
    is_inside s.past.config (s.past.at m) lower.slot ≡ true → (here s).value lower.guard ≡ lower.status → WereRead upper.slot links.guard.guarded lower.status NODE_WORDS read s.past →
    IsKey sep → IsAbove ((form_at s.past.config (s.past.at m)).low lower.slot) sep → IsBelow ((form_at s.past.config (s.past.at m)).high lower.slot) sep →
    WasParent upper lower links.guard.guarded links.under.child.child sep read s.past
