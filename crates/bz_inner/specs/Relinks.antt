-- The swap that turns the root pointer without its guard, and freezes nodes besides: those whose places the new ones take.
use Rattle.std.specs.Prelude.{◌≡◌, ℕ, ◌+◌, ◌<◌, true, false, List, [], ◌∷◌}
use Rattle.bz_layout.specs.Addresses.{node_address}
use Rattle.bz_layout.specs.declared.config.Config.{Config}
use Rattle.bz_layout.specs.declared.sizes.TheConstants.{NODE_WORDS, ROOT_AT}
use Rattle.bz_tree.specs.Walk.{is_among}
use Rattle.bz_word.specs.declared.entry.Entry.{Entry}
use Rattle.bz_content.specs.Content.{image_of}
use Rattle.bz_content.specs.Swaps.{TurnsLink}
use Rattle.bz_task.specs.FromSwap.EntryLists.{inserted}
use Rattle.bz_task.specs.FromSwap.SwapMemory.{is_target}
use Rattle.bz_task.specs.Instant.{Instant, page_at, form_at, is_inside}
use Rattle.bz_task.specs.Requests.{IsTarget}
use Rattle.bz_task.specs.Scene.{Scene, IsScene, here}
use Rattle.bz_task.specs.Steps.{ReplacedRootIsFrozen}
use Rattle.bz_task.specs.Swaps.{Stand, SwapsTo}
use Rattle.bz_renew.specs.Freezings.{Freezing, slots_of, freezing_entry}
use Rattle.bz_renew.specs.LinkSwaps.{IsChanged}
use Rattle.bz_renew.specs.Turning.{AreGoing}

-- the entry of the root pointer, which goes from one slot to another
abbrev pub root_entry : ℕ → ℕ → Entry
root_entry old to = record { target = ROOT_AT; expected = old + 1; new = to + 1 }

-- with one entry for each node that is frozen, in the order of their targets
abbrev pub relink_with : Config → ℕ → ℕ → List Freezing → List Entry
relink_with c old to [] = root_entry old to ∷ []
relink_with c old to (f ∷ rest) = inserted (freezing_entry c f) (relink_with c old to rest)

-- the slot is the root, and another becomes it; but for the slots that go, only those that are frozen change, and they do as nodes may
pub record TurnsRootWith (old to : ℕ) (freezings : List Freezing) (gone : List ℕ) (s : Scene) (y : Instant) : Type 0 where
  pub pointer : (here s).value ROOT_AT ≡ old + 1
  pub inside : is_inside s.past.config (here s) old ≡ true
  pub up : (form_at s.past.config (here s)).up old ≡ s.past.config.nodes
  pub index : (form_at s.past.config (here s)).index old ≡ 0
  pub turns : TurnsLink s.past.config (image_of (here s).image) (image_of y.image) s.past.config.nodes 0 to gone
  pub targets : (a : ℕ) → is_target (relink_with s.past.config old to freezings) a ≡ true → IsTarget s a
  pub others : (k i : ℕ) → is_among (slots_of freezings) k ≡ false → i < NODE_WORDS → is_target (relink_with s.past.config old to freezings) (node_address s.past.config k + i) ≡ false
  pub changes : (k : ℕ) → is_among (slots_of freezings) k ≡ true → IsChanged s y k
  pub root : ((page_at s.past.config y old).frozen ≡ true) → ReplacedRootIsFrozen s.past.config (here s) y
  pub freezes : (k : ℕ) → is_among (slots_of freezings) k ≡ true → (page_at s.past.config y k).frozen ≡ true

abbrev pub RootsTurnWith : Type 0
RootsTurnWith =
    (s : Scene) (y : Instant) (old to : ℕ) (freezings : List Freezing) (gone : List ℕ) → IsScene s → to < s.past.config.nodes → AreGoing freezings gone s →
    Stand (relink_with s.past.config old to freezings) (here s) → SwapsTo s.past.config (relink_with s.past.config old to freezings) (here s) y →
    TurnsRootWith old to freezings gone s y
