-- The swap of a consolidation: the link to a frozen leaf goes to the slot in which its records stand anew, and the guard of
-- the link gets its next stamp.
use Rattle.std.specs.Prelude.{◌≡◌, ℕ, false, List, None}
use Rattle.bz_slotted.specs.Readers.{found_of}
use Rattle.bz_slotted.specs.Rules.{node_fault}
use Rattle.bz_word.specs.Statuses.{status}
use Rattle.bz_task.specs.Instant.{Instant, words, form_at}
use Rattle.bz_task.specs.Outcomes.{IsGuarded}
use Rattle.bz_task.specs.Scene.{Scene, IsScene, here}
use Rattle.bz_task.specs.Swaps.{Change, Stand, SwapsTo, IsGoodSwap}
use Rattle.bz_task.specs.declared.path.Link.{Link}
use Rattle.bz_renew.specs.FrozenLeaves.{WasFrozenLeaf}
use Rattle.bz_renew.specs.LinkSwaps.{IsFresh}
use Rattle.bz_renew.specs.Renewals.{renewal}

-- a slot is all the worker's own, and durable; between the bounds that the leaf `old` had at this moment it breaks no rule, and
-- says of each key what that leaf said
pub record IsCopy (old new m : ℕ) (s : Scene) : Type 0 where
  pub fresh : IsFresh s new
  pub whole : node_fault s.past.config.nodes (words s.past.config (here s) new) (words s.past.config (here s) new) 0 ((form_at s.past.config (s.past.at m)).low old) ((form_at s.past.config (s.past.at m)).high old) ≡ None
  pub says : (key : List ℕ) → found_of (words s.past.config (here s) new) key ≡ found_of (words s.past.config (s.past.at m) old) key

-- the guard was read, and was no frozen node's; the leaf was frozen, and its copy is ready
pub record IsRenewable (link : Link) (new m : ℕ) (s : Scene) : Type 0 where
  pub guard : IsGuarded s.past link
  pub thawed : (status link.status).frozen ≡ false
  pub leaf : WasFrozenLeaf link.slot m s.past
  pub copy : IsCopy link.slot new m s

-- then the swap is lawful for everybody and changes no content
abbrev pub RenewalsAreGood : Type 0
RenewalsAreGood =
    (change : Change) (s : Scene) (y : Instant) (link : Link) (new m : ℕ) → IsScene s → IsRenewable link new m s → Stand (renewal link new) (here s) →
    SwapsTo s.past.config (renewal link new) (here s) y → IsGoodSwap false change (renewal link new) s y
