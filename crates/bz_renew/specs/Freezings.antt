-- The swap of a renewal that freezes nodes besides: those whose places the new ones take, with the link.
use Rattle.std.specs.Prelude.{◌≡◌, ℕ, ◌+◌, ◌^◌, ◌<◌, true, false, List, [], ◌∷◌}
use Rattle.bz_layout.specs.Addresses.{node_address}
use Rattle.bz_layout.specs.declared.config.Config.{Config}
use Rattle.bz_layout.specs.declared.sizes.TheConstants.{STATUS_AT}
use Rattle.bz_tree.specs.Walk.{is_among}
use Rattle.bz_task.specs.FromSwap.EntryLists.{inserted}
use Rattle.bz_word.specs.Statuses.{status}
use Rattle.bz_word.specs.declared.entry.Entry.{Entry}
use Rattle.bz_task.specs.Scene.{Scene, here}
use Rattle.bz_task.specs.Steps.{frozen_word}
use Rattle.bz_task.specs.declared.path.Link.{Link}
use Rattle.bz_renew.specs.Renewals.{renewal}

-- a node that the swap freezes, and its status as it was read
pub record Freezing : Type 0 where
  pub slot : ℕ
  pub status : ℕ

abbrev pub slots_of : List Freezing → List ℕ
slots_of [] = []
slots_of (f ∷ rest) = f.slot ∷ slots_of rest

abbrev pub freezing_entry : Config → Freezing → Entry
freezing_entry c f = record { target = node_address c f.slot + STATUS_AT; expected = f.status; new = frozen_word f.status }

-- the entries of a renewal, with one for each node that is frozen besides, in the order of their targets
abbrev pub renewal_with : Config → Link → ℕ → List Freezing → List Entry
renewal_with c link to [] = renewal link to
renewal_with c link to (f ∷ rest) = inserted (freezing_entry c f) (renewal_with c link to rest)

-- a link has led to the node, and its status, as it was read, was no frozen node's
pub record IsFreezable (f : Freezing) (s : Scene) : Type 0 where
  pub reached : (here s).reached f.slot ≡ true
  pub plain : f.status < 2 ^ 61
  pub thawed : (status f.status).frozen ≡ false

-- each is such a node, and they are different ones
abbrev pub AreFreezable : List Freezing → Scene → Type 0
AreFreezable [] s = Unit {0}
AreFreezable (f ∷ rest) s = IsFreezable f s × ((is_among (slots_of rest) f.slot ≡ false) × AreFreezable rest s)
