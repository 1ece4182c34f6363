-- The swap of a renewal: a link goes to another slot, and its guard gets the next stamp.
use Rattle.std.specs.Prelude.{◌≡◌, ◌≢◌, ℕ, ◌+◌, ◌^◌, ◌<◌, false, List, [], ◌∷◌}
use Rattle.bz_task.specs.FromSwap.EntryLists.{inserted}
use Rattle.bz_word.specs.Statuses.{status, status_word}
use Rattle.bz_word.specs.declared.entry.Entry.{Entry}
use Rattle.bz_task.specs.Outcomes.{IsGuarded}
use Rattle.bz_task.specs.Requests.{IsTarget}
use Rattle.bz_task.specs.Scene.{Scene, IsScene}
use Rattle.bz_task.specs.Steps.{next_stamp}
use Rattle.bz_task.specs.declared.path.Link.{Link}

-- a guard's word with the next stamp, and nothing else changed
abbrev pub restamped : ℕ → ℕ
restamped st = status_word (record (status st) { stamp = next_stamp (status st).stamp })

-- the entry of the link, which goes to another slot, and that of its guard
abbrev pub link_entry : Link → ℕ → Entry
link_entry link to = record { target = link.link; expected = link.slot + 1; new = to + 1 }

abbrev pub guard_entry : Link → Entry
guard_entry link = record { target = link.guard; expected = link.status; new = restamped link.status }

-- both, in the order of their targets
abbrev pub renewal : Link → ℕ → List Entry
renewal link to = inserted (link_entry link to) (guard_entry link ∷ [])

-- the two addresses of a link that was read may be named by a swap
pub record IsTurnable (link : Link) (s : Scene) : Type 0 where
  pub plain : link.status < 2 ^ 61
  pub apart : link.link ≢ link.guard
  pub link_target : IsTarget s link.link
  pub guard_target : IsTarget s link.guard

abbrev pub LinksMayBeTurned : Type 0
LinksMayBeTurned = (s : Scene) (link : Link) → IsScene s → IsGuarded s.past link → (status link.status).frozen ≡ false → IsTurnable link s
