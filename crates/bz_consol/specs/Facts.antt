-- What a consolidation knows, and what it asks for.
use Rattle.std.specs.Prelude.{◌≡◌, ◌≢◌, ℕ, ◌+◌, ◌^◌, ◌<◌, ◌≤◌, false, List, [], ◌∷◌, All, Option, slice_index, length}
use Rattle.bz_call.specs.declared.replies.Spent.TheVariants.{Nodes, Swaps}
use Rattle.bz_layout.specs.Addresses.{node_address}
use Rattle.bz_layout.specs.declared.config.Config.{Config}
use Rattle.bz_layout.specs.declared.sizes.TheConstants.{NODE_WORDS}
use Rattle.bz_layout.specs.declared.thresholds.TheConstants.{CONSOLIDATION_SLOTS}
use Rattle.bz_node.specs.Records.{leaf_words}
use Rattle.bz_slotted.specs.ReadingLaws.{node_of}
use Rattle.bz_word.specs.Statuses.{status}
use Rattle.bz_task.specs.Instant.{words, form_at}
use Rattle.bz_task.specs.Laws.{SaysAlike}
use Rattle.bz_task.specs.Outcomes.{IsGuarded}
use Rattle.bz_task.specs.Scene.{Past, Scene, Stage}
use Rattle.bz_task.specs.Swaps.{Change}
use Rattle.bz_task.specs.declared.path.Link.{Link}
use Rattle.bz_task.specs.declared.view.LeafView.{LeafView}
use Rattle.bz_task.specs.declared.todo.Outcome.{Outcome}
use Rattle.bz_task.specs.declared.todo.Outcome.TheVariants.{Done as IsDone, Restart as Restarts, Full as IsFull}
use Rattle.bz_task.specs.declared.todo.Seen.{Seen}
use Rattle.bz_task.specs.declared.todo.Todo.{Todo}
pub use Rattle.bz_renew.specs.Due.{LeadsTo, IsDue}
use Rattle.bz_renew.specs.FrozenLeaves.{WasFrozenLeaf}
use Rattle.bz_renew.specs.Guards.{WasAsRead}
use Rattle.bz_renew.specs.Renewals.{renewal}
use Rattle.bz_renew.specs.Sorted.{IsSortedLeaf}
use Rattle.bz_writer.specs.Facts.{write_asks, write_facts, write_differs}
use Rattle.bz_writer.specs.Phases.{write_acts, write_left, write_swaps, write_needs, means_of, no_change}
use Rattle.bz_writer.specs.Plans.{Plan}
use Rattle.bz_writer.specs.declared.phase.WritePhase.{WritePhase}

-- the link that is turned, the words of the copy, and the slots that were taken: the copy goes into the first
pub record Renewal : Type 0 where
  pub link : Link
  pub image : List ℕ
  pub slot : ℕ → ℕ

-- the guard of the link was read, and was no frozen node's; the leaf to which it leads was frozen, and the words of the copy
-- say what it says
pub record HasViewed (link : Link) (image : List ℕ) (p : Past) : Type 0 where
  pub guard : IsGuarded p link
  pub thawed : (status link.status).frozen ≡ false
  pub moment : ℕ
  pub leaf : WasFrozenLeaf link.slot moment p
  pub alike : SaysAlike p.config.nodes (words p.config (p.at moment) link.slot) (node_of image) ((form_at p.config (p.at moment)).low link.slot) ((form_at p.config (p.at moment)).high link.slot)
  pub size : length image ≡ NODE_WORDS
  pub plain : All (λ v. v < 2 ^ 61) image

-- and since the leaf was frozen the guard was looked at again, and was as the path names it
pub record IsCopying (link : Link) (image : List ℕ) (p : Past) : Type 0 where
  pub viewed : HasViewed link image p
  pub looked : WasAsRead link viewed.moment p

-- the words are a leaf made whole of the records that a viewed leaf shows, in the order of their keys, between its fences
pub record IsMadeOf (viewed copy : List ℕ) : Type 0 where
  pub pairs : List (List ℕ × List ℕ)
  pub low : Option (List ℕ)
  pub high : Option (List ℕ)
  pub leaf : IsSortedLeaf viewed pairs low high
  pub is : copy ≡ leaf_words pairs low high

-- at a moment since the look-up began no link had led to a slot, and one moment later the link led to it, and these words stood
-- there
pub record WasTurned (link : Link) (image : List ℕ) (p : Past) : Type 0 where
  pub slot : ℕ
  pub before : ℕ
  pub since : p.since ≤ before
  pub now : before + 1 ≤ p.now
  pub unreached : (p.at before).reached slot ≡ false
  pub led : (p.at (before + 1)).value link.link ≡ slot + 1
  pub copied : (i : ℕ) → i < NODE_WORDS → (p.at (before + 1)).value (node_address p.config slot + i) ≡ slice_index image i

-- the link was turned to a leaf made of the records of the viewed one
pub record WasRenewed (link : Link) (view : LeafView) (p : Past) : Type 0 where
  pub image : List ℕ
  pub made : IsMadeOf view.image.0 image
  pub turned : WasTurned link image p

-- the copy is written, and the link goes to it
abbrev pub consol_plan : Renewal → Plan
consol_plan r = record {
  nodes = record { count = CONSOLIDATION_SLOTS; slot = r.slot; image = λ n. r.image };
  guard = r.link.guard;
  status = r.link.status;
  entries = λ c. renewal r.link (r.slot 0);
  nameable = λ c. (r.link.status < 2 ^ 61) × (r.link.link ≢ r.link.guard);
  -- the leaf to which the link leads, and the words of the copy
  basis = record { slot = r.link.slot; nodes = r.image ∷ [] };
  planned = HasViewed r.link r.image;
  ready = IsCopying r.link r.image;
  done = WasTurned r.link r.image;
  none = λ p. Unit {0};
}

-- a consolidation is the writer of this plan
abbrev pub consol_asks : Config → Renewal → WritePhase → Option Todo
consol_asks c r = write_asks c (consol_plan r)

abbrev pub consol_acts : ℕ
consol_acts = write_acts CONSOLIDATION_SLOTS

abbrev pub consol_left : WritePhase → ℕ
consol_left = write_left CONSOLIDATION_SLOTS

abbrev pub consol_swaps : WritePhase → ℕ
consol_swaps = write_swaps

abbrev pub consol_needs : WritePhase → ℕ
consol_needs = write_needs CONSOLIDATION_SLOTS

abbrev pub consol_facts : Renewal → WritePhase → Stage → Scene → Type 0
consol_facts r = write_facts (consol_plan r)

abbrev pub consol_differs : Link → WritePhase → Seen → Type 0
consol_differs link = write_differs link.status

abbrev pub consol_change : Change
consol_change = no_change

-- what its end means: the link led to a fresh slot with these words; else nothing is known beyond why it ended
abbrev pub consol_means : Link → List ℕ → Outcome → Scene → Type 0
consol_means link image = means_of (WasTurned link image) (λ p. Unit {0})

-- a consolidation ends so and in no other way
abbrev pub IsEndOfConsolidation : Outcome → Type 0
IsEndOfConsolidation IsDone = Unit {0}
IsEndOfConsolidation Restarts = Unit {0}
IsEndOfConsolidation (IsFull Nodes) = Unit {0}
IsEndOfConsolidation (IsFull Swaps) = Unit {0}
IsEndOfConsolidation outcome = ⊥
