-- Numbers that the memory's words and a worker's fields can hold.
use Rattle.std.specs.Prelude.{◌≡◌, ℕ, Some, ◌^◌, ◌<◌, ◌≤◌}
use Rattle.bz_word.specs.Kinds.{IsKind}
use Rattle.bz_word.specs.declared.kind.WordKind.{WordKind}
use Rattle.bz_swap_machine.specs.declared.place.Place.{Place}
use Rattle.bz_swap_machine.specs.declared.place.Place.TheVariants.{Idle, Prepare, Learn, Help, ReadWord, AskRead, FenceRead, ClearRead, LoadWord, StoreWord, AskLine, FenceLine}
use Rattle.bz_swap_machine.specs.declared.place.HelpStep.{HelpStep}
use Rattle.bz_swap_machine.specs.declared.place.HelpStep.TheVariants.{Look, InstallTag, LookUnderTag, InstallPointer, RemoveTag, AskDirty, FenceDirty, ClearDirty, AskTarget, FenceTargets, Decide, AskStatus, FenceStatus, ClearStatus, PutFinal, AskFinal, FenceFinal, ClearFinal, SweepTag}
use Rattle.bz_swap_machine.specs.declared.place.Next.{Next}
use Rattle.bz_swap_machine.specs.declared.place.Next.TheVariants.{Step, Meet, Complete}
use Rattle.bz_swap_machine.specs.Pending.{Saved}
use Rattle.bz_swap_machine.specs.Machine.{Entries, Memory}

-- a worker that uses tags, and a number for its next one
abbrev pub IsTagger : ℕ → ℕ → Type 0
IsTagger w q = (1 ≤ w) × (w ≤ 64) × (q < 2 ^ 36)

-- the values of a swap can be stored, and it has at most four entries
pub record AreValues (x : Entries) : Type 0 where
  pub count : x.count ≤ 4
  pub expected : (i : ℕ) → i < x.count → x.expected i < 2 ^ 61
  pub value : (i : ℕ) → i < x.count → x.value i < 2 ^ 61

-- the words outside the descriptors are words of a kind, and swaps have numbers below 2^16
pub record HoldsKinds (m : Memory) : Type 0 where
  pub cached : (a : ℕ) → IsKind (m.cached a)
  pub durable : (a : ℕ) → IsKind (m.durable a)
  pub asked : (a w : ℕ) (q : Saved WordKind) → (m.pending a).asked w ≡ Some q → IsKind q.value
  pub taken : m.taken ≤ 2 ^ 16

-- what a step remembers of a word that it found
abbrev pub StepInRange : HelpStep → Type 0
StepInRange Look = Unit {0}
StepInRange (InstallTag i) = Unit {0}
StepInRange (LookUnderTag i w q) = IsTagger w q
StepInRange (InstallPointer i w q) = IsTagger w q
StepInRange (RemoveTag i w q) = IsTagger w q
StepInRange (AskDirty i v) = v < 2 ^ 61
StepInRange (FenceDirty i v) = v < 2 ^ 61
StepInRange (ClearDirty i v) = v < 2 ^ 61
StepInRange (AskTarget i) = Unit {0}
StepInRange FenceTargets = Unit {0}
StepInRange (Decide d) = Unit {0}
StepInRange (AskStatus d) = Unit {0}
StepInRange (FenceStatus d) = Unit {0}
StepInRange (ClearStatus d) = Unit {0}
StepInRange (PutFinal i d) = Unit {0}
StepInRange (AskFinal i d) = Unit {0}
StepInRange (FenceFinal i d) = Unit {0}
StepInRange (ClearFinal i d) = Unit {0}
StepInRange (SweepTag i d w q) = IsTagger w q

abbrev pub NextInRange : Next → Type 0
NextInRange (Step step) = StepInRange step
NextInRange (Meet t) = Unit {0}
NextInRange (Complete d) = Unit {0}

abbrev pub PlaceInRange : Place → Type 0
PlaceInRange Idle = Unit {0}
PlaceInRange (Prepare step) = Unit {0}
PlaceInRange (Learn k) = Unit {0}
PlaceInRange (Help step) = StepInRange step
PlaceInRange (ReadWord a) = Unit {0}
PlaceInRange (AskRead a v) = v < 2 ^ 61
PlaceInRange (FenceRead a v) = v < 2 ^ 61
PlaceInRange (ClearRead a v) = v < 2 ^ 61
PlaceInRange (LoadWord a) = Unit {0}
PlaceInRange (StoreWord a v) = v < 2 ^ 61
PlaceInRange (AskLine line) = Unit {0}
PlaceInRange (FenceLine line) = Unit {0}
