-- The numbers of the budget as a table: what each place counts, and two worked runs that spend them.
use Rattle.std.specs.Prelude.{◌≡◌, ℕ, zero, suc, List, [], ◌∷◌}
use Rattle.bz_swap_machine.specs.declared.status.Verdict.TheVariants.{Succeeded}
use Rattle.bz_swap_machine.specs.declared.place.HelpStep.{HelpStep}
use Rattle.bz_swap_machine.specs.declared.place.HelpStep.TheVariants.{Look, InstallTag, LookUnderTag, InstallPointer, AskDirty, FenceDirty, ClearDirty, AskTarget, FenceTargets, Decide, AskStatus, FenceStatus, ClearStatus, PutFinal, AskFinal, FenceFinal, ClearFinal, SweepTag}
use Rattle.bz_swap_machine.specs.declared.place.Place.TheVariants.{Prepare, Learn, Help, ReadWord, AskRead, FenceRead, ClearRead, LoadWord, StoreWord, AskLine, FenceLine}
use Rattle.bz_swap_machine.specs.declared.place.PrepareStep.TheVariants.{WriteWord, WriteStatus, AskHead, AskTail, FenceDescriptor}
use Rattle.bz_swap_machine.specs.Budget.{left_at, budget}
use Rattle.bz_swap_machine.specs.Examples.{run}
use Rattle.bz_swap_machine.specs.State.{State, StartRead, Act, happens}

-- what a place counts at the first of four entries, and at the last one
abbrev pub at_entries : (ℕ → HelpStep) → List ℕ
at_entries step = left_at (Help (step 0)) ∷ left_at (Help (step 3)) ∷ []

-- what each place counts of the visit that is left: at the first and the last of thirteen words, or of four entries
pub record PlacesCount : Type 0 where
  -- an operation of one act, and a read, which cleans a dirty value first
  pub single : left_at (LoadWord 0) ∷ left_at (StoreWord 0 0) ∷ left_at (AskLine 0) ∷ left_at (FenceLine 0) ∷ [] ≡ 1 ∷ 1 ∷ 2 ∷ 1 ∷ []
  pub read : left_at (AskRead 0 0) ∷ left_at (FenceRead 0 0) ∷ left_at (ClearRead 0 0) ∷ left_at (ReadWord 0) ∷ [] ≡ 4 ∷ 3 ∷ 2 ∷ 1 ∷ []
  -- the own descriptor, and another's that is learnt
  pub write : left_at (Prepare (WriteWord 0)) ∷ left_at (Prepare (WriteWord 12)) ∷ left_at (Prepare WriteStatus) ∷ [] ≡ 46 ∷ 34 ∷ 33 ∷ []
  pub publish : left_at (Prepare AskHead) ∷ left_at (Prepare AskTail) ∷ left_at (Prepare FenceDescriptor) ∷ [] ≡ 32 ∷ 31 ∷ 30 ∷ []
  pub learn : left_at (Learn 0) ∷ left_at (Learn 12) ∷ left_at (Help Look) ∷ [] ≡ 43 ∷ 31 ∷ 30 ∷ []
  -- an entry of an undecided swap, where a dirty value may be cleaned first
  pub install_tag : at_entries (λ i. InstallTag i) ≡ 29 ∷ 26 ∷ []
  pub look_under : at_entries (λ i. LookUnderTag i 0 0) ≡ 28 ∷ 25 ∷ []
  pub install_pointer : at_entries (λ i. InstallPointer i 0 0) ≡ 27 ∷ 24 ∷ []
  pub ask_dirty : at_entries (λ i. AskDirty i 0) ≡ 28 ∷ 25 ∷ []
  pub fence_dirty : at_entries (λ i. FenceDirty i 0) ≡ 27 ∷ 24 ∷ []
  pub clear_dirty : at_entries (λ i. ClearDirty i 0) ≡ 26 ∷ 23 ∷ []
  -- the verdict
  pub ask_target : at_entries (λ i. AskTarget i) ≡ 25 ∷ 22 ∷ []
  pub verdict : left_at (Help FenceTargets) ∷ left_at (Help (Decide Succeeded)) ∷ left_at (Help (AskStatus Succeeded)) ∷ left_at (Help (FenceStatus Succeeded)) ∷ left_at (Help (ClearStatus Succeeded)) ∷ [] ≡ 21 ∷ 20 ∷ 19 ∷ 18 ∷ 17 ∷ []
  -- an entry of a decided swap
  pub put_final : at_entries (λ i. PutFinal i Succeeded) ≡ 16 ∷ 4 ∷ []
  pub ask_final : at_entries (λ i. AskFinal i Succeeded) ≡ 15 ∷ 3 ∷ []
  pub fence_final : at_entries (λ i. FenceFinal i Succeeded) ≡ 14 ∷ 2 ∷ []
  pub sweep : at_entries (λ i. SweepTag i Succeeded 0 0) ≡ 15 ∷ 3 ∷ []
  pub clear_final : at_entries (λ i. ClearFinal i Succeeded) ≡ 13 ∷ 1 ∷ []

-- the budget of worker w of three, before each of so many acts and after the last one
abbrev pub budgets_of : State → ℕ → ℕ → List ℕ
budgets_of x w zero = budget x w 3 ∷ []
budgets_of x w (suc acts) = budget x w 3 ∷ budgets_of (happens x (Act w)) w acts

-- the swap of one word alone; and a read after its 20th act, when its value stands dirty: the value counts four until it is met
pub record BudgetsAreSpent : Type 0 where
  pub swap : budgets_of (run 0) 1 21 ≡ 74 ∷ 73 ∷ 72 ∷ 71 ∷ 61 ∷ 60 ∷ 59 ∷ 58 ∷ 57 ∷ 56 ∷ 55 ∷ 51 ∷ 47 ∷ 46 ∷ 45 ∷ 44 ∷ 43 ∷ 42 ∷ 41 ∷ 40 ∷ 39 ∷ 0 ∷ []
  pub read : budgets_of (happens (run 20) (StartRead 2 100)) 2 5 ≡ 5 ∷ 4 ∷ 3 ∷ 2 ∷ 1 ∷ 0 ∷ []
