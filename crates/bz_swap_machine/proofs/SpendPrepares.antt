-- The last acts on the own descriptor spend one: they change no status that tells anything, and the first visit to the own swap begins.
use Rattle.std.proofs.Common.{◌≡◌, ◌==◌, not, if◌then◌else◌, ℕ, ◌+◌, ◌≤◌, Bool, true, false, arith, refl, ap, sym, subst, ◌∙◌}
use Rattle.std.proofs.lemmas.Grind.{common_steps}
use Rattle.bz_swap_machine.specs.declared.place.HelpStep.TheVariants.{InstallTag}
use Rattle.bz_swap_machine.specs.declared.place.Place.TheVariants.{Prepare, Help}
use Rattle.bz_swap_machine.specs.declared.place.PrepareStep.TheVariants.{WriteStatus, AskHead, FenceDescriptor}
use Rattle.bz_swap_machine.specs.declared.status.SwapStatus.{SwapStatus}
use Rattle.bz_swap_machine.specs.declared.status.SwapStatus.TheVariants.{Free, Undecided, Deciding, Decided}
use Rattle.bz_swap_machine.specs.declared.worker.Operation.{Operation}
use Rattle.bz_swap_machine.specs.declared.worker.Operation.TheVariants.{Swapping}
use Rattle.bz_swap_machine.specs.Budget.{sum_others, reserve_by, left_by, is_over, budget_at}
use Rattle.bz_swap_machine.specs.Changes.{put}
use Rattle.bz_swap_machine.specs.Machine.{Entries, Memory}
use Rattle.bz_swap_machine.specs.Sound.{IsUnset}
use Rattle.bz_swap_machine.specs.Standing.{Scene, scene, is_decided, is_clean}
use Rattle.bz_swap_machine.specs.Steps.{Local, is_own}
use Rattle.bz_swap_machine.proofs.Spends.{meets, Spends, fresh-falls, here-falls}

unset-decided : (found : SwapStatus) → IsUnset found → is_decided found ≡ false
unset-decided Free unset = refl
unset-decided Undecided unset = refl
unset-decided (Deciding d) unset = absurd unset
unset-decided (Decided d) unset = absurd unset

unset-clean : (found : SwapStatus) → IsUnset found → is_clean found ≡ false
unset-clean Free unset = refl
unset-clean Undecided unset = refl
unset-clean (Deciding d) unset = absurd unset
unset-clean (Decided d) unset = absurd unset

-- a test of statuses that fails of an unset one is the same after undecided was stored
same-test : (test : SwapStatus → Bool) (status : ℕ → SwapStatus) (c s : ℕ) → test Undecided ≡ false → test (status c) ≡ false → test (put status c Undecided s) ≡ test (status s)
same-test test status c s here there = by_test (s == c) refl
  where
    by_test : (b : Bool) → (s == c) ≡ b → test (if b then Undecided else status s) ≡ test (status s)
    by_test false told = refl
    by_test true told = let same : s ≡ c = grind (arith, common_steps, told) in here ∙ sym there ∙ ap (λ k. test (status k)) (sym same)

pub spends-write_status : (e : ℕ → Entries) (local : ℕ → Local) (m : Memory) (w n : ℕ) (l : Local) → IsUnset (m.status l.current) → Spends e local m w n l (Prepare WriteStatus)
spends-write_status e local m w n l unset =
    let decided : (s : ℕ) → is_decided (put m.status l.current Undecided s) ≡ is_decided (m.status s) = λ s. same-test is_decided m.status l.current s refl (unset-decided (m.status l.current) unset) in
    let clean : (s : ℕ) → is_clean (put m.status l.current Undecided s) ≡ is_clean (m.status s) = λ s. same-test is_clean m.status l.current s refl (unset-clean (m.status l.current) unset) in
    let after : Scene = scene e m.cached (put m.status l.current Undecided) local in
    let same : after ≡ meets e local m = λ i. record (meets e local m) { decided = λ s. decided s i; clean = λ s. clean s i } in
    subst (λ x. budget_at x w n (record l { place = Prepare AskHead }) (Prepare AskHead) + 1 ≤ budget_at (meets e local m) w n l (Prepare WriteStatus)) (sym same)
    (here-falls (meets e local m) w n l (record l { place = Prepare AskHead }) (Prepare WriteStatus) (Prepare AskHead) refl refl refl refl refl (omega arith))

reserve-same : (o : Operation) (s k : ℕ) → o ≡ Swapping s → reserve_by o 0 ≡ reserve_by o k
reserve-same o s k is = rw is refl

-- the own swap is published, and is visited
pub spends-fence_descriptor : (e : ℕ → Entries) (local : ℕ → Local) (m : Memory) (w n : ℕ) (l : Local) → l.operation ≡ Swapping l.current → m.status l.current ≡ Undecided → Spends e local m w n l (Prepare FenceDescriptor)
spends-fence_descriptor e local m w n l own undecided =
    let here : (l.current == l.current) ≡ true = grind (arith, common_steps) in
    let is : is_own l.operation l.current ≡ true = ap (λ o. is_own o l.current) own ∙ here in
    let over : is_over (meets e local m) l ≡ false = rw is refl in
    fresh-falls (meets e local m) w n l (Prepare FenceDescriptor) (Help (InstallTag 0)) refl (ap (λ s. not (is_decided s)) undecided)
    (here-falls (meets e local m) w n l l (Prepare FenceDescriptor) (Help (InstallTag 0)) (rw is refl) (reserve-same l.operation l.current _ own) (rw is refl) refl
    (ap (λ b. sum_others w (λ v. left_by (meets e local m) b l (Help (InstallTag 0)) v (local v)) n) over) (omega arith))
