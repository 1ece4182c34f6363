-- What an act on a published swap owes, and how it is shown case by case.
use Rattle.std.proofs.Common.{◌≡◌, ℕ, ◌+◌, ◌==◌, if◌then◌else◌, ◌<◌, Bool, true, false, arith, refl}
use Rattle.std.proofs.lemmas.Grind.{common_steps}
use Rattle.bz_word.specs.declared.kind.WordKind.TheVariants.{Swap}
use Rattle.bz_swap_machine.specs.declared.status.SwapStatus.{SwapStatus}
use Rattle.bz_swap_machine.specs.declared.status.SwapStatus.TheVariants.{Free, Undecided, Deciding, Decided}
use Rattle.bz_swap_machine.specs.declared.status.Verdict.{Verdict}
use Rattle.bz_swap_machine.specs.declared.status.Verdict.TheVariants.{Succeeded, Failed}
use Rattle.bz_swap_machine.specs.Machine.{Entries, Memory, is_verdict}
use Rattle.bz_swap_machine.specs.Sound.{Follows, Sound}
use Rattle.bz_swap_machine.specs.Facts.{Points, Fact, FactNext}
use Rattle.bz_swap_machine.specs.declared.place.HelpStep.{HelpStep}
use Rattle.bz_swap_machine.specs.declared.place.Next.{Next}
use Rattle.bz_swap_machine.specs.HelpActs.{After, passed, finished, by_status}
use Rattle.bz_swap_machine.proofs.Change.{Change, change-same}
use Rattle.bz_swap_machine.proofs.Lasting.{lasts-durable}

-- what an act of worker w on swap s gives: a lawful change, and what the worker knows next
pub record Fine (e : ℕ → Entries) (m : Memory) (w s : ℕ) (a : After) : Type 0 where
  pub change : Change e m a.memory s
  pub fact : FactNext e a.memory w s a.next

-- an act that changes nothing
pub fine-same : (e : ℕ → Entries) (m : Memory) (w s : ℕ) (next : Next) → Sound e m → FactNext e m w s next → Fine e m w s (record { memory = m; next = next })
fine-same e m w s next g f = record { change = change-same e m s g; fact = f }

pub fine-if : (e : ℕ → Entries) (m : Memory) (w s : ℕ) (b : Bool) (x y : After) → (b ≡ true → Fine e m w s x) → (b ≡ false → Fine e m w s y) → Fine e m w s (if b then x else y)
fine-if e m w s true x y f g = f refl
fine-if e m w s false x y f g = g refl

pub fact-if : (e : ℕ → Entries) (m : Memory) (w s : ℕ) (b : Bool) (x y : Next) → (b ≡ true → FactNext e m w s x) → (b ≡ false → FactNext e m w s y) → FactNext e m w s (if b then x else y)
fact-if e m w s true x y f g = f refl
fact-if e m w s false x y f g = g refl

pub step-if : (e : ℕ → Entries) (m : Memory) (w s : ℕ) (b : Bool) (x y : HelpStep) → (b ≡ true → Fact e m w s x) → (b ≡ false → Fact e m w s y) → Fact e m w s (if b then x else y)
step-if e m w s true x y f g = f refl
step-if e m w s false x y f g = g refl

-- when entry i has its pointer
pub fact-passed : (e : ℕ → Entries) (m : Memory) (w s i : ℕ) → i < (e s).count → Points e m s i → m.cached ((e s).target i) ≡ Swap s → Fact e m w s (passed (e s) i)
fact-passed e m w s i lt p h =
    let more : Points e m s (i + 1) = λ u j below. grind (arith, p u j) in
    step-if e m w s (i + 1 == (e s).count) _ _
    (λ b. (omega arith, (λ u j below. more u j (grind (arith, common_steps))), λ u j x below. grind arith))
    (λ b. (grind (arith, common_steps), more))

-- when entry i has its final value
pub fact-finished : (e : ℕ → Entries) (m : Memory) (w s i : ℕ) (d : Verdict) → i < (e s).count → is_verdict (m.durable_status s) d ≡ true → FactNext e m w s (finished (e s) i d)
fact-finished e m w s i d lt h = fact-if e m w s (i + 1 == (e s).count) _ _ (λ b. h) (λ b. (grind (arith, common_steps), h))

deciding-verdict : (d : Verdict) → is_verdict (Deciding d) d ≡ true
deciding-verdict Succeeded = refl
deciding-verdict Failed = refl

decided-durable : (k : SwapStatus) (d : Verdict) → Follows (Decided d) k → is_verdict k d ≡ true
decided-durable k d f = grind arith

-- when the status was loaded
pub fact-by_status : (e : ℕ → Entries) (m : Memory) (w s : ℕ) (found : SwapStatus) → m.status s ≡ found → m.published s ≡ true → 0 < (e s).count → Sound e m → Fact e m w s (by_status found)
fact-by_status e m w s Free h p n g = (n, λ u j below. grind arith)
fact-by_status e m w s Undecided h p n g = (n, λ u j below. grind arith)
fact-by_status e m w s (Deciding d) h p n g = rw h (deciding-verdict d)
fact-by_status e m w s (Decided d) h p n g = let follows = g.follows s (m.durable_status s) (lasts-durable _ _) p in (n, decided-durable (m.durable_status s) d (rw h at follows))
