-- What is left to a worker is enough.
use Rattle.std.specs.Prelude.{◌≡◌, ◌≢◌, ◌==◌, min, ℕ, ◌+◌, ◌-◌, ◌<◌, ◌≤◌, true, false}
use Rattle.std.proofs.Common.{arith, refl, subst, inl, inr}
use Rattle.std.proofs.lemmas.Bool.{cases_eq}
use Rattle.std.proofs.lemmas.Grind.{common_steps}
use Rattle.bz_swap_machine.specs.declared.place.Place.{Place}
use Rattle.bz_swap_machine.specs.declared.place.Place.TheVariants as place
use Rattle.bz_swap_machine.specs.Allowed.{allowed_by}
use Rattle.bz_swap_machine.specs.Budget.{budget}
use Rattle.bz_swap_machine.specs.Budgets.{IsBounded}
use Rattle.bz_swap_machine.specs.State.{State, Event, Act, happens}
use Rattle.bz_swap_machine.proofs.BudgetStarts.{evictions_keep_budgets}
use Rattle.bz_swap_machine.proofs.EventLaws.{budgets_are_allowed, acts_spend}
use Rattle.bz_swap.specs.declared.allowance.Allowance.{Allowance}
use Rattle.bz_swap.specs.declared.role.WordRole.{WordRole}
use Rattle.bz_swap.specs.declared.role.WordRole.TheVariants.{Outside, Status, Field}
use Rattle.bz_swap.specs.Solo.{steps_left}
use Rattle.bz_swap.specs.Inside.Allowances.{after_start, after_step}
use Rattle.bz_swap.specs.Inside.Evicted.{event_of}
use Rattle.bz_swap.specs.Inside.Kept.{IsEnough}

pub left-here : (runner left all w : ℕ) → runner ≡ w → steps_left runner left all w ≡ min left all
left-here runner left all w is = let test : (runner == w) ≡ true = grind (arith, common_steps, is) in rw test refl

pub left-there : (runner left all w : ℕ) → runner ≢ w → steps_left runner left all w ≡ all
left-there runner left all w ne = let test : (runner == w) ≡ false = grind (arith, common_steps, ne) in rw test refl

-- what is enough of its run, and of what all allow, is enough of what is left
pub least : (b runner left all w : ℕ) → b ≤ all → (runner ≡ w → b ≤ left) → b ≤ steps_left runner left all w
least b runner left all w most enough = elim (cases_eq runner w) [
  | inl is ↦ (let few = enough is in omega (arith, left-here runner left all w is, most, few))
  | inr ne ↦ omega (arith, left-there runner left all w ne, most)
]

no-more : {b a c : ℕ} → b ≤ a → c ≡ a → b ≤ c
no-more le is = omega (arith, le, is)

-- a worker's budget is no more than what is left to it
pub budget-left : (x : State) (a : Allowance) (w n : ℕ) → IsBounded x n → IsEnough x a n → a.all ≡ allowed_by x n → w < n → budget x w n ≤ steps_left a.runner a.left a.all w
budget-left x a w n bounded enough all within =
    least (budget x w n) a.runner a.left a.all w (no-more (budgets_are_allowed x w n within bounded.few bounded.short) all)
    (λ is. subst (λ v. budget x v n ≤ a.left) is (enough.budget (rw is within)))

-- a worker that is to step has a step left
some-left : {c b l : ℕ} → c < b → b ≤ l → 0 < l
some-left spent le = omega (arith, spent, le)

pub step-left : (x : State) (a : Allowance) (w n : ℕ) → IsBounded x n → IsEnough x a n → a.all ≡ allowed_by x n → w < n → (x.local w).place ≢ place.Idle → 0 < steps_left a.runner a.left a.all w
step-left x a w n bounded enough all within busy = some-left (acts_spend x w n bounded busy) (budget-left x a w n bounded enough all within)

next-left : {c b l : ℕ} → c < b → b ≤ l → c ≤ l - 1
next-left spent le = omega (arith, spent, le)

-- after a step
pub enough-stepped : (x : State) (a : Allowance) (w n : ℕ) (at : Place) → IsBounded x n → IsEnough x a n → a.all ≡ allowed_by x n → w < n → (x.local w).place ≢ place.Idle → IsEnough (happens x (Act w)) (after_step a w at) n
enough-stepped x a w n at bounded enough all within busy = record { budget = λ _. next-left (acts_spend x w n bounded busy) (budget-left x a w n bounded enough all within) }

more-left : (m : ℕ) {c b l : ℕ} → c ≤ b + m → b ≤ l → c ≤ l + m
more-left m added le = omega (arith, added, le)

-- after a start, which adds no more than it allows
pub enough-started : (x : State) (a : Allowance) (w n more : ℕ) (v : Event) → IsBounded x n → IsEnough x a n → a.all ≡ allowed_by x n → w < n → budget (happens x v) w n ≤ budget x w n + more → IsEnough (happens x v) (after_start a w more) n
enough-started x a w n more v bounded enough all within added = record { budget = λ _. more-left more added (budget-left x a w n bounded enough all within) }

same-left : {c b l : ℕ} → c ≡ b → b ≤ l → c ≤ l
same-left is le = omega (arith, is, le)

-- after an eviction
pub enough-evicted : (x : State) (a : Allowance) (n at : ℕ) (role : WordRole) → IsEnough x a n → IsEnough (happens x (event_of at role)) a n
enough-evicted x a n at Outside enough = record { budget = λ within. same-left ((evictions_keep_budgets x a.runner n).word at) (enough.budget within) }
enough-evicted x a n at (Status s) enough = record { budget = λ within. same-left ((evictions_keep_budgets x a.runner n).status s) (enough.budget within) }
enough-evicted x a n at (Field s k) enough = record { budget = λ within. same-left ((evictions_keep_budgets x a.runner n).field s k) (enough.budget within) }

none-left : {b a l : ℕ} → b ≤ a → a ≡ 0 → b ≤ l
none-left le none = omega (arith, le, none)

-- where all workers are idle
pub enough-idle : (x : State) (a : Allowance) (n : ℕ) → IsBounded x n → allowed_by x n ≡ 0 → IsEnough x a n
enough-idle x a n bounded none = record { budget = λ within. none-left (budgets_are_allowed x a.runner n within bounded.few bounded.short) none }
