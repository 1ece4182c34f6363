-- What a worker that steps alone is allowed: over any list of its starts, while no other worker steps, its steps are at most
-- the sum of what each start allows, and of what each worker that is not idle when the counting begins allows once, itself
-- among them.
use Rattle.std.specs.Prelude.{ℕ, zero, suc, ◌+◌, Bool, true, false}
use Rattle.bz_swap_machine.specs.declared.place.Place.{Place}
use Rattle.bz_swap_machine.specs.declared.place.Place.TheVariants.{Idle}
use Rattle.bz_swap_machine.specs.State.{State, Event, StartRead, StartStore, StartFlush, StartSwap}

-- a read, load, store or flush
abbrev pub for_act : ℕ
for_act = 2

-- by kind: a read, load or store; a flush
abbrev pub for_word : ℕ
for_word = 1

abbrev pub for_flush : ℕ
for_flush = 2

-- a swap
abbrev pub for_swap : ℕ
for_swap = 128

-- a worker that is not idle
abbrev pub for_worker : ℕ
for_worker = 1024

abbrev pub allowed : Event → ℕ
allowed (StartRead w a) = for_act
allowed (StartStore w a v) = for_act
allowed (StartFlush w line) = for_act
allowed (StartSwap w new targets) = for_swap
allowed event = 0

-- the finer count, by the kind of the start: it is never more
abbrev pub allowed_by_kind : Event → ℕ
allowed_by_kind (StartRead w a) = for_word
allowed_by_kind (StartStore w a v) = for_word
allowed_by_kind (StartFlush w line) = for_flush
allowed_by_kind (StartSwap w new targets) = for_swap
allowed_by_kind event = 0

-- the sum of a function below a number, and a number that counts where a test holds
abbrev pub sum_below : (ℕ → ℕ) → ℕ → ℕ
sum_below f zero = 0
sum_below f (suc n) = sum_below f n + f n

abbrev pub counted : Bool → ℕ → ℕ
counted true k = k
counted false k = 0

abbrev pub is_busy : Place → Bool
is_busy Idle = false
is_busy place = true

-- what the workers that are not idle allow, of so many
abbrev pub allowed_by : State → ℕ → ℕ
allowed_by x workers = sum_below (λ v. counted (is_busy (x.local v).place) for_worker) workers
