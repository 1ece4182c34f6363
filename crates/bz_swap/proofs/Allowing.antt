-- What workers allow together: sums over them.
use Rattle.std.specs.Prelude.{◌≡◌, ◌≢◌, ℕ, zero, suc, ◌+◌, ◌*◌, ◌<◌, ◌≤◌, Bool, true, false, List, length, get_or, slice_set}
use Rattle.std.proofs.Common.{arith, refl, ap, inl, inr}
use Rattle.std.proofs.lemmas.Bool.{cases_eq}
use Rattle.std.proofs.lemmas.List.{get_or-set_same, get_or-set_other, length-set}
use Rattle.bz_swap_machine.specs.declared.place.Place.{Place}
use Rattle.bz_swap_machine.specs.declared.place.Place.TheVariants as place
use Rattle.bz_swap_machine.specs.declared.worker.Worker.{Worker}
use Rattle.bz_swap_machine.specs.Allowed.{for_worker, sum_below, counted, is_busy}
use Rattle.bz_swap.specs.Inside.Allowances.{all_after}
use Rattle.bz_swap.specs.Inside.Kept.{allowed_at}
use Rattle.bz_swap.specs.Inside.Parts.{idle_worker}

sum-same : (f g : ℕ → ℕ) (n : ℕ) → ((v : ℕ) → v < n → g v ≡ f v) → sum_below g n ≡ sum_below f n
sum-same f g zero same = refl
sum-same f g (suc n) same = omega (arith, sum-same f g n (λ v lt. same v (omega (arith, lt))), same n (omega arith))

-- one of those that are summed has changed
sum-changed : (f g : ℕ → ℕ) (w n : ℕ) → w < n → ((v : ℕ) → v ≢ w → g v ≡ f v) → sum_below g n + f w ≡ sum_below f n + g w
sum-changed f g w zero within other = absurd (omega (arith, within))
sum-changed f g w (suc n) within other = elim (cases_eq n w) [
  | inl e ↦ omega (arith, sum-same f g n (λ v lt. other v (omega (arith, lt, e))), ap f e, ap g e)
  | inr ne ↦ omega (arith, sum-changed f g w n (omega (arith, within, ne)) other, other n ne)
]

sum-at : (f : ℕ → ℕ) (w n : ℕ) → w < n → f w ≤ sum_below f n
sum-at f w zero within = absurd (omega (arith, within))
sum-at f w (suc n) within = elim (cases_eq n w) [
  | inl e ↦ omega (arith, ap f e)
  | inr ne ↦ omega (arith, sum-at f w n (omega (arith, within, ne)))
]

sum-most : (f : ℕ → ℕ) (n : ℕ) → ((v : ℕ) → f v ≤ for_worker) → sum_below f n ≤ for_worker * n
sum-most f zero most = omega arith
sum-most f (suc n) most = omega (arith, sum-most f n most, most n)

sum-none : (f : ℕ → ℕ) (n : ℕ) → ((v : ℕ) → f v ≡ 0) → sum_below f n ≡ 0
sum-none f zero none = refl
sum-none f (suc n) none = omega (arith, sum-none f n none, none n)

counted-most : (b : Bool) → counted b for_worker ≤ for_worker
counted-most true = omega arith
counted-most false = omega arith

pub counted-busy : (x : Place) → x ≢ place.Idle → counted (is_busy x) for_worker ≡ for_worker
counted-busy place.Idle busy = absurd (busy refl)
counted-busy other busy = refl

pub counted-idle : (x : Place) → x ≡ place.Idle → counted (is_busy x) for_worker ≡ 0
counted-idle x is = rw is refl

-- what a worker allows, of a list
each : List Worker → ℕ → ℕ
each workers v = counted (is_busy (get_or workers v idle_worker).place) for_worker

join : (c d : ℕ) {a b e f : ℕ} → a ≡ b → b + c ≡ d + e → e ≡ f → a + c ≡ d + f
join c d same changed here = omega (arith, same, changed, here)

-- one worker has come to another place
pub allowed-set : (workers : List Worker) (w : ℕ) (l : Worker) → w < length workers
    → allowed_at (slice_set workers w l) + counted (is_busy (get_or workers w idle_worker).place) for_worker ≡ allowed_at workers + counted (is_busy l.place) for_worker
unfolding each
allowed-set workers w l within =
    join _ _ (ap (sum_below (each (slice_set workers w l))) (length-set workers w l))
    (sum-changed (each workers) (each (slice_set workers w l)) w (length workers) within
    (λ v ne. ap (λ (u : Worker). counted (is_busy u.place) for_worker) (get_or-set_other workers w v l idle_worker ne)))
    (ap (λ (u : Worker). counted (is_busy u.place) for_worker) (get_or-set_same workers w l idle_worker within))

more : (a b : ℕ) {c d : ℕ} → a + c ≡ b + d → c ≡ 0 → d ≡ for_worker → a ≡ b + for_worker
more a b changed none some = omega (arith, changed, none, some)

-- a worker that did nothing has begun
pub allowed-begun : (workers : List Worker) (w : ℕ) (l : Worker) → w < length workers → (get_or workers w idle_worker).place ≡ place.Idle → l.place ≢ place.Idle → allowed_at (slice_set workers w l) ≡ allowed_at workers + for_worker
allowed-begun workers w l within idle busy = more _ _ (allowed-set workers w l within) (counted-idle (get_or workers w idle_worker).place idle) (counted-busy l.place busy)

after : (a b : ℕ) {c : ℕ} (x : Place) → a + c ≡ b + counted (is_busy x) for_worker → c ≡ for_worker → a ≡ all_after b x
after a b place.Idle changed some = omega (arith, changed, some)
after a b other changed some = omega (arith, changed, some)

-- a worker that did something has stepped
pub allowed-stepped : (workers : List Worker) (w : ℕ) (l : Worker) → w < length workers → (get_or workers w idle_worker).place ≢ place.Idle → allowed_at (slice_set workers w l) ≡ all_after (allowed_at workers) l.place
allowed-stepped workers w l within busy = after _ _ l.place (allowed-set workers w l within) (counted-busy (get_or workers w idle_worker).place busy)

-- no more than each of them allows
pub allowed-most : (workers : List Worker) → allowed_at workers ≤ for_worker * length workers
unfolding each
allowed-most workers = sum-most (each workers) (length workers) (λ v. counted-most (is_busy (get_or workers v idle_worker).place))

at-least : {a b c : ℕ} → a ≤ b → a ≡ c → c ≤ b
at-least le is = omega (arith, le, is)

-- no less than one of them allows
pub allowed-some : (workers : List Worker) (w : ℕ) → w < length workers → (get_or workers w idle_worker).place ≢ place.Idle → for_worker ≤ allowed_at workers
unfolding each
allowed-some workers w within busy = at-least (sum-at (each workers) w (length workers) within) (counted-busy (get_or workers w idle_worker).place busy)

-- nothing where all are idle
pub allowed-none : (workers : List Worker) → ((w : ℕ) → (get_or workers w idle_worker).place ≡ place.Idle) → allowed_at workers ≡ 0
unfolding each
allowed-none workers idle = sum-none (each workers) (length workers) (λ v. counted-idle (get_or workers v idle_worker).place (idle v))
