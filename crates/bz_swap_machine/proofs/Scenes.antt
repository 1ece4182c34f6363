-- A budget is told by what w sees of the others, and by w itself: its own place in the table of workers does not count.
use Rattle.std.proofs.Common.{◌≡◌, ◌==◌, ◌&&◌, nat_lt, if◌then◌else◌, ℕ, zero, suc, ◌+◌, Bool, true, false, arith, refl, ap, ◌∙◌}
use Rattle.std.proofs.lemmas.Grind.{common_steps}
use Rattle.bz_swap_machine.specs.declared.place.Place.{Place}
use Rattle.bz_swap_machine.specs.Changes.{put}
use Rattle.bz_swap_machine.specs.State.{State, Act, stepped, happens}
use Rattle.bz_swap_machine.specs.Steps.{Local}
use Rattle.bz_swap_machine.specs.Allowed.{counted, is_busy, for_worker}
use Rattle.bz_swap_machine.specs.Standing.{Scene, scene, scene_of, top, swap_of, is_open_at}
use Rattle.bz_swap_machine.specs.Budget.{for_stale, sum_others, open_count, open_above, is_over_at, left_by, left_by_others, fresh_of, is_fresh_at, stale_at, allowed_by_others, budget_at, budget}

-- the scene with other workers
abbrev pub with_workers : Scene → (ℕ → Local) → Scene
with_workers x f = record x { local = f }

put-if : (w v : ℕ) (local : ℕ → Local) (l : Local) (g : ℕ → Local → ℕ) (b : Bool) → (if b then 0 else g v (if b then l else local v)) ≡ (if b then 0 else g v (local v))
put-if w v local l g true = refl
put-if w v local l g false = refl

pub others-put : (w : ℕ) (local : ℕ → Local) (l : Local) (g : ℕ → Local → ℕ) (n : ℕ) → sum_others w (λ v. g v (put local w l v)) n ≡ sum_others w (λ v. g v (local v)) n
others-put w local l g zero = refl
others-put w local l g (suc n) = omega (arith, others-put w local l g n, put-if w n local l g (n == w))

open-put : (x : Scene) (w n : ℕ) (l : Local) → open_count (with_workers x (put x.local w l)) w n ≡ open_count x w n
open-put x w n l = others-put w x.local l (λ v k. counted (is_open_at x k.place k.operation) 1) n

above-put : (x : Scene) (w n : ℕ) (l : Local) (s : ℕ) → open_above (with_workers x (put x.local w l)) w n s ≡ open_above x w n s
above-put x w n l s = others-put w x.local l (λ v k. counted (is_open_at x k.place k.operation && nat_lt (top x s) (top x (swap_of k.operation))) 1) n

left-put : (x : Scene) (w n : ℕ) (l k : Local) (place : Place) → left_by_others (with_workers x (put x.local w l)) w n k place ≡ left_by_others x w n k place
left-put x w n l k place = others-put w x.local l (λ v o. left_by x (is_over_at x k place) k place v o) n

allowed-put : (x : Scene) (w n : ℕ) (l : Local) → allowed_by_others (with_workers x (put x.local w l)) w n ≡ allowed_by_others x w n
allowed-put x w n l = others-put w x.local l (λ v k. counted (is_busy k.place) for_worker) n

pub budget-put : (x : Scene) (w n : ℕ) (l k : Local) (place : Place) → budget_at (with_workers x (put x.local w l)) w n k place ≡ budget_at x w n k place
budget-put x w n l k place =
    λ i. if is_fresh_at x k.current place
    then fresh_of x (open-put x w n l i) (λ s. above-put x w n l s i) (left-put x w n l k place i) k place
    else allowed-put x w n l i + for_stale + stale_at x k.current place

put-here : (local : ℕ → Local) (w : ℕ) (l : Local) → put local w l w ≡ l
put-here local w l = by_test (w == w) refl
  where
    by_test : (b : Bool) → (w == w) ≡ b → (if b then l else local w) ≡ l
    by_test true told = refl
    by_test false told = absurd (grind (arith, common_steps, told))

-- the scene after an act of w, but for w itself
abbrev pub scene_after : State → ℕ → Scene
scene_after x w = scene x.entries (stepped x w).memory.cached (stepped x w).memory.status x.local

pub budget-acted : (x : State) (w n : ℕ) → budget (happens x (Act w)) w n ≡ budget_at (scene_after x w) w n (stepped x w).local (stepped x w).local.place
budget-acted x w n =
    ap (λ (k : Local). budget_at (scene_of (happens x (Act w))) w n k k.place) (put-here x.local w (stepped x w).local)
    ∙ budget-put (scene_after x w) w n (stepped x w).local (stepped x w).local (stepped x w).local.place

pub budget-started : (x : State) (w n : ℕ) (l : Local) → budget (record x { local = put x.local w l }) w n ≡ budget_at (scene_of x) w n l l.place
budget-started x w n l =
    ap (λ (k : Local). budget_at (with_workers (scene_of x) (put x.local w l)) w n k k.place) (put-here x.local w l)
    ∙ budget-put (scene_of x) w n l l l.place
