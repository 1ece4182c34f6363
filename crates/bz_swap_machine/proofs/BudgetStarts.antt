-- The start of an operation that is one act, or of a read, adds what it allows.
use Rattle.std.proofs.Common.{◌≡◌, ℕ, ◌+◌, ◌≤◌, arith, refl, ap, sym, subst, None}
use Rattle.bz_swap_machine.specs.declared.place.Place.{Place}
use Rattle.bz_swap_machine.specs.declared.place.Place.TheVariants.{Idle, ReadWord, StoreWord, AskLine}
use Rattle.bz_swap_machine.specs.declared.worker.Operation.TheVariants.{Nothing, Reading}
use Rattle.bz_swap_machine.specs.Allowed.{for_act, for_word, for_flush}
use Rattle.bz_swap_machine.specs.Changes.{put}
use Rattle.bz_swap_machine.specs.Budget.{open_count, open_above, walk_at, if_any, reserve_by, reserve, detour, own_missing_by, own_missing, left_at, left_by_others, for_walks, fresh_budget, budget_at, budget}
use Rattle.bz_swap_machine.specs.Budgets.{StartsAddAllowed, AddsByKind, StartsAddByKind, EvictionsKeepBudgets}
use Rattle.bz_swap_machine.specs.Owners.{RestsAt, AreOwned}
use Rattle.bz_swap_machine.specs.Standing.{Scene, scene_of}
use Rattle.bz_swap_machine.specs.State.{State}
use Rattle.bz_swap_machine.specs.Steps.{Local}
use Rattle.bz_swap_machine.proofs.Scenes.{budget-started}

-- only what is left rises, by so much at most
so_much-more : (a b c d e f r b' c' d' e' f' r' j : ℕ) → b' ≡ b → c' ≡ c → d' ≡ d → e' ≡ e → r' ≡ r → f' ≤ f + j → a + b' + c' + d' + e' + f' + r' ≤ (a + b + c + d + e + f + r) + j
so_much-more a b c d e f r b' c' d' e' f' r' j h1 h2 h3 h4 h5 h6 = omega (arith, h1, h2, h3, h4, h5, h6)

here-rises : (x : Scene) (w n : ℕ) (l k : Local) (p q : Place) (j : ℕ) → walk_at x (open_count x w n) (open_above x w n) k q ≡ walk_at x (open_count x w n) (open_above x w n) l p
    → reserve q k.operation (open_count x w n) ≡ reserve p l.operation (open_count x w n) → detour x (open_count x w n) k q ≡ detour x (open_count x w n) l p → own_missing x q k.operation ≡ own_missing x p l.operation
    → left_by_others x w n k q ≡ left_by_others x w n l p → left_at q ≤ left_at p + j → fresh_budget x w n k q ≤ fresh_budget x w n l p + j
here-rises x w n l k p q j walk kept off own rest rises =
    so_much-more (for_walks (open_count x w n)) (walk_at x (open_count x w n) (open_above x w n) l p) (reserve p l.operation (open_count x w n)) (detour x (open_count x w n) l p) (own_missing x p l.operation) (left_at p) (left_by_others x w n l p)
    (walk_at x (open_count x w n) (open_above x w n) k q) (reserve q k.operation (open_count x w n)) (detour x (open_count x w n) k q) (own_missing x q k.operation) (left_at q) (left_by_others x w n k q) j walk kept off own rest rises

-- from a worker that is idle
started : (x : State) (w n : ℕ) (l : Local) (j : ℕ) → (x.local w).place ≡ Idle → budget_at (scene_of x) w n l l.place ≤ budget_at (scene_of x) w n (x.local w) Idle + j → budget (record x { local = put x.local w l }) w n ≤ budget x w n + j
started x w n l j idle rises = subst (λ k. k ≤ budget x w n + j) (sym (budget-started x w n l)) (subst (λ (p : Place). budget_at (scene_of x) w n l l.place ≤ budget_at (scene_of x) w n (x.local w) p + j) (sym idle) rises)

resting : (x : State) (w : ℕ) → AreOwned x → (x.local w).place ≡ Idle → (x.local w).operation ≡ Nothing
resting x w own idle = subst (λ (p : Place). RestsAt p (x.local w).operation) idle (own.rests w)

pub starts_add_by_kind : StartsAddByKind
starts_add_by_kind x w n own idle = record {
  read = λ a. started x w n (record (x.local w) { operation = Reading a; place = ReadWord a; back = None }) for_word idle
      (here-rises (scene_of x) w n (x.local w) (record (x.local w) { operation = Reading a; place = ReadWord a; back = None }) Idle (ReadWord a) for_word refl refl refl refl refl (omega arith));
  store = λ a v. started x w n (record (x.local w) { place = StoreWord a v }) for_word idle
      (here-rises (scene_of x) w n (x.local w) (record (x.local w) { place = StoreWord a v }) Idle (StoreWord a v) for_word refl (ap (λ o. reserve_by o (if_any (open_count (scene_of x) w n))) (resting x w own idle)) refl
      (ap (λ o. own_missing_by (scene_of x) o) (resting x w own idle)) refl (omega arith));
  flush = λ line. started x w n (record (x.local w) { place = AskLine line }) for_flush idle
      (here-rises (scene_of x) w n (x.local w) (record (x.local w) { place = AskLine line }) Idle (AskLine line) for_flush refl (ap (λ o. reserve_by o (if_any (open_count (scene_of x) w n))) (resting x w own idle)) refl
      (ap (λ o. own_missing_by (scene_of x) o) (resting x w own idle)) refl (omega arith));
}

one-more : (a b : ℕ) → a ≤ b + for_word → a ≤ b + for_act
one-more a b f = omega (arith, f)

pub starts_add_allowed : StartsAddAllowed
starts_add_allowed x w n own idle =
    let adds : AddsByKind x w n = starts_add_by_kind x w n own idle in
    record { read = λ a. one-more _ (budget x w n) (adds.read a); store = λ a v. one-more _ (budget x w n) (adds.store a v); flush = adds.flush }

pub evictions_keep_budgets : EvictionsKeepBudgets
evictions_keep_budgets x w n = record { word = λ a. refl; status = λ s. refl; field = λ s k. refl }
