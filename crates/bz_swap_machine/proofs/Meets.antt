-- What a worker that meets another swap pays the visit by: the swaps between, the tag that stands there, or the detour.
use Rattle.std.proofs.Common.{◌≡◌, ◌≢◌, ◌==◌, ◌&&◌, not, nat_lt, ℕ, ◌+◌, ◌*◌, ◌≤◌, Bool, true, false, arith, refl, ap, sym, subst, ◌∙◌}
use Rattle.std.proofs.lemmas.Bool.{lt-ltb, ltb-true}
use Rattle.std.proofs.lemmas.Grind.{common_steps}
use Rattle.bz_word.specs.declared.kind.WordKind.TheVariants.{Tag}
use Rattle.bz_swap_machine.specs.declared.place.HelpStep.{HelpStep}
use Rattle.bz_swap_machine.specs.declared.place.HelpStep.TheVariants.{LookUnderTag, InstallPointer, RemoveTag}
use Rattle.bz_swap_machine.specs.declared.place.Place.{Place}
use Rattle.bz_swap_machine.specs.declared.place.Place.TheVariants.{Idle, Help}
use Rattle.bz_swap_machine.specs.declared.worker.Operation.{Operation}
use Rattle.bz_swap_machine.specs.Allowed.{counted}
use Rattle.bz_swap_machine.specs.Budget.{level, for_tag, open_count, open_above, walk_on, is_over_at, is_swept, tag_stands, left_by_help, left_by_place, left_by, left_by_others}
use Rattle.bz_swap_machine.specs.Budgets.{IsBounded}
use Rattle.bz_swap_machine.specs.Progress.{GoesOnWith, IsAtTag, IsHome}
use Rattle.bz_swap_machine.specs.Standing.{Scene, is_tag, is_decided, is_through, top, swap_of, is_open, scene_of}
use Rattle.bz_swap_machine.specs.State.{State}
use Rattle.bz_swap_machine.specs.Steps.{Local, is_own}
use Rattle.bz_swap_machine.proofs.Compared.{NoMore, one-less}
use Rattle.bz_swap_machine.proofs.Openers.{Opener, busy-below}
use Rattle.bz_swap_machine.proofs.SpendTries.{same-tag}
use Rattle.bz_swap_machine.proofs.Sums.{others-drop, counted-implied, counted-and}
use Rattle.bz_swap_machine.proofs.Visits.{lt-self, walk-undecided, walk-decided}

pub lt-trans : (a b c : ℕ) → nat_lt a b ≡ true → nat_lt b c ≡ true → nat_lt a c ≡ true
lt-trans a b c f g = lt-ltb a c (omega (arith, ltb-true a b f, ltb-true b c g))

lt-never : (a : ℕ) → nat_lt a a ≡ false
lt-never a = by_test (nat_lt a a) refl
  where
    by_test : (b : Bool) → nat_lt a a ≡ b → b ≡ false
    by_test false told = refl
    by_test true told = absurd (lt-self a told)

first-counts : (a b : Bool) → a ≡ true → b ≡ false → counted (a && b) 1 + 1 ≤ counted a 1
first-counts a b f g = rw (f, g) (omega arith)

second-counts : (a b c : Bool) → a ≡ true → b ≡ false → c ≡ true → counted (a && b) 1 + 1 ≤ counted (a && c) 1
second-counts a b c f g h = rw (f, g, h) (omega arith)

and-more : (a b c : Bool) → (b ≡ true → c ≡ true) → (a && b) ≡ true → (a && c) ≡ true
and-more true b c f is = f is
and-more false b c f is = is

-- an open swap is none of those above itself
pub above-count : (x : State) (w n t : ℕ) → Opener x w n t → open_above (scene_of x) w n t + 1 ≤ open_count (scene_of x) w n
above-count x w n t o =
    others-drop w o.worker (λ v. counted (is_open (scene_of x) v && nat_lt (top (scene_of x) t) (top (scene_of x) (swap_of (x.local v).operation))) 1) (λ v. counted (is_open (scene_of x) v) 1) 1 n (λ v. counted-and (is_open (scene_of x) v) _ 1) o.other o.below
    (first-counts (is_open (scene_of x) o.worker) _ o.unfinished (subst (λ (p : Operation). nat_lt (top (scene_of x) t) (top (scene_of x) (swap_of p)) ≡ false) (sym o.operation) (lt-never (top (scene_of x) t))))

-- and one of those above a lower one
pub above-above : (x : State) (w n c t : ℕ) → Opener x w n t → nat_lt (top (scene_of x) c) (top (scene_of x) t) ≡ true → open_above (scene_of x) w n t + 1 ≤ open_above (scene_of x) w n c
above-above x w n c t o higher =
    others-drop w o.worker (λ v. counted (is_open (scene_of x) v && nat_lt (top (scene_of x) t) (top (scene_of x) (swap_of (x.local v).operation))) 1)
    (λ v. counted (is_open (scene_of x) v && nat_lt (top (scene_of x) c) (top (scene_of x) (swap_of (x.local v).operation))) 1) 1 n
    (λ v. counted-implied _ _ 1 1 (and-more (is_open (scene_of x) v) _ _ (lt-trans (top (scene_of x) c) (top (scene_of x) t) (top (scene_of x) (swap_of (x.local v).operation)) higher)) (omega arith)) o.other o.below
    (second-counts (is_open (scene_of x) o.worker) _ _ o.unfinished (subst (λ (p : Operation). nat_lt (top (scene_of x) t) (top (scene_of x) (swap_of p)) ≡ false) (sym o.operation) (lt-never (top (scene_of x) t)))
    (subst (λ (p : Operation). nat_lt (top (scene_of x) c) (top (scene_of x) (swap_of p)) ≡ true) (sym o.operation) higher))

-- the walk from a visit to another's swap that is not through goes along those above it
pub walk-under : (x : State) (u : ℕ) (above : ℕ → ℕ) (l : Local) → is_own l.operation l.current ≡ false → is_through (scene_of x) l.current ≡ false → walk_on (scene_of x) u above l ≤ level * above l.current
walk-under x u above l own unfinished = by_decided (is_decided (x.memory.status l.current)) refl
  where
    by_decided : (b : Bool) → is_decided (x.memory.status l.current) ≡ b → walk_on (scene_of x) u above l ≤ level * above l.current
    by_decided true told = rw (walk-decided x.entries x.local x.memory u above l own unfinished told) (omega arith)
    by_decided false told = rw (walk-undecided x.entries x.local x.memory u above l own told) (omega arith)

-- the tag of another that stands for a swap that is through is not counted while that swap is visited
gone-counts : (c a s s' : Bool) → c ≡ true → a ≡ true → s ≡ false → s' ≡ true → counted (c && (a && not s')) for_tag + for_tag ≤ counted (c && (a && not s)) for_tag
gone-counts c a s s' f g h k = rw (f, g, h, k) (omega arith)

stands-drops : (y : Scene) (l k : Local) (p q : Place) (b b' : Bool) (v : ℕ) (o : Local) (j u z i t : ℕ) → j ≡ i → u ≡ v → z ≡ t → y.tag ((y.entries o.current).target i) o.current i v t ≡ true → is_swept b l p o.current i ≡ false → is_swept b' k q o.current i ≡ true
    → tag_stands y b' k q v o j u z + for_tag ≤ tag_stands y b l p v o j u z
stands-drops y l k p q b b' v o j u z i t entry worker number stands kept swept =
    let self : (u == v) ≡ true = grind (arith, common_steps, worker) in
    let stood : y.tag ((y.entries o.current).target j) o.current j v z ≡ true = rw (entry, number) stands in
    let before : is_swept b l p o.current j ≡ false = rw entry kept in
    let after : is_swept b' k q o.current j ≡ true = rw entry swept in
    gone-counts (u == v) (y.tag ((y.entries o.current).target j) o.current j v z) (is_swept b l p o.current j) (is_swept b' k q o.current j) self stood before after

help-drops : (y : Scene) (l k : Local) (p q : Place) (b b' : Bool) (v : ℕ) (o : Local) (step : HelpStep) (i t : ℕ) → GoesOnWith step i v t → y.tag ((y.entries o.current).target i) o.current i v t ≡ true → is_swept b l p o.current i ≡ false → is_swept b' k q o.current i ≡ true
    → left_by_help y b' k q v o step + for_tag ≤ left_by_help y b l p v o step
help-drops y l k p q b b' v o (LookUnderTag j u z) i t at stands kept swept = stands-drops y l k p q b b' v o j u z i t at.0 at.1 at.2 stands kept swept
help-drops y l k p q b b' v o (InstallPointer j u z) i t at stands kept swept = stands-drops y l k p q b b' v o j u z i t at.0 at.1 at.2 stands kept swept
help-drops y l k p q b b' v o (RemoveTag j u z) i t at stands kept swept = stands-drops y l k p q b b' v o j u z i t at.0 at.1 at.2 stands kept swept
help-drops y l k p q b b' v o step i t at stands kept swept = absurd at

place-drops : (y : Scene) (l k : Local) (p q : Place) (b b' : Bool) (v : ℕ) (o : Local) (place : Place) (i t : ℕ) → IsAtTag place i v t → y.tag ((y.entries o.current).target i) o.current i v t ≡ true → is_swept b l p o.current i ≡ false
    → is_swept b' k q o.current i ≡ true → left_by_place y b' k q v o place + for_tag ≤ left_by_place y b l p v o place
place-drops y l k p q b b' v o (Help step) i t at stands kept swept = help-drops y l k p q b b' v o step i t at stands kept swept
place-drops y l k p q b b' v o place i t at stands kept swept = absurd at

pub tag-drops : (y : Scene) (l k : Local) (p q : Place) (b b' : Bool) (v : ℕ) (o : Local) (i t : ℕ) → IsAtTag o.place i v t → y.tag ((y.entries o.current).target i) o.current i v t ≡ true → is_swept b l p o.current i ≡ false
    → is_swept b' k q o.current i ≡ true → left_by y b' k q v o + for_tag ≤ left_by y b l p v o
tag-drops y l k p q b b' v o i t at stands kept swept = omega (arith, place-drops y l k p q b b' v o o.place i t at stands kept swept)

idle-tag : (i v q : ℕ) → IsAtTag Idle i v q → ⊥
idle-tag i v q at = at

same-home : (x : State) (w t a i v q : ℕ) (p : Place) → IsHome (x.local v) v t i q → (x.local w).place ≡ p → (IsAtTag p i v q → ⊥) → (b : Bool) → (v == w) ≡ b → b ≡ false
same-home x w t a i v q p home at none false told = refl
same-home x w t a i v q p home at none true told =
    let same : v ≡ w = grind (arith, common_steps, told) in
    absurd (none (subst (λ p. IsAtTag p i v q) (ap (λ u. (x.local u).place) same ∙ at) home.place))

-- the tag of a swap that is met pays for the visit and the visit back
pub tag-pays : (x : State) (w n t a i v q : ℕ) (l k : Local) (p r : Place) → IsBounded x n → x.memory.cached a ≡ Tag t i v q → (x.local w).place ≡ p → (IsAtTag p i v q → ⊥)
    → NoMore x.entries x.local x.memory x.memory w l k p r → is_swept (is_over_at (scene_of x) l p) l p t i ≡ false → is_swept (is_over_at (scene_of x) k r) k r t i ≡ true
    → left_by_others (scene_of x) w n k r + for_tag ≤ left_by_others (scene_of x) w n l p
tag-pays x w n t a i v q l k p r bounded is at none fewer kept swept =
    let home : IsHome (x.local v) v t i q = bounded.tags a t i v q is in
    let busy : (x.local v).place ≢ Idle = λ idle. idle-tag i v q (subst (λ p. IsAtTag p i v q) idle home.place) in
    let target : (x.entries t).target i ≡ a = (bounded.state.sound.tag a t i v q is).target in
    let stands : is_tag (x.memory.cached ((x.entries t).target i)) t i v q ≡ true = ap (λ j. is_tag j t i v q) (ap x.memory.cached target ∙ is) ∙ same-tag t i v q in
    one-less x.entries x.local x.memory x.memory w n l k p r v for_tag fewer (same-home x w t a i v q p home at none (v == w) refl) (busy-below x n v bounded busy (nat_lt v n) refl)
    (tag-drops (scene_of x) l k p r (is_over_at (scene_of x) l p) (is_over_at (scene_of x) k r) v (x.local v) i q home.place
    (subst (λ s. is_tag (x.memory.cached ((x.entries s).target i)) s i v q ≡ true) (sym home.current) stands)
    (subst (λ s. is_swept (is_over_at (scene_of x) l p) l p s i ≡ false) (sym home.current) kept)
    (subst (λ s. is_swept (is_over_at (scene_of x) k r) k r s i ≡ true) (sym home.current) swept))
