-- What may still come of a call, by whether it has had its effect and whether it changes anything; and that it is no more where each price is no
-- more. The rest of a disturbed round costs no more than what might have come in the clean one.
use Rattle.std.proofs.Common.{◌≡◌, ℕ, ◌+◌, ◌-◌, ◌*◌, ◌<◌, ◌≤◌, if◌then◌else◌, Bool, true, false, arith, inl, inr}
use Rattle.std.specs.Prelude.{nat_lt, max}
use Rattle.std.proofs.lemmas.Bool.{cases_lt}
use Rattle.std.proofs.lemmas.Bool.Decides.{nat_tests}
use Rattle.bz_costs.specs.Resources.{Resource, Marks}
use Rattle.bz_costs.specs.Costs.{HigherStagesCostMore, StretchesAreTheMost}
use Rattle.bz_costs.specs.Failing.{cost_of_lost_inner}
use Rattle.bz_costs.specs.Most.{most_of_seek, most_of_find, most_of_leaf, most_of_copy, most_of_insert, most_of_update, most_of_delete, most_of_below}
use Rattle.bz_costs.specs.Splits.{cost_after_inner}
use Rattle.bz_costs.specs.Stretches.{cost_after_delete, cost_of_change, cost_once_viewed, cost_from, cost_at, top_stage}
use Rattle.bz_layout.specs.declared.thresholds.TheConstants.{MAX_LEVELS}
use Rattle.bz_costs.specs.FromRunning.Kinds as kinds
use Rattle.bz_costs.specs.FromRunning.Kinds.{Kind, level_of}
use Rattle.bz_slotted.specs.Page.{Page}
use Rattle.bz_solo.specs.Errands.{Errand, is_read, after}
use Rattle.bz_solo.specs.Prices.{Prices, disturbed_prices, viewed_price, clean_prices, way_price, coming_to_read, coming_to_write, coming_after, coming}

-- by whether it has had its effect, and changes nothing
abbrev pub by_tests : Bool → Bool → ℕ → ℕ → ℕ → ℕ
by_tests effected reads last read write = if effected then last else if reads then read else write

rises-by : (effected reads : Bool) (last read write more : ℕ) → write ≤ more → by_tests effected reads last read write ≤ by_tests effected reads last read more
rises-by true reads last read write more l = omega arith
rises-by false true last read write more l = omega arith
rises-by false false last read write more l = l

pub coming-rises : (r : Resource) (q x : Prices) (e : Errand) (k : Kind) → coming_to_write r q e k ≤ coming_to_write r x e k → coming r q e k ≤ coming r x e k
coming-rises r q x e k l = rises-by e.effected (is_read e.call) (coming_after r e.rest k) (coming_to_read r k) (coming_to_write r q e k) (coming_to_write r x e k) l

-- the prices where another's swap took effect, and others of which none is lower
pub record IsNoMore (q x : Prices) : Type 0 where
  pub viewed : q.viewed ≤ x.viewed
  pub read : q.read ≤ x.read
  pub froze : q.froze ≤ x.froze
  pub renewed : q.renewed ≤ x.renewed
  pub below : q.below ≤ x.below
  pub inner : (level : ℕ) → q.inner level ≤ x.inner level
  pub merged : q.merged ≤ x.merged

found-rises : (change leaf v w : ℕ) → v ≤ w → max change (leaf + v) ≤ max change (leaf + w)
found-rises change leaf v w l = omega (arith, l)

way-rises : (froze : Bool) (leaf find change read more v w : ℕ) → read ≤ more → v ≤ w → (if froze then leaf + read else (find + max change (leaf + v))) ≤ (if froze then leaf + more else (find + max change (leaf + w)))
way-rises true leaf find change read more v w l m = omega (arith, l)
way-rises false leaf find change read more v w l m = omega (arith, m)

same : (n : ℕ) → n ≤ n
same n = omega arith

pub least : (n : ℕ) → 0 ≤ n
least n = omega arith

written-rises : (r : Resource) (q x : Prices) (e : Errand) (k : Kind) → IsNoMore q x → coming_to_write r q e k ≤ coming_to_write r x e k
written-rises r q x e kinds.Seek h = way-rises e.froze (most_of_leaf r) (most_of_find r) (cost_of_change r) q.read x.read q.viewed x.viewed h.read h.viewed
written-rises r q x e kinds.Find h = found-rises (cost_of_change r) (most_of_leaf r) q.viewed x.viewed h.viewed
written-rises r q x e kinds.ReadWhole h = h.read
written-rises r q x e kinds.Insert h = least 0
written-rises r q x e kinds.Update h = least 0
written-rises r q x e kinds.Delete h = same (cost_after_delete r)
written-rises r q x e kinds.Freeze h = h.froze
written-rises r q x e kinds.Copy h = h.renewed
written-rises r q x e kinds.SplitRootLeaf h = h.renewed
written-rises r q x e (kinds.SplitLeaf a) h = h.below
written-rises r q x e (kinds.SplitNode a) h = h.inner (level_of a)
written-rises r q x e (kinds.SplitRootNode a) h = h.inner (level_of a)
written-rises r q x e kinds.Merge h = h.merged
written-rises r q x e kinds.MergeNodes h = least 0
written-rises r q x e kinds.LowerRoot h = least 0

pub all-rises : (r : Resource) (q x : Prices) (e : Errand) (k : Kind) → IsNoMore q x → coming r q e k ≤ coming r x e k
all-rises r q x e k h = coming-rises r q x e k (written-rises r q x e k h)

-- whichever way a test goes
pick : (b : Bool) (n x y : ℕ) → n ≤ x → n ≤ y → n ≤ (if b then x else y)
pick true n x y l m = l
pick false n x y l m = m

copied-least : (copy look change leaf v : ℕ) → v ≤ copy + (look + max change (leaf + v))
copied-least copy look change leaf v = omega arith

pub viewed-least : (r : Resource) → StretchesAreTheMost r → (alone : Bool) (leaf : Page) (stage : ℕ) → cost_once_viewed r 0 ≤ viewed_price r alone leaf stage
viewed-least r law alone leaf stage = pick _ (cost_once_viewed r 0) _ _ (copied-least (most_of_copy r) (most_of_seek r + most_of_find r) (cost_of_change r) (most_of_leaf r) (cost_once_viewed r 0)) (law.viewed leaf.frozen stage)

last-least : (look change leaf v : ℕ) → v ≤ look + max change (leaf + v)
last-least look change leaf v = omega arith

less : (a b : ℕ) → a < b → nat_lt a b ≡ true
less a b l = grind (arith, nat_tests)

taken : (a b c : ℕ) → a ≤ b → a - c ≤ b - c
taken a b c l = omega (arith, l)

both : (a b c : ℕ) → a ≤ b → b ≤ c → a ≤ c
both a b c l m = omega (arith, l, m)

-- all splits that find no room cost less than a last round
lost-few : (r : Resource) (level : ℕ) → cost_of_lost_inner r * (MAX_LEVELS - 1 - level) ≤ cost_from r 0
lost-few Marks level = omega arith
lost-few r level = omega arith

added : (a b c : ℕ) → a ≤ c → a ≤ b + c
added a b c l = omega (arith, l)

lost-none : (r : Resource) (level : ℕ) → top_stage ≤ level → cost_of_lost_inner r * (MAX_LEVELS - 1 - level) ≤ 0
lost-none Marks level l = omega (arith, l)
lost-none r level l = omega (arith, l)

inner-least : (r : Resource) → HigherStagesCostMore r → (level stage : ℕ) → cost_of_lost_inner r * (MAX_LEVELS - 1 - level) ≤ (if nat_lt level top_stage then cost_after_inner r level stage else 0)
inner-least r more level stage = elim (cases_lt level top_stage) [
  | inl l ↦ simp (less level top_stage l) (added _ _ _ (both _ _ _ (lost-few r level) (more.from 0 _ (least _))))
  | inr l ↦ both _ _ _ (lost-none r level l) (least _)
]

pub disturbed-least : (r : Resource) → StretchesAreTheMost r → HigherStagesCostMore r → (alone : Bool) (leaf : Page) (stage : ℕ) → IsNoMore (disturbed_prices r) (clean_prices r alone leaf stage)
disturbed-least r law more alone leaf stage = record {
  viewed = viewed-least r law alone leaf stage;
  read = pick (nat_lt 0 stage) (cost_once_viewed r 0) (viewed_price r alone leaf stage) (cost_from r 0) (viewed-least r law alone leaf stage) (last-least (most_of_seek r + most_of_find r) (cost_of_change r) (most_of_leaf r) (cost_once_viewed r 0));
  froze = least (cost_at r true (stage - 1));
  renewed = least (cost_from r 0);
  below = taken (cost_once_viewed r 0) _ (most_of_below r) (law.viewed true stage);
  inner = λ level. inner-least r more level stage;
  merged = least _;
}

-- the next round pays for the rest of this one
next-way : (froze : Bool) (seek leaf find change v w : ℕ) → v ≤ w → (if froze then leaf + v else (find + max change (leaf + v))) ≤ seek + (find + max change (leaf + w))
next-way true seek leaf find change v w l = omega (arith, l)
next-way false seek leaf find change v w l = omega (arith, l)

next-found : (seek leaf find change v w : ℕ) → v ≤ w → max change (leaf + v) ≤ seek + (find + max change (leaf + w))
next-found seek leaf find change v w l = omega (arith, l)

next-viewed : (seek leaf find change v w taken : ℕ) → v ≤ w → v - taken ≤ seek + (find + max change (leaf + w))
next-viewed seek leaf find change v w taken l = omega (arith, l)

next-read : (seek leaf find change v w : ℕ) → v ≤ w → v ≤ seek + (find + max change (leaf + w))
next-read seek leaf find change v w l = omega (arith, l)

next-deleted : (seek find most delete later w : ℕ) → later ≤ seek + (find + max (max most (delete + later)) w)
next-deleted seek find most delete later w = omega arith

next-lost : (lost seek leaf find change v w : ℕ) → lost ≤ seek + find + max change (leaf + v) → v ≤ w → lost ≤ seek + (find + max change (leaf + w))
next-lost lost seek leaf find change v w l m = omega (arith, l, m)

pub next-pays : (r : Resource) → StretchesAreTheMost r → (e : Errand) (k : Kind) (alone : Bool) (leaf : Page) (stage : ℕ) → coming_to_write r (disturbed_prices r) e k ≤ most_of_seek r + way_price r (clean_prices r alone leaf stage) (after e k)
next-pays r law e kinds.Seek alone leaf stage = next-way e.froze (most_of_seek r) (most_of_leaf r) (most_of_find r) (cost_of_change r) (cost_once_viewed r 0) _ (viewed-least r law alone leaf stage)
next-pays r law e kinds.Find alone leaf stage = next-found (most_of_seek r) (most_of_leaf r) (most_of_find r) (cost_of_change r) (cost_once_viewed r 0) _ (viewed-least r law alone leaf stage)
next-pays r law e kinds.ReadWhole alone leaf stage = next-read (most_of_seek r) (most_of_leaf r) (most_of_find r) (cost_of_change r) (cost_once_viewed r 0) _ (viewed-least r law alone leaf stage)
next-pays r law e kinds.Insert alone leaf stage = least _
next-pays r law e kinds.Update alone leaf stage = least _
next-pays r law e kinds.Delete alone leaf stage = next-deleted (most_of_seek r) (most_of_find r) (max (most_of_insert r) (most_of_update r)) (most_of_delete r) (cost_after_delete r) _
next-pays r law e kinds.Freeze alone leaf stage = least _
next-pays r law e kinds.Copy alone leaf stage = least _
next-pays r law e kinds.SplitRootLeaf alone leaf stage = least _
next-pays r law e (kinds.SplitLeaf a) alone leaf stage = next-viewed (most_of_seek r) (most_of_leaf r) (most_of_find r) (cost_of_change r) (cost_once_viewed r 0) _ (most_of_below r) (viewed-least r law alone leaf stage)
next-pays r law e (kinds.SplitNode a) alone leaf stage = next-lost _ (most_of_seek r) (most_of_leaf r) (most_of_find r) (cost_of_change r) (cost_once_viewed r 0) _ (lost-few r (level_of a)) (viewed-least r law alone leaf stage)
next-pays r law e (kinds.SplitRootNode a) alone leaf stage = next-lost _ (most_of_seek r) (most_of_leaf r) (most_of_find r) (cost_of_change r) (cost_once_viewed r 0) _ (lost-few r (level_of a)) (viewed-least r law alone leaf stage)
next-pays r law e kinds.Merge alone leaf stage = least _
next-pays r law e kinds.MergeNodes alone leaf stage = least _
next-pays r law e kinds.LowerRoot alone leaf stage = least _
