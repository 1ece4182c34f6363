-- What the round costs that comes after the last swap of a task that freezes a leaf or makes a node anew: by the stage of the key then.
use Rattle.std.proofs.Common.{◌≡◌, ℕ, zero, suc, ◌+◌, ◌-◌, ◌<◌, ◌≤◌, if◌then◌else◌, ◌&&◌, Bool, true, false, arith, refl, sym, ap, subst, ◌∙◌}
use Rattle.std.specs.Prelude.{not, nat_lt, max, min}
use Rattle.bz_costs.specs.Resources.{Resource, Marks}
use Rattle.bz_costs.specs.Costs.{HigherStagesCostMore, RoundsArePaid}
use Rattle.bz_costs.specs.Most.{most_of_seek, most_of_find, most_of_leaf, most_of_freeze, most_of_copy}
use Rattle.bz_costs.specs.Splits.{cost_after_below, cost_after_inner, SplitsArePaid}
use Rattle.bz_costs.specs.Stretches.{cost_of_view, cost_of_change, cost_of_renewal, cost_once_viewed, cost_from, cost_at, cost_viewed_at, top_stage}
use Rattle.bz_costs.specs.FromRunning.Kinds as kinds
use Rattle.bz_costs.specs.FromRunning.Kinds.{Kind}
use Rattle.bz_slotted.specs.Page.{Page}
use Rattle.bz_joined.specs.FromStage.Rooms.{is_crowded}
use Rattle.bz_joined.specs.FromStage.Stages.{stage_of}
use Rattle.bz_solo.specs.Errands.{Errand, is_read, is_freeze, after}
use Rattle.bz_solo.specs.Prices.{Prices, clean_prices, viewed_price, way_price, round_price}
use Rattle.bz_solo.proofs.Pricing.{frozen-lacks, less}
use Rattle.bz_solo.proofs.Coming.{comes-to-write}

-- the laws on which it rests
pub record Laws (r : Resource) : Type 0 where
  pub more : HigherStagesCostMore r
  pub rounds : RoundsArePaid r
  pub splits : SplitsArePaid r

-- what a leaf that was read whole costs at a stage that counts
renewal-some : (r : Resource) (k : ℕ) → most_of_freeze r ≤ cost_of_renewal r (suc k)
renewal-some Marks zero = omega arith
renewal-some Marks (suc k) = omega arith
renewal-some r zero = omega arith
renewal-some r (suc k) = omega arith

added : (a b c d : ℕ) → a ≤ b → c ≤ d → a + c ≤ b + d
added a b c d l m = omega (arith, l, m)

within : (r : Resource) (b : HigherStagesCostMore r) (low high : ℕ) → low ≤ high → cost_from r low ≤ cost_from r high
within r b low high l = b.from low high l

viewed-by : (r : Resource) → Laws r → (alone frozen crowded : Bool) (stage : ℕ) → (frozen ≡ true → 0 < stage) → stage ≤ top_stage → (if alone && (frozen && not crowded) then most_of_copy r + cost_from r 0 else cost_viewed_at r frozen stage) ≤ cost_once_viewed r stage
viewed-by r b true true false zero some l = absurd (omega (arith, some refl))
viewed-by r b true true false (suc k) some l = subst (λ z. most_of_copy r + cost_from r 0 ≤ cost_once_viewed r z) (next k) (b.rounds.copy k)
  where
    next : (k : ℕ) → k + 1 ≡ suc k
    next k = omega arith
viewed-by r b true true true stage some l = b.more.viewed (min stage top_stage) stage (omega arith)
viewed-by r b false true crowded stage some l = b.more.viewed (min stage top_stage) stage (omega arith)
viewed-by r b true false crowded zero some l = b.more.viewed 0 0 (omega arith)
viewed-by r b true false crowded (suc k) some l = added _ _ _ _ (renewal-some r k) (b.more.from (min k top_stage) k (omega arith))
viewed-by r b false false crowded zero some l = b.more.viewed 0 0 (omega arith)
viewed-by r b false false crowded (suc k) some l = added _ _ _ _ (renewal-some r k) (b.more.from (min k top_stage) k (omega arith))

viewed-few : (r : Resource) → Laws r → (alone : Bool) (leaf : Page) (full words : ℕ) → stage_of leaf full words ≤ top_stage → viewed_price r alone leaf (stage_of leaf full words) ≤ cost_once_viewed r (stage_of leaf full words)
viewed-few r b alone leaf full words l = viewed-by r b alone leaf.frozen (is_crowded leaf) (stage_of leaf full words) (frozen-lacks leaf full words) l

-- a round that looks its key up, from the begin on
looked : (seek find change leaf v w : ℕ) → v ≤ w → seek + (find + max change (leaf + v)) ≤ seek + find + max change (leaf + w)
looked seek find change leaf v w l = omega (arith, l)

round-is : (r : Resource) (q : Prices) (e : Errand) → e.effected ≡ false → is_read e.call ≡ false → round_price r q e ≡ most_of_seek r + way_price r q e
round-is r q e f x = ap (λ z. most_of_seek r + z) (comes-to-write r q e kinds.Seek f x)

way-looked : (r : Resource) (q : Prices) (e : Errand) (k : Kind) → is_freeze k ≡ false → way_price r q (after e k) ≡ most_of_find r + max (cost_of_change r) (most_of_leaf r + q.viewed)
way-looked r q e k f = ap (λ (b : Bool). if b then most_of_leaf r + q.read else (most_of_find r + max (cost_of_change r) (most_of_leaf r + q.viewed))) f

way-read : (r : Resource) (q : Prices) (e : Errand) (k : Kind) → is_freeze k ≡ true → way_price r q (after e k) ≡ most_of_leaf r + q.read
way-read r q e k f = ap (λ (b : Bool). if b then most_of_leaf r + q.read else (most_of_find r + max (cost_of_change r) (most_of_leaf r + q.viewed))) f

pub round-few : (r : Resource) → Laws r → (e : Errand) (k : Kind) (alone : Bool) (leaf : Page) (full words : ℕ) → e.effected ≡ false → is_read e.call ≡ false → is_freeze k ≡ false → stage_of leaf full words ≤ top_stage →
    round_price r (clean_prices r alone leaf (stage_of leaf full words)) (after e k) ≤ cost_from r (stage_of leaf full words)
round-few r b e k alone leaf full words f x z l =
    subst (λ n. n ≤ cost_from r (stage_of leaf full words))
    (sym (round-is r (clean_prices r alone leaf (stage_of leaf full words)) (after e k) f x ∙ ap (λ n. most_of_seek r + n) (way-looked r (clean_prices r alone leaf (stage_of leaf full words)) e k z)))
    (looked (most_of_seek r) (most_of_find r) (cost_of_change r) (most_of_leaf r) _ _ (viewed-few r b alone leaf full words l))

-- one after a freeze, which has left the leaf frozen and lowered the stage
froze-by : (r : Resource) → Laws r → (alone crowded : Bool) (stage high : ℕ) → 0 < stage → stage ≤ high → (if alone && (true && not crowded) then most_of_copy r + cost_from r 0 else cost_viewed_at r true stage) ≤ cost_viewed_at r true high
froze-by r b true false zero high some l = absurd (omega (arith, some))
froze-by r b true false (suc k) zero some l = absurd (omega (arith, l))
froze-by r b true false (suc k) (suc n) some l = both _ _ _ (b.rounds.copy (min n (top_stage - 1))) (b.more.viewed (min n (top_stage - 1) + 1) (min (suc n) top_stage) (omega arith))
  where
    both : (x y z : ℕ) → x ≤ y → y ≤ z → x ≤ z
    both x y z l m = omega (arith, l, m)
froze-by r b true true stage high some l = b.more.viewed (min stage top_stage) (min high top_stage) (omega (arith, l))
froze-by r b false crowded stage high some l = b.more.viewed (min stage top_stage) (min high top_stage) (omega (arith, l))

-- of one above stage 0 the price to read it is that of one without room
read-is : (stage x y : ℕ) → 0 < stage → (if nat_lt 0 stage then x else y) ≡ x
read-is stage x y l = ap (λ (z : Bool). if z then x else y) (less 0 stage l)

read-few : (seek find change leaf v w : ℕ) → v ≤ w → seek + (leaf + v) ≤ seek + find + max change (leaf + w)
read-few seek find change leaf v w l = omega (arith, l)

pub froze-few : (r : Resource) → Laws r → (e : Errand) (alone : Bool) (leaf : Page) (full words before : ℕ) → e.effected ≡ false → is_read e.call ≡ false → leaf.frozen ≡ true → stage_of leaf full words + 1 ≤ before →
    round_price r (clean_prices r alone leaf (stage_of leaf full words)) (after e kinds.Freeze) ≤ cost_at r true (before - 1)
froze-few r b e alone leaf full words before f x frozen l =
    subst (λ n. n ≤ cost_at r true (before - 1))
    (sym (round-is r (clean_prices r alone leaf (stage_of leaf full words)) (after e kinds.Freeze) f x ∙ ap (λ n. most_of_seek r + (most_of_leaf r + n)) (read-is (stage_of leaf full words) (viewed_price r alone leaf (stage_of leaf full words)) (cost_from r 0) some)))
    (read-few (most_of_seek r) (most_of_find r) (cost_of_change r) (most_of_leaf r) (viewed_price r alone leaf (stage_of leaf full words)) (cost_viewed_at r true (before - 1)) viewed)
  where
    some : 0 < stage_of leaf full words
    some = frozen-lacks leaf full words frozen

    viewed : viewed_price r alone leaf (stage_of leaf full words) ≤ cost_viewed_at r true (before - 1)
    viewed =
        subst (λ (z : Bool). (if alone && (z && not (is_crowded leaf)) then most_of_copy r + cost_from r 0 else cost_viewed_at r z (stage_of leaf full words)) ≤ cost_viewed_at r true (before - 1)) (sym frozen)
        (froze-by r b alone (is_crowded leaf) (stage_of leaf full words) (before - 1) some (omega (arith, l)))

-- what comes once the leaf has room, and after the split of a node above
pub room-below : (r : Resource) → Laws r → (before : ℕ) → 0 < before → cost_from r 0 ≤ cost_after_below r before
room-below r b zero l = absurd (omega (arith, l))
room-below r b (suc n) l = subst (λ z. cost_from r 0 ≤ cost_after_below r z) (next n) (b.splits.room n)
  where
    next : (k : ℕ) → k + 1 ≡ suc k
    next k = omega arith

pub room-inner : (r : Resource) → Laws r → (level before now : ℕ) → level < top_stage → now < before → now < top_stage → cost_from r now ≤ (if nat_lt level top_stage then cost_after_inner r level before else 0)
room-inner r b level before now l m n = subst (λ (z : Bool). cost_from r now ≤ (if z then cost_after_inner r level before else 0)) (sym (less level top_stage l)) (b.splits.done level before now m n)

pub room-merged : (r : Resource) → cost_from r 0 ≤ cost_of_view r + (most_of_copy r + cost_from r 0)
room-merged r = last (cost_from r 0) (cost_of_view r) (most_of_copy r)
  where
    last : (a b c : ℕ) → a ≤ b + (c + a)
    last a b c = omega arith
