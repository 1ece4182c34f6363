-- The prices of a clean round: what a leaf costs that lacks room, and a round from its begin on.
use Rattle.std.proofs.Common.{◌≡◌, ℕ, ◌+◌, ◌<◌, ◌≤◌, if◌then◌else◌, ◌&&◌, max, Bool, true, false, arith, ap, refl, ◌∙◌}
use Rattle.std.specs.Prelude.{not, nat_lt, nat_le}
use Rattle.std.proofs.lemmas.Bool.Decides.{nat_tests}
use Rattle.bz_call.specs.Map.{key_of}
use Rattle.bz_content.specs.Content.{image_of}
use Rattle.bz_joined.specs.FromStage.Neighbours.{leaf_page}
use Rattle.bz_costs.specs.Resources.{Resource}
use Rattle.bz_costs.specs.Costs.{HigherStagesCostMore, StretchesAreTheMost}
use Rattle.bz_costs.specs.Most.{most_of_find, most_of_leaf, most_of_freeze, most_of_copy}
use Rattle.bz_costs.specs.Stretches.{cost_of_look_up, cost_of_view, cost_of_change, cost_from, top_stage, cost_viewed_at, solo_stretch}
use Rattle.bz_layout.specs.declared.config.Config.{Config}
use Rattle.bz_layout.specs.declared.sizes.TheConstants.{SHARED_WORDS}
use Rattle.bz_costs.specs.FromRunning.Kinds as kinds
use Rattle.bz_slotted.specs.Page.{Page}
use Rattle.bz_joined.specs.FromStage.Rooms.{words_taken, is_crowded}
use Rattle.bz_joined.specs.FromStage.Stages.{frozen_stage, stage_of, stage_in}
use Rattle.bz_solo.proofs.Coming.{either, two-ways, comes-within}
use Rattle.bz_solo.specs.Errands.{Errand, words_asked}
use Rattle.bz_solo.specs.declared.rest.Rest.{Rest}
use Rattle.bz_solo.specs.declared.rest.Rest.TheVariants as rest
use Rattle.bz_solo.specs.Prices.{Prices, viewed_price, clean_prices, prices_in, way_price, coming_by_rest, round_price}

-- the stage of a frozen leaf is not 0
pub frozen-lacks : (leaf : Page) (full words : ℕ) → leaf.frozen ≡ true → 1 ≤ stage_of leaf full words
frozen-lacks leaf full words frozen = omega (arith, is)
  where
    is : stage_of leaf full words ≡ frozen_stage leaf full
    is = ap (λ (b : Bool). if not b && nat_le (words_taken leaf + words) SHARED_WORDS then 0 else if b then frozen_stage leaf full else 1 + frozen_stage leaf full) frozen

pub ready-thawed : (leaf : Page) (full words : ℕ) → stage_of leaf full words ≡ 0 → leaf.frozen ≡ false
ready-thawed leaf full words ready = two-ways leaf.frozen _ (λ frozen. absurd (omega (arith, ready, frozen-lacks leaf full words frozen))) (λ thawed. thawed)

-- a leaf without room, by what is known of it
abbrev price-for : Resource → Bool → Bool → Bool → ℕ → ℕ
price-for r alone frozen crowded stage = if alone && (frozen && not crowded) then most_of_copy r + cost_from r 0 else cost_viewed_at r frozen stage

thawed-for : (r : Resource) (alone crowded : Bool) (stage : ℕ) → price-for r alone false crowded stage ≡ cost_viewed_at r false stage
thawed-for r true crowded stage = refl
thawed-for r false crowded stage = refl

pub viewed-thawed : (r : Resource) (alone : Bool) (leaf : Page) (stage : ℕ) → leaf.frozen ≡ false → viewed_price r alone leaf stage ≡ cost_viewed_at r false stage
viewed-thawed r alone leaf stage thawed = ap (λ (b : Bool). price-for r alone b (is_crowded leaf) stage) thawed ∙ thawed-for r alone (is_crowded leaf) stage

large-for : (r : Resource) (alone : Bool) (stage : ℕ) → price-for r alone true true stage ≡ cost_viewed_at r true stage
large-for r true stage = refl
large-for r false stage = refl

pub viewed-large : (r : Resource) (alone : Bool) (leaf : Page) (stage : ℕ) → leaf.frozen ≡ true → is_crowded leaf ≡ true → viewed_price r alone leaf stage ≡ cost_viewed_at r true stage
viewed-large r alone leaf stage frozen many =
    ap (λ (b : Bool). price-for r alone b (is_crowded leaf) stage) frozen ∙ ap (λ (b : Bool). price-for r alone true b stage) many ∙ large-for r alone stage

-- one that is small enough: it is to be copied alone, or may be merged
pub viewed-small : (r : Resource) (alone : Bool) (leaf : Page) (stage : ℕ) → leaf.frozen ≡ true → is_crowded leaf ≡ false → viewed_price r alone leaf stage ≡ (if alone then most_of_copy r + cost_from r 0 else cost_viewed_at r true stage)
viewed-small r alone leaf stage frozen few = ap (λ (b : Bool). price-for r alone b (is_crowded leaf) stage) frozen ∙ ap (λ (b : Bool). price-for r alone true b stage) few ∙ small-for alone
  where
    small-for : (alone : Bool) → price-for r alone true false stage ≡ (if alone then most_of_copy r + cost_from r 0 else cost_viewed_at r true stage)
    small-for true = refl
    small-for false = refl

-- what is read whole is what is viewed, where the stage is not 0
pub less : (a b : ℕ) → a < b → nat_lt a b ≡ true
less a b l = grind (arith, nat_tests)

pub some-read : (viewed ready stage : ℕ) → 0 < stage → (if nat_lt 0 stage then viewed else ready) ≡ viewed
some-read viewed ready stage some = ap (λ (b : Bool). if b then viewed else ready) (less 0 stage some)

pub none-read : (viewed ready stage : ℕ) → stage ≡ 0 → (if nat_lt 0 stage then viewed else ready) ≡ ready
none-read viewed ready stage none = ap (λ (n : ℕ). if nat_lt 0 n then viewed else ready) none

-- the laws of costs on which all this rests
pub record Laws (r : Resource) : Type 0 where
  pub higher : HigherStagesCostMore r
  pub most : StretchesAreTheMost r

-- no leaf costs more than a freeze and a round at the greatest stage that counts
at-most : (r : Resource) (viewed from : ℕ) → cost_of_look_up r + max (cost_of_change r) (most_of_leaf r + viewed) ≤ cost_of_view r + most_of_freeze r + from → viewed ≤ most_of_freeze r + from
at-most r viewed from l = omega (arith, l)

copied-within : (r : Resource) (one from : ℕ) → cost_from r 0 + (cost_of_view r + most_of_copy r) ≤ one → one ≤ from → most_of_copy r + cost_from r 0 ≤ most_of_freeze r + from
copied-within r one from l h = omega (arith, l, h)

viewed-within : (r : Resource) → Laws r → (alone : Bool) (leaf : Page) (stage : ℕ) → viewed_price r alone leaf stage ≤ most_of_freeze r + cost_from r top_stage
viewed-within r b alone leaf stage =
    either (alone && (leaf.frozen && not (is_crowded leaf))) _ _ _
    (copied-within r (cost_from r (0 + 1)) (cost_from r top_stage) (b.higher.round 0) (b.higher.from (0 + 1) top_stage (omega arith)))
    (at-most r (cost_viewed_at r leaf.frozen stage) (cost_from r top_stage) (b.most.stage leaf.frozen stage))

-- and so no round costs more than a stretch
way-within : (r : Resource) (q : Prices) (e : Errand) (from : ℕ) → q.viewed ≤ most_of_freeze r + from → q.read ≤ most_of_freeze r + from → cost_from r 0 ≤ from → way_price r q e ≤ most_of_find r + (most_of_leaf r + (most_of_freeze r + from))
way-within r q e from viewed read last = either e.froze _ _ _ (omega (arith, read)) (omega (arith, viewed, last))

-- nor does what may come after a change
rest-within : (r : Resource) (left : Rest) (from : ℕ) → cost_from r 0 ≤ from → coming_by_rest r left ≤ most_of_find r + (most_of_leaf r + (most_of_freeze r + from))
rest-within r rest.Leaf from last = omega (arith, last)
rest-within r rest.Inner from last = omega (arith, last)
rest-within r rest.Root from last = omega (arith, last)

from-within : (r : Resource) (q : Prices) (e : Errand) (from : ℕ) → q.viewed ≤ most_of_freeze r + from → q.read ≤ most_of_freeze r + from → cost_from r 0 ≤ from → round_price r q e ≤ cost_of_view r + most_of_freeze r + from
from-within r q e from viewed read last = omega (arith, comes-within r q e kinds.Seek (most_of_find r + (most_of_leaf r + (most_of_freeze r + from))) (rest-within r e.rest from last) (omega arith) (way-within r q e from viewed read last))

last-within : (r : Resource) (from : ℕ) → cost_from r 0 ≤ from → cost_from r 0 ≤ most_of_freeze r + from
last-within r from l = omega (arith, l)

clean-within : (r : Resource) → Laws r → (e : Errand) (leaf : Page) (stage : ℕ) → round_price r (clean_prices r e.alone leaf stage) e ≤ solo_stretch r
clean-within r b e leaf stage = from-within r (clean_prices r e.alone leaf stage) e (cost_from r top_stage) viewed (either (nat_lt 0 stage) _ _ _ viewed (last-within r (cost_from r top_stage) last)) last
  where
    viewed : viewed_price r e.alone leaf stage ≤ most_of_freeze r + cost_from r top_stage
    viewed = viewed-within r b e.alone leaf stage

    last : cost_from r 0 ≤ cost_from r top_stage
    last = b.higher.from 0 top_stage (omega arith)

pub round-within : (r : Resource) → Laws r → (c : Config) (image : ℕ → ℕ) (e : Errand) → round_price r (prices_in r c image e) e ≤ solo_stretch r
round-within r b c image e = clean-within r b e (leaf_page c (image_of image) (key_of e.call)) (stage_in c image (key_of e.call) (words_asked e.call))
