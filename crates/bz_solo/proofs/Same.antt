-- One mark later, where no swap took effect: the key's leaf is frozen and crowded or not as it was, and the stage is the same. So the prices are.
use Rattle.std.proofs.Common.{◌≡◌, ℕ, ◌+◌, ◌-◌, if◌then◌else◌, ◌&&◌, Bool, true, List, arith, ap, ◌∙◌}
use Rattle.std.specs.Prelude.{not, nat_lt}
use Rattle.bz_joined.specs.FromAlone.Undisturbed.{IsUndisturbed}
use Rattle.bz_content.specs.Content.{image_of}
use Rattle.bz_joined.specs.FromStage.Neighbours.{leaf_page}
use Rattle.bz_costs.specs.Resources.{Resource}
use Rattle.bz_costs.specs.Most.{most_of_copy}
use Rattle.bz_costs.specs.Splits.{cost_after_below, cost_after_inner}
use Rattle.bz_costs.specs.Stretches.{cost_of_view, cost_from, cost_at, cost_viewed_at, top_stage}
use Rattle.bz_joined.specs.FromRounds.Stands.{SameStage}
use Rattle.bz_slotted.specs.Page.{Page}
use Rattle.bz_joined.specs.FromStage.Rooms.{is_crowded}
use Rattle.bz_joined.specs.FromStage.Stages.{stage_in}
use Rattle.bz_joined.proofs.FromRounds.Proved.{stages_stand}
use Rattle.bz_task.specs.Instant.{Instant}
use Rattle.bz_task.specs.Scene.{Past, Scene, IsScene, here}
use Rattle.bz_call.specs.Map.{key_of}
use Rattle.bz_solo.specs.Errands.{Errand, words_asked}
use Rattle.bz_solo.specs.Prices.{Prices, clean_prices, prices_in}
use Rattle.bz_solo.specs.Steps.{Adds, IsNext}

-- the leaf and the stage of a key now, in the one and in the other
pub record SameLeaf (p q : Past) (key : List ℕ) : Type 0 where
  pub frozen : (leaf_page q.config (image_of (q.at q.now).image) key).frozen ≡ (leaf_page p.config (image_of (p.at p.now).image) key).frozen
  pub crowded : is_crowded (leaf_page q.config (image_of (q.at q.now).image) key) ≡ is_crowded (leaf_page p.config (image_of (p.at p.now).image) key)
  pub stage : (words : ℕ) → stage_in q.config (q.at q.now).image key words ≡ stage_in p.config (p.at p.now).image key words

-- the prices of a clean round, by what they stand on
abbrev prices_by : Resource → Bool → Bool → Bool → ℕ → Prices
prices_by r alone frozen crowded stage = record {
  viewed = if alone && (frozen && not crowded) then most_of_copy r + cost_from r 0 else cost_viewed_at r frozen stage;
  read = if nat_lt 0 stage then (if alone && (frozen && not crowded) then most_of_copy r + cost_from r 0 else cost_viewed_at r frozen stage) else cost_from r 0;
  froze = cost_at r true (stage - 1);
  renewed = cost_from r 0;
  below = cost_after_below r stage;
  inner = λ level. if nat_lt level top_stage then cost_after_inner r level stage else 0;
  merged = cost_of_view r + (most_of_copy r + cost_from r 0);
}

clean-same : (r : Resource) (alone : Bool) (x y : Page) (n m : ℕ) → y.frozen ≡ x.frozen → is_crowded y ≡ is_crowded x → m ≡ n → clean_prices r alone y m ≡ clean_prices r alone x n
clean-same r alone x y n m f c s = λ i. prices_by r alone (f i) (c i) (s i)

pub prices-same : (r : Resource) (p q : Past) (e : Errand) → SameLeaf p q (key_of e.call) → prices_in r q.config (q.at q.now).image e ≡ prices_in r p.config (p.at p.now).image e
prices-same r p q e h =
    clean-same r e.alone (leaf_page p.config (image_of (p.at p.now).image) (key_of e.call)) (leaf_page q.config (image_of (q.at q.now).image) (key_of e.call)) (stage_in p.config (p.at p.now).image (key_of e.call) (words_asked e.call))
    (stage_in q.config (q.at q.now).image (key_of e.call) (words_asked e.call)) h.frozen h.crowded (h.stage (words_asked e.call))

-- how many effects there were when the look-up began does not change
began : (more : ℕ) (p q : Past) → Adds more p q → (q.at q.since).effects ≡ (p.at p.since).effects
began more p q a = ap (λ k. (q.at k).effects) a.continues.since ∙ ap (λ (x : Instant). x.effects) (a.continues.at p.since a.begun)

-- a worker is alone after its own swap, and where there was none
pub undisturbed-later : (made more : ℕ) (p q : Past) → Adds more p q → IsUndisturbed made p → IsUndisturbed (made + more) q
undisturbed-later made more p q a h = omega (arith, began more p q a, a.effects, h)

pub undisturbed-still : (made : ℕ) (p q : Past) → Adds 0 p q → IsUndisturbed made p → IsUndisturbed made q
undisturbed-still made p q a h = omega (arith, began 0 p q a, a.effects, h)

-- the time since the moment before is quiet
pub same-leaf : (p : Past) (s : Scene) (key : List ℕ) → IsScene s → IsNext 0 p s.past → SameLeaf p s.past key
same-leaf p s key good next = record {
  frozen = z.frozen ∙ (λ i. (leaf_page (conf i) (image_of (now i).image) key).frozen);
  crowded = z.crowded ∙ (λ i. is_crowded (leaf_page (conf i) (image_of (now i).image) key));
  stage = λ words. z.stage words ∙ (λ i. stage_in (conf i) (now i).image key words);
}
  where
    conf : s.past.config ≡ p.config
    conf = next.adds.continues.config

    now : s.past.at p.now ≡ p.at p.now
    now = next.adds.continues.at p.now (omega arith)

    z : SameStage s.past.config (s.past.at p.now) (here s) key
    z =
        stages_stand s p.now p.now s.past.now key good
        (record { since = omega (arith, next.adds.continues.since, next.adds.begun); now = omega (arith, next.one); effects = omega (arith, next.adds.effects, ap (λ (x : Instant). x.effects) now) })
        (record { from = omega arith; to = omega (arith, next.one) })
        (record { from = omega (arith, next.one); to = omega arith })
