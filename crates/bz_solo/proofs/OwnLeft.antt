-- The own swap of a task that was made for the key and the words of its call leaves what the next round costs.
use Rattle.std.proofs.Common.{◌≡◌, ℕ, ◌<◌, ◌≤◌, true, false, List, arith, refl, subst}
use Rattle.bz_costs.specs.FromRunning.Ascent.{Ascent}
use Rattle.bz_call.specs.Map.{key_of}
use Rattle.bz_content.specs.Content.{image_of}
use Rattle.bz_joined.specs.FromStage.Neighbours.{leaf_page}
use Rattle.bz_costs.specs.Resources.{Resource}
use Rattle.bz_costs.specs.Stretches.{cost_from, top_stage}
use Rattle.bz_layout.specs.declared.config.Config.{Config}
use Rattle.bz_joined.specs.FromRounds.Left.{HasSplit, IsLeft}
use Rattle.bz_joined.specs.FromRounds.Undisturbed.{IsUndisturbedSwap}
use Rattle.bz_costs.specs.FromRunning.Duties.{config_of, asks_of, facts_of, view_of}
use Rattle.bz_costs.specs.FromRunning.Kinds as kinds
use Rattle.bz_costs.specs.FromRunning.Kinds.{Kind, kind_of, is_look, level_of}
use Rattle.bz_costs.specs.FromRunning.MadeFor.{HasFoot, IsMadeFor}
use Rattle.bz_costs.specs.FromRunning.AnyTask.{AnyTask}
use Rattle.bz_costs.specs.FromRunning.AnyTask.TheVariants.{Freezing, SplittingInner, SplittingInnerRoot}
use Rattle.bz_joined.specs.FromStage.Stages.{full_above, stage_in}
use Rattle.bz_joined.proofs.Proved.{undisturbed_freezes_freeze_the_leaf}
use Rattle.bz_task.specs.Instant.{Instant}
use Rattle.bz_task.specs.Scene.{Past, Scene}
use Rattle.bz_word.specs.declared.entry.Entry.{Entry}
use Rattle.bz_solo.specs.Errands.{Errand, words_asked, is_read, is_freeze, may_swap_twice, after}
use Rattle.bz_solo.specs.Prices.{prices_in, coming_to_write, round_price}
use Rattle.bz_solo.proofs.OwnPrices.{Laws, froze-few, room-below, room-inner, round-few}

-- the path of a split has its last link
abbrev pub HasFootIn : Kind → Type 0
HasFootIn (kinds.SplitNode a) = HasFoot a
HasFootIn (kinds.SplitRootNode a) = HasFoot a
HasFootIn other = Unit {0}

pub has-foot : (t : AnyTask) (key : List ℕ) (words : ℕ) (p : Past) → IsMadeFor t key words p → HasFootIn (kind_of t)
unfolding IsMadeFor kind_of
has-foot (SplittingInner t a) key words p made = made.come.foot
has-foot (SplittingInnerRoot t a) key words p made = made.come.foot
has-foot t key words p made = tt

-- a freeze has left the leaf frozen
pub leaf-frozen : (t : AnyTask) (key : List ℕ) (words : ℕ) (entries : List Entry) (s : Scene) (y : Instant) → IsUndisturbedSwap (config_of t) (asks_of t) (facts_of t) entries s y → IsMadeFor t key words s.past → kind_of t ≡ kinds.Freeze →
    (leaf_page s.past.config (image_of y.image) key).frozen ≡ true
unfolding view_of IsMadeFor kind_of
leaf-frozen (Freezing u) key words entries s y l made is = undisturbed_freezes_freeze_the_leaf u key entries s y l made.was
leaf-frozen t key words entries s y l made is = absurd (cc)

module _ (r : Resource) (b : Laws r) (e : Errand) (c : Config) (x y : Instant) (quiet : e.effected ≡ false) (write : is_read e.call ≡ false) where
  abbrev key : List ℕ
  key = key_of e.call

  abbrev words : ℕ
  words = words_asked e.call

  -- the next round, at a stage that counts
  next : (k : Kind) → is_freeze k ≡ false → stage_in c y.image key words ≤ top_stage → round_price r (prices_in r c y.image (after e k)) (after e k) ≤ cost_from r (stage_in c y.image key words)
  next k f l = round-few r b e k e.alone (leaf_page c (image_of y.image) key) (full_above c (image_of y.image) key) words quiet write f l

  pub roomy : (k : Kind) → is_freeze k ≡ false → stage_in c y.image key words ≡ 0 → round_price r (prices_in r c y.image (after e k)) (after e k) ≤ cost_from r 0
  roomy k f z = subst (λ n. round_price r (prices_in r c y.image (after e k)) (after e k) ≤ cost_from r n) z (next k f (omega (arith, z)))

  both : (a b c : ℕ) → a ≤ b → b ≤ c → a ≤ c
  both a b c l m = omega (arith, l, m)

  split : (k : Kind) (a : Ascent) → is_freeze k ≡ false → HasSplit c x y key words a → HasFoot a → round_price r (prices_in r c y.image (after e k)) (after e k) ≤ (prices_in r c x.image e).inner (level_of a)
  split k a f h foot =
      let few : stage_in c y.image key words < top_stage = omega (arith, h.few) in
      both _ _ _ (next k f (omega (arith, few)))
      (room-inner r b (level_of a) (stage_in c x.image key words) (stage_in c y.image key words) (omega (arith, h.one_higher foot.last foot.is)) (omega (arith, h.falls)) few)

  pub left-price : (k : Kind) → may_swap_twice k ≡ false → is_look k ≡ false → IsLeft k c x y key words → (k ≡ kinds.Freeze → (leaf_page c (image_of y.image) key).frozen ≡ true) → HasFootIn k →
      round_price r (prices_in r c y.image (after e k)) (after e k) ≤ coming_to_write r (prices_in r c x.image e) e k
  left-price kinds.Freeze o w h f on = froze-few r b e e.alone (leaf_page c (image_of y.image) key) (full_above c (image_of y.image) key) words (stage_in c x.image key words) quiet write (f refl) h
  left-price kinds.Copy o w h f on = roomy kinds.Copy refl h.room
  left-price kinds.SplitRootLeaf o w h f on = roomy kinds.SplitRootLeaf refl h.room
  left-price (kinds.SplitLeaf a) o w h f on = both _ _ _ (roomy (kinds.SplitLeaf a) refl h.room) (room-below r b (stage_in c x.image key words) h.lacked)
  left-price (kinds.SplitNode a) o w h f on = split (kinds.SplitNode a) a refl h on
  left-price (kinds.SplitRootNode a) o w h f on = split (kinds.SplitRootNode a) a refl h on
  left-price k o w h f on = absurd (cc)
