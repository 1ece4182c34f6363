-- A memory lives on by a mark at which no swap takes effect.
use Rattle.std.proofs.Common.{◌≡◌, ℕ, suc, ◌+◌, ◌≤◌, ◌⊎◌, true, false, List, ◌∷◌, length, slice_index, arith, sym, ap, subst, ◌∙◌, inl, inr}
use Rattle.std.proofs.lemmas.Bool.{cases_eq}
use Rattle.bz_layout.specs.declared.config.Config.{Config}
use Rattle.bz_layout.specs.declared.sizes.TheConstants.{STATUS_AT}
use Rattle.bz_mark.proofs.MomentLaws.{at_moment-now, at_moment-earlier}
use Rattle.bz_mark.specs.declared.marks.Mark.{Mark}
use Rattle.bz_sight.specs.Passing.{Passed}
use Rattle.bz_sight.specs.Sight.{IsSeen, next_instant}
use Rattle.bz_sight.proofs.Proved.{acts_pass}
use Rattle.bz_sound.specs.Memory.Moments.{image_at, image_after}
use Rattle.bz_sound.specs.Memory.Spent.{is_reached_in}
use Rattle.bz_task.specs.Good.{IsGood}
use Rattle.bz_task.specs.Instant.{Instant, words, page_at}
use Rattle.bz_task.specs.Shown.{SameShownNode}
use Rattle.bz_task.specs.Steps.{IsStep, IsHistory, NodeMoves}
use Rattle.bz_swap.specs.SwapMemory.{is_among, is_named}
use Rattle.bz_word.specs.Statuses.{status}
use Rattle.bz_word.specs.declared.entry.Entry.{Entry}
use Rattle.bz_refinement.specs.Laws.{LivesGoOn, goes_on}
use Rattle.bz_refinement.specs.Living.{IsInBlock, IsHeldBy}
use Rattle.bz_refinement.specs.Story.{and_then}
use Rattle.bz_refinement.proofs.Powered.{begins-more, image-as-it-was}
use Rattle.bz_refinement.proofs.Scenes.{now-is, before-is}

-- a history with one moment more
pub history-on : (c : Config) (at : ℕ → Instant) (first n : ℕ) (y : Instant) → IsHistory c at first n → IsGood c y → IsStep c (at n) y → IsHistory c (and_then at n y) first (suc n)
history-on c at first n y h good step = record {
  good = λ i from to. elim (cases_eq i (suc n)) [
    | inl e ↦ subst (λ k. IsGood c (and_then at n y k)) (sym e) (subst (IsGood c) (sym (now-is at n y)) good)
    | inr ne ↦ subst (IsGood c) (sym (before-is at n i y (omega (arith, to, ne)))) (h.good i from (omega (arith, to, ne)))
  ];
  step = λ i from to. elim (cases_eq i n) [
    | inl e ↦ subst (λ k. IsStep c (and_then at n y k) (and_then at n y (k + 1))) (sym e) (last-step (n + 1) (omega arith))
    | inr ne ↦ subst (λ x. IsStep c x (and_then at n y (i + 1))) (sym (before-is at n i y (omega (arith, to)))) (subst (λ x. IsStep c (at i) x) (sym (before-is at n (i + 1) y (omega (arith, to, ne)))) (h.step i from (omega (arith, to, ne))))
  ];
}
  where
    last-step : (k : ℕ) → k ≡ suc n → IsStep c (and_then at n y n) (and_then at n y k)
    last-step k e = subst (λ x. IsStep c x (and_then at n y k)) (sym (before-is at n n y (omega arith))) (subst (λ j. IsStep c (at n) (and_then at n y j)) (sym e) (subst (IsStep c (at n)) (sym (now-is at n y)) step))

-- the images of the moments, with one more
pub images-on : (start : List ℕ) (past : List Mark) (mark : Mark) (at : ℕ → Instant) (first : ℕ) (y : Instant) → ((i : ℕ) → first ≤ i → i ≤ length past → (at i).image ≡ image_at start i past) → y.image ≡ image_after start (mark ∷ past)
    → (i : ℕ) → first ≤ i → i ≤ length (mark ∷ past) → (and_then at (length past) y i).image ≡ image_at start i (mark ∷ past)
images-on start past mark at first y images last i f l = elim (cases_eq i (suc (length past))) [
  | inl e ↦ subst (λ k. (and_then at (length past) y k).image ≡ image_at start k (mark ∷ past)) (sym e) (ap (λ z. z.image) (now-is at (length past) y) ∙ (last ∙ sym (ap (image_after start) (at_moment-now (mark ∷ past)))))
  | inr ne ↦ (
      let before : i ≤ length past = omega (arith, l, ne) in
      ap (λ z. z.image) (before-is at (length past) i y before) ∙ (images i f before ∙ sym (ap (image_after start) (at_moment-earlier i mark past before))))
]

-- what lay in a block still does, where the node's block is no smaller
pub block-on : (c : Config) (x y : Instant) (a : ℕ) → (b : IsInBlock c x a) → y.reached b.slot ≡ true → (page_at c x b.slot).block ≤ (page_at c y b.slot).block → IsInBlock c y a
block-on c x y a b reached grown = record {
  slot = b.slot;
  place = b.place;
  address = b.address;
  within = b.within;
  reached = reached;
  block = omega (arith, b.block, grown);
}

same-block : (n m : ℕ → ℕ) → m STATUS_AT ≡ n STATUS_AT → (status (m STATUS_AT)).block ≡ (status (n STATUS_AT)).block
same-block n m e = ap (λ w. (status w).block) e

pub node-block : (c : Config) (x y : Instant) (k : ℕ) → SameShownNode c x y k ⊎ NodeMoves c x y k → (page_at c x k).block ≤ (page_at c y k).block
node-block c x y k (inl s) = omega (arith, same-block (words c x k) (words c y k) (s STATUS_AT (inl (omega arith))))
node-block c x y k (inr v) = v.block

-- a step keeps what lies in blocks
pub step-block : (c : Config) (x y : Instant) (a : ℕ) → IsStep c x y → IsInBlock c x a → IsInBlock c y a
step-block c x y a (inl q) b = block-on c x y a b (q.reached b.slot ∙ b.reached) (node-block c x y b.slot (inl (q.nodes b.slot b.reached)))
step-block c x y a (inr e) b = block-on c x y a b (e.reached b.slot b.reached) (node-block c x y b.slot (e.nodes b.slot b.reached))

pub lives-on : LivesGoOn
lives-on c old new log story mark filled g stores = record {
  from = omega (arith, g.living.from);
  begins = begins-more story.from log.past mark g.living.from g.living.begins;
  seen = subst (IsSeen c new) (sym (now-is story.at (length log.past) y)) passed.seen;
  history = history-on c story.at story.from (length log.past) y g.living.history passed.same.good step;
  words = g.marked;
  past = g.past;
  images = images-on log.start log.past mark story.at story.from y g.living.images (ap (λ w. slice_index w.durable) g.marked);
  effects = subst (λ z. story.from + z.effects ≤ suc (length log.past)) (sym (now-is story.at (length log.past) y)) (omega (arith, g.living.effects));
  reserved = λ w a o. subst (λ z. IsInBlock c z a) (sym (now-is story.at (length log.past) y)) (step-block c (story.at (length log.past)) y a step (g.living.reserved w a o));
  apart = g.living.apart;
  took = g.living.took;
  took_apart = g.living.took_apart;
  awaits = λ w a held private fence. g.passes.awaits w a (g.keeps w a (before w a held) fence (was-private a private)) (g.living.awaits w a (before w a held) (was-private a private)) fence;
  came = λ k r. subst (λ (image : ℕ → ℕ). (is_reached_in c image k ≡ true) ⊎ ((w : ℕ) × (story.took w k ≡ true))) (sym (image-as-it-was log.start log.past mark g.powered))
      (g.living.came k (sym (passed.rests.quiet.reached k) ∙ (sym (ap (λ z. z.reached k) (now-is story.at (length log.past) y)) ∙ r)));
  stored = stores;
}
  where
    y : Instant
    y = next_instant new (story.at (length log.past))

    passed : Passed c (story.at (length log.past)) new
    passed = acts_pass c (story.at (length log.past)) old new g.living.seen g.passes

    -- a worker held before what it holds, and what is private was so
    before : (w a : ℕ) → IsHeldBy c (and_then story.at (length log.past) (next_instant new (story.at (length log.past))) (suc (length log.past))) (goes_on log story new filled) w a → IsHeldBy c (story.at (length log.past)) story w a
    before w a (inl o) = inl (record { slot = o.slot; place = o.place; address = o.address; within = o.within; took = o.took; unreached = ap (λ z. z.reached o.slot) (sym (now-is story.at (length log.past) y)) ∙ o.unreached })
    before w a (inr r) = inr r

    was-private : (a : ℕ) → is_named new a ≡ false → is_named old a ≡ false
    was-private a private = ap (λ (l : List (List Entry)). is_among l a) (sym g.passes.same.begun) ∙ private

    step : IsStep c (story.at (length log.past)) (next_instant new (story.at (length log.past)))
    step = inl passed.rests.quiet
