-- The split of the node above one that found no room is paid for.
use Rattle.std.proofs.Common.{◌≡◌, ◌⊎◌, ℕ, ◌+◌, ◌-◌, ◌*◌, ◌<◌, ◌≤◌, min, Bool, false, arith, ap, refl, inl, inr, ◌∙◌}
use Rattle.std.specs.Prelude.{Option, Some, if◌then◌else◌, nat_lt}
use Rattle.std.proofs.lemmas.Bool.{cases_lt}
use Rattle.std.proofs.lemmas.Bool.Decides.{nat_tests}
use Rattle.bz_joined.specs.FromAlone.Undisturbed.{IsUndisturbed}
use Rattle.bz_costs.specs.FromRunning.Ascents.{IsOneUp}
use Rattle.bz_costs.specs.FromRunning.Ascent.{Ascent}
use Rattle.bz_costs.specs.Laws.{LostSplitsCostLittle}
use Rattle.bz_costs.specs.Resources.{Resource, Marks}
use Rattle.bz_costs.specs.Costs.{RoundsArePaid}
use Rattle.bz_costs.specs.Failing.{cost_of_lost_below, cost_of_lost_inner}
use Rattle.bz_costs.specs.Most.{most_of, most_of_below, most_of_inner, most_of_inner_root}
use Rattle.bz_costs.specs.Splits.{cost_after_below, cost_after_inner, most_of_higher, SplitsArePaid}
use Rattle.bz_costs.specs.Stretches.{cost_once_viewed, cost_from, top_stage}
use Rattle.bz_costs.specs.Weights.{weigh}
use Rattle.bz_layout.specs.declared.thresholds.TheConstants.{MAX_LEVELS}
use Rattle.bz_costs.specs.FromRunning.Duties.{end_of, view_of}
use Rattle.bz_costs.specs.FromRunning.Kinds as kinds
use Rattle.bz_costs.specs.FromRunning.Kinds.{Kind, kind_of, level_of}
use Rattle.bz_costs.specs.FromRunning.AnyTask.{AnyTask}
use Rattle.bz_costs.specs.FromRunning.AnyTask.TheVariants.{SplittingBelow, SplittingInner, SplittingInnerRoot}
use Rattle.bz_swap.specs.SwapMemory.{SwapMemory}
use Rattle.bz_task.specs.Scene.{Past}
use Rattle.bz_task.specs.declared.path.Path.{Path}
use Rattle.bz_task.specs.declared.todo.Outcome.TheVariants.{NeedsRoom}
use Rattle.bz_solo.proofs.Coming.{comes-to-write}
use Rattle.bz_solo.proofs.Ends.{unmade, undisturbed-yet}
use Rattle.bz_solo.proofs.Pricing.{less}
use Rattle.bz_solo.proofs.Sparing.{less-afforded}
use Rattle.bz_solo.specs.Errands.{Errand, is_read, may_swap_twice}
use Rattle.bz_solo.specs.Prices.{Prices, disturbed_prices, prices_in, coming, coming_to_write}
use Rattle.bz_solo.specs.Renewals.{IsAbove, AscentsArePaid}
use Rattle.bz_solo.specs.Rounds.{stage_now}
use Rattle.bz_solo.specs.Sum.{Affords, IsThawed, Round, Disturbed, Clean, State, In, Made, IsIn, Spares, reserve, prices_of, left_in}

pub record Laws (r : Resource) : Type 0 where
  pub rounds : RoundsArePaid r
  pub splits : SplitsArePaid r
  pub lost : LostSplitsCostLittle r

-- a split that found no room has its whole weight left but for little: that of a leaf
left-below : (r : Resource) → LostSplitsCostLittle r → (t : AnyTask) (a : Ascent) → kind_of t ≡ kinds.SplitLeaf a → end_of t ≡ Some NeedsRoom → most_of_below r ≤ weigh r t + cost_of_lost_below r
unfolding kind_of view_of
left-below r lost (SplittingBelow t b) a k ended = lost.below t b ended
left-below r lost t a k ended = absurd (cc)

-- and that of an inner node
left-inner : (r : Resource) → LostSplitsCostLittle r → (t : AnyTask) (a : Ascent) → kind_of t ≡ kinds.SplitNode a → end_of t ≡ Some NeedsRoom → most_of_inner r ≤ weigh r t + cost_of_lost_inner r
unfolding kind_of view_of
left-inner r lost (SplittingInner t b) a k ended = lost.inner t b ended
left-inner r lost t a k ended = absurd (cc)

-- the next split
next-inner : (r : Resource) (t : AnyTask) (a : Ascent) → kind_of t ≡ kinds.SplitNode a → most_of r t ≤ most_of_higher r
unfolding kind_of
next-inner r (SplittingInner t b) a k = omega arith
next-inner r t a k = absurd (cc)

next-root : (r : Resource) (t : AnyTask) (a : Ascent) → kind_of t ≡ kinds.SplitRootNode a → most_of r t ≤ most_of_inner_root r
unfolding kind_of
next-root r (SplittingInnerRoot t b) a k = omega arith
next-root r t a k = absurd (cc)

next-higher : (r : Resource) (t : AnyTask) (up : Ascent) → ((kind_of t ≡ kinds.SplitNode up) × (0 < up.place)) ⊎ (kind_of t ≡ kinds.SplitRootNode up) → most_of r t ≤ most_of_higher r
next-higher r t up (inl i) = next-inner r t up i.0
next-higher r t up (inr root) = omega (arith, next-root r t up root)

-- one level up
one-up : (a up : Ascent) → IsOneUp a up → a.place < a.path.depth → level_of up ≡ level_of a + 1
one-up a up one low = omega (arith, one.before, ap (λ (path : Path). path.depth) one.path_is, low)

low-up : (a up : Ascent) → IsOneUp a up → a.path.depth ≤ MAX_LEVELS → level_of up + 1 ≤ MAX_LEVELS
low-up a up one few = omega (arith, few, ap (λ (path : Path). path.depth) one.path_is)

below-top : (a up : Ascent) → IsOneUp a up → a.path.depth ≤ MAX_LEVELS → 0 < up.place → level_of up < top_stage
below-top a up one few some = omega (arith, few, some, ap (λ (path : Path). path.depth) one.path_is)

-- what comes after the next
after-next : (r : Resource) (q : Prices) (e : Errand) (t : AnyTask) (up : Ascent) → e.effected ≡ false → is_read e.call ≡ false → ((kind_of t ≡ kinds.SplitNode up) × (0 < up.place)) ⊎ (kind_of t ≡ kinds.SplitRootNode up) → coming r q e (kind_of t) ≡ q.inner (level_of up)
after-next r q e t up quiet write (inl i) = comes-to-write r q e (kind_of t) quiet write ∙ ap (coming_to_write r q e) i.0
after-next r q e t up quiet write (inr root) = comes-to-write r q e (kind_of t) quiet write ∙ ap (coming_to_write r q e) root

after-leaf : (r : Resource) (q : Prices) (e : Errand) (t : AnyTask) (a : Ascent) → e.effected ≡ false → is_read e.call ≡ false → kind_of t ≡ kinds.SplitLeaf a → coming r q e (kind_of t) ≡ q.below
after-leaf r q e t a quiet write k = comes-to-write r q e (kind_of t) quiet write ∙ ap (coming_to_write r q e) k

after-inner : (r : Resource) (q : Prices) (e : Errand) (t : AnyTask) (a : Ascent) → e.effected ≡ false → is_read e.call ≡ false → kind_of t ≡ kinds.SplitNode a → coming r q e (kind_of t) ≡ q.inner (level_of a)
after-inner r q e t a quiet write k = comes-to-write r q e (kind_of t) quiet write ∙ ap (coming_to_write r q e) k

-- in a disturbed round
hurt-leaf : (r : Resource) (own : ℕ) → most_of_below r ≤ own + cost_of_lost_below r → most_of_higher r + (disturbed_prices r).inner 1 ≤ own + (disturbed_prices r).below
hurt-leaf r own l = omega (arith, l)

hurt-inner : (r : Resource) (own level : ℕ) → level + 2 ≤ MAX_LEVELS → most_of_inner r ≤ own + cost_of_lost_inner r → most_of_higher r + (disturbed_prices r).inner (level + 1) ≤ own + (disturbed_prices r).inner level
hurt-inner Marks own level high l = omega (arith, high, l)
hurt-inner r own level high l = omega (arith, high, l)

-- in a clean one
clean-leaf : (r : Resource) (own viewed from lost : ℕ) → most_of_below r ≤ own + cost_of_lost_below r → cost_of_lost_below r + lost + most_of_higher r + from ≤ viewed → most_of_higher r + (lost + from) ≤ own + (viewed - most_of_below r)
clean-leaf r own viewed from lost l paid = omega (arith, l, paid)

higher-paid : (r : Resource) → RoundsArePaid r → (stage : ℕ) → 2 ≤ stage → cost_of_lost_below r + cost_of_lost_inner r * (min stage top_stage - 1 - 1) + most_of_higher r + cost_from r (min stage top_stage - 1) ≤ cost_once_viewed r (min stage top_stage)
higher-paid r b stage some = b.inner stage (min stage top_stage - 1) (min stage top_stage - 1) (omega (arith, some)) (omega (arith, some)) (omega arith) (omega (arith, some)) (omega arith)

clean-inner : (r : Resource) (own level stage from : ℕ) → level + 1 < stage → level + 1 < top_stage → most_of_inner r ≤ own + cost_of_lost_inner r →
    most_of_higher r + (cost_of_lost_inner r * (min stage top_stage - 1 - (level + 1)) + from) ≤ own + (cost_of_lost_inner r * (min stage top_stage - 1 - level) + from)
clean-inner Marks own level stage from more high l = omega (arith, more, high, l)
clean-inner r own level stage from more high l = omega (arith, more, high, l)

-- a node below the greatest level has its price
not-less : (a b : ℕ) → b ≤ a → nat_lt a b ≡ false
not-less a b l = grind (arith, nat_tests)

low-price : (r : Resource) (e : Errand) (p : Past) (level : ℕ) → level < top_stage → (prices_in r p.config (p.at p.now).image e).inner level ≡ cost_after_inner r level (stage_now e p)
low-price r e p level low = ap (λ (b : Bool). if b then cost_after_inner r level (stage_now e p) else 0) (less level top_stage low)

top-price : (r : Resource) (e : Errand) (p : Past) (level : ℕ) → top_stage ≤ level → (prices_in r p.config (p.at p.now).image e).inner level ≡ 0
top-price r e p level high = ap (λ (b : Bool). if b then cost_after_inner r level (stage_now e p) else 0) (not-less level top_stage high)

-- what is to come is paid for, by what is left and what was to come
fit : (most own next old higher new before : ℕ) → most ≤ higher → next ≡ new → old ≡ before → higher + new ≤ own + before → most + next ≤ own + old
fit most own next old higher new before l a b paid = omega (arith, l, a, b, paid)

module _ (r : Resource) (b : Laws r) (e : Errand) (t next : AnyTask) (a up : Ascent) (quiet : e.effected ≡ false) (write : is_read e.call ≡ false) (above : IsAbove t next a up) (ended : end_of t ≡ Some NeedsRoom) where
  -- a leaf's parent
  parent : a.place + 1 ≡ a.path.depth → level_of up ≡ 1
  parent foot = omega (arith, one-up a up above.one above.low, foot)

  from-leaf : kind_of t ≡ kinds.SplitLeaf a → most_of_below r ≤ weigh r t + cost_of_lost_below r
  from-leaf k = left-below r b.lost t a k ended

  from-inner : kind_of t ≡ kinds.SplitNode a → most_of_inner r ≤ weigh r t + cost_of_lost_inner r
  from-inner k = left-inner r b.lost t a k ended

  disturbed : most_of r next + coming r (disturbed_prices r) e (kind_of next) ≤ weigh r t + coming r (disturbed_prices r) e (kind_of t)
  disturbed = elim above.from [
    | inl leaf ↦ fit _ _ _ _ (most_of_higher r) ((disturbed_prices r).inner 1) (disturbed_prices r).below (next-higher r next up above.to)
        (after-next r (disturbed_prices r) e next up quiet write above.to ∙ ap (λ (level : ℕ). (disturbed_prices r).inner level) (parent leaf.1)) (after-leaf r (disturbed_prices r) e t a quiet write leaf.0)
        (hurt-leaf r (weigh r t) (from-leaf leaf.0))
    | inr node ↦ fit _ _ _ _ (most_of_higher r) ((disturbed_prices r).inner (level_of a + 1)) ((disturbed_prices r).inner (level_of a)) (next-higher r next up above.to)
        (after-next r (disturbed_prices r) e next up quiet write above.to ∙ ap (λ (level : ℕ). (disturbed_prices r).inner level) (one-up a up above.one above.low)) (after-inner r (disturbed_prices r) e t a quiet write node)
        (hurt-inner r (weigh r t) (level_of a) (omega (arith, one-up a up above.one above.low, low-up a up above.one above.few)) (from-inner node))
  ]

  module _ (p : Past) (full : level_of up + 1 ≤ stage_now e p) where
    clean-parent : kind_of t ≡ kinds.SplitLeaf a → level_of up ≡ 1 → most_of r next + coming r (prices_in r p.config (p.at p.now).image e) e (kind_of next) ≤ weigh r t + coming r (prices_in r p.config (p.at p.now).image e) e (kind_of t)
    clean-parent k one =
        let q : Prices = prices_in r p.config (p.at p.now).image e in
        let m : ℕ = min (stage_now e p) top_stage in
        fit _ _ _ _ (most_of_higher r) (cost_after_inner r 1 (stage_now e p)) (cost_after_below r (stage_now e p)) (next-higher r next up above.to)
        (after-next r q e next up quiet write above.to ∙ (ap (λ (level : ℕ). q.inner level) one ∙ low-price r e p 1 (omega arith))) (after-leaf r q e t a quiet write k)
        (clean-leaf r (weigh r t) (cost_once_viewed r m) (cost_from r (m - 1)) (cost_of_lost_inner r * (m - 1 - 1)) (from-leaf k) (higher-paid r b.rounds (stage_now e p) (omega (arith, full, one))))

    clean-low : kind_of t ≡ kinds.SplitNode a → level_of up < top_stage → most_of r next + coming r (prices_in r p.config (p.at p.now).image e) e (kind_of next) ≤ weigh r t + coming r (prices_in r p.config (p.at p.now).image e) e (kind_of t)
    clean-low k low =
        let q : Prices = prices_in r p.config (p.at p.now).image e in
        let one : level_of up ≡ level_of a + 1 = one-up a up above.one above.low in
        fit _ _ _ _ (most_of_higher r) (cost_after_inner r (level_of a + 1) (stage_now e p)) (cost_after_inner r (level_of a) (stage_now e p)) (next-higher r next up above.to)
        (after-next r q e next up quiet write above.to ∙ (ap (λ (level : ℕ). q.inner level) one ∙ low-price r e p (level_of a + 1) (omega (arith, one, low))))
        (after-inner r q e t a quiet write k ∙ low-price r e p (level_of a) (omega (arith, one, low)))
        (clean-inner r (weigh r t) (level_of a) (stage_now e p) (cost_from r (min (stage_now e p) top_stage - 1)) (omega (arith, one, full)) (omega (arith, one, low)) (from-inner k))

    -- a root at the greatest level ends the call
    is-root : top_stage ≤ level_of up → kind_of next ≡ kinds.SplitRootNode up
    is-root high = elim above.to [ inl node ↦ absurd (omega (arith, high, below-top a up above.one above.few node.1)) | inr root ↦ root ]

    clean-top : kind_of t ≡ kinds.SplitNode a → top_stage ≤ level_of up → most_of r next + coming r (prices_in r p.config (p.at p.now).image e) e (kind_of next) ≤ weigh r t + coming r (prices_in r p.config (p.at p.now).image e) e (kind_of t)
    clean-top k high =
        let q : Prices = prices_in r p.config (p.at p.now).image e in
        let one : level_of up ≡ level_of a + 1 = one-up a up above.one above.low in
        let top : level_of up + 1 ≤ MAX_LEVELS = low-up a up above.one above.few in
        fit _ _ _ _ (most_of_inner_root r) 0 (cost_after_inner r (level_of a) (stage_now e p)) (next-root r next up (is-root high)) (after-next r q e next up quiet write above.to ∙ top-price r e p (level_of up) high)
        (after-inner r q e t a quiet write k ∙ low-price r e p (level_of a) (omega (arith, one, top)))
        (beyond (weigh r t) _ (b.splits.too_high (level_of a) (stage_now e p)))
      where
        beyond : (own price : ℕ) → most_of_inner_root r ≤ price → most_of_inner_root r + 0 ≤ own + price
        beyond own price l = omega (arith, l)

    clean : most_of r next + coming r (prices_in r p.config (p.at p.now).image e) e (kind_of next) ≤ weigh r t + coming r (prices_in r p.config (p.at p.now).image e) e (kind_of t)
    clean = elim above.from [
      | inl leaf ↦ clean-parent leaf.0 (parent leaf.1)
      | inr node ↦ elim (cases_lt (level_of up) top_stage) [ inl low ↦ clean-low node low | inr high ↦ clean-top node high ]
    ]

  -- a split asks for one swap
  once : may_swap_twice (kind_of t) ≡ false
  once = elim above.from [ inl leaf ↦ ap may_swap_twice leaf.0 | inr node ↦ ap may_swap_twice node ]

  price-in : (p : Past) → (IsUndisturbed 0 p → level_of up + 1 ≤ stage_now e p) → (round : Round) → (round ≡ Clean → IsUndisturbed 0 p) → most_of r next + coming r (prices_of r round e p) e (kind_of next) ≤ weigh r t + coming r (prices_of r round e p) e (kind_of t)
  price-in p full Disturbed alone = disturbed
  price-in p full Clean alone = clean p (full (alone refl))

  climb-in : (m : SwapMemory) (w used by : ℕ) (p : Past) → (IsUndisturbed 0 p → level_of up + 1 ≤ stage_now e p) → IsThawed e → (state : State) → IsIn state e t 0 p → Affords r m w e used by (0 + left_in r state e t p) → Spares r m w e used by p (λ q. most_of r next + coming r q e (kind_of next))
  climb-in m w used by p full thawed (In round) h afford = record {
    round = round;
    alone = undisturbed-yet e t round p once h;
    thawed = thawed;
    affords = less-afforded r m w e used by (0 + left_in r (In round) e t p) (reserve r round + (most_of r next + coming r (prices_of r round e p) e (kind_of next)))
        (beside (reserve r round) _ _ (price-in p full round (undisturbed-yet e t round p once h))) afford;
  }
    where
      beside : (kept price paid : ℕ) → price ≤ paid → kept + price ≤ 0 + (kept + paid)
      beside kept price paid l = omega (arith, l)
  climb-in m w used by p full thawed Made h afford = unmade e t NeedsRoom _ ended (λ same. cc) h

pub ascents-paid : (r : Resource) → Laws r → AscentsArePaid r
ascents-paid r b m w e t next a up used by p quiet write above ended full paid = climb-in r b e t next a up quiet write above ended m w used by p full paid.thawed paid.state paid.holds paid.affords
