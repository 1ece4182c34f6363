-- Where a task finds fewer slots than it takes, the others hold those that are neither free nor used.
use Rattle.std.proofs.Common.{◌≡◌, ◌≢◌, ℕ, suc, ◌<◌, ◌≤◌, ◌==◌, ◌||◌, if◌then◌else◌, nat_lt, Bool, true, false, List, [], ◌∷◌, length, slice_index, arith, refl, sym, ap, subst, ◌∙◌, inl, inr, Option, Some, None}
use Rattle.std.specs.Prelude.{get_or}
use Rattle.std.proofs.lemmas.Bool.{true≢false}
use Rattle.std.proofs.lemmas.Bool.Decides.{nat_tests}
use Rattle.bz_layout.specs.declared.config.Config.{Config}
use Rattle.bz_layout.specs.declared.thresholds.TheConstants.{SPLIT_SLOTS}
use Rattle.bz_mark.specs.Log.{Log}
use Rattle.bz_tree.specs.Walk.{is_among}
use Rattle.bz_sound.specs.Calls.{Open, open_call}
use Rattle.bz_sound.specs.Memory.ImageLaws.{AreOthersHeld}
use Rattle.bz_sound.specs.Memory.Spent.{NodesAreSpent, is_reached_in, is_stored_into}
use Rattle.bz_sound.specs.Power.ImageLaws.{HeldSlotsAreSpent}
use Rattle.bz_sound.specs.Power.Spent.{is_used, count_used}
use Rattle.bz_mark.specs.Times.{since_on}
use Rattle.bz_sound.specs.Power.Times.{image_at_on}
use Rattle.bz_refinement.specs.Story.{Story}
use Rattle.bz_swap.specs.SwapMemory.{SwapMemory}
use Rattle.bz_world.specs.Inside.Acted.{IsBetween}
use Rattle.bz_world.specs.Inside.Going.{IsOutOfSlots}
use Rattle.bz_world.specs.Inside.Paid.{Stock, stock_of}
use Rattle.bz_world.specs.WorldView.{LacksSlots}
use Rattle.bz_world.specs.Inside.Serving.{IsSlot}
use Rattle.bz_world.specs.declared.parts.Parts.{Parts}
use Rattle.bz_world.specs.declared.serving.OpenCall.{OpenCall}
use Rattle.bz_world.proofs.Spending.{is-other}

-- the place of a number in a list
place-in : List ℕ → ℕ → ℕ
place-in [] k = 0
place-in (x ∷ xs) k = if x == k then 0 else suc (place-in xs k)

-- it is found there
record IsAt (xs : List ℕ) (k place : ℕ) : Type 0 where
  below : place < length xs
  is : slice_index xs place ≡ k

at-test : (x : ℕ) (xs : List ℕ) (k : ℕ) (b : Bool) → (x == k) ≡ b → b || is_among xs k ≡ true → (is_among xs k ≡ true → IsAt xs k (place-in xs k)) → IsAt (x ∷ xs) k (if b then 0 else suc (place-in xs k))
at-test x xs k true e h rest = record { below = omega arith; is = grind (arith, nat_tests) }
at-test x xs k false e h rest = let r = rest h in record { below = omega (arith, r.below); is = r.is }

is-at : (xs : List ℕ) (k : ℕ) → is_among xs k ≡ true → IsAt xs k (place-in xs k)
unfolding place-in
is-at [] k h = absurd (cc)
is-at (x ∷ xs) k h = at-test x xs k (x == k) refl h (is-at xs k)

-- the slots that a worker took and may not have stored into
unfilled-of : (c : Config) (m : SwapMemory) (log : Log) (story : Story) (owners : List ℕ) (stock : Stock) (v : ℕ) (slot : Option OpenCall) → IsSlot c m log story owners stock v slot → List ℕ
unfilled-of c m log story owners stock v None h = []
unfilled-of c m log story owners stock v (Some x) h = h.covered.unfilled

few-unfilled : (c : Config) (m : SwapMemory) (log : Log) (story : Story) (owners : List ℕ) (stock : Stock) (v : ℕ) (slot : Option OpenCall) (h : IsSlot c m log story owners stock v slot) → length (unfilled-of c m log story owners stock v slot h) ≤ SPLIT_SLOTS
unfolding unfilled-of
few-unfilled c m log story owners stock v None h = omega arith
few-unfilled c m log story owners stock v (Some x) h = omega (arith, h.covered.few)

-- a worker that took a slot and has not stored into it has an open call
record IsHolding (log : Log) (v k : ℕ) (unfilled : List ℕ) : Type 0 where
  opened : Open
  is_open : open_call v log.past ≡ Some opened
  among : is_among unfilled k ≡ true

holding : (c : Config) (m : SwapMemory) (log : Log) (story : Story) (owners : List ℕ) (stock : Stock) (v k : ℕ) (slot : Option OpenCall) (h : IsSlot c m log story owners stock v slot) → story.took v k ≡ true → story.filled v k ≡ false → IsHolding log v k (unfilled-of c m log story owners stock v slot h)
unfolding unfilled-of
holding c m log story owners stock v k None h took unfilled = absurd (true≢false (sym (h.filled k took) ∙ unfilled))
holding c m log story owners stock v k (Some x) h took unfilled = record { opened = h.opened; is_open = h.call_open.is_open; among = h.covered.all k took unfilled }

unused-both : (a b : Bool) → a || b ≡ false → (a ≡ false) × (b ≡ false)
unused-both true b e = absurd (cc)
unused-both false b e = (refl, e)

module _ (p : Parts) (w : ℕ) (l : IsOutOfSlots p w) where
  abbrev was : IsBetween p w l.on.serving
  was = l.on.between

  -- a slot is used or free
  abbrev gone : ℕ → Bool
  gone k = is_used p.config p.journal.start p.journal.past k || is_among p.slots.free k

  differs : (v : ℕ) → (v == w) ≡ false → v ≢ w
  differs v e same = absurd (true≢false (sym (let t : (v == w) ≡ true = grind (arith, nat_tests) in t) ∙ e))

  -- those of another worker
  list-by : (v : ℕ) (b : Bool) → (v == w) ≡ b → List ℕ
  list-by v true e = []
  list-by v false e = unfilled-of p.config p.access p.journal was.story p.owners.items (stock_of p) v (get_or p.workers.items v None) (was.others v (differs v e))

  list : ℕ → List ℕ
  list v = list-by v (v == w) refl

  list-few : (v : ℕ) (b : Bool) (e : (v == w) ≡ b) → length (list-by v b e) ≤ SPLIT_SLOTS
  unfolding list-by
  list-few v true e = omega arith
  list-few v false e = few-unfilled p.config p.access p.journal was.story p.owners.items (stock_of p) v (get_or p.workers.items v None) (was.others v (differs v e))

  list-has : (v k : ℕ) (b : Bool) (e : (v == w) ≡ b) → v ≢ w → was.story.took v k ≡ true → was.story.filled v k ≡ false → IsHolding p.journal v k (list-by v b e)
  unfolding list-by
  list-has v k true e ne took unfilled = absurd (ne (let t : v ≡ w = grind (arith, nat_tests) in t))
  list-has v k false e ne took unfilled = holding p.config p.access p.journal was.story p.owners.items (stock_of p) v k (get_or p.workers.items v None) (was.others v (differs v e)) took unfilled

  -- slot k is held by another worker
  record HoldsSlot (k v : ℕ) : Type 0 where
    other : v ≢ w
    holding : IsHolding p.journal v k (list v)

  unfilled-by : (v k : ℕ) → is_stored_into p.config k (since_on p.journal.past) ≡ false → (b : Bool) → was.story.filled v k ≡ b → was.story.filled v k ≡ false
  unfilled-by v k unstored true e = absurd (true≢false (sym (was.living.stored v k e) ∙ unstored))
  unfilled-by v k unstored false e = e

  holds-by : (k v : ℕ) → is_stored_into p.config k (since_on p.journal.past) ≡ false → was.story.took v k ≡ true → HoldsSlot k v
  unfolding list list-by
  holds-by k v unstored took = record { other = not-it; holding = list-has v k (v == w) refl not-it took unfilled }
    where
      unfilled : was.story.filled v k ≡ false
      unfilled = unfilled-by v k unstored (was.story.filled v k) refl

      not-it : v ≢ w
      not-it e = absurd (true≢false (sym (l.on.filled k (subst (λ z. was.story.took z k ≡ true) e took)) ∙ subst (λ z. was.story.filled z k ≡ false) e unfilled))

  holds : (k : ℕ) → k < p.config.nodes → gone k ≡ false → (v : ℕ) × HoldsSlot k v
  holds k below unused =
      let neither = unused-both (is_used p.config p.journal.start p.journal.past k) (is_among p.slots.free k) unused in
      let apart = unused-both (is_reached_in p.config (image_at_on p.journal.start p.journal.past) k) (is_stored_into p.config k (since_on p.journal.past)) neither.0 in
      elim (was.free.others k below neither.1) [
        | inl reached ↦ absurd (true≢false (sym reached ∙ apart.0))
        | inr some ↦ (some.0, holds-by k some.0 apart.1 some.1)
      ]

  below-by : (k : ℕ) → nat_lt k p.config.nodes ≡ true → k < p.config.nodes
  below-by k e = grind (arith, nat_tests)

  -- who holds it
  holder-by : (k : ℕ) (a : Bool) → nat_lt k p.config.nodes ≡ a → (b : Bool) → gone k ≡ b → ℕ
  holder-by k true below false unused = (holds k (below-by k below) unused).0
  holder-by k true below true used = 0
  holder-by k false beyond b used = 0

  pub holder : ℕ → ℕ
  holder k = holder-by k (nat_lt k p.config.nodes) refl (gone k) refl

  holder-has : (k : ℕ) (a : Bool) (below : nat_lt k p.config.nodes ≡ a) (b : Bool) (unused : gone k ≡ b) → a ≡ true → b ≡ false → HoldsSlot k (holder-by k a below b unused)
  unfolding holder-by
  holder-has k true below false unused is not = (holds k (below-by k below) unused).1
  holder-has k true below true used is not = absurd (cc)
  holder-has k false beyond b used is not = absurd (cc)

  has : (k : ℕ) → k < p.config.nodes → gone k ≡ false → HoldsSlot k (holder k)
  unfolding holder
  has k below unused = holder-has k (nat_lt k p.config.nodes) refl (gone k) refl (let t : nat_lt k p.config.nodes ≡ true = grind (arith, nat_tests) in t) unused

  pub place : ℕ → ℕ
  place k = place-in (list (holder k)) k

  found : (k : ℕ) → k < p.config.nodes → gone k ≡ false → IsAt (list (holder k)) k (place k)
  unfolding place
  found k below unused = is-at (list (holder k)) k (has k below unused).holding.among

  few : (k : ℕ) → length (list (holder k)) ≤ SPLIT_SLOTS
  unfolding list
  few k = list-few (holder k) (holder k == w) refl

  one-each : (k j : ℕ) → k < p.config.nodes → j < p.config.nodes → gone k ≡ false → gone j ≡ false → holder k ≡ holder j → place k ≡ place j → k ≡ j
  one-each k j k-below j-below k-unused j-unused same also =
      sym (found k k-below k-unused).is ∙ (ap (λ v. slice_index (list v) (place k)) same ∙ (ap (slice_index (list (holder j))) also ∙ (found j j-below j-unused).is))

  pub are-slots-held : AreOthersHeld (λ slot. is_used p.config p.journal.start p.journal.past slot) p.slots.free p.config p.journal.past w holder place
  are-slots-held = record {
    held = λ k below unused. let h = has k below unused in is-other p w l.on.serving was (holder k) h.other h.holding.opened h.holding.is_open;
    placed = λ k below unused. omega (arith, (found k below unused).below, few k);
    one_each = one-each;
  }

-- so fewer are left than that takes
pub slots-run-out : (p : Parts) (w : ℕ) → IsOutOfSlots p w → LacksSlots p.config p.journal w (length p.slots.free)
slots-run-out p w l = let needed = l.needed in record {
  opened = l.on.between.opened;
  is_open = l.on.between.call_open.is_open;
  slots = needed.slots;
  needs = needed.needs;
  lacks = omega (arith, l.fewer, needed.enough);
}

-- and they are not left but for what other workers hold
pub slots-are-spent : HeldSlotsAreSpent → (p : Parts) (w : ℕ) (l : IsOutOfSlots p w) → NodesAreSpent p.config p.journal.start p.journal.past (count_used p.config p.journal.start p.journal.past) w l.on.between.opened
slots-are-spent law p w l = let needed = l.needed in record {
  slots = needed.slots;
  needs = needed.needs;
  lacks = law p.config p.journal.start p.journal.past w needed.slots p.slots.free (holder p w l) (place p w l) (omega (arith, l.fewer, needed.enough)) (are-slots-held p w l);
}
