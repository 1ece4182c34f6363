-- Slots that a worker takes are free no more, and it is covered for them.
use Rattle.std.proofs.Common.{◌≡◌, ℕ, zero, suc, ◌≤◌, ◌<◌, ◌||◌, ◌&&◌, ◌==◌, ◌⊎◌, not, Bool, true, false, List, [], ◌∷◌, ◌++◌, length, take, drop, arith, refl, sym, ap, subst, ◌∙◌, inl, inr}
use Rattle.std.proofs.lemmas.Bool.{true≢false}
use Rattle.std.proofs.lemmas.Bool.Decides.{nat_tests}
use Rattle.std.proofs.lemmas.List.{length-append}
use Rattle.bz_layout.specs.Slots.{FreeSlots}
use Rattle.bz_layout.specs.declared.config.Config.{Config}
use Rattle.bz_tree.specs.Walk.{is_among}
use Rattle.bz_sound.specs.Memory.Spent.{is_reached_in}
use Rattle.bz_refinement.specs.Laws.{MayTake, takes_slots}
use Rattle.bz_refinement.specs.Story.{Story}
use Rattle.bz_task.specs.OwnActs.{AreTakenFrom, is_gained}
use Rattle.bz_world.specs.Inside.Kept.{AreFree}
use Rattle.bz_world.specs.Inside.Serving.{IsCovered}

or-left : (a b : Bool) → a ≡ true → a || b ≡ true
or-left true b e = refl
or-left false b e = absurd (cc)

or-right : (a b : Bool) → b ≡ true → a || b ≡ true
or-right true b e = refl
or-right false b e = e

and-both : (a b : Bool) → a && b ≡ true → (a ≡ true) × (b ≡ true)
and-both true b e = (refl, e)
and-both false b e = absurd (cc)

turned : (b : Bool) → not b ≡ true → b ≡ false
turned true e = absurd (cc)
turned false e = refl

-- a list, its first numbers and the others
among-drop : (n : ℕ) (xs : List ℕ) (k : ℕ) → is_among (drop n xs) k ≡ true → is_among xs k ≡ true
among-drop zero xs k h = h
among-drop (suc n) [] k h = h
among-drop (suc n) (x ∷ xs) k h = or-right (x == k) (is_among xs k) (among-drop n xs k h)

among-first : (n : ℕ) (xs : List ℕ) (k : ℕ) → is_among xs k ≡ true → is_among (drop n xs) k ≡ false → is_among (take n xs) k ≡ true
among-first zero xs k h f = absurd (true≢false (sym h ∙ f))
among-first (suc n) [] k h f = h
among-first (suc n) (x ∷ xs) k h f = go (x == k) h (λ e. among-first n xs k e f)
  where
    go : (b : Bool) → b || is_among xs k ≡ true → (is_among xs k ≡ true → is_among (take n xs) k ≡ true) → b || is_among (take n xs) k ≡ true
    go true e rest = refl
    go false e rest = rest e

among-left : (xs ys : List ℕ) (k : ℕ) → is_among xs k ≡ true → is_among (xs ++ ys) k ≡ true
among-left [] ys k h = absurd (cc)
among-left (x ∷ xs) ys k h = go (x == k) h (among-left xs ys k)
  where
    go : (b : Bool) → b || is_among xs k ≡ true → (is_among xs k ≡ true → is_among (xs ++ ys) k ≡ true) → b || is_among (xs ++ ys) k ≡ true
    go true e rest = refl
    go false e rest = rest e

among-right : (xs ys : List ℕ) (k : ℕ) → is_among ys k ≡ true → is_among (xs ++ ys) k ≡ true
among-right [] ys k h = h
among-right (x ∷ xs) ys k h = or-right (x == k) (is_among (xs ++ ys) k) (among-right xs ys k h)

few-first : (n : ℕ) (xs : List ℕ) → length (take n xs) ≤ n
few-first zero xs = omega arith
few-first (suc n) [] = omega arith
few-first (suc n) (x ∷ xs) = omega (arith, few-first n xs)

-- a slot that was free and is so no more
gained-free : (old new : FreeSlots) (k : ℕ) → is_gained old new k ≡ true → (is_among old.free k ≡ true) × (is_among new.free k ≡ false)
gained-free old new k h = let both = and-both (is_among old.free k) (not (is_among new.free k)) h in (both.0, turned (is_among new.free k) both.1)

-- a slot that is free still was free
pub was-free : (needed left : ℕ) (old new : FreeSlots) → AreTakenFrom needed left old new → (k : ℕ) → is_among new.free k ≡ true → is_among old.free k ≡ true
was-free needed left old new (inl t) k h = among-drop needed old.free k (subst (λ (z : FreeSlots). is_among z.free k ≡ true) t.slots h)
was-free needed left old new (inr t) k h = subst (λ (z : FreeSlots). is_among z.free k ≡ true) t.slots h

fewer-left : (n : ℕ) (xs : List ℕ) → length (drop n xs) ≤ length xs
fewer-left zero xs = omega arith
fewer-left (suc n) [] = omega arith
fewer-left (suc n) (x ∷ xs) = omega (arith, fewer-left n xs)

-- there are no more free slots than there were
pub no-more-free : (needed left : ℕ) (old new : FreeSlots) → AreTakenFrom needed left old new → length new.free ≤ length old.free
no-more-free needed left old new (inl t) = omega (arith, fewer-left needed old.free, ap (λ (z : FreeSlots). length z.free) t.slots)
no-more-free needed left old new (inr t) = omega (arith, ap (λ (z : FreeSlots). length z.free) t.slots)

same-nodes : (needed left : ℕ) (old new : FreeSlots) → AreTakenFrom needed left old new → new.nodes ≡ old.nodes
same-nodes needed left old new (inl t) = ap (λ (z : FreeSlots). z.nodes) t.slots
same-nodes needed left old new (inr t) = ap (λ (z : FreeSlots). z.nodes) t.slots

-- what the worker took may not be stored into yet
pub covered-taken : (took filled : ℕ → Bool) (needed left : ℕ) (old new : FreeSlots) → AreTakenFrom needed left old new → IsCovered took filled needed → IsCovered (λ k. took k || is_gained old new k) filled left
covered-taken took filled needed left old new (inl t) c = record {
  unfilled = c.unfilled ++ take needed old.free;
  few = omega (arith, length-append c.unfilled (take needed old.free), few-first needed old.free, t.none_left, c.few);
  all = λ k h f. one k (took k) refl h f;
}
  where
    one : (k : ℕ) (b : Bool) → took k ≡ b → b || is_gained old new k ≡ true → filled k ≡ false → is_among (c.unfilled ++ take needed old.free) k ≡ true
    one k true e h f = among-left c.unfilled (take needed old.free) k (c.all k e f)
    one k false e h f =
        let free = gained-free old new k h in
        among-right c.unfilled (take needed old.free) k (among-first needed old.free k free.0 (subst (λ (z : FreeSlots). is_among z.free k ≡ false) t.slots free.1))
covered-taken took filled needed left old new (inr t) c = record {
  unfilled = c.unfilled;
  few = omega (arith, t.fewer, c.few);
  all = λ k h f. one k (took k) refl h f;
}
  where
    one : (k : ℕ) (b : Bool) → took k ≡ b → b || is_gained old new k ≡ true → filled k ≡ false → is_among c.unfilled k ≡ true
    one k true e h f = c.all k e f
    one k false e h f = let free = gained-free old new k h in absurd (true≢false (sym free.0 ∙ subst (λ (z : FreeSlots). is_among z.free k ≡ false) t.slots free.1))

-- slots that were free may be taken
pub may-take : (c : Config) (image : ℕ → ℕ) (story : Story) (old new : FreeSlots) → AreFree c image old story.took → MayTake c story old new
may-take c image story old new free = record {
  slots = λ k h. free.within k (gained-free old new k h).0;
  nobody = λ v k h. free.untaken v k (gained-free old new k h).0;
}

untaken-still : (t b a n : Bool) → t ≡ false → n ≡ true → t || (b && (a && not n)) ≡ false
untaken-still false true true true e f = refl
untaken-still false true false true e f = refl
untaken-still false false a true e f = refl
untaken-still true b a n e f = absurd (cc)
untaken-still false b a false e f = absurd (cc)

took-now : (t b a n : Bool) → b ≡ true → a ≡ true → n ≡ false → t || (b && (a && not n)) ≡ true
took-now t true true false e f g = or-right t true refl
took-now t false a n e f g = absurd (cc)
took-now t true false n e f g = absurd (cc)
took-now t true true true e f g = absurd (cc)

-- and the others are free as before
pub still-free : (c : Config) (image : ℕ → ℕ) (story : Story) (w needed left : ℕ) (old new : FreeSlots) → AreTakenFrom needed left old new → AreFree c image old story.took → AreFree c image new (takes_slots story w old new).took
still-free c image story w needed left old new taken free = record {
  nodes = same-nodes needed left old new taken ∙ free.nodes;
  within = λ k h. free.within k (was-free needed left old new taken k h);
  fresh = λ k h. free.fresh k (was-free needed left old new taken k h);
  untaken = λ v k h. untaken-still (story.took v k) (v == w) (is_among old.free k) (is_among new.free k) (free.untaken v k (was-free needed left old new taken k h)) h;
  others = λ k l h. one k l h (is_among old.free k) refl;
}
  where
    one : (k : ℕ) → k < c.nodes → is_among new.free k ≡ false → (b : Bool) → is_among old.free k ≡ b → (is_reached_in c image k ≡ true) ⊎ ((v : ℕ) × ((takes_slots story w old new).took v k ≡ true))
    one k l h false e = elim (free.others k l e) [
      | inl start_reached ↦ inl start_reached
      | inr some ↦ inr (some.0, or-left (story.took some.0 k) ((some.0 == w) && is_gained old new k) some.1)
    ]
    one k l h true e = let self : (w == w) ≡ true = grind (arith, nat_tests) in inr (w, took-now (story.took w k) (w == w) (is_among old.free k) (is_among new.free k) self e h)
