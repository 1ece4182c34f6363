-- Slots are spent where each is used, free or held by another worker with an open call, at one of three places.
use Rattle.std.proofs.Common.{◌≡◌, ◌≢◌, ◌==◌, ◌&&◌, ◌||◌, ◌+◌, ◌*◌, ◌/◌, ◌<◌, ◌≤◌, ℕ, zero, suc, Bool, true, false, not, List, [], ◌∷◌, length, refl, sym, ap, subst, ◌∙◌, inl, inr, arith}
use Rattle.std.specs.Prelude.{is_some, count_by}
use Rattle.std.specs.List.{range_with_len}
use Rattle.std.proofs.lemmas.Bool.{cases_eq}
use Rattle.std.proofs.lemmas.Bool.Decides.{nat_tests}
use Rattle.bz_layout.specs.declared.config.Config.{Config}
use Rattle.bz_layout.specs.declared.thresholds.TheConstants.{SPLIT_SLOTS}
use Rattle.bz_tree.specs.Walk.{is_among}
use Rattle.bz_mark.specs.declared.marks.Mark.{Mark}
use Rattle.bz_sound.specs.Calls.{open_call}
use Rattle.bz_sound.specs.Memory.ImageLaws.{AreSlotsHeldBy, AreOthersHeld, HeldSlotsAreSpent}
use Rattle.bz_sound.specs.Memory.Spent.{is_used, count_others, LacksSlots}
use Rattle.bz_sound.proofs.Memory.Counts.{counts, passing, passing-count, all-passing, Lands, IsApartInto, no-fewer}
use Rattle.bz_sound.proofs.Memory.Held.{counted}

-- three places for each number
thrice : (q : ℕ → Bool) (a n : ℕ) → passing (λ u. q (u / 3)) (3 * a) (3 * n) ≡ 3 * passing q a n
unfolding passing
thrice q a zero = refl
thrice q a (suc n) =
    let three : 3 * suc n ≡ suc (suc (suc (3 * n))) = omega arith in
    let first : 3 * a / 3 ≡ a = omega arith in
    let second : (3 * a + 1) / 3 ≡ a = omega arith in
    let third : (3 * a + 1 + 1) / 3 ≡ a = omega arith in
    let start : 3 * a + 1 + 1 + 1 ≡ 3 * (a + 1) = omega arith in
    let rest : passing (λ u. q (u / 3)) (3 * a + 1 + 1 + 1) (3 * n) ≡ 3 * passing q (a + 1) n = subst (λ s. passing (λ u. q (u / 3)) s (3 * n) ≡ 3 * passing q (a + 1) n) (sym start) (thrice q (a + 1) n) in
    ap (passing (λ u. q (u / 3)) (3 * a)) three ∙ omega (arith, ap (λ z. counts (q z)) first, ap (λ z. counts (q z)) second, ap (λ z. counts (q z)) third, rest)

turned : (b : Bool) → not b ≡ true → b ≡ false
turned true is = absurd (cc)
turned false is = refl

-- where none is free
slots-count : (used : ℕ → Bool) (c : Config) (past : List Mark) (w : ℕ) (holder place : ℕ → ℕ) → AreSlotsHeldBy used c past w holder place
    → c.nodes ≤ count_by used (range_with_len 0 c.nodes) + SPLIT_SLOTS * count_others c w past
slots-count used c past w holder place h =
    omega (arith, all-passing used 0 c.nodes, passing-count used 0 c.nodes, passing-count others 1 c.workers, thrice others 1 c.workers, no-fewer (λ s. not (used s)) (λ u. others (u / 3)) (λ s. 3 * holder s + place s) 0 c.nodes (3 * 1) (3 * c.workers) into)
  where
    others : ℕ → Bool
    others v = not (v == w) && is_some (open_call v past)

    free : (s : ℕ) → not (used s) ≡ true → used s ≡ false
    free s is = turned (used s) is

    into : IsApartInto (λ s. not (used s)) (λ u. others (u / 3)) (λ s. 3 * holder s + place s) 0 c.nodes (3 * 1) (3 * c.workers)
    into = record {
      lands = λ s low high is.
          let l : s < c.nodes = omega (arith, high) in
          let other : Lands (λ u. not (u == w) && is_some (open_call u past)) 1 c.workers (holder s) = counted c past w (holder s) (h.held s l (free s is)) in
          let p : place s < 3 = h.placed s l (free s is) in
          let at : (3 * holder s + place s) / 3 ≡ holder s = omega (arith, p) in
          record { low = omega (arith, other.low); high = omega (arith, other.high, p); passes = ap (λ v. not (v == w) && is_some (open_call v past)) at ∙ other.passes };
      apart = λ s t ls hs lt ht is also same.
          let sl : s < c.nodes = omega (arith, hs) in
          let tl : t < c.nodes = omega (arith, ht) in
          let p : place s < 3 = h.placed s sl (free s is) in
          let q : place t < 3 = h.placed t tl (free t also) in
          h.one_each s t sl tl (free s is) (free t also) (omega (arith, same, p, q)) (omega (arith, same, p, q));
    }

-- one number more that passes counts one at most
one-more : (p q : ℕ → Bool) (x a n : ℕ) → ((s : ℕ) → s ≢ x → p s ≡ true → q s ≡ true) → passing p a n ≤ passing q a n + 1
unfolding passing
one-more p q x a zero h = omega arith
one-more p q x a (suc n) h = elim (cases_eq a x) [
  | inl here ↦ omega (
    arith,
    at-most (p a),
    no-fewer p q (λ s. s) (a + 1) n (a + 1) n (record {
      lands = λ s low high is. record { low = low; high = high; passes = h s (λ same. absurd (omega arith)) is };
      apart = λ s t ls hs lt ht is also same. same;
    }),
  )
  | inr ne ↦ omega (arith, no-less (p a) (q a) (h a ne), one-more p q x (a + 1) n h)
]
  where
    at-most : (b : Bool) → counts b ≤ 1
    at-most true = omega arith
    at-most false = omega arith

    no-less : (b d : Bool) → (b ≡ true → d ≡ true) → counts b ≤ counts d
    no-less true d f = omega (arith, ap counts (f refl))
    no-less false d f = omega arith

either-still : (u e r : Bool) → e ≡ false → u || (e || r) ≡ true → u || r ≡ true
either-still true e r is h = refl
either-still false false r is h = h
either-still false true r is h = absurd (cc)

either-less : (u : Bool) → u || false ≡ true → u ≡ true
either-less true h = refl
either-less false h = h

-- so as many more as are free
with-free : (used : ℕ → Bool) (free : List ℕ) (a n : ℕ) → passing (λ s. used s || is_among free s) a n ≤ passing used a n + length free
with-free used [] a n = omega (
  arith,
  no-fewer (λ s. used s || is_among [] s) used (λ s. s) a n a n (record {
    lands = λ s low high is. record { low = low; high = high; passes = either-less (used s) is };
    apart = λ s t ls hs lt ht is also same. same;
  }),
)
with-free used (x ∷ xs) a n = omega (arith, one-more (λ s. used s || is_among (x ∷ xs) s) (λ s. used s || is_among xs s) x a n other, with-free used xs a n)
  where
    other : (s : ℕ) → s ≢ x → used s || is_among (x ∷ xs) s ≡ true → used s || is_among xs s ≡ true
    other s ne h = let differs : (x == s) ≡ false = grind (arith, nat_tests) in either-still (used s) (x == s) (is_among xs s) differs h

-- whatever is used
pub others-count : (used : ℕ → Bool) (c : Config) (past : List Mark) (w slots : ℕ) (free : List ℕ) (holder place : ℕ → ℕ) → length free < slots → AreOthersHeld used free c past w holder place → LacksSlots c (count_by used (range_with_len 0 c.nodes)) slots w past
others-count used c past w slots free holder place fewer h =
    omega (arith, fewer, slots-count (λ s. used s || is_among free s) c past w holder place h, passing-count (λ s. used s || is_among free s) 0 c.nodes, passing-count used 0 c.nodes, with-free used free 0 c.nodes)

pub slots-spent : HeldSlotsAreSpent
slots-spent c start past w slots free holder place fewer h = others-count (λ s. is_used c start past s) c past w slots free holder place fewer h
