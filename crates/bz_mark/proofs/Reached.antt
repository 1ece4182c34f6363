-- Each image of words that may be held is left by an eviction of each word at its moment.
use Rattle.std.proofs.Common.{◌≡◌, ◌≢◌, ◌<◌, ◌≤◌, ◌⊎◌, ◌==◌, ℕ, true, false, zero, suc, List, [], ◌∷◌, length, slice_index, sym, ap, ◌∙◌, subst, inl, inr, arith}
use Rattle.std.specs.Prelude.{max}
use Rattle.std.proofs.lemmas.Bool.{cases_eq, cases_lt}
use Rattle.std.proofs.lemmas.Bool.Decides.{nat_tests}
use Rattle.bz_mark.specs.declared.marks.Mark.{Mark}
use Rattle.bz_mark.specs.declared.marks.Mark.TheVariants.{Evict, Cut}
use Rattle.bz_mark.specs.Dates.{since, cached_at}
use Rattle.bz_mark.specs.Evictions.{AddsEvictions, none, added, kept, MayBeLeft, HoldsEach}
use Rattle.bz_mark.proofs.DateLaws.{no_cut, since-within, since-is, since-rises, since-between}
use Rattle.bz_mark.proofs.Renumbering.{Renumbers, to-within, same, with_eviction, since-evicted, with_mark, since-marked}
use Rattle.bz_mark.proofs.Steps.{cut_or_not}

-- the moment of a word has come, and below k the word has been evicted at it
abbrev HasCome : (ℕ → ℕ) → ℕ → ℕ → ℕ → Type 0
HasCome at now k a = (at a < now) ⊎ ((at a ≡ now) × (a < k))

-- a journal with an eviction of each word at its moment, where that has come
record Evicted (start : List ℕ) (at : ℕ → ℕ) (past : List Mark) (k : ℕ) (more : List Mark) : Type 0 where
  adds : AddsEvictions (length start) past more
  moments : Renumbers start past more
  low : (a : ℕ) → a < length start → HasCome at (length past) k a → at a ≤ moments.to (since more a)
  high : (a : ℕ) → moments.to (since more a) ≤ max (since past a) (at a)

-- none has come before the start
from_start : (start : List ℕ) (at : ℕ → ℕ) → Evicted start at [] 0 []
from_start start at = record {
  adds = none;
  moments = same start [];
  low = λ a within come. elim come [ inl before ↦ absurd (omega arith) | inr below ↦ absurd (omega (arith, below.1)) ];
  high = λ a. omega arith;
}

-- after a cut each that has come is of no more use
from_cut : (start : List ℕ) (at : ℕ → ℕ) (past : List Mark) → Evicted start at (Cut ∷ past) 0 (Cut ∷ past)
from_cut start at past = record {
  adds = none;
  moments = same start (Cut ∷ past);
  low = λ a within come. elim come [ inl before ↦ omega (arith, before) | inr below ↦ absurd (omega (arith, below.1)) ];
  high = λ a. omega arith;
}

-- one mark more
marked : (start : List ℕ) (at : ℕ → ℕ) (past more : List Mark) (mark : Mark) → mark ≢ Cut → Evicted start at past (length start) more → Evicted start at (mark ∷ past) 0 (mark ∷ more)
marked start at past more mark go e = record {
  adds = kept go e.adds;
  moments = with_mark start past more e.moments mark (no_cut mark go);
  low = λ a within come. rw (since-marked start past more e.moments mark (no_cut mark go) a)
      (omega (arith, since-rises past mark a (e.moments.to (since more a)) (to-within start past more e.moments (since more a) (since-within more a)), e.low a within (earlier a within come)));
  high = λ a. rw (since-marked start past more e.moments mark (no_cut mark go) a, since-is mark past a) (since-between past mark a (e.moments.to (since more a)) (since past a) (at a) (e.high a));
}
  where
    earlier : (a : ℕ) → a < length start → HasCome at (length (mark ∷ past)) 0 a → HasCome at (length past) (length start) a
    earlier a within (inr below) = absurd (omega (arith, below.1))
    earlier a within (inl before) = elim (cases_eq (at a) (length past)) [ inl now ↦ inr (now, within) | inr other ↦ inl (omega arith) ]

same_test : (a b : ℕ) → a ≡ b → (a == b) ≡ true
same_test a b e = grind (arith, nat_tests)

other_test : (a b : ℕ) → a ≢ b → (a == b) ≡ false
other_test a b ne = grind (arith, nat_tests)

-- the next word, if this is its moment
evict_next : (start : List ℕ) (at : ℕ → ℕ) (past more : List Mark) (k : ℕ) → k < length start → Evicted start at past k more → (after : List Mark) × Evicted start at past (suc k) after
evict_next start at past more k here e = elim (cases_eq (at k) (length past)) [
  | inl now ↦ (
    Evict k ∷ more,
    record {
      adds = added here e.adds;
      moments = with_eviction start past more e.moments k;
      low = λ a within come. rw (since-evicted start past more e.moments k a) (elim (cases_eq a k) [
        | inl is ↦ rw (same_test a k is) (elim come [ inl before ↦ omega (arith, before) | inr below ↦ omega (arith, below.0) ])
        | inr ne ↦ rw (other_test a k ne) (e.low a within (elim come [ inl before ↦ inl before | inr below ↦ inr (below.0, omega (arith, below.1)) ]))
      ]);
      high = λ a. rw (since-evicted start past more e.moments k a) (elim (cases_eq a k) [
        | inl is ↦ rw (same_test a k is) (let now_too : at a ≡ length past = ap at is ∙ now in omega arith)
        | inr ne ↦ rw (other_test a k ne) (e.high a)
      ]);
    },
  )
  | inr other ↦ (
    more,
    record {
      adds = e.adds;
      moments = e.moments;
      low = λ a within come. e.low a within (elim come [ inl before ↦ inl before | inr below ↦ inr (below.0, next other a below.0 below.1) ]);
      high = e.high;
    },
  )
]
  where
    next : at k ≢ length past → (a : ℕ) → at a ≡ length past → a < suc k → a < k
    next other a now below = elim (cases_eq a k) [ inl is ↦ absurd (other (ap at (sym is) ∙ now)) | inr ne ↦ omega arith ]

-- each word whose moment is now
evict_all : (start : List ℕ) (at : ℕ → ℕ) (past more : List Mark) (k : ℕ) → k ≤ length start → Evicted start at past 0 more → (after : List Mark) × Evicted start at past k after
evict_all start at past more zero few e = (more, e)
evict_all start at past more (suc k) few e =
    let before : (after : List Mark) × Evicted start at past k after = evict_all start at past more k (omega arith) e in
    evict_next start at past before.0 k (omega arith) before.1

-- each word at its moment
evict_each : (start : List ℕ) (at : ℕ → ℕ) (past : List Mark) → (after : List Mark) × Evicted start at past (length start) after
evict_each start at [] = evict_all start at [] [] (length start) (omega arith) (from_start start at)
evict_each start at (mark ∷ past) = elim (cut_or_not mark) [
  | inl cut ↦ evict_all start at (mark ∷ past) (mark ∷ past) (length start) (omega arith) (subst (λ (newest : Mark). Evicted start at (newest ∷ past) 0 (newest ∷ past)) (sym cut) (from_cut start at past))
  | inr go ↦
      let before : (after : List Mark) × Evicted start at past (length start) after = evict_each start at past in
      evict_all start at (mark ∷ past) (mark ∷ before.0) (length start) (omega arith) (marked start at past before.0 mark go before.1)
]

-- a moment at which the word has the image's value, and from which its durable value may date
record IsMomentOf (start : List ℕ) (past : List Mark) (image : List ℕ) (a moment : ℕ) : Type 0 where
  dated : since past a ≤ moment
  within : moment ≤ length past
  value : slice_index image a ≡ cached_at start past moment a

module _ (start : List ℕ) (past : List Mark) (image : List ℕ) (each : HoldsEach start past image) where
  moment_in : (a : ℕ) → (a < length start) ⊎ (length start ≤ a) → ℕ
  moment_in a (inl within) = (each.words a within).moment
  moment_in a (inr beyond) = 0

  in-moment : (a : ℕ) (side : (a < length start) ⊎ (length start ≤ a)) → a < length start → IsMomentOf start past image a (moment_in a side)
  unfolding moment_in
  in-moment a (inl within) here = let held = each.words a within in record { dated = held.dated; within = held.within; value = held.value }
  in-moment a (inr beyond) here = absurd (omega arith)

  moment_of : ℕ → ℕ
  moment_of a = moment_in a (cases_lt a (length start))

  of-moment : (a : ℕ) → a < length start → IsMomentOf start past image a (moment_of a)
  unfolding moment_of
  of-moment a within = in-moment a (cases_lt a (length start)) within

  -- the evictions leave the image's words
  pub reached : MayBeLeft start past image
  reached =
      let all : (after : List Mark) × Evicted start moment_of past (length start) after = evict_each start moment_of past in (
        all.0,
        all.1.adds,
        record {
          size = each.size;
          words = λ a within.
              let m : IsMomentOf start past image a (moment_of a) = of-moment a within in
              let is : all.1.moments.to (since all.0 a) ≡ moment_of a = here all.0 all.1 a within m (cases_lt (moment_of a) (length past)) in
              m.value ∙ sym (all.1.moments.cached (since all.0 a) a (since-within all.0 a) ∙ ap (λ (k : ℕ). cached_at start past k a) is);
        },
      )
    where
      here : (more : List Mark) (e : Evicted start moment_of past (length start) more) (a : ℕ) → a < length start → IsMomentOf start past image a (moment_of a)
          → (moment_of a < length past) ⊎ (length past ≤ moment_of a) → e.moments.to (since more a) ≡ moment_of a
      here more e a within m (inl before) = omega (arith, e.low a within (inl before), e.high a, m.dated)
      here more e a within m (inr now) = omega (arith, e.low a within (inr (omega (arith, m.within), within)), e.high a, m.dated)
