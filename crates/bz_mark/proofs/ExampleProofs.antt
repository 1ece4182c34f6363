-- The worked journals, by computation, and the law of evictions used at one of them.
use Rattle.std.proofs.Common.{◌≡◌, ◌≤◌, ◌<◌, ◌⊎◌, ℕ, zero, suc, List, [], ◌∷◌, length, slice_index, refl, sym, ap, ◌∙◌, subst, inl, inr, arith}
use Rattle.std.proofs.lemmas.Bool.{cases_lt}
use Rattle.bz_mark.specs.declared.marks.Mark.TheVariants.{Evict}
use Rattle.bz_mark.specs.Dates.{cached_at, durable_word}
use Rattle.bz_mark.specs.Evictions.{none, added, MayBeLeft, HoldsEach}
use Rattle.bz_mark.specs.Example.{TableIsRight, AsksAndFencesLeaveThese, fenced_between, LeavesFiveOrSix}
use Rattle.bz_mark.proofs.DateLaws.{before_it, after_it}
use Rattle.bz_mark.proofs.LawProofs.{evictions_leave_what_may_be_held}

pub table_is_right : TableIsRight
table_is_right = (refl, (refl, (refl, (refl, (refl, (refl, (refl, (refl, (refl, (refl, (refl, tt)))))))))))

pub asks_and_fences_leave_these : AsksAndFencesLeaveThese
asks_and_fences_leave_these = ((refl, refl, refl, refl), (refl, refl, refl, refl), ((refl, refl, refl, refl), (refl, refl, refl, refl), ((refl, refl, refl, refl), (refl, refl, refl, refl), ((refl, refl, refl, refl), (refl, refl, refl, refl), ((refl, refl, refl, refl), (refl, refl, refl, refl), ((refl, refl, refl, refl), (refl, refl, refl, refl), ((refl, refl, refl, refl), (refl, refl, refl, refl), ((refl, refl, refl, refl), (refl, refl, refl, refl), ((refl, refl, refl, refl), (refl, refl, refl, refl), ((refl, refl, refl, refl), (refl, refl, refl, refl), tt))))))))))

one_word : (image : List ℕ) (v : ℕ) → length image ≡ 1 → slice_index image 0 ≡ v → image ≡ v ∷ []
one_word [] v size is = absurd (omega arith)
one_word (x ∷ []) v size is = ap (λ (word : ℕ). word ∷ []) is
one_word (x ∷ y ∷ image) v size is = absurd (omega arith)

-- from the ask on the word is 5, and 6 after the last store
five_or_six : (moment : ℕ) → 1 ≤ moment → (cached_at (4 ∷ []) fenced_between moment 0 ≡ 5) ⊎ (cached_at (4 ∷ []) fenced_between moment 0 ≡ 6)
five_or_six moment from = elim (cases_lt 3 moment) [
  | inl late ↦ inr (rw (after_it 3 moment late) refl)
  | inr early ↦ inl (rw (before_it 3 moment early, after_it 0 moment (omega arith)) refl)
]

held_left : (image : List ℕ) → MayBeLeft (4 ∷ []) fenced_between image → (image ≡ 5 ∷ []) ⊎ (image ≡ 6 ∷ [])
held_left image left =
    let each : HoldsEach (4 ∷ []) fenced_between image = (evictions_leave_what_may_be_held (4 ∷ []) image fenced_between).0 left in
    let held = each.words 0 (omega arith) in
    elim (five_or_six held.moment held.dated) [
      | inl five ↦ inl (one_word image 5 each.size (held.value ∙ five))
      | inr six ↦ inr (one_word image 6 each.size (held.value ∙ six))
    ]

at_zero : (P : ℕ → Type 0) → P 0 → (a : ℕ) → a < 1 → P a
at_zero P p zero within = p
at_zero P p (suc a) within = absurd (omega arith)

left_five : MayBeLeft (4 ∷ []) fenced_between (5 ∷ [])
left_five = (fenced_between, none, record { size = refl; words = at_zero (λ (a : ℕ). slice_index (5 ∷ []) a ≡ durable_word (4 ∷ []) fenced_between a) refl })

left_six : MayBeLeft (4 ∷ []) fenced_between (6 ∷ [])
left_six = (
  Evict 0 ∷ fenced_between,
  added (omega arith) none,
  record { size = refl; words = at_zero (λ (a : ℕ). slice_index (6 ∷ []) a ≡ durable_word (4 ∷ []) (Evict 0 ∷ fenced_between) a) refl },
)

pub leaves_five_or_six : LeavesFiveOrSix
leaves_five_or_six image = (
  held_left image,
  λ either. elim either [
    | inl five ↦ subst (MayBeLeft (4 ∷ []) fenced_between) (sym five) left_five
    | inr six ↦ subst (MayBeLeft (4 ∷ []) fenced_between) (sym six) left_six
  ],
)
