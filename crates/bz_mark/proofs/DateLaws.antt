-- Laws of moments by the marks alone: the cached values after a mark, what a worker has asked for, and from when words date.
use Rattle.std.proofs.Common.{◌≡◌, ◌≢◌, ◌<◌, ◌≤◌, ◌+◌, ◌/◌, ◌==◌, ◌&&◌, if◌then◌else◌, ℕ, Bool, true, false, List, [], ◌∷◌, length, refl, sym, ap, ◌∙◌, arith}
use Rattle.std.specs.Prelude.{nat_lt, max}
use Rattle.std.proofs.lemmas.Bool.Decides.{nat_tests}
use Rattle.bz_mark.specs.declared.marks.Mark.{Mark}
use Rattle.bz_mark.specs.declared.marks.Mark.TheVariants.{Store, Cas, Ask, Fence, Evict, Cut}
use Rattle.bz_mark.specs.Dates.{asked, since, cached_at, durable_word}

-- the mark is no cut
abbrev pub IsNoCut : Mark → Type 0
IsNoCut Cut = ⊥
IsNoCut mark = Unit {0}

pub no_cut : (mark : Mark) → mark ≢ Cut → IsNoCut mark
no_cut Cut go = absurd (go refl)
no_cut mark go = tt

pub before_it : (n k : ℕ) → k ≤ n → nat_lt n k ≡ false
before_it n k h = grind (arith, nat_tests)

pub after_it : (n k : ℕ) → n < k → nat_lt n k ≡ true
after_it n k h = grind (arith, nat_tests)

pub either_most : (t : Bool) (x y n : ℕ) → x ≤ n → y ≤ n → (if t then x else y) ≤ n
either_most true x y n p q = p
either_most false x y n p q = q

-- what a mark other than a cut makes of the cached value of a word
abbrev pub changed : Mark → ℕ → ℕ → ℕ
changed (Store w b v) a x = if a == b then v else x
changed (Cas w b old new found) a x = if (a == b && found == old) then new else x
changed mark a x = x

-- the values up to a mark are those before it
pub cached-before : (start : List ℕ) (mark : Mark) (past : List Mark) (moment a : ℕ) → moment ≤ length past → cached_at start (mark ∷ past) moment a ≡ cached_at start past moment a
cached-before start (Store w b v) past moment a h = rw (before_it (length past) moment h) refl
cached-before start (Cas w b old new found) past moment a h = rw (before_it (length past) moment h) refl
cached-before start Cut past moment a h = rw (before_it (length past) moment h) refl
cached-before start mark past moment a h = refl

pub cached-after : (start : List ℕ) (mark : Mark) (past : List Mark) (moment a : ℕ) → IsNoCut mark → length past < moment
    → cached_at start (mark ∷ past) moment a ≡ changed mark a (cached_at start past moment a)
cached-after start (Store w b v) past moment a go h = rw (after_it (length past) moment h) refl
cached-after start (Cas w b old new found) past moment a go h = rw (after_it (length past) moment h) refl
cached-after start Cut past moment a go h = absurd go
cached-after start mark past moment a go h = refl

pub cached-cut : (start : List ℕ) (past : List Mark) (moment a : ℕ) → length past < moment → cached_at start (Cut ∷ past) moment a ≡ durable_word start past a
cached-cut start past moment a h = rw (after_it (length past) moment h) refl

-- after all marks the values stay
pub cached-beyond : (start : List ℕ) (past : List Mark) (moment a : ℕ) → length past ≤ moment → cached_at start past moment a ≡ cached_at start past (length past) a
cached-beyond start [] moment a h = refl
cached-beyond start (Cut ∷ past) moment a h = cached-cut start past moment a (omega arith) ∙ sym (cached-cut start past (length (Cut ∷ past)) a (omega arith))
cached-beyond start (mark ∷ past) moment a h =
    cached-after start mark past moment a tt (omega arith)
    ∙ ap (changed mark a) (cached-beyond start past moment a (omega arith) ∙ sym (cached-beyond start past (length (mark ∷ past)) a (omega arith)))
    ∙ sym (cached-after start mark past (length (mark ∷ past)) a tt (omega arith))

-- the cached value after a mark
pub cached-now : (start : List ℕ) (mark : Mark) (past : List Mark) (a : ℕ) → IsNoCut mark
    → cached_at start (mark ∷ past) (length (mark ∷ past)) a ≡ changed mark a (cached_at start past (length past) a)
cached-now start mark past a go =
    cached-after start mark past (length (mark ∷ past)) a go (omega arith) ∙ ap (changed mark a) (cached-beyond start past (length (mark ∷ past)) a (omega arith))

-- no ask is of a later moment than now
pub asked-within : (past : List Mark) (w line : ℕ) → asked past w line ≤ length past
asked-within [] w line = omega arith
asked-within (Ask v other ∷ past) w line = either_most (v == w && other == line) (length past) (asked past w line) _ (omega arith) (omega (arith, asked-within past w line))
asked-within (Fence v ∷ past) w line = either_most (v == w) 0 (asked past w line) _ (omega arith) (omega (arith, asked-within past w line))
asked-within (Cut ∷ past) w line = omega arith
asked-within (mark ∷ past) w line = omega (arith, asked-within past w line)

-- and no durable word dates from later
pub since-within : (past : List Mark) (a : ℕ) → since past a ≤ length past
since-within [] a = omega arith
since-within (Fence w ∷ past) a = omega (arith, since-within past a, asked-within past w (a / 8))
since-within (Evict b ∷ past) a = either_most (a == b) (length past) (since past a) _ (omega arith) (omega (arith, since-within past a))
since-within (Cut ∷ past) a = omega arith
since-within (mark ∷ past) a = omega (arith, since-within past a)

-- one mark more, for what was asked
abbrev pub asked_after : Mark → ℕ → ℕ → ℕ → ℕ → ℕ
asked_after (Ask v other) now w line x = if (v == w && other == line) then now else x
asked_after (Fence v) now w line x = if v == w then 0 else x
asked_after Cut now w line x = 0
asked_after mark now w line x = x

pub asked-is : (mark : Mark) (past : List Mark) (w line : ℕ) → asked (mark ∷ past) w line ≡ asked_after mark (length past) w line (asked past w line)
asked-is (Ask v other) past w line = refl
asked-is (Fence v) past w line = refl
asked-is Cut past w line = refl
asked-is mark past w line = refl

-- and for the moment from which a word dates
abbrev pub since_after : List Mark → Mark → ℕ → ℕ → ℕ
since_after past (Fence w) a x = max x (asked past w (a / 8))
since_after past (Evict b) a x = if a == b then length past else x
since_after past Cut a x = length past + 1
since_after past mark a x = x

pub since-is : (mark : Mark) (past : List Mark) (a : ℕ) → since (mark ∷ past) a ≡ since_after past mark a (since past a)
since-is (Fence w) past a = refl
since-is (Evict b) past a = refl
since-is Cut past a = refl
since-is mark past a = refl

least_either : (t : Bool) (x y n : ℕ) → n ≤ x → n ≤ y → n ≤ (if t then x else y)
least_either true x y n p q = p
least_either false x y n p q = q

-- it never falls
pub since-rises : (past : List Mark) (mark : Mark) (a x : ℕ) → x ≤ length past → x ≤ since_after past mark a x
since-rises past (Fence w) a x h = omega arith
since-rises past (Evict b) a x h = least_either (a == b) (length past) x x h (omega arith)
since-rises past Cut a x h = omega arith
since-rises past mark a x h = omega arith

within_either : (t : Bool) (now x y m : ℕ) → x ≤ max y m → (if t then now else x) ≤ max (if t then now else y) m
within_either true now x y m h = omega arith
within_either false now x y m h = h

-- and rises no further from a later moment than to that
pub since-between : (past : List Mark) (mark : Mark) (a x y m : ℕ) → x ≤ max y m → since_after past mark a x ≤ max (since_after past mark a y) m
since-between past (Fence w) a x y m h = omega arith
since-between past (Evict b) a x y m h = within_either (a == b) (length past) x y m h
since-between past Cut a x y m h = omega arith
since-between past mark a x y m h = h
