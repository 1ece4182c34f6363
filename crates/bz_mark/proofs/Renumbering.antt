-- The moments of a journal and those of the same journal with evictions added, one after the other.
use Rattle.std.proofs.Common.{◌≡◌, ◌<◌, ◌≤◌, ◌/◌, ◌==◌, ◌&&◌, if◌then◌else◌, ℕ, Bool, true, false, List, ◌∷◌, length, refl, sym, ap, ◌∙◌, inl, inr, arith}
use Rattle.std.specs.Prelude.{nat_lt, max}
use Rattle.std.proofs.lemmas.Bool.{cases_lt}
use Rattle.bz_mark.specs.declared.marks.Mark.{Mark}
use Rattle.bz_mark.specs.declared.marks.Mark.TheVariants.{Ask, Fence, Evict, Cut}
use Rattle.bz_mark.specs.Dates.{asked, since, cached_at}
use Rattle.bz_mark.specs.Evictions.{AddsEvictions, none, added, kept}
use Rattle.bz_mark.proofs.DateLaws.{IsNoCut, no_cut, before_it, after_it, changed, cached-before, cached-after, cached-beyond, asked-within, since-within, asked_after, asked-is, since_after, since-is}

-- a function, and another value from after a number on
pub ext : (ℕ → ℕ) → ℕ → ℕ → ℕ → ℕ
ext to n v k = if nat_lt n k then v else to k

pub ext-old : (to : ℕ → ℕ) (n v k : ℕ) → k ≤ n → ext to n v k ≡ to k
unfolding ext
ext-old to n v k h = rw (before_it n k h) refl

pub ext-new : (to : ℕ → ℕ) (n v k : ℕ) → n < k → ext to n v k ≡ v
unfolding ext
ext-new to n v k h = rw (after_it n k h) refl

ext-rises : (to : ℕ → ℕ) (n v : ℕ) → ((x y : ℕ) → x ≤ y → to x ≤ to y) → to n ≤ v → (x y : ℕ) → x ≤ y → ext to n v x ≤ ext to n v y
ext-rises to n v rises last x y h = elim (cases_lt n x) [
  | inl later ↦ rw (ext-new to n v x later, ext-new to n v y (omega arith)) (omega arith)
  | inr low ↦ elim (cases_lt n y) [
    | inl high ↦ rw (ext-old to n v x low, ext-new to n v y high) (omega (arith, rises x n low, last))
    | inr below ↦ rw (ext-old to n v x low, ext-old to n v y below) (rises x y h)
  ]
]

-- each moment of the longer journal is one of the shorter, in the same order, at which each cached word is the same
pub record Renumbers (start : List ℕ) (past more : List Mark) : Type 0 where
  pub to : ℕ → ℕ
  pub rises : (x y : ℕ) → x ≤ y → to x ≤ to y
  pub first : to 0 ≡ 0
  pub last : to (length more) ≡ length past
  pub cached : (k a : ℕ) → k ≤ length more → cached_at start more k a ≡ cached_at start past (to k) a
  pub asked : (w line : ℕ) → to (asked more w line) ≡ asked past w line

-- a moment of the longer journal comes before the end of the shorter
pub to-within : (start : List ℕ) (past more : List Mark) (r : Renumbers start past more) (k : ℕ) → k ≤ length more → r.to k ≤ length past
to-within start past more r k h = omega (arith, r.rises k (length more) h, r.last)

-- the greater of two moments is the greater
to-max : (to : ℕ → ℕ) → ((x y : ℕ) → x ≤ y → to x ≤ to y) → (x y : ℕ) → to (max x y) ≡ max (to x) (to y)
to-max to rises x y = elim (cases_lt x y) [
  | inl lt ↦ let is : max x y ≡ y = omega arith in ap to is ∙ omega (arith, rises x y (omega arith))
  | inr le ↦ let is : max x y ≡ x = omega arith in ap to is ∙ omega (arith, rises y x le)
]

to-either : (to : ℕ → ℕ) (t : Bool) (n m x y : ℕ) → to n ≡ m → to x ≡ y → to (if t then n else x) ≡ (if t then m else y)
to-either to true n m x y p q = p
to-either to false n m x y p q = q

asked-to : (to : ℕ → ℕ) (mark : Mark) (n m w line x y : ℕ) → to n ≡ m → to 0 ≡ 0 → to x ≡ y → to (asked_after mark n w line x) ≡ asked_after mark m w line y
asked-to to (Ask v other) n m w line x y now first is = to-either to (v == w && other == line) n m x y now is
asked-to to (Fence v) n m w line x y now first is = to-either to (v == w) 0 0 x y first is
asked-to to Cut n m w line x y now first is = first
asked-to to mark n m w line x y now first is = is

-- nothing was added
abbrev pub same : (start : List ℕ) (past : List Mark) → Renumbers start past past
same start past = record { to = λ k. k; rises = λ x y h. h; first = refl; last = refl; cached = λ k a h. refl; asked = λ w line. refl }

module _ (start : List ℕ) (past more : List Mark) (r : Renumbers start past more) where
  -- an eviction is added
  pub with_eviction : (b : ℕ) → Renumbers start past (Evict b ∷ more)
  with_eviction b = record {
    to = ext r.to (length more) (length past);
    rises = ext-rises r.to (length more) (length past) r.rises (omega (arith, r.last));
    first = ext-old r.to (length more) (length past) 0 (omega arith) ∙ r.first;
    last = ext-new r.to (length more) (length past) (length (Evict b ∷ more)) (omega arith);
    cached = λ k a h. elim (cases_lt (length more) k) [
      | inl new ↦
          cached-beyond start more k a (omega arith) ∙ r.cached (length more) a (omega arith)
          ∙ ap (λ (j : ℕ). cached_at start past j a) (r.last ∙ sym (ext-new r.to (length more) (length past) k new))
      | inr old ↦ r.cached k a old ∙ ap (λ (j : ℕ). cached_at start past j a) (sym (ext-old r.to (length more) (length past) k old))
    ];
    asked = λ w line. ext-old r.to (length more) (length past) (asked more w line) (asked-within more w line) ∙ r.asked w line;
  }

  -- where a word dates from then
  evicted-either : (t : Bool) (a : ℕ) → ext r.to (length more) (length past) (if t then length more else since more a) ≡ (if t then length past else r.to (since more a))
  evicted-either t a = to-either (ext r.to (length more) (length past)) t (length more) (length past) (since more a) (r.to (since more a))
      (ext-old r.to (length more) (length past) (length more) (omega arith) ∙ r.last) (ext-old r.to (length more) (length past) (since more a) (since-within more a))

  pub since-evicted : (b a : ℕ) → (with_eviction b).to (since (Evict b ∷ more) a) ≡ (if a == b then length past else r.to (since more a))
  unfolding with_eviction
  since-evicted b a = evicted-either (a == b) a

  -- a mark comes after both
  pub with_mark : (mark : Mark) → IsNoCut mark → Renumbers start (mark ∷ past) (mark ∷ more)
  with_mark mark go = record {
    to = ext r.to (length more) (length (mark ∷ past));
    rises = ext-rises r.to (length more) (length (mark ∷ past)) r.rises (omega (arith, r.last));
    first = ext-old r.to (length more) (length (mark ∷ past)) 0 (omega arith) ∙ r.first;
    last = ext-new r.to (length more) (length (mark ∷ past)) (length (mark ∷ more)) (omega arith);
    cached = λ k a h. elim (cases_lt (length more) k) [
      | inl new ↦
          cached-after start mark more k a go new
          ∙ ap (changed mark a) (
          cached-beyond start more k a (omega arith) ∙ r.cached (length more) a (omega arith) ∙ ap (λ (j : ℕ). cached_at start past j a) r.last
          ∙ sym (cached-beyond start past (length (mark ∷ past)) a (omega arith))
          )
          ∙ sym (cached-after start mark past (length (mark ∷ past)) a go (omega arith))
          ∙ ap (λ (j : ℕ). cached_at start (mark ∷ past) j a) (sym (ext-new r.to (length more) (length (mark ∷ past)) k new))
      | inr old ↦
          cached-before start mark more k a old ∙ r.cached k a old ∙ sym (cached-before start mark past (r.to k) a (to-within start past more r k old))
          ∙ ap (λ (j : ℕ). cached_at start (mark ∷ past) j a) (sym (ext-old r.to (length more) (length (mark ∷ past)) k old))
    ];
    asked = λ w line.
        ap (ext r.to (length more) (length (mark ∷ past))) (asked-is mark more w line)
        ∙ asked-to (ext r.to (length more) (length (mark ∷ past))) mark (length more) (length past) w line (asked more w line) (asked past w line)
        (ext-old r.to (length more) (length (mark ∷ past)) (length more) (omega arith) ∙ r.last)
        (ext-old r.to (length more) (length (mark ∷ past)) 0 (omega arith) ∙ r.first)
        (ext-old r.to (length more) (length (mark ∷ past)) (asked more w line) (asked-within more w line) ∙ r.asked w line)
        ∙ sym (asked-is mark past w line);
  }

  since-to : (v : ℕ) (mark : Mark) (a : ℕ) → IsNoCut mark → ext r.to (length more) v (since_after more mark a (since more a)) ≡ since_after past mark a (r.to (since more a))
  since-to v (Fence w) a go =
      ext-old r.to (length more) v (max (since more a) (asked more w (a / 8))) (omega (arith, since-within more a, asked-within more w (a / 8)))
      ∙ to-max r.to r.rises (since more a) (asked more w (a / 8)) ∙ ap (max (r.to (since more a))) (r.asked w (a / 8))
  since-to v (Evict b) a go = to-either (ext r.to (length more) v) (a == b) (length more) (length past) (since more a) (r.to (since more a))
      (ext-old r.to (length more) v (length more) (omega arith) ∙ r.last) (ext-old r.to (length more) v (since more a) (since-within more a))
  since-to v Cut a go = absurd go
  since-to v mark a go = ext-old r.to (length more) v (since more a) (since-within more a)

  pub since-marked : (mark : Mark) (go : IsNoCut mark) (a : ℕ) → (with_mark mark go).to (since (mark ∷ more) a) ≡ since_after past mark a (r.to (since more a))
  unfolding with_mark
  since-marked mark go a = ap (ext r.to (length more) (length (mark ∷ past))) (since-is mark more a) ∙ since-to (length (mark ∷ past)) mark a go

-- with evictions added no durable word dates from earlier
pub record Later (start : List ℕ) (past more : List Mark) : Type 0 where
  pub moments : Renumbers start past more
  pub dated : (a : ℕ) → since past a ≤ moments.to (since more a)

later-evicted : (t : Bool) (x y n : ℕ) → x ≤ n → x ≤ y → x ≤ (if t then n else y)
later-evicted true x y n p q = p
later-evicted false x y n p q = q

later-marked : (past : List Mark) (mark : Mark) (a x y : ℕ) → x ≤ y → since_after past mark a x ≤ since_after past mark a y
later-marked past (Fence w) a x y h = omega arith
later-marked past (Evict b) a x y h = either (a == b)
  where
    either : (t : Bool) → (if t then length past else x) ≤ (if t then length past else y)
    either true = omega arith
    either false = h
later-marked past Cut a x y h = omega arith
later-marked past mark a x y h = h

pub later : (start : List ℕ) {past more : List Mark} → AddsEvictions (length start) past more → Later start past more
later start (none {past = past}) = record { moments = same start past; dated = λ a. omega arith }
later start (added {past = past} {more = more} {a = b} within adds) =
    let l : Later start past more = later start adds in
    record {
      moments = with_eviction start past more l.moments b;
      dated = λ a. rw (since-evicted start past more l.moments b a) (later-evicted (a == b) (since past a) (l.moments.to (since more a)) (length past) (since-within past a) (l.dated a));
    }
later start (kept {past = past} {more = more} {mark = mark} go adds) =
    let l : Later start past more = later start adds in
    record {
      moments = with_mark start past more l.moments mark (no_cut mark go);
      dated = λ a. rw (since-marked start past more l.moments mark (no_cut mark go) a, since-is mark past a) (later-marked past mark a (since past a) (l.moments.to (since more a)) (l.dated a));
    }
