-- Separators and the places of child pointers of an inner node stay.
use Rattle.std.proofs.Common.{◌≡◌, ℕ, ◌+◌, ◌<◌, true, arith, refl, ap, ◌∙◌, inl, inr}
use Rattle.bz_layout.specs.declared.config.Config.{Config}
use Rattle.bz_layout.specs.declared.sizes.TheConstants.{HEADER_AT, META_AT}
use Rattle.bz_content.specs.FromSlotted.Reading.{payload_at}
use Rattle.bz_content.specs.FromSlotted.Page.{meta_of, extent_of, page}
use Rattle.bz_content.specs.FromSlotted.Records.{pointer_at}
use Rattle.bz_word.specs.Headers.{header}
use Rattle.bz_task.specs.Instant.{Instant, words, page_at}
use Rattle.bz_task.specs.Laws.{SeparatorsStay}
use Rattle.bz_task.specs.Shown.{SameWords, SameSeparators}
use Rattle.bz_task.specs.Steps.{IsStep}
use Rattle.bz_task.proofs.Sames.{words-places}
use Rattle.bz_task.proofs.Walks.{walk}

separators-refl : (n : ℕ → ℕ) → SameSeparators n n
separators-refl n = record { count = refl; block = refl; front = λ i ne l. refl; words = λ i l no. refl }

-- header, and metadata words
head : (n m : ℕ → ℕ) → SameSeparators n m → m HEADER_AT ≡ n HEADER_AT
head n m s = s.front HEADER_AT (λ e. omega (arith, e)) (omega arith)

pub meta-same : (n m : ℕ → ℕ) → SameSeparators n m → (j : ℕ) → j < (page n).count → (page m).meta j ≡ (page n).meta j
meta-same n m s j l = ap meta_of (s.front (META_AT + j) (λ e. omega (arith, e)) (omega (arith, l)))

pub pointer-same : (n m : ℕ → ℕ) → SameSeparators n m → (j : ℕ) → j < (page n).count → pointer_at (page m) j ≡ pointer_at (page n) j
pointer-same n m s j l = ap (λ z. payload_at (extent_of z)) (meta-same n m s j l)

separators-trans : (n m o : ℕ → ℕ) → SameSeparators n m → SameSeparators m o → SameSeparators n o
separators-trans n m o s t = record {
  count = t.count ∙ s.count;
  block = t.block ∙ s.block;
  front = λ i ne l. t.front i ne (omega (arith, l, s.count)) ∙ s.front i ne l;
  words = λ i l no. t.words i (omega (arith, l, s.count)) (λ j c e. no j (omega (arith, c, s.count)) (e ∙ pointer-same n m s j (omega (arith, c, s.count)))) ∙ s.words i l no;
}

words-separators : (n m : ℕ → ℕ) → 0 < (page n).level → SameWords n m → SameSeparators n m
words-separators n m inner s = let p = words-places n m s in record {
  count = p.count;
  block = p.block;
  front = λ i ne l. s i (inl l);
  words = λ i l no. s i (inr (inr (inl inner)));
}

-- it is reached, an inner node, and has its separators
record Keeps (c : Config) (x y : Instant) (k : ℕ) : Type 0 where
  reached : y.reached k ≡ true
  inner : 0 < (page_at c y k).level
  same : SameSeparators (words c x k) (words c y k)

keep : (c : Config) (x y z : Instant) (k : ℕ) → Keeps c x y k → z.reached k ≡ true → SameSeparators (words c y k) (words c z k) → Keeps c x z k
keep c x y z k f r s = record {
  reached = r;
  inner = omega (arith, f.inner, ap (λ w. (header w).level) (head (words c y k) (words c z k) s));
  same = separators-trans (words c x k) (words c y k) (words c z k) f.same s;
}

keep-step : (c : Config) (x y z : Instant) (k : ℕ) → IsStep c y z → Keeps c x y k → Keeps c x z k
keep-step c x y z k (inl q) f = keep c x y z k f (q.reached k ∙ f.reached) (words-separators (words c y k) (words c z k) f.inner (q.nodes k f.reached))
keep-step c x y z k (inr e) f = elim (e.nodes k f.reached) [
  | inl s ↦ keep c x y z k f (e.reached k f.reached) (words-separators (words c y k) (words c z k) f.inner s)
  | inr m ↦ keep c x y z k f (e.reached k f.reached) (m.inner f.inner)
]

pub separators-stay : SeparatorsStay
separators-stay c at first last m j k h o r l =
    (walk (λ i. Keeps c (at m) (at i) k) m last (record { reached = r; inner = l; same = separators-refl (words c (at m) k) })
    (λ i from to g. keep-step c (at m) (at i) (at (i + 1)) k (h.step i (omega (arith, o.since, from)) to) g) j o.order o.until).same
