-- Words that readers see: where they are the same, the same places are seen.
use Rattle.std.proofs.Common.{◌≡◌, ℕ, ◌+◌, ◌<◌, ◌≤◌, true, arith, refl, sym, ap, subst, ◌∙◌, inl, inr}
use Rattle.bz_layout.specs.declared.sizes.TheConstants.{STATUS_AT, HEADER_AT, META_AT}
use Rattle.bz_content.specs.FromSlotted.Page.{meta_of, visible, extent_of, page}
use Rattle.bz_content.specs.FromSlotted.Records.{weight}
use Rattle.bz_word.specs.Statuses.{status}
use Rattle.bz_word.specs.Headers.{header}
use Rattle.bz_task.specs.Laws.{SameRecordsShowTheSame}
use Rattle.bz_task.specs.Shown.{IsOfRecord, IsShown, SameWords, SameRecords}

-- the front of a node is shown
pub front-shown : (n : ℕ → ℕ) (i : ℕ) → i < META_AT → IsShown n i
front-shown n i h = inl (omega (arith, h))

pub meta-shown : (n : ℕ → ℕ) (j : ℕ) → j < (page n).count → IsShown n (META_AT + j)
meta-shown n j h = inl (omega (arith, h))

-- count, block and level as they were, and the metadata words in use: the same places are seen
pub record SamePlaces (n m : ℕ → ℕ) : Type 0 where
  pub count : (page m).count ≡ (page n).count
  pub block : (page m).block ≡ (page n).block
  pub level : (page m).level ≡ (page n).level
  pub meta : (j : ℕ) → j < (page n).count → (page m).meta j ≡ (page n).meta j

pub of-record : (n m : ℕ → ℕ) (i j : ℕ) → SamePlaces n m → IsOfRecord n i j → IsOfRecord m i j
of-record n m i j s r =
    let e : (page n).meta j ≡ (page m).meta j = sym (s.meta j r.counted) in record {
      counted = omega (arith, r.counted, s.count);
      visible = subst (λ x. visible x ≡ true) e r.visible;
      from = subst (λ x. (extent_of x).offset ≤ i) e r.from;
      to = subst (λ x. i < (extent_of x).offset + weight x) e r.to;
    }

pub places-shown : (n m : ℕ → ℕ) (i : ℕ) → SamePlaces n m → IsShown n i → IsShown m i
places-shown n m i s (inl h) = inl (omega (arith, h, s.count))
places-shown n m i s (inr (inl h)) = inr (inl (omega (arith, h, s.block)))
places-shown n m i s (inr (inr (inl h))) = inr (inr (inl (omega (arith, h, s.level))))
places-shown n m i s (inr (inr (inr r))) = inr (inr (inr (r.0, of-record n m i r.0 s r.1)))

pub words-places : (n m : ℕ → ℕ) → SameWords n m → SamePlaces n m
words-places n m s =
    let st : m STATUS_AT ≡ n STATUS_AT = s STATUS_AT (front-shown n STATUS_AT (omega arith)) in
    let hd : m HEADER_AT ≡ n HEADER_AT = s HEADER_AT (front-shown n HEADER_AT (omega arith)) in record {
      count = ap (λ x. (status x).count) st;
      block = ap (λ x. (status x).block) st;
      level = ap (λ x. (header x).level) hd;
      meta = λ j h. ap meta_of (s (META_AT + j) (meta-shown n j h));
    }

pub records-places : (n m : ℕ → ℕ) → SameRecords n m → SamePlaces n m
records-places n m s =
    let hd : m HEADER_AT ≡ n HEADER_AT = s.words HEADER_AT (λ e. absurd (omega (arith, e))) (front-shown n HEADER_AT (omega arith)) in record {
      count = s.count;
      block = s.block;
      level = ap (λ x. (header x).level) hd;
      meta = λ j h. ap meta_of (s.words (META_AT + j) (λ e. absurd (omega (arith, e))) (meta-shown n j h));
    }

pub same-refl : (n : ℕ → ℕ) → SameWords n n
same-refl n i h = refl

pub same-trans : (n m o : ℕ → ℕ) → SameWords n m → SameWords m o → SameWords n o
same-trans n m o s t i h = t i (places-shown n m i (words-places n m s) h) ∙ s i h

pub records-refl : (n : ℕ → ℕ) → SameRecords n n
records-refl n = record { count = refl; block = refl; words = λ i ne h. refl }

pub words-records : (n m : ℕ → ℕ) → SameWords n m → SameRecords n m
words-records n m s = let p = words-places n m s in record { count = p.count; block = p.block; words = λ i ne h. s i h }

pub records-trans : (n m o : ℕ → ℕ) → SameRecords n m → SameRecords m o → SameRecords n o
records-trans n m o s t = record {
  count = t.count ∙ s.count;
  block = t.block ∙ s.block;
  words = λ i ne h. t.words i ne (places-shown n m i (records-places n m s) h) ∙ s.words i ne h;
}

-- the status is the same
pub status-same : (n m : ℕ → ℕ) → SameWords n m → m STATUS_AT ≡ n STATUS_AT
status-same n m s = s STATUS_AT (front-shown n STATUS_AT (omega arith))

places-back : (n m : ℕ → ℕ) → SamePlaces n m → SamePlaces m n
places-back n m s = record { count = sym s.count; block = sym s.block; level = sym s.level; meta = λ j h. sym (s.meta j (omega (arith, h, s.count))) }

pub same-shown : SameRecordsShowTheSame
same-shown n m s i =
    let p : SamePlaces n m = records-places n m s in
    (λ h. places-shown n m i p h, λ h. places-shown m n i (places-back n m p) h)
