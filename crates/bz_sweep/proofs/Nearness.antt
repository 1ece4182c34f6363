-- What stands in the caches is never far from what is durable.
use Rattle.std.proofs.Common.{◌≡◌, ◌⊎◌, ℕ, ◌^◌, ◌<◌, Bool, true, false, arith, sym, ◌∙◌, inl, inr, subst}
use Rattle.std.specs.Prelude.{if◌then◌else◌}
use Rattle.std.proofs.lemmas.Bool.{cases_lt, and_parts}
use Rattle.bz_content.specs.Lawful.{is_word, is_lawful as is_lawful_in}
use Rattle.bz_sweep.specs.Lawful.{is_lawful}
use Rattle.bz_sweep.specs.Areas.{size_of}
use Rattle.bz_sweep.specs.declared.area.Area.{Area}
use Rattle.bz_sweep.proofs.Images.{place, plain-value}
use Rattle.bz_sweep.proofs.Named.{told}
use Rattle.bz_sweep.proofs.Standing.{image, stable}
use Rattle.bz_sweep.specs.Duties.{Stage, Asked, Made, knows_before, knows_after, knows_in}
use Rattle.bz_sweep.specs.Knowledge.{IsNear, ResolvesSome}
use Rattle.bz_sweep.specs.Memory.{Memory, Copies}
use Rattle.bz_sweep.specs.Places.{IsPlaced}
use Rattle.bz_sweep.specs.Words.{IsImage, IsPoweredOn, IsSwept, IsFreeing}
use Rattle.bz_sweep.specs.declared.phase.SweepPhase.{SweepPhase}
use Rattle.bz_sweep.specs.declared.phase.SweepPhase.TheVariants.{Fresh, Word, Status, Target, Value, Resolve, Flush, SwapStatus, Free, FlushFree, Done}

powered : (r : Area) (v : ℕ → ℕ) (m : Memory) → IsPoweredOn r v m → IsNear r v m
powered r v m h = record { shared = λ a s. inl (h.same a s.within); swaps = λ a s. inl (h.same a s.within) }

swept : (r : Area) (v : ℕ → ℕ) (m : Memory) (u p : ℕ) → IsSwept r v m u p → IsNear r v m
swept r v m u p h = record {
  shared = λ a s. elim (cases_lt a p) [ inl below ↦ inr (h.behind a s below) | inr above ↦ inl (h.ahead a s above) ];
  swaps = λ a s. inl (h.swaps a s);
}

freeing : (r : Area) (v : ℕ → ℕ) (m : Memory) (u n : ℕ) → IsFreeing r v m u n → IsNear r v m
freeing r v m u n h = record { shared = λ a s. inr (h.cached a s); swaps = h.swaps }

near-before : (r : Area) (v : ℕ → ℕ) (m : Memory) (p : SweepPhase) → knows_before r v m p → IsNear r v m
near-before r v m Fresh k = powered r v m k
near-before r v m (Word p) k = swept r v m _ _ k
near-before r v m (Status p s) k = swept r v m _ _ k.0
near-before r v m (Target p q i) k = swept r v m _ _ k.0
near-before r v m (Value p a) k = swept r v m _ _ k.0
near-before r v m (Resolve p x) k = swept r v m _ _ k.0
near-before r v m (Flush p) k = swept r v m _ _ k
near-before r v m (SwapStatus s) k = freeing r v m _ _ k
near-before r v m (Free s) k = freeing r v m _ _ k.0
near-before r v m (FlushFree s) k = freeing r v m _ _ k
near-before r v m Done k = freeing r v m _ _ k

near-after : (r : Area) (v : ℕ → ℕ) (m : Memory) (p : SweepPhase) → knows_after r v m p → IsNear r v m
near-after r v m Fresh k = powered r v m k
near-after r v m (Word p) k = swept r v m _ _ k
near-after r v m (Status p s) k = swept r v m _ _ k.0
near-after r v m (Target p q i) k = swept r v m _ _ k.0
near-after r v m (Value p a) k = swept r v m _ _ k.0
near-after r v m (Resolve p x) k = swept r v m _ _ k
near-after r v m (Flush p) k = swept r v m _ _ k
near-after r v m (SwapStatus s) k = freeing r v m _ _ k
near-after r v m (Free s) k = freeing r v m _ _ k
near-after r v m (FlushFree s) k = freeing r v m _ _ k
near-after r v m Done k = freeing r v m _ _ k

pub near : (r : Area) (v : ℕ → ℕ) (m : Memory) (stage : Stage) (p : SweepPhase) → knows_in r v m stage p → IsNear r v m
near r v m Asked p k = near-before r v m p k
near r v m Made p k = near-after r v m p k

-- a lawful word fits 64 bits
lawful-word : (r : Area) (raw : ℕ → ℕ) (a : ℕ) → is_lawful r raw a ≡ true → raw a < 2 ^ 64
unfolding is_lawful_in
lawful-word r raw a t = (told (raw a) (and_parts (is_word (raw a)) _ t).0).size

pub cached-word : (r : Area) (v : ℕ → ℕ) (m : Memory) → IsImage r v m.durable → IsNear r v m → (a : ℕ) → a < size_of r → m.cached a < 2 ^ 64
cached-word r v m image near a within = elim (place r a within) [
  | inl s ↦ elim (near.shared a s) [
    | inl same ↦ subst (λ x. x < 2 ^ 64) (sym same) (lawful-word r m.durable a (image.lawful a within))
    | inr value ↦ (let small : v a < 2 ^ 61 = plain-value r v m.durable image a s in subst (λ x. x < 2 ^ 64) (sym value) (omega (arith, small)))
  ]
  | inr s ↦ elim (near.swaps a s) [
    | inl same ↦ subst (λ x. x < 2 ^ 64) (sym same) (lawful-word r m.durable a (image.lawful a within))
    | inr free ↦ subst (λ x. x < 2 ^ 64) (sym free) (omega arith)
  ]
]

-- a word after a copy
chosen : (b : Bool) (x y z : ℕ) → z ≡ (if b then x else y) → (z ≡ y) ⊎ (z ≡ x)
chosen true x y z e = inr e
chosen false x y z e = inl e

pub copies-resolve : (r : Area) (v : ℕ → ℕ) (m n : Memory) (f : ℕ → Bool) (stage : Stage) (p : SweepPhase) → IsPlaced r p → knows_in r v m stage p → Copies m n f → ResolvesSome r v m.durable n.durable
copies-resolve r v m n f stage p at k h = record {
  before = image r v m stage p k;
  after = image r v n stage p (stable r v m n f stage p at h k);
  words = λ a s. elim (chosen (f a) _ _ _ (h.durable a)) [
    | inl stays ↦ inl stays
    | inr becomes ↦ elim ((near r v m stage p k).shared a s) [ inl same ↦ inl (becomes ∙ same) | inr value ↦ inr (becomes ∙ value) ]
  ];
}
