-- The descriptors at each act, once all words are resolved and durable.
use Rattle.std.proofs.Common.{◌≡◌, ◌≢◌, ◌⊎◌, ℕ, ◌+◌, ◌<◌, ◌≤◌, ◌==◌, Bool, true, false, arith, refl, sym, ap, ◌∙◌, inl, inr, subst}
use Rattle.std.specs.Prelude.{if◌then◌else◌}
use Rattle.std.proofs.lemmas.Bool.{cases_eq}
use Rattle.std.proofs.lemmas.Bool.Decides.{nat_tests}
use Rattle.bz_layout.specs.Addresses.{swap_address, line_of}
use Rattle.bz_sweep.specs.Areas.{IsBeside}
use Rattle.bz_sweep.specs.declared.area.Area.{Area}
use Rattle.bz_sweep.proofs.Images.{frees, plain-value}
use Rattle.bz_sweep.specs.Memory.{Memory, StoresWord, Copies, Flushes}
use Rattle.bz_sweep.specs.Words.{IsOfSwap, IsFreeing, IsRecovered}

alike : (b : Bool) (x y z w : ℕ) → z ≡ (if b then x else y) → x ≡ w → y ≡ w → z ≡ w
alike true x y z w e p q = e ∙ p
alike false x y z w e p q = e ∙ q

-- a word of a descriptor after a copy: it stays or becomes 0, and so it is in the caches
becomes : (b : Bool) (x y z : ℕ) → z ≡ (if b then x else y) → (x ≡ y) ⊎ (x ≡ 0) → (z ≡ y) ⊎ (z ≡ 0)
becomes true x y z e (inl same) = inl (e ∙ same)
becomes true x y z e (inr free) = inr (e ∙ free)
becomes false x y z e h = inl e

agrees : (b : Bool) (x y z w : ℕ) → z ≡ (if b then x else y) → w ≡ x → (x ≡ y) ⊎ (x ≡ 0) → (w ≡ z) ⊎ (w ≡ 0)
agrees true x y z w e k h = inl (k ∙ sym e)
agrees false x y z w e k (inl same) = inl (k ∙ (same ∙ sym e))
agrees false x y z w e k (inr free) = inr (k ∙ free)

-- the status of a descriptor that is durably free stays so
pub copied : (r : Area) (v : ℕ → ℕ) (m n : Memory) (f : ℕ → Bool) (u s : ℕ) → u ≤ s → IsFreeing r v m u s → Copies m n f → IsFreeing r v n u s
copied r v m n f u s order h k = record {
  image = frees r v m.durable n.durable h.image (λ a p. alike (f a) _ _ _ _ (k.durable a) (h.cached a p) (h.durable a p)) (λ a p. becomes (f a) _ _ _ (k.durable a) (h.swaps a p));
  cached = λ a p. k.cached a ∙ h.cached a p;
  durable = λ a p. alike (f a) _ _ _ _ (k.durable a) (h.cached a p) (h.durable a p);
  swaps = λ a p. agrees (f a) _ _ _ _ (k.durable a) (k.cached a) (h.swaps a p);
  behind = λ t l. k.cached _ ∙ h.behind t l;
  flushed = λ t l. alike (f (swap_address t)) _ _ _ _ (k.durable _) (h.behind t (omega (arith, l, order))) (h.flushed t l);
  ahead = λ t number l. k.cached _ ∙ (h.ahead t number l ∙ sym (alike (f (swap_address t)) _ _ _ _ (k.durable _) (h.ahead t number l) refl));
}

stored-same : (b p : ℕ) (x y z : ℕ) → z ≡ (if b == p then x else y) → b ≡ p → z ≡ x
stored-same b p x y z e same = grind (arith, nat_tests)

stored-other : (b p : ℕ) (x y z : ℕ) → z ≡ (if b == p then x else y) → b ≢ p → z ≡ y
stored-other b p x y z e other = grind (arith, nat_tests)

pub stored : (r : Area) (v : ℕ → ℕ) (m n : Memory) (u s : ℕ) → IsOfSwap r (swap_address s) → IsFreeing r v m u s → StoresWord m n (swap_address s) 0 → IsFreeing r v n u (s + 1)
stored r v m n u s at h k = record {
  image = frees r v m.durable n.durable h.image (λ a p. k.durable a ∙ h.durable a p) (λ a p. inl (k.durable a));
  cached = λ a p. stored-other a (swap_address s) _ _ _ (k.cached a) (λ e. at.inside (subst (IsBeside r) e p.outside)) ∙ h.cached a p;
  durable = λ a p. k.durable a ∙ h.durable a p;
  swaps = swaps;
  behind = λ t l. elim (cases_eq t s) [
    | inl same ↦ stored-same (swap_address t) (swap_address s) _ _ _ (k.cached _) (ap swap_address same)
    | inr other ↦ stored-other (swap_address t) (swap_address s) _ _ _ (k.cached _) (λ e. other (omega (arith, e))) ∙ h.behind t (omega (arith, l, other))
  ];
  flushed = λ t l. k.durable _ ∙ h.flushed t l;
  ahead = λ t number l. stored-other (swap_address t) (swap_address s) _ _ _ (k.cached _) (λ e. omega (arith, l, e)) ∙ (h.ahead t number (omega (arith, l)) ∙ sym (k.durable _));
}
  where
    swaps : (a : ℕ) → IsOfSwap r a → (n.cached a ≡ n.durable a) ⊎ (n.cached a ≡ 0)
    swaps a p = elim (cases_eq a (swap_address s)) [
      | inl same ↦ inr (stored-same a (swap_address s) _ _ _ (k.cached a) same)
      | inr other ↦ elim (h.swaps a p) [
        | inl e ↦ inl (stored-other a (swap_address s) _ _ _ (k.cached a) other ∙ (e ∙ sym (k.durable a)))
        | inr e ↦ inr (stored-other a (swap_address s) _ _ _ (k.cached a) other ∙ e)
      ]
    ]

pub flushed : (r : Area) (v : ℕ → ℕ) (m n : Memory) (s : ℕ) → IsFreeing r v m s (s + 1) → Flushes m n (line_of (swap_address s)) → IsFreeing r v n (s + 1) (s + 1)
flushed r v m n s h k =
    let g : IsFreeing r v n s (s + 1) = copied r v m n (λ b. line_of b == line_of (swap_address s)) s (s + 1) (omega arith) h k in
    record {
      image = g.image;
      cached = g.cached;
      durable = g.durable;
      swaps = g.swaps;
      behind = g.behind;
      flushed = λ t l. elim (cases_eq t s) [
        | inl same ↦ in-line (line_of (swap_address t)) (line_of (swap_address s)) _ _ _ (k.durable _) (ap (λ x. line_of (swap_address x)) same) ∙ h.behind t l
        | inr other ↦ g.flushed t (omega (arith, l, other))
      ];
      ahead = g.ahead;
    }
  where
    in-line : (a b x y z : ℕ) → z ≡ (if a == b then x else y) → a ≡ b → z ≡ x
    in-line a b x y z e same = grind (arith, nat_tests)

-- a descriptor that is free already
pub passed : (r : Area) (v : ℕ → ℕ) (m : Memory) (s : ℕ) → s < r.swaps → IsFreeing r v m s s → m.cached (swap_address s) ≡ 0 → IsFreeing r v m (s + 1) (s + 1)
passed r v m s number h e = record {
  image = h.image;
  cached = h.cached;
  durable = h.durable;
  swaps = h.swaps;
  behind = λ t l. elim (cases_eq t s) [ inl same ↦ ap (λ x. m.cached (swap_address x)) same ∙ e | inr other ↦ h.behind t (omega (arith, l, other)) ];
  flushed = λ t l. elim (cases_eq t s) [
    | inl same ↦ ap (λ x. m.durable (swap_address x)) same ∙ (sym (h.ahead s number (omega arith)) ∙ e)
    | inr other ↦ h.flushed t (omega (arith, l, other))
  ];
  ahead = λ t below l. h.ahead t below (omega (arith, l));
}

pub ended : (r : Area) (v : ℕ → ℕ) (m : Memory) → IsFreeing r v m r.swaps r.swaps → IsRecovered r v m
ended r v m h = record {
  plain = plain-value r v m.durable h.image;
  cached = h.cached;
  durable = h.durable;
  cached_free = h.behind;
  durable_free = h.flushed;
}
