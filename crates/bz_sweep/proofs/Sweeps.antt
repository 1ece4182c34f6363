-- The sweep at each act: what is known stays by evictions and fences, and goes on from word to word.
use Rattle.std.proofs.Common.{◌≡◌, ◌≢◌, ◌⊎◌, ℕ, ◌+◌, ◌*◌, ◌<◌, ◌≤◌, ◌==◌, Bool, true, false, arith, refl, sym, ap, ◌∙◌, inl, inr, subst}
use Rattle.std.specs.Prelude.{if◌then◌else◌}
use Rattle.std.proofs.lemmas.Bool.{cases_lt, cases_eq}
use Rattle.std.proofs.lemmas.Bool.Decides.{nat_tests}
use Rattle.bz_layout.specs.Addresses.{line_of}
use Rattle.bz_sweep.specs.Areas.{size_of, IsBeside}
use Rattle.bz_sweep.specs.declared.area.Area.{Area}
use Rattle.bz_sweep.proofs.Images.{resolves}
use Rattle.bz_sweep.specs.Memory.{Memory, StoresWord, Copies, Flushes}
use Rattle.bz_sweep.specs.Places.{IsNextShared}
use Rattle.bz_sweep.specs.Words.{IsShared, IsOfSwap, IsPoweredOn, IsSwept, IsFreeing}

pub powered-on : (r : Area) (v : ℕ → ℕ) (m : Memory) → IsPoweredOn r v m → IsSwept r v m 0 0
powered-on r v m h = record {
  image = h.image;
  swaps = λ a s. h.same a s.within;
  behind = λ a s l. absurd (omega (arith, l));
  flushed = λ a s l. absurd (omega (arith, l));
  ahead = λ a s l. h.same a s.within;
}

-- a word that may be copied
chosen : (b : Bool) (x y z : ℕ) → z ≡ (if b then x else y) → (z ≡ y) ⊎ (z ≡ x)
chosen true x y z e = inr e
chosen false x y z e = inl e

alike : (b : Bool) (x y z w : ℕ) → z ≡ (if b then x else y) → x ≡ w → y ≡ w → z ≡ w
alike true x y z w e p q = e ∙ p
alike false x y z w e p q = e ∙ q

pub copied : (r : Area) (v : ℕ → ℕ) (m n : Memory) (f : ℕ → Bool) (u p : ℕ) → IsSwept r v m u p → Copies m n f → IsSwept r v n u p
copied r v m n f u p h k = record {
  image = resolves r v m.durable n.durable h.image shared (λ a s. alike (f a) _ _ _ _ (k.durable a) (h.swaps a s) refl);
  swaps = λ a s. k.cached a ∙ (h.swaps a s ∙ sym (alike (f a) _ _ _ _ (k.durable a) (h.swaps a s) refl));
  behind = λ a s l. k.cached a ∙ h.behind a s l;
  flushed = λ a s l. elim (cases_lt a p) [
    | inl below ↦ alike (f a) _ _ _ _ (k.durable a) (h.behind a s below) (h.flushed a s l)
    | inr above ↦ alike (f a) _ _ _ _ (k.durable a) (h.ahead a s above ∙ h.flushed a s l) (h.flushed a s l)
  ];
  ahead = λ a s l. k.cached a ∙ (h.ahead a s l ∙ sym (alike (f a) _ _ _ _ (k.durable a) (h.ahead a s l) refl));
}
  where
    shared : (a : ℕ) → IsShared r a → (n.durable a ≡ m.durable a) ⊎ (n.durable a ≡ v a)
    shared a s = elim (chosen (f a) _ _ _ (k.durable a)) [
      | inl stays ↦ inl stays
      | inr becomes ↦ elim (cases_lt a p) [ inl below ↦ inr (becomes ∙ h.behind a s below) | inr above ↦ inl (becomes ∙ h.ahead a s above) ]
    ]

-- the word at an address after a store at this one, and at another
stored-same : (b p : ℕ) (x y z : ℕ) → z ≡ (if b == p then x else y) → b ≡ p → z ≡ x
stored-same b p x y z e same = grind (arith, nat_tests)

stored-other : (b p : ℕ) (x y z : ℕ) → z ≡ (if b == p then x else y) → b ≢ p → z ≡ y
stored-other b p x y z e other = grind (arith, nat_tests)

differs : (r : Area) (a p : ℕ) → IsShared r p → IsOfSwap r a → a ≢ p
differs r a p s t e = t.inside (subst (IsBeside r) (sym e) s.outside)

pub stored : (r : Area) (v : ℕ → ℕ) (m n : Memory) (u p x : ℕ) → IsShared r p → IsSwept r v m u p → x ≡ v p → StoresWord m n p x → IsSwept r v n u (p + 1)
stored r v m n u p x at h e k = record {
  image = resolves r v m.durable n.durable h.image (λ a s. inl (k.durable a)) (λ a s. k.durable a);
  swaps = λ a s. stored-other a p _ _ _ (k.cached a) (differs r a p at s) ∙ (h.swaps a s ∙ sym (k.durable a));
  behind = λ a s l. elim (cases_eq a p) [
    | inl same ↦ stored-same a p _ _ _ (k.cached a) same ∙ (e ∙ ap v (sym same))
    | inr other ↦ stored-other a p _ _ _ (k.cached a) other ∙ h.behind a s (omega (arith, l, other))
  ];
  flushed = λ a s l. k.durable a ∙ h.flushed a s l;
  ahead = λ a s l. stored-other a p _ _ _ (k.cached a) (λ same. omega (arith, l, same)) ∙ (h.ahead a s (omega (arith, l)) ∙ sym (k.durable a));
}

-- a word that is its value already
pub passed : (r : Area) (v : ℕ → ℕ) (m : Memory) (u p : ℕ) → IsShared r p → IsSwept r v m u p → m.durable p ≡ v p → IsSwept r v m u (p + 1)
passed r v m u p at h e = record {
  image = h.image;
  swaps = h.swaps;
  behind = λ a s l. elim (cases_lt a p) [
    | inl below ↦ h.behind a s below
    | inr above ↦ (let same : a ≡ p = omega (arith, l, above) in h.ahead a s above ∙ (ap m.durable same ∙ (e ∙ ap v (sym same))))
  ];
  flushed = h.flushed;
  ahead = λ a s l. h.ahead a s (omega (arith, l));
}

-- none before it is unflushed
pub level : (r : Area) (v : ℕ → ℕ) (m : Memory) (u p : ℕ) → u ≡ p → IsSwept r v m u (p + 1) → m.durable p ≡ v p → IsSwept r v m (p + 1) (p + 1)
level r v m u p same h e = record {
  image = h.image;
  swaps = h.swaps;
  behind = h.behind;
  flushed = λ a s l. elim (cases_lt a p) [
    | inl below ↦ h.flushed a s (omega (arith, below, same))
    | inr above ↦ (let here : a ≡ p = omega (arith, l, above) in ap m.durable here ∙ (e ∙ ap v (sym here)))
  ];
  ahead = h.ahead;
}

-- a flush of the line in which all that is unflushed stands
pub flushed : (r : Area) (v : ℕ → ℕ) (m n : Memory) (u p : ℕ) → u ≤ p → line_of u ≡ line_of p → IsSwept r v m u (p + 1) → Flushes m n (line_of p) → IsSwept r v n (p + 1) (p + 1)
flushed r v m n u p order line h k =
    let g : IsSwept r v n u (p + 1) = copied r v m n (λ b. line_of b == line_of p) u (p + 1) h k in
    record {
      image = g.image;
      swaps = g.swaps;
      behind = g.behind;
      flushed = λ a s l. elim (cases_lt a u) [
        | inl below ↦ g.flushed a s below
        | inr above ↦ in-line (line_of a) (line_of p) _ _ _ (k.durable a) (between a u p above (omega (arith, l)) line) ∙ h.behind a s l
      ];
      ahead = g.ahead;
    }
  where
    in-line : (a b x y z : ℕ) → z ≡ (if a == b then x else y) → a ≡ b → z ≡ x
    in-line a b x y z e same = grind (arith, nat_tests)

    between : (a u p : ℕ) → u ≤ a → a ≤ p → line_of u ≡ line_of p → line_of a ≡ line_of p
    between a u p low high same = omega (arith, low, high, same)

-- the next word outside the descriptors
pub onward : (r : Area) (v : ℕ → ℕ) (m : Memory) (u p q : ℕ) → IsNextShared r p q → IsSwept r v m u (p + 1) → IsSwept r v m u q
onward r v m u p q next h = record {
  image = h.image;
  swaps = h.swaps;
  behind = λ a s l. h.behind a s (omega (arith, next.between a s l));
  flushed = h.flushed;
  ahead = λ a s l. h.ahead a s (omega (arith, next.after, l));
}

pub onward-level : (r : Area) (v : ℕ → ℕ) (m : Memory) (p q : ℕ) → IsNextShared r p q → IsSwept r v m (p + 1) (p + 1) → IsSwept r v m q q
onward-level r v m p q next h =
    let g : IsSwept r v m (p + 1) q = onward r v m (p + 1) p q next h in
    record {
      image = g.image;
      swaps = g.swaps;
      behind = g.behind;
      flushed = λ a s l. h.flushed a s (omega (arith, next.between a s l));
      ahead = g.ahead;
    }

-- after the last word
pub swept : (r : Area) (v : ℕ → ℕ) (m : Memory) (q : ℕ) → q ≡ size_of r → IsSwept r v m q q → ((s : ℕ) → s < r.swaps → IsOfSwap r (16 + 16 * s)) → IsFreeing r v m 0 0
swept r v m q end h places = record {
  image = h.image;
  cached = λ a s. h.behind a s (rw end s.within);
  durable = λ a s. h.flushed a s (rw end s.within);
  swaps = λ a s. inl (h.swaps a s);
  behind = λ s l. absurd (omega (arith, l));
  flushed = λ s l. absurd (omega (arith, l));
  ahead = λ s number l. h.swaps _ (places s number);
}
