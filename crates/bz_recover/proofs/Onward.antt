-- From one inner node of a walk to the next: its children are held in their order, and after them the walk goes on above it.
use Rattle.std.proofs.Common.{◌≡◌, ◌≢◌, ℕ, zero, suc, ◌+◌, ◌-◌, ◌<◌, ◌≤◌, ◌==◌, if◌then◌else◌, List, [], ◌∷◌, ◌++◌, arith, refl, sym, ap, ◌∙◌, subst, inl, inr}
use Rattle.std.specs.Prelude.{None}
use Rattle.std.proofs.lemmas.Bool.{cases_eq}
use Rattle.bz_content.proofs.Honesty.{no}
use Rattle.bz_content.proofs.Reached.{is as same}
use Rattle.bz_layout.specs.Slots.{without}
use Rattle.bz_tree.specs.View.{View}
use Rattle.bz_tree.specs.Walk.{Visit, kid, kids, walk, ComesOnce, fault_of}
use Rattle.bz_tree.proofs.Stacks.{pending-inner, pending-leaf}
use Rattle.bz_recover.specs.Walking.{IsBetween, IsWay, HasCome, GoesOn, way_at, above}
use Rattle.bz_recover.specs.declared.walk.Way.{Way}
use Rattle.bz_recover.proofs.Between.{Taken, takes}

-- a tree whose walk meets no fault
pub record IsSound (v : View) : Type 0 where
  pub none : fault_of v ≡ None
  pub once : ComesOnce (walk v)

no-kids : (v : View) (u : Visit) (l i n : ℕ) (rest : List Visit) → n ≡ 0 → kids v u l i n ++ rest ≡ rest
unfolding kids
no-kids v u l i n rest none = ap (λ k. kids v u l i k ++ rest) none

one-above : (v : View) (at : ℕ → Visit) (ways : List Way) (l n m : ℕ) → n ≡ suc m →
    above v at ways l n ≡ kids v (at (l + 1)) l (way_at ways (l + 1)).next ((way_at ways (l + 1)).count - (way_at ways (l + 1)).next) ++ above v at ways (l + 1) m
unfolding above
one-above v at ways l n m e = ap (above v at ways l) e

pub none-above : (v : View) (at : ℕ → Visit) (ways : List Way) (l n : ℕ) → n ≡ 0 → above v at ways l n ≡ []
unfolding above
none-above v at ways l n e = ap (above v at ways l) e

-- where a node has no more children, the walk goes on above it
pub goes-up : (v : View) (top : ℕ) (ways : List Way) (free : List ℕ) (l : ℕ) (way : Way) → GoesOn v top ways free l way → way.count ≤ way.next → l < top → GoesOn v top ways free (l + 1) (way_at ways (l + 1))
goes-up v top ways free l way g done below = record {
  visit = g.here.at (l + 1);
  on_way = next;
  here = record {
    inner = next.inner;
    at = g.here.at;
    on_way = λ j lower upper. g.here.on_way j (omega (arith, lower)) upper;
    between = subst (λ s. IsBetween v s free) e g.here.between;
  };
}
  where
    next : IsWay v (g.here.at (l + 1)) (l + 1) (way_at ways (l + 1))
    next = g.here.on_way (l + 1) (omega arith) (omega (arith, below))

    level : l ≡ l + 1 - 1
    level = omega arith

    e : kids v g.visit (l - 1) way.next (way.count - way.next) ++ above v g.here.at ways l (top - l)
        ≡ kids v (g.here.at (l + 1)) (l + 1 - 1) (way_at ways (l + 1)).next ((way_at ways (l + 1)).count - (way_at ways (l + 1)).next) ++ above v g.here.at ways (l + 1) (top - (l + 1))
    e =
        no-kids v g.visit (l - 1) way.next (way.count - way.next) (above v g.here.at ways l (top - l)) (omega (arith, done))
        ∙ (one-above v g.here.at ways l (top - l) (top - (l + 1)) (omega (arith, below))
        ∙ ap (λ k. kids v (g.here.at (l + 1)) k (way_at ways (l + 1)).next ((way_at ways (l + 1)).count - (way_at ways (l + 1)).next) ++ above v g.here.at ways (l + 1) (top - (l + 1))) level)

-- and at the root it has ended
pub goes-out : (v : View) (top : ℕ) (ways : List Way) (free : List ℕ) (l : ℕ) (way : Way) → GoesOn v top ways free l way → way.count ≤ way.next → l ≡ top → IsBetween v [] free
goes-out v top ways free l way g done end = subst (λ s. IsBetween v s free) e g.here.between
  where
    e : kids v g.visit (l - 1) way.next (way.count - way.next) ++ above v g.here.at ways l (top - l) ≡ []
    e =
        no-kids v g.visit (l - 1) way.next (way.count - way.next) (above v g.here.at ways l (top - l)) (omega (arith, done))
        ∙ none-above v g.here.at ways l (top - l) (omega (arith, end))

-- the first child of a node
pub first-child : (v : View) (top : ℕ) (ways : List Way) (free : List ℕ) (l slot count : ℕ) (h : HasCome v top ways free l slot) → v.count h.visit.slot ≡ count →
    GoesOn v top ways free l (record { slot = slot; next = 0; count = count })
first-child v top ways free l slot count h e = record {
  visit = h.visit;
  on_way = record { inner = h.here.inner; slot = h.there; count = e };
  here = record {
    inner = h.here.inner;
    at = h.here.at;
    on_way = h.here.on_way;
    between = subst (λ n. IsBetween v (kids v h.visit (l - 1) 0 n ++ above v h.here.at ways l (top - l)) free) size h.here.between;
  };
}
  where
    size : v.count h.visit.slot ≡ count - 0
    size = omega (arith, e)

one-kid : (v : View) (u : Visit) (l i n m : ℕ) (rest : List Visit) → n ≡ suc m → kids v u l i n ++ rest ≡ kid v u l i ∷ (kids v u l (i + 1) m ++ rest)
unfolding kids
one-kid v u l i n m rest e = ap (λ k. kids v u l i k ++ rest) e

-- the way with one child fewer to come
abbrev pub after : Way → Way
after way = record { slot = way.slot; next = way.next + 1; count = way.count }

module _ (v : View) (top : ℕ) (ways : List Way) (free : List ℕ) (l : ℕ) (way : Way) (s : IsSound v) (g : GoesOn v top ways free l way) (more : way.next < way.count) (inside : v.child g.visit.slot way.next < v.top) where
  abbrev child : Visit
  child = kid v g.visit (l - 1) way.next

  abbrev rest : List Visit
  rest = kids v g.visit (l - 1) (way.next + 1) (way.count - (way.next + 1)) ++ above v g.here.at ways l (top - l)

  stack : kids v g.visit (l - 1) way.next (way.count - way.next) ++ above v g.here.at ways l (top - l) ≡ child ∷ rest
  stack = one-kid v g.visit (l - 1) way.next (way.count - way.next) (way.count - (way.next + 1)) (above v g.here.at ways l (top - l)) (omega (arith, more))

  -- a leaf is held
  pub leaf-taken : l ≡ 1 → Taken v child rest free
  leaf-taken low = takes v child (child ∷ rest) rest free s.none s.once inside (subst (λ t. IsBetween v t free) stack g.here.between) (pending-leaf v child rest (omega (arith, low)))

  pub leaf-next : l ≡ 1 → GoesOn v top ways (without (v.child g.visit.slot way.next) free) l (after way)
  leaf-next low = record {
    visit = g.visit;
    on_way = record { inner = g.on_way.inner; slot = g.on_way.slot; count = g.on_way.count };
    here = record { inner = g.here.inner; at = g.here.at; on_way = g.here.on_way; between = (leaf-taken low).between };
  }

  -- an inner node is held, and its children come next
  abbrev inner-rest : List Visit
  inner-rest = kids v child (l - 1 - 1) 0 (v.count child.slot) ++ rest

  pub inner-taken : 1 < l → Taken v child inner-rest free
  inner-taken high = takes v child (child ∷ rest) inner-rest free s.none s.once inside (subst (λ t. IsBetween v t free) stack g.here.between) (pending-inner v (l - 1 - 1) child rest (omega (arith, high)))

  -- the node above is kept, with the child after this one
  abbrev at-after : ℕ → Visit
  at-after j = if j == l then g.visit else g.here.at j

  module _ (ways-after : List Way) (here : way_at ways-after l ≡ after way) (others : (j : ℕ) → j ≢ l → way_at ways-after j ≡ way_at ways j) where
    kept : (j : ℕ) → j ≢ l → at-after j ≡ g.here.at j
    kept j ne = rw (no j l ne) refl

    same-above : (k n : ℕ) → l ≤ k → above v at-after ways-after k n ≡ above v g.here.at ways k n
    unfolding above
    same-above k zero m = refl
    same-above k (suc n) m =
        let ne : k + 1 ≢ l = omega (arith, m) in
        rw (kept (k + 1) ne, others (k + 1) ne, same-above (k + 1) n (omega (arith, m))) refl

    at-here : at-after l ≡ g.visit
    at-here = rw (same l) refl

    -- what is to come after the child's own children
    rest-above : above v at-after ways-after (l - 1) (suc (top - l)) ≡ rest
    rest-above =
        let back : l - 1 + 1 ≡ l = omega (arith, g.on_way.inner.inner) in
        one-above v at-after ways-after (l - 1) (suc (top - l)) (top - l) refl
        ∙ (ap (λ k. kids v (at-after k) (l - 1) (way_at ways-after k).next ((way_at ways-after k).count - (way_at ways-after k).next) ++ above v at-after ways-after k (top - l)) back
        ∙ rw (at-here, here, same-above l (top - l) (omega arith)) refl)

    on-way : (j : ℕ) → l - 1 < j → j ≤ top → IsWay v (at-after j) j (way_at ways-after j)
    on-way j lower upper = elim (cases_eq j l) [
      | inl e ↦
          let kept-way : IsWay v g.visit l (after way) = record { inner = g.on_way.inner; slot = g.on_way.slot; count = g.on_way.count } in
          subst (λ k. IsWay v (at-after k) k (way_at ways-after k)) (sym e) (rw (at-here, here) kept-way)
      | inr ne ↦ rw (kept j ne, others j ne) (g.here.on_way j (omega (arith, lower, ne)) upper)
    ]

    pub inner-next : 1 < l → l ≤ top → HasCome v top ways-after (without (v.child g.visit.slot way.next) free) (l - 1) (v.child g.visit.slot way.next)
    inner-next high below =
        let size : suc (top - l) ≡ top - (l - 1) = omega (arith, high, below) in
        let e : rest ≡ above v at-after ways-after (l - 1) (top - (l - 1)) = sym rest-above ∙ ap (above v at-after ways-after (l - 1)) size in
        record {
          visit = child;
          there = refl;
          here = record {
            inner = record { slot = inside; level = refl; inner = omega (arith, high); whole = (inner-taken high).whole };
            at = at-after;
            on_way = on-way;
            between = subst (λ r. IsBetween v (kids v child (l - 1 - 1) 0 (v.count child.slot) ++ r) (without (v.child g.visit.slot way.next) free)) e (inner-taken high).between;
          };
        }
