-- What each step of a search by halving shows.
use Rattle.std.proofs.Common.{◌≡◌, ℕ, zero, suc, ◌+◌, ◌-◌, ◌<◌, ◌≤◌, true, false, List, arith, refl, sym, ap, subst, ◌∙◌, inl, inr}
use Rattle.std.specs.Prelude.{Some, None, nat_lt}
use Rattle.std.proofs.lemmas.Bool.{cases_lt, cases_eq, true≢false}
use Rattle.std.proofs.lemmas.Bool.Decides.{nat_tests}
use Rattle.bz_layout.specs.declared.sizes.TheConstants.{SHARED_WORDS}
use Rattle.bz_tree.specs.Order.{is_before}
use Rattle.bz_tree.proofs.OrderLaws.{before-trans, before-asymmetric}
use Rattle.bz_slotted.specs.Page.{visible, Page, page}
use Rattle.bz_slotted.specs.Records.{key_at}
use Rattle.bz_slotted.specs.Whole.{KeysRise}
use Rattle.bz_slotted.proofs.KeyFacts.{is_before-other}
use Rattle.bz_search.specs.Digits.{digits}
use Rattle.bz_search.specs.Probes.{middle, IsProbe, probe_in, lower_of, upper_of, down_of, still, size}
use Rattle.bz_search.specs.Searches.{met_from, dead_met, IsNarrowed, Looks, LooksOrHasNone, Searches}
use Rattle.bz_search.specs.declared.probe.Probe.{Probe}
use Rattle.bz_search.proofs.Digits.{digits-half}

-- a part has a probe, or is empty
pub probe-some : (low high : ℕ) → low < high → probe_in low high ≡ Some (record { low = low; index = middle low high; high = high })
probe-some low high h = let t : nat_lt low high ≡ true = grind (arith, nat_tests) in rw t refl

pub probe-none : (low high : ℕ) → high ≤ low → probe_in low high ≡ None
probe-none low high h = let t : nat_lt low high ≡ false = grind (arith, nat_tests) in rw t refl

-- how many records are left in a part
pub still-part : (low high : ℕ) → still (probe_in low high) ≡ high - low
still-part low high = elim (cases_lt low high) [
  | inl l ↦ rw (probe-some low high l) (omega (arith, l))
  | inr l ↦ rw (probe-none low high l) (omega (arith, l))
]

pub size-part : (low high : ℕ) → size (probe_in low high) ≡ high - low
size-part low high = elim (cases_lt low high) [
  | inl l ↦ rw (probe-some low high l) refl
  | inr l ↦ rw (probe-none low high l) (omega (arith, l))
]

module _ (r : Probe) (i : IsProbe r) where
  pub still-lower : still (lower_of r) < still (Some r)
  still-lower = omega (arith, still-part r.low r.index, i.low, i.index, i.some)

  pub still-upper : still (upper_of r) < still (Some r)
  still-upper = omega (arith, still-part (middle r.low r.high + 1) r.high, i.low, i.index, i.some)

  pub still-down : still (down_of r) < still (Some r)
  still-down = elim (cases_lt r.low r.index) [
    | inl l ↦ (let t : nat_lt r.low r.index ≡ true = grind (arith, nat_tests) in rw t (omega (arith, l)))
    | inr l ↦ (let t : nat_lt r.low r.index ≡ false = grind (arith, nat_tests) in rw t still-upper)
  ]

  pub size-some : 0 < size (Some r)
  size-some = omega (arith, i.some)

  -- each half has a binary digit less
  pub digits-lower : digits (size (lower_of r)) + 1 ≤ digits (size (Some r))
  digits-lower = digits-half (size (lower_of r)) (size (Some r)) size-some (omega (arith, size-part r.low r.index, i.low, i.index, i.some))

  pub digits-upper : digits (size (upper_of r)) + 1 ≤ digits (size (Some r))
  digits-upper = digits-half (size (upper_of r)) (size (Some r)) size-some (omega (arith, size-part (middle r.low r.high + 1) r.high, i.low, i.index, i.some))

  pub digits-down : digits (size (down_of r)) ≤ digits (size (Some r))
  digits-down = elim (cases_lt r.low r.index) [
    | inl l ↦ (let t : nat_lt r.low r.index ≡ true = grind (arith, nat_tests) in rw t (omega arith))
    | inr l ↦ (let t : nat_lt r.low r.index ≡ false = grind (arith, nat_tests) in rw t (omega (arith, digits-upper)))
  ]

-- what is in none of the records outside a part is searched for in it
pub in-part : (p : Page) (key : List ℕ) (low high : ℕ) → high ≤ p.sorted → high ≤ SHARED_WORDS → IsNarrowed p key low high → LooksOrHasNone p key (probe_in low high)
in-part p key low high s w h = elim (cases_lt low high) [
  | inl l ↦ rw (probe-some low high l) (record {
    probe = record { low = omega (arith, l); index = omega arith; some = l; high = w };
    sorted = s;
    narrowed = h;
    hidden = λ i a b. absurd (omega (arith, a, b));
  })
  | inr l ↦ rw (probe-none low high l) (λ i d v e. elim (cases_lt i low) [
    | inl before ↦ is_before-other (key_at p i) key (h.below i before d v) e
    | inr after ↦ is_before-other key (key_at p i) (h.above i (omega (arith, after, l)) d v) (sym e)
  ])
]

module _ (p : Page) (key : List ℕ) (rise : KeysRise p) (r : Probe) (h : Looks p key r) where
  within : r.index < p.sorted
  within = omega (arith, h.probe.index, h.probe.some, h.sorted)

  pub narrows-lower : visible (p.meta r.index) ≡ true → is_before key (key_at p r.index) ≡ true → IsNarrowed p key r.low r.index
  narrows-lower v b = record {
    below = h.narrowed.below;
    above = λ i from d vi. elim (cases_eq i r.index) [
      | inl e ↦ subst (λ z. is_before key (key_at p z) ≡ true) (sym e) b
      | inr ne ↦ before-trans key (key_at p r.index) (key_at p i) b (rise r.index i (omega (arith, from, ne)) d v vi)
    ];
  }

  pub narrows-upper : visible (p.meta r.index) ≡ true → is_before (key_at p r.index) key ≡ true → IsNarrowed p key (middle r.low r.high + 1) r.high
  narrows-upper v b = record {
    below = λ i to d vi. elim (cases_eq i r.index) [
      | inl e ↦ subst (λ z. is_before (key_at p z) key ≡ true) (sym e) b
      | inr ne ↦ elim (cases_lt i r.index) [
        | inl before ↦ before-trans (key_at p i) (key_at p r.index) key (rise i r.index before within vi v) b
        | inr after ↦ absurd (true≢false (sym vi ∙ h.hidden i (omega (arith, after, ne)) (omega (arith, to))))
      ]
    ];
    above = h.narrowed.above;
  }

  pub narrows-down : visible (p.meta r.index) ≡ false → r.index ≤ r.low → IsNarrowed p key (middle r.low r.high + 1) r.high
  narrows-down v none = record {
    below = λ i to d vi. elim (cases_lt i r.low) [
      | inl before ↦ h.narrowed.below i before d vi
      | inr after ↦ elim (cases_eq i r.index) [
        | inl e ↦ absurd (true≢false (sym vi ∙ subst (λ z. visible (p.meta z) ≡ false) (sym e) v))
        | inr ne ↦ absurd (true≢false (sym vi ∙ h.hidden i (omega (arith, after, ne, none)) (omega (arith, to))))
      ]
    ];
    above = h.narrowed.above;
  }

  pub looks-down : visible (p.meta r.index) ≡ false → LooksOrHasNone p key (down_of r)
  looks-down v = elim (cases_lt r.low r.index) [
    | inl l ↦ (let t : nat_lt r.low r.index ≡ true = grind (arith, nat_tests) in rw t (record {
      probe = record { low = omega (arith, l); index = omega (arith, h.probe.index); some = h.probe.some; high = h.probe.high };
      sorted = h.sorted;
      narrowed = h.narrowed;
      hidden = λ i a b. elim (cases_eq i r.index) [
        | inl e ↦ subst (λ z. visible (p.meta z) ≡ false) (sym e) v
        | inr ne ↦ h.hidden i (omega (arith, a, ne)) b
      ];
    }))
    | inr l ↦ (let t : nat_lt r.low r.index ≡ false = grind (arith, nat_tests) in rw t (in-part p key (middle r.low r.high + 1) r.high h.sorted h.probe.high (narrows-down v l)))
  ]

-- what is met from a probe on
module _ (p : Page) (key : List ℕ) (more : ℕ) (r : Probe) where
  met-lower : visible (p.meta r.index) ≡ true → is_before key (key_at p r.index) ≡ true → met_from p key (suc more) (Some r) ≡ met_from p key more (lower_of r)
  unfolding met_from
  met-lower v b = rw (v, b) refl

  met-upper : visible (p.meta r.index) ≡ true → is_before (key_at p r.index) key ≡ true → met_from p key (suc more) (Some r) ≡ met_from p key more (upper_of r)
  unfolding met_from
  met-upper v b = rw (v, before-asymmetric (key_at p r.index) key b, b) refl

  met-here : visible (p.meta r.index) ≡ true → is_before key (key_at p r.index) ≡ false → is_before (key_at p r.index) key ≡ false → met_from p key (suc more) (Some r) ≡ 0
  unfolding met_from
  met-here v a b = rw (v, a, b) refl

  met-down : visible (p.meta r.index) ≡ false → met_from p key (suc more) (Some r) ≡ 1 + met_from p key more (down_of r)
  unfolding met_from
  met-down v = rw v refl

met-none : (p : Page) (key : List ℕ) (more : ℕ) → met_from p key more None ≡ 0
unfolding met_from
met-none p key zero = refl
met-none p key (suc more) = refl

pub begins : (n : ℕ → ℕ) (key : List ℕ) → (page n).sorted ≤ SHARED_WORDS → Searches n key 0 (probe_in 0 (page n).sorted)
begins n key w = record {
  at = in-part (page n) key 0 (page n).sorted (omega arith) w (record { below = λ i l. absurd (omega (arith, l)); above = λ i l d. absurd (omega (arith, l, d)) });
  more = (page n).sorted;
  enough = omega (arith, still-part 0 (page n).sorted);
  met = omega arith;
}

module _ (n : ℕ → ℕ) (key : List ℕ) (dead : ℕ) (rise : KeysRise (page n)) (r : Probe) (h : Searches n key dead (Some r)) where
  pub to-lower : visible ((page n).meta r.index) ≡ true → is_before key (key_at (page n) r.index) ≡ true → Searches n key dead (lower_of r)
  to-lower v b = go h.more h.enough h.met
    where
      go : (more : ℕ) → still (Some r) ≤ more → dead + met_from (page n) key more (Some r) ≡ dead_met n key → Searches n key dead (lower_of r)
      go zero l e = absurd (omega (arith, l, still-lower r h.at.probe))
      go (suc more) l e = record {
        at = in-part (page n) key r.low r.index (omega (arith, within (page n) key rise r h.at)) (omega (arith, h.at.probe.index, h.at.probe.some, h.at.probe.high)) (narrows-lower (page n) key rise r h.at v b);
        more = more;
        enough = omega (arith, l, still-lower r h.at.probe);
        met = ap (λ z. dead + z) (sym (met-lower (page n) key more r v b)) ∙ e;
      }

  pub to-upper : visible ((page n).meta r.index) ≡ true → is_before (key_at (page n) r.index) key ≡ true → Searches n key dead (upper_of r)
  to-upper v b = go h.more h.enough h.met
    where
      go : (more : ℕ) → still (Some r) ≤ more → dead + met_from (page n) key more (Some r) ≡ dead_met n key → Searches n key dead (upper_of r)
      go zero l e = absurd (omega (arith, l, still-upper r h.at.probe))
      go (suc more) l e = record {
        at = in-part (page n) key (middle r.low r.high + 1) r.high h.at.sorted h.at.probe.high (narrows-upper (page n) key rise r h.at v b);
        more = more;
        enough = omega (arith, l, still-upper r h.at.probe);
        met = ap (λ z. dead + z) (sym (met-upper (page n) key more r v b)) ∙ e;
      }

  pub to-down : visible ((page n).meta r.index) ≡ false → Searches n key (dead + 1) (down_of r)
  to-down v = go h.more h.enough h.met
    where
      go : (more : ℕ) → still (Some r) ≤ more → dead + met_from (page n) key more (Some r) ≡ dead_met n key → Searches n key (dead + 1) (down_of r)
      go zero l e = absurd (omega (arith, l, still-down r h.at.probe))
      go (suc more) l e = record {
        at = looks-down (page n) key rise r h.at v;
        more = more;
        enough = omega (arith, l, still-down r h.at.probe);
        met = omega (arith, e, met-down (page n) key more r v);
      }

  -- the record has the key: the search ends, and has met all that it meets
  pub ends-here : visible ((page n).meta r.index) ≡ true → is_before key (key_at (page n) r.index) ≡ false → is_before (key_at (page n) r.index) key ≡ false → dead ≡ dead_met n key
  ends-here v a b = go h.more h.enough h.met
    where
      go : (more : ℕ) → still (Some r) ≤ more → dead + met_from (page n) key more (Some r) ≡ dead_met n key → dead ≡ dead_met n key
      go zero l e = absurd (omega (arith, l, still-lower r h.at.probe))
      go (suc more) l e = omega (arith, e, met-here (page n) key more r v a b)

pub ends-none : (n : ℕ → ℕ) (key : List ℕ) (dead : ℕ) → Searches n key dead None → dead ≡ dead_met n key
ends-none n key dead h = omega (arith, h.met, met-none (page n) key h.more)
