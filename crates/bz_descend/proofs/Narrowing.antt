-- A part of an inner node's records is halved down to the child of the key.
use Rattle.std.proofs.Common.{◌≡◌, ℕ, ◌+◌, ◌-◌, ◌<◌, ◌≤◌, true, false, List, arith, refl, sym, subst, inl, inr}
use Rattle.std.specs.Prelude.{nat_lt}
use Rattle.std.proofs.lemmas.Bool.{cases_lt}
use Rattle.std.proofs.lemmas.Bool.Decides.{nat_tests}
use Rattle.bz_search.proofs.Halving.{probe-some, probe-none}
use Rattle.bz_tree.specs.Order.{is_before}
use Rattle.bz_slotted.specs.Page.{page}
use Rattle.bz_slotted.specs.Readers.{key_of}
use Rattle.bz_slotted.specs.Records.{pointer_at}
use Rattle.bz_task.specs.Instant.{words}
use Rattle.bz_task.specs.Scene.{Past}
use Rattle.bz_task.specs.declared.path.Path.{Path}
use Rattle.bz_descend.specs.Halving.{sight_in, settled, Narrows}
use Rattle.bz_descend.specs.Inners.{Opened, HasPassed}
use Rattle.bz_descend.specs.SeekFacts.{IsUnder, seek_learnt}

pub narrows-first : (key : List ℕ) (n : ℕ → ℕ) → 0 < (page n).count → Narrows key n 0 1 (page n).count
narrows-first key n some = record {
  some = omega arith;
  order = omega (arith, some);
  within = omega arith;
  left = λ j e l. absurd (omega (arith, e, l));
  right = λ l. absurd (omega (arith, l));
}

module _ (key : List ℕ) (n : ℕ → ℕ) (pointer low high m : ℕ) (h : Narrows key n pointer low high) (from : low ≤ m) (to : m < high) where
  pub narrows-lower : is_before key (key_of n m) ≡ true → Narrows key n pointer low m
  narrows-lower e = record { some = h.some; order = from; within = omega (arith, to, h.within); left = h.left; right = λ l. e }

  pub narrows-upper : (place : ℕ) → place ≡ pointer_at (page n) m → is_before key (key_of n m) ≡ false → Narrows key n place (m + 1) high
  narrows-upper place q e = record {
    some = omega arith;
    order = omega (arith, to);
    within = h.within;
    left = λ j d l. let z : m ≡ j = omega (arith, d) in subst (λ y. HasPassed key n y place) z (record { counted = omega (arith, to, h.within); from = λ t. e; place = q });
    right = h.right;
  }

-- what is learnt with such a part
pub learns-part : (key : List ℕ) (path : Path) (height : ℕ) (ws : List ℕ) (slot st count pointer low high : ℕ) (p : Past) (o : Opened key path slot st p) → count ≡ (page (words p.config (p.at o.guarded) slot)).count
    → Narrows key (words p.config (p.at o.guarded) slot) pointer low high → IsUnder height key path slot p o.at_inner.node → seek_learnt key path height ws (sight_in slot st count pointer low high) p
learns-part key path height ws slot st count pointer low high p o all h under = elim (cases_lt low high) [
  | inl l ↦ rw (probe-some low high l) (record { opened = o; all = all; narrows = h; index = refl; some = l }, under)
  | inr l ↦ rw (probe-none low high l) (last (omega (arith, l, h.order)))
]
  where
    last : low ≡ high → seek_learnt key path height ws (settled slot st count pointer low) p
    last same = elim (cases_lt 1 low) [
      | inl l ↦ (
          let t : nat_lt 1 low ≡ true = grind (arith, nat_tests) in
          let q : low - 1 + 1 ≡ low = omega (arith, l) in
          let f : HasPassed key (words p.config (p.at o.guarded) slot) (low - 1) pointer = h.left (low - 1) q (omega (arith, l)) in
          rw t (
            record {
              opened = o;
              child = low - 1;
              chooses = record {
                counted = f.counted;
                from = f.from;
                to = λ d. subst (λ z. is_before key (key_of (words p.config (p.at o.guarded) slot) z) ≡ true) (sym q) (subst (λ z. is_before key (key_of (words p.config (p.at o.guarded) slot) z) ≡ true) (sym same) (h.right (omega (arith, d, q, same))));
              };
              place = f.place;
            },
            under,
          ))
      | inr l ↦ (
          let t : nat_lt 1 low ≡ false = grind (arith, nat_tests) in
          let one : high ≡ 1 = omega (arith, l, same, h.some) in
          rw t (
            record {
              opened = o;
              all = all;
              right = λ d. subst (λ z. is_before key (key_of (words p.config (p.at o.guarded) slot) z) ≡ true) one (h.right (omega (arith, d, one, all)));
            },
            under,
          ))
    ]
