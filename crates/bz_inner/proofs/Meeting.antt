-- The children of a root that was read whole, whose status is as it was read, stand beside each other and meet at the key between them.
use Rattle.std.proofs.Common.{◌≡◌, ◌≢◌, ℕ, ◌+◌, ◌<◌, ◌==◌, if◌then◌else◌, Bool, true, false, List, slice_index, arith, refl, sym, ap, subst, ◌∙◌, Option, Some}
use Rattle.std.specs.Prelude.{None}
use Rattle.std.proofs.lemmas.Bool.Decides.{nat_tests}
use Rattle.bz_layout.specs.Addresses.{node_address}
use Rattle.bz_layout.specs.declared.config.Config.{Config}
use Rattle.bz_layout.specs.declared.sizes.TheConstants.{STATUS_AT}
use Rattle.bz_node.specs.Records.{IsAbove, IsBelow}
use Rattle.bz_tree.specs.Form.{Fits, Form, Stands, Hangs}
use Rattle.bz_tree.specs.Order.{is_above, is_below}
use Rattle.bz_tree.specs.View.{View}
use Rattle.bz_slotted.specs.Laws.{RisesBetween}
use Rattle.bz_slotted.specs.Readers.{count_of, child_of, key_of}
use Rattle.bz_slotted.specs.ReadingLaws.{node_of}
use Rattle.bz_slotted.proofs.MadeLeaves.{test-before}
use Rattle.bz_slotted.proofs.Proved.{inner_keys_rise}
use Rattle.bz_content.specs.Content.{view_in}
use Rattle.bz_task.specs.Good.{IsGood}
use Rattle.bz_task.specs.Instant.{form_at}
use Rattle.bz_task.specs.Scene.{Scene, IsScene, here}
use Rattle.bz_inner.specs.InnerMerges.{WasOpen}
use Rattle.bz_inner.specs.Neighbours.{AreApart, StoodBeside}
use Rattle.bz_inner.proofs.Roots.{form-fits}
use Rattle.bz_inner.proofs.Separators.{separator-is-key}
use Rattle.bz_inner.proofs.StillOpen.{StillOpen, still-open}

no : (a b : ℕ) → a ≢ b → (a == b) ≡ false
no a b ne = grind (arith, nat_tests)

itself : (k : ℕ) → (k == k) ≡ true
itself k = grind (arith, nat_tests)

above-said : (low : Option (List ℕ)) (key : List ℕ) → is_above key low ≡ true → IsAbove low key
above-said None key e = tt
above-said (Some low) key e = test-before low key e

below-said : (high : Option (List ℕ)) (key : List ℕ) → is_below key high ≡ true → IsBelow high key
below-said None key e = tt
below-said (Some high) key e = test-before key high e

-- the key between two children lies between the bounds of the two
module _ (nodes : ℕ) (n : ℕ → ℕ) (low high : Option (List ℕ)) (rise : RisesBetween nodes n low high) (i : ℕ) (within : i + 1 < count_of n) where
  sep-above : IsAbove (if i == 0 then low else Some (key_of n i)) (key_of n (i + 1))
  sep-above = go (i == 0) refl
    where
      go : (t : Bool) → (i == 0) ≡ t → IsAbove (if t then low else Some (key_of n i)) (key_of n (i + 1))
      go true e = above-said low (key_of n (i + 1)) (rise.first (i + 1) (omega arith) within)
      go false e = test-before (key_of n i) (key_of n (i + 1)) (rise.rise i (i + 1) (let p : 0 < i = grind (arith, nat_tests) in p) (omega arith) within)

  sep-below : IsBelow (if i + 1 + 1 == count_of n then high else Some (key_of n (i + 1 + 1))) (key_of n (i + 1))
  sep-below = go (i + 1 + 1 == count_of n) refl
    where
      go : (t : Bool) → (i + 1 + 1 == count_of n) ≡ t → IsBelow (if t then high else Some (key_of n (i + 1 + 1))) (key_of n (i + 1))
      go true e = below-said high (key_of n (i + 1)) (rise.last (i + 1) (omega arith) within)
      go false e = test-before (key_of n (i + 1)) (key_of n (i + 1 + 1)) (rise.rise (i + 1) (i + 1 + 1) (omega arith) (omega arith) (let ne : i + 1 + 1 ≢ count_of n = (λ z. absurd (let h : (i + 1 + 1 == count_of n) ≡ true = subst (λ k. (i + 1 + 1 == k) ≡ true) z (itself (i + 1 + 1)) in let g = sym h ∙ e in cc)) in omega (arith, ne, within)))

module _ (s : Scene) (p m : ℕ) (read : List ℕ) (good : IsScene s) (w : WasOpen p m read s.past) (stands : (here s).value (node_address s.past.config p + STATUS_AT) ≡ slice_index read STATUS_AT) where
  abbrev c : Config
  c = s.past.config

  abbrev form : Form
  form = form_at c (here s)

  abbrev view : View
  view = view_in c (here s).image

  g : IsGood c (here s)
  g = good.history.good s.past.now good.begun (omega arith)

  still : StillOpen p m read s w
  still = still-open s p m read good w stands

  fit : Fits view form
  fit = form-fits c (here s) g

  inner : 0 < form.level p
  inner = omega (arith, still.level, w.node.node.inner)

  count-seen : view.count p ≡ count_of (node_of read)
  count-seen = rw (no p c.nodes still.below) (ap count_of still.words)

  child-seen : (j : ℕ) → view.child p j ≡ child_of (node_of read) j
  child-seen j = rw (no p c.nodes still.below) (ap (λ n. child_of n j) still.words)

  key-seen : (j : ℕ) → view.key p j ≡ key_of (node_of read) j
  key-seen j = rw (no p c.nodes still.below) (ap (λ n. key_of n j) still.words)

  pub child-stands : (j : ℕ) → j < count_of (node_of read) → Stands view form p j (child_of (node_of read) j)
  child-stands j l = subst (λ k. Stands view form p j k) (child-seen j) (fit.down p j still.inside inner (omega (arith, count-seen, l)))

  hangs : Hangs view form p
  hangs = fit.hangs p still.inside still.below

  not-top : (j k : ℕ) → Stands view form p j k → k ≢ c.nodes
  not-top j k t e = absurd (omega (arith, t.level, ap form.level e, fit.height, hangs.lower))

  child-reached : (j k : ℕ) → Stands view form p j k → (here s).reached k ≡ true
  child-reached j k t = g.inside k t.inside (not-top j k t)

  pub child-slot : (j : ℕ) → j < count_of (node_of read) → child_of (node_of read) j < c.nodes
  child-slot j l = g.slots (child_of (node_of read) j) (child-reached j (child_of (node_of read) j) (child-stands j l))

  rise : RisesBetween c.nodes (node_of read) w.node.low w.node.high
  rise = inner_keys_rise c.nodes w.node.node.raw (node_of read) w.node.level w.node.low w.node.high w.node.node.inner w.node.node.none

  module _ (i : ℕ) (within : i + 1 < count_of (node_of read)) where
    abbrev a : ℕ
    a = child_of (node_of read) i

    abbrev b : ℕ
    b = child_of (node_of read) (i + 1)

    abbrev sep : List ℕ
    sep = key_of (node_of read) (i + 1)

    stands-a : Stands view form p i a
    stands-a = child-stands i (omega (arith, within))

    stands-b : Stands view form p (i + 1) b
    stands-b = child-stands (i + 1) within

    pub apart : AreApart a b p
    apart = record {
      two = λ e. absurd (omega (arith, stands-a.index, stands-b.index, ap form.index e));
      first = λ e. absurd (omega (arith, stands-a.level, ap form.level e));
      second = λ e. absurd (omega (arith, stands-b.level, ap form.level e));
    }

    low-a : form.low a ≡ (if i == 0 then w.node.low else Some (key_of (node_of read) i))
    low-a = stands-a.low ∙ (λ t. if i == 0 then still.low t else Some (key-seen i t))

    high-a : form.high a ≡ Some sep
    high-a = stands-a.high ∙ ((λ t. if i + 1 == count-seen t then form.high p else Some (key-seen (i + 1) t)) ∙ ap (λ z. if z then form.high p else Some sep) (no (i + 1) (count_of (node_of read)) (λ e. absurd (omega (arith, e, within)))))

    low-b : form.low b ≡ Some sep
    low-b = stands-b.low ∙ (ap (λ z. if z then form.low p else Some (view.key p (i + 1))) (no (i + 1) 0 (λ e. absurd (omega (arith, e)))) ∙ ap Some (key-seen (i + 1)))

    high-b : form.high b ≡ (if i + 1 + 1 == count_of (node_of read) then w.node.high else Some (key_of (node_of read) (i + 1 + 1)))
    high-b = stands-b.high ∙ (λ t. if i + 1 + 1 == count-seen t then still.high t else Some (key-seen (i + 1 + 1) t))

    pub beside : 0 < form.level a → StoodBeside a b s.past.now sep s.past
    beside tall = record {
      since = good.begun;
      now = omega arith;
      level = form.level a;
      low = if i == 0 then w.node.low else Some (key_of (node_of read) i);
      high = if i + 1 + 1 == count_of (node_of read) then w.node.high else Some (key_of (node_of read) (i + 1 + 1));
      inner = tall;
      left = record { reached = child-reached i a stands-a; inside = stands-a.inside; level_is = refl; low_is = low-a; high_is = high-a };
      right = record { reached = child-reached (i + 1) b stands-b; inside = stands-b.inside; level_is = omega (arith, stands-a.level, stands-b.level); low_is = low-b; high_is = high-b };
      key = separator-is-key c.nodes read w.node.low w.node.high w.node.node.node i within;
      above = sep-above c.nodes (node_of read) w.node.low w.node.high rise i within;
      below = sep-below c.nodes (node_of read) w.node.low w.node.high rise i within;
    }
