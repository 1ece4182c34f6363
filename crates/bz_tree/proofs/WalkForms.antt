-- The form that a walk without fault shows fits.
use Rattle.std.proofs.Common.{◌≡◌, ◌≢◌, ℕ, zero, suc, ◌<◌, ◌⊎◌, true, [], arith, refl, sym, ap, subst, ◌∙◌, inl, inr}
use Rattle.std.specs.Prelude.{None}
use Rattle.bz_tree.proofs.CleanWalks.{At, Clean, clean, find-in, has-at, in-has}
use Rattle.bz_tree.proofs.Visits.{Child, In, closed, comes, head, lower}
use Rattle.bz_tree.specs.Form.{Fits, Hangs, Stands}
use Rattle.bz_tree.specs.View.{View}
use Rattle.bz_tree.specs.Walk.{Visit, comes_to, fault_of, form_of, kid, start, visit_to, walk}

pub fits-walk : (v : View) → v.count v.top ≡ 1 → 0 < v.height → fault_of v ≡ None → Fits v (form_of (walk v))
fits-walk v one tall none = record {
  top = in-has (walk v) (start v) first;
  top_up = ap (λ (x : Visit). x.up) at_top;
  top_low = ap (λ (x : Visit). x.low) at_top;
  top_high = ap (λ (x : Visit). x.high) at_top;
  top_one = one;
  height = ap (λ (x : Visit). x.level) at_top;
  tall = tall;
  super = c.fault (start v) first;
  whole = λ k ins ne. let a : At (walk v) k = has-at (walk v) k ins in
      subst (λ s. v.fault s (visit_to (walk v) k).level (visit_to (walk v) k).low (visit_to (walk v) k).high ≡ None) a.slot (c.fault (visit_to (walk v) k) a.there);
  down = λ k i ins l lt. let a : At (walk v) k = has-at (walk v) k ins in stands k i a (visit_to (walk v) k).level refl l lt;
  hangs = λ k ins ne. let a : At (walk v) k = has-at (walk v) k ins in hang k a ne (comes v v.height (start v) (visit_to (walk v) k) refl a.there);
}
  where
    c : Clean v [] (walk v)
    c = clean v [] (walk v) none

    first : In (start v) (walk v)
    first = head v v.height (start v)

    at_top : visit_to (walk v) v.top ≡ start v
    at_top = find-in (walk v) (start v) c.apart first

    stands : (k i : ℕ) → At (walk v) k → (n : ℕ) → (visit_to (walk v) k).level ≡ n → 0 < n → i < v.count k → Stands v (form_of (walk v)) k i (v.child k i)
    stands k i a zero e l lt = absurd (omega arith)
    stands k i a (suc n) e l lt =
        let there : In (kid v (visit_to (walk v) k) n i) (walk v) = closed v v.height n i (start v) (visit_to (walk v) k) refl a.there e (rw a.slot lt) in
        let same : visit_to (walk v) (v.child (visit_to (walk v) k).slot i) ≡ kid v (visit_to (walk v) k) n i = find-in (walk v) (kid v (visit_to (walk v) k) n i) c.apart there in
        let here : visit_to (walk v) (v.child k i) ≡ kid v (visit_to (walk v) k) n i = subst (λ s. visit_to (walk v) (v.child s i) ≡ kid v (visit_to (walk v) k) n i) a.slot same in record {
          inside = subst (λ s. comes_to (walk v) (v.child s i) ≡ true) a.slot (in-has (walk v) (kid v (visit_to (walk v) k) n i) there);
          level = omega (arith, ap (λ (x : Visit). x.level) here, e);
          low = ap (λ (x : Visit). x.low) here ∙ rw a.slot refl;
          high = ap (λ (x : Visit). x.high) here ∙ rw a.slot refl;
          up = ap (λ (x : Visit). x.up) here ∙ a.slot;
          index = ap (λ (x : Visit). x.index) here;
        }

    hang : (k : ℕ) → At (walk v) k → k ≢ v.top → (visit_to (walk v) k ≡ start v) ⊎ Child v (walk v) (visit_to (walk v) k) → Hangs v (form_of (walk v)) k
    hang k a ne (inl q) = absurd (ne (sym a.slot ∙ ap (λ (x : Visit). x.slot) q))
    hang k a ne (inr d) =
        let up : (visit_to (walk v) k).up ≡ d.parent.slot = ap (λ (x : Visit). x.up) d.is in
        let index : (visit_to (walk v) k).index ≡ d.index = ap (λ (x : Visit). x.index) d.is in
        let parent : visit_to (walk v) d.parent.slot ≡ d.parent = find-in (walk v) d.parent c.apart d.there in record {
          inside = rw up (in-has (walk v) d.parent d.there);
          inner = rw (up, ap (λ (x : Visit). x.level) parent, d.above) (omega arith);
          within = rw (up, index) d.within;
          child = rw (up, index) (sym (ap (λ (x : Visit). x.slot) d.is) ∙ a.slot);
          lower = omega (arith, ap (λ (x : Visit). x.level) d.is, d.above, lower v v.height (start v) d.parent refl d.there);
        }
