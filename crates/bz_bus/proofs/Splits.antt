-- A split keeps the rule.
use Rattle.std.proofs.Common.{◌≡◌, ◌≢◌, ℕ, ◌<◌, List, [], ◌∷◌, ◌++◌, length, set, get_or, sym, ap, ◌∙◌, refl, subst, arith, Bool, true, false, Option}
use mathlib.Core.Logic.{dite}
use native.Mathlib.Decide.{ℕ_discrete}
use mathlib.Core.Option.{some, none, some-injective, some-ne-none}
use mathlib.Core.Option as maybe
use Rattle.bz_bus.specs.declared.TheConstants.{PASSES}
use Rattle.bz_bus.specs.declared.rule.View.{View}
use Rattle.bz_bus.specs.declared.rule.Stage.TheVariants.{Idle, Holds}
use Rattle.bz_bus.specs.Entries.{IsFreeIn}
use Rattle.bz_bus.specs.Inside.Views.{At, IsLive}
use Rattle.bz_bus.specs.Inside.Rule.{Orderly, Stands, Sees, Gained, Lies, Place, home, out, fresh}
use Rattle.bz_bus.proofs.Views.{each_set, has_set, apart_set}
use Rattle.std.proofs.Common.{get_or-set_other, get_or-set_same}
use Rattle.atomic_table.specs.Table.{Splits}
use Rattle.bz_bus.specs.Inside.Views.{lent, newcomer}
use Rattle.bz_bus.proofs.Views.{each_snoc, has_longer, has_last, apart_snoc}

-- a number that is free once n is out was free, and is not n
still_free : (free : List Bool) (n m : ℕ) → n < length free → get_or (set free n false) m true ≡ true → (m ≢ n) × (get_or free m true ≡ true)
still_free free n m h e = dite (ℕ_discrete m n)
    (λ same. let z : get_or (set free n false) n true ≡ false = get_or-set_same free n false true h in let q = ap (λ (k : ℕ). get_or (set free n false) k true) same in absurd cc)
    (λ other. (other, sym (get_or-set_other free n m false true other) ∙ e))

module _ {T E F : Type 0} (entries : T → List E) (fixed : T → F) (owner : E → ℕ) (key : T) where
  slot_stays : (homes : List (maybe.Option (Option T))) (vs : List (View E F)) (id : ℕ) (me w new : View E F) (served : ℕ) (whole : List E) (f : F) → At vs id me → me.stage ≡ Idle
      → (p : Place) → Lies entries fixed homes vs served whole f p → Lies entries fixed homes (set vs id w ++ new ∷ []) served whole f p
  slot_stays homes vs id me w new served whole f at idle home l = l
  slot_stays homes vs id me w new served whole f at idle out l = (l.0, has_longer (set vs id w) new _ (has_set vs id me w (λ v. v.stage ≡ Holds served) (λ v. v.stage ≡ Holds served) at l.1 (λ h. absurd cc) (λ j v e n h. h)))
  slot_stays homes vs id me w new served whole f at idle fresh l = l

  pub splits : (n id : ℕ) (me : View E F) → me.stage ≡ Idle → me.number ≡ 0 → n < PASSES → length me.free ≡ PASSES → IsFreeIn me.free n
      → Splits (Orderly entries fixed owner key) id me (lent n me) (newcomer n me)
  splits n id me idle zeroth below long is_free s r at =
      let w : View E F = lent n me in let new : View E F = newcomer n me in let live : IsLive me = λ gone. cc in let live_w : IsLive w = live in
      let stood = r.stands id me at in let seen = r.sees id me at in let known = seen.knows live in let counts : me.free ≡ r.free = known.counts zeroth in
      let n_free : get_or r.free n true ≡ true = subst (λ (z : List Bool). IsFreeIn z n) counts is_free in
      let wide : n < length r.free = (let l = ap length counts in omega arith) in
      let first' = r.first in let apart_n : n ≢ 0 = λ e. (let q = ap (λ (k : ℕ). get_or r.free k true) e in cc) in
      let unused : (v : View E F) → Sees owner r.whole r.free (fixed key) v → IsLive v → v.number ≢ n = λ v p lv e. (let z = (p.knows lv).taken in let q = ap (λ (k : ℕ). get_or r.free k true) e in cc) in
      let is_taken : (m : ℕ) → m ≢ n → get_or r.free m true ≡ false → get_or (set r.free n false) m true ≡ false = λ m ne e. get_or-set_other r.free n m false true ne ∙ e in
      let vs : List (View E F) = set s.views id w in
      record {
        served = r.served;
        line = r.line;
        whole = r.whole;
        free = set r.free n false;
        place = r.place;
        words = r.words;
        slot = slot_stays s.homes s.views id me w new r.served r.whole (fixed key) at idle r.place r.slot;
        stands = each_snoc vs new (Stands r.served r.line r.whole r.place)
            (each_set s.views id w (Stands r.served r.line r.whole r.place) (Stands r.served r.line r.whole r.place) r.stands (record { in_line = stood.in_line; holds = stood.holds; opens = stood.opens; alone = stood.alone }) (λ j v ne ev p. p))
            record { in_line = λ u e. absurd cc; holds = λ u e. absurd cc; opens = λ e. absurd cc; alone = λ e. (let o = stood.alone e in absurd cc) };
        sees = each_snoc vs new (Sees owner r.whole (set r.free n false) (fixed key))
            (each_set s.views id w (Sees owner r.whole r.free (fixed key)) (Sees owner r.whole (set r.free n false) (fixed key)) r.sees
            record {
              past = seen.past;
              knows = λ _. record {
                same_fixed = known.same_fixed;
                below = known.below;
                taken = is_taken me.number (unused me seen live) known.taken;
                own = known.own;
                counts = λ z. ap (λ (q : List Bool). set q n false) counts;
                others = λ z m b f. known.others z m b (still_free r.free n m wide f).1;
              };
            }
            (λ j v ne ev p. record {
              past = p.past;
              knows = λ lv. let k = p.knows lv in record {
                same_fixed = k.same_fixed;
                below = k.below;
                taken = is_taken v.number (unused v p lv) k.taken;
                own = k.own;
                counts = λ z. absurd (ne (r.apart j id v me ev at lv live (z ∙ sym zeroth)));
                others = λ z. absurd (ne (r.apart j id v me ev at lv live (z ∙ sym zeroth)));
              };
            }))
            record {
              past = seen.past;
              knows = λ _. record {
                same_fixed = known.same_fixed;
                below = below;
                taken = get_or-set_same r.free n false true wide;
                own = known.others zeroth n below n_free;
                counts = λ z. absurd (apart_n z);
                others = λ z. absurd (apart_n z);
              };
            };
        gained = each_snoc vs new (Gained owner) (each_set s.views id w (Gained owner) (Gained owner) r.gained (λ g e. absurd cc) (λ j v ne ev p. p)) (λ g e. absurd cc);
        queues = λ k m e. has_longer vs new _ (has_set s.views id me w _ _ at (r.queues k m e) (λ h. h) (λ j v ev ne h. h));
        apart = apart_snoc vs new (apart_set s.views id me w r.apart at live refl)
            (each_set s.views id w (Sees owner r.whole r.free (fixed key)) (λ v. IsLive v → v.number ≢ n) r.sees (unused me seen) (λ j v ne ev p. unused v p));
        first = is_taken 0 (λ e. apart_n (sym e)) r.first;
        taken = λ m e. dite (ℕ_discrete m n)
            (λ same. has_last vs new _ ((λ gone. absurd cc), sym same))
            (λ other. has_longer vs new _ (has_set s.views id me w _ _ at (r.taken m (sym (get_or-set_other r.free n m false true other) ∙ e)) (λ h. h) (λ j v ev ne h. h)));
        full = has_longer vs new _ (has_set s.views id me w _ _ at r.full (λ h. h) (λ j v ev ne h. h));
      }
