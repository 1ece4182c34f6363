-- Drawing a ticket keeps the rule.
use Rattle.std.proofs.Common.{◌≡◌, ℕ, ◌+◌, ◌%◌, ◌^◌, ⊎_elim, List, [], ◌∷◌, ◌++◌, length, set, get_or, sym, ap, ◌∙◌, refl, arith, length-append, Option, Some}
use Rattle.std.proofs.Math.Nat.{mod-add-mod}
use mathlib.Core.Option.{some, none}
use mathlib.Core.Option as maybe
use Rattle.atomic_table.specs.Table.{State, Me, step, keeps, Allows}
use Rattle.atomic_table.proofs.Lists.{at_last, at_longer}
use Rattle.bz_bus.specs.declared.rule.View.{View}
use Rattle.bz_bus.specs.declared.rule.Stage.TheVariants.{Idle, Waits, Holds}
use Rattle.bz_bus.specs.Inside.Views.{ticket_of, staged, At, IsLive}
use Rattle.bz_bus.specs.Inside.Rule.{Orderly, Stands, Sees, Gained, Lies, Place, home, out, fresh}
use Rattle.bz_bus.specs.Inside.Plays.{drew}
use Rattle.bz_bus.proofs.Views.{each_set, has_set, has_here, apart_set, snoc_at}
use Rattle.bz_bus.proofs.Lines.{the}

module _ {T E F : Type 0} (entries : T → List E) (fixed : T → F) (owner : E → ℕ) (key : T) where
  abbrev St : Type 0
  St = State (Option T) (View E F)

  -- the slot is as it was
  slot_stays : (homes : List (maybe.Option (Option T))) (vs : List (View E F)) (id : ℕ) (me w : View E F) (served : ℕ) (whole : List E) (f : F) → At vs id me → me.stage ≡ Idle
      → (p : Place) → Lies entries fixed homes vs served whole f p → Lies entries fixed homes (set vs id w) served whole f p
  slot_stays homes vs id me w served whole f at idle home l = l
  slot_stays homes vs id me w served whole f at idle out l = (l.0, has_set vs id me w (λ v. v.stage ≡ Holds served) (λ v. v.stage ≡ Holds served) at l.1 (λ h. absurd cc) (λ j v e n h. h))
  slot_stays homes vs id me w served whole f at idle fresh l = l

  pub draws : (n id : ℕ) (me : Me (Option T) (View E F)) → me.0.stage ≡ Idle
      → Allows (Orderly entries fixed owner key) n id me 0 (λ x. (x + 1) % 2 ^ 64) (drew (step n 0 1 0 none) me)
  draws n id me idle s r wide at bound =
      let served : ℕ = r.served in let line : List ℕ = r.line in let t : ℕ = served + length line in let w : View E F = staged me.0 (Waits t) in
      let live : IsLive me.0 = λ gone. cc in
      let more : t + 1 ≡ served + length (line ++ me.0.number ∷ []) = omega (arith, length-append line (me.0.number ∷ [])) in
      let found : get_or s.words 0 0 ≡ t % 2 ^ 64 = ap (λ (z : List ℕ). get_or z 0 0) r.words in (
        w,
        keeps,
        tt,
        record {
          served = served;
          line = line ++ me.0.number ∷ [];
          whole = r.whole;
          free = r.free;
          place = r.place;
          words = ap (λ (z : List ℕ). set z 0 ((get_or z 0 0 + 1) % 2 ^ 64)) r.words
              ∙ ap (λ (z : ℕ). z ∷ (served % 2 ^ 64) ∷ length r.whole ∷ []) (mod-add-mod t (2 ^ 64) 1 ∙ ap (λ (z : ℕ). z % 2 ^ 64) more);
          slot = slot_stays s.homes s.views id me.0 w served r.whole (fixed key) at idle r.place r.slot;
          stands = each_set s.views id w (Stands served line r.whole r.place) (Stands served (line ++ me.0.number ∷ []) r.whole r.place) r.stands
              record {
                in_line = λ u e. (length line, sym (ap the e), at_last line me.0.number (length line) refl);
                holds = λ u e. absurd cc;
                opens = λ e. absurd cc;
                alone = λ e. let o = (r.stands id me.0 at).alone e in absurd cc;
              }
              (λ j v ne ev p. record {
                in_line = λ u e. let l = p.in_line u e in (l.0, l.1, at_longer line (me.0.number ∷ []) l.0 v.number l.2);
                holds = p.holds;
                opens = p.opens;
                alone = p.alone;
              });
          sees = (let k = r.sees id me.0 at in each_set s.views id w (Sees owner r.whole r.free (fixed key)) (Sees owner r.whole r.free (fixed key)) r.sees (record { past = k.past; knows = λ _. k.knows live }) (λ j v ne ev p. p));
          gained = each_set s.views id w (Gained owner) (Gained owner) r.gained (λ g e. absurd cc) (λ j v ne ev p. p);
          queues = λ k m e. ⊎_elim
              (λ old. has_set s.views id me.0 w _ _ at (r.queues k m old) (λ h. absurd (let z = h.1 in let z' = ap ticket_of idle in cc)) (λ j v ev ne h. h))
              (λ last. has_here s.views id me.0 w _ at (last.1, ap (λ (z : ℕ). Some (served + z)) (sym last.0)))
              (snoc_at line me.0.number m k e);
          apart = apart_set s.views id me.0 w r.apart at live refl;
          first = r.first;
          taken = λ m e. has_set s.views id me.0 w _ _ at (r.taken m e) (λ h. ((λ gone. absurd cc), h.1)) (λ j v ev ne h. h);
          full = has_set s.views id me.0 w _ _ at r.full (λ h. ((λ gone. absurd cc), h.1)) (λ j v ev ne h. h);
        },
        (t, found, refl),
      )
