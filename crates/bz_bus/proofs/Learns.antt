-- The look of the first pass after a join keeps the rule.
use Rattle.std.proofs.Common.{◌≡◌, ℕ, List, set, get_or, ap, refl, Option}
use mathlib.Core.Option.{some, none, some-injective, some-ne-none}
use mathlib.Core.Option as maybe
use Rattle.atomic_table.specs.Table.{Me, step, keeps, Allows}
use Rattle.bz_bus.specs.declared.rule.View.{View}
use Rattle.bz_bus.specs.declared.rule.Gain.{Gain}
use Rattle.bz_bus.specs.declared.rule.Stage.TheVariants.{Idle, Holds, Joined}
use Rattle.bz_bus.specs.Inside.Views.{ticket_of, staged, At, IsLive}
use Rattle.bz_bus.specs.Inside.Rule.{Orderly, Stands, Sees, Gained, Lies, Place, home, out, fresh}
use Rattle.bz_bus.specs.Inside.Plays.{learnt}
use Rattle.bz_bus.proofs.Views.{each_set, has_set, apart_set}

module _ {T E F : Type 0} (entries : T → List E) (fixed : T → F) (owner : E → ℕ) (key : T) where
  slot_stays : (homes : List (maybe.Option (Option T))) (vs : List (View E F)) (id : ℕ) (me w : View E F) (g : Gain E) (served : ℕ) (whole : List E) (f : F) → At vs id me → me.stage ≡ Joined g
      → (p : Place) → Lies entries fixed homes vs served whole f p → Lies entries fixed homes (set vs id w) served whole f p
  slot_stays homes vs id me w g served whole f at had home l = l
  slot_stays homes vs id me w g served whole f at had out l = (l.0, has_set vs id me w (λ v. v.stage ≡ Holds served) (λ v. v.stage ≡ Holds served) at l.1 (λ h. absurd cc) (λ j v e n h. h))
  slot_stays homes vs id me w g served whole f at had fresh l = l

  pub learns : (n id : ℕ) (me : Me (Option T) (View E F)) (g : Gain E) → me.0.stage ≡ Joined g → Allows (Orderly entries fixed owner key) n id me 0 (λ x. x) (learnt owner (step n 0 0 0 none) me)
  learns n id me g had s r wide at bound =
      let w : View E F = staged me.0 Idle in let served : ℕ = r.served in let line : List ℕ = r.line in let live : IsLive me.0 = λ gone. cc in
      let stood = r.stands id me.0 at in let seen = r.sees id me.0 at in (
        w,
        keeps,
        tt,
        record {
          served = served;
          line = line;
          whole = r.whole;
          free = r.free;
          place = r.place;
          words = ap (λ (z : List ℕ). set z 0 (get_or z 0 0)) r.words;
          slot = slot_stays s.homes s.views id me.0 w g served r.whole (fixed key) at had r.place r.slot;
          stands = each_set s.views id w (Stands served line r.whole r.place) (Stands served line r.whole r.place) r.stands
              record {
                in_line = λ u e. absurd cc;
                holds = λ u e. absurd cc;
                opens = λ e. absurd cc;
                alone = λ e. (let q = stood.alone e in absurd cc);
              }
              (λ j v ne ev p. p);
          sees = each_set s.views id w (Sees owner r.whole r.free (fixed key)) (Sees owner r.whole r.free (fixed key)) r.sees (record { past = seen.past; knows = λ _. seen.knows live }) (λ j v ne ev p. p);
          gained = each_set s.views id w (Gained owner) (Gained owner) r.gained (λ q e. absurd cc) (λ j v ne ev p. p);
          queues = λ k m e. has_set s.views id me.0 w _ _ at (r.queues k m e) (λ h. absurd (let z = h.1 in let q = ap ticket_of had in cc)) (λ j v ev ne h. h);
          apart = apart_set s.views id me.0 w r.apart at live refl;
          first = r.first;
          taken = λ m e. has_set s.views id me.0 w _ _ at (r.taken m e) (λ h. ((λ gone. absurd cc), h.1)) (λ j v ev ne h. h);
          full = has_set s.views id me.0 w _ _ at r.full (λ h. ((λ gone. absurd cc), h.1)) (λ j v ev ne h. h);
        },
        (refl, r.gained id me.0 at),
      )
