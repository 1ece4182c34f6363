-- The look of the opening, which takes the empty slot, keeps the rule.
use Rattle.std.proofs.Common.{◌≡◌, ℕ, ◌+◌, List, [], ◌∷◌, set, get_or, sym, ap, ◌∙◌, refl, subst, arith, Option, None}
use mathlib.Core.Option.{some, none, some-injective, some-ne-none}
use mathlib.Core.Option as maybe
use lib.ListN.{get_elem?}
use Rattle.atomic_table.specs.Table.{Me, step, takes, Allows}
use Rattle.bz_bus.specs.declared.rule.View.{View}
use Rattle.bz_bus.specs.declared.rule.Stage.TheVariants.{Opens, Holds}
use Rattle.bz_bus.specs.Inside.Views.{ticket_of, staged, IsLive}
use Rattle.bz_bus.specs.Inside.Rule.{Orderly, Stands, Sees, Gained, Lies, out, fresh}
use Rattle.bz_bus.specs.Inside.Plays.{filled}
use Rattle.bz_bus.proofs.Views.{each_set, has_set, has_here, apart_set}
use Rattle.bz_bus.proofs.Lines.{the, twins}

module _ {T E F : Type 0} (entries : T → List E) (fixed : T → F) (owner : E → ℕ) (key : T) where
  pub fills : (n id : ℕ) (me : Me (Option T) (View E F)) → me.0.stage ≡ Opens → Allows (Orderly entries fixed owner key) n id me 1 (λ x. x) (filled (step n 1 0 0 none) me)
  fills n id me opens s r wide at bound =
      let w : View E F = staged me.0 (Holds 0) in let served : ℕ = r.served in let line : List ℕ = r.line in let live : IsLive me.0 = λ gone. cc in
      let stood = r.stands id me.0 at in let seen = r.sees id me.0 at in let open_is = stood.opens opens in let there : r.place ≡ fresh = open_is.0 in
      let mine = stood.in_line 0 (ap ticket_of opens) in let k : ℕ = mine.0 in let at_front : 0 ≡ served + k = mine.1 in let start : served ≡ 0 = omega arith in
      let empty : s.homes ≡ some None ∷ [] = subst (Lies entries fixed s.homes s.views served r.whole (fixed key)) there r.slot in (
        w,
        takes 0 None,
        ap (λ (z : List (maybe.Option (Option T))). get_elem? z 0) empty,
        record {
          served = served;
          line = line;
          whole = r.whole;
          free = r.free;
          place = out;
          words = ap (λ (z : List ℕ). set z 1 (get_or z 1 0)) r.words;
          slot = (ap (λ (z : List (maybe.Option (Option T))). set z 0 none) empty, has_here s.views id me.0 w _ at (ap Holds (sym start)));
          stands = each_set s.views id w (Stands served line r.whole r.place) (Stands served line r.whole out) r.stands
              record {
                in_line = λ u e. (mine.0, sym (ap the e) ∙ mine.1, mine.2);
                holds = λ u e. (refl, (let z : 0 ≡ u = ap the (ap ticket_of e) in sym z ∙ sym start), open_is.1);
                opens = λ e. absurd cc;
                alone = λ e. absurd cc;
              }
              (λ j v ne ev p. record {
                in_line = p.in_line;
                holds = λ u e. (let h = (p.holds u e).0 in absurd cc);
                opens = λ e. absurd (ne (twins entries fixed owner key s r j id v me.0 0 ev at (ap ticket_of e) (ap ticket_of opens)));
                alone = λ e. absurd cc;
              });
          sees = each_set s.views id w (Sees owner r.whole r.free (fixed key)) (Sees owner r.whole r.free (fixed key)) r.sees (record { past = seen.past; knows = λ _. seen.knows live }) (λ j v ne ev p. p);
          gained = each_set s.views id w (Gained owner) (Gained owner) r.gained (λ g e. absurd cc) (λ j v ne ev p. p);
          queues = λ i m e. has_set s.views id me.0 w _ _ at (r.queues i m e) (λ h. (h.0, sym (ap ticket_of opens) ∙ h.1)) (λ j v ev ne h. h);
          apart = apart_set s.views id me.0 w r.apart at live refl;
          first = r.first;
          taken = λ m e. has_set s.views id me.0 w _ _ at (r.taken m e) (λ h. ((λ gone. absurd cc), h.1)) (λ j v ev ne h. h);
          full = has_here s.views id me.0 w _ at ((λ gone. absurd cc), open_is.1);
        },
        refl,
      )
