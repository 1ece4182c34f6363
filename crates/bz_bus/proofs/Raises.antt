-- Raising the count to the length of what is left keeps the rule.
use Rattle.std.proofs.Common.{◌≡◌, ℕ, ◌+◌, ◌%◌, ◌^◌, List, [], ◌∷◌, length, set, get_or, sym, ap, ◌∙◌, refl, subst, true, Option, Some, None}
use mathlib.Core.Option.{none}
use Rattle.atomic_table.specs.Table.{Me, step, keeps, Allows}
use Rattle.bz_bus.specs.declared.rule.View.{View}
use Rattle.bz_bus.specs.declared.rule.Stage.TheVariants.{Holds}
use Rattle.bz_bus.specs.Entries.{MayLeave}
use Rattle.bz_bus.specs.Inside.Views.{ticket_of, saw, IsLive}
use Rattle.bz_bus.specs.Inside.Rule.{Orderly, Stands, Sees, Gained, Lies, out}
use Rattle.bz_bus.specs.Inside.Plays.{raised}
use Rattle.bz_bus.proofs.Views.{each_set, has_set, has_here, apart_set}
use Rattle.bz_bus.proofs.Lines.{twins}
use Rattle.bz_bus.proofs.Entries.{extends_trans, leaves_extends, leaves_others}

abbrev inside : {T : Type 0} → T → List (ℕ × Option T) → T
inside z [] = z
inside z ((k, None) ∷ xs) = z
inside z ((k, Some x) ∷ xs) = x

same_item : {T : Type 0} (z y : T) → ◌≡◌ {A = List (ℕ × Option T)} ((0, Some z) ∷ []) ((0, Some y) ∷ []) → z ≡ y
same_item z y e = ap (inside z) e

module _ {T E F : Type 0} (entries : T → List E) (fixed : T → F) (owner : E → ℕ) (key : T) where
  pub raises : (n id : ℕ) (me : Me (Option T) (View E F)) (t : ℕ) (y : T) (new : ℕ) → me.0.stage ≡ Holds t → me.1 ≡ (0, Some y) ∷ [] → MayLeave owner me.0.number me.0.seen (entries y) → new ≡ length (entries y)
      → Allows (Orderly entries fixed owner key) n id me 2 (λ _. new) (λ _. raised entries (step n 2 new 0 none) me new)
  raises n id me t y new holding slot leaves counts s r wide at bound =
      let left : List E = entries y in let w : View E F = saw me.0 me.0.stage left in let served : ℕ = r.served in let line : List ℕ = r.line in let live : IsLive me.0 = λ gone. cc in
      let stood = r.stands id me.0 at in let seen = r.sees id me.0 at in let known = seen.knows live in let h = stood.holds t holding in
      let mine : ticket_of me.0.stage ≡ Some served = ap ticket_of holding ∙ ap Some h.1 in
      let more : MayLeave owner me.0.number r.whole left = subst (λ (z : List E). MayLeave owner me.0.number z left) h.2 leaves in
      let lies = subst (Lies entries fixed s.homes s.views served r.whole (fixed key)) h.0 r.slot in (
        w,
        keeps,
        tt,
        record {
          served = served;
          line = line;
          whole = left;
          free = r.free;
          place = out;
          words = ap (λ (z : List ℕ). set z 2 new) r.words ∙ ap (λ (z : ℕ). ((served + length line) % 2 ^ 64) ∷ (served % 2 ^ 64) ∷ z ∷ []) counts;
          slot = (lies.0, has_here s.views id me.0 w _ at (holding ∙ ap Holds h.1));
          stands = each_set s.views id w (Stands served line r.whole r.place) (Stands served line left out) r.stands
              record {
                in_line = stood.in_line;
                holds = λ u e. (refl, (stood.holds u e).1, refl);
                opens = λ e. absurd cc;
                alone = λ e. absurd cc;
              }
              (λ j v ne ev p. record {
                in_line = p.in_line;
                holds = λ u e. absurd (ne (twins entries fixed owner key s r j id v me.0 served ev at (ap ticket_of e ∙ ap Some (p.holds u e).1) mine));
                opens = λ e. (let o = (p.opens e).0 in let q = h.0 in absurd cc);
                alone = λ e. absurd cc;
              });
          sees = each_set s.views id w (Sees owner r.whole r.free (fixed key)) (Sees owner left r.free (fixed key)) r.sees
              record {
                past = ([], refl);
                knows = λ _. record { same_fixed = known.same_fixed; below = known.below; taken = known.taken; own = refl; counts = known.counts; others = λ z m b f. refl };
              }
              (λ j v ne ev p. record {
                past = extends_trans v.seen r.whole left p.past (leaves_extends owner me.0.number r.whole left more);
                knows = λ lv. let k = p.knows lv in record {
                  same_fixed = k.same_fixed;
                  below = k.below;
                  taken = k.taken;
                  own = leaves_others owner me.0.number v.number r.whole left more (λ e. ne (r.apart j id v me.0 ev at lv live e)) k.below ∙ k.own;
                  counts = k.counts;
                  others = λ z m b f. leaves_others owner me.0.number m r.whole left more (λ e. let q = ap (λ (x : ℕ). get_or r.free x true) e in let g = known.taken in cc) b ∙ k.others z m b f;
                };
              });
          gained = each_set s.views id w (Gained owner) (Gained owner) r.gained (λ g e. absurd cc) (λ j v ne ev p. p);
          queues = λ k m e. has_set s.views id me.0 w _ _ at (r.queues k m e) (λ q. q) (λ j v ev ne q. q);
          apart = apart_set s.views id me.0 w r.apart at live refl;
          first = r.first;
          taken = λ m e. has_set s.views id me.0 w _ _ at (r.taken m e) (λ q. q) (λ j v ev ne q. q);
          full = has_here s.views id me.0 w _ at (live, refl);
        },
        (λ z is. ap (λ (x : T). (saw me.0 me.0.stage (entries x), me.1)) (same_item y z (sym slot ∙ is))),
      )
