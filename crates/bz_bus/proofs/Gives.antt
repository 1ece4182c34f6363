-- Giving the slot back keeps the rule.
use Rattle.std.proofs.Common.{◌≡◌, ◌≢◌, ℕ, suc, ◌+◌, ◌-◌, ◌%◌, ◌^◌, ◌<◌, List, [], ◌∷◌, length, set, get_or, sym, ap, ◌∙◌, refl, subst, arith, Option, Some}
use mathlib.Core.Option.{some, none, some-injective, some-ne-none}
use mathlib.Core.Option as maybe
use lib.ListN.{get_elem?}
use Rattle.atomic_table.specs.Table.{Me, step, gives, carried_after, homes_after, Allows}
use Rattle.bz_bus.specs.declared.rule.View.{View}
use Rattle.bz_bus.specs.declared.rule.Stage.TheVariants.{Idle, Holds}
use Rattle.bz_bus.specs.Inside.Views.{ticket_of, staged, IsLive}
use Rattle.bz_bus.specs.Inside.Rule.{Orderly, Stands, Sees, Gained, Lies, home, out}
use Rattle.bz_bus.specs.Inside.Plays.{gave}
use Rattle.bz_bus.proofs.Views.{within, each_set, has_set, has_here, apart_set}
use Rattle.bz_bus.proofs.Lines.{the, twins}
use Rattle.std.proofs.Math.Nat.{mod-add-mod}

-- all but the first in line
abbrev later : List ℕ → List ℕ
later [] = []
later (x ∷ xs) = xs

later_at : (l : List ℕ) (k : ℕ) → 0 < length l → get_elem? (later l) k ≡ get_elem? l (suc k)
later_at [] k h = absurd (omega arith)
later_at (x ∷ xs) k h = refl

later_length : (l : List ℕ) → 0 < length l → length (later l) + 1 ≡ length l
later_length [] h = absurd (omega arith)
later_length (x ∷ xs) h = omega arith

module _ {T E F : Type 0} (entries : T → List E) (fixed : T → F) (owner : E → ℕ) (key : T) where
  pub gives_back : (n id : ℕ) (me : Me (Option T) (View E F)) (t : ℕ) (y : T) → me.0.stage ≡ Holds t → me.1 ≡ (0, Some y) ∷ [] → entries y ≡ me.0.seen → me.0.fixed ≡ Some (fixed y)
      → Allows (Orderly entries fixed owner key) n id me 1 (λ x. (x + 1) % 2 ^ 64) (gave (step n 1 1 0 none) me)
  gives_back n id me t y holding slot tells same_part s r wide at bound =
      let w : View E F = staged me.0 Idle in let served : ℕ = r.served in let line : List ℕ = r.line in let live : IsLive me.0 = λ gone. cc in
      let stood = r.stands id me.0 at in let seen = r.sees id me.0 at in let known = seen.knows live in let h = stood.holds t holding in let away : r.place ≡ out = h.0 in
      let mine : ticket_of me.0.stage ≡ Some served = ap ticket_of holding ∙ ap Some h.1 in
      let front = stood.in_line served mine in let fk : ℕ = front.0 in let fe : served ≡ served + fk = front.1 in let fz : fk ≡ 0 = omega arith in
      let head : get_elem? line 0 ≡ some me.0.number = ap (get_elem? line) (sym fz) ∙ front.2 in
      let some_line : 0 < length line = within line 0 me.0.number head in let ll : length (later line) + 1 ≡ length line = later_length line some_line in
      let moved : served + length line ≡ served + 1 + length (later line) = omega arith in
      let lies = subst (Lies entries fixed s.homes s.views served r.whole (fixed key)) away r.slot in
      let part : fixed y ≡ fixed key = (let k = known.same_fixed in cc) in (
        w,
        gives,
        tt,
        record {
          served = served + 1;
          line = later line;
          whole = r.whole;
          free = r.free;
          place = home;
          words = ap (λ (z : List ℕ). set z 1 ((get_or z 1 0 + 1) % 2 ^ 64)) r.words ∙ (λ i. (moved i % 2 ^ 64) ∷ (mod-add-mod served (2 ^ 64) 1 i) ∷ length r.whole ∷ []);
          slot = (y, ap (λ (c : List (ℕ × Option T)). homes_after s.homes c gives) slot ∙ ap (λ (z : List (maybe.Option (Option T))). set z 0 (some (Some y))) lies.0, tells ∙ h.2, part);
          stands = each_set s.views id w (Stands served line r.whole r.place) (Stands (served + 1) (later line) r.whole home) r.stands
              record {
                in_line = λ u e. absurd cc;
                holds = λ u e. absurd cc;
                opens = λ e. absurd cc;
                alone = λ e. absurd cc;
              }
              (λ j v ne ev p. record {
                in_line = λ u e. let l = p.in_line u e in let k : ℕ = l.0 in let is : u ≡ served + k = l.1 in
                    let pos : k ≢ 0 = λ z. (let now : u ≡ served = omega arith in ne (twins entries fixed owner key s r j id v me.0 served ev at (e ∙ ap Some now) mine)) in
                    let back : suc (k - 1) ≡ k = omega arith in
                    (k - 1, (omega arith), later_at line (k - 1) some_line ∙ (ap (get_elem? line) back ∙ l.2));
                holds = λ u e. absurd (ne (twins entries fixed owner key s r j id v me.0 served ev at (ap ticket_of e ∙ ap Some (p.holds u e).1) mine));
                opens = λ e. (let o = (p.opens e).0 in absurd cc);
                alone = λ e. absurd cc;
              });
          sees = each_set s.views id w (Sees owner r.whole r.free (fixed key)) (Sees owner r.whole r.free (fixed key)) r.sees (record { past = seen.past; knows = λ _. known }) (λ j v ne ev p. p);
          gained = each_set s.views id w (Gained owner) (Gained owner) r.gained (λ g e. absurd cc) (λ j v ne ev p. p);
          queues = λ k m e. has_set s.views id me.0 w _ _ at (r.queues (suc k) m (sym (later_at line k some_line) ∙ e))
              (λ q. let z : served ≡ served + suc k = ap the (sym mine ∙ q.1) in absurd (omega arith))
              (λ j v ev ne q. let on : served + suc k ≡ served + 1 + k = omega arith in (q.0, q.1 ∙ ap Some on));
          apart = apart_set s.views id me.0 w r.apart at live refl;
          first = r.first;
          taken = λ m e. has_set s.views id me.0 w _ _ at (r.taken m e) (λ q. ((λ gone. absurd cc), q.1)) (λ j v ev ne q. q);
          full = has_here s.views id me.0 w _ at ((λ gone. absurd cc), h.2);
        },
        ap (λ (c : List (ℕ × Option T)). (staged me.0 Idle, carried_after c gives)) slot,
      )
