-- The rule at the opening, and what it says at the close.
use Rattle.std.proofs.Common.{◌≡◌, ◌≢◌, ℕ, zero, suc, ◌+◌, ◌<◌, List, [], ◌∷◌, length, get_or, sym, ap, ◌∙◌, refl, subst, arith, Bool, true, false, Option, Some, None}
use mathlib.Core.Logic.{dite}
use native.Mathlib.Decide.{ℕ_discrete}
use mathlib.Core.Option.{some, none, some-injective, some-ne-none}
use mathlib.Core.Option as maybe
use lib.ListN.{get_elem?}
use Rattle.atomic_table.specs.Table.{State}
use Rattle.bz_bus.specs.declared.TheConstants.{PASSES}
use Rattle.bz_bus.specs.declared.rule.View.{View}
use Rattle.bz_bus.specs.declared.rule.Stage.TheVariants.{Idle, Holds}
use Rattle.bz_bus.specs.Entries.{IsFreeIn}
use Rattle.bz_bus.specs.Inside.Views.{ticket_of, At, Has, IsLive}
use Rattle.bz_bus.specs.Inside.Rule.{Orderly, Stands, Sees, Gained, Lies, Place, home, out, fresh}
use Rattle.bz_bus.proofs.Views.{same_view}
use Rattle.bz_bus.proofs.Lines.{the}
use Rattle.std.proofs.Common.{replicate}
use Rattle.atomic_table.specs.Table.{opening, Final, Seen}
use Rattle.bz_bus.specs.Inside.Views.{opener}
use Rattle.bz_bus.proofs.Views.{each_one}

all_free : (n k : ℕ) → get_or (replicate n true) k true ≡ true
all_free zero k = refl
all_free (suc n) zero = refl
all_free (suc n) (suc k) = all_free n k

pub all_but_first : (n k : ℕ) → 0 < k → get_or (false ∷ replicate n true) k true ≡ true
all_but_first n zero h = absurd (omega arith)
all_but_first n (suc k) h = all_free n k

module _ {T E F : Type 0} (entries : T → List E) (fixed : T → F) (owner : E → ℕ) (key : T) where
  pub opens : Orderly entries fixed owner key (opening (1 ∷ 0 ∷ length (entries key) ∷ []) (replicate 1 None) (opener (fixed key) (entries key)))
  opens =
      let v : View E F = opener (fixed key) (entries key) in let line : List ℕ = 0 ∷ [] in let whole : List E = entries key in let live : IsLive v = λ e. cc in
      record {
        served = 0;
        line = line;
        whole = whole;
        free = v.free;
        place = fresh;
        words = refl;
        slot = refl;
        stands = each_one v (Stands 0 line whole fresh) record { in_line = λ t e. (0, sym (ap the e), refl); holds = λ t e. absurd cc; opens = λ e. (refl, refl); alone = λ e. refl };
        sees = each_one v (Sees owner whole v.free (fixed key)) record { past = ([], refl); knows = λ _. record { same_fixed = refl; below = omega arith; taken = refl; own = refl; counts = λ z. refl; others = λ z m b f. refl } };
        gained = each_one v (Gained owner) (λ g e. absurd cc);
        queues = queue;
        apart = λ i j a b ei ej la lb e. only i a ei ∙ sym (only j b ej);
        first = refl;
        taken = λ n e. (0, v, refl, (live, sym (zeroth n e)));
        full = (0, v, refl, (live, refl));
      }
    where
      queue : (k n : ℕ) → get_elem? (0 ∷ []) k ≡ some n → Has (opener (fixed key) (entries key) ∷ []) (λ v. (v.number ≡ n) × (ticket_of v.stage ≡ Some (0 + k)))
      queue zero n e = (0, opener (fixed key) (entries key), refl, (some-injective 0 n e, refl))
      queue (suc k) n e = absurd (some-ne-none n (sym e))

      only : (i : ℕ) (v : View E F) → At (opener (fixed key) (entries key) ∷ []) i v → i ≡ 0
      only zero v e = refl
      only (suc i) v e = absurd (some-ne-none v (sym e))

      zeroth : (n : ℕ) → get_or (false ∷ replicate 64 true) n true ≡ false → n ≡ 0
      zeroth zero e = refl
      zeroth (suc n) e = let z = all_free 64 n in absurd cc

  -- the first pass has seen the whole list, if it is the only one
  alone_full : (s : State (Option T) (View E F)) (r : Orderly entries fixed owner key s) (id : ℕ) (me : View E F) → At s.views id me → me.stage ≡ Idle → me.number ≡ 0 → ((n : ℕ) → 0 < n → n < PASSES → IsFreeIn me.free n)
      → (j : ℕ) (v : View E F) → At s.views j v → IsLive v → v ≡ me
  alone_full s r id me at idle zeroth all j v ev lv =
      let live : IsLive me = λ e. cc in let counts : me.free ≡ r.free = ((r.sees id me at).knows live).counts zeroth in
      let zero_too : v.number ≡ 0 = dite (ℕ_discrete v.number 0) (λ e. e)
      (λ ne. (let z = ((r.sees j v ev).knows lv).taken in let q : get_or r.free v.number true ≡ true = subst (λ (x : List Bool). IsFreeIn x v.number) counts (all v.number (omega arith) ((r.sees j v ev).knows lv).below) in absurd cc)) in
      same_view s.views j id v me ev at (r.apart j id v me ev at lv live (zero_too ∙ sym zeroth))

  by_place : (s : State (Option T) (View E F)) (r : Orderly entries fixed owner key s) (id : ℕ) (me : View E F) (slots : List (Option T)) → At s.views id me → me.stage ≡ Idle → me.number ≡ 0 → ((n : ℕ) → 0 < n → n < PASSES → IsFreeIn me.free n)
      → ((k : ℕ) (y : Option T) → get_elem? s.homes k ≡ some (some y) → get_elem? slots k ≡ some y) → (p : Place) → r.place ≡ p → Lies entries fixed s.homes s.views r.served r.whole (fixed key) p
      → (y : T) × (get_elem? slots 0 ≡ some (Some y)) × (entries y ≡ me.seen) × (fixed y ≡ fixed key)
  by_place s r id me slots at idle zeroth all kept home is l =
      let h = r.full in let one = alone_full s r id me at idle zeroth all h.0 h.1 h.2 h.3.0 in
      (l.0, kept 0 (Some l.0) (ap (λ (z : List (maybe.Option (Option T))). get_elem? z 0) l.1), l.2 ∙ (sym h.3.1 ∙ ap (λ (v : View E F). v.seen) one), l.3)
  by_place s r id me slots at idle zeroth all kept out is l =
      let h = l.1 in let holding : h.1.stage ≡ Holds r.served = h.3 in let one = alone_full s r id me at idle zeroth all h.0 h.1 h.2 (λ e. cc) in
      let st = ap (λ (v : View E F). v.stage) one in absurd cc
  by_place s r id me slots at idle zeroth all kept fresh is l = let o = (r.stands id me at).alone is in absurd cc

  pub closes : (id : ℕ) (me : View E F) (words : List ℕ) (slots : List (Option T)) → Final (Seen (Orderly entries fixed owner key) id me) words slots → me.stage ≡ Idle → me.number ≡ 0 → ((n : ℕ) → 0 < n → n < PASSES → IsFreeIn me.free n)
      → (y : T) × (get_elem? slots 0 ≡ some (Some y)) × (entries y ≡ me.seen) × (fixed y ≡ fixed key)
  closes id me words slots f idle zeroth all = by_place f.0 f.1.0 id me slots f.1.1 idle zeroth all f.4 f.1.0.place refl f.1.0.slot

  module _ (id : ℕ) (me : View E F) (words : List ℕ) (slots : List (Option T)) (found : Option T) (number : ℕ) (free : List Bool) (f : Final (Seen (Orderly entries fixed owner key) id me) words slots) (idle : me.stage ≡ Idle)
      (numbers : me.number ≡ number) (zeroth : number ≡ 0) (frees : me.free ≡ free) (all : (n : ℕ) → 0 < n → n < PASSES → IsFreeIn free n) (is : get_elem? slots 0 ≡ some found) where
    -- the slot that was taken has the value
    took : (y : T) × (found ≡ Some y) × (fixed y ≡ fixed key) × (entries y ≡ me.seen)
    took = let c = closes id me words slots f idle (numbers ∙ zeroth) (subst (λ (z : List Bool). (n : ℕ) → 0 < n → n < PASSES → IsFreeIn z n) (sym frees) all) in (c.0, some-injective found (Some c.0) (sym is ∙ c.1), c.3, c.2)

    pub took_some : found ≢ None
    took_some e = let t = took in let h = t.1 in absurd cc

    pub took_value : (v : T) → found ≡ Some v → (fixed v ≡ fixed key) × (entries v ≡ me.seen)
    took_value v e = let t = took in let same : t.0 ≡ v = (let h = t.1 in cc) in (ap fixed (sym same) ∙ t.2, ap entries (sym same) ∙ t.3)
