-- A look at the ticket that is served keeps the rule.
use Rattle.std.proofs.Common.{◌≡◌, ℕ, ◌+◌, ◌%◌, ◌^◌, ◌<◌, ◌≤◌, List, [], ◌∷◌, length, set, get_or, sym, ap, ◌∙◌, refl, subst, arith, Option, Some, Bool}
use mathlib.Core.Logic.{dite}
use native.Mathlib.Decide.{ℕ_discrete}
use mathlib.Core.Option.{some, none, some-injective, some-ne-none}
use mathlib.Core.Option as maybe
use lib.ListN.{get_elem?}
use Rattle.atomic_table.specs.Table.{State, Me, Act, step, stepped, keeps, takes, Valid, carried_after, Allows}
use Rattle.bz_bus.specs.declared.rule.View.{View}
use Rattle.bz_bus.specs.declared.rule.Stage.TheVariants.{Waits, Holds}
use Rattle.bz_bus.specs.Entries.{entries_of, IsFreeIn}
use Rattle.bz_bus.specs.Inside.Views.{ticket_of, saw, At, IsLive}
use Rattle.bz_bus.specs.Inside.Rule.{Orderly, Stands, Sees, Gained, Lies, Place, home, out, fresh}
use Rattle.bz_bus.specs.Inside.Plays.{looked}
use Rattle.bz_bus.proofs.Views.{within, same_view, each_set, has_set, has_here, apart_set}
use Rattle.bz_bus.proofs.Lines.{the, twins, short}
use Rattle.atomic_table.proofs.Lists.{set_again, one_turn}

module _ {T E F : Type 0} (entries : T → List E) (fixed : T → F) (owner : E → ℕ) (key : T) where
  abbrev St : Type 0
  St = State (Option T) (View E F)

  abbrev M : Type 0
  M = Me (Option T) (View E F)

  -- what a look owes at one state
  abbrev Goes : St → ℕ → M → (M → Type 0) → Type 0
  Goes s id me then = (w : View E F) × (a : Act (Option T)) × Valid s.homes me.1 a × Orderly entries fixed owner key (stepped s 1 (get_or s.words 1 0) id me.1 w a) × then (w, carried_after me.1 a)

  -- a look that is not served changes nothing
  stays : (s : St) (id : ℕ) (me : M) (then : M → Type 0) → Orderly entries fixed owner key s → At s.views id me.0 → then me → Goes s id me then
  stays s id me then r at told = (
    me.0,
    keeps,
    tt,
    subst (Orderly entries fixed owner key) (λ k. record { words = (r.words ∙ sym (ap (λ (z : List ℕ). set z 1 (get_or z 1 0)) r.words)) k; homes = s.homes; views = sym (set_again s.views id me.0 at) k }) r,
    told,
  )

  -- the pass whose ticket is served takes the slot
  takes_it : (s : St) (r : Orderly entries fixed owner key s) (n id : ℕ) (me : M) (t : ℕ) → me.0.stage ≡ Waits t → r.served ≡ t → At s.views id me.0 → r.place ≡ home → Lies entries fixed s.homes s.views r.served r.whole (fixed key) home
      → Goes s id me (looked entries fixed owner (step n 1 0 0 none) me (get_or s.words 1 0))
  takes_it s r n id me t waits same at there l =
      let y : T = l.0 in let tells : entries y ≡ r.whole = l.2 in let w : View E F = saw me.0 (Holds t) (entries y) in
      let served : ℕ = r.served in let line : List ℕ = r.line in let live : IsLive me.0 = λ gone. cc in
      let stood = r.stands id me.0 at in let seen = r.sees id me.0 at in let known = seen.knows live in
      let mine = stood.in_line t (ap ticket_of waits) in let of_whole : (m : ℕ) → entries_of owner m r.whole ≡ entries_of owner m (entries y) = λ m. ap (entries_of owner m) (sym tells) in (
        w,
        takes 0 (Some y),
        ap (λ (z : List (maybe.Option (Option T))). get_elem? z 0) l.1,
        record {
          served = served;
          line = line;
          whole = r.whole;
          free = r.free;
          place = out;
          words = ap (λ (z : List ℕ). set z 1 (get_or z 1 0)) r.words;
          slot = (ap (λ (z : List (maybe.Option (Option T))). set z 0 none) l.1, has_here s.views id me.0 w _ at (ap Holds (sym same)));
          stands = each_set s.views id w (Stands served line r.whole r.place) (Stands served line r.whole out) r.stands
              record {
                in_line = λ u e. (mine.0, sym (ap the e) ∙ mine.1, mine.2);
                holds = λ u e. (refl, (let z : t ≡ u = ap the (ap ticket_of e) in sym z ∙ sym same), tells);
                opens = λ e. absurd cc;
                alone = λ e. absurd cc;
              }
              (λ j v ne ev p. record {
                in_line = p.in_line;
                holds = λ u e. (let h = (p.holds u e).0 in absurd cc);
                opens = λ e. (let h = (p.opens e).0 in absurd cc);
                alone = λ e. absurd cc;
              });
          sees = each_set s.views id w (Sees owner r.whole r.free (fixed key)) (Sees owner r.whole r.free (fixed key)) r.sees
              record {
                past = ([], sym tells);
                knows = λ _. record { same_fixed = known.same_fixed; below = known.below; taken = known.taken; own = of_whole me.0.number; counts = known.counts; others = λ z m b f. of_whole m };
              }
              (λ j v ne ev p. p);
          gained = each_set s.views id w (Gained owner) (Gained owner) r.gained (λ g e. absurd cc) (λ j v ne ev p. p);
          queues = λ k m e. has_set s.views id me.0 w _ _ at (r.queues k m e) (λ h. (h.0, sym (ap ticket_of waits) ∙ h.1)) (λ j v ev ne h. h);
          apart = apart_set s.views id me.0 w r.apart at live refl;
          first = r.first;
          taken = λ m e. has_set s.views id me.0 w _ _ at (r.taken m e) (λ h. ((λ gone. absurd cc), h.1)) (λ j v ev ne h. h);
          full = has_here s.views id me.0 w _ at ((λ gone. absurd cc), tells);
        },
        (λ u e. let tu : t ≡ u = ap the (ap ticket_of (sym waits ∙ e)) in (
          (λ hit. (
            y,
            ap (λ (z : ℕ). (saw me.0 (Holds z) (entries y), (0, Some y) ∷ me.1)) tu,
            record { extends = (seen.past.0, tells ∙ seen.past.1); own = sym (of_whole me.0.number) ∙ known.own; others = λ z k b f. sym (of_whole k) ∙ known.others z k b (subst (λ (l : List Bool). IsFreeIn l k) (known.counts z) f) },
            known.same_fixed ∙ ap Some (sym l.3),
          )),
          (λ miss. absurd (miss (ap (λ (z : List ℕ). get_or z 1 0) r.words ∙ ap (λ (z : ℕ). z % 2 ^ 64) (same ∙ tu)))),
        )),
      )

  by_place : (s : St) (r : Orderly entries fixed owner key s) (n id : ℕ) (me : M) (t : ℕ) → me.0.stage ≡ Waits t → r.served ≡ t → At s.views id me.0 → (p : Place) → r.place ≡ p → Lies entries fixed s.homes s.views r.served r.whole (fixed key) p
      → Goes s id me (looked entries fixed owner (step n 1 0 0 none) me (get_or s.words 1 0))
  by_place s r n id me t waits same at home is l = takes_it s r n id me t waits same at is l
  by_place s r n id me t waits same at out is l =
      let h = l.1 in let one : h.0 ≡ id = twins entries fixed owner key s r h.0 id h.1 me.0 r.served h.2 at (ap ticket_of h.3) (ap ticket_of waits ∙ ap Some (sym same)) in
      let eq : h.1 ≡ me.0 = same_view s.views h.0 id h.1 me.0 h.2 at one in let st = ap (λ (v : View E F). v.stage) eq in let holding : h.1.stage ≡ Holds r.served = h.3 in absurd cc
  by_place s r n id me t waits same at fresh is l = let o = (r.stands id me.0 at).alone is in absurd cc

  pub looks : (n id : ℕ) (me : M) (t : ℕ) → me.0.stage ≡ Waits t → Allows (Orderly entries fixed owner key) n id me 1 (λ x. x) (looked entries fixed owner (step n 1 0 0 none) me)
  looks n id me t waits s r wide at bound =
      let x : ℕ = get_or s.words 1 0 in let serving : x ≡ r.served % 2 ^ 64 = ap (λ (z : List ℕ). get_or z 1 0) r.words in
      let served : ℕ = r.served in let line : List ℕ = r.line in
      let d = (r.stands id me.0 at).in_line t (ap ticket_of waits) in let k : ℕ = d.0 in let is : t ≡ served + k = d.1 in
      let near : k < length line = within line k me.0.number d.2 in let few : length line ≤ 65 = short entries fixed owner key s r in
      dite (ℕ_discrete x (t % 2 ^ 64))
      (λ hit. let same : served ≡ t = one_turn served t (2 ^ 64) (omega arith) (omega arith) (sym serving ∙ hit) in by_place s r n id me t waits same at r.place refl r.slot)
      (λ miss. stays s id me (looked entries fixed owner (step n 1 0 0 none) me x) r at
      (λ u e. ((λ hit. absurd (miss (hit ∙ ap (λ (z : ℕ). z % 2 ^ 64) (ap the (ap ticket_of (sym e ∙ waits)))))), λ _. refl)))
