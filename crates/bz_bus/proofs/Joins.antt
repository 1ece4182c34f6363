-- A join, and the look after it, keep the rule.
use Rattle.std.proofs.Common.{◌≡◌, ◌≢◌, ℕ, ◌<◌, ◌≤◌, ◌⊎◌, ⊎_elim, inl, inr, List, length, set, get_or, sym, ap, ◌∙◌, refl, subst, arith, Bool, true, false, Option}
use mathlib.Core.Logic.{dite}
use native.Mathlib.Decide.{ℕ_discrete}
use mathlib.Core.Option.{some, none, some-injective, some-ne-none}
use mathlib.Core.Option as maybe
use Rattle.bz_bus.specs.declared.TheConstants.{PASSES}
use Rattle.bz_bus.specs.declared.rule.View.{View}
use Rattle.bz_bus.specs.declared.rule.Gain.{Gain}
use Rattle.bz_bus.specs.declared.rule.Stage.TheVariants.{Idle, Holds}
use Rattle.bz_bus.specs.Entries.{Extends, entries_of, IsFreeIn, IsJoinOf, longer}
use Rattle.bz_bus.specs.Inside.Views.{ticket_of, At, IsLive}
use Rattle.bz_bus.specs.Inside.Rule.{Orderly, Stands, Sees, Gained, Lies, Place, home, out, fresh}
use Rattle.bz_bus.proofs.Views.{apart_set}
use Rattle.std.proofs.Common.{get_or-set_other, get_or-set_same, append-nil, ltb}
use Rattle.std.proofs.lemmas.Bool.Decides.{nat_tests}
use Rattle.atomic_table.specs.Table.{Joins}
use Rattle.atomic_table.proofs.Lists.{set_else}
use Rattle.bz_bus.specs.Inside.Views.{both, spent}
use Rattle.bz_bus.proofs.Views.{each_two, has_two, apart_spent}
use Rattle.bz_bus.proofs.Entries.{extends_self, extends_shorter, extends_whole, entries_between}

module _ {E : Type 0} where
  -- the longer of two parts of one list
  record Longer (xs ys whole now : List E) : Type 0 where
    left : Extends xs now
    right : Extends ys now
    part : Extends now whole
    left_whole : xs ≡ whole → now ≡ whole
    right_whole : ys ≡ whole → now ≡ whole

  longer_is : (xs ys whole : List E) → Extends xs whole → Extends ys whole → Longer xs ys whole (longer xs ys)
  longer_is xs ys whole p q = by_test (ltb (length xs) (length ys)) refl
    where
      by_test : (b : Bool) → ltb (length xs) (length ys) ≡ b → Longer xs ys whole (longer xs ys)
      by_test true e = let lt : length xs < length ys = grind (arith, nat_tests) in rw e record {
        left = extends_shorter xs ys whole p q (omega arith);
        right = extends_self ys;
        part = q;
        left_whole = λ h. (let l = ap length h in extends_whole ys whole q (omega arith));
        right_whole = λ h. h;
      }
      by_test false e = let ge : length ys ≤ length xs = grind (arith, nat_tests) in rw e record {
        left = extends_self xs;
        right = extends_shorter ys xs whole q p (omega arith);
        part = p;
        left_whole = λ h. h;
        right_whole = λ h. (let l = ap length h in extends_whole xs whole p (omega arith));
      }

module _ {T E F : Type 0} (entries : T → List E) (fixed : T → F) (owner : E → ℕ) (key : T) where
  slot_stays : (homes : List (maybe.Option (Option T))) (vs : List (View E F)) (id o : ℕ) (me you a b : View E F) (served : ℕ) (whole : List E) (f : F) → At vs id me → At vs o you → o ≢ id → me.stage ≡ Idle → you.stage ≡ Idle
      → (p : Place) → Lies entries fixed homes vs served whole f p → Lies entries fixed homes (set (set vs id a) o b) served whole f p
  slot_stays homes vs id o me you a b served whole f at ot ne idle idle' home l = l
  slot_stays homes vs id o me you a b served whole f at ot ne idle idle' out l = (l.0, has_two vs id o me you a b (λ v. v.stage ≡ Holds served) (λ v. v.stage ≡ Holds served) at ot ne l.1 (λ h. absurd cc) (λ h. absurd cc) (λ j v e n m h. h))
  slot_stays homes vs id o me you a b served whole f at ot ne idle idle' fresh l = l

  -- what was freed is n
  freed : (free : List Bool) (n m : ℕ) → get_or (set free n true) m true ≡ true → (m ≡ n) ⊎ (get_or free m true ≡ true)
  freed free n m e = dite (ℕ_discrete m n) inl (λ other. inr (sym (get_or-set_other free n m true true other) ∙ e))

  joined_of : (whole : List E) (free : List Bool) (f : F) (me you : View E F) → me.number ≡ 0 → Sees owner whole free f me → Sees owner whole free f you → IsLive me → IsLive you
      → IsJoinOf owner me.seen you.seen you.number me.free (longer me.seen you.seen)
  joined_of whole free f me you zeroth p q live live' =
      let l = longer_is me.seen you.seen whole p.past q.past in let k = p.knows live in let now : List E = longer me.seen you.seen in
      record {
        is = refl;
        extends_mine = l.left;
        extends_theirs = l.right;
        first = entries_between owner 0 me.seen now whole l.left l.part (subst (λ (z : ℕ). entries_of owner z whole ≡ entries_of owner z me.seen) zeroth k.own);
        others = λ m b e. entries_between owner m me.seen now whole l.left l.part (k.others zeroth m b (subst (λ (z : List Bool). IsFreeIn z m) (k.counts zeroth) e));
        joined = entries_between owner you.number you.seen now whole l.right l.part (q.knows live').own;
      }

  pub joins : (id : ℕ) (me : View E F) (o : ℕ) (you : View E F) → me.stage ≡ Idle → me.number ≡ 0 → length me.free ≡ PASSES → you.stage ≡ Idle → Joins (Orderly entries fixed owner key) id me o you (both me you) spent
  joins id me o you idle zeroth long idle' s r at ne there =
      let a : View E F = both me you in let gone : View E F = spent in let live : IsLive me = λ e. cc in let live' : IsLive you = λ e. cc in let live_a : IsLive a = λ e. cc in
      let ot : At s.views o you = sym (set_else s.views id o a ne) ∙ there in let n : ℕ = you.number in let now : List E = a.seen in let free : List Bool = r.free in
      let stood = r.stands id me at in let seen = r.sees id me at in let seen' = r.sees o you ot in let known = seen.knows live in let known' = seen'.knows live' in let counts : me.free ≡ free = known.counts zeroth in
      let apart_n : n ≢ 0 = λ z. ne (r.apart o id you me ot at live' live (z ∙ sym zeroth)) in
      let l = longer_is me.seen you.seen r.whole seen.past seen'.past in let j = joined_of r.whole free (fixed key) me you zeroth seen seen' live live' in
      let wide : n < length free = (let b = known'.below in let e = ap length counts in omega arith) in
      let is_taken : (m : ℕ) → m ≢ n → get_or free m true ≡ false → get_or (set free n true) m true ≡ false = λ m d e. get_or-set_other free n m true true d ∙ e in
      let of_now : (m : ℕ) (x : List E) → Extends x now → entries_of owner m r.whole ≡ entries_of owner m x → entries_of owner m r.whole ≡ entries_of owner m now = λ m x p e. e ∙ sym (entries_between owner m x now r.whole p l.part e) in
      record {
        served = r.served;
        line = r.line;
        whole = r.whole;
        free = set free n true;
        place = r.place;
        words = r.words;
        slot = slot_stays s.homes s.views id o me you a gone r.served r.whole (fixed key) at ot ne idle idle' r.place r.slot;
        stands = each_two s.views id o a gone (Stands r.served r.line r.whole r.place) (Stands r.served r.line r.whole r.place) r.stands
            (record { in_line = λ u e. absurd cc; holds = λ u e. absurd cc; opens = λ e. absurd cc; alone = λ e. (let q = stood.alone e in absurd cc) })
            (record { in_line = λ u e. absurd cc; holds = λ u e. absurd cc; opens = λ e. absurd cc; alone = λ e. (let q = stood.alone e in absurd cc) })
            (λ i v d d' ev p. p);
        sees = each_two s.views id o a gone (Sees owner r.whole free (fixed key)) (Sees owner r.whole (set free n true) (fixed key)) r.sees
            record {
              past = l.part;
              knows = λ _. record {
                same_fixed = known.same_fixed;
                below = known.below;
                taken = is_taken me.number (λ e. apart_n (sym e ∙ zeroth)) known.taken;
                own = of_now me.number me.seen l.left known.own;
                counts = λ z. ap (λ (q : List Bool). set q n true) counts;
                others = λ z m b f. ⊎_elim (λ e. of_now m you.seen l.right (subst (λ (q : ℕ). entries_of owner q r.whole ≡ entries_of owner q you.seen) (sym e) known'.own)) (λ e. of_now m me.seen l.left (known.others zeroth m b e)) (freed free n m f);
              };
            }
            (record { past = (r.whole, sym (append-nil r.whole)); knows = λ lv. absurd (lv refl) })
            (λ i v d d' ev p. record {
              past = p.past;
              knows = λ lv. let k = p.knows lv in record {
                same_fixed = k.same_fixed;
                below = k.below;
                taken = is_taken v.number (λ e. d' (r.apart i o v you ev ot lv live' e)) k.taken;
                own = k.own;
                counts = λ z. absurd (d (r.apart i id v me ev at lv live (z ∙ sym zeroth)));
                others = λ z. absurd (d (r.apart i id v me ev at lv live (z ∙ sym zeroth)));
              };
            });
        gained = each_two s.views id o a gone (Gained owner) (Gained owner) r.gained
            (λ g e. let same : record { number = n; theirs = you.seen; mine = me.seen; free = me.free } ≡ g = cc in subst (λ (z : Gain E). IsJoinOf owner z.mine z.theirs z.number z.free now) same j)
            (λ g e. absurd cc)
            (λ i v d d' ev p. p);
        queues = λ k m e. has_two s.views id o me you a gone _ _ at ot ne (r.queues k m e) (λ h. absurd (let z = h.1 in let q = ap ticket_of idle in cc)) (λ h. absurd (let z = h.1 in let q = ap ticket_of idle' in cc)) (λ i v ev d d' h. h);
        apart = apart_spent (set s.views id a) o gone (apart_set s.views id me a r.apart at live refl) refl;
        first = is_taken 0 (λ e. apart_n (sym e)) r.first;
        taken = λ m e.
            let other : m ≢ n = λ z. (let q : get_or (set free n true) n true ≡ true = get_or-set_same free n true true wide in let p = ap (λ (x : ℕ). get_or (set free n true) x true) z in cc) in
            has_two s.views id o me you a gone _ _ at ot ne (r.taken m (sym (get_or-set_other free n m true true other) ∙ e)) (λ h. (live_a, h.1)) (λ h. absurd (other (sym h.1))) (λ i v ev d d' h. h);
        full = has_two s.views id o me you a gone _ _ at ot ne r.full (λ h. (live_a, l.left_whole h.1)) (λ h. (live_a, l.right_whole h.1)) (λ i v ev d d' h. h);
      }

module _ {E F : Type 0} (owner : E → ℕ) where
  -- what the look after a join has told, of the first pass and of the one that was joined
  pub told : (me you m m' : View E F) (n : ℕ) (free : List Bool) → m ≡ both me you → m'.seen ≡ m.seen → Gained owner m → you.number ≡ n → me.free ≡ free → IsJoinOf owner me.seen you.seen n free m'.seen
  told me you m m' n free is same gained number frees =
      let j = gained (record { number = you.number; theirs = you.seen; mine = me.seen; free = me.free }) (ap (λ (v : View E F). v.stage) is) in
      subst (λ (k : ℕ). IsJoinOf owner me.seen you.seen k free m'.seen) number
      (subst (λ (f : List Bool). IsJoinOf owner me.seen you.seen you.number f m'.seen) frees
      (subst (λ (x : List E). IsJoinOf owner me.seen you.seen you.number me.free x) (sym same) j))
