-- One step of a walk: a slot that was seen, one that breaks a rule, a leaf, and an inner node.
use Rattle.std.proofs.Common.{◌≡◌, ◌≢◌, ℕ, zero, suc, ◌+◌, ◌<◌, ◌≤◌, ◌==◌, if◌then◌else◌, Bool, true, false, List, [], ◌∷◌, ◌++◌, length, get_or, arith, refl, sym, ap, ◌∙◌, inl, inr, append_assoc, append-nil}
use Rattle.std.specs.Prelude.{Some, None}
use Rattle.std.proofs.lemmas.Bool.{cases_eq}
use Rattle.std.proofs.Math.ListN.{set, length-set}
use Rattle.std.proofs.lemmas.List.{get_or-set_same, get_or-set_other, length-append}
use Rattle.bz_layout.specs.declared.sizes.TheConstants.{SHARED_WORDS}
use Rattle.bz_tree.specs.Content.{Pairs, pairs_of}
use Rattle.bz_tree.specs.Stack.{pending}
use Rattle.bz_tree.specs.View.{View}
use Rattle.bz_tree.specs.Walk.{Visit, kids, first_fault, fault_of, is_among, place_of}
use Rattle.bz_tree.specs.declared.rule.ShapeRule.{ShapeRule}
use Rattle.bz_tree.specs.declared.rule.ShapeRule.TheVariants.{Twice}
use Rattle.bz_tree.proofs.Stacks.{pending-inner, pending-leaf}
use Rattle.bz_content.proofs.Honesty.{no}
use Rattle.bz_content.proofs.Reached.{is as same}
use Rattle.bz_judge.specs.Inside.Stacks.{AreBelow}
use Rattle.bz_judge.specs.Inside.Walking.{Goes, unseen}

-- what is to come begins with the topmost visit
pub record Begins (v : View) (u : Visit) (us : List Visit) : Type 0 where
  pub rest : List Visit
  pub is : pending v (u ∷ us) ≡ u ∷ rest

begins : (v : View) (u : Visit) (us : List Visit) → Begins v u us
begins v u us = go u.level refl
  where
    go : (l : ℕ) → u.level ≡ l → Begins v u us
    go zero e = record { rest = pending v us; is = pending-leaf v u us e }
    go (suc l) e = record { rest = pending v (kids v u l 0 (v.count u.slot) ++ us); is = pending-inner v l u us e }

place : (v : View) (k : ℕ) → k < v.top → place_of v k ≡ k
place v k less = let ne : k ≢ v.top = omega arith in rw (no k v.top ne) refl

pub seen-twice : (v : View) (records : ℕ → Pairs) (u : Visit) (us : List Visit) (seen : List Bool) (pairs reached : ℕ) → Goes v records (u ∷ us) seen pairs reached → get_or seen u.slot false ≡ true →
    fault_of v ≡ Some (record { rule = Twice; place = u.slot })
unfolding first_fault
seen-twice v records u us seen pairs reached g t =
    let b : Begins v u us = begins v u us in
    let among : is_among g.passed u.slot ≡ true = g.table u.slot g.below.0 ∙ t in
    g.fault ∙ (ap (first_fault v g.passed) b.is ∙ rw (among, place v u.slot g.below.0) refl)

pub breaks-rule : (v : View) (records : ℕ → Pairs) (u : Visit) (us : List Visit) (seen : List Bool) (pairs reached : ℕ) (rule : ShapeRule) → Goes v records (u ∷ us) seen pairs reached → get_or seen u.slot false ≡ false →
    v.fault u.slot u.level u.low u.high ≡ Some rule → fault_of v ≡ Some (record { rule = rule; place = u.slot })
unfolding first_fault
breaks-rule v records u us seen pairs reached rule g t f =
    let b : Begins v u us = begins v u us in
    let among : is_among g.passed u.slot ≡ false = g.table u.slot g.below.0 ∙ t in
    g.fault ∙ (ap (first_fault v g.passed) b.is ∙ rw (among, f, place v u.slot g.below.0) refl)

-- one slot more is seen
unseen-set : (seen : List Bool) (k : ℕ) → k < length seen → get_or seen k false ≡ false → unseen seen ≡ suc (unseen (set seen k true))
unfolding unseen
unseen-set [] k less t = absurd (omega arith)
unseen-set (b ∷ bs) zero less t = rw t (omega arith)
unseen-set (b ∷ bs) (suc k) less t = omega (arith, unseen-set bs k (omega arith) t)

-- the pairs of two lists of visits
pub pairs-append : (records : ℕ → Pairs) (us ws : List Visit) → pairs_of records (us ++ ws) ≡ pairs_of records us ++ pairs_of records ws
unfolding pairs_of
pairs-append records [] ws = refl
pairs-append records (u ∷ us) ws = ap (λ t. (if u.level == 0 then records u.slot else []) ++ t) (pairs-append records us ws) ∙ sym (append_assoc (if u.level == 0 then records u.slot else []) (pairs_of records us) (pairs_of records ws))

pub pairs-join : (records : ℕ → Pairs) (us : List Visit) (u : Visit) → pairs_of records (us ++ u ∷ []) ≡ pairs_of records us ++ (if u.level == 0 then records u.slot else [])
unfolding pairs_of
pairs-join records us u = pairs-append records us (u ∷ []) ∙ ap (λ t. pairs_of records us ++ t) (append-nil (if u.level == 0 then records u.slot else []))

-- a node that breaks no rule is behind, and what it leads to is to come
pub further : (v : View) (records : ℕ → Pairs) (u : Visit) (us ws : List Visit) (seen : List Bool) (pairs reached more : ℕ) → Goes v records (u ∷ us) seen pairs reached → get_or seen u.slot false ≡ false →
    v.fault u.slot u.level u.low u.high ≡ None → pending v (u ∷ us) ≡ u ∷ pending v ws → AreBelow v.top ws → length (if u.level == 0 then records u.slot else []) ≡ more → more ≤ SHARED_WORDS →
    Goes v records ws (set seen u.slot true) (pairs + more) (reached + 1)
unfolding first_fault
further v records u us ws seen pairs reached more g t f next below count fits = record {
  behind = g.behind ++ u ∷ [];
  passed = u.slot ∷ g.passed;
  whole = g.whole ∙ (ap (λ p. g.behind ++ p) next ∙ sym (append_assoc g.behind (u ∷ []) (pending v ws)));
  fault = g.fault ∙ (ap (first_fault v g.passed) next ∙ rw (among, f) refl);
  size = length-set seen u.slot true ∙ g.size;
  table = table;
  reached = omega (arith, length-append g.behind (u ∷ []), g.reached);
  left = omega (arith, g.left, unseen-set seen u.slot inside t);
  pairs = omega (arith, ap length (pairs-join records g.behind u), length-append (pairs_of records g.behind) (if u.level == 0 then records u.slot else []), g.pairs, count);
  few = omega (arith, g.few);
  below = below;
}
  where
    among : is_among g.passed u.slot ≡ false
    among = g.table u.slot g.below.0 ∙ t

    inside : u.slot < length seen
    inside = omega (arith, g.below.0, g.size)

    table : (k : ℕ) → k < v.top → is_among (u.slot ∷ g.passed) k ≡ get_or (set seen u.slot true) k false
    table k less = elim (cases_eq k u.slot) [
      | inl e ↦
          let here : (u.slot == k) ≡ true = rw e (same u.slot) in
          rw here (sym (ap (λ j. get_or (set seen u.slot true) j false) e ∙ get_or-set_same seen u.slot true false inside))
      | inr ne ↦
          let other : (u.slot == k) ≡ false = no u.slot k (λ e. ne (sym e)) in
          rw other (g.table k less ∙ sym (get_or-set_other seen u.slot k true false ne))
    ]
