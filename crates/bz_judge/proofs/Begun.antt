-- A walk at its root, and at its end.
use Rattle.std.proofs.Common.{◌≡◌, ℕ, zero, suc, Bool, false, List, [], ◌∷◌, ◌++◌, length, get_or, replicate, arith, refl, sym, ap, ◌∙◌, append-nil, subst}
use Rattle.std.specs.Prelude.{slice_index}
use Rattle.std.proofs.lemmas.List.{length-replicate}
use Rattle.bz_layout.specs.declared.config.Config.{Config}
use Rattle.bz_tree.specs.Content.{Pairs, pairs_of}
use Rattle.bz_tree.specs.Stack.{pending}
use Rattle.bz_tree.specs.View.{View}
use Rattle.bz_tree.specs.Walk.{Visit, start, walk, first_fault}
use Rattle.bz_content.specs.Content.{image_of, view_in}
use Rattle.bz_content.specs.Map.{records_in}
use Rattle.bz_content.proofs.Honesty.{no}
use Rattle.bz_judge.specs.Inside.Stacks.{stack_of}
use Rattle.bz_judge.specs.Inside.Walking.{Goes, IsBefore, IsOnWay, IsRoot, IsTreeOf, Starts, unseen}
use Rattle.bz_judge.specs.declared.walk.Walk.{Walk}

none-seen : (n : ℕ) → unseen (replicate n false) ≡ n
unfolding unseen
none-seen zero = refl
none-seen (suc n) = omega (arith, none-seen n)

blank : (n k : ℕ) → get_or (replicate n false) k false ≡ false
blank zero k = refl
blank (suc n) zero = refl
blank (suc n) (suc k) = blank n k

-- at the root
goes : (v : View) (records : ℕ → Pairs) (u : Visit) → Starts v u → Goes v records (u ∷ []) (replicate v.top false) 0 0
unfolding first_fault pairs_of
goes v records u s = record {
  behind = start v ∷ [];
  passed = v.top ∷ [];
  whole = s.walk;
  fault = ap (first_fault v []) s.walk ∙ rw s.fault refl;
  size = length-replicate v.top false;
  table = λ k less. rw (no v.top k (omega arith)) (sym (blank v.top k));
  reached = refl;
  left = omega (arith, none-seen v.top);
  pairs = rw (no v.height 0 (omega (arith, s.level))) refl;
  few = omega arith;
  below = (s.below, tt);
}

pub before : (c : Config) (image : List ℕ) (u : Visit) (walk : Walk) → IsRoot c image u → IsBefore c u walk → IsOnWay c image (stack_of walk.stack.items) walk.seen.items walk.pairs walk.reached
before c image u w s b =
    let g : IsOnWay c image (u ∷ []) (replicate c.nodes false) 0 0 = goes (view_in c (slice_index image)) (records_in c (image_of (slice_index image))) u s in
    subst (λ x. IsOnWay c image x w.seen.items w.pairs w.reached) (sym b.stack)
    (subst (λ x. IsOnWay c image (u ∷ []) x w.pairs w.reached) (sym b.seen)
    (subst (λ x. IsOnWay c image (u ∷ []) (replicate c.nodes false) x w.reached) (sym b.pairs)
    (subst (λ x. IsOnWay c image (u ∷ []) (replicate c.nodes false) 0 x) (sym b.reached) g)))

-- at the end
pub ended : (c : Config) (image : List ℕ) (stack : List Visit) (seen : List Bool) (found met levels : ℕ) → IsOnWay c image stack seen found met → stack ≡ [] → levels ≡ (view_in c (slice_index image)).height →
    IsTreeOf c image (record { pairs = found; levels = levels; reached = met })
unfolding first_fault pending
ended c image stack seen found met levels g empty l = record {
  none = g.fault ∙ ap (λ s. first_fault (view_in c (slice_index image)) g.passed (pending (view_in c (slice_index image)) s)) empty;
  pairs = sym g.pairs ∙ ap (λ us. length (pairs_of (records_in c (image_of (slice_index image))) us)) (sym all);
  levels = l;
  reached = sym g.reached ∙ ap length (sym all);
}
  where
    nothing : (v : View) (s : List Visit) → s ≡ [] → pending v s ≡ []
    nothing v s e = ap (pending v) e

    all : walk (view_in c (slice_index image)) ≡ g.behind
    all = g.whole ∙ (ap (λ p. g.behind ++ p) (nothing (view_in c (slice_index image)) stack empty) ∙ append-nil g.behind)
