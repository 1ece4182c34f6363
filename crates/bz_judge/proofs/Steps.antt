-- One step of a walk over an image.
use Rattle.std.proofs.Common.{◌≡◌, ℕ, zero, suc, ◌+◌, ◌-◌, ◌<◌, ◌≤◌, ◌==◌, Bool, true, false, List, [], ◌∷◌, ◌++◌, length, get_or, arith, refl, sym, ap, ◌∙◌, subst, Option}
use Rattle.std.specs.Prelude.{Some, None, slice_index}
use Rattle.std.proofs.Math.ListN.{set}
use Rattle.bz_layout.specs.declared.config.Config.{Config}
use Rattle.bz_layout.specs.declared.sizes.TheConstants.{SHARED_WORDS, NODE_WORDS}
use Rattle.bz_tree.specs.Content.{Pairs}
use Rattle.bz_tree.specs.View.{View}
use Rattle.bz_tree.specs.Walk.{Visit, kids}
use Rattle.bz_tree.specs.declared.rule.ShapeRule.{ShapeRule}
use Rattle.bz_tree.proofs.Stacks.{pending-inner, pending-leaf}
use Rattle.bz_content.specs.Content.{image_of, view_in}
use Rattle.bz_content.specs.Image.{node}
use Rattle.bz_content.specs.Map.{records_in}
use Rattle.bz_content.specs.Resolving.{resolve}
use Rattle.bz_content.proofs.Honesty.{no}
use Rattle.bz_slotted.specs.Laws.{RisesBetween}
use Rattle.bz_slotted.specs.Page.{page}
use Rattle.bz_slotted.specs.Readers.{count_of, child_of, key_of}
use Rattle.bz_slotted.specs.ReadingLaws.{node_of, ReadsAsChildren}
use Rattle.bz_slotted.specs.Records.{records}
use Rattle.bz_slotted.specs.Rules.{node_fault}
use Rattle.bz_slotted.proofs.Proved.{inner_keys_rise, whole_inners_are_readable}
use Rattle.bz_judge.specs.Inside.Nodes.{IsNodeOf, IsScanned}
use Rattle.bz_judge.specs.Inside.Stacks.{AreBelow, Shows}
use Rattle.bz_judge.specs.Inside.Walking.{IsOnWay}
use Rattle.bz_judge.proofs.NodeWords.{fault-of-node}
use Rattle.bz_judge.proofs.Walks.{further}

-- what stands at a place, whatever is asked for past the end
pub at-place : (xs : List Bool) (i : ℕ) (b d : Bool) → i < length xs → b ≡ get_or xs i b → get_or xs i d ≡ b
at-place [] i b d less e = absurd (omega arith)
at-place (x ∷ xs) zero b d less e = sym e
at-place (x ∷ xs) (suc i) b d less e = at-place xs i b d (omega arith) e

-- nothing was found
pub none-found : (o : Option ShapeRule) → ((rule : ShapeRule) → o ≡ Some rule → ⊥) → o ≡ None
none-found None h = refl
none-found (Some rule) h = absurd (h rule refl)

pub shows-node : (c : Config) (image : List ℕ) (k : ℕ) (words : List ℕ) → k < c.nodes → IsNodeOf c image k words → Shows (view_in c (slice_index image)) k words
shows-node c image k words less is =
    let other : (k == c.nodes) ≡ false = no k c.nodes (omega arith) in
    record {
      count = rw other (ap count_of (sym is));
      child = λ i. rw other (ap (λ n. child_of n i) (sym is));
      key = λ i. rw other (ap (λ n. key_of n i) (sym is));
    }

pub leaf-step : (c : Config) (image : List ℕ) (u : Visit) (us : List Visit) (seen : List Bool) (found met more : ℕ) (words : List ℕ) → IsOnWay c image (u ∷ us) seen found met → get_or seen u.slot false ≡ false →
    IsNodeOf c image u.slot words → (view_in c (slice_index image)).fault u.slot u.level u.low u.high ≡ None → u.level ≡ 0 → more ≡ length (records (page (node_of words))) → more ≤ SHARED_WORDS →
    IsOnWay c image us (set seen u.slot true) (found + more) (met + 1)
leaf-step c image u us seen found met more words g t is f leaf count few =
    further v r u us us seen found met more g t f (pending-leaf v u us leaf) g.below.1 (rw leaf (ap (λ n. length (records (page n))) (sym is) ∙ sym count)) few
  where
    v : View
    v = view_in c (slice_index image)

    r : ℕ → Pairs
    r = records_in c (image_of (slice_index image))

pub kids-below : (v : View) (u : Visit) (l i n nodes : ℕ) (us : List Visit) → ((j : ℕ) → i ≤ j → j < i + n → v.child u.slot j < nodes) → AreBelow nodes us → AreBelow nodes (kids v u l i n ++ us)
unfolding kids
kids-below v u l i zero nodes us each rest = rest
kids-below v u l i (suc n) nodes us each rest = (each i (omega arith) (omega arith), kids-below v u l (i + 1) n nodes us (λ j from to. each j (omega arith) (omega arith)) rest)

-- the rule of a node, as the laws of nodes ask for it
pub node-none : (c : Config) (raw : ℕ → ℕ) (u : Visit) → u.slot < c.nodes → (view_in c raw).fault u.slot u.level u.low u.high ≡ None → node_fault c.nodes (node c raw u.slot) (node c (resolve raw) u.slot) u.level u.low u.high ≡ None
node-none c raw u less f = sym (fault-of-node c raw u.slot u.level u.low u.high less) ∙ f

pub children-below : (c : Config) (raw : ℕ → ℕ) (u : Visit) → u.slot < c.nodes → (view_in c raw).fault u.slot u.level u.low u.high ≡ None → 0 < u.level → (j : ℕ) → j < (view_in c raw).count u.slot → (view_in c raw).child u.slot j < c.nodes
children-below c raw u less f inner j within =
    let other : (u.slot == c.nodes) ≡ false = no u.slot c.nodes (omega arith) in
    let b : RisesBetween c.nodes (node c (resolve raw) u.slot) u.low u.high = inner_keys_rise c.nodes (node c raw u.slot) (node c (resolve raw) u.slot) u.level u.low u.high inner (node-none c raw u less f) in
    let w : j < count_of (node c (resolve raw) u.slot) = rw other at within in
    rw other (b.slots j w)

pub inner-step : (c : Config) (image : List ℕ) (u : Visit) (us ws : List Visit) (seen : List Bool) (found met : ℕ) → IsOnWay c image (u ∷ us) seen found met → get_or seen u.slot false ≡ false →
    (view_in c (slice_index image)).fault u.slot u.level u.low u.high ≡ None → 0 < u.level → ws ≡ kids (view_in c (slice_index image)) u (u.level - 1) 0 ((view_in c (slice_index image)).count u.slot) ++ us →
    IsOnWay c image ws (set seen u.slot true) found (met + 1)
inner-step c image u us ws seen found met g t f inner stack =
    let goes : IsOnWay c image next (set seen u.slot true) (found + 0) (met + 1) =
    further v r u us next seen found met 0 g t f (pending-inner v (u.level - 1) u us (omega arith))
    (kids-below v u (u.level - 1) 0 (v.count u.slot) c.nodes us (λ j from to. children-below c (slice_index image) u g.below.0 f inner j (omega arith)) g.below.1) (rw high refl) (omega arith) in
    let zeros : found + 0 ≡ found = omega arith in
    subst (λ s. IsOnWay c image s (set seen u.slot true) found (met + 1)) (sym stack) (subst (λ n. IsOnWay c image next (set seen u.slot true) n (met + 1)) zeros goes)
  where
    v : View
    v = view_in c (slice_index image)

    r : ℕ → Pairs
    r = records_in c (image_of (slice_index image))

    next : List Visit
    next = kids v u (u.level - 1) 0 (v.count u.slot) ++ us

    high : (u.level == 0) ≡ false
    high = no u.level 0 (omega arith)

pub reads-children : (c : Config) (image : List ℕ) (u : Visit) (words : List ℕ) → IsScanned c image → u.slot < c.nodes → IsNodeOf c image u.slot words → length words ≡ NODE_WORDS →
    (view_in c (slice_index image)).fault u.slot u.level u.low u.high ≡ None → 0 < u.level → ReadsAsChildren words
reads-children c image u words s less is size f inner =
    whole_inners_are_readable c.nodes (node c (slice_index image) u.slot) words u.level u.low u.high (omega (arith, s.config.nodes_in_range.at_most)) inner size
    ((λ t. node_fault c.nodes (node c (slice_index image) u.slot) (is t) u.level u.low u.high) ∙ node-none c (slice_index image) u less f)
