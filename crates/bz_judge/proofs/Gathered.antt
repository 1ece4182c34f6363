-- The steps of the walk that gathers the pairs of a well-formed image, its start and its end.
use Rattle.std.proofs.Common.{◌≡◌, ℕ, ◌+◌, ◌-◌, ◌<◌, ◌==◌, if◌then◌else◌, true, List, [], ◌∷◌, ◌++◌, length, arith, refl, sym, ap, subst, ◌∙◌, append_assoc, append-nil}
use Rattle.std.specs.Prelude.{None, slice_index}
use Rattle.bz_content.specs.Content.{image_of, view_in}
use Rattle.bz_content.specs.Image.{node}
use Rattle.bz_content.specs.Map.{records_in}
use Rattle.bz_content.proofs.Honesty.{no}
use Rattle.bz_content.proofs.Proved.{well_formed_images_have_no_fault}
use Rattle.bz_layout.specs.declared.config.Config.{Config}
use Rattle.bz_layout.specs.declared.sizes.TheConstants.{NODE_WORDS}
use Rattle.bz_node.specs.Reading.{pairs_in}
use Rattle.bz_tree.specs.Content.{Pairs, pairs_of}
use Rattle.bz_tree.specs.Stack.{pending}
use Rattle.bz_tree.specs.View.{View}
use Rattle.bz_tree.specs.Walk.{Visit, kids, visits, start, walk, fault_of}
use Rattle.bz_tree.proofs.CleanWalks.{clean}
use Rattle.bz_tree.proofs.Stacks.{pending-inner, pending-leaf}
use Rattle.bz_tree.proofs.Visits.{In, in_left, in_right, head}
use Rattle.bz_slotted.specs.Page.{page}
use Rattle.bz_slotted.specs.ReadingLaws.{node_of, ReadsAsPairs, ReadsAsChildren}
use Rattle.bz_slotted.specs.Records.{records}
use Rattle.bz_slotted.specs.Rules.{node_fault}
use Rattle.bz_slotted.proofs.Proved.{whole_leaves_are_readable}
use Rattle.bz_judge.specs.Held.{IsImageOf, pairs_held}
use Rattle.bz_judge.specs.Inside.Gathers.{in_order, Gathers, IsGathering, to_come}
use Rattle.bz_judge.specs.Inside.Nodes.{IsNodeOf, IsScanned}
use Rattle.bz_judge.specs.Inside.Stacks.{AreBelow}
use Rattle.bz_judge.specs.Inside.Walking.{IsRoot, Starts}
use Rattle.bz_judge.proofs.HeldPairs.{all-held}
use Rattle.bz_judge.proofs.Steps.{kids-below, children-below, node-none, reads-children}
use Rattle.bz_judge.proofs.Walks.{pairs-join}

top-there : (v : View) (u : Visit) (us : List Visit) → In u (pending v (u ∷ us))
unfolding pending
top-there v u us = in_left u (visits v u.level u) (pending v us) (head v u.level u)

-- the topmost visit is to a node that breaks no rule
top-clean : (v : View) (r : ℕ → Pairs) (u : Visit) (us : List Visit) (pairs : Pairs) → fault_of v ≡ None → Gathers v r (u ∷ us) pairs → v.fault u.slot u.level u.low u.high ≡ None
top-clean v r u us pairs none g = (clean v [] (walk v) none).fault u (subst (In u) (sym g.whole) (in_right u g.behind (pending v (u ∷ us)) (top-there v u us)))

passed : (v : View) (r : ℕ → Pairs) (u : Visit) (us ws : List Visit) (pairs more : Pairs) → Gathers v r (u ∷ us) pairs → pending v (u ∷ us) ≡ u ∷ pending v ws → AreBelow v.top ws →
    more ≡ (if u.level == 0 then in_order (r u.slot) else []) → Gathers v r ws (pairs ++ more)
passed v r u us ws pairs more g next below is = record {
  behind = g.behind ++ u ∷ [];
  whole = g.whole ∙ (ap (λ p. g.behind ++ p) next ∙ sym (append_assoc g.behind (u ∷ []) (pending v ws)));
  gathered = (λ t. g.gathered t ++ is t) ∙ sym (pairs-join (λ k. in_order (r k)) g.behind u);
  below = below;
}

pub scanned : (c : Config) (image : List ℕ) → IsImageOf c image → IsScanned c image
scanned c image h = record { config = h.config; size = h.size; lawful = ((well_formed_images_have_no_fault c (slice_index image)).0 h.none).lawful }

module _ (c : Config) (image : List ℕ) (u : Visit) (us : List Visit) (pairs : Pairs) (words : List ℕ) (whole : IsImageOf c image) (way : IsGathering c image (u ∷ us) pairs) (is : IsNodeOf c image u.slot words) (size : length words ≡ NODE_WORDS) where
  none : (view_in c (slice_index image)).fault u.slot u.level u.low u.high ≡ None
  none = top-clean (view_in c (slice_index image)) (records_in c (image_of (slice_index image))) u us pairs ((well_formed_images_have_no_fault c (slice_index image)).0 whole.none).tree.none way

  -- a leaf can be read
  pub reads-leaf : u.level ≡ 0 → ReadsAsPairs words
  reads-leaf leaf =
      whole_leaves_are_readable c.nodes (node c (slice_index image) u.slot) words u.low u.high size
      (subst (λ l. node_fault c.nodes (node c (slice_index image) u.slot) (node_of words) l u.low u.high ≡ None) leaf
      ((λ t. node_fault c.nodes (node c (slice_index image) u.slot) (is t) u.level u.low u.high) ∙ node-none c (slice_index image) u way.below.0 none))

  -- and its records are gathered
  pub leaf-passed : u.level ≡ 0 → (ws : List Visit) (all : Pairs) → ws ≡ us → all ≡ pairs ++ in_order (pairs_in words) → IsGathering c image ws all
  leaf-passed leaf ws all stack gathered =
      let more : in_order (pairs_in words) ≡ in_order (records_in c (image_of (slice_index image)) u.slot) = ap in_order ((reads-leaf leaf).pairs ∙ ap (λ n. records (page n)) is) in
      let here : (u.level == 0) ≡ true = ap (λ l. l == 0) leaf in
      subst (λ s. IsGathering c image s all) (sym stack) (subst (IsGathering c image us) (sym gathered)
      (passed (view_in c (slice_index image)) (records_in c (image_of (slice_index image))) u us us pairs (in_order (pairs_in words)) way (pending-leaf (view_in c (slice_index image)) u us leaf) way.below.1 (rw here more)))

  -- an inner node can be read
  pub reads-inner : 0 < u.level → ReadsAsChildren words
  reads-inner inner = reads-children c image u words (scanned c image whole) way.below.0 is size none inner

  -- and its children are to come
  pub inner-passed : 0 < u.level → (ws : List Visit) → ws ≡ kids (view_in c (slice_index image)) u (u.level - 1) 0 ((view_in c (slice_index image)).count u.slot) ++ us → IsGathering c image ws pairs
  inner-passed inner ws stack =
      let g : IsGathering c image (kids (view_in c (slice_index image)) u (u.level - 1) 0 ((view_in c (slice_index image)).count u.slot) ++ us) (pairs ++ []) =
      passed (view_in c (slice_index image)) (records_in c (image_of (slice_index image))) u us _ pairs [] way (pending-inner (view_in c (slice_index image)) (u.level - 1) u us (omega arith))
      (kids-below (view_in c (slice_index image)) u (u.level - 1) 0 ((view_in c (slice_index image)).count u.slot) c.nodes us (λ j from to. children-below c (slice_index image) u way.below.0 none inner j (omega arith)) way.below.1)
      (rw (no u.level 0 (omega arith)) refl) in
      subst (λ s. IsGathering c image s pairs) (sym stack) (subst (IsGathering c image _) (append-nil pairs) g)

-- one visit fewer is to come
pub leaf-further : (c : Config) (image : List ℕ) (u : Visit) (us : List Visit) → u.level ≡ 0 → (ws : List Visit) → ws ≡ us → to_come c image (u ∷ us) ≡ to_come c image ws + 1
leaf-further c image u us leaf ws stack = omega (arith, ap length (pending-leaf (view_in c (slice_index image)) u us leaf), ap (to_come c image) stack)

pub inner-further : (c : Config) (image : List ℕ) (u : Visit) (us : List Visit) → 0 < u.level → (ws : List Visit) → ws ≡ kids (view_in c (slice_index image)) u (u.level - 1) 0 ((view_in c (slice_index image)).count u.slot) ++ us →
    to_come c image (u ∷ us) ≡ to_come c image ws + 1
inner-further c image u us inner ws stack = omega (arith, ap length (pending-inner (view_in c (slice_index image)) (u.level - 1) u us (omega arith)), ap (to_come c image) stack)

at-root : (v : View) (r : ℕ → Pairs) (u : Visit) → Starts v u → Gathers v r (u ∷ []) []
unfolding pairs_of
at-root v r u s = record {
  behind = start v ∷ [];
  whole = s.walk;
  gathered = rw (no v.height 0 (omega (arith, s.level))) refl;
  below = (s.below, tt);
}

pub begun : (c : Config) (image : List ℕ) (u : Visit) (stack : List Visit) (pairs : Pairs) → IsRoot c image u → stack ≡ u ∷ [] → pairs ≡ [] → IsGathering c image stack pairs
begun c image u stack pairs s is none =
    subst (λ x. IsGathering c image x pairs) (sym is) (subst (IsGathering c image (u ∷ [])) (sym none) (at-root (view_in c (slice_index image)) (records_in c (image_of (slice_index image))) u s))

pub all-gathered : (c : Config) (image : List ℕ) (stack : List Visit) (pairs : Pairs) → IsImageOf c image → IsGathering c image stack pairs → stack ≡ [] → pairs ≡ pairs_held c (slice_index image)
unfolding pending
all-gathered c image stack pairs h g empty =
    g.gathered ∙ (ap (pairs_of (λ k. in_order (records_in c (image_of (slice_index image)) k))) (sym all) ∙ all-held c (slice_index image) ((well_formed_images_have_no_fault c (slice_index image)).0 h.none).tree)
  where
    nothing : (v : View) (s : List Visit) → s ≡ [] → pending v s ≡ []
    nothing v s e = ap (pending v) e

    all : walk (view_in c (slice_index image)) ≡ g.behind
    all = g.whole ∙ (ap (λ p. g.behind ++ p) (nothing (view_in c (slice_index image)) stack empty) ∙ append-nil g.behind)
