-- How great a stage is, and how many nodes above a leaf are full.
use Rattle.std.proofs.Common.{◌≡◌, ℕ, zero, suc, ◌+◌, ◌<◌, List, arith, Option}
use Rattle.std.specs.Prelude.{None}
use Rattle.bz_layout.specs.declared.thresholds.TheConstants.{INNER_LIMIT, MAX_LEVELS}
use Rattle.bz_tree.proofs.TreeForms.{fits}
use Rattle.bz_tree.specs.Form.{Fits, Stands}
use Rattle.bz_slotted.specs.Rules.{node_fault}
use Rattle.bz_slotted.proofs.Proved.{inner_rules_are_facts, leaf_rules_are_facts}
use Rattle.bz_content.proofs.Honesty.{no}
use Rattle.bz_content.proofs.Reached.{root-stands, root-below}
use Rattle.bz_content.specs.Image.{node, root}
use Rattle.bz_content.specs.Swaps.{form_in}
use Rattle.bz_content.specs.View.{view_of}
use Rattle.bz_leaves.specs.Neighbours.{leaf_page}
use Rattle.bz_stage.proofs.Leaves.{less, not-less, stage-at-most}
use Rattle.bz_stage.proofs.Runs.{run-at-most, run-is}
use Rattle.bz_stage.specs.Laws.{FullNodesAreCounted, StagesAreBounded}
use Rattle.bz_stage.specs.Rooms.{words_taken, is_full}
use Rattle.bz_stage.specs.Stages.{page_on_path, root_level, full_above}

pub full-counted : FullNodesAreCounted
full-counted c x key full le all next =
    run-is (λ level. is_full (page_on_path c x key level)) (root_level c x) full le (λ i some i_le. less INNER_LIMIT (words_taken (page_on_path c x key i)) (all i some i_le))
    (λ lt. not-less INNER_LIMIT (words_taken (page_on_path c x key (full + 1))) (next lt))

-- a node that breaks no rule stands at a level that a tree may have
pub lowest : (nodes l : ℕ) (r n : ℕ → ℕ) (lo hi : Option (List ℕ)) → node_fault nodes r n l lo hi ≡ None → l < MAX_LEVELS
lowest nodes zero r n lo hi e = ((leaf_rules_are_facts nodes r n lo hi).0 e).level.lowest
lowest nodes (suc l) r n lo hi e = ((inner_rules_are_facts nodes r n (suc l) lo hi (omega arith)).0 e).level.lowest

pub stages-bounded : StagesAreBounded
stages-bounded c x key words t = record {
  stage = omega (arith, stage-at-most (leaf_page c x key) (full_above c x key) words, run-at-most (λ level. is_full (page_on_path c x key level)) 1 (root_level c x));
  levels = omega (arith, whole, st.level, g.height);
}
  where
    g : Fits (view_of c x) (form_in c x)
    g = fits (view_of c x) t

    st : Stands (view_of c x) (form_in c x) c.nodes 0 (root x.words)
    st = root-stands c x g

    whole : (form_in c x).level (root x.words) < MAX_LEVELS
    whole = lowest c.nodes ((form_in c x).level (root x.words)) (node c x.raw (root x.words)) (node c x.words (root x.words)) _ _
        (rw (no (root x.words) c.nodes (root-below c x g)) at (g.whole (root x.words) st.inside (root-below c x g)))
