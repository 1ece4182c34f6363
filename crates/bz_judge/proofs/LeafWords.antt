-- The words of the leaf of a key say how it stands.
use Rattle.std.proofs.Common.{◌≡◌, ℕ, List, length, ap, ◌∙◌}
use Rattle.std.specs.Prelude.{slice_index}
use Rattle.bz_content.specs.Image.{node}
use Rattle.bz_content.specs.Resolving.{resolve}
use Rattle.bz_layout.specs.declared.config.Config.{Config}
use Rattle.bz_layout.specs.declared.sizes.TheConstants.{NODE_WORDS}
use Rattle.bz_node.specs.Reading.{live_in}
use Rattle.bz_slotted.specs.Page.{page}
use Rattle.bz_slotted.specs.ReadingLaws.{node_of, ReadsAsPairs}
use Rattle.bz_slotted.specs.Readers.{live_of}
use Rattle.bz_slotted.specs.Records.{live_words}
use Rattle.bz_slotted.specs.Rules.{node_fault}
use Rattle.bz_slotted.proofs.Proved.{whole_leaves_are_readable}
use Rattle.bz_tree.specs.Walk.{Visit}
use Rattle.bz_judge.specs.Inside.Leaves.{IsLeafVisit}
use Rattle.bz_judge.specs.Inside.Nodes.{IsNodeOf}
use Rattle.bz_judge.specs.Leaves.{leaf_held}

pub leaf-reads : (c : Config) (image key : List ℕ) (u : Visit) (words : List ℕ) → IsLeafVisit c image key u → IsNodeOf c image u.slot words → length words ≡ NODE_WORDS → ReadsAsPairs words
leaf-reads c image key u words v is size =
    whole_leaves_are_readable c.nodes (node c (slice_index image) u.slot) words v.low u.high size ((λ t. node_fault c.nodes (node c (slice_index image) u.slot) (is t) 0 v.low u.high) ∙ v.none)

-- the words are those of the leaf
leaf-words : (c : Config) (image key : List ℕ) (u : Visit) (words : List ℕ) → IsLeafVisit c image key u → IsNodeOf c image u.slot words → page (node_of words) ≡ leaf_held c (slice_index image) key
leaf-words c image key u words v is = ap (λ (n : ℕ → ℕ). page n) is ∙ ap (λ (k : ℕ). page (node c (resolve (slice_index image)) k)) v.leaf

pub leaf-frozen : (c : Config) (image key : List ℕ) (u : Visit) (words : List ℕ) → IsLeafVisit c image key u → IsNodeOf c image u.slot words → (page (node_of words)).frozen ≡ (leaf_held c (slice_index image) key).frozen
leaf-frozen c image key u words v is = λ t. (leaf-words c image key u words v is t).frozen

live-page : (n : ℕ → ℕ) → live_of n ≡ live_words (page n)
unfolding live_of
live-page n = λ t. live_words (page n)

pub leaf-live : (c : Config) (image key : List ℕ) (u : Visit) (words : List ℕ) → IsLeafVisit c image key u → IsNodeOf c image u.slot words → length words ≡ NODE_WORDS → live_in words ≡ live_words (leaf_held c (slice_index image) key)
leaf-live c image key u words v is size = (leaf-reads c image key u words v is size).live ∙ live-page (node_of words) ∙ (λ t. live_words (leaf-words c image key u words v is t))
