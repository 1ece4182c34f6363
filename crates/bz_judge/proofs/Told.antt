-- What an image tells of its configuration, and that nothing else of it matters.
use Rattle.std.proofs.Common.{◌≡◌, ℕ, ◌+◌, ◌-◌, ◌==◌, ◌&&◌, if◌then◌else◌, Bool, true, false, List, arith, refl, sym, ap, ◌∙◌}
use Rattle.std.specs.Prelude.{Some, None, slice_index}
use Rattle.std.proofs.lemmas.Bool.Decides.{nat_tests}
use Rattle.bz_layout.specs.Addresses.{words_of}
use Rattle.bz_layout.specs.Config.{IsConfig}
use Rattle.bz_layout.specs.declared.config.Config.{Config}
use Rattle.bz_layout.specs.declared.limits.TheConstants.{MIN_CALLS, MIN_MARKS, MIN_PAGES, MIN_WORKERS}
use Rattle.bz_layout.specs.declared.sizes.TheConstants.{SUPERBLOCK_WORDS, SUPERBLOCK_USED, FORMAT_AT, NODES_AT, SWAPS_AT, FORMAT}
use Rattle.bz_slotted.specs.Tests.{every}
use Rattle.bz_tree.specs.Walk.{fault_of}
use Rattle.bz_tree.specs.declared.rule.ShapeRule.TheVariants.{Super}
use Rattle.bz_content.specs.Content.{image_fault, is_super, or_word, view_in, leaf_end_in}
use Rattle.bz_content.specs.Image.{node}
use Rattle.bz_content.specs.Lawful.{is_lawful, first_unlawful}
use Rattle.bz_slotted.specs.Page.{Page}
use Rattle.bz_slotted.specs.Records.{live_words}
use Rattle.bz_judge.specs.Held.{IsImageOf, pairs_held}
use Rattle.bz_judge.specs.Leaves.{leaf_held, IsLeafState}
use Rattle.bz_judge.specs.declared.leaf.LeafState.{LeafState}
use Rattle.bz_judge.proofs.Scanned.{Both, both}

super : (c : Config) (raw : ℕ → ℕ) → image_fault c raw ≡ None → is_super c raw ≡ true
unfolding image_fault
super c raw none = go (is_super c raw) refl none
  where
    go : (b : Bool) → is_super c raw ≡ b → (if b then or_word (first_unlawful c raw 0 (words_of c)) (fault_of (view_in c raw)) else Some (record { rule = Super; place = 0 })) ≡ None → is_super c raw ≡ true
    go true t e = t
    go false t e = absurd (cc)

-- the two numbers of a configuration that an image tells
pub record Tells (c : Config) (raw : ℕ → ℕ) : Type 0 where
  pub nodes : raw NODES_AT ≡ c.nodes
  pub swaps : raw SWAPS_AT ≡ c.swaps

same-number : (a b : ℕ) → (a == b) ≡ true → a ≡ b
same-number a b t = grind (arith, nat_tests)

pub tells : (c : Config) (raw : ℕ → ℕ) → image_fault c raw ≡ None → Tells c raw
unfolding is_super
tells c raw none = record { nodes = same-number _ _ nodes.first; swaps = same-number _ _ swaps.first }
  where
    whole : Both (raw FORMAT_AT == FORMAT) (raw NODES_AT == c.nodes && (raw SWAPS_AT == c.swaps && every (SUPERBLOCK_WORDS - SUPERBLOCK_USED) (λ i. raw (SUPERBLOCK_USED + i) == 0)))
    whole = both _ _ (super c raw none)

    nodes : Both (raw NODES_AT == c.nodes) (raw SWAPS_AT == c.swaps && every (SUPERBLOCK_WORDS - SUPERBLOCK_USED) (λ i. raw (SUPERBLOCK_USED + i) == 0))
    nodes = both _ _ whole.second

    swaps : Both (raw SWAPS_AT == c.swaps) (every (SUPERBLOCK_WORDS - SUPERBLOCK_USED) (λ i. raw (SUPERBLOCK_USED + i) == 0))
    swaps = both _ _ nodes.second

-- a configuration with these two numbers and the least of the others
pub least-config : (c : Config) (n s : ℕ) → IsConfig c → n ≡ c.nodes → s ≡ c.swaps → IsConfig (record { nodes = n; swaps = s; workers = MIN_WORKERS; marks = MIN_MARKS; calls = MIN_CALLS; pages = MIN_PAGES })
least-config c n s h nodes swaps = record {
  nodes_in_range = record { at_least = omega (arith, h.nodes_in_range.at_least); at_most = omega (arith, h.nodes_in_range.at_most) };
  swaps_in_range = record { at_least = omega (arith, h.swaps_in_range.at_least); at_most = omega (arith, h.swaps_in_range.at_most) };
  workers_in_range = record { at_least = omega arith; at_most = omega arith };
  marks_in_range = record { at_least = omega arith; at_most = omega arith };
  calls_in_range = record { at_least = omega arith; at_most = omega arith };
  pages_in_range = record { at_least = omega arith; at_most = omega arith };
}

-- a configuration with the two numbers of another
abbrev renumbered : Config → Config → Config
renumbered c d = record { nodes = d.nodes; swaps = d.swaps; workers = c.workers; marks = c.marks; calls = c.calls; pages = c.pages }

is-renumbered : (c d : Config) → c.nodes ≡ d.nodes → c.swaps ≡ d.swaps → c ≡ renumbered c d
is-renumbered c d nodes swaps = λ t. record { nodes = nodes t; swaps = swaps t; workers = c.workers; marks = c.marks; calls = c.calls; pages = c.pages }

fault-alike : (c d : Config) (raw : ℕ → ℕ) → image_fault (renumbered c d) raw ≡ image_fault d raw
unfolding image_fault is_super first_unlawful is_lawful node
fault-alike c d raw = refl

held-alike : (c d : Config) (raw : ℕ → ℕ) → pairs_held (renumbered c d) raw ≡ pairs_held d raw
unfolding node
held-alike c d raw = refl

pub same-image : (c d : Config) (image : List ℕ) → IsImageOf c image → IsConfig d → c.nodes ≡ d.nodes → c.swaps ≡ d.swaps → IsImageOf d image
same-image c d image h config nodes swaps = record {
  config = config;
  size = h.size ∙ ap words_of (is-renumbered c d nodes swaps);
  none = sym (fault-alike c d (slice_index image)) ∙ sym (ap (λ x. image_fault x (slice_index image)) (is-renumbered c d nodes swaps)) ∙ h.none;
}

pub same-held : (c d : Config) (raw : ℕ → ℕ) → c.nodes ≡ d.nodes → c.swaps ≡ d.swaps → pairs_held d raw ≡ pairs_held c raw
same-held c d raw nodes swaps = sym (held-alike c d raw) ∙ sym (ap (λ x. pairs_held x raw) (is-renumbered c d nodes swaps))

end-alike : (c d : Config) (raw : ℕ → ℕ) (key : List ℕ) → leaf_end_in (renumbered c d) raw key ≡ leaf_end_in d raw key
unfolding node
end-alike c d raw key = refl

pub same-end : (c d : Config) (raw : ℕ → ℕ) (key : List ℕ) → c.nodes ≡ d.nodes → c.swaps ≡ d.swaps → leaf_end_in d raw key ≡ leaf_end_in c raw key
same-end c d raw key nodes swaps = sym (end-alike c d raw key) ∙ sym (ap (λ x. leaf_end_in x raw key) (is-renumbered c d nodes swaps))

leaf-alike : (c d : Config) (raw : ℕ → ℕ) (key : List ℕ) → leaf_held (renumbered c d) raw key ≡ leaf_held d raw key
unfolding node
leaf-alike c d raw key = refl

same-leaf : (c d : Config) (raw : ℕ → ℕ) (key : List ℕ) → c.nodes ≡ d.nodes → c.swaps ≡ d.swaps → leaf_held d raw key ≡ leaf_held c raw key
same-leaf c d raw key nodes swaps = sym (leaf-alike c d raw key) ∙ sym (ap (λ x. leaf_held x raw key) (is-renumbered c d nodes swaps))

pub same-state : (c d : Config) (raw : ℕ → ℕ) (key : List ℕ) (s : LeafState) → c.nodes ≡ d.nodes → c.swaps ≡ d.swaps → IsLeafState d raw key s → IsLeafState c raw key s
same-state c d raw key s nodes swaps h = record {
  frozen = h.frozen ∙ ap (λ (p : Page). p.frozen) (same-leaf c d raw key nodes swaps);
  live = h.live ∙ ap (λ (p : Page). live_words p) (same-leaf c d raw key nodes swaps);
}
