-- What is made, where something is made, reads as what it was made of.
use Rattle.std.specs.Prelude.{◌≡◌, ◌↔◌, ℕ, ◌<◌, ◌≤◌, ◌^◌, List, map, All, Option, Some, None, IsSome, IfSome}
use Rattle.std.proofs.Common.{refl}
use Rattle.bz_layout.specs.declared.sizes.TheConstants.{SHARED_WORDS}
use Rattle.bz_node.specs.declared.child.Child.{Child}
use Rattle.bz_node.specs.declared.image.NodeImage.{NodeImage}
use Rattle.bz_node.specs.Layout.{needed}
use Rattle.bz_node.specs.Records.{IsPair, IsBound, IsChild, pair_entry, child_entry, leaf_words, inner_words, IsLeafList}
use Rattle.bz_node.specs.Laws.{ReadsAsLeaf, ReadsAsInner}
use Rattle.bz_node.proofs.MadeLeaves.{leaf_read}
use Rattle.bz_node.proofs.MadeInners.{inner_read}

pub leaf_reads : (records : List (List ℕ × List ℕ)) (low high : Option (List ℕ)) (made : Option NodeImage) → IsLeafList records low high → (IsSome made ↔ (needed (map pair_entry records) ≤ SHARED_WORDS)) →
    IfSome made (λ image. image.0 ≡ leaf_words records low high) → IfSome made (λ _. All IsPair records × IsBound low × IsBound high) → IfSome made (λ image. ReadsAsLeaf image.0 records low high)
leaf_reads records low high None list fits words valid = tt
leaf_reads records low high (Some image) list fits words valid = rw words (leaf_read records low high valid.0 valid.1 valid.2 list (fits.0 refl))

pub inner_reads : (children : List Child) (low high : Option (List ℕ)) (level : ℕ) (made : Option NodeImage) → level < 2 ^ 8 → (IsSome made ↔ (needed (map child_entry children) ≤ SHARED_WORDS)) →
    IfSome made (λ image. image.0 ≡ inner_words children low high level) → IfSome made (λ _. All IsChild children × IsBound low × IsBound high) → IfSome made (λ image. ReadsAsInner image.0 children low high level)
inner_reads children low high level None small fits words valid = tt
inner_reads children low high level (Some image) small fits words valid = rw words (inner_read children low high level valid.0 valid.1 valid.2 small (fits.0 refl))
