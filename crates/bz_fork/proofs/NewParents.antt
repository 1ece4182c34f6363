-- The new parent is made of what was read of the old one.
use Rattle.std.proofs.Common.{◌≡◌, ℕ, ◌+◌, ◌<◌, ◌≤◌, List, length, map, arith, sym, ap, subst, ◌∙◌, Option}
use Rattle.std.specs.Prelude.{Some, None, IfSome, IsSome, ◌↔◌}
use Rattle.bz_key.specs.Packing.{packed}
use Rattle.bz_layout.specs.declared.sizes.TheConstants.{SHARED_WORDS}
use Rattle.bz_node.specs.Layout.{needed}
use Rattle.bz_node.specs.Reading.{children_in, child_in, count_in, HasHighFence, high_in}
use Rattle.bz_node.specs.Records.{child_entry}
use Rattle.bz_node.specs.declared.child.Child.{Child}
use Rattle.bz_node.specs.declared.image.NodeImage.{NodeImage}
use Rattle.bz_slotted.specs.ReadingLaws.{node_of, HighFencesAreRead}
use Rattle.bz_slotted.specs.Rules.{node_fault}
use Rattle.bz_halves.specs.Parents.{parted, parted_words, MayPart, ChildrenMayBeParted}
use Rattle.bz_halves.proofs.PartedChildren.{children-count, child-read}
use Rattle.bz_branch.specs.FromBelow.Facts.{HasRoom, HasParent, IsNewParent}
use Rattle.bz_branch.specs.FromBelow.Parents.{IsParentOf}

-- what the code reads of a node, where it breaks no rule at a level between bounds
pub record FrontIs (read : List ℕ) (level : ℕ) (low high : Option (List ℕ)) : Type 0 where
  pub level_is : (nodes : ℕ) (raw : ℕ → ℕ) (l : ℕ) (lo hi : Option (List ℕ)) → node_fault nodes raw (node_of read) l lo hi ≡ None → level ≡ l
  pub low_is : (nodes : ℕ) (raw : ℕ → ℕ) (l : ℕ) (lo hi : Option (List ℕ)) → node_fault nodes raw (node_of read) l lo hi ≡ None → low ≡ lo
  pub high_is : high ≡ high_in read

module _ (ends : HighFencesAreRead) (nodes slot : ℕ) (sep read : List ℕ) where
  pub high-fence : HasParent nodes slot sep read → HasHighFence read
  high-fence h = (ends nodes h.is.raw read h.level h.low h.high h.is.size h.is.none).readable

  -- the child is there
  child-within : (level i : ℕ) (low high : Option (List ℕ)) → IsParentOf nodes slot sep read level i low high → i < count_in read
  child-within level i low high a = omega (arith, a.partable.may.within, children-count read)

  pub never-none : HasParent nodes slot sep read → ((j : ℕ) → j < count_in read → (child_in read j).slot ≡ slot → ⊥) → ⊥
  never-none h none =
      let l : h.child < count_in read = child-within h.level h.child h.low h.high h.is in
      none h.child l (ap (λ (z : Child). z.slot) (sym (child-read read h.child l)) ∙ h.is.there)

  module _ (place : ℕ) (within : place < count_in read) (at : (child_in read place).slot ≡ slot) (low high : Option (List ℕ)) (level : ℕ) (front : FrontIs read level low high) where
    place-is : (l i : ℕ) (lo hi : Option (List ℕ)) → IsParentOf nodes slot sep read l i lo hi → place ≡ i
    place-is l i lo hi a = a.only place (omega (arith, within, children-count read)) (ap (λ (z : Child). z.slot) (child-read read place within) ∙ at)

    low-is : (l i : ℕ) (lo hi : Option (List ℕ)) → IsParentOf nodes slot sep read l i lo hi → low ≡ lo
    low-is l i lo hi a = front.low_is nodes a.raw l lo hi a.none

    high-is : (l i : ℕ) (lo hi : Option (List ℕ)) → IsParentOf nodes slot sep read l i lo hi → high ≡ hi
    high-is l i lo hi a = front.high_is ∙ (ends nodes a.raw read l lo hi a.size a.none).high

    pub level-is : (l i : ℕ) (lo hi : Option (List ℕ)) → IsParentOf nodes slot sep read l i lo hi → level ≡ l
    level-is l i lo hi a = front.level_is nodes a.raw l lo hi a.none

    pub may-part : HasParent nodes slot sep read → MayPart (children_in read) low high place sep
    may-part h =
        subst (λ z. MayPart (children_in read) z high place sep) (sym (low-is h.level h.child h.low h.high h.is)) (subst (λ z. MayPart (children_in read) h.low z place sep) (sym (high-is h.level h.child h.low h.high h.is))
        (subst (λ z. MayPart (children_in read) h.low h.high z sep) (sym (place-is h.level h.child h.low h.high h.is)) h.is.partable.may))

    pub new-parent : (left right : ℕ) (image : List ℕ) → image ≡ parted_words (children_in read) place left right sep low high level → IsNewParent nodes slot left right sep read image
    new-parent left right image e l i lo hi a =
        e ∙ (λ t. parted_words (children_in read) (place-is l i lo hi a t) left right sep (low-is l i lo hi a t) (high-is l i lo hi a t) (level-is l i lo hi a t))

    pub room-is : ChildrenMayBeParted → HasParent nodes slot sep read → (left right : ℕ) (made : Option NodeImage) → IsSome made ↔ (needed (map child_entry (parted (children_in read) place left right sep)) ≤ SHARED_WORDS) → IsSome made ↔ HasRoom read sep
    room-is parts h left right made fits =
        let w : needed (map child_entry (parted (children_in read) place left right sep)) ≡ needed (map child_entry (children_in read)) + 2 + length (packed sep) = (parts (children_in read) low high place left right sep (may-part h)).words in
        (λ e. omega (arith, fits.0 e, w), λ l. fits.1 (omega (arith, l, w)))

-- whatever the memory has for sizes
pub new-parents : HighFencesAreRead → (slot : ℕ) (sep read : List ℕ) (place : ℕ) → place < count_in read → (child_in read place).slot ≡ slot → (low high : Option (List ℕ)) (level : ℕ) → FrontIs read level low high → (left right : ℕ) (made : Option NodeImage)
    → IfSome made (λ image. image.0 ≡ parted_words (children_in read) place left right sep low high level) → IfSome made (λ image. (nodes : ℕ) → IsNewParent nodes slot left right sep read image.0)
new-parents ends slot sep read place within at low high level front left right None h = h
new-parents ends slot sep read place within at low high level front left right (Some image) h = λ nodes. new-parent ends nodes slot sep read place within at low high level front left right image.0 h
