-- The memory at a moment, as tasks see it.
use Rattle.std.specs.Prelude.{◌≡◌, ℕ, Bool, true}
use Rattle.bz_layout.specs.declared.config.Config.{Config}
use Rattle.bz_tree.specs.Form.{Form}
use Rattle.bz_tree.specs.Walk.{form}
use Rattle.bz_content.specs.FromSlotted.Page.{Page, page}
use Rattle.bz_content.specs.Content.{view_in}
use Rattle.bz_content.specs.Image.{node}
use Rattle.bz_content.specs.Resolving.{resolve}

pub record Instant : Type 0 where
  -- the durable words: the image that a power cut would leave
  pub image : ℕ → ℕ
  -- what a read of each address outside the descriptors answers
  pub value : ℕ → ℕ
  -- no private store stands unflushed at the address
  pub settled : ℕ → Bool
  -- the slots to which a link has led since power on
  pub reached : ℕ → Bool
  -- how many swaps took effect since power on
  pub effects : ℕ

-- what reads answer of an address is durable, and it is settled
pub record IsDurableAt (x : Instant) (a : ℕ) : Type 0 where
  pub image : x.image a ≡ x.value a
  pub settled : x.settled a ≡ true

-- the words of a slot as reads answer them, and as the image has them
abbrev pub words : Config → Instant → ℕ → ℕ → ℕ
words c x k = node c x.value k

abbrev pub durable : Config → Instant → ℕ → ℕ → ℕ
durable c x k = node c (resolve x.image) k

-- a slot as a slotted page
abbrev pub page_at : Config → Instant → ℕ → Page
page_at c x k = page (words c x k)

-- where each slot stands in the tree that the image is
abbrev pub form_at : Config → Instant → Form
form_at c x = form (view_in c x.image)

-- the slot is one of that tree; the superblock is the slot after the last one
abbrev pub is_inside : Config → Instant → ℕ → Bool
is_inside c x k = (form_at c x).inside k
