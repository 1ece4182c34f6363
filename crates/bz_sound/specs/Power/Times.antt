-- The durable words when the power last came on. The newest mark stands first.
use Rattle.std.specs.Prelude.{ℕ, List, [], ◌∷◌, slice_index}
use Rattle.bz_mark.specs.declared.marks.Mark.{Mark}
use Rattle.bz_mark.specs.declared.marks.Mark.TheVariants.{On}
use Rattle.bz_sound.specs.Memory.Moments.{image_after}

-- the durable words at the last On, or at the start where there is none, as an image
abbrev pub image_at_on : List ℕ → List Mark → ℕ → ℕ
image_at_on start [] = slice_index start
image_at_on start (On ∷ past) = image_after start past
image_at_on start (mark ∷ past) = image_at_on start past
