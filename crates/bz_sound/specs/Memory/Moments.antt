-- What a moment of a journal has: the image that the durable words are, and the map that they must decode to.
-- The newest mark stands first.
use Rattle.std.specs.Prelude.{◌≡◌, ℕ, List, [], ◌∷◌, None, slice_index}
use Rattle.std.specs.FinMap.{get}
use Rattle.bz_layout.specs.declared.config.Config.{Config}
use Rattle.bz_call.specs.Map.{Map}
use Rattle.bz_content.specs.Content.{image_fault, content_in}
use Rattle.bz_content.specs.Map.{map_in}
use Rattle.bz_mark.specs.Moments.{at_moment}
use Rattle.bz_mark.specs.WordsAfter.{words_after_marks}
use Rattle.bz_mark.specs.declared.marks.Mark.{Mark}
use Rattle.bz_mark.specs.declared.marks.Mark.TheVariants.{Load, Fence, Evict}
use Rattle.bz_sound.specs.Calls.{map_after}

-- the durable words after these marks, as an image: what a power cut would leave
abbrev pub image_after : List ℕ → List Mark → ℕ → ℕ
image_after start past = slice_index (words_after_marks start past).durable

-- the image at a moment
abbrev pub image_at : List ℕ → ℕ → List Mark → ℕ → ℕ
image_at start moment past = image_after start (at_moment moment past)

-- the map that the start image holds
abbrev pub map_at_start : Config → List ℕ → Map
map_at_start c start = map_in c (slice_index start)

-- an image is well formed, and holds for each key what the map has
pub record HoldsMap (c : Config) (image : ℕ → ℕ) (map : Map) : Type 0 where
  pub well_formed : image_fault c image ≡ None
  pub content : (key : List ℕ) → content_in c image key ≡ get map key

-- after these marks the durable words alone decode to the map: that of the start with the effects since
abbrev pub Decodes : Config → List ℕ → List Mark → Type 0
Decodes c start past = HoldsMap c (image_after start past) (map_after (map_at_start c start) past)

-- the newest mark is a load of this worker
abbrev pub IsAfterLoad : ℕ → List Mark → Type 0
IsAfterLoad w (Load v a value ∷ past) = v ≡ w
IsAfterLoad w past = ⊥

-- the newest mark is a fence or an eviction: no other mark makes a word durable
abbrev pub IsAfterFence : List Mark → Type 0
IsAfterFence (Fence w ∷ past) = Unit {0}
IsAfterFence (Evict a ∷ past) = Unit {0}
IsAfterFence past = ⊥

-- each mark, after the marks before it, has P
abbrev pub EachMark : (List Mark → Mark → Type 0) → List Mark → Type 0
EachMark P [] = Unit {0}
EachMark P (mark ∷ past) = P past mark × EachMark P past
