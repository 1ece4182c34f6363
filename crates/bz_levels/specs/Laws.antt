-- The laws of both swaps: slot by slot, and told of words.
use Rattle.std.specs.Prelude.{◌≢◌, ℕ, List, [], ◌∷◌}
use Rattle.bz_layout.specs.declared.config.Config.{Config}
use Rattle.bz_tree.specs.Form.{IsHonest}
use Rattle.bz_tree.specs.Outcomes.{Regrows}
use Rattle.bz_tree.specs.View.{View}
use Rattle.bz_tree.specs.Walk.{form, IsTree}
use Rattle.bz_content.specs.Image.{Image, root}
use Rattle.bz_content.specs.Swaps.{form_in}
use Rattle.bz_content.specs.View.{view_of}
use Rattle.bz_levels.specs.InnerMerge.{InnerMerge}
use Rattle.bz_levels.specs.Restructures.{JoinsInner, LowersRoot}
use Rattle.bz_levels.specs.RootLowering.{RootLowering}

-- a merge of two inner slots keeps the content
abbrev pub InnerMergesKeepTheContent : Type 0
InnerMergesKeepTheContent =
    (v w : View) (a b q c : ℕ) (sep : List ℕ) → IsTree v → IsHonest w → InnerMerge v w (form v) a b q c sep → q ≢ c →
    Regrows v w (a ∷ b ∷ (form v).up a ∷ []) (q ∷ c ∷ [])

-- a root with one child that gives way to it keeps the content
abbrev pub RootLoweringsKeepTheContent : Type 0
RootLoweringsKeepTheContent =
    (v w : View) (p c : ℕ) → IsTree v → IsHonest w → RootLowering v w (form v) p c → Regrows v w (p ∷ []) []

-- so it is where they are told of words
abbrev pub InnerJoinsKeepTheContent : Type 0
InnerJoinsKeepTheContent =
    (c : Config) (x y : Image) (a b q m : ℕ) (sep : List ℕ) → IsTree (view_of c x) → JoinsInner c x y a b q m sep →
    Regrows (view_of c x) (view_of c y) (a ∷ b ∷ (form_in c x).up a ∷ []) (q ∷ m ∷ [])

abbrev pub LoweredRootsKeepTheContent : Type 0
LoweredRootsKeepTheContent =
    (c : Config) (x y : Image) (to : ℕ) → IsTree (view_of c x) → LowersRoot c x y to → Regrows (view_of c x) (view_of c y) (root x.words ∷ []) []
