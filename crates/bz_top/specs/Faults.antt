-- The last line of a run that was not done.
use Rattle.std.specs.Prelude.{ℕ, List, [], ◌∷◌, ◌++◌, codes}
use Rattle.std.specs.Fmt.{decimal}
use Rattle.bz_image.specs.Texts.{fault_text as image_fault_text}
use Rattle.bz_image.specs.declared.fault.ImageFault.{ImageFault}
use Rattle.bz_script.specs.declared.fault.ScriptRule.{ScriptRule}
use Rattle.bz_script.specs.declared.fault.ScriptFault.TheVariants.{Rule}
use Rattle.bz_script.specs.Texts.{fault_text}
use Rattle.bz_tree.specs.declared.rule.ShapeFault.{ShapeFault}
use Rattle.bz_tree.specs.declared.rule.ShapeRule.{ShapeRule}
use Rattle.bz_tree.specs.declared.rule.ShapeRule.TheVariants.{Super, Word, Root, Twice, Level, Fence, Status, Record, Order, Key, Child}
use Rattle.bz_sched.specs.FromWorld.LimitKind.{LimitKind}
use Rattle.bz_sched.specs.FromWorld.LimitKind.TheVariants.{Marks, Calls, Pages}

-- a fault line ends with a line feed
abbrev pub fault_line : List ℕ → List ℕ
fault_line text = codes "fault: " ++ (text ++ (10 ∷ []))

-- the rule that a line of the script breaks, as `bz_script` words it
abbrev pub broken_text : ℕ → ScriptRule → List ℕ
broken_text line rule = fault_text (Rule line rule)

abbrev pub limit_text : LimitKind → List ℕ
limit_text Marks = codes "limit marks"
limit_text Calls = codes "limit calls"
limit_text Pages = codes "limit pages"

-- why bytes are no image, as `bz_image` words it
abbrev pub image_text : ImageFault → List ℕ
image_text fault = codes "image " ++ image_fault_text fault

-- the rules of shape, by name
abbrev pub shape_name : ShapeRule → List ℕ
shape_name Super = codes "super"
shape_name Word = codes "word"
shape_name Root = codes "root"
shape_name Twice = codes "twice"
shape_name Level = codes "level"
shape_name Fence = codes "fence"
shape_name Status = codes "status"
shape_name Record = codes "record"
shape_name Order = codes "order"
shape_name Key = codes "key"
shape_name Child = codes "child"

-- the rule of shape that an image breaks, and where
abbrev pub shape_text : ShapeFault → List ℕ
shape_text fault = codes "image shape " ++ (shape_name fault.rule ++ (codes " " ++ decimal fault.place))
