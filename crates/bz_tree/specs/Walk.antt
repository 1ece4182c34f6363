-- The walk over a tree and the first fault on it: from the superblock down, a slot before its children, and
-- each child with all that is below it before the next one. The walk looks at no fault; in a broken tree what
-- it comes to below a broken slot means nothing, and is behind the first fault.
use Rattle.std.specs.Prelude.{◌≡◌, ℕ, zero, suc, ◌+◌, ◌<◌, ◌==◌, ◌||◌, if◌then◌else◌, Bool, false, List, [], ◌∷◌, ◌++◌, Option, Some, None}
use Rattle.bz_tree.specs.declared.rule.ShapeRule.{ShapeRule}
use Rattle.bz_tree.specs.declared.rule.ShapeRule.TheVariants.{Twice}
use Rattle.bz_tree.specs.declared.rule.ShapeFault.{ShapeFault}
use Rattle.bz_tree.specs.View.{View, low_at, high_at}
use Rattle.bz_tree.specs.Form.{Form, IsHonest}

-- a slot as the walk comes to it: its level, its bounds, its parent and its place there
pub record Visit : Type 0 where
  pub slot : ℕ
  pub level : ℕ
  pub low : Option (List ℕ)
  pub high : Option (List ℕ)
  pub up : ℕ
  pub index : ℕ

-- child i of a visited slot, at this level
abbrev pub kid : View → Visit → ℕ → ℕ → Visit
kid v u l i =
    record { slot = v.child u.slot i; level = l; low = low_at v u.slot u.low i; high = high_at v u.slot u.high i; up = u.slot; index = i }

-- so many children from child i on
unfoldable pub kids : View → Visit → ℕ → ℕ → ℕ → List Visit
kids v u l i zero = []
kids v u l i (suc n) = kid v u l i ∷ kids v u l (i + 1) n

-- the lists that a function makes of each visit, joined
unfoldable pub over : (Visit → List Visit) → List Visit → List Visit
over g [] = []
over g (x ∷ xs) = g x ++ over g xs

-- the walk over a slot at this level and all that is below it
unfoldable pub visits : View → ℕ → Visit → List Visit
visits v zero u = u ∷ []
visits v (suc l) u = u ∷ over (visits v l) (kids v u l 0 (v.count u.slot))

-- the visit to the superblock
abbrev pub start : View → Visit
start v = record { slot = v.top; level = v.height; low = None; high = None; up = v.top; index = 0 }

-- the walk over the whole tree
abbrev pub walk : View → List Visit
walk v = visits v v.height (start v)

-- a slot is one of these
abbrev pub is_among : List ℕ → ℕ → Bool
is_among [] k = false
is_among (s ∷ slots) k = (s == k) || is_among slots k

-- the place that is told of a fault: 0 for the superblock, and otherwise the slot
abbrev pub place_of : View → ℕ → ℕ
place_of v k = if k == v.top then 0 else k

-- a rule that is broken at a place, or else a later fault
abbrev pub or_rule : Option ShapeRule → ℕ → Option ShapeFault → Option ShapeFault
or_rule (Some rule) place rest = Some (record { rule = rule; place = place })
or_rule None place rest = rest

-- the first fault along a walk, where these slots were seen before
unfoldable pub first_fault : View → List ℕ → List Visit → Option ShapeFault
first_fault v seen [] = None
first_fault v seen (u ∷ us) =
    if is_among seen u.slot then Some (record { rule = Twice; place = place_of v u.slot })
    else or_rule (v.fault u.slot u.level u.low u.high) (place_of v u.slot) (first_fault v (u.slot ∷ seen) us)

-- the first fault of the tree
abbrev pub fault_of : View → Option ShapeFault
fault_of v = first_fault v [] (walk v)

-- an image is a tree: there is no fault in it, one root and at least one level. That its rules see to what
-- they must is a matter of the rules alone.
pub record IsTree (v : View) : Type 0 where
  pub honest : IsHonest v
  pub one : v.count v.top ≡ 1
  pub tall : 0 < v.height
  pub none : fault_of v ≡ None

-- the walk comes to the slot
abbrev pub comes_to : List Visit → ℕ → Bool
comes_to [] k = false
comes_to (u ∷ us) k = (u.slot == k) || comes_to us k

-- no slot comes twice
abbrev pub ComesOnce : List Visit → Type 0
ComesOnce [] = Unit {0}
ComesOnce (u ∷ us) = (comes_to us u.slot ≡ false) × ComesOnce us

-- the first visit to a slot; to a slot that the walk does not come to, some visit
abbrev pub visit_to : List Visit → ℕ → Visit
visit_to [] k = record { slot = k; level = 0; low = None; high = None; up = k; index = 0 }
visit_to (u ∷ us) k = if u.slot == k then u else visit_to us k

-- the form that a walk shows
abbrev pub form_of : List Visit → Form
form_of us =
    record {
      inside = comes_to us;
      level = λ k. (visit_to us k).level;
      low = λ k. (visit_to us k).low;
      high = λ k. (visit_to us k).high;
      up = λ k. (visit_to us k).up;
      index = λ k. (visit_to us k).index;
    }

-- the form of a tree
abbrev pub form : View → Form
form v = form_of (walk v)
