-- The views of passes, and how steps change them.
use Rattle.std.specs.Prelude.{◌≡◌, ℕ, ◌-◌, List, [], ◌∷◌, true, false, Option, Some, None, slice_set, replicate}
use mathlib.Core.Option.{some}
use lib.ListN.{get_elem?}
use Rattle.bz_bus.specs.declared.TheConstants.{PASSES}
use Rattle.bz_bus.specs.declared.rule.Stage.{Stage}
use Rattle.bz_bus.specs.declared.rule.Stage.TheVariants.{Idle, Opens, Waits, Holds, Joined, Spent}
use Rattle.bz_bus.specs.Entries.{longer}
use Rattle.bz_bus.specs.declared.rule.View.{View}

-- the ticket, if there is one
abbrev pub ticket_of : {E : Type 0} → Stage E → Option ℕ
ticket_of Idle = None
ticket_of Opens = Some 0
ticket_of (Waits t) = Some t
ticket_of (Holds t) = Some t
ticket_of (Joined g) = None
ticket_of Spent = None

module _ {E F : Type 0} where
  -- not joined yet
  abbrev pub IsLive : View E F → Type 0
  IsLive v = ¬ (v.stage ≡ Spent)

  -- the pass stands elsewhere, and knows what it knew
  abbrev pub staged : View E F → Stage E → View E F
  staged v st = record { stage = st; number = v.number; seen = v.seen; fixed = v.fixed; free = v.free }

  -- the pass stands elsewhere, and has seen the list
  abbrev pub saw : View E F → Stage E → List E → View E F
  saw v st xs = record { stage = st; number = v.number; seen = xs; fixed = v.fixed; free = v.free }

  -- the first pass, before the value is in the slot: each number but its own is free
  abbrev pub opener : F → List E → View E F
  opener f xs = record { stage = Opens; number = 0; seen = xs; fixed = Some f; free = false ∷ replicate (PASSES - 1) true }

  -- the first pass once the number n is out
  abbrev pub lent : ℕ → View E F → View E F
  lent n v = record { stage = v.stage; number = v.number; seen = v.seen; fixed = v.fixed; free = slice_set v.free n false }

  -- a new pass with the number n, which has seen as much
  abbrev pub newcomer : ℕ → View E F → View E F
  newcomer n v = record { stage = Idle; number = n; seen = v.seen; fixed = v.fixed; free = replicate PASSES false }

  -- the first pass once another is joined: it has seen the longer list, and the number is free. It keeps what it gained until it looks
  abbrev pub both : View E F → View E F → View E F
  both v w = record { stage = Joined record { number = w.number; theirs = w.seen; mine = v.seen; free = v.free }; number = v.number; seen = longer v.seen w.seen; fixed = v.fixed; free = slice_set v.free w.number true }

  abbrev pub spent : View E F
  spent = record { stage = Spent; number = 0; seen = []; fixed = None; free = [] }

module _ {V : Type 0} where
  abbrev pub At : List V → ℕ → V → Type 0
  At vs id v = get_elem? vs id ≡ some v

  -- of each view
  abbrev pub Each : List V → (V → Type 0) → Type 0
  Each vs P = (id : ℕ) (v : V) → At vs id v → P v

  -- of some view
  abbrev pub Has : List V → (V → Type 0) → Type 0
  Has vs P = (id : ℕ) × (v : V) × At vs id v × P v
