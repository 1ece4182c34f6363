-- Worked asks and fences of one private word, which begins as 0 in a memory of zeros.
use Rattle.std.specs.Prelude.{◌≡◌, ℕ, ◌==◌, List, [], ◌∷◌}
use Rattle.bz_word.specs.declared.kind.WordKind.{WordKind}
use Rattle.bz_word.specs.declared.kind.WordKind.TheVariants.{Value}
use Rattle.bz_swap_machine.specs.Machine.{Memory}
use Rattle.bz_swap_machine.specs.Changes.{with_word, with_copies, line_of, with_ask, fenced, after_cut}
use Rattle.bz_swap_machine.specs.Examples.{zeros}

-- what is done to word 0
pub data Deed : Type 0 where
  Stores : (v : ℕ) → Deed
  Asks : (w : ℕ) → Deed
  Fences : (w : ℕ) → Deed
  Evicts : Deed
  Cuts : Deed

abbrev pub done : Memory → Deed → Memory
done m (Stores v) = with_word m 0 (Value v)
done m (Asks w) = with_ask m w (line_of 0)
done m (Fences w) = fenced m w
done m Evicts = with_copies m (λ a. a == 0)
done m Cuts = after_cut m

abbrev pub after_deeds : Memory → List Deed → Memory
after_deeds m [] = m
after_deeds m (deed ∷ deeds) = after_deeds (done m deed) deeds

-- the durable word after these
abbrev pub durable_after : List Deed → WordKind
durable_after deeds = (after_deeds zeros deeds).durable 0

pub record AsksAreKept : Type 0 where
  -- an ask saves what is cached then, and makes nothing durable
  pub saves : durable_after (Stores 5 ∷ Asks 1 ∷ Stores 6 ∷ Fences 1 ∷ []) ≡ Value 5
  pub alone : durable_after (Stores 5 ∷ Asks 1 ∷ []) ≡ Value 0
  -- a fence is its own worker's, and goes behind no eviction
  pub own : durable_after (Stores 5 ∷ Asks 1 ∷ Fences 2 ∷ []) ≡ Value 0
  pub evicted : durable_after (Stores 5 ∷ Asks 1 ∷ Stores 6 ∷ Evicts ∷ Fences 1 ∷ []) ≡ Value 6
  pub before : durable_after (Stores 5 ∷ Evicts ∷ Stores 6 ∷ Asks 1 ∷ Fences 1 ∷ []) ≡ Value 6
  -- the last ask of a worker counts; of two workers' the later one does, whoever fences first
  pub again : durable_after (Stores 5 ∷ Asks 1 ∷ Stores 6 ∷ Asks 1 ∷ Stores 7 ∷ Fences 1 ∷ []) ≡ Value 6
  pub later : durable_after (Stores 5 ∷ Asks 1 ∷ Stores 6 ∷ Asks 2 ∷ Fences 2 ∷ Fences 1 ∷ []) ≡ Value 6
  pub earlier : durable_after (Stores 5 ∷ Asks 1 ∷ Stores 6 ∷ Asks 2 ∷ Fences 1 ∷ []) ≡ Value 5
  -- a cut forgets what was asked for, and an ask after it is as good as any
  pub cut : durable_after (Stores 5 ∷ Asks 1 ∷ Cuts ∷ Fences 1 ∷ []) ≡ Value 0
  pub anew : durable_after (Stores 5 ∷ Evicts ∷ Cuts ∷ Stores 6 ∷ Asks 1 ∷ Fences 1 ∷ []) ≡ Value 6
