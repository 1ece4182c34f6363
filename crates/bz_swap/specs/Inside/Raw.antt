-- An act on a word as it is, in a recovery time.
use Rattle.std.specs.Prelude.{◌≡◌, ℕ}
use Rattle.bz_swap_machine.specs.declared.place.Place.{Place}
use Rattle.bz_swap_machine.specs.declared.place.Place.TheVariants as place
use Rattle.bz_swap_machine.specs.declared.done.Done.TheVariants.{Busy, Read, Stored, Flushed}
use Rattle.bz_swap_cells.specs.Store.{Store, HasRoom, store_words, store_state, with_state}
use Rattle.bz_swap_acts.specs.Rule.{FoundRightly, after_act}
use Rattle.bz_swap_acts.specs.declared.acted.Act.TheVariants.{Load, Store as StoreAct, Ask, Fence}
use Rattle.bz_swap_acts.specs.declared.acted.Acted.{Acted}

-- the act that was asked for, and its answer
abbrev pub IsAsked : Place → Acted → Type 0
IsAsked (place.LoadWord a) acted = (v : ℕ) × ((acted.act ≡ Load a v) × (acted.done ≡ Read v))
IsAsked (place.StoreWord a v) acted = (acted.act ≡ StoreAct a v) × (acted.done ≡ Stored)
IsAsked (place.AskLine line) acted = (acted.act ≡ Ask line) × (acted.done ≡ Busy)
IsAsked (place.FenceLine line) acted = (acted.act ≡ Fence) × (acted.done ≡ Flushed)
IsAsked other acted = ⊥

-- the next place: the line that was asked for is fenced, and anything else is done
abbrev pub next_place : Place → Place
next_place (place.AskLine line) = place.FenceLine line
next_place other = place.Idle

-- it was made by worker w, and by the memory's rule
pub record IsRawAct (old : Store) (w : ℕ) (at : Place) (acted : Acted) (new : Store) : Type 0 where
  pub asked : IsAsked at acted
  pub found : FoundRightly (store_words old) acted.act
  pub after : new ≡ with_state old (after_act w (store_state old) acted.act)
  pub room : HasRoom new
