-- Small journals, worked out by hand over a ring of two cells behind two descriptors: cell 0 stands at address 48. And journals
-- that differ from them in one thing.
use Rattle.std.specs.Prelude.{◌≡◌, ℕ, ◌+◌, ◌^◌, List, [], ◌∷◌, ◌++◌, replicate}
use Rattle.bz_mark.specs.declared.marks.Mark.TheVariants.{Load, Store, Cas, Evict, Cut, On}
use Rattle.bz_ring.specs.declared.calls.QCall.TheVariants as call
use Rattle.bz_ring.specs.declared.calls.QReply.TheVariants.{Put, Full, Spent}
use Rattle.bz_ring.specs.declared.marks.QMark.{QMark}
use Rattle.bz_ring.specs.declared.marks.QMark.TheVariants.{Begin, End, Effect, Memory}
use Rattle.bz_ring.specs.declared.ring.Ring.{Ring}
use Rattle.bz_ring.specs.Calls.{items_after}
use Rattle.bz_ring.specs.Sound.{IsSound, first_items}

abbrev pub small : Ring
small = record { capacity = 2; swaps = 2 }

-- the two swaps, prepared and not decided: a take of 7 at head 0, and a put of 9 at tail 1
abbrev pub take_of_seven : List ℕ
take_of_seven = 1 ∷ 2 ∷ 1 ∷ 0 ∷ 1 ∷ 48 ∷ 8 ∷ 0 ∷ replicate 8 0

abbrev pub put_of_nine : List ℕ
put_of_nine = 1 ∷ 2 ∷ 2 ∷ 1 ∷ 2 ∷ 49 ∷ 0 ∷ 10 ∷ replicate 8 0

-- a memory with this tail and these cells, whose head is 0
abbrev pub memory : ℕ → ℕ → ℕ → List ℕ
memory tail first second = 3 ∷ 0 ∷ tail ∷ 2 ∷ 2 ∷ replicate 11 0 ++ take_of_seven ++ put_of_nine ++ first ∷ second ∷ replicate 6 0

-- it holds one item, 7
abbrev pub one_item : List ℕ
one_item = memory 1 8 0

-- and two items, 7 and 9
abbrev pub two_items : List ℕ
two_items = memory 2 8 10

-- worker 1 begins a put of 4 and loads the head, which is 0
abbrev pub head_loaded : List QMark
head_loaded = Memory (Load 1 1 0) ∷ Begin 1 1 (call.Put 4) ∷ []

-- worker 2 puts its pointers into both words, and they become durable; the status too, and with that the take has its effect
abbrev pub taken : List QMark
taken =
    Effect 2 1 ∷ Memory (Evict 16) ∷ Memory (Cas 2 16 1 2 1) ∷ Memory (Evict 48) ∷ Memory (Evict 1) ∷ Memory (Cas 2 48 8 (2 ^ 62) 8) ∷ Memory (Cas 2 1 0 (2 ^ 62) 0)
    ∷ Begin 2 1 call.Take ∷ head_loaded

-- worker 3 does likewise, and the put of 9 has its effect; then it puts the plain tail
abbrev pub put_again : List QMark
put_again =
    Memory (Store 3 2 2) ∷ Effect 3 1 ∷ Memory (Evict 32) ∷ Memory (Cas 3 32 1 2 1) ∷ Memory (Evict 49) ∷ Memory (Evict 2)
    ∷ Memory (Cas 3 49 0 (2 ^ 62 + 1) 0) ∷ Memory (Cas 3 2 1 (2 ^ 62 + 1) 1) ∷ Begin 3 1 (call.Put 9) ∷ taken

-- worker 1 loads the tail, which is 2: as many items more than the head that it loaded as there are cells
abbrev pub both_loaded : List QMark
both_loaded = Memory (Load 1 2 2) ∷ put_again

abbrev pub IsRefused : List ℕ → List QMark → Type 0
IsRefused start past = IsSound small start past → ⊥

-- the list was never full, so no moment makes a Full right
pub record FullByTwoLoads : Type 0 where
  pub sound : IsSound small one_item both_loaded
  pub at_end : items_after 2 (first_items small one_item) both_loaded ≡ 9 ∷ []
  pub refused : (at : ℕ) → IsRefused one_item (End 1 1 Full at ∷ both_loaded)

-- worker 1 begins a put of 4 and loads the cell of the tail, which is taken
abbrev pub cell_loaded : List QMark
cell_loaded = Memory (Load 1 48 8) ∷ Begin 1 1 (call.Put 4) ∷ []

-- a put of 9, up to the act that decides its swap, and to its effect
abbrev pub decided : List QMark
decided =
    Memory (Cas 1 32 1 2 1) ∷ Memory (Evict 49) ∷ Memory (Evict 2) ∷ Memory (Cas 1 49 0 (2 ^ 62 + 1) 0) ∷ Memory (Cas 1 2 1 (2 ^ 62 + 1) 1) ∷ Begin 1 1 (call.Put 9) ∷ []

abbrev pub took_effect : List QMark
took_effect = Effect 1 1 ∷ Memory (Evict 32) ∷ decided

-- worker 1 begins a put and takes the last descriptor; the other one was taken by a call of worker 2 that is open still
abbrev pub descriptors_taken : List QMark
descriptors_taken = Memory (Store 1 16 1) ∷ Begin 1 1 (call.Put 4) ∷ Begin 2 1 call.Take ∷ []

-- journals that are sound
pub record WorkedAreRight : Type 0 where
  -- a Full, of the moment of the load
  pub full : IsSound small two_items (End 1 1 Full 2 ∷ cell_loaded)
  -- a put that is told, and one that the power cut leaves untold, after its effect and before it
  pub told : IsSound small one_item (End 1 1 Put 7 ∷ took_effect)
  pub kept : IsSound small one_item (Memory Cut ∷ took_effect)
  pub kept_items : items_after 2 (first_items small one_item) (Memory Cut ∷ took_effect) ≡ 7 ∷ 9 ∷ []
  pub lost : IsSound small one_item (Memory On ∷ Memory Cut ∷ decided)
  pub lost_items : items_after 2 (first_items small one_item) (Memory On ∷ Memory Cut ∷ decided) ≡ 7 ∷ []
  -- no descriptor is left: one was taken, and one may have been by the other call
  pub spent : IsSound small one_item (End 1 1 Spent 3 ∷ descriptors_taken)

-- and journals that no sound one is
pub record WorkedAreRefused : Type 0 where
  -- a Full at its Begin, past its load, of a list with room, and a Spent in its place
  pub early : IsRefused two_items (End 1 1 Full 1 ∷ cell_loaded)
  pub late : IsRefused two_items (End 1 1 Full 3 ∷ cell_loaded)
  pub room : IsRefused one_item (End 1 1 Full 2 ∷ cell_loaded)
  pub spent_for_full : IsRefused two_items (End 1 1 Spent 2 ∷ cell_loaded)
  -- a put that is told without its effect, at another moment, or with another reply
  pub untold : IsRefused one_item (End 1 1 Put 6 ∷ decided)
  pub moved : IsRefused one_item (End 1 1 Put 8 ∷ took_effect)
  pub other_reply : IsRefused one_item (End 1 1 Full 7 ∷ took_effect)
  -- an effect that stands twice, one of a put into a full list, and one directly after an act that made nothing durable
  pub twice : IsRefused one_item (Effect 1 1 ∷ Memory (Evict 32) ∷ took_effect)
  pub into_full : IsRefused two_items (Effect 1 1 ∷ Memory (Evict 32) ∷ Begin 1 1 (call.Put 9) ∷ [])
  pub after_cas : IsRefused one_item (Effect 1 1 ∷ decided)
  -- an effect that is not in the words, and words that show one which the marks do not
  pub unshown : IsRefused one_item (Effect 1 1 ∷ Memory (Evict 48) ∷ decided)
  pub unmarked : IsRefused one_item (Memory (Evict 48) ∷ Memory (Evict 32) ∷ decided)
  -- a load of another value, an act without a call, and a second call beside an open one
  pub other_value : IsRefused one_item (Memory (Load 1 48 9) ∷ Begin 1 1 (call.Put 4) ∷ [])
  pub no_call : IsRefused one_item (Memory (Load 1 48 8) ∷ [])
  pub two_calls : IsRefused one_item (Begin 1 2 call.Take ∷ Begin 1 1 (call.Put 4) ∷ [])
