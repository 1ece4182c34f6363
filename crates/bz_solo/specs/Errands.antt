-- A call that is served, as far as its costs go: its own words, and what has come of it so far.
use Rattle.std.specs.Prelude.{◌≡◌, ◌⊎◌, ℕ, ◌+◌, Bool, true, false}
use Rattle.bz_call.specs.declared.calls.Call.{Call}
use Rattle.bz_call.specs.declared.calls.Call.TheVariants as call
use Rattle.bz_record.specs.Records.{words_for}
use Rattle.bz_costs.specs.FromRunning.Kinds as kinds
use Rattle.bz_costs.specs.FromRunning.Kinds.{Kind}
use Rattle.bz_solo.specs.declared.rest.Rest.{Rest}
use Rattle.bz_solo.specs.declared.rest.Rest.TheVariants as rest

pub record Errand : Type 0 where
  pub call : Call
  -- it has had its effect
  pub effected : Bool
  -- its leaf is to be copied alone, since no neighbour had room for it
  pub alone : Bool
  -- its own freeze of its leaf was the last task to end, so that it reads that leaf whole
  pub froze : Bool
  -- what is still to be tried once it has had its effect
  pub rest : Rest

-- the words that a call asks its leaf for: those of a record, and a metadata word; a delete asks for none
abbrev pub words_asked : Call → ℕ
words_asked (call.Insert key payload) = words_for key payload + 1
words_asked (call.Update key payload) = words_for key payload + 1
words_asked (call.Upsert key payload) = words_for key payload + 1
words_asked (call.Delete key) = 0
words_asked (call.Get key) = 0
words_asked (call.Page key) = 0

-- it changes nothing
abbrev pub is_read : Call → Bool
is_read (call.Get key) = true
is_read (call.Page key) = true
is_read (call.Insert key payload) = false
is_read (call.Delete key) = false
is_read (call.Update key payload) = false
is_read (call.Upsert key payload) = false

-- a get looks its key up, and a page reads its leaf; neither does anything else
abbrev pub IsLookOf : Call → Kind → Type 0
IsLookOf (call.Get key) k = (k ≡ kinds.Seek) ⊎ (k ≡ kinds.Find)
IsLookOf (call.Page key) k = (k ≡ kinds.Seek) ⊎ (k ≡ kinds.ReadWhole)
IsLookOf (call.Insert key payload) k = Unit {0}
IsLookOf (call.Delete key) k = Unit {0}
IsLookOf (call.Update key payload) k = Unit {0}
IsLookOf (call.Upsert key payload) k = Unit {0}

-- the call as it is looked up once a task of this kind was done: after a freeze it reads its leaf whole
abbrev pub is_freeze : Kind → Bool
is_freeze kinds.Freeze = true
is_freeze other = false

abbrev pub after : Errand → Kind → Errand
after e k = record e { froze = is_freeze k }

-- the tasks after which a delete that has had its effect may go on; and the call as it is looked up then
abbrev pub goes_further : Kind → Bool
goes_further kinds.Delete = true
goes_further kinds.Merge = true
goes_further kinds.MergeNodes = true
goes_further other = false

abbrev pub rest_after : Kind → Rest
rest_after kinds.Merge = rest.Inner
rest_after kinds.MergeNodes = rest.Root
rest_after other = rest.Leaf

abbrev pub further : Errand → Kind → Errand
further e k = record e { rest = rest_after k }

-- a task that may have had an effect of its own while its call goes on without one, or has it now
abbrev pub may_swap_twice : Kind → Bool
may_swap_twice kinds.Seek = false
may_swap_twice kinds.Find = false
may_swap_twice kinds.ReadWhole = false
may_swap_twice kinds.Insert = true
may_swap_twice kinds.Update = true
may_swap_twice kinds.Delete = true
may_swap_twice kinds.Freeze = false
may_swap_twice kinds.Copy = false
may_swap_twice kinds.SplitRootLeaf = false
may_swap_twice (kinds.SplitLeaf a) = false
may_swap_twice (kinds.SplitNode a) = false
may_swap_twice (kinds.SplitRootNode a) = false
may_swap_twice kinds.Merge = true
may_swap_twice kinds.MergeNodes = true
may_swap_twice kinds.LowerRoot = true
