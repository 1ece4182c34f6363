-- Verdicts on small journals, worked out by hand: three lines of words 0, of which the last one is a descriptor's, no pairs, and the power
-- on. The newest mark stands first.
use Rattle.std.specs.Prelude.{ℕ, List, [], ◌∷◌, replicate, None}
use Rattle.std.specs.FinMap.{empty}
use Rattle.bz_call.specs.Map.{Map}
use Rattle.bz_call.specs.declared.calls.Call.TheVariants.{Insert, Get}
use Rattle.bz_call.specs.declared.calls.Call.TheVariants as kind
use Rattle.bz_call.specs.declared.replies.Reply.TheVariants.{Inserted, Exists, Missing, Full, Page}
use Rattle.bz_call.specs.declared.replies.Spent.TheVariants.{Nodes, Swaps}
use Rattle.bz_layout.specs.declared.config.Config.{Config}
use Rattle.bz_mark.specs.declared.marks.Mark.{Mark}
use Rattle.bz_mark.specs.declared.marks.Mark.TheVariants.{Begin, End, Load, Store, Cas, Fence, Evict, Cut, On, Ready, Effect}
use Rattle.bz_mark.specs.declared.power.Power.TheVariants as power
use Rattle.bz_check.specs.declared.verdict.JudgeRule.TheVariants.{Truth, Calls, Reply}
use Rattle.bz_check.specs.declared.verdict.Verdict.{Verdict}
use Rattle.bz_check.specs.declared.verdict.Verdict.TheVariants.{Sound, Broken}
use Rattle.bz_check.specs.Rules.{KeepsJudged}
use Rattle.bz_check.specs.Verdicts.{IsVerdict}

abbrev pub zeros : List ℕ
zeros = replicate 24 0

-- one descriptor, and two workers
abbrev pub small : Config
small = record { nodes = 1; swaps = 1; workers = 2; marks = 1024; calls = 4; pages = 4 }

abbrev pub no_pairs : Map
no_pairs = empty

abbrev pub a_key : List ℕ
a_key = 97 ∷ []

abbrev pub Is : List Mark → Verdict → Type 0
Is past verdict = IsVerdict (KeepsJudged small power.On zeros no_pairs) past verdict

-- a call that has begun
abbrev pub get_begun : List Mark
get_begun = Begin 1 1 (Get a_key) ∷ []

abbrev pub insert_begun : List Mark
insert_begun = Begin 1 1 (Insert a_key []) ∷ []

abbrev pub page_begun : List Mark
page_begun = Begin 1 1 (kind.Page a_key) ∷ []

abbrev pub two_begun : List Mark
two_begun = Begin 2 1 (Get a_key) ∷ insert_begun

-- and one that took effect at moment 2
abbrev pub insert_done : List Mark
insert_done = Effect 1 1 ∷ Fence 1 ∷ insert_begun

pub record WorkedVerdicts : Type 0 where
  -- no marks; a call with a load; and its end
  pub none : Is [] Sound
  pub asked : Is (Load 1 0 0 ∷ get_begun) Sound
  pub ended : Is (End 1 1 Missing 2 ∷ Load 1 0 0 ∷ get_begun) Sound
  -- a load and a compare-and-swap of another word
  pub other_word : Is (Load 1 0 5 ∷ get_begun) (Broken Truth 2)
  pub other_found : Is (Cas 1 0 5 6 5 ∷ get_begun) (Broken Truth 2)
  -- a load without a call; and one of another word without a call, which breaks both rules
  pub no_call : Is (Load 1 0 0 ∷ []) (Broken Calls 1)
  pub both : Is (Load 1 0 5 ∷ []) (Broken Truth 1)
  -- a call with number 2; one of worker 0; one beside an open call; and an End with another number
  pub second : Is (Begin 1 2 (Get a_key) ∷ []) (Broken Calls 1)
  pub recovery : Is (Begin 0 1 (Get a_key) ∷ []) (Broken Calls 1)
  pub beside : Is (Begin 1 2 (Get a_key) ∷ get_begun) (Broken Calls 2)
  pub other_number : Is (End 1 2 Missing 1 ∷ get_begun) (Broken Calls 2)
  -- power that comes on while it is on; recovery that ends without an act; and an eviction while the power is off
  pub twice_on : Is (On ∷ []) (Broken Calls 1)
  pub not_recovering : Is (Ready ∷ []) (Broken Calls 1)
  pub dark : Is (Evict 0 ∷ Cut ∷ []) (Broken Calls 2)
  -- an Effect behind a load: the moment before it is an inner one
  pub effect : Is (Effect 1 1 ∷ Load 1 0 0 ∷ insert_begun) (Broken Calls 3)
  pub inner : Is (Effect 1 1 ∷ Load 1 0 5 ∷ insert_begun) (Broken Truth 3)
  -- what stands behind the first moment tells nothing
  pub first : Is (Load 1 0 5 ∷ Load 1 0 0 ∷ []) (Broken Calls 1)
  -- another reply than the map's; one at a moment behind no load; and one at a moment that is not after the Begin
  pub other_reply : Is (End 1 1 Exists 2 ∷ Load 1 0 0 ∷ get_begun) (Broken Reply 3)
  pub unread : Is (End 1 1 Missing 1 ∷ get_begun) (Broken Reply 2)
  pub early : Is (End 1 1 Missing 0 ∷ Load 1 0 0 ∷ get_begun) (Broken Reply 3)
  -- a reply at the Effect; and one at the moment after it
  pub done : Is (End 1 1 Inserted 2 ∷ insert_done) Sound
  pub late : Is (End 1 1 Inserted 3 ∷ insert_done) (Broken Reply 4)
  -- a Full of slots, whose cause is not looked at; and one that answers a call that changes no map
  pub full : Is (End 1 1 (Full Nodes) 1 ∷ insert_begun) Sound
  pub full_get : Is (End 1 1 (Full Nodes) 1 ∷ get_begun) (Broken Reply 2)
  -- a Full of descriptors while the one that there is is free; while it is taken; and while another worker may hold it
  pub full_swaps : Is (End 1 1 (Full Swaps) 1 ∷ insert_begun) (Broken Reply 2)
  pub full_taken : Is (End 1 1 (Full Swaps) 2 ∷ Store 1 16 1 ∷ insert_begun) Sound
  pub full_held : Is (End 1 1 (Full Swaps) 2 ∷ two_begun) Sound
  -- the first page; one with another number; and one behind no load
  pub paged : Is (End 1 1 (Page 0 None) 2 ∷ Load 1 0 0 ∷ page_begun) Sound
  pub other_page : Is (End 1 1 (Page 1 None) 2 ∷ Load 1 0 0 ∷ page_begun) (Broken Reply 3)
  pub unread_page : Is (End 1 1 (Page 0 None) 1 ∷ page_begun) (Broken Reply 2)
