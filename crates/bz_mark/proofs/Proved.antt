-- What this crate proves, as lemmas that other crates cite by these names.
use Rattle.bz_mark.proofs.ExampleProofs.{asks_and_fences_leave_these as asks_and_fences_leave_these-holds, leaves_five_or_six as leaves_five_or_six-holds, table_is_right as table_is_right-holds}
use Rattle.bz_mark.proofs.Joined.{words_are_by_moments as words_are_by_moments-holds}
use Rattle.bz_mark.proofs.LawProofs.{evictions_leave_what_may_be_held as evictions_leave_what_may_be_held-holds, swaps_as_found as swaps_as_found-holds, truthful_at_each_moment as truthful_at_each_moment-holds, truthful_with_evictions as truthful_with_evictions-holds, states_stay as states_stay-holds}
use Rattle.bz_mark.proofs.MayHoldLaws.{held_after_one_mark as held_after_one_mark-holds}
use Rattle.bz_mark.proofs.WordLaws.{length-words_of, states_of-next}
use Rattle.bz_mark.specs.Evictions.{EvictionsLeaveWhatMayBeHeld}
use Rattle.bz_mark.specs.Example.{AsksAndFencesLeaveThese, LeavesFiveOrSix, TableIsRight}
use Rattle.bz_mark.specs.Laws.{HeldAfterOneMark, LengthsStay, StatesFollow, StatesStay, SwapsAsFound, TruthfulAtEachMoment, TruthfulWithEvictions, WordsAreByMoments}

-- there are always as many words as in the start image
pub lengths_stay : LengthsStay
lengths_stay = length-words_of

-- the memory at the next moment is what the mark in between makes of the memory at this one
pub states_follow : StatesFollow
states_follow = states_of-next

-- the memory at a moment stays what it is when marks are added
pub states_stay : StatesStay
states_stay = states_stay-holds

-- the words of the memory after marks are those by moments, where the marks are those of a memory and fewer than the acts that it counts
pub words_are_by_moments : WordsAreByMoments
words_are_by_moments = words_are_by_moments-holds

-- a compare-and-swap that tells what stood there is the act of a memory
pub swaps_as_found : SwapsAsFound
swaps_as_found = swaps_as_found-holds

-- in a truthful journal, and in no other, each mark found the cached value of its moment
pub truthful_at_each_moment : TruthfulAtEachMoment
truthful_at_each_moment = truthful_at_each_moment-holds

-- what a word may hold after one mark more
pub held_after_one_mark : HeldAfterOneMark
held_after_one_mark = held_after_one_mark-holds

-- evictions added to a truthful journal leave it truthful
pub truthful_with_evictions : TruthfulWithEvictions
truthful_with_evictions = truthful_with_evictions-holds

-- an image is the durable memory at the end of a journal with some evictions added after its last cut, exactly where each word of it is one that the word may hold. So a theorem over all lists of events, evictions included, covers every image that a power cut can leave
pub evictions_leave_what_may_be_held : EvictionsLeaveWhatMayBeHeld
evictions_leave_what_may_be_held = evictions_leave_what_may_be_held-holds

-- the words after each mark of a journal that was worked out by hand
pub table_is_right : TableIsRight
table_is_right = table_is_right-holds

-- what asks, fences, evictions and cuts leave of two words of a line, worked out by hand
pub asks_and_fences_leave_these : AsksAndFencesLeaveThese
asks_and_fences_leave_these = asks_and_fences_leave_these-holds

-- a power cut after a store, an ask and its fence and another store leaves one of the two stored values, and nothing else
pub leaves_five_or_six : LeavesFiveOrSix
leaves_five_or_six = leaves_five_or_six-holds
