-- What this crate proves, as lemmas that other crates cite by these names.
use Rattle.bz_ring.proofs.Changes.{cells_tell_the_list as cells_tell_the_list-holds, other_words_do_not_matter as other_words_do_not_matter-holds, puts_append as puts_append-holds, takes_drop as takes_drop-holds}
use Rattle.bz_ring.proofs.Contents.{content_is_these as content_is_these-holds}
use Rattle.bz_ring.proofs.FreshRings.{fresh_memory_is_empty as fresh_memory_is_empty-holds}
use Rattle.bz_ring.proofs.Growing.{fresh_journals_are_sound as fresh_journals_are_sound-holds, sound_journals_grow as sound_journals_grow-holds}
use Rattle.bz_ring.proofs.Solitary.{none_is_open_beside as none_is_open_beside-holds}
use Rattle.bz_ring.specs.ContentLaws.{CellsTellTheList, ContentIsThese, OtherWordsDoNotMatter, PutsAppend, TakesDrop}
use Rattle.bz_ring.specs.Fresh.{FreshMemoryIsEmpty}
use Rattle.bz_ring.specs.Growth.{FreshJournalsAreSound, SoundJournalsGrow}
use Rattle.bz_ring.specs.Solitary.{NoneIsOpenBesideASolitaryCall}

-- the content of a memory is a list exactly where its counters and cells hold that list, place by place
pub content_is_these : ContentIsThese
content_is_these = content_is_these-holds

-- a put where there is room appends its item
pub puts_append : PutsAppend
puts_append = puts_append-holds

-- a take drops the first item
pub takes_drop : TakesDrop
takes_drop = takes_drop-holds

-- the cell of the tail tells whether the list is full, and the cell of the head its first item
pub cells_tell_the_list : CellsTellTheList
cells_tell_the_list = cells_tell_the_list-holds

-- only the counters and the cells matter
pub other_words_do_not_matter : OtherWordsDoNotMatter
other_words_do_not_matter = other_words_do_not_matter-holds

-- fresh memory holds the empty list
pub fresh_memory_is_empty : FreshMemoryIsEmpty
fresh_memory_is_empty = fresh_memory_is_empty-holds

-- a journal with no mark is sound where its words hold a list
pub fresh_journals_are_sound : FreshJournalsAreSound
fresh_journals_are_sound = fresh_journals_are_sound-holds

-- a sound journal grows by a begin, by an act that leaves the list, by an act and the effect that it made durable, and by an end
pub sound_journals_grow : SoundJournalsGrow
sound_journals_grow = sound_journals_grow-holds

-- beside a solitary call no other is open
pub none_is_open_beside : NoneIsOpenBesideASolitaryCall
none_is_open_beside = none_is_open_beside-holds
