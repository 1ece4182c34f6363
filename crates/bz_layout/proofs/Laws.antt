-- The laws of this layer as lemmas: the one module of proofs that the crates above may cite.
use Rattle.bz_layout.specs.Addresses.{AddressesFit, DescriptorsApart, SlotsApart, AddressesArePlaced, DescriptorsStandApart, RegionsAreWholeLines}
use Rattle.bz_layout.specs.Fresh.{FreshWordsSay}
use Rattle.bz_layout.specs.Slots.{TakenSlotsAreGone, HeldSlotIsGone, AllSlotsAreFree}
use Rattle.bz_layout.specs.Rooms.{DescriptorPartsFollow, NodePartsFollow, SharedWordsSuffice, RecordsAreBounded, PairsFitPage, SettledLeafTakesRecord, MergedLeafTakesRecord, SplitLeafIsNotMerged, DeleteLeavesEnough, LeafSplitsInHalves, InnerSplitsInHalves, InnerTakesSeparator, FullInnerIsAboveLimit, NewRootIsSmall, SupplySuffices, RecordsLieOverFewLines}
use Rattle.bz_layout.proofs.Addresses.{addresses_fit-holds, descriptors_apart-holds, slots_apart-holds, addresses_are_placed-holds, descriptors_stand_apart-holds, regions_are_whole_lines-holds}
use Rattle.bz_layout.proofs.FreshWords.{fresh_words_say-holds}
use Rattle.bz_layout.proofs.SlotLaws.{taken_slots_are_gone-holds, held_slot_is_gone-holds, all_slots_are_free-holds}
use Rattle.bz_layout.proofs.Rooms.{descriptor_parts_follow-holds, node_parts_follow-holds, shared_words_suffice-holds, records_are_bounded-holds, pairs_fit_page-holds, settled_leaf_takes_record-holds, merged_leaf_takes_record-holds, split_leaf_is_not_merged-holds, delete_leaves_enough-holds, leaf_splits_in_halves-holds, inner_splits_in_halves-holds, inner_takes_separator-holds, full_inner_is_above_limit-holds, new_root_is_small-holds, supply_suffices-holds, records_lie_over_few_lines-holds}

pub addresses_fit : AddressesFit
addresses_fit = addresses_fit-holds

pub descriptors_apart : DescriptorsApart
descriptors_apart = descriptors_apart-holds

pub slots_apart : SlotsApart
slots_apart = slots_apart-holds

pub addresses_are_placed : AddressesArePlaced
addresses_are_placed = addresses_are_placed-holds

pub descriptors_stand_apart : DescriptorsStandApart
descriptors_stand_apart = descriptors_stand_apart-holds

pub regions_are_whole_lines : RegionsAreWholeLines
regions_are_whole_lines = regions_are_whole_lines-holds

pub fresh_words_say : FreshWordsSay
fresh_words_say = fresh_words_say-holds

pub taken_slots_are_gone : TakenSlotsAreGone
taken_slots_are_gone = taken_slots_are_gone-holds

pub held_slot_is_gone : HeldSlotIsGone
held_slot_is_gone = held_slot_is_gone-holds

pub all_slots_are_free : AllSlotsAreFree
all_slots_are_free = all_slots_are_free-holds

pub descriptor_parts_follow : DescriptorPartsFollow
descriptor_parts_follow = descriptor_parts_follow-holds

pub node_parts_follow : NodePartsFollow
node_parts_follow = node_parts_follow-holds

pub shared_words_suffice : SharedWordsSuffice
shared_words_suffice = shared_words_suffice-holds

pub records_are_bounded : RecordsAreBounded
records_are_bounded = records_are_bounded-holds

pub pairs_fit_page : PairsFitPage
pairs_fit_page = pairs_fit_page-holds

pub settled_leaf_takes_record : SettledLeafTakesRecord
settled_leaf_takes_record = settled_leaf_takes_record-holds

pub merged_leaf_takes_record : MergedLeafTakesRecord
merged_leaf_takes_record = merged_leaf_takes_record-holds

pub split_leaf_is_not_merged : SplitLeafIsNotMerged
split_leaf_is_not_merged = split_leaf_is_not_merged-holds

pub delete_leaves_enough : DeleteLeavesEnough
delete_leaves_enough = delete_leaves_enough-holds

pub leaf_splits_in_halves : LeafSplitsInHalves
leaf_splits_in_halves = leaf_splits_in_halves-holds

pub inner_splits_in_halves : InnerSplitsInHalves
inner_splits_in_halves = inner_splits_in_halves-holds

pub inner_takes_separator : InnerTakesSeparator
inner_takes_separator = inner_takes_separator-holds

pub full_inner_is_above_limit : FullInnerIsAboveLimit
full_inner_is_above_limit = full_inner_is_above_limit-holds

pub new_root_is_small : NewRootIsSmall
new_root_is_small = new_root_is_small-holds

pub supply_suffices : SupplySuffices
supply_suffices = supply_suffices-holds

pub records_lie_over_few_lines : RecordsLieOverFewLines
records_lie_over_few_lines = records_lie_over_few_lines-holds
