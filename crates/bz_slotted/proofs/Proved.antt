-- What this crate proves, as lemmas that other crates cite by these names.
use Rattle.bz_slotted.proofs.Faults.{inner-whole-none, none-inner-whole, none-whole, whole-none}
use Rattle.bz_slotted.proofs.HighFences.{high-fences}
use Rattle.bz_slotted.proofs.Honest.{found-holds, inner-rises, live-fits}
use Rattle.bz_slotted.proofs.InnerSwaps.{pointer-swap-changes, standing-quiet}
use Rattle.bz_slotted.proofs.LeafSwaps.{freeze-quiet, growth-quiet, reservation-quiet, rewrite-changes, stores-quiet}
use Rattle.bz_slotted.proofs.MadeInners.{inners-made}
use Rattle.bz_slotted.proofs.MadeLeaves.{leaves-made}
use Rattle.bz_slotted.proofs.Readable.{leaves-readable}
use Rattle.bz_slotted.proofs.ReadableInners.{inners-readable}
use Rattle.bz_slotted.specs.InnerChanges.{PointerSwapChangesChild, StandingIsQuiet}
use Rattle.bz_slotted.specs.Laws.{FoundKeysAreInRange, InnerKeysRise, InnerRulesAreFacts, LeafRulesAreFacts, LiveWordsFit}
use Rattle.bz_slotted.specs.LeafLaws.{FreezeIsQuiet, GrowthIsQuiet, ReservationIsQuiet, RewriteChangesOneKey, StoresAreQuiet}
use Rattle.bz_slotted.specs.ReadingLaws.{HighFencesAreRead, MadeInnersAreWhole, MadeLeavesAreWhole, WholeInnersAreReadable, WholeLeavesAreReadable}

-- a leaf breaks no rule exactly where each rule holds as a fact of its records
pub leaf_rules_are_facts : LeafRulesAreFacts
leaf_rules_are_facts = λ nodes raw n lo hi. (whole-none nodes raw n lo hi, none-whole nodes raw n lo hi)

-- an inner node breaks no rule exactly where each rule holds as a fact of its records
pub inner_rules_are_facts : InnerRulesAreFacts
inner_rules_are_facts = λ nodes raw n l lo hi pos. (inner-whole-none nodes raw n l lo hi pos, none-inner-whole nodes raw n l lo hi pos)

-- the keys of an inner node that breaks no rule rise between its bounds
pub inner_keys_rise : InnerKeysRise
inner_keys_rise = inner-rises

-- a leaf that breaks no rule says of keys out of its range that there is none
pub found_keys_are_in_range : FoundKeysAreInRange
found_keys_are_in_range = found-holds

-- the visible records of a leaf that breaks no rule fit a node
pub live_words_fit : LiveWordsFit
live_words_fit = live-fits

-- a publication, a delete or the second swap of an update breaks no rule, and changes the answer for the keys of its record alone
pub rewrite_changes_one_key : RewriteChangesOneKey
rewrite_changes_one_key = rewrite-changes

-- a reservation breaks no rule and changes no answer
pub reservation_is_quiet : ReservationIsQuiet
reservation_is_quiet = reservation-quiet

-- the first swap of an update breaks no rule and changes no answer
pub growth_is_quiet : GrowthIsQuiet
growth_is_quiet = growth-quiet

-- a freeze breaks no rule and changes no answer
pub freeze_is_quiet : FreezeIsQuiet
freeze_is_quiet = freeze-quiet

-- the private stores of a record to come break no rule and change no answer
pub stores_are_quiet : StoresAreQuiet
stores_are_quiet = stores-quiet

-- a swap of one child pointer breaks no rule, and changes that child alone
pub pointer_swap_changes_child : PointerSwapChangesChild
pointer_swap_changes_child = pointer-swap-changes

-- the acts by which a swap comes and goes break no rule where they change no resolved word
pub standing_is_quiet : StandingIsQuiet
standing_is_quiet = standing-quiet

-- a leaf that breaks no rule can be read as pairs, which are its records and answer as it does
pub whole_leaves_are_readable : WholeLeavesAreReadable
whole_leaves_are_readable = leaves-readable

-- an inner node that breaks no rule can be read as children, which are its children
pub whole_inners_are_readable : WholeInnersAreReadable
whole_inners_are_readable = inners-readable

-- the high fence of a node that breaks no rule can be read, and is its high bound
pub high_fences_are_read : HighFencesAreRead
high_fences_are_read = high-fences

-- a leaf made whole breaks no rule, and says of each key what its records say
pub made_leaves_are_whole : MadeLeavesAreWhole
made_leaves_are_whole = leaves-made

-- an inner node made whole breaks no rule, and has its children and their bounds
pub made_inners_are_whole : MadeInnersAreWhole
made_inners_are_whole = inners-made
