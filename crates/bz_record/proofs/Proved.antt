-- What this crate proves, as lemmas that other crates cite by these names.
use Rattle.bz_record.proofs.Asking.{may-be-asked}
use Rattle.bz_record.proofs.AskingBoth.{both-asked}
use Rattle.bz_record.proofs.Changing.{changes-asked}
use Rattle.bz_record.proofs.Growing.{growing}
use Rattle.bz_record.proofs.GrownWords.{grown-taking}
use Rattle.bz_record.proofs.Leaves.{key-views-show, leaves-stay, views-show}
use Rattle.bz_record.proofs.Moving.{moves-asked, moves-good}
use Rattle.bz_record.proofs.Publishing.{publications-rewrite, publishing}
use Rattle.bz_record.proofs.Remembering.{leaves-were, remembering}
use Rattle.bz_record.proofs.Removing.{removals-rewrite, removing}
use Rattle.bz_record.proofs.Replacing.{replacing}
use Rattle.bz_record.proofs.Reserving.{reserving}
use Rattle.bz_record.proofs.Rewriting.{rewriting, rewriting-leaf}
use Rattle.bz_record.proofs.Taking.{taking}
use Rattle.bz_record.proofs.Viewing.{key-views-show-records}
use Rattle.bz_record.proofs.Writing.{written}
use Rattle.bz_record.specs.Laws.{KeyViewsShowLeaves, LeavesStay, LeavesWere, NewRecordSwapsMayBeAsked, PublicationsAreGood, PublicationsRewrite, RecordSwapsMayBeAsked, ReservationsAreGood, ReservationsTakeWords, RewritesAreGood, RewritesChangeTheirLeaf, ViewsShowLeaves}
use Rattle.bz_record.specs.Moving.{MovesAreGood, MovesMayBeAsked}
use Rattle.bz_record.specs.ReplacingLaws.{ChangesMayBeAsked, GrowthsAreGood, GrowthsTakeWords, KeyViewsShowRecords, RecordsWere, RemovalsAreGood, RemovalsRewrite, ReplacementsAreGood}
use Rattle.bz_record.specs.Writing.{RecordsAreWritten}

-- a leaf that was not frozen is as it was while its status is the one that was read
pub leaves_stay : LeavesStay
leaves_stay = leaves-stay

-- a view shows the leaf of its key, and says of the key what the leaf says
pub views_show_leaves : ViewsShowLeaves
views_show_leaves = views-show

-- a view of a key shows the key's leaf, and says of the key what the leaf says
pub key_views_show_leaves : KeyViewsShowLeaves
key_views_show_leaves = key-views-show

-- what a leaf was, it was
pub leaves_were : LeavesWere
leaves_were = leaves-were

-- the swaps of a leaf's status and of a metadata word in use, or of the next one, may be asked for
pub record_swaps_may_be_asked : RecordSwapsMayBeAsked
record_swaps_may_be_asked = may-be-asked

-- both swaps of a record that comes may be asked for
pub new_record_swaps_may_be_asked : NewRecordSwapsMayBeAsked
new_record_swaps_may_be_asked = both-asked

-- a reservation is lawful for everybody, and changes no content
pub reservations_are_good : ReservationsAreGood
reservations_are_good = reserving

-- after it the record has its place, and its words are the worker's own
pub reservations_take_words : ReservationsTakeWords
reservations_take_words = taking

-- the words of a record are stored one by one, and become durable line by line
pub records_are_written : RecordsAreWritten
records_are_written = written

-- a swap that makes a change of a record is lawful for everybody, and changes the content so
pub rewrites_are_good : RewritesAreGood
rewrites_are_good = rewriting

-- so it does to the leaf of its record, whatever else it names
pub rewrites_change_their_leaf : RewritesChangeTheirLeaf
rewrites_change_their_leaf = rewriting-leaf

-- a publication rewrites its record's place, and a removal that of its record
pub publications_rewrite : PublicationsRewrite
publications_rewrite = publications-rewrite

pub removals_rewrite : RemovalsRewrite
removals_rewrite = removals-rewrite

-- a publication is such a swap
pub publications_are_good : PublicationsAreGood
publications_are_good = publishing

-- a removal is lawful for everybody, and deletes the key
pub removals_are_good : RemovalsAreGood
removals_are_good = removing

-- the first swap of an update is lawful for everybody, and changes no content
pub growths_are_good : GrowthsAreGood
growths_are_good = growing

-- the second swap of an update is lawful for everybody, and updates the key
pub replacements_are_good : ReplacementsAreGood
replacements_are_good = replacing

-- what a record of a leaf was, it was
pub records_were : RecordsWere
records_were = remembering

-- after the first swap of an update the record's words are the worker's own, and the old record stands
pub growths_take_words : GrowthsTakeWords
growths_take_words = grown-taking

-- the swaps of an update and of a delete may be asked for
pub changes_may_be_asked : ChangesMayBeAsked
changes_may_be_asked = changes-asked

-- the record that was found of a key is one of the key's leaf
pub key_views_show_records : KeyViewsShowRecords
key_views_show_records = key-views-show-records

-- the swap by which a record moves, within its leaf or to another one, is lawful for everybody and makes both changes
pub moves_are_good : MovesAreGood
moves_are_good = moves-good

-- it may be asked for
pub moves_may_be_asked : MovesMayBeAsked
moves_may_be_asked = moves-asked
