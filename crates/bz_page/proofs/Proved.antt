-- What this crate proves, as lemmas that other crates cite by these names.
use Rattle.bz_page.proofs.Lookups.{find-order}
use Rattle.bz_page.proofs.Views.{holds, live, says}
use Rattle.bz_page.specs.Laws.{OrderedPairsAreFound, ViewsSayWhatImagesSay}

-- the leaf that a view shows is the key's, and the view says of each key what the image of its moment says there, and has as many live words
pub views_say_what_images_say : ViewsSayWhatImagesSay
views_say_what_images_say from view p v g =
    record { holds = holds from view p v g; says = says from view p v g; live = live from view p v g }

-- in pairs with rising keys each key is found as among the same pairs in another order
pub ordered_pairs_are_found : OrderedPairsAreFound
ordered_pairs_are_found = find-order
