-- The worked numbers of leaves, by computing.
use Rattle.std.proofs.Common.{refl}
use Rattle.bz_content.specs.Image.{node}
use Rattle.bz_content.specs.Resolving.{resolve, entry_for}
use Rattle.bz_content.specs.WorkedInsert.{word_at}
use Rattle.bz_key.specs.Packing.{unpacked, packed_word, packed_byte}
use Rattle.bz_tree.specs.Walk.{kids, over, visits}
use Rattle.bz_slotted.specs.Page.{words_at, meta_of, visible, held, used, extent_of}
use Rattle.bz_slotted.specs.Readers.{level_of, count_of, child_of, key_of}
use Rattle.bz_word.specs.Headers.{header}
use Rattle.bz_word.specs.Kinds.{kind}
use Rattle.bz_word.specs.Metas.{meta}
use Rattle.bz_word.specs.Statuses.{status}
use Rattle.bz_leaves.specs.Examples.{LeavesAreTold}
use Rattle.bz_leaves.specs.Leaves.{leaf_count}

pub leaves-are-told : LeavesAreTold
unfolding node resolve entry_for word_at unpacked packed_word packed_byte kids over visits words_at meta_of visible held used extent_of level_of count_of child_of key_of header kind meta status leaf_count
leaves-are-told = record { left = refl; root = refl; right = refl; unused = refl; two = refl; frozen = refl; alone = refl }
