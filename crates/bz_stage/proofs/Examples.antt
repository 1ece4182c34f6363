-- The worked stages, by computing.
use Rattle.std.proofs.Common.{refl}
use Rattle.bz_content.specs.Image.{node}
use Rattle.bz_content.specs.Resolving.{resolve, entry_for}
use Rattle.bz_content.specs.WorkedInsert.{word_at}
use Rattle.bz_key.specs.Packing.{unpacked, packed_word, packed_byte}
use Rattle.bz_tree.specs.Descent.{descend, pick}
use Rattle.bz_tree.specs.Order.{is_before}
use Rattle.bz_slotted.specs.Page.{words_at, meta_of, visible, held, used, extent_of}
use Rattle.bz_slotted.specs.Readers.{level_of, count_of, child_of, key_of}
use Rattle.bz_slotted.specs.Records.{live_to}
use Rattle.bz_word.specs.Headers.{header}
use Rattle.bz_word.specs.Kinds.{kind}
use Rattle.bz_word.specs.Metas.{meta}
use Rattle.bz_word.specs.Statuses.{status}
use Rattle.bz_stage.specs.Examples.{StagesAreTold}
use Rattle.bz_stage.specs.Paths.{run_from}

pub stages-are-told : StagesAreTold
unfolding node resolve entry_for word_at unpacked packed_word packed_byte descend pick is_before words_at meta_of visible held used extent_of level_of count_of child_of key_of live_to header kind meta status run_from
stages-are-told = record {
  leaves = record { room = refl; no_room = refl; copied = refl; split = refl; frozen_first = refl; no_words = refl };
  runs = record { three = refl; two = refl; none = refl };
  keys = record { room = refl; no_room = refl; frozen = refl; right = refl };
}
