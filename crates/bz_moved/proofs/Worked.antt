-- The images of the worked move, by computing.
use Rattle.std.proofs.Common.{refl}
use Rattle.bz_content.specs.Content.{image_fault, is_super}
use Rattle.bz_content.specs.Image.{node}
use Rattle.bz_content.specs.Lawful.{is_lawful, first_unlawful}
use Rattle.bz_content.specs.Resolving.{resolve, entry_for}
use Rattle.bz_content.specs.View.{root_fault}
use Rattle.bz_content.specs.WorkedInsert.{word_at}
use Rattle.bz_tree.specs.Descent.{descend, pick}
use Rattle.bz_tree.specs.Order.{is_before}
use Rattle.bz_tree.specs.Walk.{first_fault, visits, kids, over}
use Rattle.bz_slotted.specs.Readers.{level_of, count_of, child_of, key_of, found_of}
use Rattle.bz_slotted.specs.Rules.{node_fault, fence_test}
use Rattle.bz_slotted.specs.Tests.{first_of, every}
use Rattle.bz_slotted.specs.Page.{words_at, meta_of, visible, held, used, extent_of}
use Rattle.bz_slotted.specs.Records.{live_block, search_to}
use Rattle.bz_word.specs.Kinds.{kind}
use Rattle.bz_word.specs.Statuses.{status}
use Rattle.bz_word.specs.Headers.{header}
use Rattle.bz_word.specs.Metas.{meta}
use Rattle.bz_slotted.specs.FromKey.Packing.{packed, packed_word, packed_byte, unpacked, unpacked_key, unpacked_payload}
use Rattle.bz_moved.specs.WorkedMove.{WorkedMove}

pub worked-move : WorkedMove
unfolding image_fault is_super node is_lawful first_unlawful resolve entry_for root_fault word_at descend pick is_before first_fault visits kids over level_of count_of child_of key_of found_of node_fault fence_test first_of every words_at meta_of visible held used extent_of live_block search_to kind status header meta packed packed_word packed_byte unpacked unpacked_key unpacked_payload
worked-move = record {
  near_before = record { whole = refl; old = refl; new = refl };
  near_between = record { whole = refl; old = refl; new = refl };
  near_after = record { whole = refl; old = refl; new = refl };
  far_before = record { whole = refl; old = refl; new = refl };
  far_between = record { whole = refl; old = refl; new = refl };
  far_after = record { whole = refl; old = refl; new = refl };
  between_status = refl;
  between_first = refl;
  between_second = refl;
}
