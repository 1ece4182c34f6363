-- The words that nodes made whole have taken, and those of an inner node that is read.
use Rattle.std.proofs.Common.{◌+◌, ◌≤◌, map, arith, sym, ap}
use Rattle.bz_layout.specs.declared.sizes.TheConstants.{SHARED_WORDS}
use Rattle.bz_layout.proofs.Laws.{settled_leaf_takes_record}
use Rattle.bz_node.specs.Laws.{ReadsAsLeaf, ReadsAsInner}
use Rattle.bz_node.specs.Layout.{needed}
use Rattle.bz_node.specs.Records.{pair_entry, leaf_words, inner_words}
use Rattle.bz_node.proofs.Proved.{inner_nodes_are_read, leaves_are_read}
use Rattle.bz_parted.proofs.Proved.{read_nodes_have_children}
use Rattle.bz_word.specs.declared.status.Status.{Status}
use Rattle.bz_stage.specs.Made.{MadeLeavesAreRoomy, MadeInnersTakeTheirEntries, EntriesTakeTheWords}

pub made-leaves : MadeLeavesAreRoomy
made-leaves records low high each lo hi list few =
    let room : needed (map pair_entry records) + 0 + 1 ≤ SHARED_WORDS = settled_leaf_takes_record (needed (map pair_entry records)) 0 few (omega arith) in
    let r : ReadsAsLeaf (leaf_words records low high) records low high = leaves_are_read records low high each lo hi list (omega (arith, room)) in
    record {
      thawed = ap (λ (s : Status). s.frozen) r.front.status;
      few = omega (arith, few, ap (λ (s : Status). s.count) r.front.status, ap (λ (s : Status). s.block) r.front.status);
    }

pub made-inners : MadeInnersTakeTheirEntries
made-inners children low high level each lo hi lowest room =
    let r : ReadsAsInner (inner_words children low high level) children low high level = inner_nodes_are_read children low high level each lo hi (omega (arith, lowest)) room in
    ap (λ (s : Status). s.count + s.block) r.front.status

pub entries-taken : EntriesTakeTheWords
entries-taken nodes raw words level low high few inner size none = sym (read_nodes_have_children nodes raw words level low high few inner size none).taken
