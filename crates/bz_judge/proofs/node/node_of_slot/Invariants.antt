use Rattle.std.proofs.Common.{◌≡◌, ℕ, ◌<◌, get_or, length}
use Rattle.std.specs.Prelude.{slice_index}
use Rattle.bz_content.specs.Image.{node}
use Rattle.bz_content.specs.Resolving.{resolve}
use Rattle.bz_layout.specs.declared.sizes.TheConstants.{NODE_WORDS}
use Rattle.bz_judge.proofs.node.node_of_slot.Given as goal

abbrev pub invariant-loop-i : goal.invariant-loop-i
invariant-loop-i l = record {
  size : length l.words ≡ NODE_WORDS;
  read : (j : ℕ) → j < l.i → get_or l.words j 0 ≡ node l.config (resolve (slice_index l.image)) l.slot j;
}
