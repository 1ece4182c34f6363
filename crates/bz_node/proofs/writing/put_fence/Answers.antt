use Rattle.std.proofs.Common.{ℕ, ◌++◌, length, ap}
use Rattle.std.proofs.lemmas.List.{drop-replicate}
use Rattle.bz_key.specs.Packing.{packed}
use Rattle.bz_layout.specs.declared.sizes.TheConstants.{FENCE_WORDS}
use Rattle.bz_node.specs.Layout.{bound_of}
use Rattle.bz_node.proofs.writing.put_fence.Goals as goal

pub returns : goal.returns
returns c =
    rw (c.put_bound.ensures, c.requires, c.bound_words-words.ensures.count)
    (ap (λ rest. packed (bound_of c.args.fence.now) ++ rest) (drop-replicate {X = ℕ} (length (packed (bound_of c.args.fence.now))) FENCE_WORDS 0))
