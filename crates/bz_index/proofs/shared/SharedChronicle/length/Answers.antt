use Rattle.std.proofs.Common.{length, sym, ap, ◌∙◌}
use Rattle.bz_index.proofs.Lists.{length-told}
use Rattle.bz_index.proofs.shared.SharedChronicle.length.Goals as goal
use Rattle.bz_mark.specs.Log.{Log}

pub returns : goal.returns
returns c = c.length.ensures ∙ (ap (λ (log : Log). length log.past) c.journal.ensures.journal ∙ sym (length-told _ _))
