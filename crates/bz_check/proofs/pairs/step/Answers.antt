use Rattle.bz_check.proofs.Mapping.{delete_takes, unchanged_of}
use Rattle.bz_check.proofs.pairs.step.Goals as goal

pub returns-in-Delete : goal.returns-in-Delete
returns-in-Delete c = λ at h. rw c.in-Delete.is (delete_takes at c.args.map.now.entries c.remove.new.self.entries c.in-Delete.key h c.remove.ensures.updates.0
    (unchanged_of c.remove.result _ c.args.map.now.entries c.remove.new.self.entries c.remove.ensures.value c.remove.ensures.unchanged))
