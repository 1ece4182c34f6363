use Rattle.bz_renew.proofs.LowFences.{low-read}
use Rattle.bz_renew.proofs.sorted.low_of.Goals as goal

pub returns-in-Some : goal.returns-in-Some
returns-in-Some c = low-read c.leaf_rules_are_facts.ensures c.headers.ensures c.args.image.now.0 c.in-Some.header c.key_at.result c.is_whole.ensures c.in-Some.ensures.word.0 c.in-Some.ensures.word.1 c.key_at.ensures
