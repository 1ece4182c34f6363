use Rattle.std.proofs.Common.{arith}
use Rattle.bz_merge.proofs.Viewing.{is-viewed}
use Rattle.bz_merge.proofs.merge.Merge.new.Goals as goal

pub returns-clause-facts : goal.returns-clause-facts
returns-clause-facts c key s same good path view = record {
  viewed = is-viewed (record {
    views = c.views_say_what_images_say.ensures;
    leaves = c.leaves_are_in_trees.ensures;
    seen = c.seen_leaves_are_whole.ensures;
    shown = c.same_records_show_the_same.ensures;
    apart = c.slots_apart.ensures;
  }) key c.args.path c.args.view c.upper_link.result c.last_link-lower.result s good path view c.is_whole.ensures c.requires.small c.requires.leads c.requires.thawed c.requires.deep c.upper_link.ensures c.last_link-lower.ensures;
  were = record { size = c.first_word.ensures.size; first = c.first_word.ensures.first; rest = λ i some l. absurd (omega (arith, some, l)) };
  blank = λ i some. c.first_word.ensures.blank i some;
}

pub returns-clause-slot : goal.returns-clause-slot
returns-clause-slot c = (c.requires.leads c.last_link-lower.result c.last_link-lower.ensures).0
