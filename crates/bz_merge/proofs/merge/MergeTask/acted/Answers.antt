use Rattle.bz_merge.specs.Duties.{merging_of}
use Rattle.bz_merge.proofs.Acting.{effect, took, stored, flushed}
use Rattle.bz_merge.proofs.merge.MergeTask.acted.Goals as goal

pub returns : goal.returns
returns c = record {
  effect = λ s y entries same f good e stand swaps. let t = c.args.self.now in effect c.merges_are_good.ensures c.freezes_are_good.ensures c.children_join.ensures t.config (merging_of t) t.phase s y entries same f good e stand swaps;
  took = λ s after entries same f good later e stand takes. let t = c.args.self.now in took c.links_turn.ensures.asked (record {
    thawed = c.thawed_leaves_stay.ensures;
    slots = c.swaps_show_in_slots.ensures;
    shown = c.same_records_show_the_same.ensures;
    seen = c.seen_leaves_are_whole.ensures;
    leaves = c.leaves_are_in_trees.ensures;
    quiet = c.freeze_is_quiet.ensures;
    codec = c.statuses.ensures;
  }) c.children_join.ensures t.config (merging_of t) t.phase s after entries same f good later e stand takes;
  stored = λ s after a v same f good later e made. let t = c.args.self.now in stored c.slots_apart.ensures t.config (merging_of t) t.phase s after a v same f e made;
  flushed = λ s after line same f good later e made. let t = c.args.self.now in flushed t.config (merging_of t) t.phase s after line same f e made;
}
