use Rattle.std.proofs.Common.{sym, slice_index}
use Rattle.bz_swap_machine.specs.Machine.{Entries, entries_in}
use Rattle.bz_swap_cells.specs.Store.{typed}
use Rattle.bz_swap_acts.proofs.Found.{made-by}
use Rattle.bz_swap_acts.proofs.tags.remove_tag.Goals as goal

pub returns : goal.returns
returns c = λ w.
    let aim = c.aim_of-aim.ensures in
    let x : Entries = entries_in (slice_index c.args.list.now.words) in
    record {
      memory = λ b. rw (← aim.target, ← aim.expected) (c.untag.ensures.memory x b (sym aim.target));
      next = λ b. rw (← aim.target, ← aim.expected) (c.untag.ensures.next x (typed c.args.cells.now b));
      flush = c.untag.ensures.flush;
      writes = c.untag.ensures.writes;
      made = made-by _ _ _ w c.untag.ensures.made;
    }
