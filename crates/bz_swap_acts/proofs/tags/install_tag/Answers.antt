use Rattle.std.proofs.Common.{sym, slice_index}
use Rattle.bz_swap_machine.specs.Machine.{Entries, entries_in}
use Rattle.bz_swap_cells.specs.Store.{typed}
use Rattle.bz_swap_acts.proofs.Found.{made-by}
use Rattle.bz_swap_acts.proofs.tags.install_tag.Goals as goal

pub returns : goal.returns
returns c =
    let aim = c.aim_of-aim.ensures in
    let found = c.put_tag-found.ensures in
    let x : Entries = entries_in (slice_index c.args.list.now.words) in
    record {
      memory = λ b. rw (← aim.target, ← found.found) (found.memory x b (sym aim.target) (sym aim.expected));
      next = λ b. rw (← aim.target, ← found.found) (c.after_install_tag.ensures x (typed c.args.cells.now b) (sym aim.count) (sym aim.expected) (sym c.next_tag-seq.ensures));
      flush = found.flush;
      writes = found.writes;
      made = made-by _ _ _ c.args.worker found.made;
    }
