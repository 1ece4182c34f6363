use Rattle.std.proofs.Common.{◌≡◌, sym, slice_index}
use Rattle.bz_swap_machine.specs.Machine.{Entries, entries_in}
use Rattle.bz_swap_machine.specs.HelpActs.{final_value}
use Rattle.bz_swap_cells.specs.Store.{typed}
use Rattle.bz_swap_acts.proofs.Found.{made-by}
use Rattle.bz_swap_acts.proofs.Exchanges.{put}
use Rattle.bz_swap_acts.proofs.values.put_final.Goals as goal

pub returns : goal.returns
returns c = λ w.
    let aim = c.aim_of-aim.ensures in
    let found = c.cas_word-found.ensures in
    let x : Entries = entries_in (slice_index c.args.list.now.words) in
    let last : final_value x c.args.entry c.args.verdict ≡ c.final_value.result = sym (c.final_value.ensures.value x c.args.entry (sym aim.expected) (sym aim.value)) in
    record {
      memory = λ b. rw (← aim.target, ← found.found)
          (put x c.args.cells.now c.cas_word-found.new.cells b c.aim_of-aim.result.target c.args.swap c.args.entry c.final_value.result c.args.verdict c.cas_word-found.result.kind (sym aim.target) last found.changed found.unchanged);
      next = λ b. rw (← aim.target, ← found.found) (c.after_put_final.ensures x (typed c.args.cells.now b) (sym aim.count));
      flush = found.flush;
      writes = found.writes;
      made = made-by _ _ _ w found.made;
    }
