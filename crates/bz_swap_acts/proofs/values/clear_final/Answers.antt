use Rattle.std.proofs.Common.{◌≡◌, sym, slice_index}
use Rattle.bz_swap_machine.specs.Machine.{Entries, entries_in}
use Rattle.bz_swap_machine.specs.HelpActs.{final_value}
use Rattle.bz_swap_acts.proofs.Found.{made-by}
use Rattle.bz_swap_acts.proofs.values.clear_final.Goals as goal

pub returns : goal.returns
returns c = λ w s.
    let aim = c.aim_of-aim.ensures in
    let x : Entries = entries_in (slice_index c.args.list.now.words) in
    let last : c.final_value.result ≡ final_value x c.args.entry c.args.verdict = c.final_value.ensures.value x c.args.entry (sym aim.expected) (sym aim.value) in
    record {
      memory = λ b. rw (← aim.target, ← last) (c.clear_value.ensures.memory b);
      next = λ b. c.finished.ensures x (sym aim.count);
      flush = c.clear_value.ensures.flush;
      writes = c.clear_value.ensures.writes;
      made = made-by _ _ _ w c.clear_value.ensures.made;
    }
