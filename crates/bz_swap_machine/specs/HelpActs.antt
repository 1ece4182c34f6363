-- One act on a published swap: what it changes, and what follows. A worker goes by the entries that it has
-- learnt, `x`; the swap is s and the worker w.
use Rattle.std.specs.Prelude.{if◌then◌else◌, ℕ, ◌+◌, ◌==◌, ◌&&◌}
use Rattle.bz_word.specs.declared.kind.WordKind.{WordKind}
use Rattle.bz_word.specs.declared.kind.WordKind.TheVariants.{Value, Dirty, Swap, Tag}
use Rattle.bz_swap_machine.specs.declared.status.SwapStatus.{SwapStatus}
use Rattle.bz_swap_machine.specs.declared.status.SwapStatus.TheVariants.{Free, Undecided, Deciding, Decided}
use Rattle.bz_swap_machine.specs.declared.status.Verdict.{Verdict}
use Rattle.bz_swap_machine.specs.declared.status.Verdict.TheVariants.{Succeeded, Failed}
use Rattle.bz_swap_machine.specs.declared.place.HelpStep.{HelpStep}
use Rattle.bz_swap_machine.specs.declared.place.HelpStep.TheVariants.{Look, InstallTag, LookUnderTag, InstallPointer, RemoveTag, AskDirty, FenceDirty, ClearDirty, AskTarget, FenceTargets, Decide, AskStatus, FenceStatus, ClearStatus, PutFinal, AskFinal, FenceFinal, ClearFinal, SweepTag}
use Rattle.bz_swap_machine.specs.declared.place.Next.{Next}
use Rattle.bz_swap_machine.specs.declared.place.Next.TheVariants.{Step, Meet, Complete}
use Rattle.bz_swap_machine.specs.Machine.{Entries, Memory}
use Rattle.bz_swap_machine.specs.Changes.{with_word, with_tag, with_status, with_miss, line_of, head_of, with_ask, fenced}

-- the memory after an act, and what follows
pub record After : Type 0 where
  pub memory : Memory
  pub next : Next

-- the act changes nothing
abbrev pub stays : Memory → HelpStep → After
stays m step = record { memory = m; next = Step step }

-- what follows when the pointer of entry i stands: the next entry, or the targets are asked for
abbrev pub passed : Entries → ℕ → HelpStep
passed x i = if i + 1 == x.count then AskTarget 0 else InstallTag (i + 1)

-- what follows when entry i holds its final value: the next entry, or the end
abbrev pub finished : Entries → ℕ → Verdict → Next
finished x i d = if i + 1 == x.count then Complete d else Step (PutFinal (i + 1) d)

-- what follows a load of the status, or a compare-and-swap that found it changed
abbrev pub by_status : SwapStatus → HelpStep
by_status Free = InstallTag 0
by_status Undecided = InstallTag 0
by_status (Deciding d) = AskStatus d
by_status (Decided d) = PutFinal 0 d

-- the value that a verdict leaves at entry i
abbrev pub final_value : Entries → ℕ → Verdict → ℕ
final_value x i Succeeded = x.value i
final_value x i Failed = x.expected i

-- the compare-and-swap of the expected value to a fresh tag, which found this word
abbrev pub after_install_tag : Entries → Memory → ℕ → ℕ → ℕ → WordKind → After
after_install_tag x m w s i (Value v) =
    if v == x.expected i
    then record { memory = with_tag m (x.target i) s i w; next = Step (LookUnderTag i w (m.next_tag w)) }
    else record { memory = with_miss m s; next = Step (Decide Failed) }
after_install_tag x m w s i (Dirty v) = stays m (AskDirty i v)
after_install_tag x m w s i (Swap t) = record { memory = m; next = if t == s then Step (passed x i) else Meet t }
after_install_tag x m w s i (Tag t j v q) = record { memory = m; next = if t == s then Step (LookUnderTag i v q) else Meet t }

-- the load of the status under a tag
abbrev pub after_look_under : ℕ → ℕ → ℕ → SwapStatus → HelpStep
after_look_under i v q Free = RemoveTag i v q
after_look_under i v q Undecided = InstallPointer i v q
after_look_under i v q (Deciding d) = RemoveTag i v q
after_look_under i v q (Decided d) = RemoveTag i v q

-- the compare-and-swap of tag q of worker v to a new word, which found this word
abbrev pub after_untag : Entries → Memory → ℕ → ℕ → ℕ → ℕ → WordKind → Next → Next → WordKind → After
after_untag x m s i v q new changed unchanged (Value u) = record { memory = m; next = unchanged }
after_untag x m s i v q new changed unchanged (Dirty u) = record { memory = m; next = unchanged }
after_untag x m s i v q new changed unchanged (Swap t) = record { memory = m; next = unchanged }
after_untag x m s i v q new changed unchanged (Tag t j u p) =
    if ((t == s) && (j == i)) && ((u == v) && (p == q))
    then record { memory = with_word m (x.target i) new; next = changed }
    else record { memory = m; next = unchanged }

-- the compare-and-swap of the dirty value v to the plain one, which found this word
abbrev pub cleared_word : Memory → ℕ → ℕ → WordKind → Memory
cleared_word m a v (Value u) = m
cleared_word m a v (Swap t) = m
cleared_word m a v (Tag t j u q) = m
cleared_word m a v (Dirty u) = if u == v then with_word m a (Value v) else m

-- the compare-and-swap of undecided to a verdict with the dirty bit, which found this status
abbrev pub after_decide : Memory → ℕ → Verdict → SwapStatus → After
after_decide m s d Free = stays m (by_status Free)
after_decide m s d Undecided = record { memory = with_status m s (Deciding d); next = Step (AskStatus d) }
after_decide m s d (Deciding c) = stays m (by_status (Deciding c))
after_decide m s d (Decided c) = stays m (by_status (Decided c))

-- the compare-and-swap of the dirty bit of a verdict away, which found this status
abbrev pub cleared_status : Memory → ℕ → Verdict → SwapStatus → Memory
cleared_status m s d Free = m
cleared_status m s d Undecided = m
cleared_status m s Succeeded (Deciding Succeeded) = with_status m s (Decided Succeeded)
cleared_status m s Succeeded (Deciding Failed) = m
cleared_status m s Failed (Deciding Succeeded) = m
cleared_status m s Failed (Deciding Failed) = with_status m s (Decided Failed)
cleared_status m s d (Decided c) = m

-- the compare-and-swap of the pointer to the final value with the dirty bit, which found this word
abbrev pub after_put_final : Entries → Memory → ℕ → ℕ → Verdict → WordKind → After
after_put_final x m s i d (Value v) = record { memory = m; next = finished x i d }
after_put_final x m s i d (Dirty v) = record { memory = m; next = finished x i d }
after_put_final x m s i d (Swap t) =
    if t == s
    then record { memory = with_word m (x.target i) (Dirty (final_value x i d)); next = Step (AskFinal i d) }
    else record { memory = m; next = finished x i d }
after_put_final x m s i d (Tag t j v q) = record { memory = m; next = if t == s then Step (SweepTag i d v q) else finished x i d }

-- one act of worker w on swap s
abbrev pub help_act : Entries → Memory → ℕ → ℕ → HelpStep → After
help_act x m w s Look = stays m (by_status (m.status s))
help_act x m w s (InstallTag i) = after_install_tag x m w s i (m.cached (x.target i))
help_act x m w s (LookUnderTag i v q) = stays m (after_look_under i v q (m.status s))
help_act x m w s (InstallPointer i v q) = after_untag x m s i v q (Swap s) (Step (passed x i)) (Step (InstallTag i)) (m.cached (x.target i))
help_act x m w s (RemoveTag i v q) = after_untag x m s i v q (Value (x.expected i)) (Step Look) (Step Look) (m.cached (x.target i))
help_act x m w s (AskDirty i v) = record { memory = with_ask m w (line_of (x.target i)); next = Step (FenceDirty i v) }
help_act x m w s (FenceDirty i v) = record { memory = fenced m w; next = Step (ClearDirty i v) }
help_act x m w s (ClearDirty i v) = record { memory = cleared_word m (x.target i) v (m.cached (x.target i)); next = Step (InstallTag i) }
help_act x m w s (AskTarget i) = record {
  memory = with_ask m w (line_of (x.target i));
  next = Step (if i + 1 == x.count then FenceTargets else AskTarget (i + 1));
}
help_act x m w s FenceTargets = record { memory = fenced m w; next = Step (Decide Succeeded) }
help_act x m w s (Decide d) = after_decide m s d (m.status s)
help_act x m w s (AskStatus d) = record { memory = with_ask m w (head_of s); next = Step (FenceStatus d) }
help_act x m w s (FenceStatus d) = record { memory = fenced m w; next = Step (ClearStatus d) }
help_act x m w s (ClearStatus d) = record { memory = cleared_status m s d (m.status s); next = Step (PutFinal 0 d) }
help_act x m w s (PutFinal i d) = after_put_final x m s i d (m.cached (x.target i))
help_act x m w s (AskFinal i d) = record { memory = with_ask m w (line_of (x.target i)); next = Step (FenceFinal i d) }
help_act x m w s (FenceFinal i d) = record { memory = fenced m w; next = Step (ClearFinal i d) }
help_act x m w s (ClearFinal i d) = record { memory = cleared_word m (x.target i) (final_value x i d) (m.cached (x.target i)); next = finished x i d }
help_act x m w s (SweepTag i d v q) = after_untag x m s i v q (Value (x.expected i)) (finished x i d) (Step (PutFinal i d)) (m.cached (x.target i))
