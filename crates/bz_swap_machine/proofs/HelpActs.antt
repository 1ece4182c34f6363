-- Every act on a published swap keeps the invariant.
use Rattle.std.proofs.Common.{◌≡◌, ◌≢◌, ℕ, ◌<◌, true, arith, refl, None}
use Rattle.bz_word.specs.declared.kind.WordKind.TheVariants.{Value}
use Rattle.bz_swap_machine.specs.declared.status.Verdict.{Verdict}
use Rattle.bz_swap_machine.specs.Machine.{Entries, Memory}
use Rattle.bz_swap_machine.specs.Changes.{with_word, line_of, with_ask, fenced}
use Rattle.bz_swap_machine.specs.Sound.{AreApart, Sound}
use Rattle.bz_swap_machine.specs.Facts.{Fact}
use Rattle.bz_swap_machine.specs.declared.place.HelpStep.{HelpStep}
use Rattle.bz_swap_machine.specs.declared.place.HelpStep.TheVariants.{Look, InstallTag, LookUnderTag, InstallPointer, RemoveTag, AskDirty, FenceDirty, ClearDirty, AskTarget, FenceTargets, Decide, AskStatus, FenceStatus, ClearStatus, PutFinal, AskFinal, FenceFinal, ClearFinal, SweepTag}
use Rattle.bz_swap_machine.specs.declared.place.Next.TheVariants.{Step}
use Rattle.bz_swap_machine.specs.HelpActs.{finished, final_value, after_untag, cleared_word, help_act}
use Rattle.bz_swap_machine.proofs.Fine.{Fine, fine-same, fact-by_status, fact-finished}
use Rattle.bz_swap_machine.proofs.Fences.{change-ask, change-fence}
use Rattle.bz_swap_machine.proofs.Change.{Change}
use Rattle.bz_swap_machine.proofs.Installs.{fine-install_tag, fine-look_under}
use Rattle.bz_swap_machine.proofs.Untags.{fine-untag, lawful-expected, fine-install_pointer, fine-remove_tag}
use Rattle.bz_swap_machine.proofs.Values.{change-cleared, fine-put_final}
use Rattle.bz_swap_machine.proofs.Verdicts.{fine-ask_target, fine-fence_targets, fine-decide}
use Rattle.bz_swap_machine.proofs.Flushes.{fine-ask_status, fine-fence_status, fine-clear_status}
use Rattle.bz_swap_machine.proofs.KeptFacts.{points-keeps}

-- an ask for the line of a word that was found dirty or put so, and the fence after it
fine-ask_dirty : (e : ℕ → Entries) (m : Memory) (w s i v : ℕ) → Fact e m w s (AskDirty i v) → Sound e m → Fine e m w s (record { memory = with_ask m w (line_of ((e s).target i)); next = Step (FenceDirty i v) })
fine-ask_dirty e m w s i v f g = record { change = change-ask e m w (line_of ((e s).target i)) s g; fact = f }

fine-fence_dirty : (e : ℕ → Entries) (m : Memory) (w s i v : ℕ) → ((t : ℕ) → t ≢ s → (m.status_pending t).asked w ≡ None) → AreApart e → Fact e m w s (FenceDirty i v) → Sound e m
    → Fine e m w s (record { memory = fenced m w; next = Step (ClearDirty i v) })
fine-fence_dirty e m w s i v only o f g = record { change = change-fence e m w s only o g; fact = f }

fine-ask_final : (e : ℕ → Entries) (m : Memory) (w s i : ℕ) (d : Verdict) → Fact e m w s (AskFinal i d) → Sound e m → Fine e m w s (record { memory = with_ask m w (line_of ((e s).target i)); next = Step (FenceFinal i d) })
fine-ask_final e m w s i d f g = record { change = change-ask e m w (line_of ((e s).target i)) s g; fact = f }

fine-fence_final : (e : ℕ → Entries) (m : Memory) (w s i : ℕ) (d : Verdict) → ((t : ℕ) → t ≢ s → (m.status_pending t).asked w ≡ None) → AreApart e → Fact e m w s (FenceFinal i d) → Sound e m
    → Fine e m w s (record { memory = fenced m w; next = Step (ClearFinal i d) })
fine-fence_final e m w s i d only o f g =
    let c : Change e m (fenced m w) s = change-fence e m w s only o g in
    record { change = c; fact = (f.0, c.keeps.durable_verdict s d f.1) }

fine-clear_dirty : (e : ℕ → Entries) (m : Memory) (w s i v : ℕ) → m.published s ≡ true → Fact e m w s (ClearDirty i v) → Sound e m
    → Fine e m w s (record { memory = cleared_word m ((e s).target i) v (m.cached ((e s).target i)); next = Step (InstallTag i) })
fine-clear_dirty e m w s i v p f g =
    let n : Memory = cleared_word m ((e s).target i) v (m.cached ((e s).target i)) in
    let c : Change e m n s = change-cleared e m s ((e s).target i) v (m.cached ((e s).target i)) refl g in
    record { change = c; fact = (f.0, points-keeps e m n s i c.keeps p (omega arith) f.1) }

fine-clear_final : (e : ℕ → Entries) (m : Memory) (w s i : ℕ) (d : Verdict) → Fact e m w s (ClearFinal i d) → Sound e m
    → Fine e m w s (record { memory = cleared_word m ((e s).target i) (final_value (e s) i d) (m.cached ((e s).target i)); next = finished (e s) i d })
fine-clear_final e m w s i d f g =
    let n : Memory = cleared_word m ((e s).target i) (final_value (e s) i d) (m.cached ((e s).target i)) in
    let c : Change e m n s = change-cleared e m s ((e s).target i) (final_value (e s) i d) (m.cached ((e s).target i)) refl g in
    record { change = c; fact = fact-finished e n w s i d f.0 (c.keeps.durable_verdict s d f.1) }

fine-sweep : (e : ℕ → Entries) (m : Memory) (w s i : ℕ) (d : Verdict) (v q : ℕ) → Fact e m w s (SweepTag i d v q) → Sound e m
    → Fine e m w s (after_untag (e s) m s i v q (Value ((e s).expected i)) (finished (e s) i d) (Step (PutFinal i d)) (m.cached ((e s).target i)))
fine-sweep e m w s i d v q f g = fine-untag e m w s i v q (Value ((e s).expected i)) (finished (e s) i d) (Step (PutFinal i d)) _ refl g f
    (λ h. (lawful-expected e m s i v q (g.targets s i f.0) h, λ k. fact-finished e (with_word m ((e s).target i) (Value ((e s).expected i))) w s i d f.0 (k.durable_verdict s d f.1)))

-- every act on a published swap, by the swap's own entries; the worker has asked for the status of no other swap
pub fine-help_act : (e : ℕ → Entries) (m : Memory) (w s : ℕ) (step : HelpStep) → ((t : ℕ) → t ≢ s → (m.status_pending t).asked w ≡ None) → AreApart e → m.published s ≡ true → 0 < (e s).count → Fact e m w s step → Sound e m → Fine e m w s (help_act (e s) m w s step)
fine-help_act e m w s Look only o p n f g = fine-same e m w s _ g (fact-by_status e m w s (m.status s) refl p n g)
fine-help_act e m w s (InstallTag i) only o p n f g = fine-install_tag e m w s i _ refl p f g
fine-help_act e m w s (LookUnderTag i v q) only o p n f g = fine-look_under e m w s i v q _ refl f g
fine-help_act e m w s (InstallPointer i v q) only o p n f g = fine-install_pointer e m w s i v q o p f g
fine-help_act e m w s (RemoveTag i v q) only o p n f g = fine-remove_tag e m w s i v q f g
fine-help_act e m w s (AskDirty i v) only o p n f g = fine-ask_dirty e m w s i v f g
fine-help_act e m w s (FenceDirty i v) only o p n f g = fine-fence_dirty e m w s i v only o f g
fine-help_act e m w s (ClearDirty i v) only o p n f g = fine-clear_dirty e m w s i v p f g
fine-help_act e m w s (AskTarget i) only o p n f g = fine-ask_target e m w s i f g
fine-help_act e m w s FenceTargets only o p n f g = fine-fence_targets e m w s only o f g
fine-help_act e m w s (Decide d) only o p n f g = fine-decide e m w s d _ refl p n f g
fine-help_act e m w s (AskStatus d) only o p n f g = fine-ask_status e m w s d f g
fine-help_act e m w s (FenceStatus d) only o p n f g = fine-fence_status e m w s d only o f g
fine-help_act e m w s (ClearStatus d) only o p n f g = fine-clear_status e m w s d p n f g
fine-help_act e m w s (PutFinal i d) only o p n f g = fine-put_final e m w s i d _ refl o f g
fine-help_act e m w s (AskFinal i d) only o p n f g = fine-ask_final e m w s i d f g
fine-help_act e m w s (FenceFinal i d) only o p n f g = fine-fence_final e m w s i d only o f g
fine-help_act e m w s (ClearFinal i d) only o p n f g = fine-clear_final e m w s i d f g
fine-help_act e m w s (SweepTag i d v q) only o p n f g = fine-sweep e m w s i d v q f g
