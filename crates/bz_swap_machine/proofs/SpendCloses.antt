-- A worker that clears the dirty bit of a swap's status, or puts a final value for its pointer, spends one, also where the swap is through then.
use Rattle.std.proofs.Common.{◌≡◌, ◌==◌, ◌&&◌, if◌then◌else◌, ℕ, ◌+◌, ◌-◌, ◌*◌, ◌<◌, ◌≤◌, Bool, true, false, arith, refl, ap, subst}
use Rattle.std.proofs.lemmas.Grind.{common_steps}
use Rattle.bz_word.specs.declared.kind.WordKind.TheVariants.{Dirty, Swap}
use Rattle.bz_swap_machine.specs.declared.place.HelpStep.TheVariants.{ClearStatus, PutFinal, AskFinal}
use Rattle.bz_swap_machine.specs.declared.place.Place.TheVariants.{Help}
use Rattle.bz_swap_machine.specs.declared.status.SwapStatus.{SwapStatus}
use Rattle.bz_swap_machine.specs.declared.status.SwapStatus.TheVariants.{Free, Undecided, Deciding, Decided}
use Rattle.bz_swap_machine.specs.declared.status.Verdict.{Verdict}
use Rattle.bz_swap_machine.specs.declared.status.Verdict.TheVariants.{Succeeded, Failed}
use Rattle.bz_swap_machine.specs.Budget.{is_over_at, is_swept, budget_at, fresh_budget}
use Rattle.bz_swap_machine.specs.Budgets.{IsBounded}
use Rattle.bz_swap_machine.specs.Changes.{put, with_word, with_status}
use Rattle.bz_swap_machine.specs.HelpActs.{final_value, cleared_status}
use Rattle.bz_swap_machine.specs.Machine.{Entries, Memory}
use Rattle.bz_swap_machine.specs.Standing.{is_pointer, stands_for, is_tag, is_dirty, is_decided, is_clean, is_through, missing, top, scene_of}
use Rattle.bz_swap_machine.specs.State.{State}
use Rattle.bz_swap_machine.specs.Steps.{Local}
use Rattle.bz_swap_machine.proofs.Closings.{Closing, closing-falls}
use Rattle.bz_swap_machine.proofs.Compared.{NoMore, no-more, through-stays, top-less}
use Rattle.bz_swap_machine.proofs.Openers.{pointer-unfinished}
use Rattle.bz_swap_machine.proofs.Spends.{meets, Spends, here-falls}
use Rattle.bz_swap_machine.proofs.Truths.{differ}
use Rattle.bz_swap_machine.proofs.Visits.{put-implied, put-told, unclean-through, not-over, lt-between, missing-less, own-less}

-- the status of a decided swap becomes clean
abbrev cleaned : Memory → ℕ → Verdict → Memory
cleaned m c d = with_status m c (Decided d)

status-told : (test : SwapStatus → Bool) (status : ℕ → SwapStatus) (c : ℕ) (new : SwapStatus) (s : ℕ) → (test (status c) ≡ true → test new ≡ true) → test (status s) ≡ true → test (put status c new s) ≡ true
status-told test status c new s told is = by_same (s == c) refl
  where
    by_same : (b : Bool) → (s == c) ≡ b → test (if b then new else status s) ≡ true
    by_same false apart = is
    by_same true same = let here : s ≡ c = grind (arith, common_steps, same) in told (subst (λ k. test (status k) ≡ true) here is)

closing-cleaned : (e : ℕ → Entries) (local : ℕ → Local) (m : Memory) (c : ℕ) (k d : Verdict) → m.status c ≡ Deciding k → Closing e local m (cleaned m c d) c
closing-cleaned e local m c k d found = record {
  settled = ap is_decided found;
  unfinished = unclean-through e local m c (ap is_clean found);
  decided = λ s. status-told is_decided m.status c (Decided d) s (λ is. refl);
  through = λ s. through-stays e local m (cleaned m c d) s (status-told is_clean m.status c (Decided d) s (λ is. refl)) (λ j below is. is);
  higher = λ s t apart is. is;
}

none-swept : (over : Bool) (l : Local) (d : Verdict) (s j : ℕ) → over ≡ false → is_swept over l (Help (ClearStatus d)) s j ≡ false
none-swept over l d s j none = rw none refl

missing-cleaned : (e : ℕ → Entries) (local : ℕ → Local) (m : Memory) (c : ℕ) (d : Verdict) (s : ℕ) → missing (meets e local (cleaned m c d)) s ≤ missing (meets e local m) s
missing-cleaned e local m c d s = missing-less e local m (cleaned m c d) s (status-told is_decided m.status c (Decided d) s (λ is. refl)) (λ unset j below is. is)

nothing-cleaned : (e : ℕ → Entries) (local : ℕ → Local) (m : Memory) (w : ℕ) (l : Local) (k d : Verdict) → m.status l.current ≡ Deciding k → NoMore e local m (cleaned m l.current d) w l l (Help (ClearStatus d)) (Help (PutFinal 0 d))
nothing-cleaned e local m w l k d found = record {
  through = (closing-cleaned e local m l.current k d found).through;
  missing = missing-cleaned e local m l.current d;
  tags = λ v s i t other is swept. (is, none-swept (is_over_at (meets e local m) l (Help (ClearStatus d))) l d s i (not-over e local m l (unclean-through e local m l.current (ap is_clean found))));
  dirty = λ s i b is cleans. (is, refl);
}

clear-falls : (x : State) (w n : ℕ) (k d : Verdict) → IsBounded x n → x.memory.published (x.local w).current ≡ true → x.memory.status (x.local w).current ≡ Deciding k
    → fresh_budget (meets x.entries x.local (cleaned x.memory (x.local w).current d)) w n (x.local w) (Help (PutFinal 0 d)) + 1 ≤ fresh_budget (scene_of x) w n (x.local w) (Help (ClearStatus d))
clear-falls x w n k d bounded published found =
    closing-falls x (cleaned x.memory (x.local w).current d) w n (ClearStatus d) (PutFinal 0 d) bounded published (closing-cleaned x.entries x.local x.memory (x.local w).current k d found)
    (sums _ _ _ _ (own-less x.entries x.local x.memory (cleaned x.memory (x.local w).current d) (x.local w).operation (missing-cleaned x.entries x.local x.memory (x.local w).current d))
    (no-more x.entries x.local x.memory (cleaned x.memory (x.local w).current d) w n (x.local w) (x.local w) (Help (ClearStatus d)) (Help (PutFinal 0 d)) (nothing-cleaned x.entries x.local x.memory w (x.local w) k d found)))
  where
    sums : (a b a' b' : ℕ) → a' ≤ a → b' ≤ b → a' + 16 + b' + 1 ≤ a + 17 + b
    sums a b a' b' f g = omega (arith, f, g)

-- the dirty bit of the status is cleared
pub spends-clear_status : (x : State) (w n : ℕ) (d : Verdict) → IsBounded x n → x.memory.published (x.local w).current ≡ true → Spends x.entries x.local x.memory w n (x.local w) (Help (ClearStatus d))
spends-clear_status x w n d bounded published = by_found d (x.memory.status (x.local w).current) refl
  where
    same : (k : Verdict) → budget_at (scene_of x) w n (x.local w) (Help (PutFinal 0 k)) + 1 ≤ budget_at (scene_of x) w n (x.local w) (Help (ClearStatus k))
    same k = here-falls (scene_of x) w n (x.local w) (x.local w) (Help (ClearStatus k)) (Help (PutFinal 0 k)) refl refl refl refl refl (omega arith)

    by_found : (k : Verdict) (found : SwapStatus) → x.memory.status (x.local w).current ≡ found
        → budget_at (meets x.entries x.local (cleared_status x.memory (x.local w).current k found)) w n (x.local w) (Help (PutFinal 0 k)) + 1 ≤ budget_at (scene_of x) w n (x.local w) (Help (ClearStatus k))
    by_found k Free is = same k
    by_found k Undecided is = same k
    by_found Succeeded (Deciding Succeeded) is = clear-falls x w n Succeeded Succeeded bounded published is
    by_found Succeeded (Deciding Failed) is = same Succeeded
    by_found Failed (Deciding Succeeded) is = same Failed
    by_found Failed (Deciding Failed) is = clear-falls x w n Failed Failed bounded published is
    by_found k (Decided c) is = same k

-- the final value, with the dirty bit, in place of the pointer
abbrev finalized : Memory → ℕ → ℕ → Memory
finalized m a f = with_word m a (Dirty f)

fewer-pointers : (m : Memory) (a f b s : ℕ) → is_pointer ((finalized m a f).cached b) s ≡ true → is_pointer (m.cached b) s ≡ true
fewer-pointers m a f b s = put-implied (λ k. is_pointer k s) m.cached a (Dirty f) b (λ is. absurd cc)

fewer-stands : (m : Memory) (a f b s : ℕ) → stands_for ((finalized m a f).cached b) s ≡ true → stands_for (m.cached b) s ≡ true
fewer-stands m a f b s = put-implied (λ k. stands_for k s) m.cached a (Dirty f) b (λ is. absurd cc)

more-stands : (m : Memory) (a f c b s : ℕ) → m.cached a ≡ Swap c → (s == c) ≡ false → stands_for (m.cached b) s ≡ true → stands_for ((finalized m a f).cached b) s ≡ true
more-stands m a f c b s found apart =
    put-told (λ k. stands_for k s) m.cached a (Dirty f) b
    (λ is.
    let told : (c == s) ≡ true = subst (λ k. stands_for k s ≡ true) found is in
    absurd (grind (arith, common_steps, told, apart)))

more-pointers : (m : Memory) (a f c b s : ℕ) → m.cached a ≡ Swap c → is_decided (m.status c) ≡ true → is_decided (m.status s) ≡ false → is_pointer (m.cached b) s ≡ true → is_pointer ((finalized m a f).cached b) s ≡ true
more-pointers m a f c b s found settled unset =
    put-told (λ k. is_pointer k s) m.cached a (Dirty f) b
    (λ is.
    let told : (c == s) ≡ true = subst (λ k. is_pointer k s ≡ true) found is in
    let same : c ≡ s = grind (arith, common_steps, told) in
    differ (is_decided (m.status s)) (subst (λ k. is_decided (m.status k) ≡ true) same settled) unset)

fewer-tags : (m : Memory) (a f b s i v q : ℕ) → is_tag ((finalized m a f).cached b) s i v q ≡ true → is_tag (m.cached b) s i v q ≡ true
fewer-tags m a f b s i v q = put-implied (λ k. is_tag k s i v q) m.cached a (Dirty f) b (λ is. absurd cc)

-- the new dirty value is the one that the worker is about to clean
fewer-dirty : (m : Memory) (a f b u : ℕ) → ((a == b) && (f == u)) ≡ false → is_dirty ((finalized m a f).cached b) u ≡ true → is_dirty (m.cached b) u ≡ true
fewer-dirty m a f b u none = by_same (b == a) refl
  where
    by_same : (t : Bool) → (b == a) ≡ t → is_dirty (if t then Dirty f else m.cached b) u ≡ true → is_dirty (m.cached b) u ≡ true
    by_same false told is = is
    by_same true told is = absurd (grind (arith, common_steps, told, is, none))

through-finalized : (e : ℕ → Entries) (local : ℕ → Local) (m : Memory) (a f s : ℕ) → is_through (meets e local m) s ≡ true → is_through (meets e local (finalized m a f)) s ≡ true
through-finalized e local m a f s = through-stays e local m (finalized m a f) s (λ is. is) (λ j below. fewer-pointers m a f ((e s).target j) s)

missing-finalized : (e : ℕ → Entries) (local : ℕ → Local) (m : Memory) (a f c s : ℕ) → m.cached a ≡ Swap c → is_decided (m.status c) ≡ true → missing (meets e local (finalized m a f)) s ≤ missing (meets e local m) s
missing-finalized e local m a f c s found settled = missing-less e local m (finalized m a f) s (λ is. is) (λ unset j below. more-pointers m a f c ((e s).target j) s found settled unset)

closing-finalized : (e : ℕ → Entries) (local : ℕ → Local) (m : Memory) (a f c : ℕ) → m.cached a ≡ Swap c → is_decided (m.status c) ≡ true → is_through (meets e local m) c ≡ false → Closing e local m (finalized m a f) c
closing-finalized e local m a f c found settled unfinished = record {
  settled = settled;
  unfinished = unfinished;
  decided = λ s is. is;
  through = λ s. through-finalized e local m a f s;
  higher = λ s t apart. lt-between (top (meets e local m) s) (top (meets e local (finalized m a f)) s) (top (meets e local m) t) (top (meets e local (finalized m a f)) t)
      (top-less e local (finalized m a f) m s (λ j below. more-stands m a f c ((e s).target j) s found apart)) (top-less e local m (finalized m a f) t (λ j below. fewer-stands m a f ((e t).target j) t));
}

none-kept : (over : Bool) (l : Local) (i : ℕ) (d : Verdict) (s j : ℕ) → over ≡ false → is_swept over l (Help (PutFinal i d)) s j ≡ false
none-kept over l i d s j none = rw none refl

nothing-finalized : (e : ℕ → Entries) (local : ℕ → Local) (m : Memory) (w : ℕ) (l : Local) (i : ℕ) (d : Verdict) → m.cached ((e l.current).target i) ≡ Swap l.current → is_decided (m.status l.current) ≡ true → is_through (meets e local m) l.current ≡ false
    → NoMore e local m (finalized m ((e l.current).target i) (final_value (e l.current) i d)) w l l (Help (PutFinal i d)) (Help (AskFinal i d))
nothing-finalized e local m w l i d found settled unfinished = record {
  through = λ s. through-finalized e local m ((e l.current).target i) (final_value (e l.current) i d) s;
  missing = λ s. missing-finalized e local m ((e l.current).target i) (final_value (e l.current) i d) l.current s found settled;
  tags = λ v s j t other is swept. (fewer-tags m ((e l.current).target i) (final_value (e l.current) i d) ((e s).target j) s j v t is, none-kept (is_over_at (meets e local m) l (Help (PutFinal i d))) l i d s j (not-over e local m l unfinished));
  dirty = λ s j b is cleans. (fewer-dirty m ((e l.current).target i) (final_value (e l.current) i d) ((e s).target j) (final_value (e s) j b) cleans is, refl);
}

-- the pointer of the swap stands at the entry
pub put-falls : (x : State) (w n i : ℕ) (d : Verdict) → IsBounded x n → x.memory.published (x.local w).current ≡ true → i < 4 → x.memory.cached ((x.entries (x.local w).current).target i) ≡ Swap (x.local w).current → is_decided (x.memory.status (x.local w).current) ≡ true
    → fresh_budget (meets x.entries x.local (finalized x.memory ((x.entries (x.local w).current).target i) (final_value (x.entries (x.local w).current) i d))) w n (x.local w) (Help (AskFinal i d)) + 1 ≤ fresh_budget (scene_of x) w n (x.local w) (Help (PutFinal i d))
put-falls x w n i d bounded published small found settled =
    let unfinished : is_through (scene_of x) (x.local w).current ≡ false = pointer-unfinished x n (x.local w).current ((x.entries (x.local w).current).target i) bounded found in
    closing-falls x (finalized x.memory ((x.entries (x.local w).current).target i) (final_value (x.entries (x.local w).current) i d)) w n (PutFinal i d) (AskFinal i d) bounded published
    (closing-finalized x.entries x.local x.memory ((x.entries (x.local w).current).target i) (final_value (x.entries (x.local w).current) i d) (x.local w).current found settled unfinished)
    (sums _ _ _ _
    (own-less x.entries x.local x.memory (finalized x.memory ((x.entries (x.local w).current).target i) (final_value (x.entries (x.local w).current) i d)) (x.local w).operation
    (λ s. missing-finalized x.entries x.local x.memory ((x.entries (x.local w).current).target i) (final_value (x.entries (x.local w).current) i d) (x.local w).current s found settled))
    (no-more x.entries x.local x.memory (finalized x.memory ((x.entries (x.local w).current).target i) (final_value (x.entries (x.local w).current) i d)) w n (x.local w) (x.local w) (Help (PutFinal i d)) (Help (AskFinal i d))
    (nothing-finalized x.entries x.local x.memory w (x.local w) i d found settled unfinished)))
  where
    sums : (a b a' b' : ℕ) → a' ≤ a → b' ≤ b → a' + (3 + 4 * (3 - i)) + b' + 1 ≤ a + 4 * (4 - i) + b
    sums a b a' b' f g = omega (arith, f, g, small)
