-- The acts that leave an entry its final value, or find it there, spend one: then the next entry is due, or the swap is complete.
use Rattle.std.proofs.Common.{◌≡◌, ◌≢◌, ◌==◌, if◌then◌else◌, ℕ, ◌+◌, ◌-◌, ◌*◌, ◌<◌, ◌≤◌, Bool, true, false, arith, refl, ap, sym, subst, ◌∙◌, Some, None}
use Rattle.std.proofs.lemmas.Bool.{ltb-true, ltb-false}
use Rattle.std.proofs.lemmas.Grind.{common_steps}
use Rattle.std.specs.Prelude.{nat_lt}
use Rattle.std.specs.declared.option.Option.{Option}
use Rattle.bz_word.specs.declared.kind.WordKind.{WordKind}
use Rattle.bz_word.specs.declared.kind.WordKind.TheVariants.{Value, Dirty, Swap, Tag}
use Rattle.bz_swap_machine.specs.declared.done.Done.TheVariants.{Busy, Swapped}
use Rattle.bz_swap_machine.specs.declared.place.HelpStep.{HelpStep}
use Rattle.bz_swap_machine.specs.declared.place.HelpStep.TheVariants.{PutFinal, ClearFinal, SweepTag}
use Rattle.bz_swap_machine.specs.declared.place.Next.TheVariants.{Step, Complete}
use Rattle.bz_swap_machine.specs.declared.place.Place.TheVariants.{Help}
use Rattle.bz_swap_machine.specs.declared.status.SwapStatus.{SwapStatus}
use Rattle.bz_swap_machine.specs.declared.status.SwapStatus.TheVariants.{Free, Undecided, Deciding, Decided}
use Rattle.bz_swap_machine.specs.declared.status.Verdict.{Verdict}
use Rattle.bz_swap_machine.specs.declared.worker.Operation.{Operation}
use Rattle.bz_swap_machine.specs.declared.worker.Operation.TheVariants.{Nothing, Reading, Swapping}
use Rattle.bz_swap_machine.specs.Agrees.{agree-spell}
use Rattle.bz_swap_machine.specs.Budget.{left_in_help, swept_in, cleans_in, fresh_budget, is_fresh_at, budget_at}
use Rattle.bz_swap_machine.specs.Budgets.{IsBounded}
use Rattle.bz_swap_machine.specs.Changes.{put, with_answer}
use Rattle.bz_swap_machine.specs.Ends.{IsClean, IsLast, IsBehind, IsInLast, HasBehind}
use Rattle.bz_swap_machine.specs.HelpActs.{final_value, finished, cleared_word, help_act}
use Rattle.bz_swap_machine.specs.Knows.{AtPlace}
use Rattle.bz_swap_machine.specs.Machine.{entries_in}
use Rattle.bz_swap_machine.specs.Standing.{is_pointer, stands_for, is_tag, is_dirty, is_decided, is_through, Scene, scene_of}
use Rattle.bz_swap_machine.specs.State.{State}
use Rattle.bz_swap_machine.specs.Steps.{Local, Stepped, is_own, is_success, answers, resumed, completed, after_help}
use Rattle.bz_swap_machine.proofs.AgreeActs.{help_act-agrees}
use Rattle.bz_swap_machine.proofs.Completions.{next-falls, answer-falls, resume-falls}
use Rattle.bz_swap_machine.proofs.Finishing.{Finishing, with_cached}
use Rattle.bz_swap_machine.proofs.Openers.{through-done}
use Rattle.bz_swap_machine.proofs.SpendClears.{dirty-told, cleared-to, cleared-same}
use Rattle.bz_swap_machine.proofs.SpendPointers.{tag-told}
use Rattle.bz_swap_machine.proofs.SpendStale.{Owes, untag-after}
use Rattle.bz_swap_machine.proofs.Spends.{meets, Spends}
use Rattle.bz_swap_machine.proofs.Truths.{differ}
use Rattle.bz_swap_machine.proofs.Visits.{put-implied, put-told, put-at}

pub clean-settled : (k : SwapStatus) → IsClean k → is_decided k ≡ true
clean-settled Free clean = absurd clean
clean-settled Undecided clean = absurd clean
clean-settled (Deciding d) clean = absurd clean
clean-settled (Decided d) clean = refl

-- what a worker in the last phase goes by
pub record Last (x : State) (w n i : ℕ) (p : HelpStep) : Type 0 where
  pub bounded : IsBounded x n
  pub at : (x.local w).place ≡ Help p
  pub last : IsLast p
  pub behind : (j : ℕ) → j < i → IsBehind p j
  pub swept : i ≤ swept_in p
  pub inside : i < (x.entries (x.local w).current).count
  pub left : 4 * (4 - (i + 1)) + 1 ≤ left_in_help p
  pub fresh : is_fresh_at (scene_of x) (x.local w).current (Help p) ≡ true

pub is-clean : (x : State) (w n i : ℕ) (p : HelpStep) → Last x w n i p → IsClean (x.memory.status (x.local w).current)
is-clean x w n i p last = last.bounded.ends.clean w (subst IsInLast (sym last.at) last.last)

-- the swap is through where this is its last entry, and its pointer does not stand there
all-done : (x : State) (w n i : ℕ) (p : HelpStep) → Last x w n i p → (x.memory.cached ((x.entries (x.local w).current).target i) ≢ Swap (x.local w).current) → i + 1 ≡ (x.entries (x.local w).current).count → is_through (scene_of x) (x.local w).current ≡ true
all-done x w n i p last none ends = through-done x (x.local w).current (is-clean x w n i p last) (λ j below. by_order j below (nat_lt j i) refl)
  where
    by_order : (j : ℕ) → j < (x.entries (x.local w).current).count → (b : Bool) → nat_lt j i ≡ b → x.memory.cached ((x.entries (x.local w).current).target j) ≢ Swap (x.local w).current
    by_order j below true told = (last.bounded.ends.done w j (subst (λ q. HasBehind q j) (sym last.at) (last.behind j (ltb-true j i told))) below).pointer
    by_order j below false told =
        let same : i ≡ j = omega (arith, below, ends, ltb-false j i told) in
        subst (λ k. x.memory.cached ((x.entries (x.local w).current).target k) ≢ Swap (x.local w).current) same none

-- a worker that goes on with another swap, or its read, goes by what holds
resumed-falls : (y : Scene) (w n : ℕ) (l : Local) (back : Option ℕ) (o : Operation) (k : ℕ) → fresh_budget y w n (resumed l back o) (resumed l back o).place + 1 ≤ k → budget_at y w n (resumed l back o) (resumed l back o).place + 1 ≤ k
resumed-falls y w n l (Some b) o k le = le
resumed-falls y w n l None Nothing k le = le
resumed-falls y w n l None (Reading a) k le = le
resumed-falls y w n l None (Swapping s) k le = le

-- what this outcome owes
abbrev Falls : State → ℕ → ℕ → HelpStep → Stepped → Type 0
Falls x w n p z = budget_at (meets x.entries x.local z.memory) w n z.local z.local.place + 1 ≤ fresh_budget (scene_of x) w n (x.local w) (Help p)

single : (k j : ℕ) → k + 1 ≤ j → 1 ≤ j
single k j le = omega (arith, le)

complete-falls : (x : State) (f : ℕ → WordKind) (w n i : ℕ) (d : Verdict) (p : HelpStep) → Last x w n i p → Finishing x f w i p → (x.memory.cached ((x.entries (x.local w).current).target i) ≢ Swap (x.local w).current) → i + 1 ≡ (x.entries (x.local w).current).count
    → Falls x w n p (completed (with_cached x.memory f) (x.local w) d)
complete-falls x f w n i d p last finishing none ends = by_own (is_own (x.local w).operation (x.local w).current) refl
  where
    by_own : (b : Bool) → is_own (x.local w).operation (x.local w).current ≡ b
        → Falls x w n p (if b then answers (with_answer (with_cached x.memory f) (x.local w).current d) (x.local w) (Swapped (is_success d)) else record { memory = with_cached x.memory f; local = resumed (x.local w) (x.local w).back (x.local w).operation; done = Busy })
    by_own true own = answer-falls x f w n i p last.bounded finishing ends (single _ _ last.left) own
    by_own false own =
        resumed-falls (meets x.entries x.local (with_cached x.memory f)) w n (x.local w) (x.local w).back (x.local w).operation (fresh_budget (scene_of x) w n (x.local w) (Help p))
        (resume-falls x f w n i p last.bounded finishing ends (single _ _ last.left) own (all-done x w n i p last none ends) last.at (x.local w).back refl (x.local w).operation refl)

-- what follows when the entry holds its final value
pub finished-falls : (x : State) (f : ℕ → WordKind) (w n i : ℕ) (d : Verdict) (p : HelpStep) → Last x w n i p → Finishing x f w i p → (x.memory.cached ((x.entries (x.local w).current).target i) ≢ Swap (x.local w).current)
    → Owes x.entries x.local x.memory w n (x.local w) (Help p) (record { memory = with_cached x.memory f; next = finished (x.entries (x.local w).current) i d })
finished-falls x f w n i d p last finishing none = from-fresh _ _ _ _ last.fresh (by_last (i + 1 == (x.entries (x.local w).current).count) refl)
  where
    by_last : (b : Bool) → (i + 1 == (x.entries (x.local w).current).count) ≡ b → Falls x w n p (after_help (x.local w) (with_cached x.memory f) (if b then Complete d else Step (PutFinal (i + 1) d)))
    by_last true told = complete-falls x f w n i d p last finishing none (grind (arith, common_steps, told))
    by_last false told = next-falls x f w n i d p finishing last.left

    from-fresh : (t : Bool) (k j r : ℕ) → t ≡ true → r + 1 ≤ j → r + 1 ≤ (if t then j else k)
    from-fresh t k j r is le = rw is le

-- the worker's own words of the entries serve it like the swap's
pub by-entries : (x : State) (w n : ℕ) (step : HelpStep) → AtPlace x.entries x.memory w (x.local w) (Help step) → Owes x.entries x.local x.memory w n (x.local w) (Help step) (help_act (x.entries (x.local w).current) x.memory w (x.local w).current step)
    → Spends x.entries x.local x.memory w n (x.local w) (Help step)
by-entries x w n step known owes =
    subst (λ a. Owes x.entries x.local x.memory w n (x.local w) (Help step) a)
    (sym (help_act-agrees x.entries (entries_in (x.local w).list) x.memory w (x.local w).current step (agree-spell (x.entries (x.local w).current) (x.local w).list known.2) known.3)) owes

-- no word changes
pub same-words : (x : State) (w n i : ℕ) (p : HelpStep) → Last x w n i p → ((v q : ℕ) → is_tag (x.memory.cached ((x.entries (x.local w).current).target i)) (x.local w).current i v q ≡ true → i < swept_in p)
    → ((b u : ℕ) → cleans_in (scene_of x) (x.local w).current p b u ≡ true → is_dirty (x.memory.cached b) u ≡ true → ⊥) → Finishing x x.memory.cached w i p
same-words x w n i p last gone clean = record {
  settled = clean-settled (x.memory.status (x.local w).current) (is-clean x w n i p last);
  swept = last.swept;
  fewer_pointers = λ b s is. is;
  more_pointers = λ b s is. is;
  fewer_stands = λ b s is. is;
  more_stands = λ b s apart is. is;
  tags = λ b s j v q is. is;
  gone = gone;
  dirty = λ b u is. is;
  clean = clean;
}

-- a plain value comes in place of a word that was no pointer, and of no other swap
plain-words : (x : State) (w n i u : ℕ) (p : HelpStep) (k : WordKind) → Last x w n i p → x.memory.cached ((x.entries (x.local w).current).target i) ≡ k → ((s : ℕ) → is_pointer k s ≡ false)
    → ((s : ℕ) → (s == (x.local w).current) ≡ false → stands_for k s ≡ false)
    → ((b v : ℕ) → cleans_in (scene_of x) (x.local w).current p b v ≡ true → b ≡ (x.entries (x.local w).current).target i) → Finishing x (put x.memory.cached ((x.entries (x.local w).current).target i) (Value u)) w i p
plain-words x w n i u p k last found pointers stands clean = record {
  settled = clean-settled (x.memory.status (x.local w).current) (is-clean x w n i p last);
  swept = last.swept;
  fewer_pointers = λ b s. put-implied (λ j. is_pointer j s) x.memory.cached ((x.entries (x.local w).current).target i) (Value u) b (λ is. absurd cc);
  more_pointers = λ b s. put-told (λ j. is_pointer j s) x.memory.cached ((x.entries (x.local w).current).target i) (Value u) b (λ is. differ (is_pointer k s) (subst (λ j. is_pointer j s ≡ true) found is) (pointers s));
  fewer_stands = λ b s. put-implied (λ j. stands_for j s) x.memory.cached ((x.entries (x.local w).current).target i) (Value u) b (λ is. absurd cc);
  more_stands = λ b s apart. put-told (λ j. stands_for j s) x.memory.cached ((x.entries (x.local w).current).target i) (Value u) b (λ is. differ (stands_for k s) (subst (λ j. stands_for j s ≡ true) found is) (stands s apart));
  tags = λ b s j v q. put-implied (λ j'. is_tag j' s j v q) x.memory.cached ((x.entries (x.local w).current).target i) (Value u) b (λ is. absurd cc);
  gone = λ v q is. absurd (no-tag v q (subst (λ j. is_tag j (x.local w).current i v q ≡ true) (put-at x.memory.cached ((x.entries (x.local w).current).target i) (Value u) ((x.entries (x.local w).current).target i) refl) is));
  dirty = λ b v. put-implied (λ j. is_dirty j v) x.memory.cached ((x.entries (x.local w).current).target i) (Value u) b (λ is. absurd cc);
  clean = λ b v at is. no-dirty v (subst (λ j. is_dirty j v ≡ true) (put-at x.memory.cached ((x.entries (x.local w).current).target i) (Value u) b (clean b v at)) is);
}
  where
    no-tag : (v q : ℕ) → false ≡ true → ⊥
    no-tag v q is = absurd cc

    no-dirty : (v : ℕ) → false ≡ true → ⊥
    no-dirty v is = absurd cc

-- the facts of the last phase
pub last-at : (x : State) (w n i : ℕ) (p : HelpStep) → IsBounded x n → (x.local w).place ≡ Help p → IsLast p → ((j : ℕ) → j < i → IsBehind p j) → i ≤ swept_in p → i < (x.entries (x.local w).current).count → 4 * (4 - (i + 1)) + 1 ≤ left_in_help p
    → is_fresh_at (scene_of x) (x.local w).current (Help p) ≡ true → Last x w n i p
last-at x w n i p bounded at last behind swept inside left fresh = record { bounded = bounded; at = at; last = last; behind = behind; swept = swept; inside = inside; left = left; fresh = fresh }

pub swap-not : (k : WordKind) (s : ℕ) → is_pointer k s ≡ false → k ≢ Swap s
swap-not k s none is =
    let self : (s == s) ≡ true = grind (arith, common_steps) in
    differ (is_pointer k s) (ap (λ j. is_pointer j s) is ∙ self) none

-- the dirty bit of the final value is cleared, or the value is gone
pub spends-clear_final : (x : State) (w n i : ℕ) (d : Verdict) → IsBounded x n → (x.local w).place ≡ Help (ClearFinal i d) → AtPlace x.entries x.memory w (x.local w) (Help (ClearFinal i d)) → i < 4 → Spends x.entries x.local x.memory w n (x.local w) (Help (ClearFinal i d))
spends-clear_final x w n i d bounded at known small = by-entries x w n (ClearFinal i d) known (by_dirty (is_dirty (x.memory.cached ((x.entries (x.local w).current).target i)) (final_value (x.entries (x.local w).current) i d)) refl)
  where
    a : ℕ
    a = (x.entries (x.local w).current).target i

    u : ℕ
    u = final_value (x.entries (x.local w).current) i d

    last : Last x w n i (ClearFinal i d)
    last = last-at x w n i (ClearFinal i d) bounded at tt (λ j lt. omega (arith, lt)) (omega arith) known.3.0 (omega (arith, small)) refl

    none : x.memory.cached a ≢ Swap (x.local w).current
    none = (bounded.ends.done w i (subst (λ q. HasBehind q i) (sym at) (omega arith)) known.3.0).pointer

    cleaned : (b v : ℕ) → cleans_in (scene_of x) (x.local w).current (ClearFinal i d) b v ≡ true → (b ≡ a) × (v ≡ u)
    cleaned b v is = (grind (arith, common_steps, is), grind (arith, common_steps, is))

    by_dirty : (t : Bool) → is_dirty (x.memory.cached a) u ≡ t
        → Owes x.entries x.local x.memory w n (x.local w) (Help (ClearFinal i d)) (record { memory = cleared_word x.memory a u (x.memory.cached a); next = finished (x.entries (x.local w).current) i d })
    by_dirty true told =
        let is : x.memory.cached a ≡ Dirty u = dirty-told (x.memory.cached a) u told in
        subst (λ r. Owes x.entries x.local x.memory w n (x.local w) (Help (ClearFinal i d)) (record { memory = r; next = finished (x.entries (x.local w).current) i d })) (sym (cleared-to x.memory a u is))
        (finished-falls x (put x.memory.cached a (Value u)) w n i d (ClearFinal i d) last (plain-words x w n i u (ClearFinal i d) (Dirty u) last is (λ s. refl) (λ s apart. refl) (λ b v at. (cleaned b v at).0)) none)
    by_dirty false told =
        subst (λ r. Owes x.entries x.local x.memory w n (x.local w) (Help (ClearFinal i d)) (record { memory = r; next = finished (x.entries (x.local w).current) i d })) (sym (cleared-same x.memory a u (x.memory.cached a) told))
        (finished-falls x x.memory.cached w n i d (ClearFinal i d) last
        (same-words x w n i (ClearFinal i d) last (λ v q is. omega arith) (λ b v at is. differ (is_dirty (x.memory.cached a) u) (subst (λ j. is_dirty (x.memory.cached j) u ≡ true) (cleaned b v at).0 (subst (λ j. is_dirty (x.memory.cached b) j ≡ true) (cleaned b v at).1 is)) told)) none)

-- a late tag is swept
pub spends-sweep : (x : State) (w n i : ℕ) (d : Verdict) (v q : ℕ) → IsBounded x n → (x.local w).place ≡ Help (SweepTag i d v q) → AtPlace x.entries x.memory w (x.local w) (Help (SweepTag i d v q)) → i < 4
    → is_fresh_at (scene_of x) (x.local w).current (Help (SweepTag i d v q)) ≡ true → Spends x.entries x.local x.memory w n (x.local w) (Help (SweepTag i d v q))
spends-sweep x w n i d v q bounded at known small fresh =
    by-entries x w n (SweepTag i d v q) known
    (untag-after (x.entries (x.local w).current) x.memory (x.local w).current i v q (Value ((x.entries (x.local w).current).expected i)) (finished (x.entries (x.local w).current) i d) (Step (PutFinal i d)) (x.memory.cached ((x.entries (x.local w).current).target i))
    (Owes x.entries x.local x.memory w n (x.local w) (Help (SweepTag i d v q)))
    (λ told. finished-falls x (put x.memory.cached a (Value ((x.entries (x.local w).current).expected i))) w n i d (SweepTag i d v q) last
    (plain-words x w n i ((x.entries (x.local w).current).expected i) (SweepTag i d v q) (Tag (x.local w).current i v q) last found (λ s. refl) others (λ b u is. absurd cc)) (swap-not (x.memory.cached a) (x.local w).current (ap (λ k. is_pointer k (x.local w).current) found)))
    (λ told. differ (is_tag (x.memory.cached a) (x.local w).current i v q) fresh told))
  where
    a : ℕ
    a = (x.entries (x.local w).current).target i

    found : x.memory.cached a ≡ Tag (x.local w).current i v q
    found = tag-told (x.memory.cached a) (x.local w).current i v q fresh

    others : (s : ℕ) → (s == (x.local w).current) ≡ false → ((x.local w).current == s) ≡ false
    others s apart = grind (arith, common_steps, apart)

    last : Last x w n i (SweepTag i d v q)
    last = last-at x w n i (SweepTag i d v q) bounded at tt (λ j lt. lt) (omega arith) known.3.0 (omega (arith, small)) fresh
