-- The try of an entry spends one, whatever stands there: also where another swap stands in the way.
use Rattle.std.proofs.Common.{◌≡◌, ◌==◌, not, if◌then◌else◌, ℕ, ◌+◌, ◌*◌, ◌<◌, ◌≤◌, Bool, true, false, arith, refl, ap, sym, subst, ◌∙◌}
use Rattle.std.proofs.lemmas.Grind.{common_steps}
use Rattle.bz_word.specs.declared.kind.WordKind.{WordKind}
use Rattle.bz_word.specs.declared.kind.WordKind.TheVariants.{Value, Dirty, Swap, Tag}
use Rattle.bz_swap_machine.specs.declared.place.HelpStep.TheVariants.{InstallTag, LookUnderTag}
use Rattle.bz_swap_machine.specs.declared.place.Next.TheVariants.{Step, Meet}
use Rattle.bz_swap_machine.specs.declared.place.Place.TheVariants.{Learn, Help, ReadWord}
use Rattle.bz_swap_machine.specs.declared.status.SwapStatus.TheVariants.{Undecided}
use Rattle.bz_swap_machine.specs.declared.worker.Operation.TheVariants.{Reading}
use Rattle.bz_swap_machine.specs.Agrees.{agree-spell}
use Rattle.bz_swap_machine.specs.Budget.{is_fresh_at, budget_at}
use Rattle.bz_swap_machine.specs.Budgets.{IsBounded}
use Rattle.bz_swap_machine.specs.HelpActs.{passed}
use Rattle.bz_swap_machine.specs.Knows.{AtPlace}
use Rattle.bz_swap_machine.specs.Machine.{entries_in}
use Rattle.bz_swap_machine.specs.Standing.{stands_for, is_decided, is_through, scene_of}
use Rattle.bz_swap_machine.specs.State.{State}
use Rattle.bz_swap_machine.specs.Steps.{meeting, read_act}
use Rattle.bz_swap_machine.proofs.Openers.{undecided-told, met-published, meets-higher, pointer-unfinished}
use Rattle.bz_swap_machine.proofs.SpendClears.{Home}
use Rattle.bz_swap_machine.proofs.SpendDecides.{falls-to}
use Rattle.bz_swap_machine.proofs.SpendMeets.{meet-falls, read-falls}
use Rattle.bz_swap_machine.proofs.SpendPuts.{tag-entry}
use Rattle.bz_swap_machine.proofs.SpendReads.{spends-read_dirty}
use Rattle.bz_swap_machine.proofs.SpendTags.{spends-try_value}
use Rattle.bz_swap_machine.proofs.SpendTries.{Tried, Follows, spends-try_pointer, spends-try_miss, spends-try_dirty, spends-try_tag}
use Rattle.bz_swap_machine.proofs.Spends.{Spends, spends-read_value}
use Rattle.bz_swap_machine.proofs.Truths.{differ}
use Rattle.bz_swap_machine.proofs.Lasting.{lasts-durable}

not-true : (b : Bool) → not b ≡ true → b ≡ false
not-true false is = refl
not-true true is = absurd cc

-- another swap stands at the entry's target
meet-at : (x : State) (w n i t a j v q : ℕ) (k : WordKind) → IsBounded x n → (x.local w).place ≡ Help (InstallTag i) → AtPlace x.entries x.memory w (x.local w) (Help (InstallTag i)) → i < 4
    → is_fresh_at (scene_of x) (x.local w).current (Help (InstallTag i)) ≡ true → x.memory.cached ((x.entries (x.local w).current).target i) ≡ k → stands_for k t ≡ true → (t == (x.local w).current) ≡ false
    → (is_through (scene_of x) t ≡ true → x.memory.cached a ≡ Tag t j v q) → Follows x.entries x.local x.memory w n (x.local w) i (Meet t)
meet-at x w n i t a j v q k bounded at known small fresh found stands apart tagged =
    let unset : is_decided (x.memory.status (x.local w).current) ≡ false = not-true (is_decided (x.memory.status (x.local w).current)) fresh in
    let undecided : x.memory.status (x.local w).current ≡ Undecided = undecided-told (x.memory.status (x.local w).current) (x.memory.durable_status (x.local w).current) (bounded.state.sound.follows (x.local w).current (x.memory.durable_status (x.local w).current) (lasts-durable _ _) known.0) unset in
    falls-to (scene_of x) (scene_of x) w n (x.local w) (meeting (x.local w) t) (Help (InstallTag i)) (Learn 0) fresh refl
    (meet-falls x w n i t bounded at small unset apart (meets-higher x n (x.local w).current i t bounded undecided known.3.0 (ap (λ j. stands_for j t) found ∙ stands) apart)
    (met-published x n t ((x.entries (x.local w).current).target i) bounded k found stands) a j v q tagged)

-- an entry of an undecided swap is tried
pub spends-try : (x : State) (w n i : ℕ) → IsBounded x n → (x.local w).place ≡ Help (InstallTag i) → AtPlace x.entries x.memory w (x.local w) (Help (InstallTag i)) → i < 4
    → is_fresh_at (scene_of x) (x.local w).current (Help (InstallTag i)) ≡ true → Spends x.entries x.local x.memory w n (x.local w) (Help (InstallTag i))
spends-try x w n i bounded at known small fresh = by_found (x.memory.cached ((x.local w).list (1 + 3 * i))) refl
  where
    target : (x.local w).list (1 + 3 * i) ≡ (x.entries (x.local w).current).target i
    target = (agree-spell (x.entries (x.local w).current) (x.local w).list known.2).target i known.3.0

    there : (k : WordKind) → x.memory.cached ((x.local w).list (1 + 3 * i)) ≡ k → x.memory.cached ((x.entries (x.local w).current).target i) ≡ k
    there k is = ap x.memory.cached (sym target) ∙ is

    by_value : (v : ℕ) (b : Bool) → (v == (x.local w).list (2 + 3 * i)) ≡ b → x.memory.cached ((x.local w).list (1 + 3 * i)) ≡ Value v → Spends x.entries x.local x.memory w n (x.local w) (Help (InstallTag i))
    by_value v true told is = spends-try_value x.entries x.local x.memory w n (x.local w) i v target fresh is told
    by_value v false told is = spends-try_miss x.entries x.local x.memory w n (x.local w) i v small fresh is told

    by_swap : (t : ℕ) (b : Bool) → (t == (x.local w).current) ≡ b → x.memory.cached ((x.local w).list (1 + 3 * i)) ≡ Swap t → Spends x.entries x.local x.memory w n (x.local w) (Help (InstallTag i))
    by_swap t true told is =
        let same : t ≡ (x.local w).current = grind (arith, common_steps, told) in
        spends-try_pointer x.entries x.local x.memory w n (x.local w) i small fresh (is ∙ ap Swap same)
    by_swap t false told is =
        let self : (t == t) ≡ true = grind (arith, common_steps) in
        subst (λ k. Tried x.entries x.local x.memory w n (x.local w) i k) (sym is)
        (subst (λ b. Follows x.entries x.local x.memory w n (x.local w) i (if b then Step (passed (entries_in (x.local w).list) i) else Meet t)) (sym told)
        (meet-at x w n i t 0 0 0 0 (Swap t) bounded at known small fresh (there (Swap t) is) self told
        (λ through. differ (is_through (scene_of x) t) through (pointer-unfinished x n t ((x.entries (x.local w).current).target i) bounded (there (Swap t) is)))))

    by_tag : (t j v q : ℕ) (b : Bool) → (t == (x.local w).current) ≡ b → x.memory.cached ((x.local w).list (1 + 3 * i)) ≡ Tag t j v q → Spends x.entries x.local x.memory w n (x.local w) (Help (InstallTag i))
    by_tag t j v q true told is =
        let same : t ≡ (x.local w).current = grind (arith, common_steps, told) in
        let found : x.memory.cached ((x.local w).list (1 + 3 * i)) ≡ Tag (x.local w).current j v q = is ∙ ap (λ s. Tag s j v q) same in
        spends-try_tag x.entries x.local x.memory w n (x.local w) i v q target fresh
        (found ∙ ap (λ k. Tag (x.local w).current k v q) (tag-entry x n (x.local w).current i j v q bounded known.3.0 (there (Tag (x.local w).current j v q) found)))
    by_tag t j v q false told is =
        let self : (t == t) ≡ true = grind (arith, common_steps) in
        subst (λ k. Tried x.entries x.local x.memory w n (x.local w) i k) (sym is)
        (subst (λ b. Follows x.entries x.local x.memory w n (x.local w) i (if b then Step (LookUnderTag i v q) else Meet t)) (sym told)
        (meet-at x w n i t ((x.entries (x.local w).current).target i) j v q (Tag t j v q) bounded at known small fresh (there (Tag t j v q) is) self told (λ through. there (Tag t j v q) is)))

    by_found : (k : WordKind) → x.memory.cached ((x.local w).list (1 + 3 * i)) ≡ k → Spends x.entries x.local x.memory w n (x.local w) (Help (InstallTag i))
    by_found (Value v) is = by_value v (v == (x.local w).list (2 + 3 * i)) refl is
    by_found (Dirty v) is = spends-try_dirty x.entries x.local x.memory w n (x.local w) i v target fresh is
    by_found (Swap t) is = by_swap t (t == (x.local w).current) refl is
    by_found (Tag t j v q) is = by_tag t j v q (t == (x.local w).current) refl is

-- the load of the word that is read
pub spends-read : (x : State) (w n a : ℕ) → IsBounded x n → (x.local w).place ≡ ReadWord a → (x.local w).operation ≡ Reading a → ((v : ℕ) → x.memory.cached a ≡ Dirty v → Home x.entries x.local w n a v)
    → Spends x.entries x.local x.memory w n (x.local w) (ReadWord a)
spends-read x w n a bounded at reads home = by_found (x.memory.cached a) refl
  where
    met : (t j v q : ℕ) (k : WordKind) → x.memory.cached a ≡ k → stands_for k t ≡ true → (is_through (scene_of x) t ≡ true → x.memory.cached a ≡ Tag t j v q)
        → budget_at (scene_of x) w n (read_act x.memory (x.local w) a (Swap t)).local (Learn 0) + 1 ≤ budget_at (scene_of x) w n (x.local w) (ReadWord a)
    met t j v q k is stands tagged = read-falls x w n a t bounded at reads (met-published x n t a bounded k is stands) a j v q tagged

    owes : WordKind → Type 0
    owes k = budget_at (scene_of (record x { memory = (read_act x.memory (x.local w) a k).memory })) w n (read_act x.memory (x.local w) a k).local (read_act x.memory (x.local w) a k).local.place + 1 ≤ budget_at (scene_of x) w n (x.local w) (ReadWord a)

    by_found : (k : WordKind) → x.memory.cached a ≡ k → Spends x.entries x.local x.memory w n (x.local w) (ReadWord a)
    by_found (Value v) is = spends-read_value x.entries x.local x.memory w n (x.local w) a v is reads
    by_found (Dirty v) is = spends-read_dirty x.entries x.local x.memory w n (x.local w) a v is (home v is)
    by_found (Swap t) is =
        let self : (t == t) ≡ true = grind (arith, common_steps) in
        subst owes (sym is) (met t 0 0 0 (Swap t) is self (λ through. differ (is_through (scene_of x) t) through (pointer-unfinished x n t a bounded is)))
    by_found (Tag t j v q) is =
        let self : (t == t) ≡ true = grind (arith, common_steps) in
        subst owes (sym is) (met t j v q (Tag t j v q) is self (λ through. is))
