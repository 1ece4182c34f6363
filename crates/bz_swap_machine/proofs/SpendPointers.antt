-- A worker that changes a tag of an undecided swap to the pointer spends one: the swap misses a pointer less.
use Rattle.std.proofs.Common.{◌≡◌, ◌==◌, ◌&&◌, not, nat_lt, if◌then◌else◌, ℕ, ◌+◌, ◌*◌, ◌<◌, ◌≤◌, Bool, true, false, arith, refl, ap, sym, subst, ◌∙◌}
use Rattle.std.proofs.lemmas.Grind.{common_steps}
use Rattle.bz_word.specs.declared.kind.WordKind.{WordKind}
use Rattle.bz_word.specs.declared.kind.WordKind.TheVariants.{Value, Dirty, Swap, Tag}
use Rattle.bz_swap_machine.specs.declared.place.HelpStep.{HelpStep}
use Rattle.bz_swap_machine.specs.declared.place.HelpStep.TheVariants.{InstallTag, InstallPointer, AskTarget}
use Rattle.bz_swap_machine.specs.declared.place.Next.TheVariants.{Step}
use Rattle.bz_swap_machine.specs.declared.place.Place.TheVariants.{Help}
use Rattle.bz_swap_machine.specs.declared.worker.Operation.{Operation}
use Rattle.bz_swap_machine.specs.declared.worker.Operation.TheVariants.{Nothing, Reading, Swapping}
use Rattle.bz_swap_machine.specs.Allowed.{counted}
use Rattle.bz_swap_machine.specs.Budget.{own_missing_by, is_over_at, is_swept, left_at, left_by_others, fresh_budget, is_fresh_at}
use Rattle.bz_swap_machine.specs.Budgets.{IsBounded}
use Rattle.bz_swap_machine.specs.Changes.{with_word}
use Rattle.bz_swap_machine.specs.HelpActs.{final_value, passed}
use Rattle.bz_swap_machine.specs.Machine.{Entries, Memory, entries_in}
use Rattle.bz_swap_machine.specs.Standing.{is_pointer, stands_for, is_tag, is_dirty, is_decided, is_through, missing, top, swap_of, scene_of}
use Rattle.bz_swap_machine.specs.State.{State}
use Rattle.bz_swap_machine.specs.Steps.{Local, is_own}
use Rattle.bz_swap_machine.proofs.Compared.{NoMore, no-more, one-less, place-le, open-less, through-stays, top-less}
use Rattle.bz_swap_machine.proofs.Openers.{Opener, opener}
use Rattle.bz_swap_machine.proofs.SpendDecides.{falls-to}
use Rattle.bz_swap_machine.proofs.SpendStale.{Owes, untag-after}
use Rattle.bz_swap_machine.proofs.Spends.{meets, Spends}
use Rattle.bz_swap_machine.proofs.Sums.{counted-implied, sum-drop}
use Rattle.bz_swap_machine.proofs.Truths.{differ}
use Rattle.bz_swap_machine.proofs.Visits.{Quiet, put-implied, put-told, put-at, undecided-through, not-over, lt-between, missing-less, own-less, walk-quiet, detour-quiet, all-fall}

-- the pointer in place of a tag
abbrev pointed : Memory → ℕ → ℕ → Memory
pointed m a c = with_word m a (Swap c)

pub tag-told : (k : WordKind) (s i v q : ℕ) → is_tag k s i v q ≡ true → k ≡ Tag s i v q
tag-told (Value u) s i v q is = absurd cc
tag-told (Dirty u) s i v q is = absurd cc
tag-told (Swap t) s i v q is = absurd cc
tag-told (Tag t j u p) s i v q is =
    let swap : t ≡ s = grind (arith, common_steps, is) in
    let entry : j ≡ i = grind (arith, common_steps, is) in
    let worker : u ≡ v = grind (arith, common_steps, is) in
    let number : p ≡ q = grind (arith, common_steps, is) in
    λ k. Tag (swap k) (entry k) (worker k) (number k)

fewer-pointers : (m : Memory) (a c b s : ℕ) → (c == s) ≡ false → is_pointer ((pointed m a c).cached b) s ≡ true → is_pointer (m.cached b) s ≡ true
fewer-pointers m a c b s apart = put-implied (λ k. is_pointer k s) m.cached a (Swap c) b (λ is. differ (c == s) is apart)

more-pointers : (m : Memory) (a c i v q b s : ℕ) → m.cached a ≡ Tag c i v q → is_pointer (m.cached b) s ≡ true → is_pointer ((pointed m a c).cached b) s ≡ true
more-pointers m a c i v q b s found = put-told (λ k. is_pointer k s) m.cached a (Swap c) b (λ is. absurd (never (subst (λ k. is_pointer k s ≡ true) found is)))
  where
    never : false ≡ true → ⊥
    never h = absurd cc

more-stands : (m : Memory) (a c i v q b s : ℕ) → m.cached a ≡ Tag c i v q → stands_for (m.cached b) s ≡ true → stands_for ((pointed m a c).cached b) s ≡ true
more-stands m a c i v q b s found = put-told (λ k. stands_for k s) m.cached a (Swap c) b (λ is. subst (λ k. stands_for k s ≡ true) found is)

fewer-stands : (m : Memory) (a c i v q b s : ℕ) → m.cached a ≡ Tag c i v q → stands_for ((pointed m a c).cached b) s ≡ true → stands_for (m.cached b) s ≡ true
fewer-stands m a c i v q b s found = put-implied (λ k. stands_for k s) m.cached a (Swap c) b (λ is. subst (λ k. stands_for k s ≡ true) (sym found) is)

fewer-tags : (m : Memory) (a c b s i v q : ℕ) → is_tag ((pointed m a c).cached b) s i v q ≡ true → is_tag (m.cached b) s i v q ≡ true
fewer-tags m a c b s i v q = put-implied (λ k. is_tag k s i v q) m.cached a (Swap c) b (λ is. absurd cc)

fewer-dirty : (m : Memory) (a c b u : ℕ) → is_dirty ((pointed m a c).cached b) u ≡ true → is_dirty (m.cached b) u ≡ true
fewer-dirty m a c b u = put-implied (λ k. is_dirty k u) m.cached a (Swap c) b (λ is. absurd cc)

through-pointed : (e : ℕ → Entries) (local : ℕ → Local) (m : Memory) (a c s : ℕ) → is_decided (m.status c) ≡ false → is_through (meets e local m) s ≡ true → is_through (meets e local (pointed m a c)) s ≡ true
through-pointed e local m a c s undecided is = by_same (c == s) refl
  where
    by_same : (b : Bool) → (c == s) ≡ b → is_through (meets e local (pointed m a c)) s ≡ true
    by_same true told =
        let same : s ≡ c = grind (arith, common_steps, told) in
        differ (is_through (meets e local m) s) is (subst (λ k. is_through (meets e local m) k ≡ false) (sym same) (undecided-through e local m c undecided))
    by_same false told = through-stays e local m (pointed m a c) s (λ h. h) (λ i below. fewer-pointers m a c ((e s).target i) s told) is

missing-pointed : (e : ℕ → Entries) (local : ℕ → Local) (m : Memory) (a c i v q s : ℕ) → m.cached a ≡ Tag c i v q → missing (meets e local (pointed m a c)) s ≤ missing (meets e local m) s
missing-pointed e local m a c i v q s found = missing-less e local m (pointed m a c) s (λ is. is) (λ unset j below. more-pointers m a c i v q ((e s).target j) s found)

one-counts : (a b : Bool) → a ≡ true → b ≡ false → counted (not a) 1 + 1 ≤ counted (not b) 1
one-counts a b f g = rw (f, g) (omega arith)

not-told : (a b : Bool) → (a ≡ true → b ≡ true) → not b ≡ true → not a ≡ true
not-told false b f is = refl
not-told true true f is = is
not-told true false f is = f refl

-- one pointer less is missing
missing-drops : (e : ℕ → Entries) (local : ℕ → Local) (m : Memory) (c i v q : ℕ) → m.cached ((e c).target i) ≡ Tag c i v q → is_decided (m.status c) ≡ false → i < (e c).count
    → missing (meets e local (pointed m ((e c).target i) c)) c + 1 ≤ missing (meets e local m) c
missing-drops e local m c i v q found undecided inside =
    let self : (c == c) ≡ true = grind (arith, common_steps) in
    let stands : is_pointer ((pointed m ((e c).target i) c).cached ((e c).target i)) c ≡ true = ap (λ k. is_pointer k c) (put-at m.cached ((e c).target i) (Swap c) ((e c).target i) refl) ∙ self in
    let none : is_pointer (m.cached ((e c).target i)) c ≡ false = ap (λ k. is_pointer k c) found in
    rw undecided
    (sum-drop (λ j. counted (not (is_pointer ((pointed m ((e c).target i) c).cached ((e c).target j)) c)) 1) (λ j. counted (not (is_pointer (m.cached ((e c).target j)) c)) 1) (e c).count i
    (λ j below. counted-implied _ _ 1 1 (not-told _ _ (more-pointers m ((e c).target i) c i v q ((e c).target j) c found)) (omega arith)) inside (one-counts _ _ stands none))

none-swept : (over : Bool) (l : Local) (i v q s j : ℕ) → over ≡ false → is_swept over l (Help (InstallPointer i v q)) s j ≡ false
none-swept over l i v q s j none = rw none refl

nothing-comes : (e : ℕ → Entries) (local : ℕ → Local) (m : Memory) (w : ℕ) (l : Local) (a i v q : ℕ) (step : HelpStep) → m.cached a ≡ Tag l.current i v q → is_decided (m.status l.current) ≡ false
    → NoMore e local m (pointed m a l.current) w l l (Help (InstallPointer i v q)) (Help step)
nothing-comes e local m w l a i v q step found undecided = record {
  through = λ s. through-pointed e local m a l.current s undecided;
  missing = λ s. missing-pointed e local m a l.current i v q s found;
  tags = λ u s j t other is swept. (fewer-tags m a l.current ((e s).target j) s j u t is, none-swept (is_over_at (meets e local m) l (Help (InstallPointer i v q))) l i v q s j (not-over e local m l (undecided-through e local m l.current undecided)));
  dirty = λ s j d is cleans. (fewer-dirty m a l.current ((e s).target j) (final_value (e s) j d) is, refl);
}

higher : (e : ℕ → Entries) (local : ℕ → Local) (m : Memory) (a c i v q s t : ℕ) → m.cached a ≡ Tag c i v q → nat_lt (top (meets e local (pointed m a c)) s) (top (meets e local (pointed m a c)) t) ≡ true → nat_lt (top (meets e local m) s) (top (meets e local m) t) ≡ true
higher e local m a c i v q s t found =
    lt-between (top (meets e local m) s) (top (meets e local (pointed m a c)) s) (top (meets e local m) t) (top (meets e local (pointed m a c)) t)
    (top-less e local (pointed m a c) m s (λ j below. more-stands m a c i v q ((e s).target j) s found))
    (top-less e local m (pointed m a c) t (λ j below. fewer-stands m a c i v q ((e t).target j) t found))

quiet-pointed : (e : ℕ → Entries) (local : ℕ → Local) (m : Memory) (a c i v q : ℕ) → m.cached a ≡ Tag c i v q → is_decided (m.status c) ≡ false → Quiet e local m (pointed m a c) c
quiet-pointed e local m a c i v q found undecided = record {
  undecided = undecided;
  still = undecided;
  decided = λ s is. is;
  through = λ s. through-pointed e local m a c s undecided;
  above = λ t. higher e local m a c i v q c t found;
  others = λ s t apart. higher e local m a c i v q s t found;
}

own-drops : (e : ℕ → Entries) (local : ℕ → Local) (m r : Memory) (o : Operation) (c : ℕ) → is_own o c ≡ true → missing (meets e local r) c + 1 ≤ missing (meets e local m) c → own_missing_by (meets e local r) o + 2 ≤ own_missing_by (meets e local m) o
own-drops e local m r Nothing c own drops = absurd cc
own-drops e local m r (Reading a) c own drops = absurd cc
own-drops e local m r (Swapping s) c own drops =
    let same : s ≡ c = grind (arith, common_steps, own) in
    twice (missing (meets e local r) s) (missing (meets e local m) s) (subst (λ k. missing (meets e local r) k + 1 ≤ missing (meets e local m) k) (sym same) drops)
  where
    twice : (j k : ℕ) → j + 1 ≤ k → 2 * j + 2 ≤ 2 * k
    twice j k f = omega (arith, f)

counts-drop : (a b : Bool) (j k : ℕ) → b ≡ true → j + 1 ≤ k → counted a (2 * j) + 2 ≤ counted b (2 * k)
counts-drop true b j k is le = rw is (omega (arith, le))
counts-drop false b j k is le = rw is (omega (arith, le))

-- so two less is left by the worker whose swap it is, or has w itself to put
less-left : (x : State) (w n i v q : ℕ) (step : HelpStep) → IsBounded x n → x.memory.published (x.local w).current ≡ true → is_decided (x.memory.status (x.local w).current) ≡ false → i < (x.entries (x.local w).current).count
    → x.memory.cached ((x.entries (x.local w).current).target i) ≡ Tag (x.local w).current i v q
    → own_missing_by (meets x.entries x.local (pointed x.memory ((x.entries (x.local w).current).target i) (x.local w).current)) (x.local w).operation
    + left_by_others (meets x.entries x.local (pointed x.memory ((x.entries (x.local w).current).target i) (x.local w).current)) w n (x.local w) (Help step) + 2
    ≤ own_missing_by (scene_of x) (x.local w).operation + left_by_others (scene_of x) w n (x.local w) (Help (InstallPointer i v q))
less-left x w n i v q step bounded published undecided inside found = by_own (is_own (x.local w).operation (x.local w).current) refl
  where
    drops : missing (meets x.entries x.local (pointed x.memory ((x.entries (x.local w).current).target i) (x.local w).current)) (x.local w).current + 1 ≤ missing (scene_of x) (x.local w).current
    drops = missing-drops x.entries x.local x.memory (x.local w).current i v q found undecided inside

    fewer : NoMore x.entries x.local x.memory (pointed x.memory ((x.entries (x.local w).current).target i) (x.local w).current) w (x.local w) (x.local w) (Help (InstallPointer i v q)) (Help step)
    fewer = nothing-comes x.entries x.local x.memory w (x.local w) ((x.entries (x.local w).current).target i) i v q step found undecided

    by_own : (b : Bool) → is_own (x.local w).operation (x.local w).current ≡ b
        → own_missing_by (meets x.entries x.local (pointed x.memory ((x.entries (x.local w).current).target i) (x.local w).current)) (x.local w).operation
        + left_by_others (meets x.entries x.local (pointed x.memory ((x.entries (x.local w).current).target i) (x.local w).current)) w n (x.local w) (Help step) + 2
        ≤ own_missing_by (scene_of x) (x.local w).operation + left_by_others (scene_of x) w n (x.local w) (Help (InstallPointer i v q))
    by_own true own =
        omega (
          arith,
          own-drops x.entries x.local x.memory (pointed x.memory ((x.entries (x.local w).current).target i) (x.local w).current) (x.local w).operation (x.local w).current own drops,
          no-more x.entries x.local x.memory (pointed x.memory ((x.entries (x.local w).current).target i) (x.local w).current) w n (x.local w) (x.local w) (Help (InstallPointer i v q)) (Help step) fewer,
        )
    by_own false own =
        let o : Opener x w n (x.local w).current = opener x w n (x.local w).current bounded published (undecided-through x.entries x.local x.memory (x.local w).current undecided) own in
        let swap : swap_of (x.local o.worker).operation ≡ (x.local w).current = ap swap_of o.operation in
        let less : left_by_others (meets x.entries x.local (pointed x.memory ((x.entries (x.local w).current).target i) (x.local w).current)) w n (x.local w) (Help step) + 2 ≤ left_by_others (scene_of x) w n (x.local w) (Help (InstallPointer i v q)) =
        one-less x.entries x.local x.memory (pointed x.memory ((x.entries (x.local w).current).target i) (x.local w).current) w n (x.local w) (x.local w) (Help (InstallPointer i v q)) (Help step) o.worker 2 fewer o.other o.below
        (beside _ _ _ _ (place-le x.entries x.local x.memory (pointed x.memory ((x.entries (x.local w).current).target i) (x.local w).current) w (x.local w) (x.local w) (Help (InstallPointer i v q)) (Help step) fewer o.worker (x.local o.worker) (x.local o.worker).place o.other)
        (counts-drop _ _ _ _ o.unfinished (subst (λ s. missing (meets x.entries x.local (pointed x.memory ((x.entries (x.local w).current).target i) (x.local w).current)) s + 1 ≤ missing (scene_of x) s) (sym swap) drops))) in
        omega (arith, own-less x.entries x.local x.memory (pointed x.memory ((x.entries (x.local w).current).target i) (x.local w).current) (x.local w).operation (λ s. missing-pointed x.entries x.local x.memory ((x.entries (x.local w).current).target i) (x.local w).current i v q s found), less)
      where
        beside : (a b c d : ℕ) → a ≤ b → c + 2 ≤ d → a + c + 2 ≤ b + d
        beside a b c d f g = omega (arith, f, g)

not-first : (a b : Bool) → (not a && b) ≡ true → a ≡ false
not-first false b is = refl
not-first true b is = absurd cc

not-false : (a : Bool) → a ≡ false → not a ≡ true
not-false a is = rw is refl

goes-on : (x : State) (w n i v q : ℕ) (step : HelpStep) → IsBounded x n → x.memory.published (x.local w).current ≡ true → is_decided (x.memory.status (x.local w).current) ≡ false → i < (x.entries (x.local w).current).count
    → x.memory.cached ((x.entries (x.local w).current).target i) ≡ Tag (x.local w).current i v q → left_at (Help step) ≤ left_at (Help (InstallPointer i v q)) + 1
    → fresh_budget (meets x.entries x.local (pointed x.memory ((x.entries (x.local w).current).target i) (x.local w).current)) w n (x.local w) (Help step) + 1 ≤ fresh_budget (scene_of x) w n (x.local w) (Help (InstallPointer i v q))
goes-on x w n i v q step bounded published undecided inside found left =
    let quiet : Quiet x.entries x.local x.memory (pointed x.memory ((x.entries (x.local w).current).target i) (x.local w).current) (x.local w).current = quiet-pointed x.entries x.local x.memory ((x.entries (x.local w).current).target i) (x.local w).current i v q found undecided in
    all-fall (scene_of x) (meets x.entries x.local (pointed x.memory ((x.entries (x.local w).current).target i) (x.local w).current)) w n (x.local w) (x.local w) (Help (InstallPointer i v q)) (Help step)
    (open-less x.entries x.local x.memory (pointed x.memory ((x.entries (x.local w).current).target i) (x.local w).current) w n quiet.through)
    (walk-quiet x.entries x.local x.memory (pointed x.memory ((x.entries (x.local w).current).target i) (x.local w).current) w n (x.local w) quiet) (omega arith)
    (detour-quiet x.entries x.local x.memory (pointed x.memory ((x.entries (x.local w).current).target i) (x.local w).current) w n (x.local w) quiet)
    (sums _ _ _ _ _ _ left (less-left x w n i v q step bounded published undecided inside found))
  where
    sums : (d f r d' f' r' : ℕ) → f' ≤ f + 1 → d' + r' + 2 ≤ d + r → d' + f' + r' + 1 ≤ d + f + r
    sums d f r d' f' r' g h = omega (arith, g, h)

-- the tag stands, and becomes the pointer
pub spends-pointer : (x : State) (w n i v q : ℕ) → IsBounded x n → x.memory.published (x.local w).current ≡ true → i < (x.entries (x.local w).current).count → i < 4 → (x.local w).list (1 + 3 * i) ≡ (x.entries (x.local w).current).target i
    → is_fresh_at (scene_of x) (x.local w).current (Help (InstallPointer i v q)) ≡ true → Spends x.entries x.local x.memory w n (x.local w) (Help (InstallPointer i v q))
spends-pointer x w n i v q bounded published inside small target fresh =
    let undecided : is_decided (x.memory.status (x.local w).current) ≡ false = not-first (is_decided (x.memory.status (x.local w).current)) (is_tag (x.memory.cached ((x.entries (x.local w).current).target i)) (x.local w).current i v q) fresh in
    let stands : is_tag (x.memory.cached ((x.entries (x.local w).current).target i)) (x.local w).current i v q ≡ true = second (is_decided (x.memory.status (x.local w).current)) (is_tag (x.memory.cached ((x.entries (x.local w).current).target i)) (x.local w).current i v q) fresh in
    let found : x.memory.cached ((x.entries (x.local w).current).target i) ≡ Tag (x.local w).current i v q = tag-told (x.memory.cached ((x.entries (x.local w).current).target i)) (x.local w).current i v q stands in
    untag-after (entries_in (x.local w).list) x.memory (x.local w).current i v q (Swap (x.local w).current) (Step (passed (entries_in (x.local w).list) i)) (Step (InstallTag i)) (x.memory.cached ((x.local w).list (1 + 3 * i)))
    (Owes x.entries x.local x.memory w n (x.local w) (Help (InstallPointer i v q)))
    (λ told. subst (λ a. Owes x.entries x.local x.memory w n (x.local w) (Help (InstallPointer i v q)) (record { memory = with_word x.memory a (Swap (x.local w).current); next = Step (passed (entries_in (x.local w).list) i) })) (sym target)
    (by_last undecided found (i + 1 == (x.local w).list 0)))
    (λ told. differ (is_tag (x.memory.cached ((x.local w).list (1 + 3 * i))) (x.local w).current i v q) (ap (λ a. is_tag (x.memory.cached a) (x.local w).current i v q) target ∙ stands) told)
  where
    second : (a b : Bool) → (not a && b) ≡ true → b ≡ true
    second false b is = is
    second true b is = absurd cc

    by_last : is_decided (x.memory.status (x.local w).current) ≡ false → x.memory.cached ((x.entries (x.local w).current).target i) ≡ Tag (x.local w).current i v q → (b : Bool)
        → Owes x.entries x.local x.memory w n (x.local w) (Help (InstallPointer i v q)) (record { memory = pointed x.memory ((x.entries (x.local w).current).target i) (x.local w).current; next = Step (if b then AskTarget 0 else InstallTag (i + 1)) })
    by_last undecided found true =
        falls-to (scene_of x) (meets x.entries x.local (pointed x.memory ((x.entries (x.local w).current).target i) (x.local w).current)) w n (x.local w) (x.local w) (Help (InstallPointer i v q)) (Help (AskTarget 0)) fresh
        (not-false (is_decided (x.memory.status (x.local w).current)) undecided) (goes-on x w n i v q (AskTarget 0) bounded published undecided inside found (omega (arith, small)))
    by_last undecided found false =
        falls-to (scene_of x) (meets x.entries x.local (pointed x.memory ((x.entries (x.local w).current).target i) (x.local w).current)) w n (x.local w) (x.local w) (Help (InstallPointer i v q)) (Help (InstallTag (i + 1))) fresh
        (not-false (is_decided (x.memory.status (x.local w).current)) undecided) (goes-on x w n i v q (InstallTag (i + 1)) bounded published undecided inside found (omega (arith, small)))
