-- The acts of a worker that goes by what no longer holds spend one: each counts down to an act that goes by what holds.
use Rattle.std.proofs.Common.{◌≡◌, ◌==◌, ◌&&◌, not, if◌then◌else◌, ℕ, ◌+◌, ◌-◌, ◌*◌, ◌<◌, ◌≤◌, Bool, true, false, arith, refl, ap, sym, subst, ◌∙◌}
use Rattle.std.proofs.lemmas.Grind.{common_steps}
use Rattle.bz_word.specs.declared.kind.WordKind.{WordKind}
use Rattle.bz_word.specs.declared.kind.WordKind.TheVariants.{Value, Dirty, Swap, Tag}
use Rattle.bz_swap_machine.specs.declared.place.HelpStep.TheVariants.{Look, InstallTag, LookUnderTag, InstallPointer, RemoveTag, AskDirty, AskTarget, Decide, PutFinal, SweepTag}
use Rattle.bz_swap_machine.specs.declared.place.Next.{Next}
use Rattle.bz_swap_machine.specs.declared.place.Next.TheVariants.{Step, Meet}
use Rattle.bz_swap_machine.specs.declared.place.Place.{Place}
use Rattle.bz_swap_machine.specs.declared.place.Place.TheVariants.{Learn, Help}
use Rattle.bz_swap_machine.specs.declared.status.Verdict.{Verdict}
use Rattle.bz_swap_machine.specs.declared.status.Verdict.TheVariants.{Failed}
use Rattle.bz_swap_machine.specs.Budget.{for_stale, for_stale_entry, fresh_budget, is_fresh_at, stale_at, allowed_by_others, budget_at}
use Rattle.bz_swap_machine.specs.Sound.{AreShort}
use Rattle.bz_swap_machine.specs.Changes.{with_word, with_tag, with_miss}
use Rattle.bz_swap_machine.specs.HelpActs.{After, passed, finished, after_install_tag, after_untag}
use Rattle.bz_swap_machine.specs.Machine.{Entries, Memory, entries_in}
use Rattle.bz_swap_machine.specs.Standing.{is_tag, is_dirty, is_any_dirty, is_decided}
use Rattle.bz_swap_machine.specs.Steps.{Local, meeting, after_help}
use Rattle.bz_swap_machine.proofs.SpendDecides.{fresh-again}
use Rattle.bz_swap_machine.proofs.Spends.{meets, Spends}

-- from a place where what w goes by no longer holds, to one where it does, or where fewer such acts are left
pub stale-to : (e : ℕ → Entries) (local : ℕ → Local) (m r : Memory) (w n : ℕ) (l k : Local) (p q : Place) → n ≤ 65 → AreShort e → is_fresh_at (meets e local m) l.current p ≡ false
    → (is_fresh_at (meets e local r) k.current q ≡ false → stale_at (meets e local r) k.current q + 1 ≤ stale_at (meets e local m) l.current p) → budget_at (meets e local r) w n k q + 1 ≤ budget_at (meets e local m) w n l p
stale-to e local m r w n l k p q few short stale falls = rw stale (by_fresh (is_fresh_at (meets e local r) k.current q) refl)
  where
    by_fresh : (b : Bool) → is_fresh_at (meets e local r) k.current q ≡ b
        → (if b then fresh_budget (meets e local r) w n k q else allowed_by_others (meets e local r) w n + for_stale + stale_at (meets e local r) k.current q) + 1 ≤ allowed_by_others (meets e local m) w n + for_stale + stale_at (meets e local m) l.current p
    by_fresh true told = again (fresh_budget (meets e local r) w n k q) (allowed_by_others (meets e local m) w n) (stale_at (meets e local m) l.current p) (fresh-again (meets e local r) w n k q few short)
      where
        again : (f a s : ℕ) → f + 1 ≤ a + for_stale → f + 1 ≤ a + for_stale + s
        again f a s h = omega (arith, h)
    by_fresh false told = less (allowed_by_others (meets e local m) w n) (stale_at (meets e local r) k.current q) (stale_at (meets e local m) l.current p) (falls told)
      where
        less : (a s t : ℕ) → s + 1 ≤ t → a + for_stale + s + 1 ≤ a + for_stale + t
        less a s t h = omega (arith, h)

-- the compare-and-swap of a tag, by whether it stands
pub untag-after : (x : Entries) (m : Memory) (s i v q : ℕ) (new : WordKind) (changed unchanged : Next) (found : WordKind) (P : After → Type 0)
    → (is_tag found s i v q ≡ true → P (record { memory = with_word m (x.target i) new; next = changed })) → (is_tag found s i v q ≡ false → P (record { memory = m; next = unchanged }))
    → P (after_untag x m s i v q new changed unchanged found)
untag-after x m s i v q new changed unchanged (Value u) P f g = g refl
untag-after x m s i v q new changed unchanged (Dirty u) P f g = g refl
untag-after x m s i v q new changed unchanged (Swap t) P f g = g refl
untag-after x m s i v q new changed unchanged (Tag t j u p) P f g = by_test (((t == s) && (j == i)) && ((u == v) && (p == q))) refl
  where
    after : Bool → After
    after b = if b then record { memory = with_word m (x.target i) new; next = changed } else record { memory = m; next = unchanged }

    by_test : (b : Bool) → (((t == s) && (j == i)) && ((u == v) && (p == q))) ≡ b → P (after b)
    by_test true told = f told
    by_test false told = g told

-- what the act owes, told by what follows
abbrev pub Owes : (ℕ → Entries) → (ℕ → Local) → Memory → ℕ → ℕ → Local → Place → After → Type 0
Owes e local m w n l place a = budget_at (meets e local (after_help l a.memory a.next).memory) w n (after_help l a.memory a.next).local (after_help l a.memory a.next).local.place + 1 ≤ budget_at (meets e local m) w n l place

never : (k j : ℕ) → true ≡ false → k + 1 ≤ j
never k j is = absurd (bad is)
  where
    bad : true ≡ false → ⊥
    bad h = absurd cc

pub spends-remove_tag : (e : ℕ → Entries) (local : ℕ → Local) (m : Memory) (w n : ℕ) (l : Local) (i v q : ℕ) → n ≤ 65 → AreShort e → Spends e local m w n l (Help (RemoveTag i v q))
spends-remove_tag e local m w n l i v q few short =
    untag-after (entries_in l.list) m l.current i v q (Value (l.list (2 + 3 * i))) (Step Look) (Step Look) (m.cached (l.list (1 + 3 * i))) (Owes e local m w n l (Help (RemoveTag i v q)))
    (λ told. stale-to e local m (with_word m (l.list (1 + 3 * i)) (Value (l.list (2 + 3 * i)))) w n l (record l { place = Help Look }) (Help (RemoveTag i v q)) (Help Look) few short refl (λ stale. never 0 1 stale))
    (λ told. stale-to e local m m w n l (record l { place = Help Look }) (Help (RemoveTag i v q)) (Help Look) few short refl (λ stale. never 0 1 stale))

-- the sweep of a tag that is gone: the entry is looked at again
pub spends-stale_sweep : (e : ℕ → Entries) (local : ℕ → Local) (m : Memory) (w n : ℕ) (l : Local) (i : ℕ) (d : Verdict) (v q : ℕ) → n ≤ 65 → AreShort e → l.list (1 + 3 * i) ≡ (e l.current).target i
    → is_fresh_at (meets e local m) l.current (Help (SweepTag i d v q)) ≡ false → Spends e local m w n l (Help (SweepTag i d v q))
spends-stale_sweep e local m w n l i d v q few short target stale =
    untag-after (entries_in l.list) m l.current i v q (Value (l.list (2 + 3 * i))) (finished (entries_in l.list) i d) (Step (PutFinal i d)) (m.cached (l.list (1 + 3 * i))) (Owes e local m w n l (Help (SweepTag i d v q)))
    (λ told. absurd (both (ap (λ a. is_tag (m.cached a) l.current i v q) target) told stale))
    (λ told. stale-to e local m m w n l (record l { place = Help (PutFinal i d) }) (Help (SweepTag i d v q)) (Help (PutFinal i d)) few short stale (λ old. never 0 1 old))
  where
    both : {a b : Bool} → a ≡ b → a ≡ true → b ≡ false → ⊥
    both f g h = absurd cc

if-most : (b : Bool) → (if b then 8 else 4) ≤ 8
if-most true = omega arith
if-most false = omega arith

if-least : (b : Bool) → 4 ≤ (if b then 8 else 4)
if-least true = omega arith
if-least false = omega arith

pub owes-if : (P : After → Type 0) (t : Bool) (x y : After) → P x → P y → P (if t then x else y)
owes-if P true x y f g = f
owes-if P false x y f g = g

pub next-if : (P : After → Type 0) (m : Memory) (t : Bool) (x y : Next) → P (record { memory = m; next = x }) → P (record { memory = m; next = y }) → P (record { memory = m; next = if t then x else y })
next-if P m true x y f g = f
next-if P m false x y f g = g

-- on to the next entry, or to the flush of the targets, which a decided swap has behind it
passes : (e : ℕ → Entries) (local : ℕ → Local) (m r : Memory) (w n : ℕ) (l : Local) (p : Place) (x : Entries) (i k : ℕ) → n ≤ 65 → AreShort e → i < 4 → is_fresh_at (meets e local m) l.current p ≡ false
    → for_stale_entry * (4 - i) + k ≡ stale_at (meets e local m) l.current p → 4 ≤ k → Owes e local m w n l p (record { memory = r; next = Step (passed x i) })
passes e local m r w n l p x i k few short inside stale counts some = by_last (i + 1 == x.count)
  where
    by_last : (b : Bool) → budget_at (meets e local r) w n (record l { place = Help (if b then AskTarget 0 else InstallTag (i + 1)) }) (Help (if b then AskTarget 0 else InstallTag (i + 1))) + 1 ≤ budget_at (meets e local m) w n l p
    by_last true = stale-to e local m r w n l (record l { place = Help (AskTarget 0) }) p (Help (AskTarget 0)) few short stale (λ old. omega (arith, counts, some, inside))
    by_last false =
        stale-to e local m r w n l (record l { place = Help (InstallTag (i + 1)) }) p (Help (InstallTag (i + 1))) few short stale
        (λ old. omega (arith, counts, some, inside, if-most (is_any_dirty (r.cached ((e l.current).target (i + 1))))))

decided-of : (d b : Bool) → (not d && b) ≡ false → b ≡ true → d ≡ true
decided-of true b f g = refl
decided-of false b f g = absurd cc

decided-not : (d : Bool) → not d ≡ false → d ≡ true
decided-not true f = refl
decided-not false f = absurd cc

-- a tag of a decided swap becomes the pointer, or is gone
pub spends-stale_pointer : (e : ℕ → Entries) (local : ℕ → Local) (m : Memory) (w n : ℕ) (l : Local) (i v q : ℕ) → n ≤ 65 → AreShort e → i < 4 → l.list (1 + 3 * i) ≡ (e l.current).target i
    → is_fresh_at (meets e local m) l.current (Help (InstallPointer i v q)) ≡ false → Spends e local m w n l (Help (InstallPointer i v q))
spends-stale_pointer e local m w n l i v q few short inside target stale =
    untag-after (entries_in l.list) m l.current i v q (Swap l.current) (Step (passed (entries_in l.list) i)) (Step (InstallTag i)) (m.cached (l.list (1 + 3 * i))) (Owes e local m w n l (Help (InstallPointer i v q)))
    (λ told.
    let stands : is_tag (m.cached ((e l.current).target i)) l.current i v q ≡ true = sym (ap (λ a. is_tag (m.cached a) l.current i v q) target) ∙ told in
    let decided : is_decided (m.status l.current) ≡ true = decided-of (is_decided (m.status l.current)) (is_tag (m.cached ((e l.current).target i)) l.current i v q) stale stands in
    passes e local m (with_word m (l.list (1 + 3 * i)) (Swap l.current)) w n l (Help (InstallPointer i v q)) (entries_in l.list) i 9 few short inside stale (ap (λ b. if b then for_stale_entry * (4 - i) + 9 else 1) (sym decided)) (omega arith))
    (λ told. stale-to e local m m w n l (record l { place = Help (InstallTag i) }) (Help (InstallPointer i v q)) (Help (InstallTag i)) few short stale
    (λ old.
    let decided : is_decided (m.status l.current) ≡ true = decided-not (is_decided (m.status l.current)) old in
    subst (λ k. for_stale_entry * (4 - i) + (if is_any_dirty (m.cached ((e l.current).target i)) then 8 else 4) + 1 ≤ k) (ap (λ b. if b then for_stale_entry * (4 - i) + 9 else 1) (sym decided)) (omega (arith, if-most (is_any_dirty (m.cached ((e l.current).target i)))))))

dirty-counts : (k : WordKind) (v c : ℕ) → k ≡ Dirty v → c + (if is_dirty k v then 7 else 11) + 1 ≤ c + (if is_any_dirty k then 8 else 4)
dirty-counts k v c is =
    let self : (v == v) ≡ true = grind (arith, common_steps) in
    subst (λ j. c + (if is_dirty j v then 7 else 11) + 1 ≤ c + (if is_any_dirty j then 8 else 4)) (sym is) (rw self (omega arith))

-- an entry of a decided swap is tried
pub spends-stale_tag : (e : ℕ → Entries) (local : ℕ → Local) (m : Memory) (w n : ℕ) (l : Local) (i : ℕ) → n ≤ 65 → AreShort e → i < 4 → l.list (1 + 3 * i) ≡ (e l.current).target i
    → is_fresh_at (meets e local m) l.current (Help (InstallTag i)) ≡ false → Spends e local m w n l (Help (InstallTag i))
spends-stale_tag e local m w n l i few short inside target stale = by_found (m.cached (l.list (1 + 3 * i))) refl
  where
    enough : (k : ℕ) → k ≤ 3 → k + 1 ≤ for_stale_entry * (4 - i) + (if is_any_dirty (m.cached ((e l.current).target i)) then 8 else 4)
    enough k le = omega (arith, le, inside, if-least (is_any_dirty (m.cached ((e l.current).target i))))

    by_found : (found : WordKind) → m.cached (l.list (1 + 3 * i)) ≡ found → Owes e local m w n l (Help (InstallTag i)) (after_install_tag (entries_in l.list) m w l.current i found)
    by_found (Value v) is =
        owes-if (Owes e local m w n l (Help (InstallTag i))) (v == l.list (2 + 3 * i)) (record { memory = with_tag m (l.list (1 + 3 * i)) l.current i w; next = Step (LookUnderTag i w (m.next_tag w)) }) (record { memory = with_miss m l.current; next = Step (Decide Failed) })
        (stale-to e local m (with_tag m (l.list (1 + 3 * i)) l.current i w) w n l (record l { place = Help (LookUnderTag i w (m.next_tag w)) }) (Help (InstallTag i)) (Help (LookUnderTag i w (m.next_tag w))) few short stale (λ old. enough 2 (omega arith)))
        (stale-to e local m (with_miss m l.current) w n l (record l { place = Help (Decide Failed) }) (Help (InstallTag i)) (Help (Decide Failed)) few short stale (λ old. enough 1 (omega arith)))
    by_found (Dirty v) is =
        stale-to e local m m w n l (record l { place = Help (AskDirty i v) }) (Help (InstallTag i)) (Help (AskDirty i v)) few short stale
        (λ old. dirty-counts (m.cached ((e l.current).target i)) v (for_stale_entry * (4 - i)) (ap m.cached (sym target) ∙ is))
    by_found (Swap t) is =
        next-if (Owes e local m w n l (Help (InstallTag i))) m (t == l.current) (Step (passed (entries_in l.list) i)) (Meet t)
        (passes e local m m w n l (Help (InstallTag i)) (entries_in l.list) i (if is_any_dirty (m.cached ((e l.current).target i)) then 8 else 4) few short inside stale refl (if-least (is_any_dirty (m.cached ((e l.current).target i)))))
        (stale-to e local m m w n l (meeting l t) (Help (InstallTag i)) (Learn 0) few short stale (λ old. never 0 _ old))
    by_found (Tag t j v q) is =
        next-if (Owes e local m w n l (Help (InstallTag i))) m (t == l.current) (Step (LookUnderTag i v q)) (Meet t)
        (stale-to e local m m w n l (record l { place = Help (LookUnderTag i v q) }) (Help (InstallTag i)) (Help (LookUnderTag i v q)) few short stale (λ old. enough 2 (omega arith)))
        (stale-to e local m m w n l (meeting l t) (Help (InstallTag i)) (Learn 0) few short stale (λ old. never 0 _ old))
