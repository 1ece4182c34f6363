-- The try of an entry of an undecided swap spends one, where no word is changed and no other swap stands in the way.
use Rattle.std.proofs.Common.{◌≡◌, ◌==◌, ◌&&◌, not, if◌then◌else◌, ℕ, ◌+◌, ◌*◌, ◌<◌, ◌≤◌, Bool, true, false, arith, refl, ap, sym, subst, ◌∙◌}
use Rattle.std.proofs.lemmas.Grind.{common_steps}
use Rattle.bz_word.specs.declared.kind.WordKind.{WordKind}
use Rattle.bz_word.specs.declared.kind.WordKind.TheVariants.{Value, Dirty, Swap, Tag}
use Rattle.bz_swap_machine.specs.declared.place.HelpStep.{HelpStep}
use Rattle.bz_swap_machine.specs.declared.place.Next.{Next}
use Rattle.bz_swap_machine.specs.declared.place.Next.TheVariants.{Step, Meet}
use Rattle.bz_swap_machine.specs.declared.place.HelpStep.TheVariants.{InstallTag, LookUnderTag, AskDirty, AskTarget, Decide}
use Rattle.bz_swap_machine.specs.declared.place.Place.TheVariants.{Help}
use Rattle.bz_swap_machine.specs.declared.status.Verdict.TheVariants.{Failed}
use Rattle.bz_swap_machine.specs.Budget.{is_fresh_at, budget_at}
use Rattle.bz_swap_machine.specs.Changes.{with_tag, with_miss}
use Rattle.bz_swap_machine.specs.HelpActs.{After, passed, after_install_tag}
use Rattle.bz_swap_machine.specs.Machine.{Entries, Memory, entries_in}
use Rattle.bz_swap_machine.specs.Standing.{is_tag, is_dirty, is_decided}
use Rattle.bz_swap_machine.specs.Steps.{Local, after_help}
use Rattle.bz_swap_machine.proofs.Spends.{meets, Spends, fresh-falls, here-falls}

-- what the act owes, told by its outcome, by what follows, and by the word that it found
abbrev pub Done : (ℕ → Entries) → (ℕ → Local) → Memory → ℕ → ℕ → Local → ℕ → After → Type 0
Done e local m w n l i a =
    budget_at (meets e local (after_help l a.memory a.next).memory) w n (after_help l a.memory a.next).local (after_help l a.memory a.next).local.place + 1 ≤ budget_at (meets e local m) w n l (Help (InstallTag i))

abbrev pub Follows : (ℕ → Entries) → (ℕ → Local) → Memory → ℕ → ℕ → Local → ℕ → Next → Type 0
Follows e local m w n l i next = Done e local m w n l i (record { memory = m; next = next })

abbrev pub Tried : (ℕ → Entries) → (ℕ → Local) → Memory → ℕ → ℕ → Local → ℕ → WordKind → Type 0
Tried e local m w n l i k = Done e local m w n l i (after_install_tag (entries_in l.list) m w l.current i k)

pub both : (a b : Bool) → a ≡ true → b ≡ true → (a && b) ≡ true
both true true f g = refl
both true false f g = g
both false b f g = f

pub same-tag : (s i v q : ℕ) → (((s == s) && (i == i)) && ((v == v) && (q == q))) ≡ true
same-tag s i v q = grind (arith, common_steps)

abbrev GoesOn : (ℕ → Entries) → (ℕ → Local) → Memory → ℕ → ℕ → Local → ℕ → HelpStep → Type 0
GoesOn e local m w n l i step = budget_at (meets e local m) w n l (Help step) + 1 ≤ budget_at (meets e local m) w n l (Help (InstallTag i))

tries-pass : (e : ℕ → Entries) (local : ℕ → Local) (m : Memory) (w n : ℕ) (l : Local) (i : ℕ) → i < 4 → is_fresh_at (meets e local m) l.current (Help (InstallTag i)) ≡ true → GoesOn e local m w n l i (passed (entries_in l.list) i)
tries-pass e local m w n l i inside fresh = by_last (i + 1 == l.list 0)
  where
    by_last : (b : Bool) → budget_at (meets e local m) w n l (Help (if b then AskTarget 0 else InstallTag (i + 1))) + 1 ≤ budget_at (meets e local m) w n l (Help (InstallTag i))
    by_last true = fresh-falls (meets e local m) w n l (Help (InstallTag i)) (Help (AskTarget 0)) fresh fresh (here-falls (meets e local m) w n l l (Help (InstallTag i)) (Help (AskTarget 0)) refl refl refl refl refl (omega (arith, inside)))
    by_last false = fresh-falls (meets e local m) w n l (Help (InstallTag i)) (Help (InstallTag (i + 1))) fresh fresh (here-falls (meets e local m) w n l l (Help (InstallTag i)) (Help (InstallTag (i + 1))) refl refl refl refl refl (omega (arith, inside)))

-- the pointer of the swap stands at the entry
pub spends-try_pointer : (e : ℕ → Entries) (local : ℕ → Local) (m : Memory) (w n : ℕ) (l : Local) (i : ℕ) → i < 4 → is_fresh_at (meets e local m) l.current (Help (InstallTag i)) ≡ true → m.cached (l.list (1 + 3 * i)) ≡ Swap l.current
    → Spends e local m w n l (Help (InstallTag i))
spends-try_pointer e local m w n l i inside fresh found =
    let self : (l.current == l.current) ≡ true = grind (arith, common_steps) in
    subst (λ k. Tried e local m w n l i k) (sym found) (pass self)
  where
    pass : (l.current == l.current) ≡ true → Tried e local m w n l i (Swap l.current)
    pass self = subst (λ b. Follows e local m w n l i (if b then Step (passed (entries_in l.list) i) else Meet l.current)) (sym self) (tries-pass e local m w n l i inside fresh)

-- another value stands there than the swap expects
pub spends-try_miss : (e : ℕ → Entries) (local : ℕ → Local) (m : Memory) (w n : ℕ) (l : Local) (i v : ℕ) → i < 4 → is_fresh_at (meets e local m) l.current (Help (InstallTag i)) ≡ true → m.cached (l.list (1 + 3 * i)) ≡ Value v
    → (v == l.list (2 + 3 * i)) ≡ false → Spends e local m w n l (Help (InstallTag i))
spends-try_miss e local m w n l i v inside fresh found differs =
    subst (λ k. Tried e local m w n l i k) (sym found)
    (subst (λ b. Done e local m w n l i (if b then record { memory = with_tag m (l.list (1 + 3 * i)) l.current i w; next = Step (LookUnderTag i w (m.next_tag w)) } else record { memory = with_miss m l.current; next = Step (Decide Failed) })) (sym differs)
    (fresh-falls (meets e local m) w n l (Help (InstallTag i)) (Help (Decide Failed)) fresh fresh (here-falls (meets e local m) w n l l (Help (InstallTag i)) (Help (Decide Failed)) refl refl refl refl refl (omega (arith, inside)))))

-- a dirty value stands there
pub spends-try_dirty : (e : ℕ → Entries) (local : ℕ → Local) (m : Memory) (w n : ℕ) (l : Local) (i v : ℕ) → l.list (1 + 3 * i) ≡ (e l.current).target i → is_fresh_at (meets e local m) l.current (Help (InstallTag i)) ≡ true
    → m.cached (l.list (1 + 3 * i)) ≡ Dirty v → Spends e local m w n l (Help (InstallTag i))
spends-try_dirty e local m w n l i v target fresh found =
    let self : (v == v) ≡ true = grind (arith, common_steps) in
    let dirty : is_dirty (m.cached ((e l.current).target i)) v ≡ true = ap (λ k. is_dirty k v) (ap m.cached (sym target) ∙ found) ∙ self in
    subst (λ k. Tried e local m w n l i k) (sym found)
    (fresh-falls (meets e local m) w n l (Help (InstallTag i)) (Help (AskDirty i v)) fresh (both (not (is_decided (m.status l.current))) _ fresh dirty)
    (here-falls (meets e local m) w n l l (Help (InstallTag i)) (Help (AskDirty i v)) refl refl refl refl refl (omega arith)))

-- a tag of the swap stands there
pub spends-try_tag : (e : ℕ → Entries) (local : ℕ → Local) (m : Memory) (w n : ℕ) (l : Local) (i v q : ℕ) → l.list (1 + 3 * i) ≡ (e l.current).target i → is_fresh_at (meets e local m) l.current (Help (InstallTag i)) ≡ true
    → m.cached (l.list (1 + 3 * i)) ≡ Tag l.current i v q → Spends e local m w n l (Help (InstallTag i))
spends-try_tag e local m w n l i v q target fresh found =
    let self : (l.current == l.current) ≡ true = grind (arith, common_steps) in
    let stands : is_tag (m.cached ((e l.current).target i)) l.current i v q ≡ true = ap (λ k. is_tag k l.current i v q) (ap m.cached (sym target) ∙ found) ∙ same-tag l.current i v q in
    subst (λ k. Tried e local m w n l i k) (sym found)
    (subst (λ b. Follows e local m w n l i (if b then Step (LookUnderTag i v q) else Meet l.current)) (sym self)
    (fresh-falls (meets e local m) w n l (Help (InstallTag i)) (Help (LookUnderTag i v q)) fresh (both (not (is_decided (m.status l.current))) _ fresh stands)
    (here-falls (meets e local m) w n l l (Help (InstallTag i)) (Help (LookUnderTag i v q)) refl refl refl refl refl (omega arith))))
