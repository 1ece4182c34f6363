-- A worker that puts its tag for the expected value spends one: the swap reaches higher, and a worker's own tags do not count.
use Rattle.std.proofs.Common.{◌≡◌, ◌==◌, not, nat_lt, if◌then◌else◌, ℕ, ◌+◌, ◌-◌, ◌*◌, ◌≤◌, Bool, true, false, arith, refl, ap, sym, subst, ◌∙◌}
use Rattle.std.proofs.lemmas.Grind.{common_steps}
use Rattle.bz_word.specs.declared.kind.WordKind.{WordKind}
use Rattle.bz_word.specs.declared.kind.WordKind.TheVariants.{Value, Tag}
use Rattle.bz_swap_machine.specs.declared.place.HelpStep.TheVariants.{InstallTag, LookUnderTag, Decide}
use Rattle.bz_swap_machine.specs.declared.place.Next.TheVariants.{Step}
use Rattle.bz_swap_machine.specs.declared.place.Place.TheVariants.{Help}
use Rattle.bz_swap_machine.specs.declared.status.Verdict.TheVariants.{Failed}
use Rattle.bz_swap_machine.specs.Budget.{is_fresh_at, is_over_at, is_swept, fresh_budget}
use Rattle.bz_swap_machine.specs.Changes.{with_tag, with_miss}
use Rattle.bz_swap_machine.specs.HelpActs.{final_value}
use Rattle.bz_swap_machine.specs.Machine.{Entries, Memory}
use Rattle.bz_swap_machine.specs.Standing.{is_pointer, stands_for, is_tag, is_dirty, is_decided, is_through, missing, top}
use Rattle.bz_swap_machine.specs.Steps.{Local}
use Rattle.bz_swap_machine.proofs.Compared.{NoMore, no-more, open-less, through-stays, top-less}
use Rattle.bz_swap_machine.proofs.SpendDecides.{falls-to}
use Rattle.bz_swap_machine.proofs.SpendTries.{Done, Tried, both, same-tag}
use Rattle.bz_swap_machine.proofs.Spends.{meets, Spends}
use Rattle.bz_swap_machine.proofs.Visits.{Quiet, put-implied, put-told, put-at, undecided-through, not-over, lt-between, lt-self, missing-less, own-less, walk-quiet, detour-quiet, all-fall}

-- the memory with worker w's tag in place of a value
abbrev tagged : Memory → ℕ → ℕ → ℕ → ℕ → Memory
tagged m a s i w = with_tag m a s i w

-- what the tag tells and the value did not: that its swap stands there, and that it is w's
fewer-pointers : (m : Memory) (a c i w v b s : ℕ) → is_pointer ((tagged m a c i w).cached b) s ≡ true → is_pointer (m.cached b) s ≡ true
fewer-pointers m a c i w v b s = put-implied (λ k. is_pointer k s) m.cached a (Tag c i w (m.next_tag w)) b (λ is. absurd cc)

more-pointers : (m : Memory) (a c i w v b s : ℕ) → m.cached a ≡ Value v → is_pointer (m.cached b) s ≡ true → is_pointer ((tagged m a c i w).cached b) s ≡ true
more-pointers m a c i w v b s found = put-told (λ k. is_pointer k s) m.cached a (Tag c i w (m.next_tag w)) b (λ is. absurd (value-pointer (m.cached a) v s found is))
  where
    value-pointer : (k : WordKind) (v s : ℕ) → k ≡ Value v → is_pointer k s ≡ true → ⊥
    value-pointer k v s found is = let h : is_pointer (Value v) s ≡ true = subst (λ j. is_pointer j s ≡ true) found is in absurd cc

more-stands : (m : Memory) (a c i w v b s : ℕ) → m.cached a ≡ Value v → stands_for (m.cached b) s ≡ true → stands_for ((tagged m a c i w).cached b) s ≡ true
more-stands m a c i w v b s found = put-told (λ k. stands_for k s) m.cached a (Tag c i w (m.next_tag w)) b (λ is. absurd (value-stands (m.cached a) v s found is))
  where
    value-stands : (k : WordKind) (v s : ℕ) → k ≡ Value v → stands_for k s ≡ true → ⊥
    value-stands k v s found is = let h : stands_for (Value v) s ≡ true = subst (λ j. stands_for j s ≡ true) found is in absurd cc

fewer-stands : (m : Memory) (a c i w b s : ℕ) → (c == s) ≡ false → stands_for ((tagged m a c i w).cached b) s ≡ true → stands_for (m.cached b) s ≡ true
fewer-stands m a c i w b s apart = put-implied (λ k. stands_for k s) m.cached a (Tag c i w (m.next_tag w)) b (λ is. absurd (differ (c == s) apart is))
  where
    differ : (b : Bool) → b ≡ false → b ≡ true → ⊥
    differ b f g = absurd cc

fewer-tags : (m : Memory) (a c i w b s j v t : ℕ) → (v == w) ≡ false → is_tag ((tagged m a c i w).cached b) s j v t ≡ true → is_tag (m.cached b) s j v t ≡ true
fewer-tags m a c i w b s j v t other = put-implied (λ k. is_tag k s j v t) m.cached a (Tag c i w (m.next_tag w)) b (λ is. absurd (grind (arith, common_steps, is, other)))

fewer-dirty : (m : Memory) (a c i w b u : ℕ) → is_dirty ((tagged m a c i w).cached b) u ≡ true → is_dirty (m.cached b) u ≡ true
fewer-dirty m a c i w b u = put-implied (λ k. is_dirty k u) m.cached a (Tag c i w (m.next_tag w)) b (λ is. absurd cc)

-- the swap reaches higher, and no other does
higher : (e : ℕ → Entries) (local : ℕ → Local) (m : Memory) (a c i w v s t : ℕ) → m.cached a ≡ Value v → (c == t) ≡ false → nat_lt (top (meets e local (tagged m a c i w)) s) (top (meets e local (tagged m a c i w)) t) ≡ true
    → nat_lt (top (meets e local m) s) (top (meets e local m) t) ≡ true
higher e local m a c i w v s t found apart =
    lt-between (top (meets e local m) s) (top (meets e local (tagged m a c i w)) s) (top (meets e local m) t) (top (meets e local (tagged m a c i w)) t)
    (top-less e local (tagged m a c i w) m s (λ j below. more-stands m a c i w v ((e s).target j) s found))
    (top-less e local m (tagged m a c i w) t (λ j below. fewer-stands m a c i w ((e t).target j) t apart))

-- no other swap reaches higher than this one that did not before
above-own : (e : ℕ → Entries) (local : ℕ → Local) (m : Memory) (a c i w v t : ℕ) → m.cached a ≡ Value v → nat_lt (top (meets e local (tagged m a c i w)) c) (top (meets e local (tagged m a c i w)) t) ≡ true
    → nat_lt (top (meets e local m) c) (top (meets e local m) t) ≡ true
above-own e local m a c i w v t found = by_same (c == t) refl
  where
    by_same : (b : Bool) → (c == t) ≡ b → nat_lt (top (meets e local (tagged m a c i w)) c) (top (meets e local (tagged m a c i w)) t) ≡ true → nat_lt (top (meets e local m) c) (top (meets e local m) t) ≡ true
    by_same true told is =
        let same : t ≡ c = grind (arith, common_steps, told) in
        absurd (lt-self (top (meets e local (tagged m a c i w)) c) (subst (λ k. nat_lt (top (meets e local (tagged m a c i w)) c) (top (meets e local (tagged m a c i w)) k) ≡ true) same is))
    by_same false told is = higher e local m a c i w v c t found told is

through-tagged : (e : ℕ → Entries) (local : ℕ → Local) (m : Memory) (a c i w v s : ℕ) → is_through (meets e local m) s ≡ true → is_through (meets e local (tagged m a c i w)) s ≡ true
through-tagged e local m a c i w v s = through-stays e local m (tagged m a c i w) s (λ is. is) (λ j below. fewer-pointers m a c i w v ((e s).target j) s)

missing-tagged : (e : ℕ → Entries) (local : ℕ → Local) (m : Memory) (a c i w v s : ℕ) → m.cached a ≡ Value v → missing (meets e local (tagged m a c i w)) s ≤ missing (meets e local m) s
missing-tagged e local m a c i w v s found = missing-less e local m (tagged m a c i w) s (λ is. is) (λ undecided j below. more-pointers m a c i w v ((e s).target j) s found)

not-swept : (over : Bool) (l : Local) (i s j : ℕ) → over ≡ false → is_swept over l (Help (InstallTag i)) s j ≡ false
not-swept over l i s j none = rw none refl

nothing-comes : (e : ℕ → Entries) (local : ℕ → Local) (m : Memory) (w : ℕ) (l : Local) (a i v : ℕ) → m.cached a ≡ Value v → is_decided (m.status l.current) ≡ false
    → NoMore e local m (tagged m a l.current i w) w l l (Help (InstallTag i)) (Help (LookUnderTag i w (m.next_tag w)))
nothing-comes e local m w l a i v found undecided = record {
  through = λ s. through-tagged e local m a l.current i w v s;
  missing = λ s. missing-tagged e local m a l.current i w v s found;
  tags = λ u s j t other is swept. (fewer-tags m a l.current i w ((e s).target j) s j u t other is, not-swept (is_over_at (meets e local m) l (Help (InstallTag i))) l i s j (not-over e local m l (undecided-through e local m l.current undecided)));
  dirty = λ s j d is cleans. (fewer-dirty m a l.current i w ((e s).target j) (final_value (e s) j d) is, refl);
}

quiet-tagged : (e : ℕ → Entries) (local : ℕ → Local) (m : Memory) (w : ℕ) (l : Local) (a i v : ℕ) → m.cached a ≡ Value v → is_decided (m.status l.current) ≡ false → Quiet e local m (tagged m a l.current i w) l.current
quiet-tagged e local m w l a i v found undecided = record {
  undecided = undecided;
  still = undecided;
  decided = λ s is. is;
  through = λ s. through-tagged e local m a l.current i w v s;
  above = λ t. above-own e local m a l.current i w v t found;
  others = λ s t. higher e local m a l.current i w v s t found;
}

fresh-tagged : (e : ℕ → Entries) (local : ℕ → Local) (m : Memory) (w n : ℕ) (l : Local) (a i v : ℕ) → m.cached a ≡ Value v → is_decided (m.status l.current) ≡ false
    → fresh_budget (meets e local (tagged m a l.current i w)) w n l (Help (LookUnderTag i w (m.next_tag w))) + 1 ≤ fresh_budget (meets e local m) w n l (Help (InstallTag i))
fresh-tagged e local m w n l a i v found undecided =
    let quiet : Quiet e local m (tagged m a l.current i w) l.current = quiet-tagged e local m w l a i v found undecided in
    all-fall (meets e local m) (meets e local (tagged m a l.current i w)) w n l l (Help (InstallTag i)) (Help (LookUnderTag i w (m.next_tag w))) (open-less e local m (tagged m a l.current i w) w n quiet.through)
    (walk-quiet e local m (tagged m a l.current i w) w n l quiet) (omega arith) (detour-quiet e local m (tagged m a l.current i w) w n l quiet)
    (sums (own-less e local m (tagged m a l.current i w) l.operation (λ s. missing-tagged e local m a l.current i w v s found)) (no-more e local m (tagged m a l.current i w) w n l l (Help (InstallTag i)) (Help (LookUnderTag i w (m.next_tag w))) (nothing-comes e local m w l a i v found undecided)))
  where
    sums : {d' d r' r : ℕ} → d' ≤ d → r' ≤ r → d' + (24 + (4 - i)) + r' + 1 ≤ d + (25 + (4 - i)) + r
    sums f g = omega (arith, f, g)

not-true : (b : Bool) → not b ≡ true → b ≡ false
not-true false is = refl
not-true true is = absurd cc

-- the expected value stands at the entry
pub spends-try_value : (e : ℕ → Entries) (local : ℕ → Local) (m : Memory) (w n : ℕ) (l : Local) (i v : ℕ) → l.list (1 + 3 * i) ≡ (e l.current).target i → is_fresh_at (meets e local m) l.current (Help (InstallTag i)) ≡ true
    → m.cached (l.list (1 + 3 * i)) ≡ Value v → (v == l.list (2 + 3 * i)) ≡ true → Spends e local m w n l (Help (InstallTag i))
spends-try_value e local m w n l i v target fresh found same =
    let a : ℕ = l.list (1 + 3 * i) in
    let stands : is_tag ((tagged m a l.current i w).cached ((e l.current).target i)) l.current i w (m.next_tag w) ≡ true =
    ap (λ k. is_tag k l.current i w (m.next_tag w)) (put-at m.cached a (Tag l.current i w (m.next_tag w)) ((e l.current).target i) (sym target)) ∙ same-tag l.current i w (m.next_tag w) in
    subst (λ k. Tried e local m w n l i k) (sym found)
    (subst (λ b. Done e local m w n l i (if b then record { memory = with_tag m (l.list (1 + 3 * i)) l.current i w; next = Step (LookUnderTag i w (m.next_tag w)) } else record { memory = with_miss m l.current; next = Step (Decide Failed) })) (sym same)
    (falls-to (meets e local m) (meets e local (tagged m a l.current i w)) w n l l (Help (InstallTag i)) (Help (LookUnderTag i w (m.next_tag w))) fresh (both (not (is_decided (m.status l.current))) _ fresh stands)
    (fresh-tagged e local m w n l a i v found (not-true (is_decided (m.status l.current)) fresh))))
