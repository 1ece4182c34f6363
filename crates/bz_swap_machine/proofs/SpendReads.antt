-- A read that meets a dirty value cleans it first: from there on its own places count the value, and what the others left does not.
use Rattle.std.proofs.Common.{◌≡◌, ◌==◌, ◌&&◌, not, if◌then◌else◌, ℕ, ◌+◌, ◌≤◌, Bool, true, false, arith, refl, ap, sym, subst, ◌∙◌}
use Rattle.std.proofs.lemmas.Grind.{common_steps}
use Rattle.bz_word.specs.declared.kind.WordKind.TheVariants.{Value, Dirty}
use Rattle.bz_swap_machine.specs.declared.place.HelpStep.{HelpStep}
use Rattle.bz_swap_machine.specs.declared.place.HelpStep.TheVariants.{AskFinal, FenceFinal, ClearFinal}
use Rattle.bz_swap_machine.specs.declared.place.Place.{Place}
use Rattle.bz_swap_machine.specs.declared.place.Place.TheVariants.{Help, ReadWord, AskRead, ClearRead}
use Rattle.bz_swap_machine.specs.declared.status.Verdict.{Verdict}
use Rattle.bz_swap_machine.specs.Allowed.{counted}
use Rattle.bz_swap_machine.specs.Budget.{for_dirty, for_stale, open_count, open_above, walk_at, reserve, detour, own_missing, left_by_help, left_by_place, for_walks, left_by_others, fresh_budget, allowed_by_others, budget_at}
use Rattle.bz_swap_machine.specs.Sound.{AreShort}
use Rattle.bz_swap_machine.specs.Changes.{put, with_word}
use Rattle.bz_swap_machine.specs.DirtyHomes.{CleansFinal, IsAtFinal}
use Rattle.bz_swap_machine.specs.HelpActs.{final_value, cleared_word}
use Rattle.bz_swap_machine.specs.Machine.{Entries, Memory}
use Rattle.bz_swap_machine.specs.Standing.{Scene, target_at, is_tag, is_dirty, missing, is_through}
use Rattle.bz_swap_machine.specs.Steps.{Local, read_act}
use Rattle.bz_swap_machine.proofs.BudgetBounds.{fresh-le}
use Rattle.bz_swap_machine.proofs.Compared.{NoMore, no-more, one-less}
use Rattle.bz_swap_machine.proofs.SpendClears.{Home, dirty-told, cleared-to, clean-scene, fewer-put, paid}
use Rattle.bz_swap_machine.proofs.Spends.{meets, Spends, fresh-falls}
use Rattle.bz_swap_machine.proofs.Visits.{put-implied}

-- no more is counted once the dirty value is met
met-less : (e : ℕ → Entries) (local : ℕ → Local) (m : Memory) (w a v : ℕ) (l : Local) → NoMore e local m m w l l (ReadWord a) (AskRead a v)
met-less e local m w a v l = record {
  through = λ s is. is;
  missing = λ s. omega arith;
  tags = λ u s i t other is swept. (is, refl);
  dirty = λ s i d is cleans. (is, refl);
}

gone-counts : (a c : Bool) → a ≡ true → c ≡ true → counted (a && not c) for_dirty + for_dirty ≤ counted (a && true) for_dirty
gone-counts a c f g = rw (f, g) (omega arith)

-- the worker that was to clean it is counted less
help-drops : (x : Scene) (l : Local) (a v h : ℕ) (k : Local) (step : HelpStep) (i : ℕ) (d : Verdict) → CleansFinal step i d → x.dirty (target_at x k.current i) (final_value (x.entries k.current) i d) ≡ true
    → ((a == target_at x k.current i) && (v == final_value (x.entries k.current) i d)) ≡ true → left_by_help x false l (AskRead a v) h k step + for_dirty ≤ left_by_help x false l (ReadWord a) h k step
help-drops x l a v h k (AskFinal j c) i d at stands cleans = gone-counts _ _ (rw (at.0, at.1) stands) (rw (at.0, at.1) cleans)
help-drops x l a v h k (FenceFinal j c) i d at stands cleans = gone-counts _ _ (rw (at.0, at.1) stands) (rw (at.0, at.1) cleans)
help-drops x l a v h k (ClearFinal j c) i d at stands cleans = gone-counts _ _ (rw (at.0, at.1) stands) (rw (at.0, at.1) cleans)
help-drops x l a v h k step i d at stands cleans = absurd at

place-drops : (x : Scene) (l : Local) (a v h : ℕ) (k : Local) (place : Place) (i : ℕ) (d : Verdict) → IsAtFinal place i d → x.dirty (target_at x k.current i) (final_value (x.entries k.current) i d) ≡ true
    → ((a == target_at x k.current i) && (v == final_value (x.entries k.current) i d)) ≡ true → left_by_place x false l (AskRead a v) h k place + for_dirty ≤ left_by_place x false l (ReadWord a) h k place
place-drops x l a v h k (Help step) i d at stands cleans = help-drops x l a v h k step i d at stands cleans
place-drops x l a v h k place i d at stands cleans = absurd at

met-drops : (e : ℕ → Entries) (local : ℕ → Local) (m : Memory) (w n a v : ℕ) (l : Local) → Home e local w n a v → m.cached a ≡ Dirty v
    → left_by_others (meets e local m) w n l (AskRead a v) + for_dirty ≤ left_by_others (meets e local m) w n l (ReadWord a)
met-drops e local m w n a v l home is =
    let self : (v == v) ≡ true = grind (arith, common_steps) in
    let here : ((a == a) && (v == v)) ≡ true = grind (arith, common_steps) in
    one-less e local m m w n l l (ReadWord a) (AskRead a v) home.worker for_dirty (met-less e local m w a v l) home.other home.below
    (more _ _ _ (place-drops (meets e local m) l a v home.worker (local home.worker) (local home.worker).place home.entry home.verdict home.place (rw (home.target, home.value) (ap (λ k. is_dirty k v) is ∙ self)) (rw (home.target, home.value) here)))
  where
    more : (b c d : ℕ) → b + for_dirty ≤ c → b + d + for_dirty ≤ c + d
    more b c d f = omega (arith, f)

-- the word that is read has a dirty value
pub spends-read_dirty : (e : ℕ → Entries) (local : ℕ → Local) (m : Memory) (w n : ℕ) (l : Local) (a v : ℕ) → m.cached a ≡ Dirty v → Home e local w n a v → Spends e local m w n l (ReadWord a)
spends-read_dirty e local m w n l a v is home =
    let self : (v == v) ≡ true = grind (arith, common_steps) in
    subst (λ f. budget_at (meets e local (read_act m l a f).memory) w n (read_act m l a f).local (read_act m l a f).local.place + 1 ≤ budget_at (meets e local m) w n l (ReadWord a)) (sym is)
    (fresh-falls (meets e local m) w n l (ReadWord a) (AskRead a v) refl (ap (λ k. is_dirty k v) is ∙ self)
    (paid (for_walks (open_count (meets e local m) w n)) (walk_at (meets e local m) (open_count (meets e local m) w n) (open_above (meets e local m) w n) l (ReadWord a)) (reserve (ReadWord a) l.operation (open_count (meets e local m) w n))
    (detour (meets e local m) (open_count (meets e local m) w n) l (ReadWord a)) (own_missing (meets e local m) (ReadWord a) l.operation) 1 (left_by_others (meets e local m) w n l (ReadWord a)) 4 _ (omega arith) (met-drops e local m w n a v l home is)))

cleaned-dirty : (m : Memory) (a v b u : ℕ) → is_dirty (put m.cached a (Value v) b) u ≡ true → ((a == b) && (v == u)) ≡ false
cleaned-dirty m a v b u stands = by_test (b == a) refl stands
  where
    by_test : (t : Bool) → (b == a) ≡ t → is_dirty (if t then Value v else m.cached b) u ≡ true → ((a == b) && (v == u)) ≡ false
    by_test true told stands = absurd cc
    by_test false told stands = let apart : (a == b) ≡ false = grind (arith, common_steps, told) in rw apart refl

-- no more is counted once it is clean
clean-less : (e : ℕ → Entries) (local : ℕ → Local) (m : Memory) (w a v : ℕ) (l k : Local) → m.cached a ≡ Dirty v → NoMore e local m (with_word m a (Value v)) w l k (ClearRead a v) (ReadWord a)
clean-less e local m w a v l k is = record {
  through = λ s. subst (λ y. is_through (meets e local m) s ≡ true → is_through y s ≡ true) (sym (clean-scene e local m a v is)) (λ through. through);
  missing = λ s. subst (λ y. missing y s ≤ missing (meets e local m) s) (sym (clean-scene e local m a v is)) (omega arith);
  tags = λ u s i t other stands swept. (put-implied (λ j. is_tag j s i u t) m.cached a (Value v) ((e s).target i) (λ never. absurd cc) stands, refl);
  dirty = λ s i d stands cleans. (fewer-put m a v ((e s).target i) (final_value (e s) i d) stands, cleaned-dirty m a v ((e s).target i) (final_value (e s) i d) stands);
}

goes-on : (q a b c d f r f' r' : ℕ) → f' + 1 ≤ f → r' ≤ r → q + a + b + c + d + f' + r' + 1 ≤ q + a + b + c + d + f + r
goes-on q a b c d f r f' r' h1 h2 = omega (arith, h1, h2)

-- after the value that is read is clean, it is read again
pub spends-clear_read : (e : ℕ → Entries) (local : ℕ → Local) (m : Memory) (w n : ℕ) (l : Local) (a v : ℕ) → n ≤ 65 → AreShort e → Spends e local m w n l (ClearRead a v)
spends-clear_read e local m w n l a v few short = by_fresh (is_dirty (m.cached a) v) refl
  where
    by_fresh : (b : Bool) → is_dirty (m.cached a) v ≡ b
        → budget_at (meets e local (cleared_word m a v (m.cached a))) w n (record l { place = ReadWord a }) (ReadWord a) + 1 ≤ (if b then fresh_budget (meets e local m) w n l (ClearRead a v) else allowed_by_others (meets e local m) w n + for_stale + 1)
    by_fresh true told =
        let is : m.cached a ≡ Dirty v = dirty-told (m.cached a) v told in
        let rest : left_by_others (meets e local (with_word m a (Value v))) w n (record l { place = ReadWord a }) (ReadWord a) ≤ left_by_others (meets e local m) w n l (ClearRead a v) =
        no-more e local m (with_word m a (Value v)) w n l (record l { place = ReadWord a }) (ClearRead a v) (ReadWord a) (clean-less e local m w a v l (record l { place = ReadWord a }) is) in
        subst (λ y. budget_at y w n (record l { place = ReadWord a }) (ReadWord a) + 1 ≤ fresh_budget (meets e local m) w n l (ClearRead a v)) (sym (ap (λ k. meets e local k) (cleared-to m a v is) ∙ clean-scene e local m a v is))
        (goes-on (for_walks (open_count (meets e local m) w n)) (walk_at (meets e local m) (open_count (meets e local m) w n) (open_above (meets e local m) w n) l (ClearRead a v)) (reserve (ClearRead a v) l.operation (open_count (meets e local m) w n))
        (detour (meets e local m) (open_count (meets e local m) w n) l (ClearRead a v)) (own_missing (meets e local m) (ClearRead a v) l.operation) 2 (left_by_others (meets e local m) w n l (ClearRead a v)) 1 _ (omega arith)
        (subst (λ y. left_by_others y w n (record l { place = ReadWord a }) (ReadWord a) ≤ left_by_others (meets e local m) w n l (ClearRead a v)) (clean-scene e local m a v is) rest))
    by_fresh false told = omega (arith, fresh-le (meets e local (cleared_word m a v (m.cached a))) w n (record l { place = ReadWord a }) (ReadWord a) few short)
