-- The search for the first unlawful word, and for the first entry of an address, as far as they have come.
use Rattle.std.proofs.Common.{◌≡◌, ℕ, zero, suc, ◌+◌, ◌-◌, ◌<◌, ◌≤◌, ◌==◌, true, false, arith, refl, ap, ◌∙◌}
use Rattle.std.specs.Prelude.{Some, None}
use Rattle.bz_layout.specs.declared.config.Config.{Config}
use Rattle.bz_content.specs.Lawful.{is_lawful, first_unlawful}
use Rattle.bz_content.specs.Resolving.{target_in, entry_for}

pub unlawful-next : (c : Config) (raw : ℕ → ℕ) (a n : ℕ) → a < n → first_unlawful c raw 0 n ≡ first_unlawful c raw a (n - a) → is_lawful c raw a ≡ true → first_unlawful c raw 0 n ≡ first_unlawful c raw (a + 1) (n - (a + 1))
unfolding first_unlawful
unlawful-next c raw a n less e t =
    let s : n - a ≡ suc (n - (a + 1)) = omega arith in
    e ∙ (ap (first_unlawful c raw a) s ∙ rw t refl)

pub unlawful-here : (c : Config) (raw : ℕ → ℕ) (a n : ℕ) → a < n → first_unlawful c raw 0 n ≡ first_unlawful c raw a (n - a) → is_lawful c raw a ≡ false → first_unlawful c raw 0 n ≡ Some a
unfolding first_unlawful
unlawful-here c raw a n less e t =
    let s : n - a ≡ suc (n - (a + 1)) = omega arith in
    e ∙ (ap (first_unlawful c raw a) s ∙ rw t refl)

pub unlawful-end : (c : Config) (raw : ℕ → ℕ) (a n : ℕ) → n ≤ a → first_unlawful c raw 0 n ≡ first_unlawful c raw a (n - a) → first_unlawful c raw 0 n ≡ None
unfolding first_unlawful
unlawful-end c raw a n less e =
    let s : n - a ≡ zero = omega arith in
    e ∙ ap (first_unlawful c raw a) s

pub entry-next : (raw : ℕ → ℕ) (s a i n : ℕ) → i < n → entry_for raw s a 0 n ≡ entry_for raw s a i (n - i) → (target_in raw s i == a) ≡ false → entry_for raw s a 0 n ≡ entry_for raw s a (i + 1) (n - (i + 1))
unfolding entry_for
entry-next raw s a i n less e t =
    let k : n - i ≡ suc (n - (i + 1)) = omega arith in
    e ∙ (ap (entry_for raw s a i) k ∙ rw t refl)

pub entry-here : (raw : ℕ → ℕ) (s a i n : ℕ) → i < n → entry_for raw s a 0 n ≡ entry_for raw s a i (n - i) → (target_in raw s i == a) ≡ true → entry_for raw s a 0 n ≡ i
unfolding entry_for
entry-here raw s a i n less e t =
    let k : n - i ≡ suc (n - (i + 1)) = omega arith in
    e ∙ (ap (entry_for raw s a i) k ∙ rw t refl)

pub entry-end : (raw : ℕ → ℕ) (s a i n : ℕ) → n ≤ i → entry_for raw s a 0 n ≡ entry_for raw s a i (n - i) → entry_for raw s a 0 n ≡ i
unfolding entry_for
entry-end raw s a i n less e =
    let k : n - i ≡ zero = omega arith in
    e ∙ ap (entry_for raw s a i) k
