-- A store to a private word spends one: nobody meets such a word.
use Rattle.std.proofs.Common.{◌≡◌, ℕ, ◌+◌, ◌≤◌, Bool, false, arith, refl, ap, sym, subst, ◌∙◌}
use Rattle.bz_word.specs.declared.kind.WordKind.{WordKind}
use Rattle.bz_word.specs.declared.kind.WordKind.TheVariants.{Value, Dirty, Swap, Tag}
use Rattle.bz_swap_machine.specs.declared.place.Place.TheVariants.{Idle, StoreWord}
use Rattle.bz_swap_machine.specs.declared.worker.Operation.TheVariants.{Nothing}
use Rattle.bz_swap_machine.specs.Budget.{open_count, if_any, reserve_by, own_missing_by, budget_at}
use Rattle.bz_swap_machine.specs.Changes.{put, with_word}
use Rattle.bz_swap_machine.specs.Machine.{Entries, Memory}
use Rattle.bz_swap_machine.specs.Sound.{IsPlain}
use Rattle.bz_swap_machine.specs.Standing.{is_pointer, stands_for, is_tag, is_dirty, is_any_dirty}
use Rattle.bz_swap_machine.specs.Steps.{Local}
use Rattle.bz_swap_machine.proofs.SpendClears.{test-put}
use Rattle.bz_swap_machine.proofs.Spends.{meets, Spends, here-falls}

-- a test that fails of all values tells nothing of a plain word
plain-fails : (test : WordKind → Bool) (k : WordKind) → ((u : ℕ) → test (Value u) ≡ false) → IsPlain k → test k ≡ false
plain-fails test (Value u) fails plain = fails u
plain-fails test (Dirty u) fails plain = absurd plain
plain-fails test (Swap s) fails plain = absurd plain
plain-fails test (Tag s i w q) fails plain = absurd plain

stored : (test : WordKind → Bool) (m : Memory) (a v b : ℕ) → ((u : ℕ) → test (Value u) ≡ false) → IsPlain (m.cached a) → test (put m.cached a (Value v) b) ≡ test (m.cached b)
stored test m a v b fails plain = test-put test m.cached a (Value v) b (fails v ∙ sym (plain-fails test (m.cached a) fails plain))

pub spends-store : (e : ℕ → Entries) (local : ℕ → Local) (m : Memory) (w n : ℕ) (l : Local) (a v : ℕ) → IsPlain (m.cached a) → l.operation ≡ Nothing → Spends e local m w n l (StoreWord a v)
spends-store e local m w n l a v plain rests =
    let pointer : (b s : ℕ) → is_pointer (put m.cached a (Value v) b) s ≡ is_pointer (m.cached b) s = λ b s. stored (λ k. is_pointer k s) m a v b (λ u. refl) plain in
    let stands : (b s : ℕ) → stands_for (put m.cached a (Value v) b) s ≡ stands_for (m.cached b) s = λ b s. stored (λ k. stands_for k s) m a v b (λ u. refl) plain in
    let tag : (b s i u q : ℕ) → is_tag (put m.cached a (Value v) b) s i u q ≡ is_tag (m.cached b) s i u q = λ b s i u q. stored (λ k. is_tag k s i u q) m a v b (λ j. refl) plain in
    let dirty : (b u : ℕ) → is_dirty (put m.cached a (Value v) b) u ≡ is_dirty (m.cached b) u = λ b u. stored (λ k. is_dirty k u) m a v b (λ j. refl) plain in
    let any : (b : ℕ) → is_any_dirty (put m.cached a (Value v) b) ≡ is_any_dirty (m.cached b) = λ b. stored is_any_dirty m a v b (λ j. refl) plain in
    let same : meets e local (with_word m a (Value v)) ≡ meets e local m = λ j. record (meets e local m) { pointer = λ b s. pointer b s j; stands = λ b s. stands b s j; tag = λ b s i u q. tag b s i u q j; dirty = λ b u. dirty b u j; any_dirty = λ b. any b j } in
    subst (λ y. budget_at y w n (record l { operation = Nothing; place = Idle }) Idle + 1 ≤ budget_at (meets e local m) w n l (StoreWord a v)) (sym same)
    (here-falls (meets e local m) w n l (record l { operation = Nothing; place = Idle }) (StoreWord a v) Idle refl (ap (λ o. reserve_by o (if_any (open_count (meets e local m) w n))) (sym rests)) refl
    (ap (λ o. own_missing_by (meets e local m) o) (sym rests)) refl (omega arith))
