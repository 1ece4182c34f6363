-- Who can still move a counter: nobody begins to, but by a swap that is begun, and nobody can once it has been moved.
use Rattle.std.proofs.Common.{◌≡◌, ◌≢◌, ◌≤◌, ◌<◌, inl, inr, ◌==◌, ◌&&◌, not, ℕ, zero, suc, Bool, true, false, List, length, refl, sym, ap, subst, ◌∙◌, arith}
use Rattle.std.proofs.lemmas.Bool.{cases_eq, and_from, and_parts, eqb-false, false_from_ne_true, ne_eqb, not-true, not_from_false, or_cases, or_left, or_right}
use Rattle.bz_word.specs.declared.entry.Entry.{Entry}
use Rattle.bz_swap_machine.specs.Allowed.{counted}
use Rattle.bz_swap.specs.SwapMemory.{SwapMemory, Doing, Swapping, value_at, has_effect, entries_of, doing_of}
use Rattle.bz_rivals.specs.Rivals.{is_pending}
use Rattle.bz_queue.specs.Inside.Left.{moves_from, moves_in, is_mover, some_below, may_move}

some-more : (f : ℕ → Bool) (n v : ℕ) → v < n → f v ≡ true → some_below f n ≡ true
some-more f zero v within is = absurd (omega arith)
some-more f (suc n) v within is = elim (cases_eq v n) [
  | inl same ↦ or_right (some_below f n) (f n) (subst (λ (u : ℕ). f u ≡ true) same is)
  | inr other ↦ or_left (some_below f n) (f n) (some-more f n v (omega arith) is)
]

some-of : (f : ℕ → Bool) (n : ℕ) → some_below f n ≡ true → (v : ℕ) × ((v < n) × (f v ≡ true))
some-of f zero is = absurd (cc is)
some-of f (suc n) is = elim (or_cases (some_below f n) (f n) is) [
  | inl below ↦ (let it = some-of f n below in (it.0, (omega (arith, it.1.0), it.1.1)))
  | inr here ↦ (n, (omega arith, here))
]

pub counted-le : (a b : Bool) → (a ≡ true → b ≡ true) → counted a 1 ≤ counted b 1
counted-le false b le = omega arith
counted-le true b le = (let is : b ≡ true = le refl in rw is (omega arith))

-- what a worker is that can move a counter
pub record Mover (m : SwapMemory) (w a v : ℕ) : Type 0 where
  pub other : v ≢ w
  pub s : ℕ
  pub doing : doing_of m v ≡ Swapping s
  pub none : has_effect m s ≡ false
  pub moves : moves_from (entries_of m s) a (value_at m a) ≡ true

mover-by : (m : SwapMemory) (w a v : ℕ) (same : Bool) (doing : Doing) → (v == w) ≡ same → doing_of m v ≡ doing → ((not same && is_pending m doing) && moves_in m doing a) ≡ true → Mover m w a v
mover-by m w a v true doing one two is = absurd (cc is)
mover-by m w a v false (Swapping s) one two is =
    let both = and_parts (not (has_effect m s)) (moves_from (entries_of m s) a (value_at m a)) is in
    record { other = eqb-false v w one; s = s; doing = two; none = not-true (has_effect m s) both.0; moves = both.1 }
mover-by m w a v false other one two is = absurd (cc is)

pub to-mover : (m : SwapMemory) (w a v : ℕ) → is_mover m w a v ≡ true → Mover m w a v
to-mover m w a v is = mover-by m w a v (v == w) (doing_of m v) refl refl is

pub of-mover : (m : SwapMemory) (w a v : ℕ) → Mover m w a v → is_mover m w a v ≡ true
of-mover m w a v h = rw (ne_eqb v w h.other, h.doing) (and_from (not (has_effect m h.s)) (moves_from (entries_of m h.s) a (value_at m a)) (not_from_false (has_effect m h.s) h.none) h.moves)

-- a mover is one of the workers
pub may-move : (m : SwapMemory) (w a v : ℕ) → v < length m.workers → Mover m w a v → may_move m w a ≡ true
may-move m w a v within h = some-more (is_mover m w a) (length m.workers) v within (of-mover m w a v h)

pub none-move : (m : SwapMemory) (w a : ℕ) → ((v : ℕ) → Mover m w a v → ⊥) → may_move m w a ≡ false
none-move m w a none = false_from_ne_true (may_move m w a) (λ is. (let it = some-of (is_mover m w a) (length m.workers) is in none it.0 (to-mover m w a it.0 it.1.1)))

pub move-falls : (old new : SwapMemory) (w a : ℕ) → length new.workers ≡ length old.workers → ((v : ℕ) → Mover new w a v → Mover old w a v) → counted (may_move new w a) 1 ≤ counted (may_move old w a) 1
move-falls old new w a count was = counted-le (may_move new w a) (may_move old w a) (λ is.
    let it = some-of (is_mover new w a) (length new.workers) is in
    may-move old w a it.0 (omega (arith, it.1.0)) (was it.0 (to-mover new w a it.0 it.1.1)))

-- the other workers do what they did, and no effect went
pub record Stays (old new : SwapMemory) (w : ℕ) : Type 0 where
  pub count : length new.workers ≡ length old.workers
  pub doing : (v : ℕ) → v ≢ w → doing_of new v ≡ doing_of old v
  pub entries : (v s : ℕ) → doing_of old v ≡ Swapping s → entries_of new s ≡ entries_of old s
  pub effects : (s : ℕ) → has_effect new s ≡ false → has_effect old s ≡ false

-- so where the counter is what it was nobody moves it that could not
pub stays-mover : (old new : SwapMemory) (w a : ℕ) → Stays old new w → value_at new a ≡ value_at old a → (v : ℕ) → Mover new w a v → Mover old w a v
stays-mover old new w a k same v h =
    let doing : doing_of old v ≡ Swapping h.s = sym (k.doing v h.other) ∙ h.doing in
    record {
      other = h.other;
      s = h.s;
      doing = doing;
      none = k.effects h.s h.none;
      moves = sym (ap (λ (c : ℕ). moves_from (entries_of old h.s) a c) same) ∙ sym (ap (λ (all : List Entry). moves_from all a (value_at new a)) (k.entries v h.s doing)) ∙ h.moves;
    }

pub stays-move : (old new : SwapMemory) (w a : ℕ) → Stays old new w → value_at new a ≡ value_at old a → counted (may_move new w a) 1 ≤ counted (may_move old w a) 1
stays-move old new w a k same = move-falls old new w a k.count (stays-mover old new w a k same)
