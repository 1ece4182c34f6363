-- What the tests of level, fences and status decide.
use Rattle.std.proofs.Common.{◌≡◌, ℕ, ◌+◌, ◌^◌, ◌<◌, ◌≤◌, ◌==◌, ◌&&◌, Bool, true, false, List, arith, refl, sym, Option}
use Rattle.std.specs.Prelude.{not, nat_lt, nat_le, Some, None}
use Rattle.std.specs.Bool.{Decides}
use Rattle.std.proofs.lemmas.Bool.{true≢false}
use Rattle.std.proofs.lemmas.Bool.Decides.{Decides-ltb, Decides-eqb, Decides-and, Decides-like}
use Rattle.std.proofs.lemmas.Slice.Eq.{bytes_eq-Decides}
use Rattle.bz_key.specs.Packing.{packed_len, unpacked_key}
use Rattle.bz_layout.specs.declared.sizes.TheConstants.{NODE_WORDS, STATUS_AT, HEADER_AT, LOW_FENCE_AT, HIGH_FENCE_AT, FENCE_WORDS, META_AT, SHARED_WORDS}
use Rattle.bz_layout.specs.declared.thresholds.TheConstants.{MAX_LEVELS}
use Rattle.bz_slotted.specs.Page.{words_at, Page}
use Rattle.bz_slotted.specs.Records.{live_block}
use Rattle.bz_slotted.specs.Rules.{level_test, reads_as, fence_test, fences_test, free_test, filled_test, settled_test}
use Rattle.bz_slotted.specs.Tests.{every, implies}
use Rattle.bz_slotted.specs.Whole.{IsAtLevel, IsFence, HasFences, IsFilled, IsSettled}
use Rattle.bz_slotted.proofs.Deciding.{Decides-le, Decides-implies, Decides-every}

pub Decides-level : (p : Page) (l : ℕ) → Decides (level_test p l) (IsAtLevel p l)
Decides-level p l = Decides-like (level_test p l) (λ t. record { header = t.0; level = t.1.0; lowest = t.1.1 }) (λ r. (r.header, (r.level, r.lowest)))
    (Decides-and (nat_lt (p.word HEADER_AT) (2 ^ 32)) (p.level == l && nat_lt l MAX_LEVELS) (Decides-ltb (p.word HEADER_AT) (2 ^ 32)) (Decides-and (p.level == l) (nat_lt l MAX_LEVELS) (Decides-eqb p.level l) (Decides-ltb l MAX_LEVELS)))

Decides-reads : (o : Option (List ℕ)) (key : List ℕ) → Decides (reads_as o key) (o ≡ Some key)
Decides-reads None key = (λ h. absurd (true≢false (sym h)), λ h. absurd (cc))
Decides-reads (Some read) key = Decides-like (reads_as (Some read) key) (λ h. λ i. Some (h i)) (λ h. cc) (bytes_eq-Decides read key)

pub Decides-fence : (n : ℕ → ℕ) (at len : ℕ) (bound : Option (List ℕ)) → Decides (fence_test n at len bound) (IsFence n at len bound)
unfolding fence_test
Decides-fence n at len None = Decides-and (len == 0) (every FENCE_WORDS (λ i. n (at + i) == 0)) (Decides-eqb len 0) (Decides-every (λ i. n (at + i) == 0) (λ i. n (at + i) ≡ 0) (λ i. Decides-eqb (n (at + i)) 0) FENCE_WORDS)
Decides-fence n at len (Some key) = Decides-reads (unpacked_key len (words_at n at (packed_len len))) key

pub Decides-fences : (p : Page) (lo hi : Option (List ℕ)) → Decides (fences_test p lo hi) (HasFences p lo hi)
Decides-fences p lo hi = Decides-like (fences_test p lo hi) (λ t. record { low = t.0; high = t.1 }) (λ r. (r.low, r.high))
    (Decides-and (fence_test p.word LOW_FENCE_AT p.low lo) (fence_test p.word HIGH_FENCE_AT p.high hi) (Decides-fence p.word LOW_FENCE_AT p.low lo) (Decides-fence p.word HIGH_FENCE_AT p.high hi))

Decides-free : (p : Page) (i : ℕ) → Decides (free_test p i) (META_AT + p.count ≤ i → i + p.block < NODE_WORDS → p.word i ≡ 0)
Decides-free p i = Decides-implies (nat_le (META_AT + p.count) i) (implies (nat_lt (i + p.block) NODE_WORDS) (p.word i == 0)) (Decides-le (META_AT + p.count) i)
    (Decides-implies (nat_lt (i + p.block) NODE_WORDS) (p.word i == 0) (Decides-ltb (i + p.block) NODE_WORDS) (Decides-eqb (p.word i) 0))

pub Decides-filled : (p : Page) → Decides (filled_test p) (IsFilled p)
Decides-filled p = Decides-like (filled_test p)
    (λ t. record { status = t.0; room = t.1.0; sorted = t.1.1.0; free = λ i a b. t.1.1.1.0 i (omega arith) a b; dead = t.1.1.1.1 })
    (λ r. (r.status, (r.room, (r.sorted, (λ i l a b. r.free i a b, r.dead)))))
    (Decides-and (nat_lt (p.word STATUS_AT) (2 ^ 61)) _ (Decides-ltb (p.word STATUS_AT) (2 ^ 61))
    (Decides-and (nat_le (p.count + p.block) SHARED_WORDS) _ (Decides-le (p.count + p.block) SHARED_WORDS)
    (Decides-and (nat_le p.sorted p.count) _ (Decides-le p.sorted p.count)
    (Decides-and (every NODE_WORDS (free_test p)) (p.dead + live_block p.meta p.count == p.block) (Decides-every (free_test p) (λ i. META_AT + p.count ≤ i → i + p.block < NODE_WORDS → p.word i ≡ 0) (Decides-free p) NODE_WORDS)
    (Decides-eqb (p.dead + live_block p.meta p.count) p.block)))))

Decides-not : (b : Bool) → Decides (not b) (b ≡ false)
Decides-not true = (λ h. absurd (true≢false (sym h)), λ h. absurd (true≢false h))
Decides-not false = (λ h. refl, λ h. refl)

pub Decides-settled : (p : Page) → Decides (settled_test p) (IsSettled p)
Decides-settled p = Decides-like (settled_test p)
    (λ t. record { thawed = t.0; some = t.1.0; none_dead = t.1.1.0; all_sorted = t.1.1.1 })
    (λ r. (r.thawed, (r.some, (r.none_dead, r.all_sorted))))
    (Decides-and (not p.frozen) _ (Decides-not p.frozen)
    (Decides-and (nat_lt 0 p.count) _ (Decides-ltb 0 p.count)
    (Decides-and (p.dead == 0) (p.sorted == p.count) (Decides-eqb p.dead 0) (Decides-eqb p.sorted p.count))))
