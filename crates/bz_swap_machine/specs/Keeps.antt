-- What an act may change for the workers that do not make it.
use Rattle.std.specs.Prelude.{◌≡◌, ℕ, ◌<◌, ◌≤◌, true, false}
use Rattle.bz_word.specs.declared.kind.WordKind.{WordKind}
use Rattle.bz_word.specs.declared.kind.WordKind.TheVariants.{Swap, Tag}
use Rattle.bz_swap_machine.specs.declared.status.SwapStatus.{SwapStatus}
use Rattle.bz_swap_machine.specs.declared.status.SwapStatus.TheVariants.{Undecided}
use Rattle.bz_swap_machine.specs.declared.status.Verdict.{Verdict}
use Rattle.bz_swap_machine.specs.Machine.{Entries, Memory, is_verdict, is_succeeded, MayLast, StatusMayLast, FieldMayLast}

-- what no act of a worker changes for the facts about published swaps
pub record Keeps (e : ℕ → Entries) (m n : Memory) : Type 0 where
  -- a published swap stays so, a miss stays noted, tag numbers do not fall, and names stay
  pub published : (s : ℕ) → m.published s ≡ true → n.published s ≡ true
  pub missed : (s : ℕ) → m.missed s ≡ true → n.missed s ≡ true
  pub numbers : (w : ℕ) → m.next_tag w ≤ n.next_tag w
  pub named : (a : ℕ) → n.named a ≡ m.named a
  pub taken : n.taken ≡ m.taken
  pub owner : (s : ℕ) → n.owner s ≡ m.owner s
  -- what is undecided was undecided; a verdict stays, in cache and in durable memory
  pub undecided : (s : ℕ) → m.published s ≡ true → n.status s ≡ Undecided → m.status s ≡ Undecided
  pub verdict : (s : ℕ) (d : Verdict) → is_verdict (m.status s) d ≡ true → is_verdict (n.status s) d ≡ true
  pub durable_verdict : (s : ℕ) (d : Verdict) → is_verdict (m.durable_status s) d ≡ true → is_verdict (n.durable_status s) d ≡ true
  -- a pointer of an undecided swap stays
  pub pointer : (s i : ℕ) → i < (e s).count → n.status s ≡ Undecided → m.cached ((e s).target i) ≡ Swap s → n.cached ((e s).target i) ≡ Swap s
  pub pointer_durable : (s i : ℕ) → i < (e s).count → n.status s ≡ Undecided → m.cached ((e s).target i) ≡ Swap s
      → ((x : WordKind) → MayLast m ((e s).target i) x → x ≡ Swap s) → (x : WordKind) → MayLast n ((e s).target i) x → x ≡ Swap s
  -- a tag with an old number that stands stood before, and no success is decided while a tag stands
  pub old_tag : (a s i w q : ℕ) → q < m.next_tag w → n.cached a ≡ Tag s i w q → m.cached a ≡ Tag s i w q
  pub under_tag : (s i w q : ℕ) → i < (e s).count → n.cached ((e s).target i) ≡ Tag s i w q → is_succeeded (m.status s) ≡ false → is_succeeded (n.status s) ≡ false

-- what an act keeps of a swap that is not its maker's
pub record KeepsDescriptor (m n : Memory) (s : ℕ) : Type 0 where
  pub published : n.published s ≡ m.published s
  pub answer : n.answer s ≡ m.answer s
  -- while it is not published: its words in the cache, and what may last alone as it is in the cache
  pub words : (k : ℕ) → n.words s k ≡ m.words s k
  pub durable_words : (k : ℕ) → ((v : ℕ) → FieldMayLast m s k v → v ≡ m.words s k) → (v : ℕ) → FieldMayLast n s k v → v ≡ m.words s k
  pub status : m.published s ≡ false → n.status s ≡ m.status s
  pub durable_status : m.published s ≡ false → ((k : SwapStatus) → StatusMayLast m s k → k ≡ m.status s) → (k : SwapStatus) → StatusMayLast n s k → k ≡ m.status s
