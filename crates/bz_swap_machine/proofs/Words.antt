-- The cached word of a named address changes to another that stands for the same value, or that of a private one to another plain word.
use Rattle.std.proofs.Common.{◌≡◌, ℕ, ◌+◌, ◌<◌, ◌≤◌, true, false, arith, refl}
use Rattle.std.proofs.lemmas.Grind.{common_steps}
use Rattle.bz_word.specs.declared.kind.WordKind.{WordKind}
use Rattle.bz_word.specs.declared.kind.WordKind.TheVariants.{Value, Swap, Tag}
use Rattle.bz_swap_machine.specs.declared.status.Verdict.{Verdict}
use Rattle.bz_swap_machine.specs.Machine.{Entries, Memory, is_verdict, resolve}
use Rattle.bz_swap_machine.specs.Changes.{put, with_word, with_tag}
use Rattle.bz_swap_machine.specs.Sound.{IsPlain, IsTarget, IsEntry, Sound}
use Rattle.bz_swap_machine.specs.Keeps.{Keeps}
use Rattle.bz_swap_machine.proofs.Change.{Change, quiet-change}
use Rattle.bz_swap_machine.proofs.Published.{durable_verdict-cached}

-- what makes the change of the word at a lawful, with the numbers of the next tags after it: a named address keeps its
-- value and a private word stays plain, a pointer that goes belongs to a decided swap, a new pointer or tag is at its
-- place, and a new tag has a fresh number
pub record Lawful (e : ℕ → Entries) (m : Memory) (a : ℕ) (x : WordKind) (numbers : ℕ → ℕ) : Type 0 where
  pub value : m.named a ≡ true → resolve e m.durable_status a x ≡ resolve e m.durable_status a (m.cached a)
  pub private : m.named a ≡ false → IsPlain x
  pub goes : (s : ℕ) → m.cached a ≡ Swap s → (d : Verdict) × (is_verdict (m.durable_status s) d ≡ true)
  pub pointer : (s : ℕ) → x ≡ Swap s → IsTarget e m.published s a
  pub tag : (s i w q : ℕ) → x ≡ Tag s i w q → IsEntry e m.published s i a
  pub fresh : (s i w q : ℕ) → x ≡ Tag s i w q → (m.next_tag w ≤ q) × (q < numbers w)
  pub rising : (w : ℕ) → m.next_tag w ≤ numbers w

-- the memory with this word at a, and these numbers of the next tags
abbrev with_numbered : Memory → ℕ → WordKind → (ℕ → ℕ) → Memory
with_numbered m a x numbers = record m { cached = put m.cached a x; next_tag = numbers }

sound-numbered : (e : ℕ → Entries) (m : Memory) (a : ℕ) (x : WordKind) (numbers : ℕ → ℕ) → Lawful e m a x numbers → Sound e m → Sound e (with_numbered m a x numbers)
sound-numbered e m a x numbers l g =
    let pointer : (b s : ℕ) → put m.cached a x b ≡ Swap s → IsTarget e m.published s b = λ b s h. grind (arith, common_steps, g.pointer b s, l.pointer s) in
    let tag : (b s i w q : ℕ) → put m.cached a x b ≡ Tag s i w q → IsEntry e m.published s i b = λ b s i w q h. grind (arith, common_steps, g.tag b s i w q, l.tag s i w q) in
    grind (arith, common_steps, pointer, tag, g, l)

keeps-numbered : (e : ℕ → Entries) (m : Memory) (a : ℕ) (x : WordKind) (numbers : ℕ → ℕ) → Lawful e m a x numbers → Sound e m → Keeps e m (with_numbered m a x numbers)
keeps-numbered e m a x numbers l g = grind (arith, common_steps, durable_verdict-cached e m, g, l)

change-numbered : (e : ℕ → Entries) (m : Memory) (a : ℕ) (x : WordKind) (numbers : ℕ → ℕ) (s : ℕ) → Lawful e m a x numbers → Sound e m → Change e m (with_numbered m a x numbers) s
change-numbered e m a x numbers s l g = quiet-change e m (with_numbered m a x numbers) s (sound-numbered e m a x numbers l g) (keeps-numbered e m a x numbers l g) (λ t. grind (arith, common_steps)) refl refl refl

-- no tag comes
pub change-word : (e : ℕ → Entries) (m : Memory) (a : ℕ) (x : WordKind) (s : ℕ) → Lawful e m a x m.next_tag → Sound e m → Change e m (with_word m a x) s
change-word e m a x s l g = change-numbered e m a x m.next_tag s l g

-- a word that no swap has named is stored
pub change-store : (e : ℕ → Entries) (m : Memory) (a v s : ℕ) → m.named a ≡ false → Sound e m → Change e m (with_word m a (Value v)) s
change-store e m a v s p g = change-numbered e m a (Value v) m.next_tag s (grind (arith, common_steps, g.private a p)) g

-- a worker's new tag comes to stand over the expected value of an entry
pub change-tag : (e : ℕ → Entries) (m : Memory) (s i w : ℕ) → m.published s ≡ true → i < (e s).count → m.cached ((e s).target i) ≡ Value ((e s).expected i) → Sound e m
    → Change e m (with_tag m ((e s).target i) s i w) s
change-tag e m s i w p lt h g = change-numbered e m ((e s).target i) (Tag s i w (m.next_tag w)) (put m.next_tag w (m.next_tag w + 1)) s (grind (arith, common_steps, g.targets s i lt)) g
