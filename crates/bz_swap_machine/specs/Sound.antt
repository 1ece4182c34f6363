-- What holds of the words and descriptors at every moment outside a recovery time, whatever the workers do.
use Rattle.std.specs.Prelude.{◌≡◌, ℕ, ◌*◌, ◌<◌, ◌≤◌, Bool, true, false, Some, None}
use Rattle.bz_word.specs.declared.kind.WordKind.{WordKind}
use Rattle.bz_word.specs.declared.kind.WordKind.TheVariants.{Value, Dirty, Swap, Tag}
use Rattle.bz_swap_machine.specs.declared.status.SwapStatus.{SwapStatus}
use Rattle.bz_swap_machine.specs.declared.status.SwapStatus.TheVariants.{Free, Undecided, Deciding, Decided}
use Rattle.bz_swap_machine.specs.declared.status.Verdict.{Verdict}
use Rattle.bz_swap_machine.specs.declared.status.Verdict.TheVariants.{Failed}
use Rattle.bz_swap_machine.specs.Pending.{Saved, Pending, IsPast}
use Rattle.bz_swap_machine.specs.Sizes.{most_entries}
use Rattle.bz_swap_machine.specs.Machine.{Entries, Memory, spelled, is_verdict, is_succeeded, resolve, MayLast, StatusMayLast, FieldMayLast}

-- the second status is the first or one before it: undecided, decided with the dirty bit, decided
abbrev pub Follows : SwapStatus → SwapStatus → Type 0
Follows Free d = ⊥
Follows Undecided Free = ⊥
Follows Undecided Undecided = Unit {0}
Follows Undecided (Deciding d) = ⊥
Follows Undecided (Decided d) = ⊥
Follows (Deciding c) Free = ⊥
Follows (Deciding c) Undecided = Unit {0}
Follows (Deciding c) (Deciding d) = c ≡ d
Follows (Deciding c) (Decided d) = ⊥
Follows (Decided c) Free = ⊥
Follows (Decided c) Undecided = ⊥
Follows (Decided c) (Deciding d) = c ≡ d
Follows (Decided c) (Decided d) = c ≡ d

-- of two statuses that may last, the one saved later is not before the other; the durable one is the first
pub record InOrder (durable : SwapStatus) (p : Pending SwapStatus) : Type 0 where
  pub first : (w : ℕ) (q : Saved SwapStatus) → p.asked w ≡ Some q → p.since < q.moment → Follows q.value durable
  pub later : (v w : ℕ) (q r : Saved SwapStatus) → p.asked v ≡ Some q → p.asked w ≡ Some r → p.since < q.moment → q.moment ≤ r.moment → Follows r.value q.value

-- free or undecided
abbrev pub IsUnset : SwapStatus → Type 0
IsUnset Free = Unit {0}
IsUnset Undecided = Unit {0}
IsUnset (Deciding d) = ⊥
IsUnset (Decided d) = ⊥

-- a plain word
abbrev pub IsPlain : WordKind → Type 0
IsPlain (Value v) = Unit {0}
IsPlain (Dirty v) = ⊥
IsPlain (Swap s) = ⊥
IsPlain (Tag s i w q) = ⊥

-- the targets of a swap differ: each address has one entry
abbrev pub AreApart : (ℕ → Entries) → Type 0
AreApart e = (s i : ℕ) → i < (e s).count → (e s).index ((e s).target i) ≡ i

-- each swap has at most four entries
abbrev pub AreShort : (ℕ → Entries) → Type 0
AreShort e = (s : ℕ) → (e s).count ≤ most_entries

-- an address is a target of a published swap
pub record IsTarget (e : ℕ → Entries) (published : ℕ → Bool) (s a : ℕ) : Type 0 where
  pub standing : published s ≡ true
  pub entry : (e s).index a < (e s).count
  pub target : (e s).target ((e s).index a) ≡ a

-- an address is the target of this entry of a published swap
pub record IsEntry (e : ℕ → Entries) (published : ℕ → Bool) (s i a : ℕ) : Type 0 where
  pub standing : published s ≡ true
  pub entry : i < (e s).count
  pub target : (e s).target i ≡ a

pub record Sound (e : ℕ → Entries) (m : Memory) : Type 0 where
  -- a named word resolves alike in cache and in durable memory
  pub same : (a : ℕ) (x : WordKind) → MayLast m a x → m.named a ≡ true → resolve e m.durable_status a (m.cached a) ≡ resolve e m.durable_status a x
  -- a word that no swap has named is plain
  pub private : (a : ℕ) → m.named a ≡ false → IsPlain (m.cached a)
  pub private_durable : (a : ℕ) (x : WordKind) → MayLast m a x → m.named a ≡ false → IsPlain x
  -- a pointer stands only at a target of its swap, a tag only at its entry's, and its number was used
  pub pointer : (a s : ℕ) → m.cached a ≡ Swap s → IsTarget e m.published s a
  pub pointer_durable : (a s : ℕ) (x : WordKind) → MayLast m a x → x ≡ Swap s → IsTarget e m.published s a
  pub tag : (a s i w q : ℕ) → m.cached a ≡ Tag s i w q → IsEntry e m.published s i a
  pub tag_durable : (a s i w q : ℕ) (x : WordKind) → MayLast m a x → x ≡ Tag s i w q → IsEntry e m.published s i a
  pub fresh : (a s i w q : ℕ) → m.cached a ≡ Tag s i w q → q < m.next_tag w
  -- the targets of swaps are named; a swap that is begun has entries, another has none
  pub targets : (s i : ℕ) → i < (e s).count → m.named ((e s).target i) ≡ true
  pub begun : (s : ℕ) → s < m.taken → 0 < (e s).count
  pub not_begun : (s : ℕ) → m.taken ≤ s → ((e s).count ≡ 0) × (m.published s ≡ false)
  -- the descriptor of a published swap spells its entries, in cache and in durable memory
  pub words : (s k : ℕ) → m.published s ≡ true → k ≤ 3 * (e s).count → m.words s k ≡ spelled (e s) k
  pub durable_words : (s k v : ℕ) → FieldMayLast m s k v → m.published s ≡ true → k ≤ 3 * (e s).count → v ≡ spelled (e s) k
  -- the status of a published swap changes once
  pub follows : (s : ℕ) (k : SwapStatus) → StatusMayLast m s k → m.published s ≡ true → Follows (m.status s) k
  pub order : (s : ℕ) → m.published s ≡ true → InOrder (m.durable_status s) (m.status_pending s)
  -- before that it is free or undecided, not missed and not answered
  pub unset : (s : ℕ) → m.published s ≡ false → IsUnset (m.status s)
  pub unset_durable : (s : ℕ) (k : SwapStatus) → StatusMayLast m s k → m.published s ≡ false → IsUnset k
  pub unmissed : (s : ℕ) → m.published s ≡ false → m.missed s ≡ false
  pub unanswered : (s : ℕ) → m.published s ≡ false → m.answer s ≡ None
  -- while success stands in the cache alone, all targets hold the pointer, in cache and in durable memory
  pub standing : (s i : ℕ) → i < (e s).count → is_succeeded (m.status s) ≡ true → m.durable_status s ≡ Undecided → m.cached ((e s).target i) ≡ Swap s
  pub standing_durable : (s i : ℕ) (x : WordKind) → i < (e s).count → is_succeeded (m.status s) ≡ true → m.durable_status s ≡ Undecided → MayLast m ((e s).target i) x → x ≡ Swap s
  -- a swap that failed was missed; what was answered is the durable verdict
  pub missed : (s : ℕ) → is_verdict (m.status s) Failed ≡ true → m.missed s ≡ true
  pub answered : (s : ℕ) (d : Verdict) → m.answer s ≡ Some d → is_verdict (m.durable_status s) d ≡ true
  -- every ask was made by now
  pub past : (a : ℕ) → IsPast m.now (m.pending a)
  pub status_past : (s : ℕ) → IsPast m.now (m.status_pending s)
  pub words_past : (s k : ℕ) → IsPast m.now (m.words_pending s k)
