-- An act changes one cached word outside the descriptors, or none: what it puts there, where, and what follows.
use Rattle.std.proofs.Common.{◌≡◌, ◌==◌, ◌&&◌, if◌then◌else◌, ℕ, ◌+◌, ◌*◌, Bool, true, false, arith, refl}
use Rattle.std.proofs.lemmas.Grind.{common_steps}
use Rattle.bz_word.specs.declared.kind.WordKind.{WordKind}
use Rattle.bz_word.specs.declared.kind.WordKind.TheVariants.{Value, Dirty, Swap, Tag}
use Rattle.bz_swap_machine.specs.declared.status.SwapStatus.{SwapStatus}
use Rattle.bz_swap_machine.specs.declared.status.SwapStatus.TheVariants.{Free, Undecided, Deciding, Decided}
use Rattle.bz_swap_machine.specs.declared.status.Verdict.{Verdict}
use Rattle.bz_swap_machine.specs.declared.status.Verdict.TheVariants.{Succeeded, Failed}
use Rattle.bz_swap_machine.specs.declared.place.HelpStep.{HelpStep}
use Rattle.bz_swap_machine.specs.declared.place.HelpStep.TheVariants.{Look, InstallTag, LookUnderTag, InstallPointer, RemoveTag, AskDirty, FenceDirty, ClearDirty, AskTarget, FenceTargets, Decide, AskStatus, FenceStatus, ClearStatus, PutFinal, AskFinal, FenceFinal, ClearFinal, SweepTag}
use Rattle.bz_swap_machine.specs.declared.place.Place.{Place}
use Rattle.bz_swap_machine.specs.declared.place.Place.TheVariants.{Idle, Prepare, Learn, Help, ReadWord, AskRead, FenceRead, ClearRead, LoadWord, StoreWord, AskLine, FenceLine}
use Rattle.bz_swap_machine.specs.declared.place.PrepareStep.TheVariants.{WriteWord, WriteStatus, AskHead, AskTail, FenceDescriptor}
use Rattle.bz_swap_machine.specs.declared.place.Next.{Next}
use Rattle.bz_swap_machine.specs.declared.place.Next.TheVariants.{Step, Meet}
use Rattle.bz_swap_machine.specs.Changes.{put, with_word, with_tag, with_miss}
use Rattle.bz_swap_machine.specs.HelpActs.{After, final_value, finished, passed, after_install_tag, after_untag, cleared_word, cleared_status, after_decide, after_put_final}
use Rattle.bz_swap_machine.specs.Machine.{Memory, entries_in}
use Rattle.bz_swap_machine.specs.declared.done.Done.TheVariants.{Busy}
use Rattle.bz_swap_machine.specs.Steps.{Local, Stepped, after_help, read_act, act}
use Rattle.bz_swap_machine.proofs.TagHomes.{cached-help}

-- worker w, which stood at a place, has made its act
pub data Written (m : Memory) (w : ℕ) (l : Local) (place : Place) (z : Stepped) : Type 0 where
  Stays : ((b : ℕ) → z.memory.cached b ≡ m.cached b) → Written m w l place z
  PutsPlain : (a v : ℕ) → ((b : ℕ) → z.memory.cached b ≡ put m.cached a (Value v) b) → Written m w l place z
  -- its tag, for the expected value
  PutsTag : (i : ℕ) → place ≡ Help (InstallTag i) → m.cached (l.list (1 + 3 * i)) ≡ Value (l.list (2 + 3 * i))
      → ((b : ℕ) → z.memory.cached b ≡ put m.cached (l.list (1 + 3 * i)) (Tag l.current i w (m.next_tag w)) b)
      → z.local ≡ record l { place = Help (LookUnderTag i w (m.next_tag w)) } → Written m w l place z
  -- the pointer, for a tag
  PutsPointer : (i v q : ℕ) → place ≡ Help (InstallPointer i v q) → m.cached (l.list (1 + 3 * i)) ≡ Tag l.current i v q
      → ((b : ℕ) → z.memory.cached b ≡ put m.cached (l.list (1 + 3 * i)) (Swap l.current) b)
      → z.local ≡ record l { place = Help (passed (entries_in l.list) i) } → Written m w l place z
  -- the final value, for the pointer
  PutsFinal : (i : ℕ) (d : Verdict) → place ≡ Help (PutFinal i d) → m.cached (l.list (1 + 3 * i)) ≡ Swap l.current
      → ((b : ℕ) → z.memory.cached b ≡ put m.cached (l.list (1 + 3 * i)) (Dirty (final_value (entries_in l.list) i d)) b)
      → z.local ≡ record l { place = Help (AskFinal i d) } → Written m w l place z

-- what an act on a swap leaves of the words, whatever follows
stays-next : (m : Memory) (w : ℕ) (l : Local) (place : Place) (n : Memory) (next : Next) → ((b : ℕ) → n.cached b ≡ m.cached b) → Written m w l place (after_help l n next)
stays-next m w l place n next same = Stays (λ b. rw (cached-help l n next) (same b))

plain-next : (m : Memory) (w : ℕ) (l : Local) (place : Place) (n : Memory) (next : Next) (a v : ℕ) → ((b : ℕ) → n.cached b ≡ put m.cached a (Value v) b) → Written m w l place (after_help l n next)
plain-next m w l place n next a v same = PutsPlain a v (λ b. rw (cached-help l n next) (same b))

-- either of two memories
either-next : (m : Memory) (w : ℕ) (l : Local) (place : Place) (t : Bool) (x y : After) → (t ≡ true → Written m w l place (after_help l x.memory x.next)) → Written m w l place (after_help l y.memory y.next)
    → Written m w l place (after_help l (if t then x else y).memory (if t then x else y).next)
either-next m w l place true x y f g = f refl
either-next m w l place false x y f g = g

written-install : (m : Memory) (w : ℕ) (l : Local) (i : ℕ) (found : WordKind) → m.cached (l.list (1 + 3 * i)) ≡ found
    → Written m w l (Help (InstallTag i)) (after_help l (after_install_tag (entries_in l.list) m w l.current i found).memory (after_install_tag (entries_in l.list) m w l.current i found).next)
written-install m w l i (Value v) is =
    either-next m w l _ (v == l.list (2 + 3 * i)) (record { memory = with_tag m (l.list (1 + 3 * i)) l.current i w; next = Step (LookUnderTag i w (m.next_tag w)) }) (record { memory = with_miss m l.current; next = Step (Decide Failed) })
    (λ told. let same : v ≡ l.list (2 + 3 * i) = grind (arith, common_steps, told) in PutsTag i refl (rw (is, same) refl) (λ b. refl) refl)
    (Stays (λ b. refl))
written-install m w l i (Dirty v) is = Stays (λ b. refl)
written-install m w l i (Swap t) is = stays-next m w l _ m (if t == l.current then Step (passed (entries_in l.list) i) else Meet t) (λ b. refl)
written-install m w l i (Tag t j v q) is = stays-next m w l _ m (if t == l.current then Step (LookUnderTag i v q) else Meet t) (λ b. refl)

-- a tag that is found is the one that is gone on with
tag-told : (m : Memory) (a s i v q t j u p : ℕ) → m.cached a ≡ Tag t j u p → (((t == s) && (j == i)) && ((u == v) && (p == q))) ≡ true → m.cached a ≡ Tag s i v q
tag-told m a s i v q t j u p is told = grind (arith, common_steps, is, told)

written-pointer : (m : Memory) (w : ℕ) (l : Local) (i v q : ℕ) (unchanged : Next) (found : WordKind) → m.cached (l.list (1 + 3 * i)) ≡ found
    → Written m w l (Help (InstallPointer i v q)) (after_help l (after_untag (entries_in l.list) m l.current i v q (Swap l.current) (Step (passed (entries_in l.list) i)) unchanged found).memory
    (after_untag (entries_in l.list) m l.current i v q (Swap l.current) (Step (passed (entries_in l.list) i)) unchanged found).next)
written-pointer m w l i v q unchanged (Value u) is = stays-next m w l _ m unchanged (λ b. refl)
written-pointer m w l i v q unchanged (Dirty u) is = stays-next m w l _ m unchanged (λ b. refl)
written-pointer m w l i v q unchanged (Swap t) is = stays-next m w l _ m unchanged (λ b. refl)
written-pointer m w l i v q unchanged (Tag t j u p) is =
    either-next m w l _ (((t == l.current) && (j == i)) && ((u == v) && (p == q))) (record { memory = with_word m (l.list (1 + 3 * i)) (Swap l.current); next = Step (passed (entries_in l.list) i) }) (record { memory = m; next = unchanged })
    (λ told. PutsPointer i v q refl (tag-told m _ l.current i v q t j u p is told) (λ b. refl) refl)
    (stays-next m w l _ m unchanged (λ b. refl))

written-untag : (m : Memory) (w : ℕ) (l : Local) (place : Place) (i v q : ℕ) (changed unchanged : Next) (found : WordKind)
    → Written m w l place (after_help l (after_untag (entries_in l.list) m l.current i v q (Value (l.list (2 + 3 * i))) changed unchanged found).memory (after_untag (entries_in l.list) m l.current i v q (Value (l.list (2 + 3 * i))) changed unchanged found).next)
written-untag m w l place i v q changed unchanged (Value u) = stays-next m w l place m unchanged (λ b. refl)
written-untag m w l place i v q changed unchanged (Dirty u) = stays-next m w l place m unchanged (λ b. refl)
written-untag m w l place i v q changed unchanged (Swap t) = stays-next m w l place m unchanged (λ b. refl)
written-untag m w l place i v q changed unchanged (Tag t j u p) =
    either-next m w l place (((t == l.current) && (j == i)) && ((u == v) && (p == q))) (record { memory = with_word m (l.list (1 + 3 * i)) (Value (l.list (2 + 3 * i))); next = changed }) (record { memory = m; next = unchanged })
    (λ told. plain-next m w l place (with_word m (l.list (1 + 3 * i)) (Value (l.list (2 + 3 * i)))) changed _ _ (λ b. refl))
    (stays-next m w l place m unchanged (λ b. refl))

written-final : (m : Memory) (w : ℕ) (l : Local) (i : ℕ) (d : Verdict) (found : WordKind) → m.cached (l.list (1 + 3 * i)) ≡ found
    → Written m w l (Help (PutFinal i d)) (after_help l (after_put_final (entries_in l.list) m l.current i d found).memory (after_put_final (entries_in l.list) m l.current i d found).next)
written-final m w l i d (Value v) is = stays-next m w l _ m (finished (entries_in l.list) i d) (λ b. refl)
written-final m w l i d (Dirty v) is = stays-next m w l _ m (finished (entries_in l.list) i d) (λ b. refl)
written-final m w l i d (Swap t) is =
    either-next m w l _ (t == l.current) (record { memory = with_word m (l.list (1 + 3 * i)) (Dirty (final_value (entries_in l.list) i d)); next = Step (AskFinal i d) }) (record { memory = m; next = finished (entries_in l.list) i d })
    (λ told. let same : t ≡ l.current = grind (arith, common_steps, told) in PutsFinal i d refl (rw (is, same) refl) (λ b. refl) refl)
    (stays-next m w l _ m (finished (entries_in l.list) i d) (λ b. refl))
written-final m w l i d (Tag t j v q) is = stays-next m w l _ m (if t == l.current then Step (SweepTag i d v q) else finished (entries_in l.list) i d) (λ b. refl)

-- the compare-and-swap of a dirty value to the plain one
cleared-if : (m : Memory) (a v : ℕ) (t : Bool) (P : Memory → Type 0) → P (with_word m a (Value v)) → P m → P (if t then with_word m a (Value v) else m)
cleared-if m a v true P f g = f
cleared-if m a v false P f g = g

pub cleared-cases : (m : Memory) (a v : ℕ) (found : WordKind) (P : Memory → Type 0) → P (with_word m a (Value v)) → P m → P (cleared_word m a v found)
cleared-cases m a v (Value u) P f g = g
cleared-cases m a v (Swap t) P f g = g
cleared-cases m a v (Tag t j u q) P f g = g
cleared-cases m a v (Dirty u) P f g = cleared-if m a v (u == v) P f g

written-cleared : (m : Memory) (w : ℕ) (l : Local) (place : Place) (a v : ℕ) (found : WordKind) (next : Next) → Written m w l place (after_help l (cleared_word m a v found) next)
written-cleared m w l place a v found next = cleared-cases m a v found (λ n. Written m w l place (after_help l n next)) (plain-next m w l place (with_word m a (Value v)) next a v (λ b. refl)) (stays-next m w l place m next (λ b. refl))

decided-words : (m : Memory) (s : ℕ) (d : Verdict) (found : SwapStatus) (b : ℕ) → (after_decide m s d found).memory.cached b ≡ m.cached b
decided-words m s d Free b = refl
decided-words m s d Undecided b = refl
decided-words m s d (Deciding c) b = refl
decided-words m s d (Decided c) b = refl

status-words : (m : Memory) (s : ℕ) (d : Verdict) (found : SwapStatus) (b : ℕ) → (cleared_status m s d found).cached b ≡ m.cached b
status-words m s d Free b = refl
status-words m s d Undecided b = refl
status-words m s Succeeded (Deciding Succeeded) b = refl
status-words m s Succeeded (Deciding Failed) b = refl
status-words m s Failed (Deciding Succeeded) b = refl
status-words m s Failed (Deciding Failed) b = refl
status-words m s d (Decided c) b = refl

written-help : (m : Memory) (w : ℕ) (l : Local) (step : HelpStep) → Written m w l (Help step) (act m w l (Help step))
written-help m w l Look = Stays (λ b. refl)
written-help m w l (InstallTag i) = written-install m w l i (m.cached (l.list (1 + 3 * i))) refl
written-help m w l (LookUnderTag i v q) = Stays (λ b. refl)
written-help m w l (InstallPointer i v q) = written-pointer m w l i v q (Step (InstallTag i)) (m.cached (l.list (1 + 3 * i))) refl
written-help m w l (RemoveTag i v q) = written-untag m w l _ i v q (Step Look) (Step Look) (m.cached (l.list (1 + 3 * i)))
written-help m w l (AskDirty i v) = Stays (λ b. refl)
written-help m w l (FenceDirty i v) = Stays (λ b. refl)
written-help m w l (ClearDirty i v) = written-cleared m w l _ (l.list (1 + 3 * i)) v (m.cached (l.list (1 + 3 * i))) (Step (InstallTag i))
written-help m w l (AskTarget i) = Stays (λ b. refl)
written-help m w l FenceTargets = Stays (λ b. refl)
written-help m w l (Decide d) = stays-next m w l _ (after_decide m l.current d (m.status l.current)).memory (after_decide m l.current d (m.status l.current)).next (decided-words m l.current d (m.status l.current))
written-help m w l (AskStatus d) = Stays (λ b. refl)
written-help m w l (FenceStatus d) = Stays (λ b. refl)
written-help m w l (ClearStatus d) = stays-next m w l _ (cleared_status m l.current d (m.status l.current)) (Step (PutFinal 0 d)) (status-words m l.current d (m.status l.current))
written-help m w l (PutFinal i d) = written-final m w l i d (m.cached (l.list (1 + 3 * i))) refl
written-help m w l (AskFinal i d) = Stays (λ b. refl)
written-help m w l (FenceFinal i d) = Stays (λ b. refl)
written-help m w l (ClearFinal i d) = written-cleared m w l _ (l.list (1 + 3 * i)) (final_value (entries_in l.list) i d) (m.cached (l.list (1 + 3 * i))) (finished (entries_in l.list) i d)
written-help m w l (SweepTag i d v q) = written-untag m w l _ i v q (finished (entries_in l.list) i d) (Step (PutFinal i d)) (m.cached (l.list (1 + 3 * i)))

written-read : (m : Memory) (w : ℕ) (l : Local) (a : ℕ) (found : WordKind) → Written m w l (ReadWord a) (read_act m l a found)
written-read m w l a (Value v) = Stays (λ b. refl)
written-read m w l a (Dirty v) = Stays (λ b. refl)
written-read m w l a (Swap t) = Stays (λ b. refl)
written-read m w l a (Tag t j v q) = Stays (λ b. refl)

pub written : (m : Memory) (w : ℕ) (l : Local) (place : Place) → Written m w l place (act m w l place)
written m w l Idle = Stays (λ b. refl)
written m w l (Prepare (WriteWord k)) = Stays (λ b. refl)
written m w l (Prepare WriteStatus) = Stays (λ b. refl)
written m w l (Prepare AskHead) = Stays (λ b. refl)
written m w l (Prepare AskTail) = Stays (λ b. refl)
written m w l (Prepare FenceDescriptor) = Stays (λ b. refl)
written m w l (Learn k) = Stays (λ b. refl)
written m w l (Help step) = written-help m w l step
written m w l (ReadWord a) = written-read m w l a (m.cached a)
written m w l (AskRead a v) = Stays (λ b. refl)
written m w l (FenceRead a v) = Stays (λ b. refl)
written m w l (ClearRead a v) = cleared-cases m a v (m.cached a) (λ n. Written m w l (ClearRead a v) (record { memory = n; local = record l { place = ReadWord a }; done = Busy })) (PutsPlain a v (λ b. refl)) (Stays (λ b. refl))
written m w l (LoadWord a) = Stays (λ b. refl)
written m w l (StoreWord a v) = PutsPlain a v (λ b. refl)
written m w l (AskLine line) = Stays (λ b. refl)
written m w l (FenceLine line) = Stays (λ b. refl)
