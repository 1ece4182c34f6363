-- What no act changes of what the machine tells of the past, and how far tag numbers grow.
use Rattle.std.specs.Prelude.{◌≡◌, if◌then◌else◌, ◌==◌, ◌&&◌, ℕ, ◌+◌, ◌≤◌, Bool, true, false, None}
use Rattle.std.proofs.Common.{arith, refl, ap, sym, ◌∙◌}
use Rattle.std.proofs.lemmas.Grind.{common_steps}
use Rattle.bz_word.specs.declared.kind.WordKind.{WordKind}
use Rattle.bz_word.specs.declared.kind.WordKind.TheVariants.{Value, Dirty, Swap, Tag}
use Rattle.bz_swap_machine.specs.declared.status.SwapStatus.{SwapStatus}
use Rattle.bz_swap_machine.specs.declared.status.SwapStatus.TheVariants.{Free, Undecided, Deciding, Decided}
use Rattle.bz_swap_machine.specs.declared.status.Verdict.{Verdict}
use Rattle.bz_swap_machine.specs.declared.status.Verdict.TheVariants.{Succeeded, Failed}
use Rattle.bz_swap_machine.specs.declared.place.Place.{Place}
use Rattle.bz_swap_machine.specs.declared.place.Place.TheVariants.{Idle, Prepare, Learn, Help, ReadWord, AskRead, FenceRead, ClearRead, LoadWord, StoreWord, AskLine, FenceLine}
use Rattle.bz_swap_machine.specs.declared.place.PrepareStep.TheVariants.{WriteWord, WriteStatus, AskHead, AskTail, FenceDescriptor}
use Rattle.bz_swap_machine.specs.declared.place.HelpStep.{HelpStep}
use Rattle.bz_swap_machine.specs.declared.place.HelpStep.TheVariants.{Look, InstallTag, LookUnderTag, InstallPointer, RemoveTag, AskDirty, FenceDirty, ClearDirty, AskTarget, FenceTargets, Decide, AskStatus, FenceStatus, ClearStatus, PutFinal, AskFinal, FenceFinal, ClearFinal, SweepTag}
use Rattle.bz_swap_machine.specs.declared.place.Next.{Next}
use Rattle.bz_swap_machine.specs.declared.place.Next.TheVariants.{Step, Meet, Complete}
use Rattle.bz_swap_machine.specs.declared.done.Done.TheVariants.{Busy}
use Rattle.bz_swap_machine.specs.Machine.{Entries, Memory, entries_in}
use Rattle.bz_swap_machine.specs.Changes.{with_word, with_tag, with_published}
use Rattle.bz_swap_machine.specs.HelpActs.{After, after_install_tag, after_untag, cleared_word, after_decide, cleared_status, after_put_final, help_act}
use Rattle.bz_swap_machine.specs.Steps.{Local, Stepped, act, is_own, completed, after_help, read_act}

-- what stays, whatever a worker does on a swap
pub record Frame (m n : Memory) : Type 0 where
  pub taken : n.taken ≡ m.taken
  pub owner : (s : ℕ) → n.owner s ≡ m.owner s
  pub named : (a : ℕ) → n.named a ≡ m.named a
  pub published : (s : ℕ) → n.published s ≡ false → m.published s ≡ false
  pub answer : (s : ℕ) → n.answer s ≡ m.answer s
  pub tags : (w : ℕ) → n.next_tag w ≤ m.next_tag w + 1

-- a change of words alone
frame-of : (m n : Memory) → n.taken ≡ m.taken → n.owner ≡ m.owner → n.named ≡ m.named → n.published ≡ m.published → n.answer ≡ m.answer → n.next_tag ≡ m.next_tag → Frame m n
frame-of m n taken owner named published answer tags = record {
  taken = taken;
  owner = λ s. ap (λ f. f s) owner;
  named = λ a. ap (λ f. f a) named;
  published = λ s h. rw published at h;
  answer = λ s. ap (λ f. f s) answer;
  tags = λ w. (let same : n.next_tag w ≡ m.next_tag w = ap (λ f. f w) tags in omega (arith, same));
}

pub frame-same : (m : Memory) → Frame m m
frame-same m = frame-of m m refl refl refl refl refl refl

frame-if : (m : Memory) (b : Bool) (x y : After) → Frame m x.memory → Frame m y.memory → Frame m (if b then x else y).memory
frame-if m true x y f g = f
frame-if m false x y f g = g

frame-if_memory : (m : Memory) (b : Bool) (x y : Memory) → Frame m x → Frame m y → Frame m (if b then x else y)
frame-if_memory m true x y f g = f
frame-if_memory m false x y f g = g

frame-tag : (m : Memory) (a s i w : ℕ) → Frame m (with_tag m a s i w)
frame-tag m a s i w = record { taken = refl; owner = λ t. refl; named = λ b. refl; published = λ t h. h; answer = λ t. refl; tags = λ v. grind (arith, common_steps) }

frame-install : (x : Entries) (m : Memory) (w s i : ℕ) (found : WordKind) → Frame m (after_install_tag x m w s i found).memory
frame-install x m w s i (Value v) = frame-if m (v == x.expected i) _ _ (frame-tag m (x.target i) s i w) (frame-of m _ refl refl refl refl refl refl)
frame-install x m w s i (Dirty v) = frame-same m
frame-install x m w s i (Swap t) = frame-same m
frame-install x m w s i (Tag t j u q) = frame-same m

frame-untag : (x : Entries) (m : Memory) (s i v q : ℕ) (new : WordKind) (changed unchanged : Next) (found : WordKind) → Frame m (after_untag x m s i v q new changed unchanged found).memory
frame-untag x m s i v q new changed unchanged (Value u) = frame-same m
frame-untag x m s i v q new changed unchanged (Dirty u) = frame-same m
frame-untag x m s i v q new changed unchanged (Swap t) = frame-same m
frame-untag x m s i v q new changed unchanged (Tag t j u p) =
    frame-if m (((t == s) && (j == i)) && ((u == v) && (p == q))) (record { memory = with_word m (x.target i) new; next = changed }) (record { memory = m; next = unchanged })
    (frame-of m _ refl refl refl refl refl refl) (frame-same m)

frame-cleared : (m : Memory) (a v : ℕ) (found : WordKind) → Frame m (cleared_word m a v found)
frame-cleared m a v (Value u) = frame-same m
frame-cleared m a v (Swap t) = frame-same m
frame-cleared m a v (Tag t j u q) = frame-same m
frame-cleared m a v (Dirty u) = frame-if_memory m (u == v) _ _ (frame-of m _ refl refl refl refl refl refl) (frame-same m)

frame-decide : (m : Memory) (s : ℕ) (d : Verdict) (found : SwapStatus) → Frame m (after_decide m s d found).memory
frame-decide m s d Free = frame-same m
frame-decide m s d Undecided = frame-of m _ refl refl refl refl refl refl
frame-decide m s d (Deciding c) = frame-same m
frame-decide m s d (Decided c) = frame-same m

frame-status : (m : Memory) (s : ℕ) (d : Verdict) (found : SwapStatus) → Frame m (cleared_status m s d found)
frame-status m s d Free = frame-same m
frame-status m s d Undecided = frame-same m
frame-status m s Succeeded (Deciding Succeeded) = frame-of m _ refl refl refl refl refl refl
frame-status m s Succeeded (Deciding Failed) = frame-same m
frame-status m s Failed (Deciding Succeeded) = frame-same m
frame-status m s Failed (Deciding Failed) = frame-of m _ refl refl refl refl refl refl
frame-status m s d (Decided c) = frame-same m

frame-final : (x : Entries) (m : Memory) (s i : ℕ) (d : Verdict) (found : WordKind) → Frame m (after_put_final x m s i d found).memory
frame-final x m s i d (Value v) = frame-same m
frame-final x m s i d (Dirty v) = frame-same m
frame-final x m s i d (Swap t) = frame-if m (t == s) _ _ (frame-of m _ refl refl refl refl refl refl) (frame-same m)
frame-final x m s i d (Tag t j v q) = frame-same m

frame-help : (x : Entries) (m : Memory) (w s : ℕ) (step : HelpStep) → Frame m (help_act x m w s step).memory
frame-help x m w s Look = frame-same m
frame-help x m w s (InstallTag i) = frame-install x m w s i (m.cached (x.target i))
frame-help x m w s (LookUnderTag i v q) = frame-same m
frame-help x m w s (InstallPointer i v q) = frame-untag x m s i v q _ _ _ (m.cached (x.target i))
frame-help x m w s (RemoveTag i v q) = frame-untag x m s i v q _ _ _ (m.cached (x.target i))
frame-help x m w s (AskDirty i v) = frame-of m _ refl refl refl refl refl refl
frame-help x m w s (FenceDirty i v) = frame-of m _ refl refl refl refl refl refl
frame-help x m w s (ClearDirty i v) = frame-cleared m (x.target i) v (m.cached (x.target i))
frame-help x m w s (AskTarget i) = frame-of m _ refl refl refl refl refl refl
frame-help x m w s FenceTargets = frame-of m _ refl refl refl refl refl refl
frame-help x m w s (Decide d) = frame-decide m s d (m.status s)
frame-help x m w s (AskStatus d) = frame-of m _ refl refl refl refl refl refl
frame-help x m w s (FenceStatus d) = frame-of m _ refl refl refl refl refl refl
frame-help x m w s (ClearStatus d) = frame-status m s d (m.status s)
frame-help x m w s (PutFinal i d) = frame-final x m s i d (m.cached (x.target i))
frame-help x m w s (AskFinal i d) = frame-of m _ refl refl refl refl refl refl
frame-help x m w s (FenceFinal i d) = frame-of m _ refl refl refl refl refl refl
frame-help x m w s (ClearFinal i d) = frame-cleared m (x.target i) _ (m.cached (x.target i))
frame-help x m w s (SweepTag i d v q) = frame-untag x m s i v q _ _ _ (m.cached (x.target i))

-- what stays, whatever a worker does: an answer comes only where its operation ends
pub record ActFrame (m : Memory) (after : Stepped) : Type 0 where
  pub taken : after.memory.taken ≡ m.taken
  pub owner : (s : ℕ) → after.memory.owner s ≡ m.owner s
  pub named : (a : ℕ) → after.memory.named a ≡ m.named a
  pub published : (s : ℕ) → after.memory.published s ≡ false → m.published s ≡ false
  pub answer : after.done ≡ Busy → (s : ℕ) → after.memory.answer s ≡ m.answer s
  pub unanswered : (s : ℕ) → after.memory.answer s ≡ None → m.answer s ≡ None
  pub tags : (w : ℕ) → after.memory.next_tag w ≤ m.next_tag w + 1

framed : (m : Memory) (after : Stepped) → Frame m after.memory → ActFrame m after
framed m after f = record {
  taken = f.taken;
  owner = f.owner;
  named = f.named;
  published = f.published;
  answer = λ busy. f.answer;
  unanswered = λ s h. sym (f.answer s) ∙ h;
  tags = f.tags;
}

completed-if : (m n : Memory) (l : Local) (d : Verdict) (b : Bool) → Frame m n → is_own l.operation l.current ≡ b → ActFrame m (completed n l d)
completed-if m n l d true f own = rw own (record {
  taken = f.taken;
  owner = f.owner;
  named = f.named;
  published = f.published;
  answer = λ busy. absurd cc;
  unanswered = λ s h. grind (arith, common_steps, f.answer s, h);
  tags = f.tags;
})
completed-if m n l d false f own = rw own (framed m _ f)

frame-after : (m n : Memory) (l : Local) (next : Next) → Frame m n → ActFrame m (after_help l n next)
frame-after m n l (Step step) f = framed m _ f
frame-after m n l (Meet t) f = framed m _ f
frame-after m n l (Complete d) f = completed-if m n l d _ f refl

frame-read : (m : Memory) (l : Local) (a : ℕ) (found : WordKind) → ActFrame m (read_act m l a found)
frame-read m l a (Value v) = framed m _ (frame-same m)
frame-read m l a (Dirty v) = framed m _ (frame-same m)
frame-read m l a (Swap t) = framed m _ (frame-same m)
frame-read m l a (Tag t i w q) = framed m _ (frame-same m)

frame-published : (m : Memory) (w s : ℕ) → Frame m (with_published m w s)
frame-published m w s = record { taken = refl; owner = λ t. refl; named = λ b. refl; published = λ t h. unset t (t == s) h; answer = λ t. refl; tags = λ v. omega arith }
  where
    unset : (t : ℕ) (b : Bool) → (if b then true else m.published t) ≡ false → m.published t ≡ false
    unset t true h = absurd cc
    unset t false h = h

pub frame-act : (m : Memory) (w : ℕ) (l : Local) (at : Place) → ActFrame m (act m w l at)
frame-act m w l Idle = framed m _ (frame-same m)
frame-act m w l (Prepare (WriteWord k)) = framed m _ (frame-of m _ refl refl refl refl refl refl)
frame-act m w l (Prepare WriteStatus) = framed m _ (frame-of m _ refl refl refl refl refl refl)
frame-act m w l (Prepare AskHead) = framed m _ (frame-of m _ refl refl refl refl refl refl)
frame-act m w l (Prepare AskTail) = framed m _ (frame-of m _ refl refl refl refl refl refl)
frame-act m w l (Prepare FenceDescriptor) = framed m _ (frame-published m w l.current)
frame-act m w l (Learn k) = framed m _ (frame-same m)
frame-act m w l (Help step) = frame-after m _ l _ (frame-help (entries_in l.list) m w l.current step)
frame-act m w l (ReadWord a) = frame-read m l a (m.cached a)
frame-act m w l (AskRead a v) = framed m _ (frame-of m _ refl refl refl refl refl refl)
frame-act m w l (FenceRead a v) = framed m _ (frame-of m _ refl refl refl refl refl refl)
frame-act m w l (ClearRead a v) = framed m _ (frame-cleared m a v (m.cached a))
frame-act m w l (LoadWord a) = framed m _ (frame-same m)
frame-act m w l (StoreWord a v) = framed m _ (frame-of m _ refl refl refl refl refl refl)
frame-act m w l (AskLine line) = framed m _ (frame-of m _ refl refl refl refl refl refl)
frame-act m w l (FenceLine line) = framed m _ (frame-of m _ refl refl refl refl refl refl)
