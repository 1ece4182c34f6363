-- A tag that stands is one that its worker goes on with: it comes by its worker alone, which leaves it only when it is gone.
use Rattle.std.proofs.Common.{◌≡◌, ◌==◌, ◌&&◌, if◌then◌else◌, ℕ, Bool, true, false, refl, subst}
use Rattle.bz_word.specs.declared.kind.WordKind.{WordKind}
use Rattle.bz_word.specs.declared.kind.WordKind.TheVariants.{Value, Dirty, Swap, Tag}
use Rattle.bz_swap_machine.specs.declared.status.SwapStatus.{SwapStatus}
use Rattle.bz_swap_machine.specs.declared.status.SwapStatus.TheVariants.{Free, Undecided, Deciding, Decided}
use Rattle.bz_swap_machine.specs.declared.status.Verdict.{Verdict}
use Rattle.bz_swap_machine.specs.declared.status.Verdict.TheVariants.{Succeeded, Failed}
use Rattle.bz_swap_machine.specs.declared.place.HelpStep.{HelpStep}
use Rattle.bz_swap_machine.specs.declared.place.HelpStep.TheVariants.{Look, InstallTag, LookUnderTag, InstallPointer, RemoveTag, AskDirty, FenceDirty, ClearDirty, AskTarget, FenceTargets, Decide, AskStatus, FenceStatus, ClearStatus, PutFinal, AskFinal, FenceFinal, ClearFinal, SweepTag}
use Rattle.bz_swap_machine.specs.declared.place.Next.{Next}
use Rattle.bz_swap_machine.specs.declared.place.Next.TheVariants.{Step, Meet, Complete}
use Rattle.bz_swap_machine.specs.Machine.{Entries, Memory}
use Rattle.bz_swap_machine.specs.Changes.{with_word}
use Rattle.bz_swap_machine.specs.HelpActs.{After, final_value, finished, passed, after_untag, cleared_word, cleared_status, after_decide, after_put_final, help_act}
use Rattle.bz_swap_machine.specs.Steps.{Local, is_own, completed, after_help}

-- a tag that stands stood before
abbrev pub NoTagComes : Memory → Memory → Type 0
NoTagComes m n = (a s i v q : ℕ) → n.cached a ≡ Tag s i v q → m.cached a ≡ Tag s i v q

-- the word is no tag
abbrev pub IsNoTag : WordKind → Type 0
IsNoTag (Value v) = Unit {0}
IsNoTag (Dirty v) = Unit {0}
IsNoTag (Swap s) = Unit {0}
IsNoTag (Tag s i v q) = ⊥

pub no-tag : (x : WordKind) (s i v q : ℕ) → IsNoTag x → x ≡ Tag s i v q → ⊥
no-tag x s i v q none is = subst IsNoTag is none

-- another word that is no tag
pub comes-word : (m : Memory) (b : ℕ) (x : WordKind) → IsNoTag x → NoTagComes m (with_word m b x)
comes-word m b x none a s i v q is = by_test (a == b) is
  where
    by_test : (t : Bool) → (if t then x else m.cached a) ≡ Tag s i v q → m.cached a ≡ Tag s i v q
    by_test true h = absurd (no-tag x s i v q none h)
    by_test false h = h

comes-if : (m x y : Memory) (t : Bool) → NoTagComes m x → NoTagComes m y → NoTagComes m (if t then x else y)
comes-if m x y true f g = f
comes-if m x y false f g = g

after-if : (m : Memory) (t : Bool) (x y : After) → NoTagComes m x.memory → NoTagComes m y.memory → NoTagComes m (if t then x else y).memory
after-if m true x y f g = f
after-if m false x y f g = g

comes-untag : (x : Entries) (m : Memory) (s i v q : ℕ) (new : WordKind) (changed unchanged : Next) (found : WordKind) → IsNoTag new → NoTagComes m (after_untag x m s i v q new changed unchanged found).memory
comes-untag x m s i v q new changed unchanged (Value u) none = λ a t j w p is. is
comes-untag x m s i v q new changed unchanged (Dirty u) none = λ a t j w p is. is
comes-untag x m s i v q new changed unchanged (Swap u) none = λ a t j w p is. is
comes-untag x m s i v q new changed unchanged (Tag t j u p) none =
    after-if m (((t == s) && (j == i)) && ((u == v) && (p == q))) (record { memory = with_word m (x.target i) new; next = changed }) (record { memory = m; next = unchanged })
    (comes-word m (x.target i) new none) (λ a t j w p is. is)

pub comes-cleared : (m : Memory) (b v : ℕ) (found : WordKind) → NoTagComes m (cleared_word m b v found)
comes-cleared m b v (Value u) = λ a t j w p is. is
comes-cleared m b v (Swap u) = λ a t j w p is. is
comes-cleared m b v (Tag t j u q) = λ a s i w p is. is
comes-cleared m b v (Dirty u) = comes-if m (with_word m b (Value v)) m (u == v) (comes-word m b (Value v) tt) (λ a t j w p is. is)

comes-decide : (m : Memory) (s : ℕ) (d : Verdict) (found : SwapStatus) → NoTagComes m (after_decide m s d found).memory
comes-decide m s d Free = λ a t j w p is. is
comes-decide m s d Undecided = λ a t j w p is. is
comes-decide m s d (Deciding c) = λ a t j w p is. is
comes-decide m s d (Decided c) = λ a t j w p is. is

comes-status : (m : Memory) (s : ℕ) (d : Verdict) (found : SwapStatus) → NoTagComes m (cleared_status m s d found)
comes-status m s d Free = λ a t j w p is. is
comes-status m s d Undecided = λ a t j w p is. is
comes-status m s Succeeded (Deciding Succeeded) = λ a t j w p is. is
comes-status m s Succeeded (Deciding Failed) = λ a t j w p is. is
comes-status m s Failed (Deciding Succeeded) = λ a t j w p is. is
comes-status m s Failed (Deciding Failed) = λ a t j w p is. is
comes-status m s d (Decided c) = λ a t j w p is. is

comes-final : (x : Entries) (m : Memory) (s i : ℕ) (d : Verdict) (found : WordKind) → NoTagComes m (after_put_final x m s i d found).memory
comes-final x m s i d (Value v) = λ a t j w p is. is
comes-final x m s i d (Dirty v) = λ a t j w p is. is
comes-final x m s i d (Swap t) =
    after-if m (t == s) (record { memory = with_word m (x.target i) (Dirty (final_value x i d)); next = Step (AskFinal i d) }) (record { memory = m; next = finished x i d })
    (comes-word m (x.target i) (Dirty (final_value x i d)) tt) (λ a t j w p is. is)
comes-final x m s i d (Tag t j v q) = λ a s i w p is. is

-- what is left of the memory when a worker goes on after an act on a swap
pub cached-help : (l : Local) (m : Memory) (next : Next) → (after_help l m next).memory.cached ≡ m.cached
cached-help l m (Step step) = refl
cached-help l m (Meet t) = refl
cached-help l m (Complete d) = by_own (is_own l.operation l.current) refl
  where
    by_own : (b : Bool) → is_own l.operation l.current ≡ b → (completed m l d).memory.cached ≡ m.cached
    by_own true is = rw is refl
    by_own false is = rw is refl

-- the act puts no tag of its own
abbrev pub PutsNoTag : HelpStep → Type 0
PutsNoTag (InstallTag i) = ⊥
PutsNoTag step = Unit {0}

pub comes-help : (x : Entries) (m : Memory) (w s : ℕ) (step : HelpStep) → PutsNoTag step → NoTagComes m (help_act x m w s step).memory
comes-help x m w s Look none = λ a t j v p is. is
comes-help x m w s (InstallTag i) none = absurd none
comes-help x m w s (LookUnderTag i v q) none = λ a t j u p is. is
comes-help x m w s (InstallPointer i v q) none = comes-untag x m s i v q (Swap s) (Step (passed x i)) (Step (InstallTag i)) (m.cached (x.target i)) tt
comes-help x m w s (RemoveTag i v q) none = comes-untag x m s i v q (Value (x.expected i)) (Step Look) (Step Look) (m.cached (x.target i)) tt
comes-help x m w s (AskDirty i v) none = λ a t j u p is. is
comes-help x m w s (FenceDirty i v) none = λ a t j u p is. is
comes-help x m w s (ClearDirty i v) none = comes-cleared m (x.target i) v (m.cached (x.target i))
comes-help x m w s (AskTarget i) none = λ a t j u p is. is
comes-help x m w s FenceTargets none = λ a t j u p is. is
comes-help x m w s (Decide d) none = comes-decide m s d (m.status s)
comes-help x m w s (AskStatus d) none = λ a t j u p is. is
comes-help x m w s (FenceStatus d) none = λ a t j u p is. is
comes-help x m w s (ClearStatus d) none = comes-status m s d (m.status s)
comes-help x m w s (PutFinal i d) none = comes-final x m s i d (m.cached (x.target i))
comes-help x m w s (AskFinal i d) none = λ a t j u p is. is
comes-help x m w s (FenceFinal i d) none = λ a t j u p is. is
comes-help x m w s (ClearFinal i d) none = comes-cleared m (x.target i) (final_value x i d) (m.cached (x.target i))
comes-help x m w s (SweepTag i d v q) none = comes-untag x m s i v q (Value (x.expected i)) (finished x i d) (Step (PutFinal i d)) (m.cached (x.target i)) tt
