-- A word that no swap names changes in the caches only by a private store at it.
use Rattle.std.specs.Prelude.{◌≡◌, ◌≢◌, if◌then◌else◌, ◌==◌, ◌&&◌, ℕ, ◌<◌, Bool, true, false}
use Rattle.std.proofs.Common.{refl, ap, sym, subst, ◌∙◌, inl, inr}
use Rattle.std.proofs.lemmas.Bool.{cases_eq, true≢false}
use Rattle.bz_word.specs.declared.kind.WordKind.{WordKind}
use Rattle.bz_word.specs.declared.kind.WordKind.TheVariants.{Value, Dirty, Swap, Tag}
use Rattle.bz_swap_machine.specs.declared.status.SwapStatus.{SwapStatus}
use Rattle.bz_swap_machine.specs.declared.status.SwapStatus.TheVariants.{Free, Undecided, Deciding, Decided}
use Rattle.bz_swap_machine.specs.declared.status.Verdict.{Verdict}
use Rattle.bz_swap_machine.specs.declared.status.Verdict.TheVariants.{Succeeded, Failed}
use Rattle.bz_swap_machine.specs.declared.place.Place.{Place}
use Rattle.bz_swap_machine.specs.declared.place.Place.TheVariants.{Idle, Prepare, Learn, Help, ReadWord, AskRead, FenceRead, ClearRead, LoadWord, StoreWord, AskLine, FenceLine}
use Rattle.bz_swap_machine.specs.declared.place.PrepareStep.TheVariants.{WriteWord, WriteStatus, AskHead, AskTail, FenceDescriptor}
use Rattle.bz_swap_machine.specs.declared.place.HelpStep.{HelpStep}
use Rattle.bz_swap_machine.specs.declared.place.HelpStep.TheVariants.{Look, InstallTag, LookUnderTag, InstallPointer, RemoveTag, AskDirty, FenceDirty, ClearDirty, AskTarget, FenceTargets, Decide, AskStatus, FenceStatus, ClearStatus, PutFinal, AskFinal, FenceFinal, ClearFinal, SweepTag}
use Rattle.bz_swap_machine.specs.declared.place.Next.{Next}
use Rattle.bz_swap_machine.specs.declared.place.Next.TheVariants.{Step, Meet, Complete}
use Rattle.bz_swap_machine.specs.Agrees.{agree-spell}
use Rattle.bz_swap_machine.specs.Machine.{Entries, Memory, entries_in}
use Rattle.bz_swap_machine.specs.Changes.{with_word}
use Rattle.bz_swap_machine.specs.Facts.{Fact}
use Rattle.bz_swap_machine.specs.Knows.{AtPlace, Spell}
use Rattle.bz_swap_machine.specs.Sound.{Sound, IsPlain}
use Rattle.bz_swap_machine.specs.HelpActs.{After, after_install_tag, after_untag, cleared_word, after_decide, cleared_status, after_put_final, help_act}
use Rattle.bz_swap_machine.specs.Steps.{Local, act, is_own, completed, after_help, read_act}
use Rattle.bz_swap.proofs.Stepped.{put-there}

cached-if : (b : Bool) (x y : After) (a : ℕ) (z : WordKind) → x.memory.cached a ≡ z → y.memory.cached a ≡ z → (if b then x else y).memory.cached a ≡ z
cached-if true x y a z f g = f
cached-if false x y a z f g = g

cached-if_memory : (b : Bool) (x y : Memory) (a : ℕ) (z : WordKind) → x.cached a ≡ z → y.cached a ≡ z → (if b then x else y).cached a ≡ z
cached-if_memory true x y a z f g = f
cached-if_memory false x y a z f g = g

kept-install : (x : Entries) (m : Memory) (w s i : ℕ) (found : WordKind) (a : ℕ) → a ≢ x.target i → (after_install_tag x m w s i found).memory.cached a ≡ m.cached a
kept-install x m w s i (Value v) a ne = cached-if (v == x.expected i) _ _ a _ (put-there m.cached (x.target i) _ a ne) refl
kept-install x m w s i (Dirty v) a ne = refl
kept-install x m w s i (Swap t) a ne = refl
kept-install x m w s i (Tag t j u q) a ne = refl

kept-untag : (x : Entries) (m : Memory) (s i v q : ℕ) (new : WordKind) (changed unchanged : Next) (found : WordKind) (a : ℕ) → a ≢ x.target i → (after_untag x m s i v q new changed unchanged found).memory.cached a ≡ m.cached a
kept-untag x m s i v q new changed unchanged (Value u) a ne = refl
kept-untag x m s i v q new changed unchanged (Dirty u) a ne = refl
kept-untag x m s i v q new changed unchanged (Swap t) a ne = refl
kept-untag x m s i v q new changed unchanged (Tag t j u p) a ne =
    cached-if (((t == s) && (j == i)) && ((u == v) && (p == q))) (record { memory = with_word m (x.target i) new; next = changed }) (record { memory = m; next = unchanged }) a _
    (put-there m.cached (x.target i) new a ne) refl

kept-cleared : (m : Memory) (b v : ℕ) (found : WordKind) (a : ℕ) → a ≢ b → (cleared_word m b v found).cached a ≡ m.cached a
kept-cleared m b v (Value u) a ne = refl
kept-cleared m b v (Swap t) a ne = refl
kept-cleared m b v (Tag t j u q) a ne = refl
kept-cleared m b v (Dirty u) a ne = cached-if_memory (u == v) _ _ a _ (put-there m.cached b _ a ne) refl

-- where a plain word stands nothing is cleared
kept-plain : (m : Memory) (b v : ℕ) (found : WordKind) (a : ℕ) → IsPlain found → (cleared_word m b v found).cached a ≡ m.cached a
kept-plain m b v (Value u) a plain = refl
kept-plain m b v (Dirty u) a plain = absurd plain
kept-plain m b v (Swap t) a plain = absurd plain
kept-plain m b v (Tag t j u q) a plain = absurd plain

kept-decide : (m : Memory) (s : ℕ) (d : Verdict) (found : SwapStatus) (a : ℕ) → (after_decide m s d found).memory.cached a ≡ m.cached a
kept-decide m s d Free a = refl
kept-decide m s d Undecided a = refl
kept-decide m s d (Deciding c) a = refl
kept-decide m s d (Decided c) a = refl

kept-status : (m : Memory) (s : ℕ) (d : Verdict) (found : SwapStatus) (a : ℕ) → (cleared_status m s d found).cached a ≡ m.cached a
kept-status m s d Free a = refl
kept-status m s d Undecided a = refl
kept-status m s Succeeded (Deciding Succeeded) a = refl
kept-status m s Succeeded (Deciding Failed) a = refl
kept-status m s Failed (Deciding Succeeded) a = refl
kept-status m s Failed (Deciding Failed) a = refl
kept-status m s d (Decided c) a = refl

kept-final : (x : Entries) (m : Memory) (s i : ℕ) (d : Verdict) (found : WordKind) (a : ℕ) → a ≢ x.target i → (after_put_final x m s i d found).memory.cached a ≡ m.cached a
kept-final x m s i d (Value v) a ne = refl
kept-final x m s i d (Dirty v) a ne = refl
kept-final x m s i d (Swap t) a ne = cached-if (t == s) _ _ a _ (put-there m.cached (x.target i) _ a ne) refl
kept-final x m s i d (Tag t j v q) a ne = refl

kept-help : (e : ℕ → Entries) (m : Memory) (w s : ℕ) (x : Entries) (step : HelpStep) (a : ℕ) → ((i : ℕ) → i < (e s).count → a ≢ x.target i) → Fact e m w s step → (help_act x m w s step).memory.cached a ≡ m.cached a
kept-help e m w s x Look a ne f = refl
kept-help e m w s x (InstallTag i) a ne f = kept-install x m w s i (m.cached (x.target i)) a (ne i f.0)
kept-help e m w s x (LookUnderTag i v q) a ne f = refl
kept-help e m w s x (InstallPointer i v q) a ne f = kept-untag x m s i v q _ _ _ (m.cached (x.target i)) a (ne i f.0)
kept-help e m w s x (RemoveTag i v q) a ne f = kept-untag x m s i v q _ _ _ (m.cached (x.target i)) a (ne i f)
kept-help e m w s x (AskDirty i v) a ne f = refl
kept-help e m w s x (FenceDirty i v) a ne f = refl
kept-help e m w s x (ClearDirty i v) a ne f = kept-cleared m (x.target i) v (m.cached (x.target i)) a (ne i f.0)
kept-help e m w s x (AskTarget i) a ne f = refl
kept-help e m w s x FenceTargets a ne f = refl
kept-help e m w s x (Decide d) a ne f = kept-decide m s d (m.status s) a
kept-help e m w s x (AskStatus d) a ne f = refl
kept-help e m w s x (FenceStatus d) a ne f = refl
kept-help e m w s x (ClearStatus d) a ne f = kept-status m s d (m.status s) a
kept-help e m w s x (PutFinal i d) a ne f = kept-final x m s i d (m.cached (x.target i)) a (ne i f.0)
kept-help e m w s x (AskFinal i d) a ne f = refl
kept-help e m w s x (FenceFinal i d) a ne f = refl
kept-help e m w s x (ClearFinal i d) a ne f = kept-cleared m (x.target i) _ (m.cached (x.target i)) a (ne i f.0)
kept-help e m w s x (SweepTag i d v q) a ne f = kept-untag x m s i v q _ _ _ (m.cached (x.target i)) a (ne i f.0)

completed-kept : (m : Memory) (l : Local) (d : Verdict) (b : Bool) (a : ℕ) → is_own l.operation l.current ≡ b → (completed m l d).memory.cached a ≡ m.cached a
completed-kept m l d true a own = rw own refl
completed-kept m l d false a own = rw own refl

kept-after : (m : Memory) (l : Local) (next : Next) (a : ℕ) → (after_help l m next).memory.cached a ≡ m.cached a
kept-after m l (Step step) a = refl
kept-after m l (Meet t) a = refl
kept-after m l (Complete d) a = completed-kept m l d _ a refl

kept-read : (m : Memory) (l : Local) (b : ℕ) (found : WordKind) (a : ℕ) → (read_act m l b found).memory.cached a ≡ m.cached a
kept-read m l b (Value v) a = refl
kept-read m l b (Dirty v) a = refl
kept-read m l b (Swap t) a = refl
kept-read m l b (Tag t i w q) a = refl

-- a target is named, so an address that is not is none
no_target : (e : ℕ → Entries) (m : Memory) (s : ℕ) (list : ℕ → ℕ) (a : ℕ) → Sound e m → Spell (e s) list → m.named a ≡ false → (i : ℕ) → i < (e s).count → a ≢ (entries_in list).target i
no_target e m s list a sound spell private i below is =
    let agree = agree-spell (e s) list spell in
    true≢false (sym (sound.targets s i below) ∙ ap m.named (sym (is ∙ agree.target i below)) ∙ private)

pub kept-act : (e : ℕ → Entries) (m : Memory) (w : ℕ) (l : Local) (at : Place) → Sound e m → AtPlace e m w l at → (a : ℕ) → m.named a ≡ false
    → ((v : ℕ) → at ≢ StoreWord a v) → (act m w l at).memory.cached a ≡ m.cached a
kept-act e m w l Idle sound known a private other = refl
kept-act e m w l (Prepare (WriteWord k)) sound known a private other = refl
kept-act e m w l (Prepare WriteStatus) sound known a private other = refl
kept-act e m w l (Prepare AskHead) sound known a private other = refl
kept-act e m w l (Prepare AskTail) sound known a private other = refl
kept-act e m w l (Prepare FenceDescriptor) sound known a private other = refl
kept-act e m w l (Learn k) sound known a private other = refl
kept-act e m w l (Help step) sound known a private other =
    let after = help_act (entries_in l.list) m w l.current step in
    kept-after after.memory l after.next a ∙ kept-help e m w l.current (entries_in l.list) step a (no_target e m l.current l.list a sound known.2 private) known.3
kept-act e m w l (ReadWord b) sound known a private other = kept-read m l b (m.cached b) a
kept-act e m w l (AskRead b v) sound known a private other = refl
kept-act e m w l (FenceRead b v) sound known a private other = refl
kept-act e m w l (ClearRead b v) sound known a private other = elim (cases_eq a b) [
  | inl same ↦ kept-plain m b v (m.cached b) a (subst (λ c. IsPlain (m.cached c)) same (sound.private a private))
  | inr ne ↦ kept-cleared m b v (m.cached b) a ne
]
kept-act e m w l (LoadWord b) sound known a private other = refl
kept-act e m w l (StoreWord b v) sound known a private other = put-there m.cached b _ a (λ same. other v (ap (λ c. StoreWord c v) (sym same)))
kept-act e m w l (AskLine line) sound known a private other = refl
kept-act e m w l (FenceLine line) sound known a private other = refl
