-- Every act of another worker keeps what is known of the memory after a worker's own fence.
use Rattle.std.proofs.Common.{◌≡◌, ◌≢◌, ℕ, ◌*◌, ◌==◌, ◌&&◌, if◌then◌else◌, Bool, true, false, sym, ◌∙◌}
use Rattle.bz_word.specs.declared.kind.WordKind.{WordKind}
use Rattle.bz_word.specs.declared.kind.WordKind.TheVariants.{Value, Dirty, Swap, Tag}
use Rattle.bz_swap_machine.specs.declared.status.SwapStatus.{SwapStatus}
use Rattle.bz_swap_machine.specs.declared.status.SwapStatus.TheVariants.{Free, Undecided, Deciding, Decided}
use Rattle.bz_swap_machine.specs.declared.status.Verdict.{Verdict}
use Rattle.bz_swap_machine.specs.declared.status.Verdict.TheVariants.{Succeeded, Failed}
use Rattle.bz_swap_machine.specs.declared.place.HelpStep.{HelpStep}
use Rattle.bz_swap_machine.specs.declared.place.HelpStep.TheVariants.{Look, InstallTag, LookUnderTag, InstallPointer, RemoveTag, AskDirty, FenceDirty, ClearDirty, AskTarget, FenceTargets, Decide, AskStatus, FenceStatus, ClearStatus, PutFinal, AskFinal, FenceFinal, ClearFinal, SweepTag}
use Rattle.bz_swap_machine.specs.declared.place.Next.{Next}
use Rattle.bz_swap_machine.specs.declared.place.Next.TheVariants.{Step, Meet, Complete}
use Rattle.bz_swap_machine.specs.declared.place.Place.{Place}
use Rattle.bz_swap_machine.specs.declared.place.Place.TheVariants.{Idle, Prepare, Learn, Help, ReadWord, AskRead, FenceRead, ClearRead, LoadWord, StoreWord, AskLine, FenceLine}
use Rattle.bz_swap_machine.specs.declared.place.PrepareStep.{PrepareStep}
use Rattle.bz_swap_machine.specs.declared.place.PrepareStep.TheVariants.{WriteWord, WriteStatus, AskHead, AskTail, FenceDescriptor}
use Rattle.bz_swap_machine.specs.Machine.{Entries, Memory, entries_in}
use Rattle.bz_swap_machine.specs.Changes.{with_word, with_tag, with_status, with_field, with_published, with_miss, with_answer, line_of, head_of, tail_of, fenced}
use Rattle.bz_swap_machine.specs.HelpActs.{After, after_install_tag, after_untag, cleared_word, after_decide, cleared_status, after_put_final, final_value, help_act}
use Rattle.bz_swap_machine.specs.Keeps.{KeepsDescriptor}
use Rattle.bz_swap_machine.specs.Sound.{Sound}
use Rattle.bz_swap_machine.specs.Steps.{Local, Stepped, is_own, after_help, prepare_act, read_act, act}
use Rattle.bz_swap_machine.proofs.Change.{Change}
use Rattle.bz_swap_machine.proofs.Good.{Good}
use Rattle.bz_swap_machine.proofs.KeepsAsked.{SettlesFor, keeps-for, descriptor-for, for-same, for-ask, for-fence}
use Rattle.bz_swap_machine.proofs.KeptKnowledge.{KeepsFor}

after-if : (m : Memory) (v : ℕ) (b : Bool) (x y : After) → SettlesFor m x.memory v → SettlesFor m y.memory v → SettlesFor m (if b then x else y).memory v
after-if m v true x y p q = p
after-if m v false x y p q = q

memory-if : (m : Memory) (v : ℕ) (b : Bool) (x y : Memory) → SettlesFor m x v → SettlesFor m y v → SettlesFor m (if b then x else y) v
memory-if m v true x y p q = p
memory-if m v false x y p q = q

stepped-if : (m : Memory) (v : ℕ) (b : Bool) (x y : Stepped) → SettlesFor m x.memory v → SettlesFor m y.memory v → SettlesFor m (if b then x else y).memory v
stepped-if m v true x y p q = p
stepped-if m v false x y p q = q

for-install : (x : Entries) (m : Memory) (w s i v : ℕ) (found : WordKind) → SettlesFor m (after_install_tag x m w s i found).memory v
for-install x m w s i v (Value u) = after-if m v (u == x.expected i) _ _ (for-same m (with_tag m (x.target i) s i w) v) (for-same m (with_miss m s) v)
for-install x m w s i v (Dirty u) = for-same m m v
for-install x m w s i v (Swap t) = for-same m m v
for-install x m w s i v (Tag t j u q) = for-same m m v

for-untag : (x : Entries) (m : Memory) (s i u q v : ℕ) (new : WordKind) (changed unchanged : Next) (found : WordKind) → SettlesFor m (after_untag x m s i u q new changed unchanged found).memory v
for-untag x m s i u q v new changed unchanged (Value y) = for-same m m v
for-untag x m s i u q v new changed unchanged (Dirty y) = for-same m m v
for-untag x m s i u q v new changed unchanged (Swap t) = for-same m m v
for-untag x m s i u q v new changed unchanged (Tag t j y p) = after-if m v (((t == s) && (j == i)) && ((y == u) && (p == q))) _ _ (for-same m (with_word m (x.target i) new) v) (for-same m m v)

for-cleared : (m : Memory) (a y v : ℕ) (found : WordKind) → SettlesFor m (cleared_word m a y found) v
for-cleared m a y v (Value u) = for-same m m v
for-cleared m a y v (Swap t) = for-same m m v
for-cleared m a y v (Tag t j u q) = for-same m m v
for-cleared m a y v (Dirty u) = memory-if m v (u == y) _ _ (for-same m (with_word m a (Value y)) v) (for-same m m v)

for-decide : (m : Memory) (s v : ℕ) (d : Verdict) (found : SwapStatus) → SettlesFor m (after_decide m s d found).memory v
for-decide m s v d Free = for-same m m v
for-decide m s v d Undecided = for-same m (with_status m s (Deciding d)) v
for-decide m s v d (Deciding c) = for-same m m v
for-decide m s v d (Decided c) = for-same m m v

for-cleared_status : (m : Memory) (s v : ℕ) (d : Verdict) (found : SwapStatus) → SettlesFor m (cleared_status m s d found) v
for-cleared_status m s v d Free = for-same m m v
for-cleared_status m s v d Undecided = for-same m m v
for-cleared_status m s v Succeeded (Deciding Succeeded) = for-same m (with_status m s (Decided Succeeded)) v
for-cleared_status m s v Succeeded (Deciding Failed) = for-same m m v
for-cleared_status m s v Failed (Deciding Succeeded) = for-same m m v
for-cleared_status m s v Failed (Deciding Failed) = for-same m (with_status m s (Decided Failed)) v
for-cleared_status m s v d (Decided c) = for-same m m v

for-put_final : (x : Entries) (m : Memory) (s i v : ℕ) (d : Verdict) (found : WordKind) → SettlesFor m (after_put_final x m s i d found).memory v
for-put_final x m s i v d (Value u) = for-same m m v
for-put_final x m s i v d (Dirty u) = for-same m m v
for-put_final x m s i v d (Tag t j u q) = for-same m m v
for-put_final x m s i v d (Swap t) = after-if m v (t == s) _ _ (for-same m (with_word m (x.target i) (Dirty (final_value x i d))) v) (for-same m m v)

for-help : (e : ℕ → Entries) (x : Entries) (m : Memory) (w s v : ℕ) (step : HelpStep) → w ≢ v → Sound e m → SettlesFor m (help_act x m w s step).memory v
for-help e x m w s v Look other g = for-same m m v
for-help e x m w s v (InstallTag i) other g = for-install x m w s i v (m.cached (x.target i))
for-help e x m w s v (LookUnderTag i u q) other g = for-same m m v
for-help e x m w s v (InstallPointer i u q) other g = for-untag x m s i u q v _ _ _ (m.cached (x.target i))
for-help e x m w s v (RemoveTag i u q) other g = for-untag x m s i u q v _ _ _ (m.cached (x.target i))
for-help e x m w s v (AskDirty i y) other g = for-ask m w (line_of (x.target i)) v other
for-help e x m w s v (FenceDirty i y) other g = for-fence e m w v other g
for-help e x m w s v (ClearDirty i y) other g = for-cleared m (x.target i) y v (m.cached (x.target i))
for-help e x m w s v (AskTarget i) other g = for-ask m w (line_of (x.target i)) v other
for-help e x m w s v FenceTargets other g = for-fence e m w v other g
for-help e x m w s v (Decide d) other g = for-decide m s v d (m.status s)
for-help e x m w s v (AskStatus d) other g = for-ask m w (head_of s) v other
for-help e x m w s v (FenceStatus d) other g = for-fence e m w v other g
for-help e x m w s v (ClearStatus d) other g = for-cleared_status m s v d (m.status s)
for-help e x m w s v (PutFinal i d) other g = for-put_final x m s i v d (m.cached (x.target i))
for-help e x m w s v (AskFinal i d) other g = for-ask m w (line_of (x.target i)) v other
for-help e x m w s v (FenceFinal i d) other g = for-fence e m w v other g
for-help e x m w s v (ClearFinal i d) other g = for-cleared m (x.target i) (final_value x i d) v (m.cached (x.target i))
for-help e x m w s v (SweepTag i d u q) other g = for-untag x m s i u q v _ _ _ (m.cached (x.target i))

for-answer : (m n : Memory) (s v : ℕ) (d : Verdict) → SettlesFor m n v → SettlesFor m (with_answer n s d) v
for-answer m n s v d h = record { words = h.words; fields = h.fields; statuses = h.statuses }

for-next : (m n : Memory) (l : Local) (v : ℕ) (next : Next) → SettlesFor m n v → SettlesFor m (after_help l n next).memory v
for-next m n l v (Step step) h = h
for-next m n l v (Meet t) h = h
for-next m n l v (Complete d) h = stepped-if m v (is_own l.operation l.current) _ _ (for-answer m n l.current v d h) h

for-published : (e : ℕ → Entries) (m : Memory) (w s v : ℕ) → w ≢ v → Sound e m → SettlesFor m (with_published m w s) v
for-published e m w s v other g =
    let h : SettlesFor m (fenced m w) v = for-fence e m w v other g in
    record { words = h.words; fields = h.fields; statuses = h.statuses }

for-prepare : (e : ℕ → Entries) (m : Memory) (w : ℕ) (l : Local) (v : ℕ) (step : PrepareStep) → w ≢ v → Sound e m → SettlesFor m (prepare_act m w l step).memory v
for-prepare e m w l v (WriteWord k) other g = for-same m (with_field m l.current k (l.list k)) v
for-prepare e m w l v WriteStatus other g = for-same m (with_status m l.current Undecided) v
for-prepare e m w l v AskHead other g = for-ask m w (head_of l.current) v other
for-prepare e m w l v AskTail other g = for-ask m w (tail_of l.current) v other
for-prepare e m w l v FenceDescriptor other g = for-published e m w l.current v other g

for-read : (m : Memory) (l : Local) (a v : ℕ) (found : WordKind) → SettlesFor m (read_act m l a found).memory v
for-read m l a v (Value u) = for-same m m v
for-read m l a v (Dirty u) = for-same m m v
for-read m l a v (Swap t) = for-same m m v
for-read m l a v (Tag t i w q) = for-same m m v

for-act : (e : ℕ → Entries) (m : Memory) (w : ℕ) (l : Local) (v : ℕ) (place : Place) → w ≢ v → Sound e m → SettlesFor m (act m w l place).memory v
for-act e m w l v Idle other g = for-same m m v
for-act e m w l v (Prepare step) other g = for-prepare e m w l v step other g
for-act e m w l v (Learn k) other g = for-same m m v
for-act e m w l v (Help step) other g =
    for-next m (help_act (entries_in l.list) m w l.current step).memory l v (help_act (entries_in l.list) m w l.current step).next (for-help e (entries_in l.list) m w l.current v step other g)
for-act e m w l v (ReadWord a) other g = for-read m l a v (m.cached a)
for-act e m w l v (AskRead a y) other g = for-ask m w (line_of a) v other
for-act e m w l v (FenceRead a y) other g = for-fence e m w v other g
for-act e m w l v (ClearRead a y) other g = for-cleared m a y v (m.cached a)
for-act e m w l v (LoadWord a) other g = for-same m m v
for-act e m w l v (StoreWord a y) other g = for-same m (with_word m a (Value y)) v
for-act e m w l v (AskLine line) other g = for-ask m w (line_of (line * 8)) v other
for-act e m w l v (FenceLine line) other g = for-fence e m w v other g

-- a change that all other workers' facts survive
pub keeps_for-change : (e : ℕ → Entries) (m n : Memory) (v s : ℕ) → Sound e m → Change e m n s → SettlesFor m n v → KeepsFor e m n v
keeps_for-change e m n v s g c h = record {
  now = c.keeps;
  after = keeps-for e m n v g c.keeps h;
  descriptors = λ t own. c.descriptors t;
  descriptors_after = λ t own. descriptor-for m n v t (c.descriptors t) h;
}

-- an act of worker w, for another one
pub keeps_for-act : (e : ℕ → Entries) (m : Memory) (w v : ℕ) (l : Local) (place : Place) → w ≢ v → Sound e m → Good e m w l (act m w l place) → KeepsFor e m (act m w l place).memory v
keeps_for-act e m w v l place other g good =
    let h : SettlesFor m (act m w l place).memory v = for-act e m w l v place other g in
    let others : (s : ℕ) → m.owner s ≡ v → KeepsDescriptor m (act m w l place).memory s = λ s own. good.descriptors s (λ mine. other (sym mine ∙ own)) in
    record {
      now = good.keeps;
      after = keeps-for e m (act m w l place).memory v g good.keeps h;
      descriptors = others;
      descriptors_after = λ s own. descriptor-for m (act m w l place).memory v s (others s own) h;
    }
