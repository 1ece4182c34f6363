-- Every act keeps the numbers in the ranges that words can hold.
use Rattle.std.proofs.Common.{◌≡◌, ℕ, ◌+◌, ◌==◌, ◌&&◌, if◌then◌else◌, ◌<◌, Bool, nat_lt, true, false, arith, refl, subst, inl, inr, Some, None}
use Rattle.bz_word.specs.declared.kind.WordKind.{WordKind}
use Rattle.bz_word.specs.declared.kind.WordKind.TheVariants.{Value, Dirty, Swap, Tag}
use Rattle.bz_swap_machine.specs.declared.status.SwapStatus.{SwapStatus}
use Rattle.bz_swap_machine.specs.declared.status.SwapStatus.TheVariants.{Free, Undecided, Deciding, Decided}
use Rattle.bz_swap_machine.specs.declared.status.Verdict.{Verdict}
use Rattle.bz_swap_machine.specs.declared.status.Verdict.TheVariants.{Succeeded, Failed}
use Rattle.bz_swap_machine.specs.Machine.{Entries, Memory}
use Rattle.bz_swap_machine.specs.Changes.{with_word, with_tag, with_copies, with_status, with_miss, line_of, head_of}
use Rattle.bz_swap_machine.specs.Facts.{Fact}
use Rattle.bz_swap_machine.specs.declared.place.HelpStep.{HelpStep}
use Rattle.bz_swap_machine.specs.declared.place.HelpStep.TheVariants.{Look, InstallTag, LookUnderTag, InstallPointer, RemoveTag, AskDirty, FenceDirty, ClearDirty, AskTarget, FenceTargets, Decide, AskStatus, FenceStatus, ClearStatus, PutFinal, AskFinal, FenceFinal, ClearFinal, SweepTag}
use Rattle.bz_swap_machine.specs.declared.place.Next.{Next}
use Rattle.bz_swap_machine.specs.declared.place.Next.TheVariants.{Step, Meet, Complete}
use Rattle.bz_swap_machine.specs.HelpActs.{After, passed, finished, by_status, final_value, after_install_tag, after_look_under, after_untag, cleared_word, after_decide, cleared_status, after_put_final, help_act}
use Rattle.std.proofs.Common.{◌^◌}
use Rattle.bz_word.specs.Kinds.{IsKind}
use Rattle.bz_swap_machine.specs.Ranges.{IsTagger, AreValues, HoldsKinds, StepInRange, NextInRange}
use Rattle.std.specs.declared.option.Option.{Option}
use Rattle.bz_swap_machine.specs.Pending.{Saved, Pending, with_saved, fenced_value}
use Rattle.bz_swap_machine.specs.Changes.{Lines, with_ask, fenced}
use Rattle.bz_swap_machine.proofs.Lasting.{saved-cases, left-fenced}

-- what an act leaves
pub record InRange (a : After) : Type 0 where
  pub memory : HoldsKinds a.memory
  pub next : NextInRange a.next

kind-if : (b : Bool) (x y : WordKind) → IsKind x → IsKind y → IsKind (if b then x else y)
kind-if true x y p q = p
kind-if false x y p q = q

next-if : (b : Bool) (x y : Next) → NextInRange x → NextInRange y → NextInRange (if b then x else y)
next-if true x y p q = p
next-if false x y p q = q

step-if : (b : Bool) (x y : HelpStep) → StepInRange x → StepInRange y → StepInRange (if b then x else y)
step-if true x y p q = p
step-if false x y p q = q

range-if : (b : Bool) (x y : After) → InRange x → InRange y → InRange (if b then x else y)
range-if true x y p q = p
range-if false x y p q = q

pub holds-word : (m : Memory) (a : ℕ) (x : WordKind) → IsKind x → HoldsKinds m → HoldsKinds (with_word m a x)
holds-word m a x p h = record { cached = λ b. kind-if (b == a) x (m.cached b) p (h.cached b); durable = h.durable; taken = h.taken; asked = h.asked }

pub holds-copies : (m : Memory) (p : ℕ → Bool) → HoldsKinds m → HoldsKinds (with_copies m p)
holds-copies m p h = record { cached = h.cached; durable = λ b. kind-if (p b) (m.cached b) (m.durable b) (h.cached b) (h.durable b); taken = h.taken; asked = h.asked }

-- what an ask saves is of a kind
holds-saved : (p : Pending WordKind) (w moment : ℕ) (c : WordKind) (b : Bool) → IsKind c → ((v : ℕ) (q : Saved WordKind) → p.asked v ≡ Some q → IsKind q.value)
    → (v : ℕ) (q : Saved WordKind) → (if b then with_saved p w moment c else p).asked v ≡ Some q → IsKind q.value
holds-saved p w moment c true k h v q asked = elim (saved-cases (v == w) (record { moment = moment; value = c }) (p.asked v) q asked) [
  | inl new ↦ subst (λ (r : Saved WordKind). IsKind r.value) new.1 k
  | inr old ↦ h v q old
]
holds-saved p w moment c false k h v q asked = h v q asked

pub holds-ask : (m : Memory) (w : ℕ) (p : Lines) → HoldsKinds m → HoldsKinds (with_ask m w p)
holds-ask m w p h = record {
  cached = h.cached;
  durable = h.durable;
  asked = λ a v q asked. holds-saved (m.pending a) w (m.now + 1) (m.cached a) (p.words a) (h.cached a) (h.asked a) v q asked;
  taken = h.taken;
}

kind-fenced : (d : WordKind) (since : ℕ) (o : Option (Saved WordKind)) → IsKind d → ((q : Saved WordKind) → o ≡ Some q → IsKind q.value) → IsKind (fenced_value d since o)
kind-fenced d since None k h = k
kind-fenced d since (Some q) k h = kind-if (nat_lt since q.moment) q.value d (h q refl) k

pub holds-fenced : (m : Memory) (w : ℕ) → HoldsKinds m → HoldsKinds (fenced m w)
holds-fenced m w h = record {
  cached = h.cached;
  durable = λ a. kind-fenced (m.durable a) (m.pending a).since ((m.pending a).asked w) (h.durable a) (λ q asked. h.asked a w q asked);
  asked = λ a v q asked. h.asked a v q (left-fenced (v == w) ((m.pending a).asked v) q asked);
  taken = h.taken;
}

holds-tag : (m : Memory) (a s i w : ℕ) → s < 2 ^ 16 → i < 4 → IsTagger w (m.next_tag w) → HoldsKinds m → HoldsKinds (with_tag m a s i w)
holds-tag m a s i w sm lt t h = record { cached = λ b. kind-if (b == a) (Tag s i w (m.next_tag w)) (m.cached b) (sm, lt, t.0, t.1, t.2) (h.cached b); durable = h.durable; taken = h.taken; asked = h.asked }

-- a change that leaves the words outside the descriptors
holds-miss : (m : Memory) (s : ℕ) → HoldsKinds m → HoldsKinds (with_miss m s)
holds-miss m s h = assumption h

holds-status : (m : Memory) (s : ℕ) (c : SwapStatus) → HoldsKinds m → HoldsKinds (with_status m s c)
holds-status m s c h = assumption h

holds-if : (b : Bool) (m n : Memory) → HoldsKinds m → HoldsKinds n → HoldsKinds (if b then m else n)
holds-if true m n p q = p
holds-if false m n p q = q

-- a word that is found is of a kind
found-kind : (m : Memory) (a : ℕ) (found : WordKind) → m.cached a ≡ found → HoldsKinds m → IsKind found
found-kind m a found h k = subst IsKind h (k.cached a)

range-install : (x : Entries) (m : Memory) (w s i : ℕ) (found : WordKind) → m.cached (x.target i) ≡ found → s < 2 ^ 16 → i < 4 → IsTagger w (m.next_tag w) → HoldsKinds m → InRange (after_install_tag x m w s i found)
range-install x m w s i (Value v) h sm lt t k = range-if (v == x.expected i) _ _ (record { memory = holds-tag m (x.target i) s i w sm lt t k; next = t }) (record { memory = holds-miss m s k; next = tt })
range-install x m w s i (Dirty v) h sm lt t k = record { memory = k; next = found-kind m (x.target i) (Dirty v) h k }
range-install x m w s i (Swap u) h sm lt t k = record { memory = k; next = next-if (u == s) (Step (passed x i)) (Meet u) (step-if (i + 1 == x.count) (AskTarget 0) (InstallTag (i + 1)) tt tt) tt }
range-install x m w s i (Tag u j v q) h sm lt t k =
    let kind : IsKind (Tag u j v q) = found-kind m (x.target i) (Tag u j v q) h k in
    record { memory = k; next = next-if (u == s) (Step (LookUnderTag i v q)) (Meet u) (kind.2, kind.3, kind.4) tt }

range-look_under : (i v q : ℕ) (found : SwapStatus) → IsTagger v q → StepInRange (after_look_under i v q found)
range-look_under i v q Free t = t
range-look_under i v q Undecided t = t
range-look_under i v q (Deciding d) t = t
range-look_under i v q (Decided d) t = t

range-untag : (x : Entries) (m : Memory) (s i v q : ℕ) (new : WordKind) (changed unchanged : Next) (found : WordKind) → IsKind new → NextInRange changed → NextInRange unchanged → HoldsKinds m → InRange (after_untag x m s i v q new changed unchanged found)
range-untag x m s i v q new changed unchanged (Value u) p f g k = record { memory = k; next = g }
range-untag x m s i v q new changed unchanged (Dirty u) p f g k = record { memory = k; next = g }
range-untag x m s i v q new changed unchanged (Swap t) p f g k = record { memory = k; next = g }
range-untag x m s i v q new changed unchanged (Tag t j u r) p f g k =
    range-if (((t == s) && (j == i)) && ((u == v) && (r == q))) _ _ (record { memory = holds-word m (x.target i) new p k; next = f }) (record { memory = k; next = g })

pub holds-cleared : (m : Memory) (a v : ℕ) (found : WordKind) → v < 2 ^ 61 → HoldsKinds m → HoldsKinds (cleared_word m a v found)
holds-cleared m a v (Value u) lt k = k
holds-cleared m a v (Swap t) lt k = k
holds-cleared m a v (Tag t j u q) lt k = k
holds-cleared m a v (Dirty u) lt k = holds-if (u == v) _ _ (holds-word m a (Value v) lt k) k

range-by_status : (found : SwapStatus) → StepInRange (by_status found)
range-by_status Free = tt
range-by_status Undecided = tt
range-by_status (Deciding d) = tt
range-by_status (Decided d) = tt

range-decide : (m : Memory) (s : ℕ) (d : Verdict) (found : SwapStatus) → HoldsKinds m → InRange (after_decide m s d found)
range-decide m s d Free k = record { memory = k; next = tt }
range-decide m s d Undecided k = record { memory = holds-status m s (Deciding d) k; next = tt }
range-decide m s d (Deciding c) k = record { memory = k; next = tt }
range-decide m s d (Decided c) k = record { memory = k; next = tt }

holds-cleared_status : (m : Memory) (s : ℕ) (d : Verdict) (found : SwapStatus) → HoldsKinds m → HoldsKinds (cleared_status m s d found)
holds-cleared_status m s d Free k = k
holds-cleared_status m s d Undecided k = k
holds-cleared_status m s Succeeded (Deciding Succeeded) k = holds-status m s (Decided Succeeded) k
holds-cleared_status m s Succeeded (Deciding Failed) k = k
holds-cleared_status m s Failed (Deciding Succeeded) k = k
holds-cleared_status m s Failed (Deciding Failed) k = holds-status m s (Decided Failed) k
holds-cleared_status m s d (Decided c) k = k

final-small : (x : Entries) (i : ℕ) (d : Verdict) → AreValues x → i < x.count → final_value x i d < 2 ^ 61
final-small x i Succeeded v lt = v.value i lt
final-small x i Failed v lt = v.expected i lt

range-finished : (x : Entries) (i : ℕ) (d : Verdict) → NextInRange (finished x i d)
range-finished x i d = next-if (i + 1 == x.count) (Complete d) (Step (PutFinal (i + 1) d)) tt tt

range-put_final : (x : Entries) (m : Memory) (s i : ℕ) (d : Verdict) (found : WordKind) → m.cached (x.target i) ≡ found → AreValues x → i < x.count → HoldsKinds m → InRange (after_put_final x m s i d found)
range-put_final x m s i d (Value v) h a lt k = record { memory = k; next = range-finished x i d }
range-put_final x m s i d (Dirty v) h a lt k = record { memory = k; next = range-finished x i d }
range-put_final x m s i d (Swap t) h a lt k =
    range-if (t == s) _ _ (record { memory = holds-word m (x.target i) (Dirty (final_value x i d)) (final-small x i d a lt) k; next = tt }) (record { memory = k; next = range-finished x i d })
range-put_final x m s i d (Tag t j v q) h a lt k =
    let kind : IsKind (Tag t j v q) = found-kind m (x.target i) (Tag t j v q) h k in
    record { memory = k; next = next-if (t == s) (Step (SweepTag i d v q)) (finished x i d) (kind.2, kind.3, kind.4) (range-finished x i d) }

pub range-help_act : (e : ℕ → Entries) (m : Memory) (w s : ℕ) (step : HelpStep) → Fact e m w s step → StepInRange step → s < 2 ^ 16 → AreValues (e s) → IsTagger w (m.next_tag w) → HoldsKinds m → InRange (help_act (e s) m w s step)
range-help_act e m w s Look f r sm a t k = record { memory = k; next = range-by_status (m.status s) }
range-help_act e m w s (InstallTag i) f r sm a t k = range-install (e s) m w s i (m.cached ((e s).target i)) refl sm (omega (arith, f.0, a.count)) t k
range-help_act e m w s (LookUnderTag i v q) f r sm a t k = record { memory = k; next = range-look_under i v q (m.status s) r }
range-help_act e m w s (InstallPointer i v q) f r sm a t k =
    range-untag (e s) m s i v q (Swap s) (Step (passed (e s) i)) (Step (InstallTag i)) (m.cached ((e s).target i)) sm (step-if (i + 1 == (e s).count) (AskTarget 0) (InstallTag (i + 1)) tt tt) tt k
range-help_act e m w s (RemoveTag i v q) f r sm a t k = range-untag (e s) m s i v q (Value ((e s).expected i)) (Step Look) (Step Look) (m.cached ((e s).target i)) (a.expected i f) tt tt k
range-help_act e m w s (AskDirty i v) f r sm a t k = record { memory = holds-ask m w (line_of ((e s).target i)) k; next = r }
range-help_act e m w s (FenceDirty i v) f r sm a t k = record { memory = holds-fenced m w k; next = r }
range-help_act e m w s (ClearDirty i v) f r sm a t k = record { memory = holds-cleared m ((e s).target i) v (m.cached ((e s).target i)) r k; next = tt }
range-help_act e m w s (AskTarget i) f r sm a t k = record { memory = holds-ask m w (line_of ((e s).target i)) k; next = step-if (i + 1 == (e s).count) FenceTargets (AskTarget (i + 1)) tt tt }
range-help_act e m w s FenceTargets f r sm a t k = record { memory = holds-fenced m w k; next = tt }
range-help_act e m w s (Decide d) f r sm a t k = range-decide m s d (m.status s) k
range-help_act e m w s (AskStatus d) f r sm a t k = record { memory = holds-ask m w (head_of s) k; next = tt }
range-help_act e m w s (FenceStatus d) f r sm a t k = record { memory = holds-fenced m w k; next = tt }
range-help_act e m w s (ClearStatus d) f r sm a t k = record { memory = holds-cleared_status m s d (m.status s) k; next = tt }
range-help_act e m w s (PutFinal i d) f r sm a t k = range-put_final (e s) m s i d (m.cached ((e s).target i)) refl a f.0 k
range-help_act e m w s (AskFinal i d) f r sm a t k = record { memory = holds-ask m w (line_of ((e s).target i)) k; next = tt }
range-help_act e m w s (FenceFinal i d) f r sm a t k = record { memory = holds-fenced m w k; next = tt }
range-help_act e m w s (ClearFinal i d) f r sm a t k = record { memory = holds-cleared m ((e s).target i) (final_value (e s) i d) (m.cached ((e s).target i)) (final-small (e s) i d a f.0) k; next = range-finished (e s) i d }
range-help_act e m w s (SweepTag i d v q) f r sm a t k = range-untag (e s) m s i v q (Value ((e s).expected i)) (finished (e s) i d) (Step (PutFinal i d)) (m.cached ((e s).target i)) (a.expected i f.0) (range-finished (e s) i d) tt k
