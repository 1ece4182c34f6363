-- A worker's asks stand at home: no act leaves it one for a status that its place does not tell of.
use Rattle.std.proofs.Common.{◌≡◌, ℕ, ◌+◌, ◌==◌, ◌&&◌, if◌then◌else◌, Bool, true, false, refl, Some, None}
use Rattle.std.specs.declared.option.Option.{Option}
use Rattle.bz_word.specs.declared.kind.WordKind.{WordKind}
use Rattle.bz_word.specs.declared.kind.WordKind.TheVariants.{Value, Dirty, Swap, Tag}
use Rattle.bz_swap_machine.specs.Pending.{Saved, Pending, with_saved}
use Rattle.bz_swap_machine.specs.declared.status.SwapStatus.{SwapStatus}
use Rattle.bz_swap_machine.specs.declared.status.SwapStatus.TheVariants.{Free, Undecided, Deciding, Decided}
use Rattle.bz_swap_machine.specs.declared.status.Verdict.{Verdict}
use Rattle.bz_swap_machine.specs.declared.status.Verdict.TheVariants.{Succeeded, Failed}
use Rattle.bz_swap_machine.specs.declared.place.HelpStep.{HelpStep}
use Rattle.bz_swap_machine.specs.declared.place.HelpStep.TheVariants.{Look, InstallTag, LookUnderTag, InstallPointer, RemoveTag, AskDirty, FenceDirty, ClearDirty, AskTarget, FenceTargets, Decide, AskStatus, FenceStatus, ClearStatus, PutFinal, AskFinal, FenceFinal, ClearFinal, SweepTag}
use Rattle.bz_swap_machine.specs.declared.place.Next.{Next}
use Rattle.bz_swap_machine.specs.declared.place.Next.TheVariants.{Step, Meet, Complete}
use Rattle.bz_swap_machine.specs.declared.place.Place.{Place}
use Rattle.bz_swap_machine.specs.declared.place.Place.TheVariants.{Idle, Prepare, Learn, Help, ReadWord, AskRead, FenceRead, ClearRead, LoadWord, StoreWord, AskLine, FenceLine}
use Rattle.bz_swap_machine.specs.declared.place.PrepareStep.{PrepareStep}
use Rattle.bz_swap_machine.specs.declared.place.PrepareStep.TheVariants.{WriteWord, WriteStatus, AskHead, AskTail, FenceDescriptor}
use Rattle.bz_swap_machine.specs.Machine.{Entries, Memory, entries_in}
use Rattle.bz_swap_machine.specs.HelpActs.{After, after_install_tag, after_untag, cleared_word, after_decide, cleared_status, after_put_final, final_value, help_act}
use Rattle.bz_swap_machine.specs.Knows.{AsksAtHome}
use Rattle.bz_swap_machine.specs.Steps.{Local, Stepped, is_own, after_help, prepare_act, read_act, act}
use Rattle.bz_swap_machine.proofs.DurableStatuses.{self-true}

-- worker v, which has not asked for the status of swap t, still has not
abbrev pub NoneStays : Memory → Memory → ℕ → ℕ → Type 0
NoneStays m n v t = (m.status_pending t).asked v ≡ None → (n.status_pending t).asked v ≡ None

after-if : (m : Memory) (v t : ℕ) (b : Bool) (x y : After) → NoneStays m x.memory v t → NoneStays m y.memory v t → NoneStays m (if b then x else y).memory v t
after-if m v t true x y p q = p
after-if m v t false x y p q = q

memory-if : (m : Memory) (v t : ℕ) (b : Bool) (x y : Memory) → NoneStays m x v t → NoneStays m y v t → NoneStays m (if b then x else y) v t
memory-if m v t true x y p q = p
memory-if m v t false x y p q = q

stepped-if : (m : Memory) (v t : ℕ) (b : Bool) (x y : Stepped) → NoneStays m x.memory v t → NoneStays m y.memory v t → NoneStays m (if b then x else y).memory v t
stepped-if m v t true x y p q = p
stepped-if m v t false x y p q = q

none-install : (x : Entries) (m : Memory) (w s i v t : ℕ) (found : WordKind) → NoneStays m (after_install_tag x m w s i found).memory v t
none-install x m w s i v t (Value u) = after-if m v t (u == x.expected i) _ _ (λ h. h) (λ h. h)
none-install x m w s i v t (Dirty u) = λ h. h
none-install x m w s i v t (Swap r) = λ h. h
none-install x m w s i v t (Tag r j u q) = λ h. h

none-untag : (x : Entries) (m : Memory) (s i u q v t : ℕ) (new : WordKind) (changed unchanged : Next) (found : WordKind) → NoneStays m (after_untag x m s i u q new changed unchanged found).memory v t
none-untag x m s i u q v t new changed unchanged (Value y) = λ h. h
none-untag x m s i u q v t new changed unchanged (Dirty y) = λ h. h
none-untag x m s i u q v t new changed unchanged (Swap r) = λ h. h
none-untag x m s i u q v t new changed unchanged (Tag r j y p) = after-if m v t (((r == s) && (j == i)) && ((y == u) && (p == q))) _ _ (λ h. h) (λ h. h)

none-cleared : (m : Memory) (a y v t : ℕ) (found : WordKind) → NoneStays m (cleared_word m a y found) v t
none-cleared m a y v t (Value u) = λ h. h
none-cleared m a y v t (Swap r) = λ h. h
none-cleared m a y v t (Tag r j u q) = λ h. h
none-cleared m a y v t (Dirty u) = memory-if m v t (u == y) _ _ (λ h. h) (λ h. h)

none-decide : (m : Memory) (s v t : ℕ) (d : Verdict) (found : SwapStatus) → NoneStays m (after_decide m s d found).memory v t
none-decide m s v t d Free = λ h. h
none-decide m s v t d Undecided = λ h. h
none-decide m s v t d (Deciding c) = λ h. h
none-decide m s v t d (Decided c) = λ h. h

none-cleared_status : (m : Memory) (s v t : ℕ) (d : Verdict) (found : SwapStatus) → NoneStays m (cleared_status m s d found) v t
none-cleared_status m s v t d Free = λ h. h
none-cleared_status m s v t d Undecided = λ h. h
none-cleared_status m s v t Succeeded (Deciding Succeeded) = λ h. h
none-cleared_status m s v t Succeeded (Deciding Failed) = λ h. h
none-cleared_status m s v t Failed (Deciding Succeeded) = λ h. h
none-cleared_status m s v t Failed (Deciding Failed) = λ h. h
none-cleared_status m s v t d (Decided c) = λ h. h

none-put_final : (x : Entries) (m : Memory) (s i v t : ℕ) (d : Verdict) (found : WordKind) → NoneStays m (after_put_final x m s i d found).memory v t
none-put_final x m s i v t d (Value u) = λ h. h
none-put_final x m s i v t d (Dirty u) = λ h. h
none-put_final x m s i v t d (Tag r j u q) = λ h. h
none-put_final x m s i v t d (Swap r) = after-if m v t (r == s) _ _ (λ h. h) (λ h. h)

-- a fence leaves its worker no ask, and the others theirs
none-fenced : {A : Type 0} (b : Bool) (o : Option (Saved A)) → o ≡ None → (if b then None else o) ≡ None
none-fenced true o h = refl
none-fenced false o h = h

-- an ask leaves one of its worker, for what it is of
none-if : {A : Type 0} (b : Bool) (o : Option (Saved A)) (q : Saved A) → (b && true) ≡ false → o ≡ None → (if b then Some q else o) ≡ None
none-if true o q away h = absurd (cc)
none-if false o q away h = h

none-asked : {A : Type 0} (b : Bool) (p : Pending A) (v w moment : ℕ) (x : A) → ((v == w) && b) ≡ false → p.asked v ≡ None → (if b then with_saved p w moment x else p).asked v ≡ None
none-asked true p v w moment x away h = none-if (v == w) (p.asked v) (record { moment = moment; value = x }) away h
none-asked false p v w moment x away h = h

-- whether an act asks for the status of the current swap, where that is the one at hand
abbrev pub help-asks : HelpStep → Bool → Bool
help-asks (AskStatus d) here = here
help-asks step here = false

abbrev pub prepare-asks : PrepareStep → Bool → Bool
prepare-asks AskHead here = here
prepare-asks step here = false

abbrev pub place-asks : Place → Bool → Bool
place-asks (Prepare step) here = prepare-asks step here
place-asks (Help step) here = help-asks step here
place-asks place here = false

help-asks-not : (step : HelpStep) (here : Bool) → here ≡ false → help-asks step here ≡ false
help-asks-not (AskStatus d) here h = h
help-asks-not step here h = refl

prepare-asks-not : (step : PrepareStep) (here : Bool) → here ≡ false → prepare-asks step here ≡ false
prepare-asks-not AskHead here h = h
prepare-asks-not step here h = refl

pub asks-not : (place : Place) (here : Bool) → here ≡ false → place-asks place here ≡ false
asks-not (Prepare step) here h = prepare-asks-not step here h
asks-not (Help step) here h = help-asks-not step here h
asks-not place here h = refl

none-help : (x : Entries) (m : Memory) (w s v t : ℕ) (step : HelpStep) → help-asks step ((v == w) && (t == s)) ≡ false → NoneStays m (help_act x m w s step).memory v t
none-help x m w s v t Look away = λ h. h
none-help x m w s v t (InstallTag i) away = none-install x m w s i v t (m.cached (x.target i))
none-help x m w s v t (LookUnderTag i u q) away = λ h. h
none-help x m w s v t (InstallPointer i u q) away = none-untag x m s i u q v t _ _ _ (m.cached (x.target i))
none-help x m w s v t (RemoveTag i u q) away = none-untag x m s i u q v t _ _ _ (m.cached (x.target i))
none-help x m w s v t (AskDirty i y) away = λ h. h
none-help x m w s v t (FenceDirty i y) away = λ h. none-fenced (v == w) ((m.status_pending t).asked v) h
none-help x m w s v t (ClearDirty i y) away = none-cleared m (x.target i) y v t (m.cached (x.target i))
none-help x m w s v t (AskTarget i) away = λ h. h
none-help x m w s v t FenceTargets away = λ h. none-fenced (v == w) ((m.status_pending t).asked v) h
none-help x m w s v t (Decide d) away = none-decide m s v t d (m.status s)
none-help x m w s v t (AskStatus d) away = λ h. none-asked (t == s) (m.status_pending t) v w (m.now + 1) (m.status t) away h
none-help x m w s v t (FenceStatus d) away = λ h. none-fenced (v == w) ((m.status_pending t).asked v) h
none-help x m w s v t (ClearStatus d) away = none-cleared_status m s v t d (m.status s)
none-help x m w s v t (PutFinal i d) away = none-put_final x m s i v t d (m.cached (x.target i))
none-help x m w s v t (AskFinal i d) away = λ h. h
none-help x m w s v t (FenceFinal i d) away = λ h. none-fenced (v == w) ((m.status_pending t).asked v) h
none-help x m w s v t (ClearFinal i d) away = none-cleared m (x.target i) (final_value x i d) v t (m.cached (x.target i))
none-help x m w s v t (SweepTag i d u q) away = none-untag x m s i u q v t _ _ _ (m.cached (x.target i))

none-next : (m n : Memory) (l : Local) (v t : ℕ) (next : Next) → NoneStays m n v t → NoneStays m (after_help l n next).memory v t
none-next m n l v t (Step step) h = h
none-next m n l v t (Meet r) h = h
none-next m n l v t (Complete d) h = stepped-if m v t (is_own l.operation l.current) _ _ h h

none-prepare : (m : Memory) (w : ℕ) (l : Local) (v t : ℕ) (step : PrepareStep) → prepare-asks step ((v == w) && (t == l.current)) ≡ false → NoneStays m (prepare_act m w l step).memory v t
none-prepare m w l v t (WriteWord k) away = λ h. h
none-prepare m w l v t WriteStatus away = λ h. h
none-prepare m w l v t AskHead away = λ h. none-asked (t == l.current) (m.status_pending t) v w (m.now + 1) (m.status t) away h
none-prepare m w l v t AskTail away = λ h. h
none-prepare m w l v t FenceDescriptor away = λ h. none-fenced (v == w) ((m.status_pending t).asked v) h

none-read : (m : Memory) (l : Local) (a v t : ℕ) (found : WordKind) → NoneStays m (read_act m l a found).memory v t
none-read m l a v t (Value u) = λ h. h
none-read m l a v t (Dirty u) = λ h. h
none-read m l a v t (Swap r) = λ h. h
none-read m l a v t (Tag r i w q) = λ h. h

pub none-act : (m : Memory) (w : ℕ) (l : Local) (v t : ℕ) (place : Place) → place-asks place ((v == w) && (t == l.current)) ≡ false → NoneStays m (act m w l place).memory v t
none-act m w l v t Idle away = λ h. h
none-act m w l v t (Prepare step) away = none-prepare m w l v t step away
none-act m w l v t (Learn k) away = λ h. h
none-act m w l v t (Help step) away =
    none-next m (help_act (entries_in l.list) m w l.current step).memory l v t (help_act (entries_in l.list) m w l.current step).next (none-help (entries_in l.list) m w l.current v t step away)
none-act m w l v t (ReadWord a) away = none-read m l a v t (m.cached a)
none-act m w l v t (AskRead a y) away = λ h. h
none-act m w l v t (FenceRead a y) away = λ h. none-fenced (v == w) ((m.status_pending t).asked v) h
none-act m w l v t (ClearRead a y) away = none-cleared m a y v t (m.cached a)
none-act m w l v t (LoadWord a) away = λ h. h
none-act m w l v t (StoreWord a y) away = λ h. h
none-act m w l v t (AskLine line) away = λ h. h
none-act m w l v t (FenceLine line) away = λ h. none-fenced (v == w) ((m.status_pending t).asked v) h

second-false : (a b : Bool) → b ≡ false → (a && b) ≡ false
second-false true b h = h
second-false false b h = refl

-- its own fence leaves a worker none
own-fenced : {A : Type 0} (b : Bool) (o : Option (Saved A)) → b ≡ true → (if b then None else o) ≡ None
own-fenced true o h = refl
own-fenced false o h = absurd (cc)

-- a worker that has asked for no status, at an act that asks for none
home-same : (m : Memory) (w : ℕ) (l : Local) (place : Place) → ((here : Bool) → place-asks place here ≡ false) → ((t : ℕ) → (m.status_pending t).asked w ≡ None) → AsksAtHome (act m w l place).memory w (act m w l place).local
home-same m w l place none home t away = none-act m w l w t place (none ((w == w) && (t == l.current))) (home t)

home-prepare : (m : Memory) (w : ℕ) (l : Local) (step : PrepareStep) → AsksAtHome m w (record l { place = Prepare step }) → AsksAtHome (act m w l (Prepare step)).memory w (act m w l (Prepare step)).local
home-prepare m w l (WriteWord k) home = home-same m w l (Prepare (WriteWord k)) (λ here. refl) (λ t. home t refl)
home-prepare m w l WriteStatus home = home-same m w l (Prepare WriteStatus) (λ here. refl) (λ t. home t refl)
home-prepare m w l AskHead home = λ t away. none-act m w l w t (Prepare AskHead) (second-false (w == w) (t == l.current) away) (home t refl)
home-prepare m w l AskTail home = λ t away. none-act m w l w t (Prepare AskTail) refl (home t away)
home-prepare m w l FenceDescriptor home = λ t away. own-fenced (w == w) ((m.status_pending t).asked w) (self-true w)

home-help : (m : Memory) (w : ℕ) (l : Local) (step : HelpStep) → AsksAtHome m w (record l { place = Help step }) → AsksAtHome (act m w l (Help step)).memory w (act m w l (Help step)).local
home-help m w l (AskStatus d) home = λ t away. none-act m w l w t (Help (AskStatus d)) (second-false (w == w) (t == l.current) away) (home t refl)
home-help m w l (FenceStatus d) home = λ t away. own-fenced (w == w) ((m.status_pending t).asked w) (self-true w)
home-help m w l step home = home-same m w l (Help step) (λ here. refl) (λ t. home t refl)

-- so it is for the worker that acts
pub home-own : (m : Memory) (w : ℕ) (l : Local) (place : Place) → AsksAtHome m w (record l { place = place }) → AsksAtHome (act m w l place).memory w (act m w l place).local
home-own m w l (Prepare step) home = home-prepare m w l step home
home-own m w l (Help step) home = home-help m w l step home
home-own m w l place home = home-same m w l place (λ here. refl) (λ t. home t refl)
