-- A word with a dirty value is one that a worker goes on to clean: that worker put it, and leaves it only when it is clean.
use Rattle.std.proofs.Common.{◌≡◌, ◌⊎◌, ◌==◌, if◌then◌else◌, ℕ, ◌+◌, ◌*◌, Bool, true, false, arith, refl, ap, sym, subst, ◌∙◌, inl, inr}
use Rattle.std.proofs.lemmas.Grind.{common_steps}
use Rattle.bz_word.specs.declared.kind.WordKind.{WordKind}
use Rattle.bz_word.specs.declared.kind.WordKind.TheVariants.{Value, Dirty, Swap, Tag}
use Rattle.bz_swap_machine.specs.declared.status.Verdict.{Verdict}
use Rattle.bz_swap_machine.specs.declared.place.HelpStep.TheVariants.{AskFinal, FenceFinal, ClearFinal}
use Rattle.bz_swap_machine.specs.declared.place.Next.{Next}
use Rattle.bz_swap_machine.specs.declared.place.Place.{Place}
use Rattle.bz_swap_machine.specs.declared.place.Place.TheVariants.{Idle, Help}
use Rattle.bz_swap_machine.specs.Changes.{put}
use Rattle.bz_swap_machine.specs.DirtyHomes.{IsAtFinal, Cleans, IsCleaned, DirtyAreHome, DirtyStayHome}
use Rattle.bz_swap_machine.specs.HelpActs.{final_value, finished, cleared_word}
use Rattle.bz_swap_machine.specs.Machine.{Memory, entries_in}
use Rattle.bz_swap_machine.specs.State.{State, StartRead, StartStore, StartFlush, StartSwap, Act, Evict, EvictStatus, EvictField, stepped, happens}
use Rattle.bz_swap_machine.specs.Steps.{Local, Stepped, after_help, act}
use Rattle.bz_swap_machine.proofs.TagHomes.{cached-help}
use Rattle.bz_swap_machine.proofs.WordChanges.{Written, Stays, PutsPlain, PutsTag, PutsPointer, PutsFinal, written}

-- a dirty value that stands after an act stood before, or the worker put it and goes on to clean it
abbrev MayCome : Memory → Stepped → Type 0
MayCome m z = (a v : ℕ) → z.memory.cached a ≡ Dirty v → (m.cached a ≡ Dirty v) ⊎ Cleans z.local a v

-- a word that is no dirty value is put
none-comes : (m : Memory) (z : Stepped) (b : ℕ) (new : WordKind) → ((a : ℕ) → z.memory.cached a ≡ put m.cached b new a) → ((v : ℕ) → new ≡ Dirty v → ⊥) → MayCome m z
none-comes m z b new puts none = λ a v is. by_test a v (a == b) (sym (puts a) ∙ is)
  where
    by_test : (a v : ℕ) (t : Bool) → (if t then new else m.cached a) ≡ Dirty v → (m.cached a ≡ Dirty v) ⊎ Cleans z.local a v
    by_test a v true is = absurd (none v is)
    by_test a v false is = inl is

final-comes : (m : Memory) (l : Local) (z : Stepped) (i : ℕ) (d : Verdict) → ((a : ℕ) → z.memory.cached a ≡ put m.cached (l.list (1 + 3 * i)) (Dirty (final_value (entries_in l.list) i d)) a)
    → z.local ≡ record l { place = Help (AskFinal i d) } → MayCome m z
final-comes m l z i d puts goes = λ a v is. by_test a v (a == l.list (1 + 3 * i)) refl (sym (puts a) ∙ is)
  where
    by_test : (a v : ℕ) (t : Bool) → (a == l.list (1 + 3 * i)) ≡ t → (if t then Dirty (final_value (entries_in l.list) i d) else m.cached a) ≡ Dirty v → (m.cached a ≡ Dirty v) ⊎ Cleans z.local a v
    by_test a v false told is = inl is
    by_test a v true told is =
        let here : a ≡ l.list (1 + 3 * i) = grind (arith, common_steps, told) in
        let value : final_value (entries_in l.list) i d ≡ v = cc in
        inr (subst (λ k. Cleans k a v) (sym goes) (record { entry = i; verdict = d; place = (refl, refl); target = sym here; value = value }))

may-come : (m : Memory) (w : ℕ) (l : Local) (place : Place) (z : Stepped) → Written m w l place z → MayCome m z
may-come m w l place z (Stays same) = λ a v is. inl (sym (same a) ∙ is)
may-come m w l place z (PutsPlain b u puts) = none-comes m z b (Value u) puts (λ v is. absurd cc)
may-come m w l place z (PutsTag i at found puts goes) = none-comes m z (l.list (1 + 3 * i)) (Tag l.current i w (m.next_tag w)) puts (λ v is. absurd cc)
may-come m w l place z (PutsPointer i u q at found puts goes) = none-comes m z (l.list (1 + 3 * i)) (Swap l.current) puts (λ v is. absurd cc)
may-come m w l place z (PutsFinal i d at found puts goes) = final-comes m l z i d puts goes

-- a dirty value that its worker cleans is gone
cleared-gone : (m : Memory) (a v : ℕ) (found : WordKind) → m.cached a ≡ found → found ≡ Dirty v → (cleared_word m a v found).cached a ≡ Value v
cleared-gone m a v (Value u) is dirty = absurd cc
cleared-gone m a v (Swap t) is dirty = absurd cc
cleared-gone m a v (Tag t j u q) is dirty = absurd cc
cleared-gone m a v (Dirty u) is dirty =
    let same : u ≡ v = cc in
    let told : (u == v) ≡ true = grind (arith, common_steps, same) in
    let here : (a == a) ≡ true = grind (arith, common_steps) in
    rw (told, here) refl

cleaned : (m : Memory) (l : Local) (i : ℕ) (d : Verdict) (next : Next) (a v : ℕ) → l.list (1 + 3 * i) ≡ a → final_value (entries_in l.list) i d ≡ v → m.cached a ≡ Dirty v
    → (after_help l (cleared_word m (l.list (1 + 3 * i)) (final_value (entries_in l.list) i d) (m.cached (l.list (1 + 3 * i)))) next).memory.cached a ≡ Dirty v → ⊥
cleaned m l i d next a v target value stands now =
    let n : Memory = cleared_word m (l.list (1 + 3 * i)) (final_value (entries_in l.list) i d) (m.cached (l.list (1 + 3 * i))) in
    let found : m.cached (l.list (1 + 3 * i)) ≡ Dirty (final_value (entries_in l.list) i d) = ap m.cached target ∙ stands ∙ ap Dirty (sym value) in
    let gone : n.cached (l.list (1 + 3 * i)) ≡ Value (final_value (entries_in l.list) i d) = cleared-gone m _ _ _ refl found in
    let left : n.cached a ≡ Dirty v = ap (λ (c : ℕ → WordKind). c a) (sym (cached-help l n next)) ∙ now in
    let both : Value (final_value (entries_in l.list) i d) ≡ Dirty v = sym gone ∙ ap n.cached target ∙ left in
    absurd cc

own-stays : (m : Memory) (w : ℕ) (l : Local) (place : Place) (a v i : ℕ) (d : Verdict) → IsAtFinal place i d → l.list (1 + 3 * i) ≡ a → final_value (entries_in l.list) i d ≡ v → m.cached a ≡ Dirty v
    → (act m w l place).memory.cached a ≡ Dirty v → Cleans (act m w l place).local a v
own-stays m w l (Help (AskFinal j c)) a v i d at target value stands now = record { entry = i; verdict = d; place = at; target = target; value = value }
own-stays m w l (Help (FenceFinal j c)) a v i d at target value stands now = record { entry = i; verdict = d; place = at; target = target; value = value }
own-stays m w l (Help (ClearFinal j c)) a v i d at target value stands now =
    absurd (cleaned m l j c (finished (entries_in l.list) j c) a v (rw (at.0) target) (rw (at.0, at.1) value) stands now)
own-stays m w l (Help step) a v i d at target value stands now = absurd at
own-stays m w l place a v i d at target value stands now = absurd at

-- a worker that begins something cleans no final value
home-put : (local : ℕ → Local) (w : ℕ) (l : Local) (h a v : ℕ) → (local w).place ≡ Idle → Cleans (local h) a v → Cleans (put local w l h) a v
home-put local w l h a v rests home = by_test (h == w) refl
  where
    by_test : (b : Bool) → (h == w) ≡ b → Cleans (if b then l else local h) a v
    by_test false is = home
    by_test true is =
        let same : h ≡ w = grind (arith, common_steps, is) in
        absurd (subst (λ (p : Place). IsAtFinal p home.entry home.verdict) (ap (λ u. (local u).place) same ∙ rests) home.place)

cleaned-put : (local : ℕ → Local) (w : ℕ) (l : Local) (a v : ℕ) → (local w).place ≡ Idle → IsCleaned local a v → IsCleaned (put local w l) a v
cleaned-put local w l a v rests old = record { worker = old.worker; cleans = home-put local w l old.worker a v rests old.cleans }

act-home : (x : State) (w : ℕ) → DirtyAreHome x → DirtyAreHome (happens x (Act w))
act-home x w home a v is = by_come (may-come x.memory w (x.local w) (x.local w).place (stepped x w) (written x.memory w (x.local w) (x.local w).place) a v is)
  where
    elsewhere : (h : ℕ) (b : Bool) → (h == w) ≡ b → x.memory.cached a ≡ Dirty v → Cleans (x.local h) a v → Cleans (if b then (stepped x w).local else x.local h) a v
    elsewhere h false other stands mine = mine
    elsewhere h true told stands mine =
        let same : h ≡ w = grind (arith, common_steps, told) in
        let own : Cleans (x.local w) a v = subst (λ u. Cleans (x.local u) a v) same mine in
        own-stays x.memory w (x.local w) (x.local w).place a v own.entry own.verdict own.place own.target own.value stands is

    fresh : (b : Bool) → (w == w) ≡ b → Cleans (stepped x w).local a v → Cleans (if b then (stepped x w).local else x.local w) a v
    fresh true told mine = mine
    fresh false told mine = absurd (grind (arith, common_steps, told))

    by_come : (x.memory.cached a ≡ Dirty v) ⊎ Cleans (stepped x w).local a v → IsCleaned (happens x (Act w)).local a v
    by_come (inl stands) = let old : IsCleaned x.local a v = home a v stands in record { worker = old.worker; cleans = elsewhere old.worker (old.worker == w) refl stands old.cleans }
    by_come (inr own) = record { worker = w; cleans = fresh (w == w) refl own }

pub dirty_stay_home : DirtyStayHome
dirty_stay_home x (StartRead w b) may home a v is = cleaned-put x.local w _ a v may (home a v is)
dirty_stay_home x (StartStore w b u) may home a v is = cleaned-put x.local w _ a v may.0 (home a v is)
dirty_stay_home x (StartFlush w line) may home a v is = cleaned-put x.local w _ a v may (home a v is)
dirty_stay_home x (StartSwap w new targets) may home a v is = cleaned-put x.local w _ a v may.0 (home a v is)
dirty_stay_home x (Act w) may home a v is = act-home x w home a v is
dirty_stay_home x (Evict b) may home a v is = home a v is
dirty_stay_home x (EvictStatus t) may home a v is = home a v is
dirty_stay_home x (EvictField t k) may home a v is = home a v is
