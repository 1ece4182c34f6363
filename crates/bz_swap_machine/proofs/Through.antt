-- What a swap is through with stays so, once its status is clean.
use Rattle.std.proofs.Common.{◌≡◌, ◌⊎◌, ◌==◌, if◌then◌else◌, ℕ, ◌+◌, ◌*◌, ◌<◌, Bool, true, false, arith, refl, ap, sym, subst, ◌∙◌, inl, inr}
use Rattle.std.proofs.lemmas.Grind.{common_steps}
use Rattle.bz_word.specs.declared.kind.WordKind.{WordKind}
use Rattle.bz_word.specs.declared.kind.WordKind.TheVariants.{Value, Dirty, Swap, Tag}
use Rattle.bz_swap_machine.specs.declared.place.HelpStep.TheVariants.{InstallPointer}
use Rattle.bz_swap_machine.specs.declared.place.Place.{Place}
use Rattle.bz_swap_machine.specs.declared.place.Place.TheVariants.{Help}
use Rattle.bz_swap_machine.specs.Agrees.{Agree, agree-spell}
use Rattle.bz_swap_machine.specs.Changes.{put}
use Rattle.bz_swap_machine.specs.Ends.{IsClean, IsAtPointer, IsDone}
use Rattle.bz_swap_machine.specs.Fronts.{StandsFor}
use Rattle.bz_swap_machine.specs.HelpActs.{final_value}
use Rattle.bz_swap_machine.specs.Knows.{AtPlace}
use Rattle.bz_swap_machine.specs.Machine.{Entries, Memory, entries_in}
use Rattle.bz_swap_machine.specs.Sound.{AreApart}
use Rattle.bz_swap_machine.specs.State.{State, stepped, IsState}
use Rattle.bz_swap_machine.specs.Steps.{Local, Stepped}
use Rattle.bz_swap_machine.proofs.Ends.{act-points}
use Rattle.bz_swap_machine.proofs.WordChanges.{Written, Stays, PutsPlain, PutsTag, PutsPointer, PutsFinal, written}

-- an entry where neither a pointer nor a tag of the swap stands
pub done-word : (e : ℕ → Entries) (cached : ℕ → WordKind) (local : ℕ → Local) (s j : ℕ) → (StandsFor (cached ((e s).target j)) s → ⊥) → IsDone e cached local s j
done-word e cached local s j none = record {
  pointer = λ is. none (subst (λ k. StandsFor k s) (sym is) refl);
  late = λ w v q current at is. none (subst (λ k. StandsFor k s) (sym is) refl);
}

-- the number of a tag that a worker is about to change was used
pointer-used : (e : ℕ → Entries) (m : Memory) (w : ℕ) (l : Local) (place : Place) (j v q : ℕ) → AtPlace e m w l place → IsAtPointer place j v q → q < m.next_tag v
pointer-used e m w l (Help (InstallPointer i u p)) j v q known at = rw (sym at.1, sym at.2) (known.3.2)
pointer-used e m w l (Help step) j v q known at = absurd at
pointer-used e m w l place j v q known at = absurd at

-- a tag that stands after an act stood before, or is the worker's newest
tag-comes : (m : Memory) (w : ℕ) (l : Local) (place : Place) (z : Stepped) → Written m w l place z → (a s j v q : ℕ) → z.memory.cached a ≡ Tag s j v q → (m.cached a ≡ Tag s j v q) ⊎ ((v ≡ w) × (q ≡ m.next_tag w))
tag-comes m w l place z (Stays same) a s j v q is = inl (sym (same a) ∙ is)
tag-comes m w l place z (PutsPlain b u puts) a s j v q is = by_test (a == b) (sym (puts a) ∙ is)
  where
    by_test : (t : Bool) → (if t then Value u else m.cached a) ≡ Tag s j v q → (m.cached a ≡ Tag s j v q) ⊎ ((v ≡ w) × (q ≡ m.next_tag w))
    by_test true h = absurd cc
    by_test false h = inl h
tag-comes m w l place z (PutsTag i at found puts goes) a s j v q is = by_test (a == l.list (1 + 3 * i)) (sym (puts a) ∙ is)
  where
    by_test : (t : Bool) → (if t then Tag l.current i w (m.next_tag w) else m.cached a) ≡ Tag s j v q → (m.cached a ≡ Tag s j v q) ⊎ ((v ≡ w) × (q ≡ m.next_tag w))
    by_test true h =
        let holder : v ≡ w = cc in
        let number : q ≡ m.next_tag w = cc in
        inr (holder, number)
    by_test false h = inl h
tag-comes m w l place z (PutsPointer i u p at found puts goes) a s j v q is = by_test (a == l.list (1 + 3 * i)) (sym (puts a) ∙ is)
  where
    by_test : (t : Bool) → (if t then Swap l.current else m.cached a) ≡ Tag s j v q → (m.cached a ≡ Tag s j v q) ⊎ ((v ≡ w) × (q ≡ m.next_tag w))
    by_test true h = absurd cc
    by_test false h = inl h
tag-comes m w l place z (PutsFinal i d at found puts goes) a s j v q is = by_test (a == l.list (1 + 3 * i)) (sym (puts a) ∙ is)
  where
    by_test : (t : Bool) → (if t then Dirty (final_value (entries_in l.list) i d) else m.cached a) ≡ Tag s j v q → (m.cached a ≡ Tag s j v q) ⊎ ((v ≡ w) × (q ≡ m.next_tag w))
    by_test true h = absurd cc
    by_test false h = inl h

-- a pointer that stands after an act stood before, or stands for a tag that the worker was about to change
pointer-comes : (m : Memory) (w : ℕ) (l : Local) (place : Place) (z : Stepped) → Written m w l place z → (a s : ℕ) → z.memory.cached a ≡ Swap s
    → (m.cached a ≡ Swap s) ⊎ ((i : ℕ) × (v : ℕ) × (q : ℕ) × (place ≡ Help (InstallPointer i v q)) × (l.current ≡ s) × (a ≡ l.list (1 + 3 * i)) × (m.cached a ≡ Tag s i v q))
pointer-comes m w l place z (Stays same) a s is = inl (sym (same a) ∙ is)
pointer-comes m w l place z (PutsPlain b u puts) a s is = by_test (a == b) (sym (puts a) ∙ is)
  where
    by_test : (t : Bool) → (if t then Value u else m.cached a) ≡ Swap s → (m.cached a ≡ Swap s) ⊎ ((i : ℕ) × (v : ℕ) × (q : ℕ) × (place ≡ Help (InstallPointer i v q)) × (l.current ≡ s) × (a ≡ l.list (1 + 3 * i)) × (m.cached a ≡ Tag s i v q))
    by_test true h = absurd cc
    by_test false h = inl h
pointer-comes m w l place z (PutsTag i at found puts goes) a s is = by_test (a == l.list (1 + 3 * i)) (sym (puts a) ∙ is)
  where
    by_test : (t : Bool) → (if t then Tag l.current i w (m.next_tag w) else m.cached a) ≡ Swap s → (m.cached a ≡ Swap s) ⊎ ((i : ℕ) × (v : ℕ) × (q : ℕ) × (place ≡ Help (InstallPointer i v q)) × (l.current ≡ s) × (a ≡ l.list (1 + 3 * i)) × (m.cached a ≡ Tag s i v q))
    by_test true h = absurd cc
    by_test false h = inl h
pointer-comes m w l place z (PutsFinal i d at found puts goes) a s is = by_test (a == l.list (1 + 3 * i)) (sym (puts a) ∙ is)
  where
    by_test : (t : Bool) → (if t then Dirty (final_value (entries_in l.list) i d) else m.cached a) ≡ Swap s → (m.cached a ≡ Swap s) ⊎ ((i : ℕ) × (v : ℕ) × (q : ℕ) × (place ≡ Help (InstallPointer i v q)) × (l.current ≡ s) × (a ≡ l.list (1 + 3 * i)) × (m.cached a ≡ Tag s i v q))
    by_test true h = absurd cc
    by_test false h = inl h
pointer-comes m w l place z (PutsPointer i u p at found puts goes) a s is = by_test (a == l.list (1 + 3 * i)) refl (sym (puts a) ∙ is)
  where
    by_test : (t : Bool) → (a == l.list (1 + 3 * i)) ≡ t → (if t then Swap l.current else m.cached a) ≡ Swap s → (m.cached a ≡ Swap s) ⊎ ((i : ℕ) × (v : ℕ) × (q : ℕ) × (place ≡ Help (InstallPointer i v q)) × (l.current ≡ s) × (a ≡ l.list (1 + 3 * i)) × (m.cached a ≡ Tag s i v q))
    by_test true told h =
        let same : l.current ≡ s = cc in
        let here : a ≡ l.list (1 + 3 * i) = grind (arith, common_steps, told) in
        inr (i, u, p, at, same, here, ap m.cached here ∙ found ∙ ap (λ t. Tag t i u p) same)
    by_test false told h = inl h

-- targets tell entries apart
pub same-entry : (e : ℕ → Entries) (s i j : ℕ) → AreApart e → i < (e s).count → j < (e s).count → (e s).target i ≡ (e s).target j → i ≡ j
same-entry e s i j apart below other same = sym (apart s i below) ∙ ap (e s).index same ∙ apart s j other

pointer-stays : (x : State) (w s j : ℕ) → IsState x → j < (x.entries s).count → IsDone x.entries x.memory.cached x.local s j → (stepped x w).memory.cached ((x.entries s).target j) ≡ Swap s → ⊥
pointer-stays x w s j state below done is = by_come (pointer-comes x.memory w (x.local w) (x.local w).place (stepped x w) (written x.memory w (x.local w) (x.local w).place) ((x.entries s).target j) s is)
  where
    by_come : (x.memory.cached ((x.entries s).target j) ≡ Swap s) ⊎ ((i : ℕ) × (v : ℕ) × (q : ℕ) × ((x.local w).place ≡ Help (InstallPointer i v q)) × ((x.local w).current ≡ s) × ((x.entries s).target j ≡ (x.local w).list (1 + 3 * i)) × (x.memory.cached ((x.entries s).target j) ≡ Tag s i v q)) → ⊥
    by_come (inl stood) = done.pointer stood
    by_come (inr h) =
        let i : ℕ = h.0 in
        let v : ℕ = h.1 in
        let q : ℕ = h.2 in
        let known : AtPlace x.entries x.memory w (x.local w) (Help (InstallPointer i v q)) = subst (λ p. AtPlace x.entries x.memory w (x.local w) p) h.3 (state.knows w).place in
        let agree : Agree (entries_in (x.local w).list) (x.entries (x.local w).current) = agree-spell (x.entries (x.local w).current) (x.local w).list known.2 in
        let inside : i < (x.entries s).count = subst (λ t. i < (x.entries t).count) h.4 known.3.0 in
        let here : (x.entries s).target j ≡ (x.entries s).target i = h.5 ∙ agree.target i known.3.0 ∙ ap (λ t. (x.entries t).target i) h.4 in
        let same : i ≡ j = same-entry x.entries s i j state.apart inside below (sym here) in
        let at : IsAtPointer (x.local w).place j v q = subst (λ p. IsAtPointer p j v q) (sym h.3) (same, refl, refl) in
        done.late w v q h.4 at (h.6 ∙ ap (λ k. Tag s k v q) same)

late-stays : (x : State) (w s j : ℕ) → IsState x → IsClean (x.memory.status s) → IsDone x.entries x.memory.cached x.local s j → (u v q : ℕ) (b : Bool) → (u == w) ≡ b → (if b then (stepped x w).local else x.local u).current ≡ s
    → IsAtPointer (if b then (stepped x w).local else x.local u).place j v q → (stepped x w).memory.cached ((x.entries s).target j) ≡ Tag s j v q → ⊥
late-stays x w s j state clean done u v q true told current at is =
    let h = act-points x.memory w (x.local w) (x.local w).place j v q at in
    absurd (subst IsClean (ap x.memory.status (sym current ∙ h.0) ∙ h.1) clean)
late-stays x w s j state clean done u v q false told current at is =
    by_come (tag-comes x.memory w (x.local w) (x.local w).place (stepped x w) (written x.memory w (x.local w) (x.local w).place) ((x.entries s).target j) s j v q is)
  where
    by_come : (x.memory.cached ((x.entries s).target j) ≡ Tag s j v q) ⊎ ((v ≡ w) × (q ≡ x.memory.next_tag w)) → ⊥
    by_come (inl stood) = done.late u v q current at stood
    by_come (inr h) =
        let used : q < x.memory.next_tag v = pointer-used x.entries x.memory u (x.local u) (x.local u).place j v q (state.knows u).place at in
        let mine : q < x.memory.next_tag w = subst (λ k. q < x.memory.next_tag k) h.0 used in
        absurd (omega (arith, mine, h.1))

pub done-stays : (x : State) (w s j : ℕ) → IsState x → j < (x.entries s).count → IsClean (x.memory.status s) → IsDone x.entries x.memory.cached x.local s j
    → IsDone x.entries (stepped x w).memory.cached (put x.local w (stepped x w).local) s j
done-stays x w s j state below clean done = record {
  pointer = pointer-stays x w s j state below done;
  late = λ u v q current at. late-stays x w s j state clean done u v q (u == w) refl current at;
}
