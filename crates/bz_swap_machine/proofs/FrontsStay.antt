-- While a swap is undecided its pointers stand on its first entries, and a tag of it no further than on the next one.
use Rattle.std.proofs.Common.{◌≡◌, ◌==◌, if◌then◌else◌, ℕ, ◌+◌, ◌*◌, ◌<◌, Bool, true, false, arith, refl, ap, sym, subst, ◌∙◌}
use Rattle.std.proofs.lemmas.Grind.{common_steps}
use Rattle.bz_word.specs.declared.kind.WordKind.{WordKind}
use Rattle.bz_word.specs.declared.kind.WordKind.TheVariants.{Value, Dirty, Swap, Tag}
use Rattle.bz_swap_machine.specs.declared.place.HelpStep.TheVariants.{InstallTag, InstallPointer}
use Rattle.bz_swap_machine.specs.declared.place.Place.TheVariants.{Help}
use Rattle.bz_swap_machine.specs.declared.status.SwapStatus.TheVariants.{Undecided}
use Rattle.bz_swap_machine.specs.Agrees.{Agree, agree-spell}
use Rattle.bz_swap_machine.specs.Changes.{put}
use Rattle.bz_swap_machine.specs.Facts.{Points}
use Rattle.bz_swap_machine.specs.Fronts.{StandsFor, HaveFronts, FrontsStay, Rises, AllRise, AllStayRising}
use Rattle.bz_swap_machine.specs.HelpActs.{final_value}
use Rattle.bz_swap_machine.specs.Knows.{AtPlace}
use Rattle.bz_swap_machine.specs.Machine.{Entries, Memory, entries_in}
use Rattle.bz_swap_machine.specs.Sound.{AreApart, Sound}
use Rattle.bz_swap_machine.specs.State.{State, StartRead, StartStore, StartFlush, StartSwap, Act, Evict, EvictStatus, EvictField, stepped, happens, IsState}
use Rattle.bz_swap_machine.specs.Steps.{Local, Stepped}
use Rattle.bz_swap_machine.proofs.Events.{good-stepped}
use Rattle.bz_swap_machine.proofs.Good.{Good}
use Rattle.bz_swap_machine.proofs.KeptFacts.{points-keeps}
use Rattle.bz_swap_machine.proofs.WordChanges.{Written, Stays, PutsPlain, PutsTag, PutsPointer, PutsFinal, written}

-- a swap that stands somewhere is published
standing-published : (e : ℕ → Entries) (m : Memory) (a s : ℕ) (found : WordKind) → m.cached a ≡ found → Sound e m → StandsFor found s → m.published s ≡ true
standing-published e m a s (Value v) is sound stands = absurd stands
standing-published e m a s (Dirty v) is sound stands = absurd stands
standing-published e m a s (Swap t) is sound stands = (sound.pointer a s (is ∙ ap Swap stands)).standing
standing-published e m a s (Tag t i w q) is sound stands = (sound.tag a s i w q (is ∙ ap (λ u. Tag u i w q) stands)).standing

-- where the swap stands after the act, it stood before, or the act put it there, and before it its pointers stand
abbrev MayStand : (ℕ → Entries) → Memory → Memory → Type 0
MayStand e m n = (s j : ℕ) → j < (e s).count → StandsFor (n.cached ((e s).target j)) s → ((StandsFor (m.cached ((e s).target j)) s → Points e n s j) → Points e n s j)

-- a word is put
puts-stand : (e : ℕ → Entries) (m n : Memory) (b : ℕ) (new : WordKind) → ((a : ℕ) → n.cached a ≡ put m.cached b new a)
    → ((s j : ℕ) → j < (e s).count → (e s).target j ≡ b → StandsFor new s → Points e n s j) → MayStand e m n
puts-stand e m n b new puts own s j below stands old = by_test ((e s).target j == b) refl (subst (λ k. StandsFor k s) (puts ((e s).target j)) stands)
  where
    by_test : (t : Bool) → ((e s).target j == b) ≡ t → StandsFor (if t then new else m.cached ((e s).target j)) s → Points e n s j
    by_test true told k = own s j below (grind (arith, common_steps, told)) k
    by_test false told k = old k

-- a pointer or tag of the current swap is put at an entry whose worker knows of those before
own-stand : (e : ℕ → Entries) (m n : Memory) (c i : ℕ) (a : ℕ) → AreApart e → a ≡ (e c).target i → i < (e c).count → Points e n c i
    → (s j : ℕ) → j < (e s).count → (e s).target j ≡ a → c ≡ s → Points e n s j
own-stand e m n c i a apart here inside points s j below there same =
    let mine : (e c).index ((e c).target i) ≡ i = apart c i inside in
    let other : (e s).index ((e s).target j) ≡ j = apart s j below in
    let at : (e s).target j ≡ (e s).target i = there ∙ here ∙ ap (λ u. (e u).target i) same in
    let own : (e s).index ((e s).target i) ≡ i = subst (λ u. (e u).index ((e u).target i) ≡ i) same mine in
    let entry : i ≡ j = sym own ∙ ap (e s).index (sym at) ∙ other in
    subst (λ k. Points e n s k) entry (subst (λ u. Points e n u i) same points)

may-stand : (e : ℕ → Entries) (m : Memory) (w : ℕ) (l : Local) (z : Stepped) → AreApart e → AtPlace e m w l l.place → Good e m w l z → Written m w l l.place z → MayStand e m z.memory
may-stand e m w l z apart at good (Stays same) = λ s j below stands old. old (subst (λ k. StandsFor k s) (same ((e s).target j)) stands)
may-stand e m w l z apart at good (PutsPlain b v puts) = puts-stand e m z.memory b (Value v) puts (λ s j below there k. absurd k)
may-stand e m w l z apart at good (PutsFinal i d place found puts goes) = puts-stand e m z.memory (l.list (1 + 3 * i)) (Dirty (final_value (entries_in l.list) i d)) puts (λ s j below there k. absurd k)
may-stand e m w l z apart at good (PutsTag i place found puts goes) =
    let known : AtPlace e m w l (Help (InstallTag i)) = subst (λ p. AtPlace e m w l p) place at in
    let agree : Agree (entries_in l.list) (e l.current) = agree-spell (e l.current) l.list known.2 in
    puts-stand e m z.memory (l.list (1 + 3 * i)) _ puts
    (own-stand e m z.memory l.current i (l.list (1 + 3 * i)) apart (agree.target i known.3.0) known.3.0 (points-keeps e m z.memory l.current i good.keeps known.0 (omega (arith, known.3.0)) known.3.1))
may-stand e m w l z apart at good (PutsPointer i v q place found puts goes) =
    let known : AtPlace e m w l (Help (InstallPointer i v q)) = subst (λ p. AtPlace e m w l p) place at in
    let agree : Agree (entries_in l.list) (e l.current) = agree-spell (e l.current) l.list known.2 in
    puts-stand e m z.memory (l.list (1 + 3 * i)) _ puts
    (own-stand e m z.memory l.current i (l.list (1 + 3 * i)) apart (agree.target i known.3.0) known.3.0 (points-keeps e m z.memory l.current i good.keeps known.0 (omega (arith, known.3.0)) known.3.1))

act-fronts : (x : State) (w : ℕ) → IsState x → HaveFronts x → HaveFronts (happens x (Act w))
act-fronts x w state fronts s j below stands =
    let good : Good x.entries x.memory w (x.local w) (stepped x w) = good-stepped x w state in
    may-stand x.entries x.memory w (x.local w) (stepped x w) state.apart (state.knows w).place good (written x.memory w (x.local w) (x.local w).place) s j below stands
    (λ stood. points-keeps x.entries x.memory (stepped x w).memory s j good.keeps (standing-published x.entries x.memory _ s _ refl state.sound stood) (omega arith) (fronts s j below stood))

-- a swap that begins stands nowhere
taken-fronts : (x : State) (w : ℕ) (new : Entries) (targets : ℕ → Bool) → IsState x → HaveFronts x → HaveFronts (happens x (StartSwap w new targets))
taken-fronts x w new targets state fronts s j = by_test (s == x.memory.taken) refl
  where
    by_test : (t : Bool) → (s == x.memory.taken) ≡ t → j < (if t then new else x.entries s).count → StandsFor (x.memory.cached ((if t then new else x.entries s).target j)) s
        → x.memory.status s ≡ Undecided → (i : ℕ) → i < j → x.memory.cached ((if t then new else x.entries s).target i) ≡ Swap s
    by_test false told below stands = fronts s j below stands
    by_test true told below stands =
        let same : s ≡ x.memory.taken = grind (arith, common_steps, told) in
        let published : x.memory.published s ≡ true = standing-published x.entries x.memory _ s _ refl state.sound stands in
        absurd (grind (arith, published, (state.sound.not_begun s (omega arith)).1))

pub fronts_stay : FrontsStay
fronts_stay x (StartRead w b) may state fronts = fronts
fronts_stay x (StartStore w b u) may state fronts = fronts
fronts_stay x (StartFlush w line) may state fronts = fronts
fronts_stay x (StartSwap w new targets) may state fronts = taken-fronts x w new targets state fronts
fronts_stay x (Act w) may state fronts = act-fronts x w state fronts
fronts_stay x (Evict b) may state fronts = fronts
fronts_stay x (EvictStatus t) may state fronts = fronts
fronts_stay x (EvictField t k) may state fronts = fronts

taken-rise : (x : State) (w : ℕ) (new : Entries) (targets : ℕ → Bool) → Rises new → AllRise x → AllRise (happens x (StartSwap w new targets))
taken-rise x w new targets may rise s = by_test (s == x.memory.taken)
  where
    by_test : (t : Bool) → Rises (if t then new else x.entries s)
    by_test true = may
    by_test false = rise s

pub all_stay_rising : AllStayRising
all_stay_rising x (StartRead w b) may rise = rise
all_stay_rising x (StartStore w b u) may rise = rise
all_stay_rising x (StartFlush w line) may rise = rise
all_stay_rising x (StartSwap w new targets) may rise = taken-rise x w new targets may rise
all_stay_rising x (Act w) may rise = rise
all_stay_rising x (Evict b) may rise = rise
all_stay_rising x (EvictStatus t) may rise = rise
all_stay_rising x (EvictField t k) may rise = rise
