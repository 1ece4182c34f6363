-- A tag that stands is one that its worker goes on with, whatever may happen.
use Rattle.std.proofs.Common.{◌≡◌, ◌⊎◌, ◌==◌, if◌then◌else◌, ℕ, ◌+◌, ◌*◌, ◌<◌, Bool, true, false, arith, refl, ap, sym, subst, ◌∙◌, inl, inr}
use Rattle.std.proofs.lemmas.Grind.{common_steps}
use Rattle.bz_word.specs.declared.kind.WordKind.{WordKind}
use Rattle.bz_word.specs.declared.kind.WordKind.TheVariants.{Value, Dirty, Swap, Tag}
use Rattle.bz_swap_machine.specs.declared.status.SwapStatus.{SwapStatus}
use Rattle.bz_swap_machine.specs.declared.status.SwapStatus.TheVariants.{Free, Undecided, Deciding, Decided}
use Rattle.bz_swap_machine.specs.declared.place.HelpStep.TheVariants.{Look, InstallTag, LookUnderTag, InstallPointer, RemoveTag, Decide}
use Rattle.bz_swap_machine.specs.declared.place.Place.{Place}
use Rattle.bz_swap_machine.specs.declared.place.Place.TheVariants.{Idle, Prepare, Learn, Help, ReadWord, AskRead, FenceRead, ClearRead, LoadWord, StoreWord, AskLine, FenceLine}
use Rattle.bz_swap_machine.specs.declared.place.PrepareStep.TheVariants.{WriteWord, WriteStatus, AskHead, AskTail, FenceDescriptor}
use Rattle.bz_swap_machine.specs.declared.place.Next.{Next}
use Rattle.bz_swap_machine.specs.declared.place.Next.TheVariants.{Step, Meet}
use Rattle.bz_swap_machine.specs.declared.status.Verdict.TheVariants.{Failed}
use Rattle.bz_swap_machine.specs.Agrees.{Agree, agree-spell}
use Rattle.bz_swap_machine.specs.Changes.{put, with_tag, with_miss}
use Rattle.bz_swap_machine.specs.HelpActs.{After, after_install_tag, after_look_under, after_untag, passed, help_act}
use Rattle.bz_swap_machine.specs.Knows.{AtPlace}
use Rattle.bz_swap_machine.specs.Machine.{Entries, Memory, entries_in}
use Rattle.bz_swap_machine.specs.Progress.{GoesOnWith, IsAtTag, IsHome, TagsAreHome, TagsStayHome}
use Rattle.bz_swap_machine.specs.Sound.{Sound}
use Rattle.bz_swap_machine.specs.State.{State, StartRead, StartStore, StartFlush, StartSwap, Act, Evict, EvictStatus, EvictField, stepped, happens, IsState}
use Rattle.bz_swap_machine.specs.Steps.{Local, Stepped, after_help, read_act, act}
use Rattle.bz_swap_machine.proofs.TagHomes.{NoTagComes, IsNoTag, comes-word, comes-cleared, comes-help, cached-help, no-tag}

-- a tag that stands after a step stood before, or is the worker's own and it goes on with it
abbrev MayCome : Memory → ℕ → Stepped → Type 0
MayCome m w z = (a s i v q : ℕ) → z.memory.cached a ≡ Tag s i v q → (m.cached a ≡ Tag s i v q) ⊎ ((v ≡ w) × IsHome z.local v s i q)

-- worker w puts its tag for an entry
install-if : (l : Local) (m : Memory) (w s i b : ℕ) → l.current ≡ s → (t : Bool) (other : After)
    → MayCome m w (after_help l other.memory other.next)
    → MayCome m w (after_help l (if t then record { memory = with_tag m b s i w; next = Step (LookUnderTag i w (m.next_tag w)) } else other).memory (if t then record { memory = with_tag m b s i w; next = Step (LookUnderTag i w (m.next_tag w)) } else other).next)
install-if l m w s i b here false other rest = rest
install-if l m w s i b here true other rest = λ a t j v q is. by_test (a == b) a t j v q is
  where
    by_test : (x : Bool) (a t j v q : ℕ) → (if x then Tag s i w (m.next_tag w) else m.cached a) ≡ Tag t j v q → (m.cached a ≡ Tag t j v q) ⊎ ((v ≡ w) × IsHome (record l { place = Help (LookUnderTag i w (m.next_tag w)) }) v t j q)
    by_test false a t j v q is = inl is
    by_test true a t j v q is =
        let e1 : s ≡ t = cc in
        let e2 : i ≡ j = cc in
        let e3 : w ≡ v = cc in
        let e4 : m.next_tag w ≡ q = cc in
        inr (sym e3, record { current = here ∙ e1; place = (e2, e3, e4) })

come-old : (m : Memory) (w : ℕ) (z : Stepped) → NoTagComes m z.memory → MayCome m w z
come-old m w z none a s i v q is = inl (none a s i v q is)

-- after an act on a swap the worker goes on, and no word changes more
come-next : (l : Local) (m : Memory) (w : ℕ) (n : Memory) (next : Next) → NoTagComes m n → MayCome m w (after_help l n next)
come-next l m w n next none = come-old m w (after_help l n next) (λ a s i v q is. none a s i v q (ap (λ (c : ℕ → WordKind). c a) (sym (cached-help l n next)) ∙ is))

come-install : (x : Entries) (m : Memory) (w : ℕ) (l : Local) (i : ℕ) (found : WordKind) → MayCome m w (after_help l (after_install_tag x m w l.current i found).memory (after_install_tag x m w l.current i found).next)
come-install x m w l i (Value v) = install-if l m w l.current i (x.target i) refl (v == x.expected i) (record { memory = with_miss m l.current; next = Step (Decide Failed) }) (λ a t j u q is. inl is)
come-install x m w l i (Dirty v) = λ a t j u q is. inl is
come-install x m w l i (Swap t) = come-next l m w m (if t == l.current then Step (passed x i) else Meet t) (λ a t j u q is. is)
come-install x m w l i (Tag t j v q) = come-next l m w m (if t == l.current then Step (LookUnderTag i v q) else Meet t) (λ a t j u q is. is)

come-read : (m : Memory) (w : ℕ) (l : Local) (a : ℕ) (found : WordKind) → MayCome m w (read_act m l a found)
come-read m w l a (Value v) = λ b s i u q is. inl is
come-read m w l a (Dirty v) = λ b s i u q is. inl is
come-read m w l a (Swap t) = λ b s i u q is. inl is
come-read m w l a (Tag t j v q) = λ b s i u q is. inl is

come-act : (m : Memory) (w : ℕ) (l : Local) (place : Place) → MayCome m w (act m w l place)
come-act m w l Idle = λ a s i v q is. inl is
come-act m w l (Prepare (WriteWord k)) = λ a s i v q is. inl is
come-act m w l (Prepare WriteStatus) = λ a s i v q is. inl is
come-act m w l (Prepare AskHead) = λ a s i v q is. inl is
come-act m w l (Prepare AskTail) = λ a s i v q is. inl is
come-act m w l (Prepare FenceDescriptor) = λ a s i v q is. inl is
come-act m w l (Learn k) = λ a s i v q is. inl is
come-act m w l (Help (InstallTag i)) = come-install (entries_in l.list) m w l i (m.cached (l.list (1 + 3 * i)))
come-act m w l (Help step) =
    come-next l m w (help_act (entries_in l.list) m w l.current step).memory (help_act (entries_in l.list) m w l.current step).next (comes-help (entries_in l.list) m w l.current step tt)
come-act m w l (ReadWord a) = come-read m w l a (m.cached a)
come-act m w l (AskRead a v) = λ b s i u q is. inl is
come-act m w l (FenceRead a v) = λ b s i u q is. inl is
come-act m w l (ClearRead a v) = λ b s i u q is. inl (comes-cleared m a v (m.cached a) b s i u q is)
come-act m w l (LoadWord a) = λ b s i u q is. inl is
come-act m w l (StoreWord a v) = λ b s i u q is. inl (comes-word m a (Value v) tt b s i u q is)
come-act m w l (AskLine line) = λ b s i u q is. inl is
come-act m w l (FenceLine line) = λ b s i u q is. inl is

-- a tag that its worker changes is gone
pub untag-gone : (x : Entries) (m : Memory) (s j u p : ℕ) (new : WordKind) (changed unchanged : Next) (found : WordKind) → found ≡ Tag s j u p
    → (after_untag x m s j u p new changed unchanged found).memory.cached (x.target j) ≡ new
untag-gone x m s j u p new changed unchanged (Value v) is = absurd cc
untag-gone x m s j u p new changed unchanged (Dirty v) is = absurd cc
untag-gone x m s j u p new changed unchanged (Swap t) is = absurd cc
untag-gone x m s j u p new changed unchanged (Tag t k y z) is =
    let e1 : t ≡ s = cc in
    let e2 : k ≡ j = cc in
    let e3 : y ≡ u = cc in
    let e4 : z ≡ p = cc in
    let t1 : (t == s) ≡ true = grind (arith, common_steps, e1) in
    let t2 : (k == j) ≡ true = grind (arith, common_steps, e2) in
    let t3 : (y == u) ≡ true = grind (arith, common_steps, e3) in
    let t4 : (z == p) ≡ true = grind (arith, common_steps, e4) in
    let here : (x.target j == x.target j) ≡ true = grind (arith, common_steps) in
    rw (t1, t2, t3, t4, here) refl

-- the place after a look under a tag
look-home : (j u p i w q : ℕ) (found : SwapStatus) → (j ≡ i) × (u ≡ w) × (p ≡ q) → GoesOnWith (after_look_under j u p found) i w q
look-home j u p i w q Free h = h
look-home j u p i w q Undecided h = h
look-home j u p i w q (Deciding d) h = h
look-home j u p i w q (Decided d) h = h

-- worker w changes its tag at the target of its entry, so it does not stand afterwards
gone : (e : ℕ → Entries) (m : Memory) (w : ℕ) (l : Local) (j u p : ℕ) (new : WordKind) (changed unchanged : Next) (a s i q : ℕ) → Sound e m → Agree (entries_in l.list) (e l.current) → IsNoTag new
    → l.current ≡ s → (j ≡ i) × (u ≡ w) × (p ≡ q) → m.cached a ≡ Tag s i w q → (z : After) → z ≡ after_untag (entries_in l.list) m l.current j u p new changed unchanged (m.cached (l.list (1 + 3 * j)))
    → (after_help l z.memory z.next).memory.cached a ≡ Tag s i w q → ⊥
gone e m w l j u p new changed unchanged a s i q sound agree none current h stands z is now =
    let entry = sound.tag a s i w q stands in
    let below : j < (e l.current).count = rw (current, h.0) entry.entry in
    let target : l.list (1 + 3 * j) ≡ a = agree.target j below ∙ rw (current, h.0) entry.target in
    let found : m.cached (l.list (1 + 3 * j)) ≡ Tag l.current j u p = ap m.cached target ∙ stands ∙ (λ k. Tag (sym current k) (sym h.0 k) (sym h.1 k) (sym h.2 k)) in
    let after : z.memory.cached (l.list (1 + 3 * j)) ≡ new = ap (λ (y : After). y.memory.cached (l.list (1 + 3 * j))) is ∙ untag-gone (entries_in l.list) m l.current j u p new changed unchanged (m.cached (l.list (1 + 3 * j))) found in
    let left : z.memory.cached a ≡ Tag s i w q = ap (λ (c : ℕ → WordKind). c a) (sym (cached-help l z.memory z.next)) ∙ now in
    no-tag new s i w q none (sym after ∙ ap z.memory.cached target ∙ left)

own-stays : (e : ℕ → Entries) (m : Memory) (w : ℕ) (l : Local) (place : Place) (a s i q : ℕ) → Sound e m → AtPlace e m w l place → l.current ≡ s → IsAtTag place i w q → m.cached a ≡ Tag s i w q
    → (act m w l place).memory.cached a ≡ Tag s i w q → IsHome (act m w l place).local w s i q
own-stays e m w l (Help (LookUnderTag j u p)) a s i q sound at current h stands now = record { current = current; place = look-home j u p i w q (m.status l.current) h }
own-stays e m w l (Help (InstallPointer j u p)) a s i q sound at current h stands now =
    absurd (gone e m w l j u p (Swap l.current) (Step (passed (entries_in l.list) j)) (Step (InstallTag j)) a s i q sound (agree-spell (e l.current) l.list at.2) tt current h stands _ refl now)
own-stays e m w l (Help (RemoveTag j u p)) a s i q sound at current h stands now =
    absurd (gone e m w l j u p (Value (l.list (2 + 3 * j))) (Step Look) (Step Look) a s i q sound (agree-spell (e l.current) l.list at.2) tt current h stands _ refl now)
own-stays e m w l (Help step) a s i q sound at current h stands now = absurd h
own-stays e m w l place a s i q sound at current h stands now = absurd h

-- a worker that begins something had no tag
home-put : (local : ℕ → Local) (w : ℕ) (l : Local) (v s i q : ℕ) → (local w).place ≡ Idle → IsHome (local v) v s i q → IsHome (put local w l v) v s i q
home-put local w l v s i q rests home = by_test (v == w) refl
  where
    by_test : (b : Bool) → (v == w) ≡ b → IsHome (if b then l else local v) v s i q
    by_test false is = home
    by_test true is =
        let same : v ≡ w = grind (arith, common_steps, is) in
        absurd (subst (λ (p : Place). IsAtTag p i v q) (ap (λ u. (local u).place) same ∙ rests) home.place)

act-home : (x : State) (w : ℕ) → IsState x → TagsAreHome x → TagsAreHome (happens x (Act w))
act-home x w state home a s i v q is = by_come (come-act x.memory w (x.local w) (x.local w).place a s i v q is)
  where
    elsewhere : (b : Bool) → (v == w) ≡ b → x.memory.cached a ≡ Tag s i v q → IsHome (if b then (stepped x w).local else x.local v) v s i q
    elsewhere false other stands = home a s i v q stands
    elsewhere true told stands =
        let same : v ≡ w = grind (arith, common_steps, told) in
        let mine = home a s i v q stands in
        subst (λ u. IsHome (stepped x w).local u s i q) (sym same)
        (own-stays x.entries x.memory w (x.local w) (x.local w).place a s i q state.sound (state.knows w).place (subst (λ u. (x.local u).current ≡ s) same mine.current)
        (subst (λ u. IsAtTag (x.local u).place i u q) same mine.place) (subst (λ u. x.memory.cached a ≡ Tag s i u q) same stands)
        (subst (λ u. (stepped x w).memory.cached a ≡ Tag s i u q) same is))

    fresh : (b : Bool) → (v == w) ≡ b → v ≡ w → IsHome (stepped x w).local v s i q → IsHome (if b then (stepped x w).local else x.local v) v s i q
    fresh true told same mine = mine
    fresh false told same mine = absurd (grind (arith, common_steps, told, same))

    by_come : (x.memory.cached a ≡ Tag s i v q) ⊎ ((v ≡ w) × IsHome (stepped x w).local v s i q) → IsHome (put x.local w (stepped x w).local v) v s i q
    by_come (inl stands) = elsewhere (v == w) refl stands
    by_come (inr own) = fresh (v == w) refl own.0 own.1

pub tags_stay_home : TagsStayHome
tags_stay_home x (StartRead w b) may state home a s i v q is = home-put x.local w _ v s i q may (home a s i v q is)
tags_stay_home x (StartStore w b u) may state home a s i v q is = home-put x.local w _ v s i q may.0 (home a s i v q is)
tags_stay_home x (StartFlush w line) may state home a s i v q is = home-put x.local w _ v s i q may (home a s i v q is)
tags_stay_home x (StartSwap w new targets) may state home a s i v q is = home-put x.local w _ v s i q may.0 (home a s i v q is)
tags_stay_home x (Act w) may state home a s i v q is = act-home x w state home a s i v q is
tags_stay_home x (Evict b) may state home a s i v q is = home a s i v q is
tags_stay_home x (EvictStatus t) may state home a s i v q is = home a s i v q is
tags_stay_home x (EvictField t k) may state home a s i v q is = home a s i v q is
