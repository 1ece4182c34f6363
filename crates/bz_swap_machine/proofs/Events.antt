-- Every event keeps the invariant.
use Rattle.std.proofs.Common.{◌≡◌, ◌≢◌, ℕ, ◌==◌, ◌&&◌, if◌then◌else◌, ◌<◌, ◌≤◌, Bool, true, false, arith, refl, sym, subst, None}
use Rattle.std.proofs.lemmas.Grind.{common_steps}
use Rattle.bz_swap_machine.specs.Machine.{Entries, Memory}
use Rattle.bz_swap_machine.specs.Changes.{put, with_copies, with_durable_status, with_durable_fields}
use Rattle.bz_swap_machine.specs.Sound.{AreApart, AreShort}
use Rattle.bz_swap_machine.specs.Steps.{Local}
use Rattle.bz_swap_machine.specs.declared.place.Place.TheVariants.{Idle}
use Rattle.bz_swap_machine.specs.Knows.{Knows, AsksAtHome, has_asked}
use Rattle.std.proofs.Common.{List, [], ◌∷◌}
use Rattle.bz_swap_machine.specs.Changes.{with_taken}
use Rattle.bz_swap_machine.specs.State.{State, Event, StartRead, StartStore, StartFlush, StartSwap, Act, Evict, EvictStatus, EvictField, with_local, with_memory, stepped, swapping, happens, MaySwap, MayHappen, IsState, AllMayHappen, after_all}
use Rattle.bz_swap_machine.proofs.Change.{Change}
use Rattle.bz_swap_machine.proofs.Good.{Good}
use Rattle.bz_swap_machine.proofs.Acts.{good-act}
use Rattle.bz_swap_machine.proofs.AsksHome.{NoneStays, asks-not, none-act, home-own}
use Rattle.bz_swap_machine.proofs.KeptKnowledge.{knows-keeps}
use Rattle.bz_swap_machine.proofs.TakenKnowledge.{knows-taken, knows-swapping}
use Rattle.bz_swap_machine.proofs.Takes.{sound-taken}
use Rattle.bz_swap_machine.proofs.Copies.{change-copies}
use Rattle.bz_swap_machine.proofs.DurableStatuses.{change-durable_status, change-durable_fields, differs}
use Rattle.bz_swap_machine.proofs.FencesKept.{keeps_for-change, keeps_for-act}
use Rattle.bz_swap_machine.proofs.KeepsAsked.{SettlesFor, for-copies, for-fields, for-status}

-- one worker is put, and the others know what they must
knows-put : (e : ℕ → Entries) (m : Memory) (w : ℕ) (l : Local) (local : ℕ → Local) → Knows e m w l → ((v : ℕ) → v ≢ w → Knows e m v (local v)) → (v : ℕ) (b : Bool) → (v == w) ≡ b → Knows e m v (if b then l else local v)
knows-put e m w l local own others v true h = let same : v ≡ w = grind (arith, common_steps, h) in subst (λ u. Knows e m u l) (sym same) own
knows-put e m w l local own others v false h = others v (λ same. grind (arith, common_steps, h, same))

-- an eviction
state-evicted : (x : State) (n : Memory) (s : ℕ) → Change x.entries x.memory n s → ((v : ℕ) → SettlesFor x.memory n v) → ((v t : ℕ) → NoneStays x.memory n v t) → IsState x → IsState (with_memory x n)
state-evicted x n s c settles none i = record {
  apart = i.apart;
  short = i.short;
  sound = c.sound;
  knows = λ v. knows-keeps x.entries x.memory n v (x.local v) (keeps_for-change x.entries x.memory n v s i.sound c (settles v)) (i.knows v);
  home = λ v t away. none v t (i.home v t away);
}

home-put : (m : Memory) (w : ℕ) (l : Local) (local : ℕ → Local) → AsksAtHome m w l → ((v : ℕ) → v ≢ w → AsksAtHome m v (local v)) → (v : ℕ) (b : Bool) → (v == w) ≡ b → AsksAtHome m v (if b then l else local v)
home-put m w l local own others v true h = let same : v ≡ w = grind (arith, common_steps, h) in subst (λ u. AsksAtHome m u l) (sym same) own
home-put m w l local own others v false h = others v (λ same. grind (arith, common_steps, h, same))

-- an idle worker has asked for nothing
none-idle : (x : State) (w : ℕ) → (x.local w).place ≡ Idle → IsState x → (t : ℕ) → (x.memory.status_pending t).asked w ≡ None
none-idle x w idle i t = i.home w t (rw idle refl)

-- a worker begins something that names no swap
state-started : (x : State) (w : ℕ) (l : Local) → Knows x.entries x.memory w l → AsksAtHome x.memory w l → IsState x → IsState (with_local x w l)
state-started x w l k h i = record {
  apart = i.apart;
  short = i.short;
  sound = i.sound;
  knows = λ v. knows-put x.entries x.memory w l x.local k (λ u ne. i.knows u) v (v == w) refl;
  home = λ v. home-put x.memory w l x.local h (λ u ne. i.home u) v (v == w) refl;
}

asked-current : (x : State) (w : ℕ) → IsState x → (t : ℕ) → t ≢ (x.local w).current → (x.memory.status_pending t).asked w ≡ None
asked-current x w i t ne = i.home w t (not-both (has_asked (x.local w).place) (t == (x.local w).current) (differs t (x.local w).current ne))
  where
    not-both : (a b : Bool) → b ≡ false → (a && b) ≡ false
    not-both true b h = h
    not-both false b h = refl

pub good-stepped : (x : State) (w : ℕ) → IsState x → Good x.entries x.memory w (x.local w) (stepped x w)
good-stepped x w i = good-act x.entries x.memory w (x.local w) (x.local w).place (λ none. i.home w (x.local w).current (rw none refl)) (asked-current x w i) i.apart (i.short (x.local w).current) i.sound (i.knows w).place (i.knows w).owns (i.knows w).back

first-false : (a b : Bool) → a ≡ false → (a && b) ≡ false
first-false true b h = absurd (cc)
first-false false b h = refl

state-acted : (x : State) (w : ℕ) → IsState x → IsState (happens x (Act w))
state-acted x w i =
    let good : Good x.entries x.memory w (x.local w) (stepped x w) = good-stepped x w i in
    record {
      apart = i.apart;
      short = i.short;
      sound = good.sound;
      knows = λ v. knows-put x.entries (stepped x w).memory w (stepped x w).local x.local good.knows
          (λ u ne. knows-keeps x.entries x.memory (stepped x w).memory u (x.local u) (keeps_for-act x.entries x.memory w u (x.local w) (x.local w).place (λ same. ne (sym same)) i.sound good) (i.knows u)) v (v == w) refl;
      home = λ v. home-put (stepped x w).memory w (stepped x w).local x.local (home-own x.memory w (x.local w) (x.local w).place (i.home w))
          (λ u ne t away. none-act x.memory w (x.local w) u t (x.local w).place (asks-not (x.local w).place ((u == w) && (t == (x.local w).current)) (first-false (u == w) (t == (x.local w).current) (differs u w ne))) (i.home u t away)) v (v == w) refl;
    }

apart-put : (e : ℕ → Entries) (s : ℕ) (new : Entries) → AreApart e → ((i : ℕ) → i < new.count → new.index (new.target i) ≡ i) → AreApart (put e s new)
apart-put e s new a n = λ t i lt. grind (arith, common_steps, a t i, n i)

short-put : (e : ℕ → Entries) (new : Entries) (s : ℕ) → AreShort e → new.count ≤ 4 → (b : Bool) → (if b then new else e s).count ≤ 4
short-put e new s short few true = few
short-put e new s short few false = short s

state-swapping : (x : State) (w : ℕ) (new : Entries) (targets : ℕ → Bool) → (x.local w).place ≡ Idle → MaySwap x new targets → IsState x → IsState (happens x (StartSwap w new targets))
state-swapping x w new targets idle may i = record {
  apart = apart-put x.entries x.memory.taken new i.apart may.apart;
  short = λ s. short-put x.entries new s i.short may.few (s == x.memory.taken);
  sound = sound-taken x.entries x.memory w new targets may.some may.told may.flushed i.sound;
  knows = λ v. knows-put (put x.entries x.memory.taken new) (with_taken x.memory w targets) w (swapping (x.local w) x.memory.taken new) x.local
      (knows-swapping x.entries x.memory w new targets (x.local w) i.sound)
      (λ u ne. knows-taken x.entries x.memory u w new targets (x.local u) i.sound (λ a y h. may.not_stored u a y h) (i.knows u)) v (v == w) refl;
  home = λ v. home-put (with_taken x.memory w targets) w (swapping (x.local w) x.memory.taken new) x.local (λ t away. none-idle x w idle i t) (λ u ne. i.home u) v (v == w) refl;
}

pub state-happens : (x : State) (v : Event) → MayHappen x v → IsState x → IsState (happens x v)
state-happens x (StartRead w a) may i = state-started x w _ (record { place = refl; owns = tt; back = tt }) (λ t away. none-idle x w may i t) i
state-happens x (StartStore w a u) may i = state-started x w _ (record { place = may.1; owns = (i.knows w).owns; back = (i.knows w).back }) (λ t away. none-idle x w may.0 i t) i
state-happens x (StartFlush w line) may i = state-started x w _ (record { place = tt; owns = (i.knows w).owns; back = (i.knows w).back }) (λ t away. none-idle x w may i t) i
state-happens x (StartSwap w new targets) may i = state-swapping x w new targets may.0 may.1 i
state-happens x (Act w) may i = state-acted x w i
state-happens x (Evict a) may i = state-evicted x (with_copies x.memory (λ b. b == a)) 0 (change-copies x.entries x.memory (λ b. b == a) 0 i.sound)
    (λ v. for-copies x.entries x.memory (λ b. b == a) v i.sound) (λ v t h. h) i
state-happens x (EvictStatus s) may i = state-evicted x (with_durable_status x.memory s) s (change-durable_status x.entries x.memory s i.apart i.sound)
    (λ v. for-status x.entries x.memory s v i.sound) (λ v t h. h) i
state-happens x (EvictField s k) may i = state-evicted x (with_durable_fields x.memory s (λ j. j == k)) 0 (change-durable_fields x.entries x.memory s (λ j. j == k) 0 i.sound)
    (λ v. for-fields x.entries x.memory s (λ j. j == k) v i.sound) (λ v t h. h) i

pub state-after_all : (x : State) (vs : List Event) → AllMayHappen x vs → IsState x → IsState (after_all x vs)
state-after_all x [] may i = i
state-after_all x (v ∷ vs) may i = state-after_all (happens x v) vs may.1 (state-happens x v may.0 i)
