-- What makes a worker that steps alone end holds at power on, and stays, whatever may happen.
use Rattle.std.proofs.Common.{◌≡◌, ◌==◌, if◌then◌else◌, ℕ, ◌<◌, ◌≤◌, Bool, true, false, arith, refl}
use Rattle.std.proofs.lemmas.Grind.{common_steps}
use Rattle.bz_word.specs.declared.kind.WordKind.{WordKind}
use Rattle.bz_word.specs.declared.kind.WordKind.TheVariants.{Dirty, Tag}
use Rattle.bz_swap_machine.specs.declared.place.Place.TheVariants.{Idle}
use Rattle.bz_swap_machine.specs.Sound.{AreShort}
use Rattle.bz_swap_machine.specs.Budgets.{IsBounded, IsAmong, BeginsBounded, StaysBounded}
use Rattle.bz_swap_machine.specs.Fronts.{MayRise}
use Rattle.bz_swap_machine.specs.Machine.{Entries}
use Rattle.bz_swap_machine.specs.Sound.{IsPlain}
use Rattle.bz_swap_machine.specs.State.{State, Event, StartRead, StartStore, StartFlush, StartSwap, Act, Evict, EvictStatus, EvictField, happens}
use Rattle.bz_swap_machine.specs.Steps.{Local}
use Rattle.bz_swap_machine.proofs.DirtyHome.{dirty_stay_home}
use Rattle.bz_swap_machine.proofs.EndsStay.{ends_stay_whole}
use Rattle.bz_swap_machine.proofs.Events.{state-happens}
use Rattle.bz_swap_machine.proofs.FrontsStay.{fronts_stay, all_stay_rising}
use Rattle.bz_swap_machine.proofs.OwnersStay.{owners_stay}
use Rattle.bz_swap_machine.proofs.PowerOn.{state-power_on}
use Rattle.bz_swap_machine.proofs.TagsHome.{tags_stay_home}

rise-among : (n : ℕ) (v : Event) → IsAmong n v → MayRise v
rise-among n (StartRead u a) among = tt
rise-among n (StartStore u a v) among = tt
rise-among n (StartFlush u line) among = tt
rise-among n (StartSwap u new targets) among = among.1
rise-among n (Act u) among = tt
rise-among n (Evict a) among = tt
rise-among n (EvictStatus s) among = tt
rise-among n (EvictField s k) among = tt

short-put : (e : ℕ → Entries) (new : Entries) (s : ℕ) → AreShort e → new.count ≤ 4 → (b : Bool) → (if b then new else e s).count ≤ 4
short-put e new s short few true = few
short-put e new s short few false = short s

short-among : (x : State) (n : ℕ) (v : Event) → IsAmong n v → AreShort x.entries → AreShort (happens x v).entries
short-among x n (StartRead u a) among short = short
short-among x n (StartStore u a v) among short = short
short-among x n (StartFlush u line) among short = short
short-among x n (StartSwap u new targets) among short = λ s. short-put x.entries new s short among.2 (s == x.memory.taken)
short-among x n (Act u) among short = short
short-among x n (Evict a) among short = short
short-among x n (EvictStatus s) among short = short
short-among x n (EvictField s k) among short = short

idle-put : (local : ℕ → Local) (u n : ℕ) (l : Local) (v : ℕ) → u < n → n ≤ v → (local v).place ≡ Idle → (b : Bool) → (v == u) ≡ b → (if b then l else local v).place ≡ Idle
idle-put local u n l v below above idle true told =
    let here : v ≡ u = grind (arith, common_steps, told) in
    absurd (omega (arith, here, below, above))
idle-put local u n l v below above idle false told = idle

idle-among : (x : State) (n : ℕ) (event : Event) → IsAmong n event → IsBounded x n → (v : ℕ) → n ≤ v → ((happens x event).local v).place ≡ Idle
idle-among x n (StartRead u a) among bounded v above = idle-put x.local u n _ v among above (bounded.idle v above) (v == u) refl
idle-among x n (StartStore u a b) among bounded v above = idle-put x.local u n _ v among above (bounded.idle v above) (v == u) refl
idle-among x n (StartFlush u line) among bounded v above = idle-put x.local u n _ v among above (bounded.idle v above) (v == u) refl
idle-among x n (StartSwap u new targets) among bounded v above = idle-put x.local u n _ v among.0 above (bounded.idle v above) (v == u) refl
idle-among x n (Act u) among bounded v above = idle-put x.local u n _ v among above (bounded.idle v above) (v == u) refl
idle-among x n (Evict a) among bounded v above = bounded.idle v above
idle-among x n (EvictStatus s) among bounded v above = bounded.idle v above
idle-among x n (EvictField s k) among bounded v above = bounded.idle v above

pub bounded-happens : StaysBounded
bounded-happens x n v may among bounded = record {
  state = state-happens x v may bounded.state;
  tags = tags_stay_home x v may bounded.state bounded.tags;
  dirty = dirty_stay_home x v may bounded.dirty;
  fronts = fronts_stay x v may bounded.state bounded.fronts;
  rising = all_stay_rising x v (rise-among n v among) bounded.rising;
  ends = ends_stay_whole x v may bounded.state bounded.ends;
  owned = owners_stay x v may bounded.state bounded.owned;
  short = short-among x n v among bounded.short;
  few = bounded.few;
  idle = idle-among x n v among bounded;
}

plain-tag : (x : WordKind) (s i w q : ℕ) → IsPlain x → x ≡ Tag s i w q → ⊥
plain-tag x s i w q plain is = rw is at plain

plain-dirty : (x : WordKind) (v : ℕ) → IsPlain x → x ≡ Dirty v → ⊥
plain-dirty x v plain is = rw is at plain

pub bounded-power_on : BeginsBounded
bounded-power_on m n renewable few = record {
  state = state-power_on m renewable;
  tags = λ a s i v q is. absurd (plain-tag (m.cached a) s i v q (renewable.plain a) is);
  dirty = λ a v is. absurd (plain-dirty (m.cached a) v (renewable.plain a) is);
  fronts = λ s j below. absurd (omega (arith, below));
  rising = λ s i j before below. absurd (omega (arith, below));
  ends = record {
    clean = λ w last. absurd last;
    done = λ w j behind. absurd behind;
    answered_clean = λ s d is. absurd (grind (arith, is));
    answered_done = λ s d j is. absurd (grind (arith, is));
  };
  owned = record { rests = λ w. refl; owned = λ s begun. absurd (omega (arith, begun)) };
  short = λ s. omega arith;
  few = few;
  idle = λ v above. refl;
}
