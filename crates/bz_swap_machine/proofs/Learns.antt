-- The steps of a worker that learns a swap's entries, or prepares its own descriptor.
use Rattle.std.proofs.Common.{◌≡◌, ℕ, ◌+◌, ◌*◌, ◌==◌, if◌then◌else◌, ◌<◌, ◌≤◌, Bool, true, false, arith, refl}
use Rattle.std.proofs.lemmas.Grind.{common_steps}
use Rattle.bz_swap_machine.specs.Machine.{Entries, Memory, spelled}
use Rattle.bz_swap_machine.specs.Changes.{put}
use Rattle.bz_swap_machine.specs.Sound.{Sound}
use Rattle.bz_swap_machine.specs.declared.place.HelpStep.TheVariants.{Look}
use Rattle.bz_swap_machine.specs.declared.place.Place.{Place}
use Rattle.bz_swap_machine.specs.declared.place.Place.TheVariants.{Learn, Help}
use Rattle.bz_swap_machine.specs.Steps.{Local, learnt}
use Rattle.bz_swap_machine.specs.Knows.{SpellBelow, OwnPublished, Owns, BackPublished, AtPlace}
use Rattle.bz_swap_machine.proofs.Good.{Good, good-same}

more-below : (f list : ℕ → ℕ) (c k v : ℕ) → v ≡ f k → ((j : ℕ) → j < k → j ≤ c → list j ≡ f j) → (j : ℕ) → j < k + 1 → j ≤ c → put list k v j ≡ f j
more-below f list c k v h s j lt le = grind (arith, common_steps, s j, h)

-- one more word is learnt
pub spell-more : (x : Entries) (list : ℕ → ℕ) (k v : ℕ) → v ≡ spelled x k → SpellBelow x list k → SpellBelow x (put list k v) (k + 1)
spell-more x list k v h s = more-below (spelled x) list (3 * x.count) k v h s

-- the first word is the number of entries
count-learnt : (x : Entries) (list : ℕ → ℕ) (k : ℕ) → SpellBelow x list (k + 1) → list 0 ≡ x.count
count-learnt x list k s = s 0 (omega arith) (omega arith)

last-word : (k c n : ℕ) → n ≡ c → (k == 3 * n) ≡ true → k ≡ 3 * c
last-word k c n h b = grind (arith, common_steps)

more-words : (k c n : ℕ) → n ≡ c → k ≤ 3 * c → (k == 3 * n) ≡ false → k < 3 * c
more-words k c n h le b = grind (arith, common_steps)

learnt-place : (e : ℕ → Entries) (m : Memory) (w : ℕ) (l : Local) (k : ℕ) (b : Bool) → (b ≡ true → k ≡ 3 * (e l.current).count) → (b ≡ false → k < 3 * (e l.current).count) → m.published l.current ≡ true → OwnPublished m l.operation
    → SpellBelow (e l.current) l.list (k + 1) → AtPlace e m w l (if b then Help Look else Learn (k + 1))
learnt-place e m w l k true last more p own s = (p, own, (λ j le. s j (omega (arith, last refl)) le), tt)
learnt-place e m w l k false last more p own s = (p, own, omega (arith, more refl), s)

pub good-learnt : (e : ℕ → Entries) (m : Memory) (w : ℕ) (l : Local) (k : ℕ) → Sound e m → AtPlace e m w l (Learn k) → Owns m w l.operation → BackPublished m l.back → Good e m w l (learnt m l k)
good-learnt e m w l k g f owns back =
    let list : ℕ → ℕ = put l.list k (m.words l.current k) in
    let spells : SpellBelow (e l.current) list (k + 1) = spell-more (e l.current) l.list k (m.words l.current k) (g.words l.current k f.0 f.2) f.3 in
    let count : list 0 ≡ (e l.current).count = count-learnt (e l.current) list k spells in
    let place : Place = if k == 3 * list 0 then Help Look else Learn (k + 1) in
    good-same e m w l (record l { place = place; list = list }) g (record {
      place = learnt-place e m w (record l { place = place; list = list }) k (k == 3 * list 0) (last-word k (e l.current).count (list 0) count) (more-words k (e l.current).count (list 0) count f.2) f.0 f.1 spells;
      owns = owns;
      back = back;
    })
