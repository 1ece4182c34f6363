-- What the journal shows of stores into slots.
use Rattle.std.proofs.Common.{◌≡◌, ℕ, ◌<◌, ◌≤◌, ◌||◌, ◌&&◌, ◌==◌, Bool, true, false, not, List, ◌∷◌, arith, refl}
use Rattle.std.specs.Prelude.{nat_le}
use Rattle.std.proofs.lemmas.Bool.Decides.{nat_tests}
use Rattle.bz_layout.specs.Addresses.{node_address, slot_of}
use Rattle.bz_layout.specs.declared.config.Config.{Config}
use Rattle.bz_mark.specs.declared.marks.Mark.{Mark}
use Rattle.bz_mark.specs.declared.marks.Mark.TheVariants.{Begin, End, Load, Store, Cas, Ask, Fence, Evict, Cut, On, Ready, Effect}
use Rattle.bz_sound.specs.Memory.Spent.{is_stored_into}
use Rattle.bz_refinement.specs.Laws.{fills}
use Rattle.bz_refinement.specs.Story.{Story}

or-right : (a b : Bool) → b ≡ true → a || b ≡ true
or-right true b h = refl
or-right false b h = h

-- it shows them still with one mark more
pub stored-on : (c : Config) (past : List Mark) (mark : Mark) (k : ℕ) → is_stored_into c k past ≡ true → is_stored_into c k (mark ∷ past) ≡ true
stored-on c past (Begin w n call) k h = h
stored-on c past (End w n reply at) k h = h
stored-on c past (Load w a v) k h = h
stored-on c past (Store w a v) k h = or-right (not (w == 0) && (nat_le (node_address c 0) a && slot_of c a == k)) (is_stored_into c k past) h
stored-on c past (Cas w a old new found) k h = h
stored-on c past (Ask w line) k h = h
stored-on c past (Fence w) k h = h
stored-on c past (Evict a) k h = h
stored-on c past Cut k h = h
stored-on c past On k h = h
stored-on c past Ready k h = h
stored-on c past (Effect w n) k h = h

-- and shows a store when it is made
filled-by : (c : Config) (past : List Mark) (w a v k : ℕ) → 0 < w → node_address c 0 ≤ a → slot_of c a ≡ k → is_stored_into c k (Store w a v ∷ past) ≡ true
filled-by c past w a v k some within at =
    let one : (w == 0) ≡ false = grind (arith, nat_tests) in
    let two : nat_le (node_address c 0) a ≡ true = grind (arith, nat_tests) in
    let three : (slot_of c a == k) ≡ true = grind (arith, nat_tests) in
    rw (one, two, three) refl

pub fills-stored : (c : Config) (past : List Mark) (story : Story) (w a x : ℕ) → 0 < w → node_address c 0 ≤ a → ((v k : ℕ) → story.filled v k ≡ true → is_stored_into c k past ≡ true)
    → (v k : ℕ) → fills c story w a v k ≡ true → is_stored_into c k (Store w a x ∷ past) ≡ true
fills-stored c past story w a x some within stored v k h = go (story.filled v k) refl (v == w) refl (slot_of c a == k) refl h
  where
    go : (t : Bool) → story.filled v k ≡ t → (b : Bool) → (v == w) ≡ b → (d : Bool) → (slot_of c a == k) ≡ d → t || (b && d) ≡ true → is_stored_into c k (Store w a x ∷ past) ≡ true
    go true e b f d g h = stored-on c past (Store w a x) k (stored v k e)
    go false e true f true g h = filled-by c past w a x k some within (grind (arith, nat_tests))
    go false e true f false g h = absurd (cc)
    go false e false f d g h = absurd (cc)
