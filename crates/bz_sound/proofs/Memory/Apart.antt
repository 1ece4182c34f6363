-- While calls run one after the other no two of them are open.
use Rattle.std.proofs.Common.{◌≡◌, ℕ, ◌==◌, Bool, true, false, [], ◌∷◌, length, refl, sym, ◌∙◌, arith, Option, Some, None}
use Rattle.std.specs.Prelude.{if◌then◌else◌, option_map}
use Rattle.std.proofs.lemmas.Bool.Decides.{nat_tests}
use Rattle.bz_mark.specs.declared.marks.Mark.TheVariants.{Begin, End, Evict, Cut, Effect}
use Rattle.bz_sound.specs.Calls.{Open, open_call, with_effect}
use Rattle.bz_sound.specs.Memory.CallLaws.{ApartCallsAreSolitary}

-- only the call that has begun is open
begun-alone : (b : Bool) (u v : ℕ) (fresh rest : Option Open) (a : Open) → (u == v) ≡ b → rest ≡ None → (if b then fresh else rest) ≡ Some a → u ≡ v
begun-alone true u v fresh rest a same none is = grind (arith, nat_tests)
begun-alone false u v fresh rest a same none is = absurd (cc)

-- an open call was open before an End or an Effect
end-open : (b : Bool) (rest : Option Open) (a : Open) → (if b then None else rest) ≡ Some a → rest ≡ Some a
end-open true rest a is = absurd (cc)
end-open false rest a is = is

record OpenBefore (rest : Option Open) : Type 0 where
  pub opened : Open
  pub is_open : rest ≡ Some opened

effect-open : (b : Bool) (now : ℕ) (rest : Option Open) (a : Open) → (if b then option_map (with_effect now) rest else rest) ≡ Some a → OpenBefore rest
effect-open true now None a is = absurd (cc)
effect-open true now (Some other) a is = record { opened = other; is_open = refl }
effect-open false now rest a is = record { opened = a; is_open = is }

pub apart-solitary : ApartCallsAreSolitary
apart-solitary [] v w a b apart is also = absurd (cc)
apart-solitary (Begin u n call ∷ past) v w a b apart is also =
    sym (begun-alone (u == v) u v _ (open_call v past) a refl (apart.0 v) is) ∙ begun-alone (u == w) u w _ (open_call w past) b refl (apart.0 w) also
apart-solitary (End u n reply at ∷ past) v w a b apart is also =
    apart-solitary past v w a b apart.1 (end-open (u == v) (open_call v past) a is) (end-open (u == w) (open_call w past) b also)
apart-solitary (Effect u n ∷ past) v w a b apart is also =
    let one : OpenBefore (open_call v past) = effect-open (u == v) (length past) (open_call v past) a is in
    let other : OpenBefore (open_call w past) = effect-open (u == w) (length past) (open_call w past) b also in
    apart-solitary past v w one.opened other.opened apart.1 one.is_open other.is_open
apart-solitary (Evict address ∷ past) v w a b apart is also = absurd apart.0
apart-solitary (Cut ∷ past) v w a b apart is also = absurd (cc)
apart-solitary (mark ∷ past) v w a b apart is also = apart-solitary past v w a b apart.1 is also
