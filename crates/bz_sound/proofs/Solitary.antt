-- Where a call began while none was open, and none has begun since, no other is open.
use Rattle.std.proofs.Common.{◌≡◌, ◌≢◌, ℕ, ◌==◌, Bool, true, false, [], ◌∷◌, length, Option, Some, None, arith, refl, sym, ◌∙◌}
use Rattle.std.specs.Prelude.{if◌then◌else◌, option_map}
use Rattle.std.proofs.lemmas.Bool.Decides.{nat_tests}
use Rattle.bz_mark.specs.declared.marks.Mark.TheVariants.{Begin, End, Cut, Effect}
use Rattle.bz_sound.specs.Calls.{Open, open_call, with_effect}
use Rattle.bz_sound.specs.Solitary.{NoneIsOpenBesideASolitaryCall}

others-begin : (b : Bool) (opened : Open) (rest : Option Open) → b ≡ false → rest ≡ None → (if b then Some opened else rest) ≡ None
others-begin true opened rest e none = absurd (cc)
others-begin false opened rest e none = none

ended-too : (b : Bool) (rest : Option Open) → rest ≡ None → (if b then None else rest) ≡ None
ended-too true rest none = refl
ended-too false rest none = none

none-with : (now : ℕ) (rest : Option Open) → rest ≡ None → option_map (with_effect now) rest ≡ None
none-with now None none = refl
none-with now (Some opened) none = absurd (cc)

effect-too : (b : Bool) (now : ℕ) (rest : Option Open) → rest ≡ None → (if b then option_map (with_effect now) rest else rest) ≡ None
effect-too true now rest none = none-with now rest none
effect-too false now rest none = none

apart : (a b c : ℕ) → a ≡ b → c ≢ b → (a == c) ≡ false
apart a b c e ne = let other : a ≢ c = λ q. ne (sym q ∙ e) in grind (arith, nat_tests)

pub none-is-open-beside-a-solitary-call : NoneIsOpenBesideASolitaryCall
none-is-open-beside-a-solitary-call w v [] l ne = absurd l
none-is-open-beside-a-solitary-call w v (Begin u n call ∷ past) l ne = others-begin (u == v) (record { number = n; call = call; begun = length past; effect = None }) (open_call v past) (apart u w v l.0 ne) (l.1 v)
none-is-open-beside-a-solitary-call w v (End u n reply at ∷ past) l ne = ended-too (u == v) (open_call v past) (none-is-open-beside-a-solitary-call w v past l ne)
none-is-open-beside-a-solitary-call w v (Effect u n ∷ past) l ne = effect-too (u == v) (length past) (open_call v past) (none-is-open-beside-a-solitary-call w v past l ne)
none-is-open-beside-a-solitary-call w v (Cut ∷ past) l ne = refl
none-is-open-beside-a-solitary-call w v (mark ∷ past) l ne = none-is-open-beside-a-solitary-call w v past l ne
