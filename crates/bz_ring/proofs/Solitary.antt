-- Beside a solitary call no other is open.
use Rattle.std.proofs.Common.{◌≡◌, ◌==◌, ℕ, Bool, true, false, [], ◌∷◌, length, refl, sym, ap, ◌∙◌, Option, None}
use Rattle.std.specs.Prelude.{if◌then◌else◌, option_map}
use Rattle.std.proofs.lemmas.Bool.{ne_eqb}
use Rattle.bz_mark.specs.declared.marks.Mark.TheVariants.{Cut}
use Rattle.bz_ring.specs.declared.marks.QMark.TheVariants.{Begin, End, Effect, Memory}
use Rattle.bz_ring.specs.Calls.{Open, open_call, with_effect}
use Rattle.bz_ring.specs.Solitary.{NoneIsOpenBesideASolitaryCall}

none-after : (b : Bool) (opened : Option Open) → opened ≡ None → (if b then None else opened) ≡ None
none-after true opened is = refl
none-after false opened is = is

none-still : (b : Bool) (moment : ℕ) (opened : Option Open) → opened ≡ None → (if b then option_map (with_effect moment) opened else opened) ≡ None
none-still true moment opened is = ap (option_map (with_effect moment)) is
none-still false moment opened is = is

pub none_is_open_beside : NoneIsOpenBesideASolitaryCall
none_is_open_beside w v [] solitary other = absurd solitary
none_is_open_beside w v (Begin u n called ∷ past) solitary other = rw (ne_eqb u v (λ same. other (sym same ∙ solitary.0))) (solitary.1 v)
none_is_open_beside w v (End u n reply at ∷ past) solitary other = none-after (u == v) (open_call v past) (none_is_open_beside w v past solitary other)
none_is_open_beside w v (Effect u n ∷ past) solitary other = none-still (u == v) (length past) (open_call v past) (none_is_open_beside w v past solitary other)
none_is_open_beside w v (Memory Cut ∷ past) solitary other = refl
none_is_open_beside w v (Memory memory ∷ past) solitary other = none_is_open_beside w v past solitary other
